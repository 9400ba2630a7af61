-- Deliveries are read from what spells them.
use Rattle.std.proofs.Common.{◌≡◌, ◌++◌, ◌∷◌, [], ◌^◌, ◌<◌, ◌≤◌, ◌∙◌, ℕ, zero, suc, List, Bool}
use Rattle.std.proofs.Common.{true, Ok, Option, length, refl, sym, ap, arith, rules, subst, tests}
use Rattle.std.specs.Prelude.{All, IsSomeAnd, flat_map, nat_le, nat_lt, slice_get}
use Rattle.std.specs.List.{AllZip}
use Rattle.std.proofs.lemmas.List.Elements.{All-cons, All-head, All-nil, All-tail}
use Rattle.desc_types.specs.declared.delivery.DRow.{DRow}
use Rattle.desc_types.specs.Accepted.{IsAccepted}
use Rattle.desc_types.specs.Deliveries.{DeliveryOf}
use Rattle.desc_types.specs.Descriptions.{DescOf}
use Rattle.desc_types.specs.Tables.{TableOf}
use Rattle.partition_map.specs.Time.{END}
use Rattle.view_meaning.specs.Journal.{FitsRow, IsRowOf}
use Rattle.row_codec.specs.Deliveries.{IsDelivery, delivery_at, is_raw_table, record_at, records_at}
use Rattle.row_codec.specs.Deliveries.{table_wants}
use Rattle.row_codec.specs.Laws.{DeliveriesHaveOneSpelling}
use Rattle.row_codec.specs.Reading.{◌>>=◌, Reader, checked, number_at, row_at}
use Rattle.row_codec.specs.Spelling.{delivery_bytes, number_bytes, record_bytes, row_bytes}
use Rattle.row_codec.proofs.CellLemmas.{IsWanted, row_codec}
use Rattle.row_codec.proofs.CodecLemmas.{HasOneSpelling-whole, HasPart, IsCodec, IsCodec-checked}
use Rattle.row_codec.proofs.CodecLemmas.{IsCodec-cons, IsCodec-done, IsCodec-field, IsCodec-last}
use Rattle.row_codec.proofs.CodecLemmas.{IsCodec-same, IsCons}
use Rattle.row_codec.proofs.FitsLemmas.{IsRowOf-wanted, wanted-IsRowOf}
use Rattle.row_codec.proofs.NumberLemmas.{number_codec}
use Rattle.row_codec.proofs.RisingLemmas.{AreRising, AreRising-cons, AreRising-tail, IsBefore}
use Rattle.row_codec.proofs.RisingLemmas.{IsBefore-from_one, IsBefore-tail, rising-count}

-- a number of so many bytes that passes a test
abbrev Passes : (limit : ℕ) → (ℕ → Bool) → ℕ → Type 0
Passes limit test number = (number < limit) × (test number ≡ true)

-- the table with a number
abbrev found : DescOf → ℕ → Option TableOf
found desc table = slice_get desc.tables table

-- the bytes of a row from a field on
abbrev from_cells : DRow → List ℕ
from_cells row = row_bytes row.cells

abbrev from_table : DRow → List ℕ
from_table row = number_bytes 2 row.table ++ from_cells row

-- a row of which some fields were read
abbrev HasCells : DescOf → (number table : ℕ) → DRow → Type 0
HasCells desc number table = HasPart (AllZip IsWanted (table_wants (found desc table)))
    (λ cells row. row ≡ record { number = number; table = table; cells = cells })

abbrev HasTable : DescOf → (feed number : ℕ) → DRow → Type 0
HasTable desc feed number =
    HasPart (Passes (2 ^ 16) (λ table. is_raw_table feed (found desc table))) (HasCells desc number)

abbrev HasNumber : DescOf → (feed before : ℕ) → DRow → Type 0
HasNumber desc feed before = HasPart (Passes (2 ^ 32) (nat_lt before)) (HasTable desc feed)

cells_codec : (desc : DescOf) (number table : ℕ) → IsCodec (HasCells desc number table) from_cells
    (λ bytes. row_at (table_wants (found desc table)) bytes >>= λ cells.
    Ok (record { number = number; table = table; cells = cells.0 }, cells.1))
cells_codec desc number table =
    IsCodec-last (AllZip IsWanted (table_wants (found desc table))) row_bytes
    (row_at (table_wants (found desc table)))
    (λ cells. record { number = number; table = table; cells = cells }) from_cells
    (row_codec (table_wants (found desc table))) (λ cells. refl)

-- what reads the table of a row and its cells
abbrev table_reader : DescOf → (feed number : ℕ) → Reader DRow
table_reader desc feed number bytes =
    checked (λ table. is_raw_table feed (found desc table)) (number_at 2) bytes >>= λ table.
    row_at (table_wants (found desc table.0)) table.1 >>= λ cells.
    Ok (record { number = number; table = table.0; cells = cells.0 }, cells.1)

table_codec : (desc : DescOf) (feed number : ℕ)
    → IsCodec (HasTable desc feed number) from_table (table_reader desc feed number)
table_codec desc feed number =
    IsCodec-field (Passes (2 ^ 16) (λ table. is_raw_table feed (found desc table))) (number_bytes 2)
    (checked (λ table. is_raw_table feed (found desc table)) (number_at 2)) (HasCells desc number)
    from_cells (λ table bytes. row_at (table_wants (found desc table)) bytes >>= λ cells.
    Ok (record { number = number; table = table; cells = cells.0 }, cells.1)) from_table
    (IsCodec-checked (λ n. n < 2 ^ 16) (number_bytes 2) (number_at 2)
    (λ table. is_raw_table feed (found desc table)) (number_codec 2))
    (cells_codec desc number)
    (λ table row is. ap (λ (r : DRow). number_bytes 2 r.table ++ from_cells row) is.2)

number_codec_of : (desc : DescOf) (feed before : ℕ)
    → IsCodec (HasNumber desc feed before) record_bytes (record_at desc feed before)
unfolding record_at number_bytes
number_codec_of desc feed before =
    IsCodec-field (Passes (2 ^ 32) (nat_lt before)) (number_bytes 4)
    (checked (nat_lt before) (number_at 4)) (HasTable desc feed) from_table
    (table_reader desc feed) record_bytes
    (IsCodec-checked (λ n. n < 2 ^ 32) (number_bytes 4) (number_at 4) (nat_lt before)
    (number_codec 4))
    (table_codec desc feed)
    (λ number row is. ap (λ (r : DRow). number_bytes 4 r.number ++ from_table row) is.2.2)

-- a row of a raw table of the feed, with a number above the one before
record IsRecord (desc : DescOf) (feed before : ℕ) (row : DRow) : Type 0 where
  pub above : before < row.number
  pub short : row.number < 2 ^ 32
  pub table : row.table < 2 ^ 16
  pub raw : is_raw_table feed (found desc row.table) ≡ true
  pub cells : AllZip IsWanted (table_wants (found desc row.table)) row.cells

record_codec : (desc : DescOf) (feed before : ℕ)
    → IsCodec (IsRecord desc feed before) record_bytes (record_at desc feed before)
record_codec desc feed before =
    IsCodec-same (HasNumber desc feed before) (IsRecord desc feed before) record_bytes record_bytes
    (record_at desc feed before) (number_codec_of desc feed before) to from
  where
    to : (row : DRow) → IsRecord desc feed before row
        → HasNumber desc feed before row × (record_bytes row ≡ record_bytes row)
    to row is = (
      (
        row.number,
        (is.short, search (rules, tests, is.above)),
        (row.table, (is.table, is.raw), (row.cells, is.cells, refl)),
      ),
      refl,
    )

    from : (row : DRow) → HasNumber desc feed before row
        → IsRecord desc feed before row × (record_bytes row ≡ record_bytes row)
    from row is = (
      subst (IsRecord desc feed before) (sym is.2.2.2) (record {
        above = search (rules, tests, is.1.1);
        short = is.1.0;
        table = is.2.1.0;
        raw = is.2.1.1;
        cells = is.2.2.1;
      }),
      refl,
    )

-- rows of raw tables of the feed, of which each has a number above the one before
abbrev AreRecords : DescOf → (feed before : ℕ) → List DRow → Type 0
AreRecords desc feed before [] = Unit {0}
AreRecords desc feed before (row ∷ rows) =
    IsRecord desc feed before row × AreRecords desc feed row.number rows

-- so many of them
abbrev AreSoMany : DescOf → (feed count before : ℕ) → List DRow → Type 0
AreSoMany desc feed count before rows = (length rows ≡ count) × AreRecords desc feed before rows

records-none : (desc : DescOf) (feed before : ℕ) (rows : List DRow)
    → AreSoMany desc feed 0 before rows → (rows ≡ []) × (flat_map record_bytes rows ≡ [])
records-none desc feed before [] is = (refl, refl)
records-none desc feed before (row ∷ rows) is = absurd (omega (arith, is.0))

records_codec : (desc : DescOf) (feed count before : ℕ) → IsCodec (AreSoMany desc feed count before)
    (flat_map record_bytes) (records_at desc feed count before)
unfolding records_at
records_codec desc feed zero before =
    IsCodec-same (λ rows. rows ≡ []) (AreSoMany desc feed 0 before) (λ _. [])
    (flat_map record_bytes) (records_at desc feed zero before) (IsCodec-done [])
    (records-none desc feed before)
    (λ rows is. subst (λ r. AreSoMany desc feed 0 before r × (flat_map record_bytes r ≡ [])) (sym is)
    ((refl, tt), refl))
records_codec desc feed (suc count) before =
    IsCodec-same (IsCons (IsRecord desc feed before) (λ row. AreSoMany desc feed count row.number))
    (AreSoMany desc feed (suc count) before)
    (flat_map record_bytes) (flat_map record_bytes) (records_at desc feed (suc count) before)
    (IsCodec-cons (IsRecord desc feed before) (λ row. AreSoMany desc feed count row.number) record_bytes
    (record_at desc feed before)
    (λ row. records_at desc feed count row.number) (record_codec desc feed before)
    (λ row. records_codec desc feed count row.number)) to from
  where
    to : (rows : List DRow) → AreSoMany desc feed (suc count) before rows
        → IsCons (IsRecord desc feed before) (λ row. AreSoMany desc feed count row.number) rows
        × (flat_map record_bytes rows ≡ flat_map record_bytes rows)
    to [] is = absurd (omega (arith, is.0))
    to (row ∷ rows) is = ((is.1.0, (omega (arith, is.0), is.1.1)), refl)

    from : (rows : List DRow) → IsCons (IsRecord desc feed before) (λ row. AreSoMany desc feed count row.number) rows
        → AreSoMany desc feed (suc count) before rows
        × (flat_map record_bytes rows ≡ flat_map record_bytes rows)
    from [] is = absurd is
    from (row ∷ rows) is = ((omega (arith, is.1.0), (is.0, is.1.1)), refl)

-- the bytes of a delivery from a field on
abbrev from_rows : DeliveryOf → List ℕ
from_rows delivery = flat_map record_bytes delivery.rows

abbrev from_count : DeliveryOf → List ℕ
from_count delivery = number_bytes 4 (length delivery.rows) ++ from_rows delivery

abbrev from_closes : DeliveryOf → List ℕ
from_closes delivery = number_bytes 8 delivery.closes ++ from_count delivery

abbrev from_number : DeliveryOf → List ℕ
from_number delivery = number_bytes 4 delivery.number ++ from_closes delivery

-- a delivery of its fields
abbrev made : (feed number closes : ℕ) → List DRow → DeliveryOf
made feed number closes rows =
    record { feed = feed; number = number; closes = closes; rows = rows }

-- a delivery of which some fields were read
abbrev HasRows : DescOf → (feed number closes count : ℕ) → DeliveryOf → Type 0
HasRows desc feed number closes count = HasPart (AreSoMany desc feed count 0)
    (λ rows delivery. delivery ≡ made feed number closes rows)

abbrev HasCount : DescOf → (feed number closes : ℕ) → DeliveryOf → Type 0
HasCount desc feed number closes =
    HasPart (λ n. n < 2 ^ 32) (HasRows desc feed number closes)

abbrev HasCloses : DescOf → (feed number : ℕ) → DeliveryOf → Type 0
HasCloses desc feed number =
    HasPart (Passes (2 ^ 64) (λ closes. nat_le closes END)) (HasCount desc feed number)

abbrev HasNumberOf : DescOf → (feed : ℕ) → DeliveryOf → Type 0
HasNumberOf desc feed = HasPart (λ n. n < 2 ^ 32) (HasCloses desc feed)

abbrev HasFeed : DescOf → DeliveryOf → Type 0
HasFeed desc =
    HasPart (Passes (2 ^ 16) (λ feed. nat_lt feed (length desc.feeds))) (HasNumberOf desc)

-- what reads a delivery from a field on
abbrev rows_reader : DescOf → (feed number closes count : ℕ) → Reader DeliveryOf
rows_reader desc feed number closes count bytes =
    records_at desc feed count 0 bytes >>= λ rows. Ok (made feed number closes rows.0, rows.1)

abbrev count_reader : DescOf → (feed number closes : ℕ) → Reader DeliveryOf
count_reader desc feed number closes bytes =
    number_at 4 bytes >>= λ count. rows_reader desc feed number closes count.0 count.1

abbrev closes_reader : DescOf → (feed number : ℕ) → Reader DeliveryOf
closes_reader desc feed number bytes =
    checked (λ closes. nat_le closes END) (number_at 8) bytes >>= λ closes.
    count_reader desc feed number closes.0 closes.1

abbrev number_reader : DescOf → (feed : ℕ) → Reader DeliveryOf
number_reader desc feed bytes =
    number_at 4 bytes >>= λ number. closes_reader desc feed number.0 number.1

count_codec : (desc : DescOf) (feed number closes : ℕ) → IsCodec (HasCount desc feed number closes)
    from_count (count_reader desc feed number closes)
count_codec desc feed number closes =
    IsCodec-field (λ n. n < 2 ^ 32) (number_bytes 4) (number_at 4) (HasRows desc feed number closes)
    from_rows (rows_reader desc feed number closes) from_count (number_codec 4)
    (λ count. IsCodec-last (AreSoMany desc feed count 0) (flat_map record_bytes)
    (records_at desc feed count 0) (made feed number closes) from_rows
    (records_codec desc feed count 0) (λ rows. refl))
    (λ count delivery is. ap (λ many. number_bytes 4 many ++ from_rows delivery)
    (ap (λ (d : DeliveryOf). length d.rows) is.2 ∙ is.1.0))

closes_codec : (desc : DescOf) (feed number : ℕ)
    → IsCodec (HasCloses desc feed number) from_closes (closes_reader desc feed number)
closes_codec desc feed number =
    IsCodec-field (Passes (2 ^ 64) (λ closes. nat_le closes END)) (number_bytes 8)
    (checked (λ closes. nat_le closes END) (number_at 8)) (HasCount desc feed number) from_count
    (count_reader desc feed number) from_closes
    (IsCodec-checked (λ n. n < 2 ^ 64) (number_bytes 8) (number_at 8)
    (λ closes. nat_le closes END) (number_codec 8))
    (count_codec desc feed number)
    (λ closes delivery is.
    ap (λ (d : DeliveryOf). number_bytes 8 d.closes ++ from_count delivery) is.2.2)

feed_codec : (desc : DescOf) → IsCodec (HasFeed desc) delivery_bytes (delivery_at desc)
unfolding delivery_at number_bytes
feed_codec desc =
    IsCodec-field (Passes (2 ^ 16) (λ feed. nat_lt feed (length desc.feeds))) (number_bytes 2)
    (checked (λ feed. nat_lt feed (length desc.feeds)) (number_at 2)) (HasNumberOf desc) from_number
    (number_reader desc) delivery_bytes
    (IsCodec-checked (λ n. n < 2 ^ 16) (number_bytes 2) (number_at 2)
    (λ feed. nat_lt feed (length desc.feeds)) (number_codec 2))
    (λ feed. IsCodec-field (λ n. n < 2 ^ 32) (number_bytes 4) (number_at 4) (HasCloses desc feed)
    from_closes (closes_reader desc feed) from_number (number_codec 4) (closes_codec desc feed)
    (λ number delivery is.
    ap (λ (d : DeliveryOf). number_bytes 4 d.number ++ from_closes delivery) is.2.2.2))
    (λ feed delivery is.
    ap (λ (d : DeliveryOf). number_bytes 2 d.feed ++ from_number delivery) is.2.2.2.2)

-- what is found has a number below how many there are
found-within : (P : TableOf → Type 0) (tables : List TableOf) (number : ℕ)
    → IsSomeAnd (slice_get tables number) P → number < length tables
found-within P [] number is = absurd is
found-within P (_ ∷ tables) zero is = omega arith
found-within P (_ ∷ tables) (suc number) is =
    let within = found-within P tables number is in omega (arith, within)

-- rows that fit are records
AreRecords-fit : (desc : DescOf) (feed before : ℕ) (rows : List DRow) → IsAccepted desc
    → All (FitsRow desc feed) rows → All (λ (row : DRow). row.number < 2 ^ 32) rows
    → IsBefore before rows → AreRising rows → AreRecords desc feed before rows
AreRecords-fit desc feed before [] accepted fit short above rising = tt
AreRecords-fit desc feed before (row ∷ rows) accepted fit short above rising =
    let fits = All-head (FitsRow desc feed) row rows fit in
    let wanted = IsRowOf-wanted feed (found desc row.table) row.cells fits in
    let within = found-within (IsRowOf feed row.cells) desc.tables row.table fits in
    let few = accepted.tables in (
      record {
        above = above row (omega arith);
        short = All-head (λ (row : DRow). row.number < 2 ^ 32) row rows short;
        table = omega (arith, within, few);
        raw = wanted.0;
        cells = wanted.1;
      },
      AreRecords-fit desc feed row.number rows accepted (All-tail (FitsRow desc feed) row rows fit)
          (All-tail (λ (row : DRow). row.number < 2 ^ 32) row rows short)
          (IsBefore-tail row rows rising) (AreRising-tail row rows rising),
    )

-- what a record has
record Fits (desc : DescOf) (feed : ℕ) (rows : List DRow) : Type 0 where
  pub fit : All (FitsRow desc feed) rows
  pub from_one : All (λ (row : DRow). 1 ≤ row.number) rows
  pub short : All (λ (row : DRow). row.number < 2 ^ 32) rows
  pub rising : AreRising rows

-- the first of records has a number above the one before
AreRecords-before : (desc : DescOf) (feed before : ℕ) (rows : List DRow)
    → AreRecords desc feed before rows → IsBefore before rows
AreRecords-before desc feed before [] are d some = absurd (omega (arith, some))
AreRecords-before desc feed before (row ∷ rows) are d some = are.0.above

-- records fit
Fits-records : (desc : DescOf) (feed before : ℕ) (rows : List DRow) → IsAccepted desc
    → AreRecords desc feed before rows → Fits desc feed rows
Fits-records desc feed before [] accepted are = record {
  fit = All-nil _;
  from_one = All-nil _;
  short = All-nil _;
  rising = λ k d within. absurd (omega (arith, within));
}
Fits-records desc feed before (row ∷ rows) accepted are =
    let others = Fits-records desc feed row.number rows accepted are.1 in
    let above = are.0.above in
    record {
      fit = All-cons (FitsRow desc feed) row rows
          (wanted-IsRowOf desc feed (found desc row.table) row.cells
          (λ table there. (accepted.each row.table table there).kind) are.0.raw are.0.cells)
          others.fit;
      from_one = All-cons (λ (row : DRow). 1 ≤ row.number) row rows (omega (arith, above))
          others.from_one;
      short = All-cons (λ (row : DRow). row.number < 2 ^ 32) row rows are.0.short others.short;
      rising = AreRising-cons row rows (AreRecords-before desc feed row.number rows are.1)
          others.rising;
    }

-- a delivery that fits has each field
HasFeed-fits : (desc : DescOf) (delivery : DeliveryOf) → IsAccepted desc → IsDelivery desc delivery
    → HasFeed desc delivery
HasFeed-fits desc delivery accepted is =
    let fits = is.fits in
    let of_feed = fits.of_feed in
    let few = accepted.feeds in
    let in_time = fits.in_time in
    let above = IsBefore-from_one delivery.rows fits.from_one in
    let many = rising-count 0 delivery.rows above fits.rising is.short (omega arith) in (
      delivery.feed,
      (omega (arith, of_feed, few), search (rules, tests, of_feed)),
      (
        delivery.number,
        fits.numbered,
        (
          delivery.closes,
          (omega (arith, in_time), search (rules, tests, in_time)),
          (
            length delivery.rows,
            omega (arith, many),
            (
              delivery.rows,
              (
                refl,
                AreRecords-fit desc delivery.feed 0 delivery.rows accepted fits.rows
                    is.short above fits.rising,
              ),
              refl,
            ),
          ),
        ),
      ),
    )

-- a delivery that has each field fits
IsDelivery-fields : (desc : DescOf) (delivery : DeliveryOf) → IsAccepted desc
    → HasFeed desc delivery → IsDelivery desc delivery
IsDelivery-fields desc delivery accepted is =
    let number = is.2 in
    let closes = number.2 in
    let count = closes.2 in
    let rows = count.2 in
    let fit = Fits-records desc is.0 0 rows.0 accepted rows.1.1 in
    subst (IsDelivery desc) (sym rows.2) (record {
      fits = record {
        of_feed = search (rules, tests, is.1.1);
        numbered = number.1;
        in_time = search (rules, tests, closes.1.1);
        rows = fit.fit;
        from_one = fit.from_one;
        rising = fit.rising;
      };
      short = fit.short;
    })

-- deliveries have one spelling
pub deliveries_law : DeliveriesHaveOneSpelling
deliveries_law desc accepted =
    HasOneSpelling-whole (IsDelivery desc) delivery_bytes (delivery_at desc)
    (IsCodec-same (HasFeed desc) (IsDelivery desc) delivery_bytes delivery_bytes (delivery_at desc)
    (feed_codec desc)
    (λ delivery is. (HasFeed-fits desc delivery accepted is, refl))
    (λ delivery is. (IsDelivery-fields desc delivery accepted is, refl)))
