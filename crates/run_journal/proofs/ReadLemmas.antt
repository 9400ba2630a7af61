-- The rows of the versions that a claim reads, and what is made of them.
use Rattle.std.proofs.Common.{◌≡◌, ◌∙◌, ◌++◌, ◌∷◌, ℕ, zero, suc, List, [], Some, ap, append-nil}
use Rattle.std.proofs.Common.{refl, length, map, sym, take, drop, true, arith, get_or}
use Rattle.std.specs.Prelude.{All, Bool, None, if◌then◌else◌, Option, false, filter, flat_map}
use Rattle.std.specs.Prelude.{slice_get}
use Rattle.std.proofs.lemmas.List.{drop_at, take-append-drop, take_at, map-append}
use Rattle.std.proofs.lemmas.Bool.Decides.{nat_tests}
use Rattle.view_meaning.specs.Journal.{accepted}
use Rattle.std.proofs.lemmas.List.Elements.{All-filter, All-map, All-nil, filter-append}
use Rattle.std.proofs.lemmas.Grind.{flat_map-append}
use Rattle.depot_cell.specs.declared.cell.Cell.{Cell}
use Rattle.desc_types.specs.declared.table.Key.{Key}
use Rattle.desc_types.specs.declared.view.Src.{Src}
use Rattle.desc_types.specs.Deliveries.{DeliveryOf}
use Rattle.desc_types.specs.Descriptions.{DescOf}
use Rattle.desc_types.specs.KindValues.{KindOf, Raw, Filter, Group, Join}
use Rattle.desc_types.specs.Sources.{kind_sources}
use Rattle.desc_types.specs.Tables.{TableOf}
use Rattle.view_meaning.specs.declared.journal.Entry.{Entry}
use Rattle.view_meaning.specs.Contents.{content, latest_content}
use Rattle.view_meaning.specs.Partitions.{keys_below, keys_read}
use Rattle.view_meaning.specs.Values.{joined, rows_at, value_over}
use Rattle.view_meaning.specs.Versions.{is_raw, version}
use Rattle.view_meaning.proofs.ContentLemmas.{content_within-start}
use Rattle.query_pin.specs.declared.input.Input.{Input}
use Rattle.view_eval.specs.Eval.{made_by}
use Rattle.machine_meaning.specs.States.{IsAtHand, IsGood, State, inputs, is_some_version, latest}
use Rattle.claim_core.specs.Cores.{inputs_read, left_inputs, left_read}
use Rattle.run_journal.specs.KeptJournals.{contents_of}

-- an empty version has no rows, so it makes no difference whether it is read
contents_of-version : (desc : DescOf) (journal : List Entry) (key : Key) (number : ℕ)
    (later : List Input)
    → contents_of desc journal
    (filter is_some_version (record { key = key; version = number } ∷ later))
    ≡ content desc journal key number ++ contents_of desc journal (filter is_some_version later)
contents_of-version desc journal key zero later =
    ap (λ rows. rows ++ contents_of desc journal (filter is_some_version later))
    (sym (content_within-start (suc key.table) desc journal key))
contents_of-version desc journal key (suc number) later =
    let read : Input = record { key = key; version = suc number } in
    let some : is_some_version read ≡ true = grind (arith, nat_tests) in
    ap (λ (some : Bool). contents_of desc journal
    (if some then read ∷ filter is_some_version later else filter is_some_version later)) some

-- the latest versions of partitions, without empty ones, have the rows of all
contents_of-latest : (desc : DescOf) (journal : List Entry) (keys : List Key)
    → contents_of desc journal (filter is_some_version (map (latest desc journal) keys))
    ≡ flat_map (latest_content desc journal) keys
contents_of-latest desc journal [] = refl
contents_of-latest desc journal (key ∷ later) =
    contents_of-version desc journal key (version desc journal key)
    (map (latest desc journal) later)
    ∙ ap (λ rows. latest_content desc journal key ++ rows) (contents_of-latest desc journal later)

-- what is read of one source
contents_of-source : (desc : DescOf) (journal : List Entry) (width part : ℕ) (src : Src)
    → contents_of desc journal (inputs_read desc journal width part (src ∷ []))
    ≡ joined desc (latest_content desc journal) width part src
contents_of-source desc journal width part src =
    contents_of-latest desc journal (flat_map (keys_read desc width part) (src ∷ []))
    ∙ ap (flat_map (latest_content desc journal)) (append-nil (keys_read desc width part src))

-- what is read of the left source, or of the only one
contents_of-left : (desc : DescOf) (journal : List Entry) (width part : ℕ) (kind : KindOf)
    → contents_of desc journal (inputs_read desc journal width part (take 1 (kind_sources kind)))
    ≡ rows_at (joined desc (latest_content desc journal) width part)
    (slice_get (kind_sources kind) 0)
contents_of-left desc journal width part (Raw _ _) = refl
contents_of-left desc journal width part (Filter src _ _) =
    contents_of-source desc journal width part src
contents_of-left desc journal width part (Group src _ _) =
    contents_of-source desc journal width part src
contents_of-left desc journal width part (Join left _ _) =
    contents_of-source desc journal width part left

-- what is read of the right source
contents_of-right : (desc : DescOf) (journal : List Entry) (width part : ℕ) (kind : KindOf)
    → contents_of desc journal (inputs_read desc journal width part (drop 1 (kind_sources kind)))
    ≡ rows_at (joined desc (latest_content desc journal) width part)
    (slice_get (kind_sources kind) 1)
contents_of-right desc journal width part (Raw _ _) = refl
contents_of-right desc journal width part (Filter _ _ _) = refl
contents_of-right desc journal width part (Group _ _ _) = refl
contents_of-right desc journal width part (Join _ right _) =
    contents_of-source desc journal width part right

-- the versions that are read of the right source to compute a partition
abbrev pub right_read : DescOf → List Entry → (part : ℕ) → Option TableOf → List Input
right_read desc journal part None = []
right_read desc journal part (Some table) =
    inputs_read desc journal table.width part (drop 1 (kind_sources table.kind))

abbrev pub right_inputs : DescOf → List Entry → Key → List Input
right_inputs desc journal key = right_read desc journal key.part (slice_get desc.tables key.table)

-- the versions that are read of sources are those of some, and of the others
inputs_read-append : (desc : DescOf) (journal : List Entry) (width part : ℕ) (some more : List Src)
    → inputs_read desc journal width part (some ++ more)
    ≡ inputs_read desc journal width part some ++ inputs_read desc journal width part more
inputs_read-append desc journal width part some more =
    let read = flat_map (keys_read desc width part) in
    ap (λ keys. filter is_some_version (map (latest desc journal) keys))
    (flat_map-append (keys_read desc width part) some more)
    ∙ ap (filter is_some_version) (map-append (latest desc journal) (read some) (read more))
    ∙ filter-append is_some_version (map (latest desc journal) (read some))
    (map (latest desc journal) (read more))

-- those of the left source come first
inputs-table : (desc : DescOf) (journal : List Entry) (part : ℕ) (found : Option TableOf)
    → filter is_some_version (map (latest desc journal) (keys_below desc part found))
    ≡ left_read desc journal part found ++ right_read desc journal part found
inputs-table desc journal part None = refl
inputs-table desc journal part (Some table) =
    ap (inputs_read desc journal table.width part)
    (sym (take-append-drop 1 (kind_sources table.kind)))
    ∙ inputs_read-append desc journal table.width part (take 1 (kind_sources table.kind))
    (drop 1 (kind_sources table.kind))

pub inputs-sides : (desc : DescOf) (journal : List Entry) (key : Key)
    → inputs desc journal key ≡ left_inputs desc journal key ++ right_inputs desc journal key
inputs-sides desc journal key =
    inputs-table desc journal key.part (slice_get desc.tables key.table)

-- so these are the first part of what is read, and those of the right source the other
pub left-part : (desc : DescOf) (journal : List Entry) (key : Key) (reads front : List Input)
    (count : ℕ) → reads ≡ inputs desc journal key → count ≡ length (left_inputs desc journal key)
    → front ≡ take count reads → front ≡ left_inputs desc journal key
left-part desc journal key reads front count all many is =
    is ∙ ap (take count) (all ∙ inputs-sides desc journal key)
    ∙ take_at (left_inputs desc journal key) (right_inputs desc journal key) count (sym many)

pub right-part : (desc : DescOf) (journal : List Entry) (key : Key) (reads back : List Input)
    (count : ℕ) → reads ≡ inputs desc journal key → count ≡ length (left_inputs desc journal key)
    → back ≡ drop count reads → back ≡ right_inputs desc journal key
right-part desc journal key reads back count all many is =
    is ∙ ap (drop count) (all ∙ inputs-sides desc journal key)
    ∙ drop_at (left_inputs desc journal key) (right_inputs desc journal key) count (sym many)

-- what a table of a view makes of the rows that are read
made_by-table : (desc : DescOf) (journal : List Entry) (accepted : List DeliveryOf) (key : Key)
    (found : Option TableOf) → is_raw found ≡ false
    → made_by found (contents_of desc journal (left_read desc journal key.part found))
    (contents_of desc journal (right_read desc journal key.part found))
    ≡ value_over desc accepted (latest_content desc journal) key found
made_by-table desc journal accepted key None view = refl
made_by-table desc journal accepted key (Some table) view =
    rw (
      view,
      contents_of-left desc journal table.width key.part table.kind,
      contents_of-right desc journal table.width key.part table.kind,
    ) refl

pub made_by-read : (desc other : DescOf) (journal : List Entry) (key : Key)
    (left right : List (List Cell)) (front back : List Input) → other ≡ desc
    → is_raw (slice_get desc.tables key.table) ≡ false
    → left ≡ contents_of desc journal front → front ≡ left_inputs desc journal key
    → right ≡ contents_of desc journal back → back ≡ right_inputs desc journal key
    → made_by (slice_get other.tables key.table) left right
    ≡ value_over desc (accepted journal) (latest_content desc journal) key
    (slice_get desc.tables key.table)
made_by-read desc other journal key left right front back same view is_left is_front is_right
    is_back =
    ap (λ (other : DescOf). made_by (slice_get other.tables key.table) left right) same
    ∙ ap (λ left. made_by (slice_get desc.tables key.table) left right)
    (is_left ∙ ap (contents_of desc journal) is_front)
    ∙ ap (λ right. made_by (slice_get desc.tables key.table)
    (contents_of desc journal (left_inputs desc journal key)) right)
    (is_right ∙ ap (contents_of desc journal) is_back)
    ∙ made_by-table desc journal (accepted journal) key (slice_get desc.tables key.table) view

-- the latest versions are at hand
All-latest : (desc : DescOf) (state : State) (keys : List Key) → IsGood desc state
    → All (IsAtHand desc state.journal state.held)
    (filter is_some_version (map (latest desc state.journal) keys))
All-latest desc state keys good =
    All-filter is_some_version (IsAtHand desc state.journal state.held)
    (map (latest desc state.journal) keys)
    (All-map (IsAtHand desc state.journal state.held) (latest desc state.journal) keys
    (λ index default within. good.held.current (get_or keys index default)))

-- so are those of the left source, and of the right one
pub All-left : (desc : DescOf) (state : State) (part : ℕ) (found : Option TableOf)
    → IsGood desc state
    → All (IsAtHand desc state.journal state.held) (left_read desc state.journal part found)
All-left desc state part None good = All-nil (IsAtHand desc state.journal state.held)
All-left desc state part (Some table) good = All-latest desc state
    (flat_map (keys_read desc table.width part) (take 1 (kind_sources table.kind))) good

pub All-right : (desc : DescOf) (state : State) (part : ℕ) (found : Option TableOf)
    → IsGood desc state
    → All (IsAtHand desc state.journal state.held) (right_read desc state.journal part found)
All-right desc state part None good = All-nil (IsAtHand desc state.journal state.held)
All-right desc state part (Some table) good = All-latest desc state
    (flat_map (keys_read desc table.width part) (drop 1 (kind_sources table.kind))) good
