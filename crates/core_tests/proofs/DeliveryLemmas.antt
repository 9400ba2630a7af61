-- A delivery that was read fits: `FitsDelivery-read`.
use Rattle.std.proofs.Common.{◌≡◌, ℕ, ◌<◌, ◌≤◌, List, length, subst, refl}
use Rattle.std.specs.Prelude.{Result, Ok, Err, ◌^◌}
use Rattle.partition_map.specs.Time.{END}
use Rattle.desc_types.specs.declared.delivery.DRow.{DRow}
use Rattle.desc_types.specs.Accepted.{IsAccepted}
use Rattle.desc_types.specs.Deliveries.{DeliveryOf}
use Rattle.desc_types.specs.Descriptions.{DescOf}
use Rattle.view_meaning.specs.Journal.{FitsDelivery}
use Rattle.feed_csv.specs.declared.fault.BadRecord.{BadRecord}
use Rattle.feed_csv.specs.Bodies.{delivery_of, delivery_with, rows_of}
use Rattle.feed_csv.proofs.ListLemmas.{same_Ok}
use Rattle.feed_csv.proofs.RowLemmas.{rows_fit}

-- a delivery of the first feed fits if its numbers do and its rows were read
pub FitsDelivery-read : (desc : DescOf) (number closes : ℕ) (text : List ℕ)
    (delivery : DeliveryOf) → IsAccepted desc → 0 < length desc.feeds → number < 2 ^ 32
    → closes ≤ END → delivery_of desc 0 number closes text ≡ Ok delivery
    → FitsDelivery desc delivery
FitsDelivery-read desc number closes text delivery accepted some numbered in_time made =
    by_rows (rows_of desc 0 text) refl made
  where
    by_rows : (read : Result (List DRow) BadRecord) → rows_of desc 0 text ≡ read
        → delivery_with 0 number closes read ≡ Ok delivery → FitsDelivery desc delivery
    by_rows (Err bad) is made = absurd cc
    by_rows (Ok rows) is made =
        let are_rows = rows_fit desc 0 text rows accepted is in
        subst (FitsDelivery desc) (same_Ok made) (record {
          of_feed = some;
          numbered = numbered;
          in_time = in_time;
          rows = are_rows.fit;
          from_one = are_rows.from_one;
          rising = are_rows.rising;
        })
