-- One version more is put in.
use Rattle.std.proofs.Common.{◌∙◌}
use Rattle.std.specs.Map.{keys_of}
use Rattle.std.proofs.lemmas.Map.Keys.{sorted_tail}
use Rattle.query_pin.specs.Inputs.{input_cmp}
use Rattle.query_pin.proofs.ListingLemmas.{entry_at-replaced}
use Rattle.query_pin.proofs.listing.list_replaced.Goals as goal

pub loop-read-preserved : goal.loop-read-preserved
loop-read-preserved c =
    let rising = rw c.in-Some.ensures.steps at c.loop-read.invariant.rising in
    record {
      rising = sorted_tail input_cmp c.in-Some.read.now (keys_of c.next.new.self) rising;
      whole = λ read.
          entry_at-replaced c.in-Some.read.now c.in-Some.entry.now c.next.new.self
          c.loop-read.held.entries c.put_replaced.new.held.entries rising
          c.in_ok-put_replaced.ensures.ok read
          ∙ (rw c.in-Some.ensures.steps at c.loop-read.invariant.whole read);
    }
