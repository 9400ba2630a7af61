-- One version more is put in.
use Rattle.std.proofs.Common.{◌∙◌}
use Rattle.std.specs.Map.{keys_of}
use Rattle.std.proofs.lemmas.Map.Keys.{sorted_tail}
use Rattle.desc_types.specs.Keys.{key_cmp}
use Rattle.query_pin.proofs.ListingLemmas.{entry_at-newest}
use Rattle.query_pin.proofs.listing.list_newest.Goals as goal

pub loop-key-preserved : goal.loop-key-preserved
loop-key-preserved c =
    let rising = rw c.in-Some.ensures.steps at c.loop-key.invariant.rising in
    record {
      rising = sorted_tail key_cmp c.in-Some.key.now (keys_of c.next.new.self) rising;
      whole = λ read.
          entry_at-newest c.in-Some.key.now c.in-Some.newest.now c.next.new.self
          c.loop-key.held.entries c.put_newest.new.held.entries rising
          c.in_ok-put_newest.ensures.ok read
          ∙ (rw c.in-Some.ensures.steps at c.loop-key.invariant.whole read);
    }
