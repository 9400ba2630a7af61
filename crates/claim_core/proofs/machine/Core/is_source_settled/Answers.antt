-- Each partition is asked in its turn.
use Rattle.std.proofs.Common.{◌≡◌, ◌∙◌, ◌+◌, ap, refl, sym, true}
use Rattle.std.specs.List.{list_all}
use Rattle.view_meaning.specs.Partitions.{is_part, key_of}
use Rattle.view_meaning.specs.Staleness.{is_settled}
use Rattle.stale_test.specs.Books.{TellsStale}
use Rattle.claim_core.proofs.ReadingLemmas.{keys_from-first, keys_from-others, keys_from-parts}
use Rattle.claim_core.proofs.ReadingLemmas.{keys_from-read, list_all-first}
use Rattle.claim_core.proofs.machine.Core.is_source_settled.Goals as goal

pub loop-part-init : goal.loop-part-init
loop-part-init c =
    rw (← c.self.view_is)
    record {
      whole = refl;
      parts = keys_from-parts c.self.inside.served.desc c.args.width c.args.part c.args.src
          c.source_parts-read.result.first c.source_parts-read.result.count
          c.source_parts-read.ensures.exact;
    }

pub returns-then-not-is_settled : goal.returns-then-not-is_settled
returns-then-not-is_settled c =
    let desc = c.args.self.now.desc in
    let journal = c.args.self.now.state.journal in
    let end = c.source_parts-read.result.first + c.source_parts-read.result.count in
    let tells : TellsStale desc journal c.self.inside.stale =
    rw (← c.self.view_is) c.self.invariant.stale in
    let part : is_part desc (key_of c.args.src.table c.loop-part.part) ≡ true =
    keys_from-first (λ key. is_part desc key ≡ true) c.args.src.table c.loop-part.part end
    c.loop-part-test.true c.loop-part.invariant.parts in
    let fails = sym (c.is_settled.ensures.exact desc journal tells part)
    ∙ c.if-not-is_settled.true in
    record {
      exact = sym (ap (list_all (is_settled desc journal))
          (keys_from-read desc c.args.width c.args.part c.args.src
          c.source_parts-read.result.first c.source_parts-read.result.count
          (rw (← c.self.view_is) c.source_parts-read.ensures.exact))
          ∙ c.loop-part.invariant.whole
          ∙ list_all-first (is_settled desc journal) c.args.src.table c.loop-part.part end _
          c.loop-part-test.true fails);
    }

pub loop-part-preserved : goal.loop-part-preserved
loop-part-preserved c =
    let desc = c.args.self.now.desc in
    let journal = c.args.self.now.state.journal in
    let end = c.source_parts-read.result.first + c.source_parts-read.result.count in
    let tells : TellsStale desc journal c.self.inside.stale =
    rw (← c.self.view_is) c.self.invariant.stale in
    let part : is_part desc (key_of c.args.src.table c.loop-part.part) ≡ true =
    keys_from-first (λ key. is_part desc key ≡ true) c.args.src.table c.loop-part.part end
    c.loop-part-test.true c.loop-part.invariant.parts in
    let passes = sym (c.is_settled.ensures.exact desc journal tells part)
    ∙ c.if-not-is_settled.false in
    record {
      whole = c.loop-part.invariant.whole
          ∙ list_all-first (is_settled desc journal) c.args.src.table c.loop-part.part end _
          c.loop-part-test.true passes;
      parts = keys_from-others (λ key. is_part desc key ≡ true) c.args.src.table
          c.loop-part.part end c.loop-part-test.true c.loop-part.invariant.parts;
    }
