-- One partition more, up to all that are read.
use Rattle.std.proofs.Common.{◌≡◌, ◌∙◌, ℕ, ◌+◌, ◌-◌, ◌≤◌, List, [], ◌++◌, map, sym, ap, subst}
use Rattle.std.proofs.Common.{arith}
use Rattle.std.specs.List.{range_with_len}
use Rattle.std.proofs.lemmas.List.{append-nil}
use Rattle.desc_types.specs.declared.table.Key.{Key}
use Rattle.view_meaning.specs.Partitions.{key_of, keys_read}
use Rattle.stale_test.specs.Standings.{IsWorst}
use Rattle.stale_test.proofs.StandingLemmas.{IsWorst-push}
use Rattle.stale_test.proofs.kept.Kept.worst_read.Goals as goal

pub loop-part-preserved : goal.loop-part-preserved
loop-part-preserved c =
    rw c.worse-worst.ensures.exact
    (IsWorst-push c.args.self.now.parts.entries c.args.self.now.unsettled.entries c.args.at
    c.args.src.now.table c.source_parts-read.result.first c.loop-part.part c.loop-part.worst
    c.by_source.result c.loop-part.auto.part c.loop-part.invariant c.by_source.ensures.exact)

pub returns : goal.returns
returns c =
    let first = c.source_parts-read.result.first in
    let count = c.source_parts-read.result.count in
    let part = c.loop-part.part in
    let keys = keys_read c.args.desc.now c.args.width c.args.part c.args.src.now in
    let within : first ≤ first + count = omega arith in
    let all : count ≡ part - first =
    omega (arith, c.loop-part-test.false, c.loop-part.auto.part-end within) in
    let run : map (key_of c.args.src.now.table) (range_with_len first (part - first)) ≡ keys ++ [] =
    ap (λ (parts : List ℕ). map (key_of c.args.src.now.table) parts)
    (ap (λ (many : ℕ). range_with_len first many) (sym all)
    ∙ sym c.source_parts-read.ensures.exact)
    ∙ sym (append-nil keys) in
    record {
      exact = subst (λ (keys : List Key). IsWorst c.args.self.now.parts.entries
          c.args.self.now.unsettled.entries c.args.at keys c.loop-part.worst) run
          c.loop-part.invariant;
    }
