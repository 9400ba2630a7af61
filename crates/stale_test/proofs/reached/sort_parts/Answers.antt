use Rattle.std.proofs.Common.{◌∙◌, ap, sym}
use Rattle.std.specs.Prelude.{List, ℕ, nat_eq}
use Rattle.std.proofs.lemmas.List.Filters.{dedup_is}
use Rattle.std.proofs.lemmas.List.Sorted.{list_any-IsPermutation}
use Rattle.std.proofs.lemmas.Map.Keys.{IsStrictlyIncreasing-dedup}
use Rattle.partition_map.specs.Partitions.{has}
use Rattle.stale_test.proofs.NumberLemmas.{has-dedup}
use Rattle.stale_test.proofs.reached.sort_parts.Goals as goal

pub returns-clause-rising : goal.returns-clause-rising
returns-clause-rising c =
    rw (dedup_is nat_eq c.sort_unstable.new.self.items c.dedup.new.self.items
    c.dedup.ensures.filtered)
    (IsStrictlyIncreasing-dedup c.sort_unstable.new.self.items c.sort_unstable.ensures.sorted)

pub returns-clause-same : goal.returns-clause-same
returns-clause-same c = λ part.
    ap (λ (parts : List ℕ). has parts part)
    (dedup_is nat_eq c.sort_unstable.new.self.items c.dedup.new.self.items
    c.dedup.ensures.filtered)
    ∙ has-dedup c.sort_unstable.new.self.items part
    ∙ sym (list_any-IsPermutation (nat_eq part) c.args.parts.now.items
    c.sort_unstable.new.self.items c.sort_unstable.ensures.permutation)
