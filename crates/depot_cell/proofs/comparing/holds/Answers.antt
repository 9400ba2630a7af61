-- Two texts are the same exactly if they are equal in order.
use Rattle.std.proofs.Common.{◌≡◌, ◌∙◌, refl, ap}
use Rattle.std.specs.Prelude.{not}
use Rattle.std.specs.declared.cmp.Ordering.{Ordering}
use Rattle.std.specs.declared.cmp.Ordering.TheVariants.{Less, Equal, Greater}
use Rattle.std.specs.Cmp.Lexicographic.{slice_cmp, texts_ties}
use Rattle.std.specs.Ordering.{is_eq, is_ne, nat_cmp}
use Rattle.depot_cell.proofs.comparing.holds.Goals as goal

-- what is not equal in order is unequal
not-is_eq : (order : Ordering) → not (is_eq order) ≡ is_ne order
not-is_eq Less = refl
not-is_eq Equal = refl
not-is_eq Greater = refl

pub returns-in-Eq-Text-Text : goal.returns-in-Eq-Text-Text
returns-in-Eq-Text-Text c =
    rw (c.in-Eq-Text-Text.is-0, c.in-Eq-Text-Text.is-1, c.in-Eq-Text-Text.is-2)
    (record {
      exact = c.eq.ensures
          ∙ texts_ties c.in-Eq-Text-Text.left c.in-Eq-Text-Text.right;
    })

pub returns-in-Ne-Text-Text : goal.returns-in-Ne-Text-Text
returns-in-Ne-Text-Text c =
    rw (c.in-Ne-Text-Text.is-0, c.in-Ne-Text-Text.is-1, c.in-Ne-Text-Text.is-2)
    (record {
      exact = c.ne.ensures
          ∙ ap not (texts_ties c.in-Ne-Text-Text.left c.in-Ne-Text-Text.right)
          ∙ not-is_eq (slice_cmp nat_cmp c.in-Ne-Text-Text.left c.in-Ne-Text-Text.right);
    })
