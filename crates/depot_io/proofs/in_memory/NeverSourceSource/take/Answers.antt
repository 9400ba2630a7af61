-- What is copied is the front of what was left.
use Rattle.std.proofs.Common.{◌+◌, length, take, ◌++◌, List, ℕ, sym, ◌∙◌, ap, arith}
use Rattle.std.proofs.lemmas.List.{take_rest, drop_all}
use Rattle.depot_io.proofs.PieceLemmas.{slice_range-take, slice_range-le}
use Rattle.depot_io.proofs.in_memory.NeverSourceSource.take.Goals as goal

pub returns-clause-left : goal.returns-clause-left
returns-clause-left c =
    let bytes = c.self.inside.bytes.items in
    let at = c.self.inside.at in
    let count = c.copy_front-count.result in
    let into = c.copy_front-count.new.into in
    let long = slice_range-le bytes at (length bytes) (omega arith) in
    let counted = rw c.deref.ensures.value at c.copy_front-count.ensures.exact in
    let copied = rw c.deref.ensures.value at c.copy_front-count.ensures.copied in
    let front = slice_range-take bytes (take count into) at count (length bytes) copied
    (omega (arith, long, counted)) in
    rw (← c.self.view_is) (
      sym (take_rest bytes at) ∙ front
          ∙ ap (λ (l : List ℕ). take count into ++ l) (take_rest bytes (at + count)),
      λ none room. drop_all (at + count) bytes (omega (arith, long, counted)),
    )
