-- The steps of a disk in memory, in the order in which they are kept: one step more.
use Rattle.std.proofs.Common.{◌≡◌, ℕ, ◌+◌, ◌<◌, List, [], ◌∷◌, ◌++◌, length, map, reverse, take}
use Rattle.std.proofs.Common.{get_or, sym, ◌∙◌, ap}
use Rattle.std.specs.Prelude.{Vec}
use Rattle.std.specs.declared.alloc.Global.{Global}
use Rattle.std.specs.BTreeMap.{BTreeMap}
use Rattle.std.proofs.lemmas.List.{map-append, reverse-append, take_more}
use Rattle.depot_disk.specs.declared.step.Step.{Step}
use Rattle.depot_disk.specs.Image.{Image, written}
use Rattle.depot_disk.specs.Life.{Change, Wrote}
use Rattle.depot_disk.specs.Record.{held_by}
use Rattle.depot_disk.specs.MemDisk.{AreMadeBy, SameImage, image_of, step_of, steps_of}
use Rattle.depot_disk.proofs.RecordLemmas.{held_by-step}

-- a step more at the end is the last one, and so the first in order
pub steps_of-push : (steps : List Step) (step : Step)
    → steps_of (steps ++ step ∷ []) ≡ step_of step ∷ steps_of steps
steps_of-push steps step =
    ap (λ (all : List (ℕ × Change)). reverse all) (map-append step_of steps (step ∷ []))
    ∙ reverse-append (map step_of steps) (step_of step ∷ [])

-- the first so many steps, and one more
pub steps_of-take : (steps : List Step) (index : ℕ) (default : Step) → index < length steps
    → steps_of (take (index + 1) steps)
    ≡ step_of (get_or steps index default) ∷ steps_of (take index steps)
steps_of-take steps index default within =
    ap (λ (all : List Step). steps_of all) (take_more steps index default within)
    ∙ steps_of-push (take index steps) (get_or steps index default)

-- the files are those that the steps made, and so after one more write of both
pub AreMadeBy-write : (steps new_steps : List Step) (step : Step) (file at : ℕ) (bytes : List ℕ)
    (old new : BTreeMap ℕ (Vec ℕ Global))
    → new_steps ≡ steps ++ step ∷ [] → step_of step ≡ (file, Wrote at bytes)
    → AreMadeBy steps old → SameImage (written file at bytes (image_of old)) (image_of new)
    → AreMadeBy new_steps new
AreMadeBy-write steps new_steps step file at bytes old new more is made same name =
    same name
    ∙ ap (λ (image : Image). written file at bytes image name) (λ i other. made other i)
    ∙ ap (λ (image : Image). image name)
    (sym (held_by-step file (Wrote at bytes) (steps_of steps)))
    ∙ ap (λ (last : ℕ × Change). held_by (last ∷ steps_of steps) name) (sym is)
    ∙ ap (λ (all : List (ℕ × Change)). held_by all name) (sym (steps_of-push steps step))
    ∙ ap (λ (all : List Step). held_by (steps_of all) name) (sym more)
