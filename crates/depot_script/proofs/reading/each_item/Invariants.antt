-- the items so far, and after them those of the parts that are left, are the items of all parts
use Rattle.std.proofs.Common.{◌≡◌, drop, map}
use Rattle.desc_lines.proofs.FrontLemmas.{with_front}
use Rattle.depot_script.specs.Written.{each_item_of}
use Rattle.depot_script.proofs.reading.each_item.Given as goal

abbrev pub invariant-loop-part : goal.invariant-loop-part
invariant-loop-part l =
    with_front l.items.items
    (each_item_of (map (λ part. map (λ word. word.now) part.now) (drop l.part-index l.parts)))
    ≡ each_item_of (map (λ part. map (λ word. word.now) part.now) l.parts)
