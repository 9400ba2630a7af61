-- the first line, and then those of the rows so far
use Rattle.std.proofs.Common.{◌≡◌, ◌++◌, length, take}
use Rattle.std.specs.Prelude.{flat_map}
use Rattle.depot_script.specs.Texts.{aside_line_text, asides_head_text}
use Rattle.depot_script.proofs.listings.asides_text.Given as goal

abbrev pub invariant-loop-aside : goal.invariant-loop-aside
invariant-loop-aside l = l.line
    ≡ asides_head_text l.served.desc l.feed l.place (length l.asides)
    ++ flat_map (aside_line_text l.served.desc l.feed) (take l.aside-index l.asides)
