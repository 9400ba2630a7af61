-- Each answer tells the line that the walk met.
use Rattle.std.proofs.Common.{◌<◌, length, arith}
use Rattle.std.proofs.lemmas.Bool.Decides.{nat_tests}
use Rattle.depot_io.proofs.WalkLemmas.{walk-fault, walk-long, walk-full, walk-newline, walk-dry}
use Rattle.depot_io.proofs.line_reader.LineReader.next_line.Goals as goal
use Rattle.depot_io.proofs.line_reader.LineReader.next_line.Goals.{in-Newline}
use Rattle.depot_io.proofs.line_reader.LineReader.next_line.Goals.{in-Dry+else-is_empty}

pub returns-in_default-clause-exact : goal.returns-in_default-clause-exact
returns-in_default-clause-exact g c =
    rw (← c.self.view_is) (walk-fault _ _ c.self.inside.taken _ c.min-most.result _ _
    c.in_default.ensures.walk (omega arith) (omega arith))

pub returns-then-self-eq-MOST_TAKEN-clause-exact :
    goal.returns-then-self-eq-MOST_TAKEN-clause-exact
returns-then-self-eq-MOST_TAKEN-clause-exact g c =
    rw (← c.self.view_is) (walk-long _ _ c.self.inside.taken _ c.min-most.result _ _
    c.in-Ok.ensures.walk (omega arith) (omega arith) c.if-self-eq-MOST_TAKEN.true)

pub returns-in-Full-clause-exact : goal.returns-in-Full-clause-exact
returns-in-Full-clause-exact g c =
    let walk = rw c.in-Full.is at c.in-Ok.ensures.walk in
    rw (← c.self.view_is) (walk-full _ _ c.self.inside.taken _ c.min-most.result _
    walk (omega arith) (omega arith) c.if-self-eq-MOST_TAKEN.false)

pub returns-clause-exact : goal.returns-clause-exact
returns-clause-exact g c =
    rw (← c.self.view_is) (elim c.match-stop-2.branch [
      | in-Newline w ↦ rw w.self-inside-is (walk-newline _ _ c.self.inside.taken _
          c.min-most.result c.len.result _ _
          (rw w.in-Newline.is at c.in-Ok.ensures.walk) (omega arith) (omega arith)
          c.if-self-eq-MOST_TAKEN.false w.strip_cr.ensures.stripped)
      | in-Dry+else-is_empty w ↦
          let some : 0 < length c.take_line-stop.new.line.items = grind (arith, nat_tests) in
          rw w.self-inside-is (walk-dry _ _ c.self.inside.taken _ c.min-most.result c.len.result _
          (rw w.in-Dry.is at c.in-Ok.ensures.walk) (omega arith) (omega arith)
          c.if-self-eq-MOST_TAKEN.false some)
    ])
