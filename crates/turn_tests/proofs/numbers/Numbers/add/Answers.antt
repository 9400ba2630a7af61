use Rattle.std.proofs.Common.{◌≡◌, ◌++◌, [], ◌∷◌, if◌then◌else◌, refl, subst, sym}
use Rattle.turn_tests.proofs.NumberLemmas.{Adds-none, Adds-number}
use Rattle.turn_tests.proofs.numbers.Numbers.add.Goals as goal

pub returns-then-len-ge-ROOM : goal.returns-then-len-ge-ROOM
returns-then-len-ge-ROOM c = record { adds = Adds-none c.args.by c.args.self.now }

pub returns : goal.returns
returns c =
    let old = c.args.self.now in
    let log : c.push.new.self.items ≡ (if c.is_ok.result
    then old.log.items ++ (c.args.by, c.args.number) ∷ [] else old.log.items) =
    subst (λ ok. c.push.new.self.items
    ≡ (if ok then old.log.items ++ (c.args.by, c.args.number) ∷ [] else old.log.items))
    (sym c.is_ok.ensures.value) c.push.ensures.items in
    record {
      adds = Adds-number c.args.by old _ refl c.args.number c.is_ok.result log refl refl refl refl;
    }
