use Rattle.std.proofs.Common.{◌≡◌, ◌∙◌, ℕ, ◌<◌, List, [], ◌∷◌, ◌++◌, length, get_or, set, sym, ap}
use Rattle.std.proofs.Common.{arith}
use Rattle.std.specs.Prelude.{Vec}
use Rattle.std.specs.declared.alloc.Global.{Global}
use Rattle.std.proofs.Math.Seq.{map-set_same}
use Rattle.std.proofs.lemmas.List.{map-set}
use Rattle.stale_test.specs.PartLists.{lists_of, parts_at}
use Rattle.stale_test.proofs.PartListLemmas.{parts_at-lists_of}
use Rattle.stale_test.proofs.reached.push_part.Goals as goal

-- a number put at the end of one vector of many
lists_of-set : (lists : List (Vec ℕ Global)) (table part : ℕ) (old new : Vec ℕ Global)
    → table < length lists → old ≡ get_or lists table old → new.items ≡ old.items ++ part ∷ []
    → lists_of (set lists table new)
    ≡ set (lists_of lists) table (parts_at (lists_of lists) table ++ part ∷ [])
lists_of-set lists table part old new within read pushed =
    map-set (λ (parts : Vec ℕ Global). parts.items) lists table new
    ∙ ap (λ (parts : List ℕ). set (lists_of lists) table parts)
    (pushed ∙ ap (λ (parts : List ℕ). parts ++ part ∷ [])
    (sym (parts_at-lists_of lists table old within read)))

pub returns-in-Ok-clause-ok : goal.returns-in-Ok-clause-ok
returns-in-Ok-clause-ok c =
    lists_of-set c.args.lists.now.items c.args.table c.args.part c.index_mut.result.now
    c.push.new.self (omega (arith, c.args.lists.now.ok.0)) c.index_mut.ensures.value
    c.in-Ok.ensures.items

pub returns-in-Err-clause-err : goal.returns-in-Err-clause-err
returns-in-Err-clause-err c =
    let items = λ (parts : Vec ℕ Global). parts.items in
    map-set_same items c.args.lists.now.items c.args.table c.push.new.self c.index_mut.result.now
    (c.in-Err.ensures.items ∙ ap items c.index_mut.ensures.value)
