-- A row lies in no key that is no partition, so the one key is a partition.
use Rattle.std.proofs.Common.{◌≡◌, ◌∙◌, [], true, sym, arith}
use Rattle.std.proofs.lemmas.Bool.{both_ways, true_from_ne_false}
use Rattle.std.proofs.lemmas.Bool.Decides.{nat_tests}
use Rattle.std.proofs.lemmas.List.Elements.{All-cons, All-nil}
use Rattle.desc_types.specs.declared.table.Key.{Key}
use Rattle.view_meaning.specs.Partitions.{is_part, key_of}
use Rattle.view_meaning.specs.RawValues.{lies_in}
use Rattle.view_meaning.proofs.BringsLemmas.{lies_in-outside}
use Rattle.depot_tests.proofs.meaning.reached_by.Goals as goal

pub reached_keys-requires-clause-parts : goal.reached_keys-requires-clause-parts
reached_keys-requires-clause-parts c =
    let desc = c.args.desc.now in
    let row = c.args.row.now in
    let key = key_of row.table c.in-Some.part in
    let is_one = λ (key : Key). is_part desc key ≡ true in
    rw c.from_ref.ensures.value
    (All-cons is_one key []
    (true_from_ne_false (is_part desc key) (λ outside.
    both_ways (lies_in desc key row) (lies_in-outside desc key row outside)
    (sym (c.in-Some.ensures.exact c.in-Some.part) ∙ grind (arith, nat_tests))))
    (All-nil is_one))
