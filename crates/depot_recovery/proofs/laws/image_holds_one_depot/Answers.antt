use Rattle.depot_recovery.proofs.laws.image_holds_one_depot.Goals as goal

pub returns : goal.returns
returns c = record {
  law = λ depot other image sound also.
      let found = c.what_is_held_is_found.ensures.law depot image sound in
      let again = c.what_is_held_is_found.ensures.law other image also in
      cc (found, again);
}
