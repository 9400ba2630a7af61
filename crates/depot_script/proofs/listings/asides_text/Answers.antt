-- A row more is a line more, and after the last row all lines stand there.
use Rattle.std.proofs.Common.{◌≡◌, ◌<◌, ◌+◌, ◌++◌, ◌∙◌, ℕ, List, ap, get_or, length, sym, take}
use Rattle.std.proofs.Common.{take_all}
use Rattle.std.specs.Prelude.{flat_map}
use Rattle.std.proofs.lemmas.List.{flat_map_more, take_more}
use Rattle.depot_script.specs.Texts.{aside_line_text, asides_head_text}
use Rattle.depot_script.proofs.listings.asides_text.Goals as goal

-- the lines of the rows so far, and that of the next one
flat_map-take : {X : Type 0} (f : X → List ℕ) (head line next : List ℕ) (xs : List X) (index : ℕ)
    (default : X) → index < length xs → line ≡ head ++ flat_map f (take index xs)
    → next ≡ line ++ f (get_or xs index default)
    → next ≡ head ++ flat_map f (take (index + 1) xs)
flat_map-take f head line next xs index default within so_far step =
    step ∙ ap (λ (line : List ℕ). line ++ f (get_or xs index default)) so_far
    ∙ flat_map_more f head (take index xs) (get_or xs index default)
    ∙ ap (λ part. head ++ flat_map f part) (sym (take_more xs index default within))

pub loop-aside-preserved : goal.loop-aside-preserved
loop-aside-preserved c =
    flat_map-take (aside_line_text c.args.served.now.desc c.args.feed)
    (asides_head_text c.args.served.now.desc c.args.feed c.args.place (length c.args.asides.now))
    c.loop-aside.line c.in_ok-line-2.line c.args.asides.now c.loop-aside.aside-index _
    c.loop-aside-test.true c.loop-aside.invariant c.in_ok-line-2.ensures.exact

pub returns : goal.returns
returns c = record {
  exact = c.into_text.ensures.exact ∙ c.loop-aside.invariant
      ∙ ap (λ rows. asides_head_text c.args.served.now.desc c.args.feed c.args.place
      (length c.args.asides.now)
      ++ flat_map (aside_line_text c.args.served.now.desc c.args.feed) rows)
      (take_all c.loop-aside.aside-index c.args.asides.now c.loop-aside-test.false);
}
