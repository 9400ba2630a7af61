use Rattle.std.proofs.Common.{◌∙◌, ℕ, List, Bor, Ok, ap, map, rules, sym, tests}
use Rattle.std.proofs.lemmas.Iterator.Consumers.{map_from_collect}
use Rattle.std.proofs.lemmas.Iterator.Splits.{YieldsList-from_slice_split}
use Rattle.std.proofs.lemmas.Simd.{map-map}
use Rattle.depot_script.specs.Written.{is_semicolon}
use Rattle.depot_script.proofs.CutLemmas.{slice_split-map}
use Rattle.depot_script.proofs.reading.cut_items.Goals as goal

pub returns : goal.returns
returns c =
    let found = map_from_collect {E = ℕ} (Ok c.in_ok-collect.field-0) c.in_ok-collect.ensures.ran
    (YieldsList-from_slice_split _ (λ (word : Bor (List ℕ)). is_semicolon word.now) c.args.words.now
    c.split.ensures.rest c.split.ensures.done c.split.ensures.closure
    (λ x r q k. search (rules, tests))) in
    record {
      exact = sym (map-map (map (λ (word : Bor (List ℕ)). word.now))
          (λ (part : Bor (List (Bor (List ℕ)))). part.now)
          c.in_ok-collect.field-0.items)
          ∙ ap (map (map (λ (word : Bor (List ℕ)). word.now))) found
          ∙ sym (slice_split-map (λ (word : Bor (List ℕ)). word.now) is_semicolon
          c.args.words.now);
    }
