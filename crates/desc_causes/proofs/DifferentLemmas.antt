-- Words of which no two are alike.
use Rattle.std.proofs.Common.{◌≡◌, ℕ, ◌≤◌, Bor, Bool, true, false, not, List, [], ◌∷◌, map, drop}
use Rattle.std.proofs.Common.{get_or, length, arith, ap, sym, ◌∙◌}
use Rattle.std.specs.Prelude.{◌&&◌}
use Rattle.std.specs.Str.{bytes_eq}
use Rattle.std.specs.List.{list_any}
use Rattle.desc_types.proofs.ListLemmas.{list_any-map}
use Rattle.desc_types.specs.Columns.{are_different}

-- the first of some words is compared with the others
are_different-step : (words : List (Bor (List ℕ))) (default : Bor (List ℕ)) (found : Bool)
    → 1 ≤ length words
    → found ≡ list_any (λ other. bytes_eq (get_or words 0 default).now other.now) (drop 1 words)
    → are_different (map (λ word. word.now) words)
    ≡ (not found && are_different (map (λ word. word.now) (drop 1 words)))
are_different-step [] default found some among = absurd (omega (arith, some))
are_different-step (word ∷ others) default found some among =
    ap (λ found. not found && are_different (map (λ word. word.now) others))
    (list_any-map (λ (word : Bor (List ℕ)). word.now) (bytes_eq word.now) others ∙ sym among)

-- a first word that is among the others
pub are_different-none : (words : List (Bor (List ℕ))) (default : Bor (List ℕ)) (found : Bool)
    → 1 ≤ length words
    → found ≡ list_any (λ other. bytes_eq (get_or words 0 default).now other.now) (drop 1 words)
    → found ≡ true → are_different (map (λ word. word.now) words) ≡ false
are_different-none words default found some among there =
    are_different-step words default found some among
    ∙ ap (λ found. not found && are_different (map (λ word. word.now) (drop 1 words))) there

-- a first word that is not
pub are_different-same : (words : List (Bor (List ℕ))) (default : Bor (List ℕ)) (found : Bool)
    → 1 ≤ length words
    → found ≡ list_any (λ other. bytes_eq (get_or words 0 default).now other.now) (drop 1 words)
    → found ≡ false
    → are_different (map (λ word. word.now) words)
    ≡ are_different (map (λ word. word.now) (drop 1 words))
are_different-same words default found some among absent =
    are_different-step words default found some among
    ∙ ap (λ found. not found && are_different (map (λ word. word.now) (drop 1 words))) absent
