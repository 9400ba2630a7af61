-- Names of which no two are alike: one more of them, and those of sources under prefixes.
use Rattle.std.proofs.Common.{◌≡◌, ◌∙◌, ℕ, ◌++◌, List, [], ◌∷◌, true, false}
use Rattle.std.proofs.Common.{suc, not, refl, ap, arith}
use Rattle.std.specs.Prelude.{All, ◌||◌, ◌&&◌}
use Rattle.std.specs.Str.{bytes_eq}
use Rattle.std.specs.List.{list_any}
use Rattle.std.proofs.lemmas.List.Elements.{All-push}
use Rattle.std.proofs.lemmas.List.Folds.{list_any-append}
use Rattle.desc_lines.specs.Names.{is_name}
use Rattle.desc_types.specs.Columns.{are_different}
use Rattle.desc_types.specs.Accepted.{AreNames}
use Rattle.desc_types.proofs.BoolLemmas.{or-none, or-false, and-both, not-true}

-- the parts of `are_different`
pub different-parts : (word : List ℕ) (others : List (List ℕ)) → are_different (word ∷ others) ≡ true
    → (list_any (bytes_eq word) others ≡ false) × (are_different others ≡ true)
different-parts word others different =
    let parts = and-both (not (list_any (bytes_eq word) others)) (are_different others) different in
    (not-true (list_any (bytes_eq word) others) parts.0, parts.1)

different-from : (word : List ℕ) (others : List (List ℕ)) → list_any (bytes_eq word) others ≡ false
    → are_different others ≡ true → are_different (word ∷ others) ≡ true
different-from word others absent different =
    ap (λ found. not found && are_different others) absent ∙ different

-- a word that none of the others is
pub are_different-push : (words : List (List ℕ)) (last : List ℕ) → are_different words ≡ true
    → list_any (λ word. bytes_eq word last) words ≡ false
    → are_different (words ++ last ∷ []) ≡ true
are_different-push [] last different absent = refl
are_different-push (word ∷ others) last different absent =
    let parts = different-parts word others different in
    let none = or-none (bytes_eq word last) (list_any (λ word. bytes_eq word last) others) absent in
    different-from word (others ++ last ∷ [])
    (list_any-append (bytes_eq word) others (last ∷ [])
    ∙ ap (λ found. found || (bytes_eq word last || false)) parts.0
    ∙ or-false (bytes_eq word last) ∙ none.0)
    (are_different-push others last parts.1 none.1)

-- a name that is a new one
pub AreNames-push : (names : List (List ℕ)) (name : List ℕ) → AreNames names
    → is_name name ≡ true → list_any (λ word. bytes_eq word name) names ≡ false
    → AreNames (names ++ name ∷ [])
AreNames-push names name are named absent = record {
  each = All-push (λ name. is_name name ≡ true) names name are.each named;
  different = are_different-push names name are.different absent;
}

-- words of two lists, of which none of the one is among the other
pub are_different-append : (left right : List (List ℕ)) → are_different left ≡ true
    → are_different right ≡ true
    → All (λ word. list_any (bytes_eq word) right ≡ false) left
    → are_different (left ++ right) ≡ true
are_different-append [] right different others apart = others
are_different-append (word ∷ left) right different others apart =
    let parts = different-parts word left different in
    different-from word (left ++ right)
    (list_any-append (bytes_eq word) left right
    ∙ ap (λ found. found || list_any (bytes_eq word) right) parts.0
    ∙ apart 0 word (omega arith))
    (are_different-append left right parts.1 others
    (λ index default within. apart (suc index) default (omega (arith, within))))
