-- Lists that are there as a whole: which words say them, and what is read of them so far.
use Rattle.std.proofs.Common.{◌≡◌, ◌∙◌, ◌<◌, ◌++◌, ℕ, Bor, List, [], ◌∷◌, Option, Some, None, refl}
use Rattle.std.proofs.Common.{sym, ap, ap₂, subst, map, length, arith, append_assoc}
use Rattle.std.specs.List.{AllByRecursion}
use Rattle.std.proofs.lemmas.Option.{same_Some}
use Rattle.desc_lines.specs.Cuts.{each_of, if_some, with_first}
use Rattle.desc_lines.specs.Whole.{AreSome}

-- what is said if a list has a member is said of one that has
pub if_some-some : {X Y : Type 0} (items : List X) (said : Option Y) → 0 < length items
    → if_some items said ≡ said
if_some-some [] said some = absurd (omega arith)
if_some-some (first ∷ others) said some = refl

-- so it is with words that are borrowed
pub some_words_say : {Y : Type 0} (words : List (Bor (List ℕ))) (said : Option Y)
    → 0 < length words → if_some (map (λ word. word.now) words) said ≡ said
some_words_say [] said some = absurd (omega (arith, some))
some_words_say (first ∷ others) said some = refl

-- if it is said, the list has a member
pub if_some-said : {X Y P : Type 0} (items : List X) (said : Option Y) (y : Y)
    → if_some items said ≡ Some y → (0 < length items → said ≡ Some y → P) → P
if_some-said [] said y there go = absurd cc
if_some-said (first ∷ others) said y there go = go (omega arith) there

-- a list that is there has a first item that is there, and others that are
pub with_first-some : {X P : Type 0} (first : Option X) (others : Option (List X)) (items : List X)
    → with_first first others ≡ Some items
    → ((x : X) (xs : List X) → first ≡ Some x → others ≡ Some xs → x ∷ xs ≡ items → P) → P
with_first-some None others items made go = absurd cc
with_first-some (Some x) None items made go = absurd cc
with_first-some (Some x) (Some xs) items made go = go x xs refl refl (same_Some _ _ made)

-- the words of items say these items, if the word of each does
each_of-map : {X : Type 0} (said : List ℕ → Option X) (word_of : X → List ℕ) (P : X → Type 0)
    (items : List X)
    → ((item : X) → P item → said (word_of item) ≡ Some item) → AllByRecursion P items
    → each_of said (map word_of items) ≡ Some items
each_of-map said word_of P [] says each = refl
each_of-map said word_of P (first ∷ others) says each =
    rw (says first each.0, each_of-map said word_of P others says each.1) refl

-- the same of items that are some
pub some_of-map : {X : Type 0} (said : List ℕ → Option X) (word_of : X → List ℕ) (P : X → Type 0)
    (items : List X)
    → ((item : X) → P item → said (word_of item) ≡ Some item) → AreSome P items
    → if_some (map word_of items) (each_of said (map word_of items)) ≡ Some items
some_of-map said word_of P [] says are = absurd (omega (arith, are.some))
some_of-map said word_of P (first ∷ others) says are =
    each_of-map said word_of P (first ∷ others) says are.each

-- a word that says an item
pub record IsWordOf {X : Type 0} (word_of : X → List ℕ) (P : X → Type 0) (word : List ℕ) (item : X)
    : Type 0 where
  pub same : word_of item ≡ word
  pub whole : P item

-- words that say items
pub record AreWordsOf {X : Type 0} (words_of : List X → List (List ℕ)) (P : X → Type 0)
    (words : List (List ℕ)) (items : List X) : Type 0 where
  pub same : words_of items ≡ words
  pub each : AllByRecursion P items

-- one more word in front
AreWordsOf-first : {X : Type 0} (word_of : X → List ℕ) (P : X → Type 0) (word : List ℕ)
    (words : List (List ℕ)) (item : X) (items : List X)
    → IsWordOf word_of P word item → AreWordsOf (map word_of) P words items
    → AreWordsOf (map word_of) P (word ∷ words) (item ∷ items)
AreWordsOf-first word_of P word words item items is are = record {
  same = ap₂ (λ word words. word ∷ words) is.same are.same;
  each = (is.whole, are.each);
}

-- words that say items are the words of these items, if that is so of each
each_of-some : {X : Type 0} (said : List ℕ → Option X) (word_of : X → List ℕ) (P : X → Type 0)
    (words : List (List ℕ)) (items : List X)
    → ((word : List ℕ) (item : X) → said word ≡ Some item → IsWordOf word_of P word item)
    → each_of said words ≡ Some items → AreWordsOf (map word_of) P words items
each_of-some said word_of P [] items says there =
    subst (AreWordsOf (map word_of) P []) (same_Some _ _ there) (record { same = refl; each = tt })
each_of-some said word_of P (word ∷ words) items says there =
    with_first-some (said word) (each_of said words) items there (λ x xs here more made.
    subst (AreWordsOf (map word_of) P (word ∷ words)) made
    (AreWordsOf-first word_of P word words x xs (says word x here)
    (each_of-some said word_of P words xs says more)))

-- some words that say items
pub record AreSomeWordsOf {X : Type 0} (words_of : List X → List (List ℕ)) (P : X → Type 0)
    (words : List (List ℕ)) (items : List X) : Type 0 where
  pub same : words_of items ≡ words
  pub are : AreSome P items

-- items whose words are some are some
pub AreSomeWordsOf-some : {X : Type 0} (words_of : List X → List (List ℕ)) (P : X → Type 0)
    (words : List (List ℕ)) (items : List X)
    → words_of [] ≡ [] → 0 < length words → AreWordsOf words_of P words items
    → AreSomeWordsOf words_of P words items
AreSomeWordsOf-some words_of P words [] none some are =
    absurd (omega (arith, some, ap length (sym none ∙ are.same)))
AreSomeWordsOf-some words_of P words (first ∷ others) none some are =
    record { same = are.same; are = record { some = omega arith; each = are.each } }

-- words that say some items are the words of these items
pub some_of-some : {X : Type 0} (said : List ℕ → Option X) (word_of : X → List ℕ) (P : X → Type 0)
    (words : List (List ℕ)) (items : List X)
    → ((word : List ℕ) (item : X) → said word ≡ Some item → IsWordOf word_of P word item)
    → if_some words (each_of said words) ≡ Some items
    → AreSomeWordsOf (map word_of) P words items
some_of-some said word_of P words items says there =
    if_some-said words _ items there (λ some there.
    AreSomeWordsOf-some (map word_of) P words items refl some
    (each_of-some said word_of P words items says there))

-- more after a front, if there is more
abbrev pub with_front : {X : Type 0} → List X → Option (List X) → Option (List X)
with_front front None = None
with_front front (Some others) = Some (front ++ others)

-- nothing before a list is that list
pub with_front-empty : {X : Type 0} (rest : Option (List X)) → with_front [] rest ≡ rest
with_front-empty None = refl
with_front-empty (Some rest) = refl

-- the first of the rest goes to the front
pub with_front-push : {X : Type 0} (front : List X) (first : X) (rest : Option (List X))
    → with_front front (with_first (Some first) rest) ≡ with_front (front ++ first ∷ []) rest
with_front-push front first None = refl
with_front-push front first (Some rest) = ap Some (sym (append_assoc front (first ∷ []) rest))
