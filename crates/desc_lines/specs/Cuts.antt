-- Lists that are cut in two, and lists that are there as a whole or not at all.
use Rattle.std.specs.Prelude.{ℕ, ◌+◌, List, [], ◌∷◌, ◌++◌, Option, Some, None, Bool, ◌==◌}
use Rattle.std.specs.Prelude.{if◌then◌else◌, take, drop, position, option_map}
use Rattle.desc_lines.specs.Words.{is_empty}

-- what stands before and after the first item that passes a test, if one does
abbrev pub cut_at : {X : Type 0} → (X → Bool) → List X → Option (List X × List X)
cut_at is_cut items =
    option_map (λ place. (take place items, drop (place + 1) items)) (position is_cut items)

-- the parts of a word that is cut at its first such sign
abbrev pub cut_word : (sign : ℕ) → (word : List ℕ) → Option (List ℕ × List ℕ)
cut_word sign word = cut_at (λ byte. byte == sign) word

-- the word of two parts with a sign between them
abbrev pub joined : (left : List ℕ) → (sign : ℕ) → (right : List ℕ) → List ℕ
joined left sign right = left ++ sign ∷ right

-- each list of a line has a member: what is said if this one has
abbrev pub if_some : {X Y : Type 0} → List X → Option Y → Option Y
if_some items said = if is_empty items then None else said

-- one more in front, if there is one and the others are there
abbrev pub with_first : {X : Type 0} → Option X → Option (List X) → Option (List X)
with_first None others = None
with_first (Some first) None = None
with_first (Some first) (Some others) = Some (first ∷ others)

-- what each word says, if each says something
abbrev pub each_of : {X : Type 0} → (List ℕ → Option X) → List (List ℕ) → Option (List X)
each_of said [] = Some []
each_of said (word ∷ words) = with_first (said word) (each_of said words)
