-- Each pick leaves a file as a stop may leave it.
use Rattle.std.proofs.Common.{◌≡◌, ℕ, ◌+◌, ◌≤◌, ◌<◌, ◌⊎◌, min, List, [], ◌∷◌, ◌++◌, length, take, drop}
use Rattle.std.proofs.Common.{zero, suc, refl, sym, ◌∙◌, ap, arith, get_or}
use Rattle.std.specs.Prelude.{Bool, true, false, ◌==◌, if◌then◌else◌, None, Some, option_map}
use Rattle.std.specs.Prelude.{unwrap_or}
use Rattle.std.specs.declared.option.Option.{Option}
use Rattle.std.proofs.lemmas.Bool.Decides.{nat_tests}
use Rattle.std.proofs.lemmas.List.{length-take, take_more}
use mathlib.Core.Logic.{inl, inr}
use Rattle.depot_disk.specs.Image.{overwritten}
use Rattle.depot_disk.specs.Torn.{TornBytes, TornFile}
use Rattle.depot_disk.specs.Life.{Change, Removed, Synced, Wrote, MayLeaveFile, content_of}
use Rattle.depot_disk.specs.Picks.{before_of, is_touched, pick_byte, picked, scrambled, there_or}
use Rattle.depot_disk.specs.Laws.{MayLeaveFile-content_of}
use Rattle.depot_disk.proofs.TornLemmas.{TornFile-same, drop-overwritten, length-overwritten}
use Rattle.depot_disk.proofs.TornLemmas.{take-overwritten}

-- no byte more or less
pub length-scrambled : (touched : ℕ → Bool) (pick from : ℕ) (bytes : List ℕ)
    → length (scrambled touched pick from bytes) ≡ length bytes
length-scrambled touched pick from [] = refl
length-scrambled touched pick from (byte ∷ bytes) =
    omega (arith, length-scrambled touched pick (from + 1) bytes)

-- the front
pub take-scrambled : (touched : ℕ → Bool) (pick from count : ℕ) (bytes : List ℕ)
    → take count (scrambled touched pick from bytes) ≡ scrambled touched pick from (take count bytes)
take-scrambled touched pick from zero [] = refl
take-scrambled touched pick from zero (byte ∷ bytes) = refl
take-scrambled touched pick from (suc count) [] = refl
take-scrambled touched pick from (suc count) (byte ∷ bytes) =
    ap (λ (rest : List ℕ). (if touched from then pick_byte pick from else byte) ∷ rest)
    (take-scrambled touched pick (from + 1) count bytes)

-- what follows the front
pub drop-scrambled : (touched : ℕ → Bool) (pick from count : ℕ) (bytes : List ℕ)
    → drop count (scrambled touched pick from bytes)
    ≡ scrambled touched pick (from + count) (drop count bytes)
drop-scrambled touched pick from zero [] = refl
drop-scrambled touched pick from zero (byte ∷ bytes) =
    let same : from ≡ from + 0 = omega arith in
    ap (λ (place : ℕ). scrambled touched pick place (byte ∷ bytes)) same
drop-scrambled touched pick from (suc count) [] = refl
drop-scrambled touched pick from (suc count) (byte ∷ bytes) =
    let same : from + 1 + count ≡ from + suc count = omega arith in
    drop-scrambled touched pick (from + 1) count bytes
    ∙ ap (λ (place : ℕ). scrambled touched pick place (drop count bytes)) same

-- one byte more
pub scrambled-push : (touched : ℕ → Bool) (pick from place byte : ℕ) (bytes : List ℕ)
    → place ≡ from + length bytes
    → scrambled touched pick from (bytes ++ byte ∷ [])
    ≡ scrambled touched pick from bytes
    ++ (if touched place then pick_byte pick place else byte) ∷ []
scrambled-push touched pick from place byte [] is =
    let same : from ≡ place = omega (arith, is) in
    ap (λ (at : ℕ). (if touched at then pick_byte pick at else byte) ∷ []) same
scrambled-push touched pick from place byte (first ∷ bytes) is =
    ap (λ (rest : List ℕ). (if touched from then pick_byte pick from else first) ∷ rest)
    (scrambled-push touched pick (from + 1) place byte bytes (omega (arith, is)))

-- one place more of the same bytes
pub scrambled-take : (touched : ℕ → Bool) (pick place byte : ℕ) (bytes old new : List ℕ)
    → place < length bytes → old ≡ scrambled touched pick 0 (take place bytes)
    → new ≡ old ++ byte ∷ []
    → byte ≡ (if touched place then pick_byte pick place else get_or bytes place 0)
    → new ≡ scrambled touched pick 0 (take (place + 1) bytes)
scrambled-take touched pick place byte bytes old new within was more is =
    let long : place ≡ 0 + length (take place bytes) = omega (arith, length-take place bytes) in
    more
    ∙ ap (λ (front : List ℕ). front ++ byte ∷ []) was
    ∙ ap (λ (last : ℕ). scrambled touched pick 0 (take place bytes) ++ last ∷ []) is
    ∙ sym (scrambled-push touched pick 0 place (get_or bytes place 0) (take place bytes) long)
    ∙ ap (λ (front : List ℕ). scrambled touched pick 0 front) (sym (take_more bytes place 0 within))

-- two tests that agree on the places
pub scrambled-agree : (one other : ℕ → Bool) (pick from : ℕ) (bytes : List ℕ)
    → ((place : ℕ) → from ≤ place → place < from + length bytes → one place ≡ other place)
    → scrambled one pick from bytes ≡ scrambled other pick from bytes
scrambled-agree one other pick from [] agree = refl
scrambled-agree one other pick from (byte ∷ bytes) agree =
    let here : one from ≡ other from = agree from (omega arith) (omega arith) in
    ap (λ (test : Bool). (if test then pick_byte pick from else byte)
    ∷ scrambled one pick (from + 1) bytes) here
    ∙ ap (λ (rest : List ℕ). (if other from then pick_byte pick from else byte) ∷ rest)
    (scrambled-agree one other pick (from + 1) bytes
    (λ place ge lt. agree place (omega (arith, ge)) (omega (arith, lt))))

-- no place is touched
pub scrambled-none : (touched : ℕ → Bool) (pick from : ℕ) (bytes : List ℕ)
    → ((place : ℕ) → touched place ≡ false) → scrambled touched pick from bytes ≡ bytes
scrambled-none touched pick from [] none = refl
scrambled-none touched pick from (byte ∷ bytes) none =
    ap (λ (test : Bool). (if test then pick_byte pick from else byte)
    ∷ scrambled touched pick (from + 1) bytes) (none from)
    ∙ ap (λ (rest : List ℕ). byte ∷ rest) (scrambled-none touched pick (from + 1) bytes none)

-- a place outside of a written range
is_touched-outside : (at : ℕ) (bytes : List ℕ) (older : List Change) (place : ℕ)
    → (place < at) ⊎ (at + length bytes ≤ place)
    → is_touched (Wrote at bytes ∷ older) place ≡ is_touched older place
is_touched-outside at bytes older place (inl early) = grind (arith, nat_tests)
is_touched-outside at bytes older place (inr late) = grind (arith, nat_tests)

-- the bytes before the range
take-torn : (pick at : ℕ) (bytes : List ℕ) (older : List Change) (old : List ℕ)
    → take (min at (length (scrambled (is_touched older) pick 0 old)))
    (scrambled (is_touched (Wrote at bytes ∷ older)) pick 0 (overwritten old at bytes))
    ≡ take at (scrambled (is_touched older) pick 0 old)
take-torn pick at bytes older old =
    let was = is_touched older in
    let now = is_touched (Wrote at bytes ∷ older) in
    let whole = overwritten old at bytes in
    ap (λ (many : ℕ). take (min at many) (scrambled now pick 0 whole))
    (length-scrambled was pick 0 old)
    ∙ take-scrambled now pick 0 (min at (length old)) whole
    ∙ ap (λ (front : List ℕ). scrambled now pick 0 front) (take-overwritten old at bytes)
    ∙ scrambled-agree now was pick 0 (take at old) (λ place ge lt.
    is_touched-outside at bytes older place (inl (omega (arith, lt, length-take at old))))
    ∙ sym (take-scrambled was pick 0 at old)

-- the bytes after the range
drop-torn : (pick at : ℕ) (bytes : List ℕ) (older : List Change) (old : List ℕ)
    → drop (at + length bytes)
    (scrambled (is_touched (Wrote at bytes ∷ older)) pick 0 (overwritten old at bytes))
    ≡ drop (at + length bytes) (scrambled (is_touched older) pick 0 old)
drop-torn pick at bytes older old =
    let was = is_touched older in
    let now = is_touched (Wrote at bytes ∷ older) in
    let end = at + length bytes in
    drop-scrambled now pick 0 end (overwritten old at bytes)
    ∙ ap (λ (rest : List ℕ). scrambled now pick (0 + end) rest) (drop-overwritten old at bytes)
    ∙ scrambled-agree now was pick (0 + end) (drop end old) (λ place ge lt.
    is_touched-outside at bytes older place (inr (omega (arith, ge))))
    ∙ sym (drop-scrambled was pick 0 end old)

-- a pick leaves a write torn
TornBytes-scrambled : (pick at : ℕ) (bytes : List ℕ) (older : List Change) (old : List ℕ)
    → TornBytes at (length bytes) (scrambled (is_touched older) pick 0 old)
    (scrambled (is_touched (Wrote at bytes ∷ older)) pick 0 (overwritten old at bytes))
TornBytes-scrambled pick at bytes older old = record {
  before = take-torn pick at bytes older old;
  after = drop-torn pick at bytes older old;
  no_shorter = omega (
    arith,
    length-scrambled (is_touched older) pick 0 old,
    length-scrambled (is_touched (Wrote at bytes ∷ older)) pick 0 (overwritten old at bytes),
    length-overwritten old at bytes,
  );
}

-- the last sync is among what a stop may leave
pub MayLeaveFile-before_of : (life : List Change) → MayLeaveFile life (before_of life)
MayLeaveFile-before_of [] = refl
MayLeaveFile-before_of (Wrote at bytes ∷ older) =
    inr (
      before_of older,
      MayLeaveFile-before_of older,
      TornFile-same at (length bytes) (before_of older),
    )
MayLeaveFile-before_of (Synced ∷ older) = refl
MayLeaveFile-before_of (Removed ∷ older) = tt

-- so is a write over what a pick left, or over nothing if the file was absent
MayLeaveFile-write : (pick at : ℕ) (bytes : List ℕ) (older : List Change)
    (content : Option (List ℕ)) → MayLeaveFile older content
    → MayLeaveFile older
    (option_map (scrambled (is_touched older) pick 0) (there_or content (before_of older)))
    → (from : Option (List ℕ)) × MayLeaveFile older from
    × TornFile at (length bytes) from (Some (scrambled (is_touched (Wrote at bytes ∷ older)) pick 0
    (overwritten (unwrap_or content []) at bytes)))
MayLeaveFile-write pick at bytes older None held left = (
  None,
  held,
  omega (
    arith,
    length-overwritten [] at bytes,
    length-scrambled (is_touched (Wrote at bytes ∷ older)) pick 0 (overwritten [] at bytes),
  ),
)
MayLeaveFile-write pick at bytes older (Some old) held left = (
  Some (scrambled (is_touched older) pick 0 old),
  left,
  TornBytes-scrambled pick at bytes older old,
)

-- after a sync no place is touched
untouched : (pick : ℕ) (older : List Change) (content : Option (List ℕ))
    → option_map (scrambled (is_touched (Synced ∷ older)) pick 0) (there_or content content)
    ≡ content
untouched pick older None = refl
untouched pick older (Some bytes) =
    ap (λ (whole : List ℕ). Some whole)
    (scrambled-none (is_touched (Synced ∷ older)) pick 0 bytes (λ place. refl))

-- and so are bytes of a pick's own at the touched places
pub MayLeaveFile-scrambled : (pick : ℕ) (life : List Change) → MayLeaveFile life
    (option_map (scrambled (is_touched life) pick 0) (there_or (content_of life) (before_of life)))
MayLeaveFile-scrambled pick [] = refl
MayLeaveFile-scrambled pick (Wrote at bytes ∷ older) =
    inr (MayLeaveFile-write pick at bytes older (content_of older)
    (MayLeaveFile-content_of older) (MayLeaveFile-scrambled pick older))
MayLeaveFile-scrambled pick (Synced ∷ older) = untouched pick older (content_of older)
MayLeaveFile-scrambled pick (Removed ∷ older) = tt

-- one of two
one_or_other : (life : List Change) (test : Bool) (one other : Option (List ℕ))
    → MayLeaveFile life one → MayLeaveFile life other
    → MayLeaveFile life (if test then one else other)
one_or_other life true one other first second = first
one_or_other life false one other first second = second

-- each pick is among what a stop may leave
pub MayLeaveFile-picked : (pick : ℕ) (life : List Change) → MayLeaveFile life (picked pick life)
MayLeaveFile-picked pick life =
    let mixed = option_map (scrambled (is_touched life) pick 0)
    (there_or (content_of life) (before_of life)) in
    let later = if pick == 1 then content_of life else mixed in
    one_or_other life (pick == 0) (before_of life) later (MayLeaveFile-before_of life)
    (one_or_other life (pick == 1) (content_of life) mixed (MayLeaveFile-content_of life)
    (MayLeaveFile-scrambled pick life))
