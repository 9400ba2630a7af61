-- Which claims a catalogue's bodies list, body by body.
use Rattle.std.proofs.Common.{◌≡◌, ◌∙◌, ℕ, zero, suc, ◌+◌, ◌-◌, ◌<◌, ◌≤◌, List, [], ◌∷◌, ◌++◌}
use Rattle.std.proofs.Common.{None, Some, Ok, Option, ap, arith, drop, get_or, length, refl, sym, take}
use Rattle.std.specs.Prelude.{Contains, filter_map, option_and_then, slice_get}
use Rattle.std.specs.List.{cons_option}
use Rattle.std.proofs.lemmas.List.{get_or-drop, length-drop}
use Rattle.std.proofs.lemmas.List.Elements.{Contains-append_right}
use Rattle.std.proofs.lemmas.List.Sorted.{Contains-permutation}
use Rattle.std.proofs.lemmas.Option.{none-some, same_Some, slice_get-get_or}
use Rattle.desc_types.proofs.ListLemmas.{filter_map-take}
use Rattle.desc_types.specs.declared.table.Key.{Key}
use Rattle.row_codec.specs.declared.body.Body.TheVariants as body
use Rattle.row_codec.specs.Bodies.{read_body}
use Rattle.depot_recovery.specs.declared.claims.Claimed.{Claimed}
use Rattle.depot_recovery.specs.Noted.{AreOfBodies, claim_in, claim_read}

-- the claims that the bodies from the first on to a number tell
abbrev pub claims_upto : (bodies : List (List ℕ)) → (number : ℕ) → List Claimed
claims_upto bodies number = filter_map claim_in (take (number - 1) (drop 1 bodies))

-- the claim of a body is that of its bytes
claim_at : (bodies : List (List ℕ)) (number : ℕ) (default : List ℕ) → number < length bodies
    → option_and_then claim_in (slice_get bodies number) ≡ claim_in (get_or bodies number default)
claim_at bodies number default within =
    ap (option_and_then claim_in) (slice_get-get_or bodies number default within)

-- those up to the next number are these and that of the body with this number
pub claims_upto-step : (bodies : List (List ℕ)) (number : ℕ) (told : Option Claimed)
    → 1 ≤ number → number < length bodies
    → told ≡ option_and_then claim_in (slice_get bodies number)
    → claims_upto bodies (number + 1) ≡ claims_upto bodies number ++ cons_option told []
claims_upto-step bodies number told some within tells =
    let size = length-drop 1 bodies in
    let place : number + 1 - 1 ≡ number - 1 + 1 = omega arith in
    let same : get_or (drop 1 bodies) (number - 1) [] ≡ get_or bodies number [] =
    get_or-drop 1 bodies (number - 1) []
    ∙ ap (λ (place : ℕ). get_or bodies place []) (omega arith) in
    ap (λ (place : ℕ). filter_map claim_in (take place (drop 1 bodies))) place
    ∙ filter_map-take claim_in (drop 1 bodies) (number - 1) [] (omega arith)
    ∙ ap (λ (told : Option Claimed). claims_upto bodies number ++ cons_option told [])
    (ap claim_in same ∙ sym (tells ∙ claim_at bodies number [] within))

-- what is listed stays so with one more in front
Contains-cons_option : {X : Type 0} (more : Option X) (xs : List X) (x : X) → Contains xs x
    → Contains (cons_option more xs) x
Contains-cons_option None xs x listed = listed
Contains-cons_option (Some other) xs x listed = Contains-append_right (other ∷ []) xs x listed

-- what a function gives of an item is listed
Contains-filter_map : {X Y : Type 0} (f : X → Option Y) (xs : List X) (place : ℕ) (x : X) (y : Y)
    → slice_get xs place ≡ Some x → f x ≡ Some y → Contains (filter_map f xs) y
Contains-filter_map f [] place x y at gives = absurd (none-some x at)
Contains-filter_map f (first ∷ later) zero x y at gives =
    rw (ap f (same_Some first x at) ∙ gives) (0, omega arith, refl)
Contains-filter_map f (first ∷ later) (suc place) x y at gives =
    Contains-cons_option (f first) (filter_map f later) y
    (Contains-filter_map f later place x y at gives)

-- an item behind the first
slice_get-drop_one : {X : Type 0} (xs : List X) (place : ℕ)
    → slice_get (drop 1 xs) place ≡ slice_get xs (suc place)
slice_get-drop_one [] place = refl
slice_get-drop_one (first ∷ later) place = refl

-- the claim of each install behind record 0 is listed
pub Contains-of_bodies : (bodies : List (List ℕ)) (claims : List Claimed) (number : ℕ)
    (bytes : List ℕ) (key : Key) (at len : ℕ) → AreOfBodies bodies claims → 1 ≤ number
    → slice_get bodies number ≡ Some bytes → read_body bytes ≡ Ok (body.Install key at len)
    → Contains claims (record { at = at; key = key })
Contains-of_bodies bodies claims zero bytes key at len are some there reads =
    absurd (omega arith)
Contains-of_bodies bodies claims (suc place) bytes key at len are some there reads =
    Contains-permutation (filter_map claim_in (drop 1 bodies)) claims
    (record { at = at; key = key }) are
    (Contains-filter_map claim_in (drop 1 bodies) place bytes (record { at = at; key = key })
    (slice_get-drop_one bodies place ∙ there) (ap claim_read reads))
