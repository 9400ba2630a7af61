-- Room: what is left of it after bytes that are put one after the other.
use Rattle.std.proofs.Common.{◌≡◌, ℕ, ◌+◌, ◌≤◌, List, length, ap, refl, sym, ◌∙◌, subst, arith}
use Rattle.std.specs.Prelude.{None, Some, Ok, Err}
use Rattle.std.specs.declared.option.Option.{Option}
use Rattle.depot_io.specs.Puts.{HasRoomFor, room_after, TakesWithin}

-- no bytes take no room
pub room_after-empty : (room : Option ℕ) → room_after room 0 ≡ room
room_after-empty None = refl
room_after-empty (Some room) = ap (λ (left : ℕ). Some left) (omega arith)

-- bytes that are put one after the other lower the room by both lengths
pub room_after-append : (room : Option ℕ) (first second : ℕ)
    → room_after (room_after room first) second ≡ room_after room (first + second)
room_after-append None first second = refl
room_after-append (Some room) first second = ap (λ (left : ℕ). Some left) (omega arith)

-- if many bytes fit, so do fewer
pub HasRoomFor-le : (room : Option ℕ) (few many : ℕ)
    → few ≤ many → HasRoomFor room many → HasRoomFor room few
HasRoomFor-le None few many at_most fits = absurd fits
HasRoomFor-le (Some room) few many at_most fits = omega arith

-- if both fit, the second still fit after the first
pub HasRoomFor-append : (room : Option ℕ) (first second : ℕ)
    → HasRoomFor room (first + second) → HasRoomFor (room_after room first) second
HasRoomFor-append None first second fits = absurd fits
HasRoomFor-append (Some room) first second fits = omega arith

-- if a sink began with room for all, the next bytes fit after those that were put
pub HasRoomFor-step : (start now : Option ℕ) (put next all : ℕ)
    → now ≡ room_after start put → put + next ≤ all
    → HasRoomFor start all → HasRoomFor now next
HasRoomFor-step start now put next all is_now at_most fits =
    subst (λ (room : Option ℕ). HasRoomFor room next) (sym is_now)
    (HasRoomFor-append start put next (HasRoomFor-le start (put + next) all at_most fits))

-- one more put of bytes that fit takes the rest of them
pub room_after-step : {E : Type 0} (start now next : Option ℕ) (at count : ℕ) (bytes rest : List ℕ)
    → (HasRoomFor start (length bytes) → now ≡ room_after start at)
    → at + length rest ≡ length bytes
    → TakesWithin {E = E} now next rest (Ok count)
    → HasRoomFor start (length bytes) → next ≡ room_after start (at + count)
room_after-step start now next at count bytes rest before whole takes fits =
    let took = takes (HasRoomFor-step start now at (length rest) (length bytes) (before fits)
    (omega arith) fits) in
    let all : length rest ≡ count = cc in
    took.1 ∙ ap (λ (room : Option ℕ). room_after room (length rest)) (before fits)
    ∙ room_after-append start at (length rest)
    ∙ ap (λ (more : ℕ). room_after start (at + more)) all

-- no put of bytes that fit is refused
pub TakesWithin-none : {E : Type 0} (start now next : Option ℕ) (at : ℕ) (bytes rest : List ℕ)
    (fault : E)
    → (HasRoomFor start (length bytes) → now ≡ room_after start at)
    → at + length rest ≡ length bytes
    → TakesWithin {E = E} now next rest (Err fault)
    → HasRoomFor start (length bytes) → ⊥
TakesWithin-none start now next at bytes rest fault before whole takes fits =
    let took = takes (HasRoomFor-step start now at (length rest) (length bytes) (before fits)
    (omega arith) fits) in
    cc
