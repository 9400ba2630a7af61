-- The places of the loads among the entries: with one step more (`placed-load`, `placed-install`),
-- and which entry stands at a place that a book of raw rows tells (`RepeatsAt-told`).
use Rattle.std.proofs.Common.{◌≡◌, ◌∙◌, ℕ, suc, ◌+◌, ◌-◌, ◌<◌, List, [], ◌∷◌, ◌++◌, ap, arith, length}
use Rattle.std.proofs.Common.{Some, cond, drop, false, get_or, map, refl, subst, sym, true}
use Rattle.std.specs.Prelude.{Bool, IsSomeAnd, Option, slice_get}
use Rattle.std.proofs.lemmas.List.{map-append}
use Rattle.std.proofs.lemmas.Option.{none-some, same_Some}
use Rattle.desc_types.specs.Deliveries.{DeliveryOf}
use Rattle.desc_types.specs.declared.table.Key.{Key}
use Rattle.view_meaning.specs.declared.journal.Entry.{Entry}
use Rattle.view_meaning.specs.declared.journal.Entry.TheVariants as entry
use Rattle.view_meaning.specs.Journal.{delivery_of, is_repeat, is_same}
use Rattle.raw_load.specs.Books.{LoadOf, place_in}
use Rattle.claim_core.specs.Cores.{RepeatsAt}
use Rattle.claim_core.specs.declared.step.Step.{Step}
use Rattle.claim_core.specs.declared.step.Step.TheVariants.{Load, Install}
use Rattle.claim_core.specs.JournalView.{entries_of, loads_in, places_after, places_of}

-- the places and the deliveries of loads
abbrev pub places_told : List LoadOf → List ℕ
places_told loads = map (λ (load : LoadOf). load.place) loads

abbrev pub deliveries_told : List LoadOf → List DeliveryOf
deliveries_told loads = map (λ (load : LoadOf). load.delivery) loads

-- a load at the end has the place after all entries
places_after-load : (before place : ℕ) (steps : List Step) → place ≡ before + length steps + 1
    → places_after before (steps ++ Load ∷ []) ≡ places_after before steps ++ place ∷ []
places_after-load before place [] is =
    ap (λ (place : ℕ). place ∷ []) (omega (arith, is))
places_after-load before place (Load ∷ steps) is =
    ap (λ later. suc before ∷ later)
    (places_after-load (suc before) place steps (omega (arith, is)))
places_after-load before place (Install key at ∷ steps) is =
    places_after-load (suc before) place steps (omega (arith, is))

-- an install at the end has none
places_after-install : (before : ℕ) (steps : List Step) (key : Key) (at : ℕ)
    → places_after before (steps ++ Install key at ∷ []) ≡ places_after before steps
places_after-install before [] key at = refl
places_after-install before (Load ∷ steps) key at =
    ap (λ later. suc before ∷ later) (places_after-install (suc before) steps key at)
places_after-install before (Install other place ∷ steps) key at =
    places_after-install (suc before) steps key at

-- after a load the book has the places of all loads
pub placed-load : (steps : List Step) (old new : List LoadOf) (place : ℕ) (delivery : DeliveryOf)
    → new ≡ old ++ record { place = place; delivery = delivery } ∷ [] → place ≡ length steps + 1
    → places_told old ≡ places_of steps → places_told new ≡ places_of (steps ++ Load ∷ [])
placed-load steps old new place delivery loads is placed =
    ap places_told loads
    ∙ map-append (λ (load : LoadOf). load.place) old
    (record { place = place; delivery = delivery } ∷ [])
    ∙ ap (λ (places : List ℕ). places ++ place ∷ []) placed
    ∙ sym (places_after-load 0 place steps (omega (arith, is)))

-- and after an install
pub placed-install : (steps : List Step) (loads : List LoadOf) (key : Key) (at : ℕ)
    → places_told loads ≡ places_of steps
    → places_told loads ≡ places_of (steps ++ Install key at ∷ [])
placed-install steps loads key at placed = placed ∙ sym (places_after-install 0 steps key at)

-- an entry loaded a delivery of the feed and number of another
abbrev pub Repeats : DeliveryOf → Option Entry → Type 0
Repeats delivery found = IsSomeAnd found (λ loaded.
    IsSomeAnd (delivery_of loaded) (λ other. is_same delivery other ≡ true))

-- at a place stands such an entry, if so many stood before these
record HasRepeat (entries : List Entry) (delivery : DeliveryOf) (before place : ℕ) : Type 0 where
  pub later : before < place
  pub there : Repeats delivery (slice_get entries (place - suc before))

-- so it does with one entry more in front
HasRepeat-later : (first : Entry) (entries : List Entry) (delivery : DeliveryOf)
    (before place : ℕ) → HasRepeat entries delivery (suc before) place
    → HasRepeat (first ∷ entries) delivery before place
HasRepeat-later first entries delivery before place has =
    let index : suc (place - suc (suc before)) ≡ place - suc before =
    omega (arith, has.later) in
    record {
      later = omega (arith, has.later);
      there = subst (λ (index : ℕ). Repeats delivery (slice_get (first ∷ entries) index)) index
          has.there;
    }

-- the entry of a load stands at the first place
HasRepeat-first : (delivery other : DeliveryOf) (entries : List Entry) (before place : ℕ)
    → is_same delivery other ≡ true → suc before ≡ place
    → HasRepeat (entry.Load other ∷ entries) delivery before place
HasRepeat-first delivery other entries before place same is =
    let index : 0 ≡ place - suc before = omega (arith, is) in
    record {
      later = omega (arith, is);
      there = subst (λ (index : ℕ).
          Repeats delivery (slice_get (entry.Load other ∷ entries) index)) index same;
    }

-- such an entry stands at the place that a book tells, if it is so of the loads after the first one
HasRepeat-load : (delivery : DeliveryOf) (load : LoadOf) (later : List LoadOf)
    (entries : List Entry) (before place : ℕ) (same : Bool) → is_same delivery load.delivery ≡ same
    → load.place ≡ suc before
    → (place_in later delivery.feed delivery.number ≡ Some place
    → HasRepeat entries delivery (suc before) place)
    → cond same (Some load.place) (place_in later delivery.feed delivery.number) ≡ Some place
    → HasRepeat (entry.Load load.delivery ∷ entries) delivery before place
HasRepeat-load delivery load later entries before place true same first rest found =
    HasRepeat-first delivery load.delivery entries before place same
    (sym first ∙ same_Some load.place place found)
HasRepeat-load delivery load later entries before place false other first rest found =
    HasRepeat-later (entry.Load load.delivery) entries delivery before place (rest found)

-- at a place that a book tells such an entry stands
HasRepeat-told : (steps : List Step) (loads : List LoadOf) (delivery : DeliveryOf)
    (before place : ℕ) → loads_in steps ≡ length (deliveries_told loads)
    → places_told loads ≡ places_after before steps
    → place_in loads delivery.feed delivery.number ≡ Some place
    → HasRepeat (entries_of steps (deliveries_told loads)) delivery before place
HasRepeat-told [] [] delivery before place all placed found = absurd (none-some place found)
HasRepeat-told [] (load ∷ later) delivery before place all placed found =
    absurd (omega (arith, all))
HasRepeat-told (Load ∷ steps) [] delivery before place all placed found =
    absurd (omega (arith, all))
HasRepeat-told (Load ∷ steps) (load ∷ later) delivery before place all placed found =
    HasRepeat-load delivery load later (entries_of steps (deliveries_told later)) before place
    (is_same delivery load.delivery) refl (ap (λ (places : List ℕ). get_or places 0 0) placed)
    (HasRepeat-told steps later delivery (suc before) place (omega (arith, all))
    (ap (λ (places : List ℕ). drop 1 places) placed)) found
HasRepeat-told (Install key at ∷ steps) loads delivery before place all placed found =
    HasRepeat-later (entry.Install key at) (entries_of steps (deliveries_told loads)) delivery
    before place (HasRepeat-told steps loads delivery (suc before) place all placed found)

-- so the delivery is a repeat of the entry at that place
pub RepeatsAt-told : (journal : List Entry) (steps : List Step) (loads : List LoadOf)
    (delivery : DeliveryOf) (place : ℕ) → journal ≡ entries_of steps (deliveries_told loads)
    → loads_in steps ≡ length (deliveries_told loads) → places_told loads ≡ places_of steps
    → place_in loads delivery.feed delivery.number ≡ Some place
    → is_repeat journal delivery ≡ true → RepeatsAt journal delivery place
RepeatsAt-told journal steps loads delivery place are all placed found repeat =
    let has = HasRepeat-told steps loads delivery 0 place all placed found in
    record {
      repeat = repeat;
      some = omega (arith, has.later);
      there = rw are has.there;
    }
