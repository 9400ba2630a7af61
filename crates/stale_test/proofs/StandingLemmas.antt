-- How partitions stand, by tests: which standings tell that one is stale, and which that it is
-- unsettled.
use Rattle.std.proofs.Common.{◌≡◌, ◌∙◌, ℕ, ◌+◌, ◌-◌, ◌≤◌, List, [], ◌∷◌, ◌++◌, map, refl}
use Rattle.std.proofs.Common.{sym, ap, subst}
use Rattle.std.specs.Prelude.{Bool, true, false, ◌||◌, flat_map, if◌then◌else◌}
use Rattle.std.specs.List.{range_with_len}
use Rattle.std.proofs.lemmas.List.{append-nil, map-append}
use Rattle.std.proofs.lemmas.List.Folds.{list_any-append}
use Rattle.desc_types.specs.declared.table.Key.{Key}
use Rattle.desc_types.specs.declared.view.Src.{Src}
use Rattle.desc_types.specs.Descriptions.{DescOf}
use Rattle.stale_test.specs.declared.standing.Standing.{Standing}
use Rattle.stale_test.specs.declared.standing.Standing.TheVariants.{Place, Waits, Stale}
use Rattle.view_meaning.specs.Partitions.{is_among, key_of, keys_read}
use Rattle.stale_test.specs.Histories.{Histories}
use Rattle.stale_test.specs.Keeping.{ReadyOf, woken}
use Rattle.stale_test.specs.Standings.{IsWorst, Standings, has_changed, is_bad, tells_stale}
use Rattle.stale_test.specs.Standings.{tells_unsettled, worse}
use Rattle.stale_test.proofs.ListLemmas.{range_with_len-push}

-- a partition is woken once
pub worse-twice : (standing other : Standing)
    → worse standing (worse standing other) ≡ worse standing other
worse-twice Place other = refl
worse-twice Waits Place = refl
worse-twice Waits Waits = refl
worse-twice Waits Stale = refl
worse-twice Stale other = refl

-- the worse one of two is stale exactly if one of them is
tells_stale-worse : (standing other : Standing)
    → tells_stale (worse standing other) ≡ (tells_stale standing || tells_stale other)
tells_stale-worse Place other = refl
tells_stale-worse Waits Place = refl
tells_stale-worse Waits Waits = refl
tells_stale-worse Waits Stale = refl
tells_stale-worse Stale other = refl

-- it is unsettled exactly if one of them is
tells_unsettled-worse : (standing other : Standing)
    → tells_unsettled (worse standing other)
    ≡ (tells_unsettled standing || tells_unsettled other)
tells_unsettled-worse Place other = refl
tells_unsettled-worse Waits Place = refl
tells_unsettled-worse Waits Waits = refl
tells_unsettled-worse Waits Stale = refl
tells_unsettled-worse Stale other = refl

-- the worse one of how two lists of sources let a partition stand is how both do
IsWorst-append : (parts : Histories) (standings : Standings) (at : ℕ) (xs ys : List Key)
    (standing other : Standing) → IsWorst parts standings at xs standing
    → IsWorst parts standings at ys other
    → IsWorst parts standings at (xs ++ ys) (worse standing other)
IsWorst-append parts standings at xs ys standing other first second = record {
  stale = tells_stale-worse standing other
      ∙ (λ i. first.stale i || second.stale i)
      ∙ sym (list_any-append (has_changed parts at) xs ys);
  unsettled = tells_unsettled-worse standing other
      ∙ (λ i. first.unsettled i || second.unsettled i)
      ∙ sym (list_any-append (is_bad parts standings at) xs ys);
}

-- how two sources of a view let a partition stand is how both do
pub IsWorst-both : (desc : DescOf) (parts : Histories) (standings : Standings)
    (at width part : ℕ) (left right : Src) (standing other : Standing)
    → IsWorst parts standings at (flat_map (keys_read desc width part) (left ∷ [])) standing
    → IsWorst parts standings at (flat_map (keys_read desc width part) (right ∷ [])) other
    → IsWorst parts standings at (flat_map (keys_read desc width part) (left ∷ right ∷ []))
    (worse standing other)
IsWorst-both desc parts standings at width part left right standing other first second =
    let keys = keys_read desc width part left in
    let more = flat_map (keys_read desc width part) (right ∷ []) in
    subst (λ (keys : List Key). IsWorst parts standings at (keys ++ more) (worse standing other))
    (append-nil keys)
    (IsWorst-append parts standings at (keys ++ []) more standing other first second)

-- one source more, in a run of partitions of a table
pub IsWorst-push : (parts : Histories) (standings : Standings) (at table first last : ℕ)
    (standing own : Standing) → first ≤ last
    → IsWorst parts standings at (map (key_of table) (range_with_len first (last - first))) standing
    → IsWorst parts standings at (key_of table last ∷ []) own
    → IsWorst parts standings at (map (key_of table) (range_with_len first (last + 1 - first)))
    (worse standing own)
IsWorst-push parts standings at table first last standing own in_order before next =
    let read = range_with_len first (last - first) in
    subst (λ (keys : List Key). IsWorst parts standings at keys (worse standing own))
    (sym (ap (λ (run : List ℕ). map (key_of table) run) (range_with_len-push first last in_order)
    ∙ map-append (key_of table) read (last ∷ [])))
    (IsWorst-append parts standings at (map (key_of table) read) (key_of table last ∷ []) standing
    own before next)

-- a partition that is woken is stale if it is a reader or was stale
pub tells_stale-woken : (ready : ReadyOf) (key : Key) (standing : Standing)
    → tells_stale (woken ready key standing)
    ≡ (is_among ready.readers key || tells_stale standing)
tells_stale-woken ready key standing =
    at (is_among ready.readers key) (is_among ready.above key) standing
  where
    at : (reader above : Bool) (standing : Standing) → tells_stale (if reader then Stale
        else if above then worse Waits standing else standing)
        ≡ (reader || tells_stale standing)
    at true above standing = refl
    at false true standing = tells_stale-worse Waits standing
    at false false standing = refl

-- it is unsettled if it is a reader, rests on what changed, or was unsettled
pub tells_unsettled-woken : (ready : ReadyOf) (key : Key) (standing : Standing)
    → tells_unsettled (woken ready key standing)
    ≡ (is_among ready.readers key || (is_among ready.above key || tells_unsettled standing))
tells_unsettled-woken ready key standing =
    at (is_among ready.readers key) (is_among ready.above key) standing
  where
    at : (reader above : Bool) (standing : Standing) → tells_unsettled (if reader then Stale
        else if above then worse Waits standing else standing)
        ≡ (reader || (above || tells_unsettled standing))
    at true above standing = refl
    at false true standing = tells_unsettled-worse Waits standing
    at false false standing = refl
