-- The mark of a raw partition: whether more rows may come, and whether all that were expected came.
use Rattle.std.specs.Prelude.{ℕ, ◌+◌, ◌<◌, ◌≤◌, ◌≡◌, List, [], ◌∷◌, ◌++◌, Bool, true, false, not}
use Rattle.std.specs.Prelude.{◌&&◌, ◌==◌, ⊤, length, map, filter, fold, max, nat_le, take}
use Rattle.std.specs.Prelude.{if◌then◌else◌}
use Rattle.std.specs.List.{list_all, list_any, range_with_len}
use Rattle.desc_types.specs.declared.table.Key.{Key}
use Rattle.desc_types.specs.Deliveries.{DeliveryOf}
use Rattle.desc_types.specs.Descriptions.{DescOf}
use Rattle.view_meaning.specs.declared.aside.Aside.{Aside}
use Rattle.view_meaning.specs.declared.request.Mark.{Mark}
use Rattle.view_meaning.specs.declared.request.Mark.TheVariants as mark
use Rattle.view_meaning.specs.Journal.{is_same}
use Rattle.view_meaning.specs.Closing.{closes, is_closed_in, is_for}
use Rattle.view_meaning.specs.SetAside.{asides_after}
use Rattle.view_meaning.specs.Ranks.{rank_of}

-- the deliveries up to the first one that closes the partition, with it; all, if none does
abbrev pub until_closed : DescOf → Key → List DeliveryOf → List DeliveryOf
until_closed desc key [] = []
until_closed desc key (delivery ∷ later) =
    delivery ∷ (if closes desc key delivery then [] else until_closed desc key later)

-- the closing place of a partition that is closed: after how many accepted deliveries it was
abbrev pub closing_place : DescOf → List DeliveryOf → Key → ℕ
closing_place desc accepted key = length (until_closed desc key accepted)

-- the numbers of the deliveries of a partition's feed
abbrev pub numbers : DescOf → Key → List DeliveryOf → List ℕ
numbers desc key deliveries =
    map (λ (delivery : DeliveryOf). delivery.number) (filter (is_for desc key) deliveries)

-- the greatest number of the feed that was accepted until the partition was closed
abbrev pub greatest : DescOf → List DeliveryOf → Key → ℕ
greatest desc accepted key = fold max 0 (numbers desc key (until_closed desc key accepted))

-- whether the feed's delivery with this number was accepted
abbrev pub has_number : DescOf → List DeliveryOf → Key → ℕ → Bool
has_number desc accepted key number =
    list_any (λ delivery. is_for desc key delivery && (delivery.number == number)) accepted

-- whether all of the feed's deliveries from 0 up to a number were accepted
abbrev pub has_all_to : DescOf → List DeliveryOf → Key → (last : ℕ) → Bool
has_all_to desc accepted key last =
    list_all (has_number desc accepted key) (range_with_len 0 (last + 1))

-- whether a row that was set aside is for the partition, and of a delivery up to a number
abbrev pub is_missed : Key → (last : ℕ) → Aside → Bool
is_missed key last aside = (aside.table == key.table) && (aside.part == key.part)
    && nat_le aside.number last

-- whether a row for the partition, of a delivery of its feed up to a number, was set aside
abbrev pub misses : DescOf → List DeliveryOf → Key → (last : ℕ) → Bool
misses desc accepted key last =
    list_any (is_missed key last) (asides_after desc (is_for desc key) [] accepted)

-- whether all that was expected of a closed partition came, and none of it too late
abbrev pub is_complete : DescOf → List DeliveryOf → Key → Bool
is_complete desc accepted key = has_all_to desc accepted key (greatest desc accepted key)
    && not (misses desc accepted key (greatest desc accepted key))

-- the mark of a raw partition
abbrev pub raw_mark : DescOf → List DeliveryOf → Key → Mark
raw_mark desc accepted key = if is_closed_in desc accepted key
    then (if is_complete desc accepted key then mark.Complete else mark.Closed)
    else mark.Open

-- so many deliveries closed a partition, and no fewer did
pub record IsClosingPlace (desc : DescOf) (accepted : List DeliveryOf) (key : Key)
    (place : ℕ) : Type 0 where
  pub closed : is_closed_in desc (take place accepted) key ≡ true
  pub least : (fewer : ℕ) → fewer < place → is_closed_in desc (take fewer accepted) key ≡ false

-- the closing place of a closed partition is the least count of deliveries after which it is closed
abbrev pub HasClosingPlaces : Type 0
HasClosingPlaces = (desc : DescOf) (accepted : List DeliveryOf) (key : Key)
    → is_closed_in desc accepted key ≡ true
    → IsClosingPlace desc accepted key (closing_place desc accepted key)

-- deliveries are new, one by one: their numbers were not accepted before
abbrev pub AreNew : (accepted more : List DeliveryOf) → Type 0
AreNew accepted [] = ⊤
AreNew accepted (delivery ∷ later) = (list_any (is_same delivery) accepted ≡ false)
    × AreNew (accepted ++ delivery ∷ []) later

-- the mark of a raw partition never falls as new deliveries are accepted
abbrev pub HasRisingRawMarks : Type 0
HasRisingRawMarks = (desc : DescOf) (accepted more : List DeliveryOf) (key : Key)
    → AreNew accepted more
    → rank_of (raw_mark desc accepted key) ≤ rank_of (raw_mark desc (accepted ++ more) key)
