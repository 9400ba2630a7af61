-- The partition itself has a place among the unsettled ones, since it rests on what changes.
use Rattle.std.proofs.Common.{◌≡◌, ◌∙◌, [], ◌∷◌, Result, Ok, Err, ap}
use Rattle.std.specs.Prelude.{Bool, OnOk, ◌||◌, true, false, slice_get}
use Rattle.std.specs.List.{list_any}
use Rattle.std.proofs.lemmas.Bool.{and_from}
use Rattle.desc_types.specs.declared.table.Key.{Key}
use Rattle.desc_types.specs.Descriptions.{DescOf}
use Rattle.view_meaning.specs.Drains.{all_view_keys}
use Rattle.view_meaning.specs.Partitions.{is_among, is_part, sources_of}
use Rattle.view_meaning.specs.Reached.{is_reached}
use Rattle.view_meaning.specs.Versions.{is_raw}
use Rattle.view_meaning.proofs.AmongLemmas.{All-is_among, is_key-itself}
use Rattle.view_meaning.proofs.ReachedLemmas.{is_reached-step}
use Rattle.stale_test.specs.Books.{HasInstallPlaces, HasPlaces, IsReadyFor, StaleBookOf}
use Rattle.stale_test.specs.Places.{HasPlace}
use Rattle.stale_test.proofs.ViewKeyLemmas.{is_among-all_view_keys, is_among-filter}
use Rattle.stale_test.proofs.book.StaleBook.reserve_install.Goals as goal

-- a partition of a view is among those that rest on it
is_among-reached : (desc : DescOf) (key : Key) (book : StaleBookOf)
    → is_part desc key ≡ true → is_raw (slice_get desc.tables key.table) ≡ false
    → IsReadyFor desc (key ∷ []) book → is_among book.ready.above key ≡ true
is_among-reached desc key book part view ready =
    let gained = is_among (key ∷ []) in
    ready.above key
    ∙ is_among-filter (is_reached desc gained) (all_view_keys desc) key
    ∙ and_from (is_among (all_view_keys desc) key) (is_reached desc gained key)
    (is_among-all_view_keys desc key part view)
    (is_reached-step desc gained key ready.earlier
    ∙ ap (λ (own : Bool). (own || false) || list_any (is_reached desc gained) (sources_of desc key))
    (is_key-itself key))

-- so room for all that a walk found is room for it too
HasInstallPlaces-ready : {T E : Type 0} (result : Result T E) (desc : DescOf) (key : Key)
    (book : StaleBookOf) → is_part desc key ≡ true
    → is_raw (slice_get desc.tables key.table) ≡ false
    → OnOk result (HasPlaces (key ∷ []) book) → OnOk result (IsReadyFor desc (key ∷ []) book)
    → OnOk result (HasInstallPlaces key book)
HasInstallPlaces-ready (Ok value) desc key book part view places ready = record {
  places = places;
  own = All-is_among (HasPlace book.unsettled) book.ready.above key places.above
      (is_among-reached desc key book part view ready);
}
HasInstallPlaces-ready (Err error) desc key book part view places ready = tt

pub returns-clause-ok : goal.returns-clause-ok
returns-clause-ok c =
    HasInstallPlaces-ready c.reserve_load.result c.args.served.now.desc c.args.key
    c.reserve_load.new.self c.requires.part c.requires.view
    (rw c.from_ref.ensures.value at c.reserve_load.ensures.ok)
    (rw c.from_ref.ensures.value at c.reserve_load.ensures.ready)
