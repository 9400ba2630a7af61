-- What loads at the end of a journal leave unsettled: if all was settled before, just the
-- partitions of views that rest on one in which they keep a row.
use Rattle.std.proofs.Common.{◌≡◌, ◌∙◌, ℕ, zero, suc, ◌+◌, ◌<◌, List, [], ◌∷◌, ◌++◌, length}
use Rattle.std.proofs.Common.{get_or, map, refl, ap, sym, inl, inr, arith}
use Rattle.std.specs.Prelude.{Bool, true, false, not, ◌&&◌, ◌||◌, All, nat_eq, nat_lt, slice_get}
use Rattle.std.specs.List.{list_all, list_any}
use Rattle.std.specs.Cmp.Lexicographic.{pointwise}
use Rattle.std.proofs.lemmas.Bool.{cases_Bool, eq-eqb}
use Rattle.std.proofs.lemmas.Bool.Decides.{nat_tests}
use Rattle.std.proofs.Math.Bool.{not-not}
use Rattle.view_meaning.proofs.BoolLemmas.{not-or}
use Rattle.desc_types.specs.declared.table.Key.{Key}
use Rattle.desc_types.specs.Deliveries.{DeliveryOf}
use Rattle.desc_types.specs.Descriptions.{DescOf}
use Rattle.view_meaning.specs.declared.journal.Entry.{Entry}
use Rattle.view_meaning.specs.declared.journal.Entry.TheVariants as entry
use Rattle.desc_types.specs.Sources.{HasEarlierSources}
use Rattle.view_meaning.specs.Partitions.{is_part, sources_of}
use Rattle.view_meaning.specs.Journal.{accepted}
use Rattle.view_meaning.specs.Versions.{current, install_places, is_raw, loads_after}
use Rattle.view_meaning.specs.Versions.{raw_version, recorded, version}
use Rattle.view_meaning.specs.Staleness.{is_stale, is_settled}
use Rattle.view_meaning.specs.LegalJournals.{IsLegal}
use Rattle.view_meaning.specs.Drains.{all_view_keys, unsettled}
use Rattle.view_meaning.specs.Reached.{brings, is_reached, reached}
use Rattle.view_meaning.proofs.ListLemmas.{list_all-agree, list_all-not, list_all-and}
use Rattle.view_meaning.proofs.ListLemmas.{pointwise-map, filter-agree}
use Rattle.view_meaning.proofs.JournalLemmas.{accepted-append, accepted-map-Load}
use Rattle.view_meaning.proofs.KeyLemmas.{all_view_keys-not_raw, all_view_keys-parts}
use Rattle.view_meaning.proofs.KeyLemmas.{sources_of-parts}
use Rattle.view_meaning.proofs.LegalLemmas.{last_place-le}
use Rattle.view_meaning.proofs.BringsLemmas.{brings-not_raw}
use Rattle.view_meaning.proofs.RawLemmas.{loads_after-append, version-raw}
use Rattle.view_meaning.proofs.ReachedLemmas.{is_reached-step}
use Rattle.view_meaning.proofs.SettledLemmas.{is_settled-step, is_stale-settled, recorded-current}
use Rattle.view_meaning.proofs.SourceLemmas.{sources_of-earlier}
use Rattle.view_meaning.proofs.VersionLemmas.{install_places-same, recorded-same}
use Rattle.view_meaning.proofs.VersionLemmas.{version-view}

-- a journal with these deliveries loaded at its end
abbrev with_loads : List Entry → List DeliveryOf → List Entry
with_loads journal deliveries = journal ++ map entry.Load deliveries

-- whether deliveries that are loaded after a journal keep a row in a partition
abbrev gains : DescOf → List Entry → List DeliveryOf → Key → Bool
gains desc journal deliveries = brings desc (accepted journal) deliveries

-- loads install nothing
install_places-Load : (deliveries : List DeliveryOf) (key : Key)
    → install_places (map entry.Load deliveries) key ≡ []
install_places-Load [] key = refl
install_places-Load (delivery ∷ later) key = install_places-Load later key

-- a count and one with more are the same exactly if there are no more
nat_eq-more : (count more : ℕ) → nat_eq count (count + more) ≡ not (nat_lt 0 more)
nat_eq-more count more = grind (arith, nat_tests)

-- deliveries more leave the version of a raw partition exactly if none of them keeps a row in it
raw_version-append : (desc : DescOf) (accepted more : List DeliveryOf) (key : Key)
    → nat_eq (raw_version desc accepted key) (raw_version desc (accepted ++ more) key)
    ≡ not (brings desc accepted more key)
raw_version-append desc accepted more key =
    ap (λ (count : ℕ). nat_eq (raw_version desc accepted key) count)
    (loads_after-append desc key [] accepted more)
    ∙ nat_eq-more (raw_version desc accepted key) (loads_after desc key accepted more)

-- loads leave the version of a raw partition exactly if they keep no row in it
version-with_loads-raw : (desc : DescOf) (journal : List Entry) (deliveries : List DeliveryOf)
    (key : Key) → is_raw (slice_get desc.tables key.table) ≡ true
    → nat_eq (version desc journal key) (version desc (with_loads journal deliveries) key)
    ≡ not (gains desc journal deliveries key)
version-with_loads-raw desc journal deliveries key raw =
    let after : version desc (with_loads journal deliveries) key
    ≡ raw_version desc (accepted journal ++ deliveries) key =
    version-raw desc (with_loads journal deliveries) key raw
    ∙ ap (λ (all : List DeliveryOf). raw_version desc all key)
    (accepted-append journal (map entry.Load deliveries)
    ∙ ap (λ (more : List DeliveryOf). accepted journal ++ more)
    (accepted-map-Load deliveries)) in
    rw (version-raw desc journal key raw, after)
    (raw_version-append desc (accepted journal) deliveries key)

-- they leave that of a view's partition, and keep no row in it
version-with_loads-view : (desc : DescOf) (journal : List Entry) (deliveries : List DeliveryOf)
    (key : Key) → is_raw (slice_get desc.tables key.table) ≡ false
    → nat_eq (version desc journal key) (version desc (with_loads journal deliveries) key)
    ≡ not (gains desc journal deliveries key)
version-with_loads-view desc journal deliveries key view =
    let loaded = with_loads journal deliveries in
    eq-eqb (version desc journal key) (version desc loaded key)
    (version-view desc journal key view
    ∙ ap (λ (places : List ℕ). length places)
    (sym (install_places-same journal (map entry.Load deliveries) key
    (install_places-Load deliveries key)))
    ∙ sym (version-view desc loaded key view))
    ∙ ap not (sym (brings-not_raw desc (accepted journal) deliveries key view))

-- so they leave a version exactly if they keep no row in the partition
version-with_loads : (desc : DescOf) (journal : List Entry) (deliveries : List DeliveryOf)
    (key : Key)
    → nat_eq (version desc journal key) (version desc (with_loads journal deliveries) key)
    ≡ not (gains desc journal deliveries key)
version-with_loads desc journal deliveries key =
    elim (cases_Bool (is_raw (slice_get desc.tables key.table))) [
      | inl raw ↦ version-with_loads-raw desc journal deliveries key raw
      | inr view ↦ version-with_loads-view desc journal deliveries key view
    ]

-- after loads a partition that was settled is not stale exactly if they keep no row in a source
is_stale-with_loads : (desc : DescOf) (journal : List Entry) (deliveries : List DeliveryOf)
    (key : Key) → HasEarlierSources desc → IsLegal desc journal
    → is_settled desc journal key ≡ true
    → not (is_stale desc (with_loads journal deliveries) key)
    ≡ list_all (λ source. not (gains desc journal deliveries source)) (sources_of desc key)
is_stale-with_loads desc journal deliveries key earlier legal settled =
    let sources = sources_of desc key in
    let loaded = with_loads journal deliveries in
    let before : recorded desc loaded key ≡ current desc journal key =
    recorded-same desc journal (map entry.Load deliveries) key
    (last_place-le desc journal key legal) (install_places-Load deliveries key)
    ∙ recorded-current desc journal key (is_stale-settled desc journal key earlier settled) in
    not-not (pointwise nat_eq (recorded desc loaded key) (current desc loaded key))
    ∙ ap (λ (versions : List ℕ). pointwise nat_eq versions (current desc loaded key)) before
    ∙ pointwise-map (version desc journal) (version desc loaded) sources
    ∙ list_all-agree (λ source. nat_eq (version desc journal source) (version desc loaded source))
    (λ source. not (gains desc journal deliveries source)) sources
    (λ index default _. version-with_loads desc journal deliveries (get_or sources index default))

-- a source is settled and gained no row exactly if it is not reached, given that it is settled
-- exactly if none of its own is
is_reached-source : (desc : DescOf) (loaded : List Entry) (gained : Key → Bool) (source : Key)
    → HasEarlierSources desc
    → is_settled desc loaded source
    ≡ not (list_any (is_reached desc gained) (sources_of desc source))
    → (not (gained source) && is_settled desc loaded source) ≡ not (is_reached desc gained source)
is_reached-source desc loaded gained source earlier settled =
    ap (λ (rest : Bool). not (gained source) && rest) settled
    ∙ not-or (gained source) (list_any (is_reached desc gained) (sources_of desc source))
    ∙ ap not (sym (is_reached-step desc gained source earlier))

-- a partition is settled exactly if none of its sources is reached, given that each of these is
-- settled and gained no row exactly if it is not
is_settled-reached : (desc : DescOf) (journal : List Entry) (deliveries : List DeliveryOf)
    (key : Key) → HasEarlierSources desc → IsLegal desc journal
    → is_settled desc journal key ≡ true
    → All (λ source. (not (gains desc journal deliveries source)
    && is_settled desc (with_loads journal deliveries) source)
    ≡ not (is_reached desc (gains desc journal deliveries) source)) (sources_of desc key)
    → is_settled desc (with_loads journal deliveries) key
    ≡ not (list_any (is_reached desc (gains desc journal deliveries)) (sources_of desc key))
is_settled-reached desc journal deliveries key earlier legal settled each =
    let sources = sources_of desc key in
    let loaded = with_loads journal deliveries in
    let gained = gains desc journal deliveries in
    is_settled-step desc loaded key earlier
    ∙ ap (λ (fresh : Bool). fresh && list_all (is_settled desc loaded) sources)
    (is_stale-with_loads desc journal deliveries key earlier legal settled)
    ∙ list_all-and (λ source. not (gained source)) (is_settled desc loaded) sources
    ∙ list_all-agree (λ source. not (gained source) && is_settled desc loaded source)
    (λ source. not (is_reached desc gained source)) sources each
    ∙ list_all-not (is_reached desc gained) sources

-- after loads a partition is settled exactly if none of its sources is reached
is_settled-within : (depth : ℕ) (desc : DescOf) (journal : List Entry)
    (deliveries : List DeliveryOf) (key : Key) → HasEarlierSources desc → IsLegal desc journal
    → ((key : Key) → is_part desc key ≡ true → is_settled desc journal key ≡ true)
    → key.table < depth → is_part desc key ≡ true
    → is_settled desc (with_loads journal deliveries) key
    ≡ not (list_any (is_reached desc (gains desc journal deliveries)) (sources_of desc key))
is_settled-within zero desc journal deliveries key earlier legal settled enough part =
    absurd (omega (arith, enough))
is_settled-within (suc depth) desc journal deliveries key earlier legal settled enough part =
    is_settled-reached desc journal deliveries key earlier legal (settled key part)
    (λ index default within.
    let source = get_or (sources_of desc key) index default in
    let before : source.table < key.table =
    sources_of-earlier desc key earlier index default within in
    is_reached-source desc (with_loads journal deliveries) (gains desc journal deliveries) source
    earlier
    (is_settled-within depth desc journal deliveries source earlier legal settled
    (omega (arith, enough)) (sources_of-parts desc key index default within)))

-- if each partition was settled, after loads one is settled exactly if none of its sources is
-- reached
pub is_settled-with_loads : (desc : DescOf) (journal : List Entry)
    (deliveries : List DeliveryOf) (key : Key) → HasEarlierSources desc → IsLegal desc journal
    → ((key : Key) → is_part desc key ≡ true → is_settled desc journal key ≡ true)
    → is_part desc key ≡ true
    → is_settled desc (with_loads journal deliveries) key
    ≡ not (list_any (is_reached desc (gains desc journal deliveries)) (sources_of desc key))
is_settled-with_loads desc journal deliveries key earlier legal settled part =
    is_settled-within (suc key.table) desc journal deliveries key earlier legal settled
    (omega arith) part

-- so a partition of a view is settled exactly if it is not reached
pub is_settled-with_loads-view : (desc : DescOf) (journal : List Entry)
    (deliveries : List DeliveryOf) (key : Key) → HasEarlierSources desc → IsLegal desc journal
    → ((key : Key) → is_part desc key ≡ true → is_settled desc journal key ≡ true)
    → is_part desc key ≡ true → is_raw (slice_get desc.tables key.table) ≡ false
    → is_settled desc (with_loads journal deliveries) key
    ≡ not (is_reached desc (gains desc journal deliveries) key)
is_settled-with_loads-view desc journal deliveries key earlier legal settled part view =
    let gained = gains desc journal deliveries in
    let above = list_any (is_reached desc gained) (sources_of desc key) in
    is_settled-with_loads desc journal deliveries key earlier legal settled part
    ∙ ap not (sym (is_reached-step desc gained key earlier
    ∙ ap (λ (own : Bool). own || above)
    (brings-not_raw desc (accepted journal) deliveries key view)))

-- the unsettled partitions are those that are reached
pub unsettled-with_loads : (desc : DescOf) (journal : List Entry) (deliveries : List DeliveryOf)
    → HasEarlierSources desc → IsLegal desc journal
    → ((key : Key) → is_part desc key ≡ true → is_settled desc journal key ≡ true)
    → unsettled desc (with_loads journal deliveries)
    ≡ reached desc (gains desc journal deliveries)
unsettled-with_loads desc journal deliveries earlier legal settled =
    let gained = gains desc journal deliveries in
    filter-agree (λ key. not (is_settled desc (with_loads journal deliveries) key))
    (is_reached desc gained) (all_view_keys desc) (λ index default within.
    let key = get_or (all_view_keys desc) index default in
    ap not (is_settled-with_loads-view desc journal deliveries key earlier legal settled
    (all_view_keys-parts desc index default within)
    (all_view_keys-not_raw desc index default within))
    ∙ not-not (is_reached desc gained key))
