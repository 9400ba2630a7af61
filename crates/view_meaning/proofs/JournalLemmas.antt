-- The accepted deliveries of a journal that grows.
use Rattle.std.proofs.Common.{◌≡◌, List, [], ◌∷◌, ◌++◌, refl, ap, map}
use Rattle.std.proofs.lemmas.List.Elements.{filter_map-append}
use Rattle.desc_types.specs.Deliveries.{DeliveryOf}
use Rattle.view_meaning.specs.declared.journal.Entry.{Entry}
use Rattle.view_meaning.specs.declared.journal.Entry.TheVariants as entry
use Rattle.view_meaning.specs.Journal.{accepted, delivery_of}

-- the deliveries of a journal of loads are those that were loaded
pub accepted-map-Load : (deliveries : List DeliveryOf)
    → accepted (map entry.Load deliveries) ≡ deliveries
accepted-map-Load [] = refl
accepted-map-Load (delivery ∷ later) = ap (λ rest. delivery ∷ rest) (accepted-map-Load later)

-- the deliveries of two journals are those of the first, then those of the second
pub accepted-append : (journal more : List Entry)
    → accepted (journal ++ more) ≡ accepted journal ++ accepted more
accepted-append journal more = filter_map-append delivery_of journal more
