-- What is read of the partitions that were pinned for a request is what the request is shown.
use Rattle.std.proofs.Common.{◌≡◌, ◌∙◌, ℕ, List, [], ◌∷◌, ◌++◌, length, map, ap, sym, refl}
use Rattle.std.specs.Prelude.{All, flat_map}
use Rattle.std.proofs.lemmas.List.{map-append}
use Rattle.std.proofs.lemmas.List.Elements.{All-cons, All-head, All-nil, All-tail}
use Rattle.std.proofs.lemmas.Simd.{map-map}
use Rattle.depot_cell.specs.declared.cell.Cell.{Cell}
use Rattle.desc_types.specs.declared.table.Key.{Key}
use Rattle.desc_types.specs.Descriptions.{DescOf}
use Rattle.desc_types.specs.Sources.{HasEarlierSources}
use Rattle.view_meaning.specs.declared.journal.Entry.{Entry}
use Rattle.view_meaning.specs.declared.request.Item.{Item}
use Rattle.view_meaning.specs.declared.request.PinItem.{PinItem}
use Rattle.view_meaning.specs.LegalJournals.{IsLegal}
use Rattle.view_meaning.specs.Shown.{ShownPart, keys_shown, shown, shown_part}
use Rattle.view_meaning.proofs.ListLemmas.{map-agree}
use Rattle.view_meaning.proofs.ShownLemmas.{shown_contents}
use Rattle.query_pin.specs.Pins.{PinnedOf}
use Rattle.machine_meaning.specs.States.{State}
use Rattle.claim_core.specs.Cores.{IsPinnedOf, items_of, shown_item}
use Rattle.run_journal.specs.KeptJournals.{IsKept, JournalOf, entries_of}
use Rattle.run_journal.specs.Pinning.{IsPinnedIn}
use Rattle.depot_cli.specs.Answers.{pinned_part, whole_answer}

-- after a legal journal what is read of a partition is what is shown of it
pinned_part-shown : (desc : DescOf) (journal : List Entry) (key : Key)
    → HasEarlierSources desc → IsLegal desc journal
    → pinned_part desc journal (shown_item desc journal key) ≡ shown_part desc journal key
pinned_part-shown desc journal key earlier legal =
    ap (λ (rows : List (List Cell)). record { item = shown_item desc journal key; rows = rows })
    (sym (shown_contents desc journal key earlier legal))

-- what is true of all that is told of elements is true of what is told of each
pub All-from_map : {X Y : Type 0} (P : Y → Type 0) (f : X → Y) (xs : List X)
    → All P (map f xs) → All (λ x. P (f x)) xs
All-from_map P f [] all = All-nil (λ x. P (f x))
All-from_map P f (x ∷ xs) all =
    All-cons (λ x. P (f x)) x xs (All-head P (f x) (map f xs) all)
    (All-from_map P f xs (All-tail P (f x) (map f xs) all))

-- what is told of each element of joined lists
map-flat_map : {X Y Z : Type 0} (f : Y → Z) (g : X → List Y) (xs : List X)
    → map f (flat_map g xs) ≡ flat_map (λ x. map f (g x)) xs
map-flat_map f g [] = refl
map-flat_map f g (x ∷ xs) =
    map-append f (g x) (flat_map g xs) ∙ ap (λ rest. map f (g x) ++ rest) (map-flat_map f g xs)

-- so it is with all partitions of a request
pinned_parts-shown : (desc : DescOf) (journal : List Entry) (items : List Item)
    → HasEarlierSources desc → IsLegal desc journal
    → map (pinned_part desc journal) (items_of desc journal items)
    ≡ flat_map (shown desc journal) items
pinned_parts-shown desc journal items earlier legal =
    let keys = flat_map (keys_shown desc journal) items in
    map-map (pinned_part desc journal) (shown_item desc journal) keys
    ∙ map-agree (λ key. pinned_part desc journal (shown_item desc journal key))
    (shown_part desc journal) keys
    (λ index default within. pinned_part-shown desc journal _ earlier legal)
    ∙ map-flat_map (shown_part desc journal) (keys_shown desc journal) items

-- the answer that is read of a pin is the whole answer to its request
pub whole_answer-pinned : (before now : JournalOf) (items : List Item) (pinned : PinnedOf)
    → IsKept before.core.desc before → IsPinnedIn before now pinned
    → IsPinnedOf before.core.desc before.core.state items pinned
    → whole_answer now.core.desc pinned.place
    (map (pinned_part now.core.desc (entries_of now)) pinned.items)
    ≡ whole_answer before.core.desc (length (entries_of before))
    (flat_map (shown before.core.desc (entries_of before)) items)
whole_answer-pinned before now items pinned kept is_pinned answered =
    let desc = before.core.desc in
    let journal = entries_of before in
    let parts : DescOf → List Entry → List PinItem → List ShownPart = λ desc journal items.
    map (pinned_part desc journal) items in
    ap (λ (desc : DescOf). whole_answer desc pinned.place
    (parts desc (entries_of now) pinned.items)) is_pinned.beside.desc
    ∙ ap (λ (state : State). whole_answer desc pinned.place
    (parts desc state.journal pinned.items)) is_pinned.beside.state
    ∙ ap (λ (place : ℕ). whole_answer desc place (parts desc journal pinned.items))
    answered.place
    ∙ ap (λ (items : List PinItem). whole_answer desc (length journal)
    (parts desc journal items)) answered.items
    ∙ ap (whole_answer desc (length journal))
    (pinned_parts-shown desc journal items kept.earlier kept.good.legal)
