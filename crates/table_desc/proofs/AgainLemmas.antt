-- The canonical text of a description declares it again, if each line of it declares what it was
-- written of: `canonical-declares`.
use Rattle.std.proofs.Common.{◌≡◌, ◌∙◌, ℕ, suc, ◌+◌, List, [], ◌∷◌, ◌++◌, Some, Ok, length, map}
use Rattle.std.proofs.Common.{refl, ap, ap₂, arith, append_assoc}
use Rattle.std.specs.Prelude.{slice_get}
use Rattle.std.specs.List.{AllByRecursion}
use Rattle.std.proofs.lemmas.List.{map-append, take_all}
use Rattle.desc_lines.specs.LineTexts.{line_words}
use Rattle.desc_lines.specs.Texts.{AreLineWords}
use Rattle.desc_lines.specs.Words.{spaced}
use Rattle.desc_lines.specs.Written.{WrittenLineOf}
use Rattle.desc_lines.proofs.TextLemmas.{lines_of-texts}
use Rattle.desc_types.specs.Accepted.{IsAccepted}
use Rattle.desc_types.specs.Descriptions.{DescOf}
use Rattle.table_desc.specs.Canonical.{DeclaresAgain, canonical, feed_line, table_line}
use Rattle.table_desc.specs.Canonical.{written_lines}
use Rattle.table_desc.specs.Described.{described, no_desc, then_lines, with_lines, with_written}
use Rattle.table_desc.proofs.EachDeclaredLemmas.{declares-each}
use Rattle.table_desc.proofs.PrefixLemmas.{DeclaresEach, prefix}
use Rattle.table_desc.proofs.SpelledPartLemmas.{each-weaker}
use Rattle.table_desc.proofs.WritableLemmas.{IsWritable, feed_lines-writable, line-read}
use Rattle.table_desc.proofs.WritableLemmas.{table_lines-writable, written_lines-writable}

-- the texts of lines
abbrev pub line_texts : List WrittenLineOf → List (List ℕ)
line_texts lines = map (λ line. spaced (line_words line)) lines

-- lines that each lead from a description to the next one lead from the first to the last
with_lines-each : {X : Type 0} (line : X → WrittenLineOf) (items : List X) (number : ℕ)
    (state : ℕ → DescOf) (rest : List (List ℕ))
    → AllByRecursion IsWritable (map line items)
    → ((place : ℕ) (item : X) → slice_get items place ≡ Some item
    → with_written (state place) (Some (line item)) ≡ Ok (state (place + 1)))
    → with_lines number (state 0) (line_texts (map line items) ++ rest)
    ≡ with_lines (number + length items) (state (length items)) rest
with_lines-each line [] number state rest writable each =
    ap (λ number. with_lines number (state 0) rest) (omega arith)
with_lines-each line (item ∷ items) number state rest writable each =
    let next : (place : ℕ) → suc place + 1 ≡ suc (place + 1) = λ place. omega arith in
    let last : number + 1 + length items ≡ number + suc (length items) = omega arith in
    ap (λ found. then_lines number found (λ desc.
    with_lines (number + 1) desc (line_texts (map line items) ++ rest)))
    (line-read (line item) writable.0 (state 0) ∙ each 0 item refl)
    ∙ with_lines-each line items (number + 1) (λ place. state (suc place)) rest writable.1
    (λ place item there. each (suc place) item there ∙ ap (λ next. Ok (state next)) (next place))
    ∙ ap (λ number. with_lines number (state (suc (length items))) rest) last

-- the lines of the canonical text: those of the feeds, those of the tables, and an empty one
lines_of-canonical : (desc : DescOf) → IsAccepted desc
    → described (canonical desc)
    ≡ with_lines 1 no_desc (line_texts (map feed_line desc.feeds)
    ++ (line_texts (map (table_line desc) desc.tables) ++ [] ∷ []))
lines_of-canonical desc accepted =
    let feeds = map feed_line desc.feeds in
    let tables = map (table_line desc) desc.tables in
    let text = λ (line : WrittenLineOf). spaced (line_words line) in
    ap (with_lines 1 no_desc) (lines_of-texts (written_lines desc)
    (each-weaker IsWritable (λ line. AreLineWords (line_words line)) (written_lines desc)
    (λ line writable. writable.are_words) (written_lines-writable desc accepted))
    ∙ ap (λ texts. texts ++ [] ∷ []) (map-append text feeds tables)
    ∙ append_assoc (line_texts feeds) (line_texts tables) ([] ∷ []))

-- the canonical text of an accepted description declares it again
canonical-declares : (desc : DescOf) → IsAccepted desc → DeclaresEach desc
    → described (canonical desc) ≡ Ok desc
canonical-declares desc accepted declares =
    let feeds = length desc.feeds in
    let tables = length desc.tables in
    lines_of-canonical desc accepted
    ∙ with_lines-each feed_line desc.feeds 1 (λ number. prefix desc number 0)
    (line_texts (map (table_line desc) desc.tables) ++ [] ∷ [])
    (feed_lines-writable desc accepted) declares.feed
    ∙ with_lines-each (table_line desc) desc.tables (1 + feeds) (prefix desc feeds) ([] ∷ [])
    (table_lines-writable desc accepted) declares.table
    ∙ ap₂ (λ feeds tables. Ok (record { feeds = feeds; tables = tables }))
    (take_all feeds desc.feeds (omega arith)) (take_all tables desc.tables (omega arith))

-- an accepted description is declared by its canonical text again
pub declared-again : DeclaresAgain
declared-again desc accepted = canonical-declares desc accepted (declares-each desc accepted)
