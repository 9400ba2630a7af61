-- The lines of an accepted description can be written: `written_lines-writable`.
use Rattle.std.proofs.Common.{◌≡◌, ◌∙◌, ℕ, suc, ◌<◌, ◌≤◌, List, [], ◌∷◌, Some, Bool, true, false}
use Rattle.std.proofs.Common.{length, map, refl, ap, arith, decimal}
use Rattle.std.specs.Prelude.{◌==◌, is_none, option_map, position, slice_get}
use Rattle.std.specs.List.{AllByRecursion, position_or_len}
use Rattle.std.specs.Str.{IsUtf8}
use Rattle.std.proofs.lemmas.Bool.{le-ltb}
use Rattle.std.proofs.lemmas.List.Elements.{All-from_recursion}
use Rattle.std.proofs.lemmas.Option.{slice_get-map, slice_get_within}
use Rattle.std.proofs.lemmas.Str.{IsUtf8-append, IsUtf8-from_ascii, IsUtf8-nil}
use Rattle.std.proofs.lemmas.Str.{is_utf8-from_IsUtf8}
use Rattle.std.proofs.lemmas.Str.Ascii.{IsAscii-from_all}
use Rattle.desc_lines.specs.LineTexts.{line_words, table_words}
use Rattle.desc_lines.specs.Names.{is_name}
use Rattle.desc_lines.specs.Texts.{AreLineWords}
use Rattle.desc_lines.specs.Whole.{IsWhole}
use Rattle.desc_lines.specs.Words.{IsWord, Lacks, is_skipped, spaced}
use Rattle.desc_lines.specs.Written as written
use Rattle.desc_lines.specs.Written.{WrittenKindOf, WrittenLineOf, FeedLine}
use Rattle.desc_lines.proofs.LineLemmas.{line_of-words}
use Rattle.desc_lines.proofs.ListLemmas.{each-append}
use Rattle.desc_lines.proofs.WordLemmas.{spaced-each, words-spaced}
use Rattle.desc_types.specs.declared.table.Feed.{Feed}
use Rattle.desc_types.specs.Accepted.{AreNames, IsAccepted}
use Rattle.desc_types.specs.Descriptions.{DescOf}
use Rattle.desc_types.specs.Tables.{TableOf}
use Rattle.table_desc.specs.Canonical.{feed_line, kind_spelled, table_line, written_lines}
use Rattle.table_desc.specs.Described.{is_line_text, with_line, with_written}
use Rattle.table_desc.proofs.KeptLemmas.{All-there}
use Rattle.table_desc.proofs.SpelledPartLemmas.{each-weaker}
use Rattle.table_desc.proofs.SpelledTableLemmas.{AreSpelled, AreSpelled-plain, AreSpelled-table}
use Rattle.table_desc.proofs.SpelledTableLemmas.{IsWholeKind-table, earlier-within}
use Rattle.table_desc.proofs.SpelledWordLemmas.{IsSpelled, is_plain-name}

-- the line of words of UTF-8 is UTF-8
IsUtf8-spaced : (words : List (List ℕ)) → AllByRecursion IsUtf8 words → IsUtf8 (spaced words)
IsUtf8-spaced [] texts = IsUtf8-nil
IsUtf8-spaced (word ∷ []) texts = texts.0
IsUtf8-spaced (word ∷ next ∷ others) texts =
    IsUtf8-append word (32 ∷ spaced (next ∷ others)) texts.0
    (IsUtf8-append (32 ∷ []) (spaced (next ∷ others)) (IsUtf8-from_ascii (32 ∷ [])
    (IsAscii-from_all (32 ∷ [])
    (All-from_recursion (λ byte. byte < 128) (32 ∷ []) (omega arith, tt))))
    (IsUtf8-spaced (next ∷ others) texts.1))

-- where no item passes a test, no place is found
position-lacks : (sign : ℕ) (text : List ℕ) → Lacks sign text
    → is_none (position (λ byte. byte == sign) text) ≡ true
position-lacks sign text lacks =
    rw (le-ltb (position_or_len (λ byte. byte == sign) text) (length text) (past text lacks)) refl
  where
    past : (text : List ℕ) → Lacks sign text
        → length text ≤ position_or_len (λ byte. byte == sign) text
    past [] lacks = omega arith
    past (byte ∷ others) lacks = rw lacks.0 (omega (arith, past others lacks.1))

-- the line of such words is the text of a line
is_line_text-spaced : (words : List (List ℕ)) → AllByRecursion IsSpelled words
    → is_line_text (spaced words) ≡ true
is_line_text-spaced words each =
    let text = IsUtf8-spaced words (each-weaker IsSpelled IsUtf8 words (λ word is. is.text) each) in
    let lacks = spaced-each (λ byte. (byte == 10) ≡ false) words refl
    (each-weaker IsSpelled (Lacks 10) words (λ word is. is.whole) each) in
    rw (is_utf8-from_IsUtf8 (spaced words) text, position-lacks 10 (spaced words) lacks) refl

-- a line that can be written, and read again
pub record IsWritable (line : WrittenLineOf) : Type 0 where
  pub whole : IsWhole line
  pub are_words : AreLineWords (line_words line)
  pub text : is_line_text (spaced (line_words line)) ≡ true
  pub shown : is_skipped (line_words line) ≡ false

-- a line that is whole and has such words can be written
pub IsWritable-spelled : (line : WrittenLineOf) → IsWhole line → AreSpelled (line_words line)
    → is_skipped (line_words line) ≡ false → IsWritable line
IsWritable-spelled line whole spelled shown = record {
  whole = whole;
  are_words = record {
    each = each-weaker IsSpelled IsWord (line_words line) (λ word is. is.is_word) spelled.each;
    whole = each-weaker IsSpelled (Lacks 10) (line_words line) (λ word is. is.whole) spelled.each;
    ended = spelled.ended;
  };
  text = is_line_text-spaced (line_words line) spelled.each;
  shown = shown;
}

-- a line that can be written declares what it says
pub line-read : (line : WrittenLineOf) → IsWritable line → (desc : DescOf)
    → with_line desc (spaced (line_words line)) ≡ with_written desc (Some line)
line-read line writable desc = rw (
  words-spaced (line_words line) writable.are_words.each,
  writable.shown,
  writable.text,
  line_of-words line writable.whole,
) refl

-- the line of a table is shown
is_skipped-table : (name width : List ℕ) (kind : WrittenKindOf)
    → is_skipped (table_words name width kind) ≡ false
is_skipped-table name width (written.Raw feed time columns) = refl
is_skipped-table name width (written.Filter source conds keep) = refl
is_skipped-table name width (written.Group source keys aggs) = refl
is_skipped-table name width (written.Join left right on) = refl

-- the name of an item of a list of names is one
is_name-there : {X : Type 0} (name : X → List ℕ) (items : List X) (place : ℕ) (item : X)
    → AreNames (map name items) → slice_get items place ≡ Some item → is_name (name item) ≡ true
is_name-there name items place item names there =
    All-there (λ name. is_name name ≡ true) (map name items) place (name item) names.each
    (slice_get-map name items place ∙ ap (option_map name) there)

-- the line of a table can be written
IsWritable-table : (desc : DescOf) (number : ℕ) (table : TableOf) → IsAccepted desc
    → slice_get desc.tables number ≡ Some table → IsWritable (table_line desc table)
IsWritable-table desc number table accepted there =
    let is = accepted.each number table there in
    let named = is_name-there (λ (table : TableOf). table.name) desc.tables number table
    accepted.table_names there in
    IsWritable-spelled (table_line desc table)
    (IsWholeKind-table desc number table table.kind accepted is is.kind)
    (AreSpelled-table desc number table table.kind accepted (is_plain-name table.name named)
    is.named is.kind (earlier-within desc number table.width table.kind
    (slice_get_within desc.tables number table there) is.sources))
    (is_skipped-table table.name (decimal table.width)
    (kind_spelled desc table.columns table.kind))

-- so can that of a feed
IsWritable-feed : (feed : Feed) → is_name feed.name ≡ true → IsWritable (feed_line feed)
IsWritable-feed feed named = by_header feed.header
  where
    by_header : (header : Bool) → IsWritable (FeedLine feed.name header)
    by_header false = IsWritable-spelled (FeedLine feed.name false) tt
        (AreSpelled-plain _ (refl, (is_plain-name feed.name named, tt))) refl
    by_header true = IsWritable-spelled (FeedLine feed.name true) tt
        (AreSpelled-plain _ (refl, (is_plain-name feed.name named, (refl, tt)))) refl

-- what is so of each item at its place is so of each item of a list of images
each-places : {X Y : Type 0} (P : Y → Type 0) (f : X → Y) (xs : List X)
    → ((place : ℕ) (x : X) → slice_get xs place ≡ Some x → P (f x)) → AllByRecursion P (map f xs)
each-places P f [] each = tt
each-places P f (x ∷ xs) each =
    (each 0 x refl, each-places P f xs (λ place. each (suc place)))

-- each line of a feed of an accepted description can be written
pub feed_lines-writable : (desc : DescOf) → IsAccepted desc
    → AllByRecursion IsWritable (map feed_line desc.feeds)
feed_lines-writable desc accepted = each-places IsWritable feed_line desc.feeds
    (λ number feed there. IsWritable-feed feed
    (is_name-there (λ (feed : Feed). feed.name) desc.feeds number feed accepted.feed_names there))

-- each line of a table
pub table_lines-writable : (desc : DescOf) → IsAccepted desc
    → AllByRecursion IsWritable (map (table_line desc) desc.tables)
table_lines-writable desc accepted = each-places IsWritable (table_line desc) desc.tables
    (λ number table. IsWritable-table desc number table accepted)

-- so each line
pub written_lines-writable : (desc : DescOf) → IsAccepted desc
    → AllByRecursion IsWritable (written_lines desc)
written_lines-writable desc accepted =
    each-append IsWritable (map feed_line desc.feeds) (map (table_line desc) desc.tables)
    (feed_lines-writable desc accepted) (table_lines-writable desc accepted)
