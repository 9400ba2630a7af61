-- What a text declares is accepted: `described-accepted`.
use Rattle.std.proofs.Common.{◌≡◌, ◌∙◌, ℕ, ◌+◌, List, [], ◌∷◌, Option, Some, None}
use Rattle.std.proofs.Common.{Bool, true, false, not, Result, Ok, Err, length, map, refl}
use Rattle.std.proofs.Common.{subst, arith, length-append}
use Rattle.std.specs.Prelude.{is_some}
use Rattle.std.specs.Prelude.{if◌then◌else◌}
use Rattle.std.specs.Str.{bytes_eq}
use Rattle.std.proofs.lemmas.Bool.Decides.{nat_tests}
use Rattle.std.proofs.lemmas.List.{map-append}
use Rattle.std.proofs.lemmas.List.Elements.{All-nil}
use Rattle.std.proofs.lemmas.Option.{slice_get_within}
use Rattle.desc_lines.specs.Lines.{line_of}
use Rattle.desc_lines.specs.Names.{is_name}
use Rattle.desc_lines.specs.Texts.{lines_of}
use Rattle.desc_lines.specs.Words.{is_skipped, words}
use Rattle.desc_lines.specs.Written.{WrittenLineOf, WrittenTableOf}
use Rattle.desc_lines.specs.Written.{FeedLine, TableLine}
use Rattle.desc_causes.specs.declared.cause.DescCause.{DescCause}
use Rattle.desc_causes.specs.declared.cause.DescCause.TheVariants as cause
use Rattle.desc_types.specs.declared.table.Feed.{Feed}
use Rattle.desc_types.specs.Descriptions.{DescOf}
use Rattle.desc_types.specs.Tables.{TableOf}
use Rattle.desc_types.specs.Lookups.{find_table}
use Rattle.desc_causes.specs.Ticks.{read_width}
use Rattle.desc_types.specs.Columns.{are_different}
use Rattle.desc_causes.specs.Causes.{cause_of, feed_tests, gives_bad_name}
use Rattle.desc_causes.specs.Causes.{written_names}
use Rattle.table_desc.specs.Declarations.{declared_table, with_declared}
use Rattle.table_desc.specs.Declarations.{with_feed, with_table}
use Rattle.table_desc.specs.SaidLines.{IsSaidKind, IsSaidLine}
use Rattle.table_desc.specs.Described.{described, is_line_text, no_desc}
use Rattle.table_desc.specs.Described.{then_lines, unless_bad}
use Rattle.table_desc.specs.Described.{with_line, with_lines, with_written}
use Rattle.desc_types.specs.Accepted.{IsAccepted, IsTable}
use Rattle.desc_types.proofs.BoolLemmas.{not-false, or-none}
use Rattle.desc_types.proofs.ListLemmas.{each_place-push, list_any-map}
use Rattle.table_desc.proofs.GrownLemmas.{Grows-feed, Grows-table, IsTable-more}
use Rattle.table_desc.proofs.NamesLemmas.{AreNames-push}
use Rattle.table_desc.proofs.FineLemmas.{AreFalse-none, IsFew-fine, IsFine, IsFine-none}
use Rattle.table_desc.proofs.FineLemmas.{is_name-table}
use Rattle.table_desc.proofs.FilledLemmas.{IsFilled-fine, IsFineKind}
use Rattle.table_desc.proofs.LookupLemmas.{position-none}
use Rattle.table_desc.proofs.SaidLemmas.{IsSaidLine-read}
use Rattle.table_desc.proofs.SourceLemmas.{IsWidth-read, sources-fit}

-- one more feed
IsAccepted-feed : (desc : DescOf) (name : List ℕ) (header : Bool) → IsAccepted desc
    → cause_of desc (FeedLine name header) ≡ None
    → IsAccepted (with_feed desc (record { name = name; header = header }))
IsAccepted-feed desc name header accepted none =
    let feed : Feed = record { name = name; header = header } in
    let parts = AreFalse-none (feed_tests desc name) none in
    let absent = list_any-map (λ (feed : Feed). feed.name) (λ word. bytes_eq word name) desc.feeds
    ∙ position-none (λ (feed : Feed). bytes_eq feed.name name) desc.feeds parts.1.0 in
    record {
      feeds = rw (length-append desc.feeds (feed ∷ [])) (grind (arith, nat_tests, parts.1.1.0));
      tables = accepted.tables;
      feed_names = rw (map-append (λ (feed : Feed). feed.name) desc.feeds (feed ∷ []))
          (AreNames-push (map (λ (feed : Feed). feed.name) desc.feeds) name accepted.feed_names
          (not-false (is_name name) parts.0) absent);
      table_names = accepted.table_names;
      each = λ number table there. IsTable-more (length desc.tables) desc (with_feed desc feed) number
          table (Grows-feed desc feed)
          (omega (arith, slice_get_within desc.tables number table there))
          (accepted.each number table there);
    }

-- the kind of a table's line of which no test holds
IsFineKind-fine : (desc : DescOf) (table : WrittenTableOf) → IsFine desc table
    → IsFineKind desc table.kind
IsFineKind-fine desc table fine =
    let different = or-none (is_some (find_table desc table.name))
    (not (are_different (written_names table.kind))) fine.different in
    record {
      named = (or-none (not (is_name table.name)) (gives_bad_name table.kind) fine.named).1;
      different = not-false (are_different (written_names table.kind)) different.1;
      feed = fine.feed;
      source = fine.source;
      column = fine.column;
      typed = fine.typed;
      few = IsFew-fine desc table.kind fine.few;
    }

-- the table that a line declares
IsTable-read : (desc : DescOf) (table : WrittenTableOf) (width : Option ℕ) → IsAccepted desc
    → IsSaidKind table.kind → IsFine desc table → read_width table.width ≡ width
    → IsTable desc (length desc.tables) (declared_table desc table)
IsTable-read desc table None accepted said fine read =
    absurd (let bad = rw read at fine.width in cc)
IsTable-read desc table (Some width) accepted said fine read =
    let filled = IsFilled-fine desc table.kind accepted said (IsFineKind-fine desc table fine) in
    rw read (record {
      some = filled.some;
      few = filled.few;
      named = filled.named;
      different = filled.different;
      width = IsWidth-read table.width width read;
      sources = sources-fit desc width table.kind fine.source (rw read at fine.span);
      kind = filled.kind;
    })

-- one more table
IsAccepted-table : (desc : DescOf) (table : WrittenTableOf) → IsAccepted desc
    → IsSaidKind table.kind → cause_of desc (TableLine table) ≡ None
    → IsAccepted (with_table desc (declared_table desc table))
IsAccepted-table desc table accepted said none =
    let fine = IsFine-none desc table none in
    let made = declared_table desc table in
    let more = with_table desc made in
    let double = or-none (is_some (find_table desc table.name))
    (not (are_different (written_names table.kind))) fine.different in
    let absent = list_any-map (λ (other : TableOf). other.name)
    (λ word. bytes_eq word table.name) desc.tables
    ∙ position-none (λ (other : TableOf). bytes_eq other.name table.name) desc.tables double.0 in
    let few = IsFew-fine desc table.kind fine.few in
    record {
      feeds = accepted.feeds;
      tables = rw (length-append desc.tables (made ∷ [])) (omega (arith, few.tables));
      feed_names = accepted.feed_names;
      table_names = rw (map-append (λ (other : TableOf). other.name) desc.tables (made ∷ []))
          (AreNames-push (map (λ (other : TableOf). other.name) desc.tables) table.name
          accepted.table_names (is_name-table desc table fine) absent);
      each = each_place-push (IsTable more) desc.tables made
          (λ number other there. IsTable-more (length desc.tables) desc more number other
          (Grows-table desc made)
          (omega (arith, slice_get_within desc.tables number other there))
          (accepted.each number other there))
          (IsTable-more (length desc.tables) desc more (length desc.tables) made
          (Grows-table desc made) (omega arith)
          (IsTable-read desc table (read_width table.width) accepted said fine refl));
    }

-- what a line declares keeps a description accepted
pub IsAccepted-declared : (desc : DescOf) (line : WrittenLineOf) → IsAccepted desc
    → IsSaidLine line → cause_of desc line ≡ None → IsAccepted (with_declared desc line)
IsAccepted-declared desc (FeedLine name header) accepted said none =
    IsAccepted-feed desc name header accepted none
IsAccepted-declared desc (TableLine table) accepted said none =
    IsAccepted-table desc table accepted said none

-- so does a line that may be bad
IsAccepted-written : (desc new : DescOf) (text : List ℕ) (line : Option WrittenLineOf)
    → IsAccepted desc → is_line_text text ≡ true → line_of (words text) ≡ line
    → with_written desc line ≡ Ok new → IsAccepted new
IsAccepted-written desc new text None accepted is_text is made = absurd cc
IsAccepted-written desc new text (Some line) accepted is_text is made =
    by_cause (cause_of desc line) refl made
  where
    by_cause : (cause : Option DescCause) → cause_of desc line ≡ cause
        → unless_bad desc line cause ≡ Ok new → IsAccepted new
    by_cause None fine made =
        subst IsAccepted (let same : with_declared desc line ≡ new = cc in same)
        (IsAccepted-declared desc line accepted (IsSaidLine-read text line is_text is) fine)
    by_cause (Some cause) fine made = absurd cc

-- and a line of a text
IsAccepted-line : (desc new : DescOf) (line : List ℕ) → IsAccepted desc
    → with_line desc line ≡ Ok new → IsAccepted new
IsAccepted-line desc new line accepted made =
    by_tests (is_skipped (words line)) (is_line_text line) refl made
  where
    by_tests : (skipped text : Bool) → is_line_text line ≡ text → (if skipped then Ok desc
        else if text then with_written desc (line_of (words line))
        else Err cause.BadLine) ≡ Ok new → IsAccepted new
    by_tests true text is made = subst IsAccepted (let same : desc ≡ new = cc in same) accepted
    by_tests false true is made =
        IsAccepted-written desc new line (line_of (words line)) accepted is refl made
    by_tests false false is made = absurd cc

-- and the lines of a text
pub IsAccepted-lines : (number : ℕ) (desc new : DescOf) (lines : List (List ℕ)) → IsAccepted desc
    → with_lines number desc lines ≡ Ok new → IsAccepted new
IsAccepted-lines number desc new [] accepted made =
    subst IsAccepted (let same : desc ≡ new = cc in same) accepted
IsAccepted-lines number desc new (line ∷ others) accepted made =
    by_line (with_line desc line) refl made
    (λ next. IsAccepted-lines (number + 1) next new others)
  where
    by_line : (read : Result DescOf DescCause) → with_line desc line ≡ read
        → then_lines number read (λ desc. with_lines (number + 1) desc others) ≡ Ok new
        → ((next : DescOf) → IsAccepted next → with_lines (number + 1) next others ≡ Ok new
        → IsAccepted new)
        → IsAccepted new
    by_line (Ok next) is made rest = rest next (IsAccepted-line desc next line accepted is) made
    by_line (Err cause) is made rest = absurd cc

-- nothing is accepted
pub IsAccepted-none : IsAccepted no_desc
IsAccepted-none = record {
  feeds = omega arith;
  tables = omega arith;
  feed_names = record { each = All-nil (λ name. is_name name ≡ true); different = refl };
  table_names = record { each = All-nil (λ name. is_name name ≡ true); different = refl };
  each = λ number table there. absurd cc;
}

-- what a text declares is accepted
pub described-accepted : (text : List ℕ) (desc : DescOf) → described text ≡ Ok desc
    → IsAccepted desc
described-accepted text desc made = IsAccepted-lines 1 no_desc desc (lines_of text) IsAccepted-none made
