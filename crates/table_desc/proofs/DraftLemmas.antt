-- Lines that are read one by one: they declare what their text does, `drafted-described`, and that
-- is accepted, `drafted-accepted`.
use Rattle.std.proofs.Common.{◌≡◌, ◌∙◌, ℕ, ◌+◌, List, [], ◌∷◌, Result, Ok, Err, fold, refl, sym}
use Rattle.desc_lines.specs.Texts.{lines_of}
use Rattle.table_desc.specs.declared.fault.BadLine.{BadLine}
use Rattle.desc_causes.specs.declared.cause.DescCause.{DescCause}
use Rattle.desc_types.specs.Descriptions.{DescOf}
use Rattle.desc_types.specs.Accepted.{IsAccepted}
use Rattle.table_desc.specs.Described.{no_desc, then_lines, with_line, with_lines}
use Rattle.table_desc.specs.Drafts.{DraftsTexts, drafted, with_more}
use Rattle.table_desc.proofs.AcceptedLemmas.{IsAccepted-lines, IsAccepted-none}

-- after a bad line it stays what is told
read-bad : (lines : ℕ) (bad : BadLine) (others : List (List ℕ))
    → (fold with_more (record { lines = lines; read = Err bad }) others).read ≡ Err bad
read-bad lines bad [] = refl
read-bad lines bad (line ∷ others) = read-bad (lines + 1) bad others

-- lines one by one declare what they do together
read-lines : (lines : ℕ) (desc : DescOf) (others : List (List ℕ))
    → (fold with_more (record { lines = lines; read = Ok desc }) others).read
    ≡ with_lines (lines + 1) desc others
read-lines lines desc [] = refl
read-lines lines desc (line ∷ others) = by_line (with_line desc line)
    (λ next. read-lines (lines + 1) next others)
  where
    by_line : (read : Result DescOf DescCause)
        → ((next : DescOf)
        → (fold with_more (record { lines = lines + 1; read = Ok next }) others).read
        ≡ with_lines (lines + 1 + 1) next others)
        → (fold with_more (record {
          lines = lines + 1;
          read = then_lines (lines + 1) read (λ desc. Ok desc);
        }) others).read
        ≡ then_lines (lines + 1) read (λ desc. with_lines (lines + 1 + 1) desc others)
    by_line (Ok next) rest = rest next
    by_line (Err cause) rest =
        read-bad (lines + 1) (record { line = lines + 1; cause = cause }) others

-- the lines of a text, one by one, declare what the text does
pub drafted-described : DraftsTexts
drafted-described text = read-lines 0 no_desc (lines_of text)

-- what lines declare one by one is accepted
pub drafted-accepted : (lines : List (List ℕ)) (desc : DescOf) → (drafted lines).read ≡ Ok desc
    → IsAccepted desc
drafted-accepted lines desc made =
    IsAccepted-lines 1 no_desc desc lines IsAccepted-none (sym (read-lines 0 no_desc lines) ∙ made)
