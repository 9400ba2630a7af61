-- Parts of a line that are one word or three: their words say them, and words that say a part are
-- its words.
use Rattle.std.proofs.Common.{◌≡◌, ◌==◌, ◌∙◌, ℕ, List, [], ◌∷◌, Some, true, false, codes, refl, sym}
use Rattle.std.proofs.Common.{ap, subst, eqb-true}
use Rattle.std.proofs.lemmas.Option.{same_Some}
use Rattle.depot_cell.specs.declared.cell.Op.{Op}
use Rattle.depot_cell.specs.declared.cell.Op.TheVariants as op
use Rattle.desc_lines.specs.declared.fun.Fun.{Fun}
use Rattle.desc_lines.specs.declared.fun.Fun.TheVariants as fun
use Rattle.desc_lines.specs.Written.{WrittenColumnOf, WrittenCondOf, WrittenPairOf}
use Rattle.desc_lines.specs.Words.{Lacks}
use Rattle.desc_lines.specs.Cuts.{cut_word, joined}
use Rattle.desc_lines.specs.Lines.{colon, column_of, cond_of, equals, fun_of, op_of, pair_of}
use Rattle.desc_lines.specs.LineTexts.{column_word, cond_words, fun_word, op_word, pair_word}
use Rattle.desc_lines.specs.Whole.{is_count, IsWholeColumn, IsWholePair}
use Rattle.desc_lines.proofs.ListLemmas.{if-word, option_map-some}
use Rattle.desc_lines.proofs.CutLemmas.{cut_at-joined, cut_at-some}
use Rattle.desc_lines.proofs.FrontLemmas.{IsWordOf}

-- a word with a sign is cut there, if its left part lacks the sign
pub cut_word-joined : (left : List ℕ) (sign : ℕ) (right : List ℕ) → Lacks sign left
    → (sign == sign) ≡ true
    → cut_word sign (joined left sign right) ≡ Some (left, right)
cut_word-joined left sign right lacks same =
    cut_at-joined (λ byte. byte == sign) left sign right lacks same

-- a word that is cut is its parts with the sign between them, and the left one lacks the sign
pub record IsCutWord (sign : ℕ) (word left right : List ℕ) : Type 0 where
  pub same : joined left sign right ≡ word
  pub lacks : Lacks sign left

pub cut_word-some : (sign : ℕ) (word left right : List ℕ)
    → cut_word sign word ≡ Some (left, right) → IsCutWord sign word left right
cut_word-some sign word left right cut =
    let parts = cut_at-some (λ byte. byte == sign) word left right cut in
    let same : parts.sign ≡ sign = eqb-true parts.sign sign parts.cuts in
    record {
      same = ap (λ sign. joined left sign right) (sym same) ∙ parts.same;
      lacks = parts.none;
    }

-- a column
pub column_of-word : (column : WrittenColumnOf) → IsWholeColumn column
    → column_of (column_word column) ≡ Some column
column_of-word column whole = rw (cut_word-joined column.name colon column.ty whole refl) refl

pub column_of-some : (word : List ℕ) (column : WrittenColumnOf) → column_of word ≡ Some column
    → IsWordOf column_word IsWholeColumn word column
column_of-some word column said = option_map-some _ (cut_word colon word) column said
    (λ parts cut made. let is_cut = cut_word-some colon word parts.0 parts.1 cut in
    subst (IsWordOf column_word IsWholeColumn word) made
    (record { same = is_cut.same; whole = is_cut.lacks }))

-- a pair
pub pair_of-word : (pair : WrittenPairOf) → IsWholePair pair
    → pair_of (pair_word pair) ≡ Some pair
pair_of-word pair whole = rw (cut_word-joined pair.left equals pair.right whole refl) refl

pub pair_of-some : (word : List ℕ) (pair : WrittenPairOf) → pair_of word ≡ Some pair
    → IsWordOf pair_word IsWholePair word pair
pair_of-some word pair said = option_map-some _ (cut_word equals word) pair said
    (λ parts cut made. let is_cut = cut_word-some equals word parts.0 parts.1 cut in
    subst (IsWordOf pair_word IsWholePair word) made
    (record { same = is_cut.same; whole = is_cut.lacks }))

-- an operator
pub op_of-word : (op : Op) → op_of (op_word op) ≡ Some op
op_of-word op.Eq = refl
op_of-word op.Ne = refl
op_of-word op.Lt = refl
op_of-word op.Le = refl
op_of-word op.Gt = refl
op_of-word op.Ge = refl

op_of-some : (word : List ℕ) (read : Op) → op_of word ≡ Some read → op_word read ≡ word
op_of-some word read said =
    if-word word (codes "=") _ _ read said (found op.Eq) (λ said.
    if-word word (codes "!=") _ _ read said (found op.Ne) (λ said.
    if-word word (codes "<") _ _ read said (found op.Lt) (λ said.
    if-word word (codes "<=") _ _ read said (found op.Le) (λ said.
    if-word word (codes ">") _ _ read said (found op.Gt) (λ said.
    if-word word (codes ">=") _ _ read said (found op.Ge) (λ said. absurd cc))))))
  where
    found : (one : Op) → word ≡ op_word one → Some one ≡ Some read → op_word read ≡ word
    found one same made = subst (λ read. op_word read ≡ word) (same_Some _ _ made) (sym same)

-- a condition
pub cond_of-words : (cond : WrittenCondOf)
    → cond_of cond.column (op_word cond.op) cond.literal ≡ Some cond
cond_of-words cond = rw (op_of-word cond.op) refl

pub cond_of-some : (column op literal : List ℕ) (cond : WrittenCondOf)
    → cond_of column op literal ≡ Some cond → cond_words cond ≡ column ∷ op ∷ literal ∷ []
cond_of-some column word literal cond said = option_map-some _ (op_of word) cond said
    (λ op there made. subst (λ (cond : WrittenCondOf).
    cond_words cond ≡ column ∷ word ∷ literal ∷ []) made
    (ap (λ word. column ∷ word ∷ literal ∷ []) (op_of-some word op there)))

-- a function of a column: no count is
abbrev pub IsOfColumn : Fun → Type 0
IsOfColumn fun = is_count fun ≡ false

pub fun_of-some : (word : List ℕ) (read : Fun) → fun_of word ≡ Some read
    → IsWordOf fun_word IsOfColumn word read
fun_of-some word read said =
    if-word word (codes "sum") _ _ read said (found fun.Sum refl) (λ said.
    if-word word (codes "least") _ _ read said (found fun.Least refl) (λ said.
    if-word word (codes "greatest") _ _ read said (found fun.Greatest refl) (λ said. absurd cc)))
  where
    found : (one : Fun) → IsOfColumn one → word ≡ fun_word one → Some one ≡ Some read
        → IsWordOf fun_word IsOfColumn word read
    found one counts same made = subst (IsWordOf fun_word IsOfColumn word) (same_Some _ _ made)
        (record { same = sym same; whole = counts })
