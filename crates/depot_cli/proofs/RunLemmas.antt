-- The run of an input, by its description and the session after it.
use Rattle.std.proofs.Common.{◌≡◌, ℕ, List, length, refl, sym, ap, ◌∙◌, subst, IfSome}
use Rattle.std.specs.Prelude.{Option, Result, Ok, Err}
use Rattle.std.proofs.KnownBytes.{Appends-nil}
use Rattle.depot_cli.specs.declared.script.ScriptFault.{ScriptFault}
use Rattle.depot_cli.specs.declared.script.ScriptFault.TheVariants.{Input, ReadFault, Memory}
use Rattle.depot_cli.specs.declared.run.status.Status.{Status}
use Rattle.depot_cli.specs.declared.run.status.Status.TheVariants as status
use Rattle.table_desc.specs.declared.fault.BadLine.{BadLine}
use Rattle.desc_types.specs.Descriptions.{DescOf}
use Rattle.table_desc.specs.Described.{read_of}
use Rattle.table_desc.specs.Drafts.{DraftOf, drafted}
use Rattle.desc_types.specs.declared.accepted.AcceptedDesc.{AcceptedDesc}
use Rattle.depot_cli.specs.Reading.{OpeningEnd, Go, Broken, Script, Unopened, Misdescribed, Serving}
use Rattle.depot_cli.specs.Reading.{opening, reading, script_at, script_after, session}
use Rattle.depot_cli.specs.ScriptCalls.{IsBeforeGo, IsLeftOf, IsOpening, status_of_fault}
use Rattle.depot_cli.specs.Runs.{GainsFrontOf, GainsTakenOf, IsRun}
use Rattle.depot_cli.proofs.KnownLemmas.{IfSome-each}
use Rattle.depot_cli.proofs.EndLemmas.{GainsFront-start, GainsTaken-start}

-- the script after the lines of a description
reading-opened : (input : List ℕ) (draft : DraftOf) (read : Result DescOf BadLine) (taken : ℕ)
    (rest : List ℕ)
    → draft ≡ drafted (opening input).lines → (opening input).end ≡ Go taken rest
    → draft.read ≡ read
    → reading input ≡ script_after taken rest read
reading-opened input draft read taken rest declares ends is_read =
    ap (λ (draft : DraftOf). script_at draft.read (opening input).end) (sym declares)
    ∙ ap (λ (end : OpeningEnd). script_at draft.read end) ends
    ∙ ap (script_after taken rest) is_read

-- the run of a session after an accepted description is the run of the input
pub IsRun-opened : (input : List ℕ) (draft : DraftOf) (desc : DescOf) (taken : ℕ)
    (left : Option (List ℕ)) (got_before got_now left_now : Option (List ℕ)) (room : Option ℕ)
    (ended : Status)
    → IsOpening (opening input) taken left (Ok draft) → draft.read ≡ Ok desc
    → IfSome left (λ rest.
    IsRun (Serving desc (session desc taken rest)) got_before got_now left_now room ended)
    → IsRun (reading input) got_before got_now left_now room ended
IsRun-opened input draft desc taken left got_before got_now left_now room ended opened is_read
    served =
    let P : Option (List ℕ) → Type 0 = λ left. IfSome left (λ rest.
    IsRun (Serving desc (session desc taken rest)) got_before got_now left_now room ended) in
    subst (λ (script : Script). IsRun script got_before got_now left_now room ended)
    (sym (reading-opened input draft (Ok desc) taken opened.0 opened.1 opened.2 is_read))
    (subst P opened.3 served)

-- nothing was put, whatever the reading is
GainsFrontOf-start : (script : Script) (got : Option (List ℕ)) → GainsFrontOf script got got
GainsFrontOf-start (Unopened why place rest) got = Appends-nil got
GainsFrontOf-start (Misdescribed bad rest) got = Appends-nil got
GainsFrontOf-start (Serving desc session) got = GainsFront-start desc session got

-- nothing was put, and nothing after the description was taken
GainsTakenOf-after : (base : ℕ) (rest : List ℕ) (read : Result DescOf BadLine)
    (got left : Option (List ℕ))
    → IsLeftOf left (length rest)
    → GainsTakenOf (script_after base rest read) got got left
GainsTakenOf-after base rest (Ok desc) got left is_left =
    GainsTaken-start desc base rest got left is_left
GainsTakenOf-after base rest (Err bad) got left is_left = Appends-nil got

-- nothing was put, and nothing after the `go` line was taken
GainsTakenOf-start : (read : Result DescOf BadLine) (end : OpeningEnd)
    (got left : Option (List ℕ))
    → IsBeforeGo end left
    → GainsTakenOf (script_at read end) got got left
GainsTakenOf-start read (Go taken rest) got left is_left =
    GainsTakenOf-after taken rest read got left is_left
GainsTakenOf-start read (Broken why place rest) got left is_left = Appends-nil got

-- the run of an input whose description was not read
pub IsRun-unopened : (input : List ℕ) (got left : Option (List ℕ)) (room : Option ℕ)
    (fault : ScriptFault)
    → IsOpening (opening input) 0 left (Err fault)
    → IsRun (reading input) got got left room (status_of_fault fault)
IsRun-unopened input got left room (Input why place) breaks =
    subst (λ (end : OpeningEnd).
    IsRun (script_at (drafted (opening input).lines).read end) got got left room
    (status.Input why place))
    (sym breaks.1)
    (record {
      told = refl;
      gains = Appends-nil got;
      left = λ whole. breaks.2;
      fits = λ room blamed. cc;
    })
IsRun-unopened input got left room ReadFault is_before = record {
  told = tt;
  gains = GainsTakenOf-start (drafted (opening input).lines).read (opening input).end got left
      is_before;
  left = λ whole. cc;
  fits = λ room blamed. cc;
}
IsRun-unopened input got left room Memory breaks = record {
  told = tt;
  gains = GainsFrontOf-start (reading input) got;
  left = λ whole. cc;
  fits = λ room blamed. cc;
}

-- the run of an input whose description is not accepted
pub IsRun-misdescribed : (input : List ℕ) (draft : DraftOf) (taken : ℕ) (bad : BadLine)
    (got left : Option (List ℕ)) (room : Option ℕ)
    → IsOpening (opening input) taken left (Ok draft) → draft.read ≡ Err bad
    → IsRun (reading input) got got left room (status.BadDescription bad.line bad.cause)
IsRun-misdescribed input draft taken bad got left room opened is_read =
    subst (λ (script : Script). IsRun script got got left room
    (status.BadDescription bad.line bad.cause))
    (sym (reading-opened input draft (Err bad) taken opened.0 opened.1 opened.2 is_read))
    (record {
      told = refl;
      gains = Appends-nil got;
      left = λ whole. opened.3;
      fits = λ room blamed. cc;
    })

-- what was read, where it is a description
pub read_of-ok : (read : Result AcceptedDesc BadLine) (served : AcceptedDesc)
    (found : Result DescOf BadLine)
    → read_of read ≡ found → read ≡ Ok served → found ≡ Ok served.desc
read_of-ok read served found is_found is_ok =
    sym is_found ∙ ap (λ (read : Result AcceptedDesc BadLine). read_of read) is_ok

-- what was read, where it is a bad line
pub read_of-err : (read : Result AcceptedDesc BadLine) (bad : BadLine)
    (found : Result DescOf BadLine)
    → read_of read ≡ found → read ≡ Err bad → found ≡ Err bad
read_of-err read bad found is_found is_err =
    sym is_found ∙ ap (λ (read : Result AcceptedDesc BadLine). read_of read) is_err

-- a run of which nothing was asked
pub IsRun-usage : (got left left_now : Option (List ℕ)) (room : Option ℕ)
    → IfSome left (λ input. IsRun (reading input) got got left_now room status.Usage)
IsRun-usage got left left_now room =
    IfSome-each left (λ input. IsRun (reading input) got got left_now room status.Usage)
    (λ input. record {
      told = tt;
      gains = Appends-nil got;
      left = λ whole. cc;
      fits = λ room blamed. cc;
    })

-- a session for which there was no memory at its start
pub IsRun-unserved : (desc : DescOf) (base : ℕ) (got left left_now : Option (List ℕ))
    (room : Option ℕ)
    → IfSome left (λ input.
    IsRun (Serving desc (session desc base input)) got got left_now room status.Memory)
IsRun-unserved desc base got left left_now room =
    IfSome-each left
    (λ input. IsRun (Serving desc (session desc base input)) got got left_now room status.Memory)
    (λ input. record {
      told = tt;
      gains = GainsFront-start desc (session desc base input) got;
      left = λ whole. cc;
      fits = λ room blamed. cc;
    })
