-- A run that neither a device nor want of memory ended is complete.
use Rattle.std.proofs.Common.{◌≡◌, ℕ, List, [], length, Bool, true, false, refl, sym, inl, inr}
use Rattle.std.proofs.Common.{subst}
use Rattle.std.specs.Prelude.{Option, if◌then◌else◌, ◌⊎◌}
use Rattle.std.specs.Io.KnownBytes.{Appends}
use Rattle.depot_io.specs.Causes.{Rose}
use Rattle.depot_io.specs.Puts.{HasRoomFor}
use Rattle.depot_cli.specs.declared.run.status.Status.TheVariants as status
use Rattle.desc_causes.specs.declared.cause.DescCause.{DescCause}
use Rattle.depot_cli.specs.Reading.{Script, Unopened, Misdescribed, Serving, Session, SessionEnd}
use Rattle.depot_cli.specs.Reading.{Ended, Stopped}
use Rattle.depot_cli.specs.Replies.{has_refused}
use Rattle.depot_cli.specs.Runs.{HasCompleteRuns, IsRun, replies_of, session_status}
use Rattle.depot_cli.specs.Runs.{status_of}

-- a session does not end with a bad description
session_status-accepted : (session : Session) (end : SessionEnd) (line : ℕ) (cause : DescCause)
    → session_status session end ≡ status.BadDescription line cause → ⊥
session_status-accepted session (Ended rest) line cause same =
    by_refused (has_refused session.items) same
  where
    by_refused : (refused : Bool)
        → (if refused then status.Refused else status.Done) ≡ status.BadDescription line cause → ⊥
    by_refused true same = cc
    by_refused false same = cc
session_status-accepted session (Stopped why place rest) line cause same = cc

-- a bad description has no replies
replies_of-misdescribed : (script : Script) (line : ℕ) (cause : DescCause)
    → status_of script ≡ status.BadDescription line cause → replies_of script ≡ []
replies_of-misdescribed (Unopened why place rest) line cause same = refl
replies_of-misdescribed (Misdescribed bad rest) line cause same = refl
replies_of-misdescribed (Serving desc session) line cause same =
    absurd (session_status-accepted session session.end line cause same)

-- the sink is not blamed, since it has room or does not fail
unblamed : (script : Script) (got_before got_now left_now : Option (List ℕ)) (room : Option ℕ)
    (before now : ℕ)
    → IsRun script got_before got_now left_now room status.WriteFault
    → Rose before now
    → HasRoomFor room (length (replies_of script)) ⊎ (Rose before now → ⊥) → ⊥
unblamed script got_before got_now left_now room before now run rose (inl fits) =
    run.fits fits refl
unblamed script got_before got_now left_now room before now run rose (inr never) = never rose

-- a run of a command is complete, or had no memory
pub IsRun-complete : HasCompleteRuns
IsRun-complete script got_before got_now left_now room status.Done rb rn wb wn run causes command
    no_read writes = inl (record { told = sym run.told; replied = run.gains; left = run.left refl })
IsRun-complete script got_before got_now left_now room status.Refused rb rn wb wn run causes command
    no_read writes = inl (record { told = sym run.told; replied = run.gains; left = run.left refl })
IsRun-complete script got_before got_now left_now room status.Usage rb rn wb wn run causes command
    no_read writes = absurd (command refl)
IsRun-complete script got_before got_now left_now room (status.BadDescription line cause) rb rn wb
    wn run causes command no_read writes = inl (record {
      told = sym run.told;
      replied = subst (λ (text : List ℕ). Appends got_before got_now text)
          (sym (replies_of-misdescribed script line cause run.told)) run.gains;
      left = run.left refl;
    })
IsRun-complete script got_before got_now left_now room (status.Input why place) rb rn wb wn run
    causes command no_read writes =
    inl (record { told = sym run.told; replied = run.gains; left = run.left refl })
IsRun-complete script got_before got_now left_now room status.ReadFault rb rn wb wn run causes
    command no_read writes = absurd (no_read causes.read)
IsRun-complete script got_before got_now left_now room status.WriteFault rb rn wb wn run causes
    command no_read writes =
    absurd (unblamed script got_before got_now left_now room wb wn run causes.write writes)
IsRun-complete script got_before got_now left_now room status.Memory rb rn wb wn run causes command
    no_read writes = inr refl
