-- The room that a sink tells, as replies are put into it one after the other.
use Rattle.std.proofs.Common.{◌≡◌, ℕ, ◌+◌, ◌≤◌, List, ◌∷◌, ◌++◌, length, ap, sym, ◌∙◌, subst}
use Rattle.std.proofs.Common.{arith, length-append}
use Rattle.std.specs.Prelude.{Option, Err}
use Rattle.desc_types.specs.Descriptions.{DescOf}
use Rattle.depot_io.specs.Puts.{HasRoomFor, room_after}
use Rattle.depot_io.proofs.RoomLemmas.{HasRoomFor-append, HasRoomFor-le, room_after-append}
use Rattle.depot_cli.specs.declared.run.status.Status.{Status}
use Rattle.depot_cli.specs.declared.run.status.Status.TheVariants as status
use Rattle.depot_cli.specs.declared.script.work.Work.{Work}
use Rattle.depot_cli.specs.ScriptCalls.{IsReplyRoom}
use Rattle.depot_cli.specs.SerialJournal.{after, made_by, nothing}
use Rattle.depot_cli.specs.Replies.{replies, reply}
use Rattle.depot_cli.proofs.ReplyListLemmas.{replies-append}

-- what comes next fits the room that is left, if all fits
pub HasRoomFor-next : (before now : Option ℕ) (first second all : ℕ)
    → first + second ≤ all
    → (HasRoomFor before all → now ≡ room_after before first)
    → HasRoomFor before all → HasRoomFor now second
HasRoomFor-next before now first second all within is_after fits =
    subst (λ (room : Option ℕ). HasRoomFor room second) (sym (is_after fits))
    (HasRoomFor-append before first second
    (HasRoomFor-le before (first + second) all within fits))

-- what is put next lowers the room further
pub room_after-step : (before now next : Option ℕ) (first second all : ℕ)
    → first + second ≤ all
    → (HasRoomFor before all → now ≡ room_after before first)
    → (HasRoomFor now second → next ≡ room_after now second)
    → HasRoomFor before all → next ≡ room_after before (first + second)
room_after-step before now next first second all within is_after takes fits =
    takes (HasRoomFor-next before now first second all within is_after fits)
    ∙ ap (λ (room : Option ℕ). room_after room second) (is_after fits)
    ∙ room_after-append before first second

-- the replies to items and the reply to the next one are no longer than the replies to all
pub length-replies_front : (desc : DescOf) (all items more : List Work) (work : Work)
    → all ≡ items ++ work ∷ more
    → length (replies desc 1 nothing items)
    + length (reply desc (1 + length items) (made_by desc nothing items) work)
    ≤ length (replies desc 1 nothing all)
length-replies_front desc all items more work splits =
    let front = replies desc 1 nothing items in
    let rest = replies desc (1 + length items) (made_by desc nothing items) (work ∷ more) in
    let whole : replies desc 1 nothing all ≡ front ++ rest =
    ap (λ (all : List Work). replies desc 1 nothing all) splits
    ∙ replies-append desc 1 nothing items (work ∷ more) in
    omega (
      arith,
      ap length whole,
      length-append front rest,
      length-append (reply desc (1 + length items) (made_by desc nothing items) work)
          (replies desc (1 + length items + 1)
          (after desc (made_by desc nothing items) work) more),
    )

-- what a failed reply says of the room does not look at the room after it
pub IsReplyRoom-Err : (now next : Option ℕ) (text : List ℕ) (ended : Status)
    → IsReplyRoom {T = Unit {0}} now next text (Err ended)
    → IsReplyRoom {T = Unit {0}} now now text (Err ended)
IsReplyRoom-Err now next text status.WriteFault unfit = unfit
IsReplyRoom-Err now next text status.Done unfit = unfit
IsReplyRoom-Err now next text status.Refused unfit = unfit
IsReplyRoom-Err now next text status.Usage unfit = unfit
IsReplyRoom-Err now next text (status.BadDescription line cause) unfit = unfit
IsReplyRoom-Err now next text (status.Input why place) unfit = unfit
IsReplyRoom-Err now next text status.ReadFault unfit = unfit
IsReplyRoom-Err now next text status.Memory unfit = unfit
