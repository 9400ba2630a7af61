-- How a session ends early, by what was served of it: by an input that cannot be read on, by a
-- fault of a device or for want of memory. There is one lemma for each call at which it may end.
use Rattle.std.proofs.Common.{◌≡◌, ℕ, suc, ◌+◌, ◌≤◌, List, [], ◌∷◌, ◌++◌, length, Bool, refl, sym}
use Rattle.std.proofs.Common.{ap, ◌∙◌, arith, append-nil, drop, length-append, subst, take}
use Rattle.std.proofs.Math.Seq.{drop-append_seam, take-append_seam}
use Rattle.std.specs.Prelude.{IfSome, Option, Some, Ok, Err, All}
use Rattle.std.specs.Io.KnownBytes.{Appends}
use Rattle.std.proofs.KnownBytes.{Appends-nil, Appends-trans}
use Rattle.desc_types.specs.Descriptions.{DescOf}
use Rattle.depot_io.specs.Puts.{GainsPrefix, HasRoomFor, room_after}
use Rattle.depot_cli.proofs.RoomLemmas.{HasRoomFor-next, IsReplyRoom-Err, length-replies_front}
use Rattle.depot_cli.specs.declared.script.ScriptFault.{ScriptFault}
use Rattle.depot_cli.specs.declared.script.ScriptFault.TheVariants.{Input, ReadFault, Memory}
use Rattle.depot_cli.specs.declared.run.status.Status.{Status}
use Rattle.depot_cli.specs.declared.run.status.Status.TheVariants as status
use Rattle.depot_cli.specs.declared.script.work.Work.{Work}
use Rattle.depot_cli.specs.Reading.{Serving, Session, Step, Does, session, session_at, session_from}
use Rattle.depot_cli.specs.Reading.{step_of}
use Rattle.depot_cli.specs.ScriptCalls.{IsLeftOf, IsReplied, IsReplyRoom, IsStep, status_of_fault}
use Rattle.depot_cli.specs.SerialJournal.{Made, made_by, nothing}
use Rattle.depot_cli.specs.Replies.{replies, reply}
use Rattle.depot_cli.specs.Runs.{GainsFront, GainsTaken, IsRun, first_replies, reply_at}
use Rattle.depot_cli.proofs.KnownLemmas.{IfSome-known}
use Rattle.depot_cli.proofs.DueLemmas.{All-undone, All-untaken}
use Rattle.depot_cli.proofs.SessionLemmas.{Appends-reply, HasServed, after_items, session_next}

-- the replies to the items in front of others
first_replies-served : (desc : DescOf) (session : Session) (items more : List Work)
    → session.items ≡ items ++ more
    → replies desc 1 nothing items ≡ first_replies desc session (length items)
first_replies-served desc session items more splits =
    ap (λ (items : List Work). replies desc 1 nothing items)
    (sym (ap (λ (all : List Work). take (length items) all) splits ∙ take-append_seam items more))

-- the reply to the item after others
reply_at-served : (desc : DescOf) (session : Session) (items more : List Work) (work : Work)
    → session.items ≡ items ++ work ∷ more
    → reply desc (1 + length items) (made_by desc nothing items) work
    ≡ reply_at desc session (length items)
reply_at-served desc session items more work splits =
    sym (ap (λ (front : List Work). replies desc (1 + length items) (made_by desc nothing front)
    (take 1 (drop (length items) session.items)))
    (ap (λ (all : List Work). take (length items) all) splits
    ∙ take-append_seam items (work ∷ more))
    ∙ ap (λ (behind : List Work). replies desc (1 + length items) (made_by desc nothing items)
    (take 1 behind))
    (ap (λ (all : List Work). drop (length items) all) splits
    ∙ drop-append_seam items (work ∷ more))
    ∙ append-nil (reply desc (1 + length items) (made_by desc nothing items) work))

-- items are no more than they are with others after them
length-front : (all items more : List Work) → all ≡ items ++ more → length items ≤ length all
length-front all items more splits = omega (arith, ap length splits, length-append items more)

-- the first items were replied to, and nothing more was put
GainsFront-served : (desc : DescOf) (session : Session) (items more : List Work)
    (got_before got_now : Option (List ℕ))
    → session.items ≡ items ++ more
    → Appends got_before got_now (replies desc 1 nothing items)
    → GainsFront desc session got_before got_now
GainsFront-served desc session items more got_before got_now splits replied = record {
  many = length items;
  within = length-front session.items items more splits;
  front = 0;
  gained = subst (λ (text : List ℕ). Appends got_before got_now text)
      (first_replies-served desc session items more splits
      ∙ sym (append-nil (first_replies desc session (length items))))
      replied;
}

-- nothing was put
pub GainsFront-start : (desc : DescOf) (session : Session) (got : Option (List ℕ))
    → GainsFront desc session got got
GainsFront-start desc session got =
    GainsFront-served desc session [] session.items got got refl (Appends-nil got)

-- the first items were replied to, and of the reply to the next one a front was put
GainsFront-cut : (desc : DescOf) (session : Session) (items more : List Work) (work : Work)
    (got_before got_now got_next : Option (List ℕ))
    → session.items ≡ items ++ work ∷ more
    → Appends got_before got_now (replies desc 1 nothing items)
    → GainsPrefix got_now got_next (reply desc (1 + length items) (made_by desc nothing items) work)
    → GainsFront desc session got_before got_next
GainsFront-cut desc session items more work got_before got_now got_next splits replied cut =
    record {
      many = length items;
      within = length-front session.items items (work ∷ more) splits;
      front = cut.count;
      gained = subst (λ (text : List ℕ). Appends got_before got_next text)
          (ap (λ (text : List ℕ). text
          ++ take cut.count (reply desc (1 + length items) (made_by desc nothing items) work))
          (first_replies-served desc session items (work ∷ more) splits)
          ∙ ap (λ (text : List ℕ). first_replies desc session (length items)
          ++ take cut.count text)
          (reply_at-served desc session items more work splits))
          (Appends-trans got_before got_now got_next (replies desc 1 nothing items)
          (take cut.count (reply desc (1 + length items) (made_by desc nothing items) work))
          replied cut.gained);
    }

-- the first items were replied to, and nothing after them was taken to its last byte
GainsTaken-served : (desc : DescOf) (session : Session) (items more : List Work)
    (dues others : List ℕ) (got_before got_now left : Option (List ℕ))
    → session.items ≡ items ++ more → session.dues ≡ dues ++ others
    → length dues ≡ length items
    → Appends got_before got_now (replies desc 1 nothing items)
    → All (λ (due : ℕ). IsLeftOf left due) others
    → GainsTaken desc session got_before got_now left
GainsTaken-served desc session items more dues others got_before got_now left splits dues_split
    paired replied untaken = record {
      many = length items;
      within = length-front session.items items more splits;
      untaken = subst (λ (dues : List ℕ). All (λ (due : ℕ). IsLeftOf left due) dues)
          (sym (drop-append_seam dues others)
          ∙ ap (λ (number : ℕ). drop number (dues ++ others)) paired
          ∙ ap (λ (all : List ℕ). drop (length items) all) (sym dues_split))
          untaken;
      gained = subst (λ (text : List ℕ). Appends got_before got_now text)
          (first_replies-served desc session items more splits) replied;
    }

-- nothing was put, and nothing was taken
pub GainsTaken-start : (desc : DescOf) (base : ℕ) (bytes : List ℕ) (got left : Option (List ℕ))
    → IsLeftOf left (length bytes)
    → GainsTaken desc (session desc base bytes) got got left
GainsTaken-start desc base bytes got left is_left =
    GainsTaken-served desc (session desc base bytes) [] (session desc base bytes).items []
    (session desc base bytes).dues got got left refl refl refl (Appends-nil got)
    (All-untaken desc base (suc (length bytes)) 0 bytes left is_left)

-- where a session ends after items, the replies to them are those to all
replies-all : (desc : DescOf) (items : List Work) (got_before got_now : Option (List ℕ))
    → Appends got_before got_now (replies desc 1 nothing items)
    → Appends got_before got_now (replies desc 1 nothing (items ++ []))
replies-all desc items got_before got_now replied =
    subst (λ (items : List Work). Appends got_before got_now (replies desc 1 nothing items))
    (sym (append-nil items)) replied

-- the run of a session whose next step was not read
IsRun-fault : (desc : DescOf) (base turns taken taken_now : ℕ) (bytes : List ℕ) (step : Step)
    (items : List Work) (dues : List ℕ) (got_before got_now left : Option (List ℕ))
    (room : Option ℕ) (fault : ScriptFault)
    → step_of desc base taken bytes ≡ step
    → length dues ≡ length items
    → Appends got_before got_now (replies desc 1 nothing items)
    → IsStep step taken_now left (Err fault)
    → IsRun (Serving desc (after_items items dues (session_at (session_from desc base turns) step)))
    got_before got_now left room (status_of_fault fault)
IsRun-fault desc base turns taken taken_now bytes step items dues got_before got_now left room
    (Input why place) is_step paired replied stops =
    subst (λ (step : Step). IsRun (Serving desc (after_items items dues
    (session_at (session_from desc base turns) step)))
    got_before got_now left room (status.Input why place))
    (sym stops.1)
    (record {
      told = refl;
      gains = replies-all desc items got_before got_now replied;
      left = λ whole. stops.2;
      fits = λ room blamed. cc;
    })
IsRun-fault desc base turns taken taken_now bytes step items dues got_before got_now left room
    ReadFault is_step paired replied undone =
    let more = session_at (session_from desc base turns) step in
    record {
      told = tt;
      gains = GainsTaken-served desc (after_items items dues more) items more.items dues more.dues
          got_before got_now left refl refl paired replied
          (All-undone desc base turns taken bytes step left is_step undone);
      left = λ whole. cc;
      fits = λ room blamed. cc;
    }
IsRun-fault desc base turns taken taken_now bytes step items dues got_before got_now left room
    Memory is_step paired replied stops =
    let more = session_at (session_from desc base turns) step in
    record {
      told = tt;
      gains = GainsFront-served desc (after_items items dues more) items more.items got_before
          got_now refl replied;
      left = λ whole. cc;
      fits = λ room blamed. cc;
    }

-- the run of a session whose next item was not replied to
IsRun-unreplied : (desc : DescOf) (more : List Work) (session : Session) (items : List Work)
    (work : Work) (got_before got_now got_next left : Option (List ℕ)) (room : Option ℕ)
    (ended : Status)
    → session.items ≡ items ++ work ∷ more
    → Appends got_before got_now (replies desc 1 nothing items)
    → IsReplied {T = Unit {0}} got_now got_next
    (reply desc (1 + length items) (made_by desc nothing items) work) (Err ended)
    → (HasRoomFor room (length (replies desc 1 nothing session.items)) → ended ≡ status.WriteFault → ⊥)
    → IsRun (Serving desc session) got_before got_next left room ended
IsRun-unreplied desc more session items work got_before got_now got_next left room
    status.WriteFault splits replied cut fits = record {
      told = tt;
      gains = GainsFront-cut desc session items more work got_before got_now got_next splits replied
          cut;
      left = λ whole. cc;
      fits = fits;
    }
IsRun-unreplied desc more session items work got_before got_now got_next left room status.Memory
    splits replied kept fits = record {
      told = tt;
      gains = GainsFront-served desc session items (work ∷ more) got_before got_next splits
          (Appends-reply got_before got_now got_next (replies desc 1 nothing items) []
          (replies desc 1 nothing items) replied kept (append-nil (replies desc 1 nothing items)));
      left = λ whole. cc;
      fits = fits;
    }
IsRun-unreplied desc more session items work got_before got_now got_next left room status.Done
    splits replied never fits = absurd never
IsRun-unreplied desc more session items work got_before got_now got_next left room status.Refused
    splits replied never fits = absurd never
IsRun-unreplied desc more session items work got_before got_now got_next left room status.Usage
    splits replied never fits = absurd never
IsRun-unreplied desc more session items work got_before got_now got_next left room
    (status.BadDescription line cause) splits replied never fits = absurd never
IsRun-unreplied desc more session items work got_before got_now got_next left room
    (status.Input why place) splits replied never fits = absurd never
IsRun-unreplied desc more session items work got_before got_now got_next left room
    status.ReadFault splits replied never fits = absurd never

-- the next step could not be read
pub IsRun-stopped : (desc : DescOf) (base : ℕ) (whole : Session)
    (got_before got_now : Option (List ℕ)) (room_before room_now : Option ℕ)
    (made : Made) (line : ℕ) (refused : Bool)
    (taken taken_now : ℕ) (left left_now : Option (List ℕ)) (fault : ScriptFault)
    → HasServed desc base whole got_before got_now room_before room_now made line refused taken
    left
    → IfSome left (λ bytes.
    IsStep (step_of desc base taken bytes) taken_now left_now (Err fault))
    → IsRun (Serving desc whole) got_before got_now left_now room_before (status_of_fault fault)
IsRun-stopped desc base whole got_before got_now room_before room_now made line refused taken
    taken_now left left_now fault served stepped =
    subst (λ (whole : Session). IsRun (Serving desc whole) got_before got_now left_now room_before
    (status_of_fault fault))
    served.goes_on
    (IsRun-fault desc base served.turns taken taken_now served.rest
    (step_of desc base taken served.rest) served.items served.dues got_before got_now left_now
    room_before fault refl served.paired served.replied (IfSome-known left served.rest
    (λ bytes. IsStep (step_of desc base taken bytes) taken_now left_now (Err fault))
    served.is_left stepped))

-- a reply that could not be put did not fit the room, and so not all replies do
unfit-reply : (desc : DescOf) (whole : Session) (items more : List Work) (work : Work)
    (room_before room_now : Option ℕ) (ended : Status)
    → whole.items ≡ items ++ work ∷ more
    → (HasRoomFor room_before (length (replies desc 1 nothing whole.items))
    → room_now ≡ room_after room_before (length (replies desc 1 nothing items)))
    → IsReplyRoom {T = Unit {0}} room_now room_now
    (reply desc (1 + length items) (made_by desc nothing items) work) (Err ended)
    → HasRoomFor room_before (length (replies desc 1 nothing whole.items))
    → ended ≡ status.WriteFault → ⊥
unfit-reply desc whole items more work room_before room_now ended splits before unfit fits blamed =
    let text = reply desc (1 + length items) (made_by desc nothing items) work in
    let P : Status → Type 0 = λ ended. IsReplyRoom {T = Unit {0}} room_now room_now text (Err
    ended) in
    subst P blamed unfit
    (HasRoomFor-next room_before room_now (length (replies desc 1 nothing items)) (length text)
    (length (replies desc 1 nothing whole.items))
    (length-replies_front desc whole.items items more work splits) before fits)

-- the next item could not be replied to
pub IsRun-cut : (desc : DescOf) (base : ℕ) (whole : Session)
    (got_before got_now got_next : Option (List ℕ)) (room_before room_now room_next : Option ℕ)
    (made : Made) (line : ℕ)
    (refused : Bool) (taken taken_now : ℕ) (left left_now : Option (List ℕ)) (work : Work)
    (ended : Status)
    → HasServed desc base whole got_before got_now room_before room_now made line refused taken
    left
    → IfSome left (λ bytes.
    IsStep (step_of desc base taken bytes) taken_now left_now (Ok (Some work)))
    → IsReplied {T = Unit {0}} got_now got_next (reply desc line made work) (Err ended)
    → IsReplyRoom {T = Unit {0}} room_now room_next (reply desc line made work) (Err ended)
    → IsRun (Serving desc whole) got_before got_next left_now room_before ended
IsRun-cut desc base whole got_before got_now got_next room_before room_now room_next made line
    refused taken taken_now left left_now work ended served stepped cut unfit =
    let step = IfSome-known left served.rest
    (λ bytes. IsStep (step_of desc base taken bytes) taken_now left_now (Ok (Some work)))
    served.is_left stepped in
    let goes_on = session_next desc base served.turns taken served.rest served.items served.dues
    whole (Does work step.due taken_now step.rest) step.does served.goes_on in
    let more = (session_from desc base served.turns taken_now step.rest).items in
    let splits : whole.items ≡ served.items ++ work ∷ more =
    sym (ap (λ (session : Session). session.items) goes_on) in
    let at_item : reply desc line made work
    ≡ reply desc (1 + length served.items) (made_by desc nothing served.items) work =
    ap (λ (line : ℕ). reply desc line made work) served.counted
    ∙ ap (λ (made : Made). reply desc (1 + length served.items) made work)
    served.is_made in
    IsRun-unreplied desc more whole served.items work got_before got_now got_next left_now
    room_before ended splits served.replied
    (subst (λ (text : List ℕ). IsReplied {T = Unit {0}} got_now got_next text (Err ended)) at_item
    cut)
    (unfit-reply desc whole served.items more work room_before room_now ended splits served.room
    (IsReplyRoom-Err room_now room_next _ ended
    (subst (λ (text : List ℕ). IsReplyRoom {T = Unit {0}} room_now room_next text (Err ended))
    at_item unfit)))
