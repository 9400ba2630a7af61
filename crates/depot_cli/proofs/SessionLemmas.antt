-- How far a session was served: what was replied, what was made, and that what is left
-- goes on to the session of the whole input.
use Rattle.std.proofs.Common.{◌≡◌, ℕ, suc, zero, ◌+◌, ◌≤◌, List, [], ◌∷◌, ◌++◌, length, Bool, false}
use Rattle.std.proofs.Common.{refl, sym, ap, ◌∙◌, arith, append_assoc, length-append}
use Rattle.std.proofs.Common.{subst}
use Rattle.std.specs.Prelude.{IfSome, Option, Some, None, Ok, ◌||◌}
use Rattle.std.specs.Io.KnownBytes.{Appends}
use Rattle.std.proofs.KnownBytes.{Appends-nil, Appends-trans}
use Rattle.std.proofs.Math.Bool.{or-false}
use Rattle.std.proofs.lemmas.List.Folds.{list_any-append}
use Rattle.std.proofs.lemmas.List.Sums.{fold-append}
use Rattle.desc_types.specs.Descriptions.{DescOf}
use Rattle.depot_cli.specs.declared.script.work.Work.{Work}
use Rattle.depot_cli.specs.Reading.{Session, Step, Does, after_item, session, session_at}
use Rattle.depot_cli.specs.Reading.{session_from, step_of}
use Rattle.depot_cli.specs.ScriptCalls.{IsStep}
use Rattle.depot_cli.specs.SerialJournal.{Made, after, made_by, nothing}
use Rattle.depot_cli.specs.Replies.{has_refused, is_refused, replies, reply}
use Rattle.depot_cli.proofs.KnownLemmas.{IfSome-known}
use Rattle.depot_cli.proofs.LineLemmas.{step_of-leaves}
use Rattle.depot_cli.proofs.ReplyListLemmas.{replies-push}
use Rattle.depot_cli.proofs.RoomLemmas.{length-replies_front, room_after-step}
use Rattle.depot_io.specs.Puts.{HasRoomFor, room_after}
use Rattle.depot_io.proofs.RoomLemmas.{room_after-empty}

-- a session with these items in front, and what is due of each
abbrev pub after_items : List Work → (dues : List ℕ) → Session → Session
after_items items dues session =
    record session { items = items ++ session.items; dues = dues ++ session.dues }

-- items were served: what they were replied, what they made, and whether one was
-- refused; what is left goes on to the whole session
pub record HasServed (desc : DescOf) (base : ℕ) (whole : Session)
    (got_before got_now : Option (List ℕ)) (room_before room_now : Option ℕ)
    (made : Made) (line : ℕ) (refused : Bool)
    (taken : ℕ) (left : Option (List ℕ)) : Type 0 where
  pub rest : List ℕ
  pub items : List Work
  pub dues : List ℕ
  pub turns : ℕ
  pub is_left : left ≡ Some rest
  pub enough : length rest ≤ turns
  pub paired : length dues ≡ length items
  pub goes_on : after_items items dues (session_from desc base (suc turns) taken rest) ≡ whole
  pub replied : Appends got_before got_now (replies desc 1 nothing items)
  pub room : HasRoomFor room_before (length (replies desc 1 nothing whole.items))
      → room_now ≡ room_after room_before (length (replies desc 1 nothing items))
  pub is_made : made ≡ made_by desc nothing items
  pub counted : line ≡ 1 + length items
  pub told : refused ≡ has_refused items

-- nothing was served
pub HasServed-empty : (desc : DescOf) (base : ℕ) (bytes : List ℕ) (got : Option (List ℕ))
    (room : Option ℕ)
    → HasServed desc base (session desc base bytes) got got room room nothing 1 false 0 (Some bytes)
HasServed-empty desc base bytes got room = record {
  rest = bytes;
  items = [];
  dues = [];
  turns = length bytes;
  is_left = refl;
  enough = omega arith;
  paired = refl;
  goes_on = refl;
  replied = Appends-nil got;
  room = λ fits. sym (room_after-empty room);
  is_made = refl;
  counted = refl;
  told = refl;
}

-- nothing was served of what a source has left
pub HasServed-start : (desc : DescOf) (base : ℕ) (left got : Option (List ℕ)) (room : Option ℕ)
    (made : Made) (taken : ℕ)
    → made ≡ nothing → taken ≡ 0
    → IfSome left (λ input.
    HasServed desc base (session desc base input) got got room room made 1 false taken left)
HasServed-start desc base None got room made taken is_new is_start = tt
HasServed-start desc base (Some input) got room made taken is_new is_start =
    let P : Made → ℕ → Type 0 = λ made taken.
    HasServed desc base (session desc base input) got got room room made 1 false taken (Some
    input) in
    subst (λ (taken : ℕ). P made taken) (sym is_start)
    (subst (λ (made : Made). P made 0) (sym is_new)
    (HasServed-empty desc base input got room))

-- what the session is from here on, at its next step
pub session_next : (desc : DescOf) (base turns taken : ℕ) (rest : List ℕ) (items : List Work)
    (dues : List ℕ) (whole : Session) (step : Step)
    → step_of desc base taken rest ≡ step
    → after_items items dues (session_from desc base (suc turns) taken rest) ≡ whole
    → after_items items dues (session_at (session_from desc base turns) step) ≡ whole
session_next desc base turns taken rest items dues whole step is_step goes_on =
    ap (λ (step : Step). after_items items dues (session_at (session_from desc base turns) step))
    (sym is_step)
    ∙ goes_on

-- one item more at the end of those served
after_items-push : (items : List Work) (dues : List ℕ) (work : Work) (due : ℕ) (session : Session)
    → after_items items dues (after_item work due session)
    ≡ after_items (items ++ work ∷ []) (dues ++ due ∷ []) session
after_items-push items dues work due session =
    ap (λ (all : List Work). record session { items = all; dues = dues ++ due ∷ session.dues })
    (sym (append_assoc items (work ∷ []) session.items))
    ∙ ap (λ (all : List ℕ). record session {
      items = (items ++ work ∷ []) ++ session.items;
      dues = all;
    })
    (sym (append_assoc dues (due ∷ []) session.dues))

-- what was put and then what was put after it
pub Appends-reply : (before now next : Option (List ℕ)) (text more all : List ℕ)
    → Appends before now text → Appends now next more → text ++ more ≡ all → Appends before next all
Appends-reply before now next text more all first second is_all =
    subst (λ (all : List ℕ). Appends before next all) is_all
    (Appends-trans before now next text more first second)

-- what is left after an item goes on to the whole session
goes_on-item : (desc : DescOf) (base turns taken taken_next : ℕ) (before rest : List ℕ)
    (items : List Work) (dues : List ℕ) (work : Work) (due : ℕ) (whole : Session)
    → step_of desc base taken before ≡ Does work due taken_next rest
    → after_items items dues (session_from desc base (suc (suc turns)) taken before) ≡ whole
    → after_items (items ++ work ∷ []) (dues ++ due ∷ [])
    (session_from desc base (suc turns) taken_next rest)
    ≡ whole
goes_on-item desc base turns taken taken_next before rest items dues work due whole step goes_on =
    sym (after_items-push items dues work due (session_from desc base (suc turns) taken_next rest))
    ∙ session_next desc base (suc turns) taken before items dues whole
    (Does work due taken_next rest) step goes_on

-- the reply to an item, by the items before it
reply-item : (desc : DescOf) (items : List Work) (work : Work) (line : ℕ) (made : Made)
    → line ≡ 1 + length items → made ≡ made_by desc nothing items
    → reply desc line made work
    ≡ reply desc (1 + length items) (made_by desc nothing items) work
reply-item desc items work line made counted is_made =
    ap (λ (line : ℕ). reply desc line made work) counted
    ∙ ap (λ (made : Made). reply desc (1 + length items) made work) is_made

-- an item's reply is put after those before it
replied-item : (desc : DescOf) (items : List Work) (work : Work) (text : List ℕ)
    (got_before got_now got_next : Option (List ℕ))
    → text ≡ reply desc (1 + length items) (made_by desc nothing items) work
    → Appends got_before got_now (replies desc 1 nothing items) → Appends got_now got_next text
    → Appends got_before got_next (replies desc 1 nothing (items ++ work ∷ []))
replied-item desc items work text got_before got_now got_next is_reply replied put =
    Appends-reply got_before got_now got_next _ _ _ replied put
    (ap (λ (text : List ℕ). replies desc 1 nothing items ++ text) is_reply
    ∙ sym (replies-push desc items work))

-- an item's reply lowers the room that those before it left, if all replies fit
room-item : (desc : DescOf) (all items more : List Work) (work : Work) (text : List ℕ)
    (room_before room_now room_next : Option ℕ)
    → all ≡ items ++ work ∷ more
    → text ≡ reply desc (1 + length items) (made_by desc nothing items) work
    → (HasRoomFor room_before (length (replies desc 1 nothing all))
    → room_now ≡ room_after room_before (length (replies desc 1 nothing items)))
    → (HasRoomFor room_now (length text) → room_next ≡ room_after room_now (length text))
    → HasRoomFor room_before (length (replies desc 1 nothing all))
    → room_next ≡ room_after room_before (length (replies desc 1 nothing (items ++ work ∷ [])))
room-item desc all items more work text room_before room_now room_next splits is_reply before takes
    fits =
    let its_reply = reply desc (1 + length items) (made_by desc nothing items) work in
    room_after-step room_before room_now room_next (length (replies desc 1 nothing items))
    (length its_reply) (length (replies desc 1 nothing all))
    (length-replies_front desc all items more work splits) before
    (subst (λ (text : List ℕ). HasRoomFor room_now (length text)
    → room_next ≡ room_after room_now (length text)) is_reply takes)
    fits
    ∙ ap (λ (count : ℕ). room_after room_before count)
    (sym (ap length (replies-push desc items work)
    ∙ length-append (replies desc 1 nothing items) its_reply))

-- an item goes on from what those before it made
made-item : (desc : DescOf) (items : List Work) (work : Work) (made next : Made)
    → made ≡ made_by desc nothing items → next ≡ after desc made work
    → next ≡ made_by desc nothing (items ++ work ∷ [])
made-item desc items work made next is_made is_next =
    is_next
    ∙ ap (λ (made : Made). after desc made work) is_made
    ∙ sym (fold-append (after desc) nothing items (work ∷ []))

-- whether one was refused, with one item more
told-item : (items : List Work) (work : Work) (refused : Bool) → refused ≡ has_refused items
    → (refused || is_refused work) ≡ has_refused (items ++ work ∷ [])
told-item items work refused told =
    ap (λ (refused : Bool). refused || is_refused work) told
    ∙ ap (λ (last : Bool). has_refused items || last) (sym (or-false (is_refused work)))
    ∙ sym (list_any-append is_refused items (work ∷ []))

-- an item that was done and replied to
pub HasServed-item : (desc : DescOf) (base : ℕ) (whole : Session)
    (got_before got_now got_next : Option (List ℕ)) (room_before room_now room_next : Option ℕ)
    (made made_next : Made) (line : ℕ)
    (refused : Bool) (taken taken_next : ℕ) (left left_next : Option (List ℕ)) (work : Work)
    → HasServed desc base whole got_before got_now room_before room_now made line refused taken
    left
    → IfSome left (λ bytes.
    IsStep (step_of desc base taken bytes) taken_next left_next (Ok (Some work)))
    → Appends got_now got_next (reply desc line made work)
    → (HasRoomFor room_now (length (reply desc line made work))
    → room_next ≡ room_after room_now (length (reply desc line made work)))
    → made_next ≡ after desc made work
    → HasServed desc base whole got_before got_next room_before room_next made_next
    (line + 1) (refused || is_refused work) taken_next left_next
HasServed-item desc base whole got_before got_now got_next room_before room_now room_next made
    made_next line refused taken taken_next left left_next work served stepped put takes next =
    let step = IfSome-known left served.rest
    (λ bytes. IsStep (step_of desc base taken bytes) taken_next left_next (Ok (Some work)))
    served.is_left stepped in
    onward served.turns step.due step.rest served.enough step.does step.is_left served.goes_on
  where
    is_reply : reply desc line made work
        ≡ reply desc (1 + length served.items) (made_by desc nothing served.items) work
    is_reply = reply-item desc served.items work line made served.counted served.is_made

    onward : (turns due : ℕ) (rest : List ℕ) → length served.rest ≤ turns
        → step_of desc base taken served.rest ≡ Does work due taken_next rest
        → left_next ≡ Some rest
        → after_items served.items served.dues
        (session_from desc base (suc turns) taken served.rest)
        ≡ whole
        → HasServed desc base whole got_before got_next room_before room_next made_next
        (line + 1) (refused || is_refused work) taken_next left_next
    onward zero due rest enough step is_left goes_on =
        let leaves = step_of-leaves desc base taken served.rest rest work due taken_next step in
        absurd (omega (arith, leaves.fewer))
    onward (suc turns) due rest enough step is_left goes_on =
        let leaves = step_of-leaves desc base taken served.rest rest work due taken_next step in
        let splits = sym (ap (λ (session : Session). session.items)
        (session_next desc base (suc turns) taken served.rest served.items served.dues whole
        (Does work due taken_next rest) step goes_on)) in
        record {
          rest = rest;
          items = served.items ++ work ∷ [];
          dues = served.dues ++ due ∷ [];
          turns = turns;
          is_left = is_left;
          enough = omega (arith, leaves.fewer);
          paired = omega (
            arith,
            served.paired,
            length-append served.items (work ∷ []),
            length-append served.dues (due ∷ []),
          );
          goes_on = goes_on-item desc base turns taken taken_next served.rest rest served.items
              served.dues work due whole step goes_on;
          replied = replied-item desc served.items work (reply desc line made work) got_before
              got_now got_next is_reply served.replied put;
          room = room-item desc whole.items served.items
              (session_from desc base (suc turns) taken_next rest).items work
              (reply desc line made work) room_before room_now room_next splits is_reply
              served.room takes;
          is_made = made-item desc served.items work made made_next served.is_made
              next;
          counted = omega (arith, served.counted, length-append served.items (work ∷ []));
          told = told-item served.items work refused served.told;
        }
