-- How a journal is read record by record: what was read so far, and what is still to come of it.
use Rattle.std.proofs.Common.{◌≡◌, ◌∙◌, ◌<◌, ◌≤◌, ◌^◌, ℕ, zero, suc, ◌+◌, List, [], ◌∷◌, ◌++◌, arith}
use Rattle.std.proofs.Common.{Some, ap, drop, get_or, length, length-append, refl, subst, sym, take}
use Rattle.std.specs.Prelude.{IfSome, Ok, Result, None, Option, filter_map, slice_get, unwrap_or}
use Rattle.std.specs.List.{AllZip}
use Rattle.std.proofs.Math.Seq.{drop-cons, take-suc}
use Rattle.std.proofs.lemmas.List.{drop_all, take-append-drop, take_all}
use Rattle.std.proofs.lemmas.List.Elements.{filter_map-append}
use Rattle.std.proofs.lemmas.Option.{none-some, same_Some, slice_get_within, unwrap_or-slice_get}
use Rattle.catalog_journal.specs.declared.fault.LogFault.{LogFault}
use Rattle.catalog_journal.specs.Catalog.{open_records}
use Rattle.catalog_journal.proofs.SpellLemmas.{length-open_records-push}
use Rattle.desc_types.specs.Accepted.{IsAccepted}
use Rattle.desc_types.specs.Descriptions.{DescOf}
use Rattle.depot_disk.specs.Image.{Image}
use Rattle.row_codec.specs.Bodies.{body_bytes}
use Rattle.row_codec.proofs.BodyLemmas.{bodies_law}
use Rattle.view_meaning.specs.declared.journal.Entry.{Entry}
use Rattle.depot_recovery.specs.Depots.{DepotOf, body_of, entry_bodies, first_body}
use Rattle.depot_recovery.specs.Found.{◌>>=◌, desc_in, entries_from, journal_in, len_in, lengths_in}
use Rattle.depot_recovery.specs.Found.{next_entry, stated_len}
use Rattle.depot_recovery.specs.Images.{IsWritable}
use Rattle.depot_recovery.specs.Noted.{AreOfBodies}
use Rattle.depot_recovery.specs.Recovered.{Refuses}
use Rattle.depot_recovery.specs.Replaying.{HasRead, IsReplayOf, ReadsMore, ReadsNext, ReplayOf}
use Rattle.depot_recovery.specs.Replaying.{depot_by}
use Rattle.depot_recovery.proofs.BodiesLemmas.{entry_bodies-push, lengths-same}
use Rattle.depot_recovery.proofs.ReadingLemmas.{Refuses-passed}
use Rattle.depot_recovery.proofs.SoundLemmas.{len_of-body_of}
use Rattle.depot_recovery.proofs.ZipLemmas.{AllZip-append}

-- the element at a place, as the next one of a list
here : {X : Type 0} (xs : List X) (place : ℕ) (x : X) → slice_get xs place ≡ Some x
    → get_or xs place x ≡ x
here {X = X} xs place x there = sym (unwrap_or-slice_get xs place x)
    ∙ ap (λ (found : Option X). unwrap_or found x) there

pub take-more : {X : Type 0} (xs : List X) (place : ℕ) (x : X) → slice_get xs place ≡ Some x
    → take (suc place) xs ≡ take place xs ++ x ∷ []
take-more {X = X} xs place x there = take-suc xs place x (slice_get_within xs place x there)
    ∙ ap (λ (last : X). take place xs ++ last ∷ []) (here xs place x there)

pub drop-more : {X : Type 0} (xs : List X) (place : ℕ) (x : X) → slice_get xs place ≡ Some x
    → drop place xs ≡ x ∷ drop (suc place) xs
drop-more {X = X} xs place x there = drop-cons xs place x (slice_get_within xs place x there)
    ∙ ap (λ (next : X). next ∷ drop (suc place) xs) (here xs place x there)

-- within a list an element is there
pub none-within : {X : Type 0} (xs : List X) (place : ℕ) → place < length xs
    → None ≡ slice_get xs place → ⊥
none-within [] place within none = absurd (omega (arith, within))
none-within (x ∷ xs) zero within none = none-some x none
none-within (x ∷ xs) (suc place) within none =
    none-within xs place (omega (arith, within)) none

-- the body of an entry states its length
stated_len-body : (desc : DescOf) (next : Entry) (len : ℕ) (bytes : List ℕ)
    → IsWritable desc next len → bytes ≡ body_bytes (body_of next len)
    → stated_len bytes ≡ Some len
stated_len-body desc next len bytes writable spelled =
    ap stated_len spelled ∙ ap len_in (bodies_law.again (body_of next len) writable.body)
    ∙ ap (λ (its : ℕ). Some its) (len_of-body_of next len)

-- so one body more states one length more
lengths-more : (taken : List (List ℕ)) (bytes : List ℕ) (len : ℕ) → stated_len bytes ≡ Some len
    → filter_map stated_len (taken ++ bytes ∷ []) ≡ filter_map stated_len taken ++ len ∷ []
lengths-more taken bytes len stated = filter_map-append stated_len taken (bytes ∷ [])
    ∙ ap (λ (more : List ℕ). filter_map stated_len taken ++ more) (rw stated refl)

-- one record more was read
pub IsReplayOf-push : (first : List ℕ) (taken : List (List ℕ)) (bytes : List ℕ)
    (old new : ReplayOf) → IsReplayOf (first ∷ taken) old.core → ReadsMore bytes old new
    → IsReplayOf (first ∷ (taken ++ bytes ∷ [])) new.core
IsReplayOf-push first taken bytes old new was more =
    let lengths = lengths-more taken bytes more.len
    (stated_len-body old.core.desc more.next more.len bytes more.writable more.stated) in
    let same = lengths-same (depot_by (first ∷ taken) old.core) was.made in
    record {
      made = record {
        accepted = subst IsAccepted (sym more.desc) was.made.accepted;
        written = rw (more.desc, more.journal, lengths)
            (AllZip-append (IsWritable old.core.desc) old.core.state.journal
            (filter_map stated_len taken) (more.next ∷ []) (more.len ∷ [])
            was.made.written (more.writable, tt));
        legal = more.found.good.legal;
      };
      spelled = rw (more.desc, more.journal, lengths)
          (ap (λ (bodies : List (List ℕ)). bodies ++ bytes ∷ []) was.spelled
          ∙ ap (λ (last : List ℕ). first_body old.core.desc
          ∷ (entry_bodies old.core.state.journal (filter_map stated_len taken) ++ last ∷ []))
          more.stated
          ∙ ap (λ (bodies : List (List ℕ)). first_body old.core.desc ∷ bodies)
          (sym (entry_bodies-push old.core.state.journal (filter_map stated_len taken) more.next
          more.len same)));
      found = more.found;
    }

pub HasRead-push : (first : List ℕ) (taken : List (List ℕ)) (bytes : List ℕ) (old new : ReplayOf)
    → HasRead (first ∷ taken) old → ReadsMore bytes old new
    → HasRead (first ∷ (taken ++ bytes ∷ [])) new
HasRead-push first taken bytes old new was more = record {
  core = IsReplayOf-push first taken bytes old new was.core more;
  noted = more.noted;
  gate = omega (arith, more.gate, was.gate, length-open_records-push (first ∷ taken) bytes);
}

-- the records in front are no longer than all
length-open_records-front : (bodies more : List (List ℕ))
    → length (open_records bodies) ≤ length (open_records (bodies ++ more))
length-open_records-front [] more = omega arith
length-open_records-front (body ∷ bodies) more =
    omega (
      arith,
      length-open_records-front bodies more,
      length-append body (open_records bodies),
      length-append body (open_records (bodies ++ more)),
    )

-- the depot that the rest of some bodies tells, after the journal so far
abbrev told_by : Image → (bodies rest : List (List ℕ)) → ReplayOf → Result DepotOf LogFault
told_by image bodies rest replay = do
  entries ← entries_from replay.core.desc image replay.core.state.journal replay.gate rest
  Ok (record { desc = replay.core.desc; entries = entries; lengths = lengths_in bodies })

-- what the bodies tell is what those from a number on tell after the journal so far
abbrev pub GoesOn : Image → (bodies : List (List ℕ)) → (number : ℕ) → ReplayOf → Type 0
GoesOn image bodies number replay =
    journal_in image bodies ≡ told_by image bodies (drop number bodies) replay

-- the records before a number were read, and those from it on are still to come
pub record ReadsOn (holds : Option Image) (bodies : List (List ℕ)) (number : ℕ)
    (replay : ReplayOf) : Type 0 where
  pub read : HasRead (take number bodies) replay
  pub listed : AreOfBodies bodies replay.claims.claims
  pub goes : IfSome holds (λ image. GoesOn image bodies number replay)

-- a journal of which no entry has a length has none
journal-none : (desc : DescOf) (entries : List Entry) → AllZip (IsWritable desc) entries []
    → entries ≡ []
journal-none desc [] written = refl
journal-none desc (next ∷ later) written = absurd written

GoesOn-first : (image : Image) (first : List ℕ) (rest : List (List ℕ)) (replay : ReplayOf)
    → HasRead (first ∷ []) replay → desc_in first ≡ Ok replay.core.desc
    → GoesOn image (first ∷ rest) 1 replay
GoesOn-first image first rest replay read told =
    let gate : replay.gate ≡ 5 + length first =
    omega (arith, read.gate, length-open_records-push [] first) in
    rw (told, journal-none replay.core.desc replay.core.state.journal read.core.made.written, gate)
    refl

pub ReadsOn-first : (holds : Option Image) (bodies : List (List ℕ)) (first : List ℕ)
    (replay : ReplayOf) → slice_get bodies 0 ≡ Some first → HasRead (first ∷ []) replay
    → desc_in first ≡ Ok replay.core.desc → AreOfBodies bodies replay.claims.claims
    → ReadsOn holds bodies 1 replay
ReadsOn-first holds [] first replay there read told listed = absurd (none-some first there)
ReadsOn-first holds (body ∷ rest) first replay there read told listed =
    let same = same_Some body first there in
    record {
      read = subst (λ (its : List ℕ). HasRead (its ∷ []) replay) (sym same) read;
      listed = listed;
      goes = each holds;
    }
  where
    each : (holds : Option Image) → IfSome holds (λ image. GoesOn image (body ∷ rest) 1 replay)
    each None = tt
    each (Some image) = GoesOn-first image body rest replay
        (subst (λ (its : List ℕ). HasRead (its ∷ []) replay) (sym (same_Some body first there)) read)
        (ap desc_in (same_Some body first there) ∙ told)

GoesOn-next : (image : Image) (bodies : List (List ℕ)) (number : ℕ) (bytes : List ℕ)
    (old new : ReplayOf) (next : Entry) → slice_get bodies number ≡ Some bytes
    → ReadsMore bytes old new
    → next_entry old.core.desc image old.core.state.journal old.gate bytes ≡ Ok next
    → new.core.state.journal ≡ old.core.state.journal ++ next ∷ []
    → GoesOn image bodies number old → GoesOn image bodies (suc number) new
GoesOn-next image bodies number bytes old new next there more found journal goes =
    rw (more.desc, journal, more.gate)
    (goes ∙ rw (drop-more bodies number bytes there, found) refl)

-- the next record has the fault that was found
fault-GoesOn : (image : Image) (bodies : List (List ℕ)) (number : ℕ) (bytes : List ℕ)
    (replay : ReplayOf) (refused : LogFault) → slice_get bodies number ≡ Some bytes
    → GoesOn image bodies number replay
    → Refuses (next_entry replay.core.desc image replay.core.state.journal replay.gate bytes) refused
    → Refuses (journal_in image bodies) refused
fault-GoesOn image bodies number bytes replay refused there goes found =
    subst (λ (finding : Result DepotOf LogFault). Refuses finding refused)
    (sym (goes ∙ ap (λ (rest : List (List ℕ)). told_by image bodies rest replay)
    (drop-more bodies number bytes there)))
    (Refuses-passed _ _ refused (Refuses-passed _ _ refused found))

pub fault-ReadsOn : (holds now : Option Image) (bodies : List (List ℕ)) (number : ℕ)
    (bytes : List ℕ) (replay : ReplayOf) (fault : LogFault) → now ≡ holds
    → slice_get bodies number ≡ Some bytes
    → ReadsOn holds bodies number replay
    → IfSome now (λ image. Refuses
    (next_entry replay.core.desc image replay.core.state.journal replay.gate bytes) fault)
    → IfSome holds (λ image. Refuses (journal_in image bodies) fault)
fault-ReadsOn holds now bodies number bytes replay fault same there reads found =
    each holds reads.goes (subst (λ (held : Option Image). IfSome held (λ image. Refuses
    (next_entry replay.core.desc image replay.core.state.journal replay.gate bytes) fault))
    same found)
  where
    each : (holds : Option Image) → IfSome holds (λ image. GoesOn image bodies number replay)
        → IfSome holds (λ image. Refuses
        (next_entry replay.core.desc image replay.core.state.journal replay.gate bytes) fault)
        → IfSome holds (λ image. Refuses (journal_in image bodies) fault)
    each None goes found = tt
    each (Some image) goes found =
        fault-GoesOn image bodies number bytes replay fault there goes found

-- one record more was read
HasRead-next : (bodies : List (List ℕ)) (number : ℕ) (bytes : List ℕ) (old new : ReplayOf)
    → 1 ≤ number → slice_get bodies number ≡ Some bytes → HasRead (take number bodies) old
    → ReadsMore bytes old new → HasRead (take (suc number) bodies) new
HasRead-next [] number bytes old new some there read more = absurd (none-some bytes there)
HasRead-next (first ∷ rest) zero bytes old new some there read more = absurd (omega (arith, some))
HasRead-next (first ∷ rest) (suc place) bytes old new some there read more =
    subst (λ (taken : List (List ℕ)). HasRead (first ∷ taken) new)
    (sym (take-more rest place bytes there))
    (HasRead-push first (take place rest) bytes old new read more)

pub ReadsOn-next : {T : Type 0} (holds now : Option Image) (bodies : List (List ℕ)) (number : ℕ)
    (bytes : List ℕ) (old new : ReplayOf) (value : T) → now ≡ holds → 1 ≤ number
    → slice_get bodies number ≡ Some bytes → ReadsOn holds bodies number old
    → ReadsMore bytes old new → IfSome now (λ image. ReadsNext {T = T} image bytes old new (Ok value))
    → ReadsOn holds bodies (number + 1) new
ReadsOn-next {T = T} holds now bodies number bytes old new value same some there reads more found =
    rw one-more (record {
      read = HasRead-next bodies number bytes old new some there reads.read more;
      listed = subst (AreOfBodies bodies) (sym more.claims) reads.listed;
      goes = each holds reads.goes (subst (λ (held : Option Image). IfSome held (λ image.
          ReadsNext {T = T} image bytes old new (Ok value))) same found);
    })
  where
    one-more : number + 1 ≡ suc number
    one-more = omega arith

    each : (holds : Option Image) → IfSome holds (λ image. GoesOn image bodies number old)
        → IfSome holds (λ image. ReadsNext {T = T} image bytes old new (Ok value))
        → IfSome holds (λ image. GoesOn image bodies (suc number) new)
    each None goes found = tt
    each (Some image) goes found =
        GoesOn-next image bodies number bytes old new found.0 there more found.1 found.2 goes

-- the record is listed, and there is room for the place after it
pub room-ReadsOn : (holds : Option Image) (bodies : List (List ℕ)) (number : ℕ) (bytes : List ℕ)
    (replay : ReplayOf) → slice_get bodies number ≡ Some bytes → ReadsOn holds bodies number replay
    → length (open_records bodies) < 2 ^ 64 → replay.gate + (5 + length bytes) < 2 ^ 64
room-ReadsOn holds bodies number bytes replay there reads short =
    let front = length-open_records-front (take (suc number) bodies) (drop (suc number) bodies) in
    let whole = ap (λ (all : List (List ℕ)). length (open_records all))
    (take-append-drop (suc number) bodies) in
    let more = ap (λ (all : List (List ℕ)). length (open_records all))
    (take-more bodies number bytes there) in
    omega (
      arith,
      front,
      whole,
      more,
      reads.read.gate,
      length-open_records-push (take number bodies) bytes,
      short,
    )

-- all records were read
pub ReadsOn-end : (holds : Option Image) (bodies : List (List ℕ)) (number : ℕ) (replay : ReplayOf)
    → length bodies ≤ number → ReadsOn holds bodies number replay
    → IsReplayOf bodies replay.core
    × IfSome holds (λ image. journal_in image bodies ≡ Ok (depot_by bodies replay.core))
ReadsOn-end holds bodies number replay past reads = (
  subst (λ (all : List (List ℕ)). IsReplayOf all replay.core) (take_all number bodies past)
      reads.read.core,
  each holds reads.goes,
)
  where
    each : (holds : Option Image) → IfSome holds (λ image. GoesOn image bodies number replay)
        → IfSome holds (λ image. journal_in image bodies ≡ Ok (depot_by bodies replay.core))
    each None goes = tt
    each (Some image) goes = goes ∙ rw (drop_all number bodies past) refl
