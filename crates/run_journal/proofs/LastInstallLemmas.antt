-- Which entries of a journal are the last install of their partition, and how many these are. With
-- the versions that were replaced they are all that came about (`length-last_installs`).
use Rattle.std.proofs.Common.{◌≡◌, ◌∙◌, ◌+◌, ◌-◌, ◌<◌, ◌≤◌, ◌∷◌, ℕ, zero, suc, List, [], ap, arith}
use Rattle.std.proofs.Common.{drop, length, length-append, map, refl, subst, sym, take, true}
use Rattle.std.specs.List.{AllPairs, list_any}
use Rattle.std.specs.Prelude.{All, Bool, IfSome, false, filter, if◌then◌else◌, nat_eq, not}
use Rattle.std.specs.Prelude.{slice_get, ◌||◌}
use Rattle.std.proofs.lemmas.Bool.{both_ways, eq-eqb, false≢true, ne_eqb, or_left, or_right}
use Rattle.std.proofs.lemmas.List.{take-append-drop}
use Rattle.std.proofs.lemmas.List.Elements.{All-cons, All-nil, All-weaker}
use Rattle.std.proofs.lemmas.List.Kept.{AllPairs-cons}
use Rattle.partition_map.specs.Partitions.{has}
use Rattle.desc_types.specs.declared.table.Key.{Key}
use Rattle.view_meaning.specs.declared.journal.Entry.{Entry}
use Rattle.view_meaning.specs.declared.journal.Entry.TheVariants as entry
use Rattle.view_meaning.specs.Versions.{install_places, installs, place_of}
use Rattle.view_meaning.proofs.AmongLemmas.{is_key-itself, is_key-same}
use Rattle.view_meaning.proofs.VersionLemmas.{install_places-append}
use Rattle.query_pin.specs.declared.input.Input.{Input}
use Rattle.machine_meaning.specs.States.{IsMadeBy}
use Rattle.machine_meaning.specs.VersionCounts.{versions_made, versions_replaced}

-- the numbers of the entries that are the last install of their partition, counted from a number on
abbrev pub last_installs : (from : ℕ) → List Entry → List ℕ
last_installs from [] = []
last_installs from (entry.Load _ ∷ later) = last_installs (suc from) later
last_installs from (entry.Install key _ ∷ later) =
    if list_any (installs key) later then last_installs (suc from) later
    else from ∷ last_installs (suc from) later

-- whether an entry, counted from 0, is the last install of its partition
abbrev pub is_last_install : List Entry → (index : ℕ) → Bool
is_last_install [] index = false
is_last_install (entry.Load _ ∷ later) zero = false
is_last_install (entry.Load _ ∷ later) (suc index) = is_last_install later index
is_last_install (entry.Install key _ ∷ later) zero = not (list_any (installs key) later)
is_last_install (entry.Install _ _ ∷ later) (suc index) = is_last_install later index

-- each version that came about is of one of these entries, or it was replaced
pub length-last_installs : (from : ℕ) (journal : List Entry)
    → length (last_installs from journal) + versions_replaced journal ≡ versions_made journal
length-last_installs from [] = omega arith
length-last_installs from (entry.Load _ ∷ later) = length-last_installs (suc from) later
length-last_installs from (entry.Install key _ ∷ later) =
    at (list_any (installs key) later) (length-last_installs (suc from) later)
  where
    at : (again : Bool)
        → length (last_installs (suc from) later) + versions_replaced later ≡ versions_made later
        → length (if again then last_installs (suc from) later
        else from ∷ last_installs (suc from) later)
        + ((if again then 1 else 0) + versions_replaced later) ≡ suc (versions_made later)
    at true rest = omega (arith, rest)
    at false rest = omega (arith, rest)

-- what is true of a number and of others is true of those, with it in front or not
All-cons_if : (P : ℕ → Type 0) (again : Bool) (first : ℕ) (rest : List ℕ) → P first → All P rest
    → All P (if again then rest else first ∷ rest)
All-cons_if P true first rest here all = all
All-cons_if P false first rest here all = All-cons P first rest here all

-- the numbers are not below the first one
All-last_installs : (from : ℕ) (journal : List Entry)
    → All (λ number. from ≤ number) (last_installs from journal)
All-last_installs from [] = All-nil (λ number. from ≤ number)
All-last_installs from (entry.Load _ ∷ later) =
    All-weaker (λ number. suc from ≤ number) (λ number. from ≤ number)
    (λ number above. omega (arith, above)) (last_installs (suc from) later)
    (All-last_installs (suc from) later)
All-last_installs from (entry.Install key _ ∷ later) =
    All-cons_if (λ number. from ≤ number) (list_any (installs key) later) from
    (last_installs (suc from) later) (omega arith)
    (All-weaker (λ number. suc from ≤ number) (λ number. from ≤ number)
    (λ number above. omega (arith, above)) (last_installs (suc from) later)
    (All-last_installs (suc from) later))

-- numbers that rise do so with a lesser one in front
AllPairs-cons_if : (again : Bool) (first : ℕ) (rest : List ℕ) → All (λ number. first < number) rest
    → AllPairs (λ (number next : ℕ). number < next) rest
    → AllPairs (λ (number next : ℕ). number < next) (if again then rest else first ∷ rest)
AllPairs-cons_if true first rest before rising = rising
AllPairs-cons_if false first rest before rising =
    AllPairs-cons (λ (number next : ℕ). number < next) first rest before rising

-- the numbers rise
pub AllPairs-last_installs : (from : ℕ) (journal : List Entry)
    → AllPairs (λ (number next : ℕ). number < next) (last_installs from journal)
AllPairs-last_installs from [] = λ first second default before within. absurd (omega arith)
AllPairs-last_installs from (entry.Load _ ∷ later) = AllPairs-last_installs (suc from) later
AllPairs-last_installs from (entry.Install key _ ∷ later) =
    AllPairs-cons_if (list_any (installs key) later) from (last_installs (suc from) later)
    (All-weaker (λ number. suc from ≤ number) (λ number. from < number)
    (λ number above. omega (arith, above)) (last_installs (suc from) later)
    (All-last_installs (suc from) later))
    (AllPairs-last_installs (suc from) later)

-- with a number in front or not a list has what it had of another one
has-other : (again : Bool) (first number : ℕ) (rest : List ℕ) → nat_eq number first ≡ false
    → has (if again then rest else first ∷ rest) number ≡ has rest number
has-other true first number rest other = refl
has-other false first number rest other =
    ap (λ (here : Bool). here || has rest number) other

-- and it has the number itself if that is put in front
has-here : (again : Bool) (first number : ℕ) (rest : List ℕ) → nat_eq number first ≡ true
    → has rest number ≡ false
    → has (if again then rest else first ∷ rest) number ≡ not again
has-here true first number rest same none = none
has-here false first number rest same none =
    or_left (nat_eq number first) (has rest number) same

-- no number below the first one is one of them
pub has-last_installs_below : (from number : ℕ) (journal : List Entry) → number < from
    → has (last_installs from journal) number ≡ false
has-last_installs_below from number [] below = refl
has-last_installs_below from number (entry.Load _ ∷ later) below =
    has-last_installs_below (suc from) number later (omega arith)
has-last_installs_below from number (entry.Install key _ ∷ later) below =
    has-other (list_any (installs key) later) from number (last_installs (suc from) later)
    (ne_eqb number from (λ same. omega (arith, below, same)))
    ∙ has-last_installs_below (suc from) number later (omega arith)

-- any other one is if its entry is the last install of its partition
pub has-last_installs : (from number index : ℕ) (journal : List Entry) → number ≡ from + index
    → has (last_installs from journal) number ≡ is_last_install journal index
has-last_installs from number index [] is = refl
has-last_installs from number zero (entry.Load _ ∷ later) is =
    has-last_installs_below (suc from) number later (omega arith)
has-last_installs from number (suc index) (entry.Load _ ∷ later) is =
    has-last_installs (suc from) number index later (omega arith)
has-last_installs from number zero (entry.Install key _ ∷ later) is =
    has-here (list_any (installs key) later) from number (last_installs (suc from) later)
    (eq-eqb number from (omega (arith, is)))
    (has-last_installs_below (suc from) number later (omega arith))
has-last_installs from number (suc index) (entry.Install key _ ∷ later) is =
    has-other (list_any (installs key) later) from number (last_installs (suc from) later)
    (ne_eqb number from (λ same. omega (arith, is, same)))
    ∙ has-last_installs (suc from) number index later (omega arith)

-- an entry, counted from 0, is the last install of a partition
pub record IsLastOf (journal : List Entry) (key : Key) (index : ℕ) : Type 0 where
  pub within : index < length journal
  pub there : IfSome (slice_get journal index) (λ last. installs key last ≡ true)
  pub alone : list_any (installs key) (drop (suc index) journal) ≡ false

-- an entry before does not matter
IsLastOf-later : (first : Entry) (later : List Entry) (key : Key) (index : ℕ)
    → IsLastOf (first ∷ later) key (suc index) → IsLastOf later key index
IsLastOf-later first later key index is =
    record { within = omega (arith, is.within); there = is.there; alone = is.alone }

IsLastOf-before : (first : Entry) (later : List Entry) (key : Key) (index : ℕ)
    → IsLastOf later key index → IsLastOf (first ∷ later) key (suc index)
IsLastOf-before first later key index is =
    record { within = omega (arith, is.within); there = is.there; alone = is.alone }

-- it passes the test
pub is_last_install-of : (journal : List Entry) (key : Key) (index : ℕ)
    → IsLastOf journal key index → is_last_install journal index ≡ true
is_last_install-of [] key index is = absurd (omega (arith, is.within))
is_last_install-of (entry.Load _ ∷ later) key zero is = absurd (false≢true is.there)
is_last_install-of (entry.Load delivery ∷ later) key (suc index) is =
    is_last_install-of later key index
    (IsLastOf-later (entry.Load delivery) later key index is)
is_last_install-of (entry.Install installed _ ∷ later) key zero is =
    ap not (subst (λ (key : Key). list_any (installs key) later ≡ false)
    (sym (is_key-same key installed is.there)) is.alone)
is_last_install-of (entry.Install installed at ∷ later) key (suc index) is =
    is_last_install-of later key index
    (IsLastOf-later (entry.Install installed at) later key index is)

-- and what passes it is the last install of some partition
pub IsLastOf-test : (journal : List Entry) (index : ℕ) → is_last_install journal index ≡ true
    → (key : Key) × IsLastOf journal key index
IsLastOf-test [] index is = absurd (false≢true is)
IsLastOf-test (entry.Load _ ∷ later) zero is = absurd (false≢true is)
IsLastOf-test (entry.Load delivery ∷ later) (suc index) is =
    let last = IsLastOf-test later index is in
    (last.0, IsLastOf-before (entry.Load delivery) later last.0 index last.1)
IsLastOf-test (entry.Install key at ∷ later) zero is = (
  key,
  record {
    within = omega arith;
    there = is_key-itself key;
    alone = not-true (list_any (installs key) later) is;
  },
)
  where
    not-true : (again : Bool) → not again ≡ true → again ≡ false
    not-true true is = absurd (false≢true is)
    not-true false is = refl
IsLastOf-test (entry.Install key at ∷ later) (suc index) is =
    let last = IsLastOf-test later index is in
    (last.0, IsLastOf-before (entry.Install key at) later last.0 index last.1)

-- an entry that installs a partition is one that does
list_any-there : (journal : List Entry) (key : Key) (index : ℕ) → index < length journal
    → IfSome (slice_get journal index) (λ last. installs key last ≡ true)
    → list_any (installs key) journal ≡ true
list_any-there [] key index within there = absurd (omega arith)
list_any-there (first ∷ later) key zero within there =
    or_left (installs key first) (list_any (installs key) later) there
list_any-there (first ∷ later) key (suc index) within there =
    or_right (installs key first) (list_any (installs key) later)
    (list_any-there later key index (omega arith) there)

-- a partition has one last install
pub IsLastOf-one : (journal : List Entry) (key : Key) (index other : ℕ)
    → IsLastOf journal key index → IsLastOf journal key other → index ≡ other
IsLastOf-one [] key index other is also = absurd (omega (arith, is.within))
IsLastOf-one (first ∷ later) key zero zero is also = refl
IsLastOf-one (first ∷ later) key zero (suc other) is also =
    absurd (both_ways (list_any (installs key) later) is.alone
    (list_any-there later key other (omega (arith, also.within)) also.there))
IsLastOf-one (first ∷ later) key (suc index) zero is also =
    absurd (both_ways (list_any (installs key) later) also.alone
    (list_any-there later key index (omega (arith, is.within)) is.there))
IsLastOf-one (first ∷ later) key (suc index) (suc other) is also =
    ap suc (IsLastOf-one later key index other (IsLastOf-later first later key index is)
    (IsLastOf-later first later key other also))

-- the installs of a partition are counted one by one
length-install_places : (first : Entry) (later : List Entry) (key : Key)
    → length (install_places (first ∷ later) key)
    ≡ (if installs key first then 1 else 0) + length (install_places later key)
length-install_places first later key = at (installs key first)
  where
    at : (here : Bool) → length (map place_of (if here then first ∷ filter (installs key) later
        else filter (installs key) later))
        ≡ (if here then 1 else 0) + length (install_places later key)
    at true = omega arith
    at false = omega arith

-- a partition without installs is installed by no entry
list_any-installs_none : (journal : List Entry) (key : Key)
    → length (install_places journal key) ≡ 0 → list_any (installs key) journal ≡ false
list_any-installs_none [] key none = refl
list_any-installs_none (first ∷ later) key none =
    at (installs key first) (sym (length-install_places first later key) ∙ none)
    (list_any-installs_none later key)
  where
    at : (here : Bool) → (if here then 1 else 0) + length (install_places later key) ≡ 0
        → (length (install_places later key) ≡ 0 → list_any (installs key) later ≡ false)
        → (here || list_any (installs key) later) ≡ false
    at true none rest = absurd (omega (arith, none))
    at false none rest = rest (omega (arith, none))

-- one that is installed by an entry has an install
pub install_places-some : (journal : List Entry) (key : Key) (index : ℕ)
    → IsLastOf journal key index → 1 ≤ length (install_places journal key)
install_places-some journal key index is =
    at (length (install_places journal key)) refl
  where
    at : (many : ℕ) → length (install_places journal key) ≡ many → 1 ≤ many
    at zero none = absurd (both_ways (list_any (installs key) journal)
        (list_any-installs_none journal key none)
        (list_any-there journal key index is.within is.there))
    at (suc many) some = omega arith

-- the installs of a partition are those up to an entry and those after it
install_places-parts : (journal : List Entry) (key : Key) (entry : ℕ)
    → length (install_places journal key)
    ≡ length (install_places (take entry journal) key)
    + length (install_places (drop entry journal) key)
install_places-parts journal key entry =
    ap (λ (all : List Entry). length (install_places all key))
    (sym (take-append-drop entry journal))
    ∙ ap length (install_places-append (take entry journal) (drop entry journal) key)
    ∙ length-append (install_places (take entry journal) key)
    (install_places (drop entry journal) key)

-- the entry that made a version is the last install of its partition, if all installs are counted
pub IsLastOf-made : (journal : List Entry) (read : Input) (entry : ℕ)
    → IsMadeBy journal read entry → length (install_places journal read.key) ≡ read.version
    → IsLastOf journal read.key (entry - 1)
IsLastOf-made journal read entry made all =
    let next : suc (entry - 1) ≡ entry = omega (arith, made.some) in
    record {
      within = omega (arith, made.some, made.past);
      there = made.there;
      alone = list_any-installs_none (drop (suc (entry - 1)) journal) read.key
          (ap (λ (index : ℕ). length (install_places (drop index journal) read.key)) next
          ∙ omega (arith, install_places-parts journal read.key entry, all, made.number));
    }
