-- What is found in an image: a depot, or the first fault.
use Rattle.std.specs.Prelude.{ℕ, suc, ◌+◌, ◌&&◌, ⊤, Bool, not, List, [], ◌∷◌, ◌++◌, Result, Ok, Err}
use Rattle.std.specs.Prelude.{Option, None, Some, drop, filter_map, is_some, length, slice_get, take}
use Rattle.std.specs.Prelude.{bytes_eq, if◌then◌else◌}
use Rattle.depot_disk.specs.Image.{Image, bytes_in}
use Rattle.catalog_journal.specs.declared.fault.LogFault.{LogFault}
use Rattle.catalog_journal.specs.declared.fault.LogFault.TheVariants.{Damaged, NotFound}
use Rattle.catalog_journal.specs.Catalog.{CATALOG_FILE, MARK_FILE}
use Rattle.catalog_journal.specs.Reading.{read_catalog}
use Rattle.desc_types.specs.declared.table.Key.{Key}
use Rattle.desc_types.specs.Descriptions.{DescOf}
use Rattle.table_desc.specs.declared.fault.BadLine.{BadLine}
use Rattle.table_desc.specs.Canonical.{canonical}
use Rattle.table_desc.specs.Described.{described}
use Rattle.row_codec.specs.declared.body.Body.{Body}
use Rattle.row_codec.specs.declared.body.Body.TheVariants as body
use Rattle.row_codec.specs.Bodies.{read_body}
use Rattle.row_codec.specs.Deliveries.{read_delivery}
use Rattle.version_store.specs.Reading.{front_of, read_as, rows_in}
use Rattle.view_meaning.specs.declared.journal.Entry.{Entry}
use Rattle.view_meaning.specs.declared.journal.Entry.TheVariants as entry
use Rattle.view_meaning.specs.Partitions.{is_part}
use Rattle.view_meaning.specs.Versions.{is_raw}
use Rattle.depot_recovery.specs.Claims.{may_follow}
use Rattle.depot_recovery.specs.Depots.{DepotOf, HEAD, is_latest, types_of}

-- a step, and the next one if the first went well
infixl 10 ◌>>=◌
abbrev pub ◌>>=◌ : {A B : Type 0} → Result A LogFault → (A → Result B LogFault) → Result B LogFault
(Ok value) >>= next = next value
(Err fault) >>= next = Err fault

-- what was read of a file, or the place of its fault in this file
abbrev pub in_file : {A : Type 0} → (file : ℕ) → Result A ℕ → Result A LogFault
in_file file (Ok value) = Ok value
in_file file (Err place) = Err (Damaged file place)

-- what was read of a record, or a fault at the place of its gate
abbrev pub at_gate : {A : Type 0} → (gate : ℕ) → Result A ℕ → Result A LogFault
at_gate gate (Ok value) = Ok value
at_gate gate (Err _) = Err (Damaged CATALOG_FILE gate)

-- a value that passes a test, or a fault at the place of a gate
abbrev pub checked : {A : Type 0} → (gate : ℕ) → Bool → A → Result A LogFault
checked gate passes value = if passes then Ok value else Err (Damaged CATALOG_FILE gate)

-- a description if this text is its canonical one
abbrev pub if_canonical : (text : List ℕ) → Result DescOf BadLine → Result DescOf LogFault
if_canonical text (Ok desc) = checked 0 (bytes_eq text (canonical desc)) desc
if_canonical text (Err _) = Err (Damaged CATALOG_FILE 0)

-- the description in the body of record 0
abbrev pub desc_in : List ℕ → Result DescOf LogFault
desc_in body =
    if bytes_eq (take (length HEAD) body) HEAD
    then if_canonical (drop (length HEAD) body) (described (drop (length HEAD) body))
    else Err (Damaged CATALOG_FILE 0)

-- whether a key names a partition of a view
abbrev pub is_view_part : DescOf → Key → Bool
is_view_part desc key = is_part desc key && not (is_raw (slice_get desc.tables key.table))

-- the length of the content of an entry
abbrev pub len_of : Body → ℕ
len_of (body.Load len) = len
len_of (body.Install key at len) = len

-- the entry of a body, with the delivery in the file of a load
abbrev pub entry_in : DescOf → Image → (number gate : ℕ) → Body → Result Entry LogFault
entry_in desc image number gate (body.Load len) = do
  delivery ← in_file number (read_as (read_delivery desc) (front_of image number len))
  Ok (entry.Load delivery)
entry_in desc image number gate (body.Install key at len) =
    checked gate (is_view_part desc key) (entry.Install key at)

-- the entry of a record after a journal, if it may follow
abbrev pub next_entry : DescOf → Image → (journal : List Entry) → (gate : ℕ) → (bytes : List ℕ)
    → Result Entry LogFault
next_entry desc image journal gate bytes = do
  body ← at_gate gate (read_body bytes)
  next ← entry_in desc image (suc (length journal)) gate body
  checked gate (may_follow desc journal next) next

-- the journal with the entries of some records, where the first one's gate is at this place
abbrev pub entries_from : DescOf → Image → (journal : List Entry) → (gate : ℕ)
    → (bodies : List (List ℕ)) → Result (List Entry) LogFault
entries_from desc image journal gate [] = Ok journal
entries_from desc image journal gate (bytes ∷ bodies) = do
  next ← next_entry desc image journal gate bytes
  entries_from desc image (journal ++ next ∷ []) (gate + (5 + length bytes)) bodies

-- a test of the file of an entry: if it is the latest install of its partition, its rows are read
abbrev pub check_file : DescOf → Image → (journal : List Entry) → (number len : ℕ) → Entry
    → Result ⊤ LogFault
check_file desc image journal number len (entry.Load delivery) = Ok tt
check_file desc image journal number len (entry.Install key at) =
    if is_latest journal number key then (do
      rows ← in_file number (rows_in image (types_of desc key.table) number len)
      Ok tt)
    else Ok tt

-- a test of the files of some entries, the first of which has this number
abbrev pub check_files : DescOf → Image → (journal : List Entry) → (number : ℕ) → List Entry
    → (lengths : List ℕ) → Result ⊤ LogFault
check_files desc image journal number (next ∷ later) (len ∷ lengths) = do
  fine ← check_file desc image journal number len next
  check_files desc image journal (suc number) later lengths
check_files desc image journal number _ _ = Ok tt

-- the length that a body states, if it can be read
abbrev pub len_in : Result Body ℕ → Option ℕ
len_in (Ok body) = Some (len_of body)
len_in (Err _) = None

abbrev pub stated_len : List ℕ → Option ℕ
stated_len bytes = len_in (read_body bytes)

-- the lengths that the records after record 0 state
abbrev pub lengths_in : (bodies : List (List ℕ)) → List ℕ
lengths_in bodies = filter_map stated_len (drop 1 bodies)

-- the depot whose journal the bodies of a catalogue tell
abbrev pub journal_in : Image → (bodies : List (List ℕ)) → Result DepotOf LogFault
journal_in image [] = Err (Damaged CATALOG_FILE 0)
journal_in image (first ∷ bodies) = do
  desc ← desc_in first
  entries ← entries_from desc image [] (5 + length first) bodies
  Ok (record { desc = desc; entries = entries; lengths = lengths_in (first ∷ bodies) })

-- a depot, if the files of its latest installs can be read
abbrev pub with_files : Image → DepotOf → Result DepotOf LogFault
with_files image depot = do
  fine ← check_files depot.desc image depot.entries 1 depot.entries depot.lengths
  Ok depot

-- the depot that the bodies of a catalogue tell
abbrev pub depot_in : Image → (bodies : List (List ℕ)) → Result DepotOf LogFault
depot_in image bodies = do
  depot ← journal_in image bodies
  with_files image depot

-- what is found in an image
abbrev pub found_in : Image → Result DepotOf LogFault
found_in image = if is_some (image MARK_FILE)
    then (do
      bodies ← in_file CATALOG_FILE (read_catalog (bytes_in image CATALOG_FILE))
      depot_in image bodies)
    else Err NotFound
