-- The life of one file on a disk in memory: what was done to it, the last thing first; what it
-- holds after that; and what a stop may leave of it.
use Rattle.std.specs.Prelude.{◌≡◌, ◌⊎◌, ℕ, ⊤, List, [], ◌∷◌, length, None, Some, unwrap_or}
use Rattle.std.specs.declared.option.Option.{Option}
use Rattle.depot_disk.specs.Image.{overwritten}
use Rattle.depot_disk.specs.Torn.{TornFile}

-- one thing that is done to a file: these bytes are written from a place on, or what is held is
-- put on the disk, or the file is taken away
pub data Change : Type 0 where
  Wrote : ℕ → List ℕ → Change
  Synced : Change
  Removed : Change

-- what the file holds after one thing more
abbrev pub content_after : Change → Option (List ℕ) → Option (List ℕ)
content_after (Wrote at bytes) content = Some (overwritten (unwrap_or content []) at bytes)
content_after Synced content = content
content_after Removed content = None

-- what the file holds; before its life it was absent
abbrev pub content_of : List Change → Option (List ℕ)
content_of [] = None
content_of (change ∷ older) = content_after change (content_of older)

-- what a stop may leave of it: after a write what is held, or what it may have left before with that
-- write torn; after a sync what is held; and anything once the file was removed
abbrev pub MayLeaveFile : List Change → Option (List ℕ) → Type 0
MayLeaveFile [] content = content ≡ None
MayLeaveFile (Wrote at bytes ∷ older) content = (content ≡ content_of (Wrote at bytes ∷ older))
    ⊎ ((from : Option (List ℕ)) × MayLeaveFile older from
    × TornFile at (length bytes) from content)
MayLeaveFile (Synced ∷ older) content = content ≡ content_of older
MayLeaveFile (Removed ∷ older) content = ⊤

-- a stop leaves what the file holds, and nothing else
abbrev pub IsSettled : List Change → Type 0
IsSettled life = (content : Option (List ℕ)) → MayLeaveFile life content
    → content ≡ content_of life
