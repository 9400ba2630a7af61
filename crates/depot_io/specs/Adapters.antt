-- What a source has left that keeps some bytes ready.
use Rattle.std.specs.Prelude.{ℕ, List, slice_range}
use Rattle.std.specs.declared.option.Option.{Option}
use Rattle.std.specs.Io.KnownBytes.{prepend_known}

-- the bytes that stand ready from `at` to `end`, and after them those of the reader
abbrev pub ahead_left : List ℕ → ℕ → ℕ → Option (List ℕ) → Option (List ℕ)
ahead_left ahead at end rest = prepend_known (slice_range ahead at end) rest
