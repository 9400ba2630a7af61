-- Widths and spans, as words say them.
use Rattle.std.specs.Prelude.{ℕ, ℤ, pos, neg_ℤ, List, [], ◌∷◌, Option, Some, None, ◌==◌, ◌&&◌}
use Rattle.std.specs.Prelude.{nat_le, if◌then◌else◌, option_and_then, option_map}
use Rattle.depot_cell.specs.Numbers.{number_of}
use Rattle.partition_map.specs.Time.{END}
use Rattle.partition_map.specs.declared.time.Span.{Span}

-- the width that a word says: from 1 tick to all of them
abbrev pub read_width : List ℕ → Option ℕ
read_width word = option_and_then
    (λ ticks. if nat_le 1 ticks && nat_le ticks END then Some ticks else None)
    (number_of word)

-- the ticks that digits say: at most all of them
abbrev pub read_ticks : List ℕ → Option ℕ
read_ticks word =
    option_and_then (λ ticks. if nat_le ticks END then Some ticks else None) (number_of word)

-- the offset that a word says: ticks, and maybe a minus before them
abbrev pub read_offset : List ℕ → Option ℤ
read_offset [] = None
read_offset (first ∷ rest) =
    if first == 45 then option_map (λ ticks. neg_ℤ (pos ticks)) (read_ticks rest)
    else option_map pos (read_ticks (first ∷ rest))

-- a span from one offset to another, if both are there
abbrev pub span_between : Option ℤ → Option ℤ → Option Span
span_between None hi = None
span_between (Some lo) None = None
span_between (Some lo) (Some hi) = Some (record { lo = lo; hi = hi })

-- the span that two words say
abbrev pub read_span : (lo hi : List ℕ) → Option Span
read_span lo hi = span_between (read_offset lo) (read_offset hi)
