-- What the values of this crate stand for.
use Rattle.std.specs.Prelude.{◌≡◌, ◌≤◌, ◌+◌, ◌-◌, ℕ, List, length, map, take, drop}
use Rattle.catalog_journal.specs.declared.log.Log.{Log}
use Rattle.catalog_journal.specs.declared.bodies.Span.{Span}
use Rattle.catalog_journal.specs.Catalog.{IsBody, framed, open_records}

-- a log has these bodies: it knows where the closed gate after them stands, and how many they are
pub record IsLogOf (log : Log) (bodies : List (List ℕ)) : Type 0 where
  pub end : log.end ≡ length (open_records bodies)
  pub count : log.count ≡ length bodies

-- the body of a framed record: what stands between its length and the gate
abbrev pub framed_body : List ℕ → List ℕ
framed_body bytes = take (length bytes - 5) (drop 4 bytes)

-- the bytes are a framed record
pub record IsFramed (bytes : List ℕ) : Type 0 where
  pub whole : bytes ≡ framed (framed_body bytes)
  pub short : IsBody (framed_body bytes)

-- the bytes at a span
abbrev pub bytes_at : List ℕ → Span → List ℕ
bytes_at bytes span = take span.len (drop span.start bytes)

-- the bodies that stand at these spans
abbrev pub bodies_at : List ℕ → List Span → List (List ℕ)
bodies_at bytes spans = map (bytes_at bytes) spans

-- a span lies within so many bytes
abbrev pub LiesWithin : ℕ → Span → Type 0
LiesWithin size span = span.start + span.len ≤ size
