-- What a walk along a line tells of the bytes that were left before it.
use Rattle.std.proofs.Common.{◌≡◌, ◌≢◌, ℕ, ◌+◌, ◌-◌, ◌≤◌, ◌<◌, min, List, [], ◌∷◌, ◌++◌, length}
use Rattle.std.proofs.Common.{None, Some, IfSome, Ok, Err, ap, ◌∙◌, sym, arith}
use Rattle.std.proofs.Common.{append-nil, append_assoc, length-append}
use Rattle.std.specs.declared.option.Option.{Option}
use Rattle.std.specs.Io.BufRead.{first_line, strip_last}
use Rattle.depot_io.specs.declared.line_reader.Line.TheVariants.{Text}
use Rattle.depot_io.specs.declared.line_reader.LineFault.TheVariants.{ReadFault, LongLine, Long}
use Rattle.depot_io.specs.declared.line_reader.Stop.{Stop}
use Rattle.depot_io.specs.declared.line_reader.Stop.TheVariants.{Newline, Dry, Full}
use Rattle.depot_io.specs.declared.source.Failed.{Failed}
use Rattle.depot_io.specs.Lines.{LIMIT, span, line_take, IsLineAnswer, ReadsLine, WalksLine}
use Rattle.depot_io.proofs.LineLemmas.{span-append, first_line-newline, first_line-last}

-- how far the line reaches in these bytes, and how many they are
record Measured (bytes line tail : List ℕ) : Type 0 where
  spans : span bytes ≡ length line + span tail
  counts : length bytes ≡ length line + length tail

-- a line with no LF in it is measured by what stands after it
measured : (bytes line tail rest : List ℕ) → span line ≡ length line
    → bytes ≡ (line ++ tail) ++ rest → Measured bytes line (tail ++ rest)
measured bytes line tail rest unbroken is =
    let split : bytes ≡ line ++ (tail ++ rest) = is ∙ append_assoc line tail rest in
    record {
      spans = ap span split ∙ span-append line (tail ++ rest) unbroken;
      counts = ap length split ∙ length-append line (tail ++ rest);
    }

-- a walk that ends took all of the line, or all that it may
pub walk-count : (old new : Option (List ℕ)) (before after most : ℕ) (line : List ℕ) (stop : Stop)
    → WalksLine old new before after most line (Ok stop)
    → before ≤ LIMIT → most ≡ min (LIMIT - before) 4097
    → IfSome old (λ bytes. after ≡ min LIMIT (before + line_take bytes))
walk-count None new before after most line stop walk within room = tt
walk-count (Some bytes) None before after most line stop walk within room = absurd walk.took
walk-count (Some bytes) (Some rest) before after most line Newline walk within room =
    let m = measured bytes line (10 ∷ []) rest walk.unbroken walk.took in
    omega (arith, length-append line (10 ∷ []), walk.counted, walk.stop, m.spans, m.counts)
walk-count (Some bytes) (Some rest) before after most line Dry walk within room =
    let m = measured bytes line [] rest walk.unbroken walk.took in
    let end : length rest ≡ 0 = ap length walk.stop.1 in
    let none : span rest ≡ 0 = ap span walk.stop.1 in
    omega (arith, length-append line [], walk.counted, walk.stop.0, m.spans, m.counts)
walk-count (Some bytes) (Some rest) before after most line Full walk within room =
    let m = measured bytes line [] rest walk.unbroken walk.took in
    omega (arith, length-append line [], walk.counted, walk.stop, m.spans, m.counts)

-- a walk that fails took no LF, and no more than a line may have
pub walk-fault : (old new : Option (List ℕ)) (before after most : ℕ) (line : List ℕ)
    (fault : Failed)
    → WalksLine old new before after most line (Err fault)
    → before ≤ LIMIT → most ≡ min (LIMIT - before) 4097
    → IfSome old (λ bytes. ReadsLine bytes before after line (Err ReadFault))
walk-fault None new before after most line fault walk within room = tt
walk-fault (Some bytes) None before after most line fault walk within room = absurd walk.took
walk-fault (Some bytes) (Some rest) before after most line fault walk within room =
    let m = measured bytes line [] rest walk.unbroken walk.took in
    record {
      answer = tt;
      taken = omega (arith, length-append line [], walk.counted, walk.stop, m.spans, m.counts);
    }

-- a walk that reaches the limit met a line, or a part of one, that does
pub walk-long : (old new : Option (List ℕ)) (before after most : ℕ) (line : List ℕ) (stop : Stop)
    → WalksLine old new before after most line (Ok stop)
    → before ≤ LIMIT → most ≡ min (LIMIT - before) 4097 → after ≡ LIMIT
    → IfSome old (λ bytes. ReadsLine bytes before after line (Err Long))
walk-long None new before after most line stop walk within room long = tt
walk-long (Some bytes) new before after most line stop walk within room long =
    let count = walk-count (Some bytes) new before after most line stop walk within room in
    record { answer = omega (arith, count); taken = count }

-- a walk that has no room left met a line that is too long
pub walk-full : (old new : Option (List ℕ)) (before after most : ℕ) (line : List ℕ)
    → WalksLine old new before after most line (Ok Full)
    → before ≤ LIMIT → most ≡ min (LIMIT - before) 4097 → after ≢ LIMIT
    → IfSome old (λ bytes. ReadsLine bytes before after line (Err LongLine))
walk-full None new before after most line walk within room short = tt
walk-full (Some bytes) None before after most line walk within room short = absurd walk.took
walk-full (Some bytes) (Some rest) before after most line walk within room short =
    let m = measured bytes line [] rest walk.unbroken walk.took in
    let count = walk-count (Some bytes) (Some rest) before after most line Full walk within room in
    let whole = length-append line [] in
    record {
      answer = (
        omega (arith, count, short, walk.counted),
        omega (arith, whole, short, walk.counted, walk.stop, m.spans),
      );
      taken = count;
    }

-- the answer for a line that an LF ends
newline-answer : (bytes line shown rest : List ℕ) (before after most len : ℕ)
    → WalksLine (Some bytes) (Some rest) before after most line (Ok Newline)
    → after ≡ min LIMIT (before + line_take bytes) → most ≤ 4097 → after ≢ LIMIT
    → shown ≡ strip_last 13 line
    → IsLineAnswer bytes before shown (Ok (Text len))
newline-answer bytes line shown rest before after most len walk count room short is =
    let m = measured bytes line (10 ∷ []) rest walk.unbroken walk.took in
    let split : bytes ≡ line ++ 10 ∷ rest = walk.took ∙ append_assoc line (10 ∷ []) rest in (
      omega (arith, count, short),
      omega (arith, m.counts),
      omega (arith, m.spans, walk.stop),
      is ∙ sym (ap first_line split ∙ first_line-newline line rest walk.unbroken),
    )

-- a walk that met an LF took a line
pub walk-newline : (old new : Option (List ℕ)) (before after most len : ℕ) (line shown : List ℕ)
    → WalksLine old new before after most line (Ok Newline)
    → before ≤ LIMIT → most ≡ min (LIMIT - before) 4097 → after ≢ LIMIT
    → shown ≡ strip_last 13 line
    → IfSome old (λ bytes. ReadsLine bytes before after shown (Ok (Text len)))
walk-newline None new before after most len line shown walk within room short is = tt
walk-newline (Some bytes) None before after most len line shown walk within room short is =
    absurd walk.took
walk-newline (Some bytes) (Some rest) before after most len line shown walk within room short is =
    let count =
    walk-count (Some bytes) (Some rest) before after most line Newline walk within room in
    let answer =
    newline-answer bytes line shown rest before after most len walk count (omega arith) short is in
    record { answer = answer; taken = count }

-- the answer for a line that the input ends
dry-answer : (bytes line rest : List ℕ) (before after most len : ℕ)
    → WalksLine (Some bytes) (Some rest) before after most line (Ok Dry)
    → after ≡ min LIMIT (before + line_take bytes) → most ≤ 4097 → after ≢ LIMIT → 0 < length line
    → IsLineAnswer bytes before line (Ok (Text len))
dry-answer bytes line rest before after most len walk count room short some =
    let m = measured bytes line [] rest walk.unbroken walk.took in
    let none : span rest ≡ 0 = ap span walk.stop.1 in
    let whole : bytes ≡ line =
    walk.took ∙ ap (λ l. (line ++ []) ++ l) walk.stop.1 ∙ append-nil (line ++ [])
    ∙ append-nil line in (
      omega (arith, count, short),
      omega (arith, m.counts),
      omega (arith, m.spans, walk.stop.0),
      sym (ap first_line whole ∙ first_line-last line walk.unbroken),
    )

-- a walk that met the end after some bytes took a line that is kept whole
pub walk-dry : (old new : Option (List ℕ)) (before after most len : ℕ) (line : List ℕ)
    → WalksLine old new before after most line (Ok Dry)
    → before ≤ LIMIT → most ≡ min (LIMIT - before) 4097 → after ≢ LIMIT → 0 < length line
    → IfSome old (λ bytes. ReadsLine bytes before after line (Ok (Text len)))
walk-dry None new before after most len line walk within room short some = tt
walk-dry (Some bytes) None before after most len line walk within room short some = absurd walk.took
walk-dry (Some bytes) (Some rest) before after most len line walk within room short some =
    let count = walk-count (Some bytes) (Some rest) before after most line Dry walk within room in
    let answer =
    dry-answer bytes line rest before after most len walk count (omega arith) short some in
    record { answer = answer; taken = count }
