-- How the answers of calls say what bytes are read as.
use Rattle.std.specs.Prelude.{ℕ, ◌≡◌, ⊤, Result, Ok, Err}
use Rattle.row_codec.specs.declared.fault.CodecFault.{CodecFault}
use Rattle.row_codec.specs.declared.fault.CodecFault.TheVariants.{At, Memory}
use Rattle.row_codec.specs.declared.fault.Cut.{Cut}
use Rattle.row_codec.specs.declared.fault.Cut.TheVariants as cut
use Rattle.row_codec.specs.declared.fault.Short.{Short}

-- the fault of a reading, or a lack of memory
abbrev pub Refuses : {A : Type 0} → CodecFault → Result A ℕ → Type 0
Refuses (At place) reading = reading ≡ Err place
Refuses Memory reading = ⊤

-- an answer is what was read, except that memory may lack
abbrev pub Gives : {A B : Type 0} → (A → B) → Result A CodecFault → Result B ℕ → Type 0
Gives view (Ok value) reading = reading ≡ Ok (view value)
Gives view (Err fault) reading = Refuses fault reading

-- an answer is what was read, and memory never lacks
abbrev pub Tells : {A : Type 0} → Result A CodecFault → Result A ℕ → Type 0
Tells (Ok value) reading = reading ≡ Ok value
Tells (Err (At place)) reading = reading ≡ Err place
Tells (Err Memory) reading = ⊥

-- the same of a field inside
abbrev pub Stops : {A : Type 0} → Cut → Result A ℕ → Type 0
Stops (cut.Left left) reading = reading ≡ Err left
Stops cut.Memory reading = ⊤

abbrev pub Takes : {A B : Type 0} → (A → B) → Result A Cut → Result B ℕ → Type 0
Takes view (Ok value) reading = reading ≡ Ok (view value)
Takes view (Err stop) reading = Stops stop reading

-- the same of a field that takes no memory
abbrev pub Finds : {A B : Type 0} → (A → B) → Result A Short → Result B ℕ → Type 0
Finds view (Ok value) reading = reading ≡ Ok (view value)
Finds view (Err short) reading = reading ≡ Err short.0
