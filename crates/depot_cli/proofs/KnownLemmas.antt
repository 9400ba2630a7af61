-- What follows of a value that may be there, and of what a call answered.
use Rattle.std.proofs.Common.{◌≡◌, subst, IfSome}
use Rattle.std.specs.Prelude.{Option, Some, None, Result, Ok, Err, OnErr}

-- what is known of the value that may be there is known of the one that is
pub IfSome-known : {X : Type 0} (value : Option X) (known : X) (P : X → Type 0)
    → value ≡ Some known → IfSome value P → P known
IfSome-known {X} value known P is_known holds =
    let Q : Option X → Type 0 = λ value. IfSome value P in subst Q is_known holds

-- what holds of each value holds of the one that may be there
pub IfSome-each : {X : Type 0} (value : Option X) (P : X → Type 0) → ((x : X) → P x)
    → IfSome value P
IfSome-each None P holds = tt
IfSome-each (Some x) P holds = holds x

-- what holds in any case holds of an error
pub OnErr-each : {T E P : Type 0} (result : Result T E) → P → OnErr result P
OnErr-each (Ok value) holds = tt
OnErr-each (Err fault) holds = holds
