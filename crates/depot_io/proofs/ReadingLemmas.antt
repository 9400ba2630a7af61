-- What a reader keeps from call to call: two calls, one after the other, keep what each keeps.
use Rattle.std.proofs.Common.{◌≡◌, ℕ, ◌+◌, ◌-◌, ◌≤◌, List, length, drop}
use Rattle.std.proofs.Common.{refl, ap, ◌∙◌, subst, arith, length-drop}
use Rattle.std.proofs.lemmas.List.{drop-drop}
use Rattle.std.specs.Prelude.{None, Some}
use Rattle.std.specs.declared.option.Option.{Option}
use Rattle.std.specs.Borrow.{GName}
use Rattle.depot_io.specs.Lines.{LIMIT, Takes}
use Rattle.depot_io.specs.Reading.{Reading, ReadsOn}

-- nothing was taken
pub Takes-none : (left : Option (List ℕ)) → Takes left left 0
Takes-none None = tt
Takes-none (Some bytes) = (omega arith, refl)

-- bytes are taken one after the other
pub Takes-append : (old mid new : Option (List ℕ)) (first second : ℕ)
    → Takes old mid first → Takes mid new second → Takes old new (first + second)
Takes-append None mid new first second before after = tt
Takes-append (Some bytes) None new first second before after = absurd before
Takes-append (Some bytes) (Some rest) None first second before after = absurd after
Takes-append (Some bytes) (Some rest) (Some last) first second before after =
    let left : length rest ≡ length bytes - first =
    ap length before.1 ∙ length-drop first bytes in
    let dropped = after.1 ∙ ap (drop second) before.1 ∙ drop-drop second first bytes in
    (omega (arith, before.0, after.0), dropped)

-- a reader that was not asked stands where it stood
pub ReadsOn-same : {S : Type 0} (bytes_left : S → Option (List ℕ)) (loan : S → Option GName)
    (reader : Reading S)
    → reader.taken ≤ LIMIT → ReadsOn bytes_left loan reader reader
ReadsOn-same bytes_left loan reader within = record {
  later = omega arith;
  within = within;
  left =
      let none : 0 ≡ reader.taken - reader.taken = omega arith in
      subst (λ (count : ℕ). Takes (bytes_left reader.source) (bytes_left reader.source) count) none
      (Takes-none (bytes_left reader.source));
  same_loan = refl;
}

-- a reader goes on from where it had come
pub ReadsOn-step : {S : Type 0} (bytes_left : S → Option (List ℕ)) (loan : S → Option GName)
    (old mid new : Reading S)
    → ReadsOn bytes_left loan old mid → ReadsOn bytes_left loan mid new
    → ReadsOn bytes_left loan old new
ReadsOn-step bytes_left loan old mid new before after = record {
  later = omega (arith, before.later, after.later);
  within = after.within;
  left =
      let sum : (mid.taken - old.taken) + (new.taken - mid.taken) ≡ new.taken - old.taken =
      omega (arith, before.later, after.later) in
      subst (λ (count : ℕ). Takes (bytes_left old.source) (bytes_left new.source) count) sum
      (Takes-append (bytes_left old.source) (bytes_left mid.source) (bytes_left new.source)
      (mid.taken - old.taken) (new.taken - mid.taken) before.left after.left);
  same_loan = after.same_loan ∙ before.same_loan;
}
