-- A torn write: a whole one is one, and so is none at all. And what an image has at one file.
use Rattle.std.proofs.Common.{◌≡◌, ℕ, ◌+◌, ◌-◌, min, List, [], ◌++◌, length, take, drop}
use Rattle.std.proofs.Common.{refl, sym, ◌∙◌, ap, arith}
use Rattle.std.specs.Prelude.{Bool, if◌then◌else◌, None, Some, unwrap_or}
use Rattle.std.specs.declared.option.Option.{Option}
use Rattle.std.proofs.lemmas.Bool.{cases_eq, eq-eqb, ne_eqb}
use Rattle.std.proofs.lemmas.List.{append_assoc, drop_all, drop_at, length-append, length-drop}
use Rattle.std.proofs.lemmas.List.{length-take, take_at, take_all}
use mathlib.Core.Logic.{inl, inr}
use Rattle.depot_disk.specs.Image.{Image, SameElsewhere, overwritten, with_file}
use Rattle.depot_disk.specs.Torn.{Torn, TornBytes, TornFile}

-- how long bytes are after others were put over them
pub length-overwritten : (old : List ℕ) (at : ℕ) (bytes : List ℕ)
    → length (overwritten old at bytes)
    ≡ min at (length old) + length bytes + (length old - (at + length bytes))
length-overwritten old at bytes =
    omega (
      arith,
      length-append (take at old ++ bytes) (drop (at + length bytes) old),
      length-append (take at old) bytes,
      length-take at old,
      length-drop (at + length bytes) old,
    )

-- the bytes before the place stay
pub take-overwritten : (old : List ℕ) (at : ℕ) (bytes : List ℕ)
    → take (min at (length old)) (overwritten old at bytes) ≡ take at old
take-overwritten old at bytes =
    ap (λ (l : List ℕ). take (min at (length old)) l)
    (append_assoc (take at old) bytes (drop (at + length bytes) old))
    ∙ take_at (take at old) (bytes ++ drop (at + length bytes) old) (min at (length old))
    (length-take at old)

-- the bytes after the range stay
pub drop-overwritten : (old : List ℕ) (at : ℕ) (bytes : List ℕ)
    → drop (at + length bytes) (overwritten old at bytes) ≡ drop (at + length bytes) old
drop-overwritten old at bytes =
    let long = length-overwritten old at bytes in
    elim (cases_eq (min at (length old)) at) [
      | inl is ↦ drop_at (take at old ++ bytes) (drop (at + length bytes) old) (at + length bytes)
          (omega (arith, is, length-append (take at old) bytes, length-take at old))
      | inr not ↦ drop_all (at + length bytes) (overwritten old at bytes) (omega (arith, not, long))
          ∙ sym (drop_all (at + length bytes) old (omega (arith, not)))
    ]

-- a whole write is a torn one
pub TornBytes-overwritten : (old : List ℕ) (at : ℕ) (bytes : List ℕ)
    → TornBytes at (length bytes) old (overwritten old at bytes)
TornBytes-overwritten old at bytes = record {
  before = take-overwritten old at bytes;
  after = drop-overwritten old at bytes;
  no_shorter = omega (arith, length-overwritten old at bytes);
}

-- the same of a file that may have been absent
pub TornFile-overwritten : (old : Option (List ℕ)) (at : ℕ) (bytes : List ℕ)
    → TornFile at (length bytes) old (Some (overwritten (unwrap_or old []) at bytes))
TornFile-overwritten (Some old) at bytes = TornBytes-overwritten old at bytes
TornFile-overwritten None at bytes = omega (arith, length-overwritten [] at bytes)

-- the front of bytes, at most all of them
take-min : (at : ℕ) (bytes : List ℕ) → take (min at (length bytes)) bytes ≡ take at bytes
take-min at bytes = elim (cases_eq (min at (length bytes)) at) [
  | inl is ↦ ap (λ (n : ℕ). take n bytes) is
  | inr not ↦ take_all (min at (length bytes)) bytes (omega (arith, not))
      ∙ sym (take_all at bytes (omega (arith, not)))
]

-- a write of which nothing was done is a torn one
pub TornFile-same : (at count : ℕ) (content : Option (List ℕ)) → TornFile at count content content
TornFile-same at count (Some bytes) = record {
  before = take-min at bytes;
  after = refl;
  no_shorter = omega arith;
}
TornFile-same at count None = tt

-- what an image has in the place of a file
pub with_file-same : (image : Image) (file : ℕ) (content : Option (List ℕ))
    → with_file image file content file ≡ content
with_file-same image file content =
    ap (λ (test : Bool). if test then content else image file) (eq-eqb file file refl)

-- and of every other file
pub with_file-elsewhere : (image : Image) (file : ℕ) (content : Option (List ℕ))
    → SameElsewhere file image (with_file image file content)
with_file-elsewhere image file content other apart =
    ap (λ (test : Bool). if test then content else image other) (ne_eqb other file apart)

-- an image of which nothing was written
pub Torn-same : (file at count : ℕ) (image : Image) → Torn file at count image image
Torn-same file at count image = record {
  within = TornFile-same at count (image file);
  elsewhere = λ other apart. refl;
}
