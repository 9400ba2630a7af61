-- Bodies are read from what spells them.
use Rattle.std.proofs.Common.{◌≡◌, ◌++◌, ◌∷◌, [], ◌^◌, ◌<◌, ◌∙◌, ℕ, suc, List, Bool, true, false}
use Rattle.std.proofs.Common.{Ok, Err, length, refl, sym, ap, arith, rules, subst, tests}
use Rattle.std.specs.Prelude.{Result, ◌==◌, if◌then◌else◌}
use Rattle.desc_types.specs.declared.table.Key.{Key}
use Rattle.row_codec.specs.declared.body.Body.{Body}
use Rattle.row_codec.specs.declared.body.Body.TheVariants.{Load, Install}
use Rattle.row_codec.specs.Bodies.{IsBody, body_at, body_bytes, install_at, load_at}
use Rattle.row_codec.specs.Laws.{AreBytes, BodiesHaveOneSpelling}
use Rattle.row_codec.specs.Reading.{◌>>=◌, number_at}
use Rattle.row_codec.specs.Spelling.{number_bytes}
use Rattle.row_codec.proofs.CodecLemmas.{HasOneSpelling-whole, HasPart, IsCodec, IsCodec-field}
use Rattle.row_codec.proofs.CodecLemmas.{IsCodec-last, IsCodec-same, IsFront}
use Rattle.row_codec.proofs.NumberLemmas.{number_codec}

-- the first byte of a body
abbrev kind_of : Body → ℕ
kind_of (Load len) = 1
kind_of (Install key at len) = 2

-- the fields of a body: a load has a length alone
abbrev key_in : Body → Key
key_in (Load len) = record { table = 0; part = 0 }
key_in (Install key at len) = key

abbrev at_in : Body → ℕ
at_in (Load len) = 0
at_in (Install key at len) = at

abbrev len_in : Body → ℕ
len_in (Load len) = len
len_in (Install key at len) = len

-- the bytes of an install from a field on
abbrev from_len : Body → List ℕ
from_len body = number_bytes 8 (len_in body)

abbrev from_at : Body → List ℕ
from_at body = number_bytes 8 (at_in body) ++ from_len body

abbrev from_part : Body → List ℕ
from_part body = number_bytes 8 (key_in body).part ++ from_at body

abbrev from_table : Body → List ℕ
from_table body = number_bytes 2 (key_in body).table ++ from_part body

-- a body of a kind
abbrev IsOf : ℕ → Body → Type 0
IsOf kind body = IsBody body × (kind_of body ≡ kind)

-- a load after its first byte
load_codec : IsCodec (IsOf 1) from_len load_at
unfolding load_at
load_codec =
    IsCodec-same (HasPart (λ n. n < 2 ^ 64) (λ len body. body ≡ Load len)) (IsOf 1) from_len from_len
    load_at
    (IsCodec-last (λ n. n < 2 ^ 64) (number_bytes 8) (number_at 8) (λ len. Load len) from_len
    (number_codec 8) (λ len. refl))
    to
    (λ body is. subst (λ b. IsOf 1 b × (from_len b ≡ from_len b)) (sym is.2) ((is.1, refl), refl))
  where
    to : (body : Body) → IsOf 1 body
        → HasPart (λ n. n < 2 ^ 64) (λ len body. body ≡ Load len) body × (from_len body ≡ from_len body)
    to (Load len) is = ((len, is.0, refl), refl)
    to (Install key at len) is = absurd (omega (arith, is.1))

-- an install of which some fields were read
abbrev HasLen : (key : Key) → (at : ℕ) → Body → Type 0
HasLen key at = HasPart (λ n. n < 2 ^ 64) (λ len body. body ≡ Install key at len)

abbrev HasAt : (key : Key) → Body → Type 0
HasAt key = HasPart (λ n. n < 2 ^ 64) (HasLen key)

abbrev HasPartition : (table : ℕ) → Body → Type 0
HasPartition table = HasPart (λ n. n < 2 ^ 64) (λ part. HasAt (record { table = table; part = part }))

-- an install after the fields before its length, its place, its partition
len_codec : (key : Key) (at : ℕ) → IsCodec (HasLen key at) from_len
    (λ bytes. number_at 8 bytes >>= λ len. Ok (Install key at len.0, len.1))
len_codec key at = IsCodec-last (λ n. n < 2 ^ 64) (number_bytes 8) (number_at 8)
    (λ len. Install key at len) from_len (number_codec 8) (λ len. refl)

at_codec : (key : Key) → IsCodec (HasAt key) from_at (λ bytes. number_at 8 bytes >>= λ at.
    number_at 8 at.1 >>= λ len. Ok (Install key at.0 len.0, len.1))
at_codec key = IsCodec-field (λ n. n < 2 ^ 64) (number_bytes 8) (number_at 8) (HasLen key) from_len
    (λ at bytes. number_at 8 bytes >>= λ len. Ok (Install key at len.0, len.1)) from_at
    (number_codec 8) (len_codec key)
    (λ at body is. ap (λ b. number_bytes 8 (at_in b) ++ from_len body) is.2)

part_codec : (table : ℕ) → IsCodec (HasPartition table) from_part
    (λ bytes. number_at 8 bytes >>= λ part. number_at 8 part.1 >>= λ at. number_at 8 at.1 >>= λ len.
    Ok (Install (record { table = table; part = part.0 }) at.0 len.0, len.1))
part_codec table = IsCodec-field (λ n. n < 2 ^ 64) (number_bytes 8) (number_at 8)
    (λ part. HasAt (record { table = table; part = part })) from_at
    (λ part bytes. number_at 8 bytes >>= λ at. number_at 8 at.1 >>= λ len.
    Ok (Install (record { table = table; part = part }) at.0 len.0, len.1)) from_part
    (number_codec 8) (λ part. at_codec (record { table = table; part = part }))
    (λ part body is. ap (λ b. number_bytes 8 (key_in b).part ++ from_at body) is.2.2)

-- an install after its first byte
abbrev HasTable : Body → Type 0
HasTable = HasPart (λ n. n < 2 ^ 16) HasPartition

table_codec : IsCodec HasTable from_table install_at
unfolding install_at
table_codec = IsCodec-field (λ n. n < 2 ^ 16) (number_bytes 2) (number_at 2) HasPartition from_part
    (λ table bytes. number_at 8 bytes >>= λ part. number_at 8 part.1 >>= λ at.
    number_at 8 at.1 >>= λ len.
    Ok (Install (record { table = table; part = part.0 }) at.0 len.0, len.1)) from_table
    (number_codec 2) part_codec
    (λ table body is. ap (λ b. number_bytes 2 (key_in b).table ++ from_part body) is.2.2.2)

install_codec : IsCodec (IsOf 2) from_table install_at
install_codec = IsCodec-same HasTable (IsOf 2) from_table from_table install_at table_codec to from
  where
    to : (body : Body) → IsOf 2 body → HasTable body × (from_table body ≡ from_table body)
    to (Load len) is = absurd (omega (arith, is.1))
    to (Install key at len) is = (
      (
        key.table,
        is.0.0,
        (key.part, is.0.1, (at, is.0.2, (len, is.0.3, refl))),
      ),
      refl,
    )

    from : (body : Body) → HasTable body → IsOf 2 body × (from_table body ≡ from_table body)
    from body is = subst (λ b. IsOf 2 b × (from_table b ≡ from_table b)) (sym is.2.2.2.2)
        (((is.1, is.2.1, is.2.2.1, is.2.2.2.1), refl), refl)

-- a body that was spelled is read
body-again : (body : Body) (rest : List ℕ) → IsBody body
    → body_at (body_bytes body ++ rest) ≡ Ok (body, rest)
unfolding body_at number_bytes
body-again (Load len) rest is = load_codec.again (Load len) rest (is, refl)
body-again (Install key at len) rest is = install_codec.again (Install key at len) rest (is, refl)

-- a body with its first byte
kind-front : (kind : ℕ) (bytes : List ℕ) (body : Body) (rest : List ℕ) (spelled : Body → List ℕ)
    → ((b : Body) → kind_of b ≡ kind → body_bytes b ≡ kind ∷ spelled b)
    → IsFront (IsOf kind) spelled bytes body rest → IsFront IsBody body_bytes (kind ∷ bytes) body rest
kind-front kind bytes body rest spelled parts front = record {
  is = front.is.0;
  parts = ap (λ later. kind ∷ later) front.parts
      ∙ ap (λ whole. whole ++ rest) (sym (parts body front.is.1));
}

load-parts : (body : Body) → kind_of body ≡ 1 → body_bytes body ≡ 1 ∷ from_len body
load-parts (Load len) is = refl
load-parts (Install key at len) is = absurd (omega (arith, is))

install-parts : (body : Body) → kind_of body ≡ 2 → body_bytes body ≡ 2 ∷ from_table body
unfolding number_bytes
install-parts (Load len) is = absurd (omega (arith, is))
install-parts (Install key at len) is = refl

-- what the tests of the first byte leave of a body
abbrev kind_read : (load install : Bool) → ℕ → List ℕ → Result (Body × List ℕ) ℕ
kind_read load install kind bytes =
    if load then load_at bytes else if install then install_at bytes
    else Err (length (kind ∷ bytes))

kind_read-front : (load install : Bool) (kind : ℕ) (bytes : List ℕ) (body : Body) (rest : List ℕ)
    → (load ≡ true → kind ≡ 1) → (install ≡ true → kind ≡ 2) → AreBytes bytes
    → kind_read load install kind bytes ≡ Ok (body, rest)
    → IsFront IsBody body_bytes (kind ∷ bytes) body rest
kind_read-front true install kind bytes body rest one two good read =
    subst (λ k. IsFront IsBody body_bytes (k ∷ bytes) body rest) (sym (one refl))
    (kind-front 1 bytes body rest from_len load-parts (load_codec.alone bytes body rest good read))
kind_read-front false true kind bytes body rest one two good read =
    subst (λ k. IsFront IsBody body_bytes (k ∷ bytes) body rest) (sym (two refl))
    (kind-front 2 bytes body rest from_table install-parts
    (install_codec.alone bytes body rest good read))
kind_read-front false false kind bytes body rest one two good read = absurd cc

-- a body that was read stands at the front
body-alone : (bytes : List ℕ) (body : Body) (rest : List ℕ) → AreBytes bytes
    → body_at bytes ≡ Ok (body, rest) → IsFront IsBody body_bytes bytes body rest
unfolding body_at
body-alone [] body rest good read = absurd cc
body-alone (kind ∷ bytes) body rest good read =
    kind_read-front (kind == 1) (kind == 2) kind bytes body rest
    (λ same. search (rules, tests, same)) (λ same. search (rules, tests, same))
    (λ i. good (suc i)) read

-- bodies have one spelling
pub bodies_law : BodiesHaveOneSpelling
bodies_law = HasOneSpelling-whole IsBody body_bytes body_at
    (record { again = body-again; alone = body-alone })
