-- Which partitions gained rows: no key that is none.
use Rattle.std.proofs.Common.{◌≡◌}
use Rattle.std.specs.Prelude.{Bool, true, false}
use Rattle.std.proofs.lemmas.Bool.{both_ways, false_from_ne_true}
use Rattle.desc_types.specs.declared.table.Key.{Key}
use Rattle.desc_types.specs.Descriptions.{DescOf}
use Rattle.view_meaning.specs.Partitions.{is_part}

-- only partitions of time gained rows
abbrev pub AreParts : DescOf → (gained : Key → Bool) → Type 0
AreParts desc gained = (key : Key) → gained key ≡ true → is_part desc key ≡ true

-- so a key that is no partition did not
pub gained-outside : (desc : DescOf) (gained : Key → Bool) (key : Key) → AreParts desc gained
    → is_part desc key ≡ false → gained key ≡ false
gained-outside desc gained key parts outside =
    false_from_ne_true (gained key) (λ did. both_ways (is_part desc key) outside (parts key did))
