-- What the program has of a description that was accepted.
use Rattle.std.specs.Prelude.{◌≤◌, length, All}
use Rattle.desc_types.specs.Descriptions.{DescOf}
use Rattle.desc_types.specs.Tables.{TableOf}
use Rattle.desc_types.specs.Sources.{HasEarlierSources, HasFittingSources}

-- a description that is served: at most 16 feeds, at most 64 tables of at most 16 columns, and each
-- view reads earlier tables, over spans that fit
pub record IsServed (desc : DescOf) : Type 0 where
  pub feeds : length desc.feeds ≤ 16
  pub tables : length desc.tables ≤ 64
  pub columns : All (λ (table : TableOf). length table.columns ≤ 16) desc.tables
  pub earlier : HasEarlierSources desc
  pub fits : HasFittingSources desc
