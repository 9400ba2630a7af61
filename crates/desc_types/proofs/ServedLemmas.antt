-- A description that was accepted can be served: `accepted-served`.
use Rattle.std.proofs.Common.{get_or}
use Rattle.std.proofs.lemmas.Option.{slice_get-get_or}
use Rattle.desc_types.specs.Descriptions.{DescOf}
use Rattle.desc_types.specs.Accepted.{IsAccepted}
use Rattle.desc_types.specs.Served.{IsServed}

-- what is accepted can be served
pub accepted-served : (desc : DescOf) → IsAccepted desc → IsServed desc
accepted-served desc accepted = record {
  feeds = accepted.feeds;
  tables = accepted.tables;
  columns = λ number default within. (accepted.each number (get_or desc.tables number default)
      (slice_get-get_or desc.tables number default within)).few;
  earlier = λ number table there index default within.
      ((accepted.each number table there).sources index default within).earlier;
  fits = λ number table there index default within.
      ((accepted.each number table there).sources index default within).fits;
}
