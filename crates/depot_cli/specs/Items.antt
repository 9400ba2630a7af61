-- What an item of a script asks for, by its line and its body.
use Rattle.std.specs.Prelude.{ℕ, List, Option, Some, None, Bool, true, false, Result, Ok, Err}
use Rattle.depot_script.specs.declared.fault.CommandFault.{CommandFault}
use Rattle.depot_script.specs.CommandValues.{CommandOf, Nothing, Deliver, Drain, Query, Marks, Aside}
use Rattle.depot_script.specs.CommandValues.{Reclaim, End}
use Rattle.depot_script.specs.Faults.{fault_text}
use Rattle.desc_types.specs.Deliveries.{DeliveryOf}
use Rattle.desc_types.specs.Descriptions.{DescOf}
use Rattle.feed_csv.specs.declared.fault.BadRecord.{BadRecord}
use Rattle.feed_csv.specs.Bodies.{cause_text, delivery_of}
use Rattle.query_pin.specs.declared.request.RequestFault.{RequestFault}
use Rattle.query_pin.specs.Requests.{request_fault}
use Rattle.query_pin.specs.Requests as request
use Rattle.depot_cli.specs.declared.script.work.Refusal.{Refusal}
use Rattle.depot_cli.specs.declared.script.work.Refusal.TheVariants as refusal
use Rattle.depot_cli.specs.declared.script.work.Work.{Work}
use Rattle.depot_cli.specs.declared.script.work.Work.TheVariants as work

-- whether a line ends the session
abbrev pub is_end : Result CommandOf CommandFault → Bool
is_end (Ok End) = true
is_end _ = false

-- what a body asks for: to load its delivery, or to be told of its first bad record
abbrev pub loading : Result DeliveryOf BadRecord → Work
loading (Ok delivery) = work.Load delivery
loading (Err bad) = work.Refused (refusal.Record bad)

-- what a request asks for: what it says, or to be told what is wrong with it
abbrev pub asking : Work → Option RequestFault → Work
asking asked None = asked
asking asked (Some fault) = work.Refused (refusal.Request fault)

-- what a command asks for, with the body after its line: only a delivery has one
abbrev pub asked : DescOf → CommandOf → (body : List ℕ) → Work
asked desc Nothing body = work.Nothing
asked desc (Deliver feed number closes size) body =
    loading (delivery_of desc feed number closes body)
asked desc Drain body = work.Drain
asked desc (Query items) body = asking (work.Query items) (request_fault desc items)
asked desc (Marks items) body = asking (work.Marks items) (request_fault desc items)
asked desc (Aside feed) body = work.Aside feed
asked desc Reclaim body = work.Reclaim
asked desc End body = work.Nothing

-- what a line asks for, with the body after it: its faults go first, then the body and the request
abbrev pub work_of : DescOf → Result CommandOf CommandFault → (body : List ℕ) → Work
work_of desc (Err fault) body = work.Refused (refusal.Line fault)
work_of desc (Ok command) body = asked desc command body

-- the word that names the cause of a refusal
abbrev pub refusal_text : Refusal → List ℕ
refusal_text (refusal.Line fault) = fault_text fault
refusal_text (refusal.Record bad) = cause_text bad.cause
refusal_text (refusal.Request fault) = request.fault_text fault

-- the record of the body that it speaks of, if it speaks of one
abbrev pub refusal_record : Refusal → Option ℕ
refusal_record (refusal.Line fault) = None
refusal_record (refusal.Record bad) = Some bad.number
refusal_record (refusal.Request fault) = None
