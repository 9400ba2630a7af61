-- The map has all versions that are held, so its list is that of the held ones.
use Rattle.std.proofs.Common.{◌≡◌, ◌∙◌}
use Rattle.std.proofs.lemmas.Result.{IfOk-weaker}
use Rattle.query_pin.specs.declared.input.Input.{Input}
use Rattle.query_pin.specs.Held.{IsListOf}
use Rattle.query_pin.specs.Kept.{entry_at, entry_in}
use Rattle.query_pin.proofs.ListingLemmas.{entry_at-held}
use Rattle.query_pin.proofs.kept.KeptList.list.Goals as goal

pub returns : goal.returns
returns c =
    let told : (read : Input)
    → entry_at c.list_newest.new.held.entries read ≡ entry_in c.args.self.now read =
    rw (← c.self.view_is) (entry_at-held _ c.list_replaced.new.held.entries
    c.list_newest.new.held.entries
    (rw c.new-held.ensures.empty at c.in_ok-list_replaced.ensures.ok)
    c.in_ok-list_newest.ensures.ok) in
    record {
      exact = IfOk-weaker c.list_in_order.result
          (λ list. IsListOf (entry_at c.list_newest.new.held.entries) list.items)
          (λ list. IsListOf (entry_in c.args.self.now) list.items)
          (λ list is. record {
            rising = is.rising;
            exact = λ read. is.exact read ∙ told read;
          })
          c.list_in_order.ensures.exact;
    }
