-- What the pin of a claim keeps: what its ticket tells.
use Rattle.std.proofs.Common.{◌≡◌, ◌∙◌, ℕ, ap, arith, sym, take_all}
use Rattle.std.specs.Prelude.{length, ◌==◌}
use Rattle.desc_types.specs.declared.table.Key.{Key}
use Rattle.query_pin.specs.Pins.{versions_at, versions_of}
use Rattle.machine_meaning.specs.declared.claim.Claim.{Claim}
use Rattle.machine_meaning.specs.Events.{Claims, IsClaimOf, claim_of}
use Rattle.machine_meaning.specs.States.{IsGoodClaim, State}
use Rattle.machine_meaning.proofs.ClaimLemmas.{All-find}
use Rattle.claim_core.specs.Cores.{CoreOf, IsTicketOf, Steps, TicketOf}

-- the pin of a claim keeps what its ticket tells
pub versions_at-claimed : (old new : CoreOf) (who : ℕ) (key : Key) (ticket : TicketOf)
    → Steps old (Claims who key) new → IsTicketOf old.desc old.state key ticket
    → IsClaimOf new.state who ticket.id (claim_of old.state who ticket.id key)
    → versions_at new.state.pins ticket.id ≡ ticket.inputs
versions_at-claimed old new who key ticket steps told own =
    let claim = claim_of old.state who ticket.id key in
    let good = All-find (IsGoodClaim new.desc new.state) (λ (claim : Claim). claim.id == ticket.id)
    new.state.claims claim steps.good.claims own.found in
    let journal : new.state.journal ≡ old.state.journal =
    ap (λ (state : State). state.journal) steps.step.1.2 in
    ap versions_of good.pinned
    ∙ rw (steps.desc, journal, take_all (length old.state.journal) old.state.journal (omega arith))
    (sym told.inputs)
