-- A claim that is listed is found, and its note is told.
use Rattle.std.proofs.Common.{◌≡◌, ◌∙◌, ◌<◌, Bool, Err, List, ap, arith, get_or, length, subst}
use Rattle.std.specs.Prelude.{false, unwrap_or}
use Rattle.std.specs.List.{HoldsAt}
use Rattle.std.specs.List.Sorted.{IsBinarySearchResult}
use Rattle.std.specs.declared.cmp.Ordering.TheVariants.{Equal}
use Rattle.depot_recovery.specs.declared.claims.Claimed.{Claimed}
use Rattle.depot_recovery.specs.Noted.{ClaimsOf, claimed_cmp}
use Rattle.depot_recovery.proofs.ClaimedOrderLemmas.{found-Contains, found_at}
use Rattle.depot_recovery.proofs.NotedLemmas.{noted_at}
use Rattle.depot_recovery.proofs.claims.Claims.was_ready.Goals as goal

pub returns-in-Ok : goal.returns-in-Ok
returns-in-Ok c = record {
  exact = λ desc journal is past listed.
      let of = c.args.self.now in
      let claim : Claimed = record { at = c.args.at; key = c.args.key } in
      let index = c.in-Ok.index in
      let claims : c.deref.result.now ≡ of.claims =
      c.deref.ensures.value ∙ ap (λ (of : ClaimsOf). of.claims) c.self.view_is in
      let ready : c.deref-in-Ok.result.now ≡ of.ready =
      c.deref-in-Ok.ensures.value ∙ ap (λ (of : ClaimsOf). of.ready) c.self.view_is in
      let told : c.unwrap_or.result ≡ get_or of.ready index false =
      c.unwrap_or.ensures ∙ ap (λ copied. unwrap_or copied false) c.copied.ensures
      ∙ c.get.ensures.lookup.4 (omega arith) false
      ∙ ap (λ (ready : List Bool). get_or ready index false) ready in
      let within = subst (λ (claims : List Claimed). index < length claims) claims
      c.in-Ok.ensures.bound in
      let equal = subst (λ (claims : List Claimed).
      HoldsAt (λ (other : Claimed). claimed_cmp other claim ≡ Equal) claims index) claims
      c.in-Ok.ensures.position in
      told ∙ noted_at desc journal of claim index is within
      (found_at of.claims claim index equal) past;
}

pub returns-in-Err : goal.returns-in-Err
returns-in-Err c = record {
  exact = λ desc journal is past listed.
      let of = c.args.self.now in
      let claim : Claimed = record { at = c.args.at; key = c.args.key } in
      let claims : c.deref.result.now ≡ of.claims =
      c.deref.ensures.value ∙ ap (λ (of : ClaimsOf). of.claims) c.self.view_is in
      absurd (found-Contains of.claims claim c.in-Err.field-0 is.noted.ordered listed
      (subst (λ (claims : List Claimed). IsBinarySearchResult
      (λ (other : Claimed). claimed_cmp other claim) claims (Err c.in-Err.field-0)) claims
      c.in-Err.ensures.position));
}
