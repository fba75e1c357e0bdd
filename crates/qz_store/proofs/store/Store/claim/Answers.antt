use Rattle.std.proofs.Common.{◌≡◌, length, Some, None, sym, ap, subst, ◌∙◌, arith, rules}
use Rattle.std.specs.Prelude.{◌↔◌, ◌⊎◌}
use Rattle.qz_store.specs.Stores.{HasClaimed}
use Rattle.qz_store.proofs.Claimed.{rank_at, claims_none, claims_some, pending_new}
use Rattle.qz_store.proofs.store.Store.claim.Goals as goal

pub returns-in_err-number-clause-claims : goal.returns-in_err-number-clause-claims
returns-in_err-number-clause-claims c =
    let none : c.from_residual.result ≡ None = search rules in
    let limit = ap (λ t. t.limit) c.requires.1 ∙ (sym (ap (λ s. s.seats.terms.limit) c.self.view_is) ∙ c.self.invariant.limit_is) in
    let names = ap (λ t. t.names) c.requires.1 ∙ sym (ap (λ s. s.seats.terms.names) c.self.view_is) in
    λ r. subst (λ a. HasClaimed c.draw.new.pass.view r ↔ (HasClaimed c.args.pass.now.view r ⊎ (a ≡ Some r))) (sym none)
    (claims_none c.args.pass.now.view c.draw.new.pass.view c.in_err-number.ensures.drew (omega (arith, limit, ap length names)) r)

pub returns-clause-gives : goal.returns-clause-gives
returns-clause-gives c =
    let limit = ap (λ t. t.limit) c.requires.1 ∙ (sym (ap (λ s. s.seats.terms.limit) c.self.view_is) ∙ c.self.invariant.limit_is) in
    let names = ap (λ t. t.names) c.requires.1 ∙ sym (ap (λ s. s.seats.terms.names) c.self.view_is) in
    let at = rank_at c.args.pass.now.view.terms.names c.self.inside.list.items _ c.in_ok-number.number c.index.result.now (names ∙ sym c.self.invariant.list_is) (omega (arith, limit, ap length names)) c.in_ok-number.ensures.drew.1 c.index.ensures in
    record { number = c.in_ok-number.number; drew = c.in_ok-number.ensures.drew; at = at }

pub returns-clause-claims : goal.returns-clause-claims
returns-clause-claims c =
    let limit = ap (λ t. t.limit) c.requires.1 ∙ (sym (ap (λ s. s.seats.terms.limit) c.self.view_is) ∙ c.self.invariant.limit_is) in
    let names = ap (λ t. t.names) c.requires.1 ∙ sym (ap (λ s. s.seats.terms.names) c.self.view_is) in
    let at = rank_at c.args.pass.now.view.terms.names c.self.inside.list.items _ c.in_ok-number.number c.index.result.now (names ∙ sym c.self.invariant.list_is) (omega (arith, limit, ap length names)) c.in_ok-number.ensures.drew.1 c.index.ensures in
    claims_some c.args.pass.now.view c.draw.new.pass.view c.in_ok-number.number c.index.result.now c.in_ok-number.ensures.drew at

pub returns-clause-pending : goal.returns-clause-pending
returns-clause-pending c =
    let limit = ap (λ t. t.limit) c.requires.1 ∙ (sym (ap (λ s. s.seats.terms.limit) c.self.view_is) ∙ c.self.invariant.limit_is) in
    let names = ap (λ t. t.names) c.requires.1 ∙ sym (ap (λ s. s.seats.terms.names) c.self.view_is) in
    let at = rank_at c.args.pass.now.view.terms.names c.self.inside.list.items _ c.in_ok-number.number c.index.result.now (names ∙ sym c.self.invariant.list_is) (omega (arith, limit, ap length names)) c.in_ok-number.ensures.drew.1 c.index.ensures in
    pending_new c.args.pass.now.view c.draw.new.pass.view c.in_ok-number.number c.index.result.now c.in_ok-number.ensures.drew at
