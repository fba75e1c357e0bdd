-- Tests of terms.
use Rattle.std.proofs.Common.{◌≡◌, ap, refl, true}
use Rattle.std.specs.Bool.{Decides}
use Rattle.std.proofs.lemmas.Bool.Decides.{Decides-and, Decides-eqb, Decides-int_eq, Decides-like}
use Rattle.qz_ring.specs.Terms.{Term}
use Rattle.qz_ring.specs.contracts.term.TermPartialEq.TheImpl.{eq-value}
use Rattle.qz_ring.proofs.Order.{same_from_parts}
use Rattle.qz_ring.proofs.Counts.{same_term_from_parts}

-- the test of two terms tells whether they are the same
pub term_decides : (a b : Term) → Decides (eq-value.it a b) (a ≡ b)
term_decides a b =
    let x = a.exponent in
    let y = b.exponent in
    let ends : Decides true (Unit {0}) = (λ _. tt, λ _. refl) in
    let powers = Decides-and _ _ (Decides-int_eq x.x0 y.x0) (Decides-and _ _ (Decides-int_eq x.x1 y.x1) (Decides-and _ _ (Decides-int_eq x.x2 y.x2) ends)) in
    let parts = Decides-and _ _ (Decides-and _ _ (Decides-eqb x.turn y.turn) powers) (Decides-int_eq a.coefficient b.coefficient) in
    Decides-like _
    (λ same. same_term_from_parts a b (same_from_parts x y same.0.0 same.0.1.0 same.0.1.1.0 same.0.1.1.1.0) same.1)
    (λ same. ((ap (λ (t : Term). t.exponent.turn) same, (ap (λ (t : Term). t.exponent.x0) same, (ap (λ (t : Term). t.exponent.x1) same, (ap (λ (t : Term). t.exponent.x2) same, tt)))), ap (λ (t : Term). t.coefficient) same))
    parts
