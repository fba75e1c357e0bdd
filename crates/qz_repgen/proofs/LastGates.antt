-- The last gate of a circuit, by its rank.
use Rattle.std.proofs.Common.{◌≡◌, ℕ, ◌-◌, ◌%◌, ◌/◌, ◌<◌, [], ◌∷◌, ◌++◌, length, get_or, sym, ap, subst, ◌∙◌}
use Rattle.std.specs.Prelude.{Contains, Some, slice_get}
use Rattle.std.proofs.lemmas.Option.{get_or_from_slice_get}
use Rattle.std.proofs.lemmas.List.Elements.{Contains-get_or}
use Rattle.qz_circ.specs.declared.circuit.Op.{Op}
use Rattle.qz_circ.specs.declared.circuit.Op.TheVariants.{H}
use Rattle.qz_circ.specs.Bounds.{IsLawful, gate_count}
use Rattle.qz_circ.specs.Circuit.{Circuit, Limits, ActsBelow, HasBelow, gates_of}
use Rattle.qz_circ.specs.Classes.{without_last}
use Rattle.qz_circ.specs.Order.{all_circuits, circuit_at}
use Rattle.qz_circ.proofs.BoundsLemmas.{in_range}
use Rattle.qz_circ.proofs.DroppedGates.{without_last-push}
use Rattle.qz_circ.proofs.GateNumbers.{gate_below}
use Rattle.qz_circ.proofs.MoreParameters.{has_with_more}
use Rattle.qz_circ.proofs.RankLemmas.{LastGate, last_gate}

module _ (b : Limits) (lawful : IsLawful b) (r gates : ℕ) (same : gates ≡ gate_count b) (some : 0 < r) (listed : r < length (all_circuits b)) where
  last : LastGate b r ((r - 1) / gates) ((r - 1) % gates)
  last = last_gate b lawful r gates same some listed

  -- the gate has a number
  pub number_of_last : (r - 1) % gates < gate_count b
  number_of_last = last.gate

  module _ (op : Op) (is : slice_get (gates_of b) ((r - 1) % gates) ≡ Some op) where
    here : get_or (gates_of b) ((r - 1) % gates) (H 0) ≡ op
    here = get_or_from_slice_get (gates_of b) ((r - 1) % gates) op (H 0) is

    -- it is on the qubits and parameters of the limits
    gate : ActsBelow b.q op × HasBelow b.m op
    unfolding gate_count
    gate = gate_below b op (subst (Contains (gates_of b)) here (Contains-get_or (gates_of b) ((r - 1) % gates) (H 0) number_of_last))

    pub last_acts : ActsBelow b.q op
    last_acts = gate.0

    pub last_has : HasBelow 3 op
    last_has = has_with_more b.m 3 op (in_range b lawful).params gate.1

    -- the circuit is the one without it, and the gate
    pub with_last : (c : Circuit) → c ≡ without_last (circuit_at b r) → circuit_at b r ≡ c ++ op ∷ []
    with_last c front =
        let before = circuit_at b ((r - 1) / gates) in
        let g = get_or (gates_of b) ((r - 1) % gates) (H 0) in
        let whole = last.circuit in
        let part : c ≡ before = front ∙ ap without_last whole ∙ without_last-push before g in
        whole ∙ ap (λ x. x ++ g ∷ []) (sym part) ∙ ap (λ x. c ++ x ∷ []) here
