-- Binding gate by gate at positions.
use Rattle.std.proofs.Common.{◌≡◌, ℕ, suc, ◌+◌, ◌<◌, ◌≤◌, List, [], ◌∷◌, zero, map, length, get_or, take, drop, refl, sym, ap, ◌∙◌, arith, Option, Some, None}
use Rattle.std.proofs.lemmas.List.{drop_more, drop_all, length-take, length-map, get_or-take}
use Rattle.qz_circ.specs.declared.binding.Binding.{Binding}
use Rattle.qz_circ.specs.declared.circuit.Op.TheVariants.{H as RuleH}
use Rattle.qz_circ.specs.declared.circuit.Inst.TheVariants.{H}
use Rattle.qz_circ.specs.Circuit.{Circuit}
use Rattle.qz_circ.specs.ProgramCircuits.{ProgramCircuit}
use Rattle.qz_circ.specs.Places.{and_then, bind_gate, bind_gates}
use Rattle.qz_match.specs.Neighbours.{gate_at}
use Rattle.qz_match.specs.Walks.{rule_gate_at}

-- the gates at the first k positions
abbrev pub gates_at : ProgramCircuit → ℕ → List ℕ → ProgramCircuit
gates_at c k found = map (gate_at c) (take k found)

get_or-gates : (c : ProgramCircuit) (ps : List ℕ) (i : ℕ) → i < length ps → get_or (map (gate_at c) ps) i (H 0) ≡ gate_at c (get_or ps i 0)
get_or-gates c [] i l = absurd (omega arith)
get_or-gates c (p ∷ ps) zero l = refl
get_or-gates c (p ∷ ps) (suc i) l = get_or-gates c ps i (omega arith)

pub bind_step : (left : Circuit) (c : ProgramCircuit) (found : List ℕ) (bind : Binding) (i : ℕ) → length left ≤ length found → i < length left → bind_gates bind (drop i left) (drop i (gates_at c (length left) found)) ≡ and_then (bind_gate bind (rule_gate_at left i) (gate_at c (get_or found i 0))) (λ next. bind_gates next (drop (i + 1) left) (drop (i + 1) (gates_at c (length left) found)))
unfolding bind_gates
bind_step left c found bind i size l =
    let taken : length (take (length left) found) ≡ length left = omega (arith, length-take (length left) found) in
    let sized : length (gates_at c (length left) found) ≡ length left = length-map (take (length left) found) (gate_at c) ∙ taken in
    let gate : get_or (gates_at c (length left) found) i (H 0) ≡ gate_at c (get_or found i 0) = get_or-gates c (take (length left) found) i (omega arith) ∙ ap (gate_at c) (get_or-take (length left) found i 0 l) in
    rw (drop_more left i (RuleH 0) l, drop_more (gates_at c (length left) found) i (H 0) (omega arith), gate)

pub bind_end : (left : Circuit) (c : ProgramCircuit) (found : List ℕ) (bind : Binding) (i : ℕ) → length left ≤ length found → length left ≤ i → bind_gates bind (drop i left) (drop i (gates_at c (length left) found)) ≡ Some bind
unfolding bind_gates
bind_end left c found bind i size l =
    let taken : length (take (length left) found) ≡ length left = omega (arith, length-take (length left) found) in
    let sized : length (gates_at c (length left) found) ≡ length left = length-map (take (length left) found) (gate_at c) ∙ taken in
    rw (drop_all i left l, drop_all i (gates_at c (length left) found) (omega arith))

-- one gate more is bound
pub bind_more : (left : Circuit) (c : ProgramCircuit) (found : List ℕ) (bind next : Binding) (i : ℕ) (all : Option Binding) → length left ≤ length found → i < length left → all ≡ bind_gates bind (drop i left) (drop i (gates_at c (length left) found)) → Some next ≡ bind_gate bind (rule_gate_at left i) (gate_at c (get_or found i 0)) → all ≡ bind_gates next (drop (i + 1) left) (drop (i + 1) (gates_at c (length left) found))
bind_more left c found bind next i all size l h one =
    h ∙ bind_step left c found bind i size l ∙ ap (λ o. and_then o (λ n. bind_gates n (drop (i + 1) left) (drop (i + 1) (gates_at c (length left) found)))) (sym one)

-- a gate doesn't bind
pub bind_none : (left : Circuit) (c : ProgramCircuit) (found : List ℕ) (bind : Binding) (i : ℕ) (all : Option Binding) → length left ≤ length found → i < length left → all ≡ bind_gates bind (drop i left) (drop i (gates_at c (length left) found)) → None ≡ bind_gate bind (rule_gate_at left i) (gate_at c (get_or found i 0)) → None ≡ all
bind_none left c found bind i all size l h one =
    sym (h ∙ bind_step left c found bind i size l ∙ ap (λ o. and_then o (λ n. bind_gates n (drop (i + 1) left) (drop (i + 1) (gates_at c (length left) found)))) (sym one))
