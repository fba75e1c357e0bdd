use Rattle.std.proofs.Common.{◌≡◌, ◌-◌, ◌/◌, ◌%◌, ◌++◌, ◌∷◌, [], ◌∙◌, sym, ap, subst, arith, reverse, is_some, append_assoc}
use Rattle.std.proofs.lemmas.List.{reverse-append}
use Rattle.std.proofs.lemmas.Option.{slice_get-get_or, get_or_from_slice_get}
use Rattle.qz_circ.specs.declared.circuit.Op.TheVariants.{H}
use Rattle.qz_circ.specs.Circuit.{Within, gates_of}
use Rattle.qz_circ.specs.Bounds.{gate_count}
use Rattle.qz_circ.specs.Order.{circuit_at, rank}
use Rattle.qz_circ.proofs.CircuitPlaces.{circuit_at-zero, circuit_at-within}
use Rattle.qz_circ.proofs.RankLemmas.{last_gate, some_gate, rank-circuit_at}
use Rattle.qz_circ.proofs.ranks.unrank.Goals as goal
use Rattle.qz_circ.proofs.ranks.unrank.Goals.{After-reverse}

pub nonzero_rem-last : goal.nonzero_rem-last
nonzero_rem-last c = some_gate c.args.b c.gates-gates.ensures.lawful c.gates-gates.result c.gates-gates.ensures.value

pub nonzero_div-rest : goal.nonzero_div-rest
nonzero_div-rest c = some_gate c.args.b c.gates-gates.ensures.lawful c.gates-gates.result c.gates-gates.ensures.value

pub unwrap-requires : goal.unwrap-requires
unfolding gate_count
unwrap-requires c =
    let last = last_gate c.args.b c.gates-gates.ensures.lawful c.loop-rest.rest c.gates-gates.result c.gates-gates.ensures.value c.loop-rest-test.true c.loop-rest.invariant.listed in
    ap is_some (c.op_of.ensures.gate ∙ slice_get-get_or (gates_of c.args.b) ((c.loop-rest.rest - 1) % c.gates-gates.result) (H 0) last.gate)

pub push_reserved-requires : goal.push_reserved-requires
push_reserved-requires c =
    let last = last_gate c.args.b c.gates-gates.ensures.lawful c.loop-rest.rest c.gates-gates.result c.gates-gates.ensures.value c.loop-rest-test.true c.loop-rest.invariant.listed in
    omega (arith, last.longer, c.loop-rest.invariant.room)

pub loop-rest-preserved : goal.loop-rest-preserved
loop-rest-preserved c =
    let last = last_gate c.args.b c.gates-gates.ensures.lawful c.loop-rest.rest c.gates-gates.result c.gates-gates.ensures.value c.loop-rest-test.true c.loop-rest.invariant.listed in
    let before = circuit_at c.args.b ((c.loop-rest.rest - 1) / c.gates-gates.result) in
    let gate = get_or_from_slice_get (gates_of c.args.b) ((c.loop-rest.rest - 1) % c.gates-gates.result) c.unwrap.result (H 0) (sym c.op_of.ensures.gate ∙ c.unwrap.ensures) in
    let turned : reverse c.push_reserved.new.self.items ≡ c.unwrap.result ∷ reverse c.loop-rest.circuit.items = ap reverse c.push_reserved.ensures.items ∙ reverse-append c.loop-rest.circuit.items (c.unwrap.result ∷ []) in
    let moved : before ++ (c.unwrap.result ∷ reverse c.loop-rest.circuit.items) ≡ (before ++ c.unwrap.result ∷ []) ++ reverse c.loop-rest.circuit.items = sym (append_assoc before (c.unwrap.result ∷ []) (reverse c.loop-rest.circuit.items)) in
    let whole : before ++ c.unwrap.result ∷ [] ≡ circuit_at c.args.b c.loop-rest.rest = ap (λ g. before ++ g ∷ []) (sym gate) ∙ sym last.circuit in
    record {
      listed = last.listed;
      parts = ap (λ gs. before ++ gs) turned ∙ moved ∙ ap (λ gs. gs ++ reverse c.loop-rest.circuit.items) whole ∙ c.loop-rest.invariant.parts;
      room = omega (arith, last.longer, c.loop-rest.invariant.room, c.push_reserved.ensures.len, c.push_reserved.ensures.capacity);
    }

-- the gates that were found, turned round, are the circuit
found : (c : After-reverse) → c.reverse.new.self.items ≡ circuit_at c.args.b c.args.r
found c =
    let ended : c.loop-rest.rest ≡ 0 = omega arith in
    let none : circuit_at c.args.b c.loop-rest.rest ≡ [] = ap (circuit_at c.args.b) ended ∙ circuit_at-zero c.args.b in
    c.reverse.ensures.items ∙ ap (λ gs. gs ++ reverse c.loop-rest.circuit.items) (sym none) ∙ c.loop-rest.invariant.parts

pub returns-clause-circuit : goal.returns-clause-circuit
returns-clause-circuit c = found c

pub returns-clause-within : goal.returns-clause-within
returns-clause-within c = subst (Within c.args.b) (sym (found c)) (circuit_at-within c.args.b c.args.r c.requires)

pub returns-clause-rank : goal.returns-clause-rank
returns-clause-rank c = ap (rank c.args.b) (found c) ∙ rank-circuit_at c.args.b c.gates-gates.ensures.lawful c.args.r c.requires
