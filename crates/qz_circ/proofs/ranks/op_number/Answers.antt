use Rattle.std.proofs.Common.{◌≡◌, ℕ, ◌∙◌, sym, refl, ap, arith, rules, Some, slice_get, Contains, is_some, unwrap_or, true≢false}
use Rattle.qz_circ.specs.declared.circuit.Op.{Op}
use Rattle.qz_circ.specs.Circuit.{Limits, gates_of}
use Rattle.qz_circ.specs.Bounds.{is_grain}
use Rattle.qz_circ.proofs.BoundsLemmas.{in_range}
use Rattle.qz_circ.proofs.GateNumbers.{listed_from_contains, contains_from_listed}
use Rattle.qz_circ.proofs.ranks.op_number.Goals as goal

pub op_place-number-requires-clause-some_qubit : goal.op_place-number-requires-clause-some_qubit
op_place-number-requires-clause-some_qubit c = omega (arith, (in_range c.args.b c.q.ensures.lawful).some_qubit)

pub op_place-number-requires-clause-qubits : goal.op_place-number-requires-clause-qubits
op_place-number-requires-clause-qubits c = omega (arith, (in_range c.args.b c.q.ensures.lawful).qubits)

pub op_place-number-requires-clause-params : goal.op_place-number-requires-clause-params
op_place-number-requires-clause-params c = omega (arith, (in_range c.args.b c.q.ensures.lawful).params)

pub op_place-number-requires-clause-grain : goal.op_place-number-requires-clause-grain
op_place-number-requires-clause-grain c = c.grain.ensures.allowed

-- a gate within the bounds stands at the number that is tried
found_at : (b : Limits) (op : Op) (q m grain number : ℕ) → q ≡ b.q → m ≡ b.m → grain ≡ b.grain → ((n k : ℕ) → slice_get (gates_of (record { n = n; q = q; m = m; grain = grain })) k ≡ Some op → number ≡ k) → Contains (gates_of b) op → slice_get (gates_of b) number ≡ Some op
found_at b op q m grain number qubits params constants place has =
    let listed = listed_from_contains (gates_of b) op has in
    let same : gates_of (record { n = b.n; q = q; m = m; grain = grain }) ≡ gates_of b = λ i. gates_of (record { n = b.n; q = qubits i; m = params i; grain = constants i }) in
    ap (slice_get (gates_of b)) (place b.n has.0 (ap (λ gates. slice_get gates has.0) same ∙ listed)) ∙ listed

pub returns-in-Some-clause-within : goal.returns-in-Some-clause-within
returns-in-Some-clause-within c =
    let listed : slice_get (gates_of c.args.b) c.op_place-number.result ≡ Some c.args.op = search rules in
    (λ e. contains_from_listed (gates_of c.args.b) c.op_place-number.result c.args.op listed, λ has. refl)

pub returns-in_default-clause-within : goal.returns-in_default-clause-within
returns-in_default-clause-within c =
    let differ : c.in-Some.found ≡ c.args.op → ⊥ = λ e. search rules in (
      λ e. absurd (true≢false (sym e)),
      λ has.
          let found = found_at c.args.b c.args.op c.q.result c.m.result c.grain.result c.op_place-number.result c.q.ensures.value c.m.ensures.value c.grain.ensures.value c.op_place-number.ensures has in
          let same : Some c.in-Some.found ≡ Some c.args.op = sym c.in-Some.is ∙ c.op_of.ensures.gate ∙ found in
          absurd (differ (ap (λ o. unwrap_or o c.args.op) same)),
    )

pub returns-in_default-2-clause-within : goal.returns-in_default-2-clause-within
returns-in_default-2-clause-within c = (
  λ e. absurd (true≢false (sym e)),
  λ has.
      let found = found_at c.args.b c.args.op c.q.result c.m.result c.grain.result c.op_place-number.result c.q.ensures.value c.m.ensures.value c.grain.ensures.value c.op_place-number.ensures has in
      ap is_some (sym c.in_default.is ∙ c.op_of.ensures.gate ∙ found),
)
