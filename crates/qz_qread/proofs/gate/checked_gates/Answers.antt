use Rattle.std.proofs.Common.{refl}
use Rattle.qz_circ.specs.Grammar.{checked_gates}
use Rattle.qz_qread.proofs.Repetitions.{qubits_fit}
use Rattle.qz_qread.proofs.Steps.{places_of}
use Rattle.qz_qread.proofs.gate.checked_gates.Goals as goal

pub applied-requires-clause-below : goal.applied-requires-clause-below
applied-requires-clause-below c = qubits_fit c.args.registers.now c.args.args.now c.requires.few_qubits c.requires.operands c.in_default.ensures

pub returns-in-Some : goal.returns-in-Some
unfolding checked_gates
returns-in-Some c bytes other = rw (← c.in-Some.ensures, places_of bytes c.args.operands.now, ← c.place_at.ensures) refl

pub returns-in-Some-same_qubit : goal.returns-in-Some-same_qubit
unfolding checked_gates
returns-in-Some-same_qubit c bytes other = rw (← c.in_default.ensures, ← c.in-Some-same_qubit.ensures, places_of bytes c.args.operands.now, ← c.place_at-in-Some-same_qubit.ensures) refl
