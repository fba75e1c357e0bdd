use Rattle.std.proofs.Common.{◌∙◌}
use Rattle.qz_top.proofs.CheckLemmas.{verdict_of, gates_on}
use Rattle.qz_top.proofs.check.verdict.Goals as goal

pub check-requires-clause-first : goal.check-requires-clause-first
check-requires-clause-first c = gates_on c.args.program.now c.qubits_of-q.result c.gates.result.now c.requires.valid c.qubits_of-q.ensures c.gates.ensures

pub check-requires-clause-second : goal.check-requires-clause-second
check-requires-clause-second c = gates_on c.args.file.now c.qubits_of-q.result c.gates-2.result.now c.requires.file_valid (c.qubits_of-q.ensures ∙ c.requires.same) c.gates-2.ensures

pub returns : goal.returns
returns c =
    verdict_of c.args.program.now c.args.file.now c.qubits_of-q.result c.gates.result.now c.gates-2.result.now c.in_ok-same.same _ c.qubits_of-q.ensures c.gates.ensures c.gates-2.ensures c.verdict_text.ensures c.in_ok-same.ensures.exact
