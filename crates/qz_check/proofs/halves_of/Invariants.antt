use Rattle.std.proofs.Common.{◌≡◌, ◌≤◌, take}
use Rattle.qz_circ.specs.ProgramCircuits.{program_halves}
use Rattle.qz_check.proofs.halves_of.Given as goal

abbrev pub invariant-loop-gate : goal.invariant-loop-gate
invariant-loop-gate l = record {
  halves : l.halves ≡ program_halves (take l.gate-index l.gates);
  few : l.halves ≤ l.gate-index;
}
