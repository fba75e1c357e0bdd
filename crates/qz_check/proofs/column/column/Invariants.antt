use Rattle.std.proofs.Common.{take}
use Rattle.qz_check.specs.Columns.{IsColumn}
use Rattle.qz_check.proofs.column.column.Given as goal

abbrev pub invariant-loop-gate : goal.invariant-loop-gate
invariant-loop-gate l = IsColumn l.q l.roots l.j l.entries.items (take l.gate-index l.gates)
