use Rattle.std.proofs.Common.{◌≡◌, drop}
use Rattle.std.specs.List.{AllByRecursion}
use Rattle.qz_circ.specs.Grammar.{args_of}
use Rattle.qz_circ.specs.ValidPrograms.{IsOperand}
use Rattle.qz_qread.specs.Views.{operands}
use Rattle.qz_qread.proofs.Steps.{with_found}
use Rattle.qz_qread.proofs.register.args.Given as goal

abbrev pub invariant-loop-o : goal.invariant-loop-o
invariant-loop-o l = record {
  read : with_found l.args.items (args_of l.registers (drop l.o-index (operands l.bytes l.operands))) ≡ args_of l.registers (operands l.bytes l.operands);
  within : AllByRecursion (IsOperand l.registers) l.args.items;
}
