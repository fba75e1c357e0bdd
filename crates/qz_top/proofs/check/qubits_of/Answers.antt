use Rattle.std.proofs.Common.{◌≤◌, List, length, length-append, subst, sym, arith}
use Rattle.qz_circ.specs.ProgramLimits.{most_registers}
use Rattle.qz_circ.specs.Registers.{RegisterParts}
use Rattle.qz_top.proofs.check.qubits_of.Goals as goal

pub total_size-requires : goal.total_size-requires
total_size-requires c =
    subst (λ (rs : List RegisterParts). length rs ≤ most_registers) (sym c.qregs.ensures) (omega (arith, length-append c.args.program.now.qregs c.args.program.now.cregs, c.requires.few_registers))
