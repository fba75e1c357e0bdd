-- Programs as values.
use Rattle.std.specs.Prelude.{List}
use Rattle.qz_circ.specs.declared.circuit.Inst.{Inst}
use Rattle.qz_circ.specs.declared.program.Tail.{Tail}
use Rattle.qz_circ.specs.Registers.{RegisterParts}

-- Registers of qubits and of classical bits, gates, and the barriers and measurements after them, each in order. The qubits
-- are numbered by the order of the registers and the places in them.
pub record ProgramParts : Type 0 where
  pub qregs : List RegisterParts
  pub cregs : List RegisterParts
  pub gates : List Inst
  pub tail : List Tail
