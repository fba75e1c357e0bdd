-- Which limits are those of programs.
use Rattle.qz_circ.specs.declared.fault.Which.{Which}
use Rattle.qz_circ.specs.declared.fault.Which.TheVariants.{ProgramRegisters, ProgramQubits, ProgramBits, ProgramGates}

-- the limit is one that a declaration or a gate of a program may pass
abbrev pub IsProgramLimit : Which → Type 0
IsProgramLimit ProgramRegisters = Unit {0}
IsProgramLimit ProgramQubits = Unit {0}
IsProgramLimit ProgramBits = Unit {0}
IsProgramLimit ProgramGates = Unit {0}
IsProgramLimit _ = ⊥
