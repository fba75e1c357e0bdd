-- The numbers of statuses.
use Rattle.std.specs.Prelude.{ℕ}
use Rattle.qz_circ.specs.declared.fault.Which.{Which}
use Rattle.qz_circ.specs.declared.fault.Which.TheVariants.{BoundsQubits, BoundsGates, BoundsParams, BoundsGrain, BoundsCircuits, Workers, PlanBatch, PlanCap, PlanRounds, PlanSlack, CostWeight, RuleBytes, TrialQubits, TrialGates, FileBytes}
use Rattle.qz_top.specs.declared.status.Status.{Status}
use Rattle.qz_top.specs.declared.status.Status.TheVariants.{Ok, Memory, Usage, Limit, Qasm, RuleSyntax, Unsound, NoFile, ReadFault, WriteFault, ShelfFault, Shapes, FileQasm}

-- the number that the program ends with
abbrev pub status_number : Status → ℕ
status_number Ok = 0
status_number Memory = 1
status_number Usage = 2
status_number (Limit which) = 3
status_number (Qasm fault) = 4
status_number (RuleSyntax place) = 5
status_number (Unsound class member) = 6
status_number NoFile = 7
status_number ReadFault = 8
status_number WriteFault = 9
status_number ShelfFault = 10
status_number (Shapes input file) = 16
status_number (FileQasm fault) = 17

-- a status that refuses the words, the file that they name, the input, or a pair of programs
abbrev pub IsRefusal : Status → Type 0
IsRefusal Ok = ⊥
IsRefusal Memory = ⊥
IsRefusal Usage = Unit {0}
IsRefusal (Limit which) = Unit {0}
IsRefusal (Qasm fault) = Unit {0}
IsRefusal (RuleSyntax place) = Unit {0}
IsRefusal (Unsound class member) = Unit {0}
IsRefusal NoFile = Unit {0}
IsRefusal ReadFault = ⊥
IsRefusal WriteFault = ⊥
IsRefusal ShelfFault = ⊥
IsRefusal (Shapes input file) = Unit {0}
IsRefusal (FileQasm fault) = Unit {0}

-- a status at which nothing is written: a refusal, or the input or the shelf failed
abbrev pub WritesNothing : Status → Type 0
WritesNothing Ok = ⊥
WritesNothing Memory = ⊥
WritesNothing Usage = Unit {0}
WritesNothing (Limit which) = Unit {0}
WritesNothing (Qasm fault) = Unit {0}
WritesNothing (RuleSyntax place) = Unit {0}
WritesNothing (Unsound class member) = Unit {0}
WritesNothing NoFile = Unit {0}
WritesNothing ReadFault = Unit {0}
WritesNothing WriteFault = ⊥
WritesNothing ShelfFault = Unit {0}
WritesNothing (Shapes input file) = Unit {0}
WritesNothing (FileQasm fault) = Unit {0}

-- a limit of words, of the bounds of a rule file, or of the size of a file that words name
abbrev pub IsLimitBeforeInput : Which → Type 0
IsLimitBeforeInput BoundsQubits = Unit {0}
IsLimitBeforeInput BoundsGates = Unit {0}
IsLimitBeforeInput BoundsParams = Unit {0}
IsLimitBeforeInput BoundsGrain = Unit {0}
IsLimitBeforeInput BoundsCircuits = Unit {0}
IsLimitBeforeInput Workers = Unit {0}
IsLimitBeforeInput PlanBatch = Unit {0}
IsLimitBeforeInput PlanCap = Unit {0}
IsLimitBeforeInput PlanRounds = Unit {0}
IsLimitBeforeInput PlanSlack = Unit {0}
IsLimitBeforeInput CostWeight = Unit {0}
IsLimitBeforeInput RuleBytes = Unit {0}
IsLimitBeforeInput TrialQubits = Unit {0}
IsLimitBeforeInput TrialGates = Unit {0}
IsLimitBeforeInput FileBytes = Unit {0}
IsLimitBeforeInput _ = ⊥

-- a status that the words, the shelf or the named file decide, before any input is needed; a limit that the program of a file
-- passes is none of these, since an input may pass it too
abbrev pub IsBeforeInput : Status → Type 0
IsBeforeInput Ok = ⊥
IsBeforeInput Memory = ⊥
IsBeforeInput Usage = Unit {0}
IsBeforeInput (Limit which) = IsLimitBeforeInput which
IsBeforeInput (Qasm fault) = ⊥
IsBeforeInput (RuleSyntax place) = Unit {0}
IsBeforeInput (Unsound class member) = Unit {0}
IsBeforeInput NoFile = Unit {0}
IsBeforeInput ReadFault = ⊥
IsBeforeInput WriteFault = ⊥
IsBeforeInput ShelfFault = Unit {0}
IsBeforeInput (Shapes input file) = ⊥
IsBeforeInput (FileQasm fault) = Unit {0}
