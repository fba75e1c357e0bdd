-- Kinds of gates: which of them a program has, and which gates of rules can't be any of its gates.
use Rattle.std.specs.Prelude.{◌≡◌, ◌&&◌, ◌/◌, Bool, true, false, not, slice_index_or}
use Rattle.std.specs.List.{AllByRecursion}
use Rattle.qz_circ.specs.declared.circuit.Expr.{Expr}
use Rattle.qz_circ.specs.declared.circuit.Expr.TheVariants.{Const}
use Rattle.qz_circ.specs.declared.circuit.Op.{Op}
use Rattle.qz_circ.specs.declared.circuit.Op.TheVariants.{H, X, Cx, Rz}
use Rattle.qz_circ.specs.declared.circuit.Inst.{Inst}
use Rattle.qz_circ.specs.declared.circuit.Inst.TheVariants.{H as ProgramH, X as ProgramX, Cx as ProgramCx, Rz as ProgramRz}
use Rattle.qz_circ.specs.Exponent.{constant_turn}
use Rattle.qz_circ.specs.ProgramCircuits.{ProgramCircuit}
use Rattle.qz_match.specs.declared.kinds.Kinds.{Kinds}

-- the gate is of one of these kinds
abbrev pub is_shown : Kinds → Inst → Bool
is_shown kinds (ProgramH t) = kinds.h
is_shown kinds (ProgramX t) = kinds.x
is_shown kinds (ProgramCx c t) = kinds.cx
is_shown kinds (ProgramRz t k) = kinds.rz && slice_index_or kinds.eighths (k / 64) false

-- all gates are
abbrev pub AreShown : ProgramCircuit → Kinds → Type 0
AreShown c kinds = AllByRecursion (λ g. is_shown kinds g ≡ true) c

-- the gate is of one of the new kinds, and so is each that was of one of the old
pub record ShowsMore (old new : Kinds) (g : Inst) : Type 0 where
  pub this : is_shown new g ≡ true
  pub others : (f : Inst) → is_shown old f ≡ true → is_shown new f ≡ true

-- no angle of these kinds can be this one of a rule
abbrev pub is_angle_lacked : Kinds → Expr → Bool
is_angle_lacked kinds (Const t) = not (slice_index_or kinds.eighths (constant_turn t / 64) false)
is_angle_lacked kinds e = not kinds.rz

-- no gate of these kinds can be this one of a rule
abbrev pub is_lacked : Kinds → Op → Bool
is_lacked kinds (H t) = not kinds.h
is_lacked kinds (X t) = not kinds.x
is_lacked kinds (Cx c t) = not kinds.cx
is_lacked kinds (Rz t e) = is_angle_lacked kinds e
