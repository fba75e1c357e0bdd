-- The text of a rule file.
use Rattle.std.specs.Prelude.{ℕ, ◌==◌, if◌then◌else◌, Option, Some, None, List, [], ◌∷◌, ◌++◌, map, length, codes}
use Rattle.std.specs.Fmt.{decimal}
use Rattle.std.specs.List.{flat_map, join_with_byte}
use Rattle.qz_circ.specs.declared.circuit.Expr.{Expr}
use Rattle.qz_circ.specs.declared.circuit.Expr.TheVariants.{Const, Plus, Minus, Sum}
use Rattle.qz_circ.specs.declared.circuit.Op.{Op}
use Rattle.qz_circ.specs.declared.circuit.Op.TheVariants.{H, X, Cx, Rz}
use Rattle.qz_circ.specs.Circuit.{Circuit, Limits, multiple_of}
use Rattle.qz_circ.specs.Joined.{circuits_of_ranks}
use Rattle.qz_circ.specs.Lines.{line}

-- what the first two lines tell: the limits' numbers, and the grain where it isn't 4
pub record Head : Type 0 where
  pub n : ℕ
  pub q : ℕ
  pub m : ℕ
  pub grain : Option ℕ

-- a grain as it is told
abbrev pub told_grain : ℕ → Option ℕ
told_grain grain = if grain == 4 then None else Some grain

-- what they tell of limits
abbrev pub head_of : Limits → Head
head_of b = record { n = b.n; q = b.q; m = b.m; grain = told_grain b.grain }

-- an angle, as 1 for π/grain, p0, -p0 or p0+p1
unfoldable pub expression_text : ℕ → Expr → List ℕ
expression_text grain (Const t) = decimal (multiple_of grain t)
expression_text grain (Plus i) = codes "p" ++ decimal i
expression_text grain (Minus i) = codes "-p" ++ decimal i
expression_text grain (Sum i j) = codes "p" ++ decimal i ++ codes "+p" ++ decimal j

-- a gate, as h 0, x 0, cx 0 1 or rz(1) 0
unfoldable pub gate_text : ℕ → Op → List ℕ
gate_text grain (H t) = codes "h " ++ decimal t
gate_text grain (X t) = codes "x " ++ decimal t
gate_text grain (Cx c t) = codes "cx " ++ decimal c ++ codes " " ++ decimal t
gate_text grain (Rz t e) = codes "rz(" ++ expression_text grain e ++ codes ") " ++ decimal t

-- the gates from left to right, with semicolons (59) between them; a minus sign where there is none
unfoldable pub circuit_text : ℕ → Circuit → List ℕ
circuit_text grain [] = codes "-"
circuit_text grain (g ∷ rest) = join_with_byte 59 (map (gate_text grain) (g ∷ rest))

-- the line of a member
unfoldable pub member_text : ℕ → Circuit → List ℕ
member_text grain c = line (circuit_text grain c)

-- how many members a class has, and a line for each
unfoldable pub class_text : ℕ → List Circuit → List ℕ
class_text grain members = line (codes "class " ++ decimal (length members)) ++ flat_map (member_text grain) members

-- the version: 1, or 2 where a grain is told
abbrev pub version_text : Option ℕ → List ℕ
version_text None = codes "quartz-rules 1"
version_text (Some grain) = codes "quartz-rules 2"

-- the grain behind the other numbers, where it is told
abbrev pub grain_text : Option ℕ → List ℕ
grain_text None = []
grain_text (Some grain) = codes " " ++ decimal grain

-- the first two lines: the version and the numbers
unfoldable pub head_text : Head → List ℕ
head_text h =
    line (version_text h.grain) ++
    line (codes "bounds " ++ decimal h.n ++ codes " " ++ decimal h.q ++ codes " " ++ decimal h.m ++ grain_text h.grain)

-- the lines after these: how many classes there are, the classes in order, and an end
unfoldable pub classes_text : ℕ → List (List Circuit) → List ℕ
classes_text grain classes = line (codes "classes " ++ decimal (length classes)) ++ flat_map (class_text grain) classes ++ line (codes "end")

-- the text of the rule file of these classes of circuits
abbrev pub file_text : Limits → List (List Circuit) → List ℕ
file_text b classes = head_text (head_of b) ++ classes_text b.grain classes

-- the text of the rule file of these classes of ranks
unfoldable pub rule_text : Limits → List (List ℕ) → List ℕ
rule_text b classes = file_text b (circuits_of_ranks b classes)
