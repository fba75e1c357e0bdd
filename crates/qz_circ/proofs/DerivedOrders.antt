-- The derived orders of angles and gates are the orders by their keys.
use Rattle.std.proofs.Common.{◌≡◌, refl, ap, Less, Equal, Greater}
use Rattle.std.specs.declared.cmp.Ordering.{Ordering}
use Rattle.std.specs.Ordering.{nat_cmp, ordering_then}
use Rattle.std.specs.Cmp.Lexicographic.{slice_cmp}
use Rattle.qz_circ.specs.declared.circuit.Expr.{Expr}
use Rattle.qz_circ.specs.declared.circuit.Expr.TheVariants.{Const, Plus, Minus, Sum}
use Rattle.qz_circ.specs.declared.circuit.Op.{Op}
use Rattle.qz_circ.specs.declared.circuit.Op.TheVariants.{H, X, Cx, Rz}
use Rattle.qz_circ.specs.declared.circuit.Inst.{Inst}
use Rattle.qz_circ.specs.declared.circuit.Inst.TheVariants.{H as ProgramH, X as ProgramX, Cx as ProgramCx, Rz as ProgramRz}
use Rattle.qz_circ.specs.Order.{angle_key, gate_cmp}
use Rattle.qz_circ.specs.ProgramCircuits.{program_gate_cmp}
use Rattle.qz_circ.specs.contracts.circuit.ExprOrd.TheImpl as angle_order
use Rattle.qz_circ.specs.contracts.circuit.OpOrd.TheImpl as gate_order
use Rattle.qz_circ.specs.contracts.circuit.InstOrd.TheImpl as program_gate_order

-- where nothing is left to compare, the answer stays
then_equal : (answer : Ordering) → answer ≡ ordering_then answer Equal
then_equal Less = refl
then_equal Equal = refl
then_equal Greater = refl

-- angles
angles_by_key : (d e : Expr) → (angle_order.ghosts).cmp d e ≡ slice_cmp nat_cmp (angle_key d) (angle_key e)
angles_by_key (Const s) (Const t) = then_equal (nat_cmp s t)
angles_by_key (Plus i) (Plus j) = then_equal (nat_cmp i j)
angles_by_key (Minus i) (Minus j) = then_equal (nat_cmp i j)
angles_by_key (Sum h i) (Sum j k) = ap (ordering_then (nat_cmp h j)) (then_equal (nat_cmp i k))
angles_by_key d e = refl

-- gates of rules
pub gates_by_key : (f g : Op) → (gate_order.ghosts).cmp f g ≡ gate_cmp f g
unfolding gate_cmp
gates_by_key (H s) (H t) = then_equal (nat_cmp s t)
gates_by_key (X s) (X t) = then_equal (nat_cmp s t)
gates_by_key (Cx b s) (Cx c t) = ap (ordering_then (nat_cmp b c)) (then_equal (nat_cmp s t))
gates_by_key (Rz s d) (Rz t e) = ap (ordering_then (nat_cmp s t)) (angles_by_key d e)
gates_by_key f g = refl

-- gates of programs
pub program_gates_by_key : (f g : Inst) → (program_gate_order.ghosts).cmp f g ≡ program_gate_cmp f g
unfolding program_gate_cmp
program_gates_by_key (ProgramH s) (ProgramH t) = then_equal (nat_cmp s t)
program_gates_by_key (ProgramX s) (ProgramX t) = then_equal (nat_cmp s t)
program_gates_by_key (ProgramCx b s) (ProgramCx c t) = ap (ordering_then (nat_cmp b c)) (then_equal (nat_cmp s t))
program_gates_by_key (ProgramRz s j) (ProgramRz t k) = ap (ordering_then (nat_cmp s t)) (then_equal (nat_cmp j k))
program_gates_by_key f g = refl

-- what is asked twice is answered as once
pub then_again : (first rest : Ordering) → ordering_then first rest ≡ ordering_then first (ordering_then first rest)
then_again Less rest = refl
then_again Equal rest = refl
then_again Greater rest = refl
