-- Circuits of rules that compare as equal are equal.
use Rattle.std.proofs.Common.{◌≡◌, [], ◌∷◌, length, refl, Less, Equal, Greater}
use Rattle.std.specs.declared.cmp.Ordering.{Ordering}
use Rattle.std.specs.Ordering.{nat_cmp, ordering_then}
use Rattle.std.specs.Cmp.Lexicographic.{slice_cmp}
use Rattle.std.proofs.lemmas.Map.Lookups.{CmpEqualImpliesEq, exact_bytes}
use Rattle.qz_circ.specs.declared.circuit.Expr.{Expr}
use Rattle.qz_circ.specs.declared.circuit.Expr.TheVariants.{Const, Plus, Minus, Sum}
use Rattle.qz_circ.specs.declared.circuit.Op.{Op}
use Rattle.qz_circ.specs.declared.circuit.Op.TheVariants.{H, X, Cx, Rz}
use Rattle.qz_circ.specs.Order.{angle_key, gate_key, gate_cmp, circuit_cmp}

both_equal : (a b : Ordering) → ordering_then a b ≡ Equal → (a ≡ Equal) × (b ≡ Equal)
both_equal Less b h = cc
both_equal Equal b h = (refl, h)
both_equal Greater b h = cc

lists_exact : {K : Type 0} (R : K → K → Ordering) → CmpEqualImpliesEq R → CmpEqualImpliesEq (slice_cmp R)
lists_exact R e [] [] h = refl
lists_exact R e [] (y ∷ ys) h = cc
lists_exact R e (x ∷ xs) [] h = cc
lists_exact R e (x ∷ xs) (y ∷ ys) h =
    let both = both_equal (R x y) (slice_cmp R xs ys) h in
    let first : x ≡ y = e x y both.0 in
    let rest : xs ≡ ys = lists_exact R e xs ys both.1 in
    cc

angles_exact : (d e : Expr) → angle_key d ≡ angle_key e → d ≡ e
angles_exact (Const s) (Const t) h = cc
angles_exact (Plus s) (Plus t) h = cc
angles_exact (Minus s) (Minus t) h = cc
angles_exact (Sum s i) (Sum t j) h = cc
angles_exact d e h = cc

keys_exact : (f g : Op) → gate_key f ≡ gate_key g → f ≡ g
keys_exact (H s) (H t) h = cc
keys_exact (X s) (X t) h = cc
keys_exact (Cx b s) (Cx c t) h = cc
keys_exact (Rz s d) (Rz t e) h =
    let same : d ≡ e = angles_exact d e (cc) in
    let qubit : s ≡ t = cc in
    cc
keys_exact f g h = cc

gate_exact : CmpEqualImpliesEq gate_cmp
unfolding gate_cmp
gate_exact f g h = keys_exact f g (exact_bytes (gate_key f) (gate_key g) h)

pub circuit_cmp_exact : CmpEqualImpliesEq circuit_cmp
unfolding circuit_cmp
circuit_cmp_exact c d h =
    let parts = both_equal (nat_cmp (length c) (length d)) (slice_cmp gate_cmp c d) h in
    lists_exact gate_cmp gate_exact c d parts.1
