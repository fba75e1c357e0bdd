-- Their own names leave circuits within limits as they are.
use Rattle.std.proofs.Common.{◌≡◌, ℕ, zero, suc, ◌<◌, ◌≤◌, true, List, [], ◌∷◌, map, length, get_or, refl, ap, ◌∙◌, arith, sym}
use Rattle.std.specs.Prelude.{Contains, slice_index}
use Rattle.std.specs.List.{AllByRecursion}
use Rattle.std.proofs.lemmas.List.{get_or-map}
use Rattle.qz_circ.specs.declared.circuit.Expr.{Expr}
use Rattle.qz_circ.specs.declared.circuit.Op.{Op}
use Rattle.qz_circ.specs.declared.circuit.Op.TheVariants.{H, X, Cx, Rz}
use Rattle.qz_circ.specs.Circuit.{Circuit, Limits, Within, gates_of, angles}
use Rattle.qz_circ.specs.Bounds.{IsLawful, is_grain}
use Rattle.qz_circ.specs.Relabellings.{IsPermutation, renamed_angle, renamed_gate, renamed}
use Rattle.qz_circ.proofs.BoundsLemmas.{in_range, for_grains}
use Rattle.qz_circ.proofs.GateNumbers.{OfEachKind, of_gate}

-- the names that 0, 1 and 2 have
abbrev pub own_names : List ℕ
own_names = 0 ∷ 1 ∷ 2 ∷ []

-- they are those of a number below 3
own : (k : ℕ) → k < 3 → slice_index own_names k ≡ k
own zero few = refl
own (suc zero) few = refl
own (suc (suc zero)) few = refl
own (suc (suc (suc k))) few = absurd (omega arith)

-- and a permutation of the numbers below each n
pub own_permutation : (n : ℕ) → IsPermutation n own_names
own_permutation n = record {
  three = refl;
  within = λ k few. omega (arith, own k few);
  different = λ i k less few same. omega (arith, own i (omega arith), own k few, same);
  others = λ k from few. own k few;
}

-- the angles with few parameters stay
angles_stay : (m grain : ℕ) → m ≤ 3 → is_grain grain ≡ true → map (renamed_angle own_names) (angles m grain) ≡ angles m grain
unfolding angles
angles_stay zero grain few g = for_grains (λ h. map (renamed_angle own_names) (angles 0 h) ≡ angles 0 h) grain g refl refl refl
angles_stay (suc zero) grain few g = for_grains (λ h. map (renamed_angle own_names) (angles 1 h) ≡ angles 1 h) grain g refl refl refl
angles_stay (suc (suc zero)) grain few g = for_grains (λ h. map (renamed_angle own_names) (angles 2 h) ≡ angles 2 h) grain g refl refl refl
angles_stay (suc (suc (suc zero))) grain few g = for_grains (λ h. map (renamed_angle own_names) (angles 3 h) ≡ angles 3 h) grain g refl refl refl
angles_stay (suc (suc (suc (suc m)))) grain few g = absurd (omega arith)

-- what leaves a list leaves its elements
stays : {A : Type 0} (f : A → A) (xs : List A) (x : A) → map f xs ≡ xs → Contains xs x → f x ≡ x
stays {A} f xs x same (k, inside, is) =
    let there : get_or (map f xs) k (f x) ≡ get_or xs k x = ap (λ ys. get_or ys k (f x)) same ∙ default_free xs k (f x) x inside in
    ap f (sym is) ∙ sym (get_or-map f xs k x (f x) inside) ∙ there ∙ is
  where
    default_free : (ys : List A) (k : ℕ) (d e : A) → k < length ys → get_or ys k d ≡ get_or ys k e
    default_free [] k d e less = absurd (omega arith)
    default_free (y ∷ ys) zero d e less = refl
    default_free (y ∷ ys) (suc k) d e less = default_free ys k d e (omega arith)

module _ (b : Limits) (lawful : IsLawful b) where
  -- gates stay
  gate_stays : (g : Op) → Contains (gates_of b) g → renamed_gate own_names own_names g ≡ g
  gate_stays g has =
      let range = in_range b lawful in
      of_gate (λ g. renamed_gate own_names own_names g ≡ g) b (record {
        of_h = λ t less. ap H (own t (omega (arith, range.qubits)));
        of_x = λ t less. ap X (own t (omega (arith, range.qubits)));
        of_cx = λ c t few less apart. (λ i. Cx (own c (omega (arith, range.qubits)) i) (own t (omega (arith, range.qubits)) i));
        of_rz = λ t e less listed. (λ i. Rz (own t (omega (arith, range.qubits)) i) (stays (renamed_angle own_names) (angles b.m b.grain) e (angles_stay b.m b.grain range.params range.grain) listed i));
      }) g has

  -- and circuits
  gates_stay : (c : Circuit) → AllByRecursion (Contains (gates_of b)) c → renamed own_names own_names c ≡ c
  gates_stay [] all = refl
  gates_stay (g ∷ c) all = λ i. gate_stays g all.0 i ∷ gates_stay c all.1 i

  pub circuit_stays : (c : Circuit) → Within b c → renamed own_names own_names c ≡ c
  circuit_stays c within = gates_stay c within.gates
