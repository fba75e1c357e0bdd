-- The gates before the first position stay where they are.
use Rattle.std.proofs.Common.{◌≡◌, ◌≤◌, ◌+◌, ◌==◌, ℕ, zero, suc, Bool, true, false, if◌then◌else◌, List, [], ◌∷◌, ◌++◌, length, take, drop, append_assoc, refl, ap, ◌∙◌, arith}
use Rattle.std.proofs.lemmas.Bool.{eqb-true}
use Rattle.qz_circ.specs.ProgramCircuits.{ProgramCircuit}
use Rattle.qz_circ.specs.Gathering.{marked, before_of, after_of, replaced_at}

before_kept : (k i p : ℕ) (ps : List ℕ) (c rest : ProgramCircuit) → k + i ≤ p → k ≤ length c → take k (before_of [] [] (marked i (p ∷ ps) c) ++ rest) ≡ take k c
unfolding marked before_of
before_kept zero i p ps c rest h l = refl
before_kept (suc k) i p ps [] rest h l = absurd (omega arith)
before_kept (suc k) i p ps (g ∷ c) rest h l = by (p == i) refl (before_kept k (suc i) p ps c rest (omega arith) (omega arith))
  where
    by : (b : Bool) → (p == i) ≡ b → take k (before_of [] [] (marked (suc i) (p ∷ ps) c) ++ rest) ≡ take k c → take (suc k) (before_of [] [] (if b then (true, g) ∷ marked (suc i) ps c else (false, g) ∷ marked (suc i) (p ∷ ps) c) ++ rest) ≡ take (suc k) (g ∷ c)
    by true e ih = absurd (omega (arith, eqb-true p i e))
    by false e ih = ap (λ xs. g ∷ xs) ih

pub front_kept : (k p : ℕ) (ps : List ℕ) (new c : ProgramCircuit) → k ≤ p → k ≤ length c → take k (replaced_at (p ∷ ps) new c) ≡ take k c
unfolding replaced_at
front_kept k p ps new c h l =
    let before = before_of [] [] (marked 0 (p ∷ ps) c) in
    let after = after_of [] [] (marked 0 (p ∷ ps) c) in
    let rest = drop (length (marked 0 (p ∷ ps) c)) c in
    ap (take k) (append_assoc (before ++ new) after rest ∙ append_assoc before new (after ++ rest)) ∙ before_kept k 0 p ps c (new ++ (after ++ rest)) (omega arith) l
