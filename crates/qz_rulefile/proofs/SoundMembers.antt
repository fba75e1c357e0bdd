-- Members of classes that are equivalent to the first ones.
use Rattle.std.proofs.Common.{◌≡◌, ℕ, zero, suc, ◌+◌, List, true, subst, below_more, arith}
use Rattle.std.specs.Prelude.{Bool, ◌↔◌, IsTrue}
use Rattle.qz_circ.specs.Circuit.{Circuit}
use Rattle.qz_circ.specs.Equivalence.{Equivalent}
use Rattle.qz_circ.specs.RuleFiles.{numbered_member, IsSoundAt}
use Rattle.qz_paths.proofs.Equivalences.{reflexive}
use Rattle.qz_rulefile.specs.Soundness.{AreSoundBefore}

-- the first member is equivalent to itself
pub first_is_sound : (q : ℕ) (classes : List (List Circuit)) (c : ℕ) → AreSoundBefore q classes c 1
first_is_sound q classes c zero less = reflexive q (numbered_member classes c 0)
first_is_sound q classes c (suc j) less = absurd (omega arith)

-- one member more is sound where the matrices say so
pub one_more_sound : (q x : ℕ) (classes : List (List Circuit)) (c k : ℕ) (same : Bool) → x ≡ q → AreSoundBefore q classes c k →
    (IsTrue same ↔ Equivalent x (numbered_member classes c k) (numbered_member classes c 0)) → same ≡ true → AreSoundBefore q classes c (k + 1)
one_more_sound q x classes c k same on before exact holds =
    below_more (λ j. IsSoundAt q classes c j) k before (subst (λ y. Equivalent y (numbered_member classes c k) (numbered_member classes c 0)) on (exact.0 holds))
