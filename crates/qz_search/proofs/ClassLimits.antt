-- The classes of a rule file: of circuits on three qubits and of at most 6 gates, and sound.
use Rattle.std.proofs.Common.{ℕ, zero, suc, ◌<◌, ◌≤◌, List, [], ◌∷◌, length, arith}
use Rattle.std.specs.Prelude.{slice_index_or}
use Rattle.std.specs.List.{AllByRecursion}
use Rattle.qz_circ.specs.Circuit.{Circuit, Limits, Within, IsOn, ActsBelow, HasBelow}
use Rattle.qz_circ.specs.Bounds.{IsLawful}
use Rattle.qz_circ.specs.Equivalence.{Equivalent}
use Rattle.qz_circ.specs.RuleFiles.{IsClass, AreClasses, AreSound, numbered_class, numbered_member}
use Rattle.qz_circ.specs.Replacement.{numbered}
use Rattle.qz_circ.proofs.BoundsLemmas.{InRange, in_range}
use Rattle.qz_circ.proofs.GateNumbers.{circuit_below}
use Rattle.qz_circ.proofs.MoreParameters.{on_with_more}
use Rattle.qz_circ.proofs.RisingLists.{each_weaker}
use Rattle.qz_paths.proofs.Equivalences.{symmetric}
use Rattle.qz_subst.proofs.EquivalentInstances.{acts_on_more}
use Rattle.qz_rewrite.specs.SoundClasses.{IsSoundClass, AreSoundClasses}
use Rattle.qz_search.specs.Classes.{AreRuleSides}

-- what holds of all holds at each number
pub at_number : {A : Type 0} (P : A → Type 0) (d : A) (xs : List A) (i : ℕ) → AllByRecursion P xs → i < length xs → P (slice_index_or xs i d)
at_number P d [] i each less = absurd (omega arith)
at_number P d (x ∷ xs) zero each less = each.0
at_number P d (x ∷ xs) (suc i) each less = at_number P d xs i each.1 (omega arith)

-- and the other way round
by_numbers : {A : Type 0} (P : A → Type 0) (d : A) (xs : List A) → ((i : ℕ) → i < length xs → P (slice_index_or xs i d)) → AllByRecursion P xs
by_numbers P d [] at = tt
by_numbers P d (x ∷ xs) at = (at 0 (omega arith), by_numbers P d xs (λ i less. at (suc i) (omega arith)))

-- a circuit within lawful limits
on_three : (b : Limits) → IsLawful b → (c : Circuit) → Within b c → IsOn 3 3 c × (length c ≤ 6)
on_three b lawful c w =
    let range = in_range b lawful in
    let on : IsOn b.q 3 c = on_with_more b.q b.m 3 c range.params (circuit_below b c w.gates) in
    (each_weaker (λ g. ActsBelow b.q g × HasBelow 3 g) (λ g. ActsBelow 3 g × HasBelow 3 g) (λ g h. (acts_on_more b.q 3 range.qubits g h.0, h.1)) c on, omega (arith, range.gates, w.short))

-- the members of a class
pub rule_sides : (b : Limits) (classes : List (List Circuit)) (c : ℕ) → IsLawful b → AreClasses b classes → c < length classes → AreRuleSides (numbered_class classes c)
rule_sides b classes c lawful fit less =
    let class = at_number (IsClass b) [] classes c fit.each less in
    each_weaker (Within b) (λ a. IsOn 3 3 a × (length a ≤ 6)) (on_three b lawful) (numbered_class classes c) class.within

-- the classes are sound
pub sound_classes : (b : Limits) (classes : List (List Circuit)) → IsLawful b → AreClasses b classes → AreSound b.q classes → (n : ℕ) × (n ≤ 3) × AreSoundClasses n classes
sound_classes b classes lawful fit sound = (
  b.q,
  range.qubits,
  by_numbers (IsSoundClass b.q) [] classes (λ c less.
      by_numbers (λ a. IsOn b.q 3 a × Equivalent b.q (numbered (numbered_class classes c) 0) a) [] (numbered_class classes c) (λ k also. (
        on c k less also,
        symmetric b.q (numbered_member classes c k) (numbered_member classes c 0) (sound c k less also),
      ))),
)
  where
    range : InRange b
    range = in_range b lawful

    on : (c k : ℕ) → c < length classes → k < length (numbered_class classes c) → IsOn b.q 3 (numbered_member classes c k)
    on c k less also =
        let w = at_number (Within b) [] (numbered_class classes c) k (at_number (IsClass b) [] classes c fit.each less).within also in
        on_with_more b.q b.m 3 (numbered_member classes c k) range.params (circuit_below b (numbered_member classes c k) w.gates)
