-- Names of registers, by tests that compute.
use Rattle.std.proofs.Common.{◌≡◌, ◌≢◌, ℕ, ◌≤◌, true, false, List, [], ◌∷◌, length, arith}
use Rattle.std.specs.List.{AllByRecursion, AllPairs, list_any}
use Rattle.std.specs.Str.{bytes_eq}
use Rattle.std.proofs.lemmas.Cmp.{nat_list_eq_equiv}
use Rattle.std.proofs.lemmas.Slice.Eq.{bytes_eq-Decides}
use Rattle.std.proofs.lemmas.List.Elements.{All-from_recursion}
use Rattle.std.proofs.lemmas.List.Kept.{AllPairs-cons}
use Rattle.std.proofs.lemmas.Map.Views.{list_any-from_Contains}
use Rattle.qz_circ.specs.ValidPrograms.{reserved_words, IsSpelledAsName, IsRegisterName}
use Rattle.qz_circ.proofs.RisingLists.{each_weaker}

-- spelled as a name, and equal to no reserved word
pub name_by_tests : (name : List ℕ) → length name ≤ 64 → IsSpelledAsName name → list_any (bytes_eq name) reserved_words ≡ false → IsRegisterName name
name_by_tests name short spelled other =
    record { short = short; spelled = spelled; free = λ h. let found : list_any (bytes_eq name) reserved_words ≡ true = list_any-from_Contains nat_list_eq_equiv name reserved_words h in cc }

-- the test of each name with each later one fails
abbrev pub AreUnlike : List (List ℕ) → Type 0
AreUnlike [] = Unit {0}
AreUnlike (x ∷ xs) = AllByRecursion (λ y. bytes_eq x y ≡ false) xs × AreUnlike xs

-- no two names are equal
pub different_by_tests : (names : List (List ℕ)) → AreUnlike names → AllPairs (λ a b. a ≢ b) names
different_by_tests [] _ = λ i j d before within. absurd (omega arith)
different_by_tests (x ∷ xs) h =
    let apart : (y : List ℕ) → bytes_eq x y ≡ false → x ≢ y = λ y other same. let equal : bytes_eq x y ≡ true = (bytes_eq-Decides x y).1 same in cc in
    AllPairs-cons (λ a b. a ≢ b) x xs (All-from_recursion (λ b. x ≢ b) xs (each_weaker (λ y. bytes_eq x y ≡ false) (λ y. x ≢ y) apart xs h.0)) (different_by_tests xs h.1)
