-- The rules of several classes, class by class.
use Rattle.std.proofs.Common.{◌≡◌, ℕ, suc, ◌+◌, ◌<◌, List, [], ◌∷◌, ◌++◌, take, length, refl, sym, ap, ◌∙◌, arith}
use Rattle.std.specs.Prelude.{slice_index_or}
use Rattle.std.proofs.Math.Seq.{take-suc}
use Rattle.qz_circ.specs.Circuit.{Circuit}
use Rattle.qz_circ.specs.ProgramCircuits.{ProgramCircuit}
use Rattle.qz_circ.specs.RuleFiles.{numbered_class}
use Rattle.qz_circ.specs.Replacement.{children, children_in}
use Rattle.qz_search.specs.declared.table.Side.{Side}
use Rattle.qz_search.specs.Tables.{IsTable, AreAlike}
use Rattle.qz_search.proofs.Alike.{alike_same, alike_then, alike_behind, flat_map-one}
use Rattle.qz_search.proofs.TableLaws.{table_as}

pub no_classes : (classes : List (List Circuit)) → (λ (c : ProgramCircuit). []) ≡ children (take 0 classes)
unfolding children
no_classes classes = refl

next_class : (classes : List (List Circuit)) (k : ℕ) → k < length classes → take k classes ++ numbered_class classes k ∷ [] ≡ take (k + 1) classes
next_class classes k less =
    let one : k + 1 ≡ suc k = omega arith in
    by classes k less ∙ ap (λ n. take n classes) (sym one)
  where
    by : (cs : List (List Circuit)) (i : ℕ) → i < length cs → take i cs ++ slice_index_or cs i [] ∷ [] ≡ take (suc i) cs
    by cs i l = sym (take-suc cs i [] l)

-- the members of the class may be thinned before
pub class_added : (circuits : List Circuit) (sides : List Side) (classes : List (List Circuit)) (k : ℕ) (members kept : List Circuit) → k < length classes → members ≡ numbered_class classes k → AreAlike (children_in kept) (children_in members)
    → IsTable circuits sides (λ c. children (take k classes) c ++ children_in kept c) → IsTable circuits sides (children (take (k + 1) classes))
unfolding children
class_added circuits sides classes k members kept less is alike table =
    table_as circuits sides (λ c. children (take k classes) c ++ children_in kept c) (children (take (k + 1) classes))
    (alike_then _ (λ c. children (take k classes) c ++ children_in members c) _ (alike_behind (children (take k classes)) (children_in kept) (children_in members) alike)
    (alike_same _ _ (λ c lawful. ap (λ ms. children (take k classes) c ++ children_in ms c) is ∙ sym (flat_map-one (λ ms. children_in ms c) (take k classes) (numbered_class classes k)) ∙ ap (λ cs. children cs c) (next_class classes k less)))) table
