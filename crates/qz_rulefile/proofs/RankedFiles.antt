-- Files of circuits and of their ranks are the same.
use Rattle.std.proofs.Common.{◌≡◌, ℕ, List, [], ◌∷◌, ◌++◌, map, Ok, refl, sym, ap, ◌∙◌, arith}
use Rattle.std.specs.List.{AllByRecursion}
use Rattle.std.proofs.lemmas.List.{length-map}
use Rattle.qz_circ.specs.Circuit.{Circuit, Limits, Within}
use Rattle.qz_circ.specs.Bounds.{IsLawful}
use Rattle.qz_circ.specs.FirstFault.{◌>>=◌}
use Rattle.qz_circ.specs.Order.{circuit_at, rank}
use Rattle.qz_circ.specs.RuleFiles.{IsClass, AreClasses, IsFile, IsHead}
use Rattle.qz_circ.specs.Joined.{circuits_of_ranks}
use Rattle.qz_circ.specs.RuleText.{head_of, head_text, classes_text}
use Rattle.qz_circ.proofs.CircuitPlaces.{circuit_at-within}
use Rattle.qz_circ.proofs.RankLemmas.{circuit_at-rank, rank_listed}
use Rattle.qz_rulefile.specs.Reading.{Read, one_of_at, classes_at}
use Rattle.qz_rulefile.proofs.Exact.{Exact, Then, andthen, spelling}
use Rattle.qz_rulefile.proofs.OneOf.{OneOf}
use Rattle.qz_rulefile.proofs.Files.{Spelled, IsRank, AreMembers, AreRankClasses, lists_text, word_exact, word_is, classes_exact}

-- ---- whole files of ranks

-- the text is the rule file of the circuits with these ranks
pub record IsRankFile (b : Limits) (lists : List (List ℕ)) (text : List ℕ) : Type 0 where
  pub fit : AreRankClasses b lists
  pub text_is : text ≡ head_text (head_of b) ++ lists_text b lists

-- a reader of whole files, where the limits are known
abbrev pub file_at : Limits → List ℕ → Read (List (List ℕ))
file_at b bytes = one_of_at (head_text (head_of b) ∷ []) bytes >>= λ w. classes_at b w.1

pub file_exact : (b : Limits) → IsLawful b → Exact (IsRankFile b) (file_at b)
file_exact b h =
    spelling (Then (OneOf (head_text (head_of b) ∷ [])) (λ _. Spelled (AreRankClasses b) (lists_text b))) (IsRankFile b) (file_at b)
    (λ lists text t. record { fit = t.4.fit; text_is = t.5 ∙ ap (λ (z : List ℕ). z ++ t.2) (word_is (head_text (head_of b)) t.0 t.1 t.3) ∙ ap (λ (z : List ℕ). head_text (head_of b) ++ z) t.4.text_is })
    (λ lists text f. (0, head_text (head_of b), lists_text b lists, refl, record { fit = f.fit; text_is = refl }, f.text_is))
    (andthen (OneOf (head_text (head_of b) ∷ [])) (λ _. Spelled (AreRankClasses b) (lists_text b)) (one_of_at (head_text (head_of b) ∷ [])) (λ _. classes_at b) (word_exact (head_text (head_of b))) (λ _ a o. classes_exact b h))

-- behind the first two lines the reader reads the classes
pub behind_head : (b : Limits) (head rest file : List ℕ) → IsHead (head_of b) head → file ≡ head ++ rest → file_at b file ≡ classes_at b rest
behind_head b head rest file h parts =
    let whole : file ≡ head_text (head_of b) ++ rest = parts ∙ ap (λ (z : List ℕ). z ++ rest) h.text_is in
    let read : one_of_at (head_text (head_of b) ∷ []) file ≡ Ok (0, rest) = ap (one_of_at (head_text (head_of b) ∷ [])) whole ∙ (word_exact (head_text (head_of b))).again 0 (head_text (head_of b)) rest refl in
    ap (λ r. r >>= λ w. classes_at b w.1) read

-- ---- circuits for ranks

each_within : (b : Limits) (ranks : List ℕ) → AllByRecursion (IsRank b) ranks → AllByRecursion (Within b) (map (circuit_at b) ranks)
each_within b [] l = tt
each_within b (r ∷ ranks) l = (circuit_at-within b r l.0, each_within b ranks l.1)

each_class : (b : Limits) (lists : List (List ℕ)) → AllByRecursion (AreMembers b) lists → AllByRecursion (IsClass b) (circuits_of_ranks b lists)
each_class b [] l = tt
each_class b (ranks ∷ lists) l =
    let len = length-map ranks (circuit_at b) in
    (record { several = omega (arith, len, l.0.several); few = omega (arith, len, l.0.few); within = each_within b ranks l.0.listed }, each_class b lists l.1)

pub classes_of_ranks : (b : Limits) (lists : List (List ℕ)) → AreRankClasses b lists → AreClasses b (circuits_of_ranks b lists)
classes_of_ranks b lists f = record { few = omega (arith, f.few, length-map lists (map (circuit_at b))); each = each_class b lists f.each }

pub file_of_ranks : (b : Limits) (lists : List (List ℕ)) (text : List ℕ) → IsRankFile b lists text → IsFile b (circuits_of_ranks b lists) text
file_of_ranks b lists text f = record { fit = classes_of_ranks b lists f.fit; text_is = f.text_is }

-- ---- ranks for circuits

each_listed : (b : Limits) → IsLawful b → (members : List Circuit) → AllByRecursion (Within b) members → AllByRecursion (IsRank b) (map (rank b) members)
each_listed b h [] w = tt
each_listed b h (c ∷ members) w = (rank_listed b h c w.0, each_listed b h members w.1)

members_back : (b : Limits) → IsLawful b → (members : List Circuit) → AllByRecursion (Within b) members → map (circuit_at b) (map (rank b) members) ≡ members
members_back b h [] w = refl
members_back b h (c ∷ members) w = ap (λ (d : Circuit). d ∷ map (circuit_at b) (map (rank b) members)) (circuit_at-rank b h c w.0) ∙ ap (λ (z : List Circuit). c ∷ z) (members_back b h members w.1)

each_ranked : (b : Limits) → IsLawful b → (classes : List (List Circuit)) → AllByRecursion (IsClass b) classes → AllByRecursion (AreMembers b) (map (map (rank b)) classes)
each_ranked b h [] w = tt
each_ranked b h (members ∷ classes) w =
    let len = length-map members (rank b) in
    (record { several = omega (arith, len, w.0.several); few = omega (arith, len, w.0.few); listed = each_listed b h members w.0.within }, each_ranked b h classes w.1)

classes_back : (b : Limits) → IsLawful b → (classes : List (List Circuit)) → AllByRecursion (IsClass b) classes → circuits_of_ranks b (map (map (rank b)) classes) ≡ classes
classes_back b h [] w = refl
classes_back b h (members ∷ classes) w =
    ap (λ (d : List Circuit). d ∷ circuits_of_ranks b (map (map (rank b)) classes)) (members_back b h members w.0.within) ∙ ap (λ (z : List (List Circuit)). members ∷ z) (classes_back b h classes w.1)

pub ranks_of_file : (b : Limits) → IsLawful b → (classes : List (List Circuit)) (text : List ℕ) → IsFile b classes text → (lists : List (List ℕ)) × IsRankFile b lists text × (circuits_of_ranks b lists ≡ classes)
ranks_of_file b h classes text f =
    let back = classes_back b h classes f.fit.each in (
      map (map (rank b)) classes,
      record {
        fit = record { few = omega (arith, f.fit.few, length-map classes (map (rank b))); each = each_ranked b h classes f.fit.each };
        text_is = f.text_is ∙ ap (λ (z : List (List Circuit)). head_text (head_of b) ++ classes_text b.grain z) (sym back);
      },
      back,
    )
