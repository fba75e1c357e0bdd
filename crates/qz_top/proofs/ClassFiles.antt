-- The classes of a class list may stand in a rule file, and each of them is sound.
use Rattle.std.proofs.Common.{◌≡◌, ℕ, ◌<◌, List, [], ◌∷◌, length, map, nat_lt, get_or, Result, Ok, Err, Bool, true, sym, subst, ap, ◌∙◌, arith}
use Rattle.std.specs.Prelude.{Contains}
use Rattle.std.specs.List.{AllZip, AllByRecursion}
use Rattle.std.proofs.lemmas.Bool.{ltb-true}
use Rattle.std.proofs.lemmas.List.{length-map, get_or-map}
use Rattle.std.proofs.lemmas.List.Elements.{Contains-get_or}
use Rattle.std.proofs.lemmas.List.Sums.{length-filter, count_by-le-length}
use Rattle.std.proofs.lemmas.Map.Keys.{sorted_from_strictly_increasing}
use Rattle.std.proofs.lemmas.Map.Views.{length-le_from_below}
use Rattle.std.proofs.lemmas.Slice.Zip.{AllZip-long}
use Rattle.qz_circ.specs.Circuit.{Circuit, Limits, Within}
use Rattle.qz_circ.specs.Bounds.{IsLawful}
use Rattle.qz_circ.specs.Classes.{ListsExactly, IsRepresentativeRank, IsMemberRank, IsClassList, HasEquivalentMembers}
use Rattle.qz_circ.specs.Joined.{circuits_of_ranks}
use Rattle.qz_circ.specs.Equivalence.{Equivalent}
use Rattle.qz_circ.specs.Order.{all_circuits, circuit_at}
use Rattle.qz_circ.specs.RuleFiles.{HasAtMostNineDigits, RuleClasses, Reads, IsClass, AreClasses, AreSound, numbered_class, numbered_member}
use Rattle.qz_circ.specs.RuleText.{rule_text}
use Rattle.qz_circ.specs.declared.fault.RuleFault.{RuleFault}
use Rattle.qz_circ.proofs.ClassLaws.{contains_first, contains_rest}
use Rattle.qz_circ.proofs.RankLemmas.{circuit_at-rank, rank_listed, all_few}
use Rattle.qz_rulefile.proofs.Unique.{one_reading}
use Rattle.qz_circ.proofs.RisingLists.{each_weaker, each-map, each-filter}

-- what holds of whatever a list contains holds of each
each_contained : {A : Type 0} (P : A → Type 0) (xs : List A) → ((x : A) → Contains xs x → P x) → AllByRecursion P xs
each_contained P [] h = tt
each_contained P (x ∷ xs) h = (h x (contains_first x xs), each_contained P xs (λ y has. h y (contains_rest x xs y has)))

-- the classes that a file says
classes_said : Result RuleClasses RuleFault → List (List Circuit)
classes_said (Ok rules) = rules.classes
classes_said (Err e) = []

module _ (b : Limits) (lawful : IsLawful b) where
  -- rising ranks of circuits within the limits are few
  few_ranks : (P : ℕ → Type 0) (list : List ℕ) → ListsExactly P list → ((r : ℕ) → P r → r < length (all_circuits b)) → HasAtMostNineDigits (length list)
  few_ranks P list h listed =
      let below = length-le_from_below (length (all_circuits b)) list (sorted_from_strictly_increasing list h.rising) (λ k d lt. listed (get_or list k d) ((h.exactly (get_or list k d)).0 (Contains-get_or list k d lt))) in
      omega (arith, below, all_few b lawful)

  -- a list of ranks is short, and they are those of circuits within the limits
  record IsFit (list : List ℕ) : Type 0 where
    few : HasAtMostNineDigits (length list)
    within : AllByRecursion (λ s. Within b (circuit_at b s)) list

  -- so is the list of one representative
  members_fit : (r : ℕ) (list : List ℕ) → ListsExactly (IsMemberRank b r) list → IsFit list
  members_fit r list h = record {
    few = few_ranks (IsMemberRank b r) list h (λ s m. subst (λ n. n < length (all_circuits b)) m.ranked (rank_listed b lawful m.member m.kept.within));
    within = each_contained (λ s. Within b (circuit_at b s)) list (λ s has.
        let m = (h.exactly s).0 has in
        subst (Within b) (sym (ap (circuit_at b) (sym m.ranked) ∙ circuit_at-rank b lawful m.member m.kept.within)) m.kept.within);
  }

  -- and those of all
  all_fit : (rs : List ℕ) (lists : List (List ℕ)) → AllZip (λ r list. ListsExactly (IsMemberRank b r) list) rs lists → AllByRecursion IsFit lists
  all_fit [] [] h = tt
  all_fit [] (list ∷ lists) h = absurd h
  all_fit (r ∷ rs) [] h = absurd h
  all_fit (r ∷ rs) (list ∷ lists) h = (members_fit r list h.0, all_fit rs lists h.1)

  -- such a list with two ranks or more is a class
  fit_class : (list : List ℕ) → IsFit list × (nat_lt 1 (length list) ≡ true) → IsClass b (map (circuit_at b) list)
  fit_class list h = record {
    several = omega (arith, ltb-true 1 (length list) h.1, length-map list (circuit_at b));
    few = omega (arith, h.0.few, length-map list (circuit_at b));
    within = each-map (Within b) (circuit_at b) list h.0.within;
  }

  module _ (classes : List (List ℕ)) (h : IsClassList b classes) where
    -- there are no more classes than representatives
    few_classes : HasAtMostNineDigits (length classes)
    few_classes =
        let representatives = few_ranks (IsRepresentativeRank b) h.representatives h.each_representative (λ r one. subst (λ n. n < length (all_circuits b)) one.ranked (rank_listed b lawful one.circuit one.representative.within)) in
        omega (arith, ap length h.several, length-filter (λ list. nat_lt 1 (length list)) h.lists, count_by-le-length (λ list. nat_lt 1 (length list)) h.lists, AllZip-long _ _ _ h.each_list, representatives)

    -- the circuits of a class list are classes that a rule file may have
    pub class_list_fits : AreClasses b (circuits_of_ranks b classes)
    class_list_fits =
        let several : List ℕ → Bool = λ list. nat_lt 1 (length list) in
        let kept = each-filter IsFit several h.lists (all_fit h.representatives h.lists h.each_list) in
        record {
          few = omega (arith, few_classes, length-map classes (map (circuit_at b)));
          each = each-map (IsClass b) (map (circuit_at b)) classes
              (each_weaker (λ list. IsFit list × (several list ≡ true)) (λ list. IsClass b (map (circuit_at b) list)) fit_class classes
              (subst (AllByRecursion (λ list. IsFit list × (several list ≡ true))) (sym h.several) kept));
        }

  -- where any two members of a class are equivalent, the circuits are sound
  pub class_list_sound : (classes : List (List ℕ)) → HasEquivalentMembers b classes → AreSound b.q (circuits_of_ranks b classes)
  class_list_sound classes equivalent c k in_classes in_class =
      let lt : c < length classes = omega (arith, in_classes, length-map classes (map (circuit_at b))) in
      let list = get_or classes c [] in
      let here : numbered_class (circuits_of_ranks b classes) c ≡ map (circuit_at b) list = get_or-map (map (circuit_at b)) classes c [] [] lt in
      let long : k < length list = omega (arith, in_class, ap length here, length-map list (circuit_at b)) in
      let member : (j : ℕ) → j < length list → numbered_member (circuits_of_ranks b classes) c j ≡ circuit_at b (get_or list j 0) =
      λ j lj. ap (λ (members : List Circuit). get_or members j []) here ∙ get_or-map (circuit_at b) list j 0 [] lj in
      subst (λ x. Equivalent b.q (numbered_member (circuits_of_ranks b classes) c k) x) (sym (member 0 (omega (arith, long))))
      (subst (λ x. Equivalent b.q x (circuit_at b (get_or list 0 0))) (sym (member k long))
      (equivalent list (Contains-get_or classes c [] lt) (get_or list k 0) (get_or list 0 0) (Contains-get_or list k 0 long) (Contains-get_or list 0 0 (omega (arith, long)))))

  -- the rule file of a class list says its circuits, and nothing else
  pub class_list_read : (classes : List (List ℕ)) (file : List ℕ) (rules : RuleClasses) → IsClassList b classes → HasEquivalentMembers b classes → file ≡ rule_text b classes → Reads file (Ok rules) → rules.classes ≡ circuits_of_ranks b classes
  unfolding rule_text classes_said
  class_list_read classes file rules h equivalent is reads =
      let said : RuleClasses = record { bounds = b; classes = circuits_of_ranks b classes } in
      let written : Reads file (Ok said) = (lawful, record { fit = class_list_fits classes h; text_is = is }, class_list_sound classes equivalent) in
      ap classes_said (one_reading file (Ok rules) (Ok said) reads written)
