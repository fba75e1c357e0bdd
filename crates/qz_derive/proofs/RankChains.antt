-- The chain of two ranks, from the two ways down.
use Rattle.std.proofs.Common.{◌≡◌, ℕ, zero, suc, ◌<◌, List, [], ◌∷◌, ◌++◌, map, length, drop, reverse, refl, sym, ap, subst, ◌∙◌, arith}
use Rattle.std.specs.List.{AllByRecursion}
use Rattle.std.proofs.lemmas.List.{map-append, drop-map, reverse-append}
use Rattle.std.proofs.lemmas.List.Elements.{recursion_from_All}
use Rattle.qz_circ.specs.Circuit.{Circuit, Limits, Within}
use Rattle.qz_circ.specs.Bounds.{IsLawful}
use Rattle.qz_circ.specs.Equivalence.{Equivalent}
use Rattle.qz_circ.specs.Classes.{IsClassList}
use Rattle.qz_circ.specs.Order.{all_circuits, rank, circuit_at}
use Rattle.qz_circ.specs.Chains.{IsChain, IsRankChain, Leads, last_of}
use Rattle.qz_circ.proofs.CircuitPlaces.{circuit_at-within}
use Rattle.qz_circ.proofs.RankLemmas.{rank-circuit_at}
use Rattle.qz_circ.proofs.RisingLists.{each-append}
use Rattle.qz_derive.specs.declared.chain.Chain.{Chain}
use Rattle.qz_derive.specs.declared.chain.Chain.TheVariants.{Joined, Different}
use Rattle.qz_derive.specs.Answers.{IsAnswer, LeadsByClasses}
use Rattle.qz_derive.specs.Descents.{IsDescent}
use Rattle.qz_derive.proofs.WholeChains.{Descends, descends, one_end, equivalent_ends, chain_same, leads}

-- a function of a list turned round
map-reverse : {A B : Type 0} (f : A → B) (xs : List A) → map f (reverse xs) ≡ reverse (map f xs)
map-reverse f [] = refl
map-reverse {A} f (x ∷ xs) =
    ap (map f) (reverse-append (x ∷ []) xs) ∙ map-append f (reverse xs) (x ∷ []) ∙ ap (λ ys. ys ++ f x ∷ []) (map-reverse f xs) ∙ sym (reverse-append (f x ∷ []) (map f xs))

-- what holds of each element holds of each one of the list turned round
each-reverse : {A : Type 0} (P : A → Type 0) (xs : List A) → AllByRecursion P xs → AllByRecursion P (reverse xs)
each-reverse P [] h = tt
each-reverse P (x ∷ xs) h = subst (AllByRecursion P) (sym (reverse-append (x ∷ []) xs)) (each-append P (reverse xs) (x ∷ []) (each-reverse P xs h.1) (h.0, tt))

-- and of the list without its first one
each-drop_one : {A : Type 0} (P : A → Type 0) (xs : List A) → AllByRecursion P xs → AllByRecursion P (drop 1 xs)
each-drop_one P [] h = tt
each-drop_one P (x ∷ xs) h = h.1

module _ (b : Limits) (lawful : IsLawful b) where
  -- the ranks of circuits at ranks
  ranks_back : (ranks : List ℕ) → AllByRecursion (λ r. r < length (all_circuits b)) ranks → map (rank b) (map (circuit_at b) ranks) ≡ ranks
  ranks_back [] all = refl
  ranks_back (r ∷ ranks) all = λ i. rank-circuit_at b lawful r all.0 i ∷ ranks_back ranks all.1 i

  module _ (a c : ℕ) (xs ys : List ℕ) (x y : ℕ) (ha : a < length (all_circuits b)) (hc : c < length (all_circuits b)) (first : IsDescent b a xs x) (second : IsDescent b c ys y) where
    from_a : Descends b (circuit_at b a) first.rest
    from_a = descends b lawful (circuit_at b a) first.rest (circuit_at-within b a ha) first.down

    from_c : Descends b (circuit_at b c) second.rest
    from_c = descends b lawful (circuit_at b c) second.rest (circuit_at-within b c hc) second.down

    -- the circuits aren't equivalent where they end at different ranks
    pub different : (x ≡ y → ⊥) → Equivalent b.q (circuit_at b a) (circuit_at b c) → ⊥
    different apart same =
        let one = one_end b lawful (circuit_at b a) (circuit_at b c) first.rest second.rest from_a from_c same in
        let ends : circuit_at b x ≡ circuit_at b y = sym first.ends ∙ one ∙ second.ends in
        apart (sym (rank-circuit_at b lawful x first.lowest_listed) ∙ ap (rank b) ends ∙ rank-circuit_at b lawful y second.lowest_listed)

    -- and where they end at one rank, this is their chain
    pub rank_chain : x ≡ y → (ranks : List ℕ) → ranks ≡ xs ++ drop 1 (reverse ys) → IsRankChain b a c ranks
    rank_chain same ranks is =
        let P : ℕ → Type 0 = λ r. r < length (all_circuits b) in
        let from_first = recursion_from_All P xs first.listed in
        let from_second = each-drop_one P (reverse ys) (each-reverse P ys (recursion_from_All P ys second.listed)) in
        let listed = subst (AllByRecursion P) (sym is) (each-append P xs (drop 1 (reverse ys)) from_first from_second) in
        let one = first.ends ∙ ap (circuit_at b) same ∙ sym second.ends in
        let circuits : map (circuit_at b) ranks ≡ (circuit_at b a ∷ first.rest) ++ drop 1 (reverse (circuit_at b c ∷ second.rest)) =
        ap (map (circuit_at b)) is ∙ map-append (circuit_at b) xs (drop 1 (reverse ys)) ∙
        (λ i. first.circuits i ++ (sym (drop-map (circuit_at b) 1 (reverse ys)) ∙ ap (drop 1) (map-reverse (circuit_at b) ys ∙ ap reverse second.circuits)) i) in
        record {
          chain = map (circuit_at b) ranks;
          is_chain = record {
            equivalent = equivalent_ends b lawful (circuit_at b a) (circuit_at b c) first.rest second.rest from_a from_c one;
            first = first.rest;
            second = second.rest;
            from_first = first.down;
            from_second = second.down;
            both = circuits;
          };
          ranked = sym (ranks_back ranks listed);
          circuits = refl;
        }

  -- the chain leads from the one circuit to the other
  pub rank_leads : (classes : List (List ℕ)) → IsClassList b classes → (a c : ℕ) → a < length (all_circuits b) → c < length (all_circuits b) → (answer : Chain) → IsAnswer b a c answer → LeadsByClasses b classes a c answer
  rank_leads classes list a c ha hc (Joined ranks) h =
      let through = leads b lawful classes list (circuit_at b a) (circuit_at b c) h.chain (circuit_at-within b a ha) (circuit_at-within b c hc) h.is_chain in
      subst (Leads (map (map (circuit_at b)) classes) b.n (circuit_at b a) (circuit_at b c)) (sym h.circuits) through
  rank_leads classes list a c ha hc Different h = tt

  -- two ranks have one answer
  pub answer_same : (a c : ℕ) (x y : Chain) → IsAnswer b a c x → IsAnswer b a c y → x ≡ y
  answer_same a c (Joined xs) (Joined ys) h k =
      let same = h.ranked ∙ ap (map (rank b)) (chain_same b lawful (circuit_at b a) (circuit_at b c) h.chain k.chain h.is_chain k.is_chain) ∙ sym k.ranked in
      ap Joined same
  answer_same a c (Joined xs) Different h k = absurd (k h.is_chain.equivalent)
  answer_same a c Different (Joined ys) h k = absurd (h k.is_chain.equivalent)
  answer_same a c Different Different h k = refl
