-- A circuit is lowered in at most one way, to an earlier equivalent one by one step of the class list.
use Rattle.std.proofs.Common.{◌≡◌, ℕ, zero, suc, ◌+◌, ◌-◌, ◌<◌, ◌≤◌, true, List, [], ◌∷◌, ◌++◌, length, take, drop, ◌⊎◌, inl, inr, refl, sym, ap, subst, ◌∙◌, arith, length-drop, length-take}
use Rattle.std.specs.Prelude.{Contains}
use Rattle.std.proofs.lemmas.Bool.{cases_order}
use Rattle.std.proofs.lemmas.List.{append-nil, take-append-drop, drop-take, length-take-le}
use Rattle.qz_circ.specs.Circuit.{Circuit, Limits, Within}
use Rattle.qz_circ.specs.Bounds.{IsLawful}
use Rattle.qz_circ.specs.Equivalence.{Equivalent}
use Rattle.qz_circ.specs.Order.{circuit_cmp, is_before, rank}
use Rattle.qz_circ.specs.Classes.{IsRepresentative, IsKept, IsClassList, without_first, without_last}
use Rattle.qz_circ.specs.Chains.{part_of, IsFirstPart, IsLowered, IsDown}
use Rattle.qz_circ.specs.Joined.{Step, circuits_of_ranks}
use Rattle.qz_circ.proofs.CircuitPlaces.{within-drop, within-take}
use Rattle.qz_paths.proofs.ClassesFound.{ClassOf, before_its_class, same_representative}
use Rattle.qz_paths.proofs.Completeness.{Earlier, earlier}
use Rattle.qz_paths.proofs.Equivalences.{symmetric, transitive}
use Rattle.qz_paths.proofs.LaterMembers.{LaterMember, later_is, later_found}
use Rattle.qz_paths.proofs.Parts.{part_representative, before_not_longer, within-replaced, before-replaced, equivalent-replaced}

-- ---- parts of lists

-- the first of the first elements
pub take_take : {A : Type 0} (k n : ℕ) (xs : List A) → k ≤ n → take k (take n xs) ≡ take k xs
take_take zero n xs few = refl
take_take (suc k) zero xs few = absurd (omega arith)
take_take (suc k) (suc n) [] few = refl
take_take (suc k) (suc n) (x ∷ xs) few = ap (λ rest. x ∷ rest) (take_take k n xs (omega arith))

-- without one element more in front
pub drop_one : {A : Type 0} (n : ℕ) (xs : List A) → drop 1 (drop n xs) ≡ drop (n + 1) xs
drop_one zero xs = refl
drop_one {A} (suc n) [] = let same : suc n + 1 ≡ suc (n + 1) = omega arith in (let none : List A = [] in ap (λ k. drop k none) (sym same))
drop_one (suc n) (x ∷ xs) = let same : suc n + 1 ≡ suc (n + 1) = omega arith in drop_one n xs ∙ ap (λ k. drop k (x ∷ xs)) (sym same)

-- three parts
pub split : (c : Circuit) (start stop : ℕ) → start ≤ stop → take start c ++ part_of start stop c ++ drop stop c ≡ c
split c start stop order =
    ap (λ front. front ++ part_of start stop c ++ drop stop c) (sym (take_take start stop c order)) ∙
    ap (λ front. front ++ drop stop c) (take-append-drop start (take stop c)) ∙ take-append-drop stop c

-- ---- representatives

-- d is an earlier circuit that is equivalent to c
pub record LowerTo (b : Limits) (c d : Circuit) : Type 0 where
  pub within : Within b d
  pub before : is_before d c ≡ true
  pub equivalent : Equivalent b.q d c

module _ (b : Limits) where
  -- the empty circuit
  pub empty_representative : IsRepresentative b []
  unfolding circuit_cmp
  empty_representative = record {
    within = record { short = omega arith; gates = tt };
    first = λ d within before same. none d before;
  }
    where
      none : (d : Circuit) → is_before d [] ≡ true → ⊥
      none [] before = cc
      none (g ∷ d) before = omega (arith, before_not_longer (g ∷ d) [] before)

  -- the first gates of a representative
  pub front_representative : (k : ℕ) (c : Circuit) → IsRepresentative b c → IsRepresentative b (take k c)
  front_representative k c least = part_representative b [] (take k c) (drop k c) (subst (IsRepresentative b) (sym (take-append-drop k c)) least)

  -- and its last gates
  pub back_representative : (k : ℕ) (c : Circuit) → IsRepresentative b c → IsRepresentative b (drop k c)
  back_representative k c least =
      part_representative b (take k c) (drop k c) [] (subst (IsRepresentative b) (sym (append-nil (take k c ++ drop k c) ∙ take-append-drop k c)) least)

  -- the last gates of a circuit are kept where it is a representative without its last gate, and they are one without their first
  pub kept_back : (c : Circuit) (start : ℕ) → start < length c → Within b c → IsRepresentative b (without_last c) → IsRepresentative b (drop (start + 1) c) → IsKept b (drop start c)
  kept_back c start some within front back =
      let few = length c - 1 - start in
      let longer : start + few ≡ length c - 1 = omega arith in
      let last : length (drop start c) - 1 ≡ few = omega (arith, length-drop start c) in
      let is : without_last (drop start c) ≡ drop start (without_last c) = ap (λ n. take n (drop start c)) last ∙ sym (drop-take start few c) ∙ ap (λ n. drop start (take n c)) longer in
      record {
        within = within-drop b start c within;
        parts = inr (subst (IsRepresentative b) (sym (drop_one start c)) back, subst (IsRepresentative b) (sym is) (back_representative start (without_last c) front));
      }

  -- a circuit without its last gate, by its first gates
  pub front_without_last : (c : Circuit) (k : ℕ) → k < length c → without_last (take (k + 1) c) ≡ take k c
  front_without_last c k inside =
      let long : length (take (k + 1) c) - 1 ≡ k = omega (arith, length-take-le (k + 1) c (omega arith)) in
      ap (λ n. take n (take (k + 1) c)) long ∙ take_take k (k + 1) c (omega arith)

  module _ (c : Circuit) (start stop : ℕ) (h : IsFirstPart b c start stop) where
    -- the part isn't empty
    part_starts : start < stop
    part_starts = elim (cases_order start stop) [
      | inl same ↦ absurd (h.part_is_none (subst (IsRepresentative b) (sym (empty same)) empty_representative))
      | inr (inl less) ↦ less
      | inr (inr more) ↦ absurd (omega (arith, more, h.order))
    ]
      where
        none : (xs : Circuit) → length xs ≡ 0 → xs ≡ []
        none [] few = refl
        none (x ∷ xs) few = absurd (omega arith)

        empty : start ≡ stop → part_of start stop c ≡ []
        empty same = none (part_of start stop c) (omega (arith, same, length-drop start (take stop c), length-take-le stop c h.inside))

    -- it is kept
    part_kept : Within b c → IsKept b (part_of start stop c)
    part_kept within =
        let starts = part_starts in
        let k = stop - 1 in
        let next : k + 1 ≡ stop = omega arith in
        let long = length-take-le stop c h.inside in
        let front : without_last (take stop c) ≡ take k c = subst (λ n. without_last (take n c) ≡ take k c) next (front_without_last c k (omega (arith, h.inside))) in
        kept_back (take stop c) start (omega arith) (within-take b stop c within)
        (subst (IsRepresentative b) (sym front) (h.shorter_fronts k (omega arith))) (h.shorter_parts (start + 1) (omega arith) (omega arith))

  -- what is lowered is no representative
  pub lowered_none : (c d : Circuit) → IsLowered b c d → IsRepresentative b c → ⊥
  lowered_none c d h least = h.part.front_is_none (front_representative h.stop c least)

  -- there is one first part
  same_stop : (c : Circuit) (s t e f : ℕ) → IsFirstPart b c s e → IsFirstPart b c t f → e ≡ f
  same_stop c s t e f h k = elim (cases_order e f) [
    | inl same ↦ same
    | inr (inl less) ↦ absurd (h.front_is_none (k.shorter_fronts e less))
    | inr (inr more) ↦ absurd (k.front_is_none (h.shorter_fronts f more))
  ]

  same_start : (c : Circuit) (s t e : ℕ) → IsFirstPart b c s e → IsFirstPart b c t e → s ≡ t
  same_start c s t e h k = elim (cases_order s t) [
    | inl same ↦ same
    | inr (inl less) ↦ absurd (k.part_is_none (h.shorter_parts t less k.order))
    | inr (inr more) ↦ absurd (h.part_is_none (k.shorter_parts s more h.order))
  ]

  module _ (lawful : IsLawful b) where
    -- so each circuit is lowered in one way
    pub lowered_same : (c d e : Circuit) → IsLowered b c d → IsLowered b c e → d ≡ e
    lowered_same c d e h k =
        let stops = same_stop c h.start k.start h.stop k.stop h.part k.part in
        let starts = same_start c h.start k.start k.stop (subst (IsFirstPart b c h.start) stops h.part) k.part in
        let parts : part_of h.start h.stop c ≡ part_of k.start k.stop c = λ i. part_of (starts i) (stops i) c in
        let to_part = subst (λ p. Equivalent b.q h.put p) parts h.equivalent in
        let puts = same_representative b lawful h.put k.put h.representative k.representative (transitive b.q h.put (part_of k.start k.stop c) k.put to_part (symmetric b.q k.put (part_of k.start k.stop c) k.equivalent)) in
        h.replaced ∙ (λ i. take (starts i) c ++ puts i ++ drop (stops i) c) ∙ sym k.replaced

    -- and goes down in one way
    pub down_same : (c : Circuit) (xs ys : List Circuit) → IsDown b c xs → IsDown b c ys → xs ≡ ys
    down_same c [] [] h k = refl
    down_same c [] (y ∷ ys) h k = absurd (lowered_none c y k.0 h)
    down_same c (x ∷ xs) [] h k = absurd (lowered_none c x h.0 k)
    down_same c (x ∷ xs) (y ∷ ys) h k =
        let first = lowered_same c x y h.0 k.0 in
        let rest = down_same y xs ys (subst (λ z. IsDown b z xs) first h.1) k.1 in
        λ i. first i ∷ rest i

    -- what is lowered becomes an earlier equivalent circuit
    pub lower_is : (c d : Circuit) → Within b c → IsLowered b c d → LowerTo b c d
    lower_is c d within h =
        let part = part_of h.start h.stop c in
        let kept = part_kept c h.start h.stop h.part within in
        let before = before_its_class b lawful part h.put kept.within h.part.part_is_none h.representative (symmetric b.q h.put part h.equivalent) in
        let is = split c h.start h.stop h.part.order in
        let front = take h.start c in
        let back = drop h.stop c in
        let whole : Within b (front ++ part ++ back) = subst (Within b) (sym is) within in
        let e : LowerTo b (front ++ part ++ back) (front ++ h.put ++ back) = record {
          within = within-replaced b front part back whole h.put h.representative.within (before_not_longer h.put part before);
          before = before-replaced front h.put part back before;
          equivalent = equivalent-replaced b front h.put part back whole h.representative.within h.equivalent;
        } in
        subst (λ x. LowerTo b x d) is (subst (LowerTo b (front ++ part ++ back)) (sym h.replaced) e)

    -- by a step of the class list
    pub lowered_step : (classes : List (List ℕ)) → IsClassList b classes → (c d : Circuit) → Within b c → IsLowered b c d → Step (circuits_of_ranks b classes) c d
    lowered_step classes list c d within h =
        let part = part_of h.start h.stop c in
        let kept = part_kept c h.start h.stop h.part within in
        let found = later_found b lawful classes list part kept h.part.part_is_none in
        let member = later_is b lawful classes list found.0 part kept.within found.1 in
        let r = member.class.representative in
        let one = same_representative b lawful r h.put member.least h.representative (transitive b.q r part h.put member.class.equivalent (symmetric b.q h.put part h.equivalent)) in
        let is : take h.start c ++ r ++ drop h.stop c ≡ d = ap (λ x. take h.start c ++ x ++ drop h.stop c) one ∙ sym h.replaced in
        subst (Step (circuits_of_ranks b classes) c) is (earlier b lawful classes list c (take h.start c) part (drop h.stop c) within (sym (split c h.start h.stop h.part.order)) kept.within member.class).step
