-- The classes of journals that have together the kept circuits of at most k gates, and the class list that they make.
use Rattle.std.proofs.Common.{◌≡◌, ◌≢◌, ℕ, zero, suc, ◌+◌, ◌<◌, ◌≤◌, ◌%◌, Bool, true, false, cond, List, [], ◌∷◌, length, get_or, map, ◌⊎◌, inl, inr, refl, sym, ap, subst, ◌∙◌, arith, mod-lt, eqb, true≢false}
use Rattle.std.specs.Prelude.{Contains, nat_lt, slice_index, ◌↔◌}
use Rattle.std.specs.Cmp.{nat_eq_equiv}
use Rattle.std.specs.List.{AllPairs, AllZip, flat_map}
use Rattle.std.specs.List.Sorted.{IsPermutation, IsNonDecreasingBy}
use Rattle.std.proofs.lemmas.Bool.{cases_eq, cases_lt}
use Rattle.std.proofs.lemmas.Bool.Decides.{Decides-eqb}
use Rattle.std.proofs.lemmas.List.{get_or_default, get_or-map, length-map}
use Rattle.std.proofs.lemmas.List.Elements.{Contains-get_or}
use Rattle.std.proofs.lemmas.List.Kept.{AllPairs-from_increasing, AllPairs-filter}
use Rattle.std.proofs.lemmas.List.Sorted.{Contains-permutation, IsPermutation-sym, IsPermutation-map}
use Rattle.std.proofs.lemmas.Map.Keys.{IsDistinct-IsPermutation}
use Rattle.std.proofs.lemmas.Map.Made.{AllPairs-from_IsDistinct, IsDistinct-from_AllPairs}
use Rattle.qz_circ.specs.Bounds.{IsLawful}
use Rattle.qz_circ.specs.Circuit.{Limits}
use Rattle.qz_circ.specs.Equivalence.{Equivalent}
use Rattle.qz_circ.specs.Order.{rank, circuit_at}
use Rattle.qz_circ.specs.Classes.{IsRepresentativeRank, IsMemberRank, ListsExactly, IsClassList}
use Rattle.qz_circ.proofs.CircuitPlaces.{Contains-map}
use Rattle.qz_circ.proofs.ClassLaws.{Rises, same_by_number, rising_lists_same, contains_cases, contains_first, contains_rest}
use Rattle.qz_paths.proofs.ClassesFound.{Contains-filter}
use Rattle.qz_paths.proofs.Equivalences.{reflexive, symmetric, transitive}
use Rattle.qz_paths.proofs.Least.{representative_kept, representative_from_representatives}
use Rattle.qz_paths.proofs.Parts.{before_not_longer}
use Rattle.qz_finger.proofs.Law.{one_fingerprint}
use Rattle.qz_shard.specs.Journals.{AreEquivalentRanks, AreClassesBy, AreClassesOf}
use Rattle.qz_shard.proofs.Partitions as partition
use Rattle.qz_shard.proofs.Zipped.{zip_at, zip_length}
use Rattle.qz_shard.specs.Shards.{home_of}
use Rattle.qz_repgen.specs.Journals.{IsKeptRank, AreAtHome, HoldKept, several, AreTogether}
use Rattle.qz_repgen.specs.Rounds.{IsKeptUpTo}
use Rattle.qz_repgen.proofs.LowerLaws.{ranks_are_order}
use Rattle.qz_repgen.proofs.RankLaws.{representative_below, representative_at, representative_from, is_no_representative, member_below, member_kept, member_equivalent, member_from}
use Rattle.qz_repgen.proofs.RisingRuns.{Contains-from_map, increasing_from_rises}
use Rattle.qz_repgen.proofs.SortedLists.{pairs-flat_map, Contains-flat_map, Contains-from_flat_map, IsSortedOf, sorted, Contains-from_filter}

-- the first member of a class
abbrev pub first_of : List ℕ → ℕ
first_of list = slice_index list 0

-- journals that hold the numbers of one fact hold those of another that is the same
pub at_home_same : (home : ℕ → ℕ) (P Q : ℕ → Type 0) (journals : List (List ℕ)) → ((r : ℕ) → P r ↔ Q r) → AreAtHome home P journals → AreAtHome home Q journals
at_home_same home P Q journals same at = record {
  number = at.number;
  different = at.different;
  exactly = λ k r within. (
    λ has. let found = (at.exactly k r within).0 has in ((same r).0 found.0, found.1),
    λ h. (at.exactly k r within).1 ((same r).1 h.0, h.1),
  );
}

module _ (b : Limits) (lawful : IsLawful b) (seed k : ℕ) (journals : List (List ℕ)) (hold : AreAtHome (home_of b seed) (IsKeptUpTo b k) journals)
    (all : List (List (List ℕ))) (are : AllZip (AreClassesOf b) journals all) where
  abbrev Same : ℕ → ℕ → Type 0
  Same = AreEquivalentRanks b

  same_self : (r : ℕ) → Same r r
  same_self r = reflexive b.q (circuit_at b r)

  same_back : (r s : ℕ) → Same r s → Same s r
  same_back r s = symmetric b.q (circuit_at b r) (circuit_at b s)

  same_on : (r s t : ℕ) → Same r s → Same s t → Same r t
  same_on r s t = transitive b.q (circuit_at b r) (circuit_at b s) (circuit_at b t)

  -- equivalent circuits have one home
  same_home : (r s : ℕ) → Same r s → home_of b seed r ≡ home_of b seed s
  same_home r s same = ap (λ f. f % 16) (one_fingerprint seed b.q (circuit_at b r) (circuit_at b s) same)

  -- journal j, and its classes
  abbrev journal : ℕ → List ℕ
  journal j = get_or journals j []

  abbrev classes : ℕ → List (List ℕ)
  classes j = get_or all j []

  pub as_many : length all ≡ 16
  as_many = sym (zip_length (AreClassesOf b) journals all are) ∙ hold.number

  classes_are : (j : ℕ) → j < 16 → AreClassesBy Same (journal j) (classes j)
  unfolding AreClassesOf
  classes_are j within = zip_at (AreClassesOf b) journals all j [] [] are (omega (arith, hold.number))

  -- the list is class number i of journal j
  pub record IsClassAt (list : List ℕ) : Type 0 where
    pub j : ℕ
    pub i : ℕ
    pub within : j < 16
    pub inside : i < length (classes j)
    pub is : get_or (classes j) i [] ≡ list

  -- each list of the classes of a journal is one
  pub class_at : (j : ℕ) (list : List ℕ) → j < 16 → Contains (classes j) list → IsClassAt list
  class_at j list within (i, inside, is) = record { j = j; i = i; within = within; inside = inside; is = get_or_default (classes j) i [] list inside ∙ is }

  module _ (list : List ℕ) (h : IsClassAt list) where
    -- its own facts, by those of a partition
    lists : ListsExactly (λ s. Contains (journal h.j) s × Same (get_or (journal h.j) (get_or (classes_are h.j h.within).earliest h.i 0) 0) s) list
    lists = subst (ListsExactly (λ s. Contains (journal h.j) s × Same (get_or (journal h.j) (get_or (classes_are h.j h.within).earliest h.i 0) 0) s)) h.is (partition.class_lists Same same_self same_back same_on (journal h.j) (classes h.j) (classes_are h.j h.within) h.i h.inside)

    class_rises : Rises list
    class_rises = AllPairs-from_increasing list lists.rising

    -- it has a first member
    some_member : 0 < length list
    some_member =
        let e = get_or (journal h.j) (get_or (classes_are h.j h.within).earliest h.i 0) 0 in
        let has : Contains list e = subst (λ l. Contains l e) h.is (partition.earliest_member Same same_self same_back same_on (journal h.j) (classes h.j) (classes_are h.j h.within) h.i h.inside) in
        omega (arith, has.1)

    pub has_first : Contains list (first_of list)
    has_first = Contains-get_or list 0 0 some_member

    -- which is the least
    first_least : (s : ℕ) → Contains list s → first_of list ≤ s
    first_least s (zero, inside, is) = omega (arith, is, get_or_default list 0 0 s inside)
    first_least s (suc m, inside, is) = omega (arith, is, class_rises 0 (suc m) s (omega arith) inside, get_or_default list 0 0 s (omega arith))

    -- members are kept circuits, in their home
    member_is_kept : (s : ℕ) → Contains list s → IsKeptUpTo b k s × (home_of b seed s ≡ h.j)
    member_is_kept s has = (hold.exactly h.j s h.within).0 ((lists.exactly s).0 has).0

    -- they are equivalent
    members_same : (s t : ℕ) → Contains list s → Contains list t → Same s t
    members_same s t has_s has_t =
        let e = get_or (journal h.j) (get_or (classes_are h.j h.within).earliest h.i 0) 0 in
        same_on s e t (same_back e s ((lists.exactly s).0 has_s).1) ((lists.exactly t).0 has_t).1

    -- and all kept circuits that are equivalent to a member are members
    same_is_member : (s t : ℕ) → Contains list s → IsKeptUpTo b k t → Same s t → Contains list t
    same_is_member s t has kept same =
        let e = get_or (journal h.j) (get_or (classes_are h.j h.within).earliest h.i 0) 0 in
        let home = sym (same_home s t same) ∙ (member_is_kept s has).1 in
        (lists.exactly t).1 ((hold.exactly h.j t h.within).1 (kept, home), same_on e s t ((lists.exactly s).0 has).1 same)

  -- a kept circuit is in a class
  pub class_of : (s : ℕ) → IsKeptUpTo b k s → (list : List ℕ) × IsClassAt list × Contains list s
  class_of s kept =
      let j = home_of b seed s in
      let within : j < 16 = mod-lt _ (omega arith) in
      let found = partition.covered Same same_self same_back same_on (journal j) (classes j) (classes_are j within) s ((hold.exactly j s within).1 (kept, refl)) in
      (get_or (classes j) found.0 [], record { j = j; i = found.0; within = within; inside = found.1; is = refl }, found.2)

  -- two classes with equivalent members are one
  one_class : (list other : List ℕ) → IsClassAt list → IsClassAt other → (s t : ℕ) → Contains list s → Contains other t → Same s t → list ≡ other
  one_class list other h g s t has_s has_t same =
      rising_lists_same list other (class_rises list h) (class_rises other g)
      (λ r has. same_is_member other g t r has_t (member_is_kept list h r has).0 (same_on t s r (same_back s t same) (members_same list h s r has_s has)))
      (λ r has. same_is_member list h s r has_s (member_is_kept other g r has).0 (same_on s t r same (members_same other g t r has_t has)))

  -- two classes with one first member are one
  one_first : (list other : List ℕ) → IsClassAt list → IsClassAt other → first_of list ≡ first_of other → list ≡ other
  one_first list other h g same =
      one_class list other h g (first_of list) (first_of other) (has_first list h) (has_first other g)
      (subst (Same (first_of list)) same (same_self (first_of list)))

  -- ---- the classes of one journal

  class_number : (j i : ℕ) → j < 16 → i < length (classes j) → IsClassAt (get_or (classes j) i [])
  class_number j i within inside = record { j = j; i = i; within = within; inside = inside; is = refl }

  -- their first members are different
  pub classes_of_one : (j : ℕ) → j < 16 → AllPairs (λ x y. first_of x ≢ first_of y) (classes j)
  classes_of_one j within m n d before inside same =
      let x = get_or (classes j) m [] in
      let y = get_or (classes j) n [] in
      let at_x = has_first x (class_number j m within (omega arith)) in
      let at_y = has_first y (class_number j n within inside) in
      let one : first_of x ≡ first_of y = ap first_of (get_or_default (classes j) m [] d (omega arith)) ∙ same ∙ ap first_of (get_or_default (classes j) n d [] inside) in
      let number = partition.classes_apart Same same_self same_back same_on (journal j) (classes j) (classes_are j within) m n (first_of x) (first_of y) (omega arith) inside at_x at_y
      (subst (Same (first_of x)) one (same_self (first_of x))) in
      omega (arith, number)

  -- they are at home there
  pub class_home : (j : ℕ) (list : List ℕ) → j < 16 → Contains (classes j) list → home_of b seed (first_of list) ≡ j
  unfolding class_at
  class_home j list within has = let h = class_at j list within has in (member_is_kept list h (first_of list) (has_first list h)).1

  -- ---- first members are representatives

  -- a representative of at most k gates is kept
  kept_of : (r : ℕ) → IsRepresentativeRank b r → length (circuit_at b r) ≤ k → IsKeptUpTo b k r
  kept_of r h short =
      let ranks = ranks_are_order b lawful in
      record { listed = representative_below b ranks r h; kept = representative_kept b (circuit_at b r) (representative_at b ranks r h); short = short }

  -- a first member is one
  pub first_is_representative : (list : List ℕ) → IsClassAt list → IsRepresentativeRank b (first_of list)
  first_is_representative list h =
      let ranks = ranks_are_order b lawful in
      let r = first_of list in
      let kept = (member_is_kept list h r (has_first list h)).0 in
      representative_from b ranks r kept.listed (representative_from_representatives b lawful (circuit_at b r) kept.kept.within (λ d least before same.
      let t = rank b d in
      let here : circuit_at b t ≡ d = ranks.at_rank d least.within in
      let own : IsRepresentativeRank b t = record { circuit = d; representative = least; ranked = refl } in
      let short : length (circuit_at b t) ≤ k = omega (arith, ap length here, before_not_longer d (circuit_at b r) before, kept.short) in
      let joined : Same r t = same_back t r (subst (λ x. Equivalent b.q x (circuit_at b r)) (sym here) same) in
      let has = same_is_member list h r t (has_first list h) (kept_of t own short) joined in
      let lower = ranks.rises d (circuit_at b r) least.within kept.kept.within before in
      absurd (omega (arith, first_least list h t has, lower, ranks.rank_at r kept.listed))))

  -- and each one of at most k gates is a first member
  pub representative_is_first : (r : ℕ) → IsRepresentativeRank b r → length (circuit_at b r) ≤ k → (list : List ℕ) × IsClassAt list × (first_of list ≡ r)
  representative_is_first r h short =
      let ranks = ranks_are_order b lawful in
      let found = class_of r (kept_of r h short) in
      let list = found.0 in
      let first = first_of list in
      let is : first ≡ r = elim (cases_lt first r) [
        | inl lower ↦ absurd (is_no_representative b ranks first r lower (representative_below b ranks r h) (members_same list found.1 first r (has_first list found.1) found.2) h)
        | inr after ↦ omega (arith, after, first_least list found.1 r found.2)
      ] in
      (list, found.1, is)

  -- ---- the lists of all journals

  -- all classes, journal by journal
  abbrev pub together : List (List ℕ)
  together = flat_map (λ lists. lists) all

  pub class_in : (list : List ℕ) → Contains together list → IsClassAt list
  class_in list has =
      let found = Contains-from_flat_map (λ (lists : List (List ℕ)). lists) all list has in
      let j = found.1.0 in
      let within : j < 16 = omega (arith, as_many, found.1.1) in
      class_at j list within (subst (λ lists. Contains lists list) (sym (get_or_default all j [] found.0 found.1.1 ∙ found.1.2)) found.2)

  pub in_class : (list : List ℕ) → IsClassAt list → Contains together list
  in_class list h =
      Contains-flat_map (λ (lists : List (List ℕ)). lists) all (classes h.j) list (Contains-get_or all h.j [] (let many = as_many in let within = h.within in omega arith)) (h.i, h.inside, (let same = get_or_default (classes h.j) h.i list [] h.inside in same ∙ h.is))

-- ---- the class list

-- the first of the lists whose first member is r
abbrev pick : List (List ℕ) → ℕ → List ℕ
pick [] r = []
pick (list ∷ lists) r = cond (eqb (first_of list) r) list (pick lists r)

-- it is one where there is one
picked : (lists : List (List ℕ)) (list : List ℕ) (r : ℕ) → Contains lists list → first_of list ≡ r → Contains lists (pick lists r) × (first_of (pick lists r) ≡ r)
picked [] list r has is = absurd (omega (arith, has.1))
picked (x ∷ xs) list r has is = by (eqb (first_of x) r) refl (contains_cases x xs list has) (λ later. picked xs list r later is)
  where
    by : (t : Bool) → eqb (first_of x) r ≡ t → (x ≡ list) ⊎ Contains xs list → (Contains xs list → Contains xs (pick xs r) × (first_of (pick xs r) ≡ r)) →
        Contains (x ∷ xs) (cond t x (pick xs r)) × (first_of (cond t x (pick xs r)) ≡ r)
    by true test cases rest = (contains_first x xs, (Decides-eqb (first_of x) r).0 test)
    by false test (inl same) rest = absurd (true≢false (sym ((Decides-eqb (first_of x) r).1 (ap first_of same ∙ is)) ∙ test))
    by false test (inr later) rest = (contains_rest x xs (pick xs r) (rest later).0, (rest later).1)

-- beside each number what a function gives of it
zip_map : {A B : Type 0} (P : A → B → Type 0) (f : A → B) (xs : List A) → ((x : A) → Contains xs x → P x (f x)) → AllZip P xs (map f xs)
zip_map P f [] each = tt
zip_map P f (x ∷ xs) each = (each x (contains_first x xs), zip_map P f xs (λ y has. each y (contains_rest x xs y has)))

-- a list in order by a number, with different ones, rises by it
rises_by : {A : Type 0} (number : A → ℕ) (xs : List A) → IsNonDecreasingBy number xs → AllPairs (λ r t. r ≢ t) (map number xs) → AllPairs (λ x y. number x < number y) xs
rises_by number xs order different i j d before inside =
    let size = length-map xs number in
    let apart = different i j 0 before (omega arith) in
    let first = get_or-map number xs i d 0 (omega arith) in
    let second = get_or-map number xs j d 0 inside in
    let upto = order i j d (omega arith) inside in
    elim (cases_eq (number (get_or xs i d)) (number (get_or xs j d))) [
      | inl same ↦ absurd (apart (first ∙ same ∙ sym second))
      | inr other ↦ omega (arith, upto, other)
    ]

-- different numbers stay different in another order
pub different_permuted : (xs ys : List ℕ) → IsPermutation xs ys → AllPairs (λ r t. r ≢ t) xs → AllPairs (λ r t. r ≢ t) ys
different_permuted xs ys moved different =
    AllPairs-from_IsDistinct Decides-eqb ys (IsDistinct-IsPermutation eqb nat_eq_equiv.symm xs ys moved (IsDistinct-from_AllPairs Decides-eqb xs different))

module _ (b : Limits) (lawful : IsLawful b) (seed : ℕ) (journals : List (List ℕ)) (held : HoldKept b seed journals)
    (all : List (List (List ℕ))) (are : AllZip (AreClassesOf b) journals all) where
  -- all kept circuits have at most as many gates as the limits allow
  kept_up_to : (r : ℕ) → IsKeptRank b r ↔ IsKeptUpTo b b.n r
  kept_up_to r = (λ h. record { listed = h.listed; kept = h.kept; short = h.kept.within.short }, λ h. record { listed = h.listed; kept = h.kept })

  hold : AreAtHome (home_of b seed) (IsKeptUpTo b b.n) journals
  hold = at_home_same (home_of b seed) (IsKeptRank b) (IsKeptUpTo b b.n) journals kept_up_to held

  abbrev AtClass : List ℕ → Type 0
  AtClass = IsClassAt b lawful seed b.n journals hold all are

  abbrev every : List (List ℕ)
  every = flat_map (λ lists. lists) all

  abbrev to_class : (list : List ℕ) → Contains every list → AtClass list
  to_class = class_in b lawful seed b.n journals hold all are

  abbrev from_class : (list : List ℕ) → AtClass list → Contains every list
  from_class = in_class b lawful seed b.n journals hold all are

  -- the representatives
  abbrev firsts : (zs : List ℕ) × IsSortedOf (map first_of every) zs
  firsts = sorted (map first_of every)

  abbrev representatives : List ℕ
  representatives = firsts.0

  short_at : (r : ℕ) → IsRepresentativeRank b r → length (circuit_at b r) ≤ b.n
  short_at r h = (representative_at b (ranks_are_order b lawful) r h).within.short

  -- a list whose first member is one
  list_of : (r : ℕ) → Contains representatives r → (list : List ℕ) × Contains every list × (first_of list ≡ r)
  list_of r has = Contains-from_map first_of every r ((firsts.1.exactly r).0 has)

  each_representative : ListsExactly (IsRepresentativeRank b) representatives
  each_representative = record {
    rising = increasing_from_rises representatives firsts.1.rising;
    exactly = λ r. (
      λ has.
          let found = list_of r has in
          subst (IsRepresentativeRank b) found.2 (first_is_representative b lawful seed b.n journals hold all are found.0 (to_class found.0 found.1)),
      λ h.
          let found = representative_is_first b lawful seed b.n journals hold all are r h (short_at r h) in
          (firsts.1.exactly r).1 (subst (Contains (map first_of every)) found.2 (Contains-map first_of every found.0 (from_class found.0 found.1))),
    );
  }

  -- the classes, by their first members
  abbrev lists_of_firsts : List (List ℕ)
  lists_of_firsts = map (pick every) representatives

  picked_of : (r : ℕ) → Contains representatives r → Contains every (pick every r) × (first_of (pick every r) ≡ r)
  picked_of r has = let found = list_of r has in picked every found.0 r found.1 found.2

  -- each has the members of its representative
  members_of : (list : List ℕ) → AtClass list → ListsExactly (IsMemberRank b (first_of list)) list
  members_of list h =
      let ranks = ranks_are_order b lawful in
      let first = first_of list in
      record {
        rising = increasing_from_rises list (class_rises b lawful seed b.n journals hold all are list h);
        exactly = λ s. (
          λ has.
              let kept = (member_is_kept b lawful seed b.n journals hold all are list h s has).0 in
              member_from b ranks first s kept.listed (first_is_representative b lawful seed b.n journals hold all are list h) kept.kept
              (members_same b lawful seed b.n journals hold all are list h s first has (has_first b lawful seed b.n journals hold all are list h)),
          λ member.
              let kept = member_kept b ranks first s member in
              same_is_member b lawful seed b.n journals hold all are list h first s (has_first b lawful seed b.n journals hold all are list h)
              (record { listed = member_below b ranks first s member; kept = kept; short = kept.within.short })
              (symmetric b.q (circuit_at b s) (circuit_at b first) (member_equivalent b ranks first s member)),
        );
      }

  each_list : AllZip (λ r list. ListsExactly (IsMemberRank b r) list) representatives lists_of_firsts
  each_list = zip_map (λ r list. ListsExactly (IsMemberRank b r) list) (pick every) representatives (λ r has.
      let found = picked_of r has in
      subst (λ x. ListsExactly (IsMemberRank b x) (pick every r)) found.1 (members_of (pick every r) (to_class (pick every r) found.0)))

  -- they are all classes
  from_lists : (list : List ℕ) → Contains lists_of_firsts list → AtClass list
  from_lists list has =
      let source = Contains-from_map (pick every) representatives list has in
      subst AtClass source.2 (to_class (pick every source.0) (picked_of source.0 source.1).0)

  in_lists : (list : List ℕ) → AtClass list → Contains lists_of_firsts list
  in_lists list h =
      let r = first_of list in
      let has : Contains representatives r = (each_representative.exactly r).1 (first_is_representative b lawful seed b.n journals hold all are list h) in
      let found = picked_of r has in
      let same = one_first b lawful seed b.n journals hold all are (pick every r) list (to_class (pick every r) found.0) h found.1 in
      subst (Contains lists_of_firsts) same (Contains-map (pick every) representatives r has)

  lists_rise : AllPairs (λ x y. first_of x < first_of y) lists_of_firsts
  lists_rise i j d before inside =
      let size = length-map representatives (pick every) in
      let first = get_or-map (pick every) representatives i 0 d (omega arith) in
      let second = get_or-map (pick every) representatives j 0 d (omega arith) in
      let at_first = (picked_of (get_or representatives i 0) (Contains-get_or representatives i 0 (omega arith))).1 in
      let at_second = (picked_of (get_or representatives j 0) (Contains-get_or representatives j 0 (omega arith))).1 in
      omega (arith, ap first_of first ∙ at_first, ap first_of second ∙ at_second, firsts.1.rising i j 0 before (omega arith))

  -- ---- those of several members

  abbrev has_several : List ℕ → Bool
  has_several list = nat_lt 1 (length list)

  -- the first members of all journals' classes are different
  apart_in_all : AllPairs (λ r t. r ≢ t) (map first_of (flat_map several all))
  apart_in_all i j d before inside same =
      let size = length-map (flat_map several all) first_of in
      pairs-flat_map (λ x y. first_of x ≢ first_of y) several (λ list. home_of b seed (first_of list)) (λ x y less is. omega (arith, less, ap (home_of b seed) is)) all 0
      apart_in_one home_in_one i j [] before (omega arith)
      (sym (get_or-map first_of (flat_map several all) i [] d (omega arith)) ∙ same ∙ get_or-map first_of (flat_map several all) j [] d (omega arith))
    where
      number : (k : ℕ) → k < length all → k < 16
      number k within = omega (arith, as_many b lawful seed b.n journals hold all are)

      home_in_one : (k : ℕ) (d : List (List ℕ)) (list : List ℕ) → k < length all → Contains (several (get_or all k d)) list → home_of b seed (first_of list) ≡ 0 + k
      home_in_one k d list within has =
          let here = subst (λ lists. Contains (several lists) list) (get_or_default all k d [] within) has in
          omega (arith, class_home b lawful seed b.n journals hold all are k list (number k within) (Contains-from_filter has_several (get_or all k []) list here).0)

      apart_in_one : (k : ℕ) (d : List (List ℕ)) → k < length all → AllPairs (λ x y. first_of x ≢ first_of y) (several (get_or all k d))
      apart_in_one k d within =
          AllPairs-filter (λ x y. first_of x ≢ first_of y) has_several (get_or all k d)
          (subst (AllPairs (λ x y. first_of x ≢ first_of y)) (get_or_default all k [] d within) (classes_of_one b lawful seed b.n journals hold all are k (number k within)))

  several_those : (classes : List (List ℕ)) → AreTogether all classes → classes ≡ several lists_of_firsts
  several_those classes is =
      same_by_number first_of classes (several lists_of_firsts)
      (rises_by first_of classes is.in_order (different_permuted (map first_of (flat_map several all)) (map first_of classes) (IsPermutation-map first_of (flat_map several all) classes is.those) apart_in_all))
      (AllPairs-filter (λ x y. first_of x < first_of y) has_several lists_of_firsts lists_rise)
      (λ list has.
      let source = Contains-from_flat_map several all list (Contains-permutation classes (flat_map several all) list (IsPermutation-sym (flat_map several all) classes is.those) has) in
      let passed = Contains-from_filter has_several source.0 list source.2 in
      let h = to_class list (Contains-flat_map (λ (lists : List (List ℕ)). lists) all source.0 list source.1 passed.0) in
      Contains-filter has_several lists_of_firsts list (in_lists list h) passed.1)
      (λ list has.
      let passed = Contains-from_filter has_several lists_of_firsts list has in
      let source = Contains-from_flat_map (λ (lists : List (List ℕ)). lists) all list (from_class list (from_lists list passed.0)) in
      Contains-permutation (flat_map several all) classes list is.those (Contains-flat_map several all source.0 list source.1 (Contains-filter has_several source.0 list source.2 passed.1)))

  pub class_list : (classes : List (List ℕ)) → AreTogether all classes → IsClassList b classes
  class_list classes is = record {
    representatives = representatives;
    lists = lists_of_firsts;
    each_representative = each_representative;
    each_list = each_list;
    several = several_those classes is;
  }
