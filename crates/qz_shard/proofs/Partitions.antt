-- The classes of a journal by a relation that is reflexive, symmetric and transitive, and how they grow with it.
use Rattle.std.proofs.Common.{◌≡◌, ℕ, zero, suc, ◌+◌, ◌-◌, ◌<◌, ◌≤◌, List, [], ◌∷◌, ◌++◌, length, get_or, set, ◌⊎◌, inl, inr, refl, sym, subst, ap, ◌∙◌, arith, length-append}
use Rattle.std.specs.Prelude.{Contains}
use Rattle.std.specs.List.{AllZip}
use Rattle.std.specs.List.Sorted.{IsStrictlyIncreasing}
use Rattle.std.proofs.lemmas.Bool.{cases_eq, cases_lt, cases_order}
use Rattle.std.proofs.lemmas.List.{get_or_append_left, get_or_push, get_or_default, get_or-set_same, get_or-set_other, length-set}
use Rattle.std.proofs.lemmas.List.Elements.{Contains-append_left, Contains-push, Contains-push_cases, Contains-get_or}
use Rattle.std.proofs.lemmas.List.Kept.{AllPairs-from_increasing}
use Rattle.std.proofs.lemmas.List.Quantifiers.{all_pairs_push}
use Rattle.qz_circ.specs.Classes.{ListsExactly}
use Rattle.qz_circ.proofs.ClassLaws.{Rises, contains_cases, contains_first, contains_rest, rises_tail, first_below, lists_exactly_same}
use Rattle.qz_shard.specs.Journals.{IsEarliest, IsRelatedEntry, AreClassesBy, AddsMember, JoinsOne}
use Rattle.qz_shard.proofs.Zipped.{zip_length, zip_at, zip_by, zip_push, zip_weaker, zip_same, contains_or_not}

-- at most one list has the classes of a journal
pub classes_same : (R : ℕ → ℕ → Type 0) (journal : List ℕ) (k l : List (List ℕ)) → AreClassesBy R journal k → AreClassesBy R journal l → k ≡ l
classes_same R journal k l hk hl =
    let places = lists_exactly_same (IsEarliest R journal) hk.earliest hl.earliest hk.each_earliest hl.each_earliest in
    zip_same (λ i c. ListsExactly (IsRelatedEntry R journal i) c) (λ i. lists_exactly_same (IsRelatedEntry R journal i)) hl.earliest k l (subst (λ is. AllZip (λ i class. ListsExactly (IsRelatedEntry R journal i) class) is k) places hk.each_class) hl.each_class

-- a rising list with a greater number at its end
increasing_push : (xs : List ℕ) (y : ℕ) → IsStrictlyIncreasing xs → ((x : ℕ) → Contains xs x → x < y) → IsStrictlyIncreasing (xs ++ y ∷ [])
increasing_push xs y rising below k in_range =
    all_pairs_push (λ a b. a < b) xs y (AllPairs-from_increasing xs rising) (λ i d within. below (get_or xs i d) (Contains-get_or xs i d within)) k (k + 1) 0 (omega arith) in_range

-- a rising list of numbers below n has at most n
pub rising_short : (xs : List ℕ) (n : ℕ) → IsStrictlyIncreasing xs → ((x : ℕ) → Contains xs x → x < n) → length xs ≤ n
rising_short xs n rising below = elim (cases_eq (length xs) 0) [
  | inl none ↦ omega arith
  | inr some ↦
      let last = length xs - 1 in
      let least = at_least last (omega arith) in
      let bounded = below (get_or xs last 0) (Contains-get_or xs last 0 (omega arith)) in
      omega arith
]
  where
    at_least : (k : ℕ) → k < length xs → k ≤ get_or xs k 0
    at_least zero within = omega arith
    at_least (suc k) within =
        let before = at_least k (omega arith) in
        let next : get_or xs k 0 < get_or xs (suc k) 0 = AllPairs-from_increasing xs rising k (suc k) 0 (omega arith) within in
        omega arith

-- there are no more classes than entries
pub few_classes : (R : ℕ → ℕ → Type 0) (journal : List ℕ) (classes : List (List ℕ)) → AreClassesBy R journal classes → length classes ≤ length journal
few_classes R journal classes are =
    let size = zip_length (λ i c. ListsExactly (IsRelatedEntry R journal i) c) are.earliest classes are.each_class in
    let short = rising_short are.earliest (length journal) are.each_earliest.rising (λ i has. ((are.each_earliest.exactly i).0 has).within) in
    omega arith

-- of two rising lists, the first of which has the numbers of the second that are below n: their first numbers are the same
fronts_meet : (x y n : ℕ) (xs ys : List ℕ) → Rises (x ∷ xs) → Rises (y ∷ ys) → ((i : ℕ) → Contains (x ∷ xs) i → (i < n) × Contains (y ∷ ys) i) → ((i : ℕ) → Contains (y ∷ ys) i → i < n → Contains (x ∷ xs) i) → x ≡ y
fronts_meet x y n xs ys rx ry to from =
    let there = to x (contains_first x xs) in
    elim (contains_cases y ys x there.1) [
      | inl same ↦ sym same
      | inr later ↦ elim (contains_cases x xs y (from y (contains_first y ys) (omega (arith, first_below y ys ry x later, there.0)))) [
        | inl same ↦ same
        | inr later' ↦ absurd (omega (arith, first_below y ys ry x later, first_below x xs rx y later'))
      ]
    ]

-- and the first list is the front of the second
rising_front : (xs ys : List ℕ) (n : ℕ) → Rises xs → Rises ys → ((i : ℕ) → Contains xs i → (i < n) × Contains ys i) → ((i : ℕ) → Contains ys i → i < n → Contains xs i) →
    (k : ℕ) → k < length xs → (k < length ys) × (get_or xs k 0 ≡ get_or ys k 0)
rising_front [] ys n rx ry to from k within = absurd (omega arith)
rising_front (x ∷ xs) [] n rx ry to from k within = let there = (to x (contains_first x xs)).1 in absurd (omega (arith, there.1))
rising_front (x ∷ xs) (y ∷ ys) n rx ry to from zero within = (omega arith, fronts_meet x y n xs ys rx ry to from)
rising_front (x ∷ xs) (y ∷ ys) n rx ry to from (suc k) within =
    let meet = fronts_meet x y n xs ys rx ry to from in
    let to_rest : (i : ℕ) → Contains xs i → (i < n) × Contains ys i = λ i has. let there = to i (contains_rest x xs i has) in (
      there.0,
      elim (contains_cases y ys i there.1) [
        | inl same ↦ absurd (omega (arith, first_below x xs rx i has, same, meet))
        | inr later ↦ later
      ],
    ) in
    let from_rest : (i : ℕ) → Contains ys i → i < n → Contains xs i = λ i has below. elim (contains_cases x xs i (from i (contains_rest y ys i has) below)) [
      | inl same ↦ absurd (omega (arith, first_below y ys ry i has, same, meet))
      | inr later ↦ later
    ] in
    let rest = rising_front xs ys n (rises_tail x xs rx) (rises_tail y ys ry) to_rest from_rest k (omega arith) in
    (omega (arith, rest.0), rest.1)

-- the only element of a list
pub contains_one : (y x : ℕ) → Contains (y ∷ []) x → y ≡ x
contains_one y x has = elim (Contains-push_cases [] y x has) [ inl none ↦ absurd (omega (arith, none.1)) | inr same ↦ same ]

module _ (R : ℕ → ℕ → Type 0) (reflexive : (r : ℕ) → R r r) (symmetric : (r s : ℕ) → R r s → R s r) (transitive : (r s t : ℕ) → R r s → R s t → R r t) where
  module _ (journal : List ℕ) (classes : List (List ℕ)) (are : AreClassesBy R journal classes) where
    -- the entry at place i
    abbrev entry : ℕ → ℕ
    entry i = get_or journal i 0

    -- the place of the earliest entry of class k
    abbrev place : ℕ → ℕ
    place k = get_or are.earliest k 0

    -- class k
    abbrev class : ℕ → List ℕ
    class k = get_or classes k []

    size : length are.earliest ≡ length classes
    size = zip_length (λ i c. ListsExactly (IsRelatedEntry R journal i) c) are.earliest classes are.each_class

    -- the entries of class k are those to which its earliest one is related
    pub class_lists : (k : ℕ) → k < length classes → ListsExactly (IsRelatedEntry R journal (place k)) (class k)
    class_lists k within = let same = size in zip_at (λ i c. ListsExactly (IsRelatedEntry R journal i) c) are.earliest classes k 0 [] are.each_class (omega arith)

    place_earliest : (k : ℕ) → k < length classes → IsEarliest R journal (place k)
    place_earliest k within = let same = size in (are.each_earliest.exactly (place k)).0 (Contains-get_or are.earliest k 0 (omega arith))

    -- a member is an entry
    pub member_entry : (k x : ℕ) → k < length classes → Contains (class k) x → Contains journal x
    member_entry k x within has = (((class_lists k within).exactly x).0 has).0

    -- the members of a class are related to each other
    pub members_related : (k x y : ℕ) → k < length classes → Contains (class k) x → Contains (class k) y → R x y
    members_related k x y within has_x has_y =
        transitive x (entry (place k)) y (symmetric (entry (place k)) x (((class_lists k within).exactly x).0 has_x).1) (((class_lists k within).exactly y).0 has_y).1

    -- what a member is related to is a member
    related_member : (k x y : ℕ) → k < length classes → Contains (class k) x → Contains journal y → R x y → Contains (class k) y
    related_member k x y within has_x has_y related =
        ((class_lists k within).exactly y).1 (has_y, transitive (entry (place k)) x y (((class_lists k within).exactly x).0 has_x).1 related)

    -- the earliest entry of a class is a member
    pub earliest_member : (k : ℕ) → k < length classes → Contains (class k) (entry (place k))
    earliest_member k within = ((class_lists k within).exactly (entry (place k))).1 (Contains-get_or journal (place k) 0 (place_earliest k within).within, reflexive (entry (place k)))

    places_apart : (k l : ℕ) → k < l → l < length classes → R (entry (place k)) (entry (place l)) → ⊥
    places_apart k l before within related =
        let same = size in
        let lower : place k < place l = AllPairs-from_increasing are.earliest are.each_earliest.rising k l 0 before (omega arith) in
        (place_earliest l within).first (place k) lower related

    -- members of two classes are not related
    pub classes_apart : (k l x y : ℕ) → k < length classes → l < length classes → Contains (class k) x → Contains (class l) y → R x y → k ≡ l
    classes_apart k l x y within_k within_l has_x has_y related = elim (cases_order k l) [
      | inl same ↦ same
      | inr (inl before) ↦ absurd (places_apart k l before within_l between)
      | inr (inr after) ↦ absurd (places_apart l k after within_k (symmetric (entry (place k)) (entry (place l)) between))
    ]
      where
        between : R (entry (place k)) (entry (place l))
        between = transitive (entry (place k)) x (entry (place l)) (((class_lists k within_k).exactly x).0 has_x).1
            (transitive x y (entry (place l)) related (symmetric (entry (place l)) y (((class_lists l within_l).exactly y).0 has_y).1))

    -- some class has the number, or none has
    abbrev HasClass : ℕ → Type 0
    HasClass x = (k : ℕ) × (k < length classes) × Contains (class k) x

    search_below : (n x : ℕ) → n ≤ length classes → HasClass x ⊎ ((k : ℕ) → k < n → Contains (class k) x → ⊥)
    search_below zero x within = inr (λ k below has. absurd (omega arith))
    search_below (suc n) x within = by (contains_or_not (class n) x) (search_below n x (omega arith))
      where
        by : Contains (class n) x ⊎ (Contains (class n) x → ⊥) → HasClass x ⊎ ((k : ℕ) → k < n → Contains (class k) x → ⊥) → HasClass x ⊎ ((k : ℕ) → k < suc n → Contains (class k) x → ⊥)
        by (inl has) rest = inl (n, omega arith, has)
        by (inr none) (inl found) = inl found
        by (inr none) (inr others) = inr (λ k below has. elim (cases_eq k n) [
          | inl same ↦ none (subst (λ j. Contains (class j) x) same has)
          | inr apart ↦ others k (omega arith) has
        ])

    -- the entries before place n are in classes, and so is the one there
    next_covered : (n : ℕ) → n < length journal → ((j : ℕ) → j < n → HasClass (entry j)) → HasClass (entry n)
    next_covered n within earlier = by (search_below (length classes) (entry n) (omega arith))
      where
        by : HasClass (entry n) ⊎ ((k : ℕ) → k < length classes → Contains (class k) (entry n) → ⊥) → HasClass (entry n)
        by (inl found) = found
        by (inr none) =
            let first : (j : ℕ) → j < n → R (entry j) (entry n) → ⊥ = λ j below related.
            let there = earlier j below in
            none there.0 there.1 (related_member there.0 (entry j) (entry n) there.1 there.2 (Contains-get_or journal n 0 within) related) in
            let listed = (are.each_earliest.exactly n).1 (record { within = within; first = first }) in
            let same = size in
            let here : place listed.0 ≡ n = sym (get_or_default are.earliest listed.0 n 0 listed.1) ∙ listed.2 in
            let inside : listed.0 < length classes = omega (arith, listed.1) in
            absurd (none listed.0 inside (subst (λ i. Contains (class listed.0) (entry i)) here (earliest_member listed.0 inside)))

    covered_below : (n : ℕ) → n ≤ length journal → (j : ℕ) → j < n → HasClass (entry j)
    covered_below zero within j below = absurd (omega arith)
    covered_below (suc n) within j below = elim (cases_eq j n) [
      | inl same ↦ subst (λ i. HasClass (entry i)) (sym same) (next_covered n (omega arith) (covered_below n (omega arith)))
      | inr apart ↦ covered_below n (omega arith) j (omega arith)
    ]

    -- each entry is in a class
    pub covered : (x : ℕ) → Contains journal x → (k : ℕ) × (k < length classes) × Contains (class k) x
    covered x has = subst HasClass (sym (get_or_default journal has.0 x 0 has.1) ∙ has.2) (covered_below (length journal) (omega arith) has.0 has.1)

    -- ---- one more entry

    -- the journal with r at its end
    abbrev longer : ℕ → List ℕ
    longer r = journal ++ r ∷ []

    -- its entries
    abbrev entry_of_longer : ℕ → ℕ → ℕ
    entry_of_longer r i = get_or (longer r) i 0

    old_entry : (r i : ℕ) → i < length journal → entry_of_longer r i ≡ entry i
    old_entry r i within = get_or_append_left journal (r ∷ []) 0 i within

    new_entry : (r : ℕ) → entry_of_longer r (length journal) ≡ r
    new_entry r = get_or_push journal r 0 (length journal) refl

    longer_by_one : (r : ℕ) → length (longer r) ≡ length journal + 1
    longer_by_one r = length-append journal (r ∷ [])

    -- an entry that was the earliest stays so, whatever comes after it
    stays_earliest : (more : List ℕ) (i : ℕ) → IsEarliest R journal i → IsEarliest R (journal ++ more) i
    stays_earliest more i h = record {
      within = omega (arith, length-append journal more, h.within);
      first = λ j below related. h.first j below (subst (λ x. R x (entry i)) (get_or_append_left journal more 0 j (omega (arith, h.within)))
          (subst (R (get_or (journal ++ more) j 0)) (get_or_append_left journal more 0 i h.within) related));
    }

    -- an old entry that is the earliest was so
    was_earliest : (more : List ℕ) (i : ℕ) → i < length journal → IsEarliest R (journal ++ more) i → IsEarliest R journal i
    was_earliest more i within h = record {
      within = within;
      first = λ j below related. h.first j below (subst (λ x. R x (get_or (journal ++ more) i 0)) (sym (get_or_append_left journal more 0 j (omega arith)))
          (subst (R (entry j)) (sym (get_or_append_left journal more 0 i within)) related));
    }

    -- what lists the entries to which an old one is related lists those of the longer journal, where the new one isn't
    still_lists : (r i : ℕ) (members : List ℕ) → i < length journal → (R (entry i) r → ⊥) → ListsExactly (IsRelatedEntry R journal i) members → ListsExactly (IsRelatedEntry R (longer r) i) members
    still_lists r i members within none lists = record {
      rising = lists.rising;
      exactly = λ s. (
        λ has. let old = (lists.exactly s).0 has in (Contains-append_left journal (r ∷ []) s old.0, subst (λ x. R x s) (sym (old_entry r i within)) old.1),
        λ h. let related : R (entry i) s = subst (λ x. R x s) (old_entry r i within) h.1 in elim (Contains-push_cases journal r s h.0) [
          | inl old ↦ (lists.exactly s).1 (old, related)
          | inr same ↦ absurd (none (subst (R (entry i)) (sym same) related))
        ],
      );
    }

    -- with the new entry, where it is
    lists_more : (r i : ℕ) (members new : List ℕ) → i < length journal → R (entry i) r → AddsMember r members new → ListsExactly (IsRelatedEntry R journal i) members → ListsExactly (IsRelatedEntry R (longer r) i) new
    lists_more r i members new within related adds lists = record {
      rising = adds.rising;
      exactly = λ s. (
        λ has. elim ((adds.exactly s).0 has) [
          | inl before ↦ let old = (lists.exactly s).0 before in (Contains-append_left journal (r ∷ []) s old.0, subst (λ x. R x s) (sym (old_entry r i within)) old.1)
          | inr same ↦ (subst (Contains (longer r)) (sym same) (Contains-push journal r), subst (λ x. R x s) (sym (old_entry r i within)) (subst (R (entry i)) (sym same) related))
        ],
        λ h. (adds.exactly s).1 (elim (Contains-push_cases journal r s h.0) [
          | inl old ↦ inl ((lists.exactly s).1 (old, subst (λ x. R x s) (old_entry r i within) h.1))
          | inr same ↦ inr (sym same)
        ]),
      );
    }

    -- where the new entry is related to a member of a class, it joins the class
    pub joined : (k r x : ℕ) (new : List ℕ) → k < length classes → Contains (class k) x → R r x → AddsMember r (class k) new → AreClassesBy R (longer r) (set classes k new)
    joined k r x new within has related adds = record {
      earliest = are.earliest;
      each_earliest = record {
        rising = are.each_earliest.rising;
        exactly = λ i. (
          λ listed. stays_earliest (r ∷ []) i ((are.each_earliest.exactly i).0 listed),
          λ h. (are.each_earliest.exactly i).1 (elim (cases_lt i (length journal)) [
            | inl old ↦ was_earliest (r ∷ []) i old h
            | inr last ↦ absurd (not_first i (omega (arith, h.within, longer_by_one r)) h)
          ]),
        );
      };
      each_class = zip_by (λ i c. ListsExactly (IsRelatedEntry R (longer r) i) c) are.earliest (set classes k new) 0 [] (size ∙ sym (length-set classes k new)) each;
    }
      where
        -- the class's earliest entry is related to the new one
        to_new : R (entry (place k)) r
        to_new = transitive (entry (place k)) x r (((class_lists k within).exactly x).0 has).1 (symmetric r x related)

        not_first : (i : ℕ) → i ≡ length journal → IsEarliest R (longer r) i → ⊥
        not_first i at_end h =
            let before = (place_earliest k within).within in
            h.first (place k) (omega arith) (subst (λ y. R y (entry_of_longer r i)) (sym (old_entry r (place k) before)) (subst (R (entry (place k))) (sym (ap (entry_of_longer r) at_end ∙ new_entry r)) to_new))

        each : (j : ℕ) → j < length are.earliest → ListsExactly (IsRelatedEntry R (longer r) (get_or are.earliest j 0)) (get_or (set classes k new) j [])
        each j below = let same = size in let inside : j < length classes = omega (arith, same) in elim (cases_eq j k) [
          | inl at ↦ subst (ListsExactly (IsRelatedEntry R (longer r) (place j))) (sym (ap (λ i. get_or (set classes k new) i []) at ∙ get_or-set_same classes k new [] within))
              (subst (λ i. ListsExactly (IsRelatedEntry R (longer r) (place i)) new) (sym at)
              (lists_more r (place k) (class k) new (place_earliest k within).within to_new adds (class_lists k within)))
          | inr apart ↦ subst (ListsExactly (IsRelatedEntry R (longer r) (place j))) (sym (get_or-set_other classes k j new [] apart))
              (still_lists r (place j) (class j) (place_earliest j inside).within
              (λ there. apart (classes_apart j k (entry (place j)) (entry (place k)) inside within (earliest_member j inside) (earliest_member k within)
              (transitive (entry (place j)) r (entry (place k)) there (symmetric (entry (place k)) r to_new))))
              (class_lists j inside))
        ]

    -- where it is related to no entry, it has a class of its own at the end
    pub opened : (r : ℕ) → ((x : ℕ) → Contains journal x → R r x → ⊥) → AreClassesBy R (longer r) (classes ++ (r ∷ []) ∷ [])
    opened r none = record {
      earliest = are.earliest ++ length journal ∷ [];
      each_earliest = record {
        rising = increasing_push are.earliest (length journal) are.each_earliest.rising (λ i listed. ((are.each_earliest.exactly i).0 listed).within);
        exactly = λ i. (
          λ listed. elim (Contains-push_cases are.earliest (length journal) i listed) [
            | inl old ↦ stays_earliest (r ∷ []) i ((are.each_earliest.exactly i).0 old)
            | inr same ↦ subst (IsEarliest R (longer r)) same last
          ],
          λ h. elim (cases_lt i (length journal)) [
            | inl old ↦ Contains-append_left are.earliest (length journal ∷ []) i ((are.each_earliest.exactly i).1 (was_earliest (r ∷ []) i old h))
            | inr at_end ↦ let here : length journal ≡ i = omega (arith, h.within, longer_by_one r) in subst (Contains (are.earliest ++ length journal ∷ [])) here (Contains-push are.earliest (length journal))
          ],
        );
      };
      each_class = zip_push (λ i c. ListsExactly (IsRelatedEntry R (longer r) i) c) are.earliest classes (length journal) (r ∷ [])
          (zip_weaker (λ i c. ListsExactly (IsRelatedEntry R journal i) c) (λ i c. ListsExactly (IsRelatedEntry R (longer r) i) c) are.earliest classes
          (λ i c listed lists. let at = (are.each_earliest.exactly i).0 listed in
          still_lists r i c at.within (λ related. none (entry i) (Contains-get_or journal i 0 at.within) (symmetric (entry i) r related)) lists) are.each_class)
          own;
    }
      where
        last : IsEarliest R (longer r) (length journal)
        last = record {
          within = omega (arith, longer_by_one r);
          first = λ j below related. none (entry j) (Contains-get_or journal j 0 below)
              (symmetric (entry j) r (subst (λ x. R x r) (old_entry r j below) (subst (R (entry_of_longer r j)) (new_entry r) related)));
        }

        own : ListsExactly (IsRelatedEntry R (longer r) (length journal)) (r ∷ [])
        own = record {
          rising = λ k in_range. absurd (omega arith);
          exactly = λ s. (
            λ has. let same : r ≡ s = contains_one r s has in
                (subst (Contains (longer r)) same (Contains-push journal r), subst (λ x. R x s) (sym (new_entry r)) (subst (R r) same (reflexive r))),
            λ h. let related : R r s = subst (λ x. R x s) (new_entry r) h.1 in elim (Contains-push_cases journal r s h.0) [
              | inl old ↦ absurd (none s old related)
              | inr same ↦ subst (Contains (r ∷ [])) same (Contains-push [] r)
            ],
          );
        }

    -- what lists the entries of the longer journal to which an old one is related has the new entry beside the old ones, where it is related too
    adds_new : (r i k : ℕ) (new : List ℕ) → i < length journal → k < length classes → Contains (class k) (entry i) → R (entry i) r → ListsExactly (IsRelatedEntry R (longer r) i) new → AddsMember r (class k) new
    adds_new r i k new within inside has related lists = record {
      rising = lists.rising;
      exactly = λ s. (
        λ there. let h = (lists.exactly s).0 there in elim (Contains-push_cases journal r s h.0) [
          | inl old ↦ inl (related_member k (entry i) s inside has old (subst (λ x. R x s) (old_entry r i within) h.1))
          | inr same ↦ inr (sym same)
        ],
        λ either. elim either [
          | inl before ↦ (lists.exactly s).1 (
            Contains-append_left journal (r ∷ []) s (member_entry k s inside before),
            subst (λ x. R x s) (sym (old_entry r i within)) (members_related k (entry i) s inside has before),
          )
          | inr same ↦ (lists.exactly s).1 (
            subst (Contains (longer r)) (sym same) (Contains-push journal r),
            subst (λ x. R x s) (sym (old_entry r i within)) (subst (R (entry i)) (sym same) related),
          )
        ],
      );
    }

  -- with one more entry the classes are the same, but for one that has it as one more member, or for a class of it alone at the end
  pub grown : (r : ℕ) (journal : List ℕ) (classes later : List (List ℕ)) → AreClassesBy R journal classes → AreClassesBy R (journal ++ r ∷ []) later → JoinsOne r classes later ⊎ (later ≡ classes ++ (r ∷ []) ∷ [])
  grown r journal classes later are are_later = by (cases_lt first (length journal))
    where
      -- the class of the new entry, and the place of its earliest entry
      there : (k : ℕ) × (k < length later) × Contains (get_or later k []) r
      there = covered (journal ++ r ∷ []) later are_later r (Contains-push journal r)

      first : ℕ
      first = place (journal ++ r ∷ []) later are_later there.0

      lists : ListsExactly (IsRelatedEntry R (journal ++ r ∷ []) first) (get_or later there.0 [])
      lists = class_lists (journal ++ r ∷ []) later are_later there.0 there.1

      earliest : IsEarliest R (journal ++ r ∷ []) first
      earliest = place_earliest (journal ++ r ∷ []) later are_later there.0 there.1

      by : (first < length journal) ⊎ (length journal ≤ first) → JoinsOne r classes later ⊎ (later ≡ classes ++ (r ∷ []) ∷ [])
      by (inl old) =
          let related : R (get_or journal first 0) r = subst (λ x. R x r) (old_entry journal classes are r first old) ((lists.exactly r).0 there.2).1 in
          let home = covered journal classes are (get_or journal first 0) (Contains-get_or journal first 0 old) in
          let adds = adds_new journal classes are r first home.0 (get_or later there.0 []) old home.1 home.2 related lists in
          let made = joined journal classes are home.0 r (get_or journal first 0) (get_or later there.0 []) home.1 home.2 (symmetric (get_or journal first 0) r related) adds in
          inl (record { number = home.0; within = home.1; class = get_or later there.0 []; adds = adds; lists = classes_same R (journal ++ r ∷ []) later (set classes home.0 (get_or later there.0 [])) are_later made })
      by (inr last) =
          let at_end : first ≡ length journal = omega (arith, earliest.within, longer_by_one journal classes are r) in
          let none : (x : ℕ) → Contains journal x → R r x → ⊥ = λ x has related.
          earliest.first has.0 (omega (arith, has.1))
          (subst (λ y. R y (get_or (journal ++ r ∷ []) first 0)) (sym (old_entry journal classes are r has.0 has.1 ∙ sym (get_or_default journal has.0 x 0 has.1) ∙ has.2))
          (subst (R x) (sym (ap (λ i. get_or (journal ++ r ∷ []) i 0) at_end ∙ new_entry journal classes are r)) (symmetric r x related))) in
          inr (classes_same R (journal ++ r ∷ []) later (classes ++ (r ∷ []) ∷ []) are_later (opened journal classes are r none))

  -- whatever comes after a journal, the members of a class stay in the class with its number
  pub stays : (journal more : List ℕ) (classes later : List (List ℕ)) → AreClassesBy R journal classes → AreClassesBy R (journal ++ more) later → (k s : ℕ) → k < length classes → Contains (get_or classes k []) s → Contains (get_or later k []) s
  stays journal more classes later are are_later k s within has =
      let sizes = size journal classes are in
      let later_sizes = size (journal ++ more) later are_later in
      let front = rising_front are.earliest are_later.earliest (length journal) (AllPairs-from_increasing are.earliest are.each_earliest.rising) (AllPairs-from_increasing are_later.earliest are_later.each_earliest.rising) to from k (omega arith) in
      let old = ((class_lists journal classes are k within).exactly s).0 has in
      let first = (place_earliest journal classes are k within).within in
      ((class_lists (journal ++ more) later are_later k (omega (arith, front.0))).exactly s).1 (
        Contains-append_left journal more s old.0,
        subst (λ i. R (get_or (journal ++ more) i 0) s) front.1 (subst (λ x. R x s) (sym (get_or_append_left journal more 0 (place journal classes are k) first)) old.1),
      )
    where
      to : (i : ℕ) → Contains are.earliest i → (i < length journal) × Contains are_later.earliest i
      to i listed = let h = (are.each_earliest.exactly i).0 listed in (h.within, (are_later.each_earliest.exactly i).1 (stays_earliest journal classes are more i h))

      from : (i : ℕ) → Contains are_later.earliest i → i < length journal → Contains are.earliest i
      from i listed below = (are.each_earliest.exactly i).1 (was_earliest journal classes are more i below ((are_later.each_earliest.exactly i).0 listed))
