-- How what a shard keeps of its classes grows with the journal.
use Rattle.std.proofs.Common.{◌≡◌, ◌≢◌, ℕ, ◌+◌, ◌<◌, ◌≤◌, Bool, true, false, cond, eqb, List, [], ◌∷◌, ◌++◌, ◌==◌, length, map, get_or, set, count_by, ◌⊎◌, inl, inr, sym, subst, ap, ◌∙◌, arith, eq-eqb, length-append}
use Rattle.std.specs.Prelude.{Contains, Option, Some, None, is_some, nat_eq, slice_index, if◌then◌else◌, All}
use Rattle.std.specs.FinSet.{contains, len, from_list, from_list_push, contains-from_list_nat, len-insert, nat_cmp-IsAntisymmetric}
use Rattle.std.specs.List.{list_any}
use Rattle.std.specs.List.Sorted.{IsStrictlyIncreasing}
use Rattle.std.specs.Cmp.{nat_cmp_total}
use Rattle.std.specs.Ordering.{nat_cmp}
use Rattle.std.proofs.lemmas.Bool.{cases_eq, cases_lt}
use Rattle.std.proofs.lemmas.Bool.Decides.{eqb_tells}
use Rattle.std.proofs.lemmas.List.{map-append, length-map, length-set, get_or_append_left, get_or_push, get_or_default, get_or-map, get_or-set_same, get_or-set_other}
use Rattle.std.proofs.lemmas.List.Elements.{All-push, All-contains, Contains-get_or}
use Rattle.std.proofs.lemmas.List.Folds.{list_any_at, list_any_none}
use Rattle.std.proofs.lemmas.List.Quantifiers.{all_pairs_push}
use Rattle.qz_circ.specs.Order.{all_circuits, circuit_at}
use Rattle.qz_paths.proofs.Equivalences.{reflexive, symmetric, transitive}
use Rattle.qz_finger.proofs.Law.{one_fingerprint}
use Rattle.qz_shard.specs.Journals.{AreEquivalentRanks, AreClassesBy, AreClassesOf, AddsMember}
use Rattle.qz_shard.specs.Shards.{ShardParts, IsShard, IsAtHome, print_at, classes_with, different_prints}
use Rattle.qz_shard.specs.Held.{IsLastBelow, IsHeldBy, HasMembers}
use Rattle.qz_shard.proofs.Partitions as partition
use Rattle.qz_shard.proofs.Zipped.{zip_by, zip_count}

-- the shard with r at the end of its journal
abbrev pub with_entry : ShardParts → ℕ → ShardParts
with_entry s r = record { number = s.number; bounds = s.bounds; probe = s.probe; journal = s.journal ++ r ∷ [] }

-- a place below n is one below a number that isn't less
last_below_same : (prints : List ℕ) (more : List ℕ) (print n : ℕ) (place : Option ℕ) → n ≤ length prints → IsLastBelow prints print n place → IsLastBelow (prints ++ more) print n place
last_below_same prints more print n None within h = λ j below same. h j below (sym (get_or_append_left prints more 0 j (omega arith)) ∙ same)
last_below_same prints more print n (Some k) within h = (h.0, get_or_append_left prints more 0 k (omega (arith, h.0)) ∙ h.1, λ j after below same. h.2 j after below (sym (get_or_append_left prints more 0 j (omega arith)) ∙ same))

-- one more place, where another fingerprint stands
last_below_more : (prints : List ℕ) (print n : ℕ) (place : Option ℕ) → slice_index prints n ≢ print → IsLastBelow prints print n place → IsLastBelow prints print (n + 1) place
last_below_more prints print n None apart h = λ j below same. elim (cases_eq j n) [
  | inl at ↦ apart (subst (λ i. slice_index prints i ≡ print) at same)
  | inr other ↦ h j (omega arith) same
]
last_below_more prints print n (Some k) apart h = (
  omega (arith, h.0),
  h.1,
  λ j after below same. elim (cases_eq j n) [
    | inl at ↦ apart (subst (λ i. slice_index prints i ≡ print) at same)
    | inr other ↦ h.2 j after (omega arith) same
  ],
)

module _ (s : ShardParts) (r : ℕ) (listed : r < length (all_circuits s.bounds)) (absent : Contains s.journal r → ⊥) (home : IsAtHome s r) where
  -- it is a shard with r too
  shard_with : IsShard s → IsShard (with_entry s r)
  shard_with h = record {
    number = h.number;
    lawful = h.lawful;
    qubits = h.qubits;
    different = all_pairs_push (λ t u. t ≡ u → ⊥) s.journal r h.different (λ k d within same. absent (subst (Contains s.journal) same (Contains-get_or s.journal k d within)));
    listed = All-push (λ t. t < length (all_circuits s.bounds)) s.journal r h.listed listed;
    home = All-push (IsAtHome s) s.journal r h.home home;
  }

-- the fingerprints of the journal
abbrev prints_of_journal : ShardParts → List ℕ
prints_of_journal s = map (print_at s.bounds s.probe.seed) s.journal

-- one of them is this one
abbrev pub has_print : ShardParts → ℕ → Bool
has_print s print = contains (from_list {R = nat_cmp} (prints_of_journal s)) print

-- how many different ones there are with one more entry
prints_with : (s : ShardParts) (r : ℕ) → different_prints (with_entry s r) ≡ cond (has_print s (print_at s.bounds s.probe.seed r)) (different_prints s) (different_prints s + 1)
prints_with s r =
    ap (λ ks. len (from_list {R = nat_cmp} ks)) (map-append (print_at s.bounds s.probe.seed) s.journal (r ∷ [])) ∙
    ap len (from_list_push nat_cmp_total nat_cmp-IsAntisymmetric (prints_of_journal s) (print_at s.bounds s.probe.seed r)) ∙
    len-insert nat_cmp_total (from_list {R = nat_cmp} (prints_of_journal s)) (print_at s.bounds s.probe.seed r)

-- an entry's fingerprint is one
has_of_entry : (s : ShardParts) (x print : ℕ) → Contains s.journal x → print_at s.bounds s.probe.seed x ≡ print → has_print s print ≡ true
has_of_entry s x print has is =
    contains-from_list_nat (prints_of_journal s) print ∙
    list_any_at (λ y. nat_eq y print) (prints_of_journal s) has.0 (print_at s.bounds s.probe.seed x) (let size = length-map s.journal (print_at s.bounds s.probe.seed) in omega (arith, has.1))
    (eq-eqb (get_or (prints_of_journal s) has.0 (print_at s.bounds s.probe.seed x)) print (get_or-map (print_at s.bounds s.probe.seed) s.journal has.0 x (print_at s.bounds s.probe.seed x) has.1 ∙ ap (print_at s.bounds s.probe.seed) has.2 ∙ is))

-- where no entry has it, it is none
has_none : (s : ShardParts) (print : ℕ) → ((x : ℕ) → Contains s.journal x → print_at s.bounds s.probe.seed x ≡ print → ⊥) → has_print s print ≡ false
has_none s print none =
    contains-from_list_nat (prints_of_journal s) print ∙
    list_any_none (λ y. nat_eq y print) (prints_of_journal s) (λ k d within.
    let inside : k < length s.journal = let size = length-map s.journal (print_at s.bounds s.probe.seed) in omega (arith, within) in
    elim (eqb_tells (get_or (prints_of_journal s) k d) print) [
      | inl same ↦ absurd (none (get_or s.journal k 0) (Contains-get_or s.journal k 0 inside) (sym (get_or-map (print_at s.bounds s.probe.seed) s.journal k 0 d inside) ∙ same.1))
      | inr apart ↦ apart.0
    ])

module _ (s : ShardParts) (prints : List ℕ) (links : List (Option ℕ)) (members : List (List ℕ)) (newest : ℕ → Option ℕ) (keys : ℕ)
    (held : IsHeldBy s prints links members newest keys) where
  -- circuits of the shard by their ranks
  abbrev Same : ℕ → ℕ → Type 0
  Same = AreEquivalentRanks s.bounds

  same_self : (t : ℕ) → Same t t
  same_self t = reflexive s.bounds.q (circuit_at s.bounds t)

  same_back : (t u : ℕ) → Same t u → Same u t
  same_back t u = symmetric s.bounds.q (circuit_at s.bounds t) (circuit_at s.bounds u)

  same_on : (t u v : ℕ) → Same t u → Same u v → Same t v
  same_on t u v = transitive s.bounds.q (circuit_at s.bounds t) (circuit_at s.bounds u) (circuit_at s.bounds v)

  -- equivalent ones have the same fingerprint
  same_print : (t u : ℕ) → Same t u → print_at s.bounds s.probe.seed t ≡ print_at s.bounds s.probe.seed u
  same_print t u same = one_fingerprint s.probe.seed s.bounds.q (circuit_at s.bounds t) (circuit_at s.bounds u) same

  are : AreClassesBy Same s.journal members
  unfolding AreClassesOf
  are = held.partition

  -- class k
  abbrev class : ℕ → List ℕ
  class k = get_or members k []

  -- its first member
  abbrev first : ℕ → ℕ
  first k = get_or (class k) 0 0

  first_member : (k : ℕ) → k < length members → Contains (class k) (first k)
  first_member k within =
      let has = partition.earliest_member Same same_self same_back same_on s.journal members are k within in
      Contains-get_or (class k) 0 0 (omega (arith, has.1))

  -- an entry with a fingerprint is in a class that has it
  class_of_print : (x print : ℕ) → Contains s.journal x → print_at s.bounds s.probe.seed x ≡ print → (k : ℕ) × (k < length members) × (slice_index prints k ≡ print)
  class_of_print x print has is =
      let there = partition.covered Same same_self same_back same_on s.journal members are x has in
      (there.0, there.1, sym (held.own_prints there.0 x there.1 there.2) ∙ is)

  -- a class with a fingerprint has an entry that has it
  has_of_class : (k print : ℕ) → k < length members → slice_index prints k ≡ print → has_print s print ≡ true
  has_of_class k print within is =
      has_of_entry s (first k) print (partition.member_entry Same same_self same_back same_on s.journal members are k (first k) within (first_member k within))
      (held.own_prints k (first k) within (first_member k within) ∙ is)

  -- each class has members, which are within the bounds
  pub held_members : All (HasMembers s.bounds) members
  held_members k d within = subst (HasMembers s.bounds) (get_or_default members k [] d within) (record {
    some = let has = first_member k within in omega (arith, has.1);
    listed = λ j e inside. All-contains (λ t. t < length (all_circuits s.bounds)) s.journal (get_or (class k) j e) held.shard.listed
        (partition.member_entry Same same_self same_back same_on s.journal members are k (get_or (class k) j e) within (Contains-get_or (class k) j e inside));
  })

  -- a class rises, and has none but entries
  pub held_class : (r k : ℕ) → (Contains s.journal r → ⊥) → k < length members → IsStrictlyIncreasing (class k) × (Contains (class k) r → ⊥)
  held_class r k absent within = (
    (partition.class_lists Same same_self same_back same_on s.journal members are k within).rising,
    λ has. absent (partition.member_entry Same same_self same_back same_on s.journal members are k r within has),
  )

  -- a class has a member with a fingerprint exactly where it has that fingerprint itself
  any_is : (k print : ℕ) → k < length members → list_any (λ t. print_at s.bounds s.probe.seed t == print) (class k) ≡ (slice_index prints k == print)
  any_is k print within = elim (eqb_tells (slice_index prints k) print) [
    | inl same ↦ (let has = first_member k within in list_any_at (λ t. print_at s.bounds s.probe.seed t == print) (class k) 0 0 (omega (arith, has.1))
        (eq-eqb (print_at s.bounds s.probe.seed (first k)) print (held.own_prints k (first k) within (first_member k within) ∙ same.1))) ∙ sym same.0
    | inr apart ↦ list_any_none (λ t. print_at s.bounds s.probe.seed t == print) (class k) (λ j d inside. elim (eqb_tells (print_at s.bounds s.probe.seed (get_or (class k) j d)) print) [
      | inl is ↦ absurd (apart.1 (sym (held.own_prints k (get_or (class k) j d) within (Contains-get_or (class k) j d inside)) ∙ is.1))
      | inr other ↦ other.0
    ]) ∙ sym apart.0
  ]

  -- so many classes of the journal have a member with the fingerprint
  pub held_counted : (print : ℕ) (classes : List (List ℕ)) → length prints ≡ length members → AreClassesOf s.bounds s.journal classes → classes_with s print classes ≡ count_by (λ p. p == print) prints
  unfolding AreClassesOf
  held_counted print classes size are_too =
      ap (classes_with s print) (partition.classes_same Same s.journal classes members are_too held.partition) ∙
      sym (zip_count (λ p. p == print) (λ list. list_any (λ t. print_at s.bounds s.probe.seed t == print) list) prints members
      (zip_by (λ p list. (p == print) ≡ list_any (λ t. print_at s.bounds s.probe.seed t == print) list) prints members 0 [] size (λ k within. sym (any_is k print (omega arith)))))

  module _ (r : ℕ) (listed : r < length (all_circuits s.bounds)) (absent : Contains s.journal r → ⊥) (home : IsAtHome s r) where
    -- the shard after r has joined class k
    pub held_joined : (k : ℕ) (new : List ℕ) → k < length members → slice_index prints k ≡ print_at s.bounds s.probe.seed r → Same r (first k) → AddsMember r (class k) new →
        IsHeldBy (with_entry s r) prints links (set members k new) newest keys
    unfolding AreClassesOf
    held_joined k new within is same adds = record {
      shard = shard_with s r listed absent home held.shard;
      partition = joined_classes;
      own_prints = λ j x inside has. own j x (omega (arith, inside, length-set members k new)) has;
      linked = λ j inside. held.linked j (omega (arith, inside, length-set members k new));
      last = λ print. subst (λ n. IsLastBelow prints print n (newest print)) (sym (length-set members k new)) (held.last print);
      count = held.count ∙ sym (prints_with s r ∙ ap (λ b. cond b (different_prints s) (different_prints s + 1)) (has_of_class k (print_at s.bounds s.probe.seed r) within is));
    }
      where
        joined_classes : AreClassesBy Same (s.journal ++ r ∷ []) (set members k new)
        joined_classes = partition.joined Same same_self same_back same_on s.journal members are k r (first k) new within (first_member k within) same adds

        own : (j x : ℕ) → j < length members → Contains (get_or (set members k new) j []) x → print_at s.bounds s.probe.seed x ≡ slice_index prints j
        own j x inside has = elim (cases_eq j k) [
          | inl at ↦ elim ((adds.exactly x).0 (subst (λ list. Contains list x) (ap (λ i. get_or (set members k new) i []) at ∙ get_or-set_same members k new [] within) has)) [
            | inl old ↦ subst (λ i. print_at s.bounds s.probe.seed x ≡ slice_index prints i) (sym at) (held.own_prints k x within old)
            | inr now ↦ ap (print_at s.bounds s.probe.seed) now ∙ sym is ∙ ap (slice_index prints) (sym at)
          ]
          | inr apart ↦ held.own_prints j x inside (subst (λ list. Contains list x) (get_or-set_other members k j new [] apart) has)
        ]

    -- the shard after a class of r was opened
    pub held_opened : (newest' : ℕ → Option ℕ) → length prints ≡ length members → length links ≡ length members →
        ((k : ℕ) → k < length members → slice_index prints k ≡ print_at s.bounds s.probe.seed r → Same r (first k) → ⊥) →
        ((p : ℕ) → newest' p ≡ (if nat_eq (print_at s.bounds s.probe.seed r) p then Some (length members) else newest p)) →
        IsHeldBy (with_entry s r) (prints ++ print_at s.bounds s.probe.seed r ∷ []) (links ++ newest (print_at s.bounds s.probe.seed r) ∷ []) (members ++ (r ∷ []) ∷ []) newest' (keys + (if is_some (newest (print_at s.bounds s.probe.seed r)) then 0 else 1))
    unfolding AreClassesOf
    held_opened newest' print_size link_size none updated = record {
      shard = shard_with s r listed absent home held.shard;
      partition = opened_classes;
      own_prints = λ j x inside has. elim (cases_lt j (length members)) [
        | inl old ↦ held.own_prints j x old (subst (λ list. Contains list x) (get_or_append_left members ((r ∷ []) ∷ []) [] j old) has) ∙ sym (get_or_append_left prints (print ∷ []) 0 j (omega arith))
        | inr at_end ↦
            let here : length members ≡ j = omega (arith, inside, size) in
            let only : r ≡ x = partition.contains_one r x (subst (λ list. Contains list x) (get_or_push members (r ∷ []) [] j here) has) in
            ap (print_at s.bounds s.probe.seed) (sym only) ∙ sym (get_or_push prints print 0 j (print_size ∙ here))
      ];
      linked = λ j inside. elim (cases_lt j (length members)) [
        | inl old ↦ old_link j old
        | inr at_end ↦ new_link j (omega (arith, inside, size))
      ];
      last = λ p. subst (λ n. IsLastBelow (prints ++ print ∷ []) p n (newest' p)) (sym size) (subst (IsLastBelow (prints ++ print ∷ []) p (length members + 1)) (sym (updated p)) (last_of p (eqb_tells print p)));
      count = counted (is_some (newest print)) (has_is (newest print) (held.last print));
    }
      where
        print : ℕ
        print = print_at s.bounds s.probe.seed r

        size : length (members ++ (r ∷ []) ∷ []) ≡ length members + 1
        size = length-append members ((r ∷ []) ∷ [])

        opened_classes : AreClassesBy Same (s.journal ++ r ∷ []) (members ++ (r ∷ []) ∷ [])
        opened_classes = partition.opened Same same_self same_back same_on s.journal members are r (λ x has same.
            let there = partition.covered Same same_self same_back same_on s.journal members are x has in
            none there.0 there.1 (sym (held.own_prints there.0 x there.1 there.2) ∙ sym (same_print r x same))
            (same_on r x (first there.0) same (partition.members_related Same same_self same_back same_on s.journal members are there.0 x (first there.0) there.1 there.2 (first_member there.0 there.1))))

        old_link : (j : ℕ) → j < length members → IsLastBelow (prints ++ print ∷ []) (get_or (prints ++ print ∷ []) j 0) j (get_or (links ++ newest print ∷ []) j None)
        old_link j old =
            subst (IsLastBelow (prints ++ print ∷ []) (get_or (prints ++ print ∷ []) j 0) j) (sym (get_or_append_left links (newest print ∷ []) None j (omega arith)))
            (subst (λ f. IsLastBelow (prints ++ print ∷ []) f j (get_or links j None)) (sym (get_or_append_left prints (print ∷ []) 0 j (omega arith)))
            (last_below_same prints (print ∷ []) (get_or prints j 0) j (get_or links j None) (omega arith) (held.linked j old)))

        new_link : (j : ℕ) → length members ≡ j → IsLastBelow (prints ++ print ∷ []) (get_or (prints ++ print ∷ []) j 0) j (get_or (links ++ newest print ∷ []) j None)
        new_link j here =
            subst (IsLastBelow (prints ++ print ∷ []) (get_or (prints ++ print ∷ []) j 0) j) (sym (get_or_push links (newest print) None j (link_size ∙ here)))
            (subst (λ f. IsLastBelow (prints ++ print ∷ []) f j (newest print)) (sym (get_or_push prints print 0 j (print_size ∙ here)))
            (subst (λ n. IsLastBelow (prints ++ print ∷ []) print n (newest print)) here
            (last_below_same prints (print ∷ []) print (length members) (newest print) (omega arith) (held.last print))))

        last_of : (p : ℕ) → ((eqb print p ≡ true) × (print ≡ p)) ⊎ ((eqb print p ≡ false) × (print ≢ p)) → IsLastBelow (prints ++ print ∷ []) p (length members + 1) (if nat_eq print p then Some (length members) else newest p)
        last_of p (inl same) = subst (λ b. IsLastBelow (prints ++ print ∷ []) p (length members + 1) (cond b (Some (length members)) (newest p))) (sym same.0)
            (omega arith, get_or_push prints print 0 (length members) print_size ∙ same.1, λ j after below. absurd (omega arith))
        last_of p (inr apart) = subst (λ b. IsLastBelow (prints ++ print ∷ []) p (length members + 1) (cond b (Some (length members)) (newest p))) (sym apart.0)
            (last_below_more (prints ++ print ∷ []) p (length members) (newest p) (λ same. apart.1 (sym (get_or_push prints print 0 (length members) print_size) ∙ same))
            (last_below_same prints (print ∷ []) p (length members) (newest p) (omega arith) (held.last p)))

        has_is : (place : Option ℕ) → IsLastBelow prints print (length members) place → has_print s print ≡ is_some place
        has_is None h = has_none s print (λ x has is. let there = class_of_print x print has is in h there.0 there.1 there.2)
        has_is (Some k) h = has_of_class k print h.0 h.1

        counted : (b : Bool) → has_print s print ≡ b → keys + (if b then 0 else 1) ≡ different_prints (with_entry s r)
        counted true is = let more : different_prints (with_entry s r) ≡ different_prints s = prints_with s r ∙ ap (λ b. cond b (different_prints s) (different_prints s + 1)) is in omega (arith, more, held.count)
        counted false is = let more : different_prints (with_entry s r) ≡ different_prints s + 1 = prints_with s r ∙ ap (λ b. cond b (different_prints s) (different_prints s + 1)) is in omega (arith, more, held.count)
