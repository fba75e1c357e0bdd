-- What a pair of a class list tells: its first circuit is the representative of its later one, and which kept circuits stand in none.
use Rattle.std.proofs.Common.{◌≡◌, ℕ, ◌<◌, true, List, [], ◌∷◌, map, length, ◌⊎◌, inl, inr, refl, sym, ap, subst, ◌∙◌, arith}
use Rattle.std.specs.Prelude.{Contains}
use Rattle.std.specs.List.{flat_map}
use Rattle.std.specs.List.Sorted.{IsStrictlyIncreasing}
use Rattle.std.proofs.lemmas.Bool.{cases_eq}
use Rattle.std.proofs.lemmas.List.Elements.{Contains-append_cases, Contains-append_left, Contains-append_right}
use Rattle.std.proofs.lemmas.List.Kept.{AllPairs-from_increasing}
use Rattle.qz_circ.specs.Circuit.{Circuit, Limits, Within}
use Rattle.qz_circ.specs.Bounds.{IsLawful}
use Rattle.qz_circ.specs.Equivalence.{Equivalent}
use Rattle.qz_circ.specs.Order.{is_before, rank, circuit_at, all_circuits}
use Rattle.qz_circ.specs.Classes.{IsRepresentative, IsKept, IsClassList, ListsExactly, IsMemberRank}
use Rattle.qz_circ.specs.Pairs.{Pair, class_pairs, pairs_of}
use Rattle.qz_circ.proofs.CircuitPlaces.{Contains-map}
use Rattle.qz_circ.proofs.ClassLaws.{contains_cases, contains_first, contains_rest, contains_none, first_below}
use Rattle.qz_circ.proofs.RankLemmas.{before_by_rank, circuit_at-rank, rank_listed}
use Rattle.qz_paths.proofs.Equivalences.{reflexive, symmetric, transitive}
use Rattle.qz_paths.proofs.Least.{representative_kept}
use Rattle.qz_paths.proofs.ClassesFound.{ClassOf, known, has_class, same_representative}
use Rattle.qz_paths.proofs.Members.{OfOne, of_class}

-- ---- pairs and classes

-- an element of what a function gives of a list
pub record Given {A B : Type 0} (f : A → B) (xs : List A) (y : B) : Type 0 where
  pub from : A
  pub listed : Contains xs from
  pub is : f from ≡ y

pub given_by_map : {A B : Type 0} (f : A → B) (xs : List A) (y : B) → Contains (map f xs) y → Given f xs y
given_by_map f [] y has = absurd (contains_none y has)
given_by_map f (x ∷ xs) y has = elim (contains_cases (f x) (map f xs) y has) [
  | inl same ↦ record { from = x; listed = contains_first x xs; is = same }
  | inr later ↦ let rest = given_by_map f xs y later in record { from = rest.from; listed = contains_rest x xs rest.from rest.listed; is = rest.is }
]

-- a class with the two numbers of a pair, the first one in front
pub record PairOf (classes : List (List ℕ)) (pair : Pair) : Type 0 where
  pub later : List ℕ
  pub is_class : Contains classes (pair.first ∷ later)
  pub has : Contains later pair.later

-- a pair of a class
in_class : (class : List ℕ) (pair : Pair) → Contains (class_pairs class) pair → PairOf (class ∷ []) pair
in_class [] pair has = absurd (contains_none pair has)
in_class (f ∷ later) pair has =
    let given = given_by_map (λ (r : ℕ). let p : Pair = record { first = f; later = r } in p) later pair has in
    let first : f ≡ pair.first = ap (λ (p : Pair). p.first) given.is in
    let last : given.from ≡ pair.later = ap (λ (p : Pair). p.later) given.is in
    record {
      later = later;
      is_class = subst (λ x. Contains ((f ∷ later) ∷ []) (x ∷ later)) first (contains_first (f ∷ later) []);
      has = subst (Contains later) last given.listed;
    }

-- a pair of a list of classes
pub pair_of : (classes : List (List ℕ)) (pair : Pair) → Contains (pairs_of classes) pair → PairOf classes pair
pair_of [] pair has = absurd (contains_none pair has)
pair_of (class ∷ classes) pair has = elim (Contains-append_cases (class_pairs class) (pairs_of classes) pair has) [
  | inl here ↦
      let one = in_class class pair here in
      let same : class ≡ pair.first ∷ one.later = elim (contains_cases class [] (pair.first ∷ one.later) one.is_class) [ inl is ↦ is | inr none ↦ absurd (contains_none (pair.first ∷ one.later) none) ] in
      record { later = one.later; is_class = subst (Contains (class ∷ classes)) same (contains_first class classes); has = one.has }
  | inr there ↦
      let rest = pair_of classes pair there in
      record { later = rest.later; is_class = contains_rest class classes (pair.first ∷ rest.later) rest.is_class; has = rest.has }
]

-- a pair from a class
pub pair_listed : (classes : List (List ℕ)) (pair : Pair) → PairOf classes pair → Contains (pairs_of classes) pair
pair_listed [] pair h = absurd (contains_none (pair.first ∷ h.later) h.is_class)
pair_listed (class ∷ classes) pair h = elim (contains_cases class classes (pair.first ∷ h.later) h.is_class) [
  | inl here ↦
      let of : ℕ → Pair = λ r. record { first = pair.first; later = r } in
      let listed : Contains (class_pairs (pair.first ∷ h.later)) pair = Contains-map of h.later pair.later h.has in
      Contains-append_left (class_pairs class) (pairs_of classes) pair (subst (λ c. Contains (class_pairs c) pair) (sym here) listed)
  | inr there ↦ Contains-append_right (class_pairs class) (pairs_of classes) pair (pair_listed classes pair (record { later = h.later; is_class = there; has = h.has }))
]

-- ---- pairs of a class list

-- the circuit is later than the representative with rank first, which is equivalent to it
pub record LaterMember (b : Limits) (classes : List (List ℕ)) (first : ℕ) (c : Circuit) : Type 0 where
  pub class : ClassOf b classes c
  pub least : IsRepresentative b class.representative
  pub ranked : rank b class.representative ≡ first
  pub none : IsRepresentative b c → ⊥

module _ (b : Limits) (lawful : IsLawful b) where
  -- a circuit within limits is the one with its rank
  at_rank : (c d : Circuit) → Within b c → Within b d → rank b c ≡ rank b d → c ≡ d
  at_rank c d wc wd same = sym (circuit_at-rank b lawful c wc) ∙ ap (circuit_at b) same ∙ circuit_at-rank b lawful d wd

  -- the first member of a list of all members of a representative has its rank
  first_is : (number first : ℕ) (later : List ℕ) → ListsExactly (IsMemberRank b number) (first ∷ later) → (m : IsMemberRank b number first) → first ≡ number
  first_is number first later exactly m =
      let r = m.representative.circuit in
      let least = m.representative.representative in
      let itself : IsMemberRank b number number = record { representative = m.representative; member = r; kept = representative_kept b r least; ranked = m.representative.ranked; equivalent = reflexive b.q r } in
      elim (contains_cases first later number ((exactly.exactly number).1 itself)) [
        | inl same ↦ same
        | inr after ↦
            let below = first_below first later (AllPairs-from_increasing (first ∷ later) exactly.rising) number after in
            let less : rank b m.member < rank b r = omega (arith, m.ranked, m.representative.ranked, below) in
            absurd (least.first m.member m.kept.within ((before_by_rank b lawful m.member r m.kept.within least.within).1 less) m.equivalent)
      ]

  module _ (classes : List (List ℕ)) (h : IsClassList b classes) where
    -- a class rises
    pub class_rises : (list : List ℕ) → Contains classes list → IsStrictlyIncreasing list
    class_rises list is_class = (of_class b classes h list is_class).exactly.rising

    -- and its members are ranks of circuits within the limits
    pub member_listed : (list : List ℕ) → Contains classes list → (r : ℕ) → Contains list r → r < length (all_circuits b)
    member_listed list is_class r has =
        let m = ((of_class b classes h list is_class).exactly.exactly r).0 has in
        omega (arith, m.ranked, rank_listed b lawful m.member m.kept.within)

    -- what a pair says of its later circuit
    pub later_is : (first : ℕ) (c : Circuit) → Within b c → Contains (pairs_of classes) (record { first = first; later = rank b c }) → LaterMember b classes first c
    later_is first c within listed =
        let pair = pair_of classes (record { first = first; later = rank b c }) listed in
        let one = of_class b classes h (first ∷ pair.later) pair.is_class in
        let in_list = contains_rest first pair.later (rank b c) pair.has in
        let m = (one.exactly.exactly (rank b c)).0 in_list in
        let f = (one.exactly.exactly first).0 (contains_first first pair.later) in
        let is_first = first_is one.number first pair.later one.exactly f in
        let r = m.representative.circuit in
        let least = m.representative.representative in
        let ranked : rank b r ≡ first = m.representative.ranked ∙ sym is_first in
        let this : m.member ≡ c = at_rank m.member c m.kept.within within m.ranked in
        let same : Equivalent b.q r c = symmetric b.q c r (subst (λ x. Equivalent b.q x r) this m.equivalent) in
        let below = first_below first pair.later (AllPairs-from_increasing (first ∷ pair.later) one.exactly.rising) (rank b c) pair.has in
        let before = (before_by_rank b lawful r c least.within within).1 (omega (arith, ranked, below)) in
        let class : ClassOf b classes c = record {
          representative = r;
          within = least.within;
          before = before;
          equivalent = same;
          list = first ∷ pair.later;
          is_class = pair.is_class;
          has = in_list;
          has_representative = subst (Contains (first ∷ pair.later)) (sym ranked) (contains_first first pair.later);
        } in
        record { class = class; least = least; ranked = ranked; none = λ is. is.first r least.within before same }

    -- a kept circuit that is no representative is a later one of some pair
    pub later_found : (c : Circuit) → IsKept b c → (IsRepresentative b c → ⊥) → (first : ℕ) × Contains (pairs_of classes) (record { first = first; later = rank b c })
    later_found c kept none =
        let class = has_class b lawful classes h c kept none in
        by class.list class.is_class class.has class.representative class.has_representative ((before_by_rank b lawful class.representative c class.within kept.within).0 class.before)
      where
        by : (list : List ℕ) → Contains classes list → Contains list (rank b c) → (r : Circuit) → Contains list (rank b r) → rank b r < rank b c → (first : ℕ) × Contains (pairs_of classes) (record { first = first; later = rank b c })
        by [] is_class has r has_first less = absurd (contains_none (rank b c) has)
        by (first ∷ later) is_class has r has_first less = elim (contains_cases first later (rank b c) has) [
          | inl same ↦
              let one = of_class b classes h (first ∷ later) is_class in
              elim (contains_cases first later (rank b r) has_first) [
                | inl also ↦ absurd (omega (arith, same, also, less))
                | inr after ↦ absurd (omega (arith, same, less, first_below first later (AllPairs-from_increasing (first ∷ later) one.exactly.rising) (rank b r) after))
              ]
          | inr after ↦ (first, pair_listed classes (record { first = first; later = rank b c }) (record { later = later; is_class = is_class; has = after }))
        ]

    -- a kept circuit that is the later one of no pair is a representative
    pub no_later_member : (c : Circuit) → IsKept b c → ((first : ℕ) → Contains (pairs_of classes) (record { first = first; later = rank b c }) → ⊥) → IsRepresentative b c
    no_later_member c kept none = elim (known b lawful classes h c kept.within) [
      | inl least ↦ least
      | inr later ↦ let found = later_found c kept later in absurd (none found.0 found.1)
    ]
