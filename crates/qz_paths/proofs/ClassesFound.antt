-- What a class list tells: which circuits are representatives, and the class of a kept circuit that is none.
use Rattle.std.proofs.Common.{◌≡◌, ℕ, ◌<◌, Bool, true, false, List, [], ◌∷◌, length, nat_lt, cond, ◌⊎◌, inl, inr, refl, sym, ap, subst, ◌∙◌, arith, lt-ltb, true≢false}
use Rattle.std.specs.Prelude.{Contains, filter}
use Rattle.std.specs.List.{AllZip}
use Rattle.std.proofs.lemmas.Bool.{cases_eq, cases_order}
use Rattle.qz_circ.specs.Circuit.{Circuit, Limits, Within}
use Rattle.qz_circ.specs.Bounds.{IsLawful}
use Rattle.qz_circ.specs.Equivalence.{Equivalent}
use Rattle.qz_circ.specs.Order.{is_before, rank, circuit_at}
use Rattle.qz_circ.specs.Classes.{IsRepresentative, IsKept, ListsExactly, IsRepresentativeRank, IsMemberRank, IsClassList}
use Rattle.qz_circ.proofs.ClassLaws.{contains_cases, contains_first, contains_rest}
use Rattle.qz_circ.proofs.RankLemmas.{before_by_rank, circuit_at-rank}
use Rattle.qz_paths.proofs.Equivalences.{reflexive, symmetric}
use Rattle.qz_paths.proofs.Least.{representative_kept, representative_from_representatives}

-- ---- lists

-- a number is in a list or not
contains_or_not : (xs : List ℕ) (r : ℕ) → Contains xs r ⊎ (Contains xs r → ⊥)
contains_or_not [] r = inr (λ has. absurd (omega (arith, has.1)))
contains_or_not (x ∷ xs) r = by (cases_eq x r) (contains_or_not xs r)
  where
    by : (x ≡ r) ⊎ (x ≡ r → ⊥) → Contains xs r ⊎ (Contains xs r → ⊥) → Contains (x ∷ xs) r ⊎ (Contains (x ∷ xs) r → ⊥)
    by (inl same) rest = inl (subst (Contains (x ∷ xs)) same (contains_first x xs))
    by (inr apart) (inl later) = inl (contains_rest x xs r later)
    by (inr apart) (inr none) = inr (λ has. elim (contains_cases x xs r has) [ inl same ↦ apart same | inr later ↦ none later ])

-- a list with two different elements has several
two_members : (xs : List ℕ) (r s : ℕ) → Contains xs r → Contains xs s → (r ≡ s → ⊥) → 1 < length xs
two_members [] r s first second apart = absurd (omega (arith, first.1))
two_members (x ∷ []) r s first second apart =
    let at_r : x ≡ r = only r (contains_cases x [] r first) in
    let at_s : x ≡ s = only s (contains_cases x [] s second) in
    absurd (apart (sym at_r ∙ at_s))
  where
    only : (t : ℕ) → (x ≡ t) ⊎ Contains [] t → x ≡ t
    only t (inl same) = same
    only t (inr later) = absurd (omega (arith, later.1))
two_members (x ∷ y ∷ xs) r s first second apart = omega arith

-- a filter keeps the elements that pass its test
pub Contains-filter : {A : Type 0} (test : A → Bool) (xs : List A) (x : A) → Contains xs x → test x ≡ true → Contains (filter test xs) x
Contains-filter test [] x has passes = has
Contains-filter {A} test (y ∷ ys) x has passes = by (contains_cases y ys x has) (test y) refl (λ later. Contains-filter test ys x later passes)
  where
    by : (y ≡ x) ⊎ Contains ys x → (b : Bool) → test y ≡ b → (Contains ys x → Contains (filter test ys) x) → Contains (cond b (y ∷ filter test ys) (filter test ys)) x
    by (inl same) true is rest = subst (Contains (y ∷ filter test ys)) same (contains_first y (filter test ys))
    by (inl same) false is rest = absurd (true≢false (sym passes ∙ ap test (sym same) ∙ is))
    by (inr later) true is rest = contains_rest y (filter test ys) x (rest later)
    by (inr later) false is rest = rest later

-- ---- the class of a circuit

-- among lists beside numbers, one that lists s, and its number
record Found (P : ℕ → ℕ → Type 0) (rs : List ℕ) (lists : List (List ℕ)) (s : ℕ) : Type 0 where
  number : ℕ
  list : List ℕ
  listed : Contains lists list
  exactly : ListsExactly (P number) list
  has : Contains list s

-- some list has s, or it belongs into none
find : (P : ℕ → ℕ → Type 0) (rs : List ℕ) (lists : List (List ℕ)) (s : ℕ) → AllZip (λ r list. ListsExactly (P r) list) rs lists → Found P rs lists s ⊎ ((r : ℕ) → Contains rs r → P r s → ⊥)
find P [] lists s each = inr (λ r has holds. absurd (omega (arith, has.1)))
find P (r ∷ rs) [] s each = absurd each
find P (r ∷ rs) (list ∷ lists) s each = by (contains_or_not list s) (find P rs lists s each.1)
  where
    by : Contains list s ⊎ (Contains list s → ⊥) → Found P rs lists s ⊎ ((t : ℕ) → Contains rs t → P t s → ⊥) → Found P (r ∷ rs) (list ∷ lists) s ⊎ ((t : ℕ) → Contains (r ∷ rs) t → P t s → ⊥)
    by (inl has) rest = inl (record { number = r; list = list; listed = contains_first list lists; exactly = each.0; has = has })
    by (inr none) (inl found) = inl (record { number = found.number; list = found.list; listed = contains_rest list lists found.list found.listed; exactly = found.exactly; has = found.has })
    by (inr none) (inr others) = inr (λ t has holds. elim (contains_cases r rs t has) [
      | inl same ↦ none ((each.0.exactly s).1 (subst (λ x. P x s) (sym same) holds))
      | inr later ↦ others t later holds
    ])

-- a class has the circuit, and an earlier representative that is equivalent to it
pub record ClassOf (b : Limits) (classes : List (List ℕ)) (c : Circuit) : Type 0 where
  pub representative : Circuit
  pub within : Within b representative
  pub before : is_before representative c ≡ true
  pub equivalent : Equivalent b.q representative c
  pub list : List ℕ
  pub is_class : Contains classes list
  pub has : Contains list (rank b c)
  pub has_representative : Contains list (rank b representative)

module _ (b : Limits) (lawful : IsLawful b) where
  -- circuits within limits of one rank are the same
  same_at_rank : (c d : Circuit) → Within b c → Within b d → rank b c ≡ rank b d → c ≡ d
  same_at_rank c d wc wd same = sym (circuit_at-rank b lawful c wc) ∙ ap (circuit_at b) same ∙ circuit_at-rank b lawful d wd

  -- representatives that are equivalent are the same
  pub same_representative : (c d : Circuit) → IsRepresentative b c → IsRepresentative b d → Equivalent b.q c d → c ≡ d
  same_representative c d hc hd same = by (cases_order (rank b c) (rank b d))
    where
      by : (rank b c ≡ rank b d) ⊎ ((rank b c < rank b d) ⊎ (rank b d < rank b c)) → c ≡ d
      by (inl equal) = same_at_rank c d hc.within hd.within equal
      by (inr (inl less)) = absurd (hd.first c hc.within ((before_by_rank b lawful c d hc.within hd.within).1 less) same)
      by (inr (inr more)) = absurd (hc.first d hd.within ((before_by_rank b lawful d c hd.within hc.within).1 more) (symmetric b.q c d same))

  -- a representative that is equivalent to a circuit that is none is earlier
  pub before_its_class : (c r : Circuit) → Within b c → (IsRepresentative b c → ⊥) → IsRepresentative b r → Equivalent b.q c r → is_before r c ≡ true
  before_its_class c r wc later hr same = by (cases_order (rank b r) (rank b c))
    where
      by : (rank b r ≡ rank b c) ⊎ ((rank b r < rank b c) ⊎ (rank b c < rank b r)) → is_before r c ≡ true
      by (inl equal) = absurd (later (subst (IsRepresentative b) (same_at_rank r c hr.within wc equal) hr))
      by (inr (inl less)) = (before_by_rank b lawful r c hr.within wc).1 less
      by (inr (inr more)) = absurd (hr.first c wc ((before_by_rank b lawful c r wc hr.within).1 more) same)

  module _ (classes : List (List ℕ)) (h : IsClassList b classes) where
    -- it is known which circuits are representatives
    pub known : (c : Circuit) → Within b c → IsRepresentative b c ⊎ (IsRepresentative b c → ⊥)
    known c within = by (contains_or_not h.representatives (rank b c))
      where
        is_one : IsRepresentativeRank b (rank b c) → IsRepresentative b c
        is_one of = subst (IsRepresentative b) (same_at_rank of.circuit c of.representative.within within of.ranked) of.representative

        by : Contains h.representatives (rank b c) ⊎ (Contains h.representatives (rank b c) → ⊥) → IsRepresentative b c ⊎ (IsRepresentative b c → ⊥)
        by (inl has) = inl (is_one ((h.each_representative.exactly (rank b c)).0 has))
        by (inr none) = inr (λ least. none ((h.each_representative.exactly (rank b c)).1 (record { circuit = c; representative = least; ranked = refl })))

    module _ (c : Circuit) (kept : IsKept b c) (later : IsRepresentative b c → ⊥) where
      -- a list beside the representatives with the circuit, and its representative with it, is a class
      of_member : (number : ℕ) (list : List ℕ) → Contains h.lists list → ListsExactly (IsMemberRank b number) list → Contains list (rank b c) → ClassOf b classes c
      of_member number list listed exactly has =
          let member = (exactly.exactly (rank b c)).0 has in
          let r = member.representative.circuit in
          let least = member.representative.representative in
          let this : member.member ≡ c = same_at_rank member.member c member.kept.within kept.within member.ranked in
          let same : Equivalent b.q c r = subst (λ x. Equivalent b.q x r) this member.equivalent in
          let before = before_its_class c r kept.within later least same in
          let itself : IsMemberRank b number (rank b r) = record { representative = member.representative; member = r; kept = representative_kept b r least; ranked = refl; equivalent = reflexive b.q r } in
          let has_representative = (exactly.exactly (rank b r)).1 itself in
          let less = (before_by_rank b lawful r c least.within kept.within).0 before in
          let several : 1 < length list = two_members list (rank b r) (rank b c) has_representative has (λ equal. absurd (omega (arith, equal, less))) in
          let passes = Contains-filter (λ l. nat_lt 1 (length l)) h.lists list listed (lt-ltb 1 (length list) several) in
          record {
            representative = r;
            within = least.within;
            before = before;
            equivalent = symmetric b.q c r same;
            list = list;
            is_class = subst (λ cs. Contains cs list) (sym h.several) passes;
            has = has;
            has_representative = has_representative;
          }

      -- no representative without a list with the circuit is equivalent to it
      in_none : ((r : ℕ) → Contains h.representatives r → IsMemberRank b r (rank b c) → ⊥) → IsRepresentative b c
      in_none none = representative_from_representatives b lawful c kept.within (λ d least before same.
          let ranked : IsRepresentativeRank b (rank b d) = record { circuit = d; representative = least; ranked = refl } in
          none (rank b d) ((h.each_representative.exactly (rank b d)).1 ranked)
          (record { representative = ranked; member = c; kept = kept; ranked = refl; equivalent = symmetric b.q d c same }))

      -- each kept circuit that is no representative has a class
      pub has_class : ClassOf b classes c
      has_class = elim (find (IsMemberRank b) h.representatives h.lists (rank b c) h.each_list) [
        | inl found ↦ of_member found.number found.list found.listed found.exactly found.has
        | inr none ↦ absurd (later (in_none none))
      ]
