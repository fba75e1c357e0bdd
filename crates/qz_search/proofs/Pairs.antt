-- That a circuit stands in a class more than twice makes no difference.
use Rattle.std.proofs.Common.{◌≡◌, ◌≢◌, ℕ, zero, suc, ◌+◌, ◌<◌, ◌≤◌, ◌==◌, ◌⊎◌, inl, inr, Bool, true, false, not, cond, List, [], ◌∷◌, ◌++◌, filter, length, append-nil, append_assoc, refl, sym, ap, subst, ◌∙◌, arith, Less, Equal, Greater}
use Rattle.std.specs.declared.cmp.Ordering.{Ordering}
use Rattle.std.specs.Ordering.{is_eq, eq_by_cmp}
use Rattle.std.specs.List.{sum_by, flat_map, range_with_len}
use Rattle.std.specs.List.Sorted.{IsPermutation}
use Rattle.std.proofs.lemmas.Bool.{eq-eqb, ne_eqb}
use Rattle.std.proofs.lemmas.Cmp.{tied_itself}
use Rattle.std.proofs.lemmas.List.Sorted.{sum_by-IsPermutation}
use Rattle.std.proofs.lemmas.List.Sums.{sum_by-cons}
use Rattle.std.proofs.lemmas.List.{length-append}
use Rattle.qz_circ.specs.Circuit.{Circuit, IsOn, below}
use Rattle.qz_circ.specs.Order.{circuit_cmp}
use Rattle.qz_circ.specs.ProgramCircuits.{ProgramCircuit}
use Rattle.qz_circ.specs.Replacement.{numbered, children_by, children_in}
use Rattle.qz_circ.proofs.RankLemmas.{circuit_cmp-total}
use Rattle.qz_queue.proofs.DifferentOnes.{Has}
use Rattle.qz_circ.proofs.RisingLists.{each-append}
use Rattle.qz_search.specs.Classes.{AreRuleSides, count_of, IsKept}
use Rattle.qz_search.specs.Tables.{AreAlike}
use Rattle.qz_search.proofs.Alike.{said, each_sorted}
use Rattle.qz_search.proofs.Members.{has_filter, filter_has, has_flat_map, flat_map_has}
use Rattle.qz_search.proofs.SameCircuits.{circuit_cmp_exact}

-- ---- equal circuits

same_is : (a c : Circuit) → eq_by_cmp circuit_cmp a c ≡ true → a ≡ c
same_is a c h = by (circuit_cmp a c) refl h
  where
    by : (r : Ordering) → circuit_cmp a c ≡ r → is_eq r ≡ true → a ≡ c
    by Less e g = cc
    by Equal e g = circuit_cmp_exact a c e
    by Greater e g = cc

is_same : (a c : Circuit) → a ≡ c → eq_by_cmp circuit_cmp a c ≡ true
is_same a c e = (λ i. is_eq (circuit_cmp a (sym e i))) ∙ ap is_eq (tied_itself circuit_cmp-total a)

-- ---- how often a circuit stands in a list

one_in_front : (a c : Circuit) (cs : List Circuit) → a ≡ c → count_of a (c ∷ cs) ≡ suc (count_of a cs)
one_in_front a c cs e =
    λ i. length (cond (is_same a c e i) (c ∷ filter (eq_by_cmp circuit_cmp a) cs) (filter (eq_by_cmp circuit_cmp a) cs))

no_fewer : (a c : Circuit) (cs : List Circuit) → count_of a cs ≤ count_of a (c ∷ cs)
no_fewer a c cs = by (eq_by_cmp circuit_cmp a c)
  where
    rest : List Circuit
    rest = filter (eq_by_cmp circuit_cmp a) cs

    by : (b : Bool) → length rest ≤ length (cond b (c ∷ rest) rest)
    by true = omega arith
    by false = omega arith

counted : (a : Circuit) (cs : List Circuit) (i : ℕ) → i < length cs → numbered cs i ≡ a → 1 ≤ count_of a cs
counted a [] i less e = absurd (omega arith)
counted a (c ∷ cs) zero less e = omega (arith, one_in_front a c cs (sym e))
counted a (c ∷ cs) (suc i) less e = omega (arith, counted a cs i (omega arith) e, no_fewer a c cs)

counted_twice : (a : Circuit) (cs : List Circuit) (i j : ℕ) → i < length cs → j < length cs → i ≢ j → numbered cs i ≡ a → numbered cs j ≡ a → 2 ≤ count_of a cs
counted_twice a [] i j first second n e f = absurd (omega arith)
counted_twice a (c ∷ cs) zero zero first second n e f = absurd (n refl)
counted_twice a (c ∷ cs) zero (suc j) first second n e f =
    omega (arith, one_in_front a c cs (sym e), counted a cs j (omega arith) f)
counted_twice a (c ∷ cs) (suc i) zero first second n e f =
    omega (arith, one_in_front a c cs (sym f), counted a cs i (omega arith) e)
counted_twice a (c ∷ cs) (suc i) (suc j) first second n e f =
    omega (arith, counted_twice a cs i j (omega arith) (omega arith) (λ g. n (ap suc g)) e f, no_fewer a c cs)

-- it stands at some number, or at two
record Once (a : Circuit) (cs : List Circuit) : Type 0 where
  i : ℕ
  within : i < length cs
  is : numbered cs i ≡ a

record Twice (a b : Circuit) (cs : List Circuit) : Type 0 where
  i : ℕ
  j : ℕ
  first : i < length cs
  second : j < length cs
  other : i ≢ j
  is : numbered cs i ≡ a
  also : numbered cs j ≡ b

found_once : (a : Circuit) (cs : List Circuit) → 1 ≤ count_of a cs → Once a cs
found_once a [] h = absurd (omega arith)
found_once a (c ∷ cs) h = by (eq_by_cmp circuit_cmp a c) refl h (found_once a cs)
  where
    rest : List Circuit
    rest = filter (eq_by_cmp circuit_cmp a) cs

    by : (b : Bool) → eq_by_cmp circuit_cmp a c ≡ b → 1 ≤ length (cond b (c ∷ rest) rest) → (1 ≤ length rest → Once a cs) → Once a (c ∷ cs)
    by true e h ih = record { i = 0; within = omega arith; is = sym (same_is a c e) }
    by false e h ih = let at = ih h in record { i = suc at.i; within = omega (arith, at.within); is = at.is }

found_twice : (a : Circuit) (cs : List Circuit) → 2 ≤ count_of a cs → Twice a a cs
found_twice a [] h = absurd (omega arith)
found_twice a (c ∷ cs) h = by (eq_by_cmp circuit_cmp a c) refl h (found_twice a cs)
  where
    rest : List Circuit
    rest = filter (eq_by_cmp circuit_cmp a) cs

    by : (b : Bool) → eq_by_cmp circuit_cmp a c ≡ b → 2 ≤ length (cond b (c ∷ rest) rest) → (2 ≤ length rest → Twice a a cs) → Twice a a (c ∷ cs)
    by true e h ih =
        let at = found_once a cs (omega (arith, h)) in
        record { i = 0; j = suc at.i; first = omega arith; second = omega (arith, at.within); other = λ g. absurd (omega (arith, g)); is = sym (same_is a c e); also = at.is }
    by false e h ih =
        let at = ih h in
        record { i = suc at.i; j = suc at.j; first = omega (arith, at.first); second = omega (arith, at.second); other = λ g. at.other (omega (arith, g)); is = at.is; also = at.also }

-- ---- lists in which circuits stand equally often, as far as up to twice

abbrev pub UpToTwo : List Circuit → List Circuit → Type 0
UpToTwo xs ys = (a : Circuit) (k : ℕ) → k ≤ 2 → k ≤ count_of a xs → k ≤ count_of a ys

two_others : (a b : Circuit) (xs ys : List Circuit) → UpToTwo xs ys → Twice a b xs → Twice a b ys
two_others a b xs ys h at = by (eq_by_cmp circuit_cmp a b) refl
  where
    by : (t : Bool) → eq_by_cmp circuit_cmp a b ≡ t → Twice a b ys
    by true e =
        let same = same_is a b e in
        let two = found_twice a ys (h a 2 (omega arith) (counted_twice a xs at.i at.j at.first at.second at.other at.is (at.also ∙ sym same))) in
        record { i = two.i; j = two.j; first = two.first; second = two.second; other = two.other; is = two.is; also = two.also ∙ same }
    by false e =
        let one = found_once a ys (h a 1 (omega arith) (counted a xs at.i at.first at.is)) in
        let two = found_once b ys (h b 1 (omega arith) (counted b xs at.j at.second at.also)) in
        record { i = one.i; j = two.i; first = one.within; second = two.within; other = λ g. differ (sym one.is ∙ ap (numbered ys) g ∙ two.is) e; is = one.is; also = two.is }
      where
        differ : a ≡ b → eq_by_cmp circuit_cmp a b ≡ false → ⊥
        differ f e = let yes = is_same a b f in cc

-- ---- children

below_has : (a n k : ℕ) → Has (range_with_len a n) k → k < a + n
below_has a zero k h = absurd h
below_has a (suc n) k (inl e) = omega (arith, e)
below_has a (suc n) k (inr h) = omega (arith, below_has (a + 1) n k h)

has_below : (a n i : ℕ) → i < n → Has (range_with_len a n) (a + i)
has_below a zero i less = absurd (omega arith)
has_below a (suc n) zero less = inl (omega arith)
has_below a (suc n) (suc i) less =
    let same : (a + 1) + i ≡ a + suc i = omega arith in inr (subst (Has (range_with_len (a + 1) n)) same (has_below (a + 1) n i (omega arith)))

below_one : (n i : ℕ) → i < n → Has (below n) i
below_one n i less = let same : 0 + i ≡ i = omega arith in subst (Has (below n)) same (has_below 0 n i less)

-- by a member, and by two
abbrev by_two : List Circuit → ProgramCircuit → ℕ → ℕ → List ProgramCircuit
by_two cs c i j = children_by (numbered cs i) (numbered cs j) c

abbrev by_one : List Circuit → ProgramCircuit → ℕ → List ProgramCircuit
by_one cs c i = flat_map (by_two cs c i) (filter (λ j. not (j == i)) (below (length cs)))

pair_has : (ys : List Circuit) (a b : Circuit) (c x : ProgramCircuit) → Twice a b ys → Has (children_by a b c) x → Has (children_in ys c) x
unfolding children_in
pair_has ys a b c x pair m =
    has_flat_map (by_one ys c) (below (length ys)) pair.i x (below_one (length ys) pair.i pair.first)
    (has_flat_map (by_two ys c pair.i) (filter (λ j. not (j == pair.i)) (below (length ys))) pair.j x
    (has_filter (λ j. not (j == pair.i)) pair.j (below (length ys)) (below_one (length ys) pair.j pair.second) (ap not (ne_eqb pair.j pair.i (λ g. pair.other (sym g)))))
    (subst (λ d. Has (children_by d (numbered ys pair.j) c) x) (sym pair.is) (subst (λ d. Has (children_by a d c) x) (sym pair.also) m)))

differ : (i j : ℕ) → not (j == i) ≡ true → i ≢ j
differ i j h g = let yes = eq-eqb j i (sym g) in cc

pairs_kept : (xs ys : List Circuit) (c x : ProgramCircuit) → UpToTwo xs ys → Has (children_in xs c) x → Has (children_in ys c) x
unfolding children_in
pairs_kept xs ys c x h m =
    let left = flat_map_has (by_one xs c) (below (length xs)) x m in
    let right = flat_map_has (by_two xs c left.0) (filter (λ j. not (j == left.0)) (below (length xs))) x left.2 in
    let kept = filter_has (λ j. not (j == left.0)) right.0 (below (length xs)) right.1 in
    let first : left.0 < length xs = omega (arith, below_has 0 (length xs) left.0 left.1) in
    let second : right.0 < length xs = omega (arith, below_has 0 (length xs) right.0 kept.0) in
    let pair = two_others (numbered xs left.0) (numbered xs right.0) xs ys h (record { i = left.0; j = right.0; first = first; second = second; other = differ left.0 right.0 kept.1; is = refl; also = refl }) in
    pair_has ys (numbered xs left.0) (numbered xs right.0) c x pair right.2

pub thinned_alike : (xs ys : List Circuit) → UpToTwo xs ys → UpToTwo ys xs → AreAlike (children_in xs) (children_in ys)
thinned_alike xs ys there back =
    said (children_in xs) (children_in ys) (record { there = λ c lawful x m. pairs_kept xs ys c x there m; back = λ c lawful x m. pairs_kept ys xs c x back m })

-- ---- one circuit after the other

filter_joined : {A : Type 0} (p : A → Bool) (xs ys : List A) → filter p (xs ++ ys) ≡ filter p xs ++ filter p ys
filter_joined p [] ys = refl
filter_joined {A} p (x ∷ xs) ys = by (p x) (filter_joined p xs ys)
  where
    by : (b : Bool) → filter p (xs ++ ys) ≡ filter p xs ++ filter p ys → cond b (x ∷ filter p (xs ++ ys)) (filter p (xs ++ ys)) ≡ cond b (x ∷ filter p xs) (filter p xs) ++ filter p ys
    by true ih = ap (λ zs. x ∷ zs) ih
    by false ih = ih

one_behind : (a c : Circuit) (cs : List Circuit) → count_of a (cs ++ c ∷ []) ≡ count_of a cs + count_of a (c ∷ [])
one_behind a c cs =
    ap length (filter_joined (eq_by_cmp circuit_cmp a) cs (c ∷ [])) ∙ length-append (filter (eq_by_cmp circuit_cmp a) cs) (filter (eq_by_cmp circuit_cmp a) (c ∷ []))

at_most_one : (a c : Circuit) → (a ≡ c) ⊎ (count_of a (c ∷ []) ≡ 0)
at_most_one a c = by (eq_by_cmp circuit_cmp a c) refl
  where
    by : (b : Bool) → eq_by_cmp circuit_cmp a c ≡ b → (a ≡ c) ⊎ (length (cond b (c ∷ []) []) ≡ 0)
    by true e = inl (same_is a c e)
    by false e = inr refl

both_longer : (xs ys : List Circuit) (c : Circuit) → UpToTwo xs ys → UpToTwo (xs ++ c ∷ []) (ys ++ c ∷ [])
both_longer xs ys c h a zero few m = omega arith
both_longer xs ys c h a (suc k) few m = by (at_most_one a c)
  where
    by : (a ≡ c) ⊎ (count_of a (c ∷ []) ≡ 0) → suc k ≤ count_of a (ys ++ c ∷ [])
    by (inl e) =
        let one = one_in_front a c [] e in
        omega (arith, one, one_behind a c ys, h a k (omega arith) (omega (arith, one, one_behind a c xs, m)))
    by (inr none) = omega (arith, none, one_behind a c ys, h a (suc k) few (omega (arith, none, one_behind a c xs, m)))

-- one that stands twice already
one_longer : (xs ys : List Circuit) (c : Circuit) → UpToTwo xs ys → UpToTwo xs (ys ++ c ∷ [])
one_longer xs ys c h a k few m = omega (arith, h a k few m, one_behind a c ys)

one_left_out : (xs ys : List Circuit) (c : Circuit) → 2 ≤ count_of c ys → UpToTwo xs ys → UpToTwo (xs ++ c ∷ []) ys
one_left_out xs ys c two h a k few m = by (at_most_one a c)
  where
    by : (a ≡ c) ⊎ (count_of a (c ∷ []) ≡ 0) → k ≤ count_of a ys
    by (inl e) = omega (arith, few, two, ap (λ b. count_of b ys) e)
    by (inr none) = h a k few (omega (arith, none, one_behind a c xs, m))

pub kept_more : (xs old new : List Circuit) (c : Circuit) → IsKept old new c → UpToTwo xs old × UpToTwo old xs → UpToTwo (xs ++ c ∷ []) new × UpToTwo new (xs ++ c ∷ [])
kept_more xs old new c (inl h) both =
    subst (λ ys. UpToTwo (xs ++ c ∷ []) ys × UpToTwo ys (xs ++ c ∷ [])) (sym h.0) (one_left_out xs old c h.1 both.0, one_longer old xs c both.1)
kept_more xs old new c (inr e) both =
    subst (λ ys. UpToTwo (xs ++ c ∷ []) ys × UpToTwo ys (xs ++ c ∷ [])) (sym e) (both_longer xs old c both.0, both_longer old xs c both.1)

-- the last two are the circuit
pub last_two : (a : Circuit) (cs : List Circuit) (i j : ℕ) → i < length cs → j < i → numbered cs i ≡ a → numbered cs j ≡ a → 2 ≤ count_of a cs
last_two a cs i j first less e f = counted_twice a cs i j first (omega (arith, first, less)) (λ g. absurd (omega (arith, g, less))) e f

-- ---- another order

as_sum : (p : Circuit → Bool) (cs : List Circuit) → length (filter p cs) ≡ sum_by (λ c. cond (p c) 1 0) cs
as_sum p [] = refl
as_sum p (c ∷ cs) = by (p c) (as_sum p cs) ∙ sym (sum_by-cons (λ c. cond (p c) 1 0) c cs)
  where
    by : (b : Bool) → length (filter p cs) ≡ sum_by (λ c. cond (p c) 1 0) cs → length (cond b (c ∷ filter p cs) (filter p cs)) ≡ cond b 1 0 + sum_by (λ c. cond (p c) 1 0) cs
    by true ih = omega (arith, ih)
    by false ih = omega (arith, ih)

same_count : (a : Circuit) (xs ys : List Circuit) → IsPermutation xs ys → count_of a ys ≡ count_of a xs
same_count a xs ys h =
    as_sum (eq_by_cmp circuit_cmp a) ys ∙ sum_by-IsPermutation (λ c. cond (eq_by_cmp circuit_cmp a c) 1 0) xs ys h ∙ sym (as_sum (eq_by_cmp circuit_cmp a) xs)

pub sorted_counts : (xs ys : List Circuit) → IsPermutation xs ys → UpToTwo xs ys × UpToTwo ys xs
sorted_counts xs ys h = (λ a k few m. omega (arith, m, same_count a xs ys h), λ a k few m. omega (arith, m, same_count a xs ys h))

pub then_up : (xs ys zs : List Circuit) → UpToTwo xs ys → UpToTwo ys zs → UpToTwo xs zs
then_up xs ys zs h g a k few m = g a k few (h a k few m)

-- ---- a class that is thinned, circuit by circuit

-- of the circuits of a class some are left, and the others stand among these as often as they did, as far as up to twice
pub record IsThinning (all kept left : List Circuit) : Type 0 where
  pub done : List Circuit
  pub moved : IsPermutation all (done ++ left)
  pub counts : UpToTwo done kept × UpToTwo kept done
  pub fit : AreRuleSides kept
  pub rest : AreRuleSides left

pub thinning_start : (all sorted : List Circuit) → IsPermutation all sorted → AreRuleSides all → IsThinning all [] sorted
thinning_start all sorted moved fit =
    record { done = []; moved = moved; counts = (λ a k few m. m, λ a k few m. m); fit = tt; rest = each_sorted (λ a. IsOn 3 3 a × (length a ≤ 6)) all sorted moved fit }

pub thinning_step : (all kept new left more : List Circuit) (c : Circuit) → left ≡ c ∷ more → IsKept kept new c → IsThinning all kept left → IsThinning all new more
thinning_step all kept new left more c e added h =
    record {
      done = h.done ++ c ∷ [];
      moved = subst (IsPermutation all) (ap (λ cs. h.done ++ cs) e ∙ sym (append_assoc h.done (c ∷ []) more)) h.moved;
      counts = kept_more h.done kept new c added h.counts;
      fit = by added;
      rest = rest.1;
    }
  where
    rest : AreRuleSides (c ∷ more)
    rest = subst AreRuleSides e h.rest

    by : ((new ≡ kept) × (2 ≤ count_of c kept)) ⊎ (new ≡ kept ++ c ∷ []) → AreRuleSides new
    by (inl g) = subst AreRuleSides (sym g.0) h.fit
    by (inr g) =
        subst AreRuleSides (sym g) (each-append (λ a. IsOn 3 3 a × (length a ≤ 6)) kept (c ∷ []) h.fit (rest.0, tt))

pub thinning_end : (all kept left : List Circuit) → left ≡ [] → IsThinning all kept left → AreAlike (children_in kept) (children_in all)
thinning_end all kept left none h =
    let moved : IsPermutation all h.done = subst (IsPermutation all) (ap (λ cs. h.done ++ cs) none ∙ append-nil h.done) h.moved in
    let counts = sorted_counts all h.done moved in
    thinned_alike kept all (then_up kept h.done all h.counts.1 counts.1) (then_up all h.done kept counts.0 h.counts.0)
