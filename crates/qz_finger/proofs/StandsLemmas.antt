-- Values that stand for a circuit: of no gate, of one gate more, and the fingerprint that is made of them.
use Rattle.std.proofs.Common.{◌≡◌, ℕ, suc, ◌+◌, ◌*◌, ◌%◌, ◌^◌, ◌<◌, ◌≤◌, ◌==◌, ◌⊎◌, inl, inr, Bool, true, false, List, [], ◌∷◌, ◌++◌, length, cond, refl, sym, ap, ◌∙◌, subst, zero-add, lt-ltb, arith}
use Rattle.std.specs.Prelude.{pos, slice_index, if◌then◌else◌, nat_lt}
use Rattle.std.proofs.Math.Nat.{pow-suc, pow-zero}
use Rattle.std.proofs.lemmas.Bool.{cases_lt}
use Rattle.std.proofs.lemmas.Nat.{mul-mod, mul-mod_first}
use Rattle.std.proofs.lemmas.List.{get_or_past}
use Rattle.std.proofs.lemmas.List.Sums.{sum_by_push}
use Rattle.std.proofs.lemmas.List.FromFn.{get_or-map-range_with_len, length-map-range_with_len}
use Rattle.qz_circ.specs.declared.circuit.Op.{Op}
use Rattle.qz_circ.specs.Circuit.{Circuit, ActsBelow}
use Rattle.qz_circ.specs.Exponent.{Exponent, zero_exponent, angle_exponent}
use Rattle.qz_circ.specs.Paths.{way_if, ways_along, identity_ways, paths, is_h, halves}
use Rattle.qz_finger.specs.declared.actions.Step.{Step}
use Rattle.qz_finger.specs.Modulo.{modulus, minus_one, half, sum_below}
use Rattle.qz_finger.specs.Weights.{place_of, entries_on, weight, inverse_weight}
use Rattle.qz_random.specs.RandomWords.{word}
use Rattle.qz_finger.specs.Fingerprint.{ProbeParts, Bases, bases_of, inverted, value, value_of, weighed, weighed_values, weighed_inverses, fingerprint}
use Rattle.qz_finger.specs.Actions.{step_for, value_after, AreBelow, IsAfter}
use Rattle.qz_finger.specs.Stands.{ValueLists, AreWeighed, StandsFor, AreValueLists}
use Rattle.qz_finger.specs.Tables.{weights_after}
use Rattle.qz_finger.proofs.Modular.{Same}
use Rattle.qz_finger.proofs.Powers.{rest_twice}
use Rattle.qz_finger.proofs.WeighedSums.{sum_congruent}
use Rattle.qz_finger.proofs.Law.{turn_root, inverse_turn_root, root_two, value_is, inverse_is}
use Rattle.qz_finger.proofs.Lists.{sum_same}
use Rattle.qz_finger.proofs.PlaceLemmas.{place_below}
use Rattle.qz_finger.proofs.SumLemmas.{one_weight}
use Rattle.qz_finger.proofs.StepValues.{weighed_more}
use Rattle.qz_finger.proofs.Worths.{alone}

-- ---- of no gate

-- what the ways of no gate are worth
worth_of_none : (q : ℕ) (b : Bases) (l j : ℕ) → value_of minus_one (value b) (paths q [] l j) ≡ (if l == j then 1 else 0)
unfolding paths ways_along identity_ways value_of
worth_of_none q b l j = by (l == j)
  where
    by : (same : Bool) → value_of minus_one (value b) (way_if same (pos 1) zero_exponent) ≡ (if same then 1 else 0)
    by true = let one = alone (b.root ^ 0) b.g0 b.g1 b.g2 ∙ pow-zero b.root in ap (λ x. 1 * x + 0) one
    by false = refl

-- the weights are the weighed values of no gate
weights_of_none : (q : ℕ) (b : Bases) (w : ℕ → ℕ → ℕ) (xs : List ℕ) → ((i l : ℕ) → i < 2 ^ q → l < 2 ^ q → slice_index xs (place_of q i l) ≡ w i l % modulus) → AreWeighed q (value b) w [] (slice_index xs)
weights_of_none q b w xs are i l row other =
    are i l row other ∙
    ap (λ x. x % modulus) (sym (sum_same (λ j. w i j * value_of minus_one (value b) (paths q [] l j)) (λ j. w i j * (if l == j then 1 else 0)) (2 ^ q) (λ j less. ap (λ x. w i j * x) (worth_of_none q b l j)) ∙ one_weight (w i) l (2 ^ q) other))

-- the weight in a place
weight_at : (seed skip size k : ℕ) → k < size → size ≤ 64 → slice_index (weights_after seed skip size) k ≡ word seed (skip + k) % modulus
unfolding weights_after
weight_at seed skip size k less few =
    get_or-map-range_with_len (λ l. if nat_lt l size then word seed (skip + l) % modulus else 0) 0 64 k k 0 (omega arith) (zero-add k) ∙
    ap (λ (b : Bool). if b then word seed (skip + k) % modulus else 0) (lt-ltb k size less)

-- there are 64
pub weights_length : (seed skip size : ℕ) → length (weights_after seed skip size) ≡ 64
unfolding weights_after
weights_length seed skip size = length-map-range_with_len (λ l. if nat_lt l size then word seed (skip + l) % modulus else 0) 0 64

-- all weights are below p
pub weights_below : (seed skip size : ℕ) → AreBelow (weights_after seed skip size)
unfolding weights_after
weights_below seed skip size k = by (cases_lt k 64)
  where
    f : ℕ → ℕ
    f l = if nat_lt l size then word seed (skip + l) % modulus else 0

    below : (b : Bool) (l : ℕ) → (if b then word seed (skip + l) % modulus else 0) < modulus
    below true l = omega arith
    below false l = omega arith

    by : (k < 64) ⊎ (64 ≤ k) → slice_index (weights_after seed skip size) k < modulus
    by (inl less) = subst (λ x. x < modulus) (sym (get_or-map-range_with_len f 0 64 k k 0 less (zero-add k))) (below (nat_lt k size) k)
    by (inr past) = subst (λ x. x < modulus) (sym (get_or_past (weights_after seed skip size) k 0 (omega (arith, weights_length seed skip size)))) (omega arith)

-- so they may be the weighed values of a circuit
pub weights_lists : (seed q : ℕ) (xs ys : List ℕ) → xs ≡ weights_after seed 0 (entries_on q) → ys ≡ weights_after seed (entries_on q) (entries_on q) → AreValueLists (record { values = xs; inverses = ys; scale = 1 })
weights_lists seed q xs ys first second = record {
  value_size = ap length first ∙ weights_length seed 0 (entries_on q);
  inverse_size = ap length second ∙ weights_length seed (entries_on q) (entries_on q);
  values = subst AreBelow (sym first) (weights_below seed 0 (entries_on q));
  inverses = subst AreBelow (sym second) (weights_below seed (entries_on q) (entries_on q));
  scale = omega arith;
}

-- the weights of a probe stand for no gate
pub stands_none : (p : ProbeParts) (xs ys : List ℕ) → entries_on p.q ≤ 64 → xs ≡ weights_after p.seed 0 (entries_on p.q) → ys ≡ weights_after p.seed (entries_on p.q) (entries_on p.q) → StandsFor p [] (record { values = xs; inverses = ys; scale = 1 })
stands_none p xs ys few first second =
    let seed = p.seed in
    let size = entries_on p.q in
    record {
      values = weights_of_none p.q (bases_of seed p.q) (weight seed p.q) xs (λ i l row other.
          ap (λ (zs : List ℕ). slice_index zs (place_of p.q i l)) first ∙ weight_at seed 0 size (place_of p.q i l) (place_below p.q i l row other) few ∙
          ap (λ k. word seed k % modulus) (zero-add (place_of p.q i l)) ∙ sym (rest_twice modulus (word seed (place_of p.q i l))));
      inverses = weights_of_none p.q (inverted (bases_of seed p.q)) (inverse_weight seed p.q) ys (λ i l row other.
          ap (λ (zs : List ℕ). slice_index zs (place_of p.q i l)) second ∙ weight_at seed size size (place_of p.q i l) (place_below p.q i l row other) few ∙
          sym (rest_twice modulus (word seed (size + place_of p.q i l))));
      scale = refl;
    }

-- ---- of one gate more

-- how many gates are H
halves_more : (c : Circuit) (g : Op) → halves (c ++ g ∷ []) ≡ halves c + (if is_h g then 1 else 0)
halves_more c g = sum_by_push (λ (g : Op). cond (is_h g) 1 0) c g

-- the scale
scale_more : (c : Circuit) (g : Op) (old new : ℕ) → old ≡ half ^ halves c % modulus → new ≡ (if is_h g then old * half else old) % modulus → new ≡ half ^ halves (c ++ g ∷ []) % modulus
scale_more c g old new here next = by (is_h g) next (halves_more c g)
  where
    by : (b : Bool) → new ≡ (if b then old * half else old) % modulus → halves (c ++ g ∷ []) ≡ halves c + (if b then 1 else 0) → new ≡ half ^ halves (c ++ g ∷ []) % modulus
    by true next more =
        let count : suc (halves c) ≡ halves (c ++ g ∷ []) = omega arith in
        next ∙ ap (λ x. x * half % modulus) here ∙ mul-mod_first (half ^ halves c) half modulus ∙ ap (λ x. x % modulus) (sym (pow-suc half (halves c))) ∙ ap (λ l. half ^ l % modulus) count
    by false next more =
        let count : halves c ≡ halves (c ++ g ∷ []) = omega arith in
        next ∙ ap (λ x. x % modulus) here ∙ rest_twice modulus (half ^ halves c) ∙ ap (λ l. half ^ l % modulus) count

-- the same step and size, written otherwise
pub after_as : (s s' : Step) (n n' : ℕ) (old new : List ℕ) → s ≡ s' → n ≡ n' → IsAfter s n old new → IsAfter s' n' old new
after_as s s' n n' old new same size is = subst (λ (x : Step). IsAfter x n' old new) same (subst (λ m. IsAfter s m old new) size is)

-- weighed values of a list, and of a function that gives the same in each place
weighed_as : (q : ℕ) (v : Exponent → ℕ) (w : ℕ → ℕ → ℕ) (c : Circuit) (f g : ℕ → ℕ) → ((k : ℕ) → k < entries_on q → g k ≡ f k) → AreWeighed q v w c f → AreWeighed q v w c g
weighed_as q v w c f g same are i l row other = same (place_of q i l) (place_below q i l row other) ∙ are i l row other

-- the step of a gate by the values of a probe
abbrev pub value_step : ProbeParts → Op → Step
value_step p g = step_for (λ e. value (bases_of p.seed p.q) (angle_exponent e) % modulus) g

-- and by its inverse values
abbrev pub inverse_step : ProbeParts → Op → Step
inverse_step p g = step_for (λ e. value (inverted (bases_of p.seed p.q)) (angle_exponent e) % modulus) g

-- what the step of a gate makes of weighed values is weighed values of the circuit with the gate
values_after : (p : ProbeParts) (c : Circuit) (g : Op) (old : ValueLists) → ActsBelow p.q g → StandsFor p c old → AreWeighed p.q (value (bases_of p.seed p.q)) (weight p.seed p.q) (c ++ g ∷ []) (value_after (value_step p g) (slice_index old.values))
unfolding bases_of
values_after p c g old acts stands = weighed_more root_two turn_root (bases_of p.seed p.q) (value_is p.seed p.q) refl p.q (weight p.seed p.q) c g (slice_index old.values) acts stands.values

-- and so of inverse values
inverses_after : (p : ProbeParts) (c : Circuit) (g : Op) (old : ValueLists) → ActsBelow p.q g → StandsFor p c old → AreWeighed p.q (value (inverted (bases_of p.seed p.q))) (inverse_weight p.seed p.q) (c ++ g ∷ []) (value_after (inverse_step p g) (slice_index old.inverses))
unfolding bases_of
inverses_after p c g old acts stands = weighed_more root_two inverse_turn_root (inverted (bases_of p.seed p.q)) (inverse_is p.seed p.q) refl p.q (inverse_weight p.seed p.q) c g (slice_index old.inverses) acts stands.inverses

-- the values after a gate's step stand for the circuit with the gate
pub stands_more : (p : ProbeParts) (c : Circuit) (g : Op) (old new : ValueLists) → ActsBelow p.q g → StandsFor p c old →
    IsAfter (value_step p g) (entries_on p.q) old.values new.values → IsAfter (inverse_step p g) (entries_on p.q) old.inverses new.inverses →
    new.scale ≡ (if is_h g then old.scale * half else old.scale) % modulus → StandsFor p (c ++ g ∷ []) new
stands_more p c g old new acts stands first second scale = record {
  values = weighed_as p.q (value (bases_of p.seed p.q)) (weight p.seed p.q) (c ++ g ∷ []) (value_after (value_step p g) (slice_index old.values)) (slice_index new.values) first (values_after p c g old acts stands);
  inverses = weighed_as p.q (value (inverted (bases_of p.seed p.q))) (inverse_weight p.seed p.q) (c ++ g ∷ []) (value_after (inverse_step p g) (slice_index old.inverses)) (slice_index new.inverses) second (inverses_after p c g old acts stands);
  scale = scale_more c g old.scale new.scale stands.scale scale;
}

-- ---- the fingerprint

-- the weighed values in the places of each row and itself, added up, are the weighed sum of a circuit
trace_is : (q : ℕ) (v : Exponent → ℕ) (w : ℕ → ℕ → ℕ) (c : Circuit) (f : ℕ → ℕ) → AreWeighed q v w c f → Same modulus (sum_below (λ i. f (place_of q i i)) (2 ^ q)) (weighed minus_one v w (2 ^ q) (paths q c))
unfolding weighed
trace_is q v w c f are =
    sum_congruent modulus (λ i. f (place_of q i i)) (λ i. sum_below (λ j. w i j * value_of minus_one v (paths q c i j)) (2 ^ q)) (2 ^ q)
    (λ i row. ap (λ x. x % modulus) (are i i row row) ∙ rest_twice modulus (sum_below (λ j. w i j * value_of minus_one v (paths q c i j)) (2 ^ q)))

-- the product of both sums and of the scale
product_is : (p : ProbeParts) (c : Circuit) (f g : ℕ → ℕ) (first second product scale print : ℕ) →
    AreWeighed p.q (value (bases_of p.seed p.q)) (weight p.seed p.q) c f → AreWeighed p.q (value (inverted (bases_of p.seed p.q))) (inverse_weight p.seed p.q) c g → scale ≡ half ^ halves c % modulus →
    first ≡ sum_below (λ i. f (place_of p.q i i)) (2 ^ p.q) % modulus → second ≡ sum_below (λ i. g (place_of p.q i i)) (2 ^ p.q) % modulus →
    product ≡ first * second % modulus → print ≡ product * scale % modulus → print ≡ fingerprint p.seed p.q c
unfolding fingerprint weighed_values weighed_inverses
product_is p c f g first second product scale print values inverses scaled one two three four =
    let seed = p.seed in
    let q = p.q in
    let x = weighed minus_one (value (bases_of seed q)) (weight seed q) (2 ^ q) (paths q c) in
    let y = weighed minus_one (value (inverted (bases_of seed q))) (inverse_weight seed q) (2 ^ q) (paths q c) in
    let front : first ≡ x % modulus = one ∙ trace_is q (value (bases_of seed q)) (weight seed q) c f values in
    let back : second ≡ y % modulus = two ∙ trace_is q (value (inverted (bases_of seed q))) (inverse_weight seed q) c g inverses in
    four ∙
    (λ d. three d * scaled d % modulus) ∙
    (λ d. front d * back d % modulus * (half ^ halves c % modulus) % modulus) ∙
    (λ d. sym (mul-mod x y modulus) d * (half ^ halves c % modulus) % modulus) ∙
    sym (mul-mod (x * y) (half ^ halves c) modulus)

-- that of values is the fingerprint of their circuit
pub print_of : (p : ProbeParts) (c : Circuit) (s : ValueLists) (first second product print : ℕ) → StandsFor p c s →
    first ≡ sum_below (λ i. slice_index s.values (place_of p.q i i)) (2 ^ p.q) % modulus → second ≡ sum_below (λ i. slice_index s.inverses (place_of p.q i i)) (2 ^ p.q) % modulus →
    product ≡ first * second % modulus → print ≡ product * s.scale % modulus → print ≡ fingerprint p.seed p.q c
print_of p c s first second product print stands one two three four =
    product_is p c (slice_index s.values) (slice_index s.inverses) first second product s.scale print stands.values stands.inverses stands.scale one two three four

-- and that of what a gate's step makes of them is the fingerprint of the circuit with the gate
pub print_with : (p : ProbeParts) (c : Circuit) (g : Op) (s : ValueLists) (first second product scale print : ℕ) → ActsBelow p.q g → StandsFor p c s →
    first ≡ sum_below (λ i. value_after (value_step p g) (slice_index s.values) (place_of p.q i i)) (2 ^ p.q) % modulus →
    second ≡ sum_below (λ i. value_after (inverse_step p g) (slice_index s.inverses) (place_of p.q i i)) (2 ^ p.q) % modulus →
    product ≡ first * second % modulus → scale ≡ (if is_h g then s.scale * half else s.scale) % modulus → print ≡ product * scale % modulus → print ≡ fingerprint p.seed p.q (c ++ g ∷ [])
print_with p c g s first second product scale print acts stands one two three four five =
    product_is p (c ++ g ∷ []) (value_after (value_step p g) (slice_index s.values)) (value_after (inverse_step p g) (slice_index s.inverses)) first second product scale print
    (values_after p c g s acts stands) (inverses_after p c g s acts stands) (scale_more c g s.scale scale stands.scale four) one two three five
