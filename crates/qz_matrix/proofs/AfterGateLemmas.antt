-- One gate more: what each kind of gate makes of the entries is what the ways through it count.
use Rattle.std.proofs.Common.{◌≡◌, ℕ, ◌+◌, ◌*◌, ◌^◌, ◌<◌, ◌≤◌, max, Bool, true, false, Some, None, List, [], ◌∷◌, ◌++◌, length, get_or, set, refl, sym, ap, subst, ◌∙◌, arith}
use Rattle.std.specs.Prelude.{ℤ, ◌+ℤ◌, ◌-ℤ◌, if◌then◌else◌}
use Rattle.std.proofs.lemmas.Int.{ints}
use Rattle.std.proofs.lemmas.List.{get_or_default, get_or-set_same, get_or-set_other}
use Rattle.std.proofs.Math.ListN.{length-set}
use borrow.Author.Count.{below_more}
use Rattle.qz_circ.specs.declared.circuit.Expr.{Expr}
use Rattle.qz_circ.specs.declared.circuit.Op.{Op}
use Rattle.qz_circ.specs.declared.circuit.Op.TheVariants.{H, X, Cx, Rz}
use Rattle.qz_circ.specs.Circuit.{Circuit, ActsBelow}
use Rattle.qz_circ.specs.Exponent.{Exponent, angle_exponent, minus as minus_exponent}
use Rattle.qz_circ.specs.Paths.{has_bit, flipped_state, count as path_count, paths}
use Rattle.qz_circ.proofs.SignedWays.{signed}
use Rattle.qz_circ.proofs.Flips.{flip_below}
use Rattle.qz_circ.proofs.GateSteps.{step}
use Rattle.qz_circ.proofs.RuleGates.{as_gate}
use Rattle.qz_circ.proofs.PathCounts.{count_one_more}
use Rattle.qz_ring.specs.Exponent.{Exponent as Monomial, IsExponent as IsMonomial, minus, reach_of}
use Rattle.qz_ring.specs.Terms.{Terms, count, weight_of, largest_reach, reach_times}
use Rattle.qz_ring.specs.Counts.{IsSum, IsDifference}
use Rattle.qz_ring.proofs.Sums.{reach_times_le}
use Rattle.qz_matrix.specs.Entries.{sum_at, place_of, exponent_of, HasCounts, ReachesAtMost}
use Rattle.qz_matrix.specs.AfterGate.{monomial_of, count_after, counts_of, IsNext, IsAfterGate, IsClosed, IsExchanged, IsShiftedWhere}
use Rattle.qz_matrix.proofs.PlaceLemmas.{place_below, place_bit, flipped_place}

-- a gate that only moves sums
moved : (op : Op) (from : ℕ → ℕ) (old new : List Terms) → ((v : ℕ → Monomial → ℤ) (k : ℕ) (e : Monomial) → v (from k) e ≡ count_after op v k e) → ((k : ℕ) → k < length old → from k < length old) → length new ≡ length old → ((k : ℕ) → k < length old → sum_at new k ≡ sum_at old (from k)) → IsAfterGate op old new
moved op from old new reads within size each = record {
  size = size;
  each = λ k less.
      let same = each k less in
      record {
        counts = λ e he. ap (λ (ts : Terms). count ts e) same ∙ reads (counts_of old) k e;
        weight = λ most small. omega (arith, ap weight_of same, small (from k) (within k less));
        reach = λ most small. omega (arith, ap largest_reach same, small (from k) (within k less));
      };
}

-- X exchanges without a control
pub after_x : (t : ℕ) (old new : List Terms) → IsClosed t (length old) → IsExchanged None t old new → IsAfterGate (X t) old new
after_x t old new closed is = moved (X t) (flipped_state t) old new (λ v k e. refl) closed is.size is.each

-- CX exchanges where the control is 1
pub after_cx : (c t : ℕ) (old new : List Terms) → IsClosed t (length old) → IsExchanged (Some c) t old new → IsAfterGate (Cx c t) old new
after_cx c t old new closed is = moved (Cx c t) (λ k. if has_bit c k then flipped_state t k else k) old new (λ v k e. refl) (λ k less. within (has_bit c k) k less) is.size is.each
  where
    within : (b : Bool) (k : ℕ) → k < length old → (if b then flipped_state t k else k) < length old
    within true k less = closed k less
    within false k less = less

-- H where the qubit is 1
pub next_difference : (t : ℕ) (old : List Terms) (k : ℕ) (x y sum : Terms) → IsClosed t (length old) → k < length old → x ≡ sum_at old k → y ≡ sum_at old (flipped_state t k) → has_bit t k ≡ true → IsDifference y x sum → weight_of sum ≤ weight_of y + weight_of x → largest_reach sum ≤ max (largest_reach y) (largest_reach x) → IsNext (H t) old k sum
next_difference t old k x y sum closed less x_is y_is bit counts weight reach = record {
  counts = λ e he. rw bit (counts e he ∙ (λ d. count (y_is d) e -ℤ count (x_is d) e));
  weight = λ most small. omega (arith, weight, ap weight_of x_is, ap weight_of y_is, small k less, small (flipped_state t k) (closed k less));
  reach = λ most small. omega (arith, reach, ap largest_reach x_is, ap largest_reach y_is, small k less, small (flipped_state t k) (closed k less));
}

-- H where the qubit is 0
pub next_sum : (t : ℕ) (old : List Terms) (k : ℕ) (x y sum : Terms) → IsClosed t (length old) → k < length old → x ≡ sum_at old k → y ≡ sum_at old (flipped_state t k) → has_bit t k ≡ false → IsSum x y sum → weight_of sum ≤ weight_of x + weight_of y → largest_reach sum ≤ max (largest_reach x) (largest_reach y) → IsNext (H t) old k sum
next_sum t old k x y sum closed less x_is y_is bit counts weight reach = record {
  counts = λ e he. rw bit (counts e he ∙ (λ d. count (x_is d) e +ℤ count (y_is d) e));
  weight = λ most small. omega (arith, weight, ap weight_of x_is, ap weight_of y_is, small k less, small (flipped_state t k) (closed k less));
  reach = λ most small. omega (arith, reach, ap largest_reach x_is, ap largest_reach y_is, small k less, small (flipped_state t k) (closed k less));
}

-- a rotation, which multiplies where the qubit is 1
pub next_shift : (t : ℕ) (angle : Expr) (old : List Terms) (k : ℕ) (by : Monomial) (sum : Terms) → k < length old → reach_of by ≤ 1 → by ≡ monomial_of (angle_exponent angle) → IsShiftedWhere (has_bit t k) by (sum_at old k) sum → IsNext (Rz t angle) old k sum
next_shift t angle old k by sum less low is shifted = record {
  counts = λ e he. shifted.counts e he ∙ ap (λ (u : Monomial). count (sum_at old k) (if has_bit t k then minus e u else e)) is;
  weight = λ most small. omega (arith, shifted.weight, small k less);
  reach = λ most small. omega (arith, shifted.reach, small k less, low, reach_times_le (sum_at old k) by);
}

-- the sums below the bound are those after the rotation, and the others are as they were
pub record IsTurnedBelow (t : ℕ) (angle : Expr) (bound : ℕ) (old new : List Terms) : Type 0 where
  pub size : length new ≡ length old
  pub turned : (m : ℕ) → m < bound → IsNext (Rz t angle) old m (sum_at new m)
  pub rest : (m : ℕ) → bound ≤ m → sum_at new m ≡ sum_at old m

-- none is turned at first
pub turned_none : (t : ℕ) (angle : Expr) (sums : List Terms) → IsTurnedBelow t angle 0 sums sums
turned_none t angle sums = record { size = refl; turned = λ m less. absurd (omega arith); rest = λ m less. refl }

-- the next one is as it was
next_as_it_was : (t : ℕ) (angle : Expr) (k : ℕ) (d : Terms) (old now : List Terms) → IsTurnedBelow t angle k old now → k < length old → get_or now k d ≡ sum_at old k
next_as_it_was t angle k d old now before less = get_or_default now k d [] (omega (arith, before.size)) ∙ before.rest k (omega arith)

-- the next one has room for the rotation's powers
pub turn_room : (t : ℕ) (angle : Expr) (k : ℕ) (by : Monomial) (d : Terms) (old now : List Terms) → IsTurnedBelow t angle k old now → k < length old → ReachesAtMost 100 old → reach_of by ≤ 1 → reach_times (get_or now k d) by ≤ 2 ^ 40
turn_room t angle k by d old now before less small low =
    omega (arith, reach_times_le (get_or now k d) by, ap largest_reach (next_as_it_was t angle k d old now before less), small k less, low)

-- one more is turned
pub turned_more : (t : ℕ) (angle : Expr) (k : ℕ) (by : Monomial) (wanted : Bool) (d sum : Terms) (old now : List Terms) → IsTurnedBelow t angle k old now → k < length old → reach_of by ≤ 1 → by ≡ monomial_of (angle_exponent angle) → wanted ≡ has_bit t k → IsShiftedWhere wanted by (get_or now k d) sum → IsTurnedBelow t angle (k + 1) old (set now k sum)
turned_more t angle k by wanted d sum old now before less low is bit shifted = record {
  size = length-set now k sum ∙ before.size;
  turned = below_more (λ m. IsNext (Rz t angle) old m (sum_at (set now k sum) m)) k
      (λ m m_less. subst (IsNext (Rz t angle) old m) (sym (get_or-set_other now k m sum [] (λ same. omega arith))) (before.turned m m_less))
      (subst (IsNext (Rz t angle) old k) (sym (get_or-set_same now k sum [] (omega (arith, before.size))))
      (next_shift t angle old k by sum less low is
      (subst (λ (b : Bool). IsShiftedWhere b by (sum_at old k) sum) bit (subst (λ (ts : Terms). IsShiftedWhere wanted by ts sum) (next_as_it_was t angle k d old now before less) shifted))));
  rest = λ m m_in. get_or-set_other now k m sum [] (λ same. omega arith) ∙ before.rest m (omega arith);
}

-- at the end all are
pub turned_all : (t : ℕ) (angle : Expr) (bound : ℕ) (old new : List Terms) → length old ≤ bound → IsTurnedBelow t angle bound old new → IsAfterGate (Rz t angle) old new
turned_all t angle bound old new all is = record { size = is.size; each = λ k less. is.turned k (omega arith) }

-- what one gate makes of counts in a column is what it makes of the counts of ways
after_step : (q j : ℕ) (op : Op) (v : ℕ → Monomial → ℤ) (w : ℕ → Exponent → ℤ) (i : ℕ) (e : Monomial) → ActsBelow q op → i < 2 ^ q → IsMonomial e → ((x : ℕ) → x < 2 ^ q → (d : Monomial) → IsMonomial d → v (place_of q x j) d ≡ w x (exponent_of d)) → count_after op v (place_of q i j) e ≡ step (as_gate op) w i (exponent_of e)
after_step q j (H t) v w i e acts less he same =
    let here = same i less e he in
    let there : v (flipped_state t (place_of q i j)) e ≡ w (flipped_state t i) (exponent_of e) = ap (λ k. v k e) (flipped_place q t i j acts) ∙ same (flipped_state t i) (flip_below q t i acts less) e he in
    rw (place_bit q t i j acts) (by (has_bit t i) _ _ _ _ here there)
  where
    by : (b : Bool) (a c x y : ℤ) → a ≡ x → c ≡ y → (if b then c -ℤ a else a +ℤ c) ≡ signed b x +ℤ y
    by true a c x y h k = omega (arith, ints)
    by false a c x y h k = omega (arith, ints)
after_step q j (X t) v w i e acts less he same = ap (λ k. v k e) (flipped_place q t i j acts) ∙ same (flipped_state t i) (flip_below q t i acts less) e he
after_step q j (Cx c t) v w i e acts less he same =
    let there = ap (λ k. v k e) (flipped_place q t i j acts.1) ∙ same (flipped_state t i) (flip_below q t i acts.1 less) e he in
    rw (place_bit q c i j acts.0) (by (has_bit c i) (same i less e he) there)
  where
    by : (b : Bool) → v (place_of q i j) e ≡ w i (exponent_of e) → v (flipped_state t (place_of q i j)) e ≡ w (flipped_state t i) (exponent_of e) → v (if b then flipped_state t (place_of q i j) else place_of q i j) e ≡ (if b then w (flipped_state t i) else w i) (exponent_of e)
    by true here there = there
    by false here there = here
after_step q j (Rz t angle) v w i e acts less he same =
    rw (place_bit q t i j acts) (by (has_bit t i))
  where
    by : (b : Bool) → v (place_of q i j) (if b then minus e (monomial_of (angle_exponent angle)) else e) ≡ w i (if b then minus_exponent (exponent_of e) (angle_exponent angle) else exponent_of e)
    by true = same i less (minus e (monomial_of (angle_exponent angle))) (omega arith)
    by false = same i less e he

-- entries that have the counts of a circuit's ways have those of one gate more after it
pub counts_after_gate : (q : ℕ) (c : Circuit) (op : Op) (old new : List Terms) → ActsBelow q op → length old ≡ 2 ^ q * 2 ^ q → IsAfterGate op old new → ((i j : ℕ) → i < 2 ^ q → j < 2 ^ q → HasCounts (paths q c i j) (sum_at old (place_of q i j))) → (i j : ℕ) → i < 2 ^ q → j < 2 ^ q → HasCounts (paths q (c ++ op ∷ []) i j) (sum_at new (place_of q i j))
counts_after_gate q c op old new acts size is before i j row column e he =
    (is.each (place_of q i j) (omega (arith, place_below q i j row column, size))).counts e he ∙
    after_step q j op (counts_of old) (λ k. path_count (paths q c k j)) i e acts row he (λ x less d hd. before x j less column d hd) ∙
    sym (count_one_more q c op i j (exponent_of e) acts row he)
