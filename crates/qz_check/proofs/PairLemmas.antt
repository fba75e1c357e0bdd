-- What gates make of the sums in two places, and of all places, one pair after the other.
use Rattle.std.proofs.Common.{◌≡◌, ◌≢◌, ℕ, ◌+◌, ◌-◌, ◌<◌, ◌≤◌, ◌⊎◌, inl, inr, Bool, true, false, not, List, length, get_or, set, refl, sym, ap, subst, ◌∙◌, arith, add-zero, true≢false}
use Rattle.std.specs.Prelude.{if◌then◌else◌, ◌+ℤ◌, ◌-ℤ◌}
use Rattle.std.proofs.lemmas.Bool.{cases_eq}
use Rattle.std.proofs.lemmas.List.{get_or_default, get_or-set_same, get_or-set_other}
use Rattle.std.proofs.Math.ListN.{length-set}
use Rattle.qz_circ.specs.declared.circuit.Inst.{Inst}
use Rattle.qz_circ.specs.declared.circuit.Inst.TheVariants.{H, X, Cx, Rz}
use Rattle.qz_circ.specs.Paths.{has_bit, flipped_state}
use Rattle.qz_circ.proofs.Flips.{flipped_twice, bit_flipped, bit_kept, flip_apart}
use Rattle.qz_check.specs.Sums.{TurnedSum, amount, IsSmall, combine}
use Rattle.qz_check.specs.Columns.{sum_at, target_of, IsNext, IsAfter, IsPairAfter, IsExchangedPair, IsClosed}

-- ---- one pair

-- a sum that is another is as small
small_as : (h : ℕ) (x y : TurnedSum) → x ≡ y → IsSmall h y → IsSmall (h + 0) x
small_as h x y same small = subst (λ n. IsSmall n x) (sym (add-zero h)) (subst (IsSmall h) (sym same) small)

-- the flipped qubit is 1 where it was 0
bit_there : (t k : ℕ) → has_bit t k ≡ false → has_bit t (flipped_state t k) ≡ true
bit_there t k bit = bit_flipped t k ∙ ap not bit

-- H, by a sum and a difference
pub pair_h : (t k f : ℕ) (old : List TurnedSum) (x y z w sum difference : TurnedSum) → f ≡ flipped_state t k → k < length old → f < length old → has_bit t k ≡ false → x ≡ sum_at old k → y ≡ sum_at old f → z ≡ sum_at old k → w ≡ sum_at old f →
    ((n : ℕ) → amount sum n ≡ combine false (amount x n) (amount y n)) → ((n : ℕ) → amount difference n ≡ combine true (amount z n) (amount w n)) →
    ((h : ℕ) → IsSmall h x → IsSmall h y → IsSmall (h + 1) sum) → ((h : ℕ) → IsSmall h z → IsSmall h w → IsSmall (h + 1) difference) →
    IsPairAfter (H t) k (flipped_state t k) old (set (set old k sum) f difference)
pair_h t k f old x y z w sum difference f_is k_in f_in bit x_is y_is z_is w_is sums differences small_sum small_difference =
    subst (λ p. IsPairAfter (H t) k p old (set (set old k sum) f difference)) f_is (record {
      size = length-set (set old k sum) f difference ∙ length-set old k sum;
      first = subst (IsNext (H t) k (sum_at old k) (sum_at old f)) (sym at_first) (record {
        amounts = λ n. rw bit (sums n ∙ (λ d. amount (x_is d) n +ℤ amount (y_is d) n));
        small = λ h one other. small_sum h (subst (IsSmall h) (sym x_is) one) (subst (IsSmall h) (sym y_is) other);
      });
      second = subst (IsNext (H t) f (sum_at old f) (sum_at old k)) (sym at_second) (record {
        amounts = λ n. rw there (differences n ∙ (λ d. amount (z_is d) n -ℤ amount (w_is d) n));
        small = λ h one other. small_difference h (subst (IsSmall h) (sym z_is) other) (subst (IsSmall h) (sym w_is) one);
      });
      others = λ m one two. get_or-set_other (set old k sum) f m difference _ two ∙ get_or-set_other old k m sum _ one;
    })
  where
    apart : k ≢ f
    apart same = flip_apart t k (same ∙ f_is)

    there : has_bit t f ≡ true
    there = ap (has_bit t) f_is ∙ bit_there t k bit

    at_first : sum_at (set (set old k sum) f difference) k ≡ sum
    at_first = get_or-set_other (set old k sum) f k difference _ apart ∙ get_or-set_same old k sum _ k_in

    at_second : sum_at (set (set old k sum) f difference) f ≡ difference
    at_second = get_or-set_same (set old k sum) f difference _ (omega (arith, length-set old k sum, f_in))

-- X, by an exchange
pub pair_x : (t k f : ℕ) (old new : List TurnedSum) → f ≡ flipped_state t k → IsExchangedPair true k f old new → IsPairAfter (X t) k (flipped_state t k) old new
pair_x t k f old new f_is is =
    subst (λ p. IsPairAfter (X t) k p old new) f_is (record {
      size = is.size;
      first = record { amounts = λ n. ap (λ (x : TurnedSum). amount x n) is.first; small = λ h one other. small_as h (sum_at new k) (sum_at old f) is.first other };
      second = record { amounts = λ n. ap (λ (x : TurnedSum). amount x n) is.second; small = λ h one other. small_as h (sum_at new f) (sum_at old k) is.second other };
      others = is.others;
    })

-- CX, by an exchange where the control is 1
pub pair_cx : (c t k f : ℕ) (wanted : Bool) (old new : List TurnedSum) → c ≢ t → f ≡ flipped_state t k → wanted ≡ has_bit c k → IsExchangedPair wanted k f old new → IsPairAfter (Cx c t) k (flipped_state t k) old new
pair_cx c t k f wanted old new apart f_is bit is =
    subst (λ p. IsPairAfter (Cx c t) k p old new) f_is (record { size = is.size; first = first wanted bit is.first; second = second wanted bit_f is.second; others = is.others })
  where
    bit_f : wanted ≡ has_bit c f
    bit_f = bit ∙ sym (bit_kept c t k apart) ∙ ap (has_bit c) (sym f_is)

    first : (b : Bool) → b ≡ has_bit c k → sum_at new k ≡ sum_at old (if b then f else k) → IsNext (Cx c t) k (sum_at old k) (sum_at old f) (sum_at new k)
    first true b_is same = record { amounts = λ n. rw (sym b_is) (ap (λ (x : TurnedSum). amount x n) same); small = λ h one other. small_as h (sum_at new k) (sum_at old f) same other }
    first false b_is same = record { amounts = λ n. rw (sym b_is) (ap (λ (x : TurnedSum). amount x n) same); small = λ h one other. small_as h (sum_at new k) (sum_at old k) same one }

    second : (b : Bool) → b ≡ has_bit c f → sum_at new f ≡ sum_at old (if b then k else f) → IsNext (Cx c t) f (sum_at old f) (sum_at old k) (sum_at new f)
    second true b_is same = record { amounts = λ n. rw (sym b_is) (ap (λ (x : TurnedSum). amount x n) same); small = λ h one other. small_as h (sum_at new f) (sum_at old k) same other }
    second false b_is same = record { amounts = λ n. rw (sym b_is) (ap (λ (x : TurnedSum). amount x n) same); small = λ h one other. small_as h (sum_at new f) (sum_at old f) same one }

-- a rotation, which turns on where the qubit is 1
pub pair_rz : (t a k f : ℕ) (old : List TurnedSum) (d turned : TurnedSum) → f ≡ flipped_state t k → f < length old → has_bit t k ≡ false →
    ((n : ℕ) → amount turned n ≡ amount (get_or old f d) (n + (512 - a))) → ((h : ℕ) → IsSmall h (get_or old f d) → IsSmall h turned) → IsPairAfter (Rz t a) k (flipped_state t k) old (set old f turned)
pair_rz t a k f old d turned f_is f_in bit amounts small =
    subst (λ p. IsPairAfter (Rz t a) k p old (set old f turned)) f_is (record {
      size = length-set old f turned;
      first = subst (IsNext (Rz t a) k (sum_at old k) (sum_at old f)) (sym at_first) (record { amounts = λ n. rw bit refl; small = λ h one other. small_as h (sum_at old k) (sum_at old k) refl one });
      second = subst (IsNext (Rz t a) f (sum_at old f) (sum_at old k)) (sym at_second) (record {
        amounts = λ n. rw there (amounts n ∙ ap (λ (x : TurnedSum). amount x (n + (512 - a))) read);
        small = λ h one other. small_as h turned turned refl (small h (subst (IsSmall h) (sym read) one));
      });
      others = λ m one two. get_or-set_other old f m turned _ two;
    })
  where
    apart : k ≢ f
    apart same = flip_apart t k (same ∙ f_is)

    there : has_bit t f ≡ true
    there = ap (has_bit t) f_is ∙ bit_there t k bit

    read : get_or old f d ≡ sum_at old f
    read = get_or_default old f d _ f_in

    at_first : sum_at (set old f turned) k ≡ sum_at old k
    at_first = get_or-set_other old f k turned _ apart

    at_second : sum_at (set old f turned) f ≡ turned
    at_second = get_or-set_same old f turned _ f_in

-- ---- all pairs

-- the place of a pair that has the qubit at 0
abbrev pub lower : ℕ → ℕ → ℕ
lower t m = if has_bit t m then flipped_state t m else m

-- the pairs below the bound are those after the gate, and the others are as they were
pub record IsDoneBelow (g : Inst) (bound : ℕ) (old now : List TurnedSum) : Type 0 where
  pub size : length now ≡ length old
  pub done : (m : ℕ) → m < length old → lower (target_of g) m < bound → IsNext g m (sum_at old m) (sum_at old (flipped_state (target_of g) m)) (sum_at now m)
  pub kept : (m : ℕ) → bound ≤ lower (target_of g) m → sum_at now m ≡ sum_at old m

-- none is done at first
pub done_none : (g : Inst) (sums : List TurnedSum) → IsDoneBelow g 0 sums sums
done_none g sums = record { size = refl; done = λ m m_in less. absurd (omega arith); kept = λ m more. refl }

-- the lower place of a place with the qubit at 0
lower_zero : (t m : ℕ) → has_bit t m ≡ false → lower t m ≡ m
lower_zero t m bit = rw bit refl

-- and with the qubit at 1
lower_one : (t m : ℕ) → has_bit t m ≡ true → lower t m ≡ flipped_state t m
lower_one t m bit = rw bit refl

-- it has the qubit at 0
lower_bit : (t m : ℕ) → has_bit t (lower t m) ≡ false
lower_bit t m = by (has_bit t m) refl
  where
    by : (b : Bool) → has_bit t m ≡ b → has_bit t (lower t m) ≡ false
    by true bit = ap (has_bit t) (lower_one t m bit) ∙ bit_flipped t m ∙ ap not bit
    by false bit = ap (has_bit t) (lower_zero t m bit) ∙ bit

-- the places of a pair
lower_is : (t m k : ℕ) → lower t m ≡ k → (m ≡ k) ⊎ (m ≡ flipped_state t k)
lower_is t m k same = by (has_bit t m) refl
  where
    by : (b : Bool) → has_bit t m ≡ b → (m ≡ k) ⊎ (m ≡ flipped_state t k)
    by true bit = inr (sym (flipped_twice t m) ∙ ap (flipped_state t) (sym (lower_one t m bit) ∙ same))
    by false bit = inl (sym (lower_zero t m bit) ∙ same)

-- the lower place of a flipped one
lower_flipped : (t k : ℕ) → has_bit t k ≡ false → lower t (flipped_state t k) ≡ k
lower_flipped t k bit = lower_one t (flipped_state t k) (bit_there t k bit) ∙ flipped_twice t k

-- both places of the next pair are as they were
pub next_first : (g : Inst) (k : ℕ) (old now : List TurnedSum) → has_bit (target_of g) k ≡ false → IsDoneBelow g k old now → sum_at now k ≡ sum_at old k
next_first g k old now bit before = let same = lower_zero (target_of g) k bit in before.kept k (omega arith)

pub next_second : (g : Inst) (k : ℕ) (old now : List TurnedSum) → has_bit (target_of g) k ≡ false → IsDoneBelow g k old now → sum_at now (flipped_state (target_of g) k) ≡ sum_at old (flipped_state (target_of g) k)
next_second g k old now bit before = let same = lower_flipped (target_of g) k bit in before.kept (flipped_state (target_of g) k) (omega arith)

-- a place with the qubit at 1 has nothing to do
pub done_skip : (g : Inst) (k : ℕ) (old now : List TurnedSum) → has_bit (target_of g) k ≡ true → IsDoneBelow g k old now → IsDoneBelow g (k + 1) old now
done_skip g k old now bit before = record {
  size = before.size;
  done = λ m m_in less. let other = not_here m in before.done m m_in (omega arith);
  kept = λ m more. before.kept m (omega arith);
}
  where
    not_here : (m : ℕ) → lower (target_of g) m ≢ k
    not_here m same = true≢false (sym bit ∙ ap (has_bit (target_of g)) (sym same) ∙ lower_bit (target_of g) m)

-- one more pair
pub done_pair : (g : Inst) (k : ℕ) (old now new : List TurnedSum) → has_bit (target_of g) k ≡ false → IsDoneBelow g k old now → IsPairAfter g k (flipped_state (target_of g) k) now new → IsDoneBelow g (k + 1) old new
done_pair g k old now new bit before after = record {
  size = after.size ∙ before.size;
  done = λ m m_in less. by m m_in less (cases_eq (lower (target_of g) m) k);
  kept = λ m more. after.others m (λ same. let low = ap (lower (target_of g)) same ∙ lower_zero (target_of g) k bit in omega arith) (λ same. let low = ap (lower (target_of g)) same ∙ lower_flipped (target_of g) k bit in omega arith) ∙ before.kept m (omega arith);
}
  where
    first : IsNext g k (sum_at old k) (sum_at old (flipped_state (target_of g) k)) (sum_at new k)
    first = subst (λ x. IsNext g k x (sum_at old (flipped_state (target_of g) k)) (sum_at new k)) (next_first g k old now bit before) (subst (λ y. IsNext g k (sum_at now k) y (sum_at new k)) (next_second g k old now bit before) after.first)

    second : IsNext g (flipped_state (target_of g) k) (sum_at old (flipped_state (target_of g) k)) (sum_at old k) (sum_at new (flipped_state (target_of g) k))
    second = subst (λ x. IsNext g (flipped_state (target_of g) k) x (sum_at old k) (sum_at new (flipped_state (target_of g) k))) (next_second g k old now bit before) (subst (λ y. IsNext g (flipped_state (target_of g) k) (sum_at now (flipped_state (target_of g) k)) y (sum_at new (flipped_state (target_of g) k))) (next_first g k old now bit before) after.second)

    here : (m : ℕ) → (m ≡ k) ⊎ (m ≡ flipped_state (target_of g) k) → IsNext g m (sum_at old m) (sum_at old (flipped_state (target_of g) m)) (sum_at new m)
    here m (inl same) = subst (λ x. IsNext g x (sum_at old x) (sum_at old (flipped_state (target_of g) x)) (sum_at new x)) (sym same) first
    here m (inr same) =
        subst (λ x. IsNext g x (sum_at old x) (sum_at old (flipped_state (target_of g) x)) (sum_at new x)) (sym same)
        (subst (λ y. IsNext g (flipped_state (target_of g) k) (sum_at old (flipped_state (target_of g) k)) (sum_at old y) (sum_at new (flipped_state (target_of g) k))) (sym (flipped_twice (target_of g) k)) second)

    by : (m : ℕ) → m < length old → lower (target_of g) m < k + 1 → (lower (target_of g) m ≡ k) ⊎ (lower (target_of g) m ≡ k → ⊥) → IsNext g m (sum_at old m) (sum_at old (flipped_state (target_of g) m)) (sum_at new m)
    by m m_in less (inl same) = here m (lower_is (target_of g) m k same)
    by m m_in less (inr other) =
        let same = after.others m (λ h. other (ap (lower (target_of g)) h ∙ lower_zero (target_of g) k bit)) (λ h. other (ap (lower (target_of g)) h ∙ lower_flipped (target_of g) k bit)) in
        subst (IsNext g m (sum_at old m) (sum_at old (flipped_state (target_of g) m))) (sym same) (before.done m m_in (omega arith))

-- at the end all are done
pub done_all : (g : Inst) (bound : ℕ) (old now : List TurnedSum) → length old ≤ bound → IsClosed (target_of g) (length old) → IsDoneBelow g bound old now → IsAfter g old now
done_all g bound old now all closed is = record { size = is.size; each = λ m m_in. is.done m m_in (by m m_in (has_bit (target_of g) m)) }
  where
    by : (m : ℕ) → m < length old → (b : Bool) → (if b then flipped_state (target_of g) m else m) < bound
    by m m_in true = let less = closed m m_in in omega arith
    by m m_in false = omega arith
