-- Columns of programs: the start, and one more gate.
use Rattle.std.proofs.Common.{◌≡◌, ℕ, zero, suc, ◌+◌, ◌-◌, ◌^◌, ◌<◌, ◌≤◌, ◌==◌, Bool, true, false, List, [], ◌∷◌, ◌++◌, map, take, drop, length, get_or, cond, refl, sym, ap, subst, ◌∙◌, arith, add-zero}
use Rattle.std.specs.Prelude.{IsTrue, pos, if◌then◌else◌, ◌+ℤ◌, ◌-ℤ◌, ℤ}
use Rattle.std.specs.List.{AllByRecursion}
use Rattle.std.proofs.Math.Nat.{pow-le-pow_right}
use Rattle.std.proofs.lemmas.Int.{ints}
use Rattle.std.proofs.lemmas.List.{get_or_push, map-append}
use Rattle.std.proofs.lemmas.List.Sums.{sum_by_push, sum_by_more_le}
use Rattle.std.proofs.Math.ListN.{get_or-append}
use Rattle.std.proofs.Math.Seq.{take-append_seam}
use borrow.Author.Count.{below_more}
use Rattle.qz_circ.specs.declared.circuit.Inst.{Inst}
use Rattle.qz_circ.specs.declared.circuit.Inst.TheVariants.{H, X, Cx, Rz}
use Rattle.qz_circ.specs.Exponent.{Exponent, IsExponent, turn_of, minus}
use Rattle.qz_circ.specs.Paths.{has_bit, flipped_state, count, root2, root2_once, identity_ways, ways_along}
use Rattle.qz_circ.specs.ProgramCircuits.{ProgramCircuit, IsProgramGate, is_program_h, program_halves, program_paths}
use Rattle.qz_circ.proofs.SignedWays.{signed}
use Rattle.qz_circ.proofs.Totals.{count-none}
use Rattle.qz_circ.proofs.Flips.{flip_below}
use Rattle.qz_circ.proofs.GateSteps.{Amounts, step}
use Rattle.qz_circ.proofs.RuleGates.{as_program_gate, program_gate_is}
use Rattle.qz_circ.proofs.Roots.{roots}
use Rattle.qz_circ.proofs.RisingLists.{each-append}
use Rattle.qz_paths.proofs.Runs.{run, start, same_goes_over, step_along, step_roots, run-append}
use Rattle.qz_check.specs.Sums.{TurnedSum, amount, IsSmall, one_if}
use Rattle.qz_check.specs.Columns.{sum_at, target_of, amount_after, owed, IsAfter, IsClosed, IsColumn}
use Rattle.qz_check.proofs.OneTurn.{rooted_counts, turns_less}

-- ---- the start

-- no ways times a power of √2
none_rooted : (d : ℕ) → root2 d [] ≡ []
unfolding root2 root2_once
none_rooted zero = refl
none_rooted (suc d) = ap root2_once (none_rooted d)

-- a sum that counts nothing counts what no ways do
pub zero_rooted : (d : ℕ) (x : TurnedSum) → ((n : ℕ) → amount x n ≡ pos 0) → (n : ℕ) → amount x n ≡ count (root2 d (one_if false)) (turn_of n)
zero_rooted d x none n = none n ∙ sym (ap (λ ps. count ps (turn_of n)) (none_rooted d) ∙ count-none (turn_of n))

-- a small sum is small by more
pub small_more : (h k : ℕ) (x : TurnedSum) → h ≤ k → IsSmall h x → IsSmall k x
unfolding IsSmall
small_more h k x less small m = let power : 2 ^ h ≤ 2 ^ k = pow-le-pow_right {n = 2} (omega arith) less in omega (arith, small m, power)

-- the sums below the bound are those before any gate
abbrev pub IsStartBelow : ℕ → ℕ → ℕ → List TurnedSum → Type 0
IsStartBelow d j bound sums = (i : ℕ) → i < bound → ((n : ℕ) → amount (sum_at sums i) n ≡ count (root2 d (one_if (i == j))) (turn_of n)) × IsSmall d (sum_at sums i)

-- one sum more
pub start_more : (d j k : ℕ) (old new : List TurnedSum) (x : TurnedSum) → length old ≡ k → new ≡ old ++ x ∷ [] → ((n : ℕ) → amount x n ≡ count (root2 d (one_if (k == j))) (turn_of n)) → IsSmall d x → IsStartBelow d j k old → IsStartBelow d j (k + 1) new
start_more d j k old new x len is amounts small before =
    below_more (λ i. ((n : ℕ) → amount (sum_at new i) n ≡ count (root2 d (one_if (i == j))) (turn_of n)) × IsSmall d (sum_at new i)) k
    (λ i less. let same : sum_at new i ≡ sum_at old i = ap (λ sums. sum_at sums i) is ∙ get_or-append old (x ∷ []) _ i (omega arith) in
    ((λ n. ap (λ (y : TurnedSum). amount y n) same ∙ (before i less).0 n), subst (IsSmall d) (sym same) (before i less).1))
    (let same : sum_at new k ≡ x = ap (λ sums. sum_at sums k) is ∙ get_or_push old x _ k len in
    ((λ n. ap (λ (y : TurnedSum). amount y n) same ∙ amounts n), subst (IsSmall d) (sym same) small))

-- no gate leaves each state where it is
no_gate : (q i j : ℕ) → program_paths q [] i j ≡ one_if (i == j)
unfolding program_paths ways_along identity_ways
no_gate q i j = refl

-- all sums are those of a column before any gate
pub start_all : (q d j bound : ℕ) (sums : List TurnedSum) → length sums ≡ bound → bound ≡ 2 ^ q → IsStartBelow d j bound sums → IsColumn q d j sums []
start_all q d j bound sums len all is = record {
  size = len ∙ all;
  gates = tt;
  small = λ k less. subst (λ h. IsSmall h (sum_at sums k)) (sym (add-zero d)) (is k (omega arith)).1;
  amounts = λ i n less. (is i (omega arith)).0 n ∙ ap (λ ps. count (root2 d ps) (turn_of n)) (sym (no_gate q i j));
}

-- ---- one more gate

-- what the ways through one gate more count, times a power of √2
rooted_push : (q d : ℕ) (c : ProgramCircuit) (g : Inst) (i j : ℕ) (e : Exponent) → AllByRecursion (IsProgramGate q) c → IsProgramGate q g → i < 2 ^ q → IsExponent e →
    count (root2 d (program_paths q (c ++ g ∷ []) i j)) e ≡ step (as_program_gate g) (λ k. count (root2 d (program_paths q c k j))) i e
rooted_push q d c g i j e are is hi he =
    rooted_counts q d (c ++ g ∷ []) i j e (each-append (IsProgramGate q) c (g ∷ []) are (is, tt)) hi he ∙
    ap (λ gates. roots d (run gates (start j) i) e) (map-append as_program_gate c (g ∷ [])) ∙
    ap (λ (v : Amounts). roots d (v i) e) (run-append (map as_program_gate c) (as_program_gate g ∷ []) (start j)) ∙
    sym (step_roots d (as_program_gate g) (run (map as_program_gate c) (start j)) i e) ∙
    sym (step_along (λ x. x) same_goes_over q (as_program_gate g) (λ k. count (root2 d (program_paths q c k j))) (λ k. roots d (run (map as_program_gate c) (start j) k)) (program_gate_is q g is).within
    (λ k less x hx. rooted_counts q d c k j x are less hx) i hi e he)

-- what a gate makes of sums is what it makes of the counts of ways
after_is_step : (q : ℕ) (g : Inst) (k : ℕ) (x y : TurnedSum) (v : Amounts) (n : ℕ) → IsProgramGate q g → ((m : ℕ) → amount x m ≡ v k (turn_of m)) → ((m : ℕ) → amount y m ≡ v (flipped_state (target_of g) k) (turn_of m)) →
    amount_after g k x y n ≡ step (as_program_gate g) v k (turn_of n)
after_is_step q (H t) k x y v n is here there = by (has_bit t k) _ _ _ _ (here n) (there n)
  where
    by : (b : Bool) (a c d e : ℤ) → a ≡ d → c ≡ e → (if b then c -ℤ a else a +ℤ c) ≡ signed b d +ℤ e
    by true a c d e h l = omega (arith, ints)
    by false a c d e h l = omega (arith, ints)
after_is_step q (X t) k x y v n is here there = there n
after_is_step q (Cx c t) k x y v n is here there = by (has_bit c k)
  where
    by : (b : Bool) → amount (if b then y else x) n ≡ (if b then v (flipped_state t k) else v k) (turn_of n)
    by true = there n
    by false = here n
after_is_step q (Rz t a) k x y v n is here there = by (has_bit t k)
  where
    by : (b : Bool) → amount x (if b then n + (512 - a) else n) ≡ v k (if b then minus (turn_of n) (turn_of a) else turn_of n)
    by true = here (n + (512 - a)) ∙ ap (v k) (sym (turns_less n a is.2))
    by false = here n

-- the qubit that a gate changes is one of all
pub target_below : (q : ℕ) (g : Inst) → IsProgramGate q g → target_of g < q
target_below q (H t) is = is
target_below q (X t) is = is
target_below q (Cx c t) is = is.1
target_below q (Rz t a) is = is.0

-- all places stay places where it is flipped
pub closed_places : (q size : ℕ) (g : Inst) → IsProgramGate q g → size ≡ 2 ^ q → IsClosed (target_of g) size
closed_places q size g is all k less = subst (λ n. flipped_state (target_of g) k < n) (sym all) (flip_below q (target_of g) k (target_below q g is) (subst (λ n. k < n) all less))

-- a gate on some qubits is one on six
pub on_six : (q : ℕ) (g : Inst) → q ≤ 6 → IsProgramGate q g → IsProgramGate 6 g
on_six q (H t) few is = omega arith
on_six q (X t) few is = omega arith
on_six q (Cx c t) few is = (omega (arith, is.0), omega (arith, is.1), is.2)
on_six q (Rz t a) few is = (omega (arith, is.0), is.1, is.2)

-- what a gate owes is one more half, if it is H
pub halves_push : (c : ProgramCircuit) (g : Inst) → program_halves (c ++ g ∷ []) ≡ program_halves c + owed g
halves_push c g = sum_by_push (λ (f : Inst). cond (is_program_h f) 1 0) c g

-- the column after one more gate
pub column_after : (q d j : ℕ) (old new : List TurnedSum) (c : ProgramCircuit) (g : Inst) → IsProgramGate q g → IsColumn q d j old c → IsAfter g old new → IsColumn q d j new (c ++ g ∷ [])
column_after q d j old new c g is before after = record {
  size = after.size ∙ before.size;
  gates = each-append (IsProgramGate q) c (g ∷ []) before.gates (is, tt);
  small = λ k less.
      let k_in : k < length old = omega (arith, after.size, less) in
      let power : (d + program_halves c) + owed g ≡ d + program_halves (c ++ g ∷ []) = let more = halves_push c g in omega arith in
      subst (λ h. IsSmall h (sum_at new k)) power ((after.each k k_in).small (d + program_halves c) (before.small k k_in) (before.small (flipped_state (target_of g) k) (closed_places q (length old) g is before.size k k_in)));
  amounts = λ i n less.
      let i_in : i < length old = subst (λ m. i < m) (sym before.size) less in
      (after.each i i_in).amounts n ∙
      after_is_step q g i (sum_at old i) (sum_at old (flipped_state (target_of g) i)) (λ k. count (root2 d (program_paths q c k j))) n is
      (λ m. before.amounts i m less) (λ m. before.amounts (flipped_state (target_of g) i) m (flip_below q (target_of g) i (target_below q g is) less)) ∙
      sym (rooted_push q d c g i j (turn_of n) before.gates is less (omega arith));
}

-- ---- gates in order

-- what holds of each gate holds of the one in a place
pub each_at : {A : Type 0} (P : A → Type 0) (xs : List A) (i : ℕ) (d : A) → AllByRecursion P xs → i < length xs → P (get_or xs i d)
each_at P [] i d each less = absurd (omega arith)
each_at P (x ∷ xs) zero d each less = each.0
each_at P (x ∷ xs) (suc i) d each less = each_at P xs i d each.1 (omega arith)

-- before an H there is room for one more
pub halves_room : (d : ℕ) (c : ProgramCircuit) (i : ℕ) (other : Inst) → i < length c → IsTrue (is_program_h (get_or c i other)) → d + program_halves c ≤ 120 → d + program_halves (take i c) ≤ 119
halves_room d c i other less is_h few =
    let all : program_halves (take i c) + cond {A = ℕ} (is_program_h (get_or c i other)) 1 0 ≤ program_halves c = sum_by_more_le (λ (f : Inst). cond (is_program_h f) 1 0) c i other less in
    let one : cond {A = ℕ} (is_program_h (get_or c i other)) 1 0 ≡ 1 = ap (λ b. cond {A = ℕ} b 1 0) is_h in
    omega (arith, all, one, few)

-- what is written over a whole list
pub written_over : {A : Type 0} (new old : List A) (n : ℕ) → n ≡ length new → take n (new ++ drop (length new) old) ≡ new
written_over new old n same = rw (same, take-append_seam) refl
