-- The places of gates and angles in the lists of those within limits, and the order of those lists.
use Rattle.std.proofs.Common.{◌≡◌, ℕ, zero, suc, ◌+◌, ◌-◌, ◌*◌, ◌/◌, ◌%◌, ◌<◌, ◌≤◌, Bool, true, cond, ltb, eqb, ◌&&◌, not, List, [], ◌∷◌, ◌++◌, map, filter, length, slice_get, Some, IsSome, Contains, refl, sym, ap, ◌∙◌, arith, is_lt, Ordering, Less, Equal, Greater, true≢false, ◌≢◌, ◌↔◌, unwrap_or, option_map, zero-add, lt-ltb, le-ltb, le-mul_of_pos_right}
use Rattle.std.specs.Cmp.{IsTotalOrder, first_so, second_so}
use Rattle.std.specs.Cmp.Lexicographic.{on_texts}
use Rattle.std.specs.List.{flat_map, range_with_len, AllByRecursion}
use Rattle.std.proofs.lemmas.List.{length-map}
use Rattle.std.proofs.lemmas.Bool.Decides.{nat_tests}
use Rattle.std.proofs.lemmas.List.Elements.{All-contains, All-from_recursion, recursion_from_All, All-contains_itself}
use Rattle.std.proofs.lemmas.List.FromFn.{length-range_with_len, get_or-range_with_len}
use Rattle.std.proofs.lemmas.Option.{slice_get-get_or, slice_get-map, slice_get_within, get_or_from_slice_get}
use Rattle.qz_circ.specs.declared.circuit.Expr.{Expr}
use Rattle.qz_circ.specs.declared.circuit.Expr.TheVariants.{Const, Plus, Minus, Sum}
use Rattle.qz_circ.specs.declared.circuit.Op.{Op}
use Rattle.qz_circ.specs.declared.circuit.Op.TheVariants.{H, X, Cx, Rz}
use Rattle.qz_circ.specs.Circuit.{Limits, Circuit, gates_of, constant_of, multiple_of, constants, angles, below, between, ActsBelow, AngleHasBelow, HasBelow, IsOn}
use Rattle.qz_circ.specs.Bounds.{IsLawful, is_grain}
use Rattle.qz_circ.specs.Order.{gate_cmp, gate_key}
use Rattle.qz_circ.proofs.BoundsLemmas.{in_range, for_grains}
use Rattle.qz_circ.proofs.RisingLists.{Rising, each_of_all, each_weaker, each-append, each-map, each-flat_map, each-filter, each-range}

-- how many angles there are with m parameters
abbrev pub angle_count : ℕ → ℕ → ℕ
angle_count m grain = 2 * grain - 1 + 2 * m + m * (m - 1) / 2

-- how many gates there are on q qubits with m parameters
abbrev pub table_length : ℕ → ℕ → ℕ → ℕ
table_length q m grain = q * (1 + q + angle_count m grain)

-- the angle with this number
abbrev pub angle_at : ℕ → ℕ → ℕ → Expr
angle_at m grain k =
    let others = k - (2 * grain - 1) in
    cond (ltb k (2 * grain - 1)) (Const (constant_of grain (k + 1)))
    (cond (ltb others m) (Plus others)
    (cond (ltb others (2 * m)) (Minus (others - m))
    (cond (eqb (others - 2 * m) 0) (Sum 0 1)
    (cond (eqb (others - 2 * m) 1) (Sum 0 2) (Sum 1 2)))))

-- the number of an angle, if it is one of those with m parameters
abbrev pub angle_number : ℕ → ℕ → Expr → ℕ
angle_number m grain (Const t) = multiple_of grain t - 1
angle_number m grain (Plus i) = 2 * grain - 1 + i
angle_number m grain (Minus i) = 2 * grain - 1 + m + i
angle_number m grain (Sum i j) = 2 * grain - 2 + 2 * m + i + j

-- the number with place t among all but c
abbrev pub other_at : ℕ → ℕ → ℕ
other_at c t = cond (ltb t c) t (t + 1)

-- the gate with this number
abbrev pub gate_at : ℕ → ℕ → ℕ → ℕ → Op
gate_at q m grain k =
    cond (ltb k q) (H k)
    (cond (ltb k (2 * q)) (X (k - q))
    (cond (ltb k (q + q * q)) (Cx ((k - 2 * q) / (q - 1)) (other_at ((k - 2 * q) / (q - 1)) ((k - 2 * q) % (q - 1))))
    (Rz ((k - (q + q * q)) / angle_count m grain) (angle_at m grain ((k - (q + q * q)) % angle_count m grain)))))

-- the number of a gate, if it is one of those on q qubits with m parameters
abbrev pub gate_number : ℕ → ℕ → ℕ → Op → ℕ
gate_number q m grain (H t) = t
gate_number q m grain (X t) = q + t
gate_number q m grain (Cx c t) = 2 * q + c * (q - 1) + cond (ltb c t) (t - 1) t
gate_number q m grain (Rz t e) = q + q * q + t * angle_count m grain + angle_number m grain e

-- each gate is before the next
abbrev pub adjacent : List Op → Bool
adjacent [] = true
adjacent (f ∷ []) = true
adjacent (f ∷ g ∷ gs) = is_lt (gate_cmp f g) && adjacent (g ∷ gs)

-- the angles with m parameters, by their numbers
pub record AngleTable (m grain : ℕ) : Type 0 where
  pub count : length (angles m grain) ≡ angle_count m grain
  angles_are : angles m grain ≡ map (angle_at m grain) (below (angle_count m grain))
  numbers_are : map (angle_number m grain) (angles m grain) ≡ below (angle_count m grain)

-- the list of angles, computed for each number of parameters and each grain
angles_4 : (m : ℕ) → m ≤ 3 → AngleTable m 4
unfolding angles
angles_4 zero h = record { count = refl; angles_are = refl; numbers_are = refl }
angles_4 (suc zero) h = record { count = refl; angles_are = refl; numbers_are = refl }
angles_4 (suc (suc zero)) h = record { count = refl; angles_are = refl; numbers_are = refl }
angles_4 (suc (suc (suc zero))) h = record { count = refl; angles_are = refl; numbers_are = refl }
angles_4 (suc (suc (suc (suc m)))) h = absurd (omega arith)

angles_8 : (m : ℕ) → m ≤ 3 → AngleTable m 8
unfolding angles
angles_8 zero h = record { count = refl; angles_are = refl; numbers_are = refl }
angles_8 (suc zero) h = record { count = refl; angles_are = refl; numbers_are = refl }
angles_8 (suc (suc zero)) h = record { count = refl; angles_are = refl; numbers_are = refl }
angles_8 (suc (suc (suc zero))) h = record { count = refl; angles_are = refl; numbers_are = refl }
angles_8 (suc (suc (suc (suc m)))) h = absurd (omega arith)

angles_16 : (m : ℕ) → m ≤ 3 → AngleTable m 16
unfolding angles
angles_16 zero h = record { count = refl; angles_are = refl; numbers_are = refl }
angles_16 (suc zero) h = record { count = refl; angles_are = refl; numbers_are = refl }
angles_16 (suc (suc zero)) h = record { count = refl; angles_are = refl; numbers_are = refl }
angles_16 (suc (suc (suc zero))) h = record { count = refl; angles_are = refl; numbers_are = refl }
angles_16 (suc (suc (suc (suc m)))) h = absurd (omega arith)

pub angle_table : (m grain : ℕ) → m ≤ 3 → is_grain grain ≡ true → AngleTable m grain
angle_table m grain h l = for_grains (AngleTable m) grain l (angles_4 m h) (angles_8 m h) (angles_16 m h)

-- the gates on q qubits with m parameters, by their numbers, rising
pub record GateTable (gates : List Op) (q m grain : ℕ) : Type 0 where
  gates_are : gates ≡ map (gate_at q m grain) (below (table_length q m grain))
  numbers_are : map (gate_number q m grain) gates ≡ below (table_length q m grain)
  pub rising : adjacent gates ≡ true

-- the list of gates, computed for each number of qubits and parameters and each grain
gates_4 : (n q m : ℕ) → 0 < q → q ≤ 3 → m ≤ 3 → GateTable (gates_of (record { n = n; q = q; m = m; grain = 4 })) q m 4
unfolding gates_of angles gate_cmp
gates_4 n (suc zero) zero p h k = record { gates_are = refl; numbers_are = refl; rising = refl }
gates_4 n (suc zero) (suc zero) p h k = record { gates_are = refl; numbers_are = refl; rising = refl }
gates_4 n (suc zero) (suc (suc zero)) p h k = record { gates_are = refl; numbers_are = refl; rising = refl }
gates_4 n (suc zero) (suc (suc (suc zero))) p h k = record { gates_are = refl; numbers_are = refl; rising = refl }
gates_4 n (suc (suc zero)) zero p h k = record { gates_are = refl; numbers_are = refl; rising = refl }
gates_4 n (suc (suc zero)) (suc zero) p h k = record { gates_are = refl; numbers_are = refl; rising = refl }
gates_4 n (suc (suc zero)) (suc (suc zero)) p h k = record { gates_are = refl; numbers_are = refl; rising = refl }
gates_4 n (suc (suc zero)) (suc (suc (suc zero))) p h k = record { gates_are = refl; numbers_are = refl; rising = refl }
gates_4 n (suc (suc (suc zero))) zero p h k = record { gates_are = refl; numbers_are = refl; rising = refl }
gates_4 n (suc (suc (suc zero))) (suc zero) p h k = record { gates_are = refl; numbers_are = refl; rising = refl }
gates_4 n (suc (suc (suc zero))) (suc (suc zero)) p h k = record { gates_are = refl; numbers_are = refl; rising = refl }
gates_4 n (suc (suc (suc zero))) (suc (suc (suc zero))) p h k = record { gates_are = refl; numbers_are = refl; rising = refl }
gates_4 n zero m p h k = absurd (omega arith)
gates_4 n (suc (suc (suc (suc q)))) m p h k = absurd (omega arith)
gates_4 n q (suc (suc (suc (suc m)))) p h k = absurd (omega arith)

gates_8 : (n q m : ℕ) → 0 < q → q ≤ 3 → m ≤ 3 → GateTable (gates_of (record { n = n; q = q; m = m; grain = 8 })) q m 8
unfolding gates_of angles gate_cmp
gates_8 n (suc zero) zero p h k = record { gates_are = refl; numbers_are = refl; rising = refl }
gates_8 n (suc zero) (suc zero) p h k = record { gates_are = refl; numbers_are = refl; rising = refl }
gates_8 n (suc zero) (suc (suc zero)) p h k = record { gates_are = refl; numbers_are = refl; rising = refl }
gates_8 n (suc zero) (suc (suc (suc zero))) p h k = record { gates_are = refl; numbers_are = refl; rising = refl }
gates_8 n (suc (suc zero)) zero p h k = record { gates_are = refl; numbers_are = refl; rising = refl }
gates_8 n (suc (suc zero)) (suc zero) p h k = record { gates_are = refl; numbers_are = refl; rising = refl }
gates_8 n (suc (suc zero)) (suc (suc zero)) p h k = record { gates_are = refl; numbers_are = refl; rising = refl }
gates_8 n (suc (suc zero)) (suc (suc (suc zero))) p h k = record { gates_are = refl; numbers_are = refl; rising = refl }
gates_8 n (suc (suc (suc zero))) zero p h k = record { gates_are = refl; numbers_are = refl; rising = refl }
gates_8 n (suc (suc (suc zero))) (suc zero) p h k = record { gates_are = refl; numbers_are = refl; rising = refl }
gates_8 n (suc (suc (suc zero))) (suc (suc zero)) p h k = record { gates_are = refl; numbers_are = refl; rising = refl }
gates_8 n (suc (suc (suc zero))) (suc (suc (suc zero))) p h k = record { gates_are = refl; numbers_are = refl; rising = refl }
gates_8 n zero m p h k = absurd (omega arith)
gates_8 n (suc (suc (suc (suc q)))) m p h k = absurd (omega arith)
gates_8 n q (suc (suc (suc (suc m)))) p h k = absurd (omega arith)

gates_16 : (n q m : ℕ) → 0 < q → q ≤ 3 → m ≤ 3 → GateTable (gates_of (record { n = n; q = q; m = m; grain = 16 })) q m 16
unfolding gates_of angles gate_cmp
gates_16 n (suc zero) zero p h k = record { gates_are = refl; numbers_are = refl; rising = refl }
gates_16 n (suc zero) (suc zero) p h k = record { gates_are = refl; numbers_are = refl; rising = refl }
gates_16 n (suc zero) (suc (suc zero)) p h k = record { gates_are = refl; numbers_are = refl; rising = refl }
gates_16 n (suc zero) (suc (suc (suc zero))) p h k = record { gates_are = refl; numbers_are = refl; rising = refl }
gates_16 n (suc (suc zero)) zero p h k = record { gates_are = refl; numbers_are = refl; rising = refl }
gates_16 n (suc (suc zero)) (suc zero) p h k = record { gates_are = refl; numbers_are = refl; rising = refl }
gates_16 n (suc (suc zero)) (suc (suc zero)) p h k = record { gates_are = refl; numbers_are = refl; rising = refl }
gates_16 n (suc (suc zero)) (suc (suc (suc zero))) p h k = record { gates_are = refl; numbers_are = refl; rising = refl }
gates_16 n (suc (suc (suc zero))) zero p h k = record { gates_are = refl; numbers_are = refl; rising = refl }
gates_16 n (suc (suc (suc zero))) (suc zero) p h k = record { gates_are = refl; numbers_are = refl; rising = refl }
gates_16 n (suc (suc (suc zero))) (suc (suc zero)) p h k = record { gates_are = refl; numbers_are = refl; rising = refl }
gates_16 n (suc (suc (suc zero))) (suc (suc (suc zero))) p h k = record { gates_are = refl; numbers_are = refl; rising = refl }
gates_16 n zero m p h k = absurd (omega arith)
gates_16 n (suc (suc (suc (suc q)))) m p h k = absurd (omega arith)
gates_16 n q (suc (suc (suc (suc m)))) p h k = absurd (omega arith)

gate_table : (n q m grain : ℕ) → 0 < q → q ≤ 3 → m ≤ 3 → is_grain grain ≡ true → GateTable (gates_of (record { n = n; q = q; m = m; grain = grain })) q m grain
gate_table n q m grain p h k l =
    for_grains (λ g. GateTable (gates_of (record { n = n; q = q; m = m; grain = g })) q m g) grain l (gates_4 n q m p h k) (gates_8 n q m p h k) (gates_16 n q m p h k)

-- ---- elements by their places

-- the number at a place of the numbers from 0 on
slice_get-below : (n k : ℕ) → k < n → slice_get (below n) k ≡ Some k
slice_get-below n k h =
    let within : k < length (below n) = omega (arith, length-range_with_len 0 n) in
    slice_get-get_or (below n) k 0 within ∙ ap Some (get_or-range_with_len 0 n k 0 h ∙ zero-add k)

-- the element at a place, where the list is a function of the places
listed_at : {A : Type 0} (f : ℕ → A) (xs : List A) (n k : ℕ) → xs ≡ map f (below n) → k < n → slice_get xs k ≡ Some (f k)
listed_at f xs n k e h = ap (λ ys. slice_get ys k) e ∙ slice_get-map f (below n) k ∙ ap (option_map f) (slice_get-below n k h)

-- an element's place, where the places are a function of the elements
place_of : {A : Type 0} (f : A → ℕ) (xs : List A) (n k : ℕ) (x : A) → map f xs ≡ below n → slice_get xs k ≡ Some x → f x ≡ k
place_of f xs n k x e h =
    let within : k < length xs = slice_get_within xs k x h in
    let lengths : length xs ≡ n = sym (length-map xs f) ∙ ap length e ∙ length-range_with_len 0 n in
    let here : Some (f x) ≡ slice_get (map f xs) k = sym (slice_get-map f xs k ∙ ap (option_map f) h) in
    let there : slice_get (map f xs) k ≡ Some k = ap (λ ys. slice_get ys k) e ∙ slice_get-below n k (omega arith) in
    ap (λ o. unwrap_or o 0) (here ∙ there)

-- the angle at a place
pub angle_listed : (m grain k : ℕ) → m ≤ 3 → is_grain grain ≡ true → k < length (angles m grain) → slice_get (angles m grain) k ≡ Some (angle_at m grain k)
angle_listed m grain k h l less =
    let table = angle_table m grain h l in
    listed_at (angle_at m grain) (angles m grain) (angle_count m grain) k table.angles_are (omega (arith, table.count))

-- an angle's place
pub angle_place : (m grain k : ℕ) (e : Expr) → m ≤ 3 → is_grain grain ≡ true → slice_get (angles m grain) k ≡ Some e → angle_number m grain e ≡ k
angle_place m grain k e h l listed = place_of (angle_number m grain) (angles m grain) (angle_count m grain) k e (angle_table m grain h l).numbers_are listed

-- the gate at a place
gate_listed : (n q m grain k : ℕ) → 0 < q → q ≤ 3 → m ≤ 3 → is_grain grain ≡ true → k < table_length q m grain → slice_get (gates_of (record { n = n; q = q; m = m; grain = grain })) k ≡ Some (gate_at q m grain k)
gate_listed n q m grain k p h j l less = listed_at (gate_at q m grain) (gates_of (record { n = n; q = q; m = m; grain = grain })) (table_length q m grain) k (gate_table n q m grain p h j l).gates_are less

-- a gate's place
pub gate_place : (n q m grain k : ℕ) (g : Op) → 0 < q → q ≤ 3 → m ≤ 3 → is_grain grain ≡ true → slice_get (gates_of (record { n = n; q = q; m = m; grain = grain })) k ≡ Some g → gate_number q m grain g ≡ k
gate_place n q m grain k g p h j l listed = place_of (gate_number q m grain) (gates_of (record { n = n; q = q; m = m; grain = grain })) (table_length q m grain) k g (gate_table n q m grain p h j l).numbers_are listed

-- ---- the order of gates

-- gates are totally ordered
pub gate_cmp-total : IsTotalOrder gate_cmp
unfolding gate_cmp
gate_cmp-total = on_texts gate_key

-- the first gate is before the second
abbrev pub gate_before : Op → Op → Bool
gate_before f g = is_lt (gate_cmp f g)

-- the ordering that passes the test for less
pub less_is : (r : Ordering) → is_lt r ≡ true → r ≡ Less
less_is Less e = refl
less_is Equal e = absurd (true≢false (sym e))
less_is Greater e = absurd (true≢false (sym e))

-- before chains
before_chain : (f g h : Op) → gate_before f g ≡ true → gate_before g h ≡ true → gate_before f h ≡ true
before_chain f g h p q = ap is_lt (gate_cmp-total.trans f g h (less_is (gate_cmp f g) p) (less_is (gate_cmp g h) q))

-- where each gate is before the next, each is before all later ones
rising_from_adjacent : (gs : List Op) → adjacent gs ≡ true → Rising gate_before gs
rising_from_adjacent [] e = tt
rising_from_adjacent (f ∷ []) e = (tt, tt)
rising_from_adjacent (f ∷ g ∷ gs) e =
    let first : gate_before f g ≡ true = first_so (gate_before f g) (adjacent (g ∷ gs)) e in
    let rest = rising_from_adjacent (g ∷ gs) (second_so (gate_before f g) (adjacent (g ∷ gs)) e) in
    ((first, each_weaker (λ h. gate_before g h ≡ true) (λ h. gate_before f h ≡ true) (λ h p. before_chain f g h first p) gs rest.0), rest)

-- the gates within limits rise
pub gates_rising : (b : Limits) → IsLawful b → Rising gate_before (gates_of b)
gates_rising b h =
    let range = in_range b h in
    rising_from_adjacent (gates_of b) (gate_table b.n b.q b.m b.grain range.some_qubit range.qubits range.params range.grain).rising

-- ---- what gates within limits are

-- the angles with m parameters have only those
angles_below : (m grain : ℕ) → AllByRecursion (AngleHasBelow m) (angles m grain)
unfolding angles
angles_below m grain =
    let consts = each-map (AngleHasBelow m) (λ k. Const (constant_of grain k)) (range_with_len 1 (2 * grain - 1)) (each_of_all (λ k. AngleHasBelow m (Const (constant_of grain k))) (λ k. tt) (range_with_len 1 (2 * grain - 1))) in
    let pluses = each-map (AngleHasBelow m) Plus (below m) (each_weaker (λ k. (0 ≤ k) × (k < 0 + m)) (λ k. k < m) (λ k h. omega arith) (below m) (each-range 0 m)) in
    let minuses = each-map (AngleHasBelow m) Minus (below m) (each_weaker (λ k. (0 ≤ k) × (k < 0 + m)) (λ k. k < m) (λ k h. omega arith) (below m) (each-range 0 m)) in
    let sums = each-flat_map (AngleHasBelow m) (λ i. map (Sum i) (between i m)) (below m) (each_weaker (λ k. (0 ≤ k) × (k < 0 + m)) (λ i. AllByRecursion (AngleHasBelow m) (map (Sum i) (between i m))) sum_below (below m) (each-range 0 m)) in
    each-append (AngleHasBelow m) (constants grain ++ map Plus (below m) ++ map Minus (below m)) (flat_map (λ i. map (Sum i) (between i m)) (below m))
    (each-append (AngleHasBelow m) (constants grain ++ map Plus (below m)) (map Minus (below m)) (each-append (AngleHasBelow m) (constants grain) (map Plus (below m)) consts pluses) minuses) sums
  where
    sum_below : (i : ℕ) → (0 ≤ i) × (i < 0 + m) → AllByRecursion (AngleHasBelow m) (map (Sum i) (between i m))
    sum_below i h = each-map (AngleHasBelow m) (Sum i) (between i m) (each_weaker (λ j. (i + 1 ≤ j) × (j < i + 1 + (m - (i + 1)))) (λ j. AngleHasBelow m (Sum i j)) (λ j l. (omega arith, omega arith, omega arith)) (between i m) (each-range (i + 1) (m - (i + 1))))

-- what holds of each kind of gate on qubits below q, at an angle with m parameters, holds of each gate within the limits
pub record OfEachKind (P : Op → Type 0) (q m grain : ℕ) : Type 0 where
  pub of_h : (t : ℕ) → t < q → P (H t)
  pub of_x : (t : ℕ) → t < q → P (X t)
  pub of_cx : (c t : ℕ) → c < q → t < q → c ≢ t → P (Cx c t)
  pub of_rz : (t : ℕ) (e : Expr) → t < q → Contains (angles m grain) e → P (Rz t e)

module _ (P : Op → Type 0) (b : Limits) (each : OfEachKind P b.q b.m b.grain) where
  -- the number is in the range of the qubits
  abbrev IsQubit : ℕ → Type 0
  IsQubit k = (0 ≤ k) × (k < 0 + b.q)

  -- the qubits other than c
  abbrev others : ℕ → List ℕ
  others c = filter (λ t. not (eqb t c)) (below b.q)

  -- of each gate of two qubits
  of_pairs : AllByRecursion P (flat_map (λ c. map (Cx c) (others c)) (below b.q))
  of_pairs = each-flat_map P (λ c. map (Cx c) (others c)) (below b.q) (each_weaker IsQubit (λ c. AllByRecursion P (map (Cx c) (others c))) of_pair (below b.q) (each-range 0 b.q))
    where
      other : (c t : ℕ) → not (eqb t c) ≡ true → c ≢ t
      other c t e = grind (arith, nat_tests)

      of_pair : (c : ℕ) → IsQubit c → AllByRecursion P (map (Cx c) (others c))
      of_pair c h = each-map P (Cx c) (others c)
          (each_weaker (λ t. IsQubit t × (not (eqb t c) ≡ true)) (λ t. P (Cx c t)) (λ t l. each.of_cx c t (omega (arith, h.1)) (omega (arith, l.0.1)) (other c t l.1))
          (others c) (each-filter IsQubit (λ t. not (eqb t c)) (below b.q) (each-range 0 b.q)))

  -- of each rotation
  of_rotations : AllByRecursion P (flat_map (λ t. map (Rz t) (angles b.m b.grain)) (below b.q))
  of_rotations = each-flat_map P (λ t. map (Rz t) (angles b.m b.grain)) (below b.q) (each_weaker IsQubit (λ t. AllByRecursion P (map (Rz t) (angles b.m b.grain))) of_rotation (below b.q) (each-range 0 b.q))
    where
      of_rotation : (t : ℕ) → IsQubit t → AllByRecursion P (map (Rz t) (angles b.m b.grain))
      of_rotation t h = each-map P (Rz t) (angles b.m b.grain) (each_weaker (Contains (angles b.m b.grain)) (λ e. P (Rz t e)) (λ e l. each.of_rz t e (omega (arith, h.1)) l) (angles b.m b.grain) (recursion_from_All (Contains (angles b.m b.grain)) (angles b.m b.grain) (All-contains_itself (angles b.m b.grain))))

  -- of each gate
  of_gates : AllByRecursion P (gates_of b)
  unfolding gates_of
  of_gates =
      let hs = each-map P H (below b.q) (each_weaker IsQubit (λ t. P (H t)) (λ t h. each.of_h t (omega (arith, h.1))) (below b.q) (each-range 0 b.q)) in
      let xs = each-map P X (below b.q) (each_weaker IsQubit (λ t. P (X t)) (λ t h. each.of_x t (omega (arith, h.1))) (below b.q) (each-range 0 b.q)) in
      let cxs = flat_map (λ c. map (Cx c) (others c)) (below b.q) in
      let rzs = flat_map (λ t. map (Rz t) (angles b.m b.grain)) (below b.q) in
      each-append P (map H (below b.q) ++ map X (below b.q) ++ cxs) rzs
      (each-append P (map H (below b.q) ++ map X (below b.q)) cxs (each-append P (map H (below b.q)) (map X (below b.q)) hs xs) of_pairs) of_rotations

  -- of a gate that is listed
  pub of_gate : (g : Op) → Contains (gates_of b) g → P g
  of_gate g h = All-contains P (gates_of b) g (All-from_recursion P (gates_of b) of_gates) h

-- the gate is on the qubits and parameters of the limits
abbrev pub IsWithin : Limits → Op → Type 0
IsWithin b g = ActsBelow b.q g × HasBelow b.m g

-- a gate within limits is on their qubits and parameters
pub gate_below : (b : Limits) (g : Op) → Contains (gates_of b) g → IsWithin b g
gate_below b g h = of_gate (IsWithin b) b record {
  of_h = λ t l. (l, tt);
  of_x = λ t l. (l, tt);
  of_cx = λ c t k l n. ((k, l, n), tt);
  of_rz = λ t e l k. (l, All-contains (AngleHasBelow b.m) (angles b.m b.grain) e (All-from_recursion (AngleHasBelow b.m) (angles b.m b.grain) (angles_below b.m b.grain)) k);
} g h

-- and so is each gate of a circuit
pub circuit_below : (b : Limits) (c : Circuit) → AllByRecursion (Contains (gates_of b)) c → IsOn b.q b.m c
circuit_below b c h = each_weaker (Contains (gates_of b)) (IsWithin b) (gate_below b) c h

-- the angle of a rotation is one of the angles
abbrev pub HasAngle : ℕ → ℕ → Op → Type 0
HasAngle m grain (H t) = Unit {0}
HasAngle m grain (X t) = Unit {0}
HasAngle m grain (Cx c t) = Unit {0}
HasAngle m grain (Rz t e) = Contains (angles m grain) e

-- a rotation within limits has one of the angles
pub has_angle : (b : Limits) (g : Op) → Contains (gates_of b) g → HasAngle b.m b.grain g
has_angle b g h = of_gate (HasAngle b.m b.grain) b record {
  of_h = λ t l. tt;
  of_x = λ t l. tt;
  of_cx = λ c t k l n. tt;
  of_rz = λ t e l k. k;
} g h

-- there is an element at each place below the length
pub listed_within : {A : Type 0} (xs : List A) (k : ℕ) → IsSome (slice_get xs k) ↔ k < length xs
listed_within [] k = (λ h. absurd (true≢false (sym h)), λ h. absurd (omega arith))
listed_within (x ∷ xs) zero = (λ h. omega arith, λ h. refl)
listed_within (x ∷ xs) (suc k) = let rest = listed_within xs k in (λ h. let below = rest.0 h in omega arith, λ h. rest.1 (omega arith))

-- an element is at the place that `Contains` gives
pub listed_from_contains : {A : Type 0} (xs : List A) (x : A) → (h : Contains xs x) → slice_get xs h.0 ≡ Some x
listed_from_contains xs x h = slice_get-get_or xs h.0 x h.1 ∙ ap Some h.2

-- what stands at a place is in the list
pub contains_from_listed : {A : Type 0} (xs : List A) (k : ℕ) (x : A) → slice_get xs k ≡ Some x → Contains xs x
contains_from_listed xs k x h = (k, slice_get_within xs k x h, get_or_from_slice_get xs k x x h)

-- the angle of a rotation within the limits has a place
pub angle_of_gate : (n q m grain k t : ℕ) (e : Expr) → m ≤ 3 → is_grain grain ≡ true → slice_get (gates_of (record { n = n; q = q; m = m; grain = grain })) k ≡ Some (Rz t e) → slice_get (angles m grain) (angle_number m grain e) ≡ Some e
angle_of_gate n q m grain k t e h allowed l =
    let found : Contains (angles m grain) e = has_angle (record { n = n; q = q; m = m; grain = grain }) (Rz t e) (contains_from_listed (gates_of (record { n = n; q = q; m = m; grain = grain })) k (Rz t e) l) in
    let listed = listed_from_contains (angles m grain) e found in
    ap (slice_get (angles m grain)) (angle_place m grain found.0 e h allowed listed) ∙ listed

-- ---- the gates of each kind by their numbers

module _ (n q m grain : ℕ) (p : 0 < q) (h : q ≤ 3) (j : m ≤ 3) (allowed : is_grain grain ≡ true) where
  -- the length of the list of gates
  pub gates_have_length : length (gates_of (record { n = n; q = q; m = m; grain = grain })) ≡ table_length q m grain
  gates_have_length = ap length (gate_table n q m grain p h j allowed).gates_are ∙ length-map (below (table_length q m grain)) (gate_at q m grain) ∙ length-range_with_len 0 (table_length q m grain)

  -- the first q gates are H
  pub h_at : (k : ℕ) → k < q → slice_get (gates_of (record { n = n; q = q; m = m; grain = grain })) k ≡ Some (H k)
  h_at k l =
      let is : gate_at q m grain k ≡ H k = rw (lt-ltb k q l) refl in
      gate_listed n q m grain k p h j allowed (omega arith) ∙ ap Some is

  -- the next q gates are X
  pub x_at : (k : ℕ) → q ≤ k → k < 2 * q → slice_get (gates_of (record { n = n; q = q; m = m; grain = grain })) k ≡ Some (X (k - q))
  x_at k l u =
      let is : gate_at q m grain k ≡ X (k - q) = rw (le-ltb k q l, lt-ltb k (2 * q) u) refl in
      gate_listed n q m grain k p h j allowed (omega (arith, le-mul_of_pos_right q p)) ∙ ap Some is

  -- then come the gates of two qubits, by control and then target
  pub cx_at : (k : ℕ) → 2 * q + k < q + q * q → slice_get (gates_of (record { n = n; q = q; m = m; grain = grain })) (2 * q + k) ≡ Some (Cx (k / (q - 1)) (other_at (k / (q - 1)) (k % (q - 1))))
  cx_at k u =
      let back : 2 * q + k - 2 * q ≡ k = omega arith in
      let not_x : 2 * q ≤ 2 * q + k = omega arith in
      let not_h : q ≤ 2 * q + k = omega arith in
      let is : gate_at q m grain (2 * q + k) ≡ Cx (k / (q - 1)) (other_at (k / (q - 1)) (k % (q - 1))) = rw (le-ltb (2 * q + k) q not_h, le-ltb (2 * q + k) (2 * q) not_x, lt-ltb (2 * q + k) (q + q * q) u, back) refl in
      gate_listed n q m grain (2 * q + k) p h j allowed (omega (arith, u)) ∙ ap Some is

  -- and then the rotations, by qubit and then angle
  pub rz_at : (k : ℕ) → k < q * angle_count m grain → slice_get (gates_of (record { n = n; q = q; m = m; grain = grain })) (q + q * q + k) ≡ Some (Rz (k / angle_count m grain) (angle_at m grain (k % angle_count m grain)))
  rz_at k u =
      let more : q ≤ q * q = le-mul_of_pos_right q p in
      let back : q + q * q + k - (q + q * q) ≡ k = omega arith in
      let not_cx : q + q * q ≤ q + q * q + k = omega arith in
      let not_x : 2 * q ≤ q + q * q + k = omega arith in
      let not_h : q ≤ q + q * q + k = omega arith in
      let is : gate_at q m grain (q + q * q + k) ≡ Rz (k / angle_count m grain) (angle_at m grain (k % angle_count m grain)) = rw (le-ltb (q + q * q + k) q not_h, le-ltb (q + q * q + k) (2 * q) not_x, le-ltb (q + q * q + k) (q + q * q) not_cx, back) refl in
      gate_listed n q m grain (q + q * q + k) p h j allowed (omega (arith, u)) ∙ ap Some is
