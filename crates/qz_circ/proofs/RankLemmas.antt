-- Ranks: the place of a circuit among all circuits within limits is how many of them are earlier.
use Rattle.std.proofs.Common.{◌≡◌, ℕ, zero, suc, ◌+◌, ◌-◌, ◌<◌, ◌≤◌, ◌↔◌, Bool, true, false, ltb, ltb-true, List, [], ◌∷◌, ◌++◌, map, length, get_or, Contains, sym, ap, ◌∙◌, arith, is_lt, Less, ◌*◌, ◌/◌, ◌%◌, mod-lt, div-add-mod', div-le_self, mul-le-mul_right}
use Rattle.std.specs.Cmp.{IsTotalOrder, nat_cmp_total, on_total, then_total, tied_itself}
use Rattle.std.specs.Cmp.Lexicographic.{lists_total, slice_cmp}
use Rattle.std.specs.Ordering.{nat_cmp, ordering_then, ordering_reverse}
use Rattle.std.specs.List.{flat_map, AllByRecursion}
use Rattle.std.proofs.lemmas.Bool.Decides.{nat_tests}
use Rattle.std.proofs.lemmas.List.{get_or_default, length_push}
use Rattle.qz_circ.specs.declared.circuit.Op.{Op}
use Rattle.qz_circ.specs.declared.circuit.Op.TheVariants.{H}
use Rattle.qz_circ.specs.Circuit.{Circuit, Limits, Within, gates_of, below}
use Rattle.qz_circ.specs.Bounds.{IsLawful, gate_count}
use Rattle.qz_circ.specs.Order.{gate_cmp, circuit_cmp, is_before, circuits_of, all_circuits, rank, circuit_at}
use Rattle.qz_circ.proofs.BoundsLemmas.{in_range, nine_gates}
use Rattle.qz_circ.proofs.CircuitLists.{shorter, length-all_circuits, few_circuits}
use Rattle.qz_circ.proofs.RisingLists.{Rising, AllBefore, each_of_all, each_weaker, each-map, rising-map, rising_weaker, rising-flat_map, rising-range, rising_at, count_earlier, places_earlier}
use Rattle.qz_circ.proofs.GateNumbers.{gate_before, gate_cmp-total, gates_rising, less_is}
use Rattle.qz_circ.proofs.CircuitPlaces.{circuits_within, all_contains, circuit_at-with_last, shorter-with_last, shorter-monotone}

-- ---- the order of circuits

-- the first different gate decides
abbrev pub gates_before : Circuit → Circuit → Bool
gates_before c d = is_lt (slice_cmp gate_cmp c d)

-- circuits are totally ordered
pub circuit_cmp-total : IsTotalOrder circuit_cmp
unfolding circuit_cmp
circuit_cmp-total = then_total (on_total length nat_cmp_total) (lists_total gate_cmp-total)

-- no circuit is before itself
not_before_itself : (c : Circuit) → is_before c c ≡ false
not_before_itself c = ap is_lt (tied_itself circuit_cmp-total c)

-- of two circuits only one is before the other
before_one_way : (c d : Circuit) → is_before c d ≡ true → is_before d c ≡ false
before_one_way c d h = ap is_lt (circuit_cmp-total.antisymm d c ∙ ap ordering_reverse (less_is (circuit_cmp c d) h))

-- of two circuits with one length the first different gate decides
pub same_length_before : (k : ℕ) (c d : Circuit) → length c ≡ k → length d ≡ k → gates_before c d ≡ true → is_before c d ≡ true
unfolding circuit_cmp
same_length_before k c d p q h =
    let tied : nat_cmp (length c) (length d) ≡ nat_cmp k k = λ i. nat_cmp (p i) (q i) in
    ap (λ r. is_lt (ordering_then r (slice_cmp gate_cmp c d))) (tied ∙ tied_itself nat_cmp_total k) ∙ h

-- a shorter circuit is before a longer one
pub shorter_before : (j k : ℕ) (c d : Circuit) → length c ≡ j → length d ≡ k → j < k → is_before c d ≡ true
unfolding circuit_cmp
shorter_before j k c d p q h =
    let less : nat_cmp (length c) (length d) ≡ Less = grind (arith, nat_tests) in
    ap (λ r. is_lt (ordering_then r (slice_cmp gate_cmp c d))) less

-- ---- all circuits rise

module _ (gates : List Op) (rising : Rising gate_before gates) where
  -- the circuits of one length rise
  one_length_rising : (k : ℕ) → Rising gates_before (circuits_of gates k)
  unfolding circuits_of
  one_length_rising zero = (tt, tt)
  one_length_rising (suc k) =
      rising-flat_map gate_before gates_before (λ g. map (λ c. g ∷ c) (circuits_of gates k)) across
      (λ g. rising-map gates_before gates_before (λ c. g ∷ c) (λ c d h. ap (λ r. is_lt (ordering_then r (slice_cmp gate_cmp c d))) (tied_itself gate_cmp-total g) ∙ h) (circuits_of gates k) (one_length_rising k))
      gates rising
    where
      across : (f g : Op) → gate_before f g ≡ true → AllBefore gates_before (map (λ c. f ∷ c) (circuits_of gates k)) (map (λ c. g ∷ c) (circuits_of gates k))
      across f g h =
          each-map (λ x. AllByRecursion (λ y. gates_before x y ≡ true) (map (λ c. g ∷ c) (circuits_of gates k))) (λ c. f ∷ c) (circuits_of gates k)
          (each_of_all (λ c. AllByRecursion (λ y. gates_before (f ∷ c) y ≡ true) (map (λ d. g ∷ d) (circuits_of gates k)))
          (λ c. each-map (λ y. gates_before (f ∷ c) y ≡ true) (λ d. g ∷ d) (circuits_of gates k)
          (each_of_all (λ d. gates_before (f ∷ c) (g ∷ d) ≡ true) (λ d. ap (λ r. is_lt (ordering_then r (slice_cmp gate_cmp c d))) (less_is (gate_cmp f g) h)) (circuits_of gates k)))
          (circuits_of gates k))

  -- and have that length
  has_length : (k : ℕ) → AllByRecursion (λ (c : Circuit). length c ≡ k) (circuits_of gates k)
  has_length k = each_weaker (λ c. (length c ≡ k) × AllByRecursion (Contains gates) c) (λ c. length c ≡ k) (λ c h. h.0) (circuits_of gates k) (circuits_within gates k)

  -- the circuits of all lengths rise
  lengths_rising : (n : ℕ) → Rising is_before (flat_map (circuits_of gates) (below n))
  lengths_rising n = rising-flat_map ltb is_before (circuits_of gates) across each (below n) (rising-range 0 n)
    where
      each : (k : ℕ) → Rising is_before (circuits_of gates k)
      each k = rising_weaker (λ c. length c ≡ k) gates_before is_before (same_length_before k) (circuits_of gates k) (has_length k) (one_length_rising k)

      across : (j k : ℕ) → ltb j k ≡ true → AllBefore is_before (circuits_of gates j) (circuits_of gates k)
      across j k h =
          each_weaker (λ c. length c ≡ j) (λ c. AllByRecursion (λ d. is_before c d ≡ true) (circuits_of gates k))
          (λ c p. each_weaker (λ d. length d ≡ k) (λ d. is_before c d ≡ true) (λ d q. shorter_before j k c d p q (ltb-true j k h)) (circuits_of gates k) (has_length k))
          (circuits_of gates j) (has_length j)

-- the circuits within limits rise
all_rising : (b : Limits) → IsLawful b → Rising is_before (all_circuits b)
unfolding all_circuits
all_rising b h = lengths_rising (gates_of b) (gates_rising b h) (suc b.n)

-- ---- ranks are places

-- the circuit at a place has the place as its rank
pub rank-circuit_at : (b : Limits) → IsLawful b → (r : ℕ) → r < length (all_circuits b) → rank b (circuit_at b r) ≡ r
unfolding rank circuit_at
rank-circuit_at b h r l = count_earlier is_before not_before_itself before_one_way (all_circuits b) r [] (all_rising b h) l

-- a circuit within the limits has a place
pub record Placed (b : Limits) (c : Circuit) : Type 0 where
  pub place : ℕ
  pub listed : place < length (all_circuits b)
  pub here : circuit_at b place ≡ c

-- each circuit within limits has a place
pub placed : (b : Limits) (c : Circuit) → Within b c → Placed b c
unfolding circuit_at
placed b c w =
    let found = all_contains b c w in
    record { place = found.0; listed = found.1; here = get_or_default (all_circuits b) found.0 [] c found.1 ∙ found.2 }

-- which is its rank
pub rank_is_place : (b : Limits) → IsLawful b → (c : Circuit) (p : Placed b c) → rank b c ≡ p.place
rank_is_place b h c p = ap (rank b) (sym p.here) ∙ rank-circuit_at b h p.place p.listed

-- the circuit at the rank of a circuit is that circuit
pub circuit_at-rank : (b : Limits) → IsLawful b → (c : Circuit) → Within b c → circuit_at b (rank b c) ≡ c
circuit_at-rank b h c w = let p = placed b c w in ap (circuit_at b) (rank_is_place b h c p) ∙ p.here

-- a rank is a place
pub rank_listed : (b : Limits) → IsLawful b → (c : Circuit) → Within b c → rank b c < length (all_circuits b)
rank_listed b h c w = let p = placed b c w in omega (arith, rank_is_place b h c p, p.listed)

module _ (b : Limits) (h : IsLawful b) (c d : Circuit) (v : Within b c) (w : Within b d) where
  -- a circuit with a smaller rank is earlier
  earlier_at : Placed b c → Placed b d → rank b c < rank b d → is_before c d ≡ true
  unfolding circuit_at
  earlier_at p q l =
      let places : p.place < q.place = omega (arith, rank_is_place b h c p, rank_is_place b h d q, l) in
      let found = rising_at is_before (all_circuits b) p.place q.place [] (all_rising b h) places q.listed in
      (λ i. is_before (sym p.here i) (sym q.here i)) ∙ found

  -- an earlier circuit has a smaller rank
  earlier_place : Placed b c → Placed b d → is_before c d ≡ true → rank b c < rank b d
  unfolding circuit_at
  earlier_place p q e =
      let there : is_before (circuit_at b p.place) (circuit_at b q.place) ≡ true = (λ i. is_before (p.here i) (q.here i)) ∙ e in
      let places = places_earlier is_before not_before_itself before_one_way (all_circuits b) p.place q.place [] (all_rising b h) p.listed q.listed there in
      omega (arith, rank_is_place b h c p, rank_is_place b h d q, places)

  -- earlier circuits have smaller ranks
  pub before_by_rank : (is_before c d ≡ true) ↔ (rank b c < rank b d)
  before_by_rank = (earlier_place (placed b c v) (placed b d w), earlier_at (placed b c v) (placed b d w))

-- ---- arithmetic on ranks

-- there are at most nine million circuits within limits
pub all_few : (b : Limits) → IsLawful b → length (all_circuits b) ≤ 9000000
all_few b h =
    let range = in_range b h in
    omega (arith, length-all_circuits b, few_circuits (gate_count b) b.n 1000000 (nine_gates b range) range.circuits)

-- the circuit with a rank over 0 is an earlier one with one gate more
pub record LastGate (b : Limits) (r before last : ℕ) : Type 0 where
  pub listed : before < length (all_circuits b)
  pub gate : last < gate_count b
  pub circuit : circuit_at b r ≡ circuit_at b before ++ get_or (gates_of b) last (H 0) ∷ []
  pub longer : length (circuit_at b r) ≡ length (circuit_at b before) + 1

-- the last gate of the circuit with a rank, by division by the number of gates
pub last_gate : (b : Limits) → IsLawful b → (r gates : ℕ) → gates ≡ gate_count b → 0 < r → r < length (all_circuits b) → LastGate b r ((r - 1) / gates) ((r - 1) % gates)
last_gate b h r gates e p l =
    let nine = nine_gates b (in_range b h) in
    let digit : (r - 1) % gates < gates = mod-lt (r - 1) (omega arith) in
    let place : r ≡ (r - 1) / gates * gates + (r - 1) % gates + 1 = omega (arith, div-add-mod' (r - 1) gates) in
    let smaller : (r - 1) / gates ≤ r - 1 = div-le_self (r - 1) gates in
    let same : (r - 1) / gates * gates ≡ (r - 1) / gates * gate_count b = ap (λ g. (r - 1) / gates * g) e in
    let circuit = circuit_at-with_last b ((r - 1) / gates) ((r - 1) % gates) r (omega (arith, place, same)) (omega (arith, digit, e)) l in
    record {
      listed = omega (arith, smaller, l);
      gate = omega (arith, digit, e);
      circuit = circuit;
      longer = ap length circuit ∙ length_push (circuit_at b ((r - 1) / gates)) (get_or (gates_of b) ((r - 1) % gates) (H 0));
    }

-- the rank of a circuit with one gate more, where the circuit has fewer gates than the limits allow
pub record OneMore (b : Limits) (i before last r : ℕ) : Type 0 where
  pub few : r < shorter (gate_count b) (suc (suc i))
  pub listed : r < length (all_circuits b)
  pub circuit : circuit_at b r ≡ circuit_at b before ++ get_or (gates_of b) last (H 0) ∷ []

-- a gate after a circuit that is shorter than the limits allow
pub one_more : (b : Limits) (i before last gates r : ℕ) → gates ≡ gate_count b → r ≡ before * gates + last + 1 → i < b.n → before < shorter (gate_count b) (suc i) → last < gate_count b → OneMore b i before last r
one_more b i before last gates r e place short few digit =
    let g = gate_count b in
    let same : before * gates ≡ before * g = ap (λ k. before * k) e in
    let row : suc before * g ≤ shorter g (suc i) * g = mul-le-mul_right g few in
    let below_next : r < shorter g (suc (suc i)) = omega (arith, shorter-with_last g (suc i), row, same, place, digit) in
    let longest : suc (suc i) + (b.n - suc i) ≡ suc b.n = omega arith in
    let more = shorter-monotone g (suc (suc i)) (b.n - suc i) in
    let listed : r < length (all_circuits b) = omega (arith, below_next, more, ap (shorter g) longest, length-all_circuits b) in
    record { few = below_next; listed = listed; circuit = circuit_at-with_last b before last r (omega (arith, place, same)) digit listed }

-- there is a gate to choose
pub some_gate : (b : Limits) → IsLawful b → (gates : ℕ) → gates ≡ gate_count b → 0 < gates
some_gate b h gates e = omega (arith, e, nine_gates b (in_range b h))
