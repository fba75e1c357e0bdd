-- Gates of either kind that are the same unitary up to a phase stay so with the same gates before them and after them.
use Rattle.std.proofs.Common.{◌≡◌, ℕ, ◌+◌, ◌^◌, ◌<◌, Bool, List, [], ◌∷◌, ◌++◌, map, count_by, cond, sym, ap, subst, ◌∙◌, arith}
use Rattle.std.specs.List.{AllByRecursion}
use Rattle.std.proofs.lemmas.List.{map-append}
use Rattle.std.proofs.lemmas.List.Sums.{sum_by-append}
use Rattle.qz_circ.specs.Circuit.{Circuit, ActsBelow}
use Rattle.qz_circ.specs.Exponent.{Exponent, IsExponent, minus}
use Rattle.qz_circ.specs.Paths.{Ways, ways_along, entry, paths, count, root2, is_h}
use Rattle.qz_circ.specs.Equivalence.{SameUpTo, scaled_ways, Equivalent}
use Rattle.qz_circ.specs.ProgramCircuits.{ProgramCircuit, IsProgramGate, program_entry, program_paths, is_program_h, scaled_program_ways, EquivalentProgramCircuits}
use Rattle.qz_circ.proofs.Exponents.{minus_proper}
use Rattle.qz_circ.proofs.GateSteps.{Gate, Amount, Amounts, step}
use Rattle.qz_circ.proofs.Through.{gate_ways, IsGate}
use Rattle.qz_circ.proofs.ProperWays.{proper_along}
use Rattle.qz_circ.proofs.RuleGates.{as_gate, as_program_gate, entry_ways, program_entry_ways, gate_is, program_gate_is}
use Rattle.qz_circ.proofs.Roots.{roots, count_roots}
use Rattle.qz_circ.proofs.RisingLists.{each_weaker, each-map, each-append}
use Rattle.qz_paths.proofs.Equivalences.{scaled, IsSameUnitary}
use Rattle.qz_paths.proofs.Runs.{run, AreGates, start, Along, same_goes_over, minus_goes_over, step_along, run_along, roots_along, roots-add, step_roots, run_roots, run-append, run_first, counts_along}

-- ---- gates whose amounts differ by a phase

-- between every two states of q qubits each exponent has, in the amounts of gates a times √2 n times, what it has less u in those of b times √2 m times
abbrev pub Alike : ℕ → Exponent → ℕ → ℕ → List Gate → List Gate → Type 0
Alike q u n m a b = (i j : ℕ) → i < 2 ^ q → j < 2 ^ q → Along (λ e. minus e u) (roots n (run a (start j) i)) (roots m (run b (start j) i))

-- a gate before others, times a power of √2
front_roots : (n q : ℕ) (gates : List Gate) (g : Gate) (i j : ℕ) (e : Exponent) → IsGate q g → roots n (run (g ∷ gates) (start j) i) e ≡ step g (λ l. roots n (run gates (start l) i)) j e
front_roots n q gates g i j e is =
    ap (λ (x : Amount). roots n x e) (λ d x. run_first q gates g i j x is d) ∙ sym (step_roots n g (λ l. run gates (start l) i) j e)

-- gates after others, times a power of √2
back_roots : (n : ℕ) (gates back : List Gate) (i j : ℕ) (e : Exponent) → roots n (run (gates ++ back) (start j) i) e ≡ run back (λ k. roots n (run gates (start j) k)) i e
back_roots n gates back i j e =
    ap (λ (v : Amounts). roots n (v i) e) (run-append gates back (start j)) ∙ sym (run_roots n back (run gates (start j)) i e)

module _ (q : ℕ) (u : Exponent) (n m : ℕ) (a b : List Gate) where
  -- the same gates before both
  alike_front : (front : List Gate) → AreGates q front → Alike q u n m a b → Alike q u n m (front ++ a) (front ++ b)
  alike_front [] are alike i j hi hj e he = alike i j hi hj e he
  alike_front (g ∷ front) are alike i j hi hj e he =
      let rest = alike_front front are.1 alike in
      front_roots n q (front ++ a) g i j e are.0 ∙
      step_along (λ x. minus x u) (minus_goes_over u) q g (λ l. roots n (run (front ++ a) (start l) i)) (λ l. roots m (run (front ++ b) (start l) i)) are.0.within (λ l hl. rest i l hi hl) j hj e he ∙
      sym (front_roots m q (front ++ b) g i j (minus e u) are.0)

  -- the same gates after both
  alike_back : (back : List Gate) → AreGates q back → Alike q u n m a b → Alike q u n m (a ++ back) (b ++ back)
  alike_back back are alike i j hi hj e he =
      back_roots n a back i j e ∙
      run_along (λ x. minus x u) (minus_goes_over u) q back (λ k. roots n (run a (start j) k)) (λ k. roots m (run b (start j) k)) are (λ k hk. alike k j hk hj) i hi e he ∙
      sym (back_roots m b back i j (minus e u))

  -- more roots of two
  pub alike_more : (h : ℕ) → Alike q u n m a b → Alike q u (h + n) (h + m) a b
  alike_more h alike i j hi hj e he =
      ap (λ (x : Amount). x e) (roots-add h n (run a (start j) i)) ∙
      roots_along (λ x. minus x u) (minus_goes_over u) h (roots n (run a (start j) i)) (roots m (run b (start j) i)) (alike i j hi hj) e he ∙
      ap (λ (x : Amount). x (minus e u)) (sym (roots-add h m (run b (start j) i)))

-- the same powers and the same gates, written otherwise
pub alike_as : (q : ℕ) (u : Exponent) (n m k l : ℕ) (a b c d : List Gate) → n ≡ k → m ≡ l → a ≡ c → b ≡ d → Alike q u n m a b → Alike q u k l c d
alike_as q u n m k l a b c d first second third fourth alike i j hi hj e he =
    sym (λ x. roots (first x) (run (third x) (start j) i) e) ∙ alike i j hi hj e he ∙ (λ x. roots (second x) (run (fourth x) (start j) i) (minus e u))

-- ---- gates of rules and of programs, by the ways through one and by a test for those that owe a factor 1/√2

module _ {G : Type 0} (through : G → Ways) (as_one : G → Gate) (same : (g : G) → through g ≡ gate_ways (as_one g)) (is_half : G → Bool) (q : ℕ) where
  -- what ways through gates count, times a power of √2
  count_rooted : (n : ℕ) (gates : List G) (i j : ℕ) (e : Exponent) → AreGates q (map as_one gates) → i < 2 ^ q → IsExponent e →
      count (root2 n (ways_along through q gates i j)) e ≡ roots n (run (map as_one gates) (start j) i) e
  count_rooted n gates i j e are hi he =
      count_roots n (ways_along through q gates i j) e (proper_along through q gates i j) he ∙
      roots_along (λ x. x) same_goes_over n (count (ways_along through q gates i j)) (run (map as_one gates) (start j) i) (λ x hx. counts_along through as_one same q gates i j x are hi hx) e he

  -- ways that are the same up to a monomial are those of gates whose amounts differ by its exponent
  pub alike_of : (u : Exponent) (n m : ℕ) (a b : List G) → AreGates q (map as_one a) → AreGates q (map as_one b) →
      SameUpTo q u (scaled n (ways_along through q a)) (scaled m (ways_along through q b)) → Alike q u n m (map as_one a) (map as_one b)
  alike_of u n m a b are_a are_b h i j hi hj e he =
      sym (count_rooted n a i j e are_a hi he) ∙ h.counts i j e hi hj he ∙ count_rooted m b i j (minus e u) are_b hi (minus_proper e u)

  -- and back
  pub same_of : (u : Exponent) (n m : ℕ) (a b : List G) → IsExponent u → AreGates q (map as_one a) → AreGates q (map as_one b) →
      Alike q u n m (map as_one a) (map as_one b) → SameUpTo q u (scaled n (ways_along through q a)) (scaled m (ways_along through q b))
  same_of u n m a b phase are_a are_b h = record {
    phase = phase;
    counts = λ i j e hi hj he.
        count_rooted n a i j e are_a hi he ∙ h i j hi hj e he ∙ sym (count_rooted m b i j (minus e u) are_b hi (minus_proper e u));
  }

  -- how many gates of three parts owe the factor
  count_around : (front a back : List G) → (count_by is_half front + count_by is_half back) + count_by is_half a ≡ count_by is_half (front ++ a ++ back)
  count_around front a back = omega (arith, sum_by-append (λ g. cond (is_half g) 1 0) (front ++ a) back, sum_by-append (λ g. cond (is_half g) 1 0) front a)

  -- the gates of three parts
  gates_around : (front a back : List G) → map as_one front ++ map as_one a ++ map as_one back ≡ map as_one (front ++ a ++ back)
  gates_around front a back = sym (map-append as_one (front ++ a) back ∙ ap (λ gates. gates ++ map as_one back) (map-append as_one front a))

  -- each gate of three parts is one
  are_around : (front a back : List G) → AreGates q (map as_one front) → AreGates q (map as_one a) → AreGates q (map as_one back) → AreGates q (map as_one front ++ map as_one a ++ map as_one back)
  are_around front a back hf ha hb = each-append (IsGate q) (map as_one front ++ map as_one a) (map as_one back) (each-append (IsGate q) (map as_one front) (map as_one a) hf ha) hb

  -- with the same gates before them and after them
  congruent : (front back a b : List G) → AreGates q (map as_one front) → AreGates q (map as_one back) → AreGates q (map as_one a) → AreGates q (map as_one b) →
      IsSameUnitary through is_half q a b → IsSameUnitary through is_half q (front ++ a ++ back) (front ++ b ++ back)
  congruent front back a b hf hk ha hb (u, h) =
      let more = count_by is_half front + count_by is_half back in
      let n = count_by is_half b in
      let m = count_by is_half a in
      let inner = alike_of u n m a b ha hb h in
      let before = alike_front q u n m (map as_one a) (map as_one b) (map as_one front) hf inner in
      let after = alike_back q u n m (map as_one front ++ map as_one a) (map as_one front ++ map as_one b) (map as_one back) hk before in
      let scaled_more = alike_more q u n m (map as_one front ++ map as_one a ++ map as_one back) (map as_one front ++ map as_one b ++ map as_one back) more after in
      let whole = alike_as q u (more + n) (more + m) (count_by is_half (front ++ b ++ back)) (count_by is_half (front ++ a ++ back))
      (map as_one front ++ map as_one a ++ map as_one back) (map as_one front ++ map as_one b ++ map as_one back) (map as_one (front ++ a ++ back)) (map as_one (front ++ b ++ back))
      (count_around front b back) (count_around front a back) (gates_around front a back) (gates_around front b back) scaled_more in
      let are : (c : List G) → AreGates q (map as_one c) → AreGates q (map as_one (front ++ c ++ back)) = λ c hc. subst (AreGates q) (gates_around front c back) (are_around front c back hf hc hk) in
      (u, same_of u (count_by is_half (front ++ b ++ back)) (count_by is_half (front ++ a ++ back)) (front ++ a ++ back) (front ++ b ++ back) h.phase (are a ha) (are b hb) whole)

-- gates of a rule on qubits below q
pub rule_gates : (q : ℕ) (c : Circuit) → AllByRecursion (ActsBelow q) c → AreGates q (map as_gate c)
rule_gates q c h = each-map (IsGate q) as_gate c (each_weaker (ActsBelow q) (λ g. IsGate q (as_gate g)) (gate_is q) c h)

-- gates of a program on q qubits
pub program_gates : (q : ℕ) (c : ProgramCircuit) → AllByRecursion (IsProgramGate q) c → AreGates q (map as_program_gate c)
program_gates q c h = each-map (IsGate q) as_program_gate c (each_weaker (IsProgramGate q) (λ g. IsGate q (as_program_gate g)) (program_gate_is q) c h)

-- equivalent circuits with the same gates before them and after them
pub congruent_circuits : (q : ℕ) (front back a c : Circuit) → AllByRecursion (ActsBelow q) front → AllByRecursion (ActsBelow q) back → AllByRecursion (ActsBelow q) a → AllByRecursion (ActsBelow q) c →
    Equivalent q a c → Equivalent q (front ++ a ++ back) (front ++ c ++ back)
unfolding scaled_ways paths
congruent_circuits q front back a c hf hk ha hc h = congruent entry as_gate entry_ways is_h q front back a c (rule_gates q front hf) (rule_gates q back hk) (rule_gates q a ha) (rule_gates q c hc) h

-- and so for programs
pub congruent_programs : (q : ℕ) (front back a c : ProgramCircuit) → AllByRecursion (IsProgramGate q) front → AllByRecursion (IsProgramGate q) back → AllByRecursion (IsProgramGate q) a → AllByRecursion (IsProgramGate q) c →
    EquivalentProgramCircuits q a c → EquivalentProgramCircuits q (front ++ a ++ back) (front ++ c ++ back)
unfolding scaled_program_ways program_paths
congruent_programs q front back a c hf hk ha hc h = congruent program_entry as_program_gate program_entry_ways is_program_h q front back a c (program_gates q front hf) (program_gates q back hk) (program_gates q a ha) (program_gates q c hc) h
