-- Equivalence is reflexive, symmetric and transitive: for gates of either kind, and so for circuits of rules and of programs.
use Rattle.std.proofs.Common.{ℕ, Bool, List, count_by, sym, ap, ◌∙◌, arith}
use Rattle.qz_circ.specs.Circuit.{Circuit}
use Rattle.qz_circ.specs.Exponent.{Exponent, zero_exponent, plus, minus}
use Rattle.qz_circ.specs.Paths.{Ways, entry, ways_along, paths, count, root2, is_h}
use Rattle.qz_circ.specs.Equivalence.{scaled_ways, SameUpTo, Equivalent}
use Rattle.qz_circ.specs.ProgramCircuits.{ProgramCircuit, program_entry, program_paths, is_program_h, scaled_program_ways, EquivalentProgramCircuits}
use Rattle.qz_circ.proofs.SignedWays.{AreProper}
use Rattle.qz_circ.proofs.Exponents.{minus-zero, minus_undone, minus_proper}
use Rattle.qz_circ.proofs.ProperWays.{proper_along}
use Rattle.qz_circ.proofs.Roots.{through_middle}

-- ---- ways

-- ways are the same up to 1 as themselves
same_up_to_one : (q : ℕ) (x : Ways) → SameUpTo q zero_exponent x x
same_up_to_one q x = record {
  phase = omega arith;
  counts = λ i j e hi hj he. ap (count (x i j)) (sym (minus-zero e he));
}

-- the phase is undone by its inverse
same_up_to_inverse : (q : ℕ) (u : Exponent) (x y : Ways) → SameUpTo q u x y → SameUpTo q (minus zero_exponent u) y x
same_up_to_inverse q u x y h = record {
  phase = minus_proper zero_exponent u;
  counts = λ i j e hi hj he.
      let there = h.counts i j (minus e (minus zero_exponent u)) hi hj (minus_proper e (minus zero_exponent u)) in
      sym (there ∙ ap (count (y i j)) (minus_undone e u he h.phase));
}

-- the ways times a power of √2
abbrev pub scaled : ℕ → Ways → Ways
scaled h x i j = root2 h (x i j)

-- all ways between two states are proper
abbrev pub AreProperWays : Ways → Type 0
AreProperWays x = (i j : ℕ) → AreProper (x i j)

-- through ways in the middle, the phases add up and the roots of the middle cancel
same_up_to_both : (q ha hb hc : ℕ) (u v : Exponent) (x y z : Ways) → AreProperWays x → AreProperWays y → AreProperWays z →
    SameUpTo q u (scaled hb x) (scaled ha y) → SameUpTo q v (scaled hc y) (scaled hb z) → SameUpTo q (plus u v) (scaled hc x) (scaled ha z)
same_up_to_both q ha hb hc u v x y z px py pz first second = record {
  phase = omega arith;
  counts = λ i j e hi hj. through_middle ha hb hc u v (x i j) (y i j) (z i j) first.phase second.phase (px i j) (py i j) (pz i j)
      (λ d hd. first.counts i j d hi hj hd) (λ d hd. second.counts i j d hi hj hd) e;
}

-- ---- gates of either kind

-- gates by the ways through one, and by a test for those that owe a factor 1/√2
module _ {G : Type 0} (through : G → Ways) (is_half : G → Bool) (q : ℕ) where
  -- the same unitary up to a phase
  abbrev pub IsSameUnitary : List G → List G → Type 0
  IsSameUnitary a b = (u : Exponent) × SameUpTo q u (scaled (count_by is_half b) (ways_along through q a)) (scaled (count_by is_half a) (ways_along through q b))

  -- gates are the same unitary as themselves
  same_itself : (a : List G) → IsSameUnitary a a
  same_itself a = (zero_exponent, same_up_to_one q (scaled (count_by is_half a) (ways_along through q a)))

  -- in either order
  pub same_back : (a b : List G) → IsSameUnitary a b → IsSameUnitary b a
  same_back a b (u, h) = (minus zero_exponent u, same_up_to_inverse q u (scaled (count_by is_half b) (ways_along through q a)) (scaled (count_by is_half a) (ways_along through q b)) h)

  -- and over gates in the middle
  same_through : (a b c : List G) → IsSameUnitary a b → IsSameUnitary b c → IsSameUnitary a c
  same_through a b c (u, first) (v, second) =
      (plus u v, same_up_to_both q (count_by is_half a) (count_by is_half b) (count_by is_half c) u v (ways_along through q a) (ways_along through q b) (ways_along through q c) (proper_along through q a) (proper_along through q b) (proper_along through q c) first second)

-- ---- circuits of rules and of programs

-- a circuit is equivalent to itself
pub reflexive : (q : ℕ) (a : Circuit) → Equivalent q a a
unfolding scaled_ways paths
reflexive q = same_itself entry is_h q

-- equivalence goes both ways
pub symmetric : (q : ℕ) (a b : Circuit) → Equivalent q a b → Equivalent q b a
unfolding scaled_ways paths
symmetric q = same_back entry is_h q

-- equivalence goes on
pub transitive : (q : ℕ) (a b c : Circuit) → Equivalent q a b → Equivalent q b c → Equivalent q a c
unfolding scaled_ways paths
transitive q = same_through entry is_h q

-- a program is equivalent to itself
pub program_reflexive : (q : ℕ) (a : ProgramCircuit) → EquivalentProgramCircuits q a a
unfolding scaled_program_ways program_paths
program_reflexive q = same_itself program_entry is_program_h q

-- equivalence of programs goes both ways
pub program_symmetric : (q : ℕ) (a b : ProgramCircuit) → EquivalentProgramCircuits q a b → EquivalentProgramCircuits q b a
unfolding scaled_program_ways program_paths
program_symmetric q = same_back program_entry is_program_h q

-- equivalence of programs goes on
pub program_transitive : (q : ℕ) (a b c : ProgramCircuit) → EquivalentProgramCircuits q a b → EquivalentProgramCircuits q b c → EquivalentProgramCircuits q a c
unfolding scaled_program_ways program_paths
program_transitive q = same_through program_entry is_program_h q
