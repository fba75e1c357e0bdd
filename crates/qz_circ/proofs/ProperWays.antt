-- Every way through gates, of rules or of programs, has an exponent with a turn below 512.
use Rattle.std.proofs.Common.{ℕ, ◌^◌, List, [], ◌∷◌, true, false, arith}
use Rattle.std.specs.Prelude.{pos, ◌==◌, Bool, fold}
use Rattle.std.specs.List.{flat_map}
use Rattle.qz_circ.specs.Circuit.{Circuit, below}
use Rattle.qz_circ.specs.Exponent.{zero_exponent}
use Rattle.qz_circ.specs.Paths.{Ways, products, way_if, entry, ways_through, identity_ways, ways_along, paths}
use Rattle.qz_circ.specs.ProgramCircuits.{ProgramCircuit, program_entry, program_paths}
use Rattle.qz_circ.proofs.SignedWays.{AreProper}
use Rattle.qz_circ.proofs.Totals.{AreProper-append, AreProper-products}

-- the ways through one more gate
pub proper_through : (q : ℕ) (first second : Ways) (i j : ℕ) → AreProper (ways_through q first second i j)
unfolding ways_through
proper_through q first second i j = each (below (2 ^ q))
  where
    each : (ks : List ℕ) → AreProper (flat_map (λ k. products (first k j) (second i k)) ks)
    each [] = tt
    each (k ∷ ks) = AreProper-append (products (first k j) (second i k)) (flat_map (λ k. products (first k j) (second i k)) ks) (AreProper-products (first k j) (second i k)) (each ks)

-- the ways through some gates after proper ways
proper_after : {G : Type 0} (through : G → Ways) (q : ℕ) (start : Ways) (gates : List G) → ((i j : ℕ) → AreProper (start i j)) → (i j : ℕ) → AreProper (fold (λ ways g. ways_through q ways (through g)) start gates i j)
proper_after through q start [] h = h
proper_after through q start (g ∷ gates) h = proper_after through q (ways_through q start (through g)) gates (proper_through q start (through g))

-- the ways through no gate
pub proper_identity : (i j : ℕ) → AreProper (identity_ways i j)
unfolding identity_ways
proper_identity i j = by (i == j)
  where
    by : (same : Bool) → AreProper (way_if same (pos 1) zero_exponent)
    by true = (omega arith, tt)
    by false = tt

-- the ways through gates of any kind
pub proper_along : {G : Type 0} (through : G → Ways) (q : ℕ) (gates : List G) (i j : ℕ) → AreProper (ways_along through q gates i j)
unfolding ways_along
proper_along through q gates = proper_after through q identity_ways gates proper_identity

-- the ways through a circuit
pub proper_paths : (q : ℕ) (c : Circuit) (i j : ℕ) → AreProper (paths q c i j)
unfolding paths
proper_paths q c = proper_along entry q c

-- the ways through a circuit of a program
pub proper_program_paths : (q : ℕ) (c : ProgramCircuit) (i j : ℕ) → AreProper (program_paths q c i j)
unfolding program_paths
proper_program_paths q c = proper_along program_entry q c
