-- Which pairs are given by those that were kept, as a set of pairs of ranks tells it.
use Rattle.std.specs.Prelude.{◌≡◌, ℕ, ◌<◌, ◌≤◌, Bool, true, ◌&&◌, nat_eq, ◌⊎◌, ◌↔◌, List, [], ◌∷◌, ◌++◌, map, length, Option, Some, None, IsSome, IfSome, Contains}
use Rattle.qz_circ.specs.Circuit.{Circuit, Limits, Within}
use Rattle.qz_circ.specs.Order.{all_circuits, rank, circuit_at}
use Rattle.qz_circ.specs.Pairs.{Pair}
use Rattle.qz_circ.specs.Pruned.{IsGiven, Prunes, pair_list}
use Rattle.qz_circ.specs.Relabellings.{renamed, Renames}
use Rattle.qz_prune.specs.declared.relabelling.Relabelling.{Relabelling}

-- two ranks
abbrev pub Ranks : Type 0
Ranks = ℕ × ℕ

-- the same two ranks
abbrev pub same_ranks : Ranks → Ranks → Bool
same_ranks p q = nat_eq p.0 q.0 && nat_eq p.1 q.1

-- the pair is of ranks within the limits, the lesser one first
pub record IsPair (b : Limits) (pair : Pair) : Type 0 where
  pub ordered : pair.first ≤ pair.later
  pub listed : pair.later < length (all_circuits b)

-- the rank of the circuit, or nothing where it isn't within the limits
pub record IsRankOf (b : Limits) (c : Circuit) (answer : Option ℕ) : Type 0 where
  pub within : IsSome answer ↔ Within b c
  pub ranked : IfSome answer (λ r. r ≡ rank b c)

-- the ranks of two circuits, the lesser one first, or nothing where one isn't within the limits
abbrev pub AreRanksOf : Limits → Circuit → Circuit → Option Ranks → Type 0
AreRanksOf b x y None = ¬ (Within b x × Within b y)
AreRanksOf b x y (Some p) =
    (Within b x × Within b y) × ((p.0 ≤ p.1) × (((p.0 ≡ rank b x) × (p.1 ≡ rank b y)) ⊎ ((p.0 ≡ rank b y) × (p.1 ≡ rank b x))))

-- these are the two circuits of the pair
abbrev pub AreOfPair : Limits → Circuit → Circuit → Pair → Type 0
AreOfPair b x y pair = ((x ≡ circuit_at b pair.first) × (y ≡ circuit_at b pair.later)) ⊎ ((x ≡ circuit_at b pair.later) × (y ≡ circuit_at b pair.first))

-- the second set has the pairs of the first one, and those of which some fact holds
pub record Gains (b : Limits) (fact : Pair → Type 0) (old new : Ranks → Bool) : Type 0 where
  pub tells : (pair : Pair) → IsPair b pair → (new (pair.first, pair.later) ≡ true) ↔ ((old (pair.first, pair.later) ≡ true) ⊎ fact pair)

-- one of the relabellings makes of the circuits x and y those of the pair
pub record IsMade (b : Limits) (all : List Relabelling) (x y : Circuit) (pair : Pair) : Type 0 where
  pub by : Relabelling
  pub listed : Contains all by
  pub makes : AreOfPair b (renamed by.qubits by.params x) (renamed by.qubits by.params y) pair

-- the set has exactly the pairs that these give
pub record Knows (b : Limits) (kept : List Pair) (seen : Ranks → Bool) : Type 0 where
  pub tells : (pair : Pair) → IsPair b pair → (seen (pair.first, pair.later) ≡ true) ↔ IsGiven b kept pair

-- whether a pair is kept, and what the set knows then
abbrev pub IsTaken : Limits → Pair → (Ranks → Bool) → (Ranks → Bool) → Bool → Type 0
IsTaken b pair old new true = (kept : List Pair) → Knows b kept old → (¬ IsGiven b kept pair) × Knows b (kept ++ pair ∷ []) new
IsTaken b pair old new _ = (kept : List Pair) → Knows b kept old → IsGiven b kept pair × Knows b kept new

-- what is left of the pairs that are done
pub record Progress (b : Limits) (done : List Pair) (lists : List (List ℕ)) (seen : Ranks → Bool) : Type 0 where
  pub kept : List Pair
  pub are : lists ≡ map pair_list kept
  pub knows : Knows b kept seen
  pub so_far : (pairs rest : List Pair) → Prunes b kept pairs rest → Prunes b [] (done ++ pairs) (kept ++ rest)
