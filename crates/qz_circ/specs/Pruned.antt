-- The pairs of a class list without those that others give by renaming, and circuits that such pairs join. Own.
use Rattle.std.specs.Prelude.{◌≡◌, ℕ, ◌⊎◌, List, [], ◌∷◌, ◌++◌, map, Contains}
use Rattle.qz_circ.specs.Circuit.{Circuit, Limits, Within}
use Rattle.qz_circ.specs.Equivalence.{Equivalent}
use Rattle.qz_circ.specs.Joined.{JoinedBy}
use Rattle.qz_circ.specs.Order.{circuit_at}
use Rattle.qz_circ.specs.Pairs.{Pair, pairs_of}
use Rattle.qz_circ.specs.Relabellings.{IsRelabelled}

-- one of these pairs, with its qubits and parameters renamed, has the same two circuits as the pair
pub record IsGiven (b : Limits) (kept : List Pair) (pair : Pair) : Type 0 where
  pub old : Pair
  pub listed : Contains kept old
  pub relabelled : IsRelabelled b old (circuit_at b pair.first) (circuit_at b pair.later)

-- what is left of pairs where some were kept before them: a pair is dropped where one that was kept before it gives it
abbrev pub Prunes : Limits → List Pair → List Pair → List Pair → Type 0
Prunes b kept [] left = left ≡ []
Prunes b kept (pair ∷ pairs) left =
    (IsGiven b kept pair × Prunes b kept pairs left) ⊎
    ((¬ IsGiven b kept pair) × ((rest : List Pair) × (left ≡ pair ∷ rest) × Prunes b (kept ++ pair ∷ []) pairs rest))

-- a pair as a list of two ranks
abbrev pub pair_list : Pair → List ℕ
pair_list pair = pair.first ∷ pair.later ∷ []

-- what is left of the pairs of the classes, as lists of two ranks
pub record IsPruned (b : Limits) (classes : List (List ℕ)) (lists : List (List ℕ)) : Type 0 where
  pub left : List Pair
  pub prunes : Prunes b [] (pairs_of classes) left
  pub are : lists ≡ map pair_list left

-- a contiguous part that is one circuit of a list of two ranks, with qubits and parameters renamed, is replaced by the other
pub record PairStep (b : Limits) (lists : List (List ℕ)) (x y : Circuit) : Type 0 where
  pub front : Circuit
  pub back : Circuit
  pub pair : Pair
  pub old : Circuit
  pub new : Circuit
  pub listed : Contains lists (pair_list pair)
  pub relabelled : IsRelabelled b pair old new
  pub before : x ≡ front ++ old ++ back
  pub after : y ≡ front ++ new ++ back

-- such steps join any two circuits within the limits that are equivalent, over circuits of no more gates than the limits allow
abbrev pub PairsJoinEquivalent : Limits → List (List ℕ) → Type 0
PairsJoinEquivalent b lists = (a c : Circuit) → Within b a → Within b c → Equivalent b.q a c → JoinedBy (PairStep b lists) b.n a c
