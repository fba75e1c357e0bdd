-- Steps between circuits by a list of classes, and circuits that are joined by steps.
use Rattle.std.specs.Prelude.{◌≡◌, ℕ, ◌-◌, ◌≤◌, List, [], ◌∷◌, ◌++◌, map, length, slice_get, Some, Contains}
use Rattle.std.specs.List.{AllByRecursion}
use Rattle.qz_circ.specs.Circuit.{Circuit, Limits, Within}
use Rattle.qz_circ.specs.Equivalence.{Equivalent}
use Rattle.qz_circ.specs.Order.{circuit_at}

-- the classes as lists of circuits, where they are given as lists of ranks within b
abbrev pub circuits_of_ranks : Limits → List (List ℕ) → List (List Circuit)
circuits_of_ranks b classes = map (map (circuit_at b)) classes

-- a contiguous part that is a member of a class is replaced by a member of that class, perhaps by the same one
pub record Step (classes : List (List Circuit)) (x y : Circuit) : Type 0 where
  pub front : Circuit
  pub back : Circuit
  pub members : List Circuit
  pub old : Circuit
  pub new : Circuit
  pub is_class : Contains classes members
  pub old_member : Contains members old
  pub new_member : Contains members new
  pub before : x ≡ front ++ old ++ back
  pub after : y ≡ front ++ new ++ back

-- each next circuit is reached from the one before
abbrev pub AreReached : (Circuit → Circuit → Type 0) → List Circuit → Type 0
AreReached R [] = Unit {0}
AreReached R (x ∷ []) = Unit {0}
AreReached R (x ∷ y ∷ rest) = R x y × AreReached R (y ∷ rest)

-- each next circuit is a step from the one before
abbrev pub AreSteps : List (List Circuit) → List Circuit → Type 0
AreSteps classes chain = AreReached (Step classes) chain

-- a list of circuits of at most n gates leads from x to y, each next one reached from the one before
pub record JoinedBy (R : Circuit → Circuit → Type 0) (n : ℕ) (x y : Circuit) : Type 0 where
  pub chain : List Circuit
  pub short : AllByRecursion (λ c. length c ≤ n) chain
  pub starts : slice_get chain 0 ≡ Some x
  pub ends : slice_get chain (length chain - 1) ≡ Some y
  pub steps : AreReached R chain

-- a list of circuits of at most n gates leads from x to y by steps
abbrev pub Joined : List (List Circuit) → ℕ → Circuit → Circuit → Type 0
Joined classes n x y = JoinedBy (Step classes) n x y

-- the classes join any two circuits within the limits that are equivalent, over circuits of no more gates than the limits allow
abbrev pub JoinsEquivalent : Limits → List (List ℕ) → Type 0
JoinsEquivalent b classes = (a c : Circuit) → Within b a → Within b c → Equivalent b.q a c → Joined (circuits_of_ranks b classes) b.n a c
