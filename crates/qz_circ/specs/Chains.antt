-- How a circuit is lowered to a representative, part by part, and the chain that joins two equivalent circuits this way. Own.
use Rattle.std.specs.Prelude.{◌≡◌, ℕ, ◌-◌, ◌<◌, ◌≤◌, List, [], ◌∷◌, ◌++◌, map, length, take, drop, reverse, slice_get, Some}
use Rattle.std.specs.List.{AllByRecursion}
use Rattle.qz_circ.specs.Circuit.{Circuit, Limits}
use Rattle.qz_circ.specs.Equivalence.{Equivalent}
use Rattle.qz_circ.specs.Order.{rank, circuit_at}
use Rattle.qz_circ.specs.Classes.{IsRepresentative}
use Rattle.qz_circ.specs.Joined.{AreSteps}

-- the gates from place start to before place stop
abbrev pub part_of : ℕ → ℕ → Circuit → Circuit
part_of start stop c = drop start (take stop c)

-- The part from start to stop is found so: stop is the least number of first gates that are no representative, and start the
-- greatest place from which the gates to stop are none.
pub record IsFirstPart (b : Limits) (c : Circuit) (start stop : ℕ) : Type 0 where
  pub inside : stop ≤ length c
  pub order : start ≤ stop
  pub front_is_none : ¬ IsRepresentative b (take stop c)
  pub shorter_fronts : (k : ℕ) → k < stop → IsRepresentative b (take k c)
  pub part_is_none : ¬ IsRepresentative b (part_of start stop c)
  pub shorter_parts : (k : ℕ) → start < k → k ≤ stop → IsRepresentative b (part_of k stop c)

-- d is c with that part replaced by the representative that is equivalent to it
pub record IsLowered (b : Limits) (c d : Circuit) : Type 0 where
  pub start : ℕ
  pub stop : ℕ
  pub part : IsFirstPart b c start stop
  pub put : Circuit
  pub representative : IsRepresentative b put
  pub equivalent : Equivalent b.q put (part_of start stop c)
  pub replaced : d ≡ take start c ++ put ++ drop stop c

-- the last circuit of a list that begins with x
abbrev pub last_of : Circuit → List Circuit → Circuit
last_of x [] = x
last_of x (y ∷ rest) = last_of y rest

-- the circuits after c, each the one before it lowered, up to a representative
abbrev pub IsDown : Limits → Circuit → List Circuit → Type 0
IsDown b c [] = IsRepresentative b c
IsDown b c (d ∷ rest) = IsLowered b c d × IsDown b d rest

-- the chain of two equivalent circuits: from the first one down to a representative, and from there back up to the second one
pub record IsChain (b : Limits) (a c : Circuit) (chain : List Circuit) : Type 0 where
  pub equivalent : Equivalent b.q a c
  pub first : List Circuit
  pub second : List Circuit
  pub from_first : IsDown b a first
  pub from_second : IsDown b c second
  pub both : chain ≡ (a ∷ first) ++ drop 1 (reverse (c ∷ second))

-- the ranks of the circuits of the chain of the circuits with two ranks
pub record IsRankChain (b : Limits) (a c : ℕ) (ranks : List ℕ) : Type 0 where
  pub chain : List Circuit
  pub is_chain : IsChain b (circuit_at b a) (circuit_at b c) chain
  pub ranked : ranks ≡ map (rank b) chain
  pub circuits : map (circuit_at b) ranks ≡ chain

-- the list of circuits of at most n gates leads from x to y by steps
pub record Leads (classes : List (List Circuit)) (n : ℕ) (x y : Circuit) (chain : List Circuit) : Type 0 where
  pub short : AllByRecursion (λ c. length c ≤ n) chain
  pub starts : slice_get chain 0 ≡ Some x
  pub ends : slice_get chain (length chain - 1) ≡ Some y
  pub steps : AreSteps classes chain
