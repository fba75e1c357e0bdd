-- What is answered of two circuits.
use Rattle.std.specs.Prelude.{ℕ, List, map}
use Rattle.qz_circ.specs.Circuit.{Limits}
use Rattle.qz_circ.specs.Chains.{IsRankChain, Leads}
use Rattle.qz_circ.specs.Equivalence.{Equivalent}
use Rattle.qz_circ.specs.Joined.{circuits_of_ranks}
use Rattle.qz_circ.specs.Order.{circuit_at}
use Rattle.qz_derive.specs.declared.chain.Chain.{Chain}
use Rattle.qz_derive.specs.declared.chain.Chain.TheVariants.{Joined, Different}

-- the ranks of the chain of the circuits with two ranks; or that they aren't equivalent
abbrev pub IsAnswer : Limits → ℕ → ℕ → Chain → Type 0
IsAnswer b a c (Joined ranks) = IsRankChain b a c ranks
IsAnswer b a c Different = ¬ Equivalent b.q (circuit_at b a) (circuit_at b c)

-- the circuits of a chain lead from the one to the other by steps of the classes, over circuits within the number of gates
abbrev pub LeadsByClasses : Limits → List (List ℕ) → ℕ → ℕ → Chain → Type 0
LeadsByClasses b classes a c (Joined ranks) = Leads (circuits_of_ranks b classes) b.n (circuit_at b a) (circuit_at b c) (map (circuit_at b) ranks)
LeadsByClasses b classes a c Different = Unit {0}
