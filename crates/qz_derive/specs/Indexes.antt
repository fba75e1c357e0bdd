-- What is known of the later members of classes.
use Rattle.std.specs.Prelude.{ℕ, ◌<◌, List, length, Option, MatchOption, Contains}
use Rattle.qz_circ.specs.Circuit.{Circuit, Limits}
use Rattle.qz_circ.specs.Equivalence.{Equivalent}
use Rattle.qz_circ.specs.Order.{all_circuits, rank, circuit_at}
use Rattle.qz_circ.specs.Classes.{IsRepresentative, IsKept}
use Rattle.qz_circ.specs.Pairs.{Pair}

-- for the later number of a pair the first one of such a pair is found, and nothing for other numbers
pub record IsIndex (pairs : List Pair) (find : ℕ → Option ℕ) : Type 0 where
  pub tells : (r : ℕ) → MatchOption (find r)
      ((first : ℕ) → Contains pairs (record { first = first; later = r }) → ⊥)
      (λ first. Contains pairs (record { first = first; later = r }))

-- the circuit is no representative, and this is the rank of the one that is equivalent to it
pub record HasRepresentative (b : Limits) (c : Circuit) (first : ℕ) : Type 0 where
  pub none : ¬ IsRepresentative b c
  pub listed : first < length (all_circuits b)
  pub representative : IsRepresentative b (circuit_at b first)
  pub equivalent : Equivalent b.q (circuit_at b first) c

-- for each kept circuit its representative's rank is found, and nothing where it is one itself
pub record FindsRepresentatives (b : Limits) (find : ℕ → Option ℕ) : Type 0 where
  pub tells : (c : Circuit) → IsKept b c → MatchOption (find (rank b c)) (IsRepresentative b c) (HasRepresentative b c)
