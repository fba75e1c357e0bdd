-- Circuits that are held with their prices, different and in order.
use Rattle.std.specs.Prelude.{◌≡◌, ◌⊎◌, ℕ, List, length, take, map, count_by}
use Rattle.std.specs.List.{AllByRecursion}
use Rattle.std.specs.Ordering.{is_lt}
use Rattle.qz_circ.specs.ProgramCircuits.{ProgramCircuit, ones, cost, program_cmp}
use Rattle.qz_circ.specs.Queue.{different}
use Rattle.qz_queue.specs.declared.priced.Priced.{Priced}

-- the circuits that are held
abbrev pub circuits_of : List Priced → List ProgramCircuit
circuits_of held = map (λ p. p.gates.items) held

module _ (ws : List ℕ) where
  -- each one's price is what it costs
  abbrev pub ArePriced : List Priced → Type 0
  ArePriced held = AllByRecursion (λ p. p.price ≡ cost ws p.gates.items) held

  -- the circuits are different and in order
  abbrev pub AreOrdered : List ProgramCircuit → Type 0
  AreOrdered cs = different (program_cmp ws) cs ≡ cs

  -- how many of the circuits are before c
  abbrev pub place_of : List ProgramCircuit → ProgramCircuit → ℕ
  place_of cs c = count_by (λ d. is_lt (program_cmp ws d c)) cs

  -- the first n gates of two circuits are the same, which are equally dear and equally long; or n is 0
  abbrev pub IsFront : ℕ → ProgramCircuit → ProgramCircuit → Type 0
  IsFront n a c = (n ≡ 0) ⊎ ((cost ws a ≡ cost ws c) × (length a ≡ length c) × (take n a ≡ take n c))

-- what a set of circuits keeps, which has each gate weigh 1
pub record IsSet (held : List Priced) : Type 0 where
  pub ordered : AreOrdered ones (circuits_of held)
  pub priced : ArePriced ones held
