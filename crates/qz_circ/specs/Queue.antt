-- The different ones of a list in order, the first of them, and the queue of a search.
use Rattle.std.specs.Prelude.{◌≡◌, ℕ, ◌≤◌, ◌⊎◌, List, [], ◌∷◌, ◌++◌, take, count_by, Contains}
use Rattle.std.specs.declared.cmp.Ordering.{Ordering}
use Rattle.std.specs.Ordering.{is_lt}
use Rattle.std.specs.BTreeSet.{insert_key}
use Rattle.qz_circ.specs.ProgramCircuits.{ProgramCircuit, AreWeights, program_cmp}

module _ {K : Type 0} (cmp : K → K → Ordering) where
  -- the different ones of these, in order
  unfoldable pub different : List K → List K
  different [] = []
  different (x ∷ xs) = insert_key cmp (different xs) x

  -- the first of the different ones, at most cap of them
  unfoldable pub first_cap : ℕ → List K → List K
  first_cap cap xs = take cap (different xs)

-- the first of the different ones of these circuits, in the order of programs by these weights
abbrev pub firsts : List ℕ → ℕ → List ProgramCircuit → List ProgramCircuit
firsts ws cap cs = first_cap (program_cmp ws) cap cs

-- how many circuits a queue holds at most, by which weights it orders them, and those that it holds
pub record QueueList : Type 0 where
  pub cap : ℕ
  pub weights : List ℕ
  pub list : List ProgramCircuit

-- a queue holds at most 1 to 500 circuits, which are different and in order
pub record IsQueue (q : QueueList) : Type 0 where
  pub some : 1 ≤ q.cap
  pub few : q.cap ≤ 500
  pub weighed : AreWeights q.weights
  pub ordered : firsts q.weights q.cap q.list ≡ q.list

-- the circuit is there, or as many earlier ones are there as the queue holds at most
abbrev pub IsRefused : QueueList → ProgramCircuit → Type 0
IsRefused q c = Contains q.list c ⊎ (q.cap ≤ count_by (λ d. is_lt (program_cmp q.weights d c)) q.list)

-- what is put into a queue: a circuit that is offered, or the list of another queue that is merged
pub data QueueStep : Type 0 where
  Offer : ProgramCircuit → QueueStep
  Merge : List ProgramCircuit → QueueStep

-- the list after one of these
abbrev pub after_step : List ℕ → ℕ → List ProgramCircuit → QueueStep → List ProgramCircuit
after_step ws cap cs (Offer c) = firsts ws cap (c ∷ cs)
after_step ws cap cs (Merge others) = firsts ws cap (cs ++ others)

-- the list after all of these in turn
abbrev pub after_steps : List ℕ → ℕ → List ProgramCircuit → List QueueStep → List ProgramCircuit
after_steps ws cap cs [] = cs
after_steps ws cap cs (step ∷ steps) = after_steps ws cap (after_step ws cap cs step) steps

-- the circuits that were offered, and those of the lists that were merged
abbrev pub given : List QueueStep → List ProgramCircuit
given [] = []
given (Offer c ∷ steps) = c ∷ given steps
given (Merge others ∷ steps) = others ++ given steps
