-- What workers gather of the circuits that a round took.
use Rattle.std.specs.Prelude.{◌≡◌, ℕ, true, List, ◌++◌, length, take, drop, None, Result, Ok}
use Rattle.std.specs.List.{flat_map}
use Rattle.qz_circ.specs.ProgramCircuits.{ProgramCircuit}
use Rattle.qz_circ.specs.Queue.{QueueList, firsts}
use Rattle.qz_seats.specs.declared.view.View.{View}
use Rattle.qz_seats.specs.Parts.{PassParts, SeatsParts, IsOf}
use Rattle.qz_search.specs.Offers.{AreFit, offered_to}
use Rattle.qz_search.specs.Rounds.{SearchParts, new_children}

-- a search in a round, the circuits that the round took, and the table from which their numbers are drawn
pub record RoundParts : Type 0 where
  pub search : SearchParts
  pub batch : List ProgramCircuit
  pub seats : SeatsParts

-- the numbers are those of the circuits
pub record IsRound (r : RoundParts) : Type 0 where
  pub fit : AreFit r.batch
  pub limit : r.seats.terms.limit ≡ length r.batch

-- the circuits with these numbers; a number past the end is nobody's
abbrev pub numbered : List ProgramCircuit → List ℕ → List ProgramCircuit
numbered batch ds = flat_map (λ d. take 1 (drop d batch)) ds

-- the queue of the search, to which the new children of the circuits with these numbers were offered
abbrev pub gathered : RoundParts → List ℕ → QueueList
gathered r ds = offered_to r.search.queue (new_children r.search (numbered r.batch ds))

-- no number is left to draw, and to the queue were offered the new children of the circuits that were drawn
pub record IsGathered (r : RoundParts) (v : View) (q : QueueList) : Type 0 where
  pub ended : v.ended ≡ true
  pub all : q ≡ gathered r v.drawn

-- a pass of this table, which holds nothing
abbrev pub IsFree : SeatsParts → PassParts → Type 0
IsFree seats pass = IsOf pass seats × (pass.view.held ≡ None)

-- both have a queue, and this one has what the queues have
pub record AreMerged {E : Type 0} (one others : Result QueueList E) (all : QueueList) : Type 0 where
  pub first : QueueList
  pub second : QueueList
  pub first_is : one ≡ Ok first
  pub second_is : others ≡ Ok second
  pub all_is : all ≡ record first { list = firsts first.weights first.cap (first.list ++ second.list) }
