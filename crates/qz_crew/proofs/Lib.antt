-- Lemmas of workers.
mod CrewLemmas
mod LengthLemmas
mod TurnLemmas
