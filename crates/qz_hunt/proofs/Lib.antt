-- Lemmas of what is gathered.
mod AheadLemmas
mod GatherLemmas
