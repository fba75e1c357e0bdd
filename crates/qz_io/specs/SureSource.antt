-- A source in memory that never fails.
use Rattle.std.specs.Prelude.{ℕ, ◌+◌, List, drop}

-- how many bytes were taken, and the bytes that are left
pub record Reading : Type 0 where
  pub done : ℕ
  pub left : List ℕ

-- nothing of these bytes is taken yet
abbrev pub at_beginning : List ℕ → Reading
at_beginning bytes = record { done = 0; left = bytes }

-- n bytes more are taken
abbrev pub after : ℕ → Reading → Reading
after n reading = record { done = reading.done + n; left = drop n reading.left }
