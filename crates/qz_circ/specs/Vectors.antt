-- Lists that are kept as vectors.
use Rattle.std.specs.Prelude.{List, map, Vec}

-- the lists that some vectors hold
abbrev pub lists_of : {X A : Type 0} → List (Vec X A) → List (List X)
lists_of vectors = map (λ v. v.items) vectors
