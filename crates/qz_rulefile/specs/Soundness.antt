-- Where the first unsound member is: in a class, and in the classes before a number.
use Rattle.std.specs.Prelude.{ℕ, ◌<◌, List, length, Option, Some, None}
use Rattle.qz_circ.specs.Circuit.{Circuit}
use Rattle.qz_circ.specs.RuleFiles.{numbered_class, IsSoundAt}

-- the members before a number are equivalent to the first one of their class
abbrev pub AreSoundBefore : ℕ → List (List Circuit) → ℕ → ℕ → Type 0
AreSoundBefore q classes c k = (j : ℕ) → j < k → IsSoundAt q classes c j

-- the first member of a class that isn't equivalent to the first one, counted from 0; nothing where each member is
abbrev pub IsUnsoundIn : ℕ → List (List Circuit) → ℕ → Option ℕ → Type 0
IsUnsoundIn q classes c None = AreSoundBefore q classes c (length (numbered_class classes c))
IsUnsoundIn q classes c (Some k) = (k < length (numbered_class classes c)) × (¬ IsSoundAt q classes c k) × AreSoundBefore q classes c k
