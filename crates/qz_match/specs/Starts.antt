-- The places with a given first position.
use Rattle.std.specs.Prelude.{◌≡◌, ℕ, suc, ◌-◌, ◌==◌, ◌&&◌, Bool, true, false, if◌then◌else◌, List, [], ◌∷◌, map, length, nat_lt, nat_le, Option, Some, None, take}
use Rattle.std.specs.List.{filter_map}
use Rattle.qz_circ.specs.declared.binding.Binding.{Binding}
use Rattle.qz_circ.specs.declared.circuit.Expr.{Expr}
use Rattle.qz_circ.specs.declared.circuit.Expr.TheVariants.{Const}
use Rattle.qz_circ.specs.declared.circuit.Op.{Op}
use Rattle.qz_circ.specs.declared.circuit.Op.TheVariants.{H, X, Cx, Rz}
use Rattle.qz_circ.specs.declared.circuit.Inst.{Inst}
use Rattle.qz_circ.specs.declared.circuit.Inst.TheVariants.{H as ProgramH, X as ProgramX, Cx as ProgramCx, Rz as ProgramRz}
use Rattle.qz_circ.specs.Circuit.{Circuit}
use Rattle.qz_circ.specs.Exponent.{constant_turn}
use Rattle.qz_circ.specs.ProgramCircuits.{ProgramCircuit}
use Rattle.qz_circ.specs.Places.{PlaceParts, place_at, match_at, rising_lists}

-- the angle may have this value: where it is a number, it is this one
abbrev pub may_have : Expr → ℕ → Bool
may_have (Const t) k = constant_turn t == k
may_have e k = true

-- the gates are of one kind, and the angle of a rotation may be that of the other
abbrev pub is_alike : Op → Inst → Bool
is_alike (H t) (ProgramH w) = true
is_alike (X t) (ProgramX w) = true
is_alike (Cx c t) (ProgramCx v w) = true
is_alike (Rz t e) (ProgramRz w k) = may_have e k
is_alike f g = false

-- the places that begin at this position
unfoldable pub starting : Circuit → ProgramCircuit → ℕ → List PlaceParts
starting left c p = filter_map (place_at left c) (map (λ ps. p ∷ ps) (rising_lists (length left - 1) (suc p) (length c - suc p)))

-- the positions rise from low on and are below m
abbrev pub rises : ℕ → ℕ → List ℕ → Bool
rises low m [] = true
rises low m (p ∷ ps) = nat_le low p && nat_lt p m && rises (suc p) m ps

-- the place at these positions, if they rise, are in the program and are one
abbrev pub tested : Circuit → ProgramCircuit → List ℕ → Option PlaceParts
tested left c ps = if rises 0 (length c) ps then place_at left c ps else None

-- at these positions, of which p is the first, left matches
pub record Matches (left : Circuit) (c : ProgramCircuit) (p : ℕ) (ps : List ℕ) : Type 0 where
  pub rising : rises 0 (length c) (p ∷ ps) ≡ true
  pub binding : Binding
  pub match : match_at left c (p ∷ ps) ≡ Some binding

-- these positions are the only ones from p on at which left may match; where there are none, it matches at none
abbrev pub AreOnly : Circuit → ProgramCircuit → ℕ → Option (List ℕ) → Type 0
AreOnly left c p None = (ps : List ℕ) → Matches left c p ps → ⊥
AreOnly left c p (Some found) = (length found ≡ 6) × ((ps : List ℕ) → Matches left c p ps → take (length left) found ≡ p ∷ ps) × (take 1 found ≡ p ∷ [])
