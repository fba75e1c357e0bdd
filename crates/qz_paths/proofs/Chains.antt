-- Chains of steps: one more in front, end to end, what joins two circuits, and none without a class.
use Rattle.std.proofs.Common.{◌≡◌, ℕ, ◌-◌, ◌≤◌, List, [], ◌∷◌, length, refl, sym, ap, subst, ◌∙◌, arith}
use Rattle.std.specs.Prelude.{slice_get, Some}
use Rattle.std.specs.List.{AllByRecursion}
use Rattle.qz_circ.specs.Circuit.{Circuit}
use Rattle.qz_circ.specs.Chains.{last_of}
use Rattle.qz_circ.specs.Joined.{Step, AreSteps, AreReached, JoinedBy}

-- a chain leads from x over the rest to y, each next circuit reached from the one before, and none has over n gates
pub record Linked (R : Circuit → Circuit → Type 0) (n : ℕ) (x y : Circuit) : Type 0 where
  pub rest : List Circuit
  pub short : AllByRecursion (λ c. length c ≤ n) (x ∷ rest)
  pub ends : last_of x rest ≡ y
  pub steps : AreReached R (x ∷ rest)

module _ (R : Circuit → Circuit → Type 0) (n : ℕ) where
  -- no step at all
  pub linked_itself : (x : Circuit) → length x ≤ n → Linked R n x x
  linked_itself x few = record { rest = []; short = (few, tt); ends = refl; steps = tt }

  -- a step and then others
  pub linked_first : (x y z : Circuit) → length x ≤ n → R x y → Linked R n y z → Linked R n x z
  linked_first x y z few first h = record { rest = y ∷ h.rest; short = (few, h.short); ends = h.ends; steps = (first, h.steps) }

  -- some steps and then others, by the circuits of the first ones
  follow : (y z : Circuit) → Linked R n y z → (x : Circuit) (rest : List Circuit) → AllByRecursion (λ c. length c ≤ n) (x ∷ rest) → last_of x rest ≡ y → AreReached R (x ∷ rest) → Linked R n x z
  follow y z h x [] short ends steps = subst (λ c. Linked R n c z) (sym ends) h
  follow y z h x (w ∷ rest) short ends steps = linked_first x w z short.0 steps.0 (follow y z h w rest short.1 ends steps.1)

  -- some steps and then others
  pub linked_on : (x y z : Circuit) → Linked R n x y → Linked R n y z → Linked R n x z
  linked_on x y z first second = follow y z second x first.rest first.short first.ends first.steps

  -- the last element of a chain
  pub last_listed : (x : Circuit) (rest : List Circuit) → slice_get (x ∷ rest) (length rest) ≡ Some (last_of x rest)
  last_listed x [] = refl
  last_listed x (y ∷ rest) = last_listed y rest

  -- a chain of steps joins its ends
  pub joined_from_linked : (x y : Circuit) → Linked R n x y → JoinedBy R n x y
  joined_from_linked x y h = record {
    chain = x ∷ h.rest;
    short = h.short;
    starts = refl;
    ends =
        let last : length (x ∷ h.rest) - 1 ≡ length h.rest = omega arith in
        ap (slice_get (x ∷ h.rest)) last ∙ last_listed x h.rest ∙ ap Some h.ends;
    steps = h.steps;
  }

-- a step may be taken back
pub step_back : (classes : List (List Circuit)) (x y : Circuit) → Step classes x y → Step classes y x
step_back classes x y h = record {
  front = h.front;
  back = h.back;
  members = h.members;
  old = h.new;
  new = h.old;
  is_class = h.is_class;
  old_member = h.new_member;
  new_member = h.old_member;
  before = h.after;
  after = h.before;
}

-- there is no step by no class
no_step : (x y : Circuit) → Step [] x y → ⊥
no_step x y h = omega (arith, h.is_class.1)

-- so a chain of such steps ends where it starts
pub ends_where_it_starts : (chain : List Circuit) (x y : Circuit) → slice_get chain 0 ≡ Some x → slice_get chain (length chain - 1) ≡ Some y → AreSteps [] chain → length x ≡ length y
ends_where_it_starts [] x y starts ends steps = cc
ends_where_it_starts (c ∷ []) x y starts ends steps = cc
ends_where_it_starts (c ∷ d ∷ rest) x y starts ends steps = absurd (no_step c d steps.0)
