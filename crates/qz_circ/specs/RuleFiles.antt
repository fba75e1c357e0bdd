-- What a rule file says: a value, or the first refusal.
use Rattle.std.specs.Prelude.{◌≡◌, ℕ, ◌+◌, ◌<◌, ◌≤◌, ◌==◌, ◌||◌, ◌⊎◌, Bool, true, unwrap_or, List, [], ◌++◌, length, slice_index_or, Option, Some, None, Result, Ok, Err}
use Rattle.std.specs.List.{AllByRecursion}
use Rattle.qz_circ.specs.declared.fault.RuleFault.{RuleFault}
use Rattle.qz_circ.specs.declared.fault.RuleFault.TheVariants.{Syntax, Limit, Unsound, Memory}
use Rattle.qz_circ.specs.Circuit.{Circuit, Limits, Within}
use Rattle.qz_circ.specs.declared.fault.LimitFault.{LimitFault}
use Rattle.qz_circ.specs.Bounds.{refusal_where, IsLawful}
use Rattle.qz_circ.specs.Equivalence.{Equivalent}
use Rattle.qz_circ.specs.FaultPlaces.{IsFaultPlace, IsFaultPlaceWithin}
use Rattle.qz_circ.specs.RuleText.{Head, head_text, file_text}

-- limits, and classes of circuits
pub record RuleClasses : Type 0 where
  pub bounds : Limits
  pub classes : List (List Circuit)

-- the number has at most nine digits
abbrev pub HasAtMostNineDigits : ℕ → Type 0
HasAtMostNineDigits k = k < 1000000000

-- the limits that the first two lines tell: where they tell no grain, it is 4
abbrev pub limits_of : Head → Limits
limits_of h = record { n = h.n; q = h.q; m = h.m; grain = unwrap_or h.grain 4 }

-- a grain that is told is 8 or 16
abbrev pub is_told_grain : Option ℕ → Bool
is_told_grain None = true
is_told_grain (Some grain) = (grain == 8) || (grain == 16)

-- why the numbers of the first two lines are refused, where they are
abbrev pub head_refusal : Head → Option LimitFault
head_refusal h = refusal_where (is_told_grain h.grain) (limits_of h)

-- a grain that is told has at most nine digits
abbrev pub HasFewDigits : Option ℕ → Type 0
HasFewDigits None = Unit {0}
HasFewDigits (Some grain) = HasAtMostNineDigits grain

-- the text is the first two lines with these numbers, whether they are lawful or not
pub record IsHead (h : Head) (text : List ℕ) : Type 0 where
  pub gates : HasAtMostNineDigits h.n
  pub qubits : HasAtMostNineDigits h.q
  pub params : HasAtMostNineDigits h.m
  pub grain : HasFewDigits h.grain
  pub text_is : text ≡ head_text h

-- there are two members or more, each a circuit within the limits
pub record IsClass (b : Limits) (members : List Circuit) : Type 0 where
  pub several : 2 ≤ length members
  pub few : HasAtMostNineDigits (length members)
  pub within : AllByRecursion (Within b) members

-- each is such a class. Their order doesn't matter, and a circuit may be repeated
pub record AreClasses (b : Limits) (classes : List (List Circuit)) : Type 0 where
  pub few : HasAtMostNineDigits (length classes)
  pub each : AllByRecursion (IsClass b) classes

-- the text is the rule file of such classes within the limits
pub record IsFile (b : Limits) (classes : List (List Circuit)) (text : List ℕ) : Type 0 where
  pub fit : AreClasses b classes
  pub text_is : text ≡ file_text b classes

-- the file begins with the first two lines with these numbers
pub record HasHead (h : Head) (file : List ℕ) : Type 0 where
  pub head : List ℕ
  pub rest : List ℕ
  pub is_head : IsHead h head
  pub parts : file ≡ head ++ rest

-- the members of the class with this number, counted from 0
abbrev pub numbered_class : List (List Circuit) → ℕ → List Circuit
numbered_class classes c = slice_index_or classes c []

-- the member with number k of the class with number c, both counted from 0
abbrev pub numbered_member : List (List Circuit) → ℕ → ℕ → Circuit
numbered_member classes c k = slice_index_or (numbered_class classes c) k []

-- that member is equivalent to the first one of its class
abbrev pub IsSoundAt : ℕ → List (List Circuit) → ℕ → ℕ → Type 0
IsSoundAt q classes c k = Equivalent q (numbered_member classes c k) (numbered_member classes c 0)

-- each member of a class is equivalent to the first one of it
abbrev pub AreSound : ℕ → List (List Circuit) → Type 0
AreSound q classes = (c k : ℕ) → c < length classes → k < length (numbered_class classes c) → IsSoundAt q classes c k

-- the first member that isn't equivalent to the first one of its class: its class and its place in it, counted from 1
pub record IsFirstUnsound (q : ℕ) (classes : List (List Circuit)) (class member : ℕ) : Type 0 where
  pub c : ℕ
  pub k : ℕ
  pub class_is : class ≡ c + 1
  pub member_is : member ≡ k + 1
  pub in_classes : c < length classes
  pub in_class : k < length (numbered_class classes c)
  pub unsound : ¬ IsSoundAt q classes c k
  pub classes_before : (d j : ℕ) → d < c → j < length (numbered_class classes d) → IsSoundAt q classes d j
  pub members_before : (j : ℕ) → j < k → IsSoundAt q classes c j

-- the first unsound member, or nothing where each member is sound
abbrev pub IsUnsoundness : ℕ → List (List Circuit) → Option (ℕ × ℕ) → Type 0
IsUnsoundness q classes None = AreSound q classes
IsUnsoundness q classes (Some found) = IsFirstUnsound q classes found.0 found.1

-- What a file says. Ok: it is the text of these classes, within lawful limits, and they are sound. Else it is refused for its
-- first two lines, or for their numbers, or for what follows them, or for an unsound member; the first of these that applies.
abbrev pub Reads : List ℕ → Result RuleClasses RuleFault → Type 0
Reads file (Ok rules) = IsLawful rules.bounds × IsFile rules.bounds rules.classes file × AreSound rules.bounds.q rules.classes
Reads file (Err (Syntax place)) =
    IsFaultPlaceWithin IsHead file place ⊎ ((h : Head) × HasHead h file × (head_refusal h ≡ None) × IsFaultPlace (IsFile (limits_of h)) file place)
Reads file (Err (Limit fault)) = (h : Head) × HasHead h file × (head_refusal h ≡ Some fault)
Reads file (Err (Unsound class member)) =
    (b : Limits) × (classes : List (List Circuit)) × IsLawful b × IsFile b classes file × IsFirstUnsound b.q classes class member
Reads file (Err Memory) = ⊥
