-- Readings whose value has a property, and whose fault is never that memory ran out.
use Rattle.std.proofs.Common.{◌≡◌, ℕ, Bool, true, false, cond, refl, subst, List, [], ◌∷◌}
use Rattle.std.specs.Prelude.{Option, Some, None, Result, Ok, Err}
use Rattle.std.specs.Option.{ok_or}
use Rattle.qz_circ.specs.declared.fault.QasmFault.{QasmFault}
use Rattle.qz_circ.specs.declared.fault.QasmFault.TheVariants as fault
use Rattle.qz_circ.specs.declared.fault.LexFault.TheVariants as lex_fault
use Rattle.qz_circ.specs.FirstFault.{◌>>=◌, fault_as}
use Rattle.qz_circ.specs.Forms.{misfit, Operand}
use Rattle.qz_circ.specs.Lexemes.{Lexeme}
use Rattle.qz_circ.specs.Grammar.{unless_at}
use Rattle.qz_qread.specs.ProgramLimits.{IsProgramLimit}

-- the value has the one property, and the fault the other
abbrev pub Holds : {A F : Type 0} → (F → Type 0) → (A → Type 0) → Result A F → Type 0
Holds Fair P (Ok x) = P x
Holds Fair P (Err e) = Fair e

-- the same, as a record, by which its properties are known
pub record Meets {A F : Type 0} (Fair : F → Type 0) (P : A → Type 0) (r : Result A F) : Type 0 where
  pub holds : Holds Fair P r

-- the fault is one of the text, and not that memory ran out; a limit is one of programs
abbrev pub IsOfText : QasmFault → Type 0
IsOfText fault.Memory = ⊥
IsOfText (fault.Limit which place) = IsProgramLimit which
IsOfText (fault.Lex lex_fault.Memory) = ⊥
IsOfText _ = Unit {0}

-- a value with the property, or a fault of the text
abbrev pub Reads : {A : Type 0} → (A → Type 0) → Result A QasmFault → Type 0
Reads P r = Meets IsOfText P r

-- any value
abbrev pub Anything : {A : Type 0} → A → Type 0
Anything x = Unit {0}

-- ---- what a reading gives

pub value_met : {A F : Type 0} (Fair : F → Type 0) (P : A → Type 0) (r : Result A F) (x : A) → Meets Fair P r → r ≡ Ok x → P x
value_met Fair P r x given is = let h : Holds Fair P (Ok x) = subst (Holds Fair P) is given.holds in h

pub fault_met : {A F : Type 0} (Fair : F → Type 0) (P : A → Type 0) (r : Result A F) (e : F) → Meets Fair P r → r ≡ Err e → Fair e
fault_met Fair P r e given is = let h : Holds Fair P (Err e) = subst (Holds Fair P) is given.holds in h

-- ---- steps

pub done : {A F : Type 0} {Fair : F → Type 0} {P : A → Type 0} {x : A} → P x → Meets Fair P (Ok x)
done h = record { holds = h }

pub refused : {A F : Type 0} {Fair : F → Type 0} {P : A → Type 0} {e : F} → Fair e → Meets Fair P (Err e)
refused h = record { holds = h }

-- nothing is said of the value or the fault
pub whatever : {A F : Type 0} (r : Result A F) → Meets Anything Anything r
whatever (Ok x) = record { holds = tt }
whatever (Err e) = record { holds = tt }

-- a property that follows
pub weaker : {A F : Type 0} {Fair : F → Type 0} {P Q : A → Type 0} {r : Result A F} → Meets Fair P r → ((x : A) → P x → Q x) → Meets Fair Q r
weaker {r = Ok x} given follows = record { holds = follows x given.holds }
weaker {r = Err e} given follows = record { holds = given.holds }

-- a second step, given the value of the first
pub next : {A B F : Type 0} {Fair : F → Type 0} {P : A → Type 0} {Q : B → Type 0} {r : Result A F} {f : A → Result B F} → Meets Fair P r → ((x : A) → P x → Meets Fair Q (f x)) → Meets Fair Q (r >>= f)
next {r = Ok x} first second = second x first.holds
next {r = Err e} first second = record { holds = first.holds }

-- a choice by a test
pub choice : {A F : Type 0} {Fair : F → Type 0} {P : A → Type 0} (t : Bool) {x y : Result A F} → (t ≡ true → Meets Fair P x) → (t ≡ false → Meets Fair P y) → Meets Fair P (cond t x y)
choice true when_true when_false = when_true refl
choice false when_true when_false = when_false refl

-- the same reading with its fault as one of another kind
pub as_other : {A F G : Type 0} {Fair : F → Type 0} {Other : G → Type 0} {P : A → Type 0} (f : F → G) (r : Result A F) → Meets Fair P r → ((e : F) → Fair e → Other (f e)) → Meets Other P (fault_as f r)
as_other f (Ok x) given keeps = record { holds = given.holds }
as_other f (Err e) given keeps = record { holds = keeps e given.holds }

-- a value, where there is one
pub found : {A F : Type 0} {Fair : F → Type 0} {P : A → Type 0} (o : Option A) (e : F) → ((x : A) → o ≡ Some x → P x) → Fair e → Meets Fair P (ok_or o e)
found (Some x) e when_some fair = record { holds = when_some x refl }
found None e when_some fair = record { holds = fair }

-- a token that doesn't fit
pub misfits : {A : Type 0} {P : A → Type 0} (len : ℕ) (ls : List Lexeme) → Reads P (misfit len ls)
misfits len [] = record { holds = tt }
misfits len (l ∷ ls) = record { holds = tt }

-- this fault at one of the operands, or what follows
pub unless : {A : Type 0} {P : A → Type 0} (o : Option ℕ) (at : ℕ → QasmFault) (os : List Operand) (r : Result A QasmFault) → ((place : ℕ) → IsOfText (at place)) → (o ≡ None → Reads P r) → Reads P (unless_at o at os r)
unless None at os r fair otherwise = otherwise refl
unless (Some j) at os r fair otherwise = record { holds = fair _ }
