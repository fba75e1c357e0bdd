-- Readings element by element.
use Rattle.std.proofs.Common.{◌≡◌, ℕ, ◌+◌, ◌<◌, ◌≤◌, List, [], ◌∷◌, ◌++◌, length, get_or, map, drop, refl, ap, append_assoc}
use Rattle.std.specs.Prelude.{Result, Ok, Err}
use Rattle.std.specs.List.{AllByRecursion}
use Rattle.std.proofs.lemmas.List.{append-nil, drop-map, drop_more, drop_all}
use Rattle.qz_circ.specs.declared.program.Arg.{Arg}
use Rattle.qz_circ.specs.declared.fault.QasmFault.{QasmFault}
use Rattle.qz_circ.specs.FirstFault.{◌>>=◌}
use Rattle.qz_circ.specs.declared.token.Token.{Token}
use Rattle.qz_circ.specs.Lexemes.{place_of, lexemes}
use Rattle.qz_circ.specs.Forms as form
use Rattle.qz_circ.specs.Registers.{RegisterParts}
use Rattle.qz_circ.specs.Grammar.{arg_of, args_of}
use Rattle.qz_qread.specs.declared.form.Operand.{Operand}
use Rattle.qz_qread.specs.Views.{operand, operands}

-- these values, before those that are read
abbrev pub with_found : {A : Type 0} → List A → Result (List A) QasmFault → Result (List A) QasmFault
with_found found others = others >>= (λ more. Ok (found ++ more))

with_found-nil : {A : Type 0} (others : Result (List A) QasmFault) → with_found [] others ≡ others
with_found-nil (Ok more) = refl
with_found-nil (Err e) = refl

-- one operand more is found
args_go : (registers : List RegisterParts) (found : List Arg) (o : form.Operand) (os : List form.Operand) (a : Arg) → Ok a ≡ arg_of registers o → with_found (found ++ a ∷ []) (args_of registers os) ≡ with_found found (args_of registers (o ∷ os))
unfolding args_of
args_go registers found o os a is = rw (← is) (grown (args_of registers os)) where
  grown : (r : Result (List Arg) QasmFault) → with_found (found ++ a ∷ []) r ≡ with_found found (r >>= (λ more. Ok (a ∷ more)))
  grown (Ok more) = ap Ok (append_assoc found (a ∷ []) more)
  grown (Err e) = refl

-- an operand's fault is the first one
args_fail : (registers : List RegisterParts) (found : List Arg) (o : form.Operand) (os : List form.Operand) (e : QasmFault) → Err e ≡ arg_of registers o → with_found found (args_of registers (o ∷ os)) ≡ Err e
unfolding args_of
args_fail registers found o os e is = rw (← is) refl

-- the operands from a place on
rest_at : (bytes : List ℕ) (os : List Operand) (i : ℕ) (d : Operand) → i < length os → drop i (operands bytes os) ≡ operand bytes (get_or os i d) ∷ drop (i + 1) (operands bytes os)
rest_at bytes os i d within = rw (drop-map (operand bytes) i os, drop-map (operand bytes) (i + 1) os, drop_more os i d within) refl

-- the operand at a place is found
pub args_go_at : (registers : List RegisterParts) (bytes : List ℕ) (os : List Operand) (i : ℕ) (d : Operand) (found : List Arg) (a : Arg) → i < length os → Ok a ≡ arg_of registers (operand bytes (get_or os i d)) → with_found (found ++ a ∷ []) (args_of registers (drop (i + 1) (operands bytes os))) ≡ with_found found (args_of registers (drop i (operands bytes os)))
args_go_at registers bytes os i d found a within is = rw (rest_at bytes os i d within) (args_go registers found (operand bytes (get_or os i d)) (drop (i + 1) (operands bytes os)) a is)

-- its fault is the first one
pub args_fail_at : (registers : List RegisterParts) (bytes : List ℕ) (os : List Operand) (i : ℕ) (d : Operand) (found : List Arg) (e : QasmFault) → i < length os → Err e ≡ arg_of registers (operand bytes (get_or os i d)) → with_found found (args_of registers (drop i (operands bytes os))) ≡ Err e
args_fail_at registers bytes os i d found e within is = rw (rest_at bytes os i d within) (args_fail registers found (operand bytes (get_or os i d)) (drop (i + 1) (operands bytes os)) e is)

-- no operand is left
pub args_end_at : (registers : List RegisterParts) (bytes : List ℕ) (os : List Operand) (i : ℕ) (found : List Arg) → length os ≤ i → with_found found (args_of registers (drop i (operands bytes os))) ≡ Ok found
unfolding args_of
args_end_at registers bytes os i found past = rw (drop-map (operand bytes) i os, drop_all i os past) (ap Ok (append-nil found))

-- what holds of each, and of one more
pub each_and_one : {A : Type 0} (P : A → Type 0) (xs : List A) (y : A) → AllByRecursion P xs → P y → AllByRecursion P (xs ++ y ∷ [])
each_and_one P [] y each here = (here, tt)
each_and_one P (x ∷ xs) y each here = (each.0, each_and_one P xs y each.1 here)

-- tokens with their bytes are still these tokens
pub tokens_of_lexemes : (bytes : List ℕ) (ts : List Token) → map (λ l. l.token) (lexemes bytes ts) ≡ ts
tokens_of_lexemes bytes [] = refl
tokens_of_lexemes bytes (t ∷ ts) = ap (λ xs. t ∷ xs) (tokens_of_lexemes bytes ts)

-- where operands stand
pub places_of : (bytes : List ℕ) (os : List Operand) → map (λ o. place_of o.name) (operands bytes os) ≡ map (λ o. o.name.start) os
places_of bytes [] = refl
places_of bytes (o ∷ os) = ap (λ xs. o.name.start ∷ xs) (places_of bytes os)
