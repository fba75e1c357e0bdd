-- Readings in steps: each gives a value or a fault, and the first fault is the answer.
use Rattle.std.specs.Prelude.{◌≡◌, ◌≢◌, Result, Ok, Err}

infixl 10 ◌>>=◌
-- the second step with the value of the first; or the first one's fault
abbrev pub ◌>>=◌ : {A B F : Type 0} → Result A F → (A → Result B F) → Result B F
(Ok x) >>= f = f x
(Err e) >>= f = Err e

-- the same with its fault as one of another kind
abbrev pub fault_as : {A F G : Type 0} → (F → G) → Result A F → Result A G
fault_as f (Ok x) = Ok x
fault_as f (Err e) = Err (f e)

-- what a call answers, seen by view, is this reading
abbrev pub Gives : {X Y F : Type 0} → (X → Y) → Result X F → Result Y F → Type 0
Gives view (Ok x) reading = reading ≡ Ok (view x)
Gives view (Err e) reading = reading ≡ Err e

-- the same, unless the answer is this one, that memory ran out
abbrev pub GivesUnless : {X Y F : Type 0} → F → (X → Y) → Result X F → Result Y F → Type 0
GivesUnless memory view (Ok x) reading = reading ≡ Ok (view x)
GivesUnless memory view (Err e) reading = e ≢ memory → reading ≡ Err e
