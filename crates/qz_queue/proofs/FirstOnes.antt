-- The first of circuits that passes a test.
use Rattle.std.proofs.Common.{◌≡◌, ◌<◌, ℕ, zero, suc, Bool, true, false, cond, List, [], ◌∷◌, length, take, get_or, slice_get, Some, sym, ◌∙◌, refl, arith}
use Rattle.std.specs.List.{filter}
use Rattle.qz_circ.specs.ProgramCircuits.{ProgramCircuit}
use Rattle.qz_queue.specs.declared.priced.Priced.{Priced}
use Rattle.qz_queue.specs.Circuits.{circuits_of}

-- where none before it passes
pub first_passing : (test : ProgramCircuit → Bool) (vs : List Priced) (i : ℕ) (p : Priced) → filter test (circuits_of (take i vs)) ≡ [] → i < length vs → p ≡ get_or vs i p → test p.gates.items ≡ true → slice_get (filter test (circuits_of vs)) 0 ≡ Some p.gates.items
first_passing test [] i p none l e h = absurd (omega arith)
first_passing test (u ∷ us) zero p none l e h =
    (λ j. slice_get (cond (test (sym e j).gates.items) ((sym e j).gates.items ∷ filter test (circuits_of us)) (filter test (circuits_of us))) 0)
    ∙ (λ j. slice_get (cond (h j) (p.gates.items ∷ filter test (circuits_of us)) (filter test (circuits_of us))) 0)
first_passing test (u ∷ us) (suc i) p none l e h = by (test u.gates.items) none (λ g. first_passing test us i p g (omega arith) e h)
  where
    by : (b : Bool) → cond b (u.gates.items ∷ filter test (circuits_of (take i us))) (filter test (circuits_of (take i us))) ≡ [] → (filter test (circuits_of (take i us)) ≡ [] → slice_get (filter test (circuits_of us)) 0 ≡ Some p.gates.items)
        → slice_get (cond b (u.gates.items ∷ filter test (circuits_of us)) (filter test (circuits_of us))) 0 ≡ Some p.gates.items
    by true g ih = cc
    by false g ih = ih g
