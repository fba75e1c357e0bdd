-- A round whose first circuits are offered before the others.
use Rattle.std.proofs.Common.{◌≡◌, ℕ, List, ◌++◌, take, drop, map, Vec, Result, Ok, Err, refl, sym, ap, subst, ◌∙◌}
use Rattle.std.specs.Prelude.{IfOk}
use Rattle.std.proofs.lemmas.List.{take-append-drop, map-append}
use Rattle.qz_circ.specs.ProgramCircuits.{ProgramCircuit}
use Rattle.qz_circ.specs.Search.{earliest, is_short}
use Rattle.std.specs.List.{filter}
use Rattle.qz_circ.specs.Vectors.{lists_of}
use Rattle.qz_queue.proofs.DifferentOnes.{Has, has_left, has_right}
use Rattle.qz_search.specs.Offers.{AreFit, offered_to}
use Rattle.qz_search.specs.Rounds.{SearchParts, new_children, advanced}
use Rattle.qz_search.proofs.Members.{contains_has, has_contains}
use Rattle.qz_search.proofs.Offering.{offered_on}
use Rattle.qz_hunt.proofs.GatherLemmas.{children_of_both}

-- what the two parts of vectors hold
pub parted : {X A : Type 0} (n : ℕ) (all first rest : List (Vec X A)) → first ≡ take n all → rest ≡ drop n all → lists_of first ++ lists_of rest ≡ lists_of all
parted n all first rest f r =
    sym (map-append (λ v. v.items) first rest) ∙ (λ i. map (λ v. v.items) (f i ++ r i)) ∙ ap lists_of (take-append-drop n all)

pub fit_first : (first rest all : List ProgramCircuit) → first ++ rest ≡ all → AreFit all → AreFit first
fit_first first rest all parts fit = λ c has. fit c (has_contains all c (subst (λ cs. Has cs c) parts (has_left first rest c (contains_has first c has))))

pub fit_rest : (first rest all : List ProgramCircuit) → first ++ rest ≡ all → AreFit all → AreFit rest
fit_rest first rest all parts fit = λ c has. fit c (has_contains all c (subst (λ cs. Has cs c) parts (has_right first rest c (contains_has rest c has))))

-- a round is the same where some circuits were offered first
offered_ahead : (s t next : SearchParts) (first rest all : List ProgramCircuit) → first ++ rest ≡ all → t ≡ record s { queue = offered_to s.queue (new_children s first) } → next ≡ advanced t (new_children t rest)
    → next ≡ advanced s (new_children s all)
offered_ahead s t next first rest all parts e is =
    let u : SearchParts = record s { queue = offered_to s.queue (new_children s first) } in
    let queue = offered_on s.queue u.queue (new_children s first) (new_children s rest) refl
    ∙ ap (offered_to s.queue) (sym (children_of_both s first rest) ∙ ap (new_children s) parts) in
    is ∙ ap (λ x. advanced x (new_children x rest)) e ∙ (λ i. record s { queue = queue i; best = earliest s.queue.weights s.best (filter is_short (queue i).list) })

pub round_ahead : {E : Type 0} (s t : SearchParts) (first rest all : List ProgramCircuit) (made : Result SearchParts E) → first ++ rest ≡ all → t ≡ record s { queue = offered_to s.queue (new_children s first) }
    → IfOk made (λ next. next ≡ advanced t (new_children t rest)) → IfOk made (λ next. next ≡ advanced s (new_children s all))
round_ahead s t first rest all (Ok next) parts e is = offered_ahead s t next first rest all parts e is
round_ahead s t first rest all (Err x) parts e is = tt
