-- Children that are told to change nothing by their cost and first position.
use Rattle.std.proofs.Common.{◌≡◌, ℕ, List, [], ◌∷◌, length, take, Option, IfSome, subst, ◌∙◌, arith}
use Rattle.std.specs.List.{filter}
use Rattle.qz_circ.specs.Circuit.{Circuit}
use Rattle.qz_circ.specs.Gathering.{replaced_at}
use Rattle.qz_circ.specs.Instances.{bound_instance}
use Rattle.qz_circ.specs.Places.{PlaceParts}
use Rattle.qz_circ.specs.ProgramCircuits.{ProgramCircuit, cost}
use Rattle.qz_circ.specs.Queue.{QueueList, IsQueue}
use Rattle.qz_circ.specs.Replacement.{replaced}
use Rattle.qz_queue.specs.declared.bar.Bar.{Bar}
use Rattle.qz_queue.specs.Bars.{IsBar}
use Rattle.qz_rewrite.proofs.Kept.{front_kept}
use Rattle.qz_search.specs.Offers.{is_new, offered_to, IsBarred}
use Rattle.qz_search.proofs.Offering.{closed_lost}

pub barred_lost : (q : QueueList) (seen : List ProgramCircuit) (most n long : ℕ) (c : ProgramCircuit) (right : Circuit) (place : PlaceParts) (bar : Option Bar) → IsQueue q → IfSome bar (IsBar q c) → IsBarred bar n long place → n ≡ cost q.weights (replaced c right place) → long ≡ length (replaced c right place)
    → q ≡ offered_to q (filter (is_new q.weights seen most) (replaced c right place ∷ []))
barred_lost q seen most n long c right place bar h known barred e f =
    let b = barred.bar in
    let here : IsBar q c b = subst (λ o. IfSome o (IsBar q c)) barred.is known in
    let front : take b.front (replaced c right place) ≡ take b.front c =
    (λ i. take b.front (replaced_at (barred.positions i) (bound_instance place.binding right) c)) ∙ front_kept b.front barred.first barred.rest (bound_instance place.binding right) c barred.behind here.within in
    closed_lost q seen most (replaced c right place) h (here.refused (replaced c right place) (omega (arith, barred.dear, e)) (omega (arith, barred.long_enough, f)) front)
