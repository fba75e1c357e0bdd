use Rattle.std.proofs.Common.{◌≡◌, ◌≤◌, true, false, true≢false, refl, sym, ◌∙◌, inl, arith}
use Rattle.std.proofs.lemmas.Bool.{eqb-true, eq-eqb}
use Rattle.qz_circ.specs.Search.{is_among}
use Rattle.qz_queue.specs.Circuits.{circuits_of, place_of}
use Rattle.qz_queue.specs.HeldQueue.{queue_of}
use Rattle.qz_queue.proofs.QueueLists.{queue_ordered, offer_late, offer_there, late_refused, among_contains, early}
use Rattle.qz_queue.proofs.queue.Queue.place_by.Goals as goal

pub find-place-requires-clause-ordered : goal.find-place-requires-clause-ordered
find-place-requires-clause-ordered c = rw c.deref.ensures.value (queue_ordered _ _ _ c.self.invariant.lawful.ordered)

pub returns-then-found-clause-refused : goal.returns-then-found-clause-refused
returns-then-found-clause-refused c =
    let cs = circuits_of c.self.inside.list.items in
    let there : is_among cs c.args.c.now ≡ true = rw c.deref.ensures.value at (sym c.find-place.ensures.there ∙ c.if-found.true) in
    rw (← c.self.view_is) (λ _. inl (among_contains cs c.args.c.now there), λ _. refl)

pub returns-then-found-clause-same : goal.returns-then-found-clause-same
returns-then-found-clause-same c =
    let cs = circuits_of c.self.inside.list.items in
    let there : is_among cs c.args.c.now ≡ true = rw c.deref.ensures.value at (sym c.find-place.ensures.there ∙ c.if-found.true) in
    rw (← c.self.view_is) (λ _. offer_there c.self.inside.weights c.self.inside.cap cs c.args.c.now c.self.invariant.lawful.ordered there)

pub returns-then-found-clause-place : goal.returns-then-found-clause-place
returns-then-found-clause-place c = λ e. absurd (true≢false e)

pub returns-clause-refused : goal.returns-clause-refused
returns-clause-refused c =
    let q = queue_of c.self.inside.cap c.self.inside.weights c.self.inside.list in
    let at : c.find-place.result.0 ≡ place_of q.weights q.list c.args.c.now = rw c.deref.ensures.value at c.find-place.ensures.place in
    let missing : is_among q.list c.args.c.now ≡ false = rw c.deref.ensures.value at (sym c.find-place.ensures.there ∙ c.if-found.false) in
    rw (← c.self.view_is) (late_refused q c.args.c.now c.find-place.result.0 c.self.invariant.lawful.ordered at missing)

pub returns-clause-same : goal.returns-clause-same
returns-clause-same c =
    let cs = circuits_of c.self.inside.list.items in
    let at : c.find-place.result.0 ≡ place_of c.self.inside.weights cs c.args.c.now = rw c.deref.ensures.value at c.find-place.ensures.place in
    rw (← c.self.view_is) (λ h. let same = eqb-true c.find-place.result.0 c.self.inside.cap h in let late : c.self.inside.cap ≤ place_of c.self.inside.weights cs c.args.c.now = omega (arith, at, same) in offer_late c.self.inside.weights c.self.inside.cap cs c.args.c.now c.self.invariant.lawful.ordered late)

pub returns-clause-place : goal.returns-clause-place
returns-clause-place c =
    let q = queue_of c.self.inside.cap c.self.inside.weights c.self.inside.list in
    let at : c.find-place.result.0 ≡ place_of q.weights q.list c.args.c.now = rw c.deref.ensures.value at c.find-place.ensures.place in
    let missing : is_among q.list c.args.c.now ≡ false = rw c.deref.ensures.value at (sym c.find-place.ensures.there ∙ c.if-found.false) in
    rw (← c.self.view_is) (λ h. record {
      missing = missing;
      at = at;
      below = early q.weights q.cap c.self.inside.list.items c.find-place.result.0 c.self.invariant.lawful.ordered (rw c.deref.ensures.value at c.find-place.ensures.bound) (λ e. true≢false (sym (eq-eqb c.find-place.result.0 c.self.inside.cap e) ∙ h));
    })
