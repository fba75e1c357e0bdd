use Rattle.std.proofs.Common.{◌≡◌, refl}
use Rattle.qz_circ.specs.Queue.{IsRefused}
use Rattle.qz_queue.proofs.queue.Queue.offer_at.Goals as goal

pub returns-then-refused-clause-refused : goal.returns-then-refused-clause-refused
returns-then-refused-clause-refused c =
    let refused : IsRefused c.args.self.now c.args.c.items = rw c.deref.ensures.value at (c.place_by-place.ensures.refused.0 c.if-refused.true) in
    (λ _. refused, λ _. refl)
