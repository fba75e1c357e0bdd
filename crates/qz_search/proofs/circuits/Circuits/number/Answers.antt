use Rattle.qz_search.proofs.Numbers.{known_number}
use Rattle.qz_search.proofs.circuits.Circuits.number.Goals as goal

pub returns-in-Some : goal.returns-in-Some
returns-in-Some c =
    known_number c.args.self.now c.in-Some.k c.args.c.items (rw (c.deref-4.ensures.value, c.deref-6.ensures.value, c.self.view_is) at c.in-Some.ensures)
