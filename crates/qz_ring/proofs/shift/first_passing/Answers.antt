use Rattle.std.proofs.Common.{ap, arith}
use Rattle.qz_ring.specs.Terms.{Term}
use Rattle.qz_ring.specs.declared.term.Term.TheInside.{Inside}
use Rattle.qz_ring.proofs.Shifts.{rest_passes}
use Rattle.qz_ring.proofs.shift.first_passing.Goals as goal

-- the terms from here on turn at least as far as this one
pub returns-then-term-limit-clause-passing : goal.returns-then-term-limit-clause-passing
returns-then-term-limit-clause-passing c =
    let read = ap (λ (t : Term). t.exponent.turn) c.term.view_is in
    let turn = ap (λ (t : Inside). t.exponent.turn) c.term-inside.view_is in
    rest_passes c.args.terms.now c.loop-i.i c.args.limit c.index-terms-i.result c.requires (omega arith) c.index-terms-i.is (omega (arith, c.if-term-limit.true, read, turn))
