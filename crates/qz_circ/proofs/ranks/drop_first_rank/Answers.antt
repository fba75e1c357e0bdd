use Rattle.std.proofs.Common.{◌≡◌, ◌-◌, ◌*◌, arith}
use Rattle.qz_circ.specs.Order.{circuit_at}
use Rattle.qz_circ.specs.Classes.{without_first}
use Rattle.qz_circ.proofs.RankLemmas.{some_gate}
use Rattle.qz_circ.proofs.DroppedGates.{shorter_front, first_dropped, rank_of_part}
use Rattle.qz_circ.proofs.ranks.drop_first_rank.Goals as goal
use Rattle.qz_circ.proofs.ranks.drop_first_rank.Goals.{After-loop-first}

pub nonzero_div-first : goal.nonzero_div-first
nonzero_div-first c = some_gate c.args.b c.gates-gates.ensures.lawful c.gates-gates.result c.gates-gates.ensures.value

pub loop-first-preserved : goal.loop-first-preserved
loop-first-preserved c = shorter_front c.args.b c.gates-gates.ensures.lawful c.gates-gates.result c.gates-gates.ensures.value c.args.r c.loop-first.first c.loop-first.place_value c.requires.listed c.loop-first.invariant c.loop-first-test.true

-- what is left stands at the rank that is found
dropped : (c : After-loop-first) → circuit_at c.args.b (c.args.r - c.loop-first.first * c.loop-first.place_value) ≡ without_first (circuit_at c.args.b c.args.r)
dropped c = first_dropped c.args.b c.gates-gates.ensures.lawful c.gates-gates.result c.gates-gates.ensures.value c.args.r c.loop-first.first c.loop-first.place_value c.requires.listed c.loop-first.invariant c.loop-first-test.false

pub returns-clause-rank : goal.returns-clause-rank
returns-clause-rank c = rank_of_part c.args.b _ (c.args.r - c.loop-first.first * c.loop-first.place_value) c.gates-gates.ensures.lawful (omega (arith, c.requires.listed)) (dropped c)

pub returns-clause-circuit : goal.returns-clause-circuit
returns-clause-circuit c = dropped c
