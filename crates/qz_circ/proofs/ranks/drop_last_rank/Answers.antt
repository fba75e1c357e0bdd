use Rattle.std.proofs.Common.{◌-◌, ◌/◌}
use Rattle.qz_circ.proofs.RankLemmas.{last_gate, some_gate}
use Rattle.qz_circ.proofs.DroppedGates.{last_dropped, rank_of_part}
use Rattle.qz_circ.proofs.ranks.drop_last_rank.Goals as goal

pub nonzero_div-result : goal.nonzero_div-result
nonzero_div-result c = some_gate c.args.b c.gates.ensures.lawful c.gates.result c.gates.ensures.value

pub returns-clause-rank : goal.returns-clause-rank
returns-clause-rank c =
    let last = last_gate c.args.b c.gates.ensures.lawful c.args.r c.gates.result c.gates.ensures.value c.requires.some_gate c.requires.listed in
    rank_of_part c.args.b _ ((c.args.r - 1) / c.gates.result) c.gates.ensures.lawful last.listed (last_dropped c.args.b c.gates.ensures.lawful c.gates.result c.gates.ensures.value c.args.r c.requires.some_gate c.requires.listed)

pub returns-clause-circuit : goal.returns-clause-circuit
returns-clause-circuit c = last_dropped c.args.b c.gates.ensures.lawful c.gates.result c.gates.ensures.value c.args.r c.requires.some_gate c.requires.listed
