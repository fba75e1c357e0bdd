use Rattle.std.proofs.Common.{◌+◌, ◌*◌, ◌-◌, ◌<◌, map, get_or, arith}
use Rattle.std.specs.List.{range_with_len}
use Rattle.std.proofs.lemmas.List.Elements.{Contains-get_or}
use Rattle.std.proofs.lemmas.Result.{on_ok_weaker}
use Rattle.qz_repgen.proofs.CandidateRows.{row_small, part_row_small, row_of_none, row_moved}
use Rattle.qz_repgen.proofs.candidate.add_row.Goals as goal
use Rattle.qz_repgen.proofs.candidate.add_row.Goals.{After-drop_first_rank}

-- the ranks of both rows are small
from_small : (c : After-drop_first_rank) → c.drop_first_rank.result * c.args.gates + c.args.gates < 9000000
from_small c = part_row_small c.args.b c.requires.lawful c.args.reps.now c.requires.one_length c.args.s c.requires.listed c.drop_first_rank.result c.drop_first_rank.ensures.earlier c.args.gates c.requires.gates

pub returns-then-s-eq0 : goal.returns-then-s-eq0
returns-then-s-eq0 c =
    on_ok_weaker c.add_up_to.result
    (λ added. record { row = range_with_len 1 c.args.gates; exactly = row_of_none c.args.b c.requires.lawful c.args.reps.now c.requires.one_length c.args.s c.requires.listed (omega arith) c.args.gates c.requires.gates; last = added })
    c.add_up_to.ensures

pub drop_first_rank-requires-clause-listed : goal.drop_first_rank-requires-clause-listed
drop_first_rank-requires-clause-listed c = c.requires.one_length.listed c.args.s c.requires.listed

pub overflow_mul-from : goal.overflow_mul-from
overflow_mul-from c = record { fits = omega (arith, from_small c) }

pub overflow_add-from : goal.overflow_add-from
overflow_add-from c = record { fits = omega (arith, from_small c) }

pub overflow_mul-s : goal.overflow_mul-s
overflow_mul-s c = record { fits = omega (arith, row_small c.args.b c.requires.lawful c.args.reps.now c.requires.one_length c.args.s c.requires.listed c.args.gates c.requires.gates) }

pub add_moved-requires-clause-above : goal.add_moved-requires-clause-above
add_moved-requires-clause-above c k d inside =
    let p = get_or c.between-run.result.now k d in
    let facts = (c.between-run.ensures.exactly p).0 (Contains-get_or c.between-run.result.now k d inside) in
    omega (arith, facts.1)

pub add_moved-requires-clause-fits : goal.add_moved-requires-clause-fits
add_moved-requires-clause-fits c k d inside =
    let p = get_or c.between-run.result.now k d in
    let facts = (c.between-run.ensures.exactly p).0 (Contains-get_or c.between-run.result.now k d inside) in
    omega (arith, facts.1, facts.2, row_small c.args.b c.requires.lawful c.args.reps.now c.requires.one_length c.args.s c.requires.listed c.args.gates c.requires.gates)

pub returns : goal.returns
returns c =
    on_ok_weaker c.add_moved.result
    (λ added. record {
      row = map (λ p. c.args.s * c.args.gates + (p - c.drop_first_rank.result * c.args.gates)) c.between-run.result.now;
      exactly = row_moved c.args.b c.requires.lawful c.args.reps.now c.requires.one_length c.args.s c.requires.listed (omega arith) c.drop_first_rank.result c.drop_first_rank.ensures.rank c.args.gates c.requires.gates c.between-run.result.now c.between-run.ensures;
      last = added;
    })
    c.add_moved.ensures
