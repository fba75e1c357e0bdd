use Rattle.std.proofs.Common.{◌+◌, arith}
use Rattle.std.specs.Prelude.{Ok, Err}
use Rattle.std.proofs.lemmas.List.Sorted.{searched}
use Rattle.qz_repgen.proofs.RisingRuns.{non_falling}
use Rattle.qz_repgen.proofs.candidate.count_up_to.Goals as goal

-- the number is found, and the others rise from there
pub returns-in-Ok-clause-front : goal.returns-in-Ok-clause-front
returns-in-Ok-clause-front c k before =
    let found = searched c.args.numbers.now c.args.x (Ok c.in-Ok.place) c.in-Ok.ensures.position (non_falling c.args.numbers.now c.requires) in
    omega (arith, found.0, found.1, non_falling c.args.numbers.now c.requires k c.in-Ok.place (omega arith) found.0)

pub returns-in-Ok-clause-back : goal.returns-in-Ok-clause-back
returns-in-Ok-clause-back c k after inside =
    let found = searched c.args.numbers.now c.args.x (Ok c.in-Ok.place) c.in-Ok.ensures.position (non_falling c.args.numbers.now c.requires) in
    omega (arith, found.1, c.requires c.in-Ok.place (omega arith), non_falling c.args.numbers.now c.requires (c.in-Ok.place + 1) k after inside)

pub returns-in-Err-clause-front : goal.returns-in-Err-clause-front
returns-in-Err-clause-front c k before =
    let found = searched c.args.numbers.now c.args.x (Err c.in-Err.place) c.in-Err.ensures.position (non_falling c.args.numbers.now c.requires) in
    omega (arith, found.1 k before)

pub returns-in-Err-clause-back : goal.returns-in-Err-clause-back
returns-in-Err-clause-back c =
    let found = searched c.args.numbers.now c.args.x (Err c.in-Err.place) c.in-Err.ensures.position (non_falling c.args.numbers.now c.requires) in
    found.2
