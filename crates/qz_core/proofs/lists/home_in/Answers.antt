use Rattle.std.proofs.Common.{Ok, Err}
use Rattle.std.proofs.lemmas.List.Sorted.{searched}
use Rattle.qz_core.proofs.Vectors.{home_at, home_past, rises_to, between}
use Rattle.qz_core.proofs.lists.home_in.Goals as goal

pub returns-in-Ok-clause-value : goal.returns-in-Ok-clause-value
returns-in-Ok-clause-value c =
    let at = searched c.args.list.now c.args.r (Ok c.in-Ok.place) c.in-Ok.ensures.position (rises_to c.args.list.now c.requires.rising) in
    home_at c.args.list.now c.args.homes.now c.args.r c.in-Ok.place c.requires at.0 at.1

pub returns-in-Err-clause-value : goal.returns-in-Err-clause-value
returns-in-Err-clause-value c =
    let at = searched c.args.list.now c.args.r (Err c.in-Err.field-0) c.in-Err.ensures.position (rises_to c.args.list.now c.requires.rising) in
    home_past c.args.list.now c.args.homes.now c.args.r c.requires (between c.args.list.now c.args.r c.in-Err.field-0 at.1 at.2)
