use Rattle.std.proofs.Common.{◌≤◌, arith}
use Rattle.qz_circ.specs.ProgramCircuits.{cost}
use Rattle.qz_search.proofs.Offering.{dear_lost, closed_lost}
use Rattle.qz_search.proofs.children.is_lost.Goals as goal

pub returns-else-n-most : goal.returns-else-n-most
returns-else-n-most c = λ closed seen d e.
    let dear : c.args.n ≤ cost c.args.queue.now.weights d = omega (arith, e) in
    closed_lost c.args.queue.now seen c.args.most d c.requires (c.is_closed_to_cost.ensures.refused closed d (omega (arith, dear, c.from.ensures)))
