use Rattle.std.proofs.Common.{◌≡◌, ◌+◌, ◌≤◌, ◌∙◌, sym, length, arith, rules}
use Rattle.qz_match.proofs.Following.{leads_more}
use Rattle.qz_match.proofs.rows.advance.Goals as goal

pub loop-k-preserved : goal.loop-k-preserved
loop-k-preserved c =
    let six : length c.loop-k.found ≡ 6 = search rules in
    let room = c.loop-k-test.true in
    let few = c.requires.few in
    (omega arith, leads_more c.args.c.now c.args.neighbours.now.links c.args.p c.args.words.now c.loop-k.k c.loop-k.found c.in-Some.next (omega arith) c.loop-k.invariant.1 c.in-Some.ensures)
