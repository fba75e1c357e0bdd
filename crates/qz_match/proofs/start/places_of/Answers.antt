use Rattle.std.proofs.Common.{◌≡◌, ◌++◌, ◌+◌, suc, length, sym, ap, ◌∙◌, arith, rules}
use Rattle.std.specs.List.{flat_map}
use Rattle.qz_circ.specs.Circuit.{below}
use Rattle.qz_circ.proofs.TwoPlaces.{flat_map-below}
use Rattle.qz_match.specs.Starts.{starting}
use Rattle.qz_match.proofs.Lacking.{lacked_nowhere}
use Rattle.qz_match.proofs.Starts.{all_places-starts}
use Rattle.qz_match.proofs.start.places_of.Goals as goal

-- the places that begin at p are added
pub loop-p-preserved : goal.loop-p-preserved
loop-p-preserved c =
    let added : c.add_from.new.found.items ≡ c.loop-p.found.items ++ starting c.args.left.now c.args.c.now c.loop-p.p = search rules in
    let next : suc c.loop-p.p ≡ c.loop-p.p + 1 = omega arith in
    added ∙ ap (λ xs. xs ++ starting c.args.left.now c.args.c.now c.loop-p.p) c.loop-p.invariant ∙ sym (flat_map-below (starting c.args.left.now c.args.c.now) c.loop-p.p) ∙ ap (λ n. flat_map (starting c.args.left.now c.args.c.now) (below n)) next

pub returns : goal.returns
returns c =
    let over = c.loop-p-test.false in
    let end : c.loop-p.p ≡ length c.args.c.now = omega arith in
    c.loop-p.invariant ∙ ap (λ n. flat_map (starting c.args.left.now c.args.c.now) (below n)) end ∙ sym (all_places-starts c.args.left.now c.args.c.now c.requires.some)

-- a gate of the left side is of none of the program's kinds
pub returns-then-lack_some : goal.returns-then-lack_some
returns-then-lack_some c =
    c.new.ensures.items ∙ lacked_nowhere c.args.left.now c.args.c.now c.args.neighbours.now.kinds c.requires.some c.requires.on c.requires.lawful c.requires.links.kinds (sym c.lack_some.ensures ∙ c.if-lack_some.true)
