use Rattle.std.proofs.Common.{◌≡◌, true, false, refl, sym, ◌∙◌}
use Rattle.qz_circ.specs.Places.{places, all_places}
use Rattle.qz_match.specs.Occurring.{occur_in}
use Rattle.qz_match.proofs.UsableRules.{no_places, its_places, walked_some}
use Rattle.qz_match.proofs.usable.places.Goals as goal

-- left has no walk
pub returns-in-None : goal.returns-in-None
returns-in-None c = c.new.ensures.items ∙ sym (no_places c.args.left.now c.args.right.now c.args.c.now false (occur_in c.args.left.now c.args.right.now) c.in-None.ensures.connected refl refl)

-- right has something that left doesn't have
pub returns-then-not-covers : goal.returns-then-not-covers
returns-then-not-covers c = c.new-then-not-covers.ensures.items ∙ sym (no_places c.args.left.now c.args.right.now c.args.c.now true false c.in-Some.ensures.connected c.if-not-covers.ensures refl)

-- the places of left alone
pub returns : goal.returns
returns c =
    let same : places c.args.left.now c.args.right.now c.args.c.now ≡ all_places c.args.left.now c.args.c.now = its_places c.args.left.now c.args.right.now c.args.c.now c.in-Some.ensures.connected c.if-not-covers.ensures in
    rw same c.places_of.ensures

pub places_of-requires-clause-some : goal.places_of-requires-clause-some
places_of-requires-clause-some c = walked_some c.args.left.now c.in-Some.ensures.connected
