use Rattle.std.proofs.Common.{◌≡◌, nat_eq, rules}
use Rattle.indexmap.specs.IndexMap.{get}
use Rattle.qz_circ.specs.Bounds.{IsLawful}
use Rattle.qz_derive.proofs.IndexLemmas.{finds_representatives}
use Rattle.qz_derive.proofs.index.index_of.Goals as goal

pub returns : goal.returns
returns c =
    let lawful : IsLawful c.args.k.now.bounds = search rules in
    finds_representatives c.args.k.now.bounds lawful c.args.k.now.lists c.requires (get nat_eq c.in_ok-firsts.firsts) c.in_ok-firsts.ensures
