use Rattle.std.proofs.Common.{◌≡◌, ◌++◌, drop, reverse, ◌∙◌, sym, subst, rules, arith}
use Rattle.qz_circ.specs.Bounds.{IsLawful}
use Rattle.qz_circ.specs.Circuit.{Limits}
use Rattle.qz_circ.specs.Chains.{IsRankChain}
use Rattle.qz_derive.specs.declared.chain.Chain.TheVariants.{Joined}
use Rattle.qz_derive.specs.Descents.{IsDescent}
use Rattle.qz_derive.proofs.RankChains.{different, rank_chain, rank_leads}
use Rattle.qz_derive.proofs.derive.Goals as goal

-- the lowest ranks differ
pub returns-then-first-second-clause-answer : goal.returns-then-first-second-clause-answer
returns-then-first-second-clause-answer c =
    let b = c.args.k.now.bounds in
    let lawful : IsLawful b = search rules in
    let x = c.in_ok-first.first in
    let y = c.in_ok-second.second in
    let first = subst (λ (d : Limits). IsDescent d c.args.a x.ranks.items x.lowest) c.bounds-b.ensures c.in_ok-first.ensures in
    let second = subst (λ (d : Limits). IsDescent d c.args.c y.ranks.items y.lowest) c.bounds-b.ensures c.in_ok-second.ensures in
    different b lawful c.args.a c.args.c x.ranks.items y.ranks.items x.lowest y.lowest c.requires.first c.requires.second first second c.if-first-second.true

-- the lowest ranks are the same
pub returns-clause-answer : goal.returns-clause-answer
returns-clause-answer c =
    let b = c.args.k.now.bounds in
    let lawful : IsLawful b = search rules in
    let x = c.in_ok-first.first in
    let y = c.in_ok-second.second in
    let first = subst (λ (d : Limits). IsDescent d c.args.a x.ranks.items x.lowest) c.bounds-b.ensures c.in_ok-first.ensures in
    let second = subst (λ (d : Limits). IsDescent d c.args.c y.ranks.items y.lowest) c.bounds-b.ensures c.in_ok-second.ensures in
    rank_chain b lawful c.args.a c.args.c x.ranks.items y.ranks.items x.lowest y.lowest c.requires.first c.requires.second first second c.if-first-second.false c.of.result (c.of.ensures ∙ c.in_ok-ranks.ensures)

-- so it leads from the one circuit to the other
pub returns-clause-leads : goal.returns-clause-leads
returns-clause-leads c =
    let b = c.args.k.now.bounds in
    let lawful : IsLawful b = search rules in
    rank_leads b lawful c.args.k.now.lists c.requires.classes c.args.a c.args.c c.requires.first c.requires.second (Joined c.of.result) (returns-clause-answer c)
