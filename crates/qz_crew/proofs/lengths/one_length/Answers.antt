use Rattle.std.proofs.lemmas.Bool.{eqb-true}
use Rattle.std.proofs.Common.{◌≡◌, ◌+◌, ◌<◌, [], length, sym, ap, subst, ◌∙◌, arith, rules}
use Rattle.qz_circ.specs.Bounds.{IsLawful}
use Rattle.qz_circ.specs.Classes.{ListsExactly}
use Rattle.qz_repgen.specs.Rounds.{IsKeptOf}
use Rattle.qz_crew.specs.Works.{IsDone}
use Rattle.qz_crew.proofs.LengthLemmas.{no_entry, none_left, are_sixteen, is_new, closed_held}
use Rattle.qz_crew.proofs.lengths.one_length.Goals as goal

-- no circuit is left to put
pub returns-then-is_empty-clause-held : goal.returns-then-is_empty-clause-held
returns-then-is_empty-clause-held g c =
    let lawful : IsLawful c.args.b = search rules in
    let none : c.in_ok-list.list.len ≡ 0 = eqb-true c.in_ok-list.list.len 0 (sym c.is_empty.ensures ∙ c.if-is_empty.true) in
    let empty : c.in_ok-list.list.items ≡ [] = no_entry c.in_ok-list.list.items (omega (arith, none, c.in_ok-list.list.ok)) in
    none_left c.args.b lawful c.args.probe.now c.requires.qubits c.args.k c.args.shards.items c.requires.held (subst (ListsExactly (IsKeptOf c.args.b (c.args.k + 1))) empty c.in_ok-list.ensures.kept)

pub open-requires-clause-list : goal.open-requires-clause-list
open-requires-clause-list g c =
    let lawful : IsLawful c.args.b = search rules in
    let some : 0 < length c.in_ok-list.list.items = search rules in
    is_new c.args.b lawful c.args.probe.now c.requires.qubits c.args.k c.args.shards.items c.requires.held c.in_ok-list.list.items c.in_ok-list.ensures.kept some

pub open-requires-clause-old : goal.open-requires-clause-old
open-requires-clause-old g c =
    let lawful : IsLawful c.args.b = search rules in
    are_sixteen c.args.b lawful c.args.probe.now c.requires.qubits c.args.k c.args.shards.items c.requires.held

-- all that was left was put
pub returns-clause-held : goal.returns-clause-held
returns-clause-held g c =
    let lawful : IsLawful c.args.b = search rules in
    let done : IsDone c.crew-pass.result.0.view = search rules in
    closed_held c.args.b lawful c.args.probe.now c.requires.qubits c.args.k c.args.shards.items c.requires.held c.in_ok-list.list.items c.in_ok-list.ensures.kept c.in_ok-store.store c.args.workers c.in_ok-store.ensures.opened
    c.crew-pass.result.0.view c.crew-pass.ensures.free.of.1 done c.close.result.items c.close.ensures.grown c.close.ensures.shards
