use Rattle.std.proofs.Common.{rules}
use Rattle.qz_circ.specs.Bounds.{IsLawful}
use Rattle.qz_repgen.specs.Rounds.{IsKeptUpTo}
use Rattle.qz_repgen.proofs.RoundLemmas.{parts_listed, parts_of_one_length, parts_number, left_listed}
use Rattle.qz_repgen.proofs.ShardLemmas.{ranks_of_all}
use Rattle.qz_repgen.proofs.rounds.next_kept.Goals as goal

-- the shards hold ranks
pub firsts-requires-clause-listed : goal.firsts-requires-clause-listed
firsts-requires-clause-listed c = ranks_of_all c.args.b c.requires.held.0 (IsKeptUpTo c.args.b c.args.k) c.args.shards.now c.requires.held.1 (λ r h. h.listed)

-- the parts are the representatives of k gates
pub candidates-requires-clause-rising : goal.candidates-requires-clause-rising
candidates-requires-clause-rising c =
    let lawful : IsLawful c.args.b = search rules in
    (parts_listed c.args.b lawful c.requires.held.0 c.args.k c.args.shards.now c.requires.held.1 c.in_ok-parts.parts.items c.in_ok-parts.ensures c.deref.result.now c.deref.ensures.value).rising

pub candidates-requires-clause-one_length : goal.candidates-requires-clause-one_length
candidates-requires-clause-one_length c =
    let lawful : IsLawful c.args.b = search rules in
    parts_of_one_length c.args.b lawful c.requires.held.0 c.args.k c.args.shards.now c.requires.held.1 c.in_ok-parts.parts.items c.in_ok-parts.ensures c.deref.result.now c.deref.ensures.value c.requires.short

pub returns-clause-kept : goal.returns-clause-kept
returns-clause-kept c =
    let lawful : IsLawful c.args.b = search rules in
    left_listed c.args.b lawful c.requires.held.0 c.args.k c.args.shards.now c.requires.held.1 c.in_ok-parts.parts.items c.in_ok-parts.ensures c.deref.result.now c.deref.ensures.value c.in_ok-kept.kept.items c.in_ok-kept.ensures

pub returns-clause-number : goal.returns-clause-number
returns-clause-number c =
    let lawful : IsLawful c.args.b = search rules in
    parts_number c.args.b lawful c.requires.held.0 c.args.k c.args.shards.now c.requires.held.1 c.in_ok-parts.parts.items c.in_ok-parts.ensures c.deref.result.now c.deref.ensures.value c.len.result (search rules)
