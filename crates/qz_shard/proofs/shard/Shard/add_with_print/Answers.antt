use Rattle.std.proofs.Common.{◌≡◌, ◌<◌, length, sym, subst, All, Contains}
use Rattle.qz_circ.specs.Order.{all_circuits}
use Rattle.qz_shard.specs.Shards.{ShardParts, IsAtHome, print_at}
use Rattle.qz_shard.specs.Held.{HasMembers, members_in, IsClassWith}
use Rattle.qz_shard.proofs.ShardSteps.{search_members, steps_counted, steps_few, open_to, held_after}
use Rattle.qz_shard.proofs.shard.Shard.add_with_print.Goals as goal

-- the classes may be searched
pub find_class-requires-clause-members : goal.find_class-requires-clause-members
find_class-requires-clause-members g c =
    let s : ShardParts = record { number = c.self.inside.number; bounds = c.self.inside.bounds; probe = record { seed = c.self.inside.seed; q = c.self.inside.bounds.q }; journal = c.self.inside.journal.items } in
    subst (λ xs. All (HasMembers c.self.inside.bounds) (members_in xs)) (sym c.deref.ensures.value) (search_members s c.self.inside.classes.items c.self.inside.newest c.self.invariant)

-- only those with the fingerprint were
pub returns-in_err-found-clause-counted : goal.returns-in_err-found-clause-counted
returns-in_err-found-clause-counted g c lists are =
    let s : ShardParts = record { number = c.self.inside.number; bounds = c.self.inside.bounds; probe = record { seed = c.self.inside.seed; q = c.self.inside.bounds.q }; journal = c.self.inside.journal.items } in
    steps_counted s c.self.inside.classes.items c.self.inside.newest c.self.invariant c.args.print c.args.steps.now c.find_class.new.steps c.deref.result.now c.deref.ensures.value c.in_err-found.ensures.counted c.args.self.now c.self.view_is lists are

pub returns-in_err-put-clause-counted : goal.returns-in_err-put-clause-counted
returns-in_err-put-clause-counted g c lists are =
    let s : ShardParts = record { number = c.self.inside.number; bounds = c.self.inside.bounds; probe = record { seed = c.self.inside.seed; q = c.self.inside.bounds.q }; journal = c.self.inside.journal.items } in
    steps_counted s c.self.inside.classes.items c.self.inside.newest c.self.invariant c.args.print c.args.steps.now c.find_class.new.steps c.deref.result.now c.deref.ensures.value c.in_ok-found.ensures.counted c.args.self.now c.self.view_is lists are

pub returns-clause-counted : goal.returns-clause-counted
returns-clause-counted g c lists are =
    let s : ShardParts = record { number = c.self.inside.number; bounds = c.self.inside.bounds; probe = record { seed = c.self.inside.seed; q = c.self.inside.bounds.q }; journal = c.self.inside.journal.items } in
    steps_counted s c.self.inside.classes.items c.self.inside.newest c.self.invariant c.args.print c.args.steps.now c.find_class.new.steps c.deref.result.now c.deref.ensures.value c.in_ok-found.ensures.counted c.args.self.now c.self.view_is lists are

-- the class that was found takes the rank in
pub put-requires : goal.put-requires
put-requires g c =
    let s : ShardParts = record { number = c.self.inside.number; bounds = c.self.inside.bounds; probe = record { seed = c.self.inside.seed; q = c.self.inside.bounds.q }; journal = c.self.inside.journal.items } in
    open_to s c.self.inside.classes.items c.self.inside.newest c.self.invariant c.args.r c.args.print c.in_ok-found.found
    (subst (λ x. Contains x.journal c.args.r → ⊥) (sym c.self.view_is) c.requires.new)
    (subst (λ xs. IsClassWith c.self.inside.bounds xs c.args.print c.args.r c.in_ok-found.found) c.deref.ensures.value c.in_ok-found.ensures.found)

-- and what is kept fits the longer journal
pub invariant_of-self-2 : goal.invariant_of-self-2
invariant_of-self-2 g c =
    let s : ShardParts = record { number = c.self.inside.number; bounds = c.self.inside.bounds; probe = record { seed = c.self.inside.seed; q = c.self.inside.bounds.q }; journal = c.self.inside.journal.items } in
    held_after s c.self.inside.classes.items c.self.inside.newest c.self.invariant c.args.r c.args.print c.in_ok-found.found
    (subst (λ x. c.args.print ≡ print_at x.bounds x.probe.seed c.args.r) (sym c.self.view_is) c.requires.print)
    (subst (λ x. c.args.r < length (all_circuits x.bounds)) (sym c.self.view_is) c.requires.listed)
    (subst (λ x. Contains x.journal c.args.r → ⊥) (sym c.self.view_is) c.requires.new)
    (subst (λ x. IsAtHome x c.args.r) (sym c.self.view_is) c.requires.home)
    (subst (λ xs. IsClassWith c.self.inside.bounds xs c.args.print c.args.r c.in_ok-found.found) c.deref.ensures.value c.in_ok-found.ensures.found)
    c.put.new.journal.items c.put.new.classes.items c.put.new.newest c.in_ok-put.ensures.ok

pub returns-in_err-found-clause-few : goal.returns-in_err-found-clause-few
returns-in_err-found-clause-few g c =
    let s : ShardParts = record { number = c.self.inside.number; bounds = c.self.inside.bounds; probe = record { seed = c.self.inside.seed; q = c.self.inside.bounds.q }; journal = c.self.inside.journal.items } in
    steps_few s c.self.inside.classes.items c.self.inside.newest c.self.invariant c.args.print c.args.steps.now c.find_class.new.steps c.deref.result.now c.deref.ensures.value c.in_err-found.ensures.counted c.args.self.now c.self.view_is

pub returns-in_err-put-clause-few : goal.returns-in_err-put-clause-few
returns-in_err-put-clause-few g c =
    let s : ShardParts = record { number = c.self.inside.number; bounds = c.self.inside.bounds; probe = record { seed = c.self.inside.seed; q = c.self.inside.bounds.q }; journal = c.self.inside.journal.items } in
    steps_few s c.self.inside.classes.items c.self.inside.newest c.self.invariant c.args.print c.args.steps.now c.find_class.new.steps c.deref.result.now c.deref.ensures.value c.in_ok-found.ensures.counted c.args.self.now c.self.view_is

pub returns-clause-few : goal.returns-clause-few
returns-clause-few g c =
    let s : ShardParts = record { number = c.self.inside.number; bounds = c.self.inside.bounds; probe = record { seed = c.self.inside.seed; q = c.self.inside.bounds.q }; journal = c.self.inside.journal.items } in
    steps_few s c.self.inside.classes.items c.self.inside.newest c.self.invariant c.args.print c.args.steps.now c.find_class.new.steps c.deref.result.now c.deref.ensures.value c.in_ok-found.ensures.counted c.args.self.now c.self.view_is
