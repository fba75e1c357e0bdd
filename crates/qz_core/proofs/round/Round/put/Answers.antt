use Rattle.std.proofs.Common.{◌≡◌, ◌<◌, ◌==◌, true, false, true≢false, [], length, get_or, set, refl, sym, ap, subst, ◌∙◌}
use Rattle.std.specs.List.{remove, list_any}
use Rattle.std.specs.Set.{remove_key}
use Rattle.qz_circ.specs.Vectors.{lists_of}
use Rattle.qz_core.specs.HeldRound.{round_of}
use Rattle.qz_core.specs.RoundMachine.{RoundState, with_entry, is_pending, put, IsRound}
use Rattle.qz_core.proofs.Rounds.{put_none, pending_is, put_keeps}
use Rattle.qz_core.proofs.Vectors.{place_none, place_some}
use Rattle.qz_core.proofs.HeldRounds.{put_state, held, pending_of}
use Rattle.qz_core.proofs.round.Round.put.Goals as goal

missing : (c : goal.In_default) → is_pending (round_of c.self.inside.list.items c.self.inside.homes.items c.self.inside.next c.self.inside.pending.items c.self.inside.shards.items) c.args.worker c.args.r ≡ false
missing c =
    let within = rw (← c.self.view_is) at c.requires in
    let here = c.deref.ensures.value ∙ pending_of c.self.inside.pending.items c.args.worker c.index.result.now within c.index.ensures in
    pending_is _ c.args.worker c.args.r ∙ (place_none (λ x. x == c.args.r) _ (sym (rw here at c.in_default.ensures))).0

pub returns-in_default-clause-pending : goal.returns-in_default-clause-pending
returns-in_default-clause-pending c =
    rw (← c.self.view_is) (λ e. absurd (true≢false (sym e)), λ e. sym (missing c) ∙ e)

pub returns-in_default-clause-state : goal.returns-in_default-clause-state
returns-in_default-clause-state c = rw (← c.self.view_is) (sym (put_none _ c.args.worker c.args.r (missing c)))

old : goal.After-append_to → RoundState
old c = round_of c.self.inside.list.items c.self.inside.homes.items c.self.inside.next c.self.inside.pending.items c.self.inside.shards.items

-- the rank stands among those that are pending for the worker
found : (c : goal.After-append_to) → (list_any (λ x. x == c.args.r) (get_or (lists_of c.self.inside.pending.items) c.args.worker []) ≡ true) × (c.in-Some.place < length (get_or (lists_of c.self.inside.pending.items) c.args.worker [])) × (remove_key (λ x. x == c.args.r) (get_or (lists_of c.self.inside.pending.items) c.args.worker []) ≡ remove (get_or (lists_of c.self.inside.pending.items) c.args.worker []) c.in-Some.place)
found c =
    let within = rw (← c.self.view_is) at c.requires in
    let here = c.deref.ensures.value ∙ pending_of c.self.inside.pending.items c.args.worker c.index.result.now within c.index.ensures in
    place_some (λ x. x == c.args.r) _ c.in-Some.place (sym (rw here at c.in-Some.ensures))

there : (c : goal.After-append_to) → is_pending (old c) c.args.worker c.args.r ≡ true
unfolding old
there c = pending_is (old c) c.args.worker c.args.r ∙ (found c).0

-- the round after the put is the machine's
state : (c : goal.After-append_to) → round_of c.self.inside.list.items c.self.inside.homes.items c.self.inside.next c.remove_from.new.lists.items c.append_to.new.lists.items ≡ put (old c) c.args.worker c.args.r
unfolding old
state c =
    let taken = c.remove_from.ensures.lists ∙ ap (set (lists_of c.self.inside.pending.items) c.args.worker) (sym (found c).2) in
    let home = rw (c.deref-2.ensures.value, c.deref-3.ensures.value) at c.home_in-home.ensures.value in
    put_state _ _ _ _ _ _ _ _ _ (there c) taken (c.append_to.ensures.lists ∙ ap (λ s. with_entry (lists_of c.self.inside.shards.items) s c.args.r) home)

round : (c : goal.After-append_to) → IsRound (length (old c).pending) (put (old c) c.args.worker c.args.r)
unfolding old
round c = put_keeps _ _ _ c.args.r (rw (← c.self.view_is) at c.requires) c.self.invariant.round

pub invariant_of-self : goal.invariant_of-self
unfolding old
invariant_of-self c =
    held _ _ _ _ _ (state c) (round c) (c.remove_from.ensures.kept _ c.self.invariant.pending_room) (c.append_to.ensures.kept _ c.self.invariant.shard_room)

pub returns-clause-pending : goal.returns-clause-pending
unfolding old
returns-clause-pending c = rw (← c.self.view_is) (λ _. there c, λ _. refl)

pub returns-clause-state : goal.returns-clause-state
unfolding old
returns-clause-state c = rw (← c.self.view_is) (state c)

pub returns-clause-round : goal.returns-clause-round
unfolding old
returns-clause-round c = rw (← c.self.view_is) (subst (IsRound _) (sym (state c)) (round c))
