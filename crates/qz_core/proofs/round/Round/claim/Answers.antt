use Rattle.std.proofs.Common.{◌≡◌, ◌<◌, ◌+◌, Some, length, sym, ap, subst, ◌∙◌, arith}
use Rattle.std.proofs.lemmas.Grind.{get_or_default_zero}
use Rattle.std.proofs.lemmas.Option.{slice_get-get_or}
use Rattle.qz_circ.specs.Vectors.{lists_of}
use Rattle.qz_core.specs.HeldRound.{round_of}
use Rattle.qz_core.specs.RoundMachine.{RoundState, with_entry, claimed, IsRound}
use Rattle.qz_core.proofs.Rounds.{claimed_none, claimed_keeps}
use Rattle.qz_core.proofs.HeldRounds.{claim_state, held}
use Rattle.qz_core.proofs.round.Round.claim.Goals as goal

pub returns-then-self-len-clause-state : goal.returns-then-self-len-clause-state
returns-then-self-len-clause-state c =
    rw (← c.self.view_is) (sym (claimed_none _ c.args.worker (omega (arith, c.if-self-len.true, c.len.ensures, c.self.inside.list.ok.0))))

-- a rank is left
more : (c : goal.After-self-1) → c.self.inside.next < length c.self.inside.list.items
more c = omega (arith, c.if-self-len.false, c.len.ensures, c.self.inside.list.ok.0, c.self.invariant.round.bound)

old : goal.After-self-1 → RoundState
old c = round_of c.self.inside.list.items c.self.inside.homes.items c.self.inside.next c.self.inside.pending.items c.self.inside.shards.items

-- the round after the claim is the machine's
state : (c : goal.After-self-1) → round_of c.self.inside.list.items c.self.inside.homes.items (c.self.inside.next + 1) c.append_to.new.lists.items c.self.inside.shards.items ≡ claimed (old c) c.args.worker
unfolding old
state c =
    let rank = c.index-r.ensures ∙ get_or_default_zero c.self.inside.list.items c.self.inside.next c.index-r.result.now (more c) in
    claim_state _ _ _ _ _ _ _ (more c) (c.append_to.ensures.lists ∙ ap (with_entry (lists_of c.self.inside.pending.items) c.args.worker) rank)

round : (c : goal.After-self-1) → IsRound (length (old c).pending) (claimed (old c) c.args.worker)
unfolding old
round c = claimed_keeps _ _ _ (rw (← c.self.view_is) at c.requires) c.self.invariant.round

pub invariant_of-self : goal.invariant_of-self
unfolding old
invariant_of-self c =
    held _ _ _ _ _ (state c) (round c) (c.append_to.ensures.kept _ c.self.invariant.pending_room) c.self.invariant.shard_room

pub returns-clause-answer : goal.returns-clause-answer
returns-clause-answer c =
    rw (← c.self.view_is) (ap Some c.index-r.ensures ∙ sym (slice_get-get_or c.self.inside.list.items c.self.inside.next c.index-r.result.now (more c)))

pub returns-clause-state : goal.returns-clause-state
unfolding old
returns-clause-state c = rw (← c.self.view_is) (state c)

pub returns-clause-round : goal.returns-clause-round
unfolding old
returns-clause-round c = rw (← c.self.view_is) (subst (IsRound _) (sym (state c)) (round c))
