use Rattle.std.proofs.Common.{◌≡◌, ◌+◌, Some, IsSome, false, true, map, slice_index_or, sym, refl, ap, subst, ◌∙◌, arith, rules}
use Rattle.std.proofs.lemmas.List.{get_or-set_other}
use lib.ListN.{get_elem?}
use mathlib.Core.Logic.{dite}
use mathlib.Core.Option.{some, some-injective}
use native.Mathlib.Decide.{ℕ_discrete}
use Rattle.std.specs.Mem.Slots.{slots_filled}
use Rattle.qz_seats.proofs.Moves.{cleared, one_taken}
use Rattle.qz_seats.proofs.seats.emptied.Goals as goal

pub unwrap-requires : goal.unwrap-requires
unwrap-requires g c =
    let there = c.requires.some c.loop-i.i (omega (arith, c.loop-i.invariant.1)) in
    let same = some-injective _ _ (sym c.take-slot.ensures.value ∙ (ap (λ xs. get_elem? xs c.loop-i.i) c.loop-i.invariant.0 ∙ there.1)) in
    subst IsSome (sym same) (search rules)

pub loop-i-preserved : goal.loop-i-preserved
loop-i-preserved g c =
    let i = c.loop-i.i in
    let filled = slots_filled c.loop-i.closed.slots in
    let others = c.take-slot.ensures.others in
    let at = sym (ap (λ xs. get_elem? xs i) c.loop-i.invariant.0) ∙ (c.take-slot.ensures.value ∙ ap some c.unwrap.ensures) in (
      others.0 ∙ c.loop-i.invariant.0,
      others.2 ∙ c.loop-i.invariant.1,
      ap (map Some) c.push_reserved.ensures.items ∙ one_taken _ c.loop-i.values.items i c.unwrap.result c.loop-i.invariant.2 at,
      c.push_reserved.ensures.capacity ∙ c.loop-i.invariant.3,
      (λ k low high. subst (λ fs. slice_index_or fs k false ≡ true) (sym others.1)
          (get_or-set_other filled i k false false (λ e. absurd (omega arith)) ∙ c.loop-i.invariant.4 k (omega arith) (omega (arith, others.2)))),
      (λ k less. subst (λ fs. slice_index_or fs k false ≡ false) (sym others.1)
          (dite (ℕ_discrete k i)
          (λ e. ap (λ n. slice_index_or (Rattle.std.proofs.Common.set filled i false) n false) e ∙ cleared filled i)
          (λ ne. get_or-set_other filled i k false false ne ∙ c.loop-i.invariant.5 k (omega arith)))),
    )
