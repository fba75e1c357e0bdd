use Rattle.std.proofs.Common.{length, take, sym, ap, subst, ◌∙◌, arith}
use Rattle.std.specs.Prelude.{slice_index_or}
use Rattle.std.proofs.lemmas.List.{take_more}
use Rattle.qz_circ.specs.declared.circuit.Inst.TheVariants.{H}
use Rattle.qz_circ.specs.ProgramCircuits.{IsProgramGate}
use Rattle.qz_check.specs.Columns.{AreSmall, IsAfter, IsColumn}
use Rattle.qz_check.proofs.ColumnLemmas.{each_at, closed_places, halves_room, small_more, column_after, written_over}
use Rattle.qz_check.proofs.column.column.Goals as goal

pub apply-requires-clause-closed : goal.apply-requires-clause-closed
apply-requires-clause-closed c =
    closed_places c.args.q _ (slice_index_or c.args.gates.now c.loop-gate.gate-index (H 0)) (each_at (IsProgramGate c.args.q) c.args.gates.now c.loop-gate.gate-index (H 0) c.requires.gates (omega arith)) (ap length c.as_mut_slice.ensures.value ∙ c.loop-gate.invariant.size)

pub apply-requires-clause-small : goal.apply-requires-clause-small
apply-requires-clause-small c = λ is_h.
    subst (AreSmall 119) (sym c.as_mut_slice.ensures.value)
    (λ k less. small_more _ 119 _ (halves_room c.args.roots c.args.gates.now c.loop-gate.gate-index (H 0) (omega arith) is_h c.requires.halves) (c.loop-gate.invariant.small k less))

pub loop-gate-preserved : goal.loop-gate-preserved
loop-gate-preserved c =
    let g = slice_index_or c.args.gates.now c.loop-gate.gate-index (H 0) in
    let after = subst (λ old. IsAfter (slice_index_or c.args.gates.now c.loop-gate.gate-index (H 0)) old c.apply.new.entries) c.as_mut_slice.ensures.value c.in_ok-apply.ensures in
    let column = column_after c.args.q c.args.roots c.args.j c.loop-gate.entries.items c.apply.new.entries (take c.loop-gate.gate-index c.args.gates.now) (slice_index_or c.args.gates.now c.loop-gate.gate-index (H 0))
    (each_at (IsProgramGate c.args.q) c.args.gates.now c.loop-gate.gate-index (H 0) c.requires.gates (omega arith)) c.loop-gate.invariant after in
    rw (written_over c.apply.new.entries c.loop-gate.entries.items c.loop-gate.entries.len (omega (arith, c.as_mut_slice.ensures.len, ap length c.as_mut_slice.ensures.value, after.size)))
    (subst (IsColumn c.args.q c.args.roots c.args.j c.apply.new.entries) (sym (take_more c.args.gates.now c.loop-gate.gate-index (H 0) (omega arith))) column)
