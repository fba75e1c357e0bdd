use Rattle.std.proofs.Common.{append_assoc, zero-add}
use Rattle.std.proofs.lemmas.List.FromFn.{map-range_with_len_more}
use Rattle.qz_circ.specs.ProgramText.{indexed_text}
use Rattle.qz_qwrite.proofs.qubit.QubitTexts.add_register.Goals as goal

pub loop-place-preserved : goal.loop-place-preserved
loop-place-preserved c =
    rw (c.in_ok-add.ensures, c.name.ensures, c.loop-place.invariant, map-range_with_len_more (indexed_text c.args.r.now.name) 0 c.loop-place.place c.loop-place.place (zero-add _))
    (append_assoc c.args.self.now _ _)
