use Rattle.std.proofs.Common.{length, ap, arith}
use Rattle.qz_check.proofs.ColumnLemmas.{written_over}
use Rattle.qz_check.proofs.TurnLemmas.{matrix_more, told_as}
use Rattle.qz_check.proofs.has_turn.Goals as goal

pub loop-j-preserved : goal.loop-j-preserved
loop-j-preserved c =
    rw (written_over c.narrow_column.new.possible c.loop-j.possible.items c.loop-j.possible.len (omega (arith, c.as_mut_slice.ensures.len)))
    (matrix_more c.args.q c.args.roots c.loop-j.j c.in_ok-x.x.items c.in_ok-y.y.items c.args.a.now c.args.c.now c.loop-j.possible.items c.narrow_column.new.possible c.in_ok-x.ensures c.in_ok-y.ensures (omega (arith, c.as_mut_slice.ensures.len, ap length c.as_mut_slice.ensures.value))
    (told_as _ _ _ _ _ _ _ (c.as_mut_slice.ensures.value) (c.deref.ensures.value) (c.deref-in-loop-j.ensures.value) c.narrow_column.ensures) c.loop-j.invariant)
