use Rattle.std.proofs.Common.{sym, ◌∙◌, arith}
use Rattle.qz_core.proofs.Vectors.{all_empty}
use Rattle.qz_core.proofs.round.Round.finished.Goals as goal

pub returns-then-self-len : goal.returns-then-self-len
returns-then-self-len c =
    let tested = rw c.deref.ensures.value at c.are_empty.ensures in
    let empty = all_empty c.self.inside.pending.items in
    rw (← c.self.view_is) (
      λ e. record { all = omega (arith, c.if-self-len.true, c.len.ensures, c.self.inside.list.ok.0); none = empty.0 (sym tested ∙ e) },
      λ done. tested ∙ empty.1 done.none,
    )
