use Rattle.std.proofs.Common.{not, is_ok, ap, ◌∙◌, ◌≡◌, true, Result, Ok, Err}
use Rattle.std.specs.Prelude.{OnOk}
use Rattle.qz_ring.proofs.MergeSteps.{merge_finished}
use Rattle.qz_ring.proofs.merge.merge.Goals as goal

-- what holds on success holds where there was one
on_success : {T E P : Type 0} (r : Result T E) → is_ok r ≡ true → OnOk r P → P
on_success (Ok x) well holds = holds
on_success (Err e) well holds = cc

-- one side is used up, and the rest of both sides is appended
pub returns : goal.returns
returns c =
    let heads = c.in_ok-heads.heads in
    let extended = on_success c.extend_from_slice.result (c.is_err.ensures.negation ∙ ap not c.if-is_err.false) c.extend_from_slice.ensures.ok in
    merge_finished c.args.negated c.args.left.now c.args.right.now heads.merged.items c.extend_from_slice.new.self.items c.append_signed.new.out.items heads.left heads.right c.in_ok-heads.ensures.merging c.in_ok-heads.ensures.used_up extended c.append_signed.ensures
