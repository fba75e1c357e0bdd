use Rattle.std.proofs.Common.{length, sym, ◌∙◌, arith}
use Rattle.qz_circ.specs.Places.{bind_gates, nothing_bound}
use Rattle.qz_match.proofs.BindingSteps.{bind_more, bind_none, bind_end, gates_at}
use Rattle.qz_match.proofs.bind.bound_at.Goals as goal

-- one gate more is bound
pub loop-i-preserved : goal.loop-i-preserved
loop-i-preserved c =
    bind_more c.args.left.now c.args.c.now c.args.found.now c.loop-i.bind c.in_ok-bind.bind c.loop-i.i (bind_gates nothing_bound c.args.left.now (gates_at c.args.c.now (length c.args.left.now) c.args.found.now)) (omega arith) (omega arith) c.loop-i.invariant c.in_ok-bind.ensures

pub returns-in_err-bind : goal.returns-in_err-bind
returns-in_err-bind c =
    c.from_residual.ensures ∙ bind_none c.args.left.now c.args.c.now c.args.found.now c.loop-i.bind c.loop-i.i (bind_gates nothing_bound c.args.left.now (gates_at c.args.c.now (length c.args.left.now) c.args.found.now)) (omega arith) (omega arith) c.loop-i.invariant c.in_err-bind.ensures

pub returns : goal.returns
returns c = sym (c.loop-i.invariant ∙ bind_end c.args.left.now c.args.c.now c.args.found.now c.loop-i.bind c.loop-i.i (omega arith) (omega arith))
