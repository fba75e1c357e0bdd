use Rattle.std.proofs.Common.{None}
use Rattle.qz_circ.specs.ProgramText.{operand_text}
use Rattle.qz_circ.proofs.JoinedTexts.{joined_behind}
use Rattle.qz_qwrite.proofs.operand.push_operands.Goals as goal

pub returns : goal.returns
returns c =
    joined_behind 44 (operand_text c.args.registers.now) c.args.out.now.items c.push_operand.new.out.items c.loop-a.out.items c.args.args.now (record { register = 0; index = None }) c.loop-a.a-index
    c.in_ok-push_operand.ensures c.loop-a.invariant c.in-len1-up.len_at_least c.loop-a-test.false
