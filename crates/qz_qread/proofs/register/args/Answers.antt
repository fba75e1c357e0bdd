use Rattle.std.proofs.Common.{◌≡◌, [], ◌∷◌, ◌++◌, sym, ◌∙◌, rules}
use Rattle.qz_circ.specs.ValidPrograms.{IsOperand}
use Rattle.qz_qread.proofs.Steps.{args_go_at, args_fail_at, args_end_at, each_and_one}
use Rattle.qz_qread.proofs.register.args.Goals as goal

pub returns-in-Err-clause-value : goal.returns-in-Err-clause-value
returns-in-Err-clause-value c other =
    sym c.loop-o.invariant.read
    ∙ args_fail_at c.args.registers.now c.args.bytes.now c.args.operands.now c.loop-o.o-index _ c.loop-o.args.items c.in-Err.fault c.loop-o-test.true c.in-Err.ensures.value

pub loop-o-preserved : goal.loop-o-preserved
loop-o-preserved c =
    let pushed : c.push.new.self.items ≡ c.loop-o.args.items ++ c.in-Ok.found ∷ [] = search rules in
    rw pushed (record {
      read = args_go_at c.args.registers.now c.args.bytes.now c.args.operands.now c.loop-o.o-index _ c.loop-o.args.items c.in-Ok.found c.loop-o-test.true c.in-Ok.ensures.value ∙ c.loop-o.invariant.read;
      within = each_and_one (IsOperand c.args.registers.now) c.loop-o.args.items c.in-Ok.found c.loop-o.invariant.within c.in-Ok.ensures.within;
    })

pub returns-clause-value : goal.returns-clause-value
returns-clause-value c =
    sym c.loop-o.invariant.read
    ∙ args_end_at c.args.registers.now c.args.bytes.now c.args.operands.now c.loop-o.o-index c.loop-o.args.items c.loop-o-test.false
