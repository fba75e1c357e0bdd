use Rattle.std.proofs.Common.{◌≡◌, ◌-◌, arith, take, drop, length, ◌∙◌}
use Rattle.std.proofs.lemmas.Grind.{common_steps}
use Rattle.qz_io.proofs.ToldLemmas.{append_known-parts}
use Rattle.qz_io.proofs.transfers.deliver.Goals as goal

pub loop-done-preserved : goal.loop-done-preserved
loop-done-preserved g c =
    let rest : take (length c.args.text.now - c.loop-done.done) (drop c.loop-done.done c.args.text.now) ≡ drop c.loop-done.done c.args.text.now = grind (arith, common_steps) in
    record {
      within = grind (arith, common_steps, c.in-Ok.ensures.within);
      told = append_known-parts (g.O.Sink.written c.args.out.now) (g.O.Sink.written c.loop-done.out) (g.O.Sink.written c.write.new.self) c.args.text.now c.loop-done.done c.in-Ok.k c.loop-done.invariant.told (rw rest at c.in-Ok.ensures.taken);
      faults = omega (arith, c.loop-done.invariant.faults, c.write.ensures.faults);
      wants = omega (arith, c.loop-done.invariant.wants, c.write.ensures.wants);
      answered = λ answers. c.in-Ok.ensures.answered answers (λ e. cc) ∙ c.loop-done.invariant.answered answers;
    }
