use Rattle.std.proofs.Common.{length, ◌-◌, ◌≡◌, ◌≤◌, take, IsTrue}
use Rattle.std.specs.Io.KnownBytes.{append_known}
use Rattle.qz_io.proofs.transfers.deliver.Given as goal

abbrev pub invariant-loop-done : goal.invariant-loop-done
invariant-loop-done g l = record {
  within : l.done ≤ length l.text;
  told : g.O.Sink.written l.out ≡ append_known (g.O.Sink.written l.initial.out) (take l.done l.text);
  faults : g.O.Sink.faults l.initial.out ≤ g.O.Sink.faults l.out;
  wants : g.O.Sink.wants l.initial.out ≤ g.O.Sink.wants l.out;
  answered : IsTrue g.O.Sink.answers_faults → g.O.Sink.faults l.out ≡ g.O.Sink.faults l.initial.out;
}

abbrev pub decreases-loop-done : goal.decreases-loop-done
decreases-loop-done g l = length l.text - l.done
