use Rattle.std.proofs.Common.{◌≡◌, ◌+◌, ◌-◌, ◌<◌, false, IsTrue, length, vec_len}
use Rattle.qz_io.proofs.ReadingLemmas.{IsReadSoFar}
use Rattle.qz_io.specs.Transfers.{input_of}
use Rattle.qz_io.proofs.transfers.read_pieces.Given as goal

abbrev pub invariant-pieces : goal.invariant-pieces
invariant-pieces g l = record {
  some : 0 < length l.buffer;
  read : IsReadSoFar l.limit l.bytes.items (input_of g.W.Feed.left g.W.Feed.faults g.W.Feed.answers_faults l.initial.from l.from);
  still_ready : IsTrue (g.W.Feed.is_ready l.from);
  files : g.W.Feed.files l.from ≡ g.W.Feed.files l.initial.from;
  going_on : g.W.Feed.has_ended l.from ≡ g.W.Feed.has_ended l.initial.from;
  in_time : g.W.Feed.has_ended l.initial.from ≡ false → g.W.Feed.late_reads l.from ≡ g.W.Feed.late_reads l.initial.from;
}

abbrev pub decreases-pieces : goal.decreases-pieces
decreases-pieces g l = l.limit + 1 - vec_len l.bytes
