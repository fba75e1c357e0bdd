use Rattle.std.proofs.Common.{◌≡◌, ◌+◌, ◌-◌, ◌≤◌, length, drop}
use Rattle.std.specs.List.{prefix_len}
use Rattle.qz_lex.specs.Classes.{is_of}
use Rattle.qz_lex.proofs.lex.run.Given as goal

abbrev pub invariant-loop-n : goal.invariant-loop-n
invariant-loop-n l = record {
  counted : l.n + prefix_len (is_of l.class) (drop l.n l.z) ≡ prefix_len (is_of l.class) l.z;
  within : l.n ≤ length l.z;
}

abbrev pub decreases-loop-n : goal.decreases-loop-n
decreases-loop-n l = length l.z - l.n
