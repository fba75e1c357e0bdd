use Rattle.std.proofs.Common.{◌≡◌, ◌-◌, ◌≤◌, length, map, drop, string_bytes}
use Rattle.qz_top.specs.Words.{no_options, options_from, IsFileWithin}
use Rattle.qz_top.proofs.words.options_from.Given as goal

abbrev pub invariant-loop-k : goal.invariant-loop-k
invariant-loop-k l = record {
  rest : options_from l.form no_options l.first (drop l.first (map string_bytes l.words)) ≡ options_from l.form l.given l.k (drop l.k (map string_bytes l.words));
  file : IsFileWithin (length l.words) l.given;
  within : l.k ≤ length l.words;
}

abbrev pub decreases-loop-k : goal.decreases-loop-k
decreases-loop-k l = length l.words - l.k
