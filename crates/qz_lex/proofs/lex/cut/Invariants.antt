use Rattle.std.proofs.Common.{◌≡◌, ◌-◌, ◌≤◌, length, drop}
use Rattle.std.specs.List.{All}
use Rattle.qz_lex.specs.Classes.{IsTokenOf}
use Rattle.qz_circ.specs.Tokens.{tokens_of, tokens_from}
use Rattle.qz_lex.proofs.LexLemmas.{with_front}
use Rattle.qz_lex.proofs.lex.cut.Given as goal

abbrev pub invariant-loop-place : goal.invariant-loop-place
invariant-loop-place l = record {
  read : with_front l.tokens.items (tokens_from 0 l.place (drop l.place l.bytes)) ≡ tokens_of l.bytes;
  parts : All (IsTokenOf (length l.bytes)) l.tokens.items;
  within : l.place ≤ length l.bytes;
}

abbrev pub decreases-loop-place : goal.decreases-loop-place
decreases-loop-place l = length l.bytes - l.place
