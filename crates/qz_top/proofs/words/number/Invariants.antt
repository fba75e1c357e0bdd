use Rattle.std.proofs.Common.{◌≡◌, ◌<◌, ◌^◌, drop}
use Rattle.std.specs.Prelude.{fold}
use Rattle.std.specs.Char.{is_ascii_digit}
use Rattle.std.specs.List.{list_all}
use Rattle.qz_top.specs.Words.{with_digit}
use Rattle.qz_top.proofs.words.number.Given as goal

abbrev pub invariant-loop-digit : goal.invariant-loop-digit
invariant-loop-digit l = record {
  tests : list_all is_ascii_digit l.digits ≡ list_all is_ascii_digit (drop l.digit-index l.digits);
  value : fold with_digit 0 l.digits ≡ fold with_digit l.value (drop l.digit-index l.digits);
  small : l.value < 10 ^ l.digit-index;
}
