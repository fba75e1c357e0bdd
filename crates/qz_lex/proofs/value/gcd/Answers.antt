use Rattle.std.proofs.Common.{arith, sym}
use Rattle.std.proofs.lemmas.Nat.Gcd.{IsGcd-from_mod, IsGcd-from_zero, le_of_dvd}
use Rattle.qz_lex.proofs.ValueLemmas.{gcd_is}
use Rattle.qz_lex.proofs.value.gcd.Goals as goal

pub loop-y-preserved : goal.loop-y-preserved
loop-y-preserved c = record {
  same = λ g is. c.loop-y.invariant.same g (IsGcd-from_mod c.loop-y.x c.loop-y.y g is);
  some = omega arith;
}

pub returns-clause-below : goal.returns-clause-below
returns-clause-below c =
    let is = c.loop-y.invariant.same c.loop-y.x (IsGcd-from_zero c.loop-y.x c.loop-y.y (omega arith)) in
    le_of_dvd c.requires is.1

pub returns-clause-value : goal.returns-clause-value
returns-clause-value c =
    sym (gcd_is c.args.a c.args.b c.loop-y.x (c.loop-y.invariant.same c.loop-y.x (IsGcd-from_zero c.loop-y.x c.loop-y.y (omega arith))) c.requires)
