use Rattle.std.proofs.Common.{◌∙◌, ◌+◌, ◌*◌, sym, ap, arith}
use Rattle.qz_rulefile.specs.Reading.{digits_at}
use Rattle.qz_rulefile.proofs.PartSteps.{digits_end, digits_more, digits_fault, digits_none, more_bounds}
use Rattle.qz_rulefile.proofs.parts.digits.Goals as goal

pub returns-then-ends_number : goal.returns-then-ends_number
returns-then-ends_number c =
    sym c.loop-b.invariant.same ∙ digits_end c.args.stop c.args.low c.loop-b.value c.in-Some.b.now c.loop-b.rest.now c.in-Some.behind.now c.in-Some.ensures.cases.0 (sym c.ends_number.ensures ∙ c.if-ends_number.true)

pub returns-then-not-goes_on : goal.returns-then-not-goes_on
returns-then-not-goes_on c =
    sym c.loop-b.invariant.same ∙ digits_fault c.args.stop c.args.low c.loop-b.value c.in-Some.b.now c.loop-b.rest.now c.in-Some.behind.now c.in-Some.ensures.cases.0 (sym c.ends_number.ensures ∙ c.if-ends_number.false) (sym c.goes_on.ensures ∙ c.if-not-goes_on.true)

pub loop-b-preserved : goal.loop-b-preserved
loop-b-preserved c =
    let yes = sym c.goes_on.ensures ∙ c.if-not-goes_on.false in
    let bounds = more_bounds c.loop-b.value c.in-Some.b.now yes in
    record {
      same = ap (λ d. digits_at c.args.stop c.args.low (c.loop-b.value * 10 + d) c.in-Some.behind.now) c.from.ensures
          ∙ sym (digits_more c.args.stop c.args.low c.loop-b.value c.in-Some.b.now c.loop-b.rest.now c.in-Some.behind.now c.in-Some.ensures.cases.0 (sym c.ends_number.ensures ∙ c.if-ends_number.false) yes) ∙ c.loop-b.invariant.same;
      few = omega (arith, bounds.0, bounds.1, c.from.ensures);
    }

pub returns : goal.returns
returns c = sym c.loop-b.invariant.same ∙ digits_none c.args.stop c.args.low c.loop-b.value c.loop-b.rest.now c.in_default.ensures.cases
