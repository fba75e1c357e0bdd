use Rattle.qz_rulefile.proofs.Heads.{no_sign_left, first_sign, second_sign, other_sign}
use Rattle.qz_rulefile.proofs.head_reader.version_sign.Goals as goal

pub returns-in_default : goal.returns-in_default
returns-in_default c = no_sign_left c.args.bytes.now c.in_default.ensures.cases

pub returns-then-sign-eq49 : goal.returns-then-sign-eq49
returns-then-sign-eq49 c = first_sign c.args.bytes.now c.in-Some.sign.now c.in-Some.rest.now c.in-Some.ensures.cases.0 c.if-sign-eq49.true

pub returns-then-sign-eq50 : goal.returns-then-sign-eq50
returns-then-sign-eq50 c = second_sign c.args.bytes.now c.in-Some.sign.now c.in-Some.rest.now c.in-Some.ensures.cases.0 c.if-sign-eq50.true

pub returns : goal.returns
returns c = other_sign c.args.bytes.now c.in-Some.sign.now c.in-Some.rest.now c.in-Some.ensures.cases.0 c.if-sign-eq49.false c.if-sign-eq50.false
