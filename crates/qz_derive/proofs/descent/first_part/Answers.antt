use Rattle.std.proofs.Common.{◌≡◌, ◌+◌, ◌<◌, zero, suc, length, take, sym, subst, refl, arith}
use Rattle.qz_circ.specs.Classes.{IsRepresentative}
use Rattle.qz_derive.specs.Descents.{IsLastPart}
use Rattle.qz_derive.proofs.Lowered.{empty_representative}
use Rattle.qz_derive.proofs.PartLemmas.{fronts_more, fronts_of_front, part_found, fronts_all}
use Rattle.qz_derive.proofs.descent.first_part.Goals as goal

pub loop-before-init : goal.loop-before-init
loop-before-init c k less =
    let none : 0 ≡ k = omega arith in
    subst (λ n. IsRepresentative c.args.b (take n c.args.c.now)) none (empty_representative c.args.b)

-- the fronts before the next one
pub last_part-requires-clause-fronts : goal.last_part-requires-clause-fronts
last_part-requires-clause-fronts c =
    let fronts = fronts_of_front c.args.b c.args.c.now c.loop-before.before (c.loop-before.before + 1) refl c.loop-before-test.true c.loop-before.invariant in
    subst (λ x. (k : _) → k < length x → IsRepresentative c.args.b (take k x)) (sym c.split_at.ensures.front) fronts

pub returns-in-Some : goal.returns-in-Some
returns-in-Some c =
    let last = subst (λ x. IsLastPart c.args.b x c.in-Some.start c.in-Some.put) c.split_at.ensures.front c.in-Some.ensures in
    part_found c.args.b c.args.c.now c.loop-before.before c.in-Some.start (c.loop-before.before + 1) c.in-Some.put refl c.loop-before-test.true c.loop-before.invariant last

pub loop-before-preserved : goal.loop-before-preserved
loop-before-preserved c =
    let here = subst (IsRepresentative c.args.b) c.split_at.ensures.front c.in_default.ensures in
    fronts_more c.args.b c.args.c.now (c.loop-before.before + 1) c.loop-before.invariant here

pub returns : goal.returns
returns c = fronts_all c.args.b c.args.c.now c.loop-before.before c.loop-before-test.false c.loop-before.invariant
