use Rattle.std.proofs.Common.{◌≡◌, ◌-◌, length, sym, subst, refl, arith}
use Rattle.qz_circ.specs.Classes.{IsRepresentative, IsKept}
use Rattle.qz_derive.specs.Indexes.{HasRepresentative}
use Rattle.qz_derive.proofs.PartLemmas.{BacksFrom, backs_none, back_kept, backs_more, last_found, backs_all}
use Rattle.qz_derive.proofs.descent.last_part.Goals as goal

pub loop-behind-init : goal.loop-behind-init
loop-behind-init c =
    let same : length c.args.c.now ≡ length c.args.c.now - 0 = omega arith in
    subst (BacksFrom c.args.b c.args.c.now) same (backs_none c.args.b c.args.c.now)

-- the gates from there on are kept
pub representative-requires-clause-kept : goal.representative-requires-clause-kept
representative-requires-clause-kept c =
    let kept = back_kept c.args.b c.args.c.now c.loop-behind.behind (length c.args.c.now - 1 - c.loop-behind.behind) refl c.loop-behind-test.true c.requires.within c.requires.fronts c.loop-behind.invariant in
    subst (IsKept c.args.b) (sym c.split_at.ensures.back) kept

pub returns-in-Some : goal.returns-in-Some
returns-in-Some c =
    let found = subst (λ x. HasRepresentative c.args.b x c.in-Some.put) c.split_at.ensures.back c.in-Some.ensures in
    last_found c.args.b c.args.c.now c.loop-behind.behind (length c.args.c.now - 1 - c.loop-behind.behind) c.in-Some.put refl c.loop-behind-test.true c.loop-behind.invariant found

pub loop-behind-preserved : goal.loop-behind-preserved
loop-behind-preserved c =
    let here = subst (IsRepresentative c.args.b) c.split_at.ensures.back c.in_default.ensures in
    backs_more c.args.b c.args.c.now c.loop-behind.behind (length c.args.c.now - 1 - c.loop-behind.behind) refl c.loop-behind-test.true c.loop-behind.invariant here

pub returns : goal.returns
returns c = backs_all c.args.b c.args.c.now c.loop-behind.behind c.loop-behind-test.false c.loop-behind.invariant
