use Rattle.std.proofs.Common.{◌≡◌, ◌++◌, take, drop, ap, sym, subst, ◌∙◌, rules}
use Rattle.std.specs.Prelude.{◌↔◌, IsSome, IfSome}
use Rattle.qz_circ.specs.Bounds.{IsLawful}
use Rattle.qz_circ.specs.Circuit.{Circuit, Within}
use Rattle.qz_circ.specs.Order.{circuit_at, rank}
use Rattle.qz_derive.specs.Descents.{IsPart}
use Rattle.qz_derive.proofs.PartLemmas.{lower_answer}
use Rattle.qz_derive.proofs.descent.lower.Goals as goal

-- its rank, since it is within the bounds
pub returns : goal.returns
returns c =
    let lawful : IsLawful c.args.b = search rules in
    let b = c.args.b in
    let p = c.in-Some.part in
    let items = c.in_ok-c.c.items in
    let e = c.in_ok-lowered.lowered.items in
    let part : IsPart b items p.start p.stop p.put = subst (λ x. IsPart b x p.start p.stop p.put) c.deref.ensures.value c.in-Some.ensures in
    let replaced : e ≡ take p.start items ++ circuit_at b p.put ++ drop p.stop items =
    c.in_ok-lowered.ensures ∙ (λ i. take p.start (c.deref-2.ensures.value i) ++ (c.deref-3.ensures.value ∙ c.in_ok-put.ensures.circuit) i ++ drop p.stop (c.deref-2.ensures.value i)) in
    let found = subst (λ x. IsSome c.rank.result ↔ Within b x) c.deref-4.ensures.value c.rank.ensures.within in
    let ranked = subst (λ x. IfSome c.rank.result (λ k. k ≡ rank b x)) c.deref-4.ensures.value c.rank.ensures.rank in
    lower_answer b lawful c.args.r p.start p.stop p.put items e c.in_ok-c.ensures.circuit c.in_ok-c.ensures.within c.in_ok-c.ensures.rank part replaced c.rank.result found ranked
