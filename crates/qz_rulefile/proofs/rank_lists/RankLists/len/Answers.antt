use Rattle.std.proofs.Common.{◌≡◌, ◌∙◌, sym, ap, length, arith}
use Rattle.qz_circ.specs.RuleFiles.{RuleClasses}
use Rattle.qz_rulefile.proofs.Layouts.{kept_len}
use Rattle.qz_rulefile.proofs.rank_lists.RankLists.len.Goals as goal

pub returns-clause-len : goal.returns-clause-len
returns-clause-len c =
    let ends : length c.as_slice.result.now ≡ length c.self.inside.ends.items = ap length c.as_slice.ensures.value in
    ends ∙ sym (kept_len c.self.inside.bounds c.self.inside.ends.items c.self.inside.members.items) ∙ ap (λ (v : RuleClasses). length v.classes) c.self.view_is

pub returns-clause-few : goal.returns-clause-few
returns-clause-few c =
    let ends : length c.as_slice.result.now ≡ length c.self.inside.ends.items = ap length c.as_slice.ensures.value in
    omega (arith, ends, kept_len c.self.inside.bounds c.self.inside.ends.items c.self.inside.members.items, c.self.invariant.2.few)
