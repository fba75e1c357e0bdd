use Rattle.std.proofs.Common.{◌∙◌, sym}
use Rattle.qz_circ.specs.RuleText.{Head}
use Rattle.qz_rulefile.proofs.HeadLaws.{accepted}
use Rattle.qz_rulefile.proofs.head_reader.bounds_of.Goals as goal

pub returns-clause-accepted : goal.returns-clause-accepted
returns-clause-accepted c =
    let h : Head = record { n = c.args.head.n; q = c.args.head.q; m = c.args.head.m; grain = c.args.head.grain } in
    accepted h c.grain_for.result c.with_grain.result c.grain_for.ensures c.with_grain.ensures.accepted (c.with_grain.ensures.lawful).0

pub returns-clause-refused : goal.returns-clause-refused
returns-clause-refused c = λ fault failed. sym (c.grain_for.ensures.refused c.args.head.n c.args.head.q c.args.head.m) ∙ (c.with_grain.ensures.refused fault).0 failed
