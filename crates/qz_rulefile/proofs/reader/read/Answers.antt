use Rattle.std.proofs.Common.{sym, subst, Ok}
use Rattle.qz_circ.specs.RuleFiles.{RuleClasses, AreSound, IsUnsoundness, Reads}
use Rattle.qz_rulefile.proofs.reader.read.Goals as goal

pub returns-in-Ok-None : goal.returns-in-Ok-None
returns-in-Ok-None c =
    let sound : AreSound c.in-Ok.lists.bounds.q c.in-Ok.lists.classes = subst (IsUnsoundness c.in-Ok.lists.bounds.q c.in-Ok.lists.classes) c.in-Ok-None.field-0-is c.in-Ok-None.ensures in
    λ _. subst (λ (v : RuleClasses). Reads c.args.bytes.now (Ok v)) (sym c.of_lists.ensures) (c.in-Ok.ensures.0, c.in-Ok.ensures.1, sound)
