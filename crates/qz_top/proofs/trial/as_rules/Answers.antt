use Rattle.std.proofs.Common.{◌∙◌}
use Rattle.qz_top.proofs.ClassFiles.{class_list_read}
use Rattle.qz_top.proofs.trial.as_rules.Goals as goal

pub returns-in-Ok : goal.returns-in-Ok
returns-in-Ok c =
    class_list_read c.args.classes.now.bounds c.requires.lawful c.args.classes.now.lists c.deref.result.now c.in-Ok.rules c.requires.class_list c.requires.equivalent
    (c.deref.ensures.value ∙ c.in_ok-text.ensures) (c.in-Ok.ensures (λ e. cc))
