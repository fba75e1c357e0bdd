use Rattle.std.proofs.Common.{◌∙◌}
use Rattle.qz_rulefile.proofs.PartSteps.{text_kept}
use Rattle.qz_rulefile.proofs.parts.text_at.Goals as goal

pub returns : goal.returns
returns c = c.as_slice.ensures.value ∙ text_kept c.args.texts.now c.args.k c.index-texts-k.result c.requires c.index-texts-k.is
