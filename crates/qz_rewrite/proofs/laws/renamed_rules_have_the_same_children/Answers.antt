use Rattle.qz_rewrite.proofs.Renamed.{renamed_children}
use Rattle.qz_rewrite.proofs.laws.renamed_rules_have_the_same_children.Goals as goal

pub returns : goal.returns
returns c = renamed_children
