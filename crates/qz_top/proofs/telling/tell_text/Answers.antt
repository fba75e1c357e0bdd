use Rattle.qz_top.proofs.TellingLemmas.{told_text}
use Rattle.qz_top.proofs.telling.tell_text.Goals as goal

pub returns-then-not-is_empty-clause-told : goal.returns-then-not-is_empty-clause-told
returns-then-not-is_empty-clause-told g c = told_text _ _ _ _ _ c.deliver.result c.deliver.ensures.whole c.deliver.ensures.part c.deliver.ensures.failed c.deliver.ensures.memory
