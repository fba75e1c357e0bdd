use Rattle.std.proofs.Common.{refl}
use Rattle.qz_top.specs.Words.{plan_of}
use Rattle.qz_top.proofs.WordLemmas.{plan_made}
use Rattle.qz_top.proofs.words.Options.plan.Goals as goal

pub returns : goal.returns
returns c =
    plan_made c.weighted.result _ (plan_of c.args.self) (rw (c.unwrap_or.ensures, c.unwrap_or-2.ensures, c.unwrap_or-3.ensures, c.unwrap_or-4.ensures, c.weights_of.ensures) refl) c.weighted.ensures.accepted c.weighted.ensures.refused
