use Rattle.std.proofs.Common.{refl, sym, ap, ◌∙◌, Err}
use Rattle.qz_circ.specs.Bounds.{refusal}
use Rattle.qz_top.specs.declared.words.WordFault.TheVariants.{Limit}
use Rattle.qz_top.specs.Words.{grain_of}
use Rattle.qz_top.proofs.WordLemmas.{generation_refused}
use Rattle.qz_top.proofs.words.generation.Goals as goal

pub returns-in-Err-clause-command : goal.returns-in-Err-clause-command
returns-in-Err-clause-command c =
    ap (λ w. Err (Limit w)) c.limit_of.ensures ∙
    generation_refused (record { n = c.args.n; q = c.args.q; m = c.args.m; grain = grain_of c.args.given }) c.args.given c.in-Err.fault
    (ap (λ g. refusal (record { n = c.args.n; q = c.args.q; m = c.args.m; grain = g })) (sym c.grain.ensures) ∙ (c.in-Err.ensures.refused c.in-Err.fault).0 refl)
