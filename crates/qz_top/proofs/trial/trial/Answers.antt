use Rattle.std.proofs.Common.{[], refl}
use Rattle.qz_top.specs.Trial.{Tries}
use Rattle.qz_top.proofs.AnswerLemmas.{carried_alone, memory_alone}
use Rattle.qz_top.proofs.trial.trial.Goals as goal

pub returns-clause-carried_out : goal.returns-clause-carried_out
returns-clause-carried_out g c = λ input shelf calm quiet.
    carried_alone (Tries c.args.seed c.args.qubits c.args.gates) input shelf _ calm quiet c.in-Ok.text.items [] _ _ (record { done = refl; out = c.in-Ok.ensures; err = refl }) (λ a h. h.done)
    c.write_text.ensures.begun c.deref.ensures.value c.write_text.ensures.written

pub returns-in_default-clause-carried_out : goal.returns-in_default-clause-carried_out
returns-in_default-clause-carried_out g c = λ input shelf calm quiet. memory_alone (Tries c.args.seed c.args.qubits c.args.gates) input shelf _ calm quiet refl refl
