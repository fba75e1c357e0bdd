use Rattle.qz_qread.proofs.Repetitions.{repeated_is}
use Rattle.qz_qread.proofs.gate.is_repeated.Goals as goal

pub returns : goal.returns
returns c =
    repeated_is c.args.registers.now c.args.args.now c.split_at.result.0.now c.args.i c.args.j c.qubit_at.result _ c.has_qubit.result c.requires.within c.split_at.ensures.front c.qubit_at.ensures c.has_qubit.ensures
