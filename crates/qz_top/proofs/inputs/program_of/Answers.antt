use Rattle.qz_top.proofs.InputLemmas.{fault_refuses}
use Rattle.qz_top.proofs.inputs.program_of.Goals as goal

pub returns-in-Err-clause-read : goal.returns-in-Err-clause-read
returns-in-Err-clause-read c =
    rw c.status_of_fault.ensures (fault_refuses c.args.bytes.now c.in-Err.fault c.requires c.in-Err.ensures.exact)
