use Rattle.std.proofs.Common.{length, ap, arith}
use Rattle.qz_top.proofs.InputLemmas.{program_of_whole, ends_by_unread}
use Rattle.qz_top.proofs.inputs.program_in.Goals as goal

pub returns-in-Ok-clause-read : goal.returns-in-Ok-clause-read
returns-in-Ok-clause-read g c =
    program_of_whole c.in-Ok.bytes c.deref.result.now (λ p. p) c.program_of.result _ c.in-Ok.ensures.read (omega (arith, c.in-Ok.ensures.read.within, c.deref.ensures.len, ap length c.deref.ensures.value)) c.deref.ensures.value c.program_of.ensures.read

pub returns-in-Err-clause-read : goal.returns-in-Err-clause-read
returns-in-Err-clause-read g c = rw c.status_of_unread.ensures (ends_by_unread c.in-Err.unread _ c.in-Err.ensures.read)
