use Rattle.qz_qread.proofs.StatementSteps.{spelled_of, valid_of, no_lexical_memory, no_lexical_memory_of}
use Rattle.qz_qread.proofs.reader.read.Goals as goal

pub program-requires : goal.program-requires
program-requires c = spelled_of c.args.bytes.now c.deref.result.now (rw c.deref.ensures.value c.in-Ok.ensures)

pub returns-in-Ok-clause-valid : goal.returns-in-Ok-clause-valid
returns-in-Ok-clause-valid c = valid_of c.args.bytes.now c.deref.result.now c.program.result (rw c.deref.ensures.value c.in-Ok.ensures) c.program.ensures

pub returns-in-Ok-clause-memory_alone : goal.returns-in-Ok-clause-memory_alone
returns-in-Ok-clause-memory_alone c = no_lexical_memory_of c.args.bytes.now c.deref.result.now c.program.result (rw c.deref.ensures.value c.in-Ok.ensures) c.program.ensures

pub returns-in-Err-clause-memory_alone : goal.returns-in-Err-clause-memory_alone
returns-in-Err-clause-memory_alone c = no_lexical_memory c.args.bytes.now c.in-Err.fault c.in-Err.ensures
