use Rattle.qz_top.proofs.CheckLemmas.{file_bytes_refused}
use Rattle.qz_top.proofs.check.program_of_file.Goals as goal

pub returns-in-Err-clause-read : goal.returns-in-Err-clause-read
returns-in-Err-clause-read c = rw c.of_file.ensures (file_bytes_refused c.in-Err.status c.args.bytes.now c.requires c.in-Err.ensures.read)
