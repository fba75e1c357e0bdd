use Rattle.qz_qread.proofs.StatementSteps.{others_spelled}
use Rattle.qz_qread.proofs.reader.program.Goals as goal

pub add_statements-requires-clause-spelled : goal.add_statements-requires-clause-spelled
add_statements-requires-clause-spelled c = rw c.split_at.ensures.back (others_spelled c.args.bytes.now c.args.ts.now c.statement_len.result c.requires)
