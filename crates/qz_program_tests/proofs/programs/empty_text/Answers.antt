use Rattle.qz_program_tests.proofs.SamplePrograms.{empty_is_valid}
use Rattle.qz_program_tests.proofs.programs.empty_text.Goals as goal

pub write-requires : goal.write-requires
write-requires c = rw c.empty.ensures empty_is_valid
