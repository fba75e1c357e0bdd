use Rattle.qz_program_tests.proofs.SamplePrograms.{whole_is_valid}
use Rattle.qz_program_tests.proofs.programs.whole_text.Goals as goal

pub write-requires : goal.write-requires
write-requires c =
    rw (c.in_ok-add_barrier.ensures.ok, c.in_ok-add_measure.ensures.ok, c.in_ok-add_creg.ensures.ok, c.in_ok-add_qreg.ensures.ok, c.empty-p.ensures)
    whole_is_valid
