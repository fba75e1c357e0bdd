use Rattle.qz_program_tests.proofs.SamplePrograms.{measured_is_valid}
use Rattle.qz_program_tests.proofs.programs.measured.Goals as goal

pub returns : goal.returns
returns c = λ gates few on.
    rw (c.in_ok-add_measure-2.ensures.ok, c.in_ok-add_measure.ensures.ok, c.in_ok-add_barrier.ensures.ok, c.in_ok-add_creg.ensures.ok, c.in_ok-add_qreg-2.ensures.ok, c.in_ok-add_qreg.ensures.ok, c.empty-p.ensures)
    (measured_is_valid gates few on)
