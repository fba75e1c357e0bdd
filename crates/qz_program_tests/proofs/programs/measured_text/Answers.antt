use Rattle.qz_program_tests.proofs.programs.measured_text.Goals as goal

pub write-requires : goal.write-requires
write-requires c =
    rw (c.with_gates.ensures, c.in-Ok.ensures.items) (c.in_ok-p.ensures c.args.gates.now c.requires.few c.requires.gates)
