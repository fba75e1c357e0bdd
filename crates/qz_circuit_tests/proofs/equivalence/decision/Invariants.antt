use Rattle.qz_circuit_tests.proofs.equivalence.decision.Given as goal

abbrev pub ghosts-counted : goal.ghosts-counted
ghosts-counted a = record { name = a.blank.name; parts = a.blank.parts }
