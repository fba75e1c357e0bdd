use Rattle.qz_circuit_tests.proofs.shards.sizes.Given as goal

abbrev pub ghosts-filled : goal.ghosts-filled
ghosts-filled a = record { name = a.blank.name; parts = a.blank.parts }
