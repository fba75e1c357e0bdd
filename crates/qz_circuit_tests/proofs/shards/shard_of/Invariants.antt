use Rattle.qz_circuit_tests.proofs.shards.shard_of.Given as goal

abbrev pub ghosts-add_both : goal.ghosts-add_both
ghosts-add_both a = record { name = a.blank.name; parts = a.blank.parts }
