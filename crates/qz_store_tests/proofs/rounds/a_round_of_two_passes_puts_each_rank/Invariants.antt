use Rattle.qz_store_tests.proofs.rounds.a_round_of_two_passes_puts_each_rank.Given as goal

abbrev pub ghosts-round : goal.ghosts-round
ghosts-round g a = record { name = a.blank.name; parts = a.blank.parts }
