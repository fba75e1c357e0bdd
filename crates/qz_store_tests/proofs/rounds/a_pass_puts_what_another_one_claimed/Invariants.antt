use Rattle.qz_store_tests.proofs.rounds.a_pass_puts_what_another_one_claimed.Given as goal

abbrev pub ghosts-put_for_the_other : goal.ghosts-put_for_the_other
ghosts-put_for_the_other g a = record { name = a.blank.name; parts = a.blank.parts }
