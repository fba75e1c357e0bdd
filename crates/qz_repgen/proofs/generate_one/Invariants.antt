use Rattle.qz_repgen.proofs.generate_one.Given as goal

abbrev pub ghosts-generate : goal.ghosts-generate
ghosts-generate a = record { name = a.blank.name; parts = a.blank.parts }
