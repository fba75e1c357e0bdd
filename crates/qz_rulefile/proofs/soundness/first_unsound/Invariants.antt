use Rattle.qz_rulefile.proofs.soundness.first_unsound.Given as goal

abbrev pub ghosts-unsound_in_classes : goal.ghosts-unsound_in_classes
ghosts-unsound_in_classes a = record { name = a.blank.name; parts = a.blank.parts }
