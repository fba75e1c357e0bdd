use Rattle.std.proofs.Common.{◌∷◌, [], codes, lit≤, lit<, refl, arith}
use Rattle.qz_circ.specs.ValidPrograms.{reserved_words}
use Rattle.qz_circ.proofs.ProgramNames.{name_by_tests, different_by_tests}
use Rattle.qz_circ.proofs.worked_programs.programs_are_told.Goals as goal

pub returns-clause-valid : goal.returns-clause-valid
unfolding reserved_words
returns-clause-valid _ = record {
  names = (name_by_tests (codes "q") (lit≤ tt) (refl, tt) refl, (name_by_tests (codes "c") (lit≤ tt) (refl, tt) refl, tt));
  different = different_by_tests (codes "q" ∷ codes "c" ∷ []) ((refl, tt), (tt, tt));
  few_registers = lit≤ tt;
  sizes = (lit≤ tt, (lit≤ tt, tt));
  few_bits = lit≤ tt;
  gates = record { few = lit≤ tt; gates = ((lit< tt, lit< tt, λ same. omega arith), ((lit< tt, lit≤ tt, lit< tt), tt)) };
  few_gates = lit≤ tt;
  tail = tt;
}

pub returns-clause-twice : goal.returns-clause-twice
returns-clause-twice _ = λ p. p.different 0 1 [] (lit< tt) (lit< tt) refl
