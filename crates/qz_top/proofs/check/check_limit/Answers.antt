use Rattle.std.proofs.Common.{arith}
use Rattle.std.proofs.lemmas.List.Sums.{count_by-le-length}
use Rattle.qz_circ.specs.ProgramCircuits.{is_program_h}
use Rattle.qz_top.proofs.check.check_limit.Goals as goal

pub overflow_add-halves_of : goal.overflow_add-halves_of
overflow_add-halves_of c = record {
  fits = omega (arith, c.halves_of.ensures, c.halves_of-2.ensures, c.requires.first, c.requires.second, count_by-le-length is_program_h c.args.a.now, count_by-le-length is_program_h c.args.c.now);
}
