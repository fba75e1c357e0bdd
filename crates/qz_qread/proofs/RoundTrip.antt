-- The canonical text of a valid program is read as this program.
use Rattle.std.proofs.Common.{◌≡◌, length}
use Rattle.std.specs.Prelude.{Ok}
use Rattle.qz_circ.specs.Programs.{ProgramParts}
use Rattle.qz_circ.specs.ProgramText.{program_text}
use Rattle.qz_circ.specs.ValidPrograms.{Valid}
use Rattle.qz_circ.specs.Grammar.{program_of}
use Rattle.qz_qread.proofs.ProgramBack.{program_back}
use Rattle.qz_qread.proofs.SoundPrograms.{tokens_of_program}

pub what_is_written_is_read : (p : ProgramParts) → Valid p → program_of (program_text p) ≡ Ok p
unfolding program_of
what_is_written_is_read p valid =
    let (ts, are, same) = tokens_of_program p valid in
    rw (are, same) (program_back p (length (program_text p)) valid)
