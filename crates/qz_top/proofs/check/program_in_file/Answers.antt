use Rattle.std.proofs.Common.{ℕ, ◌≤◌, List, length, subst, sym}
use Rattle.qz_top.specs.Inputs.{most_input_bytes}
use Rattle.qz_top.specs.Check.{program_file, OtherBytesAnswer}
use Rattle.qz_top.proofs.CheckLemmas.{file_program_made}
use Rattle.qz_top.proofs.FileLemmas.{ends_by_file, taken_for}
use Rattle.qz_top.proofs.check.program_in_file.Goals as goal

pub returns-in-Ok-clause-made : goal.returns-in-Ok-clause-made
returns-in-Ok-clause-made g c =
    file_program_made c.args.name.now c.in-Ok.bytes.items c.deref.result.now _ (λ p. p) c.program_of_file.result c.deref.ensures.value c.in-Ok.ensures.made c.program_of_file.ensures.read

pub returns-in-Ok-clause-taken : goal.returns-in-Ok-clause-taken
returns-in-Ok-clause-taken g c = λ file tells. taken_for program_file file _ _ c.program_of_file.result (c.in-Ok.ensures.taken file tells)

pub returns-in-Err-clause-made : goal.returns-in-Err-clause-made
returns-in-Err-clause-made g c = ends_by_file program_file c.args.name.now OtherBytesAnswer c.in-Err.status _ c.in-Err.ensures.made

pub program_of_file-requires : goal.program_of_file-requires
program_of_file-requires g c = subst (λ (b : List ℕ). length b ≤ most_input_bytes) (sym c.deref.ensures.value) c.in-Ok.ensures.made.short
