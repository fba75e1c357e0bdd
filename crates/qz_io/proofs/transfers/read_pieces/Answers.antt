use Rattle.std.proofs.Common.{◌≡◌, ◌+◌, ◌≤◌, length, take, ◌++◌, refl, arith}
use Rattle.std.proofs.lemmas.Grind.{common_steps}
use Rattle.qz_io.proofs.ReadingLemmas.{given_up}
use Rattle.qz_io.proofs.transfers.read_pieces.Goals as goal

pub returns-in-Ok-clause-read : goal.returns-in-Ok-clause-read
returns-in-Ok-clause-read g c =
    let past : length (c.pieces.bytes.items ++ take c.in-Ok.count c.read_at_most.new.buffer) ≡ c.args.limit + 1 = grind (arith, common_steps, c.in-Ok.ensures.read.within) in
    given_up _ _ _ _ _ _ _ _ _ _ _ _ _ c.pieces.invariant.read c.in-Ok.ensures.read (omega (arith, past)) (λ e. past) (λ e. absurd (e refl)) (λ e. cc)

pub returns-then-is_err-clause-read : goal.returns-then-is_err-clause-read
returns-then-is_err-clause-read g c =
    let fits : length (c.pieces.bytes.items ++ take c.in-Ok-2.count c.read_at_most.new.buffer) ≤ c.args.limit = grind (arith, common_steps, c.in-Ok-2.ensures.read.within) in
    given_up _ _ _ _ _ _ _ _ _ _ _ _ _ c.pieces.invariant.read c.in-Ok-2.ensures.read (omega (arith, fits)) (λ e. cc) (λ e. fits) (λ e. cc)
