use Rattle.std.proofs.Common.{take, get_or, sym, subst}
use Rattle.std.proofs.lemmas.List.{take_more, take_all}
use Rattle.std.proofs.lemmas.List.Kept.{AllPairs-from_increasing}
use Rattle.qz_repgen.proofs.RisingRuns.{taken_below}
use Rattle.qz_repgen.proofs.CandidateRows.{RowsFound, rows_more, rows_all}
use Rattle.qz_repgen.proofs.candidate.candidates.Goals as goal

-- one row more
pub loop-s-preserved : goal.loop-s-preserved
loop-s-preserved c =
    let reps = c.args.reps.now in
    let i = c.loop-s.s-index in
    let earlier = taken_below reps i 0 (AllPairs-from_increasing reps c.requires.rising) c.loop-s-test.true in
    subst (λ done. RowsFound c.args.b reps done c.add_row.new.found.items) (sym (take_more reps i 0 c.loop-s-test.true))
    (rows_more c.args.b reps (take i reps) c.loop-s.found.items (get_or reps i 0) c.add_row.new.found.items c.loop-s.invariant earlier c.in_ok-add_row.ensures)

pub returns : goal.returns
returns c =
    let reps = c.args.reps.now in
    rows_all c.args.b c.gates-gates.ensures.lawful reps c.loop-s.found.items (subst (λ done. RowsFound c.args.b reps done c.loop-s.found.items) (take_all c.loop-s.s-index reps c.loop-s-test.false) c.loop-s.invariant)
