use Rattle.std.proofs.Common.{◌<◌, false, arith}
use Rattle.qz_match.specs.Words.{walk_step}
use Rattle.qz_match.proofs.Candidates.{steps_small}
use Rattle.qz_match.proofs.WordSteps.{second_is}
use Rattle.qz_match.proofs.words.word_of.Goals as goal

pub offset_bounds-left-step : goal.offset_bounds-left-step
offset_bounds-left-step c =
    let to = (steps_small c.args.left.now c.args.steps.now c.requires.walk c.requires.short (record { from = 0; operand = 0; forward = false; to = 0 }) c.args.k c.requires.within).to in
    record { fits = omega arith }

pub bounds-left-step : goal.bounds-left-step
bounds-left-step c = (steps_small c.args.left.now c.args.steps.now c.requires.walk c.requires.short (record { from = 0; operand = 0; forward = false; to = 0 }) c.args.k c.requires.within).inside

pub returns : goal.returns
returns c =
    let small = steps_small c.args.left.now c.args.steps.now c.requires.walk c.requires.short (record { from = 0; operand = 0; forward = false; to = 0 }) c.args.k c.requires.within in
    record {
      early = c.number_of.ensures.early;
      from = c.number_of.ensures.gate;
      way = c.way_of.ensures;
      operand = second_is (walk_step c.args.steps.now c.args.k).operand small.operand;
      alike = c.gate_like.ensures;
    }
