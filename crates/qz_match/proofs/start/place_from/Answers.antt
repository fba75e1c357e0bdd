use Rattle.std.proofs.Common.{sym, ap, ◌∙◌}
use Rattle.std.specs.Option.{option_to_list}
use Rattle.qz_match.proofs.Starts.{starting_none, starting_some}
use Rattle.qz_match.proofs.start.place_from.Goals as goal

pub returns : goal.returns
returns c = ap option_to_list c.tested_at.ensures ∙ sym (starting_some c.args.left.now c.args.c.now c.args.p c.in_ok-found.found c.requires.some c.requires.short c.requires.within c.in_ok-found.ensures)

pub returns-in_err-found : goal.returns-in_err-found
returns-in_err-found c = ap option_to_list c.from_residual.ensures ∙ sym (starting_none c.args.left.now c.args.c.now c.args.p c.requires.some c.requires.within c.in_err-found.ensures)
