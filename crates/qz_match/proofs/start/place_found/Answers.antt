use Rattle.std.proofs.Common.{sym, ap, ◌∙◌}
use Rattle.std.specs.Option.{option_to_list}
use Rattle.qz_match.proofs.Starts.{starting_some}
use Rattle.qz_match.proofs.start.place_found.Goals as goal

pub returns : goal.returns
returns c = ap option_to_list c.tested_at.ensures ∙ sym (starting_some c.args.left.now c.args.c.now c.args.cursor.now.first c.arranged.result c.requires.some c.requires.short c.requires.within c.arranged.ensures)
