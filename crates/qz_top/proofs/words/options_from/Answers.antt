use Rattle.std.proofs.Common.{map, string_bytes, sym, ◌∙◌, arith}
use Rattle.std.proofs.lemmas.List.{length-map}
use Rattle.qz_top.proofs.WordLemmas.{nothing_after}
use Rattle.qz_top.proofs.words.options_from.Goals as goal

pub returns-clause-value : goal.returns-clause-value
returns-clause-value c =
    sym (c.loop-k.invariant.rest ∙
    nothing_after c.args.form c.loop-k.given c.loop-k.k (map string_bytes c.args.words.now) (omega (arith, length-map c.args.words.now string_bytes)))
