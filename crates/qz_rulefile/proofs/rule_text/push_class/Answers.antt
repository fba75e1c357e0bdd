use Rattle.std.proofs.Common.{◌∙◌, ◌++◌, ap, arith, take_all, List, ℕ}
use Rattle.std.specs.List.{flat_map}
use Rattle.qz_circ.specs.Order.{circuit_at}
use Rattle.qz_circ.specs.RuleText.{member_text}
use Rattle.qz_rulefile.proofs.TextLemmas.{class_pieces}
use Rattle.qz_rulefile.proofs.rule_text.push_class.Goals as goal

pub returns : goal.returns
returns c =
    class_pieces c.args.b c.args.members.now c.args.out.now.items c.push_count.new.out.items c.loop-r.out.items
    c.in_ok-push_count.ensures
    (c.loop-r.invariant ∙ ap (λ (rs : List ℕ). c.push_count.new.out.items ++ flat_map (λ r. member_text c.args.b.grain (circuit_at c.args.b r)) rs) (take_all c.loop-r.r-index c.args.members.now (omega arith)))
