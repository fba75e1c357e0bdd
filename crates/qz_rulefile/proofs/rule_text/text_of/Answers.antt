use Rattle.std.proofs.Common.{◌≡◌, ◌∙◌, ◌++◌, map, [], ap, arith, take_all, List, ℕ}
use Rattle.std.specs.List.{flat_map}
use Rattle.qz_circ.specs.Order.{circuit_at}
use Rattle.qz_circ.specs.RuleText.{class_text}
use Rattle.qz_rulefile.proofs.TextLemmas.{class_appended, file_pieces}
use Rattle.qz_rulefile.proofs.rule_text.text_of.Goals as goal

pub loop-i-preserved : goal.loop-i-preserved
loop-i-preserved c =
    let more : c.push_class.new.out.items ≡ c.loop-i.out.items ++ class_text c.args.k.now.bounds.grain (map (circuit_at c.args.k.now.bounds) c.class.result.now) = rw c.bounds-in-loop-i.ensures at c.in_ok-push_class.ensures in
    class_appended (λ ranks. class_text c.args.k.now.bounds.grain (map (circuit_at c.args.k.now.bounds) ranks)) c.args.k.now.lists c.class.result.now c.loop-i.i c.push_count.new.out.items c.loop-i.out.items c.push_class.new.out.items c.class.ensures.list c.loop-i.invariant more

pub returns : goal.returns
returns c =
    file_pieces c.args.k.now.bounds c.args.k.now.lists [] c.push_head.new.out.items c.push_count.new.out.items c.loop-i.out.items c.extend_from_slice.new.self.items
    (rw (c.new-out.ensures.items, c.bounds.ensures) at c.in_ok-push_head.ensures)
    (rw c.len.ensures at c.in_ok-push_count.ensures)
    (c.loop-i.invariant ∙ ap (λ (ks : List (List ℕ)). c.push_count.new.out.items ++ flat_map (λ ranks. class_text c.args.k.now.bounds.grain (map (circuit_at c.args.k.now.bounds) ranks)) ks) (take_all c.loop-i.i c.args.k.now.lists (omega (arith, c.len-i-end.ensures))))
    c.in_ok-extend_from_slice.ensures.items
