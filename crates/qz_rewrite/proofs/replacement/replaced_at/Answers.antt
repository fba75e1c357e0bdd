use Rattle.std.proofs.Common.{◌≡◌, ◌-◌, ◌++◌, length, length-drop, take, drop, ap, ◌∙◌, arith}
use Rattle.std.proofs.lemmas.List.{take_all}
use Rattle.qz_rewrite.proofs.SidesAre.{assembled_from}
use Rattle.qz_rewrite.proofs.replacement.replaced_at.Goals as goal

pub returns : goal.returns
returns c =
    let gates = c.args.c.now in
    let end = c.in_ok-end.end in
    let behind : take (length gates - end) (drop end gates) ≡ drop end gates = take_all (length gates - end) (drop end gates) (omega (arith, length-drop end gates)) in
    assembled_from c.args.positions.now c.args.new.now gates c.first_position-first.result end c.in_ok-sides.sides.touched c.in_ok-sides.sides.before.items c.in_ok-sides.sides.after.items
    c.sort.new.self.before.items c.sort.new.self.after.items c.in_ok-out.out.items
    (c.in_ok-out.ensures ∙ ap (λ rest. ((c.sort.new.self.before.items ++ c.args.new.now) ++ c.sort.new.self.after.items) ++ rest) behind)
    c.in_ok-end.ensures.before c.in_ok-end.ensures.after c.in_ok-end.ensures.end
    c.in_ok-sides.ensures.before c.in_ok-sides.ensures.after c.in_ok-sides.ensures.touched c.first_position-first.ensures.within (λ p qs h. c.first_position-first.ensures.first p qs h) c.first_position-first.ensures.none
