use Rattle.std.proofs.Common.{◌∙◌, sym}
use Rattle.qz_rulefile.proofs.TextLemmas.{head_pieces, head_pieces_told}
use Rattle.qz_rulefile.proofs.rule_text.push_head.Goals as goal

pub returns-then-grain-eq4 : goal.returns-then-grain-eq4
returns-then-grain-eq4 c =
    head_pieces c.args.b c.args.out.now.items c.extend_from_slice.new.self.items c.push_numbers.new.out.items c.push.new.self.items
    (sym c.grain-grain.ensures.value ∙ c.if-grain-eq4.true)
    c.in_ok-extend_from_slice.ensures.items
    c.in_ok-push_numbers.ensures
    c.in_ok-push.ensures.items

pub returns : goal.returns
returns c =
    head_pieces_told c.args.b c.args.out.now.items c.extend_from_slice-2.new.self.items c.push_numbers-2.new.out.items c.push_part.new.out.items c.push-2.new.self.items
    (λ four. c.if-grain-eq4.false (c.grain-grain.ensures.value ∙ four))
    c.in_ok-extend_from_slice-2.ensures.items
    c.in_ok-push_numbers-2.ensures
    (rw c.grain-grain.ensures.value at c.in_ok-push_part.ensures)
    c.in_ok-push-2.ensures.items
