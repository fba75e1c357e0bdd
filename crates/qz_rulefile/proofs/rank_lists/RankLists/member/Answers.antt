use Rattle.std.proofs.Common.{◌≡◌, ◌∙◌, ◌+◌, get_or, ap, subst, length, arith}
use Rattle.qz_circ.specs.Order.{circuit_at}
use Rattle.qz_circ.specs.Circuit.{Limits, Within}
use Rattle.qz_circ.specs.RuleFiles.{RuleClasses}
use Rattle.qz_rulefile.proofs.Layouts.{in_ends, MemberOf, member_of}
use Rattle.qz_rulefile.proofs.rank_lists.RankLists.member.Goals as goal
use Rattle.qz_rulefile.proofs.rank_lists.RankLists.member.Goals.{After-start}

here : (c : After-start) → MemberOf c.args.self.now c.self.inside.bounds c.self.inside.members.items c.args.c c.args.k (c.start.result + c.args.k)
here c = member_of c.self.inside.bounds c.self.inside.ends.items c.self.inside.members.items c.args.self.now c.args.c c.args.k c.start.result
    c.self.view_is c.self.invariant.1 c.self.invariant.2 c.requires.in_classes c.requires.in_class (rw c.as_slice.ensures.value at c.start.ensures)

pub start-requires : goal.start-requires
start-requires c = rw c.as_slice.ensures.value (in_ends c.self.inside.bounds c.self.inside.ends.items c.self.inside.members.items c.args.self.now c.args.c c.self.view_is c.requires.in_classes)

pub overflow_add-place : goal.overflow_add-place
overflow_add-place c = record { fits = omega (arith, (here c).within, ap length c.as_slice-members.ensures.value, c.as_slice-members.type_inv.0) }

pub rank_at-rank-requires : goal.rank_at-rank-requires
rank_at-rank-requires c = omega (arith, (here c).within, ap length c.as_slice-members.ensures.value)

pub unrank-requires : goal.unrank-requires
unrank-requires c =
    let rank : c.rank_at-rank.result ≡ get_or c.self.inside.members.items (c.start.result + c.args.k) 0 = rw c.as_slice-members.ensures.value at c.rank_at-rank.ensures in
    rw rank (c.self.invariant.0 (c.start.result + c.args.k) 0 (member_of c.self.inside.bounds c.self.inside.ends.items c.self.inside.members.items c.args.self.now c.args.c c.args.k c.start.result
    c.self.view_is c.self.invariant.1 c.self.invariant.2 c.requires.in_classes c.requires.in_class (rw c.as_slice.ensures.value at c.start.ensures)).within)

pub returns-clause-member : goal.returns-clause-member
returns-clause-member c =
    let rank : c.rank_at-rank.result ≡ get_or c.self.inside.members.items (c.start.result + c.args.k) 0 = rw c.as_slice-members.ensures.value at c.rank_at-rank.ensures in
    c.in_ok-circuit.ensures.circuit ∙ ap (circuit_at c.self.inside.bounds) rank ∙ (member_of c.self.inside.bounds c.self.inside.ends.items c.self.inside.members.items c.args.self.now c.args.c c.args.k c.start.result
    c.self.view_is c.self.invariant.1 c.self.invariant.2 c.requires.in_classes c.requires.in_class (rw c.as_slice.ensures.value at c.start.ensures)).circuit

pub returns-clause-within : goal.returns-clause-within
returns-clause-within c = subst (λ (b : Limits). Within b c.in_ok-circuit.circuit.items) (ap (λ (v : RuleClasses). v.bounds) c.self.view_is) c.in_ok-circuit.ensures.within
