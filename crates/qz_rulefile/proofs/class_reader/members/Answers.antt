use Rattle.std.proofs.Common.{◌≡◌, ◌∙◌, ◌++◌, ◌∷◌, [], ◌-◌, ◌+◌, sym, ap, arith, rules, List, ℕ}
use Rattle.qz_circ.proofs.RankLemmas.{all_few}
use Rattle.qz_rulefile.specs.Flat.{folded_at, one_more}
use Rattle.qz_rulefile.specs.Reading.{member_at}
use Rattle.qz_rulefile.proofs.Folds.{folded_next, folded_fails, folded_done, folded_all}
use Rattle.qz_rulefile.proofs.class_reader.members.Goals as goal

pub loop-init : goal.loop-init
loop-init c = folded_all one_more c.args.ranks.now.items (member_at c.args.texts.now.bounds) c.args.count c.args.bytes.now

pub returns-in-Err : goal.returns-in-Err
returns-in-Err c =
    sym c.loop.invariant ∙ folded_fails one_more c.loop.ranks.items (member_at c.args.texts.now.bounds) c.args.count c.loop.counter c.loop.rest.now c.in-Err.n (omega arith) c.in-Err.ensures.exact

pub overflow_cast-r : goal.overflow_cast-r
overflow_cast-r c = record { fits = omega (arith, c.in-Ok.ensures.listed, all_few c.args.texts.now.bounds c.args.texts.now.lawful) }

pub loop-preserved : goal.loop-preserved
loop-preserved c =
    let pushed : c.push.new.self.items ≡ c.loop.ranks.items ++ c.in-Ok.member.0 ∷ [] = search rules in
    ap (λ (xs : List ℕ). folded_at one_more xs (member_at c.args.texts.now.bounds) (c.args.count - (c.loop.counter + 1)) c.in-Ok.member.1.now) pushed
    ∙ sym (folded_next one_more c.loop.ranks.items (member_at c.args.texts.now.bounds) c.args.count c.loop.counter c.loop.rest.now c.in-Ok.member.0 c.in-Ok.member.1.now (omega arith) c.in-Ok.ensures.exact) ∙ c.loop.invariant

pub returns : goal.returns
returns c = sym c.loop.invariant ∙ folded_done one_more c.loop.ranks.items (member_at c.args.texts.now.bounds) c.args.count c.loop.counter c.loop.rest.now (omega arith)
