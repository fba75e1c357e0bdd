use Rattle.std.proofs.Common.{◌≡◌, ◌++◌, [], ◌∷◌, ◌∙◌, sym, rules, arith}
use Rattle.qz_derive.proofs.Descending.{lowered_on, ended}
use Rattle.qz_derive.proofs.descent.descend.Goals as goal

pub returns-in-Ok-None : goal.returns-in-Ok-None
returns-in-Ok-None c =
    let least = rw c.in-Ok-None.field-0-is at c.in-Ok-None.ensures in
    ended c.args.b c.args.r c.lowering.ranks.items c.lowering.lowest c.lowering.invariant least

pub lowering-preserved : goal.lowering-preserved
lowering-preserved c =
    let lowered = rw c.in-Ok-Some.field-0-is at c.in-Ok-Some.ensures in
    let pushed : c.push-in-lowering.new.self.items ≡ c.lowering.ranks.items ++ c.in-Ok-Some.next ∷ [] = search rules in
    lowered_on c.args.b c.args.r c.lowering.ranks.items c.push-in-lowering.new.self.items c.lowering.lowest c.in-Ok-Some.next c.lowering.invariant lowered.1 pushed (omega (arith, lowered.0, c.lowering.invariant.here))
