use Rattle.std.proofs.Common.{◌∙◌, ap, sym, subst, Option, Some, ℕ}
use Rattle.qz_rulefile.specs.Forms.{StandsForTold}
use Rattle.qz_rulefile.proofs.HeadLaws.{none_told, eight_told, sixteen_told, other_told}
use Rattle.qz_rulefile.proofs.head_reader.grain_for.Goals as goal

pub returns-in_default : goal.returns-in_default
returns-in_default c = subst (λ (told : Option ℕ). StandsForTold told 4) (sym c.in_default.is) none_told

pub returns-then-grain-eq8 : goal.returns-then-grain-eq8
returns-then-grain-eq8 c =
    subst (λ (told : Option ℕ). StandsForTold told c.in-Some.grain) (sym c.in-Some.is) (subst (λ g. StandsForTold (Some g) g) (sym c.if-grain-eq8.true) eight_told)

pub returns-then-grain-eq16 : goal.returns-then-grain-eq16
returns-then-grain-eq16 c =
    subst (λ (told : Option ℕ). StandsForTold told c.in-Some.grain) (sym c.in-Some.is) (subst (λ g. StandsForTold (Some g) g) (sym c.if-grain-eq16.true) sixteen_told)

pub returns : goal.returns
returns c = subst (λ (told : Option ℕ). StandsForTold told 0) (sym c.in-Some.is) (other_told c.in-Some.grain c.if-grain-eq8.false c.if-grain-eq16.false)
