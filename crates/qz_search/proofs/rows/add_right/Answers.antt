use Rattle.std.proofs.Common.{◌≡◌, ◌++◌, ◌∷◌, [], inl, inr, refl, sym, ap, subst, ◌∙◌, rules}
use Rattle.qz_match.specs.Occurring.{occur_in}
use Rattle.qz_search.specs.Tables.{IsRule}
use Rattle.qz_search.proofs.Numbers.{same_long}
use Rattle.qz_search.proofs.TableLaws.{is_rule, nothing_covered}
use Rattle.qz_search.proofs.rows.add_right.Goals as goal

pub returns-then-not-covers : goal.returns-then-not-covers
returns-then-not-covers c =
    let left = c.args.left.now in
    let none = sym c.if-not-covers.true ∙ c.covers.ensures ∙ ap (occur_in left) c.deref.ensures.value in
    record { longer = same_long c.args.circuits.now; added = inl (refl, λ p. nothing_covered left c.args.right.items p none) }

pub returns : goal.returns
returns c =
    let left = c.args.left.now in
    let right = c.args.right.items in
    let some = sym c.if-not-covers.false ∙ c.covers.ensures ∙ ap (occur_in left) c.deref.ensures.value in
    let rule = is_rule left right c.requires.left_on c.requires.left_short c.requires.right_on c.requires.right_short c.requires.walked some in
    let number = c.in_ok-k.ensures in
    let pushed : c.push.new.self.items ≡ c.args.rights.now.items ++ c.in_ok-k.k ∷ [] = search rules in
    record { longer = number.longer; added = inr (c.in_ok-k.k, pushed, number.is, (number.within, subst (IsRule left) (sym number.is) rule)) }
