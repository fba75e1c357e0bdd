use Rattle.std.proofs.Common.{◌≡◌, ◌+◌, ◌<◌, ◌≤◌, ◌++◌, take, [], ◌∷◌, true, false, length, get_or, nat_lt, refl, sym, subst, ap, ◌∙◌, arith, rules, lt-ltb}
use Rattle.std.specs.Prelude.{slice_index}
use Rattle.std.proofs.lemmas.Bool.Decides.{nat_tests}
use Rattle.qz_repgen.specs.declared.listing.Place.{Place}
use Rattle.qz_repgen.specs.Listing.{AddsPlacesOf}
use Rattle.qz_repgen.proofs.ListingLemmas.{row_same, row_more}
use Rattle.qz_repgen.proofs.listing.add_places.Goals as goal
use Rattle.qz_repgen.proofs.listing.add_places.Goals.{then-class-gt1+else-is_err, else-class-gt1}

-- one class more
pub loop-i-preserved : goal.loop-i-preserved
loop-i-preserved c classes are =
    let k = c.args.number in
    let i = c.loop-i.i in
    let old = c.args.places.now.items in
    let inside : i < length classes = omega (arith, c.classes-i-end.ensures.number classes are, c.loop-i-test.true) in
    let class : c.class-class.result.now ≡ get_or classes i [] = c.class-class.ensures classes are in
    elim c.if-class-gt1.branch [
      | then-class-gt1+else-is_err w ↦
          let place : Place = record { first = get_or c.class-class.result.now 0 0; shard = k; class = i } in
          let pushed : w.push.new.self.items ≡ c.loop-i.places.items ++ place ∷ [] = search rules in
          let several : nat_lt 1 (length (get_or classes i [])) ≡ true = lt-ltb 1 (length (get_or classes i [])) (subst (λ l. 1 < length l) class w.if-class-gt1.true) in
          row_more k classes i inside old c.loop-i.places.items (c.loop-i.invariant classes are) place refl refl (ap (λ l. slice_index l 0) class) several c.if-class-gt1.places.items (ap (λ v. v.items) w.places-is ∙ pushed)
      | else-class-gt1 w ↦
          let few : length (get_or classes i []) ≤ 1 = subst (λ l. length l ≤ 1) class w.if-class-gt1.false in
          let single : nat_lt 1 (length (get_or classes i [])) ≡ false = grind (arith, nat_tests) in
          subst (λ v. AddsPlacesOf k classes (take (i + 1) classes) old v.items) (sym w.places-is) (row_same k classes i inside old c.loop-i.places.items (c.loop-i.invariant classes are) single)
    ]
