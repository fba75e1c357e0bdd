-- A walk along the classes of one fingerprint, from the last one back.
use Rattle.std.proofs.Common.{◌≡◌, ℕ, ◌+◌, ◌<◌, ◌≤◌, ◌==◌, cond, List, length, take, count_by, sum_by, inl, inr, refl, sym, subst, ◌∙◌, arith, eq-eqb}
use Rattle.std.specs.Prelude.{Option, Some, None, slice_index, IfSome}
use Rattle.std.proofs.lemmas.Bool.{cases_order}
use Rattle.std.proofs.lemmas.List.{take-take, length-map}
use Rattle.std.proofs.lemmas.List.Sums.{sum_by-take-le, count_by_more_yes}
use Rattle.qz_circ.specs.Circuit.{Limits}
use Rattle.qz_shard.specs.declared.class.Class.{Class}
use Rattle.qz_shard.specs.Journals.{AreEquivalentRanks}
use Rattle.qz_shard.specs.Held.{prints_in, first_at, IsLastBelow, IsClassUpTo}

-- the number past a place; 0 where there is none
abbrev pub past : Option ℕ → ℕ
past None = 0
past (Some k) = k + 1

-- how many of the first n classes have the fingerprint of class number last
abbrev pub alike : List Class → ℕ → ℕ → ℕ
alike classes last n = count_by (λ p. p == slice_index (prints_in classes) last) (take n (prints_in classes))

-- the next class to ask is one of those with the fingerprint, if any is left; none of the later ones is the circuit's; and so many steps were
-- counted at most
pub record IsWalk (b : Limits) (classes : List Class) (last r start steps : ℕ) (at : Option ℕ) : Type 0 where
  pub within : past at ≤ last + 1
  pub print : IfSome at (λ k. slice_index (prints_in classes) k ≡ slice_index (prints_in classes) last)
  pub tried : (j : ℕ) → past at ≤ j → j ≤ last → slice_index (prints_in classes) j ≡ slice_index (prints_in classes) last → AreEquivalentRanks b r (first_at classes j) → ⊥
  pub kept : start ≤ steps
  pub counted : steps + alike classes last (past at) ≤ start + alike classes last (last + 1)

-- a link leads further back
pub link_before : (prints : List ℕ) (print k : ℕ) (next : Option ℕ) → IsLastBelow prints print k next → past next < k + 1
link_before prints print k None linked = omega arith
link_before prints print k (Some i) linked = omega (arith, linked.0)

module _ (b : Limits) (classes : List Class) (last r start : ℕ) (inside : last < length classes) where
  -- the walk begins at the last class with the fingerprint
  walk_begins : IsWalk b classes last r start start (Some last)
  walk_begins = record {
    within = omega arith;
    print = refl;
    tried = λ j from upto same equivalent. absurd (omega arith);
    kept = omega arith;
    counted = omega arith;
  }

  -- fewer classes have no more with the fingerprint
  alike_upto : (i j : ℕ) → i ≤ j → alike classes last i ≤ alike classes last j
  alike_upto i j upto =
      let f : ℕ → ℕ = λ p. cond (p == slice_index (prints_in classes) last) 1 0 in
      subst (λ xs. sum_by f xs ≤ alike classes last j) (take-take i j (prints_in classes) upto) (sum_by-take-le f (take j (prints_in classes)) i)

  -- one more has it
  alike_more : (k : ℕ) → k < length classes → slice_index (prints_in classes) k ≡ slice_index (prints_in classes) last → alike classes last (k + 1) ≡ alike classes last k + 1
  alike_more k within same =
      let size = length-map classes (λ c. c.print) in
      count_by_more_yes (λ p. p == slice_index (prints_in classes) last) (prints_in classes) k 0 (omega arith) (eq-eqb (slice_index (prints_in classes) k) (slice_index (prints_in classes) last) same)

  module _ (steps steps' k : ℕ) (at : IsWalk b classes last r start steps (Some k)) (kept : steps ≤ steps') (one : steps' ≤ steps + 1) where
    -- one step more may be counted
    pub step_counted : steps' ≤ start + alike classes last (last + 1)
    step_counted = let more = alike_more k (omega (arith, at.within)) at.print in let counted = at.counted in omega (arith, more, counted)

    -- the class isn't the circuit's, and the walk goes on along its link
    pub walk_on : (next : Option ℕ) → IsLastBelow (prints_in classes) (slice_index (prints_in classes) k) k next → (AreEquivalentRanks b r (first_at classes k) → ⊥) → IsWalk b classes last r start steps' next
    walk_on None linked none = record {
      within = omega arith;
      print = tt;
      tried = λ j from upto same. elim (cases_order j k) [
        | inl here ↦ subst (λ i. AreEquivalentRanks b r (first_at classes i) → ⊥) (sym here) none
        | inr (inl below) ↦ absurd (linked j below (same ∙ sym at.print))
        | inr (inr above) ↦ at.tried j (omega arith) upto same
      ];
      kept = omega (arith, at.kept);
      counted = let more = alike_more k (omega (arith, at.within)) at.print in let fewer = alike_upto 0 k (omega arith) in omega (arith, more, fewer, at.counted);
    }
    walk_on (Some i) linked none = record {
      within = omega (arith, linked.0, at.within);
      print = linked.1 ∙ at.print;
      tried = λ j from upto same. elim (cases_order j k) [
        | inl here ↦ subst (λ i. AreEquivalentRanks b r (first_at classes i) → ⊥) (sym here) none
        | inr (inl below) ↦ absurd (linked.2 j (omega arith) below (same ∙ sym at.print))
        | inr (inr above) ↦ at.tried j (omega arith) upto same
      ];
      kept = omega (arith, at.kept);
      counted = let more = alike_more k (omega (arith, at.within)) at.print in let fewer = alike_upto (i + 1) k (omega (arith, linked.0)) in omega (arith, more, fewer, at.counted);
    }

    -- the class is the circuit's
    pub found_here : AreEquivalentRanks b r (first_at classes k) → IsClassUpTo b classes last r (Some k)
    found_here same = (omega (arith, at.within), at.print, same)
