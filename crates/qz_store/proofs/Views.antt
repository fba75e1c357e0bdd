-- What all passes together have drawn and wait for, and who holds a value after one of them changes.
use Rattle.std.proofs.Common.{◌≡◌, ◌≢◌, ℕ, suc, ◌+◌, ◌<◌, ◌≤◌, ◌==◌, cond, List, [], ◌∷◌, set, slice_get, slice_index, Option, Some, refl, ap, ◌∙◌, ⊎_elim, arith}
use Rattle.std.specs.List.{sum_by}
use Rattle.std.proofs.lemmas.Bool.Decides.{nat_tests}
use Rattle.std.proofs.lemmas.List.Sums.{sum_by-cons}
use mathlib.Core.Option.{some}
use lib.ListN.{get_elem?}
use Rattle.atomic_table.specs.Table.{State}
use Rattle.atomic_table.proofs.Lists.{at_set}
use Rattle.qz_seats.specs.declared.view.Terms.{Terms}
use Rattle.qz_seats.specs.declared.view.View.{View}
use Rattle.qz_seats.specs.Views.{draws, with_item}
use Rattle.qz_seats.specs.SeatRule.{below, IsRuled}
use Rattle.qz_seats.proofs.Sums.{one_le}
use Rattle.qz_seats.proofs.Changes.{below_one}
use Rattle.qz_store.specs.Showing.{waiting}

-- what each has of two things, all have of both
sum_of_two : {A : Type 0} (f g h : A → ℕ) (l : List A) → ((j : ℕ) (u : A) → get_elem? l j ≡ some u → f u + g u ≡ h u) → sum_by f l + sum_by g l ≡ sum_by h l
sum_of_two f g h [] each = refl
sum_of_two f g h (x ∷ xs) each =
    let here = each 0 x refl in
    omega (arith, sum_by-cons f x xs, sum_by-cons g x xs, sum_by-cons h x xs, sum_of_two f g h xs (λ j u at. each (suc j) u at))

none_or_one : (w n : ℕ) → w ≤ n → n < 2 → cond (w == 0) n 0 + w ≡ n
none_or_one w n le few = grind (arith, nat_tests)

module _ {V : Type 0} (J N M : V → List ℕ) (t : Terms) where
  -- each number that is drawn either has a receipt for its rank or is waited for
  pub waited : (s : State (Option V) View) → IsRuled J N M t s → t.names ≢ [] → (d r : ℕ) → slice_get t.names d ≡ Some r
      → sum_by (waiting d r) s.views + sum_by (with_item r) s.views ≡ below d (slice_index s.words 0)
  waited s ruled names d r name =
      sum_of_two (waiting d r) (with_item r) (draws d) s.views
      (λ j u at. none_or_one (with_item r u) (draws d u) (((ruled.fits j u at).named names).each_drawn d r name)
      (let a = one_le (draws d) s.views j u at in let b = ruled.drawn d in let e = below_one d (slice_index s.words 0) in omega arith))
      ∙ ruled.drawn d

-- a pass holds value i, which it has lifted with this journal
abbrev pub IsHeld : List View → ℕ → List ℕ → Type 0
IsHeld views i journal = (k : ℕ) × (v : View) × (get_elem? views k ≡ some v) × (v.held ≡ Some (i, journal))

-- who holds it, after one pass has changed, is that pass or did so before
pub held_after : (Q : Type 0) (views : List View) (k i : ℕ) (w : View) (journal : List ℕ) → (w.held ≡ Some (i, journal) → Q) → ((j : ℕ) (u : View) → j ≢ k → get_elem? views j ≡ some u → u.held ≡ Some (i, journal) → Q)
    → IsHeld (set views k w) i journal → Q
held_after Q views k i w journal mine others h =
    ⊎_elim (λ e. mine (ap (λ (v : View). v.held) e.1 ∙ h.3)) (λ e. others h.0 h.1 e.0 e.1 h.3) (at_set views k h.0 w h.1 h.2)
