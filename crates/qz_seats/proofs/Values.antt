-- Steps that take one value or give it back.
use Rattle.std.proofs.Common.{◌≡◌, ◌≢◌, ℕ, ◌+◌, ◌<◌, ◌≤◌, ◌==◌, cond, List, set, slice_index, Option, sym, ap, subst, ◌∙◌, ⊎_elim, arith}
use Rattle.std.specs.List.{All, count_by, sum_by}
use Rattle.std.proofs.lemmas.List.{get_or-set_same, get_or-set_other}
use Rattle.std.proofs.Math.ListN.{length-set}
use mathlib.Core.Option as slots
use mathlib.Core.Option.{some}
use mathlib.Core.Logic.{dite}
use native.Mathlib.Decide.{ℕ_discrete}
use lib.ListN.{get_elem?}
use Rattle.atomic_table.specs.Table.{State}
use Rattle.atomic_table.proofs.Lists.{at_set, set_else}
use Rattle.qz_seats.specs.declared.view.Terms.{Terms}
use Rattle.qz_seats.specs.declared.view.View.{View}
use Rattle.qz_seats.specs.Views.{draws, draws_past, shares_unended, holding, placed, entered}
use Rattle.qz_seats.specs.SeatRule.{below, count_of, Fits, IsValue, IsRuled}
use Rattle.qz_seats.proofs.Sums.{sum-set, one_le, two_le}
use Rattle.qz_seats.proofs.Changes.{value_kept}

module _ {V : Type 0} (J N M : V → List ℕ) (t : Terms) where
  -- the rule after a step on the lock of value i, where one pass changes what it holds and its receipts for value i alone
  pub touch : (s : State (Option V) View) (r : IsRuled J N M t s) (id i : ℕ) (v w : View) (bit : ℕ) (slot : slots.Option (Option V)) (after : ℕ → List ℕ)
      → get_elem? s.views id ≡ some v → w.shares ≡ v.shares → w.drawn ≡ v.drawn → w.ended ≡ v.ended → i < count_of t
      → ((k : ℕ) → k ≢ i → after k ≡ r.rest k)
      → ((k : ℕ) → k ≢ i → holding k w ≡ holding k v) → ((k p : ℕ) → k ≢ i → placed k p w ≡ placed k p v) → ((k x : ℕ) → k ≢ i → entered k x w ≡ entered k x v)
      → IsValue J N M t i (after i) bit (some slot) (set s.views id w)
      → Fits t (slice_index s.words 0) after w
      → ((j : ℕ) (u : View) → j ≢ id → get_elem? s.views j ≡ some u → Fits t (slice_index s.words 0) after u)
      → IsRuled J N M t (record { words = set s.words (i + 1) bit; homes = set s.homes i slot; views = set s.views id w })
  touch s r id i v w bit slot after at shares drawn ended inside others holds places entries value fit fits =
      let new = set s.views id w in
      let first : slice_index (set s.words (i + 1) bit) 0 ≡ slice_index s.words 0 = get_or-set_other s.words (i + 1) 0 bit 0 (omega arith) in
      let same : (f : View → ℕ) → f w ≡ f v → sum_by f new ≡ sum_by f s.views = λ f e. (let h = sum-set f s.views id v w at in omega arith) in
      let past = same (draws_past t.limit) (ap (count_by (λ d. Rattle.std.specs.Prelude.nat_le t.limit d)) drawn) in
      let unended = same shares_unended (ap (λ e. cond e 0 w.shares) ended ∙ ap (λ n. cond v.ended 0 n) shares) in
      record {
        rest = after;
        wide = length-set s.words (i + 1) bit ∙ r.wide;
        long = length-set s.homes i slot ∙ r.long;
        drawn = λ x. same (draws x) (ap (count_by (λ d. d == x)) drawn) ∙ (r.drawn x ∙ ap (below x) (sym first));
        shares = same (λ u. u.shares) shares ∙ r.shares;
        past = (let h = r.past in omega arith);
        counter = subst (λ c. c ≤ t.limit + sum_by (draws_past t.limit) new) (sym first) (let h = r.counter in omega arith);
        values = λ k within. dite (ℕ_discrete k i)
            (λ e. subst (λ n. IsValue J N M t n (after n) (slice_index (set s.words (i + 1) bit) (n + 1)) (get_elem? (set s.homes i slot) n) new) (sym e)
            (subst (λ b. IsValue J N M t i (after i) b (get_elem? (set s.homes i slot) i) new) (sym (get_or-set_same s.words (i + 1) bit 0 (let h = r.wide in omega arith)))
            (subst (λ h. IsValue J N M t i (after i) bit h new) (sym (Rattle.atomic_table.proofs.Lists.set_here s.homes i slot (let h = r.long in omega arith))) value)))
            (λ ne. subst (λ rs. IsValue J N M t k rs (slice_index (set s.words (i + 1) bit) (k + 1)) (get_elem? (set s.homes i slot) k) new) (sym (others k ne))
            (subst (λ b. IsValue J N M t k (r.rest k) b (get_elem? (set s.homes i slot) k) new) (sym (get_or-set_other s.words (i + 1) (k + 1) bit 0 (λ e. ne (omega arith))))
            (subst (λ h. IsValue J N M t k (r.rest k) (slice_index s.words (k + 1)) h new) (sym (set_else s.homes i k slot ne))
            (value_kept J N M t k (r.rest k) (slice_index s.words (k + 1)) (get_elem? s.homes k) s.views new
            (same (holding k) (holds k ne)) (λ p. same (placed k p) (places k p ne)) (λ x. same (entered k x) (entries k x ne)) (r.values k within)))));
        fits = λ j u there. subst (λ c. Fits t c after u) (sym first)
            (dite (ℕ_discrete j id)
            (λ e. ⊎_elim (λ h. subst (Fits t (slice_index s.words 0) after) h.1 fit) (λ h. absurd (h.0 e)) (at_set s.views id j w u there))
            (λ ne. fits j u ne (sym (set_else s.views id j w ne) ∙ there)));
      }

  -- where a pass holds value i, the lock is 1
  pub lock_held : (s : State (Option V) View) (r : IsRuled J N M t s) (id i : ℕ) (v : View) → get_elem? s.views id ≡ some v → i < count_of t → holding i v ≡ 1 → slice_index s.words (i + 1) ≡ 1
  lock_held s r id i v at inside holds =
      let value = r.values i inside in
      let a = one_le (holding i) s.views id v at in
      let b = value.lock in
      let d = value.bit in
      omega arith

  -- and no other pass holds it
  pub held_once : (s : State (Option V) View) (r : IsRuled J N M t s) (id i : ℕ) (v : View) → get_elem? s.views id ≡ some v → i < count_of t → holding i v ≡ 1
      → (j : ℕ) (u : View) → j ≢ id → get_elem? s.views j ≡ some u → holding i u ≡ 0
  held_once s r id i v at inside holds j u apart there =
      let value = r.values i inside in
      let a = two_le (holding i) s.views j id u v apart there at in
      let b = value.lock in
      let d = value.bit in
      omega arith
