-- What is known of a shard that a pass has lifted, and what the pass knows after a put.
use Rattle.std.proofs.Common.{◌≡◌, ◌≢◌, ℕ, ◌+◌, ◌<◌, ◌==◌, cond, List, [], ◌∷◌, ◌++◌, length, length-append, get_or, slice_get, Some, None, sym, refl, ap, subst, ◌∙◌, eq-eqb, arith}
use Rattle.std.specs.Prelude.{Contains}
use Rattle.std.proofs.lemmas.List.Elements.{Contains-append_cases, All-contains}
use Rattle.std.proofs.lemmas.List.Sums.{get_or-le-sum_by}
use Rattle.std.proofs.lemmas.Option.{get_or_from_slice_get, slice_get_within}
use mathlib.Core.Logic.{inl, inr}
use Rattle.qz_circ.specs.Circuit.{Limits}
use Rattle.qz_circ.specs.Order.{all_circuits}
use Rattle.qz_finger.specs.Fingerprint.{ProbeParts}
use Rattle.qz_seats.specs.declared.view.View.{View}
use Rattle.qz_seats.specs.Receipts.{ReceiptParts}
use Rattle.qz_seats.specs.Views.{with_item, taking, adding}
use Rattle.qz_seats.specs.SeatRule.{times, opening_of, mark_of, IsAt}
use Rattle.qz_seats.specs.Steps.{IsLifted}
use Rattle.qz_shard.specs.Shards.{ShardParts}
use Rattle.qz_store.specs.Stores.{StoreParts, list_of, HasClaimed, IsPending}
use Rattle.qz_store.specs.Opening.{IsNumber}
use Rattle.qz_store.specs.HeldStore.{mark_with, shard_mark, IsStore}

-- a number that is there is counted
pub times_some : (xs : List ℕ) (r : ℕ) → Contains xs r → 0 < times r xs
times_some xs r has =
    let most = get_or-le-sum_by (λ y. cond {A = ℕ} (y == r) 1 0) xs has.0 r has.1 in
    let one : cond {A = ℕ} (get_or xs has.0 r == r) 1 0 ≡ 1 = ap (λ b. cond {A = ℕ} b 1 0) (eq-eqb (get_or xs has.0 r) r has.2) in
    omega arith

-- a mark tells the number, the bounds and the probe
pub mark_tells : (b : Limits) (probe : ProbeParts) (number : ℕ) (shard : ShardParts) → shard_mark shard ≡ mark_with b probe number → IsNumber b probe number shard
mark_tells b probe number shard same =
    let at_number : shard.number ≡ number = cc in
    let at_n : shard.bounds.n ≡ b.n = cc in
    let at_q : shard.bounds.q ≡ b.q = cc in
    let at_m : shard.bounds.m ≡ b.m = cc in
    let at_grain : shard.bounds.grain ≡ b.grain = cc in
    let at_seed : shard.probe.seed ≡ probe.seed = cc in
    let at_qubits : shard.probe.q ≡ probe.q = cc in
    record {
      number_is = at_number;
      bounds_are = (λ i. record { n = at_n i; q = at_q i; m = at_m i; grain = at_grain i });
      probe_is = (λ i. record { seed = at_seed i; q = at_qubits i });
    }

module _ (s : StoreParts) (list : List ℕ) (room : List ShardParts) (capacity : ℕ) (store : IsStore s list room capacity) where
  pub has_names : list_of s ≢ []
  has_names none = omega (arith, store.some, ap length none)

  module _ (v : View) (terms : v.terms ≡ s.seats.terms) where
    -- a claimed rank is in the list
    pub claimed_contained : (r : ℕ) → HasClaimed v r → Contains (list_of s) r
    claimed_contained r claimed =
        let at = sym (ap (λ t. slice_get t.names claimed.0) terms) ∙ claimed.1 in
        (claimed.0, slice_get_within (list_of s) claimed.0 r at, get_or_from_slice_get (list_of s) claimed.0 r r at)

    pub claimed_listed : (r : ℕ) → HasClaimed v r → r < length (all_circuits s.bounds)
    claimed_listed r claimed = All-contains (λ x. x < length (all_circuits s.bounds)) (list_of s) r store.listed (claimed_contained r claimed)

    -- a pending rank is in no journal that was lifted
    pub pending_absent : (r i : ℕ) (journal : List ℕ) → IsPending v r → IsLifted v i journal → Contains journal r → ⊥
    pending_absent r i journal pending lifted has =
        let none : with_item r v ≡ 0 = omega (arith, pending.unput) in
        elim (Contains-append_cases (opening_of v.terms i) lifted.after r (subst (λ xs. Contains xs r) lifted.begins has)) [
          | inl old ↦ store.absent i r (claimed_contained r pending.claimed) (subst (λ t. Contains (opening_of t i) r) terms old)
          | inr new ↦ omega (
            arith,
            times_some lifted.after r new,
            lifted.absent (λ e. has_names (sym (ap (λ t. t.names) terms) ∙ e)) pending.claimed.0 r pending.claimed.1 pending.claimed.2 none,
          )
        ]

    module _ {V : Type 0} (S : V → ShardParts) (N : V → List ℕ) where
      -- a shard that was lifted is the one of its number
      pub lifted_number : (i : ℕ) (journal : List ℕ) (value : V) → i < 16 → IsAt (λ x. (S x).journal) N (λ x. shard_mark (S x)) v.terms i journal value → IsNumber s.bounds s.probe i (S value)
      lifted_number i journal value inside at =
          mark_tells s.bounds s.probe i (S value) (at.mark_is ∙ (ap (λ t. mark_of t i) terms ∙ store.marks i inside))

-- the last entry
pub last_item : (xs ys : List ℕ) (r p x : ℕ) → ys ≡ xs ++ r ∷ [] → p + 1 ≡ length ys → slice_get ys p ≡ Some x → x ≡ r
last_item xs ys r p x is long at =
    let place : p ≡ length xs = omega (arith, ap length is, length-append xs (r ∷ [])) in
    last xs p place (sym (ap (λ zs. slice_get zs p) is) ∙ at)
  where
    last : (zs : List ℕ) (q : ℕ) → q ≡ length zs → slice_get (zs ++ r ∷ []) q ≡ Some x → x ≡ r
    last [] q e h = (let same : slice_get (r ∷ []) 0 ≡ Some x = subst (λ k. slice_get (r ∷ []) k ≡ Some x) e h in cc)
    last (z ∷ zs) q e h = last zs (length zs) refl (subst (λ k. slice_get (z ∷ (zs ++ r ∷ [])) k ≡ Some x) e h)

-- a pass that held nothing has one receipt more
pub put_becomes : (v lifted w : View) (i : ℕ) (journal : List ℕ) (receipt : ReceiptParts) → v.held ≡ None → lifted ≡ taking v i journal → w ≡ adding lifted receipt
    → w ≡ record v { receipts = v.receipts ++ receipt ∷ [] }
put_becomes v lifted w i journal receipt free took is =
    is ∙ (ap (λ u. adding u receipt) took ∙ ap (λ h. record v { held = h; receipts = v.receipts ++ receipt ∷ [] }) (sym free))
