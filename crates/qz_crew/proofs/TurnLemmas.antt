-- What a claim, tries to put and turns do to a pass.
use Rattle.std.proofs.Common.{◌≡◌, ℕ, ◌+◌, ◌<◌, ◌==◌, true, cond, List, [], ◌∷◌, ◌++◌, Option, Some, None, ◌⊎◌, inl, inr, refl, sym, ap, subst, ◌∙◌, append_assoc, append-nil, eq-eqb, arith}
use Rattle.std.specs.Prelude.{◌↔◌, unwrap_or, slice_get}
use Rattle.std.specs.List.{count_by}
use Rattle.std.proofs.lemmas.List.Sums.{sum_by-append}
use Rattle.std.proofs.lemmas.Option.{none-some}
use Rattle.qz_seats.specs.declared.view.View.{View}
use Rattle.qz_seats.specs.Receipts.{ReceiptParts}
use Rattle.qz_seats.specs.Parts.{PassParts, IsOf}
use Rattle.qz_store.specs.Stores.{StoreParts, IsFree, HasClaimed, HasReceipt, IsPending}
use Rattle.qz_crew.specs.Works.{HasPutAll, HasOneOpen, HasMore, IsKept, IsTried}

-- ---- receipts

same_some : (r t : ℕ) → Some r ≡ Some t → r ≡ t
same_some r t same = ap (λ o. unwrap_or o 0) same

more_same : (v w : View) → w.receipts ≡ v.receipts → HasMore v.receipts w.receipts
more_same v w same = ([], same ∙ sym (append-nil v.receipts))

more_twice : (u v w : List ReceiptParts) → HasMore u v → HasMore v w → HasMore u w
more_twice u v w first second = (first.0 ++ second.0, second.1 ∙ (ap (λ rs. rs ++ second.0) first.1 ∙ append_assoc u first.0 second.0))

-- a receipt stays
receipt_kept : (v w : View) (r : ℕ) → HasMore v.receipts w.receipts → HasReceipt v r → HasReceipt w r
receipt_kept v w r more has =
    subst (λ rs. 0 < count_by (λ (q : ReceiptParts). q.item == r) rs) (sym more.1)
    (let sum = sum_by-append (λ (q : ReceiptParts). cond {A = ℕ} (q.item == r) 1 0) v.receipts more.0 in omega (arith, has))

-- claims go by what was drawn alone
claimed_same : (v w : View) → w.terms ≡ v.terms → w.drawn ≡ v.drawn → (r : ℕ) → HasClaimed w r → HasClaimed v r
claimed_same v w terms drawn r h =
    (h.0, ap (λ t. slice_get t.names h.0) (sym terms) ∙ h.1, subst (λ ds. 0 < count_by (λ d. d == h.0) ds) drawn h.2)

-- ---- tries to put

-- receipts and losses alone are others
abbrev IsOnly : View → View → Type 0
IsOnly v w = w ≡ record v { receipts = w.receipts; losses = w.losses }

only_twice : (u v w : View) → IsOnly u v → IsOnly v w → IsOnly u w
only_twice u v w first second = second ∙ ap {A = View} (λ x. record x { receipts = w.receipts; losses = w.losses }) first

module _ (s : StoreParts) where
  -- before the first try
  pub tried_none : (p : PassParts) → IsFree s p → IsTried s p p
  tried_none p free = record { free = free; becomes = refl; receipts = more_same p.view p.view refl }

  -- the shard was out
  pub tried_lost : (p q w : PassParts) → IsTried s p q → IsFree s w → w.view ≡ record q.view { losses = q.view.losses + 1 } → IsTried s p w
  tried_lost p q w tried free lost = record {
    free = free;
    becomes = only_twice p.view q.view w.view tried.becomes (subst (IsOnly q.view) (sym lost) refl);
    receipts = more_twice p.view.receipts q.view.receipts w.view.receipts tried.receipts (more_same q.view w.view (ap (λ v. v.receipts) lost));
  }

  -- memory ran out
  pub tried_same : (p q w : PassParts) → IsTried s p q → IsFree s w → w.view ≡ q.view → IsTried s p w
  tried_same p q w tried free same = record {
    free = free;
    becomes = subst (IsOnly p.view) (sym same) tried.becomes;
    receipts = more_twice p.view.receipts q.view.receipts w.view.receipts tried.receipts (more_same q.view w.view (ap (λ v. v.receipts) same));
  }

  -- the rank was put
  pub tried_put : (p q w : PassParts) (receipt : ReceiptParts) → IsTried s p q → IsFree s w → w.view ≡ record q.view { receipts = q.view.receipts ++ receipt ∷ [] } → IsTried s p w
  tried_put p q w receipt tried free put = record {
    free = free;
    becomes = only_twice p.view q.view w.view tried.becomes (subst (IsOnly q.view) (sym put) refl);
    receipts = more_twice p.view.receipts q.view.receipts w.view.receipts tried.receipts (receipt ∷ [], ap (λ v. v.receipts) put);
  }

  -- while nothing was put, the rank is still to put
  pub still_pending : (p q : PassParts) (r : ℕ) → IsTried s p q → q.view.receipts ≡ p.view.receipts → IsPending p.view r → IsPending q.view r
  still_pending p q r tried same pending = record {
    claimed = claimed_same q.view p.view (sym (ap (λ v. v.terms) tried.becomes)) (sym (ap (λ v. v.drawn) tried.becomes)) r pending.claimed;
    unput = λ has. pending.unput (subst (λ rs. 0 < count_by (λ (q : ReceiptParts). q.item == r) rs) same has);
  }

-- then it has a receipt
pub put_has : (v w : View) (r : ℕ) (receipt : ReceiptParts) → receipt.item ≡ r → w ≡ record v { receipts = v.receipts ++ receipt ∷ [] } → HasReceipt w r
put_has v w r receipt item put =
    subst (λ x. HasReceipt x r) (sym put)
    (let sum = sum_by-append (λ (q : ReceiptParts). cond {A = ℕ} (q.item == r) 1 0) v.receipts (receipt ∷ []) in
    let one : cond {A = ℕ} (receipt.item == r) 1 0 ≡ 1 = ap (λ b. cond {A = ℕ} b 1 0) (eq-eqb receipt.item r item) in
    omega (arith, sum, one))

-- ---- a turn

-- each claimed rank but perhaps this one has a receipt
abbrev pub IsAlmost : View → ℕ → Type 0
IsAlmost v r = (t : ℕ) → HasClaimed v t → HasReceipt v t ⊎ (r ≡ t)

pub almost_open : (v : View) (r : ℕ) → IsAlmost v r → HasOneOpen v
almost_open v r almost s t one two = sym (is_it s one) ∙ is_it t two where
  is_it : (x : ℕ) → IsPending v x → r ≡ x
  is_it x pending = elim (almost x pending.claimed) [ inl has ↦ absurd (pending.unput has) | inr is ↦ is ]

pub almost_all : (v : View) (r : ℕ) → IsAlmost v r → HasReceipt v r → HasPutAll v
almost_all v r almost has t claimed = elim (almost t claimed) [ inl other ↦ other | inr is ↦ subst (HasReceipt v) is has ]

module _ (s : StoreParts) (p q : PassParts) (answer : Option ℕ) (of : IsOf q s.seats) (free : IsFree s p)
    (claims : (r : ℕ) → HasClaimed q.view r ↔ (HasClaimed p.view r ⊎ (answer ≡ Some r)))
    (rest : q.view ≡ record p.view { drawn = q.view.drawn; ended = q.view.ended }) where
  receipts_same : q.view.receipts ≡ p.view.receipts
  receipts_same = ap (λ v. v.receipts) rest

  pub claim_free : IsFree s q
  claim_free = record { of = of; free = ap (λ v. v.held) rest ∙ free.free }

  pub claim_kept : IsKept s p q
  claim_kept = record { free = claim_free; shares = ap (λ v. v.shares) rest; receipts = more_same p.view q.view receipts_same }

  -- where nothing was claimed, all is put as before
  pub claim_none : HasPutAll p.view → answer ≡ None → HasPutAll q.view
  claim_none all none r claimed = elim ((claims r).0 claimed) [
    | inl old ↦ receipt_kept p.view q.view r (more_same p.view q.view receipts_same) (all r old)
    | inr new ↦ absurd (none-some r (sym none ∙ new))
  ]

  -- else the new rank alone is to put
  pub claim_some : (r : ℕ) → HasPutAll p.view → answer ≡ Some r → IsAlmost q.view r
  claim_some r all some t claimed = elim ((claims t).0 claimed) [
    | inl old ↦ inl (receipt_kept p.view q.view t (more_same p.view q.view receipts_same) (all t old))
    | inr new ↦ inr (same_some r t (sym some ∙ new))
  ]

module _ (s : StoreParts) where
  pub kept_twice : (p q w : PassParts) → IsKept s p q → IsKept s q w → IsKept s p w
  kept_twice p q w first second = record {
    free = second.free;
    shares = second.shares ∙ first.shares;
    receipts = more_twice p.view.receipts q.view.receipts w.view.receipts first.receipts second.receipts;
  }

  pub kept_none : (p : PassParts) → IsFree s p → IsKept s p p
  kept_none p free = record { free = free; shares = refl; receipts = more_same p.view p.view refl }

  pub tried_kept : (p q : PassParts) → IsTried s p q → IsKept s p q
  tried_kept p q tried = record { free = tried.free; shares = ap (λ v. v.shares) tried.becomes; receipts = tried.receipts }

  pub tried_almost : (p q : PassParts) (r : ℕ) → IsTried s p q → IsAlmost p.view r → IsAlmost q.view r
  tried_almost p q r tried almost t claimed =
      elim (almost t (claimed_same p.view q.view (ap (λ v. v.terms) tried.becomes) (ap (λ v. v.drawn) tried.becomes) t claimed)) [
        | inl has ↦ inl (receipt_kept p.view q.view t tried.receipts has)
        | inr is ↦ inr is
      ]
