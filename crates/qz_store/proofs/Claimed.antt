-- Claims and receipts after a draw, a put and a join.
use Rattle.std.proofs.Common.{◌≡◌, ℕ, ◌+◌, ◌<◌, ◌==◌, cond, List, [], ◌∷◌, ◌++◌, length, get_or, slice_get, Option, Some, None, sym, refl, ap, subst, ◌∙◌, eq-eqb, ne_eqb, arith}
use Rattle.std.specs.Prelude.{◌↔◌}
use Rattle.std.proofs.lemmas.List.Sums.{sum_by_push, sum_by-append}
use Rattle.std.proofs.lemmas.Option.{none-some, slice_get_past, slice_get_read}
use mathlib.Core.Logic.{◌⊎◌, inl, inr, dite}
use native.Mathlib.Decide.{ℕ_discrete}
use Rattle.qz_seats.specs.declared.view.View.{View}
use Rattle.qz_seats.specs.Receipts.{ReceiptParts}
use Rattle.qz_seats.specs.Views.{with_item, joined}
use Rattle.qz_seats.specs.SeatRule.{times}
use Rattle.qz_seats.specs.Answers.{Drew}
use Rattle.qz_store.specs.Stores.{HasClaimed, HasReceipt, IsPending}

-- how often a number is there after one more
one_more : (x n : ℕ) (drawn : List ℕ) → times x (drawn ++ n ∷ []) ≡ times x drawn + cond (n == x) 1 0
one_more x n drawn = sum_by_push (λ d. cond (d == x) 1 0) drawn n

-- the name of one of the numbers
abbrev IsDrawn : List ℕ → List ℕ → ℕ → Type 0
IsDrawn names drawn r = (d : ℕ) × (slice_get names d ≡ Some r) × (0 < times d drawn)

drawn_more : (names drawn : List ℕ) (n r : ℕ) → IsDrawn names (drawn ++ n ∷ []) r ↔ (IsDrawn names drawn r ⊎ (slice_get names n ≡ Some r))
drawn_more names drawn n r = (
  λ h. dite (ℕ_discrete n h.0)
      (λ e. inr (ap (slice_get names) e ∙ h.1))
      (λ ne. inl (h.0, h.1, (let same : cond {A = ℕ} (n == h.0) 1 0 ≡ 0 = ap (λ b. cond {A = ℕ} b 1 0) (ne_eqb n h.0 ne) in omega (arith, h.2, one_more h.0 n drawn)))),
  λ h. elim h [
    | inl old ↦ (old.0, old.1, omega (arith, old.2, one_more old.0 n drawn))
    | inr at ↦ (n, at, (let same : cond {A = ℕ} (n == n) 1 0 ≡ 1 = ap (λ b. cond {A = ℕ} b 1 0) (eq-eqb n n refl) in omega (arith, one_more n n drawn)))
  ],
)

drawn_both : (names drawn more : List ℕ) (r : ℕ) → IsDrawn names (drawn ++ more) r ↔ (IsDrawn names drawn r ⊎ IsDrawn names more r)
drawn_both names drawn more r = (
  λ h. (let sum = sum_by-append (λ d. cond {A = ℕ} (d == h.0) 1 0) drawn more in
      dite (ℕ_discrete (times h.0 drawn) 0)
      (λ none. inr (h.0, h.1, omega (arith, h.2)))
      (λ some. inl (h.0, h.1, omega (arith, h.2)))),
  λ h. elim h [
    | inl old ↦ (old.0, old.1, (let sum = sum_by-append (λ d. cond {A = ℕ} (d == old.0) 1 0) drawn more in omega (arith, old.2)))
    | inr new ↦ (new.0, new.1, (let sum = sum_by-append (λ d. cond {A = ℕ} (d == new.0) 1 0) drawn more in omega (arith, new.2)))
  ],
)

-- after one draw the rank at its place is claimed too, if there is one
pub claims_more : (v w : View) (n : ℕ) (answer : Option ℕ) → w.terms ≡ v.terms → w.drawn ≡ v.drawn ++ n ∷ [] → slice_get v.terms.names n ≡ answer
    → (r : ℕ) → HasClaimed w r ↔ (HasClaimed v r ⊎ (answer ≡ Some r))
claims_more v w n answer terms drawn at r =
    subst (λ a. HasClaimed w r ↔ (HasClaimed v r ⊎ (a ≡ Some r))) at
    (subst (λ t. IsDrawn t.names w.drawn r ↔ (HasClaimed v r ⊎ (slice_get v.terms.names n ≡ Some r))) (sym terms)
    (subst (λ ds. IsDrawn v.terms.names ds r ↔ (HasClaimed v r ⊎ (slice_get v.terms.names n ≡ Some r))) (sym drawn)
    (drawn_more v.terms.names v.drawn n r)))

-- the claims of two passes together
pub claims_both : (v u w : View) → w ≡ joined v u → u.terms ≡ v.terms → (r : ℕ) → HasClaimed w r ↔ (HasClaimed v r ⊎ HasClaimed u r)
claims_both v u w is terms r =
    subst (λ x. HasClaimed x r ↔ (HasClaimed v r ⊎ HasClaimed u r)) (sym is)
    (subst (λ t. HasClaimed (joined v u) r ↔ (HasClaimed v r ⊎ IsDrawn t.names u.drawn r)) (sym terms)
    (drawn_both v.terms.names v.drawn u.drawn r))

-- after a put the rank has a receipt too
pub receipts_more : (v w : View) (receipt : ReceiptParts) (r : ℕ) → receipt.item ≡ r → w ≡ record v { receipts = v.receipts ++ receipt ∷ [] }
    → (x : ℕ) → HasReceipt w x ↔ (HasReceipt v x ⊎ (r ≡ x))
receipts_more v w receipt r item is x =
    let sum = ap (with_item x) is ∙ sum_by_push (λ (y : ReceiptParts). cond {A = ℕ} (y.item == x) 1 0) v.receipts receipt in (
      λ h. dite (ℕ_discrete r x)
          (λ e. inr e)
          (λ ne. inl (let none : cond {A = ℕ} (receipt.item == x) 1 0 ≡ 0 = ap (λ b. cond {A = ℕ} b 1 0) (ne_eqb receipt.item x (λ e. ne (sym item ∙ e))) in omega (arith, h, sum))),
      λ h. elim h [
        | inl old ↦ omega (arith, old, sum)
        | inr e ↦ (let one : cond {A = ℕ} (receipt.item == x) 1 0 ≡ 1 = ap (λ b. cond {A = ℕ} b 1 0) (eq-eqb receipt.item x (item ∙ e)) in omega (arith, sum))
      ],
    )

-- the rank that is read at a number below the limit
pub rank_at : (names list : List ℕ) (limit n r : ℕ) → names ≡ list → limit ≡ length names → n < limit → r ≡ get_or list n r → slice_get names n ≡ Some r
rank_at names list limit n r same long inside is =
    subst (λ xs. slice_get xs n ≡ Some r) (sym same) (slice_get_read list (length list) n r refl (omega (arith, ap length same)) is)

-- what a claim that gave a rank leaves
pub claims_some : (v w : View) (n r : ℕ) → Drew v (Some n) w → slice_get v.terms.names n ≡ Some r → (x : ℕ) → HasClaimed w x ↔ (HasClaimed v x ⊎ (Some r ≡ Some x))
claims_some v w n r drew at = claims_more v w n (Some r) (ap (λ u. u.terms) drew.4) (ap (λ u. u.drawn) drew.4) at

pub pending_new : (v w : View) (n r : ℕ) → Drew v (Some n) w → slice_get v.terms.names n ≡ Some r → IsPending w r
pending_new v w n r drew at = record {
  claimed = (claims_some v w n r drew at r).1 (inr refl);
  unput = λ has. (let none = drew.3 r at in let same : with_item r w ≡ with_item r v = ap (with_item r) drew.4 in omega arith);
}

-- and one that gave none
pub claims_none : (v w : View) → Drew v None w → length v.terms.names ≡ v.terms.limit → (x : ℕ) → HasClaimed w x ↔ (HasClaimed v x ⊎ (None ≡ Some x))
claims_none v w drew long x =
    elim drew [
      | inl was ↦ (λ h. inl (subst (λ u. HasClaimed u x) was.1 h), λ h. elim h [ inl old ↦ subst (λ u. HasClaimed u x) (sym was.1) old | inr e ↦ absurd (none-some x e) ])
      | inr past ↦ claims_more v w past.1.0 None (ap (λ u. u.terms) past.1.3) (ap (λ u. u.drawn) past.1.3) (slice_get_past v.terms.names past.1.0 (omega (arith, past.1.1, long))) x
    ]
