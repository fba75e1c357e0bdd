-- Passes that are parted and put together.
use Rattle.std.proofs.Common.{◌≡◌, ℕ, true, ◌||◌, Result, Ok, Err, ◌⊎◌, inl, inr, sym, ap, subst, ◌∙◌, arith}
use Rattle.std.specs.Prelude.{◌↔◌, OnOk}
use Rattle.qz_seats.specs.declared.view.View.{View}
use Rattle.qz_seats.specs.Views.{after_split, newcomer, joined}
use Rattle.qz_store.specs.Stores.{HasClaimed, HasReceipt}
use Rattle.qz_crew.specs.Works.{HasPutAll, IsDone}

-- a new pass has claimed nothing
pub fresh_all : (v w : View) → w ≡ newcomer v → HasPutAll w
fresh_all v w is = subst HasPutAll (sym is) (λ r claimed. absurd (omega (arith, claimed.2)))

-- the old one has what it had
pub parted_all : (v w : View) → w ≡ after_split v → HasPutAll v → HasPutAll w
parted_all v w is all = subst HasPutAll (sym is) all

-- where both have put all, the one that has all has too
pub joined_done : (u v w : View) → w ≡ joined u v → ((r : ℕ) → HasClaimed w r ↔ (HasClaimed u r ⊎ HasClaimed v r)) → ((r : ℕ) → HasReceipt w r ↔ (HasReceipt u r ⊎ HasReceipt v r))
    → IsDone u → IsDone v → IsDone w
joined_done u v w is claims receipts first second = record {
  ended = ap (λ x. x.ended) is ∙ ap (λ b. b || v.ended) first.ended;
  all = λ r claimed. (receipts r).1 (elim ((claims r).0 claimed) [ inl one ↦ inl (first.all r one) | inr two ↦ inr (second.all r two) ]);
}

-- what follows from both follows where both are Ok
pub on_both : {A E : Type 0} {P Q W : Type 0} (r first second : Result A E) → (P → Q → W) → OnOk r ((first ≡ r) × (second ≡ r)) → OnOk first P → OnOk second Q → OnOk r W
on_both {A} {E} {P} {Q} {W} (Ok x) first second then both one two = then (subst (λ a. OnOk a P) both.0 one) (subst (λ a. OnOk a Q) both.1 two)
on_both {A} {E} {P} {Q} {W} (Err e) first second then both one two = tt
