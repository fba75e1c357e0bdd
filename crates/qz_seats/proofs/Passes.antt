-- What a seat has after its slot was read and written.
use Rattle.std.proofs.Common.{◌≡◌, ℕ, ◌+◌, ◌<◌, Bool, List, [], ◌∷◌, ◌++◌, length, length-append, slice_get, slice_index, Option, Some, None, sym, refl, ap, subst, ◌∙◌, arith}
use Rattle.atomic_table.specs.Table.{Me, rest}
use Rattle.qz_seats.specs.declared.view.View.{View}
use Rattle.std.proofs.lemmas.Option.{get_or_from_slice_get}
use Rattle.qz_seats.specs.Views.{taking, adding}
use Rattle.qz_seats.specs.SeatRule.{count_of}
use Rattle.qz_seats.specs.Steps.{IsSettleOne}
use Rattle.qz_seats.specs.Parts.{carried, IsPass}

second : {A : Type 0} → A → List (ℕ × A) → A
second d [] = d
second d (x ∷ xs) = x.1

pub front : {A : Type 0} (i k : ℕ) (a b : A) (xs ys : List (ℕ × A)) → (i, a) ∷ xs ≡ (k, b) ∷ ys → a ≡ b
unfolding second
front i k a b xs ys e = ap (second a) e

pub some_same : {A : Type 0} (a b : A) → Some a ≡ Some b → a ≡ b
some_same a b e = cc

none-some : (h : ℕ × List ℕ) → None ≡ Some h → ⊥
none-some h e = cc

module _ {V : Type 0} where
  -- the value of a slot that came into the seat was taken out
  pub taken_is : (me now new : Me (Option V) View) (i : ℕ) (value : V) (w : View) → me.1 ≡ carried me.0.held → me.0.held ≡ None → now ≡ (w, (i, Some value) ∷ me.1) → new ≡ (now.0, (i, None) ∷ rest now.1) → new ≡ (w, (i, None) ∷ [])
  taken_is me now new i value w slots free won taken =
      taken ∙ (ap (λ (m : Me (Option V) View). (m.0, (i, None) ∷ rest m.1)) won ∙ ap (λ (l : List (ℕ × Option V)). (w, (i, None) ∷ l)) (slots ∙ ap carried free))

  -- a pass that has won value i
  pub taking_pass : (me new : Me (Option V) View) (shares : ℕ) (ended : Bool) (i : ℕ) (j : List ℕ) → IsPass me shares ended → i < count_of me.0.terms → new ≡ (taking me.0 i j, (i, None) ∷ []) → IsPass new shares ended
  taking_pass me new shares ended i j pass inside is = subst (λ (m : Me (Option V) View). IsPass m shares ended) (sym is) (record {
    shares_are = pass.shares_are;
    ended_is = pass.ended_is;
    live = pass.live;
    slots = refl;
    inside = λ h e. subst (λ (k : ℕ × List ℕ). k.0 < count_of me.0.terms) (some_same (i, j) h e) inside;
  })

  -- a pass that holds nothing any more
  pub giving_pass : (me new : Me (Option V) View) (shares : ℕ) (ended : Bool) → IsPass me shares ended → new.0.shares ≡ me.0.shares → new.0.ended ≡ me.0.ended → new.0.held ≡ None → new.1 ≡ [] → IsPass new shares ended
  giving_pass me new shares ended pass same_shares same_ended free slots = record {
    shares_are = pass.shares_are ∙ sym same_shares;
    ended_is = pass.ended_is ∙ sym same_ended;
    live = (let h = pass.live in omega arith);
    slots = slots ∙ ap carried (sym free);
    inside = λ h e. absurd (none-some h (sym free ∙ e));
  }

  -- a value was put into the slot of value i, which the pass holds
  pub put_is : (me new : Me (Option V) View) (i : ℕ) (j : List ℕ) (value : V) → me.1 ≡ carried me.0.held → me.0.held ≡ Some (i, j) → new ≡ (me.0, (i, Some value) ∷ rest me.1) → new ≡ (me.0, (i, Some value) ∷ [])
  put_is me new i j value slots held put = put ∙ ap (λ (l : List (ℕ × Option V)). (me.0, (i, Some value) ∷ rest l)) (slots ∙ ap carried held)

  -- what a pass knows after it gave value i back with one entry more
  pub settled_is : (J : V → List ℕ) (me now new : Me (Option V) View) (i : ℕ) (lifted : List ℕ) (entry : ℕ) (value : V) (place item : ℕ) → me.0.held ≡ Some (i, lifted) → J value ≡ lifted ++ entry ∷ [] → now ≡ (me.0, (i, Some value) ∷ [])
      → IsSettleOne J now new → place + 1 ≡ length (J value) → slice_get (J value) place ≡ Some item → new ≡ (adding me.0 (record { shard = i; place = place; item = item }), [])
  settled_is J me now new i lifted entry value place item held journal put settled long at =
      let here : length lifted ≡ place = omega (arith, ap length journal, length-append lifted (entry ∷ [])) in
      let is : slice_index (J value) (length lifted) ≡ item = subst (λ n. slice_index (J value) n ≡ item) (sym here) (get_or_from_slice_get (J value) place item 0 at) in
      let first : now.0 ≡ me.0 = ap (λ (m : Me (Option V) View). m.0) put in
      let step = settled (i, lifted) value (ap (λ (v : View). v.held) first ∙ held) (ap (λ (m : Me (Option V) View). m.1) put) in
      step ∙ (λ k. (adding (first k) (record { shard = i; place = here k; item = is k }), []))
