-- A split keeps the rule, and so does a join.
use Rattle.std.proofs.Common.{◌≡◌, ◌⊎◌, ℕ, zero, suc, ◌+◌, ◌-◌, ◌<◌, ◌≤◌, ◌==◌, ◌&&◌, ◌||◌, Bool, true, false, cond, nat_le, List, [], ◌∷◌, ◌++◌, set, slice_get, slice_index, Option, Some, None, sym, refl, ap, subst, ◌∙◌, inl, inr, ⊎_elim, arith}
use Rattle.std.specs.List.{sum_by}
use Rattle.std.proofs.lemmas.List.Elements.{All-append}
use Rattle.std.proofs.lemmas.List.Sums.{sum_by_push, sum_by-append}
use mathlib.Core.Option.{some}
use lib.ListN.{get_elem?}
use Rattle.atomic_table.specs.Table.{Splits, Joins}
use Rattle.atomic_table.proofs.Lists.{at_snoc, set_else}
use Rattle.qz_seats.specs.declared.view.Terms.{Terms}
use Rattle.qz_seats.specs.declared.view.View.{View}
use Rattle.qz_seats.specs.Receipts.{ReceiptParts}
use Rattle.qz_seats.specs.Views.{draws, draws_past, shares_unended, is_held, holding, placed, entered, after_split, newcomer, joined, nobody}
use Rattle.qz_seats.specs.SeatRule.{count_of, journal_of, Fits, IsRuled}
use Rattle.qz_seats.proofs.Sums.{sum-set}
use Rattle.qz_seats.proofs.Changes.{at_change, kept}

-- the two parts of a pass have what it had
split_sum : (f : View → ℕ) (views : List View) (k : ℕ) (v left right : View) → get_elem? views k ≡ some v → f left + f right ≡ f v → sum_by f (set views k left ++ right ∷ []) ≡ sum_by f views
split_sum f views k v left right at same = omega (arith, sum-set f views k v left at, sum_by_push f (set views k left) right)

-- what two passes had is the sum over the one and the one that is spent
join_sum : (f : View → ℕ) (views : List View) (k other : ℕ) (v w both spent : View) → get_elem? views k ≡ some v → get_elem? (set views k both) other ≡ some w
    → sum_by f (set (set views k both) other spent) + (f v + f w) ≡ sum_by f views + (f both + f spent)
join_sum f views k other v w both spent at there = omega (arith, sum-set f views k v both at, sum-set f (set views k both) other w spent there)

split_unended : (e : Bool) (n : ℕ) → 2 ≤ n → cond e 0 (n - 1) + cond e 0 1 ≡ cond e 0 n
split_unended true n two = refl
split_unended false n two = omega arith

join_unended : (a b : Bool) (m n : ℕ) → cond (a || b) 0 (m + n) ≤ cond a 0 m + cond b 0 n
join_unended true b m n = omega arith
join_unended false true m n = omega arith
join_unended false false m n = omega arith

either : (a b : Bool) → (a || b) ≡ true → (a ≡ true) ⊎ (b ≡ true)
either true b e = inl refl
either false b e = inr e

or_left : (a b : Bool) → a ≡ true → (a || b) ≡ true
or_left a b e = ap (λ x. x || b) e

or_right : (a b : Bool) → b ≡ true → (a || b) ≡ true
or_right true b e = refl
or_right false b e = e

none-some : (h : ℕ × List ℕ) → None ≡ Some h → ⊥
none-some h e = cc

-- a pass that was spent fits any rule
spent_fits : (t : Terms) (c : ℕ) (rest : ℕ → List ℕ) → Fits t c rest nobody
spent_fits t c rest = record {
  live = λ h. absurd (omega arith);
  spent = λ _. refl;
  past = λ h. absurd (omega arith);
  ended = λ e. absurd (cc);
  holds = λ h e. absurd (none-some h e);
  stand = λ k d h. absurd (omega arith);
  named = λ _. record { each_name = λ k d h. absurd (omega arith); each_drawn = λ d x name. omega arith };
}

newcomer_fits : (t : Terms) (c : ℕ) (rest : ℕ → List ℕ) (v : View) → 0 < v.shares → Fits t c rest v → Fits t c rest (newcomer v)
newcomer_fits t c rest v live fit = record {
  live = λ _. fit.live live;
  spent = λ e. absurd (omega arith);
  past = λ h. absurd (omega arith);
  ended = fit.ended;
  holds = λ h e. absurd (none-some h e);
  stand = λ k d h. absurd (omega arith);
  named = λ _. record { each_name = λ k d h. absurd (omega arith); each_drawn = λ d x name. omega arith };
}

after_split_fits : (t : Terms) (c : ℕ) (rest : ℕ → List ℕ) (v : View) → 2 ≤ v.shares → Fits t c rest v → Fits t c rest (after_split v)
after_split_fits t c rest v two fit = record {
  live = λ _. fit.live (omega arith);
  spent = λ e. absurd (omega arith);
  past = fit.past;
  ended = fit.ended;
  holds = fit.holds;
  stand = fit.stand;
  named = λ names. record { each_name = (fit.named names).each_name; each_drawn = (fit.named names).each_drawn };
}

joined_fits : (t : Terms) (c : ℕ) (rest : ℕ → List ℕ) (v w : View) → 0 < v.shares → v.held ≡ None → Fits t c rest v → Fits t c rest w → Fits t c rest (joined v w)
joined_fits t c rest v w live free fit other = record {
  live = λ _. fit.live live;
  spent = λ e. absurd (omega arith);
  past = λ some. (let sum = sum_by-append (λ d. cond (nat_le t.limit d) 1 0) v.drawn w.drawn in
      ⊎_elim (λ e. or_left v.ended w.ended (fit.past e)) (λ e. or_right v.ended w.ended (other.past e)) (parts (draws_past t.limit v) (draws_past t.limit w) (omega arith)));
  ended = λ e. ⊎_elim fit.ended other.ended (either v.ended w.ended e);
  holds = λ h e. absurd (none-some h (sym free ∙ e));
  stand = All-append (λ r. (r.shard < count_of t) × (slice_get (journal_of t rest r.shard) r.place ≡ Some r.item)) v.receipts w.receipts fit.stand other.stand;
  named = λ names. (let a = fit.named names in let b = other.named names in record {
    each_name = All-append (λ r. (d : ℕ) × (slice_get t.names d ≡ Some r.item)) v.receipts w.receipts a.each_name b.each_name;
    each_drawn = λ d x name. (let p = a.each_drawn d x name in let q = b.each_drawn d x name in
        omega (arith, sum_by-append (λ e. cond (e == d) 1 0) v.drawn w.drawn, sum_by-append (λ (r : ReceiptParts). cond (r.item == x) 1 0) v.receipts w.receipts));
  });
}
  where
    parts : (m n : ℕ) → 0 < m + n → (0 < m) ⊎ (0 < n)
    parts zero n h = inr (omega arith)
    parts (suc m) n h = inl (omega arith)

module _ {V : Type 0} (J N M : V → List ℕ) (t : Terms) where
  pub splits_keep : (id : ℕ) (v : View) → 2 ≤ v.shares → v.held ≡ None → Splits {S = Option V} (IsRuled J N M t) id v (after_split v) (newcomer v)
  splits_keep id v two free s r at =
      let left = after_split v in
      let right = newcomer v in
      let fit = r.fits id v at in
      let same : (f : View → ℕ) → f left + f right ≡ f v → sum_by f (set s.views id left ++ right ∷ []) ≡ sum_by f s.views = λ f e. split_sum f s.views id v left right at e in
      let past = same (draws_past t.limit) (omega arith) in
      let unended = same shares_unended (split_unended v.ended v.shares two) in
      kept J N M t s r s.words (set s.views id left ++ right ∷ []) refl (λ i. refl)
      (λ x. same (draws x) (omega arith) ∙ r.drawn x)
      (same (λ u. u.shares) (omega arith) ∙ r.shares)
      (let h = r.past in omega arith)
      (let h = r.counter in omega arith)
      (λ i. same (holding i) (omega arith))
      (λ i p. same (placed i p) (omega arith))
      (λ i x. same (entered i x) (omega arith))
      (λ j u there. ⊎_elim
      (λ e. at_change (Fits t (slice_index s.words 0) r.rest) s.views id left (after_split_fits t (slice_index s.words 0) r.rest v two fit) r.fits j u e)
      (λ e. subst (Fits t (slice_index s.words 0) r.rest) e (newcomer_fits t (slice_index s.words 0) r.rest v (omega arith) fit))
      (at_snoc (set s.views id left) right u j there))

  pub joins_keep : (id other : ℕ) (v w : View) → 0 < v.shares → v.held ≡ None → w.held ≡ None → Joins {S = Option V} (IsRuled J N M t) id v other w (joined v w) nobody
  joins_keep id other v w live free free_too s r at apart there =
      let both = joined v w in
      let new = set (set s.views id both) other nobody in
      let there_too : get_elem? s.views other ≡ some w = sym (set_else s.views id other both apart) ∙ there in
      let fit = r.fits id v at in
      let fit_too = r.fits other w there_too in
      let sums : (f : View → ℕ) → sum_by f new + (f v + f w) ≡ sum_by f s.views + (f both + f nobody) = λ f. join_sum f s.views id other v w both nobody at there in
      let same : (f : View → ℕ) → f both + f nobody ≡ f v + f w → sum_by f new ≡ sum_by f s.views = λ f e. (let h = sums f in omega arith) in
      let past = same (draws_past t.limit) (let h = sum_by-append (λ d. cond (nat_le t.limit d) 1 0) v.drawn w.drawn in omega arith) in
      let unended : sum_by shares_unended new ≤ sum_by shares_unended s.views = (let h = sums shares_unended in let k = join_unended v.ended w.ended v.shares w.shares in omega arith) in
      kept J N M t s r s.words new refl (λ i. refl)
      (λ x. same (draws x) (let h = sum_by-append (λ d. cond (d == x) 1 0) v.drawn w.drawn in omega arith) ∙ r.drawn x)
      (same (λ u. u.shares) (omega arith) ∙ r.shares)
      (let h = r.past in omega arith)
      (let h = r.counter in omega arith)
      (λ i. same (holding i) (let a = ap (is_held i) free in let b = ap (is_held i) free_too in omega arith))
      (λ i p. same (placed i p) (let h = sum_by-append (λ (x : ReceiptParts). cond ((x.shard == i) && (x.place == p)) 1 0) v.receipts w.receipts in omega arith))
      (λ i x. same (entered i x) (let h = sum_by-append (λ (y : ReceiptParts). cond ((y.shard == i) && (y.item == x)) 1 0) v.receipts w.receipts in omega arith))
      (at_change (Fits t (slice_index s.words 0) r.rest) (set s.views id both) other nobody (spent_fits t (slice_index s.words 0) r.rest)
      (at_change (Fits t (slice_index s.words 0) r.rest) s.views id both (joined_fits t (slice_index s.words 0) r.rest v w live free fit fit_too) r.fits))
