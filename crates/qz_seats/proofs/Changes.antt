-- Steps that leave all values as they are.
use Rattle.std.proofs.Common.{◌≡◌, ◌⊎◌, ℕ, ◌+◌, ◌<◌, ◌≤◌, ◌==◌, ◌&&◌, Bool, true, false, cond, nat_le, List, [], length, set, slice_get, slice_index, Option, Some, sym, ap, subst, ◌∙◌, inl, inr, ⊎_elim, arith}
use Rattle.std.specs.List.{count_by, sum_by}
use Rattle.std.proofs.lemmas.Bool.Decides.{nat_tests}
use Rattle.std.proofs.lemmas.List.{get_or-set_same, get_or-set_other}
use Rattle.std.proofs.Math.ListN.{length-set}
use mathlib.Core.Option.{some}
use lib.ListN.{get_elem?}
use Rattle.atomic_table.specs.Table.{State}
use Rattle.atomic_table.proofs.Lists.{at_set}
use Rattle.qz_seats.specs.declared.view.Terms.{Terms}
use Rattle.qz_seats.specs.declared.view.View.{View}
use Rattle.qz_seats.specs.Views.{draws, draws_past, shares_unended, is_held, holding, placed, entered, with_item}
use Rattle.qz_seats.specs.SeatRule.{below, Fits, IsValue, IsRuled}
use Rattle.qz_seats.specs.Receipts.{ReceiptParts}
use Rattle.qz_seats.proofs.Sums.{sum-set}

-- 1 more is below the next number exactly at this one
pub below_more : (x c : ℕ) → below x (c + 1) ≡ below x c + cond (c == x) 1 0
below_more x c = grind (arith, nat_tests)

pub below_one : (x c : ℕ) → below x c < 2
below_one x c = grind (arith, nat_tests)

pub below_self : (c : ℕ) → below c c ≡ 0
below_self c = grind (arith, nat_tests)

-- a number is at least the limit and counts as past the end, or is below it
pub record IsPast (limit c s : ℕ) : Type 0 where
  pub test : nat_le limit c ≡ true
  pub number : limit ≤ c
  pub one : cond {A = ℕ} (nat_le limit c) 1 0 ≡ 1
  pub none : cond {A = ℕ} (nat_le limit c) 0 s ≡ 0

pub record IsWithin (limit c s : ℕ) : Type 0 where
  pub test : nat_le limit c ≡ false
  pub number : c < limit
  pub none : cond {A = ℕ} (nat_le limit c) 1 0 ≡ 0
  pub all : cond {A = ℕ} (nat_le limit c) 0 s ≡ s

pub at_limit : (limit c s : ℕ) (b : Bool) → nat_le limit c ≡ b → IsPast limit c s ⊎ IsWithin limit c s
at_limit limit c s true is = inl (record {
  test = is;
  number = grind (arith, nat_tests);
  one = rw is;
  none = rw is;
})
at_limit limit c s false is = inr (record {
  test = is;
  number = grind (arith, nat_tests);
  none = rw is;
  all = rw is;
})

-- a fact of all passes stays where one changes
pub at_change : (P : View → Type 0) (views : List View) (k : ℕ) (w : View) → P w → ((j : ℕ) (u : View) → get_elem? views j ≡ some u → P u) → (j : ℕ) (u : View) → get_elem? (set views k w) j ≡ some u → P u
at_change P views k w new old j u at = ⊎_elim (λ e. subst P e.1 new) (λ e. old j u e.1) (at_set views k j w u at)

-- a higher counter
pub fits_more : (t : Terms) (c n : ℕ) (rest : ℕ → List ℕ) (v : View) → c ≤ n → Fits t c rest v → Fits t n rest v
fits_more t c n rest v more fit = record {
  live = fit.live;
  spent = fit.spent;
  past = fit.past;
  ended = λ e. (let h = fit.ended e in omega arith);
  holds = fit.holds;
  stand = fit.stand;
  named = fit.named;
}

-- the rule of a name that the pass knows
pub named_at : (t : Terms) (c : ℕ) (rest : ℕ → List ℕ) (v : View) → Fits t c rest v → v.terms ≡ t → (d x : ℕ) → slice_get v.terms.names d ≡ Some x → with_item x v ≤ draws d v
named_at t c rest v fit same d x name =
    let there : slice_get t.names d ≡ Some x = subst (λ (u : Terms). slice_get u.names d ≡ Some x) same name in
    (fit.named (λ none. absurd (is_none (subst (λ xs. slice_get xs d ≡ Some x) none there)))).each_drawn d x there
  where
    is_none : slice_get {X = ℕ} [] d ≡ Some x → ⊥
    is_none e = cc

module _ {V : Type 0} (J N M : V → List ℕ) (t : Terms) where
  -- the sums over the values stay, and so do locks and slots
  pub value_kept : (i : ℕ) (rest : List ℕ) (word : ℕ) (slot : mathlib.Core.Option.Option (mathlib.Core.Option.Option (Option V))) (views new : List View)
      → sum_by (holding i) new ≡ sum_by (holding i) views → ((p : ℕ) → sum_by (placed i p) new ≡ sum_by (placed i p) views) → ((x : ℕ) → sum_by (entered i x) new ≡ sum_by (entered i x) views)
      → IsValue J N M t i rest word slot views → IsValue J N M t i rest word slot new
  value_kept i rest word slot views new holds places entries value =
      record {
        lock = holds ∙ value.lock;
        bit = value.bit;
        home = value.home;
        out = value.out;
        places = λ p. places p ∙ value.places p;
        entries = λ x. entries x ∙ value.entries x;
      }

  -- The rule is kept where the counter, the draws and the shares keep theirs, no value changes, and each pass fits
  pub kept : (s : State (Option V) View) (r : IsRuled J N M t s) (words : List ℕ) (views : List View)
      → length words ≡ length s.words → ((i : ℕ) → slice_index words (i + 1) ≡ slice_index s.words (i + 1))
      → ((x : ℕ) → sum_by (draws x) views ≡ below x (slice_index words 0)) → sum_by (λ v. v.shares) views ≡ t.seats
      → sum_by (draws_past t.limit) views + sum_by shares_unended views ≤ t.seats → slice_index words 0 ≤ t.limit + sum_by (draws_past t.limit) views
      → ((i : ℕ) → sum_by (holding i) views ≡ sum_by (holding i) s.views) → ((i p : ℕ) → sum_by (placed i p) views ≡ sum_by (placed i p) s.views) → ((i x : ℕ) → sum_by (entered i x) views ≡ sum_by (entered i x) s.views)
      → ((k : ℕ) (v : View) → get_elem? views k ≡ some v → Fits t (slice_index words 0) r.rest v)
      → IsRuled J N M t (record { words = words; homes = s.homes; views = views })
  kept s r words views wide other drawn shares past counter holds places entries fits = record {
    rest = r.rest;
    wide = wide ∙ r.wide;
    long = r.long;
    drawn = drawn;
    shares = shares;
    past = past;
    counter = counter;
    values = λ i inside. subst (λ n. IsValue J N M t i (r.rest i) n (get_elem? s.homes i) views) (sym (other i))
        (value_kept i (r.rest i) (slice_index s.words (i + 1)) (get_elem? s.homes i) s.views views (holds i) (places i) (entries i) (r.values i inside));
    fits = fits;
  }

  -- a step on word 0 after which one pass has the receipts, the shares and the value that it had
  pub quiet : (s : State (Option V) View) (k : ℕ) (v w : View) (n : ℕ) (r : IsRuled J N M t s) → get_elem? s.views k ≡ some v
      → w.held ≡ v.held → w.receipts ≡ v.receipts → w.shares ≡ v.shares → slice_index s.words 0 ≤ n
      → ((x : ℕ) → draws x w + below x (slice_index s.words 0) ≡ draws x v + below x n)
      → draws_past t.limit w + shares_unended w ≤ draws_past t.limit v + shares_unended v
      → n ≤ t.limit + sum_by (draws_past t.limit) (set s.views k w)
      → Fits t n r.rest w
      → IsRuled J N M t (record { words = set s.words 0 n; homes = s.homes; views = set s.views k w })
  quiet s k v w n r at held receipts shares more drew past counter fit =
      let new = set s.views k w in
      let first : slice_index (set s.words 0 n) 0 ≡ n = get_or-set_same s.words 0 n 0 (let h = r.wide in omega arith) in
      let same : (f : View → ℕ) → f w ≡ f v → sum_by f new ≡ sum_by f s.views = λ f e. (let h = sum-set f s.views k v w at in omega arith) in
      kept s r (set s.words 0 n) new
      (length-set s.words 0 n)
      (λ i. get_or-set_other s.words 0 (i + 1) n 0 (omega arith))
      (λ x. (let h = sum-set (draws x) s.views k v w at in let d = drew x in let e = r.drawn x in let b : below x (slice_index (set s.words 0 n) 0) ≡ below x n = ap (below x) first in omega arith))
      (same (λ u. u.shares) shares ∙ r.shares)
      (let a = sum-set (draws_past t.limit) s.views k v w at in let b = sum-set shares_unended s.views k v w at in let p = r.past in omega arith)
      (subst (λ c. c ≤ t.limit + sum_by (draws_past t.limit) new) (sym first) counter)
      (λ i. same (holding i) (ap (is_held i) held))
      (λ i p. same (placed i p) (ap (count_by (λ (r : ReceiptParts). (r.shard == i) && (r.place == p))) receipts))
      (λ i x. same (entered i x) (ap (count_by (λ (r : ReceiptParts). (r.shard == i) && (r.item == x))) receipts))
      (λ j u there. subst (λ c. Fits t c r.rest u) (sym first)
      (at_change (Fits t n r.rest) s.views k w fit (λ j u old. fits_more t (slice_index s.words 0) n r.rest u more (r.fits j u old)) j u there))
