-- A draw is a claim, and a settle with one entry is a put.
use Rattle.std.proofs.Common.{◌≡◌, ◌≢◌, ℕ, suc, ◌+◌, ◌%◌, ◌^◌, ◌<◌, ◌==◌, ◌||◌, min, cond, Bool, true, false, List, [], ◌∷◌, ◌++◌, length, get_or, slice_get, slice_index, slice_index_or, Option, Some, sym, refl, ap, subst, ◌∙◌, inl, inr, ⊎_elim, append_assoc, eq-eqb, ne_eqb, arith}
use Rattle.std.specs.List.{sum_by, list_any}
use Rattle.std.proofs.lemmas.Bool.{cases_lt, cases_eq, true≢false}
use Rattle.std.proofs.lemmas.List.{get_or-set_same, get_or-set_other, get_or_past}
use Rattle.std.proofs.lemmas.List.Sums.{sum_by-cons, sum_by_push}
use Rattle.std.proofs.lemmas.Option.{slice_get_within, slice_get-get_or, get_or_from_slice_get}
use Rattle.std.proofs.Math.ListN.{length-set}
use mathlib.Core.Option.{some, some-injective}
use lib.ListN.{get_elem?}
use Rattle.atomic_table.specs.Table.{State}
use Rattle.atomic_table.proofs.Lists.{at_set}
use Rattle.qz_core.specs.RoundMachine.{times, times_in_all, with_entry, RoundState, home_of, is_pending, claimed, put}
use Rattle.qz_core.proofs.Counts.{same, all_with, all_without}
use Rattle.qz_core.proofs.Rounds.{claimed_more, claimed_none, put_more, pending_is}
use Rattle.qz_seats.specs.declared.view.Terms.{Terms}
use Rattle.qz_seats.specs.declared.view.View.{View}
use Rattle.qz_seats.specs.Receipts.{ReceiptParts}
use Rattle.qz_seats.specs.Views.{draws, is_held, holding, with_item, drawing, adding}
use Rattle.qz_seats.specs.SeatRule.{below, AreDifferent, count_of, opening_of, IsRuled}
use Rattle.qz_seats.proofs.Sums.{sum-set, one_le}
use Rattle.qz_seats.proofs.Changes.{below_more}
use Rattle.qz_seats.proofs.Values.{held_once}
use Rattle.qz_seats.proofs.Lifts.{this_held}
use Rattle.qz_seats.proofs.Passes.{some_same}
use Rattle.qz_seats.proofs.Settles.{none-some}
use Rattle.qz_store.specs.Showing.{IsOfStore, waiting, IsJournal, Shows}
use Rattle.qz_store.specs.Steps.{IsStep, IsChange, IsPending}
use Rattle.qz_store.specs.Steps.SeatStep.{Draw, SettleOne}
use Rattle.qz_store.proofs.Views.{waited, IsHeld, held_after}
use Rattle.qz_store.proofs.Steps.{counter_small, draw_keeps, one_entry_keeps}

-- there is a name for each number below the limit
names_long : (t : Terms) → IsOfStore t → length t.names ≡ t.limit
names_long t of = ⊎_elim (λ e. absurd (of.some e)) (λ e. e) of.lawful.named

-- the name of one number is that of another exactly where they are the same number
name_same : (names : List ℕ) (c d x : ℕ) → AreDifferent names → c < length names → slice_get names d ≡ Some x → same (get_or names c 0) x ≡ cond {A = ℕ} (c == d) 1 0
name_same names c d x apart within name = ⊎_elim
    (λ e. (let is : get_or names c 0 ≡ x = get_or_from_slice_get names c x 0 (subst (λ n. slice_get names n ≡ Some x) (sym e) name) in
    ap (λ b. cond {A = ℕ} b 1 0) (eq-eqb (get_or names c 0) x is) ∙ sym (ap (λ b. cond {A = ℕ} b 1 0) (eq-eqb c d e))))
    (λ ne. (let other : get_or names c 0 ≢ x = λ e. ne (apart c d x (slice_get-get_or names c 0 within ∙ ap Some e) name) in
    ap (λ b. cond {A = ℕ} b 1 0) (ne_eqb (get_or names c 0) x other) ∙ sym (ap (λ b. cond {A = ℕ} b 1 0) (ne_eqb c d ne))))
    (cases_eq c d)

-- a rank that is in a list is there
there : (r : ℕ) (xs : List ℕ) → 0 < times r xs → list_any (λ x. x == r) xs ≡ true
there r [] more = absurd (omega arith)
there r (x ∷ xs) more = by (x == r) refl (there r xs)
  where
    by : (b : Bool) → (x == r) ≡ b → (0 < times r xs → list_any (λ y. y == r) xs ≡ true) → ((x == r) || list_any (λ y. y == r) xs) ≡ true
    by true e rest = ap (λ b. b || list_any (λ y. y == r) xs) e
    by false e rest =
        let none : cond {A = ℕ} (x == r) 1 0 ≡ 0 = ap (λ b. cond {A = ℕ} b 1 0) e in
        ap (λ b. b || list_any (λ y. y == r) xs) e ∙ rest (omega (arith, sum_by-cons (λ y. cond (y == r) 1 0) x xs))

-- a rank that is in some lists together is in one of them
in_one : (r : ℕ) (lists : List (List ℕ)) → 0 < times_in_all r lists → (w : ℕ) × (w < length lists) × (list_any (λ x. x == r) (get_or lists w []) ≡ true)
in_one r [] more = absurd (omega arith)
in_one r (xs ∷ lists) more = ⊎_elim
    (λ here. (0, omega arith, there r xs here))
    (λ none. (let rest = in_one r lists (omega (arith, sum_by-cons (times r) xs lists)) in (suc rest.0, (let h = rest.1 in omega arith), rest.2)))
    (cases_lt 0 (times r xs))

-- who has a rank pending is a worker of the round
pending_within : (m : RoundState) (w r : ℕ) → is_pending m w r ≡ true → w < length m.pending
pending_within m w r is = ⊎_elim (λ h. h)
    (λ past. absurd (true≢false (sym is ∙ (pending_is m w r ∙ ap (list_any (λ x. x == r)) (get_or_past m.pending w [] past)))))
    (cases_lt w (length m.pending))

module _ {V : Type 0} (J N M : V → List ℕ) (t : Terms) (s u : State (Option V) View) (of : IsOfStore t) (ruled : IsRuled J N M t s) where
  draw_shows : (m : RoundState) (k worker : ℕ) → Shows J t s m → worker < length m.pending → IsStep J N M t s (Draw k) u → IsRuled J N M t u × Shows J t u (claimed m worker)
  draw_shows m k worker shown within step =
      let c : ℕ = slice_index s.words 0 in
      let v : View = step.0 in
      let w : View = drawing v c in
      let is = step.3 in
      let after = draw_keeps J N M t s u of.lawful ruled k step in
      let long = names_long t of in
      let list_long : length m.list ≡ t.limit = ap length shown.ranks ∙ long in
      let counter : slice_index u.words 0 ≡ c + 1 =
      ap (λ (x : State (Option V) View). slice_index x.words 0) is
      ∙ (get_or-set_same s.words 0 ((c + 1) % 2 ^ 64) 0 (let h = ruled.wide in omega arith) ∙ (let h = counter_small J N M t s u of.lawful ruled in omega arith)) in
      let receipts : (x : ℕ) → sum_by (with_item x) u.views ≡ sum_by (with_item x) s.views =
      λ x. ap (λ (y : State (Option V) View). sum_by (with_item x) y.views) is ∙ (let h = sum-set (with_item x) s.views k v w step.1.0 in omega arith) in
      let waits : (d x : ℕ) → slice_get t.names d ≡ Some x → sum_by (waiting d x) u.views ≡ times_in_all x m.pending + cond {A = ℕ} (c == d) 1 0 =
      λ d x name.
      (let a = shown.pending d x name in
      let b = waited J N M t s ruled of.some d x name in
      let e = waited J N M t u after of.some d x name in
      let f : below d (slice_index u.words 0) ≡ below d (c + 1) = ap (below d) counter in
      let g = below_more d c in
      let h = receipts x in
      omega arith) in
      let journals : (i : ℕ) (journal : List ℕ) → i < count_of t → IsJournal J u i journal → journal ≡ opening_of t i ++ slice_index_or m.shards i [] =
      λ i journal inside now. ⊎_elim
      (λ h. shown.shards i journal inside (inl (h.0, subst (λ (y : State (Option V) View). get_elem? y.homes i ≡ some (some (Some h.0))) is h.1, h.2)))
      (λ h. held_after (journal ≡ opening_of t i ++ slice_index_or m.shards i []) s.views k i w journal
      (λ e. shown.shards i journal inside (inr (k, v, step.1.0, e)))
      (λ n y ne at e. shown.shards i journal inside (inr (n, y, at, e)))
      (subst (λ (y : State (Option V) View). IsHeld y.views i journal) is h))
      now in (
        after,
        ⊎_elim
            (λ less. (let next : m.next ≡ c = (let h = shown.next in omega arith) in
            let rank : get_or m.list m.next 0 ≡ get_or t.names c 0 = ap (λ l. get_or l m.next 0) shown.ranks ∙ ap (λ n. get_or t.names n 0) next in
            subst (Shows J t u) (sym (claimed_more m worker (omega arith))) (record {
              ranks = shown.ranks;
              next = omega arith;
              pending = λ d x name.
                  (let a = all_with x (get_or m.list m.next 0) worker m.pending within in
                  let b = ap (λ r. same r x) rank ∙ name_same t.names c d x of.lawful.apart (omega arith) name in
                  let e = waits d x name in
                  omega arith);
              no_other = λ r none.
                  (let a = all_with r (get_or m.list m.next 0) worker m.pending within in
                  let b : same (get_or m.list m.next 0) r ≡ 0 = ap (λ q. same q r) rank ∙ ap (λ b. cond {A = ℕ} b 1 0) (ne_eqb (get_or t.names c 0) r (λ e. none c (slice_get-get_or t.names c 0 (omega arith) ∙ ap Some e))) in
                  let e = shown.no_other r none in
                  omega arith);
              count = shown.count;
              shards = journals;
            })))
            (λ past. subst (Shows J t u) (sym (claimed_none m worker (let h = shown.next in omega arith))) (record {
              ranks = shown.ranks;
              next = (let h = shown.next in omega arith);
              pending = λ d x name.
                  (let a : d < length t.names = slice_get_within t.names d x name in
                  let b : cond {A = ℕ} (c == d) 1 0 ≡ 0 = ap (λ b. cond {A = ℕ} b 1 0) (ne_eqb c d (λ e. omega arith)) in
                  let e = waits d x name in
                  omega arith);
              no_other = shown.no_other;
              count = shown.count;
              shards = journals;
            }))
            (cases_lt c t.limit),
      )

  -- the entry that comes is pending
  entry_pending : (m : RoundState) (k i x : ℕ) → Shows J t s m → IsStep J N M t s (SettleOne k i x) u → (worker : ℕ) × (worker < length m.pending) × (is_pending m worker x ≡ true)
  entry_pending m k i x shown step =
      let v : View = step.0 in
      let more = step.3 in
      let same_terms : v.terms ≡ t = (ruled.fits k v step.1.0).live step.1.1 in
      let named = more.named (λ e. of.some (ap (λ (y : Terms). y.names) (sym same_terms) ∙ e)) in
      let d : ℕ = named.0.0 in
      let name : slice_get t.names d ≡ Some x = subst (λ (y : Terms). slice_get y.names d ≡ Some more.entry) same_terms named.0.1 ∙ ap Some step.4 in
      let lacks : with_item x v ≡ 0 = ap (λ y. with_item y v) (sym step.4) ∙ named.1 in
      let waits : waiting d x v ≡ draws d v = ap (λ n. cond {A = ℕ} (n == 0) (draws d v) 0) lacks in
      let some_wait = one_le (waiting d x) s.views k v step.1.0 in
      let drew : 0 < draws d v = named.0.2 in
      let all = shown.pending d x name in
      let one = in_one x m.pending (omega arith) in
      (one.0, one.1, pending_is m one.0 x ∙ one.2)

  entry_shows : (m : RoundState) (k i x worker : ℕ) → Shows J t s m → i ≡ home_of m x → is_pending m worker x ≡ true → IsStep J N M t s (SettleOne k i x) u → IsRuled J N M t u × Shows J t u (put m worker x)
  entry_shows m k i x worker shown home pending step =
      let v : View = step.0 in
      let value : V = step.2 in
      let more = step.3 in
      let receipt : ReceiptParts = record { shard = i; place = length more.lifted; item = x } in
      let w : View = adding v receipt in
      let is = step.5 in
      let after = one_entry_keeps J N M t s u of.lawful ruled k i x step in
      let inside_i : i < count_of t = ((ruled.fits k v step.1.0).holds (i, more.lifted) more.held).0 in
      let mine : holding i v ≡ 1 = ap (is_held i) more.held ∙ this_held i more.lifted in
      let there = sym (pending_is m worker x) ∙ pending in
      let within = pending_within m worker x pending in
      let counter : slice_index u.words 0 ≡ slice_index s.words 0 = ap (λ (y : State (Option V) View). slice_index y.words 0) is ∙ get_or-set_other s.words (i + 1) 0 0 0 (omega arith) in
      let receipts : (y : ℕ) → sum_by (with_item y) u.views ≡ sum_by (with_item y) s.views + same x y =
      λ y. ap (λ (z : State (Option V) View). sum_by (with_item y) z.views) is
      ∙ (let h = sum-set (with_item y) s.views k v w step.1.0 in let a = sum_by_push (λ (r : ReceiptParts). cond (r.item == y) 1 0) v.receipts receipt in omega arith) in
      let new : List (List ℕ) = with_entry m.shards i x in
      let here : i < length m.shards = (let h = shown.count in omega arith) in
      let grown : slice_index_or new i [] ≡ slice_index_or m.shards i [] ++ x ∷ [] = get_or-set_same m.shards i (slice_index_or m.shards i [] ++ x ∷ []) [] here in
      let else_kept : (j : ℕ) → j ≢ i → slice_index_or new j [] ≡ slice_index_or m.shards j [] = λ j ne. get_or-set_other m.shards i j (slice_index_or m.shards i [] ++ x ∷ []) [] ne in
      let lifted : more.lifted ≡ opening_of t i ++ slice_index_or m.shards i [] = shown.shards i more.lifted inside_i (inr (k, v, step.1.0, more.held)) in
      let journal_new : J value ≡ opening_of t i ++ slice_index_or new i [] =
      more.at.journal_is
      ∙ (ap (λ y. more.lifted ++ y ∷ []) step.4
      ∙ (ap (λ xs. xs ++ x ∷ []) lifted ∙ (append_assoc (opening_of t i) (slice_index_or m.shards i []) (x ∷ []) ∙ ap (λ xs. opening_of t i ++ xs) (sym grown)))) in
      let old : (j : ℕ) (journal : List ℕ) → j < count_of t → j ≢ i → IsJournal J s j journal → journal ≡ opening_of t j ++ slice_index_or new j [] =
      λ j journal inside ne was. shown.shards j journal inside was ∙ ap (λ xs. opening_of t j ++ xs) (sym (else_kept j ne)) in
      let journals : (j : ℕ) (journal : List ℕ) → j < count_of t → IsJournal J u j journal → journal ≡ opening_of t j ++ slice_index_or new j [] =
      λ j journal inside now. ⊎_elim
      (λ h. ⊎_elim
      (λ e. (let same_value : value ≡ h.0 = some_same value h.0 (some-injective (Some value) (Some h.0) e.1) in
      subst (λ n. journal ≡ opening_of t n ++ slice_index_or new n []) (sym e.0) (sym h.2 ∙ (ap J (sym same_value) ∙ journal_new))))
      (λ e. old j journal inside e.0 (inl (h.0, e.1, h.2)))
      (at_set s.homes i j (some (Some value)) (some (Some h.0)) (subst (λ (y : State (Option V) View). get_elem? y.homes j ≡ some (some (Some h.0))) is h.1)))
      (λ h. held_after (journal ≡ opening_of t j ++ slice_index_or new j []) s.views k j w journal
      (λ e. absurd (none-some (j, journal) e))
      (λ n y ne at e. old j journal inside
      (λ same_value. (let none = held_once J N M t s ruled k i v step.1.0 inside_i mine n y ne at in
      let one = ap (is_held i) e ∙ (ap (λ q. is_held i (Some (q, journal))) same_value ∙ this_held i journal) in
      absurd (omega arith)))
      (inr (n, y, at, e)))
      (subst (λ (y : State (Option V) View). IsHeld y.views j journal) is h))
      now in (
        after,
        subst (Shows J t u) (sym (put_more m worker x pending)) (record {
          ranks = shown.ranks;
          next = shown.next ∙ ap (λ n. min n t.limit) (sym counter);
          pending = λ d y name.
              (let a = all_without y x worker m.pending within there in
              let b = shown.pending d y name in
              let e = waited J N M t s ruled of.some d y name in
              let f = waited J N M t u after of.some d y name in
              let g : below d (slice_index u.words 0) ≡ below d (slice_index s.words 0) = ap (below d) counter in
              let h = receipts y in
              omega arith);
          no_other = λ r none. (let a = all_without r x worker m.pending within there in let b = shown.no_other r none in omega arith);
          count = length-set m.shards (home_of m x) (slice_index_or m.shards (home_of m x) [] ++ x ∷ []) ∙ shown.count;
          shards = λ j journal inside now. journals j journal inside now ∙ ap (λ n. opening_of t j ++ slice_index_or (with_entry m.shards n x) j []) home;
        }),
      )

module _ {V : Type 0} (J N M : V → List ℕ) where
  pub draw_is_claim : (k worker : ℕ) → IsChange J N M (Draw k) (λ m. worker < length m.pending) (λ m. claimed m worker)
  draw_is_claim k worker t s u m of ruled shown within step = draw_shows J N M t s u of ruled m k worker shown within step

  pub entry_is_put : (k i r worker : ℕ) → IsChange J N M (SettleOne k i r) (λ m. (i ≡ home_of m r) × (is_pending m worker r ≡ true)) (λ m. put m worker r)
  entry_is_put k i r worker t s u m of ruled shown p step = entry_shows J N M t s u of ruled m k i r worker shown p.0 p.1 step

  pub entry_is_pending : (k i r : ℕ) → IsPending J N M k i r
  entry_is_pending k i r t s u m of ruled shown step = entry_pending J N M t s u of ruled m k i r shown step
