-- A table shows one round, the opened table shows the opened one, and each schedule is an interleaving.
use Rattle.std.proofs.Common.{◌≡◌, ◌≢◌, ◌⊎◌, ℕ, zero, suc, ◌+◌, ◌<◌, ◌==◌, cond, Bool, true, false, List, [], ◌∷◌, ◌++◌, map, length, get_or, replicate, slice_get, slice_index, slice_index_or, Option, Some, None, sym, refl, ap, subst, ◌∙◌, inl, inr, ⊎_elim, append-nil, arith}
use Rattle.std.specs.List.{sum_by}
use Rattle.std.specs.List.Sorted.{IsStrictlyIncreasing}
use Rattle.std.proofs.lemmas.Bool.{cases_lt, cases_eq, cases_Bool, eqb-true}
use Rattle.std.proofs.lemmas.List.{append_cancel_left, length-map, length-replicate, get_or-map, get_or-replicate, get_or_past}
use Rattle.std.proofs.lemmas.List.Folds.{sum_by-replicate}
use Rattle.std.proofs.lemmas.List.Sums.{sum_by-cons}
use Rattle.std.proofs.Math.ListN.{length-set}
use Rattle.std.proofs.lemmas.Option.{slice_get_within, get_or_from_slice_get}
use mathlib.Core.Option.{some, some-injective, some-ne-none}
use lib.ListN.{get_elem?}
use Rattle.atomic_table.specs.Table.{State}
use Rattle.qz_core.specs.RoundMachine.{times, RoundState, RoundEvent, opened, home_among, home_of, claimed, put, is_pending, after_events, AreOfWorkers, IsRoundOf}
use Rattle.qz_core.specs.RoundMachine.RoundEvent.{Claim, Put}
use Rattle.qz_core.proofs.Interleavings.{input_stays}
use Rattle.qz_core.proofs.Vectors.{home_at}
use Rattle.qz_core.proofs.Rounds.{claimed_more, claimed_none, put_more, put_none}
use Rattle.qz_seats.specs.declared.view.Terms.{Terms}
use Rattle.qz_seats.specs.declared.view.View.{View}
use Rattle.qz_seats.specs.Views.{is_held, holding, first_view}
use Rattle.qz_seats.specs.SeatRule.{count_of, opening_of, names_of, terms_of, IsRuled}
use Rattle.qz_seats.proofs.Moves.{zeros_at}
use Rattle.qz_seats.proofs.Passes.{some_same}
use Rattle.qz_seats.proofs.Settles.{none-some}
use Rattle.qz_seats.proofs.Opens.{lawful_terms, begins}
use Rattle.qz_store.specs.Showing.{IsOfStore, IsJournal, Shows, IsSameRound}
use Rattle.qz_store.specs.Steps.{SeatStep, IsStep}
use Rattle.qz_store.specs.Steps.SeatStep.{Draw, Won, Lost, SettleOne, SettleSame, Split, Join}
use Rattle.qz_store.specs.Schedules.{IsPutHome, ArePutHome, event_of, events_of, IsSchedule, AreForStore, opened_table, IsInterleaving}
use Rattle.qz_store.proofs.Showing.{win_is_none, loss_is_none, none_entry_is_none, split_is_none, join_is_none}
use Rattle.qz_store.proofs.Draws.{draw_is_claim, entry_is_pending, entry_is_put}

-- lists of the same length with the same lists at all places are the same
same_lists : (a b : List (List ℕ)) → length a ≡ length b → ((i : ℕ) → i < length a → get_or a i [] ≡ get_or b i []) → a ≡ b
same_lists [] [] long each = refl
same_lists [] (y ∷ ys) long each = absurd (omega arith)
same_lists (x ∷ xs) [] long each = absurd (omega arith)
same_lists (x ∷ xs) (y ∷ ys) long each = λ k. each 0 (omega arith) k ∷ same_lists xs ys (omega arith) (λ i inside. each (suc i) (omega arith)) k

-- what all have, one has
one_has : {A : Type 0} (f : A → ℕ) (l : List A) → 0 < sum_by f l → (k : ℕ) × (u : A) × (get_elem? l k ≡ some u) × (0 < f u)
one_has f [] more = absurd (omega arith)
one_has f (x ∷ xs) more = ⊎_elim
    (λ here. (0, x, refl, here))
    (λ none. (let rest = one_has f xs (omega (arith, sum_by-cons f x xs)) in (suc rest.0, rest.1, rest.2, rest.3)))
    (cases_lt 0 (f x))

held_is : (i : ℕ) (o : Option (ℕ × List ℕ)) → 0 < is_held i o → (journal : List ℕ) × (o ≡ Some (i, journal))
held_is i None more = absurd (omega arith)
held_is i (Some h) more = by (h.0 == i) refl
  where
    by : (b : Bool) → (h.0 == i) ≡ b → (journal : List ℕ) × (Some h ≡ Some (i, journal))
    by true e = (h.1, λ k. Some (eqb-true h.0 i e k, h.1))
    by false e = absurd (let none : is_held i (Some h) ≡ 0 = ap (λ b. cond {A = ℕ} b 1 0) e in omega arith)

-- a rank has a number or has none
has_number : (names : List ℕ) (r : ℕ) → ((d : ℕ) × (slice_get names d ≡ Some r)) ⊎ ((d : ℕ) → slice_get names d ≢ Some r)
has_number [] r = inr (λ d e. cc)
has_number (x ∷ xs) r = ⊎_elim
    (λ e. inl (0, ap Some e))
    (λ ne. ⊎_elim (λ h. inl (suc h.0, h.1)) (λ none. inr (other ne none)) (has_number xs r))
    (cases_eq x r)
  where
    other : (x ≡ r → ⊥) → ((d : ℕ) → slice_get xs d ≢ Some r) → (d : ℕ) → slice_get (x ∷ xs) d ≢ Some r
    other ne none zero e = ne (some_same x r e)
    other ne none (suc d) e = none d e

module _ {V : Type 0} (J N M : V → List ℕ) (t : Terms) (s : State (Option V) View) where
  -- each value has a journal
  journal_now : IsRuled J N M t s → (i : ℕ) → i < count_of t → (journal : List ℕ) × IsJournal J s i journal
  journal_now ruled i inside =
      let value = ruled.values i inside in
      ⊎_elim
      (λ home. (let h = value.home home in (J h.0, inl (h.0, h.1, refl))))
      (λ out. (let h = one_has (holding i) s.views (let a = value.lock in let b = value.bit in omega arith) in
      let e = held_is i h.1.held h.3 in
      (e.0, inr (h.0, h.1, h.2, e.1))))
      (cases_eq (slice_index s.words (i + 1)) 0)

  pub one_round : (m n : RoundState) → IsRuled J N M t s → Shows J t s m → Shows J t s n → IsSameRound m n
  one_round m n ruled one two = record {
    ranks = one.ranks ∙ sym two.ranks;
    next = one.next ∙ sym two.next;
    pending = λ r. ⊎_elim
        (λ h. one.pending h.0 r h.1 ∙ sym (two.pending h.0 r h.1))
        (λ none. one.no_other r none ∙ sym (two.no_other r none))
        (has_number t.names r);
    shards = same_lists m.shards n.shards (one.count ∙ sym two.count) (λ i inside.
        (let within : i < count_of t = (let h = one.count in omega arith) in
        let h = journal_now ruled i within in
        append_cancel_left (opening_of t i) (slice_index_or m.shards i []) (slice_index_or n.shards i []) (sym (one.shards i h.0 within h.1) ∙ two.shards i h.0 within h.1)));
  }

-- the journal of a value at the opening
journal_at : {V : Type 0} (J : V → List ℕ) (values : List V) (i : ℕ) (value : V) → get_elem? (map some (map Some values)) i ≡ some (some (Some value)) → slice_index_or (map J values) i [] ≡ J value
journal_at J [] i value at = absurd (some-ne-none _ (sym at))
journal_at J (z ∷ zs) zero value at = ap J (some_same z value (some-injective (Some z) (Some value) (some-injective (some (Some z)) (some (Some value)) at)))
journal_at J (z ∷ zs) (suc i) value at = journal_at J zs i value at

holds_none : (v w : View) (k : ℕ) (h : ℕ × List ℕ) → v.held ≡ None → get_elem? (v ∷ []) k ≡ some w → w.held ≡ Some h → ⊥
holds_none v w zero h free at e = none-some h (sym free ∙ (ap (λ (x : View). x.held) (some-injective v w at) ∙ e))
holds_none v w (suc k) h free at e = some-ne-none w (sym at)

blank : (n i : ℕ) → get_or (replicate {A = List ℕ} n []) i [] ≡ []
blank n i = ⊎_elim (λ within. get_or-replicate n i [] [] within) (λ past. get_or_past (replicate n []) i [] (omega (arith, length-replicate {A = List ℕ} n []))) (cases_lt i n)

module _ {V : Type 0} (J N M : V → List ℕ) (limit seats : ℕ) (values : List V) (for : AreForStore J N M limit seats values) where
  pub opened_lawful : IsOfStore (terms_of J N M limit seats values)
  opened_lawful = record {
    lawful = lawful_terms J N M limit seats values for.names for.given for.some_seat for.few_seats (let h = for.sixteen in omega arith);
    some = for.some;
    sixteen = length-map values J ∙ for.sixteen;
  }

  pub opened_ruled : IsRuled J N M (terms_of J N M limit seats values) (opened_table J N M limit seats values)
  opened_ruled = begins J N M limit seats values (replicate (length values + 1) 0) for.some_seat for.names.same (length-replicate {A = ℕ} (length values + 1) 0) (zeros_at (length values + 1))

  pub opened_shows : (n : ℕ) (homes : List ℕ) → Shows J (terms_of J N M limit seats values) (opened_table J N M limit seats values) (opened n (names_of N values) homes)
  opened_shows n homes = record {
    ranks = refl;
    next = (let z = zeros_at (length values + 1) 0 in omega arith);
    pending = λ d r name. omega (arith, sum_by-replicate (times r) n []);
    no_other = λ r none. omega (arith, sum_by-replicate (times r) n []);
    count = length-replicate {A = List ℕ} 16 [] ∙ sym (length-map values J ∙ for.sixteen);
    shards = λ i journal inside now. ⊎_elim
        (λ h. sym h.2 ∙ (sym (journal_at J values i h.0 h.1) ∙ (sym (append-nil (slice_index_or (map J values) i [])) ∙ ap (λ xs. slice_index_or (map J values) i [] ++ xs) (sym (blank 16 i)))))
        (λ h. absurd (holds_none (first_view (terms_of J N M limit seats values)) h.1 h.0 (i, journal) refl h.2 h.3))
        now;
  }

-- where the homes of ranks are given by a function, that of a rank is what the function says
pub home_given : (list : List ℕ) (home : ℕ → ℕ) (d r : ℕ) → IsStrictlyIncreasing list → ((x : ℕ) → home x < 16) → slice_get list d ≡ Some r → home_among list (map home list) r ≡ home r
home_given list home d r rising below at =
    let within = slice_get_within list d r at in
    let is : get_or list d 0 ≡ r = get_or_from_slice_get list d r 0 at in
    let input : IsRoundOf list (map home list) = record {
      rising = rising;
      each = length-map list home;
      below = λ k e inside. subst (λ x. x < 16) (sym (get_or-map home list k 0 e (omega (arith, length-map list home)))) (below (get_or list k 0));
    } in
    sym (home_at list (map home list) r d input within is) ∙ (get_or-map home list d 0 0 within ∙ ap home is)

-- no event changes the number of workers
workers_stay : (event : RoundEvent) (m : RoundState) → length (after_events (event ∷ []) m).pending ≡ length m.pending
workers_stay (Claim w) m = ⊎_elim
    (λ more. ap (λ (n : RoundState). length n.pending) (claimed_more m w more) ∙ length-set m.pending w _)
    (λ none. ap (λ (n : RoundState). length n.pending) (claimed_none m w none))
    (cases_lt m.next (length m.list))
workers_stay (Put w r) m = ⊎_elim
    (λ there. ap (λ (n : RoundState). length n.pending) (put_more m w r there) ∙ length-set m.pending w _)
    (λ missing. ap (λ (n : RoundState). length n.pending) (put_none m w r missing))
    (cases_Bool (is_pending m w r))

after_both : (xs ys : List RoundEvent) (m : RoundState) → after_events (xs ++ ys) m ≡ after_events ys (after_events xs m)
after_both [] ys m = refl
after_both (Claim w ∷ xs) ys m = after_both xs ys (claimed m w)
after_both (Put w r ∷ xs) ys m = after_both xs ys (put m w r)

pub of_one_worker : (steps : List SeatStep) → AreOfWorkers 1 (events_of steps)
of_one_worker [] = tt
of_one_worker (Draw k ∷ steps) = (omega arith, of_one_worker steps)
of_one_worker (Won k i ∷ steps) = of_one_worker steps
of_one_worker (Lost k i ∷ steps) = of_one_worker steps
of_one_worker (SettleOne k i r ∷ steps) = (omega arith, of_one_worker steps)
of_one_worker (SettleSame k i ∷ steps) = of_one_worker steps
of_one_worker (Split k ∷ steps) = of_one_worker steps
of_one_worker (Join k other ∷ steps) = of_one_worker steps

module _ {V : Type 0} (J N M : V → List ℕ) (t : Terms) (of : IsOfStore t) (list homes : List ℕ) where
  -- a table keeps the rule and shows a round of one worker over this list
  pub record IsReached (s : State (Option V) View) (m : RoundState) : Type 0 where
    pub ruled : IsRuled J N M t s
    pub shown : Shows J t s m
    pub one : length m.pending ≡ 1
    pub list_is : m.list ≡ list
    pub homes_are : m.homes ≡ homes

  -- a step that is no event
  rests : (u : State (Option V) View) (s : State (Option V) View) (m : RoundState) → IsReached s m → IsRuled J N M t u × Shows J t u m → IsReached u m
  rests u s m h new = record { ruled = new.0; shown = new.1; one = h.one; list_is = h.list_is; homes_are = h.homes_are }

  -- a step that is one
  happened : (event : RoundEvent) (u : State (Option V) View) (s : State (Option V) View) (m : RoundState) → IsReached s m → IsRuled J N M t u × Shows J t u (after_events (event ∷ []) m) → IsReached u (after_events (event ∷ []) m)
  happened event u s m h new = record {
    ruled = new.0;
    shown = new.1;
    one = workers_stay event m ∙ h.one;
    list_is = (input_stays (event ∷ []) m).0 ∙ h.list_is;
    homes_are = (input_stays (event ∷ []) m).1 ∙ h.homes_are;
  }

  reached_next : (step : SeatStep) (s u : State (Option V) View) (m : RoundState) → IsReached s m → IsPutHome list homes step → IsStep J N M t s step u → IsReached u (after_events (event_of step) m)
  reached_next (Draw k) s u m h home step = happened (Claim 0) u s m h (draw_is_claim J N M k 0 t s u m of h.ruled h.shown (let e = h.one in omega arith) step)
  reached_next (Won k i) s u m h home step = rests u s m h (win_is_none J N M k i t s u m of h.ruled h.shown tt step)
  reached_next (Lost k i) s u m h home step = rests u s m h (loss_is_none J N M k i t s u m of h.ruled h.shown tt step)
  reached_next (SettleOne k i r) s u m h home step =
      let p = entry_is_pending J N M k i r t s u m of h.ruled h.shown step in
      let first : p.0 ≡ 0 = (let a = p.1 in let e = h.one in omega arith) in
      let at_home : i ≡ home_of m r = home ∙ sym (ap (λ l. home_among l m.homes r) h.list_is ∙ ap (λ l. home_among list l r) h.homes_are) in
      happened (Put 0 r) u s m h (entry_is_put J N M k i r 0 t s u m of h.ruled h.shown (at_home, subst (λ w. is_pending m w r ≡ true) first p.2) step)
  reached_next (SettleSame k i) s u m h home step = rests u s m h (none_entry_is_none J N M k i t s u m of h.ruled h.shown tt step)
  reached_next (Split k) s u m h home step = rests u s m h (split_is_none J N M k t s u m of h.ruled h.shown tt step)
  reached_next (Join k other) s u m h home step = rests u s m h (join_is_none J N M k other t s u m of h.ruled h.shown tt step)

  pub reached_all : (steps : List SeatStep) (s u : State (Option V) View) (m : RoundState) → IsReached s m → ArePutHome list homes steps → IsSchedule J N M t s steps u → IsReached u (after_events (events_of steps) m)
  reached_all [] s u m h home is = subst (λ x. IsReached x m) (sym is) h
  reached_all (step ∷ steps) s u m h home is =
      subst (IsReached u) (sym (after_both (event_of step) (events_of steps) m))
      (reached_all steps is.0 u (after_events (event_of step) m) (reached_next step s is.0 m h home.0 is.1) home.1 is.2)

module _ {V : Type 0} (J N M : V → List ℕ) where
  pub schedules_interleave : (limit seats : ℕ) (values : List V) (homes : List ℕ) (steps : List SeatStep) (u : State (Option V) View) → IsInterleaving J N M limit seats values homes steps u
  schedules_interleave limit seats values homes steps u for home is =
      let t = terms_of J N M limit seats values in
      let m = opened 1 (names_of N values) homes in
      let start : IsReached J N M t (opened_lawful J N M limit seats values for) (names_of N values) homes (opened_table J N M limit seats values) m = record {
        ruled = opened_ruled J N M limit seats values for;
        shown = opened_shows J N M limit seats values for 1 homes;
        one = length-replicate {A = List ℕ} 1 [];
        list_is = refl;
        homes_are = refl;
      } in
      let end = reached_all J N M t (opened_lawful J N M limit seats values for) (names_of N values) homes steps (opened_table J N M limit seats values) u m start home is in
      (end.ruled, end.shown)
