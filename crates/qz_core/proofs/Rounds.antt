-- What claims and puts do to a round, and that it stays one.
use Rattle.std.proofs.Common.{◌≡◌, ◌≢◌, ◌<◌, ◌≤◌, ℕ, ◌+◌, ◌⊎◌, inl, inr, true, false, cond, List, [], ◌∷◌, ◌++◌, length, replicate, get_or, set, ◌==◌, refl, sym, ap, subst, ◌∙◌, arith}
use Rattle.std.specs.List.{list_any, position_or_len}
use Rattle.std.proofs.lemmas.Bool.{cases_eq, cases_lt, cases_Bool, lt-ltb, le-ltb, ne_eqb}
use Rattle.std.proofs.lemmas.Grind.{get_or-set_at}
use Rattle.std.proofs.lemmas.List.{length-set, length-replicate, get_or-set_other, get_or-replicate, get_or_past}
use Rattle.std.proofs.lemmas.List.Folds.{sum_by-replicate}
use Rattle.qz_core.specs.RoundMachine.{times, with_entry, without_entry, RoundState, opened, home_among, home_of, is_pending, claimed, put, RoundEvent, after_events, AreOfWorkers, IsRoundOf, IsRound}
use Rattle.qz_core.specs.RoundMachine.RoundEvent.{Claim, Put}
use Rattle.qz_core.proofs.Counts.{same, times_push, all_with, all_without, lengths_with, lengths_without}
use Rattle.qz_core.proofs.Rising.{times_next}

-- a round with one rank more that is claimed, and is pending for the worker
abbrev pub with_claimed : RoundState → ℕ → RoundState
with_claimed m w = record m { next = m.next + 1; pending = with_entry m.pending w (get_or m.list m.next 0) }

-- a round with a rank put by the worker
abbrev pub with_put : RoundState → ℕ → ℕ → RoundState
with_put m w r = record m { pending = without_entry m.pending w r; shards = with_entry m.shards (home_of m r) r }

pub claimed_more : (m : RoundState) (w : ℕ) → m.next < length m.list → claimed m w ≡ with_claimed m w
unfolding claimed
claimed_more m w h = ap (λ b. cond b (with_claimed m w) m) (lt-ltb m.next (length m.list) h)

pub claimed_none : (m : RoundState) (w : ℕ) → length m.list ≤ m.next → claimed m w ≡ m
unfolding claimed
claimed_none m w h = ap (λ b. cond b (with_claimed m w) m) (le-ltb m.next (length m.list) h)

pub put_more : (m : RoundState) (w r : ℕ) → is_pending m w r ≡ true → put m w r ≡ with_put m w r
unfolding put
put_more m w r h = ap (λ b. cond b (with_put m w r) m) h

pub put_none : (m : RoundState) (w r : ℕ) → is_pending m w r ≡ false → put m w r ≡ m
unfolding put
put_none m w r h = ap (λ b. cond b (with_put m w r) m) h

pub pending_is : (m : RoundState) (w r : ℕ) → is_pending m w r ≡ list_any (λ x. x == r) (get_or m.pending w [])
unfolding is_pending
pending_is m w r = refl

-- each home is below 16, and 0 stands in for that of any other rank
pub home_below : (list homes : List ℕ) (r : ℕ) → IsRoundOf list homes → home_among list homes r < 16
unfolding home_among
home_below list homes r input = by (cases_lt (position_or_len (λ x. x == r) list) (length homes))
  where
    by : (position_or_len (λ x. x == r) list < length homes) ⊎ (length homes ≤ position_or_len (λ x. x == r) list) → get_or homes (position_or_len (λ x. x == r) list) 0 < 16
    by (inl within) = input.below (position_or_len (λ x. x == r) list) 0 within
    by (inr past) = rw (get_or_past homes (position_or_len (λ x. x == r) list) 0 past) (omega arith)

-- an entry of a list other than its home's
home_after : (m : RoundState) (t s r : ℕ) → home_of m t < length m.shards → ((i q : ℕ) → i ≢ home_of m q → times q (get_or m.shards i []) ≡ 0) → s ≢ home_of m r → times r (get_or (with_entry m.shards (home_of m t) t) s []) ≡ 0
home_after m t s r within home other = by (cases_eq s (home_of m t))
  where
    by : (s ≡ home_of m t) ⊎ (s ≡ home_of m t → ⊥) → times r (get_or (with_entry m.shards (home_of m t) t) s []) ≡ 0
    by (inl e) =
        let new = get_or m.shards (home_of m t) [] ++ t ∷ [] in
        let here : get_or (set m.shards (home_of m t) new) s [] ≡ new = get_or-set_at m.shards (home_of m t) s new [] e within in
        let none : same t r ≡ 0 = ap (λ b. cond b 1 0) (ne_eqb t r (λ q. other (e ∙ ap (home_of m) q))) in
        let before = home (home_of m t) r (λ q. other (e ∙ q)) in
        ap (times r) here ∙ times_push r t (get_or m.shards (home_of m t) []) ∙ omega (arith, none, before)
    by (inr elsewhere) =
        ap (times r) (get_or-set_other m.shards (home_of m t) s (get_or m.shards (home_of m t) [] ++ t ∷ []) [] elsewhere) ∙ home s r other

with_claimed_keeps : (n : ℕ) (m : RoundState) (w : ℕ) → w < n → m.next < length m.list → IsRound n m → IsRound n (with_claimed m w)
with_claimed_keeps n m w below more h =
    let within : w < length m.pending = omega (arith, h.workers) in
    record {
      input = h.input;
      workers = length-set m.pending w _ ∙ h.workers;
      sixteen = h.sixteen;
      bound = omega arith;
      places = λ r. omega (arith, all_with r (get_or m.list m.next 0) w m.pending within, h.places r, times_next r m.next m.list more);
      number = omega (arith, lengths_with (get_or m.list m.next 0) w m.pending within, h.number);
      home = h.home;
    }

with_put_keeps : (n : ℕ) (m : RoundState) (w t : ℕ) → w < n → is_pending m w t ≡ true → IsRound n m → IsRound n (with_put m w t)
with_put_keeps n m w t below pending h =
    let within : w < length m.pending = omega (arith, h.workers) in
    let there = sym (pending_is m w t) ∙ pending in
    let shard : home_of m t < length m.shards = omega (arith, home_below m.list m.homes t h.input, h.sixteen) in
    record {
      input = h.input;
      workers = length-set m.pending w _ ∙ h.workers;
      sixteen = length-set m.shards (home_of m t) _ ∙ h.sixteen;
      bound = h.bound;
      places = λ r. omega (arith, all_without r t w m.pending within there, all_with r t (home_of m t) m.shards shard, h.places r);
      number = omega (arith, lengths_without t w m.pending within there, lengths_with t (home_of m t) m.shards shard, h.number);
      home = λ s r other. home_after m t s r shard h.home other;
    }

pub claimed_keeps : (n : ℕ) (m : RoundState) (w : ℕ) → w < n → IsRound n m → IsRound n (claimed m w)
claimed_keeps n m w below h = by (cases_lt m.next (length m.list))
  where
    by : (m.next < length m.list) ⊎ (length m.list ≤ m.next) → IsRound n (claimed m w)
    by (inl more) = subst (IsRound n) (sym (claimed_more m w more)) (with_claimed_keeps n m w below more h)
    by (inr none) = subst (IsRound n) (sym (claimed_none m w none)) h

pub put_keeps : (n : ℕ) (m : RoundState) (w r : ℕ) → w < n → IsRound n m → IsRound n (put m w r)
put_keeps n m w r below h = by (cases_Bool (is_pending m w r))
  where
    by : (is_pending m w r ≡ true) ⊎ (is_pending m w r ≡ false) → IsRound n (put m w r)
    by (inl there) = subst (IsRound n) (sym (put_more m w r there)) (with_put_keeps n m w r below there h)
    by (inr missing) = subst (IsRound n) (sym (put_none m w r missing)) h

blank : (n i : ℕ) → get_or (replicate {A = List ℕ} n []) i [] ≡ []
blank n i = by (cases_lt i n)
  where
    by : (i < n) ⊎ (n ≤ i) → get_or (replicate {A = List ℕ} n []) i [] ≡ []
    by (inl within) = get_or-replicate n i [] [] within
    by (inr past) = get_or_past (replicate n []) i [] (omega (arith, length-replicate {A = List ℕ} n []))

pub opened_is_round : (n : ℕ) (list homes : List ℕ) → IsRoundOf list homes → IsRound n (opened n list homes)
opened_is_round n list homes input =
    record {
      input = input;
      workers = length-replicate {A = List ℕ} n [];
      sixteen = length-replicate {A = List ℕ} 16 [];
      bound = omega arith;
      places = λ r. omega (arith, sum_by-replicate (times r) n [], sum_by-replicate (times r) 16 []);
      number = omega (arith, sum_by-replicate {X = List ℕ} length n [], sum_by-replicate {X = List ℕ} length 16 []);
      home = λ s r other. ap (times r) (blank 16 s);
    }

-- after any events of the workers a round is still one
pub after_is_round : (n : ℕ) (events : List RoundEvent) (m : RoundState) → AreOfWorkers n events → IsRound n m → IsRound n (after_events events m)
after_is_round n [] m of h = h
after_is_round n (Claim w ∷ events) m of h = after_is_round n events (claimed m w) of.1 (claimed_keeps n m w of.0 h)
after_is_round n (Put w r ∷ events) m of h = after_is_round n events (put m w r) of.1 (put_keeps n m w r of.0 h)
