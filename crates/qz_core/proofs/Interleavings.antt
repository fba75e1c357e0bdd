-- Where ranks are after any interleaving.
use Rattle.std.proofs.Common.{◌≡◌, ◌<◌, ◌≤◌, ℕ, zero, suc, ◌+◌, ◌⊎◌, inl, inr, true, false, Option, None, List, [], ◌∷◌, ◌++◌, length, take, get_or, append_assoc, append-nil, refl, sym, ap, subst, ◌∙◌, arith}
use Rattle.std.specs.Prelude.{slice_get}
use Rattle.std.specs.List.Sorted.{IsStrictlyIncreasing}
use Rattle.std.specs.Option.{option_to_list}
use Rattle.std.proofs.lemmas.Bool.{cases_eq, cases_lt, cases_Bool}
use Rattle.std.proofs.lemmas.List.{take_more, get_or_past, get_or-take, length-take}
use Rattle.std.proofs.lemmas.List.Kept.{AllPairs-from_increasing}
use Rattle.std.proofs.lemmas.List.Sums.{get_or-le-sum_by}
use Rattle.std.proofs.lemmas.Option.{slice_get-get_or, slice_get_past}
use Rattle.qz_core.specs.RoundMachine.{times, times_in_all, RoundState, opened, home_of, is_pending, claimed, put, RoundEvent, after_events, claims_give, IsClaimed, IsPendingOnce, IsPutOnce, IsNowhere, IsFinished, IsRound, HoldsAlways}
use Rattle.qz_core.specs.RoundMachine.RoundEvent.{Claim, Put}
use Rattle.qz_core.proofs.Counts.{one_holds, times_at}
use Rattle.qz_core.proofs.Rising.{absent, found, once}
use Rattle.qz_core.proofs.Rounds.{claimed_more, claimed_none, put_more, put_none, with_claimed, opened_is_round, after_is_round}

-- what holds of each round holds always
pub always : (P : RoundState → Type 0) → ((n : ℕ) (m : RoundState) → IsRound n m → P m) → HoldsAlways P
always P each n list homes events input of = each n (after_events events (opened n list homes)) (after_is_round n events (opened n list homes) of (opened_is_round n list homes input))

claimed_input : (m : RoundState) (w : ℕ) → ((claimed m w).list ≡ m.list) × ((claimed m w).homes ≡ m.homes)
claimed_input m w = by (cases_lt m.next (length m.list))
  where
    by : (m.next < length m.list) ⊎ (length m.list ≤ m.next) → ((claimed m w).list ≡ m.list) × ((claimed m w).homes ≡ m.homes)
    by (inl more) = (ap (λ q. q.list) (claimed_more m w more), ap (λ q. q.homes) (claimed_more m w more))
    by (inr none) = (ap (λ q. q.list) (claimed_none m w none), ap (λ q. q.homes) (claimed_none m w none))

put_input : (m : RoundState) (w r : ℕ) → ((put m w r).list ≡ m.list) × ((put m w r).homes ≡ m.homes)
put_input m w r = by (cases_Bool (is_pending m w r))
  where
    by : (is_pending m w r ≡ true) ⊎ (is_pending m w r ≡ false) → ((put m w r).list ≡ m.list) × ((put m w r).homes ≡ m.homes)
    by (inl there) = let e = put_more m w r there in (ap (λ q. q.list) e, ap (λ q. q.homes) e)
    by (inr missing) = let e = put_none m w r missing in (ap (λ q. q.list) e, ap (λ q. q.homes) e)

-- no event changes the ranks or their homes
pub input_stays : (events : List RoundEvent) (m : RoundState) → ((after_events events m).list ≡ m.list) × ((after_events events m).homes ≡ m.homes)
input_stays [] m = (refl, refl)
input_stays (Claim w ∷ events) m =
    let rest = input_stays events (claimed m w) in
    let here = claimed_input m w in
    (rest.0 ∙ here.0, rest.1 ∙ here.1)
input_stays (Put w r ∷ events) m =
    let rest = input_stays events (put m w r) in
    let here = put_input m w r in
    (rest.0 ∙ here.0, rest.1 ∙ here.1)

-- the claims so far and those of the events are the first ranks
abbrev Goes : List RoundEvent → RoundState → Type 0
Goes events m = take m.next m.list ++ claims_give events m ≡ take (after_events events m).next m.list

-- the same with a claim of this rank before them, if there is one
abbrev GoesAfter : List RoundEvent → RoundState → Option ℕ → RoundState → Type 0
GoesAfter events m claim q = take m.next m.list ++ (option_to_list claim ++ claims_give events q) ≡ take (after_events events q).next m.list

claim_goes : (w : ℕ) (events : List RoundEvent) (m : RoundState) → Goes events (claimed m w) → Goes (Claim w ∷ events) m
claim_goes w events m rest = by (cases_lt m.next (length m.list))
  where
    by : (m.next < length m.list) ⊎ (length m.list ≤ m.next) → Goes (Claim w ∷ events) m
    by (inl more) =
        let e = claimed_more m w more in
        let after : Goes events (with_claimed m w) = subst (Goes events) e rest in
        let one : option_to_list (slice_get m.list m.next) ≡ get_or m.list m.next 0 ∷ [] = ap option_to_list (slice_get-get_or m.list m.next 0 more) in
        let cs = claims_give events (with_claimed m w) in
        let turn : GoesAfter events m (slice_get m.list m.next) (with_claimed m w) =
        ap (λ o. take m.next m.list ++ (o ++ cs)) one
        ∙ sym (append_assoc (take m.next m.list) (get_or m.list m.next 0 ∷ []) cs)
        ∙ ap (λ xs. xs ++ cs) (sym (take_more m.list m.next 0 more)) ∙ after in
        subst (GoesAfter events m (slice_get m.list m.next)) (sym e) turn
    by (inr none) =
        let e = claimed_none m w none in
        let after : Goes events m = subst (Goes events) e rest in
        let past : option_to_list (slice_get m.list m.next) ≡ [] = ap option_to_list (slice_get_past m.list m.next none) in
        let turn : GoesAfter events m (slice_get m.list m.next) m = ap (λ o. take m.next m.list ++ (o ++ claims_give events m)) past ∙ after in
        subst (GoesAfter events m (slice_get m.list m.next)) (sym e) turn

put_goes : (w r : ℕ) (events : List RoundEvent) (m : RoundState) → Goes events (put m w r) → Goes (Put w r ∷ events) m
put_goes w r events m rest = by (cases_Bool (is_pending m w r))
  where
    by : (is_pending m w r ≡ true) ⊎ (is_pending m w r ≡ false) → Goes (Put w r ∷ events) m
    by (inl there) = subst (GoesAfter events m None) (sym (put_more m w r there)) (subst (Goes events) (put_more m w r there) rest)
    by (inr missing) = subst (GoesAfter events m None) (sym (put_none m w r missing)) (subst (Goes events) (put_none m w r missing) rest)

claims_from : (events : List RoundEvent) (m : RoundState) → Goes events m
claims_from [] m = append-nil (take m.next m.list)
claims_from (Claim w ∷ events) m = claim_goes w events m (claims_from events (claimed m w))
claims_from (Put w r ∷ events) m = put_goes w r events m (claims_from events (put m w r))

-- the claims give the first ranks in order
pub claims_are : (n : ℕ) (list homes : List ℕ) (events : List RoundEvent) → claims_give events (opened n list homes) ≡ take (after_events events (opened n list homes)).next list
claims_are n list homes events = claims_from events (opened n list homes)

front_rises : (n : ℕ) (list : List ℕ) → IsStrictlyIncreasing list → IsStrictlyIncreasing (take n list)
front_rises n list up k h =
    let few = length-take n list in
    let low : k < n = omega (arith, few) in
    let high : k + 1 < n = omega (arith, few) in
    let within : k + 1 < length list = omega (arith, few) in
    rw (get_or-take n list k 0 low, get_or-take n list (k + 1) 0 high) (up k within)

-- so no rank is given twice
pub claims_rise : (n : ℕ) (list homes : List ℕ) (events : List RoundEvent) → IsStrictlyIncreasing list → IsStrictlyIncreasing (claims_give events (opened n list homes))
claims_rise n list homes events rising =
    subst IsStrictlyIncreasing (sym (claims_are n list homes events)) (front_rises (after_events events (opened n list homes)).next list rising)

-- a claimed rank is pending or put
pub claimed_is : (n : ℕ) (m : RoundState) → IsRound n m → (r : ℕ) → IsClaimed m r → IsPendingOnce m r ⊎ IsPutOnce m r
claimed_is n m h r at = by (times_in_all r m.pending) refl
  where
    all : times r (take m.next m.list) ≡ 1
    all = subst (λ q. times q (take m.next m.list) ≡ 1) at.2 (once m.list at.0 m.next (AllPairs-from_increasing m.list h.input.rising) at.1 h.bound)

    put_once : (s : ℕ) → times r (get_or m.shards s []) ≡ 1 → times_in_all r m.shards ≡ 1 → times_in_all r m.pending ≡ 0 → (s ≡ home_of m r) ⊎ (s ≡ home_of m r → ⊥) → IsPutOnce m r
    put_once s here put none (inl e) = record { once = subst (λ i. times r (get_or m.shards i []) ≡ 1) e here; no_other = put; not_pending = none }
    put_once s here put none (inr other) = absurd (omega (arith, here, h.home s r other))

    by : (pending : ℕ) → times_in_all r m.pending ≡ pending → IsPendingOnce m r ⊎ IsPutOnce m r
    by zero none =
        let put : times_in_all r m.shards ≡ 1 = omega (arith, h.places r, all, none) in
        let at = one_holds (times r) m.shards [] put in
        inr (put_once at.0 at.2 put none (cases_eq at.0 (home_of m r)))
    by (suc zero) one =
        let at = one_holds (times r) m.pending [] one in
        inl (record { worker = at.0; within = at.1; once = at.2; no_other = one; not_put = omega (arith, h.places r, all, one) })
    by (suc (suc more)) many = absurd (omega (arith, h.places r, all, many))

-- any other rank is nowhere
pub unclaimed_is : (n : ℕ) (m : RoundState) → IsRound n m → (r : ℕ) → (IsClaimed m r → ⊥) → IsNowhere m r
unclaimed_is n m h r other =
    let none = absent r m.next m.list h.bound (λ k l e. other (k, l, e)) in
    record { not_pending = omega (arith, h.places r, none); not_put = omega (arith, h.places r, none) }

inside : (lists : List (List ℕ)) (s i : ℕ) → i < length (get_or lists s []) → s < length lists
inside lists s i h = by (cases_lt s (length lists))
  where
    by : (s < length lists) ⊎ (length lists ≤ s) → s < length lists
    by (inl within) = within
    by (inr past) = absurd (omega (arith, h, ap length (get_or_past lists s [] past)))

-- what stands in a list is there
stands : (lists : List (List ℕ)) (s i : ℕ) → i < length (get_or lists s []) → 0 < times_in_all (get_or (get_or lists s []) i 0) lists
stands lists s i h =
    let r = get_or (get_or lists s []) i 0 in
    omega (arith, times_at r i (get_or lists s []) h refl, get_or-le-sum_by (times r) lists s [] (inside lists s i h))

pub pending_entries : (n : ℕ) (m : RoundState) → IsRound n m → (w i : ℕ) → i < length (get_or m.pending w []) → IsClaimed m (get_or (get_or m.pending w []) i 0)
pending_entries n m h w i l =
    let r = get_or (get_or m.pending w []) i 0 in
    found r m.next m.list h.bound (omega (arith, stands m.pending w i l, h.places r))

pub shard_entries : (n : ℕ) (m : RoundState) → IsRound n m → (s i : ℕ) → i < length (get_or m.shards s []) → IsClaimed m (get_or (get_or m.shards s []) i 0)
shard_entries n m h s i l =
    let r = get_or (get_or m.shards s []) i 0 in
    found r m.next m.list h.bound (omega (arith, stands m.shards s i l, h.places r))

pub shard_homes : (n : ℕ) (m : RoundState) → IsRound n m → (s i : ℕ) → i < length (get_or m.shards s []) → home_of m (get_or (get_or m.shards s []) i 0) ≡ s
shard_homes n m h s i l = by (cases_eq s (home_of m (get_or (get_or m.shards s []) i 0)))
  where
    by : (s ≡ home_of m (get_or (get_or m.shards s []) i 0)) ⊎ (s ≡ home_of m (get_or (get_or m.shards s []) i 0) → ⊥) → home_of m (get_or (get_or m.shards s []) i 0) ≡ s
    by (inl e) = sym e
    by (inr other) =
        let r = get_or (get_or m.shards s []) i 0 in
        absurd (omega (arith, times_at r i (get_or m.shards s []) l refl, h.home s r other))

-- where all is done, each rank is put once
pub finished_is : (n : ℕ) (m : RoundState) → IsRound n m → IsFinished m → (k : ℕ) → k < length m.list → IsPutOnce m (get_or m.list k 0)
finished_is n m h done k l = by (claimed_is n m h (get_or m.list k 0) (k, omega (arith, done.all), refl))
  where
    by : IsPendingOnce m (get_or m.list k 0) ⊎ IsPutOnce m (get_or m.list k 0) → IsPutOnce m (get_or m.list k 0)
    by (inl p) = absurd (omega (arith, p.once, ap (times (get_or m.list k 0)) (done.none p.worker)))
    by (inr p) = p
