-- The rounds in memory are those of the definition.
use Rattle.std.proofs.Common.{◌≡◌, ◌≤◌, ◌+◌, ℕ, zero, suc, ◌⊎◌, inl, inr, Bool, not, ◌&&◌, nat_le, false, List, [], ◌∷◌, ◌++◌, length, take, drop, Contains, Result, Ok, Err, IfOk, refl, sym, ap, subst, ◌∙◌, arith}
use Rattle.std.specs.List.{AllByRecursion, filter, flat_map}
use Rattle.std.specs.Ordering.{is_lt}
use Rattle.qz_circ.specs.ProgramCircuits.{ProgramCircuit, IsProgramGate, IsProgramCircuit, EquivalentProgramCircuits, ones, cost, program_cmp}
use Rattle.qz_circ.specs.Queue.{QueueList, IsQueue, different, first_cap, firsts}
use Rattle.qz_circ.specs.Search.{PlanNumbers, IsPlan, SearchState, is_among, earliest, is_short, most_grown, start, offered, choice, queue_next, round, after, best_found, IsComplete, IsReached}
use Rattle.qz_circ.proofs.ProgramOrder.{program_cmp_total, program_cmp_exact}
use Rattle.qz_paths.proofs.Equivalences.{program_reflexive, program_transitive}
use Rattle.qz_queue.proofs.DifferentOnes.{Has, has_append, has_left, has_right, has_take, has_different, different_has, first_same}
use Rattle.qz_circ.specs.ProgramLimits.{most_gates}
use Rattle.qz_queue.proofs.QueueLists.{rest_first}
use Rattle.qz_search.specs.Offers.{is_new, offered_to, IsFit, AreFit, IsAt, KeepsGates}
use Rattle.qz_search.proofs.Alike.{Alike}
use Rattle.qz_search.proofs.Members.{among_same, contains_has, has_contains, has_filter, filter_has, has_flat_map, flat_map_has}
use Rattle.qz_search.proofs.SearchLaws.{best_falls, Holds, after_holds, none_before, after_empty}

pub if_ok_more : {A E : Type 0} (P Q : A → Type 0) (r : Result A E) → ((a : A) → P a → Q a) → IfOk r P → IfOk r Q
if_ok_more P Q (Ok a) f h = f a h
if_ok_more P Q (Err e) f h = h

-- what is left of a queue is one
pub queue_rest : (q new : QueueList) (k : ℕ) → IsQueue q → new ≡ record { cap = q.cap; weights = q.weights; list = drop k q.list } → IsQueue new
queue_rest q new k h e =
    subst IsQueue (sym e) (record { some = h.some; few = h.few; weighed = h.weighed; ordered = rest_first q.weights q.cap k q.list h.ordered })

-- the queue that a search begins with
first_alone : (ws : List ℕ) (n : ℕ) (c : ProgramCircuit) → 1 ≤ n → firsts ws n (c ∷ []) ≡ c ∷ []
unfolding first_cap different
first_alone ws zero c h = absurd (omega arith)
first_alone ws (suc zero) c h = refl
first_alone ws (suc (suc n)) c h = refl

pub one_waits : (q : QueueList) (ws : List ℕ) (most : ℕ) (c : ProgramCircuit) → 1 ≤ most → q ≡ record { cap = most; weights = ws; list = firsts ws most (c ∷ []) } → q ≡ record { cap = most; weights = ws; list = c ∷ [] }
one_waits q ws most c some e = e ∙ (λ i. record { cap = most; weights = ws; list = first_alone ws most c some i })

module _ (children : ProgramCircuit → List ProgramCircuit) (plan : PlanNumbers) where
  pub round_at : (s : SearchState) (seen0 seen1 : List ProgramCircuit) (q0 q1 q2 : QueueList) (best0 : ProgramCircuit) (batch : List ProgramCircuit) (most : ℕ) → batch ≡ take plan.batch q0.list
      → q1 ≡ record { cap = q0.cap; weights = q0.weights; list = drop plan.batch q0.list } → ((all : List ProgramCircuit) → seen0 ≡ different (program_cmp ones) all → seen1 ≡ different (program_cmp ones) (all ++ batch))
      → most ≡ cost plan.weights best0 + plan.slack → q2 ≡ offered_to q1 (filter (is_new q1.weights seen1 most) (flat_map children batch)) → IsAt plan s seen0 q0 best0
      → (b : ProgramCircuit) → b ≡ earliest q1.weights best0 (filter is_short q2.list) → IsAt plan (round children plan s) seen1 q2 b
  unfolding choice offered
  round_at s seen0 seen1 q0 q1 q2 best0 batch most taken_is left_is seen_is most_is offered_is at b b_is =
      let batch_is : batch ≡ take plan.batch s.queue = taken_is ∙ (λ i. take plan.batch (at.queue_is i).list) in
      let q1_is : q1 ≡ record { cap = plan.cap; weights = plan.weights; list = drop plan.batch s.queue } =
      left_is ∙ (λ i. record { cap = (at.queue_is i).cap; weights = (at.queue_is i).weights; list = drop plan.batch (at.queue_is i).list }) in
      let seen1_is : seen1 ≡ different (program_cmp ones) (s.seen ++ take plan.batch s.queue) =
      seen_is s.seen at.seen_is ∙ (λ i. different (program_cmp ones) (s.seen ++ batch_is i)) in
      let limit : most ≡ cost plan.weights s.best + plan.slack = most_is ∙ (λ i. cost plan.weights (at.best_is i) + plan.slack) in
      let among : (c : ProgramCircuit) → is_among seen1 c ≡ is_among (s.seen ++ take plan.batch s.queue) c =
      λ c. (λ i. is_among (seen1_is i) c) ∙ among_same (different (program_cmp ones) (s.seen ++ take plan.batch s.queue)) (s.seen ++ take plan.batch s.queue) c (has_different (program_cmp_total ones) (program_cmp_exact ones) c (s.seen ++ take plan.batch s.queue)) (different_has (program_cmp_total ones) (program_cmp_exact ones) c (s.seen ++ take plan.batch s.queue)) in
      let q2_is : q2 ≡ record { cap = plan.cap; weights = plan.weights; list = queue_next children plan s } =
      offered_is ∙ (λ i. offered_to (q1_is i) (filter (λ c. not (among c i) && (nat_le (cost (q1_is i).weights c) (limit i) && nat_le (length c) most_grown)) (flat_map children (batch_is i)))) in
      record {
        seen_is = seen1_is;
        queue_is = q2_is;
        best_is = b_is ∙ (λ i. earliest (q1_is i).weights (at.best_is i) (filter is_short (q2_is i).list));
      }

  pub after_more : (n : ℕ) (s : SearchState) → after children plan (suc n) s ≡ round children plan (after children plan n s)
  after_more zero s = refl
  after_more (suc n) s = after_more n (round children plan s)

  -- where the queue is empty after some rounds, nothing changes in later ones
  pub ends_early : (i n : ℕ) (s : SearchState) → i ≤ n → (after children plan i s).queue ≡ [] → after children plan n s ≡ after children plan i s
  ends_early zero n s h e = after_empty children plan n s e
  ends_early (suc i) zero s h e = absurd (omega arith)
  ends_early (suc i) (suc n) s h e = ends_early i n (round children plan s) (omega arith) e

  pub found_at : (i : ℕ) (c : ProgramCircuit) (seen : List ProgramCircuit) (q : QueueList) (b : ProgramCircuit) → i ≤ plan.rounds → IsAt plan (after children plan i (start c)) seen q b → (i ≡ plan.rounds) ⊎ (q.list ≡ []) → b ≡ best_found children plan c
  unfolding best_found
  found_at i c seen q b h at (inl e) = at.best_is ∙ (λ j. (after children plan (e j) (start c)).best)
  found_at i c seen q b h at (inr e) =
      at.best_is ∙ (λ j. (sym (ends_early i plan.rounds (start c) h ((λ k. (sym at.queue_is k).list) ∙ e)) j).best)

  pub found_cheap : (c b : ProgramCircuit) → b ≡ best_found children plan c → cost plan.weights b ≤ cost plan.weights c
  unfolding best_found
  found_cheap c b e = omega (arith, best_falls children plan plan.rounds (start c), ap (cost plan.weights) e)

  pub found_first : (c b : ProgramCircuit) → b ≡ best_found children plan c → IsComplete children plan c → (x : ProgramCircuit) → length x ≤ most_gates → IsReached children plan.weights (cost plan.weights b + plan.slack) c x → is_lt (program_cmp plan.weights x b) ≡ false
  found_first c b e complete x short reached =
      (λ i. is_lt (program_cmp plan.weights x (e i))) ∙ none_before children plan c complete x short (subst (λ d. IsReached children plan.weights (cost plan.weights d + plan.slack) c x) e reached)

  -- what waits in the queue of a search
  fit_passes : KeepsGates children → (y z : ProgramCircuit) → IsFit y → Has (children y) z → length z ≤ most_grown → IsFit z
  fit_passes keeps y z fit h short = record { gates = keeps y z fit.gates (has_contains (children y) z h); short = short }

  start_holds : (P : ProgramCircuit → Type 0) (c : ProgramCircuit) → P c → length c ≤ most_gates → Holds children plan P (start c)
  start_holds P c p h =
      record { waiting = λ k g. elim g [ inl e ↦ subst P e p | inr f ↦ absurd f ]; best = p; short = h }

  fit_after : KeepsGates children → (i : ℕ) (c : ProgramCircuit) → AllByRecursion (IsProgramGate 64) c → length c ≤ most_gates → Holds children plan IsFit (after children plan i (start c))
  fit_after keeps i c gates few =
      after_holds children plan IsFit (fit_passes keeps) i (start c) (start_holds IsFit c (record { gates = gates; short = omega arith }) few)

  pub waiting_fit : KeepsGates children → (i : ℕ) (c : ProgramCircuit) (seen : List ProgramCircuit) (q : QueueList) (b : ProgramCircuit) → AllByRecursion (IsProgramGate 64) c → length c ≤ most_gates → IsAt plan (after children plan i (start c)) seen q b
      → AreFit q.list × (length b ≤ most_gates)
  waiting_fit keeps i c seen q b gates few at =
      let holds = fit_after keeps i c gates few in (
        λ k there. holds.waiting k (contains_has _ k (subst (λ cs. Contains cs k) (λ j. (at.queue_is j).list) there)),
        omega (arith, holds.short, ap length at.best_is),
      )

  -- what is equivalent to its children is equivalent to the answer, which has at most 20,000 gates
  pub answer_equivalent : (q : ℕ) (c b : ProgramCircuit) → ((y z : ProgramCircuit) → IsProgramCircuit q y → Has (children y) z → IsProgramCircuit q z × EquivalentProgramCircuits q y z) → IsProgramCircuit q c → length c ≤ most_gates → b ≡ best_found children plan c
      → IsProgramCircuit q b × EquivalentProgramCircuits q c b
  unfolding best_found
  answer_equivalent q c b passes lawful few e =
      let P : ProgramCircuit → Type 0 = λ z. IsProgramCircuit q z × EquivalentProgramCircuits q c z in
      let step : (y z : ProgramCircuit) → P y → Has (children y) z → length z ≤ most_grown → P z =
      λ y z p h short. (let next = passes y z p.0 h in (next.0, program_transitive q c y z p.1 next.1)) in
      let first : P c = (lawful, program_reflexive q c) in
      let holds = after_holds children plan P step plan.rounds (start c) (start_holds P c first few) in
      subst P (sym e) holds.best

-- ---- children in another order

module _ (f g : ProgramCircuit → List ProgramCircuit) (plan : PlanNumbers) (alike : Alike f g) where
  -- what a round offers, by both
  offers_moved : (test : ProgramCircuit → Bool) (cs rest : List ProgramCircuit) (k : ProgramCircuit) (h i : ProgramCircuit → List ProgramCircuit) → ((c : ProgramCircuit) → Has cs c → (x : ProgramCircuit) → Has (h c) x → Has (i c) x)
      → Has (rest ++ filter test (flat_map h cs)) k → Has (rest ++ filter test (flat_map i cs)) k
  offers_moved test cs rest k h i passes m = elim (has_append rest (filter test (flat_map h cs)) k m) [
    | inl a ↦ has_left rest (filter test (flat_map i cs)) k a
    | inr a ↦ (let kept = filter_has test k (flat_map h cs) a in
        let found = flat_map_has h cs k kept.0 in
        has_right rest (filter test (flat_map i cs)) k (has_filter test k (flat_map i cs) (has_flat_map i cs found.0 k found.1 (passes found.0 found.1 k found.2)) kept.1))
  ]

  same_queue : (s : SearchState) → ((k : ProgramCircuit) → Has s.queue k → IsFit k) → queue_next f plan s ≡ queue_next g plan s
  unfolding choice offered
  same_queue s fit =
      let taken = take plan.batch s.queue in
      let test : ProgramCircuit → Bool = λ c. not (is_among (s.seen ++ taken) c) && (nat_le (cost plan.weights c) (cost plan.weights s.best + plan.slack) && nat_le (length c) most_grown) in
      let rest = drop plan.batch s.queue in
      first_same (program_cmp_total plan.weights) (program_cmp_exact plan.weights) plan.cap (rest ++ filter test (flat_map f taken)) (rest ++ filter test (flat_map g taken))
      (λ k m. offers_moved test taken rest k f g (λ c h x n. alike.there c (fit c (has_take plan.batch s.queue c h)).gates x n) m)
      (λ k m. offers_moved test taken rest k g f (λ c h x n. alike.back c (fit c (has_take plan.batch s.queue c h)).gates x n) m)

  same_round : (s : SearchState) → ((k : ProgramCircuit) → Has s.queue k → IsFit k) → round f plan s ≡ round g plan s
  same_round s fit =
      λ i. record { seen = s.seen ++ take plan.batch s.queue; queue = same_queue s fit i; best = earliest plan.weights s.best (filter is_short (same_queue s fit i)) }

  same_after : KeepsGates f → (c : ProgramCircuit) → AllByRecursion (IsProgramGate 64) c → length c ≤ 20000 → (n : ℕ) → after f plan n (start c) ≡ after g plan n (start c)
  same_after keeps c gates few zero = refl
  same_after keeps c gates few (suc n) =
      let before = same_after keeps c gates few n in
      after_more f plan n (start c)
      ∙ same_round (after f plan n (start c)) (fit_after f plan keeps n c gates few).waiting
      ∙ ap (round g plan) before
      ∙ sym (after_more g plan n (start c))

  pub same_found : KeepsGates f → (c : ProgramCircuit) → AllByRecursion (IsProgramGate 64) c → length c ≤ 20000 → best_found f plan c ≡ best_found g plan c
  unfolding best_found
  same_found keeps c gates few = λ i. (same_after keeps c gates few plan.rounds i).best
