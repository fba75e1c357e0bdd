-- What searches keep, and that a complete one finds the first of all circuits that it could reach.
use Rattle.std.proofs.Common.{◌≡◌, ◌≤◌, nat_le, ◌+◌, ℕ, zero, suc, ◌⊎◌, inl, inr, Bool, true, false, cond, List, [], ◌∷◌, ◌++◌, not, ◌&&◌, length, take, drop, append-nil, refl, sym, ap, subst, ◌∙◌, Less, Equal, Greater, arith}
use Rattle.std.specs.declared.cmp.Ordering.{Ordering}
use Rattle.std.specs.Ordering.{is_lt, is_gt, ordering_reverse}
use Rattle.std.specs.List.{filter, flat_map}
use Rattle.std.proofs.lemmas.Bool.Decides.{nat_tests}
use Rattle.std.proofs.lemmas.Cmp.{tied_itself, upto}
use Rattle.std.proofs.lemmas.List.{take_all}
use Rattle.qz_circ.specs.ProgramCircuits.{ProgramCircuit, cost, program_cmp}
use Rattle.qz_circ.specs.Queue.{different, first_cap}
use Rattle.qz_circ.specs.Search.{PlanNumbers, SearchState, is_among, earliest, is_offered, start, seen_next, offered, choice, queue_next, round, after, best_found, DropsNothing, IsComplete, IsChain, IsReached, is_short, most_grown}
use Rattle.qz_circ.specs.ProgramLimits.{most_gates}
use Rattle.qz_circ.proofs.ProgramOrder.{program_cmp_total, program_cmp_exact, not_dearer}
use Rattle.qz_queue.proofs.DifferentOnes.{Has, has_append, has_left, has_right, has_take, has_drop, has_different, different_has}
use Rattle.qz_search.proofs.Members.{has_filter, filter_has, has_flat_map, flat_map_has, has_split, among_has, contains_has}

-- ---- the earliest of some circuits

earliest_least : (ws : List ℕ) (b : ProgramCircuit) (cs : List ProgramCircuit) (k : ProgramCircuit) → (b ≡ k) ⊎ Has cs k → is_gt (program_cmp ws (earliest ws b cs) k) ≡ false
earliest_least ws b [] k (inl e) = (λ i. is_gt (program_cmp ws b (sym e i))) ∙ ap is_gt (tied_itself (program_cmp_total ws) b)
earliest_least ws b [] k (inr h) = absurd h
earliest_least ws b (c ∷ cs) k h = by (program_cmp ws c b) refl h (λ d. earliest_least ws d cs)
  where
    here : (d : ProgramCircuit) → is_gt (program_cmp ws (earliest ws d cs) d) ≡ false → is_gt (program_cmp ws d k) ≡ false → is_gt (program_cmp ws (earliest ws d cs) k) ≡ false
    here d f g = upto (program_cmp_total ws) (earliest ws d cs) d k f g

    by : (r : Ordering) → program_cmp ws c b ≡ r → (b ≡ k) ⊎ ((c ≡ k) ⊎ Has cs k) → ((d k : ProgramCircuit) → (d ≡ k) ⊎ Has cs k → is_gt (program_cmp ws (earliest ws d cs) k) ≡ false)
        → is_gt (program_cmp ws (earliest ws (cond (is_lt r) c b) cs) k) ≡ false
    by Less e (inl f) ih = here c (ih c c (inl refl)) ((λ i. is_gt (program_cmp ws c (sym f i))) ∙ ap is_gt e)
    by Less e (inr (inl f)) ih = ih c k (inl f)
    by Less e (inr (inr f)) ih = ih c k (inr f)
    by Equal e (inl f) ih = ih b k (inl f)
    by Equal e (inr (inl f)) ih =
        here b (ih b b (inl refl)) ((λ i. is_gt (program_cmp ws b (sym f i))) ∙ ap is_gt ((program_cmp_total ws).antisymm b c ∙ ap ordering_reverse e))
    by Equal e (inr (inr f)) ih = ih b k (inr f)
    by Greater e (inl f) ih = ih b k (inl f)
    by Greater e (inr (inl f)) ih =
        here b (ih b b (inl refl)) ((λ i. is_gt (program_cmp ws b (sym f i))) ∙ ap is_gt ((program_cmp_total ws).antisymm b c ∙ ap ordering_reverse e))
    by Greater e (inr (inr f)) ih = ih b k (inr f)

earliest_is : (ws : List ℕ) (b : ProgramCircuit) (cs : List ProgramCircuit) → (b ≡ earliest ws b cs) ⊎ Has cs (earliest ws b cs)
earliest_is ws b [] = inl refl
earliest_is ws b (c ∷ cs) = by (is_lt (program_cmp ws c b)) (λ d. earliest_is ws d cs)
  where
    by : (t : Bool) → ((d : ProgramCircuit) → (d ≡ earliest ws d cs) ⊎ Has cs (earliest ws d cs)) → (b ≡ earliest ws (cond t c b) cs) ⊎ ((c ≡ earliest ws (cond t c b) cs) ⊎ Has cs (earliest ws (cond t c b) cs))
    by true ih = inr (ih c)
    by false ih = elim (ih b) [ inl e ↦ inl e | inr h ↦ inr (inr h) ]

module _ (children : ProgramCircuit → List ProgramCircuit) (plan : PlanNumbers) where
  -- ---- what is chosen from

  chosen : (s : SearchState) (k : ProgramCircuit) → Has (choice children plan s) k
      → Has (drop plan.batch s.queue) k ⊎ ((y : ProgramCircuit) × Has (take plan.batch s.queue) y × Has (children y) k × (is_offered plan (seen_next children plan s) s.best k ≡ true))
  unfolding choice offered
  chosen s k h = by (has_append (drop plan.batch s.queue) (filter test all) k h)
    where
      test : ProgramCircuit → Bool
      test = is_offered plan (seen_next children plan s) s.best

      all : List ProgramCircuit
      all = flat_map children (take plan.batch s.queue)

      by : Has (drop plan.batch s.queue) k ⊎ Has (filter test all) k
          → Has (drop plan.batch s.queue) k ⊎ ((y : ProgramCircuit) × Has (take plan.batch s.queue) y × Has (children y) k × (is_offered plan (seen_next children plan s) s.best k ≡ true))
      by (inl g) = inl g
      by (inr g) =
          let kept = filter_has test k all g in
          let found = flat_map_has children (take plan.batch s.queue) k kept.0 in
          inr (found.0, found.1, found.2, kept.1)

  choosing_rest : (s : SearchState) (k : ProgramCircuit) → Has (drop plan.batch s.queue) k → Has (choice children plan s) k
  unfolding choice offered
  choosing_rest s k h = has_left (drop plan.batch s.queue) (offered children plan s) k h

  choosing_child : (s : SearchState) (y k : ProgramCircuit) → Has (take plan.batch s.queue) y → Has (children y) k → is_offered plan (seen_next children plan s) s.best k ≡ true → Has (choice children plan s) k
  unfolding choice offered
  choosing_child s y k h g e =
      has_right (drop plan.batch s.queue) (offered children plan s) k (has_filter (is_offered plan (seen_next children plan s) s.best) k (flat_map children (take plan.batch s.queue)) (has_flat_map children (take plan.batch s.queue) y k h g) e)

  next_has : (s : SearchState) (k : ProgramCircuit) → Has (queue_next children plan s) k → Has (choice children plan s) k
  unfolding first_cap
  next_has s k h =
      has_different (program_cmp_total plan.weights) (program_cmp_exact plan.weights) k (choice children plan s) (has_take plan.cap (different (program_cmp plan.weights) (choice children plan s)) k h)

  -- where nothing is dropped, all that is chosen from waits
  has_next : (s : SearchState) (k : ProgramCircuit) → length (different (program_cmp plan.weights) (choice children plan s)) ≤ plan.cap → Has (choice children plan s) k → Has (queue_next children plan s) k
  unfolding first_cap
  has_next s k few h =
      subst (λ cs. Has cs k) (sym (take_all plan.cap (different (program_cmp plan.weights) (choice children plan s)) few)) (different_has (program_cmp_total plan.weights) (program_cmp_exact plan.weights) k (choice children plan s) h)

  -- ---- the best circuit

  round_falls : (s : SearchState) → is_gt (program_cmp plan.weights (round children plan s).best s.best) ≡ false
  round_falls s = earliest_least plan.weights s.best (filter is_short (queue_next children plan s)) s.best (inl refl)

  pub best_falls : (n : ℕ) (s : SearchState) → cost plan.weights (after children plan n s).best ≤ cost plan.weights s.best
  best_falls zero s = omega arith
  best_falls (suc n) s = omega (arith, best_falls n (round children plan s), not_dearer plan.weights _ s.best (round_falls s))

  -- ---- what holds of all that waits

  -- a circuit of at most 20,000 gates passes the test of the best ones
  pub passes_short : (k : ProgramCircuit) → length k ≤ most_gates → is_short k ≡ true
  passes_short k h = grind (arith, nat_tests)

  short_passes : (k : ProgramCircuit) → is_short k ≡ true → length k ≤ most_gates
  short_passes k h = grind (arith, nat_tests)

  pub record Holds (P : ProgramCircuit → Type 0) (s : SearchState) : Type 0 where
    pub waiting : (k : ProgramCircuit) → Has s.queue k → P k
    pub best : P s.best
    pub short : length s.best ≤ most_gates

  module _ (P : ProgramCircuit → Type 0) (passes : (y z : ProgramCircuit) → P y → Has (children y) z → length z ≤ most_grown → P z) where
    within_length : (seen : List ProgramCircuit) (b k : ProgramCircuit) → is_offered plan seen b k ≡ true → length k ≤ most_grown
    within_length seen b k h = by (not (is_among seen k)) (nat_le (cost plan.weights k) (cost plan.weights b + plan.slack)) h
      where
        by : (new cheap : Bool) → new && (cheap && nat_le (length k) most_grown) ≡ true → length k ≤ most_grown
        by true true e = grind (arith, nat_tests)
        by true false e = cc
        by false cheap e = cc

    round_holds : (s : SearchState) → Holds P s → Holds P (round children plan s)
    round_holds s h =
        let queue : (k : ProgramCircuit) → Has (queue_next children plan s) k → P k = λ k g. by k (chosen s k (next_has s k g)) in
        let new = earliest_is plan.weights s.best (filter is_short (queue_next children plan s)) in
        record {
          waiting = queue;
          best = elim new [ inl e ↦ subst P e h.best | inr g ↦ queue _ (filter_has is_short _ (queue_next children plan s) g).0 ];
          short = elim new [ inl e ↦ subst (λ d. length d ≤ most_gates) e h.short | inr g ↦ short_passes _ (filter_has is_short _ (queue_next children plan s) g).1 ];
        }
      where
        by : (k : ProgramCircuit) → Has (drop plan.batch s.queue) k ⊎ ((y : ProgramCircuit) × Has (take plan.batch s.queue) y × Has (children y) k × (is_offered plan (seen_next children plan s) s.best k ≡ true)) → P k
        by k (inl g) = h.waiting k (has_drop plan.batch s.queue k g)
        by k (inr g) = passes g.0 k (h.waiting g.0 (has_take plan.batch s.queue g.0 g.1)) g.2 (within_length (seen_next children plan s) s.best k g.3)

    pub after_holds : (n : ℕ) (s : SearchState) → Holds P s → Holds P (after children plan n s)
    after_holds zero s h = h
    after_holds (suc n) s h = after_holds n (round children plan s) (round_holds s h)

  -- ---- complete searches

  abbrev Known : SearchState → ProgramCircuit → Type 0
  Known s k = Has s.seen k ⊎ Has s.queue k

  -- each child of a taken circuit that costs at most k and has at most 20,004 gates was taken or waits, and none of these that
  -- has at most 20,000 is before the best one
  record IsClosed (c : ProgramCircuit) (k : ℕ) (s : SearchState) : Type 0 where
    first : Known s c
    closed : (y z : ProgramCircuit) → Has s.seen y → Has (children y) z → cost plan.weights z ≤ k → length z ≤ most_grown → Known s z
    least : (y : ProgramCircuit) → Known s y → length y ≤ most_gates → is_gt (program_cmp plan.weights s.best y) ≡ false

  offered_or_seen : (seen : List ProgramCircuit) (b z : ProgramCircuit) → cost plan.weights z ≤ cost plan.weights b + plan.slack → length z ≤ most_grown → Has seen z ⊎ (is_offered plan seen b z ≡ true)
  offered_or_seen seen b z h g = by (is_among seen z) refl
    where
      by : (t : Bool) → is_among seen z ≡ t → Has seen z ⊎ (is_offered plan seen b z ≡ true)
      by true e = inl (among_has seen z e)
      by false e = inr (grind (arith, nat_tests))

  module _ (c : ProgramCircuit) (k : ℕ) where
    keeps_known : (s : SearchState) → length (different (program_cmp plan.weights) (choice children plan s)) ≤ plan.cap → (z : ProgramCircuit) → Known s z → Known (round children plan s) z
    keeps_known s few z (inl h) = inl (has_left s.seen (take plan.batch s.queue) z h)
    keeps_known s few z (inr h) =
        elim (has_split plan.batch s.queue z h) [ inl g ↦ inl (has_right s.seen (take plan.batch s.queue) z g) | inr g ↦ inr (has_next s z few (choosing_rest s z g)) ]

    round_closed : (s : SearchState) → length (different (program_cmp plan.weights) (choice children plan s)) ≤ plan.cap → k ≤ cost plan.weights s.best + plan.slack → IsClosed c k s → IsClosed c k (round children plan s)
    round_closed s few near h =
        record {
          first = keeps_known s few c h.first;
          closed = λ y z g f cheap few. by y z f cheap few (has_append s.seen (take plan.batch s.queue) y g);
          least = λ y g short. elim g [ inl f ↦ older y short (has_append s.seen (take plan.batch s.queue) y f) | inr f ↦ earliest_least plan.weights s.best (filter is_short (queue_next children plan s)) y (inr (has_filter is_short y (queue_next children plan s) f (passes_short y short))) ];
        }
      where
        by : (y z : ProgramCircuit) → Has (children y) z → cost plan.weights z ≤ k → length z ≤ most_grown → Has s.seen y ⊎ Has (take plan.batch s.queue) y → Known (round children plan s) z
        by y z f cheap short (inl g) = keeps_known s few z (h.closed y z g f cheap short)
        by y z f cheap short (inr g) =
            elim (offered_or_seen (seen_next children plan s) s.best z (omega arith) short) [ inl e ↦ inl e | inr e ↦ inr (has_next s z few (choosing_child s y z g f e)) ]

        older : (y : ProgramCircuit) → length y ≤ most_gates → Has s.seen y ⊎ Has (take plan.batch s.queue) y → is_gt (program_cmp plan.weights (round children plan s).best y) ≡ false
        older y short (inl g) = upto (program_cmp_total plan.weights) _ s.best y (round_falls s) (h.least y (inl g) short)
        older y short (inr g) = upto (program_cmp_total plan.weights) _ s.best y (round_falls s) (h.least y (inr (has_take plan.batch s.queue y g)) short)

    after_closed : (n : ℕ) (s : SearchState) → DropsNothing children plan n s → k ≤ cost plan.weights (after children plan n s).best + plan.slack → IsClosed c k s → IsClosed c k (after children plan n s)
    after_closed zero s d near h = h
    after_closed (suc n) s d near h =
        after_closed n (round children plan s) d.1 near (round_closed s d.0 (omega (arith, near, best_falls (suc n) s)) h)

    start_closed : IsClosed c k (start c)
    start_closed =
        record {
          first = inr (inl refl);
          closed = λ y z h g cheap short. absurd h;
          least = λ y h short. elim h [ inl g ↦ absurd g | inr g ↦ elim g [ inl e ↦ earliest_least plan.weights c [] y (inl e) | inr f ↦ absurd f ] ];
        }

    chain_seen : (s : SearchState) → IsClosed c k s → s.queue ≡ [] → (y : ProgramCircuit) (ds : List ProgramCircuit) (x : ProgramCircuit) → Known s y → IsChain children plan.weights k y ds x → Known s x
    chain_seen s h empty y [] x known chain = subst (Known s) chain known
    chain_seen s h empty y (d ∷ ds) x known chain =
        chain_seen s h empty d ds x (h.closed y d (seen y known) (contains_has (children y) d chain.0) chain.1 chain.2) chain.3
      where
        seen : (y : ProgramCircuit) → Known s y → Has s.seen y
        seen y (inl g) = g
        seen y (inr g) = absurd (subst (λ cs. Has cs y) empty g)

  not_before : (a b : ProgramCircuit) → is_gt (program_cmp plan.weights a b) ≡ false → is_lt (program_cmp plan.weights b a) ≡ false
  not_before a b h = ap is_lt ((program_cmp_total plan.weights).antisymm b a) ∙ by (program_cmp plan.weights a b) h
    where
      by : (r : Ordering) → is_gt r ≡ false → is_lt (ordering_reverse r) ≡ false
      by Less g = refl
      by Equal g = refl
      by Greater g = cc

  -- a complete search gives the first of all circuits that it could reach
  pub none_before : (c : ProgramCircuit) → IsComplete children plan c → (x : ProgramCircuit) → length x ≤ most_gates → IsReached children plan.weights (cost plan.weights (best_found children plan c) + plan.slack) c x → is_lt (program_cmp plan.weights x (best_found children plan c)) ≡ false
  unfolding best_found
  none_before c complete x short reached =
      let k = cost plan.weights (after children plan plan.rounds (start c)).best + plan.slack in
      let closed = after_closed c k plan.rounds (start c) complete.drops_nothing (omega arith) (start_closed c k) in
      not_before _ x (closed.least x (chain_seen c k _ closed complete.ends c reached.0 x closed.first reached.1) short)

  -- ---- rounds that find the queue empty

  take_none : (n : ℕ) → take {A = ProgramCircuit} n [] ≡ []
  take_none zero = refl
  take_none (suc n) = refl

  drop_none : (n : ℕ) → drop {A = ProgramCircuit} n [] ≡ []
  drop_none zero = refl
  drop_none (suc n) = refl

  none_waits : (seen : List ProgramCircuit) (b : ProgramCircuit) → queue_next children plan (record { seen = seen; queue = []; best = b }) ≡ []
  unfolding choice offered first_cap different
  none_waits seen b =
      (λ i. take plan.cap (different (program_cmp plan.weights) (drop_none plan.batch i ++ filter (is_offered plan (seen ++ take plan.batch []) b) (flat_map children (take_none plan.batch i))))) ∙ take_none plan.cap

  round_empty : (s : SearchState) → s.queue ≡ [] → round children plan s ≡ s
  round_empty s e = by s.queue (sym e)
    where
      by : (queue : List ProgramCircuit) → [] ≡ queue → round children plan (record { seen = s.seen; queue = queue; best = s.best }) ≡ record { seen = s.seen; queue = queue; best = s.best }
      by queue f =
          subst (λ q. round children plan (record { seen = s.seen; queue = q; best = s.best }) ≡ record { seen = s.seen; queue = q; best = s.best }) f (λ i. record { seen = (ap (λ cs. s.seen ++ cs) (take_none plan.batch) ∙ append-nil s.seen) i; queue = none_waits s.seen s.best i; best = earliest plan.weights s.best (filter is_short (none_waits s.seen s.best i)) })

  pub after_empty : (n : ℕ) (s : SearchState) → s.queue ≡ [] → after children plan n s ≡ s
  after_empty zero s e = refl
  after_empty (suc n) s e = ap (after children plan n) (round_empty s e) ∙ after_empty n s e
