-- What is gathered of numbers that are drawn one after another and put together.
use Rattle.std.proofs.Common.{◌≡◌, ◌<◌, ◌≤◌, ◌==◌, ◌||◌, ℕ, suc, inl, inr, true, List, [], ◌∷◌, ◌++◌, length, take, drop, get_or, Contains, Vec, Some, None, Result, append-nil, drop-cons, sym, ap, subst, ◌∙◌, arith}
use Rattle.std.specs.Prelude.{IfOk}
use Rattle.std.specs.List.{filter, flat_map}
use Rattle.std.proofs.lemmas.Bool.{eqb-true}
use Rattle.std.proofs.lemmas.List.{drop_all, get_or-map, length-map}
use Rattle.std.proofs.lemmas.List.Elements.{filter-append}
use Rattle.qz_circ.specs.declared.circuit.Inst.{Inst}
use Rattle.qz_circ.specs.Vectors.{lists_of}
use Rattle.qz_circ.specs.ProgramCircuits.{ProgramCircuit, program_cmp}
use Rattle.qz_circ.specs.Queue.{QueueList, IsQueue, firsts}
use Rattle.qz_circ.proofs.ProgramOrder.{program_cmp_total, program_cmp_exact}
use Rattle.qz_queue.proofs.DifferentOnes.{Has, has_append, has_left, has_right, has_take, has_drop, first_left, first_right, first_twice, first_same}
use Rattle.qz_search.specs.Offers.{is_new, offered_to}
use Rattle.qz_search.specs.Rounds.{SearchParts, new_children}
use Rattle.qz_search.specs.Tables.{children_by_table}
use Rattle.qz_search.proofs.Alike.{flat_map-append}
use Rattle.qz_search.proofs.Members.{has_filter, filter_has, has_flat_map, flat_map_has, contains_has, has_contains}
use Rattle.qz_search.proofs.Offering.{nothing_offered, offered_lawful, offered_on}
use Rattle.qz_seats.specs.declared.view.View.{View}
use Rattle.qz_seats.specs.Views.{draws, joined}
use Rattle.qz_seats.specs.Answers.{Drew}
use Rattle.qz_seats.proofs.Sums.{counted_there}
use Rattle.qz_hunt.specs.Gathered.{RoundParts, numbered, gathered, IsGathered, AreMerged}

-- the first of the first ones of two are those of both
first_of_both : (ws : List ℕ) (n : ℕ) (xs ys : List ProgramCircuit) → firsts ws n (firsts ws n xs ++ firsts ws n ys) ≡ firsts ws n (xs ++ ys)
first_of_both ws n xs ys =
    first_right (program_cmp_total ws) (program_cmp_exact ws) n (firsts ws n xs) xs (firsts ws n ys) (first_twice (program_cmp_total ws) (program_cmp_exact ws) n xs)
    ∙ first_left (program_cmp ws) n xs (firsts ws n ys) ys (first_twice (program_cmp_total ws) (program_cmp_exact ws) n ys)

-- what was offered to a queue twice, some here and some there, was offered to it
offered_to_both : (q : QueueList) (cs ds : List ProgramCircuit) → firsts q.weights q.cap ((offered_to q cs).list ++ (offered_to q ds).list) ≡ (offered_to q (cs ++ ds)).list
offered_to_both q cs ds =
    first_of_both q.weights q.cap (q.list ++ cs) (q.list ++ ds)
    ∙ first_same (program_cmp_total q.weights) (program_cmp_exact q.weights) q.cap ((q.list ++ cs) ++ (q.list ++ ds)) (q.list ++ (cs ++ ds))
    (λ k h. elim (has_append (q.list ++ cs) (q.list ++ ds) k h) [ inl here ↦ here_first k here | inr there ↦ there_last k there ])
    (λ k h. elim (has_append q.list (cs ++ ds) k h) [
      | inl old ↦ has_left (q.list ++ cs) (q.list ++ ds) k (has_left q.list cs k old)
      | inr new ↦ elim (has_append cs ds k new) [
        | inl one ↦ has_left (q.list ++ cs) (q.list ++ ds) k (has_right q.list cs k one)
        | inr two ↦ has_right (q.list ++ cs) (q.list ++ ds) k (has_right q.list ds k two)
      ]
    ])
  where
    here_first : (k : ProgramCircuit) → Has (q.list ++ cs) k → Has (q.list ++ (cs ++ ds)) k
    here_first k h = elim (has_append q.list cs k h) [ inl old ↦ has_left q.list (cs ++ ds) k old | inr new ↦ has_right q.list (cs ++ ds) k (has_left cs ds k new) ]

    there_last : (k : ProgramCircuit) → Has (q.list ++ ds) k → Has (q.list ++ (cs ++ ds)) k
    there_last k h = elim (has_append q.list ds k h) [ inl old ↦ has_left q.list (cs ++ ds) k old | inr new ↦ has_right q.list (cs ++ ds) k (has_right cs ds k new) ]

-- the new children of some and of others
pub children_of_both : (s : SearchParts) (cs ds : List ProgramCircuit) → new_children s (cs ++ ds) ≡ new_children s cs ++ new_children s ds
children_of_both s cs ds =
    ap (filter (is_new s.queue.weights s.seen s.most)) (flat_map-append (children_by_table s.rules) cs ds)
    ∙ filter-append (is_new s.queue.weights s.seen s.most) (flat_map (children_by_table s.rules) cs) (flat_map (children_by_table s.rules) ds)

-- the circuit with one number, and none past the end
numbered_one : (batch : List ProgramCircuit) (n : ℕ) (c : ProgramCircuit) → n < length batch → c ≡ get_or batch n c → numbered batch (n ∷ []) ≡ c ∷ []
numbered_one batch n c inside is = ap (λ cs. take 1 cs ++ []) (drop-cons batch n c inside ∙ (λ i. sym is i ∷ drop (suc n) batch))

numbered_past : (batch : List ProgramCircuit) (n : ℕ) → length batch ≤ n → numbered batch (n ∷ []) ≡ []
numbered_past batch n past = ap (λ cs. take 1 cs ++ []) (drop_all n batch past)

-- a circuit in vectors, by its number
pub circuit_at : {A : Type 0} (vs : List (Vec Inst A)) (n : ℕ) (v : Vec Inst A) (c : ProgramCircuit) → n < length (lists_of vs) → v ≡ get_or vs n v → c ≡ v.items → c ≡ get_or (lists_of vs) n c
circuit_at vs n v c inside is same =
    same ∙ (λ i. (is i).items) ∙ sym (get_or-map (λ u. u.items) vs n v c (omega (arith, inside, length-map vs (λ u. u.items))))

module _ (r : RoundParts) where
  -- no number
  pub gathered_none : (q : QueueList) → IsQueue r.search.queue → q ≡ r.search.queue → q ≡ gathered r []
  gathered_none q lawful is = is ∙ nothing_offered r.search.queue lawful

  -- it is a queue
  pub gathered_lawful : (q : QueueList) (ds : List ℕ) → IsQueue r.search.queue → q ≡ gathered r ds → IsQueue q
  gathered_lawful q ds lawful is = subst IsQueue (sym is) (offered_lawful r.search.queue (new_children r.search (numbered r.batch ds)) lawful)

  -- some numbers and others
  gathered_on : (q : QueueList) (ds es : List ℕ) → q ≡ gathered r ds → offered_to q (new_children r.search (numbered r.batch es)) ≡ gathered r (ds ++ es)
  gathered_on q ds es is =
      offered_on r.search.queue q (new_children r.search (numbered r.batch ds)) (new_children r.search (numbered r.batch es)) is
      ∙ ap (offered_to r.search.queue) (sym (children_of_both r.search (numbered r.batch ds) (numbered r.batch es)) ∙ ap (new_children r.search) (sym (flat_map-append (λ d. take 1 (drop d r.batch)) ds es)))

  -- one more
  pub gathered_more : (q new : QueueList) (ds : List ℕ) (n : ℕ) (c : ProgramCircuit) → n < length r.batch → c ≡ get_or r.batch n c → q ≡ gathered r ds → new ≡ offered_to q (filter (is_new q.weights r.search.seen r.search.most) (children_by_table r.search.rules c)) → new ≡ gathered r (ds ++ n ∷ [])
  gathered_more q new ds n c inside is before offered =
      offered
      ∙ (λ i. offered_to q (filter (is_new (before i).weights r.search.seen r.search.most) (children_by_table r.search.rules c)))
      ∙ ap (λ cs. offered_to q (filter (is_new r.search.queue.weights r.search.seen r.search.most) cs)) (sym (append-nil (children_by_table r.search.rules c)))
      ∙ ap (λ cs. offered_to q (new_children r.search cs)) (sym (numbered_one r.batch n c inside is))
      ∙ gathered_on q ds (n ∷ []) before

  -- one that is nobody's
  gathered_past : (ds : List ℕ) (n : ℕ) → length r.batch ≤ n → gathered r (ds ++ n ∷ []) ≡ gathered r ds
  gathered_past ds n past =
      ap (λ cs. offered_to r.search.queue (new_children r.search cs))
      (flat_map-append (λ d. take 1 (drop d r.batch)) ds (n ∷ []) ∙ ap (λ cs. numbered r.batch ds ++ cs) (numbered_past r.batch n past) ∙ append-nil (numbered r.batch ds))

  -- a draw that gives a number
  pub drew_one : (q new : QueueList) (v w : View) (n : ℕ) (c : ProgramCircuit) → v.terms.limit ≡ length r.batch → Drew v (Some n) w → c ≡ get_or r.batch n c → q ≡ gathered r v.drawn → new ≡ offered_to q (filter (is_new q.weights r.search.seen r.search.most) (children_by_table r.search.rules c)) → new ≡ gathered r w.drawn
  drew_one q new v w n c limit drew is before offered =
      gathered_more q new v.drawn n c (omega (arith, limit, drew.1)) is before offered ∙ (λ i. gathered r (sym drew.4 i).drawn)

  -- one that gives none
  pub drew_none : (v w : View) → v.terms.limit ≡ length r.batch → Drew v None w → (w.ended ≡ true) × (gathered r v.drawn ≡ gathered r w.drawn)
  drew_none v w limit (inl same) = (ap (λ x. x.ended) same.1 ∙ same.0, λ i. gathered r (sym same.1 i).drawn)
  drew_none v w limit (inr past) =
      let n = past.1.0 in
      (ap (λ x. x.ended) past.1.3, sym (gathered_past v.drawn n (omega (arith, limit, past.1.1))) ∙ (λ i. gathered r (sym past.1.3 i).drawn))

  -- what two have gathered
  pub gathered_by_both : {E : Type 0} (u v w : View) (one others : Result QueueList E) (all : QueueList) → w ≡ joined u v → IfOk one (IsGathered r u) → IfOk others (IsGathered r v) → AreMerged one others all → IsGathered r w all
  gathered_by_both u v w one others all is first second merged =
      let a = subst (λ x. IfOk x (IsGathered r u)) merged.first_is first in
      let b = subst (λ x. IfOk x (IsGathered r v)) merged.second_is second in
      let cs = new_children r.search (numbered r.batch u.drawn) in
      let ds = new_children r.search (numbered r.batch v.drawn) in
      record {
        ended = ap (λ x. x.ended) is ∙ ap (λ x. x || v.ended) a.ended;
        all = merged.all_is
            ∙ (λ i. record { cap = (a.all i).cap; weights = (a.all i).weights; list = firsts (a.all i).weights (a.all i).cap ((a.all i).list ++ (b.all i).list) })
            ∙ (λ i. record { cap = r.search.queue.cap; weights = r.search.queue.weights; list = offered_to_both r.search.queue cs ds i })
            ∙ ap (offered_to r.search.queue) (sym (children_of_both r.search (numbered r.batch u.drawn) (numbered r.batch v.drawn)) ∙ ap (new_children r.search) (sym (flat_map-append (λ d. take 1 (drop d r.batch)) u.drawn v.drawn)))
            ∙ (λ i. gathered r (sym is i).drawn);
      }

  -- the circuits with all numbers
  batch_has : (ds : List ℕ) (k : ProgramCircuit) → Has (numbered r.batch ds) k → Has r.batch k
  batch_has ds k there =
      let found = flat_map_has (λ d. take 1 (drop d r.batch)) ds k there in
      has_drop found.0 r.batch k (has_take 1 (drop found.0 r.batch) k found.2)

  has_batch : (ds : List ℕ) (k : ProgramCircuit) → ((n : ℕ) → n < length r.batch → Contains ds n) → Has r.batch k → Has (numbered r.batch ds) k
  has_batch ds k each there =
      let found = has_contains r.batch k there in
      let here : Has (take 1 (drop found.0 r.batch)) k = subst (λ cs. Has (take 1 cs) k) (sym (drop-cons r.batch found.0 k found.1)) (inl found.2) in
      has_flat_map (λ d. take 1 (drop d r.batch)) ds found.0 k (contains_has ds found.0 (each found.0 found.1)) here

  -- all that was drawn, where each number was
  pub gathered_all : (q : QueueList) (v : View) → q ≡ gathered r v.drawn → ((n : ℕ) → n < length r.batch → draws n v ≡ 1) → q ≡ offered_to r.search.queue (new_children r.search r.batch)
  gathered_all q v is drawn =
      let s = r.search in
      let next = children_by_table s.rules in
      let test = is_new s.queue.weights s.seen s.most in
      let each : (n : ℕ) → n < length r.batch → Contains v.drawn n =
      λ n inside. (let found = counted_there (λ d. d == n) v.drawn (omega (arith, drawn n inside)) in subst (Contains v.drawn) (eqb-true found.0 n found.2) found.1) in
      let moved : (cs ds : List ProgramCircuit) → ((c : ProgramCircuit) → Has cs c → Has ds c) → (k : ProgramCircuit) → Has (new_children s cs) k → Has (new_children s ds) k =
      λ cs ds passes k there. (
      let kept = filter_has test k (flat_map next cs) there in
      let found = flat_map_has next cs k kept.0 in
      has_filter test k (flat_map next ds) (has_flat_map next ds found.0 k (passes found.0 found.1) found.2) kept.1) in
      let same = first_same (program_cmp_total s.queue.weights) (program_cmp_exact s.queue.weights) s.queue.cap (new_children s (numbered r.batch v.drawn)) (new_children s r.batch)
      (moved (numbered r.batch v.drawn) r.batch (batch_has v.drawn))
      (moved r.batch (numbered r.batch v.drawn) (λ c. has_batch v.drawn c each)) in
      is ∙ (λ i. record { cap = s.queue.cap; weights = s.queue.weights; list = first_left (program_cmp s.queue.weights) s.queue.cap s.queue.list (new_children s (numbered r.batch v.drawn)) (new_children s r.batch) same i })
