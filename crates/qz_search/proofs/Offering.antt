-- Circuits that are offered to a queue in turn.
use Rattle.std.proofs.Common.{◌≡◌, ◌<◌, ◌≤◌, not, ◌&&◌, nat_le, map, ◌+◌, ℕ, suc, inl, inr, Contains, Some, slice_get, get_or, Less, Equal, Greater, Bool, true, false, cond, List, [], ◌∷◌, ◌++◌, length, take, drop, Vec, append_assoc, append-nil, drop-cons, refl, sym, ap, subst, ◌∙◌, arith}
use Rattle.std.specs.declared.cmp.Ordering.{Ordering}
use Rattle.std.specs.Ordering.{is_lt, ordering_reverse}
use Rattle.std.specs.List.{filter, flat_map}
use Rattle.std.proofs.lemmas.List.{length-map, get_or-map, map_more, at_drop_all}
use Rattle.std.proofs.lemmas.List.Elements.{filter-append}
use Rattle.qz_circ.specs.declared.circuit.Inst.{Inst}
use Rattle.qz_circ.specs.ProgramCircuits.{ProgramCircuit, ones, cost, program_cmp}
use Rattle.qz_circ.specs.Queue.{QueueList, IsQueue, different, firsts}
use Rattle.qz_circ.proofs.ProgramOrder.{program_cmp_total, program_cmp_exact}
use Rattle.qz_circ.specs.Search.{is_among, earliest, most_grown}
use Rattle.qz_circ.specs.Vectors.{lists_of}
use Rattle.qz_queue.proofs.DifferentOnes.{Has, Strict, first_twice, first_right, first_swap, different_same, has_append, has_left, has_right, has_different, different_has}
use Rattle.qz_queue.proofs.QueueLists.{strict_circuits, queue_ordered}
use Rattle.qz_search.specs.Offers.{is_new, offered_to}
use Rattle.qz_search.proofs.Members.{filter_has}
use Rattle.std.proofs.lemmas.Bool.Decides.{nat_tests}

-- nothing offered changes nothing
pub nothing_offered : (q : QueueList) → IsQueue q → q ≡ offered_to q []
nothing_offered q h = λ i. record { cap = q.cap; weights = q.weights; list = (sym h.ordered ∙ ap (firsts q.weights q.cap) (sym (append-nil q.list))) i }

-- after some circuits were offered a queue is one still
pub offered_lawful : (q : QueueList) (cs : List ProgramCircuit) → IsQueue q → IsQueue (offered_to q cs)
offered_lawful q cs h =
    record { some = h.some; few = h.few; weighed = h.weighed; ordered = first_twice (program_cmp_total q.weights) (program_cmp_exact q.weights) q.cap (q.list ++ cs) }

-- circuits that are offered after others are offered with them
pub offered_on : (q new : QueueList) (cs rest : List ProgramCircuit) → new ≡ offered_to q cs → offered_to new rest ≡ offered_to q (cs ++ rest)
offered_on q new cs rest e =
    ap (λ n. offered_to n rest) e ∙ (λ i. record { cap = q.cap; weights = q.weights; list = (first_right (program_cmp_total q.weights) (program_cmp_exact q.weights) q.cap (firsts q.weights q.cap (q.list ++ cs)) (q.list ++ cs) rest (first_twice (program_cmp_total q.weights) (program_cmp_exact q.weights) q.cap (q.list ++ cs)) ∙ ap (firsts q.weights q.cap) (append_assoc q.list cs rest)) i })

-- some of all circuits were offered to the queue, and the rest wasn't yet
pub record IsOffering (q old : QueueList) (rest all : List ProgramCircuit) : Type 0 where
  pub lawful : IsQueue q
  pub same : offered_to q rest ≡ offered_to old all

-- it still has its weights
pub offering_weights : (q old : QueueList) (rest all : List ProgramCircuit) → IsOffering q old rest all → q.weights ≡ old.weights
offering_weights q old rest all h = ap (λ s. s.weights) h.same

pub offering_start : (q : QueueList) (all : List ProgramCircuit) → IsQueue q → IsOffering q q all all
offering_start q all h = record { lawful = h; same = refl }

pub offering_step : (q old new : QueueList) (cs rest more all : List ProgramCircuit) → IsOffering q old more all → more ≡ cs ++ rest → new ≡ offered_to q cs → IsOffering new old rest all
offering_step q old new cs rest more all h parts e =
    record {
      lawful = subst IsQueue (sym e) (offered_lawful q cs h.lawful);
      same = offered_on q new cs rest e ∙ ap (offered_to q) (sym parts) ∙ h.same;
    }

pub offering_end : (q old : QueueList) (rest all : List ProgramCircuit) → IsOffering q old rest all → rest ≡ [] → q ≡ offered_to old all
offering_end q old rest all h none = nothing_offered q h.lawful ∙ ap (offered_to q) (sym none) ∙ h.same

pub one_offered : (q new : QueueList) (c : ProgramCircuit) (t : Bool) → t ≡ true → new ≡ record { cap = q.cap; weights = q.weights; list = firsts q.weights q.cap (c ∷ q.list) } → new ≡ offered_to q (cond t (c ∷ []) [])
one_offered q new c t e h =
    h ∙ (λ i. record { cap = q.cap; weights = q.weights; list = first_swap (program_cmp_total q.weights) (program_cmp_exact q.weights) q.cap (c ∷ []) q.list i }) ∙ (λ i. offered_to q (cond (sym e i) (c ∷ []) []))

drop_front : {A : Type 0} (vs : List (Vec Inst A)) (i : ℕ) (v : Vec Inst A) → i < length vs → drop i vs ≡ get_or vs i v ∷ drop (i + 1) vs
drop_front vs i v l = let one : i + 1 ≡ suc i = omega arith in rw one (drop-cons vs i v l)

-- circuits in vectors, one at a time
pub in_batch : {A : Type 0} (vs : List (Vec Inst A)) (i : ℕ) (v : Vec Inst A) → i < length vs → v ≡ get_or vs i v → Contains (lists_of vs) v.items
in_batch vs i v l e = (i, omega (arith, length-map vs (λ u. u.items)), get_or-map (λ u. u.items) vs i v v.items l ∙ (λ j. (sym e j).items))

pub batch_front : {A : Type 0} (vs : List (Vec Inst A)) (i : ℕ) (v : Vec Inst A) → i < length vs → v ≡ get_or vs i v → lists_of (drop i vs) ≡ v.items ∷ lists_of (drop (i + 1) vs)
batch_front vs i v l e = ap lists_of (drop_front vs i v l) ∙ (λ j. (sym e j).items ∷ lists_of (drop (i + 1) vs))

pub batch_more : {A : Type 0} (all : List ProgramCircuit) (vs : List (Vec Inst A)) (i : ℕ) (v : Vec Inst A) → i < length vs → v ≡ get_or vs i v → (all ++ lists_of (take i vs)) ++ v.items ∷ [] ≡ all ++ lists_of (take (i + 1) vs)
batch_more all vs i v l e =
    append_assoc all (lists_of (take i vs)) (v.items ∷ []) ∙ ap (λ cs. all ++ cs) ((λ j. lists_of (take i vs) ++ (e j).items ∷ []) ∙ sym (map_more (λ u. u.items) vs i v l))

-- one more circuit in a set
pub seen_step : (seen new xs : List ProgramCircuit) (c : ProgramCircuit) → seen ≡ different (program_cmp ones) xs → new ≡ different (program_cmp ones) (c ∷ seen) → new ≡ different (program_cmp ones) (xs ++ c ∷ [])
seen_step seen new xs c e h =
    h ∙ ap (λ cs. different (program_cmp ones) (c ∷ cs)) e ∙ different_same (program_cmp_total ones) (program_cmp_exact ones) (c ∷ different (program_cmp ones) xs) (xs ++ c ∷ []) there back
  where
    there : (k : ProgramCircuit) → Has (c ∷ different (program_cmp ones) xs) k → Has (xs ++ c ∷ []) k
    there k (inl f) = has_right xs (c ∷ []) k (inl f)
    there k (inr g) = has_left xs (c ∷ []) k (has_different (program_cmp_total ones) (program_cmp_exact ones) k xs g)

    back : (k : ProgramCircuit) → Has (xs ++ c ∷ []) k → Has (c ∷ different (program_cmp ones) xs) k
    back k g =
        elim (has_append xs (c ∷ []) k g) [ inl f ↦ inr (different_has (program_cmp_total ones) (program_cmp_exact ones) k xs f) | inr f ↦ elim f [ inl e ↦ inl e | inr n ↦ absurd n ] ]

-- what circuits become, one after the other
pub offers_front : (test : ProgramCircuit → Bool) (f : ProgramCircuit → List ProgramCircuit) (cs ds : List ProgramCircuit) (c : ProgramCircuit) → cs ≡ c ∷ ds → filter test (flat_map f cs) ≡ filter test (f c) ++ filter test (flat_map f ds)
offers_front test f cs ds c e = ap (λ es. filter test (flat_map f es)) e ∙ filter-append test (f c) (flat_map f ds)

-- the earliest of a circuit and others in order, by the first of them
earliest_kept : (ws : List ℕ) (b : ProgramCircuit) (cs : List ProgramCircuit) → ((k : ProgramCircuit) → Has cs k → is_lt (program_cmp ws k b) ≡ false) → earliest ws b cs ≡ b
earliest_kept ws b [] h = refl
earliest_kept ws b (c ∷ cs) h =
    (λ i. earliest ws (cond (h c (inl refl) i) c b) cs) ∙ earliest_kept ws b cs (λ k g. h k (inr g))

earliest_first : (ws : List ℕ) (b : ProgramCircuit) (cs : List ProgramCircuit) (first : ProgramCircuit) → Strict (program_cmp ws) cs → slice_get cs 0 ≡ Some first → earliest ws b cs ≡ cond (is_lt (program_cmp ws first b)) first b
earliest_first ws b cs first s e = by cs s e
  where
    after : (a k : ProgramCircuit) → program_cmp ws a k ≡ Less → is_lt (program_cmp ws k a) ≡ false
    after a k g = ap is_lt ((program_cmp_total ws).antisymm k a ∙ ap ordering_reverse g)

    chosen : (c : ProgramCircuit) (cs : List ProgramCircuit) → Strict (program_cmp ws) (c ∷ cs) → (r : Ordering) → program_cmp ws c b ≡ r → earliest ws (cond (is_lt r) c b) cs ≡ cond (is_lt r) c b
    chosen c cs s Less g = earliest_kept ws c cs (λ k f. after c k (s.0 k f))
    chosen c cs s Equal g =
        earliest_kept ws b cs (λ k f. after b k (sym ((program_cmp_total ws).congr c b k g) ∙ s.0 k f))
    chosen c cs s Greater g =
        earliest_kept ws b cs (λ k f. after b k ((program_cmp_total ws).trans b c k ((program_cmp_total ws).antisymm b c ∙ ap ordering_reverse g) (s.0 k f)))

    by : (cs : List ProgramCircuit) → Strict (program_cmp ws) cs → slice_get cs 0 ≡ Some first → earliest ws b cs ≡ cond (is_lt (program_cmp ws first b)) first b
    by [] s g = cc
    by (c ∷ cs) s g =
        let same : c ≡ first = cc in
        chosen c cs s (program_cmp ws c b) refl ∙ (λ i. cond (is_lt (program_cmp ws (same i) b)) (same i) b)

-- those that pass a test are in order too
strict_filter : {K : Type 0} (R : K → K → Ordering) (test : K → Bool) (xs : List K) → Strict R xs → Strict R (filter test xs)
strict_filter R test [] s = tt
strict_filter R test (x ∷ xs) s = by (test x) (strict_filter R test xs s.1)
  where
    by : (b : Bool) → Strict R (filter test xs) → Strict R (cond b (x ∷ filter test xs) (filter test xs))
    by true rest = (λ k h. s.0 k (filter_has test k xs h).0, rest)
    by false rest = rest

-- the earliest of a circuit and those of a queue that pass a test, by the first of these
pub earliest_of_queue : (b : ProgramCircuit) (q : QueueList) (test : ProgramCircuit → Bool) (first : ProgramCircuit) → IsQueue q → slice_get (filter test q.list) 0 ≡ Some first → earliest q.weights b (filter test q.list) ≡ cond (is_lt (program_cmp q.weights first b)) first b
earliest_of_queue b q test first h e =
    earliest_first q.weights b (filter test q.list) first (strict_filter (program_cmp q.weights) test q.list (strict_circuits q.weights q.list (queue_ordered q.weights q.cap q.list h.ordered))) e

-- ---- circuits that change nothing

-- one that is too dear
too_dear : (ws : List ℕ) (seen : List ProgramCircuit) (most n : ℕ) (c : ProgramCircuit) → most < n → cost ws c ≡ n → is_new ws seen most c ≡ false
too_dear ws seen most n c h e = by (not (is_among seen c)) (nat_le (length c) most_grown)
  where
    dear : nat_le (cost ws c) most ≡ false
    dear = grind (arith, nat_tests)

    by : (b few : Bool) → b && (nat_le (cost ws c) most && few) ≡ false
    by true few = (λ i. dear i && few)
    by false few = refl

pub dear_lost : (q : QueueList) (seen : List ProgramCircuit) (most n : ℕ) (c : ProgramCircuit) → IsQueue q → most < n → cost q.weights c ≡ n → q ≡ offered_to q (filter (is_new q.weights seen most) (c ∷ []))
dear_lost q seen most n c h less e =
    nothing_offered q h ∙ (λ i. offered_to q (cond (sym (too_dear q.weights seen most n c less e) i) (c ∷ []) []))

-- and one that the queue is closed to
pub closed_lost : (q : QueueList) (seen : List ProgramCircuit) (most : ℕ) (c : ProgramCircuit) → IsQueue q → firsts q.weights q.cap (c ∷ q.list) ≡ q.list → q ≡ offered_to q (filter (is_new q.weights seen most) (c ∷ []))
closed_lost q seen most c h closed = by (is_new q.weights seen most c)
  where
    by : (b : Bool) → q ≡ offered_to q (cond b (c ∷ []) [])
    by true = one_offered q q c true refl (λ i. record { cap = q.cap; weights = q.weights; list = sym closed i })
    by false = nothing_offered q h

-- what each of some gives, offered one after the other
module _ {A : Type 0} (test : ProgramCircuit → Bool) (f : A → List ProgramCircuit) (xs : List A) where
  front : (i : ℕ) (x : A) → i < length xs → x ≡ get_or xs i x → filter test (flat_map f (drop i xs)) ≡ filter test (f x) ++ filter test (flat_map f (drop (i + 1) xs))
  front i x l e =
      let one : i + 1 ≡ suc i = omega arith in
      ap (λ ys. filter test (flat_map f ys)) (drop-cons xs i x l ∙ (λ j. sym e j ∷ drop (suc i) xs))
      ∙ filter-append test (f x) (flat_map f (drop (suc i) xs))
      ∙ ap (λ k. filter test (f x) ++ filter test (flat_map f (drop k xs))) (sym one)

  pub each_step : (q old new : QueueList) (i : ℕ) (x : A) → IsOffering q old (filter test (flat_map f (drop i xs))) (filter test (flat_map f xs)) → i < length xs → x ≡ get_or xs i x → new ≡ offered_to q (filter test (f x))
      → IsOffering new old (filter test (flat_map f (drop (i + 1) xs))) (filter test (flat_map f xs))
  each_step q old new i x h l is e =
      offering_step q old new (filter test (f x)) (filter test (flat_map f (drop (i + 1) xs))) (filter test (flat_map f (drop i xs))) (filter test (flat_map f xs)) h (front i x l is) e

  pub each_end : (q old : QueueList) (i : ℕ) → IsOffering q old (filter test (flat_map f (drop i xs))) (filter test (flat_map f xs)) → length xs ≤ i → q ≡ offered_to old (filter test (flat_map f xs))
  each_end q old i h l =
      offering_end q old (filter test (flat_map f (drop i xs))) (filter test (flat_map f xs)) h (at_drop_all (λ ys. filter test (flat_map f ys)) xs i l)

-- a map is all of one each
pub as_flat : {A B : Type 0} (f : A → B) (xs : List A) → map f xs ≡ flat_map (λ x. f x ∷ []) xs
as_flat f [] = refl
as_flat f (x ∷ xs) = ap (λ ys. f x ∷ ys) (as_flat f xs)
