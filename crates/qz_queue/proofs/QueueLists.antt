-- The lists of queues.
use Rattle.std.proofs.Common.{◌≡◌, ◌<◌, ◌≤◌, ℕ, zero, suc, ◌-◌, inl, inr, Bool, true, false, List, [], ◌∷◌, ◌++◌, ◌↔◌, IsTrue, length, map, take, drop, get_or, ltb, ◌==◌, min, Vec, vec_len, vec_capacity, Contains, append_assoc, append-nil, refl, sym, ap, subst, ◌∙◌, Less, Equal, Greater, arith}
use Rattle.std.specs.declared.cmp.Ordering.{Ordering}
use Rattle.std.specs.Ordering.{is_eq, is_lt, eq_by_cmp, ordering_reverse}
use Rattle.std.specs.List.{insert, list_any}
use Rattle.std.specs.BTreeSet.{insert_key}
use Rattle.std.proofs.lemmas.List.{take_all, length-map, length-append, length-take, take-map, take_min, length-drop}
use Rattle.std.proofs.lemmas.List.Sums.{count_by-le-length}
use Rattle.std.proofs.lemmas.Map.Views.{list_any-from_Contains, Contains-from_any}
use Rattle.std.proofs.lemmas.Bool.{eqb-true, eq-eqb}
use Rattle.std.proofs.lemmas.Cmp.{eq_by_cmp_equiv}
use Rattle.qz_circ.specs.ProgramCircuits.{ProgramCircuit, AreWeights, ones, cost, program_cmp}
use Rattle.qz_circ.specs.Queue.{QueueList, IsRefused, QueueStep, after_steps, given, different, first_cap, firsts}
use Rattle.qz_circ.specs.Queue.QueueStep.{Offer, Merge}
use Rattle.qz_circ.specs.declared.circuit.Inst.{Inst}
use Rattle.qz_circ.specs.Search.{is_among}
use Rattle.qz_circ.specs.Vectors.{lists_of}
use Rattle.qz_circ.proofs.ProgramOrder.{program_cmp_total, program_cmp_exact, same_test, equal_is}
use Rattle.qz_queue.specs.declared.priced.Priced.{Priced}
use Rattle.qz_queue.specs.Circuits.{circuits_of, ArePriced, AreOrdered, place_of}
use Rattle.qz_queue.specs.HeldQueue.{IsHeld}
use Rattle.qz_queue.proofs.DifferentOnes.{Strict, strict_different, strict_first, strict_drop, first_twice, first_moved, first_right, different_strict}
use Rattle.qz_queue.proofs.Ranks.{put_in, there_already, among_at, among_past, place_tells}

short_take : (n : ℕ) (cs : List ProgramCircuit) → length (take n cs) ≤ n
short_take zero cs = omega arith
short_take (suc n) [] = omega arith
short_take (suc n) (c ∷ cs) = omega (arith, short_take n cs)

take_front : (k n : ℕ) (cs ds : List ProgramCircuit) → k ≤ n → n ≤ length cs → take k (take n cs ++ ds) ≡ take k cs
take_front zero n cs ds h g = refl
take_front (suc k) zero cs ds h g = absurd (omega arith)
take_front (suc k) (suc n) [] ds h g = absurd (omega arith)
take_front (suc k) (suc n) (c ∷ cs) ds h g = ap (λ es. c ∷ es) (take_front k n cs ds (omega arith) (omega arith))

take_put : (n i : ℕ) (cs : List ProgramCircuit) (c : ProgramCircuit) → i ≤ n → take (suc n) (insert cs i c) ≡ insert (take n cs) i c
take_put n zero cs c h = refl
take_put zero (suc i) cs c h = absurd (omega arith)
take_put (suc n) (suc i) [] c h = refl
take_put (suc n) (suc i) (d ∷ ds) c h = ap (λ es. d ∷ es) (take_put n i ds c (omega arith))

pub among_contains : (cs : List ProgramCircuit) (c : ProgramCircuit) → is_among cs c ≡ true → Contains cs c
among_contains cs c h = Contains-from_any (λ x y e. program_cmp_exact ones x y (equal_is (program_cmp ones x y) e)) c cs h

pub contains_among : (cs : List ProgramCircuit) (c : ProgramCircuit) → Contains cs c → is_among cs c ≡ true
contains_among cs c h = list_any-from_Contains (eq_by_cmp_equiv (program_cmp_total ones)) c cs h

-- the vectors' circuits
pub circuits_put : (n i : ℕ) (vs : List Priced) (v : Priced) → circuits_of (insert (take n vs) i v) ≡ insert (take n (circuits_of vs)) i v.gates.items
circuits_put zero zero vs v = refl
circuits_put zero (suc i) vs v = refl
circuits_put (suc n) zero [] v = refl
circuits_put (suc n) zero (w ∷ ws) v = ap (λ cs. v.gates.items ∷ w.gates.items ∷ cs) (sym (take-map (λ u. u.gates.items) n ws))
circuits_put (suc n) (suc i) [] v = refl
circuits_put (suc n) (suc i) (w ∷ ws) v = ap (λ cs. w.gates.items ∷ cs) (circuits_put n i ws v)

same_backwards : (r : Ordering) → is_eq (ordering_reverse r) ≡ is_eq r
same_backwards Less = refl
same_backwards Equal = refl
same_backwards Greater = refl

circuits_insert : (i : ℕ) (vs : List Priced) (v : Priced) → circuits_of (insert vs i v) ≡ insert (circuits_of vs) i v.gates.items
circuits_insert zero vs v = refl
circuits_insert (suc i) [] v = refl
circuits_insert (suc i) (w ∷ ws) v = ap (λ cs. w.gates.items ∷ cs) (circuits_insert i ws v)

none_of : (n : ℕ) → take {A = ProgramCircuit} n [] ≡ []
none_of zero = refl
none_of (suc n) = refl

-- a batch is taken out at the front
pub batch_taken : {B : Type 0} (k n : ℕ) (list : Vec Priced B) → n ≡ min k (vec_len list) → circuits_of (take n list.items) ≡ take k (circuits_of list.items)
batch_taken k n list e =
    let vs = list.items in
    let n_is : n ≡ min k (length (circuits_of vs)) = omega (arith, list.ok.0, length-map vs (λ v. v.gates.items)) in
    sym (take-map (λ v. v.gates.items) n vs) ∙ (λ i. take (n_is i) (circuits_of vs)) ∙ take_min k (circuits_of vs)

drop_circuits : (n : ℕ) (vs : List Priced) → circuits_of (drop n vs) ≡ drop n (circuits_of vs)
drop_circuits zero vs = refl
drop_circuits (suc n) [] = refl
drop_circuits (suc n) (v ∷ vs) = drop_circuits n vs

drop_least : (k n : ℕ) (cs : List ProgramCircuit) → n ≡ min k (length cs) → drop n cs ≡ drop k cs
drop_least zero zero cs e = refl
drop_least zero (suc n) cs e = absurd (omega arith)
drop_least (suc k) zero [] e = refl
drop_least (suc k) zero (c ∷ cs) e = absurd (omega arith)
drop_least (suc k) (suc n) [] e = refl
drop_least (suc k) (suc n) (c ∷ cs) e = drop_least k n cs (omega arith)

pub batch_rest : {B : Type 0} (k n : ℕ) (list : Vec Priced B) → n ≡ min k (vec_len list) → circuits_of (drop n list.items) ≡ drop k (circuits_of list.items)
batch_rest k n list e =
    let vs = list.items in
    drop_circuits n vs ∙ drop_least k n (circuits_of vs) (omega (arith, list.ok.0, length-map vs (λ v. v.gates.items)))

-- prices
priced_drop : (ws : List ℕ) (n : ℕ) (vs : List Priced) → ArePriced ws vs → ArePriced ws (drop n vs)
priced_drop ws zero vs h = h
priced_drop ws (suc n) [] h = h
priced_drop ws (suc n) (v ∷ vs) h = priced_drop ws n vs h.1

priced_insert : (ws : List ℕ) (i : ℕ) (vs : List Priced) (v : Priced) → v.price ≡ cost ws v.gates.items → ArePriced ws vs → ArePriced ws (insert vs i v)
priced_insert ws zero vs v e h = (e, h)
priced_insert ws (suc i) [] v e h = (e, tt)
priced_insert ws (suc i) (u ∷ us) v e h = (h.0, priced_insert ws i us v e h.1)

priced_take : (ws : List ℕ) (n : ℕ) (vs : List Priced) → ArePriced ws vs → ArePriced ws (take n vs)
priced_take ws zero vs h = tt
priced_take ws (suc n) [] h = h
priced_take ws (suc n) (v ∷ vs) h = (h.0, priced_take ws n vs h.1)

pub priced_put : (ws : List ℕ) (n i : ℕ) (vs us : List Priced) (v : Priced) → v.price ≡ cost ws v.gates.items → ArePriced ws vs → us ≡ insert (take n vs) i v → ArePriced ws us
priced_put ws n i vs us v e h same = subst (ArePriced ws) (sym same) (priced_insert ws i (take n vs) v e (priced_take ws n vs h))

pub priced_added : (ws : List ℕ) (i : ℕ) (vs us : List Priced) (v : Priced) → v.price ≡ cost ws v.gates.items → ArePriced ws vs → us ≡ insert vs i v → ArePriced ws us
priced_added ws i vs us v e h same = subst (ArePriced ws) (sym same) (priced_insert ws i vs v e h)

priced_same : (ws : List ℕ) (vs us : List Priced) → ArePriced ws vs → circuits_of us ≡ circuits_of vs → map (λ p. p.price) us ≡ map (λ p. p.price) vs → ArePriced ws us
priced_same ws vs [] h e f = tt
priced_same ws [] (u ∷ us) h e f = cc
priced_same ws (v ∷ vs) (u ∷ us) h e f =
    let gates : u.gates.items ≡ v.gates.items = cc in
    let price : u.price ≡ v.price = cc in
    let rest : circuits_of us ≡ circuits_of vs = cc in
    let prices : map (λ p. p.price) us ≡ map (λ p. p.price) vs = cc in
    (price ∙ h.0 ∙ ap (cost ws) (sym gates), priced_same ws vs us h.1 rest prices)

-- where some are left to move, there is room
pub room_left : {A : Type 0} (taken : List (Vec Inst A)) (ps rest all : List Priced) (p : Priced) (n : ℕ) → lists_of taken ++ circuits_of ps ≡ circuits_of (take n all) → ps ≡ p ∷ rest → length taken < n
room_left taken ps rest all p n e f =
    omega (arith, ap length e, ap length f, length-append (lists_of taken) (circuits_of ps), length-map taken (λ v. v.items), length-map ps (λ v. v.gates.items), length-map (take n all) (λ v. v.gates.items), length-take n all)

-- one of them
pub price_at : (ws : List ℕ) (vs : List Priced) (i : ℕ) (v : Priced) → ArePriced ws vs → i < length vs → v ≡ get_or vs i v → v.price ≡ cost ws v.gates.items
price_at ws [] i v h l e = absurd (omega arith)
price_at ws (u ∷ us) zero v h l e = subst (λ p. p.price ≡ cost ws p.gates.items) (sym e) h.0
price_at ws (u ∷ us) (suc i) v h l e = price_at ws us i v h.1 (omega arith) e

pub circuit_at : (vs : List Priced) (i : ℕ) (v : Priced) → i < length vs → v ≡ get_or vs i v → get_or (circuits_of vs) i [] ≡ v.gates.items
circuit_at [] i v l e = absurd (omega arith)
circuit_at (u ∷ us) zero v l e = λ j. (sym e j).gates.items
circuit_at (u ∷ us) (suc i) v l e = circuit_at us i v (omega arith) e

module _ (ws : List ℕ) where
  -- whether a circuit is there, by these weights
  among_by : (cs : List ProgramCircuit) (c : ProgramCircuit) → is_among cs c ≡ list_any (eq_by_cmp (program_cmp ws) c) cs
  among_by cs c = λ i. list_any (λ d. same_test ones ws c d i) cs

  -- circuits that are different and in order
  pub strict_circuits : (cs : List ProgramCircuit) → AreOrdered ws cs → Strict (program_cmp ws) cs
  strict_circuits cs h = subst (Strict (program_cmp ws)) h (strict_different (program_cmp_total ws) (program_cmp_exact ws) cs)

  pub queue_ordered : (cap : ℕ) (cs : List ProgramCircuit) → firsts ws cap cs ≡ cs → AreOrdered ws cs
  queue_ordered cap cs h =
      different_strict (program_cmp_total ws) (program_cmp_exact ws) cs (subst (Strict (program_cmp ws)) h (strict_first (program_cmp_total ws) (program_cmp_exact ws) cap cs))

  pub queue_few : (cap : ℕ) (cs : List ProgramCircuit) → firsts ws cap cs ≡ cs → length cs ≤ cap
  unfolding first_cap
  queue_few cap cs h = omega (arith, short_take cap (different (program_cmp ws) cs), ap length h)

  -- one more is put into what the first different ones are
  offered_into : (cap : ℕ) (cs : List ProgramCircuit) (c : ProgramCircuit) → AreOrdered ws cs → firsts ws cap (c ∷ cs) ≡ take cap (insert_key (program_cmp ws) cs c)
  unfolding first_cap different
  offered_into cap cs c h = ap (λ ds. take cap (insert_key (program_cmp ws) ds c)) h

  -- a circuit that is there changes nothing
  pub offer_there : (cap : ℕ) (cs : List ProgramCircuit) (c : ProgramCircuit) → firsts ws cap cs ≡ cs → is_among cs c ≡ true → firsts ws cap (c ∷ cs) ≡ cs
  offer_there cap cs c h there =
      let ordered = queue_ordered cap cs h in
      offered_into cap cs c ordered ∙ ap (take cap) (there_already (program_cmp_total ws) cs c (strict_circuits cs ordered) (sym (among_by cs c) ∙ there)) ∙ take_all cap cs (queue_few cap cs h)

  -- nor does one before which there are as many as the queue holds
  pub offer_late : (cap : ℕ) (cs : List ProgramCircuit) (c : ProgramCircuit) → firsts ws cap cs ≡ cs → cap ≤ place_of ws cs c → firsts ws cap (c ∷ cs) ≡ cs
  offer_late cap cs c h late = by (is_among cs c) refl
    where
      by : (b : Bool) → is_among cs c ≡ b → firsts ws cap (c ∷ cs) ≡ cs
      by true there = offer_there cap cs c h there
      by false missing =
          let ordered = queue_ordered cap cs h in
          offered_into cap cs c ordered ∙ ap (take cap) (put_in (program_cmp_total ws) cs c (strict_circuits cs ordered) (sym (among_by cs c) ∙ missing))
          ∙ take_front cap (place_of ws cs c) cs (c ∷ drop (place_of ws cs c) cs) late (count_by-le-length _ cs) ∙ take_all cap cs (queue_few cap cs h)

  -- any other one is put in its place, and what is too many at the end is dropped
  pub offer_put : (cap : ℕ) (cs : List ProgramCircuit) (c : ProgramCircuit) → firsts ws cap cs ≡ cs → is_among cs c ≡ false → place_of ws cs c < cap → firsts ws cap (c ∷ cs) ≡ insert (take (cap - 1) cs) (place_of ws cs c) c
  offer_put zero cs c h missing early = absurd (omega arith)
  offer_put (suc n) cs c h missing early =
      let ordered = queue_ordered (suc n) cs h in
      let less : n ≡ suc n - 1 = omega arith in
      offered_into (suc n) cs c ordered ∙ ap (take (suc n)) (put_in (program_cmp_total ws) cs c (strict_circuits cs ordered) (sym (among_by cs c) ∙ missing))
      ∙ take_put n (place_of ws cs c) cs c (omega arith) ∙ (λ i. insert (take (less i) cs) (place_of ws cs c) c)

  -- whether a circuit is there shows at its place
  pub there_at : (cs : List ProgramCircuit) (c : ProgramCircuit) (i : ℕ) → AreOrdered ws cs → i ≡ place_of ws cs c → i < length cs → is_among cs c ≡ eq_by_cmp (program_cmp ws) c (get_or cs i [])
  there_at cs c i h e l =
      among_by cs c ∙ among_at (program_cmp_total ws) cs c [] (strict_circuits cs h) (omega arith) ∙ (λ j. eq_by_cmp (program_cmp ws) c (get_or cs (sym e j) []))

  pub there_past : (cs : List ProgramCircuit) (c : ProgramCircuit) (i : ℕ) → AreOrdered ws cs → i ≡ place_of ws cs c → length cs ≤ i → is_among cs c ≡ false
  there_past cs c i h e l = among_by cs c ∙ among_past (program_cmp_total ws) cs c (strict_circuits cs h) (omega arith)

  -- whether one of them is before a circuit tells on which side of the circuit's place it is
  pub place_below : (cs : List ProgramCircuit) (c : ProgramCircuit) (m : ℕ) → AreOrdered ws cs → m < length cs → is_lt ((program_cmp ws) (get_or cs m []) c) ≡ ltb m (place_of ws cs c)
  place_below cs c m h l = place_tells (program_cmp_total ws) cs c m [] (strict_circuits cs h) l

  -- whether the circuit is among them, where so many are before it
  abbrev pub IsFound : List ProgramCircuit → ProgramCircuit → ℕ → Bool → Type 0
  IsFound cs c high found = place_of ws cs c ≡ high → found ≡ is_among cs c

  pub found_none : (cs : List ProgramCircuit) (c : ProgramCircuit) (n : ℕ) → AreOrdered ws cs → n ≡ length cs → IsFound cs c n false
  found_none cs c n h e = λ here. sym (there_past cs c n h (sym here) (omega arith))

  pub found_at : (cs : List ProgramCircuit) (c : ProgramCircuit) (m : ℕ) (r : Ordering) (found : Bool) → AreOrdered ws cs → m < length cs → r ≡ (program_cmp ws) (get_or cs m []) c → found ≡ is_eq r → IsFound cs c m found
  found_at cs c m r found h l e f = λ here.
      f ∙ sym (same_backwards r) ∙ ap (λ s. is_eq (ordering_reverse s)) e ∙ sym (ap is_eq ((program_cmp_total ws).antisymm c (get_or cs m [])))
      ∙ sym (there_at cs c m h (sym here) l)

  pub found_there : (cs : List ProgramCircuit) (c : ProgramCircuit) (low high : ℕ) (found : Bool) → low ≤ place_of ws cs c → place_of ws cs c ≤ high → high ≤ low → IsFound cs c high found → found ≡ is_among cs c
  found_there cs c low high found from below over h = h (omega arith)

  module _ {B : Type 0} where
    pub held_empty : (most : ℕ) (list : Vec Priced B) → 1 ≤ most → most ≤ 500 → AreWeights ws → list.items ≡ [] → most ≤ vec_capacity list → IsHeld most ws list
    unfolding first_cap different
    held_empty most list some few weighed e room =
        record {
          lawful = record {
            some = some;
            few = few;
            weighed = weighed;
            ordered = (λ i. firsts ws most (circuits_of (e i))) ∙ none_of most ∙ sym (ap circuits_of e);
          };
          priced = subst (ArePriced ws) (sym e) tt;
          room = room;
        }

    -- the new list is the first of some circuits
    pub held_first : (most : ℕ) (old new : Vec Priced B) (cs : List ProgramCircuit) → IsHeld most ws old → ArePriced ws new.items → circuits_of new.items ≡ firsts ws most cs → most ≤ vec_capacity new → IsHeld most ws new
    held_first most old new cs held priced e room =
        record {
          lawful = record {
            some = held.lawful.some;
            few = held.lawful.few;
            weighed = held.lawful.weighed;
            ordered = ap (firsts ws most) e ∙ first_twice (program_cmp_total ws) (program_cmp_exact ws) most cs ∙ sym e;
          };
          priced = priced;
          room = room;
        }

  -- a place in a queue's list that isn't the most that it holds is below it
  pub early : (most : ℕ) (vs : List Priced) (i : ℕ) → firsts ws most (circuits_of vs) ≡ circuits_of vs → i ≤ length vs → (i ≡ most → ⊥) → i < most
  early most vs i h within other = omega (arith, queue_few most (circuits_of vs) h, length-map vs (λ v. v.gates.items))

  -- the first of circuits that are in order and no more are they all
  pub all_first : (most : ℕ) (cs : List ProgramCircuit) → Strict (program_cmp ws) cs → length cs ≤ most → firsts ws most cs ≡ cs
  unfolding first_cap
  all_first most cs s few =
      ap (take most) (different_strict (program_cmp_total ws) (program_cmp_exact ws) cs s) ∙ take_all most cs few

  pub rest_first : (most n : ℕ) (cs : List ProgramCircuit) → firsts ws most cs ≡ cs → firsts ws most (drop n cs) ≡ drop n cs
  rest_first most n cs h =
      all_first most (drop n cs) (strict_drop (program_cmp ws) n cs (strict_circuits cs (queue_ordered most cs h))) (omega (arith, length-drop n cs, queue_few most cs h))

  pub held_rest : {B : Type 0} (most n : ℕ) (old new : Vec Priced B) → IsHeld most ws old → new.items ≡ drop n old.items → vec_capacity new ≡ vec_capacity old → IsHeld most ws new
  held_rest most n old new held e room =
      let rest = ap circuits_of e ∙ drop_circuits n old.items in
      record {
        lawful = record {
          some = held.lawful.some;
          few = held.lawful.few;
          weighed = held.lawful.weighed;
          ordered = ap (firsts ws most) rest ∙ rest_first most n (circuits_of old.items) held.lawful.ordered ∙ sym rest;
        };
        priced = subst (ArePriced ws) (sym e) (priced_drop ws n old.items held.priced);
        room = omega (arith, held.room);
      }

  -- a copy of a queue is one
  pub held_copy : {B : Type 0} (most : ℕ) (old new : Vec Priced B) → IsHeld most ws old → circuits_of new.items ≡ circuits_of old.items → map (λ p. p.price) new.items ≡ map (λ p. p.price) old.items → most ≤ vec_capacity new → IsHeld most ws new
  held_copy most old new held same prices room =
      record {
        lawful = record {
          some = held.lawful.some;
          few = held.lawful.few;
          weighed = held.lawful.weighed;
          ordered = ap (firsts ws most) same ∙ held.lawful.ordered ∙ sym same;
        };
        priced = priced_same ws old.items new.items held.priced same prices;
        room = room;
      }

  -- the list after a circuit was put in
  pub list_put : (most : ℕ) (vs : List Priced) (v : Priced) (i : ℕ) (us : List Priced) → firsts ws most (circuits_of vs) ≡ circuits_of vs → i ≡ place_of ws (circuits_of vs) v.gates.items → i ≤ length vs → (i ≡ most → ⊥) → is_among (circuits_of vs) v.gates.items ≡ false
      → us ≡ insert (take (most - 1) vs) i v → circuits_of us ≡ firsts ws most (v.gates.items ∷ circuits_of vs)
  list_put most vs v i us h at within other missing e =
      let below = early most vs i h within other in
      ap circuits_of e ∙ circuits_put (most - 1) i vs v ∙ (λ j. insert (take (most - 1) (circuits_of vs)) (at j) v.gates.items)
      ∙ sym (offer_put most (circuits_of vs) v.gates.items h missing (omega (arith, at, below)))

  -- after offers and merges the list is the first of all that were there and were given
  pub steps_are : (cap : ℕ) (cs : List ProgramCircuit) → firsts ws cap cs ≡ cs → (steps : List QueueStep) → after_steps ws cap cs steps ≡ firsts ws cap (cs ++ given steps)
  steps_are most cs h [] = sym h ∙ ap (firsts ws most) (sym (append-nil cs))
  steps_are most cs h (Offer c ∷ steps) =
      steps_are most (firsts ws most (c ∷ cs)) (first_twice (program_cmp_total ws) (program_cmp_exact ws) most (c ∷ cs)) steps ∙ first_moved (program_cmp_total ws) (program_cmp_exact ws) most c cs (given steps)
  steps_are most cs h (Merge others ∷ steps) =
      steps_are most (firsts ws most (cs ++ others)) (first_twice (program_cmp_total ws) (program_cmp_exact ws) most (cs ++ others)) steps
      ∙ first_right (program_cmp_total ws) (program_cmp_exact ws) most (firsts ws most (cs ++ others)) (cs ++ others) (given steps) (first_twice (program_cmp_total ws) (program_cmp_exact ws) most (cs ++ others))
      ∙ ap (firsts ws most) (append_assoc cs others (given steps))

  -- one more in a set of circuits
  pub different_there : (cs : List ProgramCircuit) (c : ProgramCircuit) → AreOrdered ws cs → is_among cs c ≡ true → different (program_cmp ws) (c ∷ cs) ≡ cs
  unfolding different
  different_there cs c h there =
      ap (λ ds. insert_key (program_cmp ws) ds c) h ∙ there_already (program_cmp_total ws) cs c (strict_circuits cs h) (sym (among_by cs c) ∙ there)

  pub different_put : (vs : List Priced) (v : Priced) (i : ℕ) (us : List Priced) → AreOrdered ws (circuits_of vs) → i ≡ place_of ws (circuits_of vs) v.gates.items → is_among (circuits_of vs) v.gates.items ≡ false → us ≡ insert vs i v
      → circuits_of us ≡ different (program_cmp ws) (v.gates.items ∷ circuits_of vs)
  unfolding different
  different_put vs v i us h at missing e =
      let cs = circuits_of vs in
      ap circuits_of e ∙ circuits_insert i vs v ∙ (λ j. insert cs (at j) v.gates.items)
      ∙ sym (ap (λ ds. insert_key (program_cmp ws) ds v.gates.items) h ∙ put_in (program_cmp_total ws) cs v.gates.items (strict_circuits cs h) (sym (among_by cs v.gates.items) ∙ missing))

  pub different_twice : (cs ds : List ProgramCircuit) → cs ≡ different (program_cmp ws) ds → AreOrdered ws cs
  different_twice cs ds e =
      different_strict (program_cmp_total ws) (program_cmp_exact ws) cs (subst (Strict (program_cmp ws)) (sym e) (strict_different (program_cmp_total ws) (program_cmp_exact ws) ds))

pub same_list : (q : QueueList) (cs : List ProgramCircuit) → cs ≡ q.list → q ≡ record { cap = q.cap; weights = q.weights; list = cs }
same_list q cs e = λ i. record { cap = q.cap; weights = q.weights; list = sym e i }

-- a circuit that isn't there, and before which there are fewer than the queue holds, is not refused
pub accepted : (q : QueueList) (c : ProgramCircuit) → is_among q.list c ≡ false → place_of q.weights q.list c < q.cap → IsRefused q c → ⊥
accepted q c missing early (inl there) = let h = contains_among q.list c there in cc
accepted q c missing early (inr late) = omega arith

-- a queue refuses a circuit that is there
pub there_refused : (q : QueueList) (c : ProgramCircuit) (found : Bool) → found ≡ is_among q.list c → found ≡ true → IsTrue found ↔ IsRefused q c
there_refused q c found e h = (λ f. inl (among_contains q.list c (sym e ∙ h)), λ refused. h)

-- and any other one where as many as it holds are before that
pub late_refused : (q : QueueList) (c : ProgramCircuit) (n : ℕ) → firsts q.weights q.cap q.list ≡ q.list → n ≡ place_of q.weights q.list c → is_among q.list c ≡ false → IsTrue (n == q.cap) ↔ IsRefused q c
late_refused q c n h at missing = (forth, back)
  where
    forth : IsTrue (n == q.cap) → IsRefused q c
    forth e = let same : n ≡ q.cap = eqb-true n q.cap e in inr (omega (arith, at, same))

    back : IsRefused q c → IsTrue (n == q.cap)
    back (inl there) = let e = contains_among q.list c there in cc
    back (inr late) =
        let few = count_by-le-length (λ d. is_lt ((program_cmp q.weights) d c)) q.list in
        eq-eqb n q.cap (omega (arith, at, late, few, queue_few q.weights q.cap q.list h))

-- one circuit of another queue is offered, and the others are left
pub offer_step : (q new : QueueList) (c : ProgramCircuit) (rest : List ProgramCircuit) → new ≡ record { cap = q.cap; weights = q.weights; list = firsts q.weights q.cap (c ∷ q.list) }
    → (new.cap ≡ q.cap) × (new.weights ≡ q.weights) × (firsts new.weights new.cap new.list ≡ new.list) × (firsts new.weights new.cap (new.list ++ rest) ≡ firsts q.weights q.cap (q.list ++ c ∷ rest))
offer_step q new c rest e = (
  (λ i. (e i).cap),
  (λ i. (e i).weights),
  (λ i. firsts (e i).weights (e i).cap (e i).list) ∙ first_twice (program_cmp_total q.weights) (program_cmp_exact q.weights) q.cap (c ∷ q.list) ∙ (λ i. (sym e i).list),
  (λ i. firsts (e i).weights (e i).cap ((e i).list ++ rest)) ∙ first_moved (program_cmp_total q.weights) (program_cmp_exact q.weights) q.cap c q.list rest,
)
