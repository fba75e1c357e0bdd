-- What the cost of a queue's last circuit tells of the others and of those that are offered.
use Rattle.std.proofs.Common.{◌≡◌, ◌<◌, ◌≤◌, ◌+◌, ◌-◌, ◌↔◌, ℕ, zero, suc, inl, inr, Bool, true, false, cond, IsTrue, ltb, List, [], ◌∷◌, length, get_or, Vec, vec_len, count_by, refl, sym, ap, ◌∙◌, arith}
use Rattle.std.specs.Ordering.{is_lt, is_gt}
use Rattle.std.proofs.lemmas.List.Sums.{sum_by-cons, count_by-le-length}
use Rattle.std.proofs.lemmas.List.{length-map}
use Rattle.std.proofs.lemmas.Bool.{ltb-true, lt-ltb}
use Rattle.qz_circ.specs.ProgramCircuits.{ProgramCircuit, cost, program_cmp}
use Rattle.qz_circ.specs.Queue.{QueueList, IsQueue, firsts}
use Rattle.qz_circ.proofs.ProgramOrder.{not_dearer, cheaper_earlier}
use Rattle.qz_queue.specs.declared.priced.Priced.{Priced}
use Rattle.qz_queue.specs.Circuits.{circuits_of, ArePriced}
use Rattle.qz_queue.proofs.DifferentOnes.{Has, Strict}
use Rattle.qz_queue.proofs.QueueLists.{strict_circuits, queue_ordered, queue_few, offer_late, price_at, circuit_at}

bit_more : (a b : Bool) → (a ≡ true → b ≡ true) → cond {A = ℕ} a 1 0 ≤ cond {A = ℕ} b 1 0
bit_more true b h = let e = ap {B = ℕ} (λ c. cond c 1 0) (h refl) in omega (arith, e)
bit_more false b h = omega arith

module _ {K : Type 0} where
  count_front : (p : K → Bool) (x : K) (xs : List K) → count_by p (x ∷ xs) ≡ cond (p x) 1 0 + count_by p xs
  count_front p x xs = sum_by-cons (λ d. cond (p d) 1 0) x xs

  -- what passes one test and so another is counted by both
  pub count_more : (p r : K → Bool) (xs : List K) → ((k : K) → p k ≡ true → r k ≡ true) → count_by p xs ≤ count_by r xs
  count_more p r [] h = omega arith
  count_more p r (x ∷ xs) h = omega (arith, count_front p x xs, count_front r x xs, bit_more (p x) (r x) (h x), count_more p r xs h)

  -- where as many are counted as there are, each passes
  pub all_pass : (p : K → Bool) (xs : List K) (i : ℕ) (d : K) → length xs ≤ count_by p xs → i < length xs → p (get_or xs i d) ≡ true
  all_pass p [] i d full l = absurd (omega arith)
  all_pass p (x ∷ xs) i d full l = by (p x) refl i l (all_pass p xs)
    where
      by : (b : Bool) → p x ≡ b → (i : ℕ) → i < length (x ∷ xs) → ((i : ℕ) (d : K) → length xs ≤ count_by p xs → i < length xs → p (get_or xs i d) ≡ true) → p (get_or (x ∷ xs) i d) ≡ true
      by false e i l ih =
          let bit = ap {B = ℕ} (λ c. cond c 1 0) e in absurd (omega (arith, count_front p x xs, count_by-le-length p xs, bit))
      by true e zero l ih = e
      by true e (suc i) l ih =
          let bit = ap {B = ℕ} (λ c. cond c 1 0) e in ih i d (omega (arith, count_front p x xs, bit)) (omega arith)

  pub count_all : (p : K → Bool) (xs : List K) → ((k : K) → Has xs k → p k ≡ true) → count_by p xs ≡ length xs
  count_all p [] h = refl
  count_all p (x ∷ xs) h =
      let bit = ap {B = ℕ} (λ c. cond c 1 0) (h x (inl refl)) in
      omega (arith, count_front p x xs, bit, count_all p xs (λ k g. h k (inr g)))

-- none of circuits in order is dearer than the last
last_dearest : (ws : List ℕ) (cs : List ProgramCircuit) (k : ProgramCircuit) → Strict (program_cmp ws) cs → Has cs k → cost ws k ≤ cost ws (get_or cs (length cs - 1) [])
last_dearest ws [] k s h = absurd h
last_dearest ws (c ∷ []) k s (inl e) = omega (arith, ap (cost ws) e)
last_dearest ws (c ∷ []) k s (inr h) = absurd h
last_dearest ws (c ∷ d ∷ ds) k s h = by h (last_dearest ws (d ∷ ds))
  where
    back : length (c ∷ d ∷ ds) - 1 ≡ suc (length (d ∷ ds) - 1)
    back = omega arith

    rest : (k : ProgramCircuit) → Has (d ∷ ds) k → ((k : ProgramCircuit) → Strict (program_cmp ws) (d ∷ ds) → Has (d ∷ ds) k → cost ws k ≤ cost ws (get_or (d ∷ ds) (length (d ∷ ds) - 1) [])) → cost ws k ≤ cost ws (get_or (c ∷ d ∷ ds) (length (c ∷ d ∷ ds) - 1) [])
    rest k g ih = rw back (ih k s.1 g)

    by : Has (c ∷ d ∷ ds) k → ((k : ProgramCircuit) → Strict (program_cmp ws) (d ∷ ds) → Has (d ∷ ds) k → cost ws k ≤ cost ws (get_or (d ∷ ds) (length (d ∷ ds) - 1) [])) → cost ws k ≤ cost ws (get_or (c ∷ d ∷ ds) (length (c ∷ d ∷ ds) - 1) [])
    by (inr g) ih = rest k g ih
    by (inl e) ih = omega (arith, ap (cost ws) e, not_dearer ws c d (ap is_gt (s.0 d (inl refl))), rest d (inl refl) ih)

-- as many cheaper circuits as a full queue holds are there where its last one is cheaper
pub closed_exact : (q : QueueList) (n last : ℕ) → IsQueue q → q.cap ≤ length q.list → last ≡ cost q.weights (get_or q.list (length q.list - 1) [])
    → IsTrue (ltb last n) ↔ (q.cap ≤ count_by (λ d. ltb (cost q.weights d) n) q.list)
closed_exact q n last held full e = (forth, back)
  where
    cheaper : ProgramCircuit → Bool
    cheaper d = ltb (cost q.weights d) n

    forth : IsTrue (ltb last n) → q.cap ≤ count_by (λ d. ltb (cost q.weights d) n) q.list
    forth h =
        let each = count_all cheaper q.list (λ k g. lt-ltb (cost q.weights k) n (omega (arith, last_dearest q.weights q.list k (strict_circuits q.weights q.list (queue_ordered q.weights q.cap q.list held.ordered)) g, e, ltb-true last n h))) in
        omega (arith, each)

    back : q.cap ≤ count_by (λ d. ltb (cost q.weights d) n) q.list → IsTrue (ltb last n)
    back h =
        let some : 0 < length q.list = omega (arith, held.some) in
        let few = queue_few q.weights q.cap q.list held.ordered in
        let here = all_pass cheaper q.list (length q.list - 1) [] (omega arith) (omega arith) in
        lt-ltb last n (omega (arith, e, ltb-true _ n here))

pub closed_refuses : (q : QueueList) (n : ℕ) (c : ProgramCircuit) → firsts q.weights q.cap q.list ≡ q.list → n ≤ cost q.weights c → q.cap ≤ count_by (λ d. ltb (cost q.weights d) n) q.list → firsts q.weights q.cap (c ∷ q.list) ≡ q.list
closed_refuses q n c h dear closed =
    let more = count_more (λ d. ltb (cost q.weights d) n) (λ d. is_lt (program_cmp q.weights d c)) q.list (λ k g. ap is_lt (cheaper_earlier q.weights k c (omega (arith, ltb-true (cost q.weights k) n g)))) in
    offer_late q.weights q.cap q.list c h (omega (arith, more))

-- the last of the circuits that are held
pub last_is : (vs : List Priced) (w : Priced) → 0 < length vs → ((d : Priced) → w ≡ get_or vs (length vs - 1) d) → w.gates.items ≡ get_or (circuits_of vs) (length (circuits_of vs) - 1) []
last_is vs w some is =
    let long : length (circuits_of vs) ≡ length vs = length-map vs (λ v. v.gates.items) in
    sym (circuit_at vs (length vs - 1) w (omega arith) (is w)) ∙ (λ i. get_or (circuits_of vs) (sym long i - 1) [])

-- and its price
pub last_price : (ws : List ℕ) (vs : List Priced) (w : Priced) → ArePriced ws vs → 0 < length vs → ((d : Priced) → w ≡ get_or vs (length vs - 1) d) → w.price ≡ cost ws w.gates.items
last_price ws vs w priced some is = price_at ws vs (length vs - 1) w priced (omega arith) (is w)
