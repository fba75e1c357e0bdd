-- What the last circuit of a full queue tells of those that are offered.
use Rattle.std.proofs.Common.{◌≡◌, ◌<◌, ◌≤◌, ◌+◌, ◌-◌, ℕ, zero, suc, inl, inr, List, [], ◌∷◌, length, take, drop, get_or, Vec, Option, None, Some, IfSome, false, Greater, refl, sym, ap, subst, ◌∙◌, Less, Equal, arith}
use Rattle.std.specs.declared.cmp.Ordering.{Ordering}
use Rattle.std.specs.Ordering.{is_lt, is_ge, ordering_then}
use Rattle.std.specs.Cmp.Lexicographic.{slice_cmp}
use Rattle.std.proofs.lemmas.List.{length-map, get_or-take, take-take}
use Rattle.qz_circ.specs.declared.circuit.Inst.{Inst}
use Rattle.qz_circ.specs.ProgramCircuits.{ProgramCircuit, cost, program_gate_cmp, program_cmp}
use Rattle.qz_circ.specs.Queue.{QueueList, IsQueue, firsts}
use Rattle.qz_circ.proofs.ProgramOrder.{program_cmp_total, cheaper_earlier, shorter_earlier, gates_decide}
use Rattle.qz_queue.specs.declared.bar.Bar.{Bar}
use Rattle.qz_queue.specs.Bars.{IsBefore, IsBar}
use Rattle.qz_queue.proofs.DifferentOnes.{Has, Strict}
use Rattle.qz_queue.proofs.QueueLists.{strict_circuits, queue_ordered, offer_late}
use Rattle.qz_queue.proofs.Costs.{count_all}
use Rattle.qz_queue.proofs.Fronts.{slice_at}

-- what comes after the last one comes after all
all_before : (ws : List ℕ) (cs : List ProgramCircuit) (d k : ProgramCircuit) → Strict (program_cmp ws) cs → program_cmp ws (get_or cs (length cs - 1) []) d ≡ Less → Has cs k → program_cmp ws k d ≡ Less
all_before ws [] d k s h g = absurd g
all_before ws (c ∷ []) d k s h (inl e) =
    let none : length (c ∷ []) - 1 ≡ 0 = omega arith in
    ap (λ x. program_cmp ws x d) (sym e) ∙ subst (λ n. program_cmp ws (get_or (c ∷ []) n []) d ≡ Less) none h
all_before ws (c ∷ []) d k s h (inr g) = absurd g
all_before ws (c ∷ b ∷ bs) d k s h g = by g (all_before ws (b ∷ bs) d)
  where
    back : length (c ∷ b ∷ bs) - 1 ≡ suc (length (b ∷ bs) - 1)
    back = omega arith

    last : program_cmp ws (get_or (b ∷ bs) (length (b ∷ bs) - 1) []) d ≡ Less
    last = subst (λ n. program_cmp ws (get_or (c ∷ b ∷ bs) n []) d ≡ Less) back h

    by : Has (c ∷ b ∷ bs) k → ((k : ProgramCircuit) → Strict (program_cmp ws) (b ∷ bs) → program_cmp ws (get_or (b ∷ bs) (length (b ∷ bs) - 1) []) d ≡ Less → Has (b ∷ bs) k → program_cmp ws k d ≡ Less) → program_cmp ws k d ≡ Less
    by (inr f) ih = ih k s.1 last f
    by (inl e) ih =
        ap (λ x. program_cmp ws x d) (sym e) ∙ (program_cmp_total ws).trans c b d (s.0 b (inl refl)) (ih b s.1 last (inl refl))

-- a full queue refuses what comes after its last circuit
after_last : (q : QueueList) (d : ProgramCircuit) → IsQueue q → q.cap ≤ length q.list → program_cmp q.weights (get_or q.list (length q.list - 1) []) d ≡ Less → firsts q.weights q.cap (d ∷ q.list) ≡ q.list
after_last q d h full less =
    let strict = strict_circuits q.weights q.list (queue_ordered q.weights q.cap q.list h.ordered) in
    let each = count_all (λ k. is_lt (program_cmp q.weights k d)) q.list (λ k g. ap is_lt (all_before q.weights q.list d k strict less g)) in
    offer_late q.weights q.cap q.list d h.ordered (omega (arith, each))

-- the first different gate decides, of a circuit that is no shorter where it is as dear
earlier_at : (ws : List ℕ) (last d : ProgramCircuit) (k : ℕ) (g : Inst) → cost ws last ≤ cost ws d → length last ≤ length d → take k last ≡ take k d → k < length last → program_gate_cmp (get_or last k g) (get_or d k g) ≡ Less → program_cmp ws last d ≡ Less
earlier_at ws last d k g dear long alike within less = by (cost ws d - cost ws last) (length d - length last) refl refl
  where
    by : (m n : ℕ) → cost ws d - cost ws last ≡ m → length d - length last ≡ n → program_cmp ws last d ≡ Less
    by (suc m) n e f = cheaper_earlier ws last d (omega (arith, e))
    by zero (suc n) e f = shorter_earlier ws last d (omega (arith, dear, e)) (omega (arith, f))
    by zero zero e f =
        let same : length last ≡ length d = omega (arith, long, f) in
        gates_decide ws last d (omega (arith, dear, e)) same ∙ slice_at last d k g alike within (omega arith) ∙ (λ i. ordering_then (less i) (slice_cmp program_gate_cmp (drop (suc k) last) (drop (suc k) d)))

-- a circuit that begins as another one does, past the gate at which the last one of the queue is earlier
pub behind_last : (q : QueueList) (c : ProgramCircuit) (b : Bar) → IsQueue q → q.cap ≤ length q.list → IsBefore q.weights (get_or q.list (length q.list - 1) []) c b → IsBar q c b
behind_last q c b h full before = record { within = omega (arith, before.front_is, before.in_other); refused = refused }
  where
    last : ProgramCircuit
    last = get_or q.list (length q.list - 1) []

    refused : (d : ProgramCircuit) → b.cost ≤ cost q.weights d → b.long ≤ length d → take b.front d ≡ take b.front c → firsts q.weights q.cap (d ∷ q.list) ≡ q.list
    refused d dear long alike =
        let k = before.at in
        let g = before.other in
        let past : k < b.front = omega (arith, before.front_is) in
        let front : take k d ≡ take k c = sym (take-take k b.front d (omega (arith, past))) ∙ ap (take k) alike ∙ take-take k b.front c (omega (arith, past)) in
        let gate : get_or c k g ≡ get_or d k g = sym (get_or-take b.front c k g past) ∙ (λ i. get_or (sym alike i) k g) ∙ get_or-take b.front d k g past in
        after_last q d h full (earlier_at q.weights last d k g (omega (arith, dear, before.cost_is)) (omega (arith, long, before.long_is)) (before.alike ∙ sym front) before.in_last ((λ i. program_gate_cmp (get_or last k g) (sym gate i)) ∙ before.earlier))

-- where there is a bar
pub some_bar : (q : QueueList) (c last : ProgramCircuit) (b : Option Bar) → IsQueue q → q.cap ≤ length q.list → last ≡ get_or q.list (length q.list - 1) [] → IfSome b (IsBefore q.weights last c) → IfSome b (IsBar q c)
some_bar q c last None h full e before = before
some_bar q c last (Some b) h full e before = behind_last q c b h full (subst (λ l. IsBefore q.weights l c b) e before)

-- a loop that found the gate
pub found_before : (ws : List ℕ) (last c : ProgramCircuit) (b : Bar) (k : ℕ) (g : Inst) (r : Ordering) → b.cost ≡ cost ws last → b.long ≡ length last → b.front ≡ k + 1 → take k last ≡ take k c → k < length last → k < length c → r ≡ program_gate_cmp (get_or last k g) (get_or c k g) → is_ge r ≡ false → IsBefore ws last c b
found_before ws last c b k g r dear long at alike within other is less =
    record { cost_is = dear; long_is = long; at = k; front_is = at; alike = alike; in_last = within; in_other = other; other = g; earlier = sym is ∙ below r less }
  where
    below : (s : Ordering) → is_ge s ≡ false → s ≡ Less
    below Less e = refl
    below Equal e = cc
    below Greater e = cc
