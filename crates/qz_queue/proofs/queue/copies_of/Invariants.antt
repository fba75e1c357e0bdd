use Rattle.std.proofs.Common.{◌≡◌, ◌≤◌, map, take, vec_len, vec_capacity}
use Rattle.qz_queue.specs.Circuits.{circuits_of}
use Rattle.qz_queue.proofs.queue.copies_of.Given as goal

abbrev pub invariant-loop-c : goal.invariant-loop-c
invariant-loop-c l =
    (circuits_of l.copies.items ≡ circuits_of (take l.c-index l.list)) × (map (λ p. p.price) l.copies.items ≡ map (λ p. p.price) (take l.c-index l.list)) × (vec_len l.copies ≡ l.c-index) × (l.most ≤ vec_capacity l.copies)
