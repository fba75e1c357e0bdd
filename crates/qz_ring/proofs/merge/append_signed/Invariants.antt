use Rattle.std.proofs.Common.{◌≡◌, ◌+◌, ◌++◌, length, map, take}
use Rattle.qz_ring.specs.Terms.{signed_term}
use Rattle.qz_ring.proofs.merge.append_signed.Given as goal

abbrev pub invariant-loop-term : goal.invariant-loop-term
invariant-loop-term l = record {
  items : l.out.items ≡ l.initial.out.items ++ map (signed_term l.negated) (take l.term-index l.rest);
  len : length l.out.items ≡ length l.initial.out.items + l.term-index;
  capacity : l.out.capacity ≡ l.initial.out.capacity;
}
