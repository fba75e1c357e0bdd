use Rattle.std.proofs.Common.{◌≡◌, ℕ, ◌/◌, ◌%◌, ◌^◌, [], ap, ◌∙◌, arith}
use Rattle.qz_ring.specs.Terms.{Terms}
use Rattle.qz_matrix.specs.AfterGate.{identity_entry}
use Rattle.qz_matrix.proofs.PushLemmas.{each_push}
use Rattle.qz_matrix.proofs.identity.identity.Goals as goal

pub loop-k-preserved : goal.loop-k-preserved
loop-k-preserved c = record {
  filled = omega (arith, c.push_reserved.ensures.len);
  room = omega (arith, c.push_reserved.ensures.capacity);
  each = each_push (λ (m : ℕ) (ts : Terms). ts ≡ identity_entry (m % 2 ^ c.args.q) (m / 2 ^ c.args.q)) c.loop-k.entries.items _ _ [] c.loop-k.k c.loop-k.invariant.filled c.push_reserved.ensures.items
      (c.in-Ok-identity_entry.ensures ∙ ap (λ rows. identity_entry (c.loop-k.k % rows) (c.loop-k.k / rows)) c.states_on-rows.ensures.value) c.loop-k.invariant.each;
}
