use Rattle.std.proofs.Common.{◌≡◌, ◌<◌, ℕ, List, [], length, get_or, sym, ap, ◌∙◌}
use Rattle.std.proofs.lemmas.List.{get_or_read}
use Rattle.qz_circ.specs.Paths.{flipped_state}
use Rattle.qz_ring.specs.Terms.{Terms}
use Rattle.qz_matrix.specs.Entries.{sum_at}
use Rattle.qz_matrix.specs.AfterGate.{IsClosed}
use Rattle.qz_matrix.proofs.AfterGateLemmas.{next_sum, next_difference}
use Rattle.qz_matrix.proofs.gates.mixed_entry.Goals as goal

-- what is read at the flipped place
read_flipped : (sums : List Terms) (t k f : ℕ) (y : Terms) → IsClosed t (length sums) → k < length sums → f ≡ flipped_state t k → y ≡ get_or sums f y → y ≡ sum_at sums (flipped_state t k)
read_flipped sums t k f y closed less is read = get_or_read sums (flipped_state t k) y (closed k less) (read ∙ ap (λ x. get_or sums x y) is) []

pub returns-then-has_bit : goal.returns-then-has_bit
returns-then-has_bit c =
    let sums = c.args.entries.now in
    next_difference c.args.t sums c.args.k c.index-entries-k.result c.index-entries-flipped_state.result c.in_ok-difference.difference c.requires.closed c.requires.place
    (get_or_read sums c.args.k _ c.requires.place c.index-entries-k.is [])
    (read_flipped sums c.args.t c.args.k c.flipped_state.result _ c.requires.closed c.requires.place c.flipped_state.ensures c.index-entries-flipped_state.is)
    (sym c.has_bit.ensures ∙ c.if-has_bit.true) c.in_ok-difference.ensures.counts c.in_ok-difference.ensures.weight c.in_ok-difference.ensures.reach

pub returns : goal.returns
returns c =
    let sums = c.args.entries.now in
    next_sum c.args.t sums c.args.k c.index-entries-k.result c.index-entries-flipped_state.result c.in_ok-sum.sum c.requires.closed c.requires.place
    (get_or_read sums c.args.k _ c.requires.place c.index-entries-k.is [])
    (read_flipped sums c.args.t c.args.k c.flipped_state.result _ c.requires.closed c.requires.place c.flipped_state.ensures c.index-entries-flipped_state.is)
    (sym c.has_bit.ensures ∙ c.if-has_bit.false) c.in_ok-sum.ensures.counts c.in_ok-sum.ensures.weight c.in_ok-sum.ensures.reach
