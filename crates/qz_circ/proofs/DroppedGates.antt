-- Ranks of circuits without their first or their last gate.
use Rattle.std.proofs.Common.{◌≡◌, ℕ, suc, ◌+◌, ◌-◌, ◌*◌, ◌/◌, ◌%◌, ◌<◌, ◌≤◌, [], ◌∷◌, ◌++◌, length, get_or, take, sym, ap, ◌∙◌, arith, div-add-mod'}
use Rattle.std.proofs.Math.Nat.{mul-le-mul_right, le-div_iff_mul-le, div-eq_of_lt}
use Rattle.std.proofs.Math.Seq.{take-append_seam}
use Rattle.std.proofs.lemmas.List.{length_push, drop-append-le}
use Rattle.qz_circ.specs.declared.circuit.Op.{Op}
use Rattle.qz_circ.specs.declared.circuit.Op.TheVariants.{H}
use Rattle.qz_circ.specs.Circuit.{Circuit, Limits, gates_of}
use Rattle.qz_circ.specs.Bounds.{IsLawful, gate_count}
use Rattle.qz_circ.specs.Order.{all_circuits, rank, circuit_at}
use Rattle.qz_circ.specs.Classes.{without_first, without_last}
use Rattle.qz_circ.proofs.CircuitPlaces.{circuit_at-zero, circuit_at-with_last}
use Rattle.qz_circ.proofs.RankLemmas.{rank-circuit_at, last_gate, some_gate}

-- a circuit with one gate more, without its last gate
pub without_last-push : (c : Circuit) (g : Op) → without_last (c ++ g ∷ []) ≡ c
without_last-push c g =
    let longer : length (c ++ g ∷ []) - 1 ≡ length c = omega (arith, length_push c g) in
    ap (λ n. take n (c ++ g ∷ [])) longer ∙ take-append_seam c (g ∷ [])

-- the rank of a circuit is the place where it stands
pub rank_of_part : (b : Limits) (part : Circuit) (r : ℕ) → IsLawful b → r < length (all_circuits b) → circuit_at b r ≡ part → r ≡ rank b part
rank_of_part b part r h l here = sym (rank-circuit_at b h r l) ∙ ap (rank b) here

-- Some gates were taken from the end of the circuit with rank r. The front that is left has the rank `first`, and a gate at
-- its end is worth `place_value`. So what is found for the front is found for the whole circuit.
pub record Front (b : Limits) (r first place_value : ℕ) : Type 0 where
  pub some : 0 < first
  pub earlier : first ≤ r
  pub value : 0 < place_value
  pub within : first * place_value ≤ r
  pub carried : (s t : ℕ) → s < first → circuit_at b s ≡ without_first (circuit_at b first) → t + first * place_value ≡ r + s * place_value → circuit_at b t ≡ without_first (circuit_at b r)

module _ (b : Limits) (h : IsLawful b) (gates : ℕ) (e : gates ≡ gate_count b) where
  -- division by the number of gates takes the last gate away
  pub last_dropped : (r : ℕ) → 0 < r → r < length (all_circuits b) → circuit_at b ((r - 1) / gates) ≡ without_last (circuit_at b r)
  last_dropped r p l =
      let last = last_gate b h r gates e p l in
      sym (ap without_last last.circuit ∙ without_last-push (circuit_at b ((r - 1) / gates)) (get_or (gates_of b) ((r - 1) % gates) (H 0)))

  module _ (r first place_value : ℕ) (l : r < length (all_circuits b)) (front : Front b r first place_value) where
    -- one gate fewer in front
    pub shorter_front : gates < first → Front b r ((first - 1) / gates) (place_value * gates)
    shorter_front more =
        let before = (first - 1) / gates in
        let digit = (first - 1) % gates in
        let choice = some_gate b h gates e in
        let last = last_gate b h first gates e front.some (omega (arith, front.earlier, l)) in
        let some_left : 0 < before = omega (arith, (le-div_iff_mul-le {k = gates} {x = 1} {y = first - 1} choice).1 (omega arith)) in
        let place : first ≡ before * gates + digit + 1 = omega (arith, div-add-mod' (first - 1) gates, front.some) in
        let nonempty : 1 ≤ length (circuit_at b before) = omega (arith, (last_gate b h before gates e some_left last.listed).longer) in
        let worth : first * place_value ≡ before * (place_value * gates) + digit * place_value + place_value = omega (arith, ap (λ k. k * place_value) place) in
        record {
          some = some_left;
          earlier = omega (arith, front.earlier, mul-le-mul_right before choice, place);
          value = omega (arith, choice, mul-le-mul_right gates front.value);
          within = omega (arith, front.within, worth);
          carried = λ s t below found at.
              let row : suc s * gates ≤ before * gates = mul-le-mul_right gates below in
              let longer = s * gates + digit + 1 in
              let small : digit < gates = omega (arith, last.gate, e) in
              let below_first : longer < first = omega (arith, row, place, small) in
              let same : s * gates ≡ s * gate_count b = ap (λ k. s * k) e in
              let gate = get_or (gates_of b) digit (H 0) in
              let with_gate = circuit_at-with_last b s digit longer (omega (arith, same)) last.gate (omega (arith, below_first, front.earlier, l)) in
              let moved = sym (drop-append-le 1 (circuit_at b before) (gate ∷ []) nonempty) in
              let found_longer : circuit_at b longer ≡ without_first (circuit_at b first) = with_gate ∙ ap (λ c. c ++ gate ∷ []) found ∙ moved ∙ ap without_first (sym last.circuit) in
              let worth_longer : longer * place_value ≡ s * (place_value * gates) + digit * place_value + place_value = omega arith in
              front.carried longer t below_first found_longer (omega (arith, at, worth, worth_longer));
        }

    -- where the front is one gate, what stands behind it is left
    pub first_dropped : first ≤ gates → circuit_at b (r - first * place_value) ≡ without_first (circuit_at b r)
    first_dropped few =
        let alone : (first - 1) / gates ≡ 0 = div-eq_of_lt (omega (arith, front.some)) in
        let last = last_gate b h first gates e front.some (omega (arith, front.earlier, l)) in
        let one : circuit_at b first ≡ get_or (gates_of b) ((first - 1) % gates) (H 0) ∷ [] = last.circuit ∙ ap (λ c. c ++ get_or (gates_of b) ((first - 1) % gates) (H 0) ∷ []) (ap (circuit_at b) alone ∙ circuit_at-zero b) in
        front.carried 0 (r - first * place_value) front.some (circuit_at-zero b ∙ sym (ap without_first one)) (omega (arith, front.within))
