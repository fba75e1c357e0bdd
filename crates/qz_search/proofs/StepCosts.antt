-- What programs cost after a step by a rule.
use Rattle.std.proofs.Common.{◌≡◌, ℕ, zero, suc, ◌+◌, ◌<◌, take, get_or, Bool, true, false, List, [], ◌∷◌, ◌++◌, length, drop, Contains, Option, Some, None, refl, ap, arith}
use Rattle.std.specs.Prelude.{if◌then◌else◌}
use Rattle.qz_circ.specs.declared.binding.Binding.{Binding}
use Rattle.qz_circ.specs.declared.circuit.Op.{Op}
use Rattle.qz_circ.specs.declared.circuit.Op.TheVariants.{H, X, Cx, Rz}
use Rattle.qz_circ.specs.declared.circuit.Inst.{Inst}
use Rattle.qz_circ.specs.declared.circuit.Inst.TheVariants.{H as ProgramH, X as ProgramX, Cx as ProgramCx, Rz as ProgramRz}
use Rattle.qz_circ.specs.Circuit.{Circuit}
use Rattle.qz_circ.specs.Gathering.{marked, selected, is_after, before_of, after_of, replaced_at}
use Rattle.qz_circ.specs.Instances.{bound_instance}
use Rattle.qz_circ.specs.Places.{bind_gate, bind_gates, nothing_bound, PlaceParts, places}
use Rattle.qz_circ.specs.ProgramCircuits.{ProgramCircuit, weight, cost}
use Rattle.qz_circ.specs.Replacement.{replaced}
use Rattle.qz_circ.proofs.ProgramOrder.{cost-append}
use Rattle.qz_match.proofs.Bindings.{and_then-some}
use Rattle.qz_rewrite.proofs.Gathered.{all_of, all_marked}
use Rattle.qz_rewrite.proofs.FoundPlaces.{place_found}
use Rattle.qz_search.specs.Costs.{rule_weight, rule_cost}

module _ (ws : List ℕ) where
  -- each marked gate is in one part
  cost_kept : (chosen after : ProgramCircuit) (rest : List (Bool × Inst)) → cost ws (all_of rest) ≡ (cost ws (before_of chosen after rest) + cost ws (selected rest)) + cost ws (after_of chosen after rest)
  unfolding before_of after_of selected cost
  cost_kept chosen after [] = omega arith
  cost_kept chosen after ((true, g) ∷ rest) = omega (arith, cost_kept (chosen ++ g ∷ []) after rest)
  cost_kept chosen after ((false, g) ∷ rest) = by (is_after chosen after g) (cost_kept chosen (after ++ g ∷ []) rest) (cost_kept chosen after rest)
    where
      by : (late : Bool) → cost ws (all_of rest) ≡ (cost ws (before_of chosen (after ++ g ∷ []) rest) + cost ws (selected rest)) + cost ws (after_of chosen (after ++ g ∷ []) rest) →
          cost ws (all_of rest) ≡ (cost ws (before_of chosen after rest) + cost ws (selected rest)) + cost ws (after_of chosen after rest) →
          weight ws g + cost ws (all_of rest) ≡ (cost ws (if late then before_of chosen (after ++ g ∷ []) rest else g ∷ before_of chosen after rest) + cost ws (selected rest)) + cost ws (if late then g ∷ after_of chosen (after ++ g ∷ []) rest else after_of chosen after rest)
      by true one more = omega (arith, one)
      by false one more = omega (arith, more)

  -- the program with new gates costs as much more as the new ones cost more than the selected ones
  replaced_cost : (ps : List ℕ) (new c : ProgramCircuit) → cost ws (replaced_at ps new c) + cost ws (selected (marked 0 ps c)) ≡ cost ws c + cost ws new
  unfolding replaced_at
  replaced_cost ps new c =
      let m = marked 0 ps c in
      let front = before_of [] [] m in
      let late = after_of [] [] m in
      let rest = drop (length m) c in
      let parts = cost_kept [] [] m in
      let whole = ap (cost ws) (all_marked 0 ps c) in
      omega (arith, parts, whole, cost-append ws (all_of m) rest, cost-append ws (front ++ new ++ late) rest, cost-append ws (front ++ new) late, cost-append ws front new)

  same_weight : (bind : Binding) (f : Op) (g : Inst) (next : Binding) → bind_gate bind f g ≡ Some next → rule_weight ws f ≡ weight ws g
  same_weight bind (H t) (ProgramH w) next h = refl
  same_weight bind (X t) (ProgramX w) next h = refl
  same_weight bind (Cx c t) (ProgramCx v w) next h = refl
  same_weight bind (Rz t e) (ProgramRz w k) next h = refl
  same_weight bind f g next h = cc

  -- a left side binds to gates that cost what its kinds of gates do
  bound_cost : (old : Binding) (left : Circuit) (gates : ProgramCircuit) (next : Binding) → bind_gates old left gates ≡ Some next → rule_cost ws left ≡ cost ws gates
  unfolding bind_gates rule_cost cost
  bound_cost old [] [] next h = refl
  bound_cost old (f ∷ left) (g ∷ gates) next h =
      let parts = and_then-some (bind_gate old f g) (λ bind. bind_gates bind left gates) next h in
      omega (arith, same_weight old f g parts.0 parts.1, bound_cost parts.0 left gates next parts.2)
  bound_cost old [] (g ∷ gates) next h = absurd (let stuck : None ≡ Some next = h in cc)
  bound_cost old (f ∷ left) [] next h = absurd (let stuck : None ≡ Some next = h in cc)

  -- what a rewritten program costs
  pub rewritten_cost : (left right : Circuit) (c : ProgramCircuit) (place : PlaceParts) → Contains (places left right c) place → cost ws (replaced c right place) + rule_cost ws left ≡ cost ws c + cost ws (bound_instance place.binding right)
  rewritten_cost left right c place among =
      let found = place_found left right c place among in
      let bound_so = bound_cost nothing_bound left (selected (marked 0 place.positions c)) place.binding found.binds in
      let counted = replaced_cost place.positions (bound_instance place.binding right) c in
      omega (arith, bound_so, counted)

  -- ---- gate by gate

  one_more : (left : Circuit) (i : ℕ) (d : Op) → i < length left → rule_cost ws (take (suc i) left) ≡ rule_cost ws (take i left) + rule_weight ws (get_or left i d)
  unfolding rule_cost
  one_more [] i d l = absurd (omega arith)
  one_more (g ∷ left) zero d l = omega arith
  one_more (g ∷ left) (suc i) d l = omega (arith, one_more left i d (omega arith))

  pub rule_cost_more : (left : Circuit) (i n m : ℕ) (d : Op) → i < length left → n ≡ rule_cost ws (take i left) → m ≡ rule_weight ws (get_or left i d) → n + m ≡ rule_cost ws (take (i + 1) left)
  rule_cost_more left i n m d l is one =
      let next : i + 1 ≡ suc i = omega arith in rw next (omega (arith, one_more left i d l, is, one))
