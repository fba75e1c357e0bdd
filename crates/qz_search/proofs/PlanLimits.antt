-- A plan is within its limits where none of its numbers is refused.
use Rattle.std.proofs.Common.{◌≡◌, ◌≤◌, ◌||◌, ◌∙◌, ℕ, Bool, true, false, List, [], ◌∷◌, length, Some, None, refl, arith}
use Rattle.std.specs.List.{AllByRecursion, list_any}
use Rattle.std.proofs.lemmas.Bool.Decides.{nat_tests}
use Rattle.qz_circ.specs.ProgramCircuits.{IsWeight, AreWeights}
use Rattle.qz_circ.specs.Search.{PlanNumbers, IsPlan}
use Rattle.qz_search.specs.PlanFaults.{is_no_weight, plan_refusal}

-- numbers none of which is no weight are weights
one_weight : (w : ℕ) → is_no_weight w ≡ false → IsWeight w
one_weight w h = (grind (arith, nat_tests), grind (arith, nat_tests))

weight_one : (w : ℕ) → IsWeight w → is_no_weight w ≡ false
weight_one w h = let from = h.0 in let most = h.1 in grind (arith, nat_tests)

pub all_weights : (ws : List ℕ) → list_any is_no_weight ws ≡ false → AllByRecursion IsWeight ws
all_weights [] h = tt
all_weights (w ∷ ws) h = by (is_no_weight w) h (one_weight w) (all_weights ws)
  where
    by : (b : Bool) → b || list_any is_no_weight ws ≡ false → (b ≡ false → IsWeight w) → (list_any is_no_weight ws ≡ false → AllByRecursion IsWeight ws) → IsWeight w × AllByRecursion IsWeight ws
    by true g f rest = cc
    by false g f rest = (f refl, rest g)

weights_all : (ws : List ℕ) → AllByRecursion IsWeight ws → list_any is_no_weight ws ≡ false
weights_all [] h = refl
weights_all (w ∷ ws) h = (λ i. weight_one w h.0 i || list_any is_no_weight ws) ∙ weights_all ws h.1

module _ (p : PlanNumbers) where
  pub weighed : plan_refusal p ≡ None → list_any is_no_weight p.weights ≡ false
  unfolding plan_refusal
  weighed h = grind (arith, nat_tests)

  pub plan_lawful : length p.weights ≡ 4 → plan_refusal p ≡ None → IsPlan p
  unfolding plan_refusal
  plan_lawful four h =
      record {
        some_taken = grind (arith, nat_tests);
        few_taken = grind (arith, nat_tests);
        some_held = grind (arith, nat_tests);
        few_held = grind (arith, nat_tests);
        few_rounds = grind (arith, nat_tests);
        near = grind (arith, nat_tests);
        weighed = record { count = four; each = all_weights p.weights (weighed h) };
      }

  pub plan_accepted : IsPlan p → plan_refusal p ≡ None
  unfolding plan_refusal
  plan_accepted h =
      let weights = weights_all p.weights h.weighed.each in
      grind (arith, nat_tests, h.some_taken, h.few_taken, h.some_held, h.few_held, h.few_rounds, h.near)
