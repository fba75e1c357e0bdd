-- How large the value of a few digits is; what the words from a number on give; and which commands come of it.
use Rattle.std.proofs.Common.{◌≡◌, ℕ, suc, ◌+◌, ◌*◌, ◌^◌, ◌<◌, ◌≤◌, Bool, true, false, List, [], ◌∷◌, length, get_or, drop, Option, Some, None, Result, Ok, Err, refl, sym, ap, ◌∙◌, arith}
use Rattle.std.specs.Prelude.{◌↔◌, IfOk, MatchResult}
use Rattle.std.proofs.Math.Nat.{pow-succ', pow-le-pow_right}
use Rattle.std.proofs.lemmas.List.{drop_all, drop_more}
use Rattle.std.specs.Option.{option_and_then}
use Rattle.qz_circ.specs.declared.fault.LimitFault.{LimitFault}
use Rattle.qz_circ.specs.declared.fault.Which.{Which}
use Rattle.qz_circ.specs.Circuit.{Limits}
use Rattle.qz_circ.specs.Bounds.{refusal}
use Rattle.qz_circ.specs.Search.{PlanNumbers}
use Rattle.qz_search.specs.declared.plan.PlanFault.{PlanFault}
use Rattle.qz_search.specs.PlanFaults.{plan_refusal}
use Rattle.qz_top.specs.declared.words.Command.TheVariants.{Generate, Optimise, Trial}
use Rattle.qz_top.specs.declared.words.Form.{Form}
use Rattle.qz_top.specs.declared.words.Form.TheVariants as form
use Rattle.qz_top.specs.declared.words.OptionName.{OptionName}
use Rattle.qz_top.specs.declared.words.OptionName.TheVariants as option
use Rattle.qz_top.specs.declared.words.Options.{Options}
use Rattle.qz_top.specs.declared.words.WordFault.TheVariants.{Limit}
use Rattle.qz_top.specs.Words.{number_of, option_of, takes_value, no_options, with_value, without_value, options_from, workers_of, seed_of, grain_of, plan_of}
use Rattle.qz_top.specs.Words.{which_of, which_of_plan, workers_limit, generation_limit, unless_passed, generation, optimisation, limits_of, command_from, trial_limit, trial, generation_asked, tidying_asked, trial_asked}

-- the value of fewer than nineteen digits and one more fits 64 bits
pub small_value : (value i : ℕ) → value < 10 ^ i → i < 19 → 10 * value + 10 ≤ 10 ^ 19
small_value value i small few = omega (arith, pow-succ' 10 i, pow-le-pow_right {n = 10} (omega arith) {i = suc i} {j = 19} (omega arith))

-- ---- options

-- what is handed on as it is
some_again : (o : Option Options) → o ≡ option_and_then (λ more. Some more) o
some_again None = refl
some_again (Some more) = refl

-- an option with a value is none without
no_flag : (given : Options) (name : OptionName) → takes_value name ≡ true → without_value given name ≡ None
no_flag given option.Workers valued = refl
no_flag given option.Seed valued = refl
no_flag given option.Report valued = cc
no_flag given option.Grain valued = refl
no_flag given option.Rules valued = refl
no_flag given option.Rounds valued = refl
no_flag given option.Batch valued = refl
no_flag given option.Cap valued = refl
no_flag given option.Slack valued = refl
no_flag given option.Cost valued = refl

-- a word that names no option
unnamed_first : (f : Form) (given : Options) (k : ℕ) (word : List ℕ) (words : List (List ℕ)) → option_of f word ≡ None → options_from f given k (word ∷ words) ≡ None
unfolding options_from
unnamed_first f given k word [] none = rw none refl
unnamed_first f given k word (next ∷ words) none = rw none refl

-- an option without a value
flag_first : (f : Form) (given : Options) (k : ℕ) (word : List ℕ) (words : List (List ℕ)) (name : OptionName) → option_of f word ≡ Some name → takes_value name ≡ false →
    options_from f given k (word ∷ words) ≡ option_and_then (λ more. options_from f more (k + 1) words) (without_value given name)
unfolding options_from
flag_first f given k word [] name is flag = rw is (some_again (without_value given name))
flag_first f given k word (next ∷ words) name is flag = rw (is, flag) refl

-- an option whose value is missing
missing_first : (f : Form) (given : Options) (k : ℕ) (word : List ℕ) (name : OptionName) → option_of f word ≡ Some name → takes_value name ≡ true → options_from f given k (word ∷ []) ≡ None
unfolding options_from
missing_first f given k word name is valued = rw is (no_flag given name valued)

-- an option with its value
value_first : (f : Form) (given : Options) (k : ℕ) (word next : List ℕ) (words : List (List ℕ)) (name : OptionName) → option_of f word ≡ Some name → takes_value name ≡ true →
    options_from f given k (word ∷ next ∷ words) ≡ option_and_then (λ more. options_from f more (k + 2) words) (with_value given name (k + 1) next)
unfolding options_from
value_first f given k word next words name is valued = rw (is, valued) refl

-- the same of the words from number k on
module _ (f : Form) (given : Options) (words : List (List ℕ)) (k : ℕ) where
  pub unnamed_at : k < length words → option_of f (get_or words k []) ≡ None → options_from f given k (drop k words) ≡ None
  unnamed_at more none = ap (options_from f given k) (drop_more words k [] more) ∙ unnamed_first f given k (get_or words k []) (drop (k + 1) words) none

  pub flag_at : (name : OptionName) → k < length words → option_of f (get_or words k []) ≡ Some name → takes_value name ≡ false →
      options_from f given k (drop k words) ≡ option_and_then (λ more. options_from f more (k + 1) (drop (k + 1) words)) (without_value given name)
  flag_at name more is flag = ap (options_from f given k) (drop_more words k [] more) ∙ flag_first f given k (get_or words k []) (drop (k + 1) words) name is flag

  pub missing_at : (name : OptionName) → k + 1 ≡ length words → option_of f (get_or words k []) ≡ Some name → takes_value name ≡ true → options_from f given k (drop k words) ≡ None
  missing_at name last is valued =
      let rest : drop (k + 1) words ≡ [] = drop_all (k + 1) words (omega (arith, last)) in
      ap (options_from f given k) (drop_more words k [] (omega (arith, last)) ∙ ap (λ (rest : List (List ℕ)). get_or words k [] ∷ rest) rest) ∙ missing_first f given k (get_or words k []) name is valued

  pub value_at : (name : OptionName) → k + 1 < length words → option_of f (get_or words k []) ≡ Some name → takes_value name ≡ true →
      options_from f given k (drop k words) ≡ option_and_then (λ more. options_from f more (k + 2) (drop (k + 2) words)) (with_value given name (k + 1) (get_or words (k + 1) []))
  value_at name more is valued =
      let two : k + 1 + 1 ≡ k + 2 = omega arith in
      let next : drop (k + 1) words ≡ get_or words (k + 1) [] ∷ drop (k + 2) words = drop_more words (k + 1) [] more ∙ ap (λ (n : ℕ). get_or words (k + 1) [] ∷ drop n words) two in
      ap (options_from f given k) (drop_more words k [] (omega (arith, more)) ∙ ap (λ (rest : List (List ℕ)). get_or words k [] ∷ rest) next) ∙
      value_first f given k (get_or words k []) (get_or words (k + 1) []) (drop (k + 2) words) name is valued

-- after the last word nothing is added
pub nothing_after : (f : Form) (given : Options) (k : ℕ) (words : List (List ℕ)) → length words ≤ k → options_from f given k (drop k words) ≡ Some given
unfolding options_from
nothing_after f given k words none = ap (options_from f given k) (drop_all k words none)

-- ---- limits

-- numbers that aren't refused
not_refused : (refused : Option PlanFault) → ((fault : PlanFault) → refused ≡ Some fault → ⊥) → refused ≡ None
not_refused None other = refl
not_refused (Some fault) other = absurd (other fault refl)

-- the plan with these numbers is made, or they are refused
pub plan_made : (made : Result PlanNumbers PlanFault) (numbers wanted : PlanNumbers) → numbers ≡ wanted → IfOk made (λ p. p ≡ numbers) → ((fault : PlanFault) → (made ≡ Err fault) ↔ (plan_refusal numbers ≡ Some fault)) →
    MatchResult made (λ p. (p ≡ wanted) × (plan_refusal wanted ≡ None)) (λ fault. plan_refusal wanted ≡ Some fault)
plan_made (Ok p) numbers wanted same is refused =
    let no_fault : (fault : PlanFault) → plan_refusal numbers ≡ Some fault → ⊥ = λ fault h. let clash : Ok p ≡ Err fault = (refused fault).1 h in cc in
    (is ∙ same, ap plan_refusal (sym same) ∙ not_refused (plan_refusal numbers) no_fault)
plan_made (Err fault) numbers wanted same is refused = ap plan_refusal (sym same) ∙ (refused fault).0 refl

-- a generation whose bounds are refused
pub generation_refused : (b : Limits) (given : Options) (fault : LimitFault) → refusal b ≡ Some fault → Err (Limit (which_of fault)) ≡ generation b given
generation_refused b given fault is = rw is refl

-- an optimisation whose plan is refused
pub optimisation_refused : (rules : ℕ) (given : Options) (fault : PlanFault) → plan_refusal (plan_of given) ≡ Some fault → Err (Limit (which_of_plan fault)) ≡ optimisation rules given
optimisation_refused rules given fault is = rw is refl

-- one whose plan isn't
pub optimisation_planned : (rules : ℕ) (given : Options) → plan_refusal (plan_of given) ≡ None →
    optimisation rules given ≡ unless_passed (workers_limit (workers_of given)) (Optimise rules (plan_of given) (workers_of given))
optimisation_planned rules given is = rw is refl
