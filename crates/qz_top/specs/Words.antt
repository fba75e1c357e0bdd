-- What the words of a command ask for.
use Rattle.std.specs.Prelude.{ℕ, ◌+◌, ◌-◌, ◌*◌, ◌<◌, ◌≤◌, Bool, true, false, ◌&&◌, ◌||◌, nat_lt, List, [], ◌∷◌, length, fold, codes, if◌then◌else◌, Option, Some, None, IfSome, Result, Ok, Err}
use Rattle.std.specs.Char.{is_ascii_digit}
use Rattle.std.specs.List.{list_all}
use Rattle.std.specs.Option.{unwrap_or, option_or, option_map, option_and_then}
use Rattle.std.specs.Str.{bytes_eq}
use Rattle.qz_circ.specs.declared.fault.LimitFault.{LimitFault}
use Rattle.qz_circ.specs.declared.fault.LimitFault.TheVariants.{Qubits, Gates, Params, Grain, Circuits}
use Rattle.qz_circ.specs.declared.fault.Which.{Which}
use Rattle.qz_circ.specs.declared.fault.Which.TheVariants.{BoundsQubits, BoundsGates, BoundsParams, BoundsGrain, BoundsCircuits, Workers, PlanBatch, PlanCap, PlanRounds, PlanSlack, CostWeight, TrialQubits, TrialGates}
use Rattle.qz_circ.specs.Circuit.{Limits}
use Rattle.qz_circ.specs.Bounds.{refusal}
use Rattle.qz_circ.specs.Search.{PlanNumbers}
use Rattle.qz_search.specs.declared.plan.PlanFault.{PlanFault}
use Rattle.qz_search.specs.declared.plan.PlanFault.TheVariants.{Batch, Cap, Rounds, Slack, Weight}
use Rattle.qz_search.specs.PlanFaults.{plan_refusal}
use Rattle.qz_top.specs.declared.words.Command.{Command}
use Rattle.qz_top.specs.declared.words.Command.TheVariants.{Generate, Tidy, Optimise, Trial, Check}
use Rattle.qz_top.specs.declared.words.Form.{Form}
use Rattle.qz_top.specs.declared.words.Form.TheVariants as form
use Rattle.qz_top.specs.declared.words.OptionName.{OptionName}
use Rattle.qz_top.specs.declared.words.OptionName.TheVariants as option
use Rattle.qz_top.specs.declared.words.Options.{Options}
use Rattle.qz_top.specs.declared.words.WordFault.{WordFault}
use Rattle.qz_top.specs.declared.words.WordFault.TheVariants.{Usage, Limit}
use Rattle.qz_circ.specs.ProgramLimits.{most_qubits, most_gates}
use Rattle.qz_top.specs.declared.cost_table.CostTable.{CostTable}
pub use Rattle.qz_top.specs.Numbers.{with_digit, is_number, number_of, new_number}
use Rattle.qz_top.specs.CostTables.{table_of, weights_of}

-- ---- options

-- the option that a word names
unfoldable pub option_named : List ℕ → Option OptionName
option_named word =
    if bytes_eq word (codes "--workers") then Some option.Workers
    else if bytes_eq word (codes "--seed") then Some option.Seed
    else if bytes_eq word (codes "--report") then Some option.Report
    else if bytes_eq word (codes "--grain") then Some option.Grain
    else if bytes_eq word (codes "--rules") then Some option.Rules
    else if bytes_eq word (codes "--rounds") then Some option.Rounds
    else if bytes_eq word (codes "--batch") then Some option.Batch
    else if bytes_eq word (codes "--cap") then Some option.Cap
    else if bytes_eq word (codes "--slack") then Some option.Slack
    else if bytes_eq word (codes "--cost") then Some option.Cost
    else None

-- words of this form may have this option
abbrev pub has_option : Form → OptionName → Bool
has_option form.Generate option.Workers = true
has_option form.Generate option.Seed = true
has_option form.Generate option.Report = true
has_option form.Generate option.Grain = true
has_option form.Generate _ = false
has_option form.Optimise option.Seed = false
has_option form.Optimise option.Report = false
has_option form.Optimise option.Grain = false
has_option form.Optimise _ = true

-- the option of this form that a word names
abbrev pub option_of : Form → List ℕ → Option OptionName
option_of f word = option_and_then (λ name. if has_option f name then Some name else None) (option_named word)

-- the word after this option is its value
abbrev pub takes_value : OptionName → Bool
takes_value option.Report = false
takes_value _ = true

-- no option is given
abbrev pub no_options : Options
no_options = record { workers = None; seed = None; report = false; grain = None; rules = None; rounds = None; batch = None; cap = None; slack = None; cost = None }

-- the word that names a rule file is one of the first n
abbrev pub IsFileWithin : ℕ → Options → Type 0
IsFileWithin n given = IfSome given.rules (λ k. k < n)

-- the place of a word that names a file, for an option that has none yet; a name isn't empty
abbrev pub new_file : Option ℕ → ℕ → List ℕ → Option ℕ
new_file None k word = if nat_lt 0 (length word) then Some k else None
new_file (Some earlier) k word = None

-- the table that a word is, for an option that has none yet
abbrev pub new_table : Option CostTable → List ℕ → Option CostTable
new_table None word = table_of word
new_table (Some earlier) word = None

-- these options and one more, whose value is this word, the one with number k; none where it was given before, or the word is
-- no such value
abbrev pub with_value : Options → OptionName → ℕ → List ℕ → Option Options
with_value given option.Workers k word = option_map (λ n. record given { workers = Some n }) (new_number given.workers word)
with_value given option.Seed k word = option_map (λ n. record given { seed = Some n }) (new_number given.seed word)
with_value given option.Report k word = None
with_value given option.Grain k word = option_map (λ n. record given { grain = Some n }) (new_number given.grain word)
with_value given option.Rules k word = option_map (λ r. record given { rules = Some r }) (new_file given.rules k word)
with_value given option.Rounds k word = option_map (λ n. record given { rounds = Some n }) (new_number given.rounds word)
with_value given option.Batch k word = option_map (λ n. record given { batch = Some n }) (new_number given.batch word)
with_value given option.Cap k word = option_map (λ n. record given { cap = Some n }) (new_number given.cap word)
with_value given option.Slack k word = option_map (λ n. record given { slack = Some n }) (new_number given.slack word)
with_value given option.Cost k word = option_map (λ t. record given { cost = Some t }) (new_table given.cost word)

-- these options and one more that has no value; none where it was given before, or has a value
abbrev pub without_value : Options → OptionName → Option Options
without_value given option.Report = if given.report then None else Some (record given { report = true })
without_value given _ = None

-- These options and those of the words, of which the first is the one with number k: each is named by a word, and has its value
-- in the next one, if it takes one. None where a word names no option of the form, or an option is given twice or with no value
-- of its kind.
unfoldable pub options_from : Form → Options → ℕ → List (List ℕ) → Option Options
options_from f given k [] = Some given
options_from f given k (word ∷ []) = option_and_then (λ name. without_value given name) (option_of f word)
options_from f given k (word ∷ next ∷ words) =
    option_and_then (λ name.
    if takes_value name
    then option_and_then (λ more. options_from f more (k + 2) words) (with_value given name (k + 1) next)
    else option_and_then (λ more. options_from f more (k + 1) (next ∷ words)) (without_value given name)) (option_of f word)

-- how many workers the options ask for, one where they don't say
abbrev pub workers_of : Options → ℕ
workers_of given = unwrap_or given.workers 1

-- the seed of the options, 0 where they don't say
abbrev pub seed_of : Options → ℕ
seed_of given = unwrap_or given.seed 0

-- the grain of the options, 4 where they don't say
abbrev pub grain_of : Options → ℕ
grain_of given = unwrap_or given.grain 4

-- the plan of the options: where they don't say, 16 rounds that take 8 circuits each, a queue of 100, and no slack; a gate of
-- which they say nothing weighs 1
abbrev pub plan_of : Options → PlanNumbers
plan_of given = record { rounds = unwrap_or given.rounds 16; batch = unwrap_or given.batch 8; cap = unwrap_or given.cap 100; slack = unwrap_or given.slack 0; weights = weights_of given.cost }

-- ---- limits

-- the limit that a command names where its bounds are refused for this
abbrev pub which_of : LimitFault → Which
which_of Qubits = BoundsQubits
which_of Gates = BoundsGates
which_of Params = BoundsParams
which_of Grain = BoundsGrain
which_of Circuits = BoundsCircuits

-- the limit that a command names where its plan is refused for this
abbrev pub which_of_plan : PlanFault → Which
which_of_plan Batch = PlanBatch
which_of_plan Cap = PlanCap
which_of_plan Rounds = PlanRounds
which_of_plan Slack = PlanSlack
which_of_plan Weight = CostWeight

-- the limit that a number of workers passes: there are 1 to 16
abbrev pub workers_limit : ℕ → Option Which
workers_limit workers = if nat_lt workers 1 || nat_lt 16 workers then Some Workers else None

-- the first limit that a generation passes
abbrev pub generation_limit : Limits → ℕ → Option Which
generation_limit b workers = option_or (option_map which_of (refusal b)) (workers_limit workers)

-- the first limit that an optimisation passes
abbrev pub optimisation_limit : PlanNumbers → ℕ → Option Which
optimisation_limit plan workers = option_or (option_map which_of_plan (plan_refusal plan)) (workers_limit workers)

-- the first limit that a trial passes: there are 1 to 64 qubits, and at most 20,000 gates
abbrev pub trial_limit : ℕ → ℕ → Option Which
trial_limit q g = if nat_lt q 1 || nat_lt most_qubits q then Some TrialQubits else if nat_lt most_gates g then Some TrialGates else None

-- numbers of qubits and gates that pass none
pub record IsTrialSize (q g : ℕ) : Type 0 where
  pub some : 1 ≤ q
  pub few : q ≤ most_qubits
  pub short : g ≤ most_gates

-- a number of workers that passes none
pub record AreWorkers (workers : ℕ) : Type 0 where
  pub some : 1 ≤ workers
  pub few : workers ≤ 16

-- the numbers of the command are within their limits, where no type keeps them so: the workers, and those of a trial
abbrev pub IsLawfulCommand : Command → Type 0
IsLawfulCommand (Generate bounds workers seed report) = AreWorkers workers
IsLawfulCommand Tidy = Unit {0}
IsLawfulCommand (Optimise rules plan workers) = AreWorkers workers
IsLawfulCommand (Trial seed q g) = IsTrialSize q g
IsLawfulCommand (Check other) = Unit {0}

-- the word that the command names, if it does, is one of the first n
abbrev pub IsWithinWords : ℕ → Command → Type 0
IsWithinWords n (Generate bounds workers seed report) = Unit {0}
IsWithinWords n Tidy = Unit {0}
IsWithinWords n (Optimise rules plan workers) = rules < n
IsWithinWords n (Trial seed q g) = Unit {0}
IsWithinWords n (Check other) = other < n

-- how many workers carry out the command
abbrev pub workers_for : Command → ℕ
workers_for (Generate bounds workers seed report) = workers
workers_for Tidy = 1
workers_for (Optimise rules plan workers) = workers
workers_for (Trial seed q g) = 1
workers_for (Check other) = 1

-- the command, unless it passes a limit
abbrev pub unless_passed : Option Which → Command → Result Command WordFault
unless_passed None command = Ok command
unless_passed (Some which) command = Err (Limit which)

-- ---- commands

-- the generation within these limits and with these options
abbrev pub generation : Limits → Options → Result Command WordFault
generation b given = unless_passed (generation_limit b (workers_of given)) (Generate b (workers_of given) (seed_of given) given.report)

-- the optimisation by the file that the word with this number names and with these options
abbrev pub optimisation : ℕ → Options → Result Command WordFault
optimisation rules given = unless_passed (optimisation_limit (plan_of given) (workers_of given)) (Optimise rules (plan_of given) (workers_of given))

-- the trial with these numbers
abbrev pub trial : ℕ → ℕ → ℕ → Result Command WordFault
trial seed q g = unless_passed (trial_limit q g) (Trial seed q g)

-- the limits of this grain with these numbers, where all three are numbers
abbrev pub limits_of : ℕ → Option ℕ → Option ℕ → Option ℕ → Option Limits
limits_of grain (Some n) (Some q) (Some m) = Some (record { n = n; q = q; m = m; grain = grain })
limits_of grain n q m = None

-- the command that is made of what words say; where they say nothing, they are in no written form
abbrev pub command_from : {A : Type 0} → (A → Result Command WordFault) → Option A → Result Command WordFault
command_from command None = Err Usage
command_from command (Some said) = command said

-- the generation that words ask for: three numbers come after the first word, and then options
unfoldable pub generation_asked : List (List ℕ) → Result Command WordFault
generation_asked (first ∷ n ∷ q ∷ m ∷ words) =
    command_from (λ given. command_from (λ b. generation b given) (limits_of (grain_of given) (number_of n) (number_of q) (number_of m))) (options_from form.Generate no_options 4 words)
generation_asked words = Err Usage

-- the optimisation that words ask for: options come after the first word, and one of them is the rule file
unfoldable pub optimisation_asked : List (List ℕ) → Result Command WordFault
optimisation_asked (first ∷ words) =
    command_from (λ given. command_from (λ rules. optimisation rules given) given.rules) (options_from form.Optimise no_options 1 words)
optimisation_asked [] = Err Usage

-- to tidy a program, where nothing comes after the first word
unfoldable pub tidying_asked : List (List ℕ) → Result Command WordFault
tidying_asked (first ∷ []) = Ok Tidy
tidying_asked words = Err Usage

-- the trial that words ask for: its seed, its qubits and its gates come after the first word, and nothing more
unfoldable pub trial_asked : List (List ℕ) → Result Command WordFault
trial_asked (first ∷ seed ∷ q ∷ g ∷ []) =
    command_from (λ s. command_from (λ k. command_from (trial s k) (number_of g)) (number_of q)) (number_of seed)
trial_asked words = Err Usage

-- the check that words ask for: an option comes after the first word, with the name of the other program's file, which isn't
-- empty, and nothing more
unfoldable pub check_asked : List (List ℕ) → Result Command WordFault
check_asked (first ∷ option ∷ file ∷ []) = if bytes_eq option (codes "--with") && nat_lt 0 (length file) then Ok (Check 2) else Err Usage
check_asked words = Err Usage

-- the command that the words ask for, of which this is the first one
unfoldable pub command_by : List ℕ → List (List ℕ) → Result Command WordFault
command_by first words =
    if bytes_eq first (codes "generate") then generation_asked words
    else if bytes_eq first (codes "optimise") then optimisation_asked words
    else if bytes_eq first (codes "tidy") then tidying_asked words
    else if bytes_eq first (codes "trial") then trial_asked words
    else if bytes_eq first (codes "check") then check_asked words
    else Err Usage

-- the command that the words ask for; or that they are in no written form; or the first limit that they pass
unfoldable pub command_of : List (List ℕ) → Result Command WordFault
command_of [] = Err Usage
command_of (first ∷ words) = command_by first (first ∷ words)
