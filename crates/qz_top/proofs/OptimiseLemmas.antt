-- What is made of a rule file.
use Rattle.std.proofs.Common.{◌≡◌, ℕ, List, Result, Ok, Err, refl, subst, sym, ap, ◌∙◌, inl, inr}
use Rattle.std.specs.Prelude.{◌⊎◌, MatchResult, IfErr}
use Rattle.qz_circ.specs.declared.fault.RuleFault.{RuleFault}
use Rattle.qz_circ.specs.declared.fault.RuleFault.TheVariants as fault
use Rattle.qz_circ.specs.ProgramText.{program_text}
use Rattle.qz_circ.specs.RuleFiles.{RuleClasses, Reads}
use Rattle.qz_circ.specs.Search.{PlanNumbers}
use Rattle.qz_io.specs.Transfers.{Input}
use Rattle.qz_rulefile.proofs.Unique.{one_reading}
use Rattle.qz_top.specs.declared.status.Status.{Status}
use Rattle.qz_top.specs.declared.status.Status.TheVariants as status
use Rattle.qz_top.specs.Status.{IsRefusal, IsBeforeInput}
use Rattle.qz_top.specs.Answer.{Answer, Given, Storage, refused_with}
use Rattle.qz_top.specs.Files.{IsFileRead}
use Rattle.qz_top.specs.Making.{IsToBeWritten, EndsEarly, EndsUnread, AreRulesRead, IsMadeOfInput, EndsByInput}
use Rattle.qz_top.specs.Optimise.{rule_file, status_of_rule_fault, with_circuit, optimised_text, RulesAnswer, RuleBytesAnswer, Optimises}
use Rattle.qz_top.specs.Optimised.{IsOptimised, IsOptimisedBy}
use Rattle.qz_top.proofs.FileLemmas.{answers_to_bytes, only_to_bytes, unread_memory, ends_by_bytes}
use Rattle.qz_top.proofs.InputLemmas.{AreOfInput, ends_by_input, written_by_input, ends_late}

-- a fault of a rule file is a refusal, and not want of memory
fault_refuses : (bytes : List ℕ) (e : RuleFault) → Reads bytes (Err e) → IsRefusal (status_of_rule_fault e)
fault_refuses bytes (fault.Syntax place) reads = tt
fault_refuses bytes (fault.Limit refused) reads = tt
fault_refuses bytes (fault.Unsound class member) reads = tt
fault_refuses bytes fault.Memory reads = absurd reads

-- what is made of the bytes of a file
abbrev pub IsMadeOf : {R : Type 0} → List ℕ → (R → RuleClasses) → Result R Status → Type 0
IsMadeOf bytes view made = MatchResult made (λ rules. Reads bytes (Ok (view rules))) (λ s. ((e : RuleFault) × Reads bytes (Err e) × (s ≡ status_of_rule_fault e)) ⊎ (s ≡ status.Memory))

module _ (plan : PlanNumbers) where
  -- an answer to the bytes of a file is one to what they say
  only_said : (given : Given) (bytes : List ℕ) (said : Result RuleClasses RuleFault) (b : Answer) → Reads bytes said → RuleBytesAnswer plan given bytes b → RulesAnswer plan given said b
  only_said given bytes said b reads is = subst (λ r. RulesAnswer plan given r b) (one_reading bytes is.0 said is.1 reads) is.2

  -- what a file says decides how the command ends, where that is a refusal and all that the answers say
  said_ends : (name bytes : List ℕ) (shelf : Storage) (said : Result RuleClasses RuleFault) (s : Status) → IsFileRead rule_file name bytes shelf → Reads bytes said → IsRefusal s →
      ((given : Given) → RulesAnswer plan given said (refused_with s)) → ((given : Given) (b : Answer) → RulesAnswer plan given said b → b.status ≡ s) → EndsUnread (Optimises name plan) s shelf
  said_ends name bytes shelf said s file reads refusal is only =
      ends_by_bytes rule_file name (RuleBytesAnswer plan) s bytes shelf file refusal (λ given. (said, reads, is given)) (λ given b h. only given b (only_said given bytes said b reads h))

  -- the rules of a file, or the status that is made of its fault
  rules_of_bytes : {R : Type 0} (name bytes : List ℕ) (shelf : Storage) (view : R → RuleClasses) (made : Result R Status) → IsFileRead rule_file name bytes shelf → IsMadeOf bytes view made →
      MatchResult made (λ rules. AreRulesRead name (view rules) shelf) (λ s. EndsUnread (Optimises name plan) s shelf)
  rules_of_bytes name bytes shelf view (Ok rules) file is = record { bytes = bytes; read = file; said = is }
  rules_of_bytes name bytes shelf view (Err s) file (inl w) =
      subst (λ t. EndsUnread (Optimises name plan) t shelf) (sym w.2) (said_ends name bytes shelf (Err w.0) (status_of_rule_fault w.0) file w.1 (fault_refuses bytes w.0 w.1) (λ given. refl) (λ given b h. ap (λ (a : Answer). a.status) h))
  rules_of_bytes name bytes shelf view (Err s) file (inr m) = subst (λ t. EndsUnread (Optimises name plan) t shelf) (sym m) (unread_memory rule_file name (RuleBytesAnswer plan) shelf file.answered)

  -- so it is with the bytes as they are handed on
  pub rules_made : {R : Type 0} (name bytes seen : List ℕ) (shelf : Storage) (view : R → RuleClasses) (made : Result R Status) → seen ≡ bytes → IsFileRead rule_file name bytes shelf → IsMadeOf seen view made →
      MatchResult made (λ rules. AreRulesRead name (view rules) shelf) (λ s. EndsUnread (Optimises name plan) s shelf)
  rules_made name bytes seen shelf view made same file is = rules_of_bytes name bytes shelf view made file (subst (λ b. IsMadeOf b view made) same is)

  -- ---- the input

  -- the answers with these rules are those to the input
  of_rules : (name : List ℕ) (rules : RuleClasses) (shelf : Storage) (read : AreRulesRead name rules shelf) → AreOfInput (Optimises name plan) (optimised_text rules plan) read.read.files
  of_rules name rules shelf read = record {
    is = λ bytes b h. answers_to_bytes rule_file name (RuleBytesAnswer plan) read.bytes (record { input = bytes; files = read.read.files }) b read.read.named read.read.short (Ok rules, read.said, h);
    only = λ bytes b h.
        let given : Given = record { input = bytes; files = read.read.files } in
        only_said given read.bytes (Ok rules) b read.said (only_to_bytes rule_file name (RuleBytesAnswer plan) read.bytes given b read.read.named read.read.short h);
  }

  -- the input's program is optimised
  pub optimised_written : (name : List ℕ) (text : List ℕ) (input : Input) (shelf : Storage) → IsOptimisedBy name plan text input shelf → IsToBeWritten (Optimises name plan) text input shelf
  optimised_written name text input shelf by =
      let rules_read = by.rules_read in
      let p = by.optimised.program in
      let made = by.optimised.made in
      let is : text ≡ optimised_text by.rules plan p = made.text_is ∙ ap (λ c. program_text (with_circuit p c)) made.found.found in
      written_by_input (Optimises name plan) (optimised_text by.rules plan) rules_read.read.files (of_rules name by.rules shelf rules_read) input shelf rules_read.read.told rules_read.read.answered p text by.optimised.read is

  -- or the command ends early
  pub optimised_ends : (name : List ℕ) (rules : RuleClasses) (s : Status) (input : Input) (shelf : Storage) → AreRulesRead name rules shelf → EndsByInput s input → EndsEarly (Optimises name plan) s input shelf
  optimised_ends name rules s input shelf read ends =
      ends_by_input (Optimises name plan) (optimised_text rules plan) read.read.files (of_rules name rules shelf read) input shelf read.read.told read.read.answered s ends

  -- what is made of the input, given the rules
  pub made_by_rules : {T : Type 0} (name : List ℕ) (rules : RuleClasses) (items : T → List ℕ) (made : Result T Status) (input : Input) (shelf : Storage) → AreRulesRead name rules shelf →
      MatchResult made (λ text. IsMadeOfInput (λ p. IsOptimised rules plan p (items text)) input) (λ s. EndsByInput s input) →
      MatchResult made (λ text. IsOptimisedBy name plan (items text) input shelf) (λ s. EndsEarly (Optimises name plan) s input shelf)
  made_by_rules name rules items (Ok text) input shelf read is = record { rules = rules; rules_read = read; optimised = is }
  made_by_rules name rules items (Err s) input shelf read is = optimised_ends name rules s input shelf read is

-- a status that the input decides is none that comes before it, so nothing is to be said of the input there
pub late_by_rules : {T : Type 0} (P : T → Type 0) (Q : Type 0) (made : Result T Status) (input : Input) → MatchResult made P (λ s. EndsByInput s input) → IfErr made (λ s. IsBeforeInput s → Q)
late_by_rules P Q (Ok text) input is = tt
late_by_rules P Q (Err s) input is = λ b. absurd (ends_late s input is b)
