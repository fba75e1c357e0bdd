-- What the words of a command, and one of them that names a file, stand for.
use Rattle.std.proofs.Common.{◌≡◌, ℕ, Bool, List, [], Option, Some, None, Result, Ok, Err, subst, sym, ◌∙◌, ap, inl, inr}
use Rattle.std.specs.Prelude.{◌⊎◌, slice_index_or, MatchResult}
use Rattle.qz_circ.specs.Circuit.{Limits}
use Rattle.qz_circ.specs.Search.{PlanNumbers}
use Rattle.qz_io.specs.Files.{Files}
use Rattle.qz_top.specs.declared.files.FileLimit.{FileLimit}
use Rattle.qz_top.specs.declared.status.Status.{Status}
use Rattle.qz_top.specs.declared.words.Command.{Command}
use Rattle.qz_top.specs.declared.words.Command.TheVariants.{Generate, Optimise}
use Rattle.qz_top.specs.declared.words.WordFault.{WordFault}
use Rattle.qz_top.specs.Answer.{Answer, Given, Storage, Outside, IsCarriedOut}
use Rattle.qz_top.specs.Files.{TellsFile, TakesFile}
use Rattle.qz_top.specs.Generate.{WritesCompleteRules}
use Rattle.qz_top.specs.Optimised.{WritesOptimised}
use Rattle.qz_top.specs.Run.{CommandAnswers, CommandNeedsProgram, NeedsProgram, IsOfProgram, AsksOfProgram, NamedFile, file_of, file_said, file_asked, Tells}
use Rattle.qz_top.specs.Words.{command_of}

-- what is told of a text is told of one that is the same
pub tells_same : (text told : List ℕ) → text ≡ told → {old new : Option (List ℕ)} {X : Type 0} → Tells told old new X → Tells text old new X
tells_same text told same {old} {new} {X} tells = subst (λ (t : List ℕ). Tells t old new X) (sym same) tells

-- words ask for one command
pub same_command : (words : List (List ℕ)) (command other : Command) → Ok command ≡ command_of words → command_of words ≡ Ok other → command ≡ other
same_command words command other is same = cc

-- what words need is what their command needs
pub words_need : (words : List (List ℕ)) (command : Command) (shelf : Storage) → Ok command ≡ command_of words → CommandNeedsProgram words command shelf → NeedsProgram words shelf
words_need words command shelf e needs = subst (λ (r : Result Command WordFault). MatchResult r (λ k. CommandNeedsProgram words k shelf) (λ refused. ⊥)) e needs

-- unless there is something else
pub words_need_or : {Q : Type 0} (words : List (List ℕ)) (command : Command) (shelf : Storage) → Ok command ≡ command_of words → Q ⊎ CommandNeedsProgram words command shelf → Q ⊎ NeedsProgram words shelf
words_need_or words command shelf e (inl q) = inl q
words_need_or words command shelf e (inr needs) = inr (words_need words command shelf e needs)

-- what words ask for is what their command is
pub words_ask : (words : List (List ℕ)) (command : Command) → Ok command ≡ command_of words → AsksOfProgram words → IsOfProgram command
words_ask words command e asks = subst (λ (r : Result Command WordFault). MatchResult r IsOfProgram (λ refused. ⊥)) (sym e) asks

-- words that are refused ask for no command
pub refused_ask : (words : List (List ℕ)) (fault : WordFault) → Err fault ≡ command_of words → AsksOfProgram words → ⊥
refused_ask words fault e asks = subst (λ (r : Result Command WordFault). MatchResult r IsOfProgram (λ refused. ⊥)) (sym e) asks

-- the word with a number
abbrev word_at : List (List ℕ) → ℕ → List ℕ
word_at words k = slice_index_or words k []

-- the parts of an optimisation are known from it
same_number : (k j : ℕ) (plan other : PlanNumbers) (workers more : ℕ) → Optimise k plan workers ≡ Optimise j other more → k ≡ j
same_number k j plan other workers more e = cc

same_plan : (k j : ℕ) (plan other : PlanNumbers) (workers more : ℕ) → Optimise k plan workers ≡ Optimise j other more → plan ≡ other
same_plan k j plan other workers more e = cc

-- a command opens one file
one_file : (a b : NamedFile) → Some a ≡ Some b → a ≡ b
one_file a b e = cc

-- what holds with a name holds with the word that it is, and so of the command that names this word
module _ (words : List (List ℕ)) (command other : Command) (k : ℕ) (name : List ℕ) (is : command ≡ other) (named : name ≡ word_at words k) where
  -- it is carried out
  pub carried_by_name : (Answers : List ℕ → Given → Answer → Type 0) (s : Status) (outside : Outside) → (IsCarriedOut (Answers (word_at words k)) s outside → IsCarriedOut (CommandAnswers words other) s outside) →
      IsCarriedOut (Answers name) s outside → IsCarriedOut (CommandAnswers words command) s outside
  carried_by_name Answers s outside by carried =
      subst (λ (c : Command). IsCarriedOut (CommandAnswers words c) s outside) (sym is) (by (subst (λ (n : List ℕ). IsCarriedOut (Answers n) s outside) named carried))

  -- it has what it needs
  pub needs_by_name : (Has : List ℕ → Storage → Type 0) (shelf : Storage) → (Has (word_at words k) shelf → CommandNeedsProgram words other shelf) → Has name shelf → CommandNeedsProgram words command shelf
  needs_by_name Has shelf by has = subst (λ (c : Command). CommandNeedsProgram words c shelf) (sym is) (by (subst (λ (n : List ℕ). Has n shelf) named has))

  pub needs_by_name_or : (Q : Type 0) (Has : List ℕ → Storage → Type 0) (shelf : Storage) → (Has (word_at words k) shelf → CommandNeedsProgram words other shelf) → Q ⊎ Has name shelf → Q ⊎ CommandNeedsProgram words command shelf
  needs_by_name_or Q Has shelf by (inl q) = inl q
  needs_by_name_or Q Has shelf by (inr has) = inr (needs_by_name Has shelf by has)

  -- and takes its file so
  pub taken_by_name : (limit : FileLimit) (wanted : NamedFile) (told : Option Files) (file : List ℕ) (before after : Option (List ℕ)) (s : Status) → file_of other ≡ Some (record { word = k; limit = limit }) → file_of command ≡ Some wanted →
      (TellsFile told name file → TakesFile limit file before after s) → TellsFile told (word_at words wanted.word) file → TakesFile wanted.limit file before after s
  taken_by_name limit wanted told file before after s opens same takes =
      let first : NamedFile = record { word = k; limit = limit } in
      let one : first ≡ wanted = one_file first wanted (sym opens ∙ sym (ap file_of is) ∙ same) in
      subst (λ (w : NamedFile). TellsFile told (word_at words w.word) file → TakesFile w.limit file before after s) one (λ tells. takes (subst (λ (n : List ℕ). TellsFile told n file) (sym named) tells))

-- what an optimisation writes
pub optimised_by_name : (words : List (List ℕ)) (command : Command) (k : ℕ) (plan : PlanNumbers) (workers : ℕ) (name : List ℕ) → command ≡ Optimise k plan workers → name ≡ word_at words k →
    (j : ℕ) (other : PlanNumbers) (more : ℕ) (outside : Outside) → command ≡ Optimise j other more → WritesOptimised name plan outside → WritesOptimised (word_at words j) other outside
optimised_by_name words command k plan workers name is named j other more outside same writes =
    let number : k ≡ j = same_number k j plan other workers more (sym is ∙ same) in
    let plans : plan ≡ other = same_plan k j plan other workers more (sym is ∙ same) in
    subst (λ (n : List ℕ). WritesOptimised n other outside) (named ∙ ap (word_at words) number) (subst (λ (p : PlanNumbers). WritesOptimised name p outside) plans writes)

-- the file that is asked for is that of the command that the words ask for
pub file_same : (words : List (List ℕ)) (command : Command) (file : Option NamedFile) → Ok command ≡ command_of words → file_asked words ≡ file → file_of command ≡ file
file_same words command file e asked = ap file_said e ∙ asked

-- words that are refused ask for no file
pub refused_opens_none : (words : List (List ℕ)) (fault : WordFault) (named : NamedFile) → Err fault ≡ command_of words → file_asked words ≡ Some named → ⊥
refused_opens_none words fault named e asked = let h : None ≡ Some named = ap file_said e ∙ asked in cc

pub refused_asks_none : (words : List (List ℕ)) (fault : WordFault) → Err fault ≡ command_of words → file_asked words ≡ None
refused_asks_none words fault e = sym (ap file_said e)

-- a command that opens no file has none
pub opens_none : (command other : Command) (named : NamedFile) → command ≡ other → file_of other ≡ None → file_of command ≡ Some named → ⊥
opens_none command other named is none asked = let h : None ≡ Some named = sym none ∙ sym (ap file_of is) ∙ asked in cc

-- one that opens a file has one
pub opens_some : (command other : Command) (named : NamedFile) → command ≡ other → file_of other ≡ Some named → file_of command ≡ None → ⊥
opens_some command other named is some asked = let h : Some named ≡ None = sym some ∙ sym (ap file_of is) ∙ asked in cc

-- the limits of a generation are known from it, and so what it writes
pub same_rules : (b other : Limits) (workers more seed next : ℕ) (report wanted : Bool) (old new : Option (List ℕ)) → Generate b workers seed report ≡ Generate other more next wanted → WritesCompleteRules b old new → WritesCompleteRules other old new
same_rules b other workers more seed next report wanted old new e writes =
    let limits : b ≡ other = cc in
    subst (λ (l : Limits). WritesCompleteRules l old new) limits writes
