-- What is read is valid, and no text has want of memory as its fault: each statement keeps a program valid.
use Rattle.std.proofs.Common.{◌≡◌, ◌≢◌, ℕ, suc, ◌+◌, ◌≤◌, true, ◌==◌, nat_lt, List, [], ◌∷◌, ◌++◌, length, length-append, arith}
use Rattle.std.specs.Prelude.{Option, Some, None, Ok, Err, codes}
use Rattle.std.specs.Bool.{nat_eq}
use Rattle.std.specs.List.{AllByRecursion, list_any}
use Rattle.std.specs.Option.{option_eq}
use Rattle.std.specs.Str.{bytes_eq}
use Rattle.std.proofs.lemmas.Bool.{ltb-false}
use Rattle.std.proofs.lemmas.Bool.Decides.{nat_tests}
use Rattle.qz_circ.specs.declared.circuit.Inst.{Inst}
use Rattle.qz_circ.specs.declared.program.Tail.{Tail}
use Rattle.qz_circ.specs.declared.program.Tail.TheVariants.{Barrier, Measure}
use Rattle.qz_circ.specs.declared.fault.QasmFault.TheVariants as fault
use Rattle.qz_circ.specs.declared.fault.LexFault.{LexFault}
use Rattle.qz_circ.specs.declared.fault.LexFault.TheVariants as lex_fault
use Rattle.qz_circ.specs.declared.gate_name.GateName.{GateName}
use Rattle.qz_circ.specs.ProgramCircuits.{IsProgramGate}
use Rattle.qz_circ.specs.Registers.{total_size}
use Rattle.qz_circ.specs.Programs.{ProgramParts}
use Rattle.qz_circ.specs.ValidPrograms.{AreAlike, IsStatement, Valid}
use Rattle.qz_circ.specs.GateNames.{gate_named, more_operands}
use Rattle.qz_circ.specs.Tokens.{tokens_of}
use Rattle.qz_circ.specs.Lexemes.{Lexeme, kind_of, lexemes, is_semicolon, statements_of}
use Rattle.qz_circ.specs.Forms.{is_text, is_word, begins_lower}
use Rattle.qz_circ.specs.Grammar.{size_unless, whole_size, ordered_gate_form, with_gates, with_gate, with_barrier, with_measurement, with_inclusion, unsupported_words, with_words, with_statement, with_statements, empty_program, program_from, program_of}
use Rattle.qz_circ.proofs.RisingLists.{each-append}
use Rattle.qz_circ.specs.declared.fault.Which.{Which}
use Rattle.qz_qread.specs.ProgramLimits.{IsProgramLimit}
use Rattle.qz_qread.proofs.Readings.{IsOfText, Reads, Anything, value_met, fault_met, done, refused, next, choice, as_other, found, misfits}
use Rattle.qz_qread.specs.Spelled.{AreSpelled}
use Rattle.qz_qread.proofs.SpelledLexemes.{IsOfTokens, tokens_read, statements_spelled}
use Rattle.qz_qread.proofs.ReadForms.{token_read, header_read, declaration_read, operands_read, measure_read, gate_read}
use Rattle.qz_qread.proofs.ReadDeclarations.{qreg_read, creg_read}
use Rattle.qz_qread.proofs.ReadGates.{arg_read, args_read, checked_read, angle_number_read}

-- ---- gates

valid_with_gates : (p : ProgramParts) (gates : List Inst) → Valid p → AllByRecursion (IsProgramGate (total_size p.qregs)) gates → length p.gates + length gates ≤ 20000 → Valid (record p { gates = p.gates ++ gates })
valid_with_gates p gates valid fit few = record {
  names = valid.names;
  different = valid.different;
  few_registers = valid.few_registers;
  sizes = valid.sizes;
  few_bits = valid.few_bits;
  gates = record { few = valid.gates.few; gates = each-append (IsProgramGate (total_size p.qregs)) p.gates gates valid.gates.gates fit };
  few_gates = omega (arith, length-append p.gates gates);
  tail = valid.tail;
}

gates_read : (p : ProgramParts) (word : Lexeme) (gates : List Inst) → Valid p → AllByRecursion (IsProgramGate (total_size p.qregs)) gates → Reads Valid (with_gates p word gates)
unfolding with_gates
gates_read p word gates valid fit =
    choice (nat_lt 20000 (length p.gates + length gates)) (λ _. refused tt) (λ few. done (valid_with_gates p gates valid fit (ltb-false 20000 _ few)))

ordered_read : (p : ProgramParts) (gate : GateName) (len : ℕ) (word : Lexeme) (ls : List Lexeme) → Reads (λ form. length form.operands ≡ suc (more_operands gate)) (ordered_gate_form p gate len word ls)
ordered_read p gate len word ls = choice (length p.tail == 0) (λ _. gate_read gate len ls) (λ _. refused tt)

with_gate_read : (len : ℕ) (p : ProgramParts) (word : Lexeme) (ls : List Lexeme) → Valid p → Reads Valid (with_gate len p word ls)
unfolding with_gate
with_gate_read len p word ls valid =
    next {P = Anything} (found (gate_named word.text) _ (λ gate _. tt) tt) (λ gate _.
    next (ordered_read p gate len word ls) (λ form count.
    next (angle_number_read gate form.angle) (λ k angle.
    next (args_read p.qregs form.operands) (λ args operands.
    next (checked_read p.qregs gate k form.operands args angle operands.0 (omega arith)) (λ gates fit.
    gates_read p word gates valid fit)))))

-- ---- barriers and measurements

valid_with_tail : (p : ProgramParts) (s : Tail) → Valid p → IsStatement p.qregs p.cregs s → Valid (record p { tail = p.tail ++ s ∷ [] })
valid_with_tail p s valid here = record {
  names = valid.names;
  different = valid.different;
  few_registers = valid.few_registers;
  sizes = valid.sizes;
  few_bits = valid.few_bits;
  gates = valid.gates;
  few_gates = valid.few_gates;
  tail = each-append (IsStatement p.qregs p.cregs) p.tail (s ∷ []) valid.tail (here, tt);
}

barrier_read : (len : ℕ) (p : ProgramParts) (ls : List Lexeme) → Valid p → Reads Valid (with_barrier len p ls)
unfolding with_barrier
barrier_read len p ls valid =
    next (operands_read _ len ls) (λ operands count.
    next (args_read p.qregs operands) (λ args h.
    done (valid_with_tail p (Barrier args) valid (omega arith, h.0))))

alike_by_test : (m n : ℕ) (i j : Option ℕ) → option_eq nat_eq (size_unless m i) (size_unless n j) ≡ true → AreAlike m n i j
alike_by_test m n None None h = grind (arith, nat_tests)
alike_by_test m n None (Some j) h = absurd (cc)
alike_by_test m n (Some i) None h = absurd (cc)
alike_by_test m n (Some i) (Some j) h = tt

measurement_read : (len : ℕ) (p : ProgramParts) (ls : List Lexeme) → Valid p → Reads Valid (with_measurement len p ls)
unfolding with_measurement
measurement_read len p ls valid =
    next (measure_read len ls) (λ form _.
    next (arg_read p.qregs form.from) (λ from source.
    next (arg_read p.cregs form.to) (λ to target.
    choice (option_eq nat_eq (whole_size p.qregs from) (whole_size p.cregs to))
    (λ same. done (valid_with_tail p (Measure from to) valid (record { source = source; target = target; alike = alike_by_test _ _ from.index to.index same })))
    (λ _. refused tt))))

-- ---- statements

inclusion_read : (len : ℕ) (p : ProgramParts) (ls : List Lexeme) → Valid p → Reads Valid (with_inclusion len p ls)
unfolding with_inclusion
inclusion_read len p ls valid =
    next (token_read is_text len ls) (λ file _.
    choice (bytes_eq file.0.text (codes "\"qelib1.inc\"")) (λ _. next (token_read is_semicolon len file.1) (λ end _. done valid)) (λ _. refused tt))

words_read : (len : ℕ) (p : ProgramParts) (word : Lexeme) (ls : List Lexeme) → Valid p → AreSpelled ls → Reads Valid (with_words len p word ls)
unfolding with_words
words_read len p word ls valid spelled =
    choice (bytes_eq word.text (codes "include")) (λ _. inclusion_read len p ls valid)
    (λ _. choice (bytes_eq word.text (codes "qreg")) (λ _. next (declaration_read len ls spelled) (λ d h. qreg_read p d valid h))
    (λ _. choice (bytes_eq word.text (codes "creg")) (λ _. next (declaration_read len ls spelled) (λ d h. creg_read p d valid h))
    (λ _. choice (bytes_eq word.text (codes "barrier")) (λ _. barrier_read len p ls valid)
    (λ _. choice (bytes_eq word.text (codes "measure")) (λ _. measurement_read len p ls valid)
    (λ _. choice (list_any (bytes_eq word.text) unsupported_words) (λ _. refused tt)
    (λ _. choice (begins_lower word.text) (λ _. with_gate_read len p word ls valid) (λ _. misfits len (word ∷ ls))))))))

-- a statement gives a valid program, or a fault of the text
statement_read : (len : ℕ) (p : ProgramParts) (ls : List Lexeme) → Valid p → AreSpelled ls → Reads Valid (with_statement len p ls)
unfolding with_statement
statement_read len p [] valid spelled = done valid
statement_read len p (l ∷ ls) valid spelled = choice (is_word (kind_of l)) (λ _. words_read len p l ls valid spelled.1) (λ _. misfits len (l ∷ ls))

-- a statement keeps a program valid
pub valid_kept : (len : ℕ) (p q : ProgramParts) (ls : List Lexeme) → with_statement len p ls ≡ Ok q → Valid p → AreSpelled ls → Valid q
valid_kept len p q ls is valid spelled = value_met IsOfText Valid (with_statement len p ls) q (statement_read len p ls valid spelled) is

statements_read : (len : ℕ) (p : ProgramParts) (statements : List (List Lexeme)) → Valid p → AllByRecursion AreSpelled statements → Reads Valid (with_statements len p statements)
unfolding with_statements
statements_read len p [] valid spelled = done valid
statements_read len p (statement ∷ others) valid spelled = next (statement_read len p statement valid spelled.0) (λ q kept. statements_read len q others kept spelled.1)

-- ---- programs

pub empty_is_valid : Valid empty_program
empty_is_valid = record {
  names = tt;
  different = λ i j d before within. absurd (omega arith);
  few_registers = omega arith;
  sizes = tt;
  few_bits = omega arith;
  gates = record { few = omega arith; gates = tt };
  few_gates = omega arith;
  tail = tt;
}

parts_read : (len : ℕ) (statements : List (List Lexeme)) → AllByRecursion AreSpelled statements → Reads Valid (program_from len statements)
unfolding program_from
parts_read len [] spelled = refused tt
parts_read len (header ∷ statements) spelled =
    next (header_read len header) (λ version _.
    choice (bytes_eq version.text (codes "2.0")) (λ _. statements_read len empty_program statements empty_is_valid spelled.1) (λ _. refused tt))

-- a fault of the tokens is one of the text
of_text : (e : LexFault) → IsOfTokens e → IsOfText (fault.Lex e)
of_text lex_fault.Memory h = h
of_text _ h = tt

-- what a text is read as is valid, or a fault of the text
program_read : (bytes : List ℕ) → Reads Valid (program_of bytes)
unfolding program_of
program_read bytes =
    next (as_other fault.Lex (tokens_of bytes) (tokens_read bytes) of_text) (λ tokens spelled.
    parts_read (length bytes) (statements_of (lexemes bytes tokens)) (statements_spelled (lexemes bytes tokens) spelled))

pub what_is_read_is_valid : (bytes : List ℕ) (p : ProgramParts) → program_of bytes ≡ Ok p → Valid p
what_is_read_is_valid bytes p is = value_met IsOfText Valid (program_of bytes) p (program_read bytes) is

pub no_program_lacks_memory : (bytes : List ℕ) → program_of bytes ≢ Err fault.Memory
no_program_lacks_memory bytes is = fault_met IsOfText Valid (program_of bytes) fault.Memory (program_read bytes) is

pub no_tokens_lack_memory : (bytes : List ℕ) → program_of bytes ≢ Err (fault.Lex lex_fault.Memory)
no_tokens_lack_memory bytes is = fault_met IsOfText Valid (program_of bytes) (fault.Lex lex_fault.Memory) (program_read bytes) is

pub limits_are_of_programs : (bytes : List ℕ) (which : Which) (place : ℕ) → program_of bytes ≡ Err (fault.Limit which place) → IsProgramLimit which
limits_are_of_programs bytes which place is = fault_met IsOfText Valid (program_of bytes) (fault.Limit which place) (program_read bytes) is
