-- Which program a text is, or its first fault. The source is OpenQASM 2.0; the limits, the faults, their order and what of the
-- language is refused are this project's own.
use Rattle.std.specs.Prelude.{ℕ, ◌+◌, Bool, false, not, ◌==◌, nat_lt, if◌then◌else◌, List, [], ◌∷◌, ◌++◌, length, map, take, slice_index, slice_index_or, codes, Option, Some, None, Result, Ok, Err}
use Rattle.std.specs.List.{list_any, flat_map, filter_map, position}
use Rattle.std.specs.Option.{ok_or, option_map_or, option_eq, unwrap_or}
use Rattle.std.specs.Bool.{nat_eq}
use Rattle.std.specs.Str.{bytes_eq}
use Rattle.qz_circ.specs.declared.circuit.Inst.{Inst}
use Rattle.qz_circ.specs.declared.program.Arg.{Arg}
use Rattle.qz_circ.specs.declared.program.Tail.TheVariants.{Barrier, Measure}
use Rattle.qz_circ.specs.declared.fault.Which.TheVariants.{ProgramRegisters, ProgramQubits, ProgramBits, ProgramGates}
use Rattle.qz_circ.specs.declared.fault.QasmFault.{QasmFault}
use Rattle.qz_circ.specs.declared.fault.QasmFault.TheVariants as fault
use Rattle.qz_circ.specs.declared.gate_name.GateName.{GateName}
use Rattle.qz_circ.specs.FirstFault.{◌>>=◌, fault_as}
use Rattle.qz_circ.specs.ProgramLimits.{most_registers, most_qubits, most_bits, most_gates}
use Rattle.qz_circ.specs.Circuit.{below}
use Rattle.qz_circ.specs.Registers.{RegisterParts, total_size}
use Rattle.qz_circ.specs.Programs.{ProgramParts}
use Rattle.qz_circ.specs.ValidPrograms.{registers_of, size_at}
use Rattle.qz_circ.specs.GateNames.{gate_named, takes_angle, read_as}
use Rattle.qz_circ.specs.Tokens.{tokens_of}
use Rattle.qz_circ.specs.Angle.{angle_of}
use Rattle.qz_circ.specs.Lexemes.{Lexeme, kind_of, place_of, lexemes, is_semicolon, statements_of}
use Rattle.qz_circ.specs.Forms.{misfit, token, is_word, is_text, value_of, begins_lower, Declaration, Operand, GateForm, header_form, declaration_form, barrier_form, measure_form, gate_form}

-- ---- declarations

-- a register of either kind has the name
abbrev pub has_register : ProgramParts → List ℕ → Bool
has_register p name = list_any (λ r. bytes_eq r.name name) (registers_of p)

-- the register that is declared, where its name is new and there are fewer than 64
unfoldable pub declared : ProgramParts → Declaration → Result RegisterParts QasmFault
declared p d =
    if has_register p d.name.text then Err (fault.Twice (place_of d.name))
    else if nat_lt (length (registers_of p)) most_registers then Ok (record { name = d.name.text; size = value_of d.size })
    else Err (fault.Limit ProgramRegisters (place_of d.name))

-- with a register of qubits more, while all together are at most 64
unfoldable pub with_qreg : ProgramParts → Declaration → Result ProgramParts QasmFault
with_qreg p d = do
  r ← declared p d
  if nat_lt most_qubits (total_size p.qregs + r.size) then Err (fault.Limit ProgramQubits (place_of d.size))
      else Ok (record p { qregs = p.qregs ++ r ∷ [] })

-- with a register of bits more, while all together are at most 4,096
unfoldable pub with_creg : ProgramParts → Declaration → Result ProgramParts QasmFault
with_creg p d = do
  r ← declared p d
  if nat_lt most_bits (total_size p.cregs + r.size) then Err (fault.Limit ProgramBits (place_of d.size))
      else Ok (record p { cregs = p.cregs ++ r ∷ [] })

-- ---- operands

-- the number of the register with a name
unfoldable pub register_named : List RegisterParts → Lexeme → Result ℕ QasmFault
register_named registers name = ok_or (position (λ r. bytes_eq r.name name.text) registers) (fault.UnknownName (place_of name))

-- a place below the size of its register, where there is one
abbrev pub index_below : ℕ → Option Lexeme → Result (Option ℕ) QasmFault
index_below size None = Ok None
index_below size (Some n) = if nat_lt (value_of n) size then Ok (Some (value_of n)) else Err (fault.Index (place_of n))

-- an operand among these registers
unfoldable pub arg_of : List RegisterParts → Operand → Result Arg QasmFault
arg_of registers o = do
  register ← register_named registers o.name
  index ← index_below (size_at registers register) o.index
  Ok (record { register = register; index = index })

-- operands from left to right
unfoldable pub args_of : List RegisterParts → List Operand → Result (List Arg) QasmFault
args_of registers [] = Ok []
args_of registers (o ∷ os) = do
  arg ← arg_of registers o
  others ← args_of registers os
  Ok (arg ∷ others)

-- the size, where the whole register is meant
abbrev pub size_unless : ℕ → Option ℕ → Option ℕ
size_unless size None = Some size
size_unless size (Some place) = None

-- the size of an operand that is a whole register
abbrev pub whole_size : List RegisterParts → Arg → Option ℕ
whole_size registers a = size_unless (size_at registers a.register) a.index

-- this fault at the operand with a number, or what follows where there is none
abbrev pub unless_at : {A : Type 0} → Option ℕ → (ℕ → QasmFault) → List Operand → Result A QasmFault → Result A QasmFault
unless_at None at os next = next
unless_at (Some j) at os next = Err (at (slice_index (map (λ o. place_of o.name) os) j))

-- ---- gates

-- how often a gate is applied: once for each place of its first whole register, and once where it has none
unfoldable pub repetitions : List RegisterParts → List Arg → ℕ
repetitions registers args = slice_index_or (filter_map (whole_size registers) args) 0 1

-- the number of the first operand that is a whole register with another size than the first of these
unfoldable pub other_size : List RegisterParts → List Arg → Option ℕ
other_size registers args = position (λ a. option_map_or (λ n. not (n == repetitions registers args)) (whole_size registers a) false) args

-- the qubit of an operand at repetition i: that of its place, or the one at place i of the whole register
unfoldable pub qubit_at : List RegisterParts → ℕ → Arg → ℕ
qubit_at registers i a = total_size (take a.register registers) + unwrap_or a.index i

-- the qubits of the operands at repetition i
abbrev pub qubits_at : List RegisterParts → List Arg → ℕ → List ℕ
qubits_at registers args i = map (qubit_at registers i) args

-- the qubit with number j is one of those before it
abbrev pub is_repeated : List ℕ → ℕ → Bool
is_repeated qubits j = list_any (λ q. q == slice_index qubits j) (take j qubits)

-- the number of the first operand that has at some repetition the qubit of one before it
unfoldable pub same_qubit : List RegisterParts → List Arg → Option ℕ
same_qubit registers args =
    position (λ j. list_any (λ i. is_repeated (qubits_at registers args i) j) (below (repetitions registers args))) (below (length args))

-- what a gate with an angle is read as on the first three of these qubits
abbrev pub gates_at : GateName → ℕ → List ℕ → List Inst
gates_at gate k qubits = read_as gate k (slice_index qubits 0) (slice_index qubits 1) (slice_index qubits 2)

-- the gates at all repetitions
unfoldable pub applied : List RegisterParts → GateName → ℕ → List Arg → List Inst
applied registers gate k args = flat_map (λ i. gates_at gate k (qubits_at registers args i)) (below (repetitions registers args))

-- the gates, where whole registers have one size and no operand has the qubit of one before it
unfoldable pub checked_gates : List RegisterParts → GateName → ℕ → List Operand → List Arg → Result (List Inst) QasmFault
checked_gates registers gate k os args =
    unless_at (other_size registers args) fault.Sizes os
    (unless_at (same_qubit registers args) fault.SameQubit os
    (Ok (applied registers gate k args)))

-- the number of a gate's angle, which is 0 where it takes none
unfoldable pub angle_number : GateName → List Lexeme → Result ℕ QasmFault
angle_number gate ls = if takes_angle gate then fault_as fault.Angle (angle_of (map (λ l. l.token) ls)) else Ok 0

-- the form of a gate, which comes before all barriers and measurements
abbrev pub ordered_gate_form : ProgramParts → GateName → ℕ → Lexeme → List Lexeme → Result GateForm QasmFault
ordered_gate_form p gate len word ls = if length p.tail == 0 then gate_form gate len ls else Err (fault.Unsupported (place_of word))

-- with gates more, while all together are at most 20,000
unfoldable pub with_gates : ProgramParts → Lexeme → List Inst → Result ProgramParts QasmFault
with_gates p word gates =
    if nat_lt most_gates (length p.gates + length gates) then Err (fault.Limit ProgramGates (place_of word))
    else Ok (record p { gates = p.gates ++ gates })

-- a gate that begins with a word
unfoldable pub with_gate : ℕ → ProgramParts → Lexeme → List Lexeme → Result ProgramParts QasmFault
with_gate len p word ls = do
  gate ← ok_or (gate_named word.text) (fault.UnknownGate (place_of word))
  form ← ordered_gate_form p gate len word ls
  k ← angle_number gate form.angle
  args ← args_of p.qregs form.operands
  gates ← checked_gates p.qregs gate k form.operands args
  with_gates p word gates

-- ---- barriers and measurements

-- a barrier of qubits
unfoldable pub with_barrier : ℕ → ProgramParts → List Lexeme → Result ProgramParts QasmFault
with_barrier len p ls = do
  operands ← barrier_form len ls
  args ← args_of p.qregs operands
  Ok (record p { tail = p.tail ++ Barrier args ∷ [] })

-- a measurement of qubits into as many bits: both operands are whole registers of one size, or both are single
unfoldable pub with_measurement : ℕ → ProgramParts → List Lexeme → Result ProgramParts QasmFault
with_measurement len p ls = do
  form ← measure_form len ls
  from ← arg_of p.qregs form.from
  to ← arg_of p.cregs form.to
  if option_eq nat_eq (whole_size p.qregs from) (whole_size p.cregs to) then Ok (record p { tail = p.tail ++ Measure from to ∷ [] })
      else Err (fault.Sizes (place_of form.to.name))

-- ---- statements

-- an inclusion changes nothing; only that of one file is read, and no other one is looked at further
unfoldable pub with_inclusion : ℕ → ProgramParts → List Lexeme → Result ProgramParts QasmFault
with_inclusion len p ls = do
  file ← token is_text len ls
  if bytes_eq file.0.text (codes "\"qelib1.inc\"") then (do
    end ← token is_semicolon len file.1
    Ok p)
      else Err (fault.Unsupported (place_of file.0))

-- the words of OpenQASM 2.0 that are not read
unfoldable pub unsupported_words : List (List ℕ)
unsupported_words = codes "if" ∷ codes "reset" ∷ codes "opaque" ∷ codes "gate" ∷ codes "U" ∷ codes "CX" ∷ []

-- a program with what a word and the tokens after it state
unfoldable pub with_words : ℕ → ProgramParts → Lexeme → List Lexeme → Result ProgramParts QasmFault
with_words len p word ls =
    if bytes_eq word.text (codes "include") then with_inclusion len p ls
    else if bytes_eq word.text (codes "qreg") then declaration_form len ls >>= with_qreg p
    else if bytes_eq word.text (codes "creg") then declaration_form len ls >>= with_creg p
    else if bytes_eq word.text (codes "barrier") then with_barrier len p ls
    else if bytes_eq word.text (codes "measure") then with_measurement len p ls
    else if list_any (bytes_eq word.text) unsupported_words then Err (fault.Unsupported (place_of word))
    else if begins_lower word.text then with_gate len p word ls
    else misfit len (word ∷ ls)

-- a program with one statement more; no statement is empty
unfoldable pub with_statement : ℕ → ProgramParts → List Lexeme → Result ProgramParts QasmFault
with_statement len p [] = Ok p
with_statement len p (l ∷ ls) = if is_word (kind_of l) then with_words len p l ls else misfit len (l ∷ ls)

-- a program with all of these statements
unfoldable pub with_statements : ℕ → ProgramParts → List (List Lexeme) → Result ProgramParts QasmFault
with_statements len p [] = Ok p
with_statements len p (statement ∷ others) = do
  next ← with_statement len p statement
  with_statements len next others

-- ---- programs

-- no registers, gates or statements
abbrev pub empty_program : ProgramParts
empty_program = record { qregs = []; cregs = []; gates = []; tail = [] }

-- a header of version 2.0, and then statements
unfoldable pub program_from : ℕ → List (List Lexeme) → Result ProgramParts QasmFault
program_from len [] = Err (fault.Syntax len)
program_from len (header ∷ statements) = do
  version ← header_form len header
  if bytes_eq version.text (codes "2.0") then with_statements len empty_program statements
      else Err (fault.Unsupported (place_of version))

-- The program that a text is, or its first fault. The whole text is cut into tokens before anything else.
unfoldable pub program_of : List ℕ → Result ProgramParts QasmFault
program_of bytes = do
  tokens ← fault_as fault.Lex (tokens_of bytes)
  program_from (length bytes) (statements_of (lexemes bytes tokens))
