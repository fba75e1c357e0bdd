-- The canonical text of a program, in OpenQASM 2.0. That each program has one text is this project's own.
use Rattle.std.specs.Prelude.{ℕ, zero, suc, ◌-◌, ◌/◌, ◌%◌, ◌^◌, ◌==◌, nat_lt, if◌then◌else◌, List, [], ◌++◌, map, slice_index_or, codes, Option, Some, None}
use Rattle.std.specs.Fmt.{decimal}
use Rattle.std.specs.List.{flat_map, join_with_byte}
use Rattle.qz_circ.specs.declared.circuit.Inst.{Inst}
use Rattle.qz_circ.specs.declared.circuit.Inst.TheVariants.{H, X, Cx, Rz}
use Rattle.qz_circ.specs.declared.program.Arg.{Arg}
use Rattle.qz_circ.specs.declared.program.Tail.{Tail}
use Rattle.qz_circ.specs.declared.program.Tail.TheVariants.{Barrier, Measure}
use Rattle.qz_circ.specs.Circuit.{below}
use Rattle.qz_circ.specs.Lines.{line}
use Rattle.qz_circ.specs.Registers.{RegisterParts, names_of}
use Rattle.qz_circ.specs.Programs.{ProgramParts}

-- ---- angles

-- m/2^n, for these n and m, in lowest terms: a numerator and a denominator, which are halved while both are even
unfoldable pub lowest_terms : ℕ → ℕ → ℕ × ℕ
lowest_terms zero m = (m, 1)
lowest_terms (suc n) m = if m % 2 == 0 then lowest_terms n (m / 2) else (m, 2 ^ suc n)

-- pi where the numerator is 1, else the numerator and *pi
unfoldable pub multiple_text : ℕ → List ℕ
multiple_text numerator = if numerator == 1 then codes "pi" else decimal numerator ++ codes "*pi"

-- a slash and the denominator; nothing where it is 1
unfoldable pub divisor_text : ℕ → List ℕ
divisor_text denominator = if denominator == 1 then [] else codes "/" ++ decimal denominator

-- m/256 of pi, as a multiple of pi over a divisor
unfoldable pub positive_angle_text : ℕ → List ℕ
positive_angle_text m = let fraction = lowest_terms 8 m in multiple_text fraction.0 ++ divisor_text fraction.1

-- The angle with number k, from 1 to 511: k/256 of pi where k is at most 256, else (k - 512)/256 of pi, which is negative.
unfoldable pub angle_text : ℕ → List ℕ
angle_text k = if nat_lt 256 k then codes "-" ++ positive_angle_text (512 - k) else positive_angle_text k

-- ---- registers and operands

-- a name and a number in brackets: q[2]
unfoldable pub indexed_text : List ℕ → ℕ → List ℕ
indexed_text name n = name ++ codes "[" ++ decimal n ++ codes "]"

-- the declaration of a register by this word, qreg or creg, with its size
unfoldable pub register_line : List ℕ → RegisterParts → List ℕ
register_line word r = line (word ++ codes " " ++ indexed_text r.name r.size ++ codes ";")

-- each qubit in the order of the numbers, by its register's name and its place there
unfoldable pub qubit_texts : List RegisterParts → List (List ℕ)
qubit_texts registers = flat_map (λ r. map (indexed_text r.name) (below r.size)) registers

-- the text with this number, from 0 on
abbrev pub text_at : List (List ℕ) → ℕ → List ℕ
text_at texts k = slice_index_or texts k []

-- a name alone, or with its place
abbrev pub placed_text : List ℕ → Option ℕ → List ℕ
placed_text name None = name
placed_text name (Some place) = indexed_text name place

-- an operand of a barrier or a measurement, which names one of these registers
unfoldable pub operand_text : List RegisterParts → Arg → List ℕ
operand_text registers a = placed_text (text_at (names_of registers) a.register) a.index

-- ---- lines

-- the line of a gate, where the qubits have these texts
unfoldable pub gate_line : List (List ℕ) → Inst → List ℕ
gate_line qubits (H t) = line (codes "h " ++ text_at qubits t ++ codes ";")
gate_line qubits (X t) = line (codes "x " ++ text_at qubits t ++ codes ";")
gate_line qubits (Cx c t) = line (codes "cx " ++ text_at qubits c ++ codes "," ++ text_at qubits t ++ codes ";")
gate_line qubits (Rz t k) = line (codes "rz(" ++ angle_text k ++ codes ") " ++ text_at qubits t ++ codes ";")

-- the line of a barrier, with commas (44) between its operands, or of a measurement
unfoldable pub tail_line : List RegisterParts → List RegisterParts → Tail → List ℕ
tail_line qregs cregs (Barrier args) = line (codes "barrier " ++ join_with_byte 44 (map (operand_text qregs) args) ++ codes ";")
tail_line qregs cregs (Measure from to) = line (codes "measure " ++ operand_text qregs from ++ codes " -> " ++ operand_text cregs to ++ codes ";")

-- the text of a program: two lines as a head, the registers of qubits, those of bits, the gates, and then the tail
unfoldable pub program_text : ProgramParts → List ℕ
program_text p =
    line (codes "OPENQASM 2.0;") ++
    line (codes "include \"qelib1.inc\";") ++
    flat_map (register_line (codes "qreg")) p.qregs ++
    flat_map (register_line (codes "creg")) p.cregs ++
    flat_map (gate_line (qubit_texts p.qregs)) p.gates ++
    flat_map (tail_line p.qregs p.cregs) p.tail
