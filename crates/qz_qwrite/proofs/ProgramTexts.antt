-- The text of a program, part by part.
use Rattle.std.proofs.Common.{◌≡◌, ℕ, List, ◌++◌, map, length, codes, refl, ◌∙◌}
use Rattle.std.specs.List.{flat_map, range_with_len}
use Rattle.std.proofs.lemmas.List.FromFn.{length-map-range_with_len}
use Rattle.std.proofs.lemmas.List.Concat.{length-flat_map}
use Rattle.qz_circ.specs.Registers.{RegisterParts, total_size}
use Rattle.qz_circ.specs.Programs.{ProgramParts}
use Rattle.qz_circ.specs.ProgramText.{indexed_text, qubit_texts, register_line, gate_line, tail_line, program_text}

-- there is a text for each qubit
pub length-qubit_texts : (registers : List RegisterParts) → length (qubit_texts registers) ≡ total_size registers
unfolding qubit_texts
length-qubit_texts registers =
    length-flat_map (λ r. map (indexed_text r.name) (range_with_len 0 r.size)) registers ∙ simp length-map-range_with_len

-- the parts of a text in order
pub parts_in_order : (p : ProgramParts) (head a b c d : List ℕ) → head ≡ codes "OPENQASM 2.0;\ninclude \"qelib1.inc\";\n" → a ≡ head ++ flat_map (register_line (codes "qreg")) p.qregs → b ≡ a ++ flat_map (register_line (codes "creg")) p.cregs → c ≡ b ++ flat_map (gate_line (qubit_texts p.qregs)) p.gates → d ≡ c ++ flat_map (tail_line p.qregs p.cregs) p.tail → d ≡ program_text p
unfolding program_text
parts_in_order p head a b c d eh ea eb ec ed = rw (ed, ec, eb, ea, eh) refl
