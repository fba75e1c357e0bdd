-- The limits of programs, and of the words and numbers in their texts. They are this project's own.
use Rattle.std.specs.Prelude.{ℕ}

-- the most registers of a program, those of qubits and of bits together
abbrev pub most_registers : ℕ
most_registers = 64

-- the most qubits of a program, those of all registers together
abbrev pub most_qubits : ℕ
most_qubits = 64

-- the most classical bits of a program, those of all registers together
abbrev pub most_bits : ℕ
most_bits = 4096

-- the most gates of a program
abbrev pub most_gates : ℕ
most_gates = 20000

-- the most bytes of a word
abbrev pub longest_word : ℕ
longest_word = 64

-- the most digits of a whole number
abbrev pub most_digits : ℕ
most_digits = 18
