-- Qubits in pieces: each is a place of a register.
use Rattle.std.proofs.Common.{◌≡◌, ℕ, zero, suc, ◌+◌, ◌-◌, ◌<◌, ◌≤◌, ◌⊎◌, inl, inr, List, [], ◌∷◌, ◌++◌, length, get_or, map, take, Some, refl, sym, ◌∙◌, arith}
use Rattle.std.proofs.lemmas.List.{get_or_append_left, get_or-append-add}
use Rattle.std.proofs.lemmas.List.Sums.{sum_by-cons}
use Rattle.std.proofs.lemmas.List.FromFn.{length-map-range_with_len, get_or-map-range_with_len}
use Rattle.qz_circ.specs.declared.program.Arg.{Arg}
use Rattle.qz_circ.specs.Circuit.{below}
use Rattle.qz_circ.specs.Registers.{RegisterParts, total_size}
use Rattle.qz_circ.specs.ValidPrograms.{IsOperand}
use Rattle.qz_circ.specs.Grammar.{qubit_at}
use Rattle.qz_qread.proofs.Pieces.{Piece, pieces_at, qubits, indexed, operand}

-- one place of a register
abbrev pub single : ℕ → ℕ → Arg
single register place = record { register = register; index = Some place }

-- the qubit with number t is a place of a register, and has its pieces
pub record IsQubit (registers : List RegisterParts) (t : ℕ) : Type 0 where
  pub register : ℕ
  pub place : ℕ
  pub is : IsOperand registers (single register place)
  pub number : qubit_at registers 0 (single register place) ≡ t
  pub pieces : pieces_at (qubits registers) t ≡ operand registers (single register place)

pieces_at-get_or : (qs : List (List Piece)) (k : ℕ) → pieces_at qs k ≡ get_or qs k []
unfolding pieces_at
pieces_at-get_or [] k = refl
pieces_at-get_or (ps ∷ qs) zero = refl
pieces_at-get_or (ps ∷ qs) (suc k) = pieces_at-get_or qs k

-- the pieces of a qubit of the first register
pieces_first : (r : RegisterParts) (rs : List RegisterParts) (t : ℕ) → t < r.size → pieces_at (qubits (r ∷ rs)) t ≡ indexed r.name t
unfolding qubits
pieces_first r rs t within =
    let own : List (List Piece) = map (indexed r.name) (below r.size) in
    let size : length own ≡ r.size = length-map-range_with_len (indexed r.name) 0 r.size in
    pieces_at-get_or (own ++ qubits rs) t ∙ get_or_append_left own (qubits rs) [] t (omega arith) ∙ get_or-map-range_with_len (indexed r.name) 0 r.size t t [] within (omega arith)

-- the pieces of a qubit of a later one
pieces_later : (r : RegisterParts) (rs : List RegisterParts) (t : ℕ) → pieces_at (qubits (r ∷ rs)) (r.size + t) ≡ pieces_at (qubits rs) t
unfolding qubits
pieces_later r rs t =
    let own : List (List Piece) = map (indexed r.name) (below r.size) in
    let size : length own ≡ r.size = length-map-range_with_len (indexed r.name) 0 r.size in
    let behind : get_or (own ++ qubits rs) (r.size + t) [] ≡ get_or (qubits rs) t [] = rw size at (get_or-append-add own (qubits rs) t []) in
    pieces_at-get_or (own ++ qubits rs) (r.size + t) ∙ behind ∙ sym (pieces_at-get_or (qubits rs) t)

qubit_first : (r : RegisterParts) (rs : List RegisterParts) (t : ℕ) → t < r.size → IsQubit (r ∷ rs) t
unfolding operand qubit_at
qubit_first r rs t within =
    record { register = 0; place = t; is = record { register = omega arith; place = within }; number = omega arith; pieces = pieces_first r rs t within }

qubit_later : (r : RegisterParts) (rs : List RegisterParts) (t : ℕ) → IsQubit rs t → IsQubit (r ∷ rs) (r.size + t)
unfolding operand qubit_at
qubit_later r rs t q =
    let before = sum_by-cons (λ (s : RegisterParts). s.size) r (take q.register rs) in
    let within = q.is.register in
    let number = q.number in
    record {
      register = suc q.register;
      place = q.place;
      is = record { register = omega arith; place = q.is.place };
      number = rw before (omega arith);
      pieces = pieces_later r rs t ∙ q.pieces;
    }

first_or_later : (size t : ℕ) → (t < size) ⊎ ((t ≡ size + (t - size)) × (size ≤ t))
first_or_later size t = grind arith

-- each qubit of a program is a place of a register
pub qubit_found : (registers : List RegisterParts) (t : ℕ) → t < total_size registers → IsQubit registers t
qubit_found [] t within = absurd (omega arith)
qubit_found (r ∷ rs) t within =
    let sum = sum_by-cons (λ (s : RegisterParts). s.size) r rs in
    let later : r.size ≤ t → IsQubit rs (t - r.size) = λ above. qubit_found rs (t - r.size) (omega arith) in
    elim (first_or_later r.size t) [ inl first ↦ qubit_first r rs t first | inr (split, above) ↦ rw split (qubit_later r rs (t - r.size) (later above)) ]
