-- Operands in pieces: they are read as the registers that they name and their places there, wherever they stand.
use Rattle.std.proofs.Common.{◌≡◌, ◌≢◌, ℕ, ◌+◌, ◌<◌, nat_lt, true, false, cond, List, [], ◌∷◌, ◌++◌, length, get_or, codes, Option, Some, None, refl, sym, ap, ◌∙◌, append_assoc, append-nil, arith}
use Rattle.std.specs.Prelude.{Ok}
use Rattle.std.specs.List.{AllPairs, AllByRecursion, flat_map, count_by, position, position_or_len}
use Rattle.std.specs.Str.{bytes_eq}
use Rattle.std.proofs.lemmas.Bool.{false_from_ne_true}
use Rattle.std.proofs.lemmas.Bool.Decides.{nat_tests}
use Rattle.std.proofs.lemmas.List.{get_or-map, length-map}
use Rattle.std.proofs.lemmas.List.Sums.{position_or_len_is, sum_by-cons}
use Rattle.std.proofs.lemmas.Slice.Eq.{bytes_eq-Decides}
use Rattle.qz_circ.specs.declared.program.Arg.{Arg}
use Rattle.std.specs.Fmt.{decimal}
use Rattle.qz_circ.specs.declared.token.Kind.{Kind}
use Rattle.qz_circ.specs.declared.token.Kind.TheVariants.{Word, Whole, Comma}
use Rattle.qz_circ.specs.Registers.{RegisterParts, names_of}
use Rattle.qz_circ.specs.ProgramText.{text_at}
use Rattle.qz_circ.specs.ValidPrograms.{size_at, IsPlaceBelow, IsOperand}
use Rattle.qz_circ.specs.Lexemes.{Lexeme, kind_of}
use Rattle.qz_circ.specs.Forms.{Operand, begins, is_comma, is_left_paren, is_left_bracket, one, index_form, operand_form, more_operands_form, operands_form}
use Rattle.qz_circ.specs.Grammar.{register_named, arg_of, args_of}
use Rattle.qz_circ.proofs.RisingLists.{each-append}
use Rattle.qz_qread.proofs.LinesRead.{AreInside}
use Rattle.qz_qread.proofs.Pieces.{Piece, lexemes_at, sign, line_end, indexed, placed, operand, operands}

-- no two registers have one name
abbrev pub HaveNames : List RegisterParts → Type 0
HaveNames registers = AllPairs (λ a b. a ≢ b) (names_of registers)

-- ---- names

pub name_at : (registers : List RegisterParts) (i : ℕ) (d : RegisterParts) → i < length registers → text_at (names_of registers) i ≡ (get_or registers i d).name
name_at registers i d within = get_or-map (λ (r : RegisterParts). r.name) registers i d [] within

pub other_names : (registers : List RegisterParts) (k i : ℕ) (d : RegisterParts) → HaveNames registers → k < i → i < length registers → bytes_eq (get_or registers k d).name (text_at (names_of registers) i) ≡ false
other_names registers k i d differ before within =
    let left = name_at registers k d (omega arith) in
    let apart : text_at (names_of registers) k ≢ text_at (names_of registers) i = differ k i [] before (simp length-map within) in
    false_from_ne_true _ (λ same. apart (left ∙ (bytes_eq-Decides _ _).0 same))

same_names : (registers : List RegisterParts) (i : ℕ) (d : RegisterParts) → i < length registers → bytes_eq (get_or registers i d).name (text_at (names_of registers) i) ≡ true
same_names registers i d within = (bytes_eq-Decides _ _).1 (sym (name_at registers i d within))

-- the first register with the name of a register is that register
named_place : (registers : List RegisterParts) (i : ℕ) → HaveNames registers → i < length registers → position (λ r. bytes_eq r.name (text_at (names_of registers) i)) registers ≡ Some i
named_place registers i differ within =
    let d : RegisterParts = record { name = []; size = 0 } in
    let first : position_or_len (λ r. bytes_eq r.name (text_at (names_of registers) i)) registers ≡ i = position_or_len_is (λ r. bytes_eq r.name (text_at (names_of registers) i)) registers i d (omega arith) (λ k before. other_names registers k i d differ before within) (λ _. same_names registers i d within) in
    let test : nat_lt i (length registers) ≡ true = grind (arith, nat_tests) in
    rw (first, test) refl

-- ---- single operands

-- no bracket comes first among these pieces
abbrev pub NoBracketFirst : List Piece → Type 0
NoBracketFirst rest = (place : ℕ) → begins is_left_bracket (lexemes_at place rest) ≡ false

-- how many commas there are
abbrev pub commas : List Lexeme → ℕ
commas ls = count_by (λ l. is_comma (kind_of l)) ls

-- the tokens of an operand and of what stands behind it, from a place on: the operand is read, without a comma
pub record IsRead (len : ℕ) (registers : List RegisterParts) (a : Arg) (ls : List Lexeme) (rest : List Piece) : Type 0 where
  pub form : Operand
  pub after : ℕ
  pub reads : operand_form len ls ≡ Ok (form, lexemes_at after rest)
  pub means : arg_of registers form ≡ Ok a
  pub plain : commas ls ≡ commas (lexemes_at after rest)
  pub first : begins is_left_paren ls ≡ false

-- a token of this kind and text, from a place on
abbrev pub token_at : ℕ → Kind → List ℕ → Lexeme
token_at place kind text = record { token = record { kind = kind; start = place; end = place + length text }; text = text }

placed_read : (len : ℕ) (registers : List RegisterParts) (register : ℕ) (index : Option ℕ) (place : ℕ) (rest : List Piece) → HaveNames registers → register < length registers → IsPlaceBelow (size_at registers register) index → NoBracketFirst rest → IsRead len registers (record { register = register; index = index }) (lexemes_at place (placed (text_at (names_of registers) register) index ++ rest)) rest
unfolding lexemes_at indexed operand_form index_form one arg_of register_named
placed_read len registers register None place rest differ within below other =
    let name = text_at (names_of registers) register in
    record {
      form = record { name = token_at place Word name; index = None };
      after = place + length name;
      reads = rw other refl;
      means = rw (named_place registers register differ within) refl;
      plain = refl;
      first = refl;
    }
placed_read len registers register (Some n) place rest differ within below other =
    let name = text_at (names_of registers) register in
    let test : nat_lt n (size_at registers register) ≡ true = grind (arith, nat_tests) in
    record {
      form = record { name = token_at place Word name; index = Some (token_at (place + length name + 1) (Whole n) (decimal n)) };
      after = place + length name + 1 + length (decimal n) + 1;
      reads = refl;
      means = rw (named_place registers register differ within, test) refl;
      plain = refl;
      first = refl;
    }

-- an operand in pieces is read as itself
pub operand_read : (len : ℕ) (registers : List RegisterParts) (a : Arg) (place : ℕ) (rest : List Piece) → HaveNames registers → IsOperand registers a → NoBracketFirst rest → IsRead len registers a (lexemes_at place (operand registers a ++ rest)) rest
unfolding operand
operand_read len registers a place rest differ is other = placed_read len registers a.register a.index place rest differ is.register is.place other

-- ---- operands with commas between them

-- operands with a comma before each
abbrev with_commas : List RegisterParts → List Arg → List Piece
with_commas registers others = flat_map (λ a. sign Comma (codes ",") ∷ operand registers a) others

operands-cons : (registers : List RegisterParts) (a : Arg) (others : List Arg) → operands registers (a ∷ others) ≡ operand registers a ++ with_commas registers others
unfolding operands
operands-cons registers a [] = sym (append-nil (operand registers a))
operands-cons registers a (b ∷ others) = ap (λ ps. operand registers a ++ sign Comma (codes ",") ∷ ps) (operands-cons registers b others)

comma_first : (registers : List RegisterParts) (others : List Arg) → NoBracketFirst (with_commas registers others ++ line_end)
unfolding lexemes_at
comma_first registers [] place = refl
comma_first registers (b ∷ others) place = refl

-- the tokens of operands with a comma before each and of the end of the line
record AreMoreRead (len : ℕ) (registers : List RegisterParts) (others : List Arg) (ls : List Lexeme) : Type 0 where
  forms : List Operand
  after : ℕ
  reads : more_operands_form (length others) len ls ≡ Ok (forms, lexemes_at after line_end)
  means : args_of registers forms ≡ Ok others
  count : commas ls ≡ length others

more_read : (len : ℕ) (registers : List RegisterParts) (others : List Arg) (place : ℕ) → HaveNames registers → AllByRecursion (IsOperand registers) others → AreMoreRead len registers others (lexemes_at place (with_commas registers others ++ line_end))
unfolding lexemes_at more_operands_form one args_of
more_read len registers [] place differ are = record { forms = []; after = place; reads = refl; means = refl; count = refl }
more_read len registers (b ∷ others) place differ are =
    let first = operand_read len registers b (place + 1) (with_commas registers others ++ line_end) differ are.0 (comma_first registers others) in
    let more = more_read len registers others first.after differ are.1 in
    let tokens = lexemes_at (place + 1) (operand registers b ++ (with_commas registers others ++ line_end)) in
    let one_comma : commas (token_at place Comma (codes ",") ∷ tokens) ≡ 1 + commas tokens = sum_by-cons (λ (l : Lexeme). cond (is_comma (kind_of l)) 1 0) (token_at place Comma (codes ",")) tokens in
    rw (append_assoc (operand registers b) (with_commas registers others) line_end) record {
      forms = first.form ∷ more.forms;
      after = more.after;
      reads = rw (first.reads, more.reads) refl;
      means = rw (first.means, more.means) refl;
      count = one_comma ∙ rw (first.plain, more.count) (omega arith);
    }

-- the tokens of operands and of the end of the line: as many are read as there are
pub record AreRead (len : ℕ) (registers : List RegisterParts) (a : Arg) (others : List Arg) (ls : List Lexeme) : Type 0 where
  pub forms : List Operand
  pub reads : operands_form (length others) len ls ≡ Ok forms
  pub means : args_of registers forms ≡ Ok (a ∷ others)
  pub count : commas ls ≡ length others
  pub first : begins is_left_paren ls ≡ false

pub operands_read : (len : ℕ) (registers : List RegisterParts) (a : Arg) (others : List Arg) (place : ℕ) → HaveNames registers → AllByRecursion (IsOperand registers) (a ∷ others) → AreRead len registers a others (lexemes_at place (operands registers (a ∷ others) ++ line_end))
unfolding operands_form one args_of lexemes_at
operands_read len registers a others place differ are =
    let first = operand_read len registers a place (with_commas registers others ++ line_end) differ are.0 (comma_first registers others) in
    let more = more_read len registers others first.after differ are.1 in
    rw (operands-cons registers a others, append_assoc (operand registers a) (with_commas registers others) line_end) record {
      forms = first.form ∷ more.forms;
      reads = rw (first.reads, more.reads) refl;
      means = rw (first.means, more.means) refl;
      count = first.plain ∙ more.count;
      first = first.first;
    }

-- ---- no operand has a semicolon

placed_inside : (name : List ℕ) (index : Option ℕ) → AreInside (placed name index)
unfolding indexed
placed_inside name None = (refl, tt)
placed_inside name (Some n) = (refl, (refl, (refl, (refl, tt))))

pub operand_inside : (registers : List RegisterParts) (a : Arg) → AreInside (operand registers a)
unfolding operand
operand_inside registers a = placed_inside _ a.index

pub operands_inside : (registers : List RegisterParts) (args : List Arg) → AreInside (operands registers args)
unfolding operands
operands_inside registers [] = tt
operands_inside registers (a ∷ []) = operand_inside registers a
operands_inside registers (a ∷ b ∷ others) = each-append _ (operand registers a) _ (operand_inside registers a) (refl, operands_inside registers (b ∷ others))
