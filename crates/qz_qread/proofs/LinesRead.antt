-- Lines of pieces, read one after another: each is one statement, which takes the program so far to the next one.
use Rattle.std.proofs.Common.{◌≡◌, ℕ, ◌+◌, Bool, true, false, not, List, [], ◌∷◌, ◌++◌, length, Option, Some, None, refl, sym, ◌∙◌, append_assoc, append-nil, length-append, arith}
use Rattle.std.specs.Prelude.{Ok}
use Rattle.std.specs.List.{flat_map, AllByRecursion}
use Rattle.std.proofs.lemmas.Bool.{not-true}
use Rattle.qz_circ.specs.declared.token.Kind.{Kind}
use Rattle.qz_circ.specs.Lexemes.{Lexeme, is_semicolon, statements_of}
use Rattle.qz_circ.specs.Programs.{ProgramParts}
use Rattle.qz_circ.specs.Grammar.{with_statement, with_statements}
use Rattle.qz_qread.proofs.Pieces.{Piece, text_of, with_piece, lexemes_at, line_end}

-- ---- tokens of pieces end to end

appended : (kind : Option Kind) (place : ℕ) (text : List ℕ) (ls ms : List Lexeme) → with_piece place kind text (ls ++ ms) ≡ with_piece place kind text ls ++ ms
appended (Some kind) place text ls ms = refl
appended None place text ls ms = refl

-- the tokens of pieces end to end are those of the first ones and then those of the others
pub lexemes_at-append : (place : ℕ) (ps qs : List Piece) → lexemes_at place (ps ++ qs) ≡ lexemes_at place ps ++ lexemes_at (place + length (text_of ps)) qs
unfolding lexemes_at
lexemes_at-append place [] qs = let same : place + 0 ≡ place = omega arith in rw same refl
lexemes_at-append place (p ∷ ps) qs =
    let more = lexemes_at-append (place + length p.text) ps qs in
    let after : place + length (p.text ++ text_of ps) ≡ place + length p.text + length (text_of ps) = simp length-append (omega arith) in
    rw (more, after) (appended p.kind place p.text _ _)

-- ---- lines

-- no piece is a semicolon
abbrev pub no_semicolon : Option Kind → Bool
no_semicolon (Some kind) = not (is_semicolon kind)
no_semicolon None = true

abbrev pub AreInside : List Piece → Type 0
AreInside ps = AllByRecursion (λ p. no_semicolon p.kind ≡ true) ps

cut_behind : (kind : Option Kind) (place : ℕ) (text : List ℕ) (ls rest : List Lexeme) → no_semicolon kind ≡ true → statements_of (ls ++ rest) ≡ ls ∷ statements_of rest → statements_of (with_piece place kind text ls ++ rest) ≡ with_piece place kind text ls ∷ statements_of rest
unfolding statements_of
cut_behind (Some kind) place text ls rest inside more = let other : is_semicolon kind ≡ false = not-true (is_semicolon kind) inside in rw (other, more) refl
cut_behind None place text ls rest inside more = more

-- the tokens of a line are cut behind its end
cut_line : (place : ℕ) (ps : List Piece) (rest : List Lexeme) → AreInside ps → statements_of (lexemes_at place (ps ++ line_end) ++ rest) ≡ lexemes_at place (ps ++ line_end) ∷ statements_of rest
unfolding statements_of lexemes_at
cut_line place [] rest inside = refl
cut_line place (p ∷ ps) rest inside = cut_behind p.kind place p.text _ rest inside.0 (cut_line (place + length p.text) ps rest inside.1)

-- the line is a statement that takes one program to another one
pub record Reads (len : ℕ) (p : ProgramParts) (line : List Piece) (next : ProgramParts) : Type 0 where
  pub body : List Piece
  pub ends : line ≡ body ++ line_end
  pub inside : AreInside body
  pub read : (place : ℕ) → with_statement len p (lexemes_at place line) ≡ Ok next

cut_read : (len : ℕ) (p : ProgramParts) (line : List Piece) (next : ProgramParts) (place : ℕ) (rest : List Lexeme) → Reads len p line next → statements_of (lexemes_at place line ++ rest) ≡ lexemes_at place line ∷ statements_of rest
cut_read len p line next place rest reads = rw reads.ends (cut_line place reads.body rest reads.inside)

-- with the statements of these pieces a program becomes this one
abbrev pub LeadsTo : ℕ → ProgramParts → List Piece → ProgramParts → Type 0
LeadsTo len p ps last = (place : ℕ) → with_statements len p (statements_of (lexemes_at place ps)) ≡ Ok last

-- a line and then others
pub line_leads : (len : ℕ) (p : ProgramParts) (line : List Piece) (next : ProgramParts) (others : List Piece) (last : ProgramParts) → Reads len p line next → LeadsTo len next others last → LeadsTo len p (line ++ others) last
unfolding with_statements
line_leads len p line next others last reads leads place =
    let tokens = lexemes_at-append place line others in
    let cut = cut_read len p line next place (lexemes_at (place + length (text_of line)) others) reads in
    rw (tokens, cut, reads.read place) (leads _)

-- Lines for the items of a list: each takes the program with the items before it to the one with this item more.
pub lines_lead : {A : Type 0} (len : ℕ) (line : A → List Piece) (after : List A → ProgramParts) (whole : List A) (others : List Piece) (last : ProgramParts) → ((front : List A) (x : A) (back : List A) → whole ≡ front ++ x ∷ back → Reads len (after front) (line x) (after (front ++ x ∷ []))) → LeadsTo len (after whole) others last → (front back : List A) → whole ≡ front ++ back → LeadsTo len (after front) (flat_map line back ++ others) last
lines_lead {A} len line after whole others last each leads front [] split =
    let all : whole ≡ front = split ∙ append-nil front in
    rw all at leads
lines_lead {A} len line after whole others last each leads front (x ∷ back) split =
    let regrouped : whole ≡ (front ++ x ∷ []) ++ back = split ∙ sym (append_assoc front (x ∷ []) back) in
    let more = lines_lead len line after whole others last each leads (front ++ x ∷ []) back regrouped in
    rw (append_assoc (line x) (flat_map line back) others) (line_leads len (after front) (line x) (after (front ++ x ∷ [])) _ last (each front x back split) more)
