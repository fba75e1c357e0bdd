-- Texts that are made of pieces.
use Rattle.std.specs.Prelude.{ℕ, List, length}
use Rattle.std.specs.Fmt.{decimal}
use Rattle.std.specs.List.{flat_map, sum_by}
use Rattle.qz_top.specs.declared.pieces.Piece.{Piece}
use Rattle.qz_top.specs.declared.pieces.Piece.TheVariants.{Text, Number}

-- a piece is a text, or a number in decimal
abbrev pub piece_text : Piece → List ℕ
piece_text (Text text) = text.now
piece_text (Number number) = decimal number

-- the texts of all pieces, one after another
abbrev pub pieces_text : List Piece → List ℕ
pieces_text pieces = flat_map piece_text pieces

-- how many bytes a piece has at most: a number has up to twenty digits
abbrev pub piece_room : Piece → ℕ
piece_room (Text text) = length text.now
piece_room (Number number) = 20

-- how many all pieces have at most
abbrev pub pieces_room : List Piece → ℕ
pieces_room pieces = sum_by piece_room pieces
