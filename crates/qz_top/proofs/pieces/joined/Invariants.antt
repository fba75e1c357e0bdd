use Rattle.std.proofs.Common.{◌≡◌, ◌+◌, ◌≤◌, take, drop}
use Rattle.arrayvec.specs.ArrayString.{array_string_len}
use Rattle.qz_top.specs.Pieces.{pieces_text, pieces_room}
use Rattle.qz_top.proofs.pieces.joined.Given as goal

abbrev pub invariant-loop-piece : goal.invariant-loop-piece
invariant-loop-piece l = record {
  text : l.whole.bytes ≡ pieces_text (take l.piece-index l.pieces);
  room : array_string_len l.whole + pieces_room (drop l.piece-index l.pieces) ≤ 160;
}
