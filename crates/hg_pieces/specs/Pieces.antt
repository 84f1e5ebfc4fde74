-- Pieces of a line, and the text that they are
use Rattle.std.specs.Prelude.{List, ℕ, [], ◌∷◌, ◌++◌}
use Rattle.std.specs.Fmt.{decimal, signed_decimal}
use Rattle.hex.specs.Hex.{encode_lower}
use Rattle.hg_pieces.specs.declared.pieces.Piece.{Piece}
use Rattle.hg_pieces.specs.declared.pieces.Piece.TheVariants as piece

abbrev pub piece_text : Piece → List ℕ
piece_text (piece.Bytes bytes) = bytes.now
piece_text (piece.Number number) = decimal number
piece_text (piece.Wide number) = decimal number
piece_text (piece.Signed number) = signed_decimal number
piece_text (piece.Name name) = encode_lower name.now

-- one piece after the other
abbrev pub pieces_text : List Piece → List ℕ
pieces_text [] = []
pieces_text (p ∷ ps) = piece_text p ++ pieces_text ps
