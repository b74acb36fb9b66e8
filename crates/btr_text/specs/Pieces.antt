-- The text of pieces.
use Rattle.std.specs.Prelude.{ℕ, false, List, [], ◌∷◌, ◌++◌, codes, unwrap_or}
use Rattle.std.specs.List.{flat_map}
use Rattle.std.specs.Fmt.{decimal, digits}
use Rattle.std.specs.Int.{w64, to_be_bytes}
use Rattle.hex.specs.Hex.{encode_lower}
use Rattle.uuid.specs.Text.{hyphenated_text, lower}
use Rattle.btr_base.specs.Shown.{shown}
use Rattle.btr_base.specs.declared.key.Key.{Key}
use Rattle.btr_items.specs.Types.{type_name}
use Rattle.btr_text.specs.declared.piece.Piece.{Piece}
use Rattle.btr_text.specs.declared.piece.Piece.TheVariants.{Plain, Decimal, Hexadecimal, Octal, Name, Key as key_piece, HexadecimalBytes, Id}

-- 16 lower-case hexadecimal digits
abbrev pub hex_text : ℕ → List ℕ
hex_text n = encode_lower (to_be_bytes w64 n)

-- bytes, two lower-case hexadecimal digits each
abbrev pub bytes_text : List ℕ → List ℕ
bytes_text bytes = encode_lower bytes

-- octal digits, without a prefix
abbrev pub octal_text : ℕ → List ℕ
octal_text n = digits 8 false n

-- a UUID, in lower case with hyphens
abbrev pub id_text : List ℕ → List ℕ
id_text id = hyphenated_text lower id

-- a name, byte by byte
abbrev pub name_text : List ℕ → List ℕ
name_text name = flat_map shown name

-- the name of an item type, or its number
abbrev pub kind_text : ℕ → List ℕ
kind_text kind = unwrap_or (type_name kind) (codes "UNKNOWN." ++ decimal kind)

-- a key, with the name of its item type
abbrev pub key_text : Key → List ℕ
key_text key = codes "(" ++ decimal key.objectid ++ codes " " ++ kind_text key.kind ++ codes " " ++ decimal key.offset ++ codes ")"

-- a piece
abbrev pub piece_text : Piece → List ℕ
piece_text (Plain bytes) = bytes.now
piece_text (Decimal n) = decimal n
piece_text (Hexadecimal n) = hex_text n
piece_text (Octal n) = octal_text n
piece_text (Name name) = name_text name.now
piece_text (key_piece key) = key_text key
piece_text (HexadecimalBytes bytes) = bytes_text bytes.now
piece_text (Id id) = id_text id

-- a text with pieces behind it, one after another
abbrev pub pieces_onto : List ℕ → List Piece → List ℕ
pieces_onto text [] = text
pieces_onto text (piece ∷ pieces) = pieces_onto (text ++ piece_text piece) pieces

-- the text of pieces, one after another
abbrev pub text_of : List Piece → List ℕ
text_of pieces = pieces_onto [] pieces
