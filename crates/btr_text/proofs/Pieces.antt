-- The text of pieces, piece by piece.
use Rattle.std.proofs.Common.{◌≡◌, ℕ, ◌+◌, ◌/◌, ◌%◌, ◌<◌, List, [], ◌∷◌, ◌++◌, length, take, drop, get_or, refl, sym, ap, ◌∙◌}
use Rattle.std.proofs.lemmas.List.{append_assoc, append-nil, take-append-drop, take_more}
use Rattle.btr_text.specs.declared.piece.Piece.{Piece}
use Rattle.std.proofs.lemmas.Grind.{flat_map-append}
use Rattle.std.proofs.lemmas.List.{flat_map_more}
use Rattle.btr_base.specs.Shown.{shown}
use Rattle.hex.specs.Hex.{encode_with, lower_digits}
use Rattle.btr_text.specs.Pieces.{pieces_onto, text_of, piece_text, name_text, bytes_text}

-- a text with pieces behind it is the text and theirs
onto : (text : List ℕ) (pieces : List Piece) → pieces_onto text pieces ≡ text ++ text_of pieces
onto text [] = sym (append-nil text)
onto text (piece ∷ pieces) =
    onto (text ++ piece_text piece) pieces ∙ append_assoc text (piece_text piece) (text_of pieces) ∙ ap (λ l. text ++ l) (sym (onto (piece_text piece) pieces))

-- the pieces of two lists
both : (text : List ℕ) (first second : List Piece) → pieces_onto text (first ++ second) ≡ pieces_onto (pieces_onto text first) second
both text [] second = refl
both text (piece ∷ first) second = both (text ++ piece_text piece) first second

-- one piece more
pub pieces_more : (pieces : List Piece) (i : ℕ) (d : Piece) → i < length pieces → text_of (take (i + 1) pieces) ≡ text_of (take i pieces)
    ++ piece_text (get_or pieces i d)
pieces_more pieces i d lt = ap text_of (take_more pieces i d lt) ∙ both [] (take i pieces) (get_or pieces i d ∷ [])

-- the pieces, around one of them
pub pieces_around : (pieces : List Piece) (i : ℕ) (d : Piece) → i < length pieces → text_of pieces
    ≡ (text_of (take i pieces) ++ piece_text (get_or pieces i d)) ++ text_of (drop (i + 1) pieces)
pieces_around pieces i d lt =
    ap text_of (sym (take-append-drop (i + 1) pieces)) ∙ both [] (take (i + 1) pieces) (drop (i + 1) pieces)
    ∙ onto (text_of (take (i + 1) pieces)) (drop (i + 1) pieces)
    ∙ ap (λ l. l ++ text_of (drop (i + 1) pieces)) (pieces_more pieces i d lt)

-- one byte of a name more
pub name_more : (name : List ℕ) (i b : ℕ) → i < length name → b ≡ get_or name i 0 → name_text (take (i + 1) name) ≡ name_text (take i name) ++ shown b
name_more name i b lt is = ap name_text (take_more name i 0 lt ∙ ap (λ x. take i name ++ x ∷ []) (sym is)) ∙ sym (flat_map_more shown [] (take i name) b)

-- a name, around one of its bytes
pub name_around : (name : List ℕ) (i b : ℕ) → i < length name → b ≡ get_or name i 0 → name_text name ≡ (name_text (take i name) ++ shown b)
    ++ name_text (drop (i + 1) name)
name_around name i b lt is =
    ap name_text (sym (take-append-drop (i + 1) name)) ∙ flat_map-append shown (take (i + 1) name) (drop (i + 1) name)
    ∙ ap (λ l. l ++ name_text (drop (i + 1) name)) (name_more name i b lt is)

-- the digits of the bytes of two lists
digits_both : (table first second : List ℕ) → encode_with table (first ++ second) ≡ encode_with table first ++ encode_with table second
unfolding encode_with
digits_both table [] second = refl
digits_both table (b ∷ first) second = ap (λ l. get_or table (b / 16) 0 ∷ get_or table (b % 16) 0 ∷ l) (digits_both table first second)

-- the digits of one byte more
pub digits_more : (bytes : List ℕ) (i b : ℕ) → i < length bytes → b ≡ get_or bytes i 0 → bytes_text (take (i + 1) bytes) ≡ bytes_text (take i bytes)
    ++ bytes_text (b ∷ [])
digits_more bytes i b lt is = ap bytes_text (take_more bytes i 0 lt ∙ ap (λ x. take i bytes ++ x ∷ []) (sym is))
    ∙ digits_both lower_digits (take i bytes) (b ∷ [])

-- the digits, around those of one of the bytes
pub digits_around : (bytes : List ℕ) (i b : ℕ) → i < length bytes → b ≡ get_or bytes i 0 → bytes_text bytes
    ≡ (bytes_text (take i bytes) ++ bytes_text (b ∷ [])) ++ bytes_text (drop (i + 1) bytes)
digits_around bytes i b lt is =
    ap bytes_text (sym (take-append-drop (i + 1) bytes)) ∙ digits_both lower_digits (take (i + 1) bytes) (drop (i + 1) bytes)
    ∙ ap (λ l. l ++ bytes_text (drop (i + 1) bytes)) (digits_more bytes i b lt is)
