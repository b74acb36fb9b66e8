-- The text of a line that is about to be put.
use Rattle.std.specs.Prelude.{ℕ, List, [], ◌++◌, codes}
use Rattle.std.specs.Fmt.{decimal}
use Rattle.btr_text.specs.Pieces.{hex_text}
use Rattle.btr_run.specs.declared.refusal.Line.{Line}
use Rattle.btr_run.specs.declared.refusal.Line.TheVariants.{Nothing, Words, Number, Bits, Unread}

-- the text of a line
abbrev pub line_text : Line → List ℕ
line_text Nothing = []
line_text (Words words) = words.now
line_text (Number words n rest) = words.now ++ decimal n ++ rest.now
line_text (Bits words bits) = words.now ++ hex_text bits ++ codes "\n"
line_text (Unread addr slot) = codes "error: unread block " ++ decimal addr ++ codes " on image " ++ decimal slot ++ codes "\n"
