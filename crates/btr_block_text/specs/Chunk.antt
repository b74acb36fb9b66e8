-- The lines of a CHUNK_ITEM, whose body is only known to be as long as its
-- stripes need. Each line stands behind two tabs.
-- The format is described at https://btrfs.readthedocs.io/en/latest/dev/On-disk-format.html
use Rattle.std.specs.Prelude.{ℕ, ◌+◌, ◌*◌, List, ◌++◌, codes}
use Rattle.std.specs.Fmt.{decimal}
use Rattle.std.specs.List.{flat_map, range_with_len}
use Rattle.btr_base.specs.Field.{number_at, bytes_at}
use Rattle.btr_text.specs.Pieces.{hex_text, id_text}

-- the line of a chunk, without its stripes
unfoldable pub chunk_line : List ℕ → List ℕ
chunk_line body =
    codes "\t\tlength " ++ decimal (number_at 8 0 body) ++ codes " owner " ++ decimal (number_at 8 8 body)
    ++ codes " stripe_len " ++ decimal (number_at 8 16 body)
    ++ codes " type " ++ hex_text (number_at 8 24 body) ++ codes " stripes " ++ decimal (number_at 2 44 body)
    ++ codes " sub_stripes " ++ decimal (number_at 2 46 body) ++ codes "\n"

-- stripe i, of 32 bytes
unfoldable pub stripe_line : List ℕ → ℕ → List ℕ
stripe_line body i =
    codes "\t\tstripe " ++ decimal i ++ codes " devid " ++ decimal (number_at 8 (48 + 32 * i) body)
    ++ codes " offset " ++ decimal (number_at 8 (48 + 32 * i + 8) body)
    ++ codes " uuid " ++ id_text (bytes_at 16 (48 + 32 * i + 16) body) ++ codes "\n"

-- a chunk, and each of its stripes
abbrev pub chunk_lines : List ℕ → List ℕ
chunk_lines body = chunk_line body ++ flat_map (stripe_line body) (range_with_len 0 (number_at 2 44 body))
