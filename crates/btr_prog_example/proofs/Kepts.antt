-- Rows in memory.
use Rattle.std.proofs.Common.{◌≡◌, inl, ℕ, List, [], ◌∷◌, ◌++◌, map, Result, Ok, Err, OnOk, OnErr, ap, ◌∙◌}
use Rattle.std.proofs.lemmas.List.{map-append}
use Rattle.btr_prog_example.specs.declared.sink.Refused.{Refused}
use Rattle.btr_prog_example.specs.declared.tray.Kept.{Kept}
use Rattle.btr_prog_example.specs.Rows.{Bytes, End, PutsRow, PutsEnd}
use Rattle.btr_prog_example.specs.Trays.{row_of}

-- a row that was kept at the end stands at the end of the rows
kept_row : (old new : List Kept) (row : Kept) → new ≡ old ++ (row ∷ []) → map row_of new ≡ map row_of old ++ (row_of row ∷ [])
kept_row old new row e = ap (map row_of) e ∙ map-append row_of old (row ∷ [])

-- bytes that were kept as the last row, or not at all where that failed, were put as a sink puts them
pub kept_bytes : (old new : List Kept) (row : Kept) (bytes : List ℕ) (r : Result (Unit {0}) Refused) → row_of row ≡ Bytes bytes
    → OnOk r (new ≡ old ++ (row ∷ [])) → OnErr r (new ≡ old) → PutsRow (map row_of old) (map row_of new) bytes r
kept_bytes old new row bytes (Ok u) b h g = kept_row old new row h ∙ ap (λ x. map row_of old ++ (x ∷ [])) b
kept_bytes old new row bytes (Err x) b h g = inl (ap (map row_of) g)

-- an end that was kept as the last row, or not at all where that failed, was put as a sink puts it
pub kept_end : (old new : List Kept) (row : Kept) (r : Result (Unit {0}) Refused) → row_of row ≡ End → OnOk r (new ≡ old ++ (row ∷ []))
    → OnErr r (new ≡ old) → PutsEnd (map row_of old) (map row_of new) r
kept_end old new row (Ok u) b h g = kept_row old new row h ∙ ap (λ x. map row_of old ++ (x ∷ [])) b
kept_end old new row (Err x) b h g = ap (map row_of) g
