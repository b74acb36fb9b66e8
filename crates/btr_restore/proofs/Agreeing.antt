-- Images whose copies agree as their table finds them agree as the system array finds them.
use Rattle.std.proofs.Common.{◌≡◌, Result, Ok, Err, refl}
use Rattle.btr_prog.specs.Prog.{exec}
use Rattle.btr_read.specs.Fate.{Fault, fate, Agreed}
use Rattle.btr_volume.specs.Maps.{array_layout, table_of, table_or}
use Rattle.btr_volume.specs.Start.{Images, Start, layout_by}
use Rattle.btr_volume.specs.Table.{TableResult, table_scan}
use Rattle.btr_restore.proofs.Extends.{Extends, table_candidates, table_extends}

-- the table of the images has the chunks of the array
table_has_array : (images : Images) (start : Start) (ending : Result TableResult Fault)
    → (exec (fate images (array_layout start)) (table_scan start)).ending ≡ ending → Extends start.array (table_or start.array ending)
table_has_array images start (Ok (Ok table)) is = table_extends (fate images (array_layout start)) start table is
table_has_array images start (Ok (Err refusal)) is = λ addr c there. there
table_has_array images start (Err fault) is = λ addr c there. there

-- images whose copies agree as their own table finds them agree as the system array finds them
pub array_agreed : (images : Images) (start : Start) → Agreed images (layout_by start (table_of images start)) → Agreed images (array_layout start)
array_agreed images start agreed want tested a b there other =
    let has = table_has_array images start (exec (fate images (array_layout start)) (table_scan start)).ending refl in
    agreed want tested a b (table_candidates images start (table_of images start) want a has there)
    (table_candidates images start (table_of images start) want b has other)
