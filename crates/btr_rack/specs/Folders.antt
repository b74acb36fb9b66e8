-- The folders that were entered below the destination.
use Rattle.std.specs.Prelude.{◌≡◌, ◌-◌, List, ◌∷◌, length, Some, slice_get}
use Rattle.btr_rack.specs.declared.file_id.FileId.{FileId}

-- it is the folder above the last one: the destination stands above the first
abbrev pub IsAbove : FileId → List FileId → FileId → Type 0
IsAbove top folders folder = slice_get (top ∷ folders) (length folders - 1) ≡ Some folder
