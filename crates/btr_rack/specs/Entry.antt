-- Entering a folder.
use Rattle.std.specs.Prelude.{◌≡◌, ℕ, List, [], ◌∷◌, ⊤}
use Rattle.btr_rack.specs.declared.raw_call.RawCall.TheVariants.{Entered as ChangedTo}
use Rattle.btr_rack.specs.declared.entry.Entry.{Entry}
use Rattle.btr_rack.specs.declared.entry.Entry.TheVariants.{Refused, Astray, Entered}
use Rattle.btr_rack.specs.declared.file_id.FileId.{FileId}
use Rattle.btr_rack.specs.History.{event}

-- a folder is entered by one change to its path
abbrev pub IsEntry : List ℕ → Entry → Type 0
IsEntry path Refused = ⊤
IsEntry path Astray = ⊤
IsEntry path (Entered _ calls) = calls ≡ event ChangedTo path ∷ []

-- what is entered is this folder
abbrev pub IsOf : FileId → Entry → Type 0
IsOf folder Refused = ⊤
IsOf folder Astray = ⊤
IsOf folder (Entered here _) = here ≡ folder
