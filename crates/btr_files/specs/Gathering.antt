-- The names of an inode, as they are kept in a list.
use Rattle.std.specs.Prelude.{◌≡◌, ℕ, ◌+◌, ◌≤◌, Bool, true, false, List, [], ◌∷◌, ◌++◌, Option, Some, None, Result, Ok, Err}
use Rattle.btr_base.specs.Field.{bytes_at}
use Rattle.btr_base.specs.declared.memory.Memory.{Memory}
use Rattle.btr_items.specs.declared.fault.ItemFault.{ItemFault}
use Rattle.btr_prog.specs.Prog.{exec}
use Rattle.btr_prog.specs.Answers.{Follows, no_part}
use Rattle.btr_rack.specs.Rack.{Seen}
use Rattle.btr_walk.specs.declared.folder.FoldFault.{FoldFault}
use Rattle.btr_walk.specs.Folding.{fold_answer}
use Rattle.btr_walk.specs.Folds.{Next, Go}
use Rattle.btr_walk.specs.Le.{TreeItem}
use Rattle.btr_walk.specs.Reading.{Tells, unread_by}
use Rattle.btr_volume.specs.Lookup.{Lookup}
use Rattle.btr_volume.specs.declared.volume.Volume.{Volume}
use Rattle.btr_files.specs.declared.name_list.NamePlace.{NamePlace}
use Rattle.btr_files.specs.Names.{Link, link, links_of}
use Rattle.btr_files.specs.Steps.{formed_next}

-- a name whose bytes stand among those of all
abbrev pub link_at : List ℕ → NamePlace → Link
link_at bytes place = link place.parent place.index (bytes_at place.len place.at bytes)

-- its bytes stand among so many
abbrev pub IsNameWithin : ℕ → NamePlace → Type 0
IsNameWithin count place = place.at + place.len ≤ count

-- some names, and then those that the parts of a body lead to; none where a part breaks its form
abbrev pub parts_linked : {T : Type 0} → (T → Link) → List Link → List (Result T ItemFault) → Option (List Link)
parts_linked of found [] = Some found
parts_linked of found (Ok part ∷ parts) = parts_linked of (found ++ of part ∷ []) parts
parts_linked of found (Err fault ∷ parts) = None

-- some names, and then those of an item, if it keeps its form
abbrev pub links_more : List Link → Result (List Link) ItemFault → Option (List Link)
links_more found (Ok more) = Some (found ++ more)
links_more found (Err fault) = None

-- the names are in a list, or there are none as a form is broken; of want of memory nothing is said
abbrev pub IsGathered : Option (List Link) → List Link → Result Bool Memory → Type 0
IsGathered expected found (Ok true) = expected ≡ Some found
IsGathered expected found (Ok false) = expected ≡ None
IsGathered expected found (Err memory) = Unit {0}

-- the names of an item more, or it breaks its form
abbrev pub names_step : List Link → TreeItem → Next (List Link) (List Link)
names_step found item = formed_next (links_of item.key item.body) (λ more. Go (found ++ more))

-- an answer with the names that are in a list then
abbrev pub with_names : List Link → Result (Unit {0}) (FoldFault Memory) → Result (List Link) (FoldFault Memory)
with_names found (Ok u) = Ok found
with_names found (Err fault) = Err fault

-- so far as the calls were steady, the names in a list and the answer follow a lookup
abbrev pub TellsNames : Volume → Seen → Seen → Lookup (List Link) → List Link → Result (Unit {0}) (FoldFault Memory) → Type 0
TellsNames vol before now lookup found result =
    Tells vol.store.layout before now (λ B.
    Follows {S = ⊥} (unread_by vol.store.layout before now) no_part [] (exec B lookup) [] (fold_answer (with_names found result)))
