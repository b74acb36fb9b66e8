-- What a lookup shows.
use Rattle.std.specs.Prelude.{◌≡◌, [], Option, IsSome, Some, None, Result, Ok, Err}
use Rattle.btr_base.specs.declared.key.Key.{Key}
use Rattle.btr_prog.specs.Prog.{exec}
use Rattle.btr_prog.specs.Answers.{Follows, no_part}
use Rattle.btr_read.specs.Store.{Lent}
use Rattle.btr_read.specs.declared.want.Want.{Want}
use Rattle.btr_walk.specs.declared.place.RootPlace.{RootPlace}
use Rattle.btr_walk.specs.declared.fault.TreeFault.{TreeFault}
use Rattle.btr_walk.specs.declared.found.Found.{Found}
use Rattle.btr_walk.specs.declared.found.Reach.{Reach}
use Rattle.btr_walk.specs.Le.{TreeItem, le}
use Rattle.btr_walk.specs.Reading.{Map, UnreadBlock, answer_of}

-- the item that an answer shows
abbrev pub item_of : Found → TreeItem
item_of found = record { key = found.key; leaf = found.block; body = found.body.now }

-- an answer with the item that it shows
abbrev pub items_of : Result (Option Found) TreeFault → Result (Option TreeItem) TreeFault
items_of (Ok (Some found)) = Ok (Some (item_of found))
items_of (Ok None) = Ok None
items_of (Err f) = Err f

-- what a lookup answers follows the program
abbrev pub FindsItem : (UnreadBlock → Want → Type 0) → Map → RootPlace → Key → Result (Option Found) TreeFault → Type 0
FindsItem Is B root key result = Follows {S = ⊥} Is no_part [] (exec B (le root key)) [] (answer_of (items_of result))

-- a loan stands where there is an item, and only there
abbrev pub LendsWhere : Result (Option Found) TreeFault → Option Lent → Type 0
LendsWhere (Ok (Some found)) loan = IsSome loan
LendsWhere (Ok None) loan = loan ≡ None
LendsWhere (Err f) loan = loan ≡ None

-- the item of an answer, without how far it reaches
abbrev pub found_of : Result Reach TreeFault → Result (Option Found) TreeFault
found_of (Ok reach) = Ok reach.found
found_of (Err f) = Err f

-- what a lookup answers follows the program, whatever its reach
abbrev pub ReachesItem : (UnreadBlock → Want → Type 0) → Map → RootPlace → Key
    → Result Reach TreeFault → Type 0
ReachesItem Is B root key result = FindsItem Is B root key (found_of result)

-- a loan stands where there is an item, whatever the reach, and only there
abbrev pub LendsReach : Result Reach TreeFault → Option Lent → Type 0
LendsReach result loan = LendsWhere (found_of result) loan
