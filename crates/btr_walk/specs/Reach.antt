-- How far the answer of a lookup reaches: the keys from the one that was sought on for
-- which the same way leads to the same item, or to none.
use Rattle.std.specs.Prelude.{◌≡◌, ◌≤◌, true, List, [], ◌∷◌, Option, Some, Result, Ok, Err, ⊤}
use Rattle.btr_base.specs.Key.{key_number}
use Rattle.btr_base.specs.declared.key.Key.{Key}
use Rattle.btr_node.specs.Block.{Item}
use Rattle.btr_prog.specs.Prog.{exec}
use Rattle.btr_read.specs.Store.{Blocks}
use Rattle.btr_read.specs.declared.want.Want.{Want}
use Rattle.btr_walk.specs.declared.fault.TreeFault.{TreeFault}
use Rattle.btr_walk.specs.declared.finding.Sought.{Sought}
use Rattle.btr_walk.specs.declared.finding.Sighted.{Sighted}
use Rattle.btr_walk.specs.declared.found.Reach.{Reach}
use Rattle.btr_walk.specs.declared.place.RootPlace.{RootPlace}
use Rattle.btr_walk.specs.Finding.{Finds}
use Rattle.btr_walk.specs.Le.{le}
use Rattle.btr_walk.specs.Reading.{Map, UnreadBlock}
use Rattle.btr_walk.specs.BlockPointer.{is_below}

-- the key of the first of some items, or the bound behind them
abbrev pub next_key : List Item → Option Key → Option Key
next_key [] up = up
next_key (item ∷ items) up = Some item.key

-- lookups at keys from this one on, below the bound, are the same
abbrev pub SameUpTo : Map → RootPlace → Key → Option Key → Type 0
SameUpTo B root key until =
    (other : Key) → key_number key ≤ key_number other → is_below until other ≡ true → exec B (le {S = ⊥} root other) ≡ exec B (le {S = ⊥} root key)

-- where a lookup ended, without how far that reaches
abbrev pub sighted_of : Result Sought TreeFault → Result (Option Sighted) TreeFault
sighted_of (Ok sought) = Ok sought.sighted
sighted_of (Err f) = Err f

-- lookups at keys from this one on, up to the bound that stands beside where it ended, are the same
abbrev pub SoughtReaches : Map → RootPlace → Key → Result Sought TreeFault → Type 0
SoughtReaches B root key (Ok sought) = SameUpTo B root key sought.until
SoughtReaches B root key (Err f) = ⊤

-- what a lookup answers follows the program, and reaches so far
abbrev pub FindsAndReaches : (UnreadBlock → Want → Type 0) → Map → RootPlace → Key → Blocks
    → Result Sought TreeFault → Type 0
FindsAndReaches Is B root key store result =
    Finds Is B root key store (sighted_of result) × SoughtReaches B root key result

-- lookups at all keys from this one on, below the bound that it answers, are the same
abbrev pub Reaches : Map → RootPlace → Key → Result Reach TreeFault → Type 0
Reaches B root key (Ok reach) = SameUpTo B root key reach.until
Reaches B root key (Err f) = ⊤
