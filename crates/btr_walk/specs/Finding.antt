-- What a lookup answers.
use Rattle.std.specs.Prelude.{◌≡◌, ℕ, ◌<◌, ◌≤◌, List, [], Option, Some, None, IsSomeAnd, Result, Ok, Err, length, IsTrue}
use Rattle.std.specs.List.{HoldsAt}
use Rattle.btr_base.specs.declared.key.Key.{Key}
use Rattle.btr_node.specs.Block.{Item, items, is_leaf}
use Rattle.btr_prog.specs.Prog.{exec}
use Rattle.btr_prog.specs.Answers.{Follows, no_part}
use Rattle.btr_read.specs.Store.{Blocks, Lent, SameLoans, block_of, IsLiveIn}
use Rattle.btr_read.specs.declared.want.Want.{Want}
use Rattle.btr_walk.specs.declared.place.RootPlace.{RootPlace}
use Rattle.btr_walk.specs.declared.fault.TreeFault.{TreeFault}
use Rattle.btr_walk.specs.declared.finding.Sighted.{Sighted}
use Rattle.btr_walk.specs.Le.{TreeItem, tree_item, le_item, le}
use Rattle.btr_walk.specs.Lending.{base}
use Rattle.btr_walk.specs.Reading.{Map, UnreadBlock, answer_of}

-- the item at a place of a leaf's block
abbrev pub ItemAt : Blocks → Sighted → TreeItem → Type 0
ItemAt store sighted item = IsSomeAnd (block_of store sighted.loan) (λ block. HoldsAt (λ x. tree_item sighted.leaf x ≡ item) (items block) sighted.at)

-- the item at a place is the last one at or below a key
abbrev pub IsLeAt : Key → List Item → ℕ → Type 0
IsLeAt key is at = HoldsAt (λ item. le_item key is ≡ Some item) is at

-- the answer without the loan
abbrev pub ShowsFound : Blocks → Result (Option Sighted) TreeFault → Result (Option TreeItem) TreeFault → Type 0
ShowsFound store (Ok (Some sighted)) (Ok (Some item)) = ItemAt store sighted item
ShowsFound store (Ok (Some sighted)) (Ok None) = ⊥
ShowsFound store (Ok (Some sighted)) (Err f) = ⊥
ShowsFound store (Ok None) (Ok (Some item)) = ⊥
ShowsFound store (Ok None) (Ok None) = Unit {0}
ShowsFound store (Ok None) (Err f) = ⊥
ShowsFound store (Err f) (Ok o) = ⊥
ShowsFound store (Err f) (Err f') = f' ≡ f

-- what a lookup answers follows the program
abbrev pub Finds : (UnreadBlock → Want → Type 0) → Map → RootPlace → Key → Blocks → Result (Option Sighted) TreeFault → Type 0
Finds Is B root key store result =
    (shown : Result (Option TreeItem) TreeFault) × ShowsFound store result shown
    × Follows {S = ⊥} Is no_part [] (exec B (le root key)) [] (answer_of shown)

-- the loan of a good leaf that has an item at this place is new, and no other changed
pub record LendsItemAt (old new : Blocks) (loan : Lent) (at : ℕ) : Type 0 where
  pub others : SameLoans old (base new (Some loan))
  pub live : IsLiveIn new loan
  pub large : 4096 ≤ loan.len
  pub good : IsSomeAnd (block_of new loan) (λ block. IsTrue (is_leaf block) × (at < length (items block)))

-- the loan of the leaf of the item that was found is new and live, or no loan changed
abbrev pub LendsItem : Blocks → Blocks → Result (Option Sighted) TreeFault → Type 0
LendsItem old new (Ok (Some sighted)) = LendsItemAt old new sighted.loan sighted.at
LendsItem old new (Ok None) = SameLoans old new
LendsItem old new (Err f) = SameLoans old new
