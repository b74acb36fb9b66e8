-- What the owners of an address in a tree have still to give.
use Rattle.std.specs.Prelude.{◌≡◌, ℕ, ◌<◌, List, [], ◌++◌, Option, Some, None, Result, Ok, Err}
use Rattle.btr_prog.specs.Prog.{Return, Stop, Emit, Does, first, prepend, exec, want_marks}
use Rattle.btr_prog.specs.Answers.{Follows, no_part}
use Rattle.btr_read.specs.Fate as fate
use Rattle.btr_read.specs.Store.{Blocks}
use Rattle.btr_read.specs.declared.want.Want.{Want}
use Rattle.btr_rack.specs.Rack.{Seen}
use Rattle.btr_walk.specs.declared.fault.TreeFault.{TreeFault}
use Rattle.btr_walk.specs.declared.fault.TreeFault.TheVariants.{Malformed}
use Rattle.btr_walk.specs.declared.scan.Scan.{Scan}
use Rattle.btr_walk.specs.Going.{IsOn}
use Rattle.btr_walk.specs.Le.{TreeItem}
use Rattle.btr_walk.specs.Ranks.{IsShaped}
use Rattle.btr_walk.specs.Reading.{Map, Tells, UnreadBlock, unread_by, halt_of}
use Rattle.btr_walk.specs.Rests.{rest_left, rank_left, IsRestOn}
use Rattle.btr_walk.specs.ScanEnds.{left_of, rank_of, HoldsLeaf}
use Rattle.btr_volume.specs.Lookup.{Program}
use Rattle.btr_volume.specs.declared.root.TreeRoot.{TreeRoot}
use Rattle.btr_volume.specs.declared.volume.Volume.{Volume}
use Rattle.btr_resolve.specs.Owning.{item_met, owners_in}
use Rattle.btr_resolve.specs.declared.owner.Met.{Met}
use Rattle.btr_resolve.specs.declared.owner.Owner.{Owner}
use Rattle.btr_resolve.specs.declared.owners.Owners.{Owners}
use Rattle.btr_resolve.specs.declared.owners.Turn.{Turn}
use Rattle.btr_resolve.specs.declared.owners.Turn.TheVariants as turn

-- what an item came to, and the extents that were met then
abbrev pub Meets : ℕ → TreeRoot → Met → TreeItem → Met → Result (Option Owner) TreeFault → Type 0
Meets addr tree met item met' (Ok (Some owner)) = item_met addr tree met item ≡ Emit owner (Return (Ok met'))
Meets addr tree met item met' (Ok None) = item_met addr tree met item ≡ Return (Ok met')
Meets addr tree met item met' (Err f) = (item_met addr tree met item ≡ Stop (fate.Malformed item.leaf)) × (f ≡ Malformed item.leaf)

module _ (addr : ℕ) (tree : TreeRoot) where
  -- the owners that a scan has still to give
  abbrev pub owners_of : Map → Blocks → Met → Scan → Program Owner (Unit {0})
  owners_of B store met scan = owners_in addr tree met (left_of B store scan)

  -- some wants, and then an owner; what is left comes behind
  pub record GivesOwner (B : Map) (seen : List Want) (old new : Blocks) (scan scan' : Scan) (met met' : Met) (owner : Owner) : Type 0 where
    pub past : List Want
    pub is : exec B (owners_of B old met scan) ≡ prepend (want_marks past) (first (Does owner) (exec B (owners_of B new met' scan')))
    pub on : IsOn scan.lo scan.hi B (seen ++ past) scan'.place
    pub held : HoldsLeaf B seen old scan → HoldsLeaf B (seen ++ past) new scan'

  -- some wants, and no owner among them
  pub record PassesItem (B : Map) (seen : List Want) (old new : Blocks) (scan scan' : Scan) (met met' : Met) : Type 0 where
    pub past : List Want
    pub is : exec B (owners_of B old met scan) ≡ prepend (want_marks past) (exec B (owners_of B new met' scan'))
    pub on : IsOn scan.lo scan.hi B (seen ++ past) scan'.place
    pub held : HoldsLeaf B seen old scan → HoldsLeaf B (seen ++ past) new scan'

  -- there is no owner any more
  abbrev pub EndsOwners : (UnreadBlock → Want → Type 0) → Map → List Want → Blocks → Met → Scan → Type 0
  EndsOwners Is B seen store met scan = Follows {A = Unit {0}} Is no_part seen (exec B (owners_of B store met scan)) [] (Ok tt)

  -- the scan can't be read on, by this fault
  abbrev pub HaltsOwners : (UnreadBlock → Want → Type 0) → Map → List Want → Blocks → Met → Scan → TreeFault → Type 0
  HaltsOwners Is B seen store met scan f = Follows Is no_part seen (exec B (owners_of B store met scan)) [] (Err (halt_of f))

  -- one item of a scan
  abbrev pub TurnBy : (UnreadBlock → Want → Type 0) → Map → List Want → Blocks → Blocks → Scan → Scan → Met → Met → Result Turn TreeFault → Type 0
  TurnBy Is B seen old new scan scan' met met' (Ok (turn.Owner owner)) = GivesOwner B seen old new scan scan' met met' owner
  TurnBy Is B seen old new scan scan' met met' (Ok turn.Other) = PassesItem B seen old new scan scan' met met'
  TurnBy Is B seen old new scan scan' met met' (Ok turn.End) = EndsOwners Is B seen old met scan
  TurnBy Is B seen old new scan scan' met met' (Err f) = HaltsOwners Is B seen old met scan f

  -- the next owner of a scan
  abbrev pub FoundBy : (UnreadBlock → Want → Type 0) → Map → List Want → Blocks → Blocks → Scan → Scan → Met → Met
      → Result (Option Owner) TreeFault → Type 0
  FoundBy Is B seen old new scan scan' met met' (Ok (Some owner)) = GivesOwner B seen old new scan scan' met met' owner
  FoundBy Is B seen old new scan scan' met met' (Ok None) = EndsOwners Is B seen old met scan
  FoundBy Is B seen old new scan scan' met met' (Err f) = HaltsOwners Is B seen old met scan f

  -- one item of a scan, whatever was seen before
  abbrev pub IsTurn : (UnreadBlock → Want → Type 0) → Map → Blocks → Blocks → Scan → Scan → Met → Met → Result Turn TreeFault → Type 0
  IsTurn Is B old new scan scan' met met' result =
      (seen : List Want) → IsOn scan.lo scan.hi B seen scan.place → TurnBy Is B seen old new scan scan' met met' result

  -- the next owner of a scan, whatever was seen before
  abbrev pub IsFound : (UnreadBlock → Want → Type 0) → Map → Blocks → Blocks → Scan → Scan → Met → Met → Result (Option Owner) TreeFault → Type 0
  IsFound Is B old new scan scan' met met' result =
      (seen : List Want) → IsOn scan.lo scan.hi B seen scan.place → FoundBy Is B seen old new scan scan' met met' result

  -- one item of a scan, so far as the reads were steady
  abbrev pub TellsTurn : Blocks → Blocks → Seen → Seen → Scan → Scan → Met → Met → Result Turn TreeFault → Type 0
  TellsTurn old new before now scan scan' met met' result =
      Tells old.layout before now (λ B. IsTurn (unread_by old.layout before now) B old new scan scan' met met' result)

  -- the next owner of a scan, so far as the reads were steady
  abbrev pub TellsFound : Blocks → Blocks → Seen → Seen → Scan → Scan → Met → Met → Result (Option Owner) TreeFault → Type 0
  TellsFound old new before now scan scan' met met' result =
      Tells old.layout before now (λ B. IsFound (unread_by old.layout before now) B old new scan scan' met met' result)

-- the scan comes nearer to its end with each item
abbrev pub TurnRankFalls : Scan → Scan → Result Turn TreeFault → Type 0
TurnRankFalls scan scan' (Ok (turn.Owner owner)) = rank_of scan' < rank_of scan
TurnRankFalls scan scan' (Ok turn.Other) = rank_of scan' < rank_of scan
TurnRankFalls scan scan' (Ok turn.End) = Unit {0}
TurnRankFalls scan scan' (Err f) = Unit {0}

-- what is left to do is less with each owner
abbrev pub FoundRankFalls : ℕ → ℕ → Result (Option Owner) TreeFault → Type 0
FoundRankFalls rank rank' (Ok (Some owner)) = rank' < rank
FoundRankFalls rank rank' (Ok None) = Unit {0}
FoundRankFalls rank rank' (Err f) = Unit {0}

-- the owners that are still to come
abbrev pub owners_left : Map → Owners → Program Owner (Unit {0})
owners_left B owners = owners_in owners.addr owners.tree owners.met (rest_left B owners.rest)

-- the blocks that they go on from are among those that were wanted
abbrev pub AreOn : Map → List Want → Owners → Type 0
AreOn B seen owners = IsRestOn B seen owners.rest

-- they can be read on
pub record AreOwners (owners : Owners) : Type 0 where
  pub shaped : IsShaped owners.rest.place.rest

-- how much is still to do, whatever the tree holds: the measure of a loop over the owners
abbrev pub rank_of_owners : Owners → ℕ
rank_of_owners owners = rank_left owners.rest

-- some wants, and then an owner; what is left comes behind
pub record LeadsOn (B : Map) (seen : List Want) (owners owners' : Owners) (owner : Owner) : Type 0 where
  pub past : List Want
  pub is : exec B (owners_left B owners) ≡ prepend (want_marks past) (first (Does owner) (exec B (owners_left B owners')))
  pub on : AreOn B (seen ++ past) owners'

-- the next owner, the end or a fault, by a block map
abbrev pub NextOwnerBy : (UnreadBlock → Want → Type 0) → Map → List Want → Owners → Owners → Result (Option Owner) TreeFault → Type 0
NextOwnerBy Is B seen owners owners' (Ok (Some owner)) = LeadsOn B seen owners owners' owner
NextOwnerBy Is B seen owners owners' (Ok None) = Follows {A = Unit {0}} Is no_part seen (exec B (owners_left B owners)) [] (Ok tt)
NextOwnerBy Is B seen owners owners' (Err f) = Follows Is no_part seen (exec B (owners_left B owners)) [] (Err (halt_of f))

-- the next owner, the end or a fault, so far as the reads were steady
abbrev pub TellsNext : Volume → Seen → Seen → Owners → Owners → Result (Option Owner) TreeFault → Type 0
TellsNext vol before now owners owners' result =
    Tells vol.store.layout before now (λ B. (seen : List Want) → AreOn B seen owners
    → NextOwnerBy (unread_by vol.store.layout before now) B seen owners owners' result)
