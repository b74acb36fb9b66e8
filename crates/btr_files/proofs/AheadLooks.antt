-- Lookups of checksums, and those that are kept behind them.
use Rattle.std.proofs.Common.{◌≡◌, ℕ, Bool, false, cond, List, [], ◌∷◌, Option, Some, None, IfSome, Result, Ok, refl, sym, subst}
use Rattle.std.specs.Option.{option_map}
use Rattle.btr_base.specs.declared.key.Key.{Key}
use Rattle.btr_base.specs.declared.kind.SumKind.{SumKind}
use Rattle.btr_base.specs.declared.stored.Sum.{Sum}
use Rattle.btr_prog.specs.Prog.{Return, exec, bind, steps_of}
use Rattle.btr_rack.specs.Rack.{Seen}
use Rattle.btr_read.specs.Fate.{fate}
use Rattle.btr_read.specs.Layout.{Layout}
use Rattle.btr_read.specs.Store.{Blocks}
use Rattle.btr_read.specs.declared.want.Want.{Want}
use Rattle.btr_read.specs.declared.want.Want.TheVariants.{Plain, Sector}
use Rattle.btr_walk.specs.Le.{TreeItem, le}
use Rattle.btr_walk.specs.Reach.{Reaches, SameUpTo}
use Rattle.btr_walk.specs.Reading.{Map, UnreadBlock, Tells, unread_by}
use Rattle.btr_walk.specs.Showing.{FindsItem, ReachesItem, found_of, item_of, items_of}
use Rattle.btr_walk.specs.declared.fault.TreeFault.{TreeFault}
use Rattle.btr_walk.specs.declared.found.Found.{Found}
use Rattle.btr_walk.specs.declared.found.Reach.{Reach}
use Rattle.btr_walk.specs.declared.place.RootPlace.{RootPlace}
use Rattle.btr_walk.proofs.Joined.{drawn, unread_on}
use Rattle.btr_volume.specs.Lookup.{Lookup}
use Rattle.btr_volume.specs.Looking.{Judges, Looks}
use Rattle.btr_volume.proofs.Looked.{JudgesFound}
use Rattle.btr_volume.specs.declared.root.TreeRoot.{TreeRoot}
use Rattle.btr_files.specs.declared.progress.Progress.{Progress}
use Rattle.btr_files.specs.declared.progress.Source.{Source}
use Rattle.btr_files.specs.declared.streaming.Shown.{Shown}
use Rattle.btr_files.specs.declared.sums_ahead.SumsAhead.{SumsAhead}
use Rattle.btr_files.specs.Aheads.{item_reached, kept_sum, sum_key, ComesOf, IsAheadIn, IsSummed}
use Rattle.btr_files.specs.Content.{sector_want, want_by}
use Rattle.btr_files.specs.Giving.{IsGiven}
use Rattle.btr_files.specs.Sums.{sum_at}
use Rattle.btr_files.proofs.AheadSums.{bind_ending}

-- ---- of one call

-- where the images are told, two facts about them give a third
both_told : {images : Type 0} (h : Option images) (P Q R : images → Type 0) → ((i : images) → P i → Q i → R i) → IfSome h P → IfSome h Q → IfSome h R
both_told None P Q R f p q = tt
both_told (Some i) P Q R f p q = f i p q

-- two facts that one call tells
pub paired : (layout : Layout) {a b : Seen} (P Q R : Map → Type 0) → ((B : Map) → P B → Q B → R B) → Tells layout a b P → Tells layout a b Q
    → Tells layout a b R
paired layout {a} P Q R f one two = record {
  calls = record {
    same = one.calls.same;
    later = one.calls.later;
    content = λ sure s. both_told a.held (λ images. P (fate images layout)) (λ images. Q (fate images layout)) (λ images. R (fate images layout))
        (λ images p q. f (fate images layout) p q) (one.calls.content sure s) (two.calls.content sure s);
  };
}

-- ---- the tree with a root

-- what is kept stays, whatever was told
pub stays : (layout : Layout) {a b : Seen} (P : Map → Type 0) (root : RootPlace) (ahead : SumsAhead) → Tells layout a b P
    → Tells layout a b (λ B. IsAheadIn B root ahead → IsAheadIn B root ahead)
stays layout P root ahead told = drawn layout P (λ B. IsAheadIn B root ahead → IsAheadIn B root ahead) (λ B p kept. kept) told

-- how a lookup ended that was answered so
pub reached_ending : (Is : UnreadBlock → Want → Type 0) (B : Map) (root : RootPlace) (key : Key) (reach : Reach) → ReachesItem Is B root key (Ok reach)
    → (exec {S = ⊥} B (le root key)).ending ≡ Ok (item_reached reach)
reached_ending Is B root key reach h = of reach.found h
  where
    of : (o : Option Found) → FindsItem Is B root key (Ok o) → (exec {S = ⊥} B (le root key)).ending ≡ Ok (option_map item_of o)
    of None f = f.1
    of (Some found) f = f.1

-- what is judged of what a lookup found, if it found something
pub judges_reached : {A : Type 0} (k : Option TreeItem → Lookup A) (answer judged : Result A TreeFault) (r : Result Reach TreeFault) (reach : Reach)
    → r ≡ Ok reach → Judges (k (item_reached reach)) judged → answer ≡ judged → JudgesFound k (items_of (found_of r)) answer
judges_reached k answer judged r reach is j e =
    subst (λ (x : Result Reach TreeFault). JudgesFound k (items_of (found_of x)) answer) (sym is)
    (subst (λ a. JudgesFound k (items_of (Ok reach.found)) a) (sym e) (of reach.found j))
  where
    of : (o : Option Found) → Judges (k (option_map item_of o)) judged → JudgesFound k (items_of (Ok o)) judged
    of None h = h
    of (Some found) h = h

-- what a law makes of a lookup that was answered so, and reaches so far
pub by_reach : (layout : Layout) {a b : Seen} (Is : UnreadBlock → Want → Type 0) (root : RootPlace) (addr : ℕ) (key : Key) (reach : Reach)
    (result : Result Reach TreeFault) (P : Map → Type 0) → key ≡ sum_key addr → result ≡ Ok reach
    → ((B : Map) → (exec B (le {S = ⊥} root (sum_key addr))).ending ≡ Ok (item_reached reach) → SameUpTo B root (sum_key addr) reach.until → P B)
    → Tells layout a b (λ B. ReachesItem Is B root key result) → Tells layout a b (λ B. Reaches B root key result) → Tells layout a b P
by_reach layout {a} {b} Is root addr key reach result P is came law found reaches =
    paired layout (λ B. ReachesItem Is B root (sum_key addr) (Ok reach)) (λ B. Reaches B root (sum_key addr) (Ok reach)) P
    (λ B f r. law B (reached_ending Is B root (sum_key addr) reach f) r)
    (subst (λ (r : Result Reach TreeFault). Tells layout a b (λ B. ReachesItem Is B root (sum_key addr) r)) came
    (subst (λ (k : Key). Tells layout a b (λ B. ReachesItem Is B root k result)) is found))
    (subst (λ (r : Result Reach TreeFault). Tells layout a b (λ B. Reaches B root (sum_key addr) r)) came
    (subst (λ (k : Key). Tells layout a b (λ B. Reaches B root k result)) is reaches))

-- ---- the want of a sector

-- a lookup has no steps
pub no_steps : (xs : List ⊥) → [] ≡ xs
no_steps [] = refl
no_steps (x ∷ xs) = absurd x

-- by a checksum that is kept
module _ (layout : Layout) (kind : SumKind) (sums : Option TreeRoot) (nosum : Bool) (addr : ℕ) (ahead : SumsAhead) (sum : Sum) (tested : nosum ≡ false)
    (same : ahead.kind ≡ kind) (kept : kept_sum ahead addr ≡ Some sum) where
  -- where the checksum of a sector is kept, the lookup of its want comes to a want with that checksum
  by_kept : (Is : UnreadBlock → Want → Type 0) (B : Map) → IsSummed B sums ahead → ComesOf Is B (sector_want kind sums nosum addr) (Ok (Sector addr sum))
  by_kept Is B summed =
      let looked : (exec B (sum_at kind sums addr)).ending ≡ Ok (Some sum) =
      subst (λ (k : SumKind). (exec B (sum_at k sums addr)).ending ≡ Ok (Some sum)) same (summed addr sum kept) in
      let p : Lookup Want = bind (sum_at kind sums addr) (λ s. Return (want_by addr s)) in
      subst (λ (b : Bool). ComesOf Is B (cond b (Return (Plain addr)) p) (Ok (Sector addr sum))) (sym tested)
      (no_steps (steps_of (exec B p).marks), bind_ending B (sum_at kind sums addr) (λ s. Return (want_by addr s)) (Some sum) (Ok (Sector addr sum)) looked refl)

  -- the want of a sector whose checksum is kept is told with no call
  pub want_kept : {a : Seen} (Is : UnreadBlock → Want → Type 0)
      → Tells layout a a (λ B. IsSummed B sums ahead → ComesOf Is B (sector_want kind sums nosum addr) (Ok (Sector addr sum)))
  want_kept Is = unread_on layout (λ B. IsSummed B sums ahead → ComesOf Is B (sector_want kind sums nosum addr) (Ok (Sector addr sum))) (by_kept Is)

-- a sector's want by a lookup of its checksum, whatever checksums are kept
pub want_looked : (layout : Layout) {a b : Seen} (program : Lookup Want) (result : Result Want TreeFault) (sums : Option TreeRoot) (ahead : SumsAhead)
    → Looks layout a b program result → Tells layout a b (λ B. IsSummed B sums ahead → ComesOf (unread_by layout a b) B program result)
want_looked layout {a} {b} program result sums ahead looks =
    drawn layout (λ B. ComesOf (unread_by layout a b) B program result) (λ B. IsSummed B sums ahead → ComesOf (unread_by layout a b) B program result)
    (λ B f summed. f) looks

-- ---- a sector

-- what a sector comes to where the checksums that are kept are those of the tree, and they are so behind it
abbrev pub GivenWithSums : SumKind → Source → (UnreadBlock → Want → Type 0) → (ℕ → Map) → Progress → Progress → Blocks → SumsAhead → SumsAhead
    → Result Shown TreeFault → Type 0
GivenWithSums kind source Is Bs p p' store ahead ahead' result = IsSummed (Bs 0) source.sums ahead → IsGiven kind source Is Bs p p' store result
    × IsSummed (Bs 0) source.sums ahead'

-- what holds where the checksums that are kept are those of the tree, and that those kept afterwards are so too
abbrev pub with_sums : (Map → Type 0) → Option TreeRoot → SumsAhead → SumsAhead → Map → Type 0
with_sums P sums ahead ahead' B = IsSummed B sums ahead → P B × IsSummed B sums ahead'

-- what calls tell where the kept checksums are right, and that they stay right, are told together
pub looked_with_sums : (layout : Layout) {a b : Seen} (P : Map → Type 0) (sums : Option TreeRoot) (ahead ahead' : SumsAhead)
    → Tells layout a b (λ B. IsSummed B sums ahead → P B) → Tells layout a b (λ B. IsSummed B sums ahead → IsSummed B sums ahead')
    → Tells layout a b (with_sums P sums ahead ahead')
looked_with_sums layout P sums ahead ahead' one two =
    paired layout (λ B. IsSummed B sums ahead → P B) (λ B. IsSummed B sums ahead → IsSummed B sums ahead') (with_sums P sums ahead ahead')
    (λ B p q summed. (p summed, q summed)) one two
