-- A scan whose leaf was given back, by where it goes on.
use Rattle.std.proofs.Common.{◌≡◌, ℕ, zero, suc, ◌-◌, ◌<◌, ◌≤◌, List, [], ◌∷◌, length, map, get_or, Option, Some, None, IfSome, IsSomeAnd, IsTrue, Ok}
use Rattle.std.proofs.Common.{Err, refl, sym, ap, ◌∙◌, subst, arith}
use Rattle.std.specs.Prelude.{slice_get}
use Rattle.btr_node.specs.Block.{Item, items, is_leaf}
use Rattle.btr_read.specs.Layout.{Layout}
use Rattle.btr_base.specs.declared.key.Key.{Key}
use Rattle.btr_rack.specs.Rack.{Seen}
use Rattle.btr_read.specs.Store.{Blocks, block_of}
use Rattle.btr_read.specs.declared.want.Want.{Want}
use Rattle.btr_walk.specs.declared.fault.TreeFault.{TreeFault}
use Rattle.btr_walk.specs.declared.frame.Frame.{Frame}
use Rattle.btr_walk.specs.declared.rest.Rest.{Rest}
use Rattle.btr_walk.specs.declared.block_pointer.BlockPointer.{BlockPointer}
use Rattle.btr_walk.specs.declared.scan.Scan.{Scan}
use Rattle.btr_walk.specs.Advancing.{leaf_prog}
use Rattle.btr_walk.specs.Finding.{LendsItemAt}
use Rattle.btr_walk.specs.Le.{TreeItem, tree_item, want_of}
use Rattle.btr_walk.specs.Going.{place_prog, IsOn}
use Rattle.btr_walk.specs.Range.{RangeProg}
use Rattle.btr_walk.specs.Ranks.{rank_on}
use Rattle.btr_walk.specs.Reading.{Map, UnreadBlock, Tells, unread_by}
use Rattle.btr_walk.specs.Rests.{kept_prog, Rests, items_of_leaf, item_before, IsMetAgain}
use Rattle.btr_walk.specs.ScanEnds.{WasMet, IsScanReady, Paused}
use Rattle.btr_walk.proofs.Joined.{block_is, drawn}
use Rattle.btr_walk.specs.declared.leaf_at.LeafAt.{LeafAt}
use Rattle.btr_walk.specs.Hand.{IsLeafOf, IsLeafAgain, frame_of, IsHeld, IsGivenBack, LendsHand}

-- without a leaf in hand, a scan has still to give the leaf that was given back, and then the rest
pub kept_none : (B : Map) (store : Blocks) (kept : Option Frame) (p : RangeProg) → kept_prog B kept p ≡ leaf_prog B store None kept p
kept_none B store None p = refl
kept_none B store (Some frame) p = refl

-- where the leaf in hand is none, a scan has still to give the leaf that was given back, and then the rest
kept_is : (B : Map) (store : Blocks) (leaf : Option LeafAt) (kept : Option Frame) (p : RangeProg) → leaf ≡ None → kept_prog B kept p
    ≡ leaf_prog B store leaf kept p
kept_is B store leaf kept p e = kept_none B store kept p ∙ ap (λ (l : Option LeafAt). leaf_prog B store l kept p) (sym e)

-- the place of a scan and its keys, without a loan
abbrev rest_of : Scan → Rest
rest_of scan = record { lo = scan.lo; hi = scan.hi; place = scan.place }

-- a leaf that was given back behind an item stands behind that item
some_kept : (leaf : Option LeafAt) (kept : Option Frame) → IfSome leaf (λ l. kept ≡ Some (frame_of l))
    → IsSomeAnd leaf (λ l. (0 < l.next) × (l.next ≤ l.end)) → IsSomeAnd kept (λ f. (0 < f.next) × (f.next ≤ f.end))
some_kept None kept h i = absurd i
some_kept (Some l) kept h i = subst (λ k. IsSomeAnd k (λ f. (0 < f.next) × (f.next ≤ f.end))) (sym h) i

-- the item of a leaf at a place
item_at : (addr : ℕ) (xs : List Item) (k : ℕ) (item : TreeItem) (d : Item) → k < length xs → tree_item addr (get_or xs k d) ≡ item
    → slice_get (map (tree_item addr) xs) k ≡ Some item
item_at addr [] k item d lt e = absurd (omega (arith, lt))
item_at addr (x ∷ xs) zero item d lt e = ap Some e
item_at addr (x ∷ xs) (suc k) item d lt e = item_at addr xs k item d (omega (arith, lt)) e

-- an item of a tree at a place is that of the leaf's item there
pub item_is : (addr : ℕ) (xs : List Item) (k : ℕ) (item : TreeItem) (d : Item) → slice_get (map (tree_item addr) xs) k ≡ Some item
    → tree_item addr (get_or xs k d) ≡ item
item_is addr [] k item d e = cc
item_is addr (x ∷ xs) zero item d e = cc
item_is addr (x ∷ xs) (suc k) item d e = item_is addr xs k item d e

-- the item that was met last stands before the next one of the leaf that was given back
met_kept : (B : Map) (seen : List Want) (store : Blocks) (item : TreeItem) (leaf : Option LeafAt) (kept : Option Frame)
    → IfSome leaf (λ l. kept ≡ Some (frame_of l)) → IfSome leaf (IsHeld B seen store) → IsSomeAnd leaf (λ l. (0 < l.next) × (l.next ≤ l.end))
    → IfSome leaf (WasMet store item) → item_before B kept ≡ Some item
met_kept B seen store item None kept h held i m = absurd i
met_kept B seen store item (Some l) kept h held i m =
    let d : Item = record { key = item.key; offset = 0; size = 0; body = [] } in
    let here = block_is store l.loan held.block (λ block. (l.next ≤ length (items block))
    × ((e : Item) → tree_item l.pointer.addr (get_or (items block) (l.next - 1) e) ≡ item)) held.lent m in
    ap (item_before B) h
    ∙ ap (λ x. slice_get (items_of_leaf x l.pointer.addr) (l.next - 1)) held.came
    ∙ item_at l.pointer.addr (items held.block) (l.next - 1) item d (omega (arith, here.0, i.0)) (here.1 d)

-- where a scan gave its leaf back, it goes on from a place without a loan, and what is still to come is the same
pub rests_is : (old new : Blocks) (scan paused : Scan) → Paused old new scan paused
    → ((rack : Seen) → IsScanReady rack old scan → IsScanReady rack new paused) → Rests old scan (rest_of paused)
rests_is old new scan paused p ready = record {
  lo = p.lo;
  hi = p.hi;
  path = p.rest;
  rank = ap (rank_on paused.place) (sym p.leaf) ∙ p.rank;
  shaped = λ rack h. (ready rack h).shaped;
  some = some_kept scan.leaf paused.place.leaf p.kept;
  met = λ B seen item held i m. met_kept B seen old item scan.leaf paused.place.leaf p.kept held i m;
  program = λ B seen held. kept_is B new paused.leaf paused.place.leaf (place_prog paused.lo paused.hi B paused.place.rest) p.leaf ∙ p.program B seen held;
  on = λ B seen held h. subst (λ (k : Key). IsOn k paused.hi B seen paused.place) (sym p.lo)
      (subst (λ (k : Key). IsOn scan.lo k B seen paused.place) (sym p.hi) (p.on B seen held h));
}

-- the leaf of the item that was met last is lent again
pub again_lent : (old new : Blocks) (frame : Frame) (l : LeafAt) → (0 < frame.next) × (frame.next ≤ frame.end) → IsLeafOf frame l → LendsHand old new l
    → LendsItemAt old new l.loan (l.next - 1)
again_lent old new frame l some same t = record {
  others = t.others;
  live = t.hand.live;
  large = t.hand.large;
  good = good (block_of new l.loan) t.hand.good;
}
  where
    within : (n : ℕ) → l.end ≤ n → l.next - 1 < n
    within n h = omega (arith, h, same.1, same.2, some.0, some.1)

    -- a good leaf has the item before its next one
    good : (b : Option (List ℕ)) → IsSomeAnd b (λ block. IsTrue (is_leaf block) × (l.end ≤ length (items block)))
        → IsSomeAnd b (λ block. IsTrue (is_leaf block) × (l.next - 1 < length (items block)))
    good None h = absurd h
    good (Some block) h = (h.0, within (length (items block)) h.1)

module _ (B : Map) (rest : Rest) (frame : Frame) (is : rest.place.leaf ≡ Some frame) where
  -- the leaf of the item that was met last, lent again, is the one that was read before
  pub again_met : (Is : UnreadBlock → Want → Type 0) (store : Blocks) (l : LeafAt) → IsLeafOf frame l → IsLeafAgain Is B frame store (Ok l)
      → IsMetAgain Is B rest store (Ok (record { loan = l.loan; at = l.next - 1 }))
  again_met Is store l same again seen on =
      let held = again seen (subst (λ k. IfSome k (IsGivenBack B seen)) is on.kept) in
      subst (λ b. IsSomeAnd b (λ block. (item : TreeItem) → item_before B rest.place.leaf ≡ Some item → (d : Item)
      → (get_or (items block) (l.next - 1) d).body ≡ item.body)) (sym held.lent)
      (λ item e d.
      let f : slice_get (map (tree_item frame.pointer.addr) (items held.block)) (frame.next - 1) ≡ Some item =
      sym (ap (λ x. slice_get (items_of_leaf x frame.pointer.addr) (frame.next - 1)) (sym (ap (λ (s : BlockPointer). B (want_of 0 s)) same.0) ∙ held.came))
      ∙ (sym (ap (item_before B) is) ∙ e) in
      let g = item_is frame.pointer.addr (items held.block) (frame.next - 1) item d f in
      ap (λ k. (get_or (items held.block) (k - 1) d).body) same.1 ∙ ap (λ (i : TreeItem). i.body) g)

  -- where the leaf of the item that was met last can't be had again, it could not be read
  pub again_unread : (Is : UnreadBlock → Want → Type 0) (store : Blocks) (f : TreeFault) → IsLeafAgain Is B frame store (Err f)
      → IsMetAgain Is B rest store (Err f)
  again_unread Is store f again seen on = again seen (subst (λ k. IfSome k (IsGivenBack B seen)) is on.kept)

module _ (layout : Layout) (before now : Seen) (store : Blocks) (rest : Rest) (frame : Frame) (is : rest.place.leaf ≡ Some frame) where
  -- so far as the calls were steady, the leaf that was lent again has the item that was met last
  pub tells_met : (l : LeafAt) → IsLeafOf frame l → Tells layout before now (λ B. IsLeafAgain (unread_by layout before now) B frame store (Ok l))
      → Tells layout before now (λ B. IsMetAgain (unread_by layout before now) B rest store (Ok (record { loan = l.loan; at = l.next - 1 })))
  tells_met l same t = drawn layout (λ B. IsLeafAgain (unread_by layout before now) B frame store (Ok l))
      (λ B. IsMetAgain (unread_by layout before now) B rest store (Ok (record { loan = l.loan; at = l.next - 1 })))
      (λ B h. again_met B rest frame is (unread_by layout before now) store l same h) t

  -- so far as the calls were steady, a leaf that can't be had again could not be read
  pub tells_unread : (f : TreeFault) → Tells layout before now (λ B. IsLeafAgain (unread_by layout before now) B frame store (Err f))
      → Tells layout before now (λ B. IsMetAgain (unread_by layout before now) B rest store (Err f))
  tells_unread f t = drawn layout (λ B. IsLeafAgain (unread_by layout before now) B frame store (Err f))
      (λ B. IsMetAgain (unread_by layout before now) B rest store (Err f)) (λ B h. again_unread B rest frame is (unread_by layout before now) store f h) t

-- where a leaf was given back behind an item, its frame says so
pub some_in : (kept : Option Frame) (frame : Frame) → kept ≡ Some frame → IsSomeAnd kept (λ f. (0 < f.next) × (f.next ≤ f.end)) → (0 < frame.next)
    × (frame.next ≤ frame.end)
some_in kept frame is h = subst (λ k. IsSomeAnd k (λ f. (0 < f.next) × (f.next ≤ f.end))) is h
