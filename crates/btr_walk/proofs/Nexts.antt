-- A step of a scan.
use Rattle.std.proofs.Common.{◌≡◌, ℕ, ◌+◌, ◌-◌, ◌*◌, ◌^◌, ◌<◌, ◌≤◌, true, false, List, [], ◌++◌, length, get_or, Option, Some, None, IfSome, IsSomeAnd, IsTrue}
use Rattle.std.proofs.Common.{Bool, Result, Ok, Err, OnErr, refl, sym, ap, ◌∙◌, subst, arith}
use Rattle.std.specs.Option.{option_map}
use Rattle.btr_node.specs.Block.{Item, items, is_leaf}
use Rattle.btr_prog.specs.Prog.{Does, first, prepend, exec}
use Rattle.btr_prog.specs.Answers.{Follows, no_part}
use Rattle.btr_rack.specs.Rack.{Seen}
use Rattle.btr_read.specs.Serves.{Serves}
use Rattle.btr_read.specs.Layout.{Layout}
use Rattle.btr_read.specs.Store.{Blocks, SameLoans, block_of}
use Rattle.btr_read.specs.declared.want.Want.{Want}
use Rattle.btr_walk.specs.declared.advancing.Advanced.{Advanced}
use Rattle.btr_walk.specs.declared.fault.TreeFault.{TreeFault}
use Rattle.btr_walk.specs.declared.found.Found.{Found}
use Rattle.btr_walk.specs.declared.frame.Frame.{Frame}
use Rattle.btr_walk.specs.declared.going.Where.{Where}
use Rattle.btr_walk.specs.declared.scan.Scan.{Scan}
use Rattle.btr_walk.specs.declared.scan_place.ScanPlace.{ScanPlace}
use Rattle.btr_walk.specs.Le.{TreeItem, tree_item}
use Rattle.btr_walk.specs.Range.{RangeProg, emit_all}
use Rattle.btr_walk.specs.Reading.{UnreadBlock, Tells, unread_by, FaultCause, HasCause, halt_of, Map}
use Rattle.btr_walk.specs.Scans.{wants, items_in, kept_items}
use Rattle.btr_walk.specs.Showing.{item_of}
use Rattle.btr_walk.specs.Lending.{base}
use Rattle.btr_walk.specs.Advancing.{hand_items, hand_prog, leaf_prog, left, HasItem, Meets, AdvancesBy, IsAdvanced}
use Rattle.btr_walk.specs.Ranks.{IsShaped, rank, rank_leaf, rank_on, StepRankFalls}
use Rattle.btr_walk.specs.Going.{place_prog}
use Rattle.btr_walk.specs.ScanEnds.{left_of, HoldsLeaf, WasMet, Gives, IsNextOn, IsScanReady, Scanned, Paused, rank_of}
use Rattle.btr_walk.proofs.Joined.{drawn, block_is}
use Rattle.btr_walk.specs.declared.leaf_at.LeafAt.{LeafAt}
use Rattle.btr_walk.specs.Hand.{frame_of, IsHeld, IsGivenBack, IsInHand, loan_of}

-- a scan at another place, with this leaf in hand
abbrev pub scan_at : Scan → ScanPlace → Option LeafAt → Scan
scan_at scan place leaf = record { lo = scan.lo; hi = scan.hi; place = place; leaf = leaf }

-- the place behind the leaf in hand
abbrev pub in_hand : Where → ScanPlace
in_hand place = record { leaf = None; rest = place }

-- the place of a scan whose rest is elsewhere
abbrev pub moved : Scan → Where → ScanPlace
moved scan after = record { leaf = scan.place.leaf; rest = after }

-- where a step ended in a fault that has its cause, this fault has it
pub cause_as : {A : Type 0} (layout : Layout) (old new : Seen) (met : Result A TreeFault) (f : TreeFault) → met ≡ Err f → HasCause layout old new met
    → FaultCause layout old new f
cause_as layout old new met f e h = subst (HasCause layout old new) e h

-- where no leaf is in hand, one may have been given back
no_leaf : (scan : Scan) (leaf : Option LeafAt) → leaf ≡ None → IfSome leaf (λ l. scan.place.leaf ≡ None)
no_leaf scan leaf e = subst (λ x. IfSome x (λ l. scan.place.leaf ≡ None)) (sym e) tt

-- behind a leaf in hand there is no leaf that was given back
free_leaf : (place : Where) (leaf : Option LeafAt) → IfSome leaf (λ l. (in_hand place).leaf ≡ None)
free_leaf place None = tt
free_leaf place (Some l) = refl

module _ (store new : Blocks) (scan : Scan) (taken : Option LeafAt) (is_taken : taken ≡ scan.leaf) (after : Where) (a : Advanced) (leaf : Option LeafAt)
    (is_leaf : leaf ≡ a.leaf) (before now : Seen) (serves : Serves now new) where
  -- which want it is that could not be read in this step
  abbrev Is : UnreadBlock → Want → Type 0
  Is = unread_by store.layout before now

  -- what a step made of a scan is ready to go on, where its leaf is in hand and its place well formed, and no other loan changed
  scanned : (place : ScanPlace) (result : Result (Option Found) TreeFault) → IsShaped place.rest → IfSome leaf (λ l. place.leaf ≡ None)
      → SameLoans (base store (loan_of taken)) (base new (loan_of a.leaf)) → IfSome a.leaf (IsInHand new)
      → ((B : Map) → IsAdvanced scan.lo scan.hi Is B scan.place after scan.leaf store new a
      → IsNextOn Is B store new scan (scan_at scan place leaf) result)
      → Tells store.layout before now (λ B. IsAdvanced scan.lo scan.hi Is B scan.place after taken store new a)
      → Scanned store new scan (scan_at scan place leaf) before now result
  scanned place result shaped alone others hand f c = record {
    others = subst (λ l. SameLoans (base store (loan_of scan.leaf)) (base new (loan_of l))) (sym is_leaf)
        (subst (λ l. SameLoans (base store (loan_of l)) (base new (loan_of a.leaf))) is_taken others);
    ready = record { serves = serves; hand = subst (λ l. IfSome l (IsInHand new)) (sym is_leaf) hand; shaped = shaped; alone = alone };
    content = drawn store.layout (λ B. IsAdvanced scan.lo scan.hi Is B scan.place after taken store new a)
        (λ B. IsNextOn Is B store new scan (scan_at scan place leaf) result)
        (λ B h. f B (subst (λ l. IsAdvanced scan.lo scan.hi Is B scan.place after l store new a) is_taken h)) c;
  }

  -- where a step ended in a fault, what was still to come ends with it
  of_err : (B : Map) (was : Type 0) (seen : List Want) (p : RangeProg) (f : TreeFault) (l : Option LeafAt)
      → AdvancesBy scan.lo scan.hi was Is B seen p new after l (Err f) → Follows Is no_part seen (exec B p) [] (Err (halt_of f))
  of_err B was seen p f None h = h
  of_err B was seen p f (Some x) h = h

  -- where a step met no item, what was still to come is at its end
  of_end : (B : Map) (was : Type 0) (seen : List Want) (p : RangeProg) (l : Option LeafAt)
      → AdvancesBy scan.lo scan.hi was Is B seen p new after l (Ok false) → Follows Is no_part seen (exec B p) [] (Ok tt)
  of_end B was seen p None h = h
  of_end B was seen p (Some x) h = h

  -- a step that ended in a fault is a call of the scan that answers this fault
  pub next_err : (f : TreeFault) → a.met ≡ Err f → leaf ≡ None → IsShaped after → SameLoans (base store (loan_of taken)) (base new (loan_of a.leaf))
      → IfSome a.leaf (IsInHand new) → Tells store.layout before now (λ B. IsAdvanced scan.lo scan.hi Is B scan.place after taken store new a)
      → Scanned store new scan (scan_at scan (moved scan after) leaf) before now (Err f)
  next_err f e free shaped others hand c = scanned (moved scan after) (Err f) shaped (no_leaf scan leaf free) others hand
      (λ B h seen on. of_err B (HoldsLeaf B seen store scan) seen (left_of B store scan) f a.leaf
      (subst (λ m. AdvancesBy scan.lo scan.hi (HoldsLeaf B seen store scan) Is B seen (left_of B store scan) new after a.leaf m) e (h seen on))) c

  -- a step that met no item is a call of the scan that answers its end
  pub next_end : a.met ≡ Ok false → leaf ≡ None → IsShaped after → SameLoans (base store (loan_of taken)) (base new (loan_of a.leaf))
      → IfSome a.leaf (IsInHand new) → Tells store.layout before now (λ B. IsAdvanced scan.lo scan.hi Is B scan.place after taken store new a)
      → Scanned store new scan (scan_at scan (moved scan after) leaf) before now (Ok None)
  next_end e free shaped others hand c = scanned (moved scan after) (Ok None) shaped (no_leaf scan leaf free) others hand
      (λ B h seen on. of_end B (HoldsLeaf B seen store scan) seen (left_of B store scan) a.leaf
      (subst (λ m. AdvancesBy scan.lo scan.hi (HoldsLeaf B seen store scan) Is B seen (left_of B store scan) new after a.leaf m) e (h seen on))) c

  module _ (l : LeafAt) (there : leaf ≡ Some l) (found : Found) (block : List ℕ) (is : block_of new l.loan ≡ Some block)
      (at : (d : Item) → tree_item l.pointer.addr (get_or (items block) (l.next - 1) d) ≡ item_of found) where
    -- the item that a step met is the one that the scan gives, behind some wants
    gives : (B : Map) (seen : List Want) → Meets scan.lo scan.hi (HoldsLeaf B seen store scan) B seen (left_of B store scan) new l after
        → Gives B seen store new scan (scan_at scan (in_hand after) leaf) found
    gives B seen m =
        let d : Item = record { key = scan.lo; offset = 0; size = 0; body = [] } in
        let here = block_is new l.loan block (λ b. (l.next ≤ length (items b)) × ((e : Item) → tree_item l.pointer.addr
        (get_or (items b) (l.next - 1) e) ≡ m.item)) is m.at in
        let same : m.item ≡ item_of found = sym (here.1 d) ∙ at d in
        record {
          past = m.past;
          is = m.is
              ∙ ap (λ (i : TreeItem). prepend (wants m.past) (first (Does i) (exec B (left scan.lo scan.hi B new (Some l) (in_hand after))))) same
              ∙ ap (λ x. prepend (wants m.past) (first (Does (item_of found)) (exec B (left scan.lo scan.hi B new x (in_hand after))))) (sym there);
          on = record { rest = m.on; kept = tt };
          held = λ w. subst (λ x. IfSome x (IsHeld B (seen ++ m.past) new)) (sym there) (m.held w);
          met = subst (λ x. IfSome x (WasMet new (item_of found))) (sym there) (subst (λ (i : TreeItem). WasMet new i l) same m.at);
        }

    -- a step that met an item is a call of the scan that gives it
    pub next_item : a.met ≡ Ok true → IsShaped after → SameLoans (base store (loan_of taken)) (base new (loan_of a.leaf))
        → IfSome a.leaf (IsInHand new) → Tells store.layout before now (λ B. IsAdvanced scan.lo scan.hi Is B scan.place after taken store new a)
        → Scanned store new scan (scan_at scan (in_hand after) leaf) before now (Ok (Some found))
    next_item e shaped others hand c =
        scanned (in_hand after) (Ok (Some found)) shaped (free_leaf after leaf) others hand
        (λ B h seen on. gives B seen (subst (λ x. AdvancesBy scan.lo scan.hi (HoldsLeaf B seen store scan) Is B seen (left_of B store scan) new after
        x (Ok true)) (sym is_leaf ∙ there) (subst (λ m. AdvancesBy scan.lo scan.hi (HoldsLeaf B seen store scan) Is B seen (left_of B store scan)
        new after a.leaf m) e (h seen on)))) c

-- what is kept after a step
pub keeps_end : (leaf leaf' : Option LeafAt) (met : Result Bool TreeFault) → leaf' ≡ leaf → met ≡ Ok false → HasItem leaf met → leaf' ≡ None
keeps_end leaf leaf' met is e h = is ∙ ends leaf (subst (HasItem leaf) e h)
  where
    ends : (l : Option LeafAt) → HasItem l (Ok false) → l ≡ None
    ends None h = h
    ends (Some x) h = h

-- after a fault no leaf is kept
pub keeps_err : (leaf leaf' : Option LeafAt) (met : Result Bool TreeFault) (f : TreeFault) → leaf' ≡ leaf → met ≡ Err f → HasItem leaf met → leaf' ≡ None
keeps_err leaf leaf' met f is e h = is ∙ ends leaf (subst (HasItem leaf) e h)
  where
    ends : (l : Option LeafAt) → HasItem l (Err f) → l ≡ None
    ends None h = h
    ends (Some x) h = h

-- where an item was met, its leaf is kept, and it stands before the next one
pub keeps_item : (leaf leaf' : Option LeafAt) (l : LeafAt) (met : Result Bool TreeFault) → leaf' ≡ leaf → leaf' ≡ Some l → met ≡ Ok true
    → HasItem leaf met → IsSomeAnd leaf' (λ x. (0 < x.next) × (x.next ≤ x.end))
keeps_item leaf leaf' l met same is e h =
    let i : HasItem (Some l) (Ok true) = subst (λ x. HasItem x (Ok true)) (sym same ∙ is) (subst (HasItem leaf) e h) in
    subst (λ x. IsSomeAnd x (λ y. (0 < y.next) × (y.next ≤ y.end))) (sym is) i

-- the scan came nearer to its end
pub near_some : (scan : Scan) (taken leaf' : Option LeafAt) (after : Where) (a : Advanced) → taken ≡ scan.leaf → leaf' ≡ a.leaf
    → StepRankFalls (rank_on scan.place taken) after a.leaf a.met → a.met ≡ Ok true → rank_of (scan_at scan (in_hand after) leaf') < rank_of scan
near_some scan taken leaf' after a is_taken is_leaf h e =
    let g : 2 ^ 64 * rank after + rank_leaf a.leaf None < rank_on scan.place taken = subst (λ m. StepRankFalls (rank_on scan.place taken) after a.leaf m) e h in
    let x : rank_leaf taken scan.place.leaf ≡ rank_leaf scan.leaf scan.place.leaf = ap (λ l. rank_leaf l scan.place.leaf) is_taken in
    let y : rank_leaf leaf' None ≡ rank_leaf a.leaf None = ap (λ l. rank_leaf l None) is_leaf in
    omega (arith, g, x, y)

-- where a leaf is gone, the scan is no farther from its end
leaf_gone : (place : ScanPlace) (leaf : Option LeafAt) → IfSome leaf (λ l. place.leaf ≡ None) → rank_leaf None place.leaf ≤ rank_leaf leaf place.leaf
leaf_gone place None h = omega arith
leaf_gone place (Some l) h = let e : rank_leaf None place.leaf ≡ 0 = ap (rank_leaf None) h in omega (arith, e)

-- after a fault the place is the same
pub stays_put : (place after : Where) (met : Result Bool TreeFault) (f : TreeFault) → met ≡ Err f → OnErr met (after ≡ place) → after ≡ place
stays_put place after met f e h = subst (λ m. OnErr m (after ≡ place)) e h

-- where the rest of a scan's place is as before, the place is
pub moved_none : (scan : Scan) (after : Where) → after ≡ scan.place.rest → moved scan after ≡ scan.place
moved_none scan after e = ap (moved scan) e

-- where no leaf is in hand any more, and the rest is no farther from its end, the scan isn't either
pub near_none : (scan : Scan) (leaf' : Option LeafAt) (after : Where) → leaf' ≡ None → rank after ≤ rank scan.place.rest
    → IfSome scan.leaf (λ l. scan.place.leaf ≡ None) → rank_of (scan_at scan (moved scan after) leaf') ≤ rank_of scan
near_none scan leaf' after e on h =
    let x : rank_leaf leaf' scan.place.leaf ≡ rank_leaf None scan.place.leaf = ap (λ l. rank_leaf l scan.place.leaf) e in
    omega (arith, x, on, leaf_gone scan.place scan.leaf h)

-- a scan gives its leaf back
module _ (store after : Blocks) (scan : Scan) (leaf' : Option LeafAt) (l : LeafAt) (is : scan.leaf ≡ Some l) (hand : IfSome scan.leaf (IsInHand store))
    (none : leaf' ≡ None) where
  -- the leaf in hand as it is given back, without its loan
  abbrev kept : Frame
  kept = record { pointer = l.pointer; next = l.next; end = l.end }

  -- the leaf in hand is the block that its want came to
  held_is : (B : Map) (seen : List Want) → HoldsLeaf B seen store scan → IsHeld B seen store l
  held_is B seen h = subst (λ x. IfSome x (IsHeld B seen store)) is h

  -- the leaf that the scan has is in hand
  hand_is : IsInHand store l
  hand_is = subst (λ x. IfSome x (IsInHand store)) is hand

  -- the leaf that is given back was read, and is good at its pointer
  kept_as : (B : Map) (seen : List Want) → HoldsLeaf B seen store scan → IsGivenBack B seen kept
  kept_as B seen h =
      let x = held_is B seen h in
      record {
        block = x.block;
        came = x.came;
        is = x.is;
        read = x.read;
        within =
            (block_is store l.loan x.block (λ b. IsTrue (is_leaf b) × (l.end ≤ length (items b))) x.lent hand_is.good).1;
      }

  -- the leaf that is given back has the same items still to come
  kept_same : (B : Map) (seen : List Want) (rest : RangeProg) → IsHeld B seen store l → emit_all (kept_items B kept) rest ≡ hand_prog store l rest
  kept_same B seen rest h = ap (λ x. emit_all (items_in x l.pointer.addr l.next l.end) rest) h.came ∙ ap (λ x. emit_all (hand_items x l) rest) (sym h.lent)

  -- a scan that gave back this leaf has still to give the same
  paused_leaf : Paused store after scan (scan_at scan (record { leaf = Some kept; rest = scan.place.rest }) leaf')
  paused_leaf = record {
    lo = refl;
    hi = refl;
    leaf = none;
    kept = subst (λ x. IfSome x (λ y. Some kept ≡ Some (frame_of y))) (sym is) refl;
    rest = refl;
    rank = ap (λ x. 2 ^ 64 * rank scan.place.rest + rank_leaf x (Some kept)) none
        ∙ ap (λ x. 2 ^ 64 * rank scan.place.rest + rank_leaf x scan.place.leaf) (sym is);
    program = λ B seen h.
        let rest = place_prog scan.lo scan.hi B scan.place.rest in
        ap (λ x. leaf_prog B after x (Some kept) rest) none ∙ kept_same B seen rest (held_is B seen h)
        ∙ ap (λ x. leaf_prog B store x scan.place.leaf rest) (sym is);
    on = λ B seen h on. record { rest = on.rest; kept = kept_as B seen h };
  }

-- the leaf that a frame is left of
pub leaf_was : (leaf : Option LeafAt) (frame : Frame) → option_map frame_of leaf ≡ Some frame → (l : LeafAt) × (leaf ≡ Some l) × (frame_of l ≡ frame)
leaf_was None frame e = cc
leaf_was (Some l) frame e = (l, refl, cc)

-- where no frame is left of a leaf, there was no leaf
pub none_was : (leaf : Option LeafAt) → option_map frame_of leaf ≡ None → leaf ≡ None
none_was None e = refl
none_was (Some l) e = cc

module _ (store after : Blocks) (scan : Scan) (leaf' : Option LeafAt) (none : leaf' ≡ None) where
  -- a scan that had a leaf, which is given back, has still to give the same
  pub paused_some : (frame : Frame) → option_map frame_of scan.leaf ≡ Some frame → IfSome scan.leaf (IsInHand store) → Paused store after scan
      (scan_at scan (record { leaf = Some frame; rest = scan.place.rest }) leaf')
  paused_some frame e hand =
      let w = leaf_was scan.leaf frame e in
      subst (λ (f : Frame). Paused store after scan (scan_at scan (record { leaf = Some f; rest = scan.place.rest }) leaf')) w.2
      (paused_leaf store after scan leaf' w.0 w.1 hand none)

  -- a scan that had no leaf in hand has still to give the same
  pub paused_none : option_map frame_of scan.leaf ≡ None → Paused store after scan (scan_at scan scan.place leaf')
  paused_none e =
      let free = none_was scan.leaf e in
      let same : leaf' ≡ scan.leaf = none ∙ sym free in
      record {
        lo = refl;
        hi = refl;
        leaf = none;
        kept = subst (λ x. IfSome x (λ y. scan.place.leaf ≡ Some (frame_of y))) (sym free) tt;
        rest = refl;
        rank = ap (rank_on scan.place) same;
        program = λ B seen h. left_free B scan.place.leaf (place_prog scan.lo scan.hi B scan.place.rest) free;
        on = λ B seen h on. on;
      }
    where
      -- where no leaf is in hand, what is still to come hangs on no loan
      left_free : (B : Map) (kept : Option Frame) (rest : RangeProg) → scan.leaf ≡ None
          → leaf_prog B after leaf' kept rest ≡ leaf_prog B store scan.leaf kept rest
      left_free B None rest free = ap (λ x. leaf_prog B after x None rest) none ∙ ap (λ x. leaf_prog B store x None rest) (sym free)
      left_free B (Some f) rest free = ap (λ x. leaf_prog B after x (Some f) rest) none ∙ ap (λ x. leaf_prog B store x (Some f) rest) (sym free)

-- what a rack and a store need to go on with a scan that is paused
pub ready_paused : (now : Seen) (store after : Blocks) (scan : Scan) (leaf' : Option LeafAt) (place : ScanPlace) → leaf' ≡ None → place.rest
    ≡ scan.place.rest → (Serves now store → Serves now after) → IsScanReady now store scan → IsScanReady now after (scan_at scan place leaf')
ready_paused now store after scan leaf' place none same serves r = record {
  serves = serves r.serves;
  hand = subst (λ l. IfSome l (IsInHand after)) (sym none) tt;
  shaped = subst IsShaped (sym same) r.shaped;
  alone = subst (λ l. IfSome l (λ x. place.leaf ≡ None)) (sym none) tt;
}
