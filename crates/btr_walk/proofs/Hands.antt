-- A leaf in hand, and one item further.
use Rattle.std.proofs.Common.{◌≡◌, ℕ, ◌+◌, ◌-◌, ◌*◌, ◌^◌, ◌<◌, ◌≤◌, Bool, true, false, List, [], ◌++◌, length, get_or, Option, Some, None, IfSome, IsSomeAnd}
use Rattle.std.proofs.Common.{IsTrue, Result, Ok, Err, OnErr, refl, sym, ap, ◌∙◌, subst, append-nil, arith}
use Rattle.std.proofs.lemmas.List.{get_or_default}
use Rattle.btr_base.specs.declared.key.Key.{Key}
use Rattle.btr_node.specs.Block.{Item, items, is_leaf}
use Rattle.btr_prog.specs.Prog.{Does, first, prepend, exec}
use Rattle.btr_prog.specs.Answers.{Follows, no_part}
use Rattle.btr_rack.specs.Rack.{Seen}
use Rattle.btr_read.specs.Layout.{Layout}
use Rattle.btr_read.specs.Store.{Blocks, Lent, block_of}
use Rattle.btr_read.specs.declared.want.Want.{Want}
use Rattle.btr_walk.specs.declared.advancing.Advanced.{Advanced}
use Rattle.btr_walk.specs.declared.fault.TreeFault.{TreeFault}
use Rattle.btr_walk.specs.declared.fault.TreeFault.TheVariants as tree
use Rattle.btr_walk.specs.declared.frame.Frame.{Frame}
use Rattle.btr_walk.specs.declared.scan_place.ScanPlace.{ScanPlace}
use Rattle.btr_walk.specs.declared.block_pointer.BlockPointer.{BlockPointer}
use Rattle.btr_node.specs.declared.node.Node.TheVariants.{Leaf}
use Rattle.btr_walk.specs.declared.going.Where.{Where}
use Rattle.btr_walk.specs.Le.{tree_item, want_of}
use Rattle.btr_walk.specs.Range.{RangeProg, emit_all}
use Rattle.btr_walk.specs.Reading.{Map, UnreadBlock, Tells, unread_by, Reads, HasCause, halt_of}
use Rattle.btr_walk.specs.Scans.{wants, part_items, items_in, kept_items}
use Rattle.btr_walk.specs.Going.{place_prog, IsAlong, GoesOnHolding, IsOn}
use Rattle.btr_walk.specs.Leaving.{IsReached, LendsReached, RankFallsReached}
use Rattle.btr_walk.specs.Ranks.{IsShaped, rank, StepRankFalls}
use Rattle.btr_walk.specs.Advancing.{arrived, HasItem, Lends, hand_items, hand_prog, leaf_prog, left, Meets, AdvancesBy, FromPlace, FromHand, IsAdvanced}
use Rattle.btr_prog.proofs.Follow.{follows_as}
use Rattle.btr_walk.proofs.Halting.{read_still, same_block, unread_halts}
use Rattle.btr_walk.proofs.Items.{leaf_next, leaf_none}
use Rattle.btr_walk.specs.declared.leaf_at.LeafAt.{LeafAt}
use Rattle.btr_walk.specs.Hand.{IsHeld, IsGivenBack, behind_next, IsInHand, IsLeafOf, IsLeafAgain}

-- a leaf in hand stays in hand one item further
pub hand_step : (store : Blocks) (l : LeafAt) → IsInHand store l → IsInHand store (behind_next l)
hand_step store l h = record { live = h.live; large = h.large; small = h.small; good = h.good }

-- a leaf in hand is the block that its want came to one item further too
held_step : (B : Map) (seen : List Want) (store : Blocks) (l : LeafAt) → IsHeld B seen store l → IsHeld B seen store (behind_next l)
held_step B seen store l h = record { block = h.block; lent = h.lent; came = h.came; is = h.is; read = h.read }

module _ (lo hi : Key) (B : Map) where
  -- with a leaf in hand that has more items, behind some wants the next of them is met
  meets_in : (was : Type 0) (seen past : List Want) (before : RangeProg) (store : Blocks) (l : LeafAt) (place : Where) (o : Option (List ℕ))
      → block_of store l.loan ≡ o → exec B before ≡ prepend (wants past) (exec B (hand_prog store l (place_prog lo hi B place)))
      → IsAlong lo hi B (seen ++ past) place → IsSomeAnd o (λ block. IsTrue (is_leaf block) × (l.end ≤ length (items block))) → l.next < l.end
      → (was → IsHeld B (seen ++ past) store l) → Meets lo hi was B seen before store (behind_next l) place
  meets_in was seen past before store l place None is e on good lt held = absurd good
  meets_in was seen past before store l place (Some block) is e on good lt held =
      let d : Item = record { key = lo; offset = 0; size = 0; body = [] } in
      let rest = place_prog lo hi B place in
      let same : l.next + 1 - 1 ≡ l.next = omega arith in
      record {
        past = past;
        item = tree_item l.pointer.addr (get_or (items block) l.next d);
        is = e
            ∙ ap (λ x. prepend (wants past) (exec B (emit_all (hand_items x l) rest))) is
            ∙ ap (prepend (wants past)) (leaf_next B l.pointer.addr block l.next l.end d rest lt good.1)
            ∙ ap (λ x. prepend (wants past) (first (Does (tree_item l.pointer.addr (get_or (items block) l.next d)))
            (exec B (emit_all (hand_items x (behind_next l)) rest)))) (sym is);
        on = on;
        some = omega arith;
        at = subst (λ x. IsSomeAnd x (λ b. (l.next + 1 ≤ length (items b))
            × ((f : Item) → tree_item l.pointer.addr (get_or (items b) (l.next + 1 - 1) f) ≡ tree_item l.pointer.addr (get_or (items block) l.next d))))
            (sym is) (
              omega (arith, lt, good.1),
              λ f. ap (λ (i : ℕ). tree_item l.pointer.addr (get_or (items block) i f)) same
                  ∙ ap (tree_item l.pointer.addr) (get_or_default (items block) l.next f d (omega (arith, lt, good.1))),
            );
        held = λ w. held_step B (seen ++ past) store l (held w);
      }

  -- a leaf that was reached
  pub meets_reached : (Is : UnreadBlock → Want → Type 0) (from after : Where) (store : Blocks) (l : LeafAt) → IsInHand store l → l.next < l.end
      → IsReached lo hi Is B from after store (Ok (Some l)) → FromPlace lo hi Is B from after store (record { leaf = Some (behind_next l); met = Ok true })
  meets_reached Is from after store l hand lt h seen on = at_block (block_of store l.loan) refl (h seen on)
    where
      at_block : (o : Option (List ℕ)) → block_of store l.loan ≡ o
          → IsSomeAnd o (λ block. GoesOnHolding lo hi B seen from (emit_all (part_items l.pointer.addr block l.next l.end) (place_prog lo hi B after)) after
          store l) → Meets lo hi (Unit {0}) B seen (place_prog lo hi B from) store (behind_next l) after
      at_block None is g = absurd g
      at_block (Some block) is g =
          let c = g.comes in
          meets_in (Unit {0}) seen c.past (place_prog lo hi B from) store l after (block_of store l.loan) refl
          (c.is ∙ ap (λ x. prepend (wants c.past) (exec B (emit_all (hand_items x l) (place_prog lo hi B after)))) (sym is)) c.on hand.good lt (λ u. g.held)

  -- the leaf in hand has one more
  pub meets_hand : (Is : UnreadBlock → Want → Type 0) (store : Blocks) (l : LeafAt) (place : Where) → IsInHand store l → l.next < l.end
      → FromHand lo hi Is B place place l store store (record { leaf = Some (behind_next l); met = Ok true })
  meets_hand Is store l place hand lt seen on =
      meets_in (IsHeld B seen store l) seen [] (hand_prog store l (place_prog lo hi B place)) store l place (block_of store l.loan) refl refl
      (subst (λ (x : List Want). IsAlong lo hi B x place) (sym (append-nil seen)) on) hand.good lt
      (λ h. subst (λ (x : List Want). IsHeld B x store l) (sym (append-nil seen)) h)

  -- the same of another program with the same run, where less is said of a block that could not be read
  pub advances_as : (was then : Type 0) (Is Less : UnreadBlock → Want → Type 0) (seen : List Want) (a b : RangeProg) (store : Blocks) (place : Where)
      (leaf : Option LeafAt) (met : Result Bool TreeFault) → ((u : UnreadBlock) (w : Want) → Is u w → Less u w) → (then → was) → exec B a ≡ exec B b
      → AdvancesBy lo hi was Is B seen b store place leaf met → AdvancesBy lo hi then Less B seen a store place leaf met
  advances_as was then Is Less seen a b store place None (Ok true) weaker f e h = absurd h
  advances_as was then Is Less seen a b store place (Some l) (Ok true) weaker f e h =
      record { past = h.past; item = h.item; is = e ∙ h.is; on = h.on; some = h.some; at = h.at; held = λ t. h.held (f t) }
  advances_as was then Is Less seen a b store place None (Ok false) weaker f e h = subst (λ r. Follows Less no_part seen r [] (Ok tt)) (sym e)
      (follows_as Is Less weaker no_part seen (exec B b) [] (Ok tt) h)
  advances_as was then Is Less seen a b store place (Some l) (Ok false) weaker f e h = subst (λ r. Follows Less no_part seen r [] (Ok tt)) (sym e)
      (follows_as Is Less weaker no_part seen (exec B b) [] (Ok tt) h)
  advances_as was then Is Less seen a b store place None (Err x) weaker f e h = subst (λ r. Follows Less no_part seen r [] (Err (halt_of x))) (sym e)
      (follows_as Is Less weaker no_part seen (exec B b) [] (Err (halt_of x)) h)
  advances_as was then Is Less seen a b store place (Some l) (Err x) weaker f e h = subst (λ r. Follows Less no_part seen r [] (Err (halt_of x)))
      (sym e) (follows_as Is Less weaker no_part seen (exec B b) [] (Err (halt_of x)) h)

  -- a leaf in hand that has no more items leaves only the rest
  hand_none : (store : Blocks) (l : LeafAt) (place : Where) (o : Option (List ℕ)) → block_of store l.loan ≡ o
      → IsSomeAnd o (λ block. IsTrue (is_leaf block) × (l.end ≤ length (items block))) → l.end ≤ l.next
      → exec B (hand_prog store l (place_prog lo hi B place)) ≡ exec B (place_prog lo hi B place)
  hand_none store l place None is good le = absurd good
  hand_none store l place (Some block) is good le = ap (λ x. exec B (emit_all (hand_items x l) (place_prog lo hi B place))) is
      ∙ leaf_none B l.pointer.addr block l.next l.end (place_prog lo hi B place) le

  -- the leaf in hand has no more
  pub hand_empty : (Is : UnreadBlock → Want → Type 0) (store store' : Blocks) (l : LeafAt) (place after : Where) (a : Advanced) → IsInHand store l
      → l.end ≤ l.next → FromPlace lo hi Is B place after store' a → FromHand lo hi Is B place after l store store' a
  hand_empty Is store store' l place after a hand le h seen on =
      advances_as (Unit {0}) (IsHeld B seen store l) Is Is seen (hand_prog store l (place_prog lo hi B place)) (place_prog lo hi B place) store' after
      a.leaf a.met (λ u w x. x) (λ t. tt) (hand_none store l place (block_of store l.loan) refl hand.good le) (h seen on)

  -- a leaf is in hand, or none is, and none was given back
  pub with_leaf_in_hand : (Is : UnreadBlock → Want → Type 0) (old new : Blocks) (leaf : Option LeafAt) (l : LeafAt) (place : ScanPlace) (after : Where)
      (a : Advanced) → leaf ≡ Some l → FromHand lo hi Is B place.rest after l old new a → IsAdvanced lo hi Is B place after leaf old new a
  with_leaf_in_hand Is old new leaf l place after a is h seen on =
      advances_as (IsHeld B seen old l) (IfSome leaf (IsHeld B seen old)) Is Is seen (left lo hi B old leaf place)
      (hand_prog old l (place_prog lo hi B place.rest)) new after a.leaf a.met (λ u w x. x) (λ x. subst (λ o. IfSome o (IsHeld B seen old)) is x)
      (ap (λ o. exec B (leaf_prog B old o place.leaf (place_prog lo hi B place.rest))) is) (h seen on.rest)

  -- with no leaf in hand, and none that was given back, the scan goes on from its place
  pub with_none : (Is : UnreadBlock → Want → Type 0) (old new : Blocks) (leaf : Option LeafAt) (place : ScanPlace) (after : Where) (a : Advanced)
      → leaf ≡ None → place.leaf ≡ None → FromPlace lo hi Is B place.rest after new a → IsAdvanced lo hi Is B place after leaf old new a
  with_none Is old new leaf place after a is free h seen on =
      let rest = place_prog lo hi B place.rest in
      advances_as (Unit {0}) (IfSome leaf (IsHeld B seen old)) Is Is seen (left lo hi B old leaf place) rest new after a.leaf a.met (λ u w x. x) (λ x. tt)
      (ap (λ o. exec B (leaf_prog B old o place.leaf rest)) is ∙ ap (λ k. exec B (leaf_prog B old None k rest)) free) (h seen on.rest)

  -- the leaf that was given back is in hand again
  again_items : (seen : List Want) (store : Blocks) (l : LeafAt) (frame : Frame) → IsLeafOf frame l → IsHeld B seen store l → kept_items B frame
      ≡ hand_items (block_of store l.loan) l
  again_items seen store l frame same h =
      ap (λ (s : BlockPointer). items_in (B (want_of 0 s)) s.addr frame.next frame.end) (sym same.0)
      ∙ ap (λ (n : ℕ). items_in (B (want_of 0 l.pointer)) l.pointer.addr n frame.end) (sym same.1)
      ∙ ap (λ (n : ℕ). items_in (B (want_of 0 l.pointer)) l.pointer.addr l.next n) (sym same.2)
      ∙ ap (λ x. items_in x l.pointer.addr l.next l.end) h.came
      ∙ ap (λ x. hand_items x l) (sym h.lent)

  module _ (leaf : Option LeafAt) (place : ScanPlace) (frame : Frame) (is : leaf ≡ None) (kept : place.leaf ≡ Some frame) where
    -- the leaf that was given back was read before, and is good at its pointer
    kept_is : (seen : List Want) → IsOn lo hi B seen place → IsGivenBack B seen frame
    kept_is seen on = subst (λ k. IfSome k (IsGivenBack B seen)) kept on.kept

    -- what the scan has still to give begins with the items of the leaf that was given back
    kept_prog : (old : Blocks) → exec B (left lo hi B old leaf place) ≡ exec B (emit_all (kept_items B frame) (place_prog lo hi B place.rest))
    kept_prog old = let rest = place_prog lo hi B place.rest in
        ap (λ o. exec B (leaf_prog B old o place.leaf rest)) is ∙ ap (λ k. exec B (leaf_prog B old None k rest)) kept

    -- where the leaf that was given back is in hand again, the scan goes on with its items
    pub with_kept : (Was Then Is : UnreadBlock → Want → Type 0) (old mid new : Blocks) (l : LeafAt) (after : Where) (a : Advanced)
        → ((u : UnreadBlock) (w : Want) → Then u w → Is u w) → IsLeafOf frame l → IsLeafAgain Was B frame mid (Ok l)
        → FromHand lo hi Then B place.rest after l mid new a → IsAdvanced lo hi Is B place after leaf old new a
    with_kept Was Then Is old mid new l after a weaker same again h seen on =
        let held = again seen (kept_is seen on) in
        advances_as (IsHeld B seen mid l) (IfSome leaf (IsHeld B seen old)) Then Is seen (left lo hi B old leaf place)
        (hand_prog mid l (place_prog lo hi B place.rest)) new after a.leaf a.met weaker (λ x. held)
        (kept_prog old ∙ ap (λ x. exec B (emit_all x (place_prog lo hi B place.rest))) (again_items seen mid l frame same held)) (h seen on.rest)

    -- where the leaf that was given back could not be read again, the scan halts and stays at its place
    pub kept_halts : (Is : UnreadBlock → Want → Type 0) (old new : Blocks) (f : TreeFault) → IsLeafAgain Is B frame new (Err f)
        → IsAdvanced lo hi Is B place place.rest leaf old new (record { leaf = None; met = Err f })
    kept_halts Is old new f h seen on = unread_halts Is seen f (exec B (left lo hi B old leaf place)) (h seen (kept_is seen on))

-- a leaf that is read again
module _ (Is : UnreadBlock → Want → Type 0) (B : Map) (frame : Frame) (store : Blocks) where
  -- a good leaf that was read before and now can't be had could not be read
  pub again_halts : (f : TreeFault) → Reads Is B 0 frame.pointer store (Err f) → IsLeafAgain Is B frame store (Err f)
  again_halts f h seen k = read_still Is B seen 0 frame.pointer store f k.block (Leaf (items k.block)) k.came k.is k.read h

  module _ (loan : Lent) (block : List ℕ) (is : block_of store loan ≡ Some block) (came : B (want_of 0 frame.pointer) ≡ Ok block) where
    -- the block that came is the one that was read before
    same : (seen : List Want) (k : IsGivenBack B seen frame) → block ≡ k.block
    same seen k = same_block B (want_of 0 frame.pointer) block k.block came k.came

    -- a leaf that was read before isn't shorter than where its items were to end
    pub again_short : (after : Blocks) (a : ℕ) → length (items block) < frame.end → IsLeafAgain Is B frame after (Err (tree.Malformed a))
    again_short after a lt seen k =
        let l : length (items block) ≡ length (items k.block) = ap (λ (b : List ℕ). length (items b)) (same seen k) in
        let w = k.within in
        absurd (omega (arith, lt, l, w))

    -- a block that came again is that of the leaf that was given back
    pub again_held : IsLeafAgain Is B frame store (Ok (record { pointer = frame.pointer; next = frame.next; end = frame.end; loan = loan }))
    again_held seen k = record {
      block = k.block;
      lent = is ∙ ap Some (same seen k);
      came = k.came;
      is = k.is;
      read = k.read;
    }

-- what came of reading on to the next leaf
module _ (old new : Blocks) where
  -- where a scan arrived, the loan of its leaf is new, and no other changed
  pub lends_arrived : (o : Option LeafAt) → LendsReached old new (Ok o) → Lends old new (arrived o)
  lends_arrived None same = record { others = same; hand = tt }
  lends_arrived (Some l) t = record { others = t.0.others; hand = hand_step new l t.0.hand }

  -- a leaf at which a scan arrived has an item that is still to come
  pub items_arrived : (o : Option LeafAt) → LendsReached old new (Ok o) → IfSome o (λ l. l.next < l.end)
  items_arrived None same = tt
  items_arrived (Some l) t = t.1

  -- where a scan arrived, a leaf is in hand just where an item was met
  pub item_arrived : (o : Option LeafAt) → LendsReached old new (Ok o) → HasItem (arrived o).leaf (arrived o).met
  item_arrived None same = refl
  item_arrived (Some l) t = (omega arith, omega (arith, t.1))

  -- where a scan arrived at a leaf and met its first item, it is nearer to its end
  pub rank_falls_arrived : (place after : Where) (o : Option LeafAt) → LendsReached old new (Ok o) → RankFallsReached place after (Ok o)
      → StepRankFalls (2 ^ 64 * rank place) after (arrived o).leaf (arrived o).met
  rank_falls_arrived place after None t n = tt
  rank_falls_arrived place after (Some l) t n = let small = t.0.hand.small in omega (arith, n.1, small)

  -- where a scan arrived, the next item was met, or the scan is at its end
  pub from_arrived : (lo hi : Key) (B : Map) (Is : UnreadBlock → Want → Type 0) (place after : Where) (o : Option LeafAt)
      → LendsReached old new (Ok o) → IsReached lo hi Is B place after new (Ok o) → FromPlace lo hi Is B place after new (arrived o)
  from_arrived lo hi B Is place after None same h seen on = h seen on
  from_arrived lo hi B Is place after (Some l) t h seen on = meets_reached lo hi B Is place after new l t.0.hand t.1 h seen on

-- where a scan arrived, there is no fault
pub no_fault_arrived : (o : Option LeafAt) (P : Type 0) → OnErr (arrived o).met P
no_fault_arrived None P = tt
no_fault_arrived (Some l) P = tt

-- where a scan arrived, there is no fault that needs a cause
pub no_cause_arrived : (layout : Layout) (before now : Seen) (o : Option LeafAt) → HasCause layout before now (arrived o).met
no_cause_arrived layout before now None = tt
no_cause_arrived layout before now (Some l) = tt

-- where a scan arrived, it is at a place that is no farther from its end
pub shaped_arrived : (place after : Where) (o : Option LeafAt) → RankFallsReached place after (Ok o) → IsShaped after × (rank after ≤ rank place)
shaped_arrived place after None n = n
shaped_arrived place after (Some l) n = (n.0, omega (arith, n.1))

-- the same over a layout that is equal
pub from_as : (layout layout' : Layout) (old new : Seen) (lo hi : Key) (place after : Where) (store : Blocks) (a : Advanced) → layout' ≡ layout
    → Tells layout' old new (λ B. FromPlace lo hi (unread_by layout' old new) B place after store a)
    → Tells layout old new (λ B. FromPlace lo hi (unread_by layout old new) B place after store a)
from_as layout layout' old new lo hi place after store a e h = subst
    (λ (l : Layout). Tells l old new (λ B. FromPlace lo hi (unread_by l old new) B place after store a)) e h
