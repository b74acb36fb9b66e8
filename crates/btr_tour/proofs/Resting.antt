-- A tour whose leaf was given back, and one that is taken up again.
use Rattle.std.proofs.Common.{◌≡◌, ◌∙◌, ℕ, ◌+◌, ◌-◌, ◌*◌, ◌^◌, List, ◌++◌, map, get_or, Option, Some, None, IfSome, Ok, Err, refl, sym, ap, subst, arith}
use Rattle.std.specs.Option.{option_map}
use Rattle.btr_base.specs.declared.key.Key.{Key}
use Rattle.btr_prog.specs.Trying.{act_all}
use Rattle.btr_rack.specs.Rack.{Seen}
use Rattle.btr_read.specs.Serves.{Serves}
use Rattle.btr_read.specs.Store.{Blocks}
use Rattle.btr_read.specs.declared.want.Want.{Want}
use Rattle.btr_walk.specs.Hand.{frame_of, IsHeld, IsGivenBack, IsInHand, IsLeafOf, LendsHand, IsLeafAgain}
use Rattle.btr_walk.specs.Le.{want_of}
use Rattle.btr_walk.specs.Ranks.{digit, rank, FrameFits}
use Rattle.btr_walk.specs.Reading.{Map, UnreadBlock}
use Rattle.btr_walk.specs.Scans.{items_in, kept_items}
use Rattle.btr_walk.specs.declared.fault.TreeFault.{TreeFault}
use Rattle.btr_walk.specs.declared.frame.Frame.{Frame}
use Rattle.btr_walk.specs.declared.leaf_at.LeafAt.{LeafAt}
use Rattle.btr_walk.specs.declared.block_pointer.BlockPointer.{BlockPointer}
use Rattle.btr_walk.proofs.Joined.{block_is}
use Rattle.btr_walk.proofs.Nexts.{leaf_was}
use Rattle.btr_walk.proofs.Staying.{frame_more, kept_more}
use Rattle.btr_node.specs.Block.{items, is_leaf}
use Rattle.std.proofs.Common.{◌≤◌, length, IsTrue}
use Rattle.btr_tour.specs.declared.rest.Rest.{Rest}
use Rattle.btr_tour.specs.declared.tour.Tour.{Tour}
use Rattle.btr_tour.specs.Tour as marks
use Rattle.btr_tour.specs.Program.{TourProg}
use Rattle.btr_tour.specs.Place.{leaf_left, place_left}
use Rattle.btr_tour.specs.Shape.{rank_on}
use Rattle.btr_tour.specs.TourEnds.{HoldsLeaf}
use Rattle.btr_tour.specs.Rests.{kept_left, IsRestOn, Fits, KeepsFrom, Rests, IsTakenUp, GoesOn, TakesUp}
use Rattle.btr_tour.proofs.Enters.{leaf_hand, hand_none}

-- ---- giving back

module _ (store : Blocks) (l : LeafAt) (hand : IsInHand store l) where
  -- what is kept of the leaf counts as many items as the leaf in hand
  kept_digit : (o : Option Frame) → KeepsFrom (frame_of l) o → digit o ≡ l.end - l.next
  kept_digit None h = omega (arith, h)
  kept_digit (Some frame) h = ap (λ (f : Frame). f.end - f.next) h.1

  -- what is kept of the leaf has items that are to come
  kept_fits : (o : Option Frame) → KeepsFrom (frame_of l) o → IfSome o FrameFits
  kept_fits None h = tt
  kept_fits (Some frame) h = subst FrameFits (sym h.1) (h.0, hand.small)

  -- what is kept of the leaf was read before, and is good at its pointer
  kept_is : (B : Map) (seen : List Want) → IsHeld B seen store l → (o : Option Frame) → KeepsFrom (frame_of l) o → IfSome o (IsGivenBack B seen)
  kept_is B seen held None h = tt
  kept_is B seen held (Some frame) h = subst (IsGivenBack B seen) (sym h.1) (record {
    block = held.block;
    came = held.came;
    is = held.is;
    read = held.read;
    within = (block_is store l.loan held.block (λ (b : List ℕ). IsTrue (is_leaf b) × (l.end ≤ length (items b))) held.lent hand.good).1;
  })

  -- what is kept of the leaf gives the same items as the leaf in hand, and then the rest
  kept_same : (B : Map) (seen : List Want) (rest : TourProg) → IsHeld B seen store l → (o : Option Frame) → KeepsFrom (frame_of l) o
      → kept_left B o rest ≡ leaf_left store (Some l) rest
  kept_same B seen rest held None h = sym (hand_none store l held.block rest held.lent h)
  kept_same B seen rest held (Some frame) h =
      ap (λ (f : Frame). act_all (map marks.Item (kept_items B f)) rest) h.1
      ∙ ap (λ x. act_all (map marks.Item (items_in x l.pointer.addr l.next l.end)) rest) held.came
      ∙ sym (leaf_hand store l held.block rest held.lent)

module _ (store : Blocks) (tour : Tour) where
  -- a tour without a leaf in hand has the same still to meet from its place
  pub rests_none : tour.leaf ≡ None → Rests store tour (record { scope = tour.scope; place = tour.place; leaf = None })
  rests_none none = record {
    scope = refl;
    place = refl;
    rank = ap (λ o. rank_on tour.place o) (sym none);
    fits = λ rack ready. record { shaped = ready.shaped; kept = tt };
    left = λ B seen held. ap (λ o. leaf_left store o (place_left tour.scope.lo tour.scope.hi B tour.place)) (sym none);
    on = λ B seen on held. record { place = on; kept = tt };
  }

  module _ (l : LeafAt) (some : tour.leaf ≡ Some l) (hands : IfSome tour.leaf (IsInHand store)) where
    -- the leaf that the tour has is in hand
    hand : IsInHand store l
    hand = subst (λ o. IfSome o (IsInHand store)) some hands

    -- the leaf in hand is the block that its want came to
    held_is : (B : Map) (seen : List Want) → HoldsLeaf B seen store tour → IsHeld B seen store l
    held_is B seen held = subst (λ o. IfSome o (IsHeld B seen store)) some held

    -- a tour whose leaf was given back has the same still to meet from its place and what is kept of the leaf
    pub rests_some : (o : Option Frame) → KeepsFrom (frame_of l) o → Rests store tour (record { scope = tour.scope; place = tour.place; leaf = o })
    rests_some o keeps = record {
      scope = refl;
      place = refl;
      rank = ap (λ n. 2 ^ 64 * rank tour.place + n) (kept_digit store l hand o keeps) ∙ ap (λ x. rank_on tour.place x) (sym some);
      fits = λ rack ready. record { shaped = ready.shaped; kept = kept_fits store l hand o keeps };
      left = λ B seen held.
          let rest : TourProg = place_left tour.scope.lo tour.scope.hi B tour.place in
          kept_same store l hand B seen rest (held_is B seen held) o keeps
          ∙ ap (λ x. leaf_left store x rest) (sym some);
      on = λ B seen on held. record { place = on; kept = kept_is store l hand B seen (held_is B seen held) o keeps };
    }

  -- where the leaf that was given back goes on
  pub rests_kept : (frame : Frame) → option_map frame_of tour.leaf ≡ Some frame → IfSome tour.leaf (IsInHand store) → (o : Option Frame)
      → KeepsFrom frame o → Rests store tour (record { scope = tour.scope; place = tour.place; leaf = o })
  rests_kept frame is hands o keeps =
      let l = leaf_was tour.leaf frame is in
      rests_some l.0 l.1 hands o (subst (λ (f : Frame). KeepsFrom f o) (sym l.2) keeps)

-- ---- taking up

module _ (rest : Rest) (fits : Fits rest) where
  -- the tour that goes on from there, with this leaf in hand or none
  abbrev pub taken : Option LeafAt → Tour
  taken leaf = record { scope = rest.scope; place = rest.place; leaf = leaf; level = None }

  -- a tour that is taken up without a leaf can go on, and no loan changed
  pub taken_none : (rack : Seen) (store : Blocks) → rest.leaf ≡ None → Serves rack store → IsTakenUp rack store store rest (taken None)
  taken_none rack store none serves = record {
    ready = record { serves = serves; hand = tt; shaped = fits.shaped; low = tt };
    others = record { layout = refl; loans = refl };
    scope = refl;
    rank = ap (λ o. 2 ^ 64 * rank rest.place + digit o) (sym none);
  }

  -- a tour that is taken up without a leaf has still to meet what was left
  pub goes_on_none : (B : Map) (seen : List Want) (store : Blocks) → rest.leaf ≡ None → IsRestOn B seen rest → GoesOn B seen rest store (taken None)
  goes_on_none B seen store none on = record {
    left = ap (λ o. kept_left B o (place_left rest.scope.lo rest.scope.hi B rest.place)) (sym none);
    on = on.place;
    held = tt;
  }

  module _ (frame : Frame) (some : rest.leaf ≡ Some frame) where
    -- a tour that is taken up with its leaf lent again can go on, and no other loan changed
    pub taken_some : (rack : Seen) (old new : Blocks) (l : LeafAt) → IsLeafOf frame l → LendsHand old new l
        → Serves rack new → IsTakenUp rack old new rest (taken (Some l))
    taken_some rack old new l same lent serves = record {
      ready = record { serves = serves; hand = lent.hand; shaped = fits.shaped; low = tt };
      others = lent.others;
      scope = refl;
      rank = ap (λ n. 2 ^ 64 * rank rest.place + n) (ap (λ n. n - l.next) same.2 ∙ ap (λ n. frame.end - n) same.1)
          ∙ ap (λ o. 2 ^ 64 * rank rest.place + digit o) (sym some);
    }

    -- the leaf that was given back was read before, and is good at its pointer
    kept_here : (B : Map) (seen : List Want) → IsRestOn B seen rest → IsGivenBack B seen frame
    kept_here B seen on = subst (λ o. IfSome o (IsGivenBack B seen)) some on.kept

    -- a tour that is taken up with its leaf lent again has still to meet what was left
    pub goes_on_some : (Is : UnreadBlock → Want → Type 0) (B : Map) (store : Blocks) (l : LeafAt) → IsLeafOf frame l
        → IsLeafAgain Is B frame store (Ok l) → TakesUp Is B rest store (Ok (taken (Some l)))
    goes_on_some Is B store l same again seen on =
        let lo : Key = rest.scope.lo in
        let hi : Key = rest.scope.hi in
        let more : TourProg = place_left lo hi B rest.place in
        let held = again seen (kept_here B seen on) in
        record {
          left = leaf_hand store l held.block more held.lent
              ∙ ap (λ x. act_all (map marks.Item (items_in x l.pointer.addr l.next l.end)) more) (sym held.came)
              ∙ ap (λ n. act_all (map marks.Item (items_in (B (want_of 0 l.pointer)) l.pointer.addr l.next n)) more) same.2
              ∙ ap (λ n. act_all (map marks.Item (items_in (B (want_of 0 l.pointer)) l.pointer.addr n frame.end)) more) same.1
              ∙ ap (λ (s : BlockPointer). act_all (map marks.Item (items_in (B (want_of 0 s)) s.addr frame.next frame.end)) more) same.0
              ∙ ap (λ o. kept_left B o more) (sym some);
          on = on.place;
          held = held;
        }

    -- where the leaf that was given back can't be had again, it could not be read
    pub refused_some : (Is : UnreadBlock → Want → Type 0) (B : Map) (store : Blocks) (f : TreeFault) → IsLeafAgain Is B frame store (Err f)
        → TakesUp Is B rest store (Err f)
    refused_some Is B store f again seen on = again seen (kept_here B seen on)

-- what a rest stands on stays read where more was read
pub rest_on_more : (B : Map) (seen more : List Want) (rest : Rest) → IsRestOn B seen rest → IsRestOn B (seen ++ more) rest
rest_on_more B seen more rest on = record {
  place = record {
    frames = λ k. frame_more rest.scope.lo rest.scope.hi B seen more (k + 1) (get_or rest.place.path k None) (on.place.frames k);
    above = on.place.above;
    up = on.place.up;
  };
  kept = kept_more rest.scope.lo rest.scope.hi B seen more rest.leaf on.kept;
}
