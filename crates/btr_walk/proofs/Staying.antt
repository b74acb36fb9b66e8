-- What stays of a scan while other blocks are read.
use Rattle.std.proofs.Common.{◌≡◌, ◌≤◌, ◌+◌, ℕ, List, ◌++◌, Option, Some, None, get_or, set, take, count_by, is_none, length, refl, sym, ap, subst}
use Rattle.std.proofs.Common.{arith}
use Rattle.std.specs.Option.{IfSome, IsSome, IsSomeAnd, option_map}
use Rattle.std.specs.Bool.{IsTrue}
use Rattle.std.proofs.lemmas.List.Elements.{Contains-append_left}
use Rattle.btr_base.specs.declared.key.Key.{Key}
use Rattle.btr_node.specs.Block.{is_leaf, items}
use Rattle.btr_rack.specs.Rack.{Seen}
use Rattle.btr_read.specs.Layout.{Layout}
use Rattle.btr_read.specs.Serves.{Serves}
use Rattle.btr_read.specs.Store.{Blocks, Lent, SameLoans, free_count}
use Rattle.btr_read.specs.declared.want.Want.{Want}
use Rattle.btr_read.proofs.Lent.{one_more_free}
use Rattle.btr_walk.proofs.Frames.{node_more}
use Rattle.btr_walk.specs.Advancing.{hand_items, leaf_prog}
use Rattle.btr_walk.specs.Going.{IsOn}
use Rattle.btr_walk.specs.Lending.{base}
use Rattle.btr_walk.specs.Range.{RangeProg, emit_all}
use Rattle.btr_walk.specs.Reading.{Map}
use Rattle.btr_walk.specs.ScanEnds.{IsScanReady, left_of, without_leaf}
use Rattle.btr_walk.specs.Scans.{IsFrame}
use Rattle.btr_walk.specs.declared.frame.Frame.{Frame}
use Rattle.btr_walk.specs.declared.scan.Scan.{Scan}
use Rattle.btr_walk.specs.declared.scan_place.ScanPlace.{ScanPlace}
use Rattle.btr_walk.specs.Hand.{IsInHand, loan_of, IsGivenBack}
use Rattle.btr_walk.specs.declared.leaf_at.LeafAt.{LeafAt}

-- a scan's place stays one where more was read
module _ (lo hi : Key) (B : Map) (seen more : List Want) where
  -- a frame of a scan stays one where more was read
  pub frame_more : (level : ℕ) (frame : Option Frame) → IfSome frame (IsFrame lo hi B seen level) → IfSome frame (IsFrame lo hi B (seen ++ more) level)
  frame_more level None f = tt
  frame_more level (Some frame) f = record {
    node = node_more B seen more level frame f.node;
    up = f.up;
    behind = f.behind;
    low = f.low;
    high = f.high;
  }

  -- a leaf that was given back stays one where more was read
  pub kept_more : (frame : Option Frame) → IfSome frame (IsGivenBack B seen) → IfSome frame (IsGivenBack B (seen ++ more))
  kept_more None f = tt
  kept_more (Some frame) f = record { block = f.block; came = f.came; is = f.is; read = Contains-append_left seen more _ f.read; within = f.within }

  -- where a scan is at a place, it is there also where more was read
  pub on_more : (place : ScanPlace) → IsOn lo hi B seen place → IsOn lo hi B (seen ++ more) place
  on_more place on = record {
    rest = record { frames = λ k. frame_more (k + 1) (get_or place.rest.path k None) (on.rest.frames k); above = on.rest.above; up = on.rest.up };
    kept = kept_more place.leaf on.kept;
  }

-- what a scan has still to give stays where the loans stay
leaf_same : (B : Map) (old new : Blocks) → new.loans ≡ old.loans → (leaf : Option LeafAt) (kept : Option Frame) (rest : RangeProg)
    → leaf_prog B new leaf kept rest ≡ leaf_prog B old leaf kept rest
leaf_same B old new same (Some l) kept rest = ap (λ (loans : List (Option (List ℕ))). emit_all
    (hand_items (option_map (take l.loan.len) (get_or loans l.loan.slot None)) l) rest) same
leaf_same B old new same None (Some frame) rest = refl
leaf_same B old new same None None rest = refl

-- a scan has still to give the same over a store with the same loans
pub left_same : (B : Map) (old new : Blocks) (scan : Scan) → SameLoans old new → left_of B new scan ≡ left_of B old scan
left_same B old new scan same = leaf_same B old new same.loans scan.leaf scan.place.leaf _

-- a leaf in hand is in hand also over a store with the same loans
hand_same : (old new : Blocks) (leaf : Option LeafAt) → SameLoans old new → IfSome leaf (IsInHand old) → IfSome leaf (IsInHand new)
hand_same old new None same h = tt
hand_same old new (Some l) same h = record {
  live = record {
    live = subst (λ (loans : List (Option (List ℕ))). IsSome (get_or loans l.loan.slot None)) (sym same.loans) h.live.live;
    fits = subst (λ (layout : Layout). l.loan.len ≤ layout.setting.nodesize) (sym same.layout) h.live.fits;
  };
  large = h.large;
  small = h.small;
  good = subst (λ (loans : List (Option (List ℕ))). IsSomeAnd (option_map (take l.loan.len) (get_or loans l.loan.slot None))
      (λ block. IsTrue (is_leaf block) × (l.end ≤ length (items block)))) (sym same.loans) h.good;
}

-- and it stays ready
pub ready_same : (before now : Seen) (old new : Blocks) (scan : Scan) → SameLoans old new → Serves now new → IsScanReady before old scan
    → IsScanReady now new scan
ready_same before now old new scan same serves ready =
    record { serves = serves; hand = hand_same old new scan.leaf same ready.hand; shaped = ready.shaped; alone = ready.alone }

-- the loans but for one
pub base_same : (old new : Blocks) (loan : Option Lent) → SameLoans old new → SameLoans (base old loan) (base new loan)
base_same old new None same = same
base_same old new (Some loan) same = record { layout = same.layout; loans = ap (λ (l : List (Option (List ℕ))). set l loan.slot None) same.loans }

-- room beside the leaf in hand
pub room_beside : (seen : Seen) (store : Blocks) (scan : Scan) (n : ℕ) → IsScanReady seen store scan → n + 1 ≤ free_count (without_leaf store scan)
    → n ≤ free_count store
room_beside seen store scan n ready = of scan.leaf ready.hand
  where
    of : (leaf : Option LeafAt) → IfSome leaf (IsInHand store) → n + 1 ≤ free_count (base store (loan_of leaf)) → n ≤ free_count store
    of None hand room = omega arith
    of (Some l) hand room = omega (arith, one_more_free store l.loan hand.live)

-- room that stays
pub room_same : (old new : Blocks) (n : ℕ) → SameLoans old new → n ≤ free_count old → n ≤ free_count new
room_same old new n same room = subst (λ l. n ≤ count_by is_none l) (sym same.loans) room
