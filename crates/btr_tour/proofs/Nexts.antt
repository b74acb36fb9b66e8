-- What a step met is shown.
use Rattle.std.proofs.Common.{◌≡◌, ℕ, List, Option, Some, None, Ok, Result, sym, subst, get_or}
use Rattle.btr_node.specs.Block.{Item as NodeItem, items}
use Rattle.btr_rack.specs.Rack.{Seen}
use Rattle.btr_read.specs.Store.{Blocks, SameLoans, block_of}
use Rattle.btr_read.specs.declared.want.Want.{Want}
use Rattle.btr_walk.specs.Le.{TreeItem, tree_item}
use Rattle.btr_walk.specs.Reading.{Map, UnreadBlock, TellsOf, unread_by}
use Rattle.btr_walk.specs.Showing.{item_of}
use Rattle.btr_walk.specs.declared.fault.TreeFault.{TreeFault}
use Rattle.btr_walk.specs.declared.found.Found.{Found}
use Rattle.btr_walk.specs.declared.going.Where.{Where}
use Rattle.btr_walk.specs.declared.leaf_at.LeafAt.{LeafAt}
use Rattle.btr_walk.proofs.Joined.{drawn, block_is}
use Rattle.btr_tour.specs.declared.met.Met.{Met}
use Rattle.btr_tour.specs.declared.met.Met.TheVariants as met
use Rattle.btr_tour.specs.declared.step.Advanced.{Advanced}
use Rattle.btr_tour.specs.declared.step.Step.{Step}
use Rattle.btr_tour.specs.declared.step.Step.TheVariants.{Item}
use Rattle.btr_tour.specs.declared.tour.Tour.{Tour}
use Rattle.btr_tour.specs.Tour as marks
use Rattle.btr_tour.specs.Steps.{arrived, Meets, StepsBy, AdvancesIn}
use Rattle.btr_tour.specs.TourEnds.{left_of, without_leaf, IsTourReady, IsNextStep, TourNextBy, IsNextMark, Toured}
use Rattle.btr_tour.proofs.Seeking.{some_item}

-- a step, once the leaf in hand stands in its place
pub stepped : (Is : UnreadBlock → Want → Type 0) (B : Map) (store new : Blocks) (tour : Tour) (taken : Option LeafAt) (place : Where) (a : Advanced)
    (leaf : Option LeafAt) → taken ≡ tour.leaf → leaf ≡ a.leaf → AdvancesIn tour.scope Is B store tour.place taken new (arrived place a)
    → IsNextStep Is B store new tour (record { scope = tour.scope; place = place; leaf = leaf; level = None }) a.step
stepped Is B store new tour taken place a leaf is_taken kept h seen on held =
    subst (λ l. StepsBy tour.scope.lo tour.scope.hi B Is seen tour.scope.sums (left_of B store tour) new place l a.step) (sym kept)
    (subst (λ l. AdvancesIn tour.scope Is B store tour.place l new (arrived place a)) is_taken h seen on held)

module _ (old new : Blocks) (tour tour' : Tour) (before now : Seen) (result : Result Step TreeFault)
    (others : SameLoans (without_leaf old tour) (without_leaf new tour')) (ready : IsTourReady now new tour')
    (content : TellsOf old before now (λ Is B. IsNextStep Is B old new tour tour' result)) where
  -- what was met is what is answered
  pub toured : (step : Result Step TreeFault) (answer : Result (Option Met) TreeFault) → result ≡ step
      → ((Is : UnreadBlock → Want → Type 0) (B : Map) (seen : List Want)
      → StepsBy tour.scope.lo tour.scope.hi B Is seen tour.scope.sums (left_of B old tour) new tour'.place tour'.leaf step
      → TourNextBy Is B seen old new tour tour' answer) → Toured old new tour tour' before now answer
  toured step answer is shows = record {
    others = others;
    ready = ready;
    content = drawn old.layout (λ B. IsNextStep (unread_by old.layout before now) B old new tour tour' result)
        (λ B. IsNextMark (unread_by old.layout before now) B old new tour tour' answer)
        (λ B h seen on held. shows (unread_by old.layout before now) B seen
        (subst (λ s. StepsBy tour.scope.lo tour.scope.hi B (unread_by old.layout before now) seen tour.scope.sums (left_of B old tour) new tour'.place
        tour'.leaf s) is (h seen on held))) content;
  }

  -- an item is the one in the leaf in hand
  pub toured_item : (hand : LeafAt) (at : ℕ) (found : Found) (bytes : List ℕ) → result ≡ Ok (Item at) → tour'.leaf ≡ Some hand
      → block_of new hand.loan ≡ Some bytes → ((d : NodeItem) → tree_item hand.pointer.addr (get_or (items bytes) at d) ≡ item_of found)
      → Toured old new tour tour' before now (Ok (Some (met.Item found)))
  toured_item hand at found bytes step is block shows = toured (Ok (Item at)) (Ok (Some (met.Item found))) step (λ Is B seen h.
      let lo = tour.scope.lo in
      let hi = tour.scope.hi in
      let at_item = subst (λ l. StepsBy lo hi B Is seen tour.scope.sums (left_of B old tour) new tour'.place l (Ok (Item at))) is h in
      let met = block_is new hand.loan bytes (λ (b : List ℕ). (d : NodeItem)
      → Meets lo hi B seen (left_of B old tour) new tour'.place (Some hand)
      (marks.Item (tree_item hand.pointer.addr (get_or (items b) at d)))) block at_item in
      subst (λ l. Meets lo hi B seen (left_of B old tour) new tour'.place l (marks.Item (item_of found))) (sym is)
      (subst (λ (i : TreeItem). Meets lo hi B seen (left_of B old tour) new tour'.place (Some hand) (marks.Item i)) (shows some_item) (met some_item)))
