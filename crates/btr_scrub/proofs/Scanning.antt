-- A scan of extents, item by item.
use Rattle.std.proofs.Common.{◌≡◌, ℕ, true, false, List, [], ◌++◌, Option, Ok, Err, sym, ap, ◌∙◌, subst, append-nil}
use Rattle.btr_base.specs.declared.key.Key.{Key}
use Rattle.btr_scrub.proofs.Common.{Blocks, Chunk, Extent, Follows, Map, Mark, Meeting, Met, SameLoans, Scan, Super, TreeFault, TreeItem, TreeRoot, UnreadBlock}
use Rattle.btr_scrub.proofs.Common.{Want, bind, exec, exec-bind, extent_met, no_part, steps_of, without_leaf}
use Rattle.btr_prog.specs.Answers.{Halt}
use Rattle.btr_prog.specs.Prog.{prepend, want_marks, wants_of}
use Rattle.btr_prog.proofs.Follow.{follows_alone, follows_behind, follows_halt}
use Rattle.btr_prog.proofs.Runs.{after-ok, prepend-prepend, steps_of-append, wants_of-append}
use Rattle.btr_prog.proofs.Tries.{steps_of-marks, wants_of-marks}
use Rattle.btr_read.specs.Fate as fate
use Rattle.btr_walk.specs.Advancing.{loan_of}
use Rattle.btr_walk.specs.Going.{IsOn}
use Rattle.btr_walk.specs.Reading.{halt_of}
use Rattle.btr_walk.specs.ScanEnds.{left_of}
use Rattle.btr_walk.specs.declared.scan_place.ScanPlace.{ScanPlace}
use Rattle.btr_walk.proofs.Staying.{base_same, left_same, on_more}
use Rattle.btr_walk.proofs.Turns.{base_layout}
use Rattle.btr_scrub.specs.Scanning.{Between, GivesItem}
use Rattle.btr_scrub.specs.Units.{extent_of, is_extent, item_met, items_met}
use Rattle.btr_scrub.proofs.Eachwise.{each_ends, each_gives, each_halts}
use Rattle.btr_scrub.proofs.Extending.{item_extent, item_other}

-- ---- a scan between whose items other blocks are read

-- stores with the same loans have them without a scan's leaf, too
pub without_same : (old new : Blocks) (scan : Scan) → SameLoans old new → SameLoans (without_leaf old scan) (without_leaf new scan)
without_same old new scan same = base_same old new (loan_of scan.leaf) same

-- stores that are the same but for a scan's leaf have one layout
pub same_layout : (old new : Blocks) (scan scan' : Scan) → SameLoans (without_leaf old scan) (without_leaf new scan') → new.layout ≡ old.layout
same_layout old new scan scan' s = sym (base_layout new (loan_of scan'.leaf)) ∙ (s.layout ∙ base_layout old (loan_of scan.leaf))

-- ---- what is past

-- a scan over the same keys is on the same place
pub on_as : (lo hi lo' hi' : Key) (B : Map) (ws : List Want) (place : ScanPlace) → lo' ≡ lo → hi' ≡ hi → IsOn lo hi B ws place → IsOn lo' hi' B ws place
on_as lo hi lo' hi' B ws place same_lo same_hi on = subst (λ l. IsOn l hi' B ws place) (sym same_lo) (subst (λ h. IsOn lo h B ws place) (sym same_hi) on)

module _ {s : Super} {sums : Option TreeRoot} {chunk : Chunk} {B : Map} {store old : Blocks} {scan at : Scan} {end : ℕ} {done : List Met}
    (b : Between s sums chunk B store old scan at end done) where
  -- what is left to be met
  abbrev left : Meeting ℕ
  left = items_met s sums chunk end (left_of B old at)

  -- the items came to an end or to a fault
  pub between_ends : (Is : UnreadBlock → Want → Type 0) → Follows Is no_part (wants_of b.before) (exec B (left_of B old at)) [] (Ok tt)
      → Follows Is no_part [] (exec B (items_met s sums chunk 0 (left_of B store scan))) done (Ok end)
  between_ends Is f = subst (λ r. Follows Is no_part [] r done (Ok end)) (sym b.is)
      (subst (λ d. Follows Is no_part [] (prepend b.before (exec B left)) d (Ok end)) (append-nil (steps_of b.before) ∙ sym b.steps)
      (follows_behind Is no_part [] b.before (exec B left) [] (Ok end) (each_ends (item_met s sums chunk) B Is (wants_of b.before) end (left_of B old at) f)))

  -- or to a fault, which is that of the whole
  pub between_halts : (Is : UnreadBlock → Want → Type 0) (f : TreeFault)
      → Follows Is no_part (wants_of b.before) (exec B (left_of B old at)) [] (Err (halt_of f))
      → Follows Is no_part [] (exec B (items_met s sums chunk 0 (left_of B store scan))) done (Err (halt_of f))
  between_halts Is f h = subst (λ r. Follows Is no_part [] r done (Err (halt_of f))) (sym b.is)
      (subst (λ d. Follows Is no_part [] (prepend b.before (exec B left)) d (Err (halt_of f))) (append-nil (steps_of b.before) ∙ sym b.steps)
      (follows_behind Is no_part [] b.before (exec B left) [] (Err (halt_of f))
      (each_halts (item_met s sums chunk) B Is (wants_of b.before) end (left_of B old at) (halt_of f) h)))

  module _ {mid : Blocks} {at' : Scan} {item : TreeItem} (gives : GivesItem B (wants_of b.before) old mid at at' item) where
    -- what is past with this item
    abbrev past : List (Mark Want Met)
    past = b.before ++ want_marks gives.past

    -- an item was met
    met : exec B (items_met s sums chunk 0 (left_of B store scan))
        ≡ prepend past (exec B (bind (item_met s sums chunk end item) (λ e. items_met s sums chunk e (left_of B mid at'))))
    met =
        b.is
        ∙ ap (prepend b.before) (each_gives (item_met s sums chunk) B end (left_of B old at) (left_of B mid at') item gives.past gives.is)
        ∙ prepend-prepend b.before (want_marks gives.past) (exec B (bind (item_met s sums chunk end item) (λ e. items_met s sums chunk e (left_of B mid at'))))

    -- this item listed nothing yet: what is past listed the same as before
    past_steps : done ≡ steps_of past
    past_steps = b.steps ∙ sym (append-nil (steps_of b.before)) ∙ ap (λ d. steps_of b.before ++ d) (sym (steps_of-marks Met gives.past))
        ∙ sym (steps_of-append b.before (want_marks gives.past))

    -- the wants that are past are those before, and those that were read to come to this item
    past_wants : wants_of past ≡ wants_of b.before ++ gives.past
    past_wants = wants_of-append b.before (want_marks gives.past) ∙ ap (λ w. wants_of b.before ++ w) (wants_of-marks Met gives.past)

    -- one that is no extent
    pub between_other : at'.lo ≡ at.lo → at'.hi ≡ at.hi → is_extent item.key ≡ false → Between s sums chunk B store mid scan at' end done
    between_other lo hi e = record {
      before = past;
      is = met ∙ ap (λ q. prepend past (exec B (bind q (λ e. items_met s sums chunk e (left_of B mid at'))))) (item_other s sums chunk end item e);
      steps = past_steps;
      on = on_as at.lo at.hi at'.lo at'.hi B (wants_of past) at'.place lo hi (subst (λ ws. IsOn at.lo at.hi B ws at'.place) (sym past_wants) gives.on);
    }

    module _ {found : Option Extent} {leaf : ℕ} (e : is_extent item.key ≡ true) (is : extent_of s item ≡ found) (stands : item.leaf ≡ leaf) where
      -- what is met of the extent
      abbrev treated : Meeting ℕ
      treated = extent_met s sums chunk end leaf found

      -- the extent is treated behind what is past
      met_extent : exec B (items_met s sums chunk 0 (left_of B store scan))
          ≡ prepend past (exec B (bind treated (λ e. items_met s sums chunk e (left_of B mid at'))))
      met_extent = met ∙ ap (λ q. prepend past (exec B (bind q (λ e. items_met s sums chunk e (left_of B mid at')))))
          (item_extent s sums chunk end item found leaf e is stands)

      -- one whose blocks were listed
      pub between_extent : (Is : UnreadBlock → Want → Type 0) (new : Blocks) (end' : ℕ) (more : List Met) → SameLoans mid new → at'.lo ≡ at.lo
          → at'.hi ≡ at.hi → Follows Is no_part [] (exec B treated) more (Ok end') → Between s sums chunk B store new scan at' end' (done ++ more)
      between_extent Is new end' more same lo hi f =
          let marks = (exec B treated).marks in
          record {
            before = past ++ marks;
            is = met_extent
                ∙ ap (prepend past) (exec-bind B treated (λ e. items_met s sums chunk e (left_of B mid at'))
                ∙ after-ok (exec B treated) end' (λ e. exec B (items_met s sums chunk e (left_of B mid at'))) f.1)
                ∙ prepend-prepend past marks (exec B (items_met s sums chunk end' (left_of B mid at')))
                ∙ ap (λ q. prepend (past ++ marks) (exec B (items_met s sums chunk end' q))) (sym (left_same B mid new at' same));
            steps = ap (λ d. d ++ more) past_steps ∙ ap (λ d. steps_of past ++ d) f.0 ∙ sym (steps_of-append past marks);
            on = subst (λ ws. IsOn at'.lo at'.hi B ws at'.place) (sym (wants_of-append past marks))
                (on_more at'.lo at'.hi B (wants_of past) (wants_of marks) at'.place
                (on_as at.lo at.hi at'.lo at'.hi B (wants_of past) at'.place lo hi (subst (λ ws. IsOn at.lo at.hi B ws at'.place) (sym past_wants) gives.on)));
          }

      -- one that ended all
      pub between_stops : (Is : UnreadBlock → Want → Type 0) (h : Halt fate.Fault UnreadBlock) (more : List Met)
          → Follows Is no_part [] (exec B treated) more (Err h)
          → Follows Is no_part [] (exec B (items_met s sums chunk 0 (left_of B store scan))) (done ++ more) (Err h)
      between_stops Is h more f =
          subst (λ r. Follows Is no_part [] r (done ++ more) (Err h)) (sym met_extent)
          (subst (λ d. Follows Is no_part [] (prepend past (exec B (bind treated (λ e. items_met s sums chunk e (left_of B mid at'))))) (d ++ more)
          (Err h)) (sym past_steps)
          (follows_behind Is no_part [] past (exec B (bind treated (λ e. items_met s sums chunk e (left_of B mid at')))) more (Err h)
          (follows_alone Is no_part (wants_of past) (exec B (bind treated (λ e. items_met s sums chunk e (left_of B mid at')))) more (Err h)
          (subst (λ r. Follows Is no_part [] r more (Err h)) (sym (exec-bind B treated (λ e. items_met s sums chunk e (left_of B mid at'))))
          (follows_halt Is no_part [] (exec B treated) (λ e. exec B (items_met s sums chunk e (left_of B mid at'))) more h f)))))
