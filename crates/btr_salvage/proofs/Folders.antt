-- What is found in a directory, as its tour goes on.
use Rattle.std.proofs.Common.{◌≡◌, ℕ, ◌<◌, List, [], ◌++◌, Option, Some, None, IsSome, IsSomeAnd, Result, Ok, Err, sym, ap, ◌∙◌, subst}
use Rattle.std.proofs.Common.{arith}
use Rattle.std.specs.Option.{option_map}
use Rattle.btr_prog.specs.Answers.{Follows, no_part}
use Rattle.btr_prog.specs.Prog.{Does, first, prepend, want_marks}
use Rattle.btr_prog.specs.Trying.{tried}
use Rattle.btr_prog.proofs.Follow.{follows_as}
use Rattle.btr_rack.specs.Rack.{Seen}
use Rattle.btr_read.specs.Fate as fate
use Rattle.btr_read.specs.Layout.{Layout}
use Rattle.btr_read.specs.Store.{Blocks}
use Rattle.btr_read.specs.declared.want.Want.{Want}
use Rattle.btr_tour.specs.Rests.{rank_left, GoesOn, IsRestOn, RestCause, Rests, TakesUp}
use Rattle.btr_tour.specs.Steps.{reason, Meets}
use Rattle.btr_tour.specs.Tour as marks
use Rattle.btr_tour.specs.Tour.{Mark}
use Rattle.btr_tour.specs.TourEnds.{left_of, rank_of, TourNextBy, NextCause}
use Rattle.btr_tour.specs.Visits.{ShowsMark}
use Rattle.btr_tour.specs.declared.met.Met.{Met}
use Rattle.btr_tour.specs.declared.met.Met.TheVariants as met
use Rattle.btr_tour.specs.declared.rest.Rest.{Rest}
use Rattle.btr_tour.specs.declared.tour.Tour.{Tour}
use Rattle.btr_tour.proofs.Marks.{next_is, cause_is}
use Rattle.btr_walk.proofs.Halting.{unread_halts}
use Rattle.btr_walk.specs.Le.{want_of}
use Rattle.btr_walk.specs.Reading.{FaultCause, HasCause, Map, UnreadBlock, halt_of}
use Rattle.btr_walk.specs.Showing.{item_of}
use Rattle.btr_walk.specs.declared.fault.TreeFault.{TreeFault}
use Rattle.btr_walk.specs.declared.frame.Frame.{Frame}
use Rattle.btr_walk.specs.declared.found.Found.{Found as FoundItem}
use Rattle.btr_walk.specs.declared.place.RootPlace.{RootPlace}
use Rattle.btr_base.specs.declared.header.Header.{Header}
use Rattle.btr_files.specs.declared.name.NameBuf.{NameBuf}
use Rattle.btr_salvage.specs.declared.folder.Folder.{Folder}
use Rattle.btr_salvage.specs.declared.folder.Found.{Found}
use Rattle.btr_salvage.specs.declared.folder.Found.TheVariants as found
use Rattle.btr_salvage.specs.Folders.{found_in, folder_left, IsItemFound, IsLeftOut, IsNextFound, MeetsFound, MetRankFalls, FolderRankFalls}
use Rattle.btr_salvage.specs.Folders.{NextMetBy, IsNextMet}
use Rattle.btr_salvage.specs.Marks.{InFolder, Part, mark_in}

module _ (Is : UnreadBlock → Want → Type 0) (B : Map) (seen : List Want) (old new : Blocks) (tour tour' : Tour) (same : tour'.scope ≡ tour.scope)
    (name : NameBuf) where
  -- what the tour finds next, by an answer
  abbrev By : Result (Option Found) TreeFault → Type 0
  By result = NextMetBy Is B seen old new tour tour' name result

  -- a mark was met, which says what was found
  pub met_by : (m : Met) (f : Found) → ((mark : Mark) → ShowsMark m mark → mark_in mark ≡ found_in f name)
      → TourNextBy Is B seen old new tour tour' (Ok (Some m))
      → By (Ok (Some f))
  met_by m f says h =
      let n = next_is Is B seen old new tour tour' same m h in
      record { mark = n.mark; says = says n.mark n.shown; meets = record { past = n.past; is = n.first; on = n.on; held = n.held } }

  -- a block that is met says nothing of the directory
  pub met_block : (place : RootPlace) (header : Header) → TourNextBy Is B seen old new tour tour' (Ok (Some (met.Block place header)))
      → By (Ok (Some found.Passing))
  met_block place header h = met_by (met.Block place header) found.Passing (λ mark shown. ap mark_in shown.1.2) h

  -- a child's pointer that is met says nothing of the directory
  pub met_child : (block : ℕ) (place : RootPlace) → TourNextBy Is B seen old new tour tour' (Ok (Some (met.Child block place))) → By (Ok (Some found.Passing))
  met_child block place h = met_by (met.Child block place) found.Passing (λ mark shown. ap mark_in shown) h

  -- an item that is met says what was found in it
  pub met_item : (item : FoundItem) (f : Found) → IsItemFound (item_of item) name f → TourNextBy Is B seen old new tour tour' (Ok (Some (met.Item item)))
      → By (Ok (Some f))
  met_item item f is h = met_by (met.Item item) f (λ mark shown. ap mark_in shown ∙ is) h

  -- a fault that was found as a missing part is that part
  same_part : (x : fate.Fault) (y : InFolder) → option_map Part (Some x) ≡ Some y → Part x ≡ y
  same_part x y e = cc

  -- the mark of a block that is left out says that a part of the directory can't be had
  left_says : (o : Option fate.Fault) (f : Found) (mark : Mark) → option_map Part o ≡ Some (found_in f name) → IsSomeAnd o (λ fault. mark ≡ marks.Left fault)
      → mark_in mark ≡ found_in f name
  left_says None f mark e h = absurd h
  left_says (Some x) f mark e h = ap mark_in h ∙ same_part x (found_in f name) e

  -- a block that could not be read is never left out
  none_left : (fault : TreeFault) → reason fault ≡ None → TourNextBy Is B seen old new tour tour' (Ok (Some (met.Fault fault))) → ⊥
  none_left fault e h = subst
      (λ (o : Option fate.Fault). IsSomeAnd o (λ x. Meets tour.scope.lo tour.scope.hi B seen (left_of B old tour) new tour'.place tour'.leaf (marks.Left x))) e
      h

  -- a block is left out
  pub met_left : (fault : TreeFault) (result : Result (Option Found) TreeFault) → IsLeftOut fault name result
      → TourNextBy Is B seen old new tour tour' (Ok (Some (met.Fault fault))) → By result
  met_left fault (Ok (Some f)) e h = met_by (met.Fault fault) f (λ mark shown. left_says (reason fault) f mark e shown) h
  met_left fault (Ok None) e h = absurd e
  met_left fault (Err f) e h = absurd (none_left fault e.0 h)

-- a fault that is left out isn't one of a block that could not be read
some_reason : (fault : TreeFault) → reason fault ≡ None → IsSome (reason fault) → ⊥
some_reason fault e h = cc

-- at a block that is left out nothing is refused, so each refusal has its cause
pub left_cause : (layout : Layout) (a b : Seen) (tour tour' : Tour) (fault : TreeFault) (name : NameBuf) (result : Result (Option Found) TreeFault)
    → IsLeftOut fault name result → NextCause layout a b tour tour' (Ok (Some (met.Fault fault))) → HasCause layout a b result
left_cause layout a b tour tour' fault name (Ok f) e h = tt
left_cause layout a b tour tour' fault name (Err f) e h = absurd (some_reason fault e.0 h.1)

-- with a block that is left out the tour comes nearer to its end
pub left_rank_falls : (tour tour' : Tour) (fault : TreeFault) (name : NameBuf) (result : Result (Option Found) TreeFault) → IsLeftOut fault name result
    → rank_of tour' < rank_of tour → MetRankFalls tour tour' result
left_rank_falls tour tour' fault name (Ok (Some f)) e h = h
left_rank_falls tour tour' fault name (Ok None) e h = tt
left_rank_falls tour tour' fault name (Err f) e h = tt

-- what is left of a directory is what is left of its tour
module _ (Is One : UnreadBlock → Want → Type 0) (weaker : (u : UnreadBlock) (w : Want) → One u w → Is u w) (B : Map) (folder : Folder) (old mid new : Blocks)
    (tour tour' : Tour) (after : Rest) (name : NameBuf) (rests : Rests new tour' after) where
  -- the directory as the call leaves it
  abbrev then : Folder
  then = record { rest = after }

  -- what a tour finds next is what is found next in its directory
  pub next_found : (result : Result (Option Found) TreeFault) → ((seen : List Want) → IsRestOn B seen folder.rest → GoesOn B seen folder.rest mid tour)
      → IsNextMet One B mid new tour tour' name result → IsNextFound Is B folder then name result
  next_found (Ok (Some f)) takes meets seen on =
      let g = takes seen on in
      let m : MeetsFound B seen mid new tour tour' (found_in f name) = meets seen g.on g.held in
      record {
        mark = m.mark;
        says = m.says;
        gives = record {
          past = m.meets.past;
          is = ap (tried B) (sym g.left) ∙ m.meets.is ∙ ap (λ p. prepend (want_marks m.meets.past) (first (Does m.mark) (tried B p)))
              (sym (rests.left B (seen ++ m.meets.past) m.meets.held));
          on = rests.on B (seen ++ m.meets.past) m.meets.on m.meets.held;
        };
      }
  next_found (Ok None) takes meets seen on =
      let g = takes seen on in
      sym g.left ∙ meets seen g.on g.held
  next_found (Err f) takes meets seen on =
      let g = takes seen on in
      subst (λ p. Follows Is no_part seen (tried B p) [] (Err (halt_of f))) g.left
      (follows_as One Is weaker no_part seen (tried B (left_of B mid tour)) [] (Err (halt_of f)) (meets seen g.on g.held))

-- a leaf that could not be read again
pub rest_fault : (Is : UnreadBlock → Want → Type 0) (B : Map) (folder : Folder) (store : Blocks) (name : NameBuf) (f : TreeFault)
    → TakesUp Is B folder.rest store (Err f) → IsNextFound Is B folder folder name (Err f)
rest_fault Is B folder store name f h seen on = unread_halts Is seen f (tried B (folder_left B folder)) (h seen on)

-- a leaf that could not be read again is refused with its cause
pub rest_cause : (layout : Layout) (a b : Seen) (leaf : Option Frame) (f : TreeFault) → RestCause layout a b leaf (Err f) → FaultCause layout a b f
rest_cause layout a b None f h = absurd h
rest_cause layout a b (Some frame) f h = cause_is layout a b (Some (want_of 0 frame.pointer)) f h

-- a directory comes nearer to its end as its tour does
pub folder_rank_falls : (rest after : Rest) (tour tour' : Tour) (store : Blocks) (result : Result (Option Found) TreeFault) → rank_of tour ≡ rank_left rest
    → Rests store tour' after → MetRankFalls tour tour' result → FolderRankFalls (record { rest = rest }) (record { rest = after }) result
folder_rank_falls rest after tour tour' store (Ok (Some f)) e r h = omega (arith, h, r.rank, e)
folder_rank_falls rest after tour tour' store (Ok None) e r h = tt
folder_rank_falls rest after tour tour' store (Err f) e r h = tt
