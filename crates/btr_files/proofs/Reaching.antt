-- A scan of a file's items goes on to the next extent.
use Rattle.std.proofs.Common.{◌≡◌, ℕ, List, [], ◌∷◌, ◌++◌, Some, None, Result, Ok, Err, refl, sym, ap, ◌∙◌, subst, append-nil}
use Rattle.btr_base.specs.declared.kind.SumKind.{SumKind}
use Rattle.btr_prog.specs.Prog.{Mark, Wants, Does, run, first, prepend, exec, steps_of, wants_of, want_marks}
use Rattle.btr_prog.specs.Answers.{Follows, no_part}
use Rattle.btr_rack.specs.Rack.{Seen}
use Rattle.btr_read.specs.Fate as fate
use Rattle.btr_read.specs.Layout.{Layout}
use Rattle.btr_read.specs.Store.{Blocks}
use Rattle.btr_read.specs.declared.want.Want.{Want}
use Rattle.btr_walk.specs.declared.fault.TreeFault.{TreeFault}
use Rattle.btr_walk.specs.declared.fault.TreeFault.TheVariants.{Malformed}
use Rattle.btr_walk.specs.declared.found.Found.{Found}
use Rattle.btr_walk.specs.declared.scan.Scan.{Scan}
use Rattle.btr_walk.specs.Le.{TreeItem}
use Rattle.btr_walk.specs.Reading.{Map, UnreadBlock, FaultCause, halt_of}
use Rattle.btr_walk.specs.Scans.{wants}
use Rattle.btr_walk.specs.ScanEnds.{left_of, Gives, IsNextOn}
use Rattle.btr_walk.specs.Showing.{item_of}
use Rattle.btr_walk.proofs.Marks.{wants_fault}
use Rattle.btr_files.specs.declared.extent.Ahead.{Ahead}
use Rattle.btr_files.specs.declared.progress.Source.{Source}
use Rattle.btr_files.specs.Streaming.{given, Then}
use Rattle.btr_files.specs.Ahead.{ahead_of, Onward, LeadsOn, HaltsAt, IsNextExtent}
use Rattle.btr_files.proofs.Extending.{ahead_prog, pieces_are, found_good, found_fault}
use Rattle.btr_files.proofs.Onwards.{Items, Pieces, treats_past, treats_item, treats_end, treats_halts, then_of}

-- marks without steps are wants
all_wants : (ms : List (Mark Want TreeItem)) → [] ≡ steps_of ms → ms ≡ wants (wants_of ms)
all_wants [] h = refl
all_wants (Wants w ∷ ms) h = ap (λ x. Wants w ∷ x) (all_wants ms h)
all_wants (Does s ∷ ms) h = cc

-- items of which there is none
items_end : (items : Items) → [] ≡ steps_of items.marks → items.ending ≡ Ok tt → items ≡ prepend (wants (wants_of items.marks)) (run [] (Ok tt))
items_end items n e =
    ap (λ ms. run ms items.ending) (all_wants items.marks n ∙ sym (append-nil (wants (wants_of items.marks))))
    ∙ ap (run (wants (wants_of items.marks) ++ [])) e

module _ (source : Source) (Is : UnreadBlock → Want → Type 0) (B : Map) (old new : Blocks) (scan scan' : Scan) (end : ℕ) where
  abbrev items : Items
  items = exec B (left_of B old scan)

  abbrev behind : Items
  behind = exec B (left_of B new scan')

  -- a fault of the scan is one of the look for the next extent
  pub extent_err : (f : TreeFault) → IsNextOn Is B old new scan scan' (Err f) → IsNextExtent source Is B old new scan scan' end (Err f)
  extent_err f n seen on kind Bs at =
      let h = treats_halts kind source Bs Is seen (given at end) items (halt_of f) (n seen on) in
      (h.0, then_of kind source Bs (Ok (given at end)) items h.0 h.1, h.2)

  -- where the scan has no item more, the file has no extent more
  pub extent_none : IsNextOn Is B old new scan scan' (Ok None) → IsNextExtent source Is B old new scan scan' end (Ok None)
  extent_none n seen on =
      let f = n seen on in
      let past = wants_of items.marks in
      record {
        past = past;
        goes = λ kind Bs at q h. subst (λ r. Onward kind source Bs at end r (prepend (want_marks past) q)) (sym (items_end items f.0 f.1))
            (then_of kind source Bs (Ok (given at end)) _ (prepend (want_marks past) q)
            (treats_past kind source Bs past (given at end) (run [] (Ok tt)) q (treats_end kind source Bs (given at end) q h)));
      }

  module _ (found : Found) (seen : List Want) (g : Gives B seen old new scan scan' found) where
    abbrev item : TreeItem
    item = item_of found

    -- what is left behind an extent leads to what comes of the item that the scan gives
    onward : (r : Result Ahead TreeFault) → ahead_of source.size end item ≡ r → (kind : SumKind) (Bs : ℕ → Map) (at : ℕ) (q : Pieces)
        → Then kind source Bs (ahead_prog kind source at item r) behind q → Onward kind source Bs at end items (prepend (want_marks g.past) q)
    onward r e kind Bs at q h =
        let t = treats_item kind source Bs (given at end) item behind (ahead_prog kind source at item r) q
        (pieces_are kind source at item end ∙ ap (ahead_prog kind source at item) e) h in
        subst (λ x. Onward kind source Bs at end x (prepend (want_marks g.past) q)) (sym g.is)
        (then_of kind source Bs (Ok (given at end)) _ (prepend (want_marks g.past) q)
        (treats_past kind source Bs g.past (given at end) (first (Does item) behind) q t))

    -- an item that comes to something to give leads on to what is left of its extent
    some_ahead : (ahead : Ahead) → ahead_of source.size end item ≡ Ok ahead → LeadsOn source B seen old new scan scan' end ahead
    some_ahead ahead e = record {
      past = g.past;
      item = item;
      goes = λ kind Bs at q h. onward (Ok ahead) e kind Bs at q h;
      inline = (found_good source.size end item ahead e).1;
      on = g.on;
      held = g.held;
      met = g.met;
    }

    -- an item that comes to a fault leads to that fault
    some_fault : (f : TreeFault) → ahead_of source.size end item ≡ Err f → HaltsAt source Is B seen old scan end f
    some_fault f e kind Bs at =
        let broken : Pieces = run [] (Err (fate.Malformed item.leaf)) in (
          prepend (want_marks g.past) broken,
          onward (Err f) e kind Bs at broken (run [] (Err (fate.Malformed item.leaf)), refl, refl),
          subst (λ (x : TreeFault). Follows Is no_part seen (prepend (want_marks g.past) broken) [] (Err (halt_of x)))
              (sym (found_fault source.size end item f e))
              (wants_fault Is seen g.past (prepend (want_marks g.past) broken) (fate.Malformed item.leaf) refl),
        )

  -- where the scan gave an item of a clear extent in its order, that is the next extent
  pub extent_some : (found : Found) (ahead : Ahead) → ahead_of source.size end (item_of found) ≡ Ok ahead
      → IsNextOn Is B old new scan scan' (Ok (Some found)) → IsNextExtent source Is B old new scan scan' end (Ok (Some ahead))
  extent_some found ahead e n seen on = some_ahead found seen (n seen on) ahead e

  -- where the scan gave an item that isn't the next clear extent, the look ends with that fault
  pub extent_fault : (found : Found) (f : TreeFault) → ahead_of source.size end (item_of found) ≡ Err f
      → IsNextOn Is B old new scan scan' (Ok (Some found)) → IsNextExtent source Is B old new scan scan' end (Err f)
  extent_fault found f e n seen on = some_fault found seen (n seen on) f e

-- an item that breaks its form needs no other cause
pub broken_cause : (layout : Layout) (a b : Seen) (f : TreeFault) (leaf : ℕ) → f ≡ Malformed leaf → FaultCause layout a b f
broken_cause layout a b f leaf e = subst (FaultCause layout a b) (sym e) tt
