-- A fold turn by turn.
use Rattle.std.proofs.Common.{◌≡◌, ◌≤◌, count_by, is_none, List, [], ◌++◌, Option, Some, None, Result, Ok, Err, refl, sym, ap, ◌∙◌, subst}
use Rattle.std.proofs.Common.{append_assoc}
use Rattle.btr_base.specs.declared.key.Key.{Key}
use Rattle.btr_prog.specs.Prog.{Does, Run, first, prepend, exec, want_marks}
use Rattle.btr_prog.specs.Answers.{Follows, no_part}
use Rattle.btr_prog.proofs.Follow.{broke_here, follows_as}
use Rattle.btr_read.specs.Fate as fate
use Rattle.btr_read.specs.Store.{Blocks, Lent, SameLoans, free_count}
use Rattle.btr_read.specs.declared.want.Want.{Want}
use Rattle.btr_walk.specs.declared.fault.TreeFault.{TreeFault}
use Rattle.btr_walk.specs.declared.folder.FoldFault.{FoldFault}
use Rattle.btr_walk.specs.declared.folder.FoldFault.TheVariants.{Tree, Own}
use Rattle.btr_walk.specs.declared.folding.Turn.{Turn}
use Rattle.btr_walk.specs.declared.folding.Turn.TheVariants.{More, Last, Out}
use Rattle.btr_walk.specs.declared.found.Found.{Found}
use Rattle.btr_walk.specs.declared.place.RootPlace.{RootPlace}
use Rattle.btr_walk.specs.declared.scan.Scan.{Scan}
use Rattle.btr_walk.specs.Le.{TreeItem}
use Rattle.btr_walk.specs.Range.{range}
use Rattle.btr_walk.specs.Reading.{Map, UnreadBlock, halt_of}
use Rattle.btr_walk.specs.Showing.{item_of}
use Rattle.btr_walk.specs.Lending.{base}
use Rattle.btr_walk.specs.Going.{IsOn}
use Rattle.btr_walk.specs.ScanEnds.{left_of, Gives, IsNextOn}
use Rattle.btr_walk.specs.Folds.{Next, folded_over, folded}
use Rattle.btr_walk.specs.Folding.{fold_answer, IsTaken, to_fold, Turns, Ends, TurnsBy, IsTurned, result_of, IsRun, FoldFollows}
use Rattle.btr_walk.proofs.Marks.{behind_wants, past_both, wants_value, wants_fault}
use Rattle.btr_walk.proofs.Folds.{fold_run, exec_fold, fold_past, fold_go, fold_end, fold_broken, fold_halts, fold_ends}

-- the layout of a store without a loan
pub base_layout : (store : Blocks) (loan : Option Lent) → (base store loan).layout ≡ store.layout
base_layout store None = refl
base_layout store (Some loan) = refl

-- where but for one of each the loans are the same, so is the layout
pub same_layout : (old new : Blocks) (loan loan' : Option Lent) → SameLoans (base old loan) (base new loan') → new.layout ≡ old.layout
same_layout old new loan loan' s = sym (base_layout new loan') ∙ (s.layout ∙ base_layout old loan)

-- where the loans are the same, four slots stay free
pub same_room : (old new : Blocks) → SameLoans old new → 4 ≤ free_count old → 4 ≤ free_count new
same_room old new s h = subst (λ l. 4 ≤ count_by is_none l) (sym s.loans) h

module _ {St R : Type 0} (step : St → TreeItem → Next St R) (answer : St → R) (B : Map) (Is : UnreadBlock → Want → Type 0) (old new : Blocks)
    (scan scan' : Scan) where
  -- where the scan came to a fault, the fold's turn ends with it
  pub turned_err : (E : Type 0) (st : St) (f : TreeFault) → IsNextOn Is B old new scan scan' (Err f)
      → IsTurned step answer {E = E} Is B old new scan scan' st st (Err (Tree f))
  turned_err E st f h seen on = fold_halts step answer B Is seen st (left_of B old scan) (halt_of f) (h seen on)

  -- where the scan came to its end, the fold's turn is the last one
  pub turned_last : (E : Type 0) (st : St) → IsNextOn Is B old new scan scan' (Ok None) → IsTurned step answer {E = E} Is B old new scan scan' st st (Ok Last)
  turned_last E st h seen on = fold_ends step answer B Is seen st (left_of B old scan) (h seen on)

  module _ (st : St) (found : Found) (seen : List Want) (g : Gives B seen old new scan scan' found) where
    -- the run of what the scan has still to give behind the item
    abbrev behind : Run Want fate.Fault TreeItem (Unit {0})
    behind = exec B (left_of B new scan')

    -- what the fold had still to do is some wants, and then what it makes of the item
    met : exec B (to_fold step answer B old scan st) ≡ prepend (want_marks g.past) (fold_run step answer B st (first (Does (item_of found)) behind))
    met =
        exec_fold step answer B st (left_of B old scan)
        ∙ ap (fold_run step answer B st) g.is
        ∙ fold_past step answer B g.past st (first (Does (item_of found)) behind)

    -- what the step makes of the item is what the fold's turn comes to
    turned_by : {E : Type 0} (st' : St) (result : Result (Turn R) (FoldFault E)) → IsTaken step st (item_of found) st' result
        → TurnsBy step answer Is B seen old new scan scan' st st' result
    turned_by st' (Ok More) t = record {
      past = g.past;
      is = met ∙ ap (prepend (want_marks g.past)) (fold_go step answer B st st' (item_of found) behind t
          ∙ sym (exec_fold step answer B st' (left_of B new scan')));
      on = g.on;
    }
    turned_by st' (Ok Last) t = absurd t
    turned_by st' (Ok (Out out)) t = wants_value Is seen g.past (exec B (to_fold step answer B old scan st)) out
        (met ∙ ap (prepend (want_marks g.past)) (fold_end step answer B st (item_of found) behind out t))
    turned_by st' (Err (Tree f)) t =
        subst (λ (x : TreeFault). Follows Is no_part seen (exec B (to_fold step answer B old scan st)) [] (Err (halt_of x))) (sym t.1)
        (wants_fault Is seen g.past (exec B (to_fold step answer B old scan st)) (fate.Malformed found.block)
        (met ∙ ap (prepend (want_marks g.past)) (fold_broken step answer B st (item_of found) behind t.0)))
    turned_by st' (Err (Own e)) t = broke_here Is no_part seen (exec B (to_fold step answer B old scan st))

  -- where the scan gave an item, the fold's turn comes to what the step makes of it
  pub turned_some : {E : Type 0} (st st' : St) (found : Found) (result : Result (Turn R) (FoldFault E)) → IsTaken step st (item_of found) st' result
      → IsNextOn Is B old new scan scan' (Ok (Some found)) → IsTurned step answer Is B old new scan scan' st st' result
  turned_some st st' found result t h seen on = turned_by st found seen (h seen on) st' result t

module _ {St R : Type 0} (step : St → TreeItem → Next St R) (answer : St → R) (B : Map) (first_store : Blocks) (first_scan : Scan) (first_state : St) where
  -- how far a fold has come, from whatever was seen before
  abbrev pub Led : Blocks → Scan → St → Type 0
  Led store scan state = (seen : List Want) → IsOn first_scan.lo first_scan.hi B seen first_scan.place
      → Turns step answer B seen first_store store first_scan scan first_state state

  module _ (Is : UnreadBlock → Want → Type 0) (store : Blocks) (scan : Scan) (state : St) (same_lo : scan.lo ≡ first_scan.lo)
      (same_hi : scan.hi ≡ first_scan.hi) where
    -- a scan with the same keys is at the same place
    on_as : (seen : List Want) → IsOn first_scan.lo first_scan.hi B seen scan.place → IsOn scan.lo scan.hi B seen scan.place
    on_as seen on = subst (λ l. IsOn l scan.hi B seen scan.place) (sym same_lo) (subst (λ h. IsOn first_scan.lo h B seen scan.place) (sym same_hi) on)

    -- a fold that came so far, and then one turn further, came farther
    pub led_more : (E : Type 0) (new : Blocks) (scan' : Scan) (state' : St) → Led store scan state
        → IsTurned step answer {E = E} Is B store new scan scan' state state' (Ok More) → Led new scan' state'
    led_more E new scan' state' l t seen on =
        let x = l seen on in
        let y = t (seen ++ x.past) (on_as (seen ++ x.past) x.on) in
        record {
          past = x.past ++ y.past;
          is = x.is ∙ ap (prepend (want_marks x.past)) y.is ∙ past_both x.past y.past (exec B (to_fold step answer B new scan' state'));
          on = subst (λ (z : List Want). IsOn first_scan.lo first_scan.hi B z scan'.place) (append_assoc seen x.past y.past)
              (subst (λ l. IsOn l first_scan.hi B ((seen ++ x.past) ++ y.past) scan'.place) same_lo
              (subst (λ h. IsOn scan.lo h B ((seen ++ x.past) ++ y.past) scan'.place) same_hi y.on));
        }

    -- what is answered of the rest is answered of the whole
    pub led_ends : {E : Type 0} (Less : UnreadBlock → Want → Type 0) (result : Result R (FoldFault E))
        → ((u : UnreadBlock) (w : Want) → Is u w → Less u w) → Led store scan state
        → ((seen : List Want) → IsOn scan.lo scan.hi B seen scan.place → Ends step answer Is B seen store scan state result)
        → (seen : List Want) → IsOn first_scan.lo first_scan.hi B seen first_scan.place → Ends step answer Less B seen first_store first_scan first_state result
    led_ends Less result weaker l t seen on =
        let x = l seen on in
        let rest = exec B (to_fold step answer B store scan state) in
        let f = follows_as Is Less weaker no_part (seen ++ x.past) rest [] (fold_answer result) (t (seen ++ x.past) (on_as (seen ++ x.past) x.on)) in
        behind_wants Less seen x.past (exec B (to_fold step answer B first_store first_scan first_state)) no_part rest [] (fold_answer result) x.is f

-- a fold from the beginning
pub fold_begun : {St R E : Type 0} (step : St → TreeItem → Next St R) (answer : St → R) (Is : UnreadBlock → Want → Type 0) (B : Map) (store : Blocks)
    (scan : Scan) (root : RootPlace) (lo hi : Key) (state state' : St) (result : Result (Option R) (FoldFault E))
    → scan.lo ≡ lo → scan.hi ≡ hi → left_of B store scan ≡ range lo hi root → IsOn lo hi B [] scan.place
    → IsRun step answer Is B store scan state state' result → FoldFollows step answer Is B state root lo hi (result_of step answer state' result)
fold_begun step answer Is B store scan root lo hi state state' result same_lo same_hi program on h =
    subst (λ p. Follows Is no_part [] (exec B (folded_over step answer state p)) [] (fold_answer (result_of step answer state' result))) program
    (h [] (subst (λ l. IsOn l scan.hi B [] scan.place) (sym same_lo) (subst (λ x. IsOn lo x B [] scan.place) (sym same_hi) on)))

-- where an answer follows the program of a fold, an equal one does
pub fold_answers : {St R : Type 0} (E : Type 0) (step : St → TreeItem → Next St R) (answer : St → R) (Is : UnreadBlock → Want → Type 0) (B : Map)
    (root : RootPlace) (lo hi : Key) (state : St) (a b : R) → b ≡ a → FoldFollows step answer {E = E} Is B state root lo hi (Ok a)
    → FoldFollows step answer {E = E} Is B state root lo hi (Ok b)
fold_answers E step answer Is B root lo hi state a b e h = subst (λ x. Follows Is no_part [] (exec B (folded step answer state root lo hi)) [] (Ok x)) (sym e) h
