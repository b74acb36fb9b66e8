-- What a command comes to whose run does steps in the sink and in the output, whichever command it is.
use Rattle.std.proofs.Common.{◌≡◌, ◌≢◌, inl, inr, ⊎_elim, ℕ, List, [], ◌∷◌, ◌++◌, Option, Some, None, Result, Ok, Err, refl, sym, ap, ◌∙◌, subst, arith}
use Rattle.std.specs.Option.{IfSome}
use Rattle.btr_walk.proofs.Fetched.{cause_since}
use Rattle.btr_listing.specs.Step.{Step, part}
use Rattle.btr_prog.specs.Answers.{Breaks, Follows, Leaves, Names, no_part}
use Rattle.btr_prog.specs.Prog.{Mark, Wants, Does, Run, steps_of, wants_of}
use Rattle.btr_prog.proofs.Runs.{steps_of-append}
use Rattle.btr_rack.specs.Rack.{Account, Seen, OnlyReads, Steady}
use Rattle.btr_rack.proofs.Reading.{reads_more}
use Rattle.btr_read.specs.Fate.{Agreed, Fault}
use Rattle.btr_read.specs.Fate as fault
use Rattle.btr_read.specs.Layout.{Layout}
use Rattle.btr_read.specs.declared.want.Want.{Want}
use Rattle.btr_restore.specs.Restoring.{RestoreStopCause, SinkCounts, OutCounts}
use Rattle.btr_volume.specs.Stops.{ended}
use Rattle.btr_restore.specs.Running.{Outside}
use Rattle.btr_volume.specs.Start.{Images}
use Rattle.btr_volume.specs.declared.stop.Stop.{Stop}
use Rattle.btr_volume.specs.declared.stop.Stop.TheVariants as stop
use Rattle.btr_volume.specs.declared.volume.Volume.{Volume}
use Rattle.btr_walk.specs.Reading.{FaultCause, UnreadBlock, unread_by}
use Rattle.btr_walk.specs.declared.fault.TreeFault.{TreeFault}
use Rattle.btr_walk.specs.declared.fault.TreeFault.TheVariants as tree
use Rattle.btr_run.specs.Unopened.{AreAgreed}
use Rattle.btr_run.specs.Answers.{error_line}
use Rattle.btr_run.specs.Behind.{AnyFault, IfSteady, IsBehind, IsLayoutOf, HasTreeCause}
use Rattle.btr_run.specs.Faults.{tree_answer}
use Rattle.btr_run.specs.Filesystem.{IsRefusal, MayMend, OpensAs, OpensFilesystem, filesystem_in, filesystem_of}
use Rattle.btr_run.specs.Listed.{ListsUpTo, listed_answer, listed_by, stopped_answer}
use Rattle.btr_run.specs.Outcomes.{Outcome, refused, HasOneOutcome, HasEnded, How, IsFirstPart, IsNoFault, DidAndTold, StandsOf, StandsPartly, Whole}
use Rattle.btr_run.specs.Outcomes.{SinkFailed, OutFailed}
use Rattle.btr_run.specs.Outcomes.{OrBare, OrMemory, Wanted}
use Rattle.btr_run.specs.declared.answer.Answer.{Answer}
use Rattle.btr_run.specs.declared.answer.Answer.TheVariants.{Done, NoTree, ImageFault, Memory, OutFault, SinkFault, Unread}
use Rattle.btr_run.proofs.Agreements.{agreeing_opened}
use Rattle.btr_run.proofs.Coming.{comes_also, comes_bare, whole_first}
use Rattle.btr_read.proofs.Fetched.{map_some}
use Rattle.btr_run.proofs.Refusals.{open_line, open_no_fault}
use Rattle.btr_run.proofs.Faulting.{tree_in, tree_back}
use Rattle.btr_run.proofs.Shows.{fault_no_fault, none_left}
use Rattle.btr_run.proofs.TreesShown.{NoneOf, mends_of, none_unread, tree_no_fault}
use Rattle.btr_run.proofs.Wanted.{names_addr}

-- steps that were done before a run was broken off are a first part of its steps
broken_off : {A : Type 0} (r : Run Want Fault Step A) (done : List Step) → Breaks part (λ ws. Unit {0}) r done → IsFirstPart (steps_of r.marks) done
broken_off r done b =
    record {
      before = steps_of b.before;
      behind = steps_of b.behind;
      left = b.left;
      place = ap steps_of b.place
          ∙ steps_of-append b.before b.behind;
      is = b.steps;
      stands = of b.left b.behind b.leaves;
    }
  where
    of : (left : Option Step) (ms : List (Mark Want Step)) → Leaves part left ms → StandsOf left (steps_of ms)
    of None ms leaves = tt
    of (Some left) [] leaves = leaves
    of (Some left) (Wants w ∷ ms) leaves = absurd leaves
    of (Some left) (Does step ∷ ms) leaves = leaves

-- that all was done is no fault of the output or of the sink
pub done_no_fault : (n : ℕ) → IsNoFault (Done n)
done_no_fault n = record { no_out = λ e. cc; no_sink = λ e. cc }

-- some kind has what a run comes to up to a block that could not be read
abbrev pub HasUnread : {A : Type 0} → (UnreadBlock → Want → Type 0) → Run Want Fault Step A → (Outcome → Type 0) → Type 0
HasUnread Is r IsOne =
    (u : UnreadBlock) (upto rest : List (Mark Want Step)) → r.marks ≡ upto ++ rest → Names Is u (wants_of upto)
    → IsOne (record { answer = Unread u.addr u.slot; steps = steps_of upto })

-- a listing up to a block that could not be read is its run up to there
pub lists_up_to : {A : Type 0} (layout : Layout) (old new : Seen) (r : Run Want Fault Step A) → HasUnread (unread_by layout old new) r (ListsUpTo r)
lists_up_to layout old new r u upto rest place named =
    record { unread = u; before = upto; behind = rest; place = place; wanted = names_addr layout old new u (wants_of upto) named; is = refl }

-- the filesystem isn't opened
module _ (May : Type 0) (answer result : Answer) (is : result ≡ answer) (refusal : IsRefusal answer) where
  -- the refusal is no fault of the output or of the sink
  no_fault : IsNoFault answer
  no_fault = subst IsNoFault (sym refusal.is) (open_no_fault refusal.refusal)

  -- where no call failed, the answer is what the command comes to over the images, or memory was wanted
  pub unopened_effect : (wanted : Images → Outcome) → ((images : Images) (a : Answer) → filesystem_of images ≡ Err a → wanted images ≡ refused a)
      → (old new : Account) (held : Option Images) (x : Outside) → IfSteady held old new (λ images. OpensFilesystem images (Err answer))
      → IfSteady held old new (λ images. HasOneOutcome May (OrMemory (λ outcome. wanted images ≡ outcome)) x x result)
  unopened_effect wanted bare old new held x =
      map_some held (λ images. Steady old.faults new.faults → OpensFilesystem images (Err answer))
      (λ images. Steady old.faults new.faults → HasOneOutcome May (OrMemory (λ outcome. wanted images ≡ outcome)) x x result)
      (λ images opens steady. subst (λ a. HasOneOutcome May (OrMemory (λ outcome. wanted images ≡ outcome)) x x a) (sym is)
      (comes_bare May (OrMemory (λ outcome. wanted images ≡ outcome)) x answer
      (⊎_elim (λ none. inl (bare images answer none)) (λ want. inr (ap refused want)) (opens steady)) no_fault))

  -- whatever failed, the answer is a refusal before anything else
  pub unopened_told : (IsOne : Outcome → Type 0) (x : Outside) → HasOneOutcome May (OrBare IsOne) x x result
  unopened_told IsOne x =
      subst (λ a. HasOneOutcome May (OrBare IsOne) x x a) (sym is)
      (comes_bare May (OrBare IsOne) x answer (inr (refl, λ e. open_line refusal.refusal (ap error_line (sym refusal.is) ∙ e))) no_fault)

-- The filesystem is open, and a call did these steps.
module _ {A : Type 0} (left_out : A → ℕ) (layout : Layout) (mid new : Seen) (x y : Outside) (done : List Step) (stands : DidAndTold x y done [])
    (result : Result A Stop)
    (cause : RestoreStopCause layout mid new result) (sink_calls : SinkCounts x.sink_calls y.sink_calls result)
    (out_calls : OutCounts x.out_calls y.out_calls result) where
  -- the answer of a call, by what is left out
  abbrev answered : Result A Stop → Answer
  answered r = stopped_answer left_out r

  -- the block of a want could not be read in these calls
  abbrev Is : UnreadBlock → Want → Type 0
  Is = unread_by layout mid new

  -- the answer of a listing by its end is no fault of the output or of the sink
  listed_no_fault : (e : Result A Fault) → IsNoFault (listed_answer left_out e)
  listed_no_fault (Ok a) = done_no_fault (left_out a)
  listed_no_fault (Err f) = fault_no_fault f

  -- it follows a run
  module _ (r : Run Want Fault Step A) (IsOne : Outcome → Type 0) (one : IsOne (listed_by left_out r)) (unread : HasUnread Is r IsOne) where
    -- what the run comes to came, ended in one of the ways
    ends : (how : How) (answer : Answer) → HasEnded (Unit {0}) x y (listed_by left_out r) answer how → HasOneOutcome (Unit {0}) IsOne x y answer
    ends how answer ended =
        record { outcome = listed_by left_out r; is_one = one; no_fault = listed_no_fault r.ending; how = how; ended = ended }

    -- a call that went to the run's end came to all of it
    wholly : (ending : Result A Fault) (answer : Answer) → answer ≡ listed_answer left_out ending → (done ≡ steps_of r.marks) × (r.ending ≡ ending)
        → y.sink_calls ≡ x.sink_calls → y.out_calls ≡ x.out_calls → HasOneOutcome (Unit {0}) IsOne x y answer
    wholly ending answer is follows same_sink same_out =
        ends Whole answer (is ∙ ap (listed_answer left_out) (sym follows.1), same_sink, same_out, subst (λ l. DidAndTold x y l []) follows.0 stands)

    -- what it comes to up to a block that could not be read
    up_to : (u : UnreadBlock) → Breaks no_part (λ ws. Names Is u ([] ++ ws)) r done → y.sink_calls ≡ x.sink_calls → y.out_calls ≡ x.out_calls
        → HasOneOutcome (Unit {0}) IsOne x y (Unread u.addr u.slot)
    up_to u broke same_sink same_out = record {
      outcome = record { answer = Unread u.addr u.slot; steps = steps_of broke.before };
      is_one = unread u broke.before broke.behind broke.place broke.holds;
      no_fault = record { no_out = λ e. cc; no_sink = λ e. cc };
      how = Whole;
      ended = (
        refl,
        same_sink,
        same_out,
        subst (λ l. DidAndTold x y l [])
            (broke.steps ∙ none_left (steps_of broke.before) broke.left broke.behind broke.leaves) stands,
      );
    }

    -- where the run was broken off, a first part of its steps stands
    partly : Breaks part (λ ws. Unit {0}) r done → StandsPartly x y (listed_by left_out r) []
    partly broke = record { done = done; first = broken_off r done broke; stands = stands }

    -- a call that follows a run comes to what this comes to, or to it up to a block that could not be read, or to a first part of it
    pub follows_come : Follows Is part [] r done (ended result) → HasOneOutcome (Unit {0}) IsOne x y (answered result)
    follows_come = of result cause sink_calls out_calls
      where
        of : (e : Result A Stop) → RestoreStopCause layout mid new e → SinkCounts x.sink_calls y.sink_calls e → OutCounts x.out_calls y.out_calls e
            → Follows Is part [] r done (ended e) → HasOneOutcome (Unit {0}) IsOne x y (answered e)
        of (Ok a) cause sc oc follows = wholly (Ok a) (Done (left_out a)) refl follows sc oc
        of (Err (stop.NoTree id)) cause sc oc follows = wholly (Err (fault.NoTree id)) (NoTree id) refl follows sc oc
        of (Err (stop.Tree (tree.Lost a))) cause sc oc follows = wholly (Err (fault.Lost a)) (tree_answer (tree.Lost a)) refl follows sc oc
        of (Err (stop.Tree (tree.Unmapped a))) cause sc oc follows = wholly (Err (fault.Unmapped a)) (tree_answer (tree.Unmapped a)) refl follows sc oc
        of (Err (stop.Tree (tree.Crosses a))) cause sc oc follows = wholly (Err (fault.Crosses a)) (tree_answer (tree.Crosses a)) refl follows sc oc
        of (Err (stop.Tree (tree.Malformed a))) cause sc oc follows = wholly (Err (fault.Malformed a)) (tree_answer (tree.Malformed a)) refl follows sc oc
        of (Err (stop.Tree (tree.Unread a slot))) cause sc oc follows = up_to (record { addr = a; slot = slot }) follows sc oc
        of (Err stop.Sink) cause sc oc follows =
            ends SinkFailed SinkFault (refl, ((sc.0, sc.1), sc.2), ⊎_elim (λ same. inl same) (λ one. inr ((one.0, one.1), one.2)) oc, partly follows)
        of (Err stop.Out) cause sc oc follows = ends OutFailed OutFault (refl, ((oc.0, oc.1), oc.2), sc, partly follows)
        of (Err stop.Memory) cause sc oc follows = ends Wanted Memory (refl, tt, sc, oc, partly follows)
        of (Err other) cause sc oc follows = absurd cause

  -- whatever failed some steps were done
  module _ (IsOne : Outcome → Type 0) (by_value : (a : A) → IsOne (record { answer = Done (left_out a); steps = done }))
      (by_tree : (f : TreeFault) → IsOne (record { answer = tree_answer f; steps = done }))
      (by_none : (id : ℕ) → result ≡ Err (stop.NoTree id) → IsOne (record { answer = NoTree id; steps = done })) where
    -- an answer behind all of these steps
    by_answer : (a : Answer) → IsOne (record { answer = a; steps = done }) → IsNoFault a → y.sink_calls ≡ x.sink_calls → y.out_calls ≡ x.out_calls
        → HasOneOutcome (Unit {0}) (OrBare IsOne) x y a
    by_answer a is no_fault same_sink same_out = record {
      outcome = record { answer = a; steps = done };
      is_one = inl is;
      no_fault = no_fault;
      how = Whole;
      ended = (refl, same_sink, same_out, stands);
    }

    -- any outcome of these steps, whose end wasn't reached
    abbrev broken : Outcome
    broken = record { answer = tree_answer (tree.Lost 0); steps = done }

    -- the steps that were done are a first part of themselves
    all : StandsPartly x y broken []
    all = record { done = done; first = whole_first done; stands = stands }

    -- where they were broken off, an outcome of this kind came, or a first part of it
    breaks : (how : How) (a : Answer) → HasEnded (Unit {0}) x y broken a how → HasOneOutcome (Unit {0}) (OrBare IsOne) x y a
    breaks how a ended =
        record { outcome = broken; is_one = inl (by_tree (tree.Lost 0)); no_fault = tree_no_fault (tree.Lost 0); how = how; ended = ended }

    -- whatever the call answered, an outcome of this kind came, or a first part of it
    pub some_come : HasOneOutcome (Unit {0}) (OrBare IsOne) x y (answered result)
    some_come = of result refl cause sink_calls out_calls
      where
        of : (e : Result A Stop) → result ≡ e → RestoreStopCause layout mid new e → SinkCounts x.sink_calls y.sink_calls e → OutCounts x.out_calls y.out_calls e
            → HasOneOutcome (Unit {0}) (OrBare IsOne) x y (answered e)
        of (Ok a) is cause sc oc = by_answer (Done (left_out a)) (by_value a) (done_no_fault (left_out a)) sc oc
        of (Err (stop.NoTree id)) is cause sc oc = by_answer (NoTree id) (by_none id is) (record { no_out = λ e. cc; no_sink = λ e. cc }) sc oc
        of (Err (stop.Tree f)) is cause sc oc = by_answer (tree_answer f) (by_tree f) (tree_no_fault f) sc oc
        of (Err stop.Sink) is cause sc oc =
            breaks SinkFailed SinkFault (refl, ((sc.0, sc.1), sc.2), ⊎_elim (λ same. inl same) (λ one. inr ((one.0, one.1), one.2)) oc, all)
        of (Err stop.Out) is cause sc oc = breaks OutFailed OutFault (refl, ((oc.0, oc.1), oc.2), sc, all)
        of (Err stop.Memory) is cause sc oc = breaks Wanted Memory (refl, tt, sc, oc, all)
        of (Err other) is cause sc oc = absurd cause

  -- the call doesn't answer that an image failed
  no_image : (slot : ℕ) → answered result ≢ ImageFault slot
  no_image slot = of result cause
    where
      of : (r : Result A Stop) → RestoreStopCause layout mid new r → answered r ≢ ImageFault slot
      of (Err (stop.Tree (tree.Lost a))) cause e = cc
      of (Err (stop.Image other)) cause e = absurd cause
      of r cause e = cc

  -- the call answers nothing that the words or the superblocks alone decide
  none_of : NoneOf (answered result)
  none_of = of result
    where
      of : (r : Result A Stop) → NoneOf (answered r)
      of (Err (stop.Tree (tree.Lost a))) = tt
      of r = tt

  -- since the filesystem was opened
  module _ (old : Seen) (first : OnlyReads old mid) (second : OnlyReads mid new) (volume : Volume) (is_layout : volume.store.layout ≡ layout) (answer : Answer)
      (is : answer ≡ answered result) where
    -- a fault of a tree that the call answers has its cause by the layout
    tree_cause : IsLayoutOf old new layout → HasTreeCause old new (answered result)
    tree_cause own fault is = (layout, own, of result cause (ap tree_in is ∙ tree_back fault))
      where
        of : (r : Result A Stop) → RestoreStopCause layout mid new r → tree_in (answered r) ≡ Some fault → FaultCause layout old new fault
        of (Ok a) cause e = absurd (cc e)
        of (Err (stop.Tree f)) cause e = let same : f ≡ fault = cc (sym (tree_back f) ∙ e) in subst (FaultCause layout old new) same
            (cause_since new layout layout f refl first cause)
        of (Err (stop.NoTree id)) cause e = absurd (cc e)
        of (Err stop.Sink) cause e = absurd (cc e)
        of (Err stop.Out) cause e = absurd (cc e)
        of (Err stop.Memory) cause e = absurd (cc e)
        of (Err other) cause e = absurd cause

    -- the images were only read, and a fault of a tree that is answered has its cause
    pub listed_behind : IsLayoutOf old new layout → IsBehind MayMend AnyFault old new answer
    listed_behind own = subst (IsBehind MayMend AnyFault old new) (sym is) (record {
      reads = reads_more first second;
      image = λ slot e. absurd (no_image slot e);
      tree = λ fault is told. tree_cause own fault is;
      hidden = inr (inr (mends_of (answered result) none_of));
      no_usage = λ at e. subst NoneOf e none_of;
      no_limit = λ n e. subst NoneOf e none_of;
    })

    -- whatever failed, the command came to an outcome of these steps, or to a first part of it
    pub listed_told : (IsOne : Outcome → Type 0) → ((a : A) → IsOne (record { answer = Done (left_out a); steps = done }))
        → ((f : TreeFault) → IsOne (record { answer = tree_answer f; steps = done }))
        → ((id : ℕ) → result ≡ Err (stop.NoTree id) → IsOne (record { answer = NoTree id; steps = done })) → HasOneOutcome (Unit {0}) (OrBare IsOne) x y answer
    listed_told IsOne by_value by_tree by_none = subst (λ a. HasOneOutcome (Unit {0}) (OrBare IsOne) x y a) (sym is) (some_come IsOne by_value by_tree by_none)

    -- where no read failed
    module _ (run : Images → Run Want Fault Step A) where
      -- a call that follows the images' run comes to it
      steadily : (images : Images) → Steady mid.account.faults new.account.faults → Follows Is part [] (run images) done (ended result)
          → HasOneOutcome (Unit {0}) (λ outcome. listed_by left_out (run images) ≡ outcome) x y (answered result)
      steadily images steady follows =
          follows_come (run images) (λ outcome. listed_by left_out (run images) ≡ outcome) refl
          (λ u upto rest place named. absurd (none_unread layout mid new steady u (wants_of upto) named)) follows

      -- the command comes to what the images come to, or memory was wanted
      pub listed_effect : (wanted : Images → Outcome)
          → ((images : Images) → filesystem_of images ≡ Ok (filesystem_in volume) → wanted images ≡ listed_by left_out (run images))
          → IfSteady mid.held mid.account new.account (λ images. Follows Is part [] (run images) done (ended result))
          → IfSteady old.held old.account mid.account (λ images. OpensFilesystem images (Ok volume))
          → IfSteady old.held old.account new.account (λ images. HasOneOutcome (Unit {0}) (OrMemory (λ outcome. wanted images ≡ outcome)) x y answer)
      listed_effect wanted wants follows opens =
          of old.held opens (subst (λ held. IfSteady held mid.account new.account (λ images. Follows Is part [] (run images) done (ended result)))
          (ap (λ (s : Seen). s.held) first.same) follows)
        where
          of : (held : Option Images) → IfSteady held old.account mid.account (λ images. OpensFilesystem images (Ok volume))
              → IfSteady held mid.account new.account (λ images. Follows Is part [] (run images) done (ended result))
              → IfSteady held old.account new.account (λ images. HasOneOutcome (Unit {0}) (OrMemory (λ outcome. wanted images ≡ outcome)) x y answer)
          of None opens follows = tt
          of (Some images) opens follows = λ steady.
              let opened : filesystem_of images ≡ Ok (filesystem_in volume) = opens
              (omega (arith, steady.0, second.later), omega (arith, steady.1, second.later)) in
              let later : Steady mid.account.faults new.account.faults = (omega (arith, steady.0, first.later), steady.1) in
              subst (λ a. HasOneOutcome (Unit {0}) (OrMemory (λ outcome. wanted images ≡ outcome)) x y a) (sym is)
              (comes_also (Unit {0}) (Unit {0}) (λ outcome. listed_by left_out (run images) ≡ outcome) (OrMemory (λ outcome. wanted images ≡ outcome)) x y
              (answered result)
              (λ u. u) (λ outcome e. inl (wants images opened ∙ e)) (steadily images later (follows later)))

    -- where the images agree; there may be several runs, as by several candidates of a sector that is tested by nothing
    module _ (IsRun : Images → Run Want Fault Step A → Type 0) where
      -- the command comes to one of the images' runs, or to it up to a block that could not be read
      pub listed_agreed : (IsOne : Images → Outcome → Type 0)
          → ((images : Images) → filesystem_of images ≡ Ok (filesystem_in volume) → (r : Run Want Fault Step A) → IsRun images r
          → IsOne images (listed_by left_out r))
          → ((images : Images) → filesystem_of images ≡ Ok (filesystem_in volume) → (r : Run Want Fault Step A) → IsRun images r
          → HasUnread Is r (IsOne images))
          → IfSome mid.held (λ images. Agreed images layout → (r : Run Want Fault Step A) × IsRun images r × Follows Is part [] r done (ended result))
          → IfSome old.held (λ images. OpensAs images old mid (Ok volume))
          → IfSome old.held (λ images. AreAgreed images → HasOneOutcome (Unit {0}) (IsOne images) x y answer)
      listed_agreed IsOne one unread follows opens =
          agreeing_opened old mid volume opens (λ images. HasOneOutcome (Unit {0}) (IsOne images) x y answer)
          (λ images told opened agreed.
          let held : mid.held ≡ Some images = ap (λ (s : Seen). s.held) first.same ∙ told in
          let so = subst (λ (o : Option Images). IfSome o
          (λ i. Agreed i layout → (r : Run Want Fault Step A) × IsRun i r × Follows Is part [] r done (ended result))) held follows in
          let run = so (subst (Agreed images) is_layout agreed) in
          subst (λ a. HasOneOutcome (Unit {0}) (IsOne images) x y a) (sym is)
          (follows_come run.0 (IsOne images) (one images opened run.0 run.1) (unread images opened run.0 run.1) run.2))
