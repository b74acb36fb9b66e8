-- What a check comes to.
use Rattle.std.proofs.Common.{◌≡◌, ◌≢◌, inl, inr, ℕ, true, false, Bool, cond, eqb, List, [], ◌∷◌, length, Option, Some, None, Result, Ok, Err, refl, sym, ap}
use Rattle.std.proofs.Common.{◌∙◌, subst, arith}
use Rattle.btr_check.specs.Before.{refusal}
use Rattle.btr_check.specs.Findings.{findings}
use Rattle.btr_check.specs.Running.{IsAnyUnread, OfReading, StopUnread, is_outside}
use Rattle.btr_check.specs.Text.{findings_text}
use Rattle.btr_rack.specs.Rack.{Seen, OnlyReads, Steady}
use Rattle.btr_rack.specs.Out.{CallAccount, Counts, Puts}
use Rattle.btr_rack.specs.declared.error.SinkError.{SinkError}
use Rattle.btr_rack.specs.declared.error.SinkError.TheVariants.{Failed, Memory as memory_fault}
use Rattle.btr_rack.proofs.Reading.{reads_more}
use Rattle.btr_read.specs.Layout.{Layout}
use Rattle.btr_findings.specs.declared.finding.Finding.{Finding}
use Rattle.btr_volume.specs.Start.{Images}
use Rattle.btr_volume.specs.declared.stop.Stop.{Stop}
use Rattle.btr_volume.specs.declared.stop.Stop.TheVariants as stop
use Rattle.btr_volume.specs.declared.volume.Volume.{Volume}
use Rattle.btr_walk.proofs.Fetched.{cause_since}
use Rattle.btr_walk.specs.Reading.{FaultCause}
use Rattle.btr_walk.specs.declared.fault.TreeFault.{TreeFault}
use Rattle.btr_walk.specs.declared.fault.TreeFault.TheVariants as tree
use Rattle.btr_dump.specs.Pieces.{Text}
use Rattle.btr_run.specs.Answers.{error_line}
use Rattle.btr_run.specs.Behind.{IfSteady, IsBehind, IsLayoutOf, IsUnread, HasToldCause}
use Rattle.btr_run.specs.Checked.{IsCheckOutcome, check_in, check_outcome, filesystem_by, found, listing, unless_refused}
use Rattle.btr_run.specs.Faults.{stop_answer}
use Rattle.btr_run.specs.Filesystem.{OpensFilesystem, MayMend, filesystem_in, filesystem_of}
use Rattle.btr_run.specs.Outcomes.{Outcome, IsNoFault, OrBare, OrMemory, ShowsOutcome, due_after, refused, showing}
use Rattle.btr_run.specs.declared.answer.Answer.{Answer}
use Rattle.btr_run.specs.declared.answer.Answer.TheVariants.{Done, Found, ImageFault}
use Rattle.btr_run.proofs.Coming.{shows_bare}
use Rattle.btr_read.proofs.Fetched.{map_some}
use Rattle.btr_run.proofs.Faulting.{no_tree, tree_in, tree_back}
use Rattle.btr_run.proofs.TreesShown.{NoneOf, mends_of, none_unread, tree_no_fault}

-- two parts of a way, where no call failed on the whole of it
pub steady_both : (P Q : Images → Type 0) (old mid new : Seen) → OnlyReads old mid → OnlyReads mid new → IfSteady old.held old.account mid.account P
    → IfSteady mid.held mid.account new.account Q
    → IfSteady old.held old.account new.account (λ images. P images × Q images)
steady_both P Q old mid new first second p q = of old.held p (subst (λ held. IfSteady held mid.account new.account Q) (ap (λ (s : Seen). s.held) first.same) q)
  where
    of : (held : Option Images) → IfSteady held old.account mid.account P → IfSteady held mid.account new.account Q
        → IfSteady held old.account new.account (λ images. P images × Q images)
    of None p q = tt
    of (Some images) p q = λ steady. (
      p (omega (arith, steady.0, second.later), omega (arith, steady.1, second.later)),
      q
          (omega (arith, steady.0, first.later), steady.1),
    )

-- a stop of a check is none of the faults of the output and of the sink, has a line, and is none of what the words or the superblocks alone decide
module _ (end : Stop) (reading : OfReading end) where
  -- the answer of a stop of a check is no fault of the output or of the sink
  pub stop_no_fault : IsNoFault (stop_answer end)
  stop_no_fault = of end reading
    where
      of : (s : Stop) → OfReading s → IsNoFault (stop_answer s)
      of (stop.Tree f) r = tree_no_fault f
      of stop.Sink r = absurd r
      of stop.Out r = absurd r
      of s r = record { no_out = λ e. cc; no_sink = λ e. cc }

  -- the answer of a stop of a check has a line
  pub stop_line : error_line (stop_answer end) ≢ []
  stop_line = of end reading
    where
      of : (s : Stop) → OfReading s → error_line (stop_answer s) ≢ []
      of (stop.Tree (tree.Lost a)) r e = cc
      of stop.Out r e = absurd r
      of s r e = cc

  -- the answer of a stop of a check is none that the words or the superblocks alone decide
  pub stop_none : NoneOf (stop_answer end)
  stop_none = of end reading
    where
      of : (s : Stop) → OfReading s → NoneOf (stop_answer s)
      of (stop.Tree (tree.Lost a)) r = tt
      of s r = tt

  -- the answer of a stop of a check is not that an image failed
  pub stop_no_image : (slot : ℕ) → stop_answer end ≢ ImageFault slot
  stop_no_image slot = of end reading
    where
      of : (s : Stop) → OfReading s → stop_answer s ≢ ImageFault slot
      of (stop.Tree (tree.Lost a)) r e = cc
      of (stop.Image other) r e = absurd r
      of s r e = cc

-- The filesystem is open, and it isn't checked.
module _ (read_data : Bool) (old mid new : Seen) (first : OnlyReads old mid) (second : OnlyReads mid new) (layout : Layout) (end : Stop)
    (reading : OfReading end) (cause : StopUnread (IsAnyUnread layout mid new) end) (answer : Answer) (is : answer ≡ stop_answer end) where
  -- by what refuses it, or for want of memory
  stopped_one : (volume : Volume) (images : Images) → volume.store.layout ≡ layout → filesystem_of images ≡ Ok (filesystem_in volume)
      → (is_outside end ≡ false → refusal (filesystem_by images (filesystem_in volume)) ≡ Some end)
      → Steady mid.account.faults new.account.faults → OrMemory (λ outcome. Some (check_outcome read_data images) ≡ Some outcome) (refused (stop_answer end))
  stopped_one volume images same opened refuses steady = of end reading cause refuses
    where
      -- a stop that refuses the filesystem is what the check comes to
      refusing : (s : Stop) → refusal (filesystem_by images (filesystem_in volume)) ≡ Some s
          → Some (check_outcome read_data images) ≡ Some (refused (stop_answer s))
      refusing s e = ap (λ f. Some (check_in read_data images f)) opened ∙ ap
          (λ r. Some (unless_refused r (listing (findings read_data (filesystem_by images (filesystem_in volume)))))) e

      of : (s : Stop) → OfReading s → StopUnread (IsAnyUnread layout mid new) s
          → (is_outside s ≡ false → refusal (filesystem_by images (filesystem_in volume)) ≡ Some s)
          → OrMemory (λ outcome. Some (check_outcome read_data images) ≡ Some outcome) (refused (stop_answer s))
      of (stop.NoTree id) r u f = inl (refusing (stop.NoTree id) (f refl))
      of (stop.Tree (tree.Lost a)) r u f = inl (refusing (stop.Tree (tree.Lost a)) (f refl))
      of (stop.Tree (tree.Unread a slot)) r u f = absurd (none_unread layout mid new steady (record { addr = a; slot = slot }) (u.0 ∷ []) (inl u.2))
      of (stop.Tree (tree.Unmapped a)) r u f = inl (refusing (stop.Tree (tree.Unmapped a)) (f refl))
      of (stop.Tree (tree.Crosses a)) r u f = inl (refusing (stop.Tree (tree.Crosses a)) (f refl))
      of (stop.Tree (tree.Malformed a)) r u f = inl (refusing (stop.Tree (tree.Malformed a)) (f refl))
      of (stop.Deletion id) r u f = inl (refusing (stop.Deletion id) (f refl))
      of stop.Balance r u f = inl (refusing stop.Balance (f refl))
      of stop.Memory r u f = inr refl
      of other r u f = absurd r

  -- where no call failed, a check that stopped put nothing, and its answer is what the images come to, or memory was wanted
  pub stopped_effect : (volume : Volume) → volume.store.layout ≡ layout → (text : Option Text) (account : CallAccount)
      → IfSteady old.held old.account mid.account (λ images. OpensFilesystem images (Ok volume))
      → IfSteady mid.held mid.account new.account (λ images. is_outside end ≡ false → refusal (filesystem_by images (filesystem_in volume)) ≡ Some end)
      → IfSteady old.held old.account new.account
      (λ images. ShowsOutcome (OrMemory (λ outcome. Some (check_outcome read_data images) ≡ Some outcome)) text text account account answer)
  stopped_effect volume same text account opens told =
      map_some old.held (λ images. Steady old.account.faults new.account.faults → OpensFilesystem images (Ok volume)
      × (is_outside end ≡ false → refusal (filesystem_by images (filesystem_in volume)) ≡ Some end))
      (λ images. Steady old.account.faults new.account.faults → ShowsOutcome (OrMemory
      (λ outcome. Some (check_outcome read_data images) ≡ Some outcome)) text text account account answer)
      (λ images both steady. subst (λ a. ShowsOutcome (OrMemory (λ outcome. Some (check_outcome read_data images) ≡ Some outcome)) text text account account a)
      (sym is)
      (shows_bare (OrMemory (λ outcome. Some (check_outcome read_data images) ≡ Some outcome)) text account (stop_answer end)
      (stopped_one volume images same (both steady).0 (both steady).1 (omega (arith, steady.0, first.later), steady.1)) (stop_no_fault end reading)))
      (steady_both (λ images. OpensFilesystem images (Ok volume))
      (λ images. is_outside end ≡ false → refusal (filesystem_by images (filesystem_in volume)) ≡ Some end) old mid new first second opens told)

  -- a check that stopped answered a refusal before anything else
  pub stopped_told : (text : Option Text) (account : CallAccount) → ShowsOutcome (OrBare IsCheckOutcome) text text account account answer
  stopped_told text account = subst (λ a. ShowsOutcome (OrBare IsCheckOutcome) text text account account a) (sym is)
      (shows_bare (OrBare IsCheckOutcome) text account (stop_answer end) (inr (refl, stop_line end reading)) (stop_no_fault end reading))

  -- where a check stopped at a block that could not be read, that has its cause
  stopped_cause : IsLayoutOf old new layout → HasToldCause IsUnread old new (stop_answer end)
  stopped_cause own fault e told = (layout, own, of end cause (ap tree_in e ∙ tree_back fault))
    where
      by : (f : TreeFault) → IsUnread f → StopUnread (IsAnyUnread layout mid new) (stop.Tree f) → FaultCause layout old new f
      by (tree.Unread a slot) u c = cause_since new layout layout (tree.Unread a slot) refl first (c.0, c.2)
      by other u c = absurd u

      of : (s : Stop) → StopUnread (IsAnyUnread layout mid new) s → tree_in (stop_answer s) ≡ Some fault → FaultCause layout old new fault
      of (stop.Tree f) c e =
          let same : f ≡ fault = cc (sym (tree_back f) ∙ e) in
          by fault told (subst (λ g. StopUnread (IsAnyUnread layout mid new) (stop.Tree g)) same c)
      of (stop.NoTree id) c e = absurd (cc e)
      of (stop.Deletion id) c e = absurd (cc e)
      of stop.Balance c e = absurd (cc e)
      of (stop.Missing id) c e = absurd (cc e)
      of (stop.Image slot) c e = absurd (cc e)
      of stop.Sink c e = absurd (cc e)
      of stop.Out c e = absurd (cc e)
      of stop.Memory c e = absurd (cc e)

  -- a check that stopped only read the images, and its answer has its cause where that is told
  pub stopped_behind : IsLayoutOf old new layout → IsBehind MayMend IsUnread old new answer
  stopped_behind own = subst (IsBehind MayMend IsUnread old new) (sym is) (record {
    reads = reads_more first second;
    image = λ slot e. absurd (stop_no_image end reading slot e);
    tree = stopped_cause own;
    hidden = inr (inr (mends_of (stop_answer end) (stop_none end reading)));
    no_usage = λ at e. subst NoneOf e (stop_none end reading);
    no_limit = λ n e. subst NoneOf e (stop_none end reading);
  })

-- the answer behind a list of findings, by whether there are none
no_fault_by : (none : Bool) (count : ℕ) → IsNoFault (cond none (Done 0) (Found count))
no_fault_by true count = record { no_out = λ e. cc; no_sink = λ e. cc }
no_fault_by false count = record { no_out = λ e. cc; no_sink = λ e. cc }

-- the answer of so many findings is no fault of the output or of the sink
pub found_no_fault : (count : ℕ) → IsNoFault (found count)
found_no_fault count = no_fault_by (eqb count 0) count

none_by : (none : Bool) (count : ℕ) (put : Result Unit SinkError) → NoneOf (due_after put (cond none (Done 0) (Found count)))
none_by true count (Ok u) = tt
none_by false count (Ok u) = tt
none_by none count (Err Failed) = tt
none_by none count (Err memory_fault) = tt

-- the answer that is due behind a list of findings is none that the words or the superblocks alone decide
pub listed_none : (count : ℕ) (put : Result Unit SinkError) → NoneOf (due_after put (found count))
listed_none count put = none_by (eqb count 0) count put

no_tree_by : (none : Bool) (count : ℕ) (put : Result Unit SinkError) → tree_in (due_after put (cond none (Done 0) (Found count))) ≡ None
no_tree_by true count (Ok u) = refl
no_tree_by false count (Ok u) = refl
no_tree_by none count (Err Failed) = refl
no_tree_by none count (Err memory_fault) = refl

-- the answer that is due behind a list of findings is no fault of a tree
pub listed_no_tree : (count : ℕ) (put : Result Unit SinkError) → tree_in (due_after put (found count)) ≡ None
listed_no_tree count put = no_tree_by (eqb count 0) count put

no_image_by : (none : Bool) (count : ℕ) (put : Result Unit SinkError) (slot : ℕ) → due_after put (cond none (Done 0) (Found count)) ≢ ImageFault slot
no_image_by true count (Ok u) slot e = cc
no_image_by false count (Ok u) slot e = cc
no_image_by none count (Err Failed) slot e = cc
no_image_by none count (Err memory_fault) slot e = cc

-- the answer that is due behind a list of findings is not that an image failed
pub listed_no_image : (count : ℕ) (put : Result Unit SinkError) (slot : ℕ) → due_after put (found count) ≢ ImageFault slot
listed_no_image count put slot = no_image_by (eqb count 0) count put slot

-- The filesystem is open, it was checked, and a list of findings was put.
module _ (read_data : Bool) (old mid new : Seen) (first : OnlyReads old mid) (second : OnlyReads mid new) (all : List Finding) (put : Result Unit SinkError)
    (answer : Answer) (due : answer ≡ due_after put (found (length all))) where
  module _ (text text' : Option Text) (before after : CallAccount) (puts : Puts text text' (findings_text all) put) (counts : Counts before after put) where
    -- the list of findings was shown, or a first part of it, as one of some outcomes
    pub listed : (IsOne : Outcome → Type 0) → IsOne (showing (listing all)) → ShowsOutcome IsOne text text' before after answer
    listed IsOne one = record {
      shown = listing all;
      is_one = one;
      no_fault = found_no_fault (length all);
      put = record
          { put = put; puts = puts; counts = counts; due = due };
    }

    -- where no call failed, the findings that were put are those that the check comes to
    pub listed_effect : (volume : Volume) → IfSteady old.held old.account mid.account (λ images. OpensFilesystem images (Ok volume))
        → IfSteady mid.held mid.account new.account
        (λ images. (refusal (filesystem_by images (filesystem_in volume)) ≡ None) × (all ≡ findings read_data (filesystem_by images (filesystem_in volume))))
        → IfSteady old.held old.account new.account
        (λ images. ShowsOutcome (OrMemory (λ outcome. Some (check_outcome read_data images) ≡ Some outcome)) text text' before after answer)
    listed_effect volume opens told =
        map_some old.held (λ images. Steady old.account.faults new.account.faults → OpensFilesystem images (Ok volume)
        × ((refusal (filesystem_by images (filesystem_in volume)) ≡ None) × (all ≡ findings read_data (filesystem_by images (filesystem_in volume)))))
        (λ images. Steady old.account.faults new.account.faults → ShowsOutcome
        (OrMemory (λ outcome. Some (check_outcome read_data images) ≡ Some outcome)) text text' before after answer)
        (λ images both steady. let h = both steady in listed (OrMemory (λ outcome. Some (check_outcome read_data images) ≡ Some outcome))
        (inl (ap (λ f. Some (check_in read_data images f)) h.0
        ∙ ap (λ r. Some (unless_refused r (listing (findings read_data (filesystem_by images (filesystem_in volume)))))) h.1.0
        ∙ ap (λ l. Some (showing (listing l))) (sym h.1.1))))
        (steady_both (λ images. OpensFilesystem images (Ok volume))
        (λ images. (refusal (filesystem_by images (filesystem_in volume)) ≡ None)
        × (all ≡ findings read_data (filesystem_by images (filesystem_in volume)))) old mid new first second opens told)

    -- a list of findings is one of the outcomes of a check
    pub listed_told : ShowsOutcome (OrBare IsCheckOutcome) text text' before after answer
    listed_told = listed (OrBare IsCheckOutcome) (inl (record { all = all; is = refl }))

  -- a check that listed findings only read the images, and answered no fault of a tree or an image
  pub listed_behind : IsBehind MayMend IsUnread old new answer
  listed_behind = subst (IsBehind MayMend IsUnread old new) (sym due) (record {
    reads = reads_more first second;
    image = λ slot e. absurd (listed_no_image (length all) put slot e);
    tree = λ fault e told. absurd (no_tree (due_after put (found (length all))) (listed_no_tree (length all) put) fault e);
    hidden = inr (inr (mends_of (due_after put (found (length all))) (listed_none (length all) put)));
    no_usage = λ at e. subst NoneOf e (listed_none (length all) put);
    no_limit = λ n e. subst NoneOf e (listed_none (length all) put);
  })
