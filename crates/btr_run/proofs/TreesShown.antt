-- What the commands that show trees come to.
use Rattle.std.proofs.Common.{◌≡◌, ◌≢◌, ◌⊎◌, inl, inr, ⊎_elim, ℕ, List, [], ◌∷◌, length, take, Option, Some, None, Result, Ok, Err, refl, sym, ap, ◌∙◌, subst}
use Rattle.std.proofs.Common.{arith}
use Rattle.std.specs.Option.{IfSome}
use Rattle.std.proofs.lemmas.List.{take_all}
use Rattle.btr_dump.specs.Pieces.{Text}
use Rattle.btr_dump.specs.Showing.{Grows, TextRun, TellsBlock, PutsText, PutsAsked}
use Rattle.btr_dump.specs.Stops.{DumpStopCause, StopCounts}
use Rattle.btr_walk.proofs.Fetched.{cause_since}
use Rattle.btr_prog.specs.Answers.{Names}
use Rattle.btr_prog.specs.Calls.{Any, First}
use Rattle.btr_prog.specs.Prog.{wants_of}
use Rattle.btr_rack.specs.Rack.{Account, Seen, NoneFailed, OnlyReads, Steady}
use Rattle.btr_rack.specs.Out.{Adds, CallAccount}
use Rattle.btr_rack.specs.declared.error.SinkError.TheVariants as sink
use Rattle.btr_rack.proofs.Reading.{reads_more}
use Rattle.btr_read.specs.Fate.{Agree, Agreed, fate}
use Rattle.btr_read.specs.Layout.{Layout}
use Rattle.btr_read.specs.declared.want.Want.{Want}
use Rattle.btr_read.specs.declared.want.Want.TheVariants.{Block}
use Rattle.btr_volume.specs.Opening.{SuperUnread}
use Rattle.btr_volume.specs.Start.{Images}
use Rattle.btr_volume.specs.declared.fault.OpenFault.{OpenFault}
use Rattle.btr_volume.specs.declared.fault.OpenFault.TheVariants as opening
use Rattle.btr_volume.specs.declared.stop.Stop.{Stop}
use Rattle.btr_volume.specs.declared.stop.Stop.TheVariants as stop
use Rattle.btr_volume.specs.declared.which.Which.TheVariants.{Images as images_limit}
use Rattle.btr_walk.specs.Reading.{Map, UnreadBlock, FaultCause, Tells, unread_by}
use Rattle.btr_walk.specs.declared.fault.TreeFault.{TreeFault}
use Rattle.btr_walk.specs.declared.fault.TreeFault.TheVariants as tree
use Rattle.btr_run.specs.Answers.{error_line}
use Rattle.btr_run.specs.Behind.{AnyFault, IfSteady, IsBehind, IsFault, IsLayoutOf, HasTreeCause}
use Rattle.btr_run.specs.Faults.{open_answer, tree_answer}
use Rattle.btr_run.specs.Filesystem.{Filesystem, OpensFilesystem, IsBySupers, IsRefusal, MayMend, filesystem_of}
use Rattle.btr_run.specs.Outcomes.{Outcome, IsNoFault, IsPut, Shown, ShowsOutcome, OrBare, OrMemory, refused, showing}
use Rattle.btr_run.specs.Queries.Trees.{BreaksOff, IsTreesOutcome, asked_answer, call_answer, shown_by, whole_answer}
use Rattle.btr_run.specs.declared.answer.Answer.{Answer}
use Rattle.btr_run.specs.declared.answer.Answer.TheVariants.{Done, Usage, NoSuper, SumKind, Foreign, Twin, Unsupported, Geometry, LogPending, BadArray, Limit}
use Rattle.btr_run.specs.declared.answer.Answer.TheVariants.{NoTree, ImageFault, Memory, OutFault}
use Rattle.btr_run.proofs.Coming.{shows_bare}
use Rattle.btr_read.proofs.Fetched.{map_some}
use Rattle.btr_run.proofs.Faulting.{tree_in, tree_back}
use Rattle.btr_run.proofs.Refusals.{open_line, open_no_fault, open_no_usage}
use Rattle.btr_run.proofs.Shows.{HasUnread, asked_come, puts_come}
use Rattle.btr_run.proofs.Wanted.{names_addr}
use Rattle.btr_read.proofs.Compared.{steady_not_rose}

-- where no read failed no block is unread
pub none_unread : (layout : Layout) (old new : Seen) → Steady old.account.faults new.account.faults → (u : UnreadBlock) (ws : List Want)
    → Names (unread_by layout old new) u ws → ⊥
none_unread layout old new steady u [] names = names
none_unread layout old new steady u (w ∷ ws) names = ⊎_elim (λ is. steady_not_rose old.account.faults new.account.faults steady is.unread.rose)
    (λ rest. none_unread layout old new steady u ws rest) names

-- what is told where something holds
pub told_where : {X : Type 0} (o : Option X) (S : Type 0) (Q : X → Type 0) → (S → IfSome o Q) → IfSome o (λ x. S → Q x)
told_where None S Q f = tt
told_where (Some x) S Q f = f

module _ (layout : Layout) (old new : Seen) where
  -- the block of a want could not be read in these calls
  abbrev Is : UnreadBlock → Want → Type 0
  Is = unread_by layout old new

  -- what calls tell where no read failed
  pub steadily : (P : Map → Type 0) → Tells layout old new P → IfSteady old.held old.account new.account (λ images. P (fate images layout))
  steadily P tells = told_where old.held (Steady old.account.faults new.account.faults) (λ images. P (fate images layout))
      (λ steady. tells.calls.content First (omega (arith, tells.calls.later, steady.0), steady.1))

  -- the same of calls that read a block by its address alone
  pub steadily_block : (addr : ℕ) (P : Map → Type 0) → TellsBlock layout addr old new P → IfSteady old.held old.account new.account
      (λ images. P (fate images layout))
  steadily_block addr P tells = told_where old.held (Steady old.account.faults new.account.faults) (λ images. P (fate images layout))
      (λ steady. tells.calls.content First (omega (arith, tells.calls.later, steady.0), steady.1))

  -- what calls tell where the images agree
  pub told_agreed : (P : Map → Type 0) → Tells layout old new P → IfSome old.held (λ images. Agreed images layout → P (fate images layout))
  told_agreed P tells = of old.held refl
    where
      of : (held : Option Images) → old.held ≡ held → IfSome held (λ images. Agreed images layout → P (fate images layout))
      of None is = tt
      of (Some images) is = λ agreed. subst (λ (o : Option Images). IfSome o (λ i. P (fate i layout))) is
          (tells.calls.content Any (subst (λ (o : Option Images). IfSome o (λ i. Agreed i layout)) (sym is) agreed))

  -- the same of calls that read a block by its address alone, where its copies agree
  pub told_block : (addr : ℕ) (P : Map → Type 0) → TellsBlock layout addr old new P → IfSome old.held
      (λ images. Agree images layout (Block addr) → P (fate images layout))
  told_block addr P tells = of old.held refl
    where
      of : (held : Option Images) → old.held ≡ held → IfSome held (λ images. Agree images layout (Block addr) → P (fate images layout))
      of None is = tt
      of (Some images) is = λ agree. subst (λ (o : Option Images). IfSome o (λ i. P (fate i layout))) is
          (tells.calls.content Any (subst (λ (o : Option Images). IfSome o (λ i. Agree i layout (Block addr))) (sym is) agree))

  -- a run up to a block that could not be read
  breaks_off : {A : Type 0} (r : TextRun A) → HasUnread Is r (BreaksOff r)
  breaks_off r u upto rest place named =
      record { unread = u; before = upto; behind = rest; place = place; wanted = names_addr layout old new u (wants_of upto) named; is = refl }

  -- where no read failed, no run is broken off at a block
  none_off : {A : Type 0} (IsOne : Outcome → Type 0) (r : TextRun A) → Steady old.account.faults new.account.faults → HasUnread Is r IsOne
  none_off IsOne r steady u upto rest place named = absurd (none_unread layout old new steady u (wants_of upto) named)

  module _ (text text' : Option Text) (before after : CallAccount) (result : Result (Unit {0}) Stop) (counts : StopCounts before after result) where
    -- what a call comes to that shows the text of a run
    pub run_comes : (run : Map → TextRun (Unit {0}))
        → IfSteady old.held old.account new.account (λ images. PutsText Is (run (fate images layout)) text text' result)
        → IfSteady old.held old.account new.account
        (λ images. ShowsOutcome (λ outcome. outcome ≡ showing (shown_by whole_answer (run (fate images layout)))) text text' before after (call_answer result))
    run_comes run =
        map_some old.held _ _ (λ images puts steady.
        let IsOne : Outcome → Type 0 = λ outcome. outcome ≡ showing (shown_by whole_answer (run (fate images layout))) in
        puts_come Is IsOne text text' before after (run (fate images layout)) refl (none_off IsOne (run (fate images layout)) steady) result
        (puts steady) counts)

    -- the same where a tree is asked for
    pub tree_comes : (run : Map → TextRun (Option ℕ))
        → IfSteady old.held old.account new.account (λ images. PutsAsked Is (run (fate images layout)) text text' result)
        → IfSteady old.held old.account new.account
        (λ images. ShowsOutcome (λ outcome. outcome ≡ showing (shown_by asked_answer (run (fate images layout)))) text text' before after (call_answer result))
    tree_comes run =
        map_some old.held _ _ (λ images puts steady.
        let IsOne : Outcome → Type 0 = λ outcome. outcome ≡ showing (shown_by asked_answer (run (fate images layout))) in
        asked_come Is IsOne text text' before after (run (fate images layout)) refl (none_off IsOne (run (fate images layout)) steady) result
        (puts steady) counts)

    -- what it comes to where the images agree in what it reads
    module _ (Agrees : Images → Type 0) where
      -- a call that shows the text of a run comes to it, or to it up to a block that could not be read
      pub run_agreed : (run : Map → TextRun (Unit {0})) → IfSome old.held (λ images. Agrees images → PutsText Is (run (fate images layout)) text text' result)
          → IfSome old.held (λ images. Agrees images → ShowsOutcome
          (λ outcome. (outcome ≡ showing (shown_by whole_answer (run (fate images layout))))
          ⊎ BreaksOff (run (fate images layout)) outcome) text text' before after (call_answer result))
      run_agreed run =
          map_some old.held _ _ (λ images puts agreed. let r = run (fate images layout) in
          puts_come Is (λ outcome. (outcome ≡ showing (shown_by whole_answer r)) ⊎ BreaksOff r outcome) text text' before after r (inl refl)
          (λ u upto rest place named. inr (breaks_off r u upto rest place named)) result (puts agreed) counts)

      -- so does one that shows a tree that is asked for
      pub tree_agreed : (run : Map → TextRun (Option ℕ)) → IfSome old.held (λ images. Agrees images → PutsAsked Is (run (fate images layout)) text text' result)
          → IfSome old.held (λ images. Agrees images → ShowsOutcome
          (λ outcome. (outcome ≡ showing (shown_by asked_answer (run (fate images layout))))
          ⊎ BreaksOff (run (fate images layout)) outcome) text text' before after (call_answer result))
      tree_agreed run =
          map_some old.held _ _ (λ images puts agreed. let r = run (fate images layout) in
          asked_come Is (λ outcome. (outcome ≡ showing (shown_by asked_answer r)) ⊎ BreaksOff r outcome) text text' before after r (inl refl)
          (λ u upto rest place named. inr (breaks_off r u upto rest place named)) result (puts agreed) counts)

-- the filesystem isn't opened
module _ (answer result : Answer) (is : result ≡ answer) (refusal : IsRefusal answer) where
  -- the refusal is no fault of the output or of the sink
  no_fault : IsNoFault answer
  no_fault = subst IsNoFault (sym refusal.is) (open_no_fault refusal.refusal)

  -- where no call failed, the answer is what the command comes to over the images, or memory was wanted
  pub unopened_effect : (outcome_in : Images → Result Filesystem Answer → Outcome)
      (bare : (images : Images) (a : Answer) → outcome_in images (Err a) ≡ refused a)
      (old new : Account) (held : Option Images) (text : Option Text) (account : CallAccount)
      → IfSteady held old new (λ images. OpensFilesystem images (Err answer))
      → IfSteady held old new (λ images. ShowsOutcome (OrMemory
      (λ outcome. Some (outcome_in images (filesystem_of images)) ≡ Some outcome)) text text account account result)
  unopened_effect outcome_in bare old new held text account =
      map_some held (λ images. Steady old.faults new.faults → OpensFilesystem images (Err answer))
      (λ images. Steady old.faults new.faults → ShowsOutcome (OrMemory
      (λ outcome. Some (outcome_in images (filesystem_of images)) ≡ Some outcome)) text text account account result)
      (λ images opens steady. subst (λ a. ShowsOutcome (OrMemory
      (λ outcome. Some (outcome_in images (filesystem_of images)) ≡ Some outcome)) text text account account a) (sym is)
      (shows_bare (OrMemory (λ outcome. Some (outcome_in images (filesystem_of images)) ≡ Some outcome)) text account answer
      (⊎_elim (λ none. inl (ap (λ f. Some (outcome_in images f)) none ∙ ap (λ o. Some o) (bare images answer))) (λ want. inr (ap refused want))
      (opens steady)) no_fault))

  -- whatever failed, the answer is a refusal before anything else
  pub unopened_told : (IsOne : Outcome → Type 0) (text : Option Text) (account : CallAccount) → ShowsOutcome (OrBare IsOne) text text account account result
  unopened_told IsOne text account =
      subst (λ a. ShowsOutcome (OrBare IsOne) text text account account a) (sym is)
      (shows_bare (OrBare IsOne) text account answer (inr (refl, λ e. open_line refusal.refusal (ap error_line (sym refusal.is) ∙ e))) no_fault)

  -- what lies behind the refusal lies behind the command's answer
  pub unopened_behind : (IsTold : TreeFault → Type 0) (old new : Seen) → OnlyReads old new → ((slot : ℕ) → answer ≡ ImageFault slot → SuperUnread old new slot)
      → HasTreeCause old new answer
      → NoneFailed old.account new.account ⊎ IsFault answer ⊎ MayMend answer → ((n : ℕ) → answer ≢ Limit images_limit n)
      → IsBehind MayMend IsTold old new result
  unopened_behind IsTold old new reads image cause hidden counted = record {
    reads = reads;
    image = λ slot e. image slot (sym is ∙ e);
    tree = λ fault e told. cause fault (sym is ∙ e);
    hidden = subst (λ a. NoneFailed old.account new.account ⊎ IsFault a ⊎ MayMend a) (sym is) hidden;
    no_usage = λ at e. open_no_usage refusal.refusal at (sym refusal.is ∙ sym is ∙ e);
    no_limit = λ n e. counted n (sym is ∙ e);
  }

-- a tree that can't be read on is neither a fault of the output nor of the sink
pub tree_no_fault : (f : TreeFault) → IsNoFault (tree_answer f)
tree_no_fault (tree.Lost a) = record { no_out = λ e. cc; no_sink = λ e. cc }
tree_no_fault fault = record { no_out = λ e. cc; no_sink = λ e. cc }

module _ (text text' : Option Text) (before after : CallAccount) (answer : Answer) (result : Result (Unit {0}) Stop) (is : answer ≡ call_answer result)
    (counts : StopCounts before after result) where
  -- whatever failed, a text was shown, to its end or up to a fault of a tree, or there is no such tree; or a first part of it
  pub shown_told : Grows text text' → ShowsOutcome (OrBare IsTreesOutcome) text text' before after answer
  shown_told grows = subst (λ a. ShowsOutcome (OrBare IsTreesOutcome) text text' before after a) (sym is) (of result counts)
    where
      some : (n : ℕ) × Adds text text' (take n grows.more)
      some = (length grows.more, subst (Adds text text') (sym (take_all (length grows.more) grows.more (omega arith))) grows.adds)

      no_fault : IsNoFault (Done 0)
      no_fault = record { no_out = λ e. cc; no_sink = λ e. cc }

      -- an answer is due behind the text that was put
      so : (a result : Answer) → IsNoFault a → (a ≡ Done 0) ⊎ ((id : ℕ) × (a ≡ NoTree id)) ⊎ ((fault : TreeFault) × (a ≡ tree_answer fault))
          → IsPut text text' before after grows.more a result → ShowsOutcome (OrBare IsTreesOutcome) text text' before after result
      so a result no_fault ends put =
          let shown : Shown = record { answer = a; text = grows.more } in
          record { shown = shown; is_one = inl (record { shown = shown; is = refl; ends = ends }); no_fault = no_fault; put = put }

      of : (r : Result (Unit {0}) Stop) → StopCounts before after r → ShowsOutcome (OrBare IsTreesOutcome) text text' before after (call_answer r)
      of (Ok u) counts = so (Done 0) (Done 0) no_fault (inl refl) (record { put = Ok tt; puts = grows.adds; counts = counts; due = refl })
      of (Err (stop.Tree f)) counts =
          so (tree_answer f) (tree_answer f) (tree_no_fault f) (inr (inr (f, refl))) (record { put = Ok tt; puts = grows.adds; counts = counts; due = refl })
      of (Err (stop.NoTree id)) counts =
          so (NoTree id) (NoTree id) (record { no_out = λ e. cc; no_sink = λ e. cc }) (inr (inl (id, refl)))
          (record { put = Ok tt; puts = grows.adds; counts = counts; due = refl })
      of (Err stop.Out) counts = so (Done 0) OutFault no_fault (inl refl) (record { put = Err sink.Failed; puts = some; counts = counts; due = refl })
      of (Err stop.Memory) counts = so (Done 0) Memory no_fault (inl refl) (record { put = Err sink.Memory; puts = some; counts = counts; due = refl })
      of (Err other) counts = absurd counts

-- the answer is none of those that the words or the superblocks alone decide
abbrev pub NoneOf : Answer → Type 0
NoneOf (Usage at) = ⊥
NoneOf (Limit images_limit n) = ⊥
NoneOf (NoSuper slot) = ⊥
NoneOf (SumKind kind) = ⊥
NoneOf (Foreign slot) = ⊥
NoneOf (Twin slot) = ⊥
NoneOf (Unsupported bits) = ⊥
NoneOf Geometry = ⊥
NoneOf LogPending = ⊥
NoneOf BadArray = ⊥
NoneOf answer = Unit {0}

-- such an answer may be mended by another copy
pub mends_of : (answer : Answer) → NoneOf answer → MayMend answer
mends_of answer none_of refusal by e = of refusal by (subst NoneOf e none_of)
  where
    of : (r : OpenFault) → IsBySupers r → NoneOf (open_answer r) → ⊥
    of (opening.ImageFault slot) by none = by
    of (opening.Diverged slot) by none = by
    of (opening.BadChunk start) by none = by
    of (opening.Limit which count) by none = by
    of (opening.Tree f) by none = by
    of opening.Memory by none = by
    of other by none = none

module _ (old mid new : Seen) (first : OnlyReads old mid) (second : OnlyReads mid new) (before after : CallAccount) (answer : Answer)
    (result : Result (Unit {0}) Stop) (is : answer ≡ call_answer result) (counts : StopCounts before after result) where
  -- the call doesn't answer that an image failed
  no_image : (slot : ℕ) → call_answer result ≢ ImageFault slot
  no_image slot = of result counts
    where
      of : (r : Result (Unit {0}) Stop) → StopCounts before after r → call_answer r ≢ ImageFault slot
      of (Err (stop.Tree (tree.Lost a))) counts e = cc
      of (Err (stop.Image other)) counts e = absurd counts
      of (Err stop.Sink) counts e = absurd counts
      of r counts e = cc

  -- the call answers nothing that the words or the superblocks alone decide
  none_of : NoneOf (call_answer result)
  none_of = of result
    where
      of : (r : Result (Unit {0}) Stop) → NoneOf (call_answer r)
      of (Err (stop.Tree (tree.Lost a))) = tt
      of r = tt

  -- a fault of a tree that the call answers has its cause by the layout
  tree_cause : (layout : Layout) → IsLayoutOf old new layout → DumpStopCause layout mid new result → HasTreeCause old new (call_answer result)
  tree_cause layout own cause fault is = (layout, own, of result cause (ap tree_in is ∙ tree_back fault))
    where
      of : (r : Result (Unit {0}) Stop) → DumpStopCause layout mid new r → tree_in (call_answer r) ≡ Some fault → FaultCause layout old new fault
      of (Ok u) cause e = absurd (cc e)
      of (Err (stop.Tree f)) cause e = let same : f ≡ fault = cc (sym (tree_back f) ∙ e) in subst (FaultCause layout old new) same
          (cause_since new layout layout f refl first cause)
      of (Err other) cause e = absurd (cc e)

  -- the images were only read, and a fault of a tree that is answered has its cause
  pub shown_behind : (layout : Layout) → IsLayoutOf old new layout → DumpStopCause layout mid new result → IsBehind MayMend AnyFault old new answer
  shown_behind layout own cause = subst (IsBehind MayMend AnyFault old new) (sym is) (record {
    reads = reads_more first second;
    image = λ slot is. absurd (no_image slot is);
    tree = λ fault e told. tree_cause layout own cause fault e;
    hidden = inr (inr (mends_of (call_answer result) none_of));
    no_usage = λ at e. subst NoneOf e none_of;
    no_limit = λ n e. subst NoneOf e none_of;
  })
