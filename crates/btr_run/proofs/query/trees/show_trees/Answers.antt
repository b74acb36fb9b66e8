-- What showing trees comes to, as a row of the table.
use Rattle.std.proofs.Common.{◌≡◌, ◌⊎◌, inl, inr, ⊎_elim, ℕ, Bool, true, false, List, [], ◌∷◌, Option, Some, None, Result, Ok, Err, refl, sym, ap, ◌∙◌, subst}
use Rattle.std.proofs.Common.{arith}
use Rattle.std.specs.List.{Contains, list_all}
use Rattle.std.specs.Str.{bytes_eq}
use Rattle.std.proofs.lemmas.List.Elements.{All-contains, All-contains_itself}
use Rattle.std.proofs.lemmas.List.Sums.{AllPass-from_list_all, list_all-from_AllPass}
use Rattle.std.proofs.lemmas.Slice.Eq.{bytes_eq-Decides}
use Rattle.std.specs.Option.{IfSome}
use Rattle.btr_dump.specs.Showing.{Grows}
use Rattle.btr_dump.specs.Stops.{DumpStopCause, StopCounts}
use Rattle.btr_rack.specs.Out.{CallAccount}
use Rattle.btr_rack.specs.Rack.{OnlyReads, Seen}
use Rattle.btr_read.specs.Fate.{Agreed, fate, passing_for, sought}
use Rattle.btr_read.specs.Layout.{Layout}
use Rattle.btr_read.specs.declared.want.Want.TheVariants as want
use Rattle.btr_restore.specs.Running.{outside}
use Rattle.btr_volume.specs.Start.{Images}
use Rattle.btr_volume.specs.declared.stop.Stop.{Stop}
use Rattle.btr_volume.specs.declared.volume.Volume.{Volume}
use Rattle.btr_run.specs.Behind.{IfSteady}
use Rattle.btr_run.specs.Filesystem.{OpensAs, OpensFilesystem, filesystem_in, filesystem_of}
use Rattle.btr_run.specs.Listed.{BesideSinks}
use Rattle.btr_run.specs.Outcomes.{HasOneOutcome, OrBare, OrMemory, Outcome, ShowsOutcome, showing}
use Rattle.btr_run.specs.Rows.{IsRowDone, IsRowOrUnread, Row, row_outcome}
use Rattle.btr_run.specs.Queries.Trees.{AgreesOn, IsTreesOutcome, ShowsUpTo, call_answer, dump_row, trees_shown}
use Rattle.btr_run.specs.Unopened.{AreAgreed}
use Rattle.btr_run.specs.declared.answer.Answer.{Answer}
use Rattle.btr_run.specs.declared.query.DumpChoice.{DumpChoice}
use Rattle.btr_run.specs.declared.query.DumpChoice.TheVariants.{All, Block, Tree, RootLines}
use Rattle.btr_run.specs.Faults.{stop_answer}
use Rattle.btr_run.specs.declared.answer.Answer.TheVariants.{Done}
use Rattle.btr_run.proofs.Agreements.{agreeing_opened}
use Rattle.btr_run.proofs.Coming.{comes_shown, shows_also, answer_gives}
use Rattle.btr_read.proofs.Fetched.{map_some}
use Rattle.btr_run.proofs.Filesystems.{opened_layout}
use Rattle.btr_run.proofs.Rows.{row_opened, row_unopened}
use Rattle.btr_run.proofs.TreesShown.{shown_behind, shown_told}
use Rattle.btr_run.proofs.query.trees.show_trees.Goals as goal

-- all of some texts are equal
abbrev AreSame : List (List ℕ) → Type 0
AreSame xs = (a b : List ℕ) → Contains xs a → Contains xs b → a ≡ b

-- or they aren't
same_or_not : (xs : List (List ℕ)) → AreSame xs ⊎ (AreSame xs → ⊥)
same_or_not [] = inl (λ a b has_a has_b. absurd (omega (arith, has_a.1)))
same_or_not (x ∷ xs) = of (list_all (bytes_eq x) (x ∷ xs)) refl
  where
    of : (same : Bool) → list_all (bytes_eq x) (x ∷ xs) ≡ same → AreSame (x ∷ xs) ⊎ (AreSame (x ∷ xs) → ⊥)
    of true all = inl (λ a b has_a has_b. sym (is a has_a) ∙ is b has_b)
      where
        is : (a : List ℕ) → Contains (x ∷ xs) a → x ≡ a
        is a has =
            (bytes_eq-Decides x a).0
            (All-contains (λ y. bytes_eq x y ≡ true) (x ∷ xs) a (AllPass-from_list_all (bytes_eq x) (x ∷ xs) all) has)
    of false none = inr (λ same. cc (sym none ∙ list_all-from_AllPass (bytes_eq x) (x ∷ xs) (λ k d lt.
        (bytes_eq-Decides x _).1 (same x _ (0, omega arith, refl) (All-contains_itself (x ∷ xs) k d lt)))))

-- the copies of a block that is asked for agree, or they don't
agrees_or_not : (choice : DumpChoice) (images : Images) (layout : Layout) → AgreesOn choice images layout ⊎ (AgreesOn choice images layout → ⊥)
agrees_or_not All images layout = inl tt
agrees_or_not (Block addr) images layout = same_or_not (passing_for images (sought layout (want.Block addr)))
agrees_or_not (Tree id) images layout = inl tt
agrees_or_not RootLines images layout = inl tt

-- The filesystem is open, and its trees were shown.
module _ (choice : DumpChoice) (old mid new : Seen) (first : OnlyReads old mid) (second : OnlyReads mid new) (volume : Volume)
    (text text' : Option (List ℕ)) (before after : CallAccount) (answer : Answer) (result : Result (Unit {0}) Stop) (is : answer ≡ call_answer result) where
  abbrev layout : Layout
  layout = volume.store.layout

  abbrev row : Row
  row = dump_row choice

  -- its text over the images
  abbrev IsShown : Images → Outcome → Type 0
  IsShown images outcome = outcome ≡ showing (trees_shown choice (fate images layout) volume.sup)

  abbrev IsWhole : Images → Outcome → Type 0
  IsWhole images outcome = row_outcome row images ≡ outcome

  steady_text : (held : Option Images) → IfSteady held old.account mid.account (λ images. OpensFilesystem images (Ok volume))
      → IfSteady held mid.account new.account (λ images. ShowsOutcome (IsShown images) text text' before after (call_answer result))
      → IfSteady held old.account new.account (λ images. ShowsOutcome (OrMemory (IsWhole images)) text text' before after answer)
  steady_text None opens shows = tt
  steady_text (Some images) opens shows = λ steady.
      let opened : filesystem_of images ≡ Ok (filesystem_in volume) = opens
      (omega (arith, steady.0, second.later), omega (arith, steady.1, second.later)) in
      subst (λ a. ShowsOutcome (OrMemory (IsWhole images)) text text' before after a) (sym is)
      (shows_also (IsShown images) (OrMemory (IsWhole images)) text text' before after (call_answer result)
      (λ outcome e. inl (row_opened row images (filesystem_in volume) opened ∙ sym e))
      (shows (omega (arith, steady.0, first.later), steady.1)))

  agreed_text : IfSome old.held (λ images. OpensAs images old mid (Ok volume))
      → IfSome mid.held (λ images. Agreed images layout → AgreesOn choice images layout → ShowsOutcome
      (ShowsUpTo choice (fate images layout) volume.sup) text text' before after (call_answer result))
      → ShowsOutcome (OrBare IsTreesOutcome) text text' before after answer
      → IfSome old.held (λ images. AreAgreed images → ShowsOutcome (IsRowOrUnread row images) text text' before after answer)
  agreed_text opens shows some =
      agreeing_opened old mid volume opens (λ images. ShowsOutcome (IsRowOrUnread row images) text text' before after answer)
      (λ images told opened agreed.
      let held : mid.held ≡ Some images = ap (λ (s : Seen). s.held) first.same ∙ told in
      let so = subst (λ (o : Option Images). IfSome o
      (λ i. Agreed i layout → AgreesOn choice i layout → ShowsOutcome (ShowsUpTo choice (fate i layout) volume.sup) text text' before after
      (call_answer result))) held shows in
      ⊎_elim (λ agree. subst (ShowsOutcome (IsRowOrUnread row images) text text' before after) (sym is)
      (shows_also (ShowsUpTo choice (fate images layout) volume.sup) (IsRowOrUnread row images) text text' before after (call_answer result)
      (λ outcome one. ⊎_elim (λ e. inl (row_opened row images (filesystem_in volume) opened ∙ sym e))
      (λ broken. inr (inl (filesystem_in volume, opened, λ agree. broken))) one)
      (so agreed agree)))
      (λ none. shows_also (OrBare IsTreesOutcome) (IsRowOrUnread row images) text text' before after answer
      (λ outcome any. inr (inl (filesystem_in volume, opened, λ agree. absurd (none agree)))) some)
      (agrees_or_not choice images layout))

  dumped_done : IfSteady old.held old.account mid.account (λ images. OpensFilesystem images (Ok volume))
      → IfSome old.held (λ images. OpensAs images old mid (Ok volume))
      → IfSteady mid.held mid.account new.account (λ images. ShowsOutcome (IsShown images) text text' before after (call_answer result))
      → IfSome mid.held (λ images. Agreed images layout → AgreesOn choice images layout → ShowsOutcome
      (ShowsUpTo choice (fate images layout) volume.sup) text text' before after (call_answer result))
      → StopCounts before after result → Grows text text' → DumpStopCause layout mid new result
      → BesideSinks text before text' after (λ x y. IsRowDone row old new x y answer)
  dumped_done content opened shows agreed counts grows cause s c = record {
    effect = map_some old.held _ _ (λ images shown steady. comes (OrMemory (IsWhole images)) (shown steady))
        (steady_text old.held content (subst (λ held. IfSteady held mid.account new.account
        (λ images. ShowsOutcome (IsShown images) text text' before after (call_answer result))) (ap (λ (q : Seen). q.held) first.same) shows));
    agreed = map_some old.held _ _ (λ images shown agree. comes (IsRowOrUnread row images) (shown agree)) (agreed_text opened agreed some);
    told = comes (OrBare IsTreesOutcome) some;
    cause = shown_behind old mid new first second before after answer result is counts layout (opened_layout old mid new volume first second opened) cause;
  }
    where
      some : ShowsOutcome (OrBare IsTreesOutcome) text text' before after answer
      some = shown_told text text' before after answer result is counts grows

      comes : (IsOne : Outcome → Type 0) → ShowsOutcome IsOne text text' before after answer
          → HasOneOutcome (before.ample ≡ false) IsOne (outside s c text before) (outside s c text' after) answer
      comes IsOne shown = comes_shown (before.ample ≡ false) IsOne (outside s c text before) (outside s c text' after) answer refl refl (λ scarce. scarce) shown

pub returns-in_err-volume : goal.returns-in_err-volume
returns-in_err-volume g c s calls =
    let e = c.in_err-volume.ensures in
    row_unopened (dump_row c.args.choice) (g.R.Rack.seen c.args.rack.now) (g.R.Rack.seen c.open_filesystem.new.rack) _ c.in_err-volume.field-0.0 _
    (answer_gives c.from_residual.result c.in_err-volume.field-0.0 c.from_residual.ensures.1) e.refusal e.content e.opened e.reads e.image e.tree e.hidden
    e.counted

pub returns-in_err-show : goal.returns-in_err-show
returns-in_err-show g c s calls =
    let e = c.in_err-show.ensures in
    dumped_done c.args.choice (g.R.Rack.seen c.args.rack.now) (g.R.Rack.seen c.open_filesystem.new.rack) (g.R.Rack.seen c.show.new.rack)
    c.in_ok-volume.ensures.reads e.reads c.in_ok-volume.volume (g.O.Out.text c.args.out.now) (g.O.Out.text c.show.new.out) (g.O.Out.account c.args.out.now)
    (g.O.Out.account c.show.new.out) _
    (Err c.in_err-show.field-0.0)
    (answer_gives c.from_residual-in_err-show.result (stop_answer c.in_err-show.field-0.0) c.from_residual-in_err-show.ensures.1)
    c.in_ok-volume.ensures.content c.in_ok-volume.ensures.opened e.content e.agreed e.account e.grows e.cause s calls

pub returns : goal.returns
returns g c s calls =
    let e = c.in_ok-show.ensures in
    dumped_done c.args.choice (g.R.Rack.seen c.args.rack.now) (g.R.Rack.seen c.open_filesystem.new.rack) (g.R.Rack.seen c.show.new.rack)
    c.in_ok-volume.ensures.reads e.reads c.in_ok-volume.volume (g.O.Out.text c.args.out.now) (g.O.Out.text c.show.new.out) (g.O.Out.account c.args.out.now)
    (g.O.Out.account c.show.new.out) (Done 0) (Ok tt) refl
    c.in_ok-volume.ensures.content c.in_ok-volume.ensures.opened e.content e.agreed e.account e.grows e.cause s calls
