-- What a command comes to where reads failed, but the copies agree.
use Rattle.std.proofs.Common.{◌≡◌, ◌⊎◌, inl, inr, ⊎_elim, ℕ, false, Bool, List, [], Option, Some, None, Result, Ok, Err, refl, sym, ap, ◌∙◌, subst}
use Rattle.std.specs.Option.{IfSome}
use Rattle.btr_chunk.specs.declared.chunk.Chunk.{Chunk}
use Rattle.btr_check.specs.Before.{refusal}
use Rattle.btr_check.specs.Findings.{findings}
use Rattle.btr_check.specs.Running.{IsUnreadOf, OfReading, StopUnread, filesystem, is_outside}
use Rattle.btr_check.specs.Wanted.{OfCheck}
use Rattle.btr_dump.specs.Pieces.{Text}
use Rattle.btr_files.proofs.AheadLooks.{paired}
use Rattle.btr_prog.specs.Answers.{Halt, Fault as halts, Follows, no_part}
use Rattle.btr_prog.specs.Calls.{Any}
use Rattle.btr_prog.specs.Prog.{exec}
use Rattle.btr_rack.specs.Out.{CallAccount}
use Rattle.btr_rack.specs.Rack.{Seen, OnlyReads}
use Rattle.btr_read.specs.Fate.{Agreed, Fault, fate}
use Rattle.btr_read.specs.Fate as fault
use Rattle.btr_read.specs.Layout.{Layout}
use Rattle.btr_findings.specs.declared.finding.Finding.{Finding}
use Rattle.btr_restore.proofs.Agreeing.{array_agreed}
use Rattle.btr_read.proofs.Compared.{compares_agreed, disagreeing-agreed}
use Rattle.btr_read.specs.Comparing.{disagreeing}
use Rattle.btr_volume.specs.Maps.{array_layout, table_of, table_or}
use Rattle.btr_volume.specs.Tree.{root_want}
use Rattle.btr_volume.specs.Opening.{Opened, Opens, RootsDiffer, Scans, Starts}
use Rattle.btr_volume.specs.Start.{Images, Start, start_of, layout_by}
use Rattle.btr_volume.specs.Table.{TableResult, refusal_of, table_scan}
use Rattle.btr_volume.specs.declared.fault.OpenFault.{OpenFault}
use Rattle.btr_volume.specs.declared.fault.OpenFault.TheVariants as opening
use Rattle.btr_volume.specs.declared.fault.TableFault.{TableFault}
use Rattle.btr_volume.specs.declared.stop.Stop.{Stop}
use Rattle.btr_volume.specs.declared.stop.Stop.TheVariants as stop
use Rattle.btr_volume.specs.declared.volume.Volume.{Volume}
use Rattle.btr_walk.specs.Reading.{Map, Tells, UnreadBlock, halt_of, unread_by}
use Rattle.btr_walk.specs.declared.fault.TreeFault.{TreeFault}
use Rattle.btr_walk.specs.declared.fault.TreeFault.TheVariants as tree
use Rattle.btr_restore.specs.Running.{Outside}
use Rattle.btr_run.specs.Agreeing.{IsCheckedOrUnread}
use Rattle.btr_run.specs.Unopened.{AreAgreed, IsOrUnopened}
use Rattle.btr_run.specs.Checked.{check_in, check_outcome, filesystem_by, listing, unless_refused}
use Rattle.btr_run.specs.Faults.{open_answer, stop_answer, tree_answer}
use Rattle.btr_run.specs.Filesystem.{OpensAs, answer_as, fault_answer, filesystem_in, filesystem_of, with_roots, with_start, with_table}
use Rattle.btr_run.specs.Outcomes.{HasOneOutcome, IsNoFault, Outcome, ShowsOutcome, refused, showing}
use Rattle.btr_run.specs.declared.answer.Answer.{Answer}
use Rattle.btr_run.specs.declared.answer.Answer.TheVariants.{Lost, Unmapped, Crosses, Malformed}
use Rattle.btr_run.proofs.Coming.{comes_bare, shows_bare, shows_also}
use Rattle.btr_read.proofs.Fetched.{map_some}
use Rattle.btr_run.proofs.Orders.{scan_follows}
use Rattle.btr_run.proofs.Refusals.{open_no_fault}
use Rattle.btr_run.proofs.Wanted.{names_wanted}

-- The images agree: what opening them came to, whatever failed.
module _ (old new : Seen) (images : Images) (told : old.held ≡ Some images) (agreed : AreAgreed images) where
  -- whatever failed, a scan of the chunk tree is the one over the images' blocks, to its end or up to where it was broken off
  scanned : (start : Start) → start_of images ≡ Ok start → (answer : Result TableResult (Halt Fault UnreadBlock)) → Scans start old new answer
      → Follows {S = ⊥} (unread_by (array_layout start) old new) no_part [] (exec (fate images (array_layout start)) (table_scan start)) [] answer
  scanned start is answer scans = scan_follows images start old new answer told (array_agreed images start (agreed start is)) scans

  -- by the table that was scanned the images agree
  table_agreed : (start : Start) → start_of images ≡ Ok start → (chunks : List Chunk)
      → (exec (fate images (array_layout start)) (table_scan start)).ending ≡ Ok (Ok chunks) → Agreed images (layout_by start chunks)
  table_agreed start is chunks ends = subst (λ t. Agreed images (layout_by start t)) (ap (table_or start.array) ends) (agreed start is)

  -- and the candidates of the root tree's root block with them
  roots_agree : (start : Start) → start_of images ≡ Ok start → (chunks : List Chunk)
      → (exec (fate images (array_layout start)) (table_scan start)).ending ≡ Ok (Ok chunks)
      → disagreeing images (layout_by start chunks) (root_want start.sup) ≡ None
  roots_agree start is chunks ends =
      disagreeing-agreed images (layout_by start chunks) (root_want start.sup) (table_agreed start is chunks ends (root_want start.sup) tt)

  -- the candidates of the root tree's root block are never found to differ
  never_differ : (slot : ℕ) → RootsDiffer images old new slot → ⊥
  never_differ slot d =
      let scan = scanned d.start d.is (Ok (Ok d.chunks)) d.scans in
      let none = compares_agreed images (layout_by d.start d.chunks) (root_want d.start.sup) old new (Some slot) told
      (table_agreed d.start d.is d.chunks scan.1 (root_want d.start.sup) tt) d.differ in
      cc

  -- the volume is the filesystem
  pub opened_is : (volume : Volume) → Opened images old new volume → filesystem_of images ≡ Ok (filesystem_in volume)
  opened_is volume o =
      let scan = scanned o.start o.is (Ok (Ok volume.store.layout.chunks)) o.scans in
      let none = roots_agree o.start o.is volume.store.layout.chunks scan.1 in
      ap (with_start images) o.is ∙ ap (with_table images o.start) scan.1 ∙ ap (with_roots o.start volume.store.layout.chunks) none
      ∙ ap (λ s. Ok (record { sup = s; layout = layout_by o.start volume.store.layout.chunks })) (sym o.by.sup)
      ∙ ap (λ l. Ok (record { sup = volume.sup; layout = l })) (sym o.by.layout)

  -- the images agree by the layout of the volume
  pub opened_agreed : (volume : Volume) → Opened images old new volume → Agreed images volume.store.layout
  opened_agreed volume o =
      let scan = scanned o.start o.is (Ok (Ok volume.store.layout.chunks)) o.scans in
      let table : table_of images o.start ≡ volume.store.layout.chunks = ap (table_or o.start.array) scan.1 in
      subst (Agreed images) (ap (layout_by o.start) table ∙ sym o.by.layout) (agreed o.start o.is)

  -- a refusal by a chunk of the chunk tree
  by_table : (f : TableFault) → Starts images old new (Ok (Err f)) → filesystem_of images ≡ Err (open_answer (refusal_of f))
  by_table f s = let scan = scanned s.start s.is (Ok (Err f)) s.scans in ap (with_start images) s.is ∙ ap (with_table images s.start) scan.1

  -- a refusal of opening is what a command comes to that shows it
  module _ (wanted : Outcome) (bare : (answer : Answer) → filesystem_of images ≡ Err answer → wanted ≡ refused answer) where
    -- where the images make no filesystem, the command comes to the refusal of that
    by_filesystem : (answer : Answer) → filesystem_of images ≡ Err answer → IsOrUnopened images wanted (refused answer)
    by_filesystem answer e = inl (bare answer e)

    -- the chunk tree can't be read on
    by_fault : (x : Fault) (answer : Answer) → fault_answer x ≡ answer → Starts images old new (Err (halts x)) → IsOrUnopened images wanted (refused answer)
    by_fault x answer is s = let scan = scanned s.start s.is (Err (halts x)) s.scans in by_filesystem answer
        (ap (with_start images) s.is ∙ ap (with_table images s.start) scan.1 ∙ ap (λ a. Err a) is)

    -- a fault of the chunk tree is what the command comes to, or a block of that tree could not be read
    by_tree : (f : TreeFault) → Starts images old new (Err (halt_of f)) → IsOrUnopened images wanted (refused (tree_answer f))
    by_tree (tree.Lost a) s = by_fault (fault.Lost a) (Lost a) refl s
    by_tree (tree.Unmapped a) s = by_fault (fault.Unmapped a) (Unmapped a) refl s
    by_tree (tree.Crosses a) s = by_fault (fault.Crosses a) (Crosses a) refl s
    by_tree (tree.Malformed a) s = by_fault (fault.Malformed a) (Malformed a) refl s
    by_tree (tree.Unread a slot) s = inr (inl (record {
      start = s.start;
      is = s.is;
      unread = record { addr = a; slot = slot };
      wanted = names_wanted (array_layout s.start) old new (record { addr = a; slot = slot })
          (exec (fate images (array_layout s.start)) (table_scan s.start)) []
          (scanned s.start s.is (Err (halt_of (tree.Unread a slot))) s.scans);
      bare = refl;
    }))

    -- by the superblocks, or by a chunk of the chunk tree
    by_refusal : (r : OpenFault) → (start_of images ≡ Err r) ⊎ ((f : TableFault) × (refusal_of f ≡ r) × Starts images old new (Ok (Err f)))
        → IsOrUnopened images wanted (refused (open_answer r))
    by_refusal r why =
        by_filesystem (open_answer r) (⊎_elim (λ start. ap (with_start images) start)
        (λ table. by_table table.0 table.2 ∙ ap (λ q. Err (open_answer q)) table.1) why)

    -- a refusal of opening is what the command comes to, or a block of the chunk tree could not be read, an image failed, or memory was wanted
    pub unopened : (r : OpenFault) → Opens images old new (Err r) → IsOrUnopened images wanted (refused (open_answer r))
    unopened (opening.ImageFault slot) opens = inr (inr (inl (slot, refl)))
    unopened opening.Memory opens = inr (inr (inr refl))
    unopened (opening.Tree f) opens = by_tree f opens
    unopened (opening.NoSuper slot) opens = by_refusal (opening.NoSuper slot) opens
    unopened (opening.SumKind kind) opens = by_refusal (opening.SumKind kind) opens
    unopened (opening.Foreign slot) opens = by_refusal (opening.Foreign slot) opens
    unopened (opening.Twin slot) opens = by_refusal (opening.Twin slot) opens
    unopened (opening.Diverged slot) opens =
        by_filesystem (open_answer (opening.Diverged slot)) (⊎_elim (λ start. ap (with_start images) start) (λ d. absurd (never_differ slot d)) opens)
    unopened (opening.Unsupported bits) opens = by_refusal (opening.Unsupported bits) opens
    unopened opening.Geometry opens = by_refusal opening.Geometry opens
    unopened opening.LogPending opens = by_refusal opening.LogPending opens
    unopened opening.BadArray opens = by_refusal opening.BadArray opens
    unopened (opening.BadChunk start) opens = by_refusal (opening.BadChunk start) opens
    unopened (opening.Limit which count) opens = by_refusal (opening.Limit which count) opens

-- what was told of the block map, where the images agree
pub at_map : (layout : Layout) (mid new : Seen) (images : Images) (P : Map → Type 0) → mid.held ≡ Some images → Agreed images layout → Tells layout mid new P
    → P (fate images layout)
at_map layout mid new images P held agreed tells =
    subst (λ (o : Option Images). IfSome o (λ i. P (fate i layout))) held
    (tells.calls.content Any (subst (λ (o : Option Images). IfSome o (λ i. Agreed i layout)) (sym held) agreed))

-- the filesystem isn't opened: what holds of each refusal of opening holds of the answer
unopened_where : (Q : Images → Answer → Type 0) (old new : Seen) (answer : Answer)
    → ((images : Images) → old.held ≡ Some images → AreAgreed images → (r : OpenFault) → Opens images old new (Err r) → Q images (open_answer r))
    → IfSome old.held (λ images. OpensAs images old new (Err answer)) → IfSome old.held (λ images. AreAgreed images → Q images answer)
unopened_where Q old new answer each = of old.held refl
  where
    refusal_is : (r : OpenFault) → ◌≡◌ {A = Result Volume Answer} (Err (open_answer r)) (Err answer) → open_answer r ≡ answer
    refusal_is r e = cc e

    by : (images : Images) → old.held ≡ Some images → (opening : Result Volume OpenFault) → Opens images old new opening → answer_as opening ≡ Err answer
        → AreAgreed images → Q images answer
    by images told (Ok volume) opens same agreed = absurd (cc same)
    by images told (Err r) opens same agreed = subst (Q images) (refusal_is r same) (each images told agreed r opens)

    of : (held : Option Images) → old.held ≡ held → IfSome held (λ images. OpensAs images old new (Err answer))
        → IfSome held (λ images. AreAgreed images → Q images answer)
    of None told opens = tt
    of (Some images) told opens = λ agreed. by images told opens.opening opens.opens opens.same agreed

-- what a command comes to that shows the refusals of opening
module _ (wanted : Images → Outcome) (bare : (images : Images) (answer : Answer) → filesystem_of images ≡ Err answer → wanted images ≡ refused answer) where
  -- where the filesystem isn't opened, the answer is what the command comes to over images that agree, or says why they weren't opened
  pub unopened_to : (old new : Seen) (answer : Answer) → IfSome old.held (λ images. OpensAs images old new (Err answer))
      → IfSome old.held (λ images. AreAgreed images → IsOrUnopened images (wanted images) (refused answer))
  unopened_to old new answer =
      unopened_where (λ images a. IsOrUnopened images (wanted images) (refused a)) old new answer
      (λ images told agreed r opens. unopened old new images told agreed (wanted images) (bare images) r opens)

  -- the same of a command that shows a text: it puts none then
  pub unopened_agreed : (old new : Seen) (answer result : Answer) → result ≡ answer → (text : Option Text) (account : CallAccount)
      → IfSome old.held (λ images. OpensAs images old new (Err answer))
      → IfSome old.held (λ images. AreAgreed images → ShowsOutcome (IsOrUnopened images (wanted images)) text text account account result)
  unopened_agreed old new answer result is text account opens =
      map_some old.held (λ images. AreAgreed images → (result ≡ answer) → ShowsOutcome (IsOrUnopened images (wanted images)) text text account account result)
      (λ images. AreAgreed images → ShowsOutcome (IsOrUnopened images (wanted images)) text text account account result)
      (λ images h agreed. h agreed is)
      (unopened_where (λ images a. (result ≡ a) → ShowsOutcome (IsOrUnopened images (wanted images)) text text account account result) old new answer
      (λ images told agreed r opens same. subst (ShowsOutcome (IsOrUnopened images (wanted images)) text text account account) (sym same)
      (shows_bare (IsOrUnopened images (wanted images)) text account (open_answer r) (unopened old new images told agreed (wanted images) (bare images) r opens)
      (open_no_fault r))) opens)

  -- what a command comes to that does steps
  pub unopened_comes : (May : Type 0) (old new : Seen) (answer result : Answer) → result ≡ answer → (x : Outside)
      → IfSome old.held (λ images. OpensAs images old new (Err answer))
      → IfSome old.held (λ images. AreAgreed images → HasOneOutcome May (IsOrUnopened images (wanted images)) x x result)
  unopened_comes May old new answer result is x opens =
      map_some old.held (λ images. AreAgreed images → (result ≡ answer) → HasOneOutcome May (IsOrUnopened images (wanted images)) x x result)
      (λ images. AreAgreed images → HasOneOutcome May (IsOrUnopened images (wanted images)) x x result)
      (λ images h agreed. h agreed is)
      (unopened_where (λ images a. (result ≡ a) → HasOneOutcome May (IsOrUnopened images (wanted images)) x x result) old new answer
      (λ images told agreed r opens same. subst (HasOneOutcome May (IsOrUnopened images (wanted images)) x x) (sym same)
      (comes_bare May (IsOrUnopened images (wanted images)) x (open_answer r) (unopened old new images told agreed (wanted images) (bare images) r opens)
      (open_no_fault r))) opens)

-- The filesystem is open.
module _ (old mid : Seen) (volume : Volume) (opens : IfSome old.held (λ images. OpensAs images old mid (Ok volume))) where
  -- where the images agree, it is theirs, and they agree by its layout
  pub agreeing_opened : (Q : Images → Type 0)
      → ((images : Images) → old.held ≡ Some images → filesystem_of images ≡ Ok (filesystem_in volume) → Agreed images volume.store.layout → Q images)
      → IfSome old.held (λ images. AreAgreed images → Q images)
  agreeing_opened Q then = of old.held refl opens
    where
      volume_is : (other : Volume) → ◌≡◌ {A = Result Volume Answer} (Ok other) (Ok volume) → other ≡ volume
      volume_is other e = cc e

      by : (images : Images) → old.held ≡ Some images → (opening : Result Volume OpenFault) → Opens images old mid opening → answer_as opening ≡ Ok volume
          → AreAgreed images → Q images
      by images told (Err r) opens same agreed = absurd (cc same)
      by images told (Ok other) opens same agreed =
          let opened = subst (Opened images old mid) (volume_is other same) opens in
          then images told (opened_is old mid images told agreed volume opened) (opened_agreed old mid images told agreed volume opened)

      of : (held : Option Images) → old.held ≡ held → IfSome held (λ images. OpensAs images old mid (Ok volume))
          → IfSome held (λ images. AreAgreed images → Q images)
      of None told opens = tt
      of (Some images) told opens = λ agreed. by images told opens.opening opens.opens opens.same agreed

-- The filesystem is open, and this was told of it.
module _ (read_data : Bool) (old mid new : Seen) (first : OnlyReads old mid) (volume : Volume)
    (opens : IfSome old.held (λ images. OpensAs images old mid (Ok volume))) where
  -- what follows from the images' filesystem and from what was told of its blocks holds of images that agree
  pub agreeing : (P : Map → Type 0) (Q : Images → Type 0)
      → ((images : Images) → filesystem_of images ≡ Ok (filesystem_in volume) → P (fate images volume.store.layout) → Q images)
      → Tells volume.store.layout mid new P
      → IfSome old.held (λ images. AreAgreed images → Q images)
  agreeing P Q then tells =
      agreeing_opened old mid volume opens Q (λ images told o agreed. then images o
      (at_map volume.store.layout mid new images P (ap (λ (s : Seen). s.held) first.same ∙ told) agreed tells))

  -- the filesystem isn't checked
  module _ (end : Stop) (reading : OfReading end) (answer : Answer) (is : answer ≡ stop_answer end) (no_fault : IsNoFault (stop_answer end)) where
    -- a stop of a check is what the images come to, or says that a block could not be read that the check wants, or that there is no memory
    stopped_one : (images : Images) → filesystem_of images ≡ Ok (filesystem_in volume)
        → (is_outside end ≡ false → refusal (filesystem_by images (filesystem_in volume)) ≡ Some end)
        → StopUnread (IsUnreadOf volume.store.layout mid new (OfCheck read_data (filesystem_by images (filesystem_in volume)))) end
        → IsCheckedOrUnread read_data images (refused (stop_answer end))
    stopped_one images opened = of end reading
      where
        -- a stop that refuses the filesystem is what the check comes to
        refusing : (s : Stop) → refusal (filesystem_by images (filesystem_in volume)) ≡ Some s → check_outcome read_data images ≡ refused (stop_answer s)
        refusing s e = ap (check_in read_data images) opened ∙ ap
            (λ r. unless_refused r (listing (findings read_data (filesystem_by images (filesystem_in volume))))) e

        of : (s : Stop) → OfReading s → (is_outside s ≡ false → refusal (filesystem_by images (filesystem_in volume)) ≡ Some s)
            → StopUnread (IsUnreadOf volume.store.layout mid new (OfCheck read_data (filesystem_by images (filesystem_in volume)))) s
            → IsCheckedOrUnread read_data images (refused (stop_answer s))
        of (stop.NoTree id) r f u = inl (inl (refusing (stop.NoTree id) (f refl)))
        of (stop.Tree (tree.Lost a)) r f u = inl (inl (refusing (stop.Tree (tree.Lost a)) (f refl)))
        of (stop.Tree (tree.Unread a slot)) r f u = inr (record {
          fs = filesystem_in volume;
          opened = opened;
          unread = record { addr = a; slot = slot };
          want = u.0;
          wanted = u.1;
          named = u.2.same_addr;
          bare = refl;
        })
        of (stop.Tree (tree.Unmapped a)) r f u = inl (inl (refusing (stop.Tree (tree.Unmapped a)) (f refl)))
        of (stop.Tree (tree.Crosses a)) r f u = inl (inl (refusing (stop.Tree (tree.Crosses a)) (f refl)))
        of (stop.Tree (tree.Malformed a)) r f u = inl (inl (refusing (stop.Tree (tree.Malformed a)) (f refl)))
        of (stop.Deletion id) r f u = inl (inl (refusing (stop.Deletion id) (f refl)))
        of stop.Balance r f u = inl (inl (refusing stop.Balance (f refl)))
        of stop.Memory r f u = inl (inr (inr (inr refl)))
        of other r f u = absurd r

    -- the stop is what refuses the filesystem by these blocks, unless it came from outside of them
    abbrev Refused : Map → Type 0
    Refused B = is_outside end ≡ false → refusal (filesystem volume B) ≡ Some end

    -- if the stop names a block that could not be read, it is one that the check wants
    abbrev Named : Map → Type 0
    Named B = StopUnread (IsUnreadOf volume.store.layout mid new (OfCheck read_data (filesystem volume B))) end

    -- over images that agree a check that stopped put nothing, and its answer is the images' refusal, or why it went no further
    pub stopped_agreed : (text : Option Text) (account : CallAccount) → Tells volume.store.layout mid new Refused → Tells volume.store.layout mid new Named
        → IfSome old.held (λ images. AreAgreed images → ShowsOutcome (IsCheckedOrUnread read_data images) text text account account answer)
    stopped_agreed text account told named =
        agreeing (λ B. Refused B × Named B)
        (λ images. ShowsOutcome (IsCheckedOrUnread read_data images) text text account account answer)
        (λ images opened h.
        subst (ShowsOutcome (IsCheckedOrUnread read_data images) text text account account) (sym is)
        (shows_bare (IsCheckedOrUnread read_data images) text account (stop_answer end) (stopped_one images opened h.0 h.1) no_fault))
        (paired volume.store.layout Refused Named (λ B. Refused B × Named B) (λ B r n. (r, n)) told named)

  -- the filesystem was checked, and a list of findings was put
  module _ (all : List Finding) (answer : Answer) where
    -- over images that agree the findings that were put are those that the check comes to
    pub listed_agreed : (text text' : Option Text) (before after : CallAccount) → ShowsOutcome
        (λ outcome. outcome ≡ showing (listing all)) text text' before after answer
        → Tells volume.store.layout mid new (λ B. (refusal (record { sup = volume.sup; chunks = volume.store.layout.chunks; blocks = B }) ≡ None)
        × (all ≡ findings read_data (record { sup = volume.sup; chunks = volume.store.layout.chunks; blocks = B })))
        → IfSome old.held (λ images. AreAgreed images → ShowsOutcome (IsCheckedOrUnread read_data images) text text' before after answer)
    listed_agreed text text' before after shows =
        agreeing (λ B. (refusal (record { sup = volume.sup; chunks = volume.store.layout.chunks; blocks = B }) ≡ None)
        × (all ≡ findings read_data (record { sup = volume.sup; chunks = volume.store.layout.chunks; blocks = B })))
        (λ images. ShowsOutcome (IsCheckedOrUnread read_data images) text text' before after answer)
        (λ images opened h.
        shows_also (λ outcome. outcome ≡ showing (listing all)) (IsCheckedOrUnread read_data images) text text' before after answer
        (λ outcome e. inl (inl (ap (check_in read_data images) opened ∙ ap
        (λ r. unless_refused r (listing (findings read_data (filesystem_by images (filesystem_in volume))))) h.0
        ∙ ap (λ l. showing (listing l)) (sym h.1) ∙ sym e))) shows)
