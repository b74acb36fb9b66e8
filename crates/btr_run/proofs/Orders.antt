-- What a restore did and answered follows its journey, whatever failed.
use Rattle.std.proofs.Common.{◌≡◌, ◌⊎◌, inl, inr, ⊎_elim, ℕ, List, [], ◌∷◌, ◌++◌, length, take, Option, Some, None, Result, Ok, Err, refl, sym, ap, ◌∙◌, subst}
use Rattle.std.proofs.Common.{arith}
use Rattle.std.specs.Option.{IfSome}
use Rattle.std.proofs.lemmas.List.{append-nil, take_all}
use Rattle.btr_chunk.specs.declared.chunk.Chunk.{Chunk}
use Rattle.btr_files.specs.declared.counts.Counts.{Counts}
use Rattle.btr_files.specs.declared.plan.RestorePlan.{RestorePlan}
use Rattle.btr_files.proofs.AllMaps.{choices-zero}
use Rattle.btr_prog.specs.Answers.{Follows, Halt, Fault as halt_fault, Unread as halt_unread, Broke, Names, no_part}
use Rattle.btr_prog.specs.Calls.{Any}
use Rattle.btr_prog.specs.Goes.{Goes}
use Rattle.btr_prog.specs.Maps.{Each}
use Rattle.btr_prog.specs.Prog.{Run, exec, needs}
use Rattle.btr_prog.proofs.Choices.{goes_map, goes_some}
use Rattle.btr_rack.specs.Rack.{Seen, OnlyReads, Shelf}
use Rattle.btr_rack.specs.Out.{Adds, CallAccount, Puts}
use Rattle.btr_rack.specs.declared.error.SinkError.{SinkError}
use Rattle.btr_rack.specs.declared.error.SinkError.TheVariants.{Failed, Memory as memory_fault}
use Rattle.btr_read.specs.Fate.{Agreed, Fault, choices, fate}
use Rattle.btr_read.specs.Layout.{Layout}
use Rattle.btr_read.specs.declared.want.Want.{Want}
use Rattle.btr_restore.specs.InOrder as journey
use Rattle.btr_restore.specs.Journey.{listing}
use Rattle.btr_restore.specs.Journey as whole
use Rattle.btr_restore.specs.Outcome.{text_of}
use Rattle.btr_restore.specs.Restoring.{Did, RestoreStopCause, text_after}
use Rattle.btr_volume.specs.Stops.{ended}
use Rattle.btr_restore.specs.Running.{Outside, Ran, scene_of, world}
use Rattle.btr_listing.specs.Step.{Step, part}
use Rattle.btr_volume.specs.Maps.{array_layout, table_of, table_or, volume_map}
use Rattle.btr_volume.specs.Opening.{ComparesRoots, Opens, RootsDiffer, Scans, Starts}
use Rattle.btr_volume.specs.Start.{Images, Start, start_of, layout_by}
use Rattle.btr_volume.specs.Table.{TableResult, refusal_of, table_scan}
use Rattle.btr_volume.specs.Tree.{root_want}
use Rattle.btr_read.proofs.Compared.{compares_agreed}
use Rattle.btr_volume.specs.declared.fault.OpenFault.{OpenFault}
use Rattle.btr_volume.specs.declared.fault.OpenFault.TheVariants as opening
use Rattle.btr_volume.specs.declared.fault.TableFault.{TableFault}
use Rattle.btr_volume.specs.declared.stop.Stop.{Stop}
use Rattle.btr_volume.specs.declared.stop.Stop.TheVariants as stop
use Rattle.btr_volume.specs.declared.volume.Volume.{Volume}
use Rattle.btr_text.proofs.Writing.{adds_nothing, adds_twice}
use Rattle.btr_walk.specs.Reading.{Map, UnreadBlock, halt_of, unread_by}
use Rattle.btr_walk.specs.declared.fault.TreeFault.{TreeFault}
use Rattle.btr_walk.specs.declared.fault.TreeFault.TheVariants as tree
use Rattle.btr_walk.proofs.Fetched.{unread_since}
use Rattle.btr_run.specs.Answers.{error_line}
use Rattle.btr_run.specs.Faults.{open_answer, tree_answer}
use Rattle.btr_run.specs.Filesystem.{OpensAs, answer_as}
use Rattle.btr_restore.proofs.Agreeing.{array_agreed}
use Rattle.btr_run.specs.Order.{AnswersAs, FollowsOrder, InOrder, IsAgreed, KeepsCommittedOrder, KeepsLine, KeepsOrder, KeepsTo}
use Rattle.btr_run.specs.Outcomes.{IsPut, DidAndTold, due_after}
use Rattle.btr_run.specs.Words.{Words}
use Rattle.btr_run.specs.Listed.{stopped_answer}
use Rattle.btr_run.specs.Queries.Restored.{skipped_in}
use Rattle.btr_run.specs.declared.answer.Answer.{Answer}
use Rattle.btr_run.proofs.Coming.{with_line}

-- a lookup has no steps
pub no_steps : (steps : List ⊥) → [] ≡ steps
no_steps [] = refl
no_steps (step ∷ steps) = absurd step

-- where nothing was done
pub nothing_stands : (x : Outside) → DidAndTold x x [] []
nothing_stands x = record { sink = refl; text = adds_nothing x.text }

-- where some steps were put
adds_after : (old new : Option (List ℕ)) (steps : List Step) → new ≡ text_after old steps → Adds old new (text_of steps ++ [])
adds_after None new steps is = is
adds_after (Some text) new steps is = is ∙ ap (λ l. Some (text ++ l)) (sym (append-nil (text_of steps)))

-- what a call did stands
pub did_stand : {Says : (UnreadBlock → Want → Type 0) → (ℕ → Map) → List Step → Type 0} (layout : Layout) (mid new : Seen) (volume after : Volume)
    (x y : Outside)
    (did : Did layout (scene_of (world mid volume x)) (scene_of (world new after y)) Says) → DidAndTold x y did.done []
did_stand layout mid new volume after x y did = record { sink = did.sink; text = adds_after x.text y.text did.done did.text }

-- nothing may be done of a journey
pub nothing_done : (plan : RestorePlan) (dest : List ℕ) (images : Images) (start : Start) (old new : Seen)
    → journey.Follows plan dest start old new (choices images) [] (Err Broke)
nothing_done plan dest images start old new =
    let r = exec (volume_map start (choices images 0)) (whole.journey plan dest start) in (
      r,
      goes_map (λ n. volume_map start (choices images n)) 0 (whole.journey plan dest start),
      record
          { before = []; behind = r.marks; left = None; place = refl; steps = refl; leaves = tt; holds = tt },
    )

-- the first choice of each want is the first candidate
each_first : (images : Images) (layout : Layout) (ws : List Want) → Each (λ w. (n : ℕ) × (choices images n layout w ≡ fate images layout w)) ws
each_first images layout [] = tt
each_first images layout (w ∷ ws) = ((0, choices-zero images layout w), each_first images layout ws)

-- a scan of the chunk tree, where the copies agree
pub scan_follows : (images : Images) (start : Start) (old new : Seen) (answer : Result TableResult (Halt Fault UnreadBlock)) → old.held ≡ Some images
    → Agreed images (array_layout start) → Scans start old new answer
    → Follows {S = ⊥} (unread_by (array_layout start) old new) no_part [] (exec (fate images (array_layout start)) (table_scan start)) [] answer
scan_follows images start old new answer told agreed scans =
    subst (λ (o : Option Images). IfSome o (λ i. Follows {S = ⊥} (unread_by (array_layout start) old new) no_part []
    (exec (fate i (array_layout start)) (table_scan start)) [] answer)) told
    (scans.calls.content Any (subst (λ (o : Option Images). IfSome o (λ i. Agreed i (array_layout start))) (sym told) agreed))

-- a scan of the chunk tree by the first candidates is one by some candidates
scan_goes : (images : Images) (start : Start) (old new : Seen) (answer : Result TableResult (Halt Fault UnreadBlock))
    → Follows {S = ⊥} (unread_by (array_layout start) old new) no_part [] (exec (fate images (array_layout start)) (table_scan start)) [] answer
    → Goes {S = ⊥} (unread_by (array_layout start) old new) no_part [] (λ n. choices images n (array_layout start)) (table_scan start) [] answer
scan_goes images start old new answer follows = (
  exec (fate images (array_layout start)) (table_scan start),
  goes_some (λ n. choices images n (array_layout start)) (fate images (array_layout start)) (table_scan start)
      (each_first images (array_layout start) (needs (fate images (array_layout start)) (table_scan start))),
  follows,
)

-- a block that could not be read in calls that began earlier
names_since : (layout : Layout) (old mid new : Seen) → OnlyReads old mid → (u : UnreadBlock) (ws : List Want) → Names (unread_by layout mid new) u ws
    → Names (unread_by layout old new) u ws
names_since layout old mid new first u [] names = names
names_since layout old mid new first u (w ∷ ws) names = ⊎_elim (λ is. inl (unread_since layout u w first is))
    (λ rest. inr (names_since layout old mid new first u ws rest)) names

-- what follows a run in some calls follows it in calls that began earlier
goes_since : {A : Type 0} (layout : Layout) (old mid new : Seen) → OnlyReads old mid → (r : Run Want Fault Step A) (done : List Step)
    (answer : Result A (Halt Fault UnreadBlock)) → Follows (unread_by layout mid new) part [] r done answer
    → Follows (unread_by layout old new) part [] r done answer
goes_since layout old mid new first r done (Ok a) f = f
goes_since layout old mid new first r done (Err (halt_fault x)) f = f
goes_since layout old mid new first r done (Err (halt_unread u)) f =
    record {
      before = f.before;
      behind = f.behind;
      left = f.left;
      place = f.place;
      steps = f.steps;
      leaves = f.leaves;
      holds =
          names_since layout old mid new first u _ f.holds;
    }
goes_since layout old mid new first r done (Err Broke) f = f

-- the answer of a call, as that of the journey
listed_as : (layout : Layout) (old new : Seen) (result : Result Counts Stop) → RestoreStopCause layout old new result
    → AnswersAs (journey.opened (ended result)) (stopped_answer skipped_in result)
listed_as layout old new (Err (stop.Tree (tree.Lost a))) cause = refl
listed_as layout old new (Err stop.Sink) cause = inr (inl refl)
listed_as layout old new (Err stop.Out) cause = inr (inr (inl refl))
listed_as layout old new (Err stop.Memory) cause = inr (inr (inr refl))
listed_as layout old new (Err (stop.Deletion id)) cause = absurd cause
listed_as layout old new (Err stop.Balance) cause = absurd cause
listed_as layout old new (Err (stop.Missing id)) cause = absurd cause
listed_as layout old new (Err (stop.Image slot)) cause = absurd cause
listed_as layout old new result cause = refl

-- a fault of a tree is answered as the journey ends by it
tree_as : (f : TreeFault) → AnswersAs (Err (halt_of f)) (tree_answer f)
tree_as (tree.Lost a) = refl
tree_as f = refl

module _ (plan : RestorePlan) (dest : List ℕ) (images : Images) (start : Start) (begun : start_of images ≡ Ok start) (agreed : IsAgreed images start)
    (old new : Seen) (then : journey.OpenedThen plan dest start old new) (refused : journey.OpenRefused plan dest start old new)
    (halted : journey.OpenHalted plan dest start old new) (told : old.held ≡ Some images) where
  -- steps and an answer of the journey, where a want may come to any of its candidates
  abbrev Journeys : List Step → journey.Answer → Type 0
  Journeys = journey.Follows plan dest start old new (choices images)

  -- the images have one start
  same_start : (other : Start) → start_of images ≡ Ok other → other ≡ start
  same_start other is = cc (sym is ∙ begun)

  -- the candidates of the root tree's root block agree with all others
  never_differ : (slot : ℕ) → RootsDiffer images old new slot → ⊥
  never_differ slot d =
      let same = same_start d.start d.is in
      let scans = subst (λ s. Scans s old new (Ok (Ok d.chunks))) same d.scans in
      let scan = scan_follows images start old new (Ok (Ok d.chunks)) told (array_agreed images start agreed) scans in
      let by_chunks : Agreed images (layout_by start d.chunks) = subst (λ t. Agreed images (layout_by start t)) (ap (table_or start.array) scan.1)
      agreed in
      let differ = subst (λ s. ComparesRoots s d.chunks old new (Some slot)) same d.differ in
      let none = compares_agreed images (layout_by start d.chunks) (root_want start.sup) old new (Some slot) told
      (by_chunks (root_want start.sup) tt) differ in
      cc

  -- where the filesystem isn't opened nothing was done
  module _ (x : Outside) (stands : DidAndTold x x [] []) where
    -- an answer that the journey may have before its first step
    bare : (answer : journey.Answer) (result : Answer) → Journeys [] answer → AnswersAs answer result → KeepsTo Journeys x x [] result
    bare answer result allowed answered = record { done = []; answer = answer; allowed = allowed; stands = stands; answered = answered }

    -- a refusal by a chunk of the chunk tree is one of the journey; by the superblocks there is none
    by_start : (refusal : OpenFault) → (start_of images ≡ Err refusal) ⊎ ((f : TableFault) × (refusal_of f ≡ refusal) × Starts images old new (Ok (Err f)))
        → KeepsTo Journeys x x [] (open_answer refusal)
    by_start refusal why =
        ⊎_elim (λ none. absurd (cc (sym none ∙ begun)))
        (λ (table : (f : TableFault) × (refusal_of f ≡ refusal) × Starts images old new (Ok (Err f))).
        bare (Ok (Err (refusal_of table.0))) (open_answer refusal)
        (refused (choices images) table.0 (scan_goes images start old new (Ok (Err table.0))
        (scan_follows images start old new (Ok (Err table.0)) told (array_agreed images start agreed)
        (subst (λ s. Scans s old new (Ok (Err table.0))) (same_start table.2.start table.2.is) table.2.scans))))
        (ap open_answer (sym table.1))) why

    -- a restore whose filesystem isn't opened follows its journey, and did nothing of it
    pub unopened_order : (refusal : OpenFault) → Opens images old new (Err refusal) → KeepsTo Journeys x x [] (open_answer refusal)
    unopened_order (opening.ImageFault slot) opens = bare (Err Broke) (open_answer (opening.ImageFault slot)) (nothing_done plan dest images start old new)
        (inl (slot, refl))
    unopened_order opening.Memory opens = bare (Err Broke) (open_answer opening.Memory) (nothing_done plan dest images start old new) (inr (inr (inr refl)))
    unopened_order (opening.Tree f) opens =
        bare (Err (halt_of f)) (tree_answer f) (halted (choices images) (halt_of f)
        (scan_goes images start old new (Err (halt_of f))
        (scan_follows images start old new (Err (halt_of f)) told (array_agreed images start agreed)
        (subst (λ s. Scans s old new (Err (halt_of f))) (same_start opens.start opens.is) opens.scans)))) (tree_as f)
    unopened_order (opening.NoSuper slot) opens = by_start (opening.NoSuper slot) opens
    unopened_order (opening.SumKind kind) opens = by_start (opening.SumKind kind) opens
    unopened_order (opening.Foreign slot) opens = by_start (opening.Foreign slot) opens
    unopened_order (opening.Twin slot) opens = by_start (opening.Twin slot) opens
    unopened_order (opening.Diverged slot) opens =
        ⊎_elim (λ none. absurd (cc (sym none ∙ begun))) (λ d. absurd (never_differ slot d)) opens
    unopened_order (opening.Unsupported bits) opens = by_start (opening.Unsupported bits) opens
    unopened_order opening.Geometry opens = by_start opening.Geometry opens
    unopened_order opening.LogPending opens = by_start opening.LogPending opens
    unopened_order opening.BadArray opens = by_start opening.BadArray opens
    unopened_order (opening.BadChunk a) opens = by_start (opening.BadChunk a) opens
    unopened_order (opening.Limit which n) opens = by_start (opening.Limit which n) opens

  -- The filesystem was opened, and it was restored from.
  pub opened_order : (mid : Seen) (volume after : Volume) (x y : Outside) (result : Result Counts Stop) → OnlyReads old mid → Opens images old mid (Ok volume)
      → (ran : Ran (listing plan dest volume.sup) (world mid volume x) (world new after y) result) → DidAndTold x y ran.did.done []
      → KeepsTo Journeys x y [] (stopped_answer skipped_in result)
  opened_order mid volume after x y result first opens ran stands = record {
    done = ran.did.done;
    answer = journey.opened (ended result);
    allowed = then (choices images) chunks ran.did.done (ended result) scanned listed;
    stands = stands;
    answered = listed_as volume.store.layout mid new result ran.cause;
  }
    where
      chunks : List Chunk
      chunks = volume.store.layout.chunks

      same : opens.start ≡ start
      same = same_start opens.start opens.is

      scan : Follows {S = ⊥} (unread_by (array_layout start) old mid) no_part [] (exec (fate images (array_layout start)) (table_scan start)) []
          (Ok (Ok chunks))
      scan = scan_follows images start old mid (Ok (Ok chunks)) told (array_agreed images start agreed)
          (subst (λ s. Scans s old mid (Ok (Ok chunks))) same opens.scans)

      scanned : Goes {S = ⊥} (unread_by (array_layout start) old new) no_part [] (λ n. choices images n (array_layout start)) (table_scan start) []
          (Ok (Ok chunks))
      scanned = scan_goes images start old new (Ok (Ok chunks)) (scan.0, scan.1)

      layout_is : volume.store.layout ≡ layout_by start chunks
      layout_is = opens.by.layout ∙ ap (λ s. layout_by s chunks) same

      sup_is : volume.sup ≡ start.sup
      sup_is = opens.by.sup ∙ ap (λ (s : Start). s.sup) same

      table_is : table_of images start ≡ chunks
      table_is = ap (table_or start.array) scan.1

      agree : Agreed images volume.store.layout
      agree = subst (Agreed images) (ap (layout_by start) table_is ∙ sym layout_is) agreed

      held : mid.held ≡ Some images
      held = ap (λ (s : Seen). s.held) first.same ∙ told

      ran_goes : Goes (unread_by volume.store.layout mid new) part [] (λ n. choices images n volume.store.layout) (listing plan dest volume.sup) ran.did.done
          (ended result)
      ran_goes =
          subst (λ (o : Option Images). IfSome o (λ i. Goes (unread_by volume.store.layout mid new) part [] (λ (n : ℕ). choices i n volume.store.layout)
          (listing plan dest volume.sup) ran.did.done (ended result))) held
          (ran.did.content.calls.content Any (subst (λ (o : Option Images). IfSome o (λ i. Agreed i volume.store.layout)) (sym held) agree))

      listed : Goes (unread_by (layout_by start chunks) old new) part [] (λ n. choices images n (layout_by start chunks))
          (listing plan dest start.sup) ran.did.done (ended result)
      listed =
          subst (λ l. Goes (unread_by l old new) part [] (λ (n : ℕ). choices images n l) (listing plan dest start.sup) ran.did.done (ended result)) layout_is
          (subst (λ s. Goes (unread_by volume.store.layout old new) part [] (λ (n : ℕ). choices images n volume.store.layout) (listing plan dest s) ran.did.done
          (ended result)) sup_is
          (ran_goes.0, ran_goes.1, goes_since volume.store.layout old mid new first ran_goes.0 ran.did.done (ended result) ran_goes.2))

-- The laws of btr_restore, for the calls between these.
module _ (plan : RestorePlan) (dest : List ℕ) (old new : Seen) (then : (start : Start) → journey.OpenedThen plan dest start old new)
    (refused : (start : Start) → journey.OpenRefused plan dest start old new) (halted : (start : Start) → journey.OpenHalted plan dest start old new) where
  -- the filesystem isn't opened
  pub unopened_in_order : (x : Outside) (answer result : Answer) → result ≡ answer
      → IfSome old.held (λ images. OpensAs images old new (Err answer)) → IfSome old.held (λ images. InOrder plan dest images old new x x result)
  unopened_in_order x answer result is = of old.held refl
    where
      by : (images : Images) → old.held ≡ Some images → (opening : Result Volume OpenFault) → Opens images old new opening → answer_as opening ≡ Err answer
          → InOrder plan dest images old new x x result
      by images told (Ok volume) opens same = absurd (cc same)
      by images told (Err refusal) opens same = λ start begun agreed.
          subst (KeepsTo (journey.Follows plan dest start old new (choices images)) x x []) (refusal_is refusal same ∙ sym is)
          (unopened_order plan dest images start begun agreed old new (then start) (refused start) (halted start) told x (nothing_stands x) refusal opens)
        where
          refusal_is : (refusal : OpenFault) → ◌≡◌ {A = Result Volume Answer} (Err (open_answer refusal)) (Err answer) → open_answer refusal ≡ answer
          refusal_is refusal e = cc e

      of : (held : Option Images) → old.held ≡ held → IfSome held (λ images. OpensAs images old new (Err answer))
          → IfSome held (λ images. InOrder plan dest images old new x x result)
      of None told opens = tt
      of (Some images) told opens = by images told opens.opening opens.opens opens.same

  -- it is open, and it was restored from
  pub opened_in_order : (mid : Seen) (volume after : Volume) (x y : Outside) (answer : Answer) (result : Result Counts Stop)
      → answer ≡ stopped_answer skipped_in result → OnlyReads old mid → IfSome old.held (λ images. OpensAs images old mid (Ok volume))
      → Ran (listing plan dest volume.sup) (world mid volume x) (world new after y) result
      → IfSome old.held (λ images. InOrder plan dest images old new x y answer)
  opened_in_order mid volume after x y answer result is first opens ran = of old.held refl opens
    where
      volume_is : (opened : Volume) → ◌≡◌ {A = Result Volume Answer} (Ok opened) (Ok volume) → opened ≡ volume
      volume_is opened e = cc e

      by : (images : Images) → old.held ≡ Some images → (opening : Result Volume OpenFault) → Opens images old mid opening → answer_as opening ≡ Ok volume
          → InOrder plan dest images old new x y answer
      by images told (Err refusal) opens same = absurd (cc same)
      by images told (Ok opened) opens same = λ start begun agreed.
          subst (KeepsTo (journey.Follows plan dest start old new (choices images)) x y []) (sym is)
          (opened_order plan dest images start begun agreed old new (then start) (refused start) (halted start) told mid volume after x y result first
          (subst (λ v. Opens images old mid (Ok v)) (volume_is opened same) opens) ran
          (did_stand volume.store.layout mid new volume after x y ran.did))

      of : (held : Option Images) → old.held ≡ held → IfSome held (λ images. OpensAs images old mid (Ok volume))
          → IfSome held (λ images. InOrder plan dest images old new x y answer)
      of None told opens = tt
      of (Some images) told opens = by images told opens.opening opens.opens opens.same

-- A line was put behind what was done, or a first part of it.
module _ (x y : Outside) (new : Option (List ℕ)) (after : CallAccount) (answer result : Answer)
    (line : IsPut y.text new y.out_calls after (error_line answer) answer result) where
  -- a text behind the steps that stand
  stands_then : (done : List Step) (more : List ℕ) → DidAndTold x y done [] → Adds y.text new more → DidAndTold x (with_line y new after) done more
  stands_then done more stands adds = record {
    sink = stands.sink;
    text = subst (Adds x.text new) (ap (λ l. l ++ more) (append-nil (text_of done))) (adds_twice x.text y.text new (text_of done ++ []) more stands.text adds);
  }

  -- what was kept to before the line of the answer is kept to behind it, or behind a first part of it
  with_the_line : (P : List Step → journey.Answer → Type 0) → KeepsTo P x y [] answer → KeepsLine P x (with_line y new after) result
  with_the_line P keeps = of line.put line.puts line.due
    where
      behind : (n : ℕ) → Adds y.text new (take n (error_line answer)) → KeepsTo P x (with_line y new after) (take n (error_line answer)) answer
      behind n adds = record {
        done = keeps.done;
        answer = keeps.answer;
        allowed = keeps.allowed;
        stands = stands_then keeps.done (take n (error_line answer)) keeps.stands adds;
        answered = keeps.answered;
      }

      of : (r : Result Unit SinkError) → Puts y.text new (error_line answer) r → result ≡ due_after r answer → KeepsLine P x (with_line y new after) result
      of (Ok u) puts due = record {
        due = answer;
        some = length (error_line answer);
        keeps = behind (length (error_line answer))
            (subst (Adds y.text new) (sym (take_all (length (error_line answer)) (error_line answer) (omega arith))) puts);
        ends = inl (due, omega arith);
      }
      of (Err Failed) puts due = record { due = answer; some = puts.0; keeps = behind puts.0 puts.1; ends = inr (inl due) }
      of (Err memory_fault) puts due = record { due = answer; some = puts.0; keeps = behind puts.0 puts.1; ends = inr (inr due) }

  -- a restore that follows its journey keeps to it with the line of its answer
  pub keeps_order : (words : Words) (shelf : Shelf) (old now : Seen) → FollowsOrder words shelf old now x y answer
      → KeepsOrder words shelf old now x (with_line y new after) result
  keeps_order words shelf old now follows plan dest images start from begun agreed =
      with_the_line (journey.Follows plan dest start old now (choices images)) (follows plan dest images from start begun agreed)

-- over honest images
pub keeps_committed : (law : journey.CommittedOrder) (words : Words) (shelf : Shelf) (old now : Seen) (x z : Outside) (result : Answer)
    → KeepsOrder words shelf old now x z result → KeepsCommittedOrder words shelf old now x z result
keeps_committed law words shelf old now x z result order plan dest images start C table from begun agreed honest closed =
    let h = order plan dest images start from begun agreed in record {
      due = h.due;
      some = h.some;
      ends = h.ends;
      keeps = record {
        done = h.keeps.done;
        answer = h.keeps.answer;
        allowed = law plan dest images start C table old now h.keeps.done h.keeps.answer honest closed h.keeps.allowed;
        stands = h.keeps.stands;
        answered = h.keeps.answered;
      };
    }
