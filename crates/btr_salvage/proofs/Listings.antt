-- A listing, mark by mark of a directory's tour.
use Rattle.std.proofs.Common.{◌≡◌, ℕ, zero, suc, List, [], ◌∷◌, ◌++◌, Option, Some, None, Result, Ok, Err, refl, sym, ◌∙◌, subst}
use Rattle.btr_prog.specs.Answers.{Halt, Follows, no_part}
use Rattle.btr_prog.specs.Goes.{AfterTo, GoOnTo, ThreadsTo}
use Rattle.btr_prog.specs.Prog.{Does, Mark as ProgMark, Run, Wants, run, first, prepend, and_then, wants_of}
use Rattle.btr_prog.specs.Trying.{Done, tried}
use Rattle.btr_prog.proofs.Cursors.{so_far_past, so_far_cursor}
use Rattle.btr_prog.proofs.Follow.{follows_alone, follows_as, follows_halt, follows_value}
use Rattle.btr_prog.proofs.SoFars.{SoFar, so_far_none, so_far_more, so_far_step, so_far_halts, so_far_ended}
use Rattle.btr_rack.specs.Rack.{OnlyReads, Seen}
use Rattle.btr_read.specs.Fate.{Fault}
use Rattle.btr_read.specs.Layout.{Layout}
use Rattle.btr_read.specs.Serves.{Serves}
use Rattle.btr_read.specs.declared.want.Want.{Want}
use Rattle.btr_super.specs.declared.superblock.Super.{Super}
use Rattle.btr_tour.specs.Program.{TourProg}
use Rattle.btr_tour.specs.Tour.{Mark}
use Rattle.btr_walk.specs.Reading.{HasCause, Map, Tells, UnreadBlock, halt_of, unread_by}
use Rattle.btr_walk.specs.declared.fault.TreeFault.{TreeFault}
use Rattle.btr_walk.proofs.Fetched.{cause_since, since}
use Rattle.btr_volume.specs.Looking.{SameVolume}
use Rattle.btr_volume.specs.Readable.{CanRead}
use Rattle.btr_volume.specs.declared.root.TreeRoot.{TreeRoot}
use Rattle.btr_volume.specs.declared.stop.Stop.{Stop as TheStop}
use Rattle.btr_volume.specs.declared.stop.Stop.TheVariants as stop
use Rattle.btr_volume.specs.declared.volume.Volume.{Volume}
use Rattle.btr_files.specs.declared.name.NameBuf.{NameBuf}
use Rattle.btr_files.specs.declared.plan.RestorePlan.{RestorePlan}
use Rattle.btr_listing.specs.Step.{Step, part}
use Rattle.btr_rack.proofs.Reading.{reads_more}
use Rattle.btr_volume.proofs.Onward.{behind_since, reads_on, same_then}
use Rattle.btr_volume.specs.Stops.{stop_halt}
use Rattle.btr_restore.specs.Restoring.{IsRestoreStop, OutCounts, SinkCounts}
use Rattle.btr_restore.specs.Running.{World, world}
use Rattle.btr_restore.proofs.Listings.{did_last, did_more, listed_more, listed_none}
use Rattle.btr_salvage.specs.declared.folder.Folder.{Folder}
use Rattle.btr_salvage.specs.declared.folder.Found.{Found}
use Rattle.btr_salvage.specs.declared.salvaged.Salvaged.{Salvaged}
use Rattle.btr_prog.specs.Attempts.{TriesTo, Tries, treat_each}
use Rattle.btr_salvage.specs.Folders.{GivesFound, IsFolder, IsFolderOn, IsNextFound, folder_left, found_in}
use Rattle.btr_salvage.specs.Listing.{IsUnderway, Left, LeftOf, MetOf, TreatsMark, by_mark, last_of, meet_in}
use Rattle.btr_salvage.specs.Running.{Ran}
use Rattle.btr_salvage.specs.Marks.{InFolder, folder_tour}
use Rattle.btr_salvage.specs.Salvaging.{Attempt, directory}
use Rattle.btr_prog.proofs.Attempts.{comes_some, comes_tried, tries_each, tried_ends}
use Rattle.btr_tour.proofs.Resting.{rest_on_more}
use Rattle.btr_salvage.proofs.Rans.{tries_as}

-- a directory, below which so many more may be entered, mark by mark
pub directory_is : (plan : RestorePlan) (s : Super) (sums : Option TreeRoot) (k : ℕ) (tree : TreeRoot) (dirid : ℕ) (path : List ℕ) (so_far : Salvaged)
    → treat_each (by_mark (meet_in plan s sums k tree dirid path)) so_far (folder_tour tree dirid) ≡ directory plan s sums k tree dirid path so_far
directory_is plan s sums zero tree dirid path so_far = refl
directory_is plan s sums (suc n) tree dirid path so_far = refl

module _ (treat : Salvaged → InFolder → Attempt Salvaged) (B : Map) (Bs : ℕ → Map) (zeroth : (w : Want) → Bs 0 w ≡ B w) where
  -- a run that treats a mark
  abbrev Body : Salvaged → Mark → Run Want Fault Step (Result Salvaged Salvaged) → Type 0
  Body = TreatsMark treat Bs

  -- what was salvaged when a listing ends
  abbrev last : Salvaged → Unit {0} → Salvaged
  last = last_of treat

  -- nothing is done yet
  left_first : (so_far : Salvaged) (folder : Folder) (p : TourProg) → folder_left B folder ≡ p → IsFolderOn B [] folder
      → LeftOf treat (treat_each (by_mark treat) so_far p) B Bs so_far folder []
  left_first so_far folder p is on =
      let whole = treat_each (by_mark treat) so_far p in
      let whole_by : Run Want Fault Step Salvaged → Type 0 = TriesTo Bs whole in
      record {
        seen = [];
        run = so_far_more whole_by whole_by (Left treat Bs so_far (tried B (folder_left B folder))) [] [] []
            (λ q h. tries_each Bs (by_mark treat) so_far p (tried B p).marks q (comes_tried Bs 0 B p zeroth)
            (subst (λ e. ThreadsTo Body last so_far (tried B p).marks e q) (tried_ends Bs B p)
            (subst (λ (x : TourProg). Left treat Bs so_far (tried B x) q) is h)))
            (so_far_none whole_by);
        on = on;
      }

  module _ (whole : Attempt Salvaged) (so_far : Salvaged) where
    -- a run of the whole listing
    abbrev Whole : Run Want Fault Step Salvaged → Type 0
    Whole = TriesTo Bs whole

    -- something was found
    met_next : (folder folder' : Folder) (found : InFolder) (done : List Step) → (l : LeftOf treat whole B Bs so_far folder done)
        → GivesFound B l.seen folder folder' found → MetOf treat whole B Bs so_far found folder' done
    met_next folder folder' found done l g = record {
      seen = l.seen ++ g.gives.past;
      mark = g.mark;
      says = g.says;
      run = so_far_past Body last Whole l.seen g.gives.past done so_far (tried B (folder_left B folder))
          (first (Does g.mark) (tried B (folder_left B folder'))) g.gives.is l.run;
      on = g.gives.on;
    }

    -- some run of what is left
    some_treat : (st : Salvaged) (mark : Mark) → (b : Run Want Fault Step (Result Salvaged Salvaged)) × Body st mark b
    some_treat st mark =
        let s = comes_some Bs 0 (by_mark treat st mark) in
        let q : Run Want Fault Step Salvaged = run s.0 s.1 in
        (and_then q (λ x. run [] (Ok (Ok x))), (q, s.2, refl))

    -- behind marks, whatever they came to, some run goes on
    some_after : (K : Salvaged → Run Want Fault Step Salvaged → Type 0) → ((st : Salvaged) → (q : Run Want Fault Step Salvaged) × K st q)
        → (ms : List (ProgMark Want Step)) (e : Result (Result Salvaged Salvaged) Fault) → (r : Run Want Fault Step Salvaged) × AfterTo ms e (GoOnTo K) r
    some_after K k ms (Ok (Ok st)) = let q = k st in (prepend ms q.0, (q.0, refl, q.1))
    some_after K k ms (Ok (Err y)) = (prepend ms (run [] (Ok y)), (run [] (Ok y), refl, refl))
    some_after K k ms (Err f) = (run ms (Err f), refl)

    -- the marks that are left are treated by some run
    some_left : (st : Salvaged) (ms : List (ProgMark Want Mark)) (e : Result (Unit {0}) Fault) → (r : Run Want Fault Step Salvaged)
        × ThreadsTo Body last st ms e r
    some_left st [] (Ok u) = (run [] (Ok st), refl)
    some_left st [] (Err f) = (run [] (Err f), refl)
    some_left st (Wants w ∷ ms) e = let q = some_left st ms e in (first (Wants w) q.0, (q.0, refl, q.1))
    some_left st (Does mark ∷ ms) e =
        let b = some_treat st mark in
        let r = some_after (λ st'. ThreadsTo Body last st' ms e) (λ st'. some_left st' ms e) b.0.marks b.0.ending in
        (r.0, (b.0, b.1, r.1))

    module _ (found : InFolder) (folder' : Folder) (done more : List Step) where
      -- the run of the marks behind what was found
      abbrev rest : Run Want Fault Mark (Unit {0})
      rest = tried B (folder_left B folder')

      -- it was treated wholly
      left_next : (Is : UnreadBlock → Want → Type 0) (so_far' : Salvaged) → MetOf treat whole B Bs so_far found folder' done
          → Tries Is part Bs (treat so_far found) more (Ok so_far') → LeftOf treat whole B Bs so_far' folder' (done ++ more)
      left_next Is so_far' l t =
          let b : Run Want Fault Step (Result Salvaged Salvaged) = and_then t.0 (λ x. run [] (Ok (Ok x))) in
          let body : Body so_far l.mark b = (t.0, subst (λ (x : InFolder). TriesTo Bs (treat so_far x) t.0) (sym l.says) t.1, refl) in
          record {
            seen = l.seen ++ wants_of b.marks;
            run = so_far_step Body last rest.marks rest.ending Is part Whole l.seen done more so_far so_far' l.mark b body
                (follows_alone Is part l.seen b more (Ok (Ok so_far')) (follows_value Is part [] Ok t.0 so_far' more t.2)) l.run;
            on = rest_on_more B l.seen (wants_of b.marks) folder'.rest l.on;
          }

      -- it was not treated to its end
      left_halts : (Is : UnreadBlock → Want → Type 0) (halt : Halt Fault UnreadBlock) → MetOf treat whole B Bs so_far found folder' done
          → Tries Is part Bs (treat so_far found) more (Err halt) → Tries Is part Bs whole (done ++ more) (Err halt)
      left_halts Is halt l t =
          let b : Run Want Fault Step (Result Salvaged Salvaged) = and_then t.0 (λ x. run [] (Ok (Ok x))) in
          let body : Body so_far l.mark b = (t.0, subst (λ (x : InFolder). TriesTo Bs (treat so_far x) t.0) (sym l.says) t.1, refl) in
          so_far_halts Body last rest.marks rest.ending Is part Whole l.seen done more so_far l.mark b halt (λ st. (some_left st rest.marks rest.ending).0)
          (λ st. (some_left st rest.marks rest.ending).1) body
          (follows_alone Is part l.seen b more (Err halt) (follows_halt Is part [] t.0 (λ x. run [] (Ok (Ok x))) more halt t.2)) l.run

    -- a block could not be read, and all was met
    left_fault : (Is : UnreadBlock → Want → Type 0) (folder : Folder) (done : List Step) (halt : Halt Fault UnreadBlock)
        → (l : LeftOf treat whole B Bs so_far folder done) → Follows Is no_part l.seen (tried B (folder_left B folder)) [] (Err halt)
        → Tries Is part Bs whole done (Err halt)
    left_fault Is folder done halt l f =
        so_far_cursor Body last (λ st r. some_left st r.marks r.ending) Is part Whole l.seen done so_far (tried B (folder_left B folder)) halt f l.run

    -- where all was met the listing came to its end, with what was salvaged
    left_ended : (Is : UnreadBlock → Want → Type 0) (folder : Folder) (done : List Step) → (l : LeftOf treat whole B Bs so_far folder done)
        → folder_left B folder ≡ Done tt → Tries Is part Bs whole done (Ok so_far)
    left_ended Is folder done l e =
        so_far_ended Body last Is part Whole l.seen done so_far tt (subst
        (λ (p : TourProg). SoFar Whole (Left treat Bs so_far (tried B p)) l.seen done) e l.run)

-- a listing that begins is under way
pub underway_first : {meets : Super → ℕ → List ℕ → Salvaged → InFolder → Attempt Salvaged} {whole : Super → Attempt Salvaged} {deeper : ℕ}
    {path : List ℕ} {x : World} {so_far : Salvaged} {folder : Folder} (p : TourProg) → CanRead 6 x.rack x.vol → IsFolder folder
    → ((s : Super) → treat_each (by_mark (meets s deeper path)) so_far p ≡ whole s)
    → ((B : Map) → folder_left B folder ≡ p) → ((B : Map) → IsFolderOn B [] folder) → IsUnderway meets whole deeper path x x so_far folder path deeper
underway_first {meets} {whole} {deeper} {path} {x} {so_far} {folder} p ready reads_on all is on = record {
  ready = ready;
  reads_on = reads_on;
  same_path = refl;
  same_below = refl;
  listed = λ s e. listed_none x ready (λ B Bs zeroth. subst (λ (w : Attempt Salvaged). LeftOf (meets s deeper path) w B Bs so_far folder []) (all s)
      (left_first (meets s deeper path) B Bs zeroth so_far folder p (is B) (on B)));
}

-- a listing that is under way, call by call
module _ {meets : Super → ℕ → List ℕ → Salvaged → InFolder → Attempt Salvaged} {whole : Super → Attempt Salvaged} {deeper below : ℕ}
    {path here : List ℕ} {x y : World} {so_far : Salvaged} {folder : Folder}
    (under : IsUnderway meets whole deeper path x y so_far folder here below) (folder' : Folder) (name : NameBuf) {rack : Seen}
    {vol : Volume} (reads : OnlyReads y.rack rack) (same : SameVolume y.vol vol) (serves : Serves rack vol.store) where
  -- what is found next in the directory, by a layout
  abbrev Next : Result (Option Found) TreeFault → Layout → Map → Type 0
  Next result L B = IsNextFound (unread_by L y.rack rack) B folder folder' name result

  -- a block that the last call could not read could not be read since the listing began
  earlier : (s : Super) → s ≡ x.vol.sup → (u : UnreadBlock) (w : Want) → unread_by x.vol.store.layout y.rack rack u w
      → unread_by x.vol.store.layout x.rack rack u w
  earlier s e u w i = since x.vol.store.layout x.vol.store.layout refl (under.listed s e).reads u w i

  -- a block could not be read
  pub underway_fault : (f : TreeFault) → HasCause {A = Option Found} y.vol.store.layout y.rack rack (Err f)
      → Tells y.vol.store.layout y.rack rack (Next (Err f) y.vol.store.layout) → (s : Super) → s ≡ x.vol.sup
      → Ran (whole s) x (world rack vol y.out) (Err (stop.Tree f))
  underway_fault f cause t s e =
      let so = under.listed s e in
      record {
        reads = reads_more so.reads reads;
        volume = same_then so.volume same;
        ready = reads_on rack y.vol vol under.ready serves same;
        did = did_last so reads (Next (Err f)) t vol (λ Is Bs done. Tries Is part Bs (whole s) done (Err (halt_of f)))
            (λ B Bs zeroth was next. left_fault (meets s deeper path) B Bs zeroth (whole s) so_far (unread_by x.vol.store.layout x.rack rack) folder so.done
            (halt_of f) was (follows_as (unread_by x.vol.store.layout y.rack rack) (unread_by x.vol.store.layout x.rack rack) (earlier s e) no_part was.seen
            (tried B (folder_left B folder)) [] (Err (halt_of f)) (next was.seen was.on)));
        cause = cause_since rack x.vol.store.layout y.vol.store.layout f so.volume.store.layout so.reads cause;
        sink_calls = so.sink_calls;
        out_calls = so.out_calls;
      }

  module _ {result : Result (Option Found) TreeFault} (t : Tells y.vol.store.layout y.rack rack (Next result y.vol.store.layout)) where
    -- the same of its answer as it is known
    known : (other : Result (Option Found) TreeFault) → result ≡ other → Tells y.vol.store.layout y.rack rack (Next other y.vol.store.layout)
    known other is = subst (λ r. Tells y.vol.store.layout y.rack rack (Next r y.vol.store.layout)) is t

    -- all was met
    pub underway_end : result ≡ Ok None → (s : Super) → s ≡ x.vol.sup → Ran (whole s) x (world rack vol y.out) (Ok so_far)
    underway_end is s e =
        let so = under.listed s e in
        record {
          reads = reads_more so.reads reads;
          volume = same_then so.volume same;
          ready = reads_on rack y.vol vol under.ready serves same;
          did = did_last so reads (Next (Ok None)) (known (Ok None) is) vol (λ Is Bs done. Tries Is part Bs (whole s) done (Ok so_far))
              (λ B Bs zeroth was next. left_ended (meets s deeper path) B Bs zeroth (whole s) so_far (unread_by x.vol.store.layout x.rack rack) folder so.done
              was (next was.seen was.on));
          cause = tt;
          sink_calls = so.sink_calls;
          out_calls = so.out_calls;
        }

    module _ (found : Found) (is : result ≡ Ok (Some found)) where
      -- what was found, with its name from the buffer
      abbrev what : InFolder
      what = found_in found name

      module _ {z : World} where
        -- what was done with it, as the listing does it that began
        as_began : {r : Result Salvaged TheStop} → ((s : Super) → s ≡ vol.sup → Ran (meets s below here so_far what) (world rack vol y.out) z r)
            → (s : Super) → s ≡ x.vol.sup → Ran (meets s deeper path so_far what) (world rack vol y.out) z r
        as_began {r} h s e =
            let run : Ran (meets s below here so_far what) (world rack vol y.out) z r =
            h s (e ∙ (sym (under.listed s e).volume.sup ∙ sym same.sup)) in
            subst (λ (k : ℕ). Ran (meets s k path so_far what) (world rack vol y.out) z r) under.same_below
            (subst (λ (p : List ℕ). Ran (meets s below p so_far what) (world rack vol y.out) z r) under.same_path run)

        -- what was found was treated wholly
        pub underway_step : (so_far' : Salvaged) {here' : List ℕ} {below' : ℕ}
            → ((s : Super) → s ≡ vol.sup → Ran (meets s below here so_far what) (world rack vol y.out) z (Ok so_far')) → IsFolder folder'
            → here' ≡ path → below' ≡ below → IsUnderway meets whole deeper path x z so_far' folder' here' below'
        underway_step so_far' h on at places = record {
          ready = (h vol.sup refl).ready;
          reads_on = on;
          same_path = at;
          same_below = places ∙ under.same_below;
          listed = λ s e.
              let so = under.listed s e in
              let r = as_began h s e in
              listed_more so reads (Next (Ok (Some found))) (known (Ok (Some found)) is) same z r.did r.reads r.volume r.ready r.sink_calls r.out_calls
              (λ B Bs zeroth was next more. left_next (meets s deeper path) B Bs zeroth (whole s) so_far what folder' so.done r.did.done
              (unread_by x.vol.store.layout rack z.rack) so_far' (met_next (meets s deeper path) B Bs zeroth (whole s) so_far folder folder' what so.done was
              (next was.seen was.on)) more);
        }

        -- what was found was not treated to its end
        pub underway_halt : (halt : TheStop)
            → ((s : Super) → s ≡ vol.sup → Ran (meets s below here so_far what) (world rack vol y.out) z (Err halt))
            → (s : Super) → s ≡ x.vol.sup → Ran (whole s) x z (Err halt)
        underway_halt halt h s e =
            let so = under.listed s e in
            let r = as_began h s e in
            record {
              reads = reads_more (reads_more so.reads reads) r.reads;
              volume = same_then (same_then so.volume same) r.volume;
              ready = r.ready;
              did = did_more so reads (Next (Ok (Some found))) (known (Ok (Some found)) is) same z r.did
                  (λ Is Bs done. Tries Is part Bs (whole s) done (Err (stop_halt halt)))
                  (λ B Bs zeroth was next more. left_halts (meets s deeper path) B Bs zeroth (whole s) so_far what folder' so.done r.did.done
                  (unread_by x.vol.store.layout x.rack z.rack) (stop_halt halt) (met_next (meets s deeper path) B Bs zeroth (whole s) so_far folder folder' what
                  so.done was (next was.seen was.on)) (tries_as Bs (unread_by x.vol.store.layout rack z.rack)
                  (unread_by x.vol.store.layout x.rack z.rack) (meets s deeper path so_far what) r.did.done (Err (stop_halt halt))
                  (λ u w i. since x.vol.store.layout x.vol.store.layout refl (reads_more so.reads reads) u w i) more));
              cause = behind_since IsRestoreStop {C = Salvaged} z.rack x.vol.store.layout vol.store.layout (Err halt)
                  (same.store.layout ∙ so.volume.store.layout) (reads_more so.reads reads) r.cause;
              sink_calls = subst (λ a. SinkCounts {A = Salvaged} a z.out.sink_calls (Err halt)) so.sink_calls r.sink_calls;
              out_calls = subst (λ a. OutCounts {A = Salvaged} a z.out.out_calls (Err halt)) so.out_calls r.out_calls;
            }
