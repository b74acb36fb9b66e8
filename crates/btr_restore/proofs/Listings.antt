-- A listing entry by entry.
use Rattle.std.proofs.Common.{◌≡◌, ℕ, zero, suc, List, [], ◌++◌, Option, Some, None, Result, Ok, Err, refl, sym, ap, ◌∙◌, subst}
use Rattle.std.specs.Prelude.{fold}
use Rattle.btr_prog.specs.Answers.{Halt, Follows, no_part}
use Rattle.btr_prog.specs.Goes.{GoesTo, Goes, ThreadsTo}
use Rattle.btr_prog.specs.Prog.{Does, Run, run, first, exec, needs, wants_of}
use Rattle.btr_prog.proofs.Choices.{goes_some, goes_value, with_value}
use Rattle.btr_prog.proofs.ChoiceThreads.{goes_thread}
use Rattle.btr_prog.proofs.Cursors.{so_far_past, so_far_cursor}
use Rattle.btr_prog.proofs.Follow.{follows_alone, follows_value, follows_halt, follows_as}
use Rattle.btr_prog.proofs.SoFars.{SoFar, so_far_none, so_far_more, so_far_step, so_far_halts, so_far_last, so_far_ended, threads_map, some_run}
use Rattle.btr_prog.proofs.Successive.{calls_then, calls_none}
use Rattle.btr_rack.specs.Rack.{Seen, OnlyReads}
use Rattle.btr_read.specs.Fate.{Fault, fate}
use Rattle.btr_read.specs.Layout.{Layout}
use Rattle.btr_read.specs.Serves.{Serves}
use Rattle.btr_read.specs.declared.want.Want.{Want}
use Rattle.btr_walk.specs.declared.fault.TreeFault.{TreeFault}
use Rattle.btr_walk.specs.Reading.{Map, UnreadBlock, Tells, unread_by, halt_of, HasCause}
use Rattle.btr_walk.proofs.Fetched.{since, cause_since}
use Rattle.btr_volume.specs.Lookup.{Program, each}
use Rattle.btr_volume.specs.Looking.{SameVolume}
use Rattle.btr_volume.specs.Readable.{CanRead}
use Rattle.btr_volume.specs.declared.stop.Stop.{Stop as TheStop}
use Rattle.btr_volume.specs.declared.stop.Stop.TheVariants as stop
use Rattle.btr_files.specs.declared.counts.Counts.{Counts}
use Rattle.btr_files.specs.declared.dir.Dir.{Dir}
use Rattle.btr_files.specs.declared.dir_row.DirRow.{DirRow}
use Rattle.btr_files.specs.declared.name.NameBuf.{NameBuf}
use Rattle.btr_files.specs.declared.plan.RestorePlan.{RestorePlan}
use Rattle.btr_files.specs.Entries.{DirEntry, entries}
use Rattle.btr_files.specs.Maps.{TellsAll}
use Rattle.btr_super.specs.declared.superblock.Super.{Super}
use Rattle.btr_volume.specs.declared.root.TreeRoot.{TreeRoot}
use Rattle.btr_volume.specs.declared.volume.Volume.{Volume}
use Rattle.btr_restore.specs.Journey.{directory}
use Rattle.btr_files.proofs.Nextward.{rest_more}
use Rattle.btr_files.specs.Listing.{dir_left, IsDir, IsDirOn, GivesEntry, IsNextEntry, named_row}
use Rattle.btr_restore.specs.Listing.{maps_of, TellsBoth, body_of, last_of, treat_in, IsUnderway, Left, LeftOf, MetOf, Listed}
use Rattle.btr_restore.specs.Restoring.{Did, IsRestoreStop, sink_after, text_after, SinkCounts, OutCounts}
use Rattle.btr_volume.specs.Stops.{stop_halt}
use Rattle.btr_rack.proofs.Reading.{reads_none, reads_more}
use Rattle.btr_volume.proofs.Onward.{behind_since, reads_on, same_self, same_then}
use Rattle.btr_restore.specs.Running.{World, world, scene_of, Ran}
use Rattle.btr_listing.specs.Step.{Step, part}
use Rattle.btr_restore.proofs.Doing.{fold-append, text_then}
use Rattle.btr_restore.proofs.Emitting.{text_none}
use Rattle.btr_restore.proofs.Goings.{if_some, if_both, first_map, each_all, goes_as}

-- facts of calls in a row, over one layout
module _ (layout : Layout) (a b c : Seen) where
  -- what holds after some calls, and what a lookup after them tells of the block map, give what holds after both
  pub both_then : (P : Map → (ℕ → Map) → Type 0) (Q : Map → Type 0) (R : Map → (ℕ → Map) → Type 0)
      → ((B : Map) (Bs : ℕ → Map) → ((w : Want) → Bs 0 w ≡ B w) → P B Bs → Q B → R B Bs) → TellsBoth layout a b P → Tells layout b c Q → TellsBoth layout a c R
  both_then P Q R f one two = calls_then (λ sure held p q.
      if_both (λ images. P (fate images layout) (maps_of layout sure images)) (λ images. Q (fate images layout))
      (λ images. R (fate images layout) (maps_of layout sure images)) held
      (λ images h g. f (fate images layout) (maps_of layout sure images) (first_map layout sure images) h g) p q) one two.calls

  -- what holds after some calls, and what calls after them tell of all block maps, give what holds after both
  pub both_all : (P : Map → (ℕ → Map) → Type 0) (Q : (ℕ → Map) → Type 0) (R : Map → (ℕ → Map) → Type 0)
      → ((B : Map) (Bs : ℕ → Map) → ((w : Want) → Bs 0 w ≡ B w) → P B Bs → Q Bs → R B Bs) → TellsBoth layout a b P → TellsAll layout b c Q
      → TellsBoth layout a c R
  both_all P Q R f one two = calls_then (λ sure held p q.
      if_both (λ images. P (fate images layout) (maps_of layout sure images)) (λ images. Q (maps_of layout sure images))
      (λ images. R (fate images layout) (maps_of layout sure images)) held
      (λ images h g. f (fate images layout) (maps_of layout sure images) (first_map layout sure images) h g) p q) one two.calls

-- what holds of the maps that a block may come to, apart from the one of the images
pub all_of : (layout : Layout) (a b : Seen) (R : (ℕ → Map) → Type 0) → TellsBoth layout a b (λ B Bs. R Bs) → TellsAll layout a b R
all_of layout a b R t = record { calls = t }

-- what holds of all maps whose first is the block map holds where no call was made
pub both_none : (layout : Layout) (a : Seen) (P : Map → (ℕ → Map) → Type 0) → ((B : Map) (Bs : ℕ → Map) → ((w : Want) → Bs 0 w ≡ B w) → P B Bs)
    → TellsBoth layout a a P
both_none layout a P f = calls_none (λ sure. if_some (λ images. P (fate images layout) (maps_of layout sure images)) a.held
    (λ images. f (fate images layout) (maps_of layout sure images) (first_map layout sure images)))

-- what a listing's calls did, whatever its directory has left
module _ {Left : Map → (ℕ → Map) → List Step → Type 0} {x y : World} (so : Listed Left x y) {rack : Seen} (reads : OnlyReads y.rack rack)
    (Next : Layout → Map → Type 0) (told : Tells y.vol.store.layout y.rack rack (Next y.vol.store.layout)) where
  -- how far the listing had come before the call
  abbrev Was : Map → (ℕ → Map) → Type 0
  Was B Bs = Left B Bs so.done

  -- what the last call told, over the layout that the listing began with
  over : Tells x.vol.store.layout y.rack rack (Next x.vol.store.layout)
  over = subst (λ (L : Layout). Tells L y.rack rack (Next L)) so.volume.store.layout told

  -- a call that only read was the last
  pub did_last : (vol : Volume) (P : (UnreadBlock → Want → Type 0) → (ℕ → Map) → List Step → Type 0)
      → ((B : Map) (Bs : ℕ → Map) → ((w : Want) → Bs 0 w ≡ B w) → Was B Bs → Next x.vol.store.layout B
      → P (unread_by x.vol.store.layout x.rack rack) Bs so.done)
      → Did x.vol.store.layout (scene_of x) (scene_of (world rack vol y.out)) P
  did_last vol P f = record {
    done = so.done;
    sink = so.sink;
    text = so.text;
    content = all_of x.vol.store.layout x.rack rack (λ Bs. P (unread_by x.vol.store.layout x.rack rack) Bs so.done)
        (both_then x.vol.store.layout x.rack y.rack rack Was (Next x.vol.store.layout) (λ B Bs. P (unread_by x.vol.store.layout x.rack rack) Bs so.done) f
        so.content over);
  }

  -- a call that only read, and then some steps
  module _ {vol : Volume} (same : SameVolume y.vol vol) (z : World) {Q : (UnreadBlock → Want → Type 0) → (ℕ → Map) → List Step → Type 0}
      (d : Did vol.store.layout (scene_of (world rack vol y.out)) (scene_of z) Q) where
    -- what all steps did to the sink, and to the text of the output
    sink_on : z.out.sink ≡ fold sink_after x.out.sink (so.done ++ d.done)
    sink_on = d.sink ∙ (ap (λ v. fold sink_after v d.done) so.sink ∙ sym (fold-append sink_after x.out.sink so.done d.done))

    text_on : z.out.text ≡ text_after x.out.text (so.done ++ d.done)
    text_on = d.text ∙ (ap (λ u. text_after u d.done) so.text ∙ text_then x.out.text so.done d.done)

    -- what is left, what the last call told and what the steps follow say together
    told_on : (R : Map → (ℕ → Map) → Type 0)
        → ((B : Map) (Bs : ℕ → Map) → ((w : Want) → Bs 0 w ≡ B w) → Was B Bs → Next x.vol.store.layout B
        → Q (unread_by x.vol.store.layout rack z.rack) Bs d.done → R B Bs) → TellsBoth x.vol.store.layout x.rack z.rack R
    told_on R f = both_all x.vol.store.layout x.rack rack z.rack (λ B Bs. Was B Bs × Next x.vol.store.layout B)
        (λ Bs. Q (unread_by x.vol.store.layout rack z.rack) Bs d.done) R (λ B Bs zeroth p q. f B Bs zeroth p.0 p.1 q)
        (both_then x.vol.store.layout x.rack y.rack rack Was (Next x.vol.store.layout) (λ B Bs. Was B Bs × Next x.vol.store.layout B)
        (λ B Bs zeroth p q. (p, q)) so.content over)
        (subst (λ (L : Layout). TellsAll L rack z.rack (λ Bs. Q (unread_by L rack z.rack) Bs d.done)) (same.store.layout ∙ so.volume.store.layout) d.content)

    -- all that was done since the listing began
    pub did_more : (P : (UnreadBlock → Want → Type 0) → (ℕ → Map) → List Step → Type 0)
        → ((B : Map) (Bs : ℕ → Map) → ((w : Want) → Bs 0 w ≡ B w) → Was B Bs → Next x.vol.store.layout B
        → Q (unread_by x.vol.store.layout rack z.rack) Bs d.done → P (unread_by x.vol.store.layout x.rack z.rack) Bs (so.done ++ d.done))
        → Did x.vol.store.layout (scene_of x) (scene_of z) P
    did_more P f = record {
      done = so.done ++ d.done;
      sink = sink_on;
      text = text_on;
      content = all_of x.vol.store.layout x.rack z.rack (λ Bs. P (unread_by x.vol.store.layout x.rack z.rack) Bs (so.done ++ d.done))
          (told_on (λ B Bs. P (unread_by x.vol.store.layout x.rack z.rack) Bs (so.done ++ d.done)) f);
    }

    -- so the listing has come further
    pub listed_more : {Then : Map → (ℕ → Map) → List Step → Type 0} → OnlyReads rack z.rack → SameVolume vol z.vol → CanRead 6 z.rack z.vol
        → z.out.sink_calls ≡ y.out.sink_calls → z.out.out_calls ≡ y.out.out_calls
        → ((B : Map) (Bs : ℕ → Map) → ((w : Want) → Bs 0 w ≡ B w) → Was B Bs → Next x.vol.store.layout B
        → Q (unread_by x.vol.store.layout rack z.rack) Bs d.done → Then B Bs (so.done ++ d.done)) → Listed Then x z
    listed_more {Then} more kept ready sinks outs f = record {
      reads = reads_more (reads_more so.reads reads) more;
      volume = same_then (same_then so.volume same) kept;
      ready = ready;
      done = so.done ++ d.done;
      sink = sink_on;
      text = text_on;
      content = told_on (λ B Bs. Then B Bs (so.done ++ d.done)) f;
      sink_calls = sinks ∙ so.sink_calls;
      out_calls = outs ∙ so.out_calls;
    }

-- a listing of which nothing is done yet
pub listed_none : {Left : Map → (ℕ → Map) → List Step → Type 0} (x : World) → CanRead 6 x.rack x.vol
    → ((B : Map) (Bs : ℕ → Map) → ((w : Want) → Bs 0 w ≡ B w) → Left B Bs []) → Listed Left x x
listed_none {Left} x ready f = record {
  reads = reads_none x.rack;
  volume = same_self x.vol;
  ready = ready;
  done = [];
  sink = refl;
  text = text_none x.out.text;
  content = both_none x.vol.store.layout x.rack (λ B Bs. Left B Bs []) f;
  sink_calls = refl;
  out_calls = refl;
}

-- a directory, below which so many more may be entered, entry by entry
pub directory_is : (plan : RestorePlan) (s : Super) (sums : Option TreeRoot) (k : ℕ) (tree : TreeRoot) (dirid : ℕ) (path : List ℕ) (counts : Counts)
    → each (treat_in plan s sums k tree dirid path) counts (entries tree dirid) ≡ directory plan s sums k tree dirid path counts
directory_is plan s sums zero tree dirid path counts = refl
directory_is plan s sums (suc n) tree dirid path counts = refl

module _ (treat : Counts → DirEntry → Program Step Counts) (B : Map) (Bs : ℕ → Map) (zeroth : (w : Want) → Bs 0 w ≡ B w) where
  -- a run that treats an entry
  abbrev Body : Counts → DirEntry → Run Want Fault Step (Result Counts Counts) → Type 0
  Body st entry b = GoesTo Bs (body_of treat st entry) b

  -- the counts that a listing ends with
  abbrev last : Counts → Unit {0} → Counts
  last = last_of treat

  -- nothing is done yet
  left_first : (counts : Counts) (dir : Dir) (p : Program DirEntry (Unit {0})) → dir_left B dir ≡ p → IsDirOn B [] dir
      → LeftOf treat (each treat counts p) B Bs counts dir []
  left_first counts dir p is on = record {
    seen = [];
    so_far = so_far_more (GoesTo Bs (each treat counts p)) (GoesTo Bs (each treat counts p)) (Left treat Bs counts (exec B (dir_left B dir))) [] [] []
        (λ q h. goes_thread Bs (body_of treat) last counts p (exec B p) q
        (goes_some Bs B p (each_all (λ w. (i : ℕ) × (Bs i w ≡ B w)) (needs B p) (λ w. (0, zeroth w))))
        (subst (λ (x : Program DirEntry (Unit {0})). Left treat Bs counts (exec B x) q) is h))
        (so_far_none (GoesTo Bs (each treat counts p)));
    on = on;
  }

  module _ (whole : Program Step Counts) (counts : Counts) where
    -- a run of the whole listing
    abbrev Whole : Run Want Fault Step Counts → Type 0
    Whole = GoesTo Bs whole

    -- an entry was met
    met_next : (dir dir' : Dir) (entry : DirEntry) (done : List Step) → (l : LeftOf treat whole B Bs counts dir done)
        → GivesEntry B l.seen dir dir' entry → MetOf treat whole B Bs counts entry dir' done
    met_next dir dir' entry done l g = record {
      seen = l.seen ++ g.past;
      so_far = so_far_past Body last Whole l.seen g.past done counts (exec B (dir_left B dir)) (first (Does entry) (exec B (dir_left B dir'))) g.is l.so_far;
      on = g.on;
    }

    module _ (entry : DirEntry) (dir' : Dir) (done more : List Step) where
      -- the run of the entries behind the one that was met
      abbrev rest : Run Want Fault DirEntry (Unit {0})
      rest = exec B (dir_left B dir')

      -- an entry was met and treated wholly
      left_next : (Is : UnreadBlock → Want → Type 0) (counts' : Counts) → MetOf treat whole B Bs counts entry dir' done
          → Goes Is part [] Bs (treat counts entry) more (Ok counts') → LeftOf treat whole B Bs counts' dir' (done ++ more)
      left_next Is counts' l t =
          let b : Run Want Fault Step (Result Counts Counts) = with_value {S = Step} Bs Ok t.0 in
          record {
            seen = l.seen ++ wants_of b.marks;
            so_far = so_far_step Body last rest.marks rest.ending Is part Whole l.seen done more counts counts' entry b
                (goes_value Bs Ok (treat counts entry) t.0 t.1)
                (follows_alone Is part l.seen b more (Ok (Ok counts')) (follows_value Is part [] Ok t.0 counts' more t.2)) l.so_far;
            on = rest_more B l.seen (wants_of b.marks) dir'.rest l.on;
          }

      -- an entry was met and not treated to its end
      left_halts : (Is : UnreadBlock → Want → Type 0) (halt : Halt Fault UnreadBlock) → MetOf treat whole B Bs counts entry dir' done
          → Goes Is part [] Bs (treat counts entry) more (Err halt) → Goes Is part [] Bs whole (done ++ more) (Err halt)
      left_halts Is halt l t =
          let b : Run Want Fault Step (Result Counts Counts) = with_value {S = Step} Bs Ok t.0 in
          so_far_halts Body last rest.marks rest.ending Is part Whole l.seen done more counts entry b halt
          (λ st. some_run Bs 0 (body_of treat) last st rest.marks rest.ending)
          (λ st. threads_map Bs 0 (body_of treat) last st rest.marks rest.ending) (goes_value Bs Ok (treat counts entry) t.0 t.1)
          (follows_alone Is part l.seen b more (Err halt) (follows_halt Is part [] t.0 (λ x. run [] (Ok (Ok x))) more halt t.2)) l.so_far

    -- the entries came to a fault, and to their end
    left_fault : (Is : UnreadBlock → Want → Type 0) (dir : Dir) (done : List Step) (halt : Halt Fault UnreadBlock)
        → (l : LeftOf treat whole B Bs counts dir done) → Follows Is no_part l.seen (exec B (dir_left B dir)) [] (Err halt)
        → Goes Is part [] Bs whole done (Err halt)
    left_fault Is dir done halt l f =
        so_far_cursor Body last (λ st r. (
          some_run Bs 0 (body_of treat) last st r.marks r.ending,
          threads_map Bs 0 (body_of treat) last st r.marks
              r.ending,
        )) Is part Whole l.seen done counts (exec B (dir_left B dir)) halt f l.so_far

    -- where the entries came to their end, the listing did so too, with its counts
    left_ended : (Is : UnreadBlock → Want → Type 0) (dir : Dir) (done : List Step) → (l : LeftOf treat whole B Bs counts dir done)
        → Follows Is no_part l.seen (exec B (dir_left B dir)) [] (Ok tt) → Goes Is part [] Bs whole done (Ok counts)
    left_ended Is dir done l f =
        let r = exec B (dir_left B dir) in
        let last_mark = so_far_last Body last r.ending Whole done counts r.marks l.seen (sym f.0) l.so_far in
        so_far_ended Body last Is part Whole (l.seen ++ last_mark.0) done counts tt
        (subst (λ (e : Result (Unit {0}) Fault). SoFar Whole (ThreadsTo Body last counts [] e) (l.seen ++ last_mark.0) done) f.1 last_mark.1)

-- a listing that begins is under way
pub underway_first : {treat : Super → ℕ → List ℕ → Counts → DirEntry → Program Step Counts} {whole : Super → Program Step Counts} {deeper : ℕ}
    {path : List ℕ} {x : World} {counts : Counts} {dir : Dir} (p : Program DirEntry (Unit {0})) → CanRead 6 x.rack x.vol → IsDir dir
    → ((s : Super) → each (treat s deeper path) counts p ≡ whole s)
    → ((B : Map) → dir_left B dir ≡ p) → ((B : Map) → IsDirOn B [] dir) → IsUnderway treat whole deeper path x x counts dir path deeper
underway_first {treat} {whole} {deeper} {path} {x} {counts} {dir} p ready reads_on all is on = record {
  ready = ready;
  reads_on = reads_on;
  same_path = refl;
  same_below = refl;
  listed = λ s e. listed_none x ready (λ B Bs zeroth. subst (λ (w : Program Step Counts). LeftOf (treat s deeper path) w B Bs counts dir []) (all s)
      (left_first (treat s deeper path) B Bs zeroth counts dir p (is B) (on B)));
}

-- a listing that is under way, call by call
module _ {treat : Super → ℕ → List ℕ → Counts → DirEntry → Program Step Counts} {whole : Super → Program Step Counts} {deeper below : ℕ}
    {path here : List ℕ} {x y : World} {counts : Counts} {dir : Dir} (under : IsUnderway treat whole deeper path x y counts dir here below) (dir' : Dir)
    (name : NameBuf) {rack : Seen} {vol : Volume} (reads : OnlyReads y.rack rack) (same : SameVolume y.vol vol) (serves : Serves rack vol.store) where
  abbrev NextOf : Result (Option DirRow) TreeFault → Layout → Map → Type 0
  NextOf result L B = IsNextEntry (unread_by L y.rack rack) B dir dir' name result

  -- a block that the last call could not read could not be read since the listing began
  earlier : (s : Super) → s ≡ x.vol.sup → (u : UnreadBlock) (w : Want) → unread_by x.vol.store.layout y.rack rack u w
      → unread_by x.vol.store.layout x.rack rack u w
  earlier s e u w i = since x.vol.store.layout x.vol.store.layout refl (under.listed s e).reads u w i

  -- its directory came to a fault
  pub underway_fault : (f : TreeFault) → HasCause {A = Option DirRow} y.vol.store.layout y.rack rack (Err f)
      → Tells y.vol.store.layout y.rack rack (NextOf (Err f) y.vol.store.layout) → (s : Super) → s ≡ x.vol.sup
      → Ran (whole s) x (world rack vol y.out) (Err (stop.Tree f))
  underway_fault f cause t s e =
      let so = under.listed s e in
      record {
        reads = reads_more so.reads reads;
        volume = same_then so.volume same;
        ready = reads_on rack y.vol vol under.ready serves same;
        did = did_last so reads (NextOf (Err f)) t vol (λ Is Bs done. Goes Is part [] Bs (whole s) done (Err (halt_of f)))
            (λ B Bs zeroth was next. left_fault (treat s deeper path) B Bs zeroth (whole s) counts (unread_by x.vol.store.layout x.rack rack) dir so.done
            (halt_of f) was (follows_as (unread_by x.vol.store.layout y.rack rack) (unread_by x.vol.store.layout x.rack rack) (earlier s e) no_part was.seen
            (exec B (dir_left B dir)) [] (Err (halt_of f)) (next was.seen was.on)));
        cause = cause_since rack x.vol.store.layout y.vol.store.layout f so.volume.store.layout so.reads cause;
        sink_calls = so.sink_calls;
        out_calls = so.out_calls;
      }

  module _ {result : Result (Option DirRow) TreeFault} (t : Tells y.vol.store.layout y.rack rack (NextOf result y.vol.store.layout)) where
    -- the same of its answer as it is known
    known : (other : Result (Option DirRow) TreeFault) → result ≡ other → Tells y.vol.store.layout y.rack rack (NextOf other y.vol.store.layout)
    known other is = subst (λ r. Tells y.vol.store.layout y.rack rack (NextOf r y.vol.store.layout)) is t

    -- it came to its end
    pub underway_end : result ≡ Ok None → (s : Super) → s ≡ x.vol.sup → Ran (whole s) x (world rack vol y.out) (Ok counts)
    underway_end is s e =
        let so = under.listed s e in
        record {
          reads = reads_more so.reads reads;
          volume = same_then so.volume same;
          ready = reads_on rack y.vol vol under.ready serves same;
          did = did_last so reads (NextOf (Ok None)) (known (Ok None) is) vol (λ Is Bs done. Goes Is part [] Bs (whole s) done (Ok counts))
              (λ B Bs zeroth was next. left_ended (treat s deeper path) B Bs zeroth (whole s) counts (unread_by x.vol.store.layout x.rack rack) dir so.done
              was (follows_as (unread_by x.vol.store.layout y.rack rack) (unread_by x.vol.store.layout x.rack rack) (earlier s e) no_part was.seen
              (exec B (dir_left B dir)) [] (Ok tt) (next was.seen was.on)));
          cause = tt;
          sink_calls = so.sink_calls;
          out_calls = so.out_calls;
        }

    module _ (row : DirRow) (is : result ≡ Ok (Some row)) where
      abbrev what : DirEntry
      what = named_row row name

      module _ {z : World} where
        -- what was done with it, as the listing does it that began
        as_began : {r : Result Counts TheStop} → ((s : Super) → s ≡ vol.sup → Ran (treat s below here counts what) (world rack vol y.out) z r)
            → (s : Super) → s ≡ x.vol.sup → Ran (treat s deeper path counts what) (world rack vol y.out) z r
        as_began {r} h s e =
            let run : Ran (treat s below here counts what) (world rack vol y.out) z r =
            h s (e ∙ (sym (under.listed s e).volume.sup ∙ sym same.sup)) in
            subst (λ (k : ℕ). Ran (treat s k path counts what) (world rack vol y.out) z r) under.same_below
            (subst (λ (p : List ℕ). Ran (treat s below p counts what) (world rack vol y.out) z r) under.same_path run)

        -- an entry was treated wholly
        pub underway_step : (counts' : Counts) {here' : List ℕ} {below' : ℕ}
            → ((s : Super) → s ≡ vol.sup → Ran (treat s below here counts what) (world rack vol y.out) z (Ok counts')) → IsDir dir'
            → here' ≡ path → below' ≡ below → IsUnderway treat whole deeper path x z counts' dir' here' below'
        underway_step counts' h on at places = record {
          ready = (h vol.sup refl).ready;
          reads_on = on;
          same_path = at;
          same_below = places ∙ under.same_below;
          listed = λ s e.
              let so = under.listed s e in
              let r = as_began h s e in
              listed_more so reads (NextOf (Ok (Some row))) (known (Ok (Some row)) is) same z r.did r.reads r.volume r.ready r.sink_calls r.out_calls
              (λ B Bs zeroth was next more. left_next (treat s deeper path) B Bs zeroth (whole s) counts what dir' so.done r.did.done
              (unread_by x.vol.store.layout rack z.rack) counts' (met_next (treat s deeper path) B Bs zeroth (whole s) counts dir dir' what so.done was
              (next was.seen was.on)) more);
        }

        -- an entry was not treated to its end
        pub underway_halt : (halt : TheStop)
            → ((s : Super) → s ≡ vol.sup → Ran (treat s below here counts what) (world rack vol y.out) z (Err halt))
            → (s : Super) → s ≡ x.vol.sup → Ran (whole s) x z (Err halt)
        underway_halt halt h s e =
            let so = under.listed s e in
            let r = as_began h s e in
            record {
              reads = reads_more (reads_more so.reads reads) r.reads;
              volume = same_then (same_then so.volume same) r.volume;
              ready = r.ready;
              did = did_more so reads (NextOf (Ok (Some row))) (known (Ok (Some row)) is) same z r.did
                  (λ Is Bs done. Goes Is part [] Bs (whole s) done (Err (stop_halt halt)))
                  (λ B Bs zeroth was next more. left_halts (treat s deeper path) B Bs zeroth (whole s) counts what dir' so.done r.did.done
                  (unread_by x.vol.store.layout x.rack z.rack) (stop_halt halt) (met_next (treat s deeper path) B Bs zeroth (whole s) counts dir dir' what
                  so.done was (next was.seen was.on)) (goes_as (unread_by x.vol.store.layout rack z.rack)
                  (unread_by x.vol.store.layout x.rack z.rack) Bs (treat s deeper path counts what) r.did.done (Err (stop_halt halt))
                  (λ u w i. since x.vol.store.layout x.vol.store.layout refl (reads_more so.reads reads) u w i) more));
              cause = behind_since IsRestoreStop {C = Counts} z.rack x.vol.store.layout vol.store.layout (Err halt)
                  (same.store.layout ∙ so.volume.store.layout) (reads_more so.reads reads) r.cause;
              sink_calls = subst (λ a. SinkCounts {A = Counts} a z.out.sink_calls (Err halt)) so.sink_calls r.sink_calls;
              out_calls = subst (λ a. OutCounts {A = Counts} a z.out.out_calls (Err halt)) so.out_calls r.out_calls;
            }
