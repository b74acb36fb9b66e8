-- A file is read piece by piece, of which none is put.
use Rattle.std.proofs.Common.{◌≡◌, ℕ, List, [], ◌∷◌, ◌++◌, Option, Some, None, Result, Ok, Err, refl, sym, ◌∙◌, subst, append-nil}
use Rattle.btr_base.specs.declared.kind.SumKind.{SumKind}
use Rattle.btr_prog.specs.Answers.{Halt, Follows, no_part}
use Rattle.btr_prog.specs.Goes.{Goes, GoesTo}
use Rattle.btr_prog.specs.Prog.{Does, Run, run, steps_of, wants_of, want_marks}
use Rattle.btr_prog.proofs.Follow.{follows_as}
use Rattle.btr_prog.proofs.Runs.{wants_of-append, prepend-prepend}
use Rattle.btr_prog.proofs.SoFars.{SoFar, so_far_none, so_far_more, so_far_ends}
use Rattle.btr_prog.proofs.Successive.{calls_as, calls_none}
use Rattle.btr_prog.proofs.Tries.{wants_of-marks}
use Rattle.btr_rack.specs.Rack.{OnlyReads, Seen}
use Rattle.btr_read.specs.Fate.{Fault}
use Rattle.btr_read.specs.Layout.{Layout}
use Rattle.btr_read.specs.Serves.{Serves}
use Rattle.btr_read.specs.Store.{SameLoans}
use Rattle.btr_read.specs.declared.want.Want.{Want}
use Rattle.btr_super.specs.declared.superblock.Super.{Super}
use Rattle.btr_walk.specs.Reading.{HasCause, Map, UnreadBlock, answer_of, halt_of, unread_by}
use Rattle.btr_walk.specs.declared.fault.TreeFault.{TreeFault}
use Rattle.btr_walk.proofs.Fetched.{cause_since, since}
use Rattle.btr_walk.proofs.Turns.{base_layout}
use Rattle.btr_volume.specs.Looking.{SameVolume}
use Rattle.btr_volume.specs.Readable.{CanRead}
use Rattle.btr_volume.specs.Lookup.{Program}
use Rattle.btr_volume.specs.declared.volume.Volume.{Volume}
use Rattle.btr_files.specs.Content.{Piece}
use Rattle.btr_files.specs.Maps.{TellsAll}
use Rattle.btr_files.specs.Streaming.{BeginsFile, FileGoes, EndsBy, GivesPiece, IsFileOn, IsNextPiece, IsReading, Streamed, piece_of, without_file}
use Rattle.btr_files.specs.Sums.{kind_in}
use Rattle.btr_files.specs.declared.file.FileBytes.{FileBytes}
use Rattle.btr_files.specs.declared.piece.Piece.{Piece as Lending}
use Rattle.btr_listing.specs.Step.{Step, part}
use Rattle.btr_rack.proofs.Reading.{reads_none, reads_more}
use Rattle.btr_volume.proofs.Onward.{room_kept}
use Rattle.btr_volume.specs.Stops.{ended}
use Rattle.btr_restore.specs.Listing.{maps_of}
use Rattle.btr_restore.specs.Restoring.{OutCounts, SinkCounts, RestoreStopCause}
use Rattle.btr_restore.specs.Running.{Outside, world}
use Rattle.btr_restore.proofs.Emitting.{text_none}
use Rattle.btr_restore.proofs.Goings.{if_map, if_some}
use Rattle.btr_restore.proofs.Listings.{all_of, both_all}
use Rattle.btr_prog.specs.Attempts.{Tries, ending_of}
use Rattle.btr_salvage.specs.Reading.{LeftToRead, IsPassing, WasPassed}
use Rattle.btr_salvage.specs.Running.{Ran, stopped}
use Rattle.btr_prog.proofs.Attempts.{follows_wants, tries_ending}

module _ (Bs : ℕ → Map) (whole : Program Piece (Unit {0})) (kind : SumKind) where
  -- a run of the whole file
  abbrev Whole : Run Want Fault Piece (Unit {0}) → Type 0
  Whole = GoesTo Bs whole

  -- nothing is read yet
  pub left_first : (file : FileBytes) → BeginsFile kind file whole → IsFileOn (Bs 0) [] file → LeftToRead whole kind Bs file
  left_first file begins on = record {
    seen = [];
    past = [];
    so_far = so_far_more Whole Whole (FileGoes kind Bs file) [] [] [] (λ q h. begins Bs q h) (so_far_none Whole);
    on = on;
  }

  module _ (file : FileBytes) (l : LeftToRead whole kind Bs file) where
    -- a piece was given
    pub left_next : (file' : FileBytes) (piece : Piece) → GivesPiece kind Bs l.seen file file' piece → LeftToRead whole kind Bs file'
    left_next file' piece g =
        let ms = want_marks g.past ++ (Does piece ∷ []) in
        let wants : wants_of ms ≡ g.past = wants_of-append (want_marks g.past) (Does piece ∷ []) ∙ append-nil (wants_of (want_marks {S = Piece} g.past))
        ∙ wants_of-marks Piece g.past in
        let more = so_far_more Whole (FileGoes kind Bs file) (FileGoes kind Bs file') l.seen l.past ms
        (λ q h. subst (FileGoes kind Bs file) (prepend-prepend (want_marks g.past) (Does piece ∷ []) q) (g.goes q h)) l.so_far in
        record {
          seen = l.seen ++ g.past;
          past = l.past ++ steps_of ms;
          so_far = subst (λ (x : List Want). SoFar Whole (FileGoes kind Bs file') (l.seen ++ x) (l.past ++ steps_of ms)) wants more;
          on = g.on;
        }

    -- the file came to its end, or to a fault
    pub left_ends : (Is : UnreadBlock → Want → Type 0) (ans : Result (Unit {0}) (Halt Fault UnreadBlock)) → EndsBy kind Is Bs l.seen file ans
        → Goes Is no_part [] Bs whole l.past ans
    left_ends Is ans e =
        subst (λ (x : List Piece). Goes Is no_part [] Bs whole x ans) (append-nil l.past)
        (so_far_ends Is no_part Whole (FileGoes kind Bs file) l.seen l.past [] ans l.so_far e)

-- facts of calls in a row, over one layout
all_then : (layout : Layout) (a b c : Seen) (P Q R : (ℕ → Map) → Type 0) → ((Bs : ℕ → Map) → P Bs → Q Bs → R Bs) → TellsAll layout a b P
    → TellsAll layout b c Q → TellsAll layout a c R
all_then layout a b c P Q R f one two = all_of layout a c R (both_all layout a b c (λ B Bs. P Bs) Q (λ B Bs. R Bs) (λ B Bs z p q. f Bs p q) one.calls two)

-- the reading of a file, call by call
module _ (whole : Program Piece (Unit {0})) (start : Seen) (began : Volume) (old : Seen) (vol : Volume) (file file' : FileBytes) (rack : Seen) (after : Volume)
    (l : IsPassing whole start began old vol file) (reads : OnlyReads old rack) where
  -- the layout that the reading began with
  abbrev layout : Layout
  layout = began.store.layout

  -- the kind of checksum of the volume
  abbrev kind : SumKind
  kind = kind_in began.sup

  -- how far the file was read before the call
  abbrev Was : (ℕ → Map) → Type 0
  Was Bs = LeftToRead whole kind Bs file

  -- what the file gives next, by a layout and a superblock
  abbrev Next : Layout → Super → Result (Option Lending) TreeFault → (ℕ → Map) → Type 0
  Next L t result Bs = IsNextPiece (kind_in t) (unread_by L old rack) Bs file file' result

  -- the layout is still the one that the reading began with
  same_layout : vol.store.layout ≡ layout
  same_layout = sym (base_layout vol.store file.loan) ∙ l.others.layout

  -- what the file gives next by the layout and superblock of now, it gives by those that the reading began with
  over : (result : Result (Option Lending) TreeFault) → TellsAll vol.store.layout old rack (Next vol.store.layout vol.sup result)
      → TellsAll layout old rack (Next layout began.sup result)
  over result t = subst (λ (v : Super). TellsAll layout old rack (Next layout v result)) l.sup
      (subst (λ (L : Layout). TellsAll L old rack (Next L vol.sup result)) same_layout t)

  -- a want that could not be read in this call could not be read since the reading began
  earlier : (u : UnreadBlock) (w : Want) → unread_by layout old rack u w → unread_by layout start rack u w
  earlier u w i = since layout layout refl l.reads u w i

  -- but for the file's loan the volume is as it was when the reading began
  apart : SameLoans (without_file vol.store file) (without_file after.store file') → SameLoans began.store (without_file after.store file')
  apart o = record { layout = o.layout ∙ l.others.layout; loans = o.loans ∙ l.others.loans }

  -- a step of a file with an answer is one with an equal answer
  streamed : (result other : Result (Option Lending) TreeFault) → result ≡ other → Streamed vol after file file' old rack result
      → Streamed vol after file file' old rack other
  streamed result other e n = subst (λ r. Streamed vol after file file' old rack r) e n

  -- the reading of the whole file ended so, behind some pieces
  abbrev Ends : Result (Unit {0}) TreeFault → (ℕ → Map) → Type 0
  Ends answer Bs = (past : List Piece) × Goes (unread_by layout start rack) no_part [] Bs whole past (answer_of answer)

  -- where what was left of the file ended so, the whole file did
  end_by : (ans : Result (Unit {0}) (Halt Fault UnreadBlock)) (Bs : ℕ → Map) (p : Was Bs) → EndsBy kind (unread_by layout old rack) Bs p.seen file ans
      → (past : List Piece) × Goes (unread_by layout start rack) no_part [] Bs whole past ans
  end_by ans Bs p e = (
    p.past,
    left_ends Bs whole kind file p (unread_by layout start rack) ans
        (e.0, e.1, follows_as (unread_by layout old rack) (unread_by layout start rack) earlier no_part p.seen e.0 [] ans e.2),
  )

  -- it came to a fault
  pub passing_fault : (f : TreeFault) (result : Result (Option Lending) TreeFault) → result ≡ Err f → Streamed vol after file file' old rack result
      → HasCause {A = Option Lending} vol.store.layout old rack (Err f) → WasPassed whole start began rack after file' (Err f)
  passing_fault f result is m cause =
      let n = streamed result (Err f) is m in
      record {
        reads = reads_more l.reads reads;
        sup = n.sup ∙ l.sup;
        others = apart n.others;
        reading = n.reading;
        cause = cause_since rack layout vol.store.layout f same_layout l.reads cause;
        content = all_then layout start old rack Was (Next layout began.sup (Err f)) (Ends (Err f))
            (λ Bs p q. end_by (Err (halt_of f)) Bs p (q p.seen p.on)) l.content (over (Err f) n.content);
      }

  -- it was read to its end
  pub passing_end : (result : Result (Option Lending) TreeFault) → result ≡ Ok None → Streamed vol after file file' old rack result
      → WasPassed whole start began rack after file' (Ok tt)
  passing_end result is m =
      let n = streamed result (Ok None) is m in
      record {
        reads = reads_more l.reads reads;
        sup = n.sup ∙ l.sup;
        others = apart n.others;
        reading = n.reading;
        cause = tt;
        content = all_then layout start old rack Was (Next layout began.sup (Ok None)) (Ends (Ok tt)) (λ Bs p q. end_by (Ok tt) Bs p (q p.seen p.on)) l.content
            (over (Ok None) n.content);
      }

  -- a piece was given
  pub passing_on : (piece : Lending) (result : Result (Option Lending) TreeFault) → result ≡ Ok (Some piece) → Streamed vol after file file' old rack result
      → IsPassing whole start began rack after file'
  passing_on piece result is m =
      let n = streamed result (Ok (Some piece)) is m in
      record {
        reads = reads_more l.reads reads;
        sup = n.sup ∙ l.sup;
        others = apart n.others;
        reading = n.reading;
        content = all_then layout start old rack Was (Next layout began.sup (Ok (Some piece))) (λ Bs. LeftToRead whole kind Bs file')
            (λ Bs p q. left_next Bs whole kind file p file' (piece_of piece) (q p.seen p.on)) l.content (over (Ok (Some piece)) n.content);
      }

-- a file begins
pub passing_first : (rack : Seen) (vol : Volume) (file : FileBytes) (p : Program Piece (Unit {0})) → IsReading rack vol.store file
    → without_file vol.store file ≡ vol.store → BeginsFile (kind_in vol.sup) file p → ((B : Map) → IsFileOn B [] file) → IsPassing p rack vol rack vol file
passing_first rack vol file p reading same begins on = record {
  reads = reads_none rack;
  sup = refl;
  others = subst (SameLoans vol.store) (sym same) (record { layout = refl; loans = refl });
  reading = reading;
  content = record {
    calls = calls_none (λ sure. if_some (λ images. LeftToRead p (kind_in vol.sup) (maps_of vol.store.layout sure images) file) rack.held
        (λ images. left_first (maps_of vol.store.layout sure images) p (kind_in vol.sup) file begins (on (maps_of vol.store.layout sure images 0))));
  };
}

-- a file is given back
module _ (p : Program Piece (Unit {0})) (rack : Seen) (vol : Volume) (now : Seen) (mid after : Volume) (file : FileBytes) (x : Outside) where
  -- a fault of a tree ends a run as the stop that it is
  ended_so : (r : Result (Unit {0}) TreeFault) → answer_of r ≡ ended (stopped r)
  ended_so (Ok u) = refl
  ended_so (Err f) = refl

  -- the stop that a fault of a tree is has the cause of that fault
  cause_so : (layout : Layout) (r : Result (Unit {0}) TreeFault) → HasCause layout rack now r → RestoreStopCause layout rack now (stopped r)
  cause_so layout (Ok u) h = tt
  cause_so layout (Err f) h = h

  -- a run without its steps
  abbrev only_wants : Run Want Fault Piece (Unit {0}) → Run Want Fault Step (Unit {0})
  only_wants r = run (want_marks (wants_of r.marks)) r.ending

  -- a file that was read, or ended before, is given back, and that was its first reading
  pub passing_over : (r : Result (Unit {0}) TreeFault) → CanRead 6 rack vol → WasPassed p rack vol now mid file r → after.sup ≡ mid.sup
      → SameLoans (without_file mid.store file) after.store → Serves now after.store → Ran (ending_of p) (world rack vol x) (world now after x) (stopped r)
  passing_over r ready w sup back serves =
      let same : SameVolume vol after = record {
        sup = sup ∙ w.sup;
        store = record
            { layout = back.layout ∙ w.others.layout; loans = back.loans ∙ w.others.loans };
      } in
      let layout = vol.store.layout in
      record {
        reads = w.reads;
        volume = same;
        ready = record { serves = serves; room = room_kept vol after same ready.room };
        did = record {
          done = [];
          sink = refl;
          text = text_none x.text;
          content = record {
            calls = calls_as (λ sure held f.
                if_map (λ images. (past : List Piece) × Goes (unread_by layout rack now) no_part [] (maps_of layout sure images) p past (answer_of r))
                (λ images. Tries (unread_by layout rack now) part (maps_of layout sure images) (ending_of p) [] (ended (stopped r))) held
                (λ images g. (
                  only_wants g.1.0,
                  tries_ending Step (maps_of layout sure images) p g.1.0 g.1.1,
                  subst (λ a. Follows (unread_by layout rack now) part [] (only_wants g.1.0) [] a) (ended_so r)
                      (follows_wants (unread_by layout rack now) part no_part [] g.1.0 g.0 (answer_of r) g.1.2),
                )) f) w.content.calls;
          };
        };
        cause = cause_so layout r w.cause;
        sink_calls = sinks r;
        out_calls = outs r;
      }
    where
      -- no call of the sink was made, and none is counted
      sinks : (q : Result (Unit {0}) TreeFault) → SinkCounts x.sink_calls x.sink_calls (stopped q)
      sinks (Ok u) = refl
      sinks (Err f) = refl

      -- no call of the output was made, and none is counted
      outs : (q : Result (Unit {0}) TreeFault) → OutCounts x.out_calls x.out_calls (stopped q)
      outs (Ok u) = refl
      outs (Err f) = refl
