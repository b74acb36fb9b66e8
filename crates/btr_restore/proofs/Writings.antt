-- A file piece by piece, whatever is done with each.
use Rattle.std.proofs.Common.{◌≡◌, ℕ, List, [], ◌∷◌, ◌++◌, Option, Some, None, Result, Ok, Err, refl, sym, ap, ◌∙◌, subst, append-nil}
use Rattle.std.proofs.Common.{IsErrAnd}
use Rattle.std.specs.Prelude.{fold}
use Rattle.btr_base.specs.declared.kind.SumKind.{SumKind}
use Rattle.btr_prog.specs.Answers.{Halt, no_part}
use Rattle.btr_prog.specs.Goes.{GoesTo, Goes, AfterTo, GoOnTo, ThreadsTo}
use Rattle.btr_prog.specs.Prog.{Mark, Wants, Does, Run, run, first, prepend, after, exec, steps_of, wants_of, want_marks}
use Rattle.btr_prog.specs.Thread.{go_on_run}
use Rattle.btr_prog.proofs.Choices.{goes_value, with_value}
use Rattle.btr_prog.proofs.ChoiceThreads.{goes_thread}
use Rattle.btr_prog.proofs.Cursors.{cursor_halts}
use Rattle.btr_prog.proofs.Follow.{follows_alone, follows_value, follows_halt, follows_as}
use Rattle.btr_prog.proofs.SoFars.{SoFar, so_far_none, so_far_more, so_far_ends, Answers, threads_map, some_run}
use Rattle.btr_prog.proofs.Successive.{calls_then, calls_as, calls_none}
use Rattle.btr_prog.proofs.Tries.{steps_of-marks, wants_of-marks}
use Rattle.btr_rack.specs.Rack.{Seen, OnlyReads}
use Rattle.btr_read.specs.Fate.{Fault}
use Rattle.btr_read.specs.Layout.{Layout}
use Rattle.btr_read.specs.Serves.{Serves}
use Rattle.btr_read.specs.Store.{SameLoans}
use Rattle.btr_read.specs.declared.want.Want.{Want}
use Rattle.btr_super.specs.declared.superblock.Super.{Super}
use Rattle.btr_walk.specs.declared.fault.TreeFault.{TreeFault}
use Rattle.btr_walk.specs.Reading.{Map, UnreadBlock, unread_by, halt_of, HasCause}
use Rattle.btr_walk.specs.Rests.{rest_left, met_last}
use Rattle.btr_walk.proofs.Turns.{base_layout}
use Rattle.btr_walk.proofs.Fetched.{since, cause_since}
use Rattle.btr_volume.specs.Lookup.{Program, each}
use Rattle.btr_volume.specs.Looking.{SameVolume}
use Rattle.btr_volume.specs.Readable.{CanRead}
use Rattle.btr_volume.specs.declared.stop.Stop.{Stop as TheStop}
use Rattle.btr_volume.specs.declared.stop.Stop.TheVariants as stop
use Rattle.btr_volume.specs.declared.volume.Volume.{Volume}
use Rattle.btr_files.specs.declared.file.FileBytes.{FileBytes}
use Rattle.btr_files.specs.declared.piece.Piece.{Piece as Lending}
use Rattle.btr_files.specs.Content.{Piece}
use Rattle.btr_files.specs.Maps.{TellsAll}
use Rattle.btr_files.specs.Streaming.{BeginsFile, FileGoes, GivesPiece, EndsBy, IsFileOn, IsNextPiece, IsReading, Streamed, inline_of, piece_of, todo_prog}
use Rattle.btr_files.specs.Streaming.{without_file}
use Rattle.btr_files.specs.Sums.{kind_in}
use Rattle.btr_files.proofs.Nextward.{rest_more}
use Rattle.btr_files.proofs.Onwards.{then_some}
use Rattle.btr_restore.specs.Listing.{maps_of}
use Rattle.btr_restore.specs.Restoring.{sink_after, text_after, SinkCounts, OutCounts}
use Rattle.btr_volume.specs.Stops.{stop_halt, ended}
use Rattle.btr_rack.proofs.Reading.{reads_none, reads_more}
use Rattle.btr_volume.proofs.Onward.{room_kept, stop_passed}
use Rattle.btr_restore.specs.Running.{Outside, World, world, Wrote, Ran}
use Rattle.btr_listing.specs.Step.{Step, part}
use Rattle.btr_restore.specs.Writing.{put_of, last_state, WritesPieces, WritesLeft, WritesFrom, LeftToWrite, PieceToWrite, IsWriting, WasWritten, WritesOn}
use Rattle.btr_restore.proofs.Doing.{fold-append, text_then}
use Rattle.btr_restore.proofs.Emitting.{text_none}
use Rattle.btr_restore.proofs.Goings.{if_some, if_map, if_both}
use Rattle.btr_restore.proofs.Stopping.{no_cause}

module _ {St : Type 0} (put : St → Piece → Program Step St) (Bs : ℕ → Map) where
  -- a run that writes a piece
  abbrev Body : St → Piece → Run Want Fault Step (Result St St) → Type 0
  Body st piece b = GoesTo Bs (put_of put st piece) b

  -- what the last piece left
  abbrev last : St → Unit {0} → St
  last = last_state put

  -- a run that writes the pieces of a run
  abbrev some : St → Run Want Fault Piece (Unit {0}) → Run Want Fault Step St
  some st q = some_run Bs 0 (put_of put) last st q.marks q.ending

  -- that run writes the pieces
  some_puts : (st : St) (q : Run Want Fault Piece (Unit {0})) → WritesPieces put Bs st q (some st q)
  some_puts st q = threads_map Bs 0 (put_of put) last st q.marks q.ending

  -- wants before the first piece stay before what is written of it
  past_in : (ws : List Want) (st : St) (q : Run Want Fault Piece (Unit {0})) (r : Run Want Fault Step St) → WritesPieces put Bs st q r
      → WritesPieces put Bs st (prepend (want_marks ws) q) (prepend (want_marks ws) r)
  past_in [] st q r h = h
  past_in (w ∷ ws) st q r h = (prepend (want_marks ws) r, refl, past_in ws st q r h)

  -- a file that goes on from blocks that were wanted still does so where more are wanted
  file_more : (file : FileBytes) (seen more : List Want) → IsFileOn (Bs 0) seen file → IsFileOn (Bs 0) (seen ++ more) file
  file_more file seen more on = (record { rest = rest_more (Bs 0) seen more file.progress.rest on.0.rest; inline = on.0.inline }, on.1)

  -- a file has some run
  some_file : (kind : SumKind) (file : FileBytes) → (q : Run Want Fault Piece (Unit {0})) × FileGoes kind Bs file q
  some_file kind file =
      let p = file.progress in
      then_some kind file.source Bs (todo_prog kind file.source p.at p.end (inline_of (met_last (Bs 0) p.rest)) p.todo) (exec (Bs 0) (rest_left (Bs 0) p.rest))

  -- a file begins: nothing is written, and all its pieces are left
  pub left_first : (kind : SumKind) (file : FileBytes) (st : St) (p : Program Piece (Unit {0})) → BeginsFile kind file p → IsFileOn (Bs 0) [] file
      → LeftToWrite put (each put st p) kind Bs st file []
  left_first kind file st p begins on = record {
    seen = [];
    so_far = so_far_more (GoesTo Bs (each put st p)) (GoesTo Bs (each put st p)) (WritesLeft put kind Bs st file) [] [] []
        (λ r h. goes_thread Bs (put_of put) last st p h.0 r (begins Bs h.0 h.1) h.2) (so_far_none (GoesTo Bs (each put st p)));
    on = on;
  }

  module _ (whole : Program Step St) (kind : SumKind) (st : St) (file : FileBytes) (done : List Step) where
    -- a run of the whole program
    abbrev Whole : Run Want Fault Step St → Type 0
    Whole = GoesTo Bs whole

    -- a piece was given
    pub piece_next : (file' : FileBytes) (piece : Piece) → (l : LeftToWrite put whole kind Bs st file done) → GivesPiece kind Bs l.seen file file' piece
        → PieceToWrite put whole kind Bs st piece file' done
    piece_next file' piece l g =
        let ws = want_marks {S = Step} g.past in
        let more = so_far_more Whole (WritesLeft put kind Bs st file) (WritesFrom put kind Bs st piece file') l.seen done ws
        (λ r h. (prepend (want_marks g.past) (first (Does piece) h.0), g.goes h.0 h.1, past_in g.past st (first (Does piece) h.0) r h.2)) l.so_far in
        record {
          seen = l.seen ++ g.past;
          so_far = subst (λ (x : List Want). SoFar Whole (WritesFrom put kind Bs st piece file') (l.seen ++ x) done) (wants_of-marks Step g.past)
              (subst (λ (x : List Step). SoFar Whole (WritesFrom put kind Bs st piece file') (l.seen ++ wants_of ws) x) (ap (λ (x : List Step). done ++ x)
              (steps_of-marks Step g.past) ∙ append-nil done) more);
          on = g.on;
        }

    -- the file came to a fault
    pub file_fault : (Is : UnreadBlock → Want → Type 0) (halt : Halt Fault UnreadBlock) → (l : LeftToWrite put whole kind Bs st file done)
        → EndsBy kind Is Bs l.seen file (Err halt) → Goes Is part [] Bs whole done (Err halt)
    file_fault Is halt l e =
        let c = cursor_halts Body last (λ st q. (some st q, some_puts st q)) Is part l.seen st e.0 halt e.2 in
        subst (λ (x : List Step). Answers Is part Whole x (Err halt)) (append-nil done)
        (so_far_ends Is part Whole (WritesLeft put kind Bs st file) l.seen done [] (Err halt) l.so_far (c.0, (e.0, e.1, c.1), c.2))

    -- a run without pieces writes none
    no_more : (ms : List (Mark Want Piece)) (e : Result (Unit {0}) Fault) → [] ≡ steps_of ms → e ≡ Ok tt
        → (r : Run Want Fault Step St) × ThreadsTo Body last st ms e r × ([] ≡ steps_of r.marks) × (r.ending ≡ Ok st)
    no_more [] e n i = subst (λ (x : Result (Unit {0}) Fault). (r : Run Want Fault Step St) × ThreadsTo Body last st [] x r × ([] ≡ steps_of r.marks) ×
        (r.ending ≡ Ok st)) (sym i) (run [] (Ok st), refl, refl, refl)
    no_more (Wants w ∷ ms) e n i = let g = no_more ms e n i in (first (Wants w) g.0, (g.0, refl, g.1), g.2, g.3)
    no_more (Does p ∷ ms) e n i = cc

    -- the file came to its end
    pub file_end : (Is : UnreadBlock → Want → Type 0) → (l : LeftToWrite put whole kind Bs st file done) → EndsBy kind Is Bs l.seen file (Ok tt)
        → Goes Is part [] Bs whole done (Ok st)
    file_end Is l e =
        let c = no_more e.0.marks e.0.ending e.2.0 e.2.1 in
        subst (λ (x : List Step). Answers Is part Whole x (Ok st)) (append-nil done)
        (so_far_ends Is part Whole (WritesLeft put kind Bs st file) l.seen done [] (Ok st) l.so_far (c.0, (e.0, e.1, c.1), (c.2, c.3)))

    module _ (piece : Piece) (more : List Step) (Is : UnreadBlock → Want → Type 0) where
      module _ (q : Run Want Fault Piece (Unit {0})) where
        -- behind a piece that was put the run goes on with those that are left
        treated : (st : St) (marks : List (Mark Want Step)) (x : Result (Result St St) Fault) (r : Run Want Fault Step St) → x ≡ Ok (Ok st)
            → WritesPieces put Bs st q r → AfterTo marks x (GoOnTo (λ st'. WritesPieces put Bs st' q)) (prepend marks r)
        treated st marks x r i h = subst (λ y. AfterTo marks y (GoOnTo (λ st'. WritesPieces put Bs st' q)) (prepend marks r)) (sym i) (r, refl, h)

        -- behind a piece, whatever it came to, some run writes those that are left
        after_some : (marks : List (Mark Want Step)) (x : Result (Result St St) Fault) → AfterTo marks x (GoOnTo (λ st'. WritesPieces put Bs st' q))
            (after marks x
            (go_on_run (λ st'. some st' q)))
        after_some marks (Ok (Ok st)) = (some st q, refl, some_puts st q)
        after_some marks (Ok (Err y)) = (run [] (Ok y), refl, refl)
        after_some marks (Err f) = refl

      -- the piece was put
      pub piece_put : (st' : St) → PieceToWrite put whole kind Bs st piece file done → Goes Is part [] Bs (put st piece) more (Ok st')
          → LeftToWrite put whole kind Bs st' file (done ++ more)
      piece_put st' l t =
          let b : Run Want Fault Step (Result St St) = with_value {S = Step} Bs Ok t.0 in
          let f = follows_value Is part [] Ok t.0 st' more t.2 in
          record {
            seen = l.seen ++ wants_of b.marks;
            so_far = subst (λ (x : List Step). SoFar Whole (WritesLeft put kind Bs st' file) (l.seen ++ wants_of b.marks) (done ++ x)) (sym f.0)
                (so_far_more Whole (WritesFrom put kind Bs st piece file) (WritesLeft put kind Bs st' file) l.seen done b.marks
                (λ r h. (h.0, h.1, (b, goes_value Bs Ok (put st piece) t.0 t.1, treated h.0 st' b.marks b.ending r f.1 h.2))) l.so_far);
            on = file_more file l.seen (wants_of b.marks) l.on;
          }

      -- the piece was not put
      pub piece_halts : (halt : Halt Fault UnreadBlock) → PieceToWrite put whole kind Bs st piece file done → Goes Is part [] Bs (put st piece) more (Err halt)
          → Goes Is part [] Bs whole (done ++ more) (Err halt)
      piece_halts halt l t =
          let b : Run Want Fault Step (Result St St) = with_value {S = Step} Bs Ok t.0 in
          let f = some_file kind file in
          let g = follows_alone Is part l.seen b more (Err halt) (follows_halt Is part [] t.0 (λ x. run [] (Ok (Ok x))) more halt t.2) in
          so_far_ends Is part Whole (WritesFrom put kind Bs st piece file) l.seen done more (Err halt) l.so_far (
            after b.marks b.ending (go_on_run (λ st'. some st' f.0)),
            (
              f.0,
              f.1,
              (
                b,
                goes_value Bs Ok (put st piece) t.0 t.1,
                after_some f.0 b.marks b.ending,
              ),
            ),
            follows_halt Is part l.seen b (go_on_run (λ st'. some st' f.0)) more halt g,
          )

-- facts of calls in a row, over one layout
all_then : (layout : Layout) (a b c : Seen) (P Q R : (ℕ → Map) → Type 0) → ((Bs : ℕ → Map) → P Bs → Q Bs → R Bs) → TellsAll layout a b P
    → TellsAll layout b c Q → TellsAll layout a c R
all_then layout a b c P Q R f one two = record {
  calls = calls_then (λ sure held p q.
      if_both (λ images. P (maps_of layout sure images)) (λ images. Q (maps_of layout sure images)) (λ images. R (maps_of layout sure images)) held
      (λ images h g. f (maps_of layout sure images) h g) p q) one.calls two.calls;
}

-- the writing of a file, call by call
module _ {St : Type 0} (put : St → Piece → Program Step St) (whole : Program Step St) (x y : World) (st : St) (file file' : FileBytes) (rack : Seen)
    (vol : Volume) (l : IsWriting put whole x y st file) (reads : OnlyReads y.rack rack) where
  -- the layout that the writing began with
  abbrev layout : Layout
  layout = x.vol.store.layout

  -- the kind of checksum of the volume
  abbrev kind : SumKind
  kind = kind_in x.vol.sup

  -- how far the file was written before the call
  abbrev Was : (ℕ → Map) → Type 0
  Was Bs = LeftToWrite put whole kind Bs st file l.done

  -- what the file gives next, by a layout and a superblock
  abbrev Next : Layout → Super → Result (Option Lending) TreeFault → (ℕ → Map) → Type 0
  Next L t result Bs = IsNextPiece (kind_in t) (unread_by L y.rack rack) Bs file file' result

  -- the layout is still the one that the writing began with
  same_layout : y.vol.store.layout ≡ layout
  same_layout = sym (base_layout y.vol.store file.loan) ∙ l.others.layout

  -- what the file gives next by the layout and superblock of now, it gives by those that the writing began with
  over : (result : Result (Option Lending) TreeFault) → TellsAll y.vol.store.layout y.rack rack (Next y.vol.store.layout y.vol.sup result)
      → TellsAll layout y.rack rack (Next layout x.vol.sup result)
  over result t = subst (λ (v : Super). TellsAll layout y.rack rack (Next layout v result)) l.sup (subst (λ (L : Layout). TellsAll L y.rack rack
      (Next L y.vol.sup result)) same_layout t)

  -- a want that could not be read in this call could not be read since the writing began
  earlier : (u : UnreadBlock) (w : Want) → unread_by layout y.rack rack u w → unread_by layout x.rack rack u w
  earlier u w i = since layout layout refl l.reads u w i

  -- but for the file's loan the volume is as it was when the writing began
  apart : SameLoans (without_file y.vol.store file) (without_file vol.store file') → SameLoans x.vol.store (without_file vol.store file')
  apart o = record { layout = o.layout ∙ l.others.layout; loans = o.loans ∙ l.others.loans }

  -- a step of a file with an answer is one with an equal answer
  streamed : (result other : Result (Option Lending) TreeFault) → result ≡ other → Streamed y.vol vol file file' y.rack rack result
      → Streamed y.vol vol file file' y.rack rack other
  streamed result other e n = subst (λ r. Streamed y.vol vol file file' y.rack rack r) e n

  -- it came to a fault
  pub writing_fault : (f : TreeFault) (result : Result (Option Lending) TreeFault) → result ≡ Err f → Streamed y.vol vol file file' y.rack rack result
      → HasCause {A = Option Lending} y.vol.store.layout y.rack rack (Err f) → WasWritten put whole x (world rack vol y.out) file' (Err (stop.Tree f))
  writing_fault f result is m cause =
      let n = streamed result (Err f) is m in
      record {
        reads = reads_more l.reads reads;
        sup = n.sup ∙ l.sup;
        others = apart n.others;
        reading = n.reading;
        did = record {
          done = l.done;
          sink = l.sink;
          text = l.text;
          content = all_then layout x.rack y.rack rack Was (Next layout x.vol.sup (Err f)) (λ Bs. Goes (unread_by layout x.rack rack) part [] Bs whole l.done
              (Err (halt_of f)))
              (λ Bs p q. file_fault put Bs whole kind st file l.done (unread_by layout x.rack rack) (halt_of f) p
              (let e = q p.seen p.on in (
                e.0,
                e.1,
                follows_as (unread_by layout y.rack rack) (unread_by layout x.rack rack) earlier no_part p.seen e.0 [] (Err
                    (halt_of f)) e.2,
              )))
              l.content (over (Err f) n.content);
        };
        cause = cause_since rack layout y.vol.store.layout f same_layout l.reads cause;
        sink_calls = l.sink_calls;
        out_calls = l.out_calls;
      }

  -- a file came to its end
  pub writing_end : (result : Result (Option Lending) TreeFault) → result ≡ Ok None → Streamed y.vol vol file file' y.rack rack result
      → WasWritten put whole x (world rack vol y.out) file' (Ok st)
  writing_end result is m =
      let n = streamed result (Ok None) is m in
      record {
        reads = reads_more l.reads reads;
        sup = n.sup ∙ l.sup;
        others = apart n.others;
        reading = n.reading;
        did = record {
          done = l.done;
          sink = l.sink;
          text = l.text;
          content = all_then layout x.rack y.rack rack Was (Next layout x.vol.sup (Ok None)) (λ Bs. Goes
              (unread_by layout x.rack rack) part [] Bs whole l.done (Ok st))
              (λ Bs p q. file_end put Bs whole kind st file l.done (unread_by layout x.rack rack) p
              (let e = q p.seen p.on in (
                e.0,
                e.1,
                follows_as (unread_by layout y.rack rack) (unread_by layout x.rack rack) earlier no_part p.seen e.0 []
                    (Ok tt) e.2,
              )))
              l.content (over (Ok None) n.content);
        };
        cause = tt;
        sink_calls = l.sink_calls;
        out_calls = l.out_calls;
      }

  -- a piece was given, and put or not
  module _ (piece : Lending) (result : Result (Option Lending) TreeFault) (is : result ≡ Ok (Some piece))
      (m : Streamed y.vol vol file file' y.rack rack result) (z : Outside) where
    -- the file gave the piece
    n : Streamed y.vol vol file file' y.rack rack (Ok (Some piece))
    n = streamed result (Ok (Some piece)) is m

    -- the writing has come to the piece, which is to be put next
    abbrev Met : (ℕ → Map) → Type 0
    Met Bs = PieceToWrite put whole kind Bs st (piece_of piece) file' l.done

    -- as far as the calls were steady, it has come there
    met : TellsAll layout x.rack rack Met
    met = all_then layout x.rack y.rack rack Was (Next layout x.vol.sup (Ok (Some piece))) Met (λ Bs p q. piece_next put Bs whole kind st file l.done file'
        (piece_of piece) p (q p.seen p.on)) l.content (over (Ok (Some piece)) n.content)

    -- what follows of the piece that was given and of what was done with it
    put_with : {R : (ℕ → Map) → Type 0} (r : Result St TheStop) (w : Wrote (put st (piece_of piece)) y.out z r) → ((Bs : ℕ → Map) → Met Bs
        → Goes (unread_by layout x.rack rack) part [] Bs (put st (piece_of piece)) w.did.done (ended r) → R Bs) → TellsAll layout x.rack rack R
    put_with {R} r w f = record {
      calls = calls_as (λ sure h p. if_map (λ images. Met (maps_of layout sure images)) (λ images. R
          (maps_of layout sure images)) h (λ images m. f (maps_of layout sure images) m (w.did.goes layout x.rack rack
          (maps_of layout sure images))) p) met.calls;
    }

    -- a piece was put, and the file is still being written
    pub writing_on : (st' : St) → Wrote (put st (piece_of piece)) y.out z (Ok st') → IsWriting put whole x (world rack vol z) st' file'
    writing_on st' w = record {
      reads = reads_more l.reads reads;
      sup = n.sup ∙ l.sup;
      others = apart n.others;
      reading = n.reading;
      done = l.done ++ w.did.done;
      sink = w.did.sink ∙ (ap (λ v. fold sink_after v w.did.done) l.sink ∙ sym (fold-append sink_after x.out.sink l.done w.did.done));
      text = w.did.text ∙ (ap (λ u. text_after u w.did.done) l.text ∙ text_then x.out.text l.done w.did.done);
      content = put_with (Ok st') w (λ Bs m g. piece_put put Bs whole kind st file' l.done (piece_of piece) w.did.done (unread_by layout x.rack rack) st' m g);
      sink_calls = w.sink_calls ∙ l.sink_calls;
      out_calls = w.out_calls ∙ l.out_calls;
    }

    -- a piece was not put, and the file is written no further
    pub writing_halt : (t : TheStop) → Wrote (put st (piece_of piece)) y.out z (Err t) → WasWritten put whole x (world rack vol z) file' (Err t)
    writing_halt t w = record {
      reads = reads_more l.reads reads;
      sup = n.sup ∙ l.sup;
      others = apart n.others;
      reading = n.reading;
      did = record {
        done = l.done ++ w.did.done;
        sink = w.did.sink ∙ (ap (λ v. fold sink_after v w.did.done) l.sink ∙ sym (fold-append sink_after x.out.sink l.done w.did.done));
        text = w.did.text ∙ (ap (λ u. text_after u w.did.done) l.text ∙ text_then x.out.text l.done w.did.done);
        content = put_with (Err t) w (λ Bs m g. piece_halts put Bs whole kind st file' l.done (piece_of piece) w.did.done (unread_by layout x.rack rack)
            (stop_halt t) m g);
      };
      cause = no_cause {A = St} layout x.rack rack (Err t) w.stops;
      sink_calls = subst (λ a. SinkCounts {A = St} a z.sink_calls (Err t)) l.sink_calls w.sink_calls;
      out_calls = subst (λ a. OutCounts {A = St} a z.out_calls (Err t)) l.out_calls w.out_calls;
    }

-- a file begins
pub writing_first : {St : Type 0} (put : St → Piece → Program Step St) (st : St) (x : World) (file : FileBytes) (p : Program Piece (Unit {0}))
    → IsReading x.rack x.vol.store file → without_file x.vol.store file ≡ x.vol.store → BeginsFile (kind_in x.vol.sup) file p → ((B : Map) → IsFileOn B [] file)
    → IsWriting put (each put st p) x x st file
writing_first {St} put st x file p reading same begins on = record {
  reads = reads_none x.rack;
  sup = refl;
  others = subst (SameLoans x.vol.store) (sym same) (record { layout = refl; loans = refl });
  reading = reading;
  done = [];
  sink = refl;
  text = text_none x.out.text;
  content = record {
    calls = calls_none (λ sure. if_some (λ images. LeftToWrite put (each put st p) (kind_in x.vol.sup)
        (maps_of x.vol.store.layout sure images) st file []) x.rack.held
        (λ images. left_first put (maps_of x.vol.store.layout sure images) (kind_in x.vol.sup) file st p begins (on
        (maps_of x.vol.store.layout sure images 0))));
  };
  sink_calls = refl;
  out_calls = refl;
}

-- a file was written wholly and is given back
pub writing_over : {St : Type 0} (put : St → Piece → Program Step St) (whole : Program Step St) (x y : World) (vol : Volume) (file : FileBytes)
    (r : Result St TheStop) → CanRead 6 x.rack x.vol → WasWritten put whole x y file r → vol.sup ≡ y.vol.sup
    → SameLoans (without_file y.vol.store file) vol.store → Serves y.rack vol.store → Ran whole x (world y.rack vol y.out) r
writing_over put whole x y vol file r ready w sup back serves =
    let same : SameVolume x.vol vol = record {
      sup = sup ∙ w.sup;
      store = record {
        layout = back.layout ∙ w.others.layout;
        loans = back.loans
            ∙ w.others.loans;
      };
    } in
    record {
      reads = w.reads;
      volume = same;
      ready = record { serves = serves; room = room_kept x.vol vol same ready.room };
      did = w.did;
      cause = w.cause;
      sink_calls = w.sink_calls;
      out_calls = w.out_calls;
    }

-- a stop of a whole file that is passed on
pub written_passed : {St : Type 0} {put : St → Piece → Program Step St} {whole : Program Step St} {x y : World} {file : FileBytes} {s : TheStop}
    (r : Result St TheStop) → IsErrAnd r (λ e. e ≡ s) → WasWritten put whole x y file (Err s) → WasWritten put whole x y file r
written_passed {put = put} {whole = whole} {x = x} {y = y} {file = file} {s = s} r is h = stop_passed (WasWritten put whole x y file) r s is h

-- a stop of one of its pieces that is passed on
pub writes_passed : {St : Type 0} {put : St → Piece → Program Step St} {whole : Program Step St} {x y : World} {file : FileBytes} {s : TheStop} (st : St)
    (r : Result (Option St) TheStop) → IsErrAnd r (λ e. e ≡ s) → WasWritten put whole x y file (Err s) → WritesOn put whole x y st file r
writes_passed {put = put} {whole = whole} {x = x} {y = y} {file = file} {s = s} st r is h = stop_passed (WritesOn put whole x y st file) r s is h

-- no piece was left: the file is written
pub writes_ended : {St : Type 0} {put : St → Piece → Program Step St} {whole : Program Step St} {x y : World} {file : FileBytes} (st : St)
    (more : Option St) → ((after : St) → more ≡ Some after → ⊥) → WritesOn put whole x y st file (Ok more) → WasWritten put whole x y file (Ok st)
writes_ended st None none w = w
writes_ended st (Some after) none w = absurd (none after refl)
