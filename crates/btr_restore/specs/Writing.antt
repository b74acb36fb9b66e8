-- How far the bytes of a file have been written, whatever is done with each of its pieces.
use Rattle.std.specs.Prelude.{◌≡◌, ℕ, List, fold, Option, Some, None, Result, Ok, Err}
use Rattle.btr_base.specs.declared.kind.SumKind.{SumKind}
use Rattle.btr_prog.specs.Goes.{GoesTo, ThreadsTo}
use Rattle.btr_prog.specs.Prog.{Return, Does, Run, bind, first}
use Rattle.btr_prog.proofs.SoFars.{SoFar}
use Rattle.btr_rack.specs.Out.{CallAccount}
use Rattle.btr_rack.specs.Rack.{OnlyReads}
use Rattle.btr_read.specs.Fate.{Fault}
use Rattle.btr_read.specs.Store.{SameLoans}
use Rattle.btr_read.specs.declared.want.Want.{Want}
use Rattle.btr_walk.specs.Reading.{Map}
use Rattle.btr_volume.specs.Lookup.{Program}
use Rattle.btr_volume.specs.declared.stop.Stop.{Stop}
use Rattle.btr_files.specs.declared.file.FileBytes.{FileBytes}
use Rattle.btr_files.specs.Content.{Piece}
use Rattle.btr_files.specs.Maps.{TellsAll}
use Rattle.btr_files.specs.Streaming.{FileGoes, IsFileOn, IsReading, without_file}
use Rattle.btr_files.specs.Sums.{kind_in}
use Rattle.btr_restore.specs.Restoring.{sink_after, text_after, Does as Did, RestoreStopCause, SinkCounts, OutCounts}
use Rattle.btr_volume.specs.Stops.{ended}
use Rattle.btr_restore.specs.Running.{World, scene_of}
use Rattle.btr_listing.specs.Step.{Step}

-- what is done with a piece of a file, after what was done with those before it
module _ {St : Type 0} (put : St → Piece → Program Step St) where
  -- one piece is written, and the file goes on
  abbrev pub put_of : St → Piece → Program Step (Result St St)
  put_of st piece = bind (put st piece) (λ after. Return (Ok after))

  -- what is answered of a file whose pieces were written: what the last one left
  abbrev pub last_state : St → Unit {0} → St
  last_state st u = st

  -- the runs that write the pieces of a run
  abbrev pub WritesPieces : (ℕ → Map) → St → Run Want Fault Piece (Unit {0}) → Run Want Fault Step St → Type 0
  WritesPieces Bs st q = ThreadsTo (λ st' piece. GoesTo Bs (put_of st' piece)) last_state st q.marks q.ending

  -- the runs that write the pieces that a file has still to give
  abbrev pub WritesLeft : SumKind → (ℕ → Map) → St → FileBytes → Run Want Fault Step St → Type 0
  WritesLeft kind Bs st file r = (q : Run Want Fault Piece (Unit {0})) × FileGoes kind Bs file q × WritesPieces Bs st q r

  -- the same behind a piece that was given
  abbrev pub WritesFrom : SumKind → (ℕ → Map) → St → Piece → FileBytes → Run Want Fault Step St → Type 0
  WritesFrom kind Bs st piece file r =
      (q : Run Want Fault Piece (Unit {0})) × FileGoes kind Bs file q × WritesPieces Bs st (first (Does piece) q) r

  module _ (whole : Program Step St) where
    -- of the runs of a whole program these steps are done, and what is left are the pieces of a file
    pub record LeftToWrite (kind : SumKind) (Bs : ℕ → Map) (st : St) (file : FileBytes) (done : List Step) : Type 0 where
      pub seen : List Want
      pub so_far : SoFar (GoesTo Bs whole) (WritesLeft kind Bs st file) seen done
      pub on : IsFileOn (Bs 0) seen file

    -- the same after a piece was given
    pub record PieceToWrite (kind : SumKind) (Bs : ℕ → Map) (st : St) (piece : Piece) (file : FileBytes) (done : List Step) : Type 0 where
      pub seen : List Want
      pub so_far : SoFar (GoesTo Bs whole) (WritesFrom kind Bs st piece file) seen done
      pub on : IsFileOn (Bs 0) seen file

    -- a file is being written: the volume is as before but for the file's loan
    pub record IsWriting (x y : World) (st : St) (file : FileBytes) : Type 0 where
      pub reads : OnlyReads x.rack y.rack
      pub sup : y.vol.sup ≡ x.vol.sup
      pub others : SameLoans x.vol.store (without_file y.vol.store file)
      pub reading : IsReading y.rack y.vol.store file
      pub done : List Step
      pub sink : y.out.sink ≡ fold sink_after x.out.sink done
      pub text : y.out.text ≡ text_after x.out.text done
      pub content : TellsAll x.vol.store.layout x.rack y.rack (λ Bs. LeftToWrite (kind_in x.vol.sup) Bs st file done)
      pub sink_calls : y.out.sink_calls ≡ x.out.sink_calls
      pub out_calls : y.out.out_calls ≡ x.out.out_calls

    -- a file was written, or it ended before
    pub record WasWritten (x y : World) (file : FileBytes) (answer : Result St Stop) : Type 0 where
      pub reads : OnlyReads x.rack y.rack
      pub sup : y.vol.sup ≡ x.vol.sup
      pub others : SameLoans x.vol.store (without_file y.vol.store file)
      pub reading : IsReading y.rack y.vol.store file
      pub did : Did x.vol.store.layout whole (scene_of x) (scene_of y) (ended answer)
      pub cause : RestoreStopCause x.vol.store.layout x.rack y.rack answer
      pub sink_calls : SinkCounts x.out.sink_calls y.out.sink_calls answer
      pub out_calls : OutCounts x.out.out_calls y.out.out_calls answer

    -- a step of writing: on, the end, or a stop
    abbrev pub WritesOn : World → World → St → FileBytes → Result (Option St) Stop → Type 0
    WritesOn x y st file (Ok (Some after)) = IsWriting x y after file
    WritesOn x y st file (Ok None) = WasWritten x y file (Ok st)
    WritesOn x y st file (Err stop) = WasWritten x y file (Err stop)

  -- a step of a file that is being written, whatever its whole program is and where that began
  abbrev pub WritesNext : St → FileBytes → FileBytes → (Option (List ℕ) → CallAccount → World)
      → (Option (List ℕ) → CallAccount → World) → Result (Option St) Stop → Type 0
  WritesNext st file file' before now answer =
      (whole : Program Step St) (x : World) (text : Option (List ℕ)) (calls : CallAccount)
      → IsWriting whole x (before text calls) st file → WritesOn whole x (now text calls) st file' answer

  -- all that is still to come of a file that is being written, whatever its whole program is and where that began
  abbrev pub WritesRest : St → FileBytes → FileBytes → (Option (List ℕ) → CallAccount → World)
      → (Option (List ℕ) → CallAccount → World) → Result St Stop → Type 0
  WritesRest st file file' before now answer =
      (whole : Program Step St) (x : World) (text : Option (List ℕ)) (calls : CallAccount)
      → IsWriting whole x (before text calls) st file → WasWritten whole x (now text calls) file' answer
