-- How far the bytes of a file have been read, of which none is put.
use Rattle.std.specs.Prelude.{◌≡◌, ℕ, ◌<◌, Bool, true, false, List, [], Result, Ok, Err}
use Rattle.btr_base.specs.declared.kind.SumKind.{SumKind}
use Rattle.btr_prog.specs.Answers.{no_part}
use Rattle.btr_prog.specs.Goes.{Goes, GoesTo}
use Rattle.btr_prog.proofs.SoFars.{SoFar}
use Rattle.btr_rack.specs.Rack.{Seen, OnlyReads}
use Rattle.btr_read.specs.Store.{SameLoans}
use Rattle.btr_read.specs.declared.want.Want.{Want}
use Rattle.btr_walk.specs.Reading.{HasCause, Map, answer_of, unread_by}
use Rattle.btr_walk.specs.declared.fault.TreeFault.{TreeFault}
use Rattle.btr_volume.specs.Lookup.{Program}
use Rattle.btr_volume.specs.declared.volume.Volume.{Volume}
use Rattle.btr_files.specs.declared.file.FileBytes.{FileBytes}
use Rattle.btr_files.specs.Content.{Piece}
use Rattle.btr_files.specs.Maps.{TellsAll}
use Rattle.btr_files.specs.Streaming.{FileGoes, IsFileOn, IsReading, without_file}
use Rattle.btr_files.specs.Sums.{kind_in}

-- of the runs of a whole file some pieces are past, and what is left are those that it has still to give
pub record LeftToRead (whole : Program Piece (Unit {0})) (kind : SumKind) (Bs : ℕ → Map) (file : FileBytes) : Type 0 where
  pub seen : List Want
  pub past : List Piece
  pub so_far : SoFar (GoesTo Bs whole) (FileGoes kind Bs file) seen past
  pub on : IsFileOn (Bs 0) seen file

-- a file is being read: the volume is as before but for the file's loan
pub record IsPassing (whole : Program Piece (Unit {0})) (rack : Seen) (vol : Volume) (rack' : Seen) (vol' : Volume) (file : FileBytes) : Type 0 where
  pub reads : OnlyReads rack rack'
  pub sup : vol'.sup ≡ vol.sup
  pub others : SameLoans vol.store (without_file vol'.store file)
  pub reading : IsReading rack' vol'.store file
  pub content : TellsAll vol.store.layout rack rack' (λ Bs. LeftToRead whole (kind_in vol.sup) Bs file)

-- a file was read, or it ended before
pub record WasPassed (whole : Program Piece (Unit {0})) (rack : Seen) (vol : Volume) (rack' : Seen) (vol' : Volume) (file : FileBytes)
    (answer : Result (Unit {0}) TreeFault) : Type 0 where
  pub reads : OnlyReads rack rack'
  pub sup : vol'.sup ≡ vol.sup
  pub others : SameLoans vol.store (without_file vol'.store file)
  pub reading : IsReading rack' vol'.store file
  pub cause : HasCause vol.store.layout rack rack' answer
  pub content :
      TellsAll vol.store.layout rack rack'
      (λ Bs. (past : List Piece) × Goes (unread_by vol.store.layout rack rack') no_part [] Bs whole past (answer_of answer))

-- a step of reading: on, the end, or a fault
abbrev pub PassesBy : Program Piece (Unit {0}) → Seen → Volume → Seen → Volume → FileBytes → Result Bool TreeFault → Type 0
PassesBy whole rack vol rack' vol' file (Ok true) = IsPassing whole rack vol rack' vol' file
PassesBy whole rack vol rack' vol' file (Ok false) = WasPassed whole rack vol rack' vol' file (Ok tt)
PassesBy whole rack vol rack' vol' file (Err f) = WasPassed whole rack vol rack' vol' file (Err f)

-- a step of a file that is being read, whatever its whole program is and where that began
abbrev pub PassesNext : FileBytes → FileBytes → Seen → Volume → Seen → Volume → Result Bool TreeFault → Type 0
PassesNext file file' rack vol rack' vol' answer =
    (whole : Program Piece (Unit {0})) (first : Seen) (began : Volume)
    → IsPassing whole first began rack vol file → PassesBy whole first began rack' vol' file' answer

-- all that is still to come of a file that is being read, whatever its whole program is and where that began
abbrev pub PassesRest : FileBytes → FileBytes → Seen → Volume → Seen → Volume → Result (Unit {0}) TreeFault → Type 0
PassesRest file file' rack vol rack' vol' answer =
    (whole : Program Piece (Unit {0})) (first : Seen) (began : Volume)
    → IsPassing whole first began rack vol file → WasPassed whole first began rack' vol' file' answer

-- a file comes nearer to its end with each piece
abbrev pub PassRankFalls : ℕ → ℕ → Result Bool TreeFault → Type 0
PassRankFalls before now (Ok true) = now < before
PassRankFalls before now (Ok false) = Unit {0}
PassRankFalls before now (Err f) = Unit {0}
