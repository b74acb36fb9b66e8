-- How far the listing of a directory has come.
use Rattle.std.specs.Prelude.{◌≡◌, ℕ, zero, suc, List, [], Option, Result, Ok}
use Rattle.btr_prog.specs.Goes.{ThreadsTo}
use Rattle.btr_prog.specs.Prog.{Does, Run, run, and_then, first}
use Rattle.btr_prog.specs.Trying.{Done, tried}
use Rattle.btr_prog.proofs.SoFars.{SoFar}
use Rattle.btr_read.specs.Fate.{Fault}
use Rattle.btr_read.specs.declared.want.Want.{Want}
use Rattle.btr_super.specs.declared.superblock.Super.{Super}
use Rattle.btr_tour.specs.Tour.{Mark}
use Rattle.btr_walk.specs.Reading.{Map}
use Rattle.btr_volume.specs.Readable.{CanRead}
use Rattle.btr_volume.specs.declared.root.TreeRoot.{TreeRoot}
use Rattle.btr_files.specs.declared.dir_row.DirRow.{DirRow}
use Rattle.btr_files.specs.declared.name.NameBuf.{NameBuf}
use Rattle.btr_files.specs.declared.plan.RestorePlan.{RestorePlan}
use Rattle.btr_files.specs.Entries.{DirEntry}
use Rattle.btr_files.specs.Listing.{named_row}
use Rattle.btr_listing.specs.Step.{Step}
use Rattle.btr_restore.specs.declared.job.Job.{Job}
use Rattle.btr_restore.specs.Listing.{Listed, is_deep}
use Rattle.btr_restore.specs.Running.{World}
use Rattle.btr_salvage.specs.declared.folder.Folder.{Folder}
use Rattle.btr_salvage.specs.declared.folder.Found.{Found}
use Rattle.btr_salvage.specs.declared.salvaged.Salvaged.{Salvaged}
use Rattle.btr_prog.specs.Attempts.{TriesTo}
use Rattle.btr_salvage.specs.Folders.{IsFolder, IsFolderOn, folder_left, found_in}
use Rattle.btr_salvage.specs.Marks.{InFolder, mark_in}
use Rattle.btr_salvage.specs.Salvaging.{Attempt, SalvageListing, Within, directory, listed_in, meet, treat}

module _ (plan : RestorePlan) (s : Super) (sums : Option TreeRoot) where
  -- the listing of a directory that has one of so many places: none is listed that has no place
  abbrev pub listing_in : ℕ → SalvageListing
  listing_in zero = λ tree dirid path so_far. Done (Ok so_far)
  listing_in (suc n) = directory plan s sums n

  -- what is done with an entry of a directory, below which so many more may be entered
  abbrev pub treat_in : ℕ → TreeRoot → ℕ → List ℕ → Salvaged → DirEntry → Attempt Salvaged
  treat_in n = treat plan s sums (is_deep n) (listing_in n)

  -- what is done with what is met in it
  abbrev pub meet_in : ℕ → TreeRoot → ℕ → List ℕ → Salvaged → InFolder → Attempt Salvaged
  meet_in n = meet plan s sums (is_deep n) (listing_in n)

-- what is listed by the superblock in a directory that was entered, and the way up; so many more may be entered below
-- it
abbrev pub within_for : Job → ℕ → List ℕ → TreeRoot → ℕ → Salvaged → Super → Attempt Salvaged
within_for job n path inner dirid so_far s =
    listed_in job.plan s job.sums (listing_in job.plan s job.sums n) path (Within inner dirid so_far)

-- what is done by the superblock with an entry of a directory, with its name in a buffer
abbrev pub entry_for : Job → ℕ → TreeRoot → ℕ → List ℕ → Salvaged → DirRow → NameBuf → Super → Attempt Salvaged
entry_for job n tree dirid path so_far row name s = treat_in job.plan s job.sums n tree dirid path so_far (named_row row name)

-- what is done by the superblock with what was found in a directory
abbrev pub found_for : Job → ℕ → TreeRoot → ℕ → List ℕ → Salvaged → Found → NameBuf → Super → Attempt Salvaged
found_for job n tree dirid path so_far found name s = meet_in job.plan s job.sums n tree dirid path so_far (found_in found name)

-- the listing of a directory by the superblock, below which so many more may be entered
abbrev pub listing_for : Job → ℕ → TreeRoot → ℕ → List ℕ → Salvaged → Super → Attempt Salvaged
listing_for job n tree dirid path so_far s = directory job.plan s job.sums n tree dirid path so_far

module _ (treat : Salvaged → InFolder → Attempt Salvaged) where
  -- what is done with each mark of a tour
  abbrev pub by_mark : Salvaged → Mark → Attempt Salvaged
  by_mark so_far mark = treat so_far (mark_in mark)

  -- the runs that treat a mark
  abbrev pub TreatsMark : (ℕ → Map) → Salvaged → Mark → Run Want Fault Step (Result Salvaged Salvaged) → Type 0
  TreatsMark Bs so_far mark b =
      (q : Run Want Fault Step Salvaged) × TriesTo Bs (by_mark so_far mark) q × (b ≡ and_then q (λ after. run [] (Ok (Ok after))))

  -- what a listing of a directory answers: what was salvaged
  abbrev pub last_of : Salvaged → Unit {0} → Salvaged
  last_of so_far u = so_far

  -- the runs that treat all marks of a run
  abbrev pub Left : (ℕ → Map) → Salvaged → Run Want Fault Mark (Unit {0}) → Run Want Fault Step Salvaged → Type 0
  Left Bs so_far r = ThreadsTo (TreatsMark Bs) last_of so_far r.marks r.ending

  -- of the runs of a whole listing these steps are done, and what is left are the marks of a directory's tour
  pub record LeftOf (whole : Attempt Salvaged) (B : Map) (Bs : ℕ → Map) (so_far : Salvaged) (folder : Folder) (done : List Step) : Type 0 where
    pub seen : List Want
    pub run : SoFar (TriesTo Bs whole) (Left Bs so_far (tried B (folder_left B folder))) seen done
    pub on : IsFolderOn B seen folder

  -- the same after something was found
  pub record MetOf
      (whole : Attempt Salvaged) (B : Map) (Bs : ℕ → Map) (so_far : Salvaged) (found : InFolder) (folder : Folder)
      (done : List Step) : Type 0 where
    pub seen : List Want
    pub mark : Mark
    pub says : mark_in mark ≡ found
    pub run : SoFar (TriesTo Bs whole) (Left Bs so_far (first (Does mark) (tried B (folder_left B folder)))) seen done
    pub on : IsFolderOn B seen folder

-- a listing is under way: its directory can be read on, and its path and the places below are as it began
pub record IsUnderway
    (meets : Super → ℕ → List ℕ → Salvaged → InFolder → Attempt Salvaged) (whole : Super → Attempt Salvaged) (deeper : ℕ) (path : List ℕ)
    (x y : World) (so_far : Salvaged) (folder : Folder) (here : List ℕ) (below : ℕ) : Type 0 where
  pub ready : CanRead 6 y.rack y.vol
  pub reads_on : IsFolder folder
  pub same_path : here ≡ path
  pub same_below : below ≡ deeper
  pub listed : (s : Super) → s ≡ x.vol.sup → Listed (λ B Bs. LeftOf (meets s deeper path) (whole s) B Bs so_far folder) x y
