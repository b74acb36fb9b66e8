-- How far the listing of a directory has come.
use Rattle.std.specs.Prelude.{◌≡◌, ℕ, ◌+◌, zero, suc, Bool, true, false, List, fold, Option, IfSome, Result, Ok, Err}
use Rattle.btr_prog.specs.Calls.{Sure, Calls}
use Rattle.btr_prog.specs.Goes.{GoesTo, ThreadsTo}
use Rattle.btr_prog.specs.Prog.{Return, Does, Run, bind, exec, first}
use Rattle.btr_prog.proofs.SoFars.{SoFar}
use Rattle.btr_rack.specs.Rack.{Seen, OnlyReads}
use Rattle.btr_rack.specs.Sink.{Sink}
use Rattle.btr_read.specs.Fate.{Fault, fate}
use Rattle.btr_read.specs.Layout.{Layout}
use Rattle.btr_read.specs.Reading.{AgreedOn, shown}
use Rattle.btr_read.specs.declared.want.Want.{Want}
use Rattle.btr_super.specs.declared.superblock.Super.{Super}
use Rattle.btr_walk.specs.Reading.{Map}
use Rattle.btr_volume.specs.Lookup.{Program}
use Rattle.btr_volume.specs.declared.stop.Stop.{Stop}
use Rattle.btr_volume.specs.Looking.{SameVolume}
use Rattle.btr_volume.specs.Readable.{CanRead}
use Rattle.btr_volume.specs.declared.root.TreeRoot.{TreeRoot}
use Rattle.btr_files.specs.declared.counts.Counts.{Counts}
use Rattle.btr_files.specs.declared.dir.Dir.{Dir}
use Rattle.btr_files.specs.declared.dir_row.DirRow.{DirRow}
use Rattle.btr_files.specs.declared.name.NameBuf.{NameBuf}
use Rattle.btr_files.specs.declared.plan.RestorePlan.{RestorePlan}
use Rattle.btr_files.specs.Entries.{DirEntry}
use Rattle.btr_files.specs.Listing.{dir_left, named_row, IsDir, IsDirOn}
use Rattle.btr_files.specs.Maps.{maps_by}
use Rattle.btr_restore.specs.declared.job.Job.{Job}
use Rattle.btr_restore.specs.Journey.{Listing, Within, directory, listed_in, treat}
use Rattle.btr_restore.specs.Restoring.{sink_after, text_after}
use Rattle.btr_restore.specs.Running.{World, StandsBetweenFiles}
use Rattle.btr_listing.specs.Step.{Step}

-- whether directories are too deep, below which so many more may be entered
abbrev pub is_deep : ℕ → Bool
is_deep zero = true
is_deep (suc n) = false

module _ (plan : RestorePlan) (s : Super) (sums : Option TreeRoot) where
  -- the listing of a directory that has one of so many places: none is listed that has no place
  abbrev pub listing_in : ℕ → Listing
  listing_in zero = λ tree dirid path counts. Return counts
  listing_in (suc n) = directory plan s sums n

  -- what is done with an entry of a directory, below which so many more may be entered
  abbrev pub treat_in : ℕ → TreeRoot → ℕ → List ℕ → Counts → DirEntry → Program Step Counts
  treat_in n = treat plan s sums (is_deep n) (listing_in n)

-- what is listed by the superblock in a directory that was entered, and the way up; so many more may be entered below
-- it
abbrev pub within_for : Job → ℕ → List ℕ → TreeRoot → ℕ → Counts → Super → Program Step Counts
within_for job n path inner dirid counts s =
    listed_in job.plan s job.sums (listing_in job.plan s job.sums n) path (Within inner dirid counts)

-- an entry of a directory, with its name in a buffer, by the superblock
abbrev pub entry_for : Job → ℕ → TreeRoot → ℕ → List ℕ → Counts → DirRow → NameBuf → Super → Program Step Counts
entry_for job n tree dirid path counts row name s = treat_in job.plan s job.sums n tree dirid path counts (named_row row name)

-- a listing of a directory by the superblock
abbrev pub listing_for : Job → ℕ → TreeRoot → ℕ → List ℕ → Counts → Super → Program Step Counts
listing_for job n tree dirid path counts s = directory job.plan s job.sums n tree dirid path counts

-- how a listing ended, with the counts then
abbrev pub ended_with : {A : Type 0} → A → Result (Unit {0}) Stop → Result A Stop
ended_with counts (Ok u) = Ok counts
ended_with counts (Err stop) = Err stop

-- a sink stands as deep as before, if the listing came to its end
abbrev pub StandsIf : Bool → ℕ → Sink → Result (Unit {0}) Stop → Type 0
StandsIf dry n sink (Ok u) = StandsBetweenFiles dry n sink
StandsIf dry n sink (Err stop) = Unit {0}

-- where a sink stood, it stands as deep after a listing that came to its end
abbrev pub KeepsDepth : Bool → Sink → Sink → Result (Unit {0}) Stop → Type 0
KeepsDepth dry old new result = (n : ℕ) → StandsBetweenFiles dry n old → StandsIf dry n new result

-- a sink stands one less deep after a listing that came to its end and leaves its directory
abbrev pub LeavesDepth : Bool → Sink → Sink → Result (Unit {0}) Stop → Type 0
LeavesDepth dry old new result = (n : ℕ) → StandsBetweenFiles dry (n + 1) old → StandsIf dry n new result

-- the maps of some images, so surely known
abbrev pub maps_of : Layout → Sure → List (List ℕ) → ℕ → Map
maps_of layout sure images n = maps_by sure images n layout

-- so far as the calls were steady, P holds of the block map of the images, and of what a block may come to
abbrev pub TellsBoth : Layout → Seen → Seen → (Map → (ℕ → Map) → Type 0) → Type 0
TellsBoth layout old new P =
    Calls (AgreedOn layout) (shown old) (shown new) (λ sure held. IfSome held (λ images. P (fate images layout) (maps_of layout sure images)))

module _ (treat : Counts → DirEntry → Program Step Counts) where
  -- what a listing makes of each entry
  abbrev pub body_of : Counts → DirEntry → Program Step (Result Counts Counts)
  body_of counts entry = bind (treat counts entry) (λ after. Return (Ok after))

  -- what a listing answers: its last counts
  abbrev pub last_of : Counts → Unit {0} → Counts
  last_of counts u = counts

  -- the runs that treat the entries of a run
  abbrev pub Left : (ℕ → Map) → Counts → Run Want Fault DirEntry (Unit {0}) → Run Want Fault Step Counts → Type 0
  Left Bs counts r = ThreadsTo (λ st entry. GoesTo Bs (body_of st entry)) last_of counts r.marks r.ending

  -- of the runs of a whole listing these steps are done, and what is left are the entries of a directory
  pub record LeftOf (whole : Program Step Counts) (B : Map) (Bs : ℕ → Map) (counts : Counts) (dir : Dir) (done : List Step) : Type 0 where
    pub seen : List Want
    pub so_far : SoFar (GoesTo Bs whole) (Left Bs counts (exec B (dir_left B dir))) seen done
    pub on : IsDirOn B seen dir

  -- of the runs of a whole listing these steps are done, and an entry was met that is to be treated next
  pub record MetOf
      (whole : Program Step Counts) (B : Map) (Bs : ℕ → Map) (counts : Counts) (entry : DirEntry) (dir : Dir)
      (done : List Step) : Type 0 where
    pub seen : List Want
    pub so_far : SoFar (GoesTo Bs whole) (Left Bs counts (first (Does entry) (exec B (dir_left B dir)))) seen done
    pub on : IsDirOn B seen dir

-- a listing has come so far: its calls did some steps, and Left says what is left by then
pub record Listed (Left : Map → (ℕ → Map) → List Step → Type 0) (x y : World) : Type 0 where
  pub reads : OnlyReads x.rack y.rack
  pub volume : SameVolume x.vol y.vol
  pub ready : CanRead 6 y.rack y.vol
  pub done : List Step
  pub sink : y.out.sink ≡ fold sink_after x.out.sink done
  pub text : y.out.text ≡ text_after x.out.text done
  pub content : TellsBoth x.vol.store.layout x.rack y.rack (λ B Bs. Left B Bs done)
  pub sink_calls : y.out.sink_calls ≡ x.out.sink_calls
  pub out_calls : y.out.out_calls ≡ x.out.out_calls

-- a listing is under way: its directory can be read on, and its path and the places below are as it began
pub record IsUnderway
    (treat : Super → ℕ → List ℕ → Counts → DirEntry → Program Step Counts) (whole : Super → Program Step Counts) (deeper : ℕ) (path : List ℕ)
    (x y : World) (counts : Counts) (dir : Dir) (here : List ℕ) (below : ℕ) : Type 0 where
  pub ready : CanRead 6 y.rack y.vol
  pub reads_on : IsDir dir
  pub same_path : here ≡ path
  pub same_below : below ≡ deeper
  pub listed : (s : Super) → s ≡ x.vol.sup → Listed (λ B Bs. LeftOf (treat s deeper path) (whole s) B Bs counts dir) x y
