-- What a call of scrub answers, and what stands in the images behind it, whatever failed.
use Rattle.std.specs.Prelude.{◌≡◌, ◌⊎◌, ℕ, ◌≤◌, Bool, false, List, [], map, None, IfSome, IsSomeAnd, Result, Ok, Err, ⊤}
use Rattle.btr_scrub_copies.specs.Writes.{Images, IsStopped, Write}
use Rattle.btr_rack.specs.Rack.{OnlyReads, Rose, Seen, Steady}
use Rattle.btr_read.specs.Reading.{AgreedOn}
use Rattle.btr_volume.specs.declared.stop.Stop.{Stop}
use Rattle.btr_volume.specs.declared.stop.Stop.TheVariants as stop
use Rattle.btr_volume.specs.declared.volume.Volume.{Volume}
use Rattle.btr_walk.specs.declared.fault.TreeFault.{TreeFault}
use Rattle.btr_walk.specs.declared.fault.TreeFault.TheVariants as tree
use Rattle.btr_scrub.specs.Filesystem.{Filesystem}
use Rattle.btr_scrub.specs.WrittenRanges.{KeepsOutside, WaitsInOne}
use Rattle.btr_scrub.specs.Repair.{effect}
use Rattle.btr_scrub.specs.Right.{Committed, IsCommitted, RangesLeaveFresh, RangesLieInWrong, RangesMayHoldAnything, SparedStand}
use Rattle.btr_scrub.specs.Scrubbing.{IsOfScrub}
use Rattle.btr_scrub.specs.declared.tally.Tally.{Tally}

-- a call of scrub: the filesystem, whether it was to write, what was seen of the
-- rack before it and behind it, and the answer
pub record Called : Type 0 where
  pub fs : Filesystem
  pub write : Bool
  pub old : Seen
  pub new : Seen
  pub result : Result Tally Stop

-- a call of scrub over a volume, made of its parts
abbrev pub called : Volume → Bool → Seen → Seen → Result Tally Stop → Called
called vol write old new result = record { fs = record { layout = vol.store.layout; sup = vol.sup }; write = write; old = old; new = new; result = result }

-- the tree blocks were read as the block map has them: no call failed, or all candidates that pass agree
abbrev pub IsSure : Called → Type 0
IsSure c = Steady c.old.account.faults c.new.account.faults ⊎ AgreedOn c.fs.layout c.old.held

-- where the rack tells its images it tells them still, and this holds of them as they were and as they are left
abbrev pub OfImages : Called → (Images → Images → Type 0) → Type 0
OfImages c P = IfSome c.old.held (λ images. IsSomeAnd c.new.held (P images))

-- the answer and the images that are left are those of the effect
pub record HasEffect (c : Called) (images left : Images) : Type 0 where
  pub answer : c.result ≡ (effect c.write images c.fs).answer
  pub same : left ≡ (effect c.write images c.fs).images

-- a fault of a tree is that of the effect, or a block could not be read
abbrev pub FaultsAs : Called → Images → Images → TreeFault → Type 0
FaultsAs c images left (tree.Unread a slot) = Rose c.old.account.faults c.new.account.faults
FaultsAs c images left fault = HasEffect c images left

-- what the answer says of a call that is sure: it is that of the effect, or a
-- call on an image failed, or memory was wanted
abbrev pub AnswersAs : Called → Images → Images → Result Tally Stop → Type 0
AnswersAs c images left (Ok tally) = HasEffect c images left
AnswersAs c images left (Err (stop.NoTree id)) = HasEffect c images left
AnswersAs c images left (Err (stop.Tree fault)) = FaultsAs c images left fault
AnswersAs c images left (Err (stop.Missing devid)) = HasEffect c images left
AnswersAs c images left (Err (stop.Image slot)) = Rose c.old.account.faults c.new.account.faults
AnswersAs c images left (Err stop.Memory) = ⊤
AnswersAs c images left (Err stop) = ⊥

-- the writes of the effect were made, or stopped at one of them, and no byte outside their ranges changed
pub record IsLeftBy (writes : List Write) (images left : Images) : Type 0 where
  pub stopped : IsStopped writes images left
  pub rest : KeepsOutside (map (λ (write : Write). write.range) writes) images left

-- whatever failed, with these answers the images were only read
abbrev pub ReadsAt : Called → Result Tally Stop → Type 0
ReadsAt c (Ok tally) = ⊤
ReadsAt c (Err (stop.NoTree id)) = OnlyReads c.old c.new
ReadsAt c (Err (stop.Tree fault)) = OnlyReads c.old c.new
ReadsAt c (Err (stop.Missing devid)) = c.new ≡ c.old
ReadsAt c (Err (stop.Image slot)) = ⊤
ReadsAt c (Err stop.Memory) = ⊤
ReadsAt c (Err stop) = ⊥

-- a read, a write or a sync of this slot was the last call that failed, and it
-- was one of scrub's own; the rack isn't sure
pub record IsImageFault (c : Called) (slot : ℕ) : Type 0 where
  pub unsure : c.old.sure ≡ false
  pub rose : Rose c.old.account.faults c.new.account.faults
  pub fresh : 1 ≤ c.new.account.fresh
  pub no_opening : c.new.account.opening ≡ None
  pub on_slot : c.new.account.last.slot ≡ slot
  pub place : IsOfScrub c.fs.layout c.new.account.last

-- Scrub as a whole, at every exit. Where nothing waited for a sync before, what does then lies in stripes of one chunk.
pub record IsScrubbed (c : Called) : Type 0 where
  pub answers : IsSure c → OfImages c (λ images left. AnswersAs c images left c.result)
  pub left : IsSure c → OfImages c (λ images left. IsLeftBy (effect c.write images c.fs).writes images left)
  pub reads : ReadsAt c c.result
  pub unwritten : c.write ≡ false → OnlyReads c.old c.new
  pub image : (slot : ℕ) → c.result ≡ Err (stop.Image slot) → IsImageFault c slot
  pub waits : c.old.unsynced ≡ [] → WaitsInOne c.fs.layout c.old c.new

-- Whatever bytes stand in the ranges that are written, each checked block that can be spared can be had, plain sectors
-- with copies have their fresh bytes, and nothing right lies there; so each such block can be had from what is left,
-- whatever failed.
pub record IsSafe (c : Called) : Type 0 where
  pub anything : IfSome c.old.held (λ images. RangesMayHoldAnything images c.fs)
  pub fresh : IfSome c.old.held (λ images. RangesLeaveFresh images c.fs)
  pub wrong : IfSome c.old.held (λ images. RangesLieInWrong images c.fs)
  pub left : IsSure c → OfImages c (λ images left. (C : Committed) → IsCommitted images c.fs C → SparedStand images left c.fs C)
