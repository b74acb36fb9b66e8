-- What lies behind the answer of a command over opened images.
use Rattle.std.specs.Prelude.{◌≡◌, ◌≢◌, ◌⊎◌, ℕ, List, Option, IfSome, Ok}
use Rattle.btr_chunk.specs.declared.chunk.Chunk.{Chunk}
use Rattle.btr_rack.specs.Out.{CallAccount}
use Rattle.btr_rack.specs.Rack.{Seen, Account, Steady, NoneFailed, OnlyReads}
use Rattle.btr_read.specs.Layout.{Layout}
use Rattle.btr_run.specs.Faults.{tree_answer}
use Rattle.btr_volume.specs.Opening.{Scans, SuperUnread}
use Rattle.btr_volume.specs.Start.{Start, layout_by, start_of}
use Rattle.btr_walk.specs.Reading.{FaultCause}
use Rattle.btr_walk.specs.declared.fault.TreeFault.{TreeFault}
use Rattle.btr_walk.specs.declared.fault.TreeFault.TheVariants.{Unread, Crosses}
use Rattle.btr_volume.specs.declared.which.Which.TheVariants.{Images}
use Rattle.btr_run.specs.declared.answer.Answer.{Answer}
use Rattle.btr_run.specs.declared.answer.Answer.TheVariants.{Usage, Limit, ImageFault, SinkFault, OutFault, Memory}

-- where something is told, and no call on an image failed
abbrev pub IfSteady : {T : Type 0} → Option T → Account → Account → (T → Type 0) → Type 0
IfSteady told old new P = IfSome told (λ x. Steady old.faults new.faults → P x)

-- where no call of the sink and of the output failed, and memory sufficed
abbrev pub IfServed : CallAccount → CallAccount → CallAccount → CallAccount → Answer → Type 0 → Type 0
IfServed sink new_sink out new_out answer P = Steady sink.faults new_sink.faults → Steady out.faults new_out.faults → answer ≢ Memory → P

-- an image, the sink or the output failed, or memory was wanted
abbrev pub IsFault : Answer → Type 0
IsFault answer = ((slot : ℕ) × (answer ≡ ImageFault slot)) ⊎ (answer ≡ SinkFault) ⊎ (answer ≡ OutFault) ⊎ (answer ≡ Memory)

-- A layout by which the images of a rack were read up to some call: by their start, and the chunks of its array, or those that a scan of the chunk
-- tree came to, which was found by that array and ended before that call. Where the rack doesn't tell its images it is one by some start.
pub record IsLayoutOf (old new : Seen) (layout : Layout) : Type 0 where
  pub start : Start
  pub chunks : List Chunk
  pub by : layout ≡ layout_by start chunks
  pub is : IfSome old.held (λ images. (start_of images ≡ Ok start)
      × ((chunks ≡ start.array) ⊎ ((mid : Seen) × OnlyReads old mid × OnlyReads mid new × Scans start old mid (Ok (Ok chunks)))))

-- a fault of a tree has its cause: by a layout of the images some block was lost, has no position, or could not be read
abbrev pub HasTreeCause : Seen → Seen → Answer → Type 0
HasTreeCause old new answer = (fault : TreeFault) → answer ≡ tree_answer fault → (layout : Layout) × IsLayoutOf old new layout × FaultCause layout old new fault

-- the same for the faults whose cause is told
abbrev pub HasToldCause : (TreeFault → Type 0) → Seen → Seen → Answer → Type 0
HasToldCause IsTold old new answer =
    (fault : TreeFault) → answer ≡ tree_answer fault → IsTold fault → (layout : Layout) × IsLayoutOf old new layout × FaultCause layout old new fault

-- all of them
abbrev pub AnyFault : TreeFault → Type 0
AnyFault fault = Unit {0}

-- that a block could not be read
abbrev pub IsUnread : TreeFault → Type 0
IsUnread (Unread addr slot) = Unit {0}
IsUnread fault = ⊥

-- all but a block that crosses
abbrev pub IsNoCrossing : TreeFault → Type 0
IsNoCrossing (Crosses addr) = ⊥
IsNoCrossing fault = Unit {0}

-- The images were only read. One is at fault only where a read of its superblock failed, which no sure rack does. An
-- answer that is no fault comes behind a failed call only if it is of some kind. Of some faults of trees the cause is
-- told. What the words alone decide is not answered.
pub record IsBehind (MayFail : Answer → Type 0) (IsTold : TreeFault → Type 0) (old new : Seen) (answer : Answer) : Type 0 where
  pub reads : OnlyReads old new
  pub image : (slot : ℕ) → answer ≡ ImageFault slot → SuperUnread old new slot
  pub tree : HasToldCause IsTold old new answer
  pub hidden : NoneFailed old.account new.account ⊎ IsFault answer ⊎ MayFail answer
  pub no_usage : (at : ℕ) → answer ≢ Usage at
  pub no_limit : (n : ℕ) → answer ≢ Limit Images n
