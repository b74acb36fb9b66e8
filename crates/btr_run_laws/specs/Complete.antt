-- Where nothing failed, and all that a command needs is there, it is done.
use Rattle.std.specs.Prelude.{◌≡◌, ◌≢◌, ℕ, List, [], get_or, length, Option, Some, None, Result, Ok}
use Rattle.std.specs.Prelude.{Err}
use Rattle.btr_check.specs.Before.{refusal}
use Rattle.btr_check.specs.Findings.{findings}
use Rattle.btr_chunk.specs.declared.chunk.Chunk.{Chunk}
use Rattle.btr_dump.specs.Pieces.{all_trees, asked_tree, block_shown, kind_in, roots_shown}
use Rattle.btr_files.specs.declared.counts.Counts.{Counts}
use Rattle.btr_files.specs.declared.plan.RestorePlan.{RestorePlan}
use Rattle.btr_prog.specs.Prog.{BlockMap, Prog, Return, Stop, Need, Emit, exec, needs}
use Rattle.btr_prog.specs.Maps.{Each, IsWhole}
use Rattle.btr_rack.specs.Rack.{Shelf, Steady}
use Rattle.btr_read.specs.Fate.{fate}
use Rattle.btr_resolve.specs.Resolving.{resolved}
use Rattle.btr_restore.specs.Committed.{AreWhole, Commit, IsClosed, IsHonest, committed}
use Rattle.btr_restore.specs.Journey.{journey, listing}
use Rattle.btr_restore.specs.Outcome.{outcome}
use Rattle.btr_restore.specs.Running.{Outside}
use Rattle.btr_salvage.specs.Salvaging.{salvage_run}
use Rattle.btr_salvage.specs.declared.salvaged.Salvaged.{Salvaged}
use Rattle.btr_scrub.specs.Repair.{first_missing, meeting}
use Rattle.btr_send.specs.Sending.{sending}
use Rattle.btr_volume.specs.Maps.{volume_map}
use Rattle.btr_volume.specs.Start.{Images, Start, layout_by, start_of}
use Rattle.btr_run.specs.Agreeing.{AsksOf}
use Rattle.btr_run.specs.Checked.{filesystem_by, found}
use Rattle.btr_run.specs.Effects.{HasEffect}
use Rattle.btr_run.specs.Filesystem.{Filesystem, filesystem_of}
use Rattle.btr_run.specs.Outcomes.{IsPrinted, Outcome}
use Rattle.btr_run.specs.Promise.{KeepsOutcome, RestoresFrom, StandsAs}
use Rattle.btr_run.specs.Scrubbed.{counts, filesystem_as}
use Rattle.btr_run.specs.SelfTested.{IsTrialOf}
use Rattle.btr_run.specs.Words.{Words}
use Rattle.btr_run.specs.declared.answer.Answer.{Answer}
use Rattle.btr_run.specs.declared.answer.Answer.TheVariants.{Done, Memory}
use Rattle.btr_run.specs.declared.plan.Command.{Command}
use Rattle.btr_run.specs.declared.plan.Command.TheVariants.{Super as super_command, Ask, Check}
use Rattle.btr_run.specs.declared.plan.Command.TheVariants.{Scrub, SelfTest}
use Rattle.btr_run.specs.declared.query.DumpChoice.{DumpChoice}
use Rattle.btr_run.specs.declared.query.DumpChoice.TheVariants.{All, Block, Tree, RootLines}
use Rattle.btr_run.specs.declared.plan.Plan.{Plan}
use Rattle.btr_run.specs.declared.query.Query.{Query}
use Rattle.btr_run.specs.declared.query.Query.TheVariants.{Dump, Resolve, Restore, Salvage, Send}

-- on by a block's bytes, where there are any
abbrev pub if_given : {F : Type 0} → Result (List ℕ) F → (List ℕ → Option F) → Option F
if_given (Ok bytes) k = k bytes
if_given (Err f) k = None

module _ {W F S : Type 0} where
  -- the fault that a program states by what the blocks hold: that one breaks a rule, or that
  -- something isn't there
  abbrev pub own_fault : {A : Type 0} → BlockMap W F → Prog W F S A → Option F
  own_fault B (Return a) = None
  own_fault B (Stop f) = Some f
  own_fault B (Need w k) = if_given (B w) (λ bytes. own_fault B (k bytes))
  own_fault B (Emit s p) = own_fault B p

  -- each block that a program needs is there, and none breaks a rule
  pub record IsServed {A : Type 0} (B : BlockMap W F) (p : Prog W F S A) : Type 0 where
    pub whole : Each (λ w. IsWhole (B w)) (needs B p)
    pub well : own_fault B p ≡ None

-- the trees that are asked for can be shown whole; a tree of an id that is asked for is there
abbrev pub AreShown : DumpChoice → Images → Filesystem → Type 0
AreShown All images fs = IsServed (fate images fs.layout) (all_trees fs.sup)
AreShown (Block addr) images fs =
    IsServed (fate images fs.layout) (block_shown (kind_in fs.sup) addr)
AreShown (Tree id) images fs =
    (exec (fate images fs.layout) (asked_tree fs.sup id)).ending ≡ Ok None
AreShown RootLines images fs = IsServed (fate images fs.layout) (roots_shown fs.sup)

-- What a query needs of its filesystem is there; a restore that goes on after lost blocks comes to its
-- end.
abbrev pub HasQueryNeeds : Query → Words → Images → Filesystem → Type 0
HasQueryNeeds (Dump choice) words images fs = AreShown choice images fs
HasQueryNeeds (Resolve addr) words images fs =
    IsServed (fate images fs.layout) (resolved fs.sup fs.layout.chunks addr)
HasQueryNeeds (Restore dest plan) words images fs =
    IsServed (fate images fs.layout) (listing plan (get_or words dest []) fs.sup)
HasQueryNeeds (Salvage dest plan) words images fs =
    (salvaged : Salvaged)
    × ((salvage_run (fate images fs.layout) plan (get_or words dest []) fs.sup).ending
    ≡ Ok salvaged)
HasQueryNeeds (Send dest file plan) words images fs =
    IsServed (fate images fs.layout)
    (sending (get_or words dest []) (get_or words file []) fs.sup plan)

-- What a command needs of its filesystem is there. A check isn't refused; a scrub lacks no device,
-- and can list its blocks.
abbrev pub HasNeeds : Command → Words → Images → Filesystem → Type 0
HasNeeds super_command words images fs = Unit {0}
HasNeeds (Ask query) words images fs = HasQueryNeeds query words images fs
HasNeeds (Check read_data) words images fs = refusal (filesystem_by images fs) ≡ None
HasNeeds (Scrub write) words images fs =
    (first_missing fs.layout ≡ None) × ((meeting images (filesystem_as fs)).ending ≡ Ok tt)
HasNeeds (SelfTest number) words images fs = ⊥

-- the command was done: a check and a scrub answer what they count, and any other how many entries
-- it left out
abbrev pub IsDone : Command → Images → Filesystem → Answer → Type 0
IsDone super_command images fs answer = (skipped : ℕ) × (answer ≡ Done skipped)
IsDone (Ask query) images fs answer = (skipped : ℕ) × (answer ≡ Done skipped)
IsDone (Check read_data) images fs answer =
    answer ≡ found (length (findings read_data (filesystem_by images fs)))
IsDone (Scrub write) images fs answer = answer ≡ found (counts write images (filesystem_as fs)).lost
IsDone (SelfTest number) images fs answer = ⊥

-- where `run` has the effect of its words over the images, which make a filesystem
abbrev pub CommandsComplete : Type 0
CommandsComplete =
    (words : Words) (shelf : Shelf) (x y : Outside) (answer : Answer) (plan : Plan)
    (images : Images) (fs : Filesystem)
    → HasEffect words shelf x y answer
    → AsksOf words shelf plan images
    → filesystem_of images ≡ Ok fs
    → HasNeeds plan.command words images fs
    → IsDone plan.command images fs answer

-- a restore was done, and what stands is the whole committed listing
pub record RestoredWhole
    (x y : Outside) (answer : Answer) (plan : RestorePlan) (dest : List ℕ) (images : Images)
    (start : Start) (C : Commit) : Type 0 where
  pub counted : Counts
  pub done : answer ≡ Done counted.skipped
  pub stands : StandsAs x y answer
      (outcome (exec (volume_map start (committed C images)) (journey plan dest start)))

-- in committed words: over honest images whose committed blocks hold all that is needed and break
-- no rule, where each need has a candidate that passes
abbrev pub RestoreCompletes : Type 0
RestoreCompletes =
    (words : Words) (shelf : Shelf) (x y : Outside) (answer : Answer) (plan : RestorePlan)
    (dest : List ℕ) (images : Images) (start : Start) (C : Commit) (table : List Chunk)
    → KeepsOutcome words shelf x y answer
    → RestoresFrom words shelf plan dest images
    → start_of images ≡ Ok start
    → IsHonest C images (layout_by start table)
    → IsClosed plan dest images start C table
    → own_fault (volume_map start (committed C images)) (journey plan dest start) ≡ None
    → AreWhole plan dest images start C
    → RestoredWhole x y answer plan dest images start C

-- what a self-test shows and answers counts the lines that differ, where its output doesn't fail
-- and memory suffices
abbrev pub SelfTestCompletes : Type 0
SelfTestCompletes =
    (x y : Outside) (answer : Answer) (volume : Option Images) (number : ℕ) (outcome : Outcome)
    → IsTrialOf volume number outcome
    → IsPrinted (Unit {0}) x y outcome answer
    → Steady x.sink_calls.faults y.sink_calls.faults
    → Steady x.out_calls.faults y.out_calls.faults
    → answer ≢ Memory
    → (differing : ℕ) × (answer ≡ found differing)
