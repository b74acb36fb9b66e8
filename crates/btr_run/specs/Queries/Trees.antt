-- The commands that show trees of a filesystem.
use Rattle.std.specs.Prelude.{◌≡◌, ◌⊎◌, ℕ, false, List, ◌++◌, Option, Some, None, Result, Ok, Err}
use Rattle.btr_dump.specs.Pieces.{Text, all_trees, asked_tree, block_shown, kind_in, roots_shown}
use Rattle.btr_dump.specs.Showing.{TextRun, whole}
use Rattle.btr_prog.specs.Answers.{Names}
use Rattle.btr_prog.specs.Prog.{Mark, exec, steps_of, wants_of}
use Rattle.btr_read.specs.Fate.{Agree, Fault, fate}
use Rattle.btr_read.specs.Layout.{Layout}
use Rattle.btr_read.specs.Want.{addr_of}
use Rattle.btr_read.specs.declared.want.Want.{Want}
use Rattle.btr_read.specs.declared.want.Want.TheVariants as want
use Rattle.btr_super.specs.declared.superblock.Super.{Super}
use Rattle.btr_volume.specs.Start.{Images}
use Rattle.btr_volume.specs.declared.stop.Stop.{Stop}
use Rattle.btr_walk.specs.Reading.{Map, UnreadBlock}
use Rattle.btr_walk.specs.declared.fault.TreeFault.{TreeFault}
use Rattle.btr_run.specs.Faults.{stop_answer, tree_answer}
use Rattle.btr_run.specs.Filesystem.{fault_answer}
use Rattle.btr_run.specs.Outcomes.{Outcome, Shown, showing}
use Rattle.btr_run.specs.Rows.{Row}
use Rattle.btr_run.specs.declared.answer.Answer.{Answer}
use Rattle.btr_run.specs.declared.answer.Answer.TheVariants.{Done, NoTree, Unread}
use Rattle.btr_run.specs.declared.query.DumpChoice.{DumpChoice}
use Rattle.btr_run.specs.declared.query.DumpChoice.TheVariants.{All, Block, Tree, RootLines}

-- the answer where a text was shown to its end
abbrev pub whole_answer : Unit {0} → Answer
whole_answer u = Done 0

-- the same where a tree was asked for, and there isn't one of this id
abbrev pub asked_answer : Option ℕ → Answer
asked_answer None = Done 0
asked_answer (Some id) = NoTree id

-- the answer by how a run ended: with its value, or with a fault
abbrev pub ending_answer : {A : Type 0} → (A → Answer) → Result A Fault → Answer
ending_answer answer (Ok a) = answer a
ending_answer answer (Err fault) = fault_answer fault

-- what showing a text piece by piece comes to: the pieces up to a block that can't be had, and its
-- fault
abbrev pub shown_by : {A : Type 0} → (A → Answer) → TextRun A → Shown
shown_by answer r =
    record { answer = ending_answer answer r.ending; text = whole (steps_of r.marks) }

-- what showing the trees that are asked for comes to, by what becomes of each block
abbrev pub trees_shown : DumpChoice → Map → Super → Shown
trees_shown All blocks s = shown_by whole_answer (exec blocks (all_trees s))
trees_shown (Block addr) blocks s =
    shown_by whole_answer (exec blocks (block_shown (kind_in s) addr))
trees_shown (Tree id) blocks s = shown_by asked_answer (exec blocks (asked_tree s id))
trees_shown RootLines blocks s = shown_by whole_answer (exec blocks (roots_shown s))

-- a text is shown piece by piece up to a place behind a want of a block that could not be read,
-- which the answer names
pub record BreaksOff {A : Type 0} (r : TextRun A) (outcome : Outcome) : Type 0 where
  pub unread : UnreadBlock
  pub before : List (Mark Want Text)
  pub behind : List (Mark Want Text)
  pub place : r.marks ≡ before ++ behind
  pub wanted : Names (λ u want. u.addr ≡ addr_of want) unread (wants_of before)
  pub is : outcome ≡ showing
      (record { answer = Unread unread.addr unread.slot; text = whole (steps_of before) })

-- the text of the trees that are asked for is shown so
abbrev pub BreaksOffIn : DumpChoice → Map → Super → Outcome → Type 0
BreaksOffIn All blocks s outcome = BreaksOff (exec blocks (all_trees s)) outcome
BreaksOffIn (Block addr) blocks s outcome =
    BreaksOff (exec blocks (block_shown (kind_in s) addr)) outcome
BreaksOffIn (Tree id) blocks s outcome = BreaksOff (exec blocks (asked_tree s id)) outcome
BreaksOffIn RootLines blocks s outcome = BreaksOff (exec blocks (roots_shown s)) outcome

-- they are shown as far as each block could be read
abbrev pub ShowsUpTo : DumpChoice → Map → Super → Outcome → Type 0
ShowsUpTo choice blocks s outcome =
    (outcome ≡ showing (trees_shown choice blocks s)) ⊎ BreaksOffIn choice blocks s outcome

-- the answer of a call that shows a text
abbrev pub call_answer : Result (Unit {0}) Stop → Answer
call_answer (Ok u) = Done 0
call_answer (Err stop) = stop_answer stop

-- what showing trees may come to, whatever its blocks are: behind some text its end, or that there
-- is no such tree, or a tree that can't be read on
pub record IsTreesOutcome (outcome : Outcome) : Type 0 where
  pub shown : Shown
  pub is : outcome ≡ showing shown
  pub ends : (shown.answer ≡ Done 0) ⊎ ((id : ℕ) × (shown.answer ≡ NoTree id))
      ⊎ ((fault : TreeFault) × (shown.answer ≡ tree_answer fault))

-- where a block is shown by its address alone, which is tested by less than a block of a tree, its
-- copies agree too
abbrev pub AgreesOn : DumpChoice → Images → Layout → Type 0
AgreesOn All images layout = Unit {0}
AgreesOn (Block addr) images layout = Agree images layout (want.Block addr)
AgreesOn (Tree id) images layout = Unit {0}
AgreesOn RootLines images layout = Unit {0}

-- the row of showing trees: the pieces of their text, whole or up to a block that could not be
-- read, where the copies of a block that is asked for agree
abbrev pub dump_row : DumpChoice → Row
dump_row choice = record {
  whole = λ images fs. showing (trees_shown choice (fate images fs.layout) fs.sup);
  IsUpTo = λ images fs outcome. AgreesOn choice images fs.layout
      → BreaksOffIn choice (fate images fs.layout) fs.sup outcome;
  MayBe = IsTreesOutcome;
  MayWant = λ out. out.ample ≡ false;
  CallsSink = ⊥;
}
