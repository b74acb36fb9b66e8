-- The program: a run of its words, and the status that it ends with.
use Rattle.std.specs.Prelude.{◌≡◌, ◌⊎◌, ℕ, Option}
use Rattle.btr_run.specs.Answers.{code_of, error_line}
use Rattle.btr_run.specs.CommandLine.{AreTexts}
use Rattle.btr_run.specs.Outcomes.{IsPut}
use Rattle.btr_run.specs.Run.{Eyes, HasWholeEffect, IsAnswered, KeepsFirstPart, LeavesItsImages, RestoresCommitted, Run, ShowsTrial, outside_behind}
use Rattle.btr_run.specs.Run.{outside_before}
use Rattle.btr_run.specs.Words.{Words}
use Rattle.btr_volume.specs.Start.{Images}
use Rattle.btr_run.specs.declared.answer.Answer.{Answer}
use Rattle.btr_run.specs.declared.answer.Answer.TheVariants.{Memory}

-- all that is promised of a run, where the maker tells this volume or none
pub record IsPromised {R T O : Type 0} (volume : Option Images) (run : Run R T O) : Type 0 where
  pub answered : IsAnswered run
  pub effect : HasWholeEffect run
  pub headline : RestoresCommitted run
  pub part : KeepsFirstPart run
  pub images : LeavesItsImages run
  pub trial : ShowsTrial run volume

-- there was no memory for the words: the rack and the sink are as they were, and the line for that was put
pub record IsWordless {R T O : Type 0} (run : Run R T O) : Type 0 where
  pub rack : run.new.rack ≡ run.old.rack
  pub tree : run.new.tree ≡ run.old.tree
  pub line : IsPut (outside_before run).text (outside_behind run).text (outside_before run).out_calls (outside_behind run).out_calls
      (error_line Memory) Memory run.answer

-- the program ended: with the status of the answer of a run of its words, or of want of memory for them
pub record HasEnded {R T O : Type 0} (told : Option Words) (volume : Option Images) (run : Run R T O) (status : ℕ) : Type 0 where
  pub status_is : status ≡ code_of run.answer
  pub how : (AreTexts told run.words × IsPromised volume run) ⊎ IsWordless run

-- the program ended with a status, for some words and some answer of their run
abbrev pub ExitsWith : {R T O : Type 0} → Option Words → Option Images → Eyes R T O → R → T → O → R → T → O → ℕ → Type 0
ExitsWith {R} {T} {O} told volume eyes rack tree out rack' tree' out' status =
    (words : Words) × (answer : Answer)
    × HasEnded told volume
    (record {
      eyes = eyes;
      words = words;
      old = record { rack = rack; tree = tree; out = out };
      new = record { rack = rack'; tree = tree'; out = out' };
      answer = answer;
    })
    status
