-- What a command over opened images comes to that puts one text and answers.
use Rattle.std.specs.Prelude.{◌≡◌, List, [], ℕ, Option, Some, IfSome}
use Rattle.btr_rack.specs.Out.{CallAccount}
use Rattle.btr_rack.specs.Rack.{Seen}
use Rattle.btr_run.specs.Agreeing.{ComesAgreed}
use Rattle.btr_run.specs.Behind.{IfSteady}
use Rattle.btr_run.specs.Commands.{IsBehindCommand, MayCome, command_outcome}
use Rattle.btr_run.specs.Outcomes.{OrBare, OrMemory, ShowsOutcome}
use Rattle.btr_run.specs.Unopened.{AreAgreed}
use Rattle.btr_run.specs.declared.answer.Answer.{Answer}
use Rattle.btr_run.specs.declared.plan.Command.{Command}

-- Where no call on an image failed it is the command's outcome by the images, or memory was wanted; where their copies agree it is one that the
-- command may come to then, whatever failed; at any rate it is of its kind, and has its cause. The words say nothing more of such a command.
pub record ShowsCommand (command : Command) (old new : Seen) (text text' : Option (List ℕ)) (before after : CallAccount) (answer : Answer) : Type 0 where
  pub effect : IfSteady old.held old.account new.account
      (λ images. ShowsOutcome (OrMemory (λ outcome. command_outcome command [] images ≡ Some outcome)) text text' before after answer)
  pub agreed : IfSome old.held (λ images. AreAgreed images → ShowsOutcome (ComesAgreed command [] images) text text' before after answer)
  pub told : ShowsOutcome (OrBare (MayCome command [])) text text' before after answer
  pub cause : IsBehindCommand command old new answer
