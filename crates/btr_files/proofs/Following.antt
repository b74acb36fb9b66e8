-- A file goes on to its next extent, and gives a piece.
use Rattle.std.proofs.Common.{ℕ, List, [], ◌++◌, Option, Some, None, Result, Ok, Err, refl, subst, append_assoc}
use Rattle.btr_base.specs.declared.kind.SumKind.{SumKind}
use Rattle.btr_prog.specs.Answers.{Halt, no_part}
use Rattle.btr_prog.specs.Prog.{Does, first, prepend, want_marks}
use Rattle.btr_prog.proofs.Follow.{follows_as}
use Rattle.btr_read.specs.Fate.{Fault}
use Rattle.btr_read.specs.Store.{Blocks}
use Rattle.btr_read.specs.declared.want.Want.{Want}
use Rattle.btr_walk.specs.declared.fault.TreeFault.{TreeFault}
use Rattle.btr_walk.specs.Reading.{Map, UnreadBlock, halt_of}
use Rattle.btr_walk.proofs.Marks.{behind_wants, past_both}
use Rattle.btr_files.specs.declared.progress.Progress.{Progress}
use Rattle.btr_files.specs.declared.progress.Source.{Source}
use Rattle.btr_files.specs.declared.streaming.Shown.{Shown}
use Rattle.btr_files.specs.Ahead.{LooksOn, IsLooked}
use Rattle.btr_files.specs.Giving.{shown_piece, GivesStep, EndsIn, IsNextStep}
use Rattle.btr_files.specs.Streaming.{LeftBy, IsGoing}

module _ (kind : SumKind) (source : Source) (Bs : ℕ → Map) (p : Progress) where
  -- no extent could be had
  pub step_err : (Is : UnreadBlock → Want → Type 0) (p' : Progress) (store : Blocks) (f : TreeFault) → IsLooked source Is (Bs 0) p (Err f)
      → IsNextStep kind source Is Bs p p' store (Err f)
  step_err Is p' store f h seen g = h seen g kind Bs

  module _ (Was Was' Is : UnreadBlock → Want → Type 0) (p' p'' : Progress) (weaker : (u : UnreadBlock) (w : Want) → Was' u w → Is u w) where
    -- what was answered without a piece behind the next extent is answered of what was left before it
    ends_on : (seen : List Want) (l : LooksOn source (Bs 0) seen p p') (answer : Result (Unit {0}) (Halt Fault UnreadBlock))
        → EndsIn kind source Was' Bs (seen ++ l.past) p' answer → EndsIn kind source Is Bs seen p answer
    ends_on seen l answer e = (
      prepend (want_marks l.past) e.0,
      l.goes kind Bs e.0 e.1,
      behind_wants Is seen l.past (prepend (want_marks l.past) e.0) no_part e.0 [] answer refl
          (follows_as Was' Is weaker no_part (seen ++ l.past) e.0 [] answer e.2),
    )

    -- a piece that is given behind the next extent is given of what was left before it
    gives_on : (seen : List Want) (l : LooksOn source (Bs 0) seen p p') (store : Blocks) (given : Shown)
        → GivesStep kind source Was' Bs (seen ++ l.past) p' p'' store given → GivesStep kind source Is Bs seen p p'' store given
    gives_on seen l store given s = record {
      past = l.past ++ s.past;
      goes = λ q h.
          subst (LeftBy kind source Bs (Bs 0) p) (past_both l.past s.past (first (Does (shown_piece store given)) q))
          (l.goes kind Bs (prepend (want_marks s.past) (first (Does (shown_piece store given)) q)) (s.goes q h));
      on = subst (λ (x : List Want). IsGoing (Bs 0) x p'') (append_assoc seen l.past s.past) s.on;
    }

    -- an extent was found, and then a step was made
    pub step_on : (store : Blocks) (r : Result (Option Shown) TreeFault) → IsLooked source Was (Bs 0) p (Ok p')
        → IsNextStep kind source Was' Bs p' p'' store r → IsNextStep kind source Is Bs p p'' store r
    step_on store (Ok (Some given)) h n seen g = let l = h seen g in gives_on seen l store given (n (seen ++ l.past) l.on)
    step_on store (Ok None) h n seen g = let l = h seen g in ends_on seen l (Ok tt) (n (seen ++ l.past) l.on)
    step_on store (Err f) h n seen g = let l = h seen g in ends_on seen l (Err (halt_of f)) (n (seen ++ l.past) l.on)
