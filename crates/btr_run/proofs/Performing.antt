-- What a command that only shows something comes to, and a query, as a command among others.
use Rattle.std.proofs.Common.{◌≡◌, false, refl, inl, inr, ⊎_elim, ℕ, Bool, true, List, [], get_or, Option, Some, None, sym, ap, ◌∙◌, subst}
use Rattle.std.specs.Option.{IfSome}
use Rattle.btr_files.specs.declared.plan.RestorePlan.{RestorePlan}
use Rattle.btr_rack.specs.Rack.{Account, OnlyReads, Seen, Steady}
use Rattle.btr_restore.specs.Running.{Outside}
use Rattle.btr_run.specs.Agreeing.{ComesAgreed}
use Rattle.btr_run.specs.Behind.{IfSteady, IsBehind}
use Rattle.btr_run.specs.Commands.{IsBehindCommand, KeepsRack, MayCome, MayFail, MayWant, TellsCause, command_outcome}
use Rattle.btr_run.specs.Order.{InOrder}
use Rattle.btr_run.specs.Outcomes.{Outcome, HasOneOutcome, OrBare, OrMemory, ShowsOutcome}
use Rattle.btr_run.specs.Queries.{query_row}
use Rattle.btr_run.specs.Repaired.{LeavesScrubbed}
use Rattle.btr_run.specs.Queries.Restored.{restore_row}
use Rattle.btr_run.specs.Rows.{IsRowDone, Row, row_outcome}
use Rattle.btr_run.specs.Run.{Eyes, Given, IsAsked, IsPerformed, Run, before, behind, outside_before, outside_behind}
use Rattle.btr_run.specs.Stored.{IsStored}
use Rattle.btr_run.specs.Unopened.{AreAgreed}
use Rattle.btr_run.specs.Words.{Words}
use Rattle.btr_run.specs.declared.answer.Answer.{Answer}
use Rattle.btr_run.specs.declared.plan.Command.{Command}
use Rattle.btr_run.specs.declared.plan.Command.TheVariants.{Ask, Scrub}
use Rattle.btr_run.specs.declared.query.Query.{Query}
use Rattle.btr_run.specs.declared.query.Query.TheVariants.{Restore}
use Rattle.btr_run.proofs.Coming.{comes_also, comes_shown}
use Rattle.btr_read.proofs.Fetched.{map_some}
use Rattle.btr_run.proofs.Openings.{Images}

module _ (May : Type 0) (x y : Outside) (scarce : x.out_calls.ample ≡ false → May) (same : y.sink ≡ x.sink) (same_calls : y.sink_calls ≡ x.sink_calls)
    (answer : Answer) where
  -- where no call failed, what the command showed is what it comes to
  pub shown_effect : (IsOne : Images → Outcome → Type 0) (held : Option Images) (old new : Account)
      → IfSteady held old new (λ images. ShowsOutcome (OrMemory (IsOne images)) x.text y.text x.out_calls y.out_calls answer)
      → IfSteady held old new (λ images. HasOneOutcome May (OrMemory (IsOne images)) x y answer)
  shown_effect IsOne held old new =
      map_some held (λ images. Steady old.faults new.faults → ShowsOutcome (OrMemory (IsOne images)) x.text y.text x.out_calls y.out_calls answer)
      (λ images. Steady old.faults new.faults → HasOneOutcome May (OrMemory (IsOne images)) x y answer)
      (λ images shows steady. comes_shown May (OrMemory (IsOne images)) x y answer same same_calls scarce
      (shows steady))

  -- whatever failed, what the command showed is what it may come to
  pub shown_told : (IsOne : Outcome → Type 0) → ShowsOutcome (OrBare IsOne) x.text y.text x.out_calls y.out_calls answer
      → HasOneOutcome May (OrBare IsOne) x y answer
  shown_told IsOne shows = comes_shown May (OrBare IsOne) x y answer same same_calls scarce shows

  -- what it comes to where the images agree
  pub shown_so : (IsOne : Images → Outcome → Type 0) (held : Option Images)
      → IfSome held (λ images. AreAgreed images → ShowsOutcome (IsOne images) x.text y.text x.out_calls y.out_calls answer)
      → IfSome held (λ images. AreAgreed images → HasOneOutcome May (IsOne images) x y answer)
  shown_so IsOne held =
      map_some held (λ images. AreAgreed images → ShowsOutcome (IsOne images) x.text y.text x.out_calls y.out_calls answer)
      (λ images. AreAgreed images → HasOneOutcome May (IsOne images) x y answer)
      (λ images shows agreed. comes_shown May (IsOne images) x y answer same same_calls scarce (shows agreed))

-- reading keeps a rack
pub reads_keep : (old new : Seen) → OnlyReads old new → KeepsRack old new
reads_keep old new reads =
    let held : old.held ≡ new.held = sym (ap (λ (s : Seen). s.held) reads.same) in
    let unsynced : old.unsynced ≡ new.unsynced = sym (ap (λ (s : Seen). s.unsynced) reads.same) in
    let never : old.never_synced ≡ new.never_synced = sym (ap (λ (s : Seen). s.never_synced) reads.same) in
    record {
      same = reads.same ∙ (λ i. record old { held = held i; unsynced = unsynced i; never_synced = never i; account = new.account });
      later =
          reads.later;
      same_shut = reads.same_shut;
    }

-- what lies behind the answer of a command that only reads
pub only_reads : (command : Command) → (old new : Seen) (answer : Answer) → IsBehind (MayFail command) (TellsCause command) old new answer
    → IsBehindCommand command old new answer
only_reads command old new answer behind = record {
  keeps = reads_keep old new behind.reads;
  reads = λ none. behind.reads;
  held = λ is. ap (λ (s : Seen). s.held) behind.reads.same;
  image = λ slot is. inl (behind.image slot is);
  tree = λ fault is. (behind.reads, λ told. behind.tree fault is told);
  hidden = behind.hidden;
  no_usage = behind.no_usage;
  no_limit = behind.no_limit;
}

-- a scrub that is the one that writes does so
pub scrub_writes : (write : Bool) → Scrub write ≡ Scrub true → write ≡ true
scrub_writes write is = cc is

-- ---- a command performed

module _ {R T O : Type 0} (eyes : Eyes R T O) (words : Words) (old : Given R T O) (rack : R) (out : O) (answer : Answer) where
  -- a run of a command that calls no sink
  abbrev beside : Run R T O
  beside = record { eyes = eyes; words = words; old = old; new = record old { rack = rack; out = out }; answer = answer }

  -- the sink and the output before the command
  abbrev x : Outside
  x = outside_before beside

  -- the sink and the output behind the command
  abbrev y : Outside
  y = outside_behind beside

  module _ (command : Command) (stored : eyes.waits old.tree ≡ false) (scarce : x.out_calls.ample ≡ false → MayWant command words x.out_calls)
      (other : (query : Query) → command ≡ Ask query → ⊥) where
    -- the command may want memory
    abbrev May : Type 0
    May = MayWant command words x.out_calls

    -- what a command promises that puts one text
    pub shown : IfSteady (before beside).held (before beside).account (behind beside).account (λ images.
        ShowsOutcome (OrMemory (λ outcome. command_outcome command words images ≡ Some outcome)) x.text y.text x.out_calls y.out_calls answer)
        → ShowsOutcome (OrBare (MayCome command words)) x.text y.text x.out_calls y.out_calls answer
        → IfSome (before beside).held (λ images. AreAgreed images → ShowsOutcome
        (ComesAgreed command words images) x.text y.text x.out_calls y.out_calls answer)
        → IsBehindCommand command (before beside) (behind beside) answer
        → (command ≡ Scrub true → LeavesScrubbed (before beside) (behind beside) answer)
        → IsPerformed beside command
    shown effect told agreed cause leaves = record {
      effect = shown_effect May x y scarce refl refl answer (λ images outcome. command_outcome command words images ≡ Some outcome) (before beside).held
          (before beside).account (behind beside).account effect;
      told = shown_told May x y scarce refl refl answer (MayCome command words) told;
      order = λ number plan is. absurd (other (Restore number plan) is);
      agreed = shown_so May x y scarce refl refl answer (ComesAgreed command words) (before beside).held agreed;
      stored = λ undone no_sink. stored;
      alone = λ never. refl;
      cause = cause;
      leaves = leaves;
    }

-- what is told of a command whatever its images hold is told of images that agree
pub so_too : (held : Option Images) (P : Type 0) → P → IfSome held (λ images. AreAgreed images → P)
so_too None P p = tt
so_too (Some images) P p = λ agreed. p

-- a query that was done: its row, and what stands beside it
pub asked : {R T O : Type 0} (run : Run R T O) (query : Query)
    → IsRowDone (query_row query run.words) (before run) (behind run) (outside_before run) (outside_behind run) run.answer
    → ((number : ℕ) (plan : RestorePlan) → query ≡ Restore number plan → IfSome (before run).held
    (λ images. InOrder plan (get_or run.words number []) images (before run) (behind run) (outside_before run) (outside_behind run) run.answer))
    → IsStored (run.eyes.waits run.new.tree) run.answer → (((query_row query run.words).CallsSink → ⊥) → run.new.tree ≡ run.old.tree)
    → IsAsked run query
asked run query done order stored alone = record { done = done; order = order; stored = stored; alone = alone }

-- what a row comes to, as what a command comes to
module _ {R T O : Type 0} (run : Run R T O) (command : Command) (row : Row)
    (comes_to : (images : Images) → command_outcome command run.words images ≡ Some (row_outcome row images)) where
  -- where no call failed, what the row comes to is what the command comes to
  row_effect : IfSteady (before run).held (before run).account (behind run).account (λ images.
      HasOneOutcome (row.MayWant (outside_before run).out_calls) (OrMemory (λ outcome. row_outcome row images ≡ outcome))
      (outside_before run) (outside_behind run) run.answer)
      → IfSteady (before run).held (before run).account (behind run).account (λ images.
      HasOneOutcome (row.MayWant (outside_before run).out_calls) (OrMemory (λ outcome. command_outcome command run.words images ≡ Some outcome))
      (outside_before run) (outside_behind run) run.answer)
  row_effect = map_some (before run).held _ _ (λ images comes steady.
      comes_also (row.MayWant (outside_before run).out_calls) (row.MayWant (outside_before run).out_calls)
      (OrMemory (λ outcome. row_outcome row images ≡ outcome)) (OrMemory (λ outcome. command_outcome command run.words images ≡ Some outcome))
      (outside_before run) (outside_behind run) run.answer (λ may. may)
      (λ outcome one. ⊎_elim (λ is. inl (comes_to images ∙ ap (λ o. Some o) is)) (λ want. inr want) one) (comes steady))

-- a query, as a command
pub query_performed : {R T O : Type 0} (run : Run R T O) (query : Query) → IsAsked run query → IsPerformed run (Ask query)
query_performed run query asks = record {
  effect = row_effect run (Ask query) (query_row query run.words) (λ images. refl) asks.done.effect;
  told = asks.done.told;
  order = λ number plan is. asks.order number plan (cc is);
  agreed = asks.done.agreed;
  stored = asks.stored;
  alone = asks.alone;
  cause = only_reads (Ask query) (before run) (behind run) run.answer asks.done.cause;
  leaves = λ is. absurd (cc is);
}

-- the row by a word that a query cites
pub by_word : (row : List ℕ → Row) (old new : Seen) (x y : Outside) (answer : Answer) (word dest : List ℕ) → word ≡ dest → IsRowDone (row dest) old new x y
    answer
    → IsRowDone (row word) old new x y answer
by_word row old new x y answer word dest same done = subst (λ d. IsRowDone (row d) old new x y answer) (sym same) done

-- a restore: the order of its steps is told beside, and a dry one makes no call of the sink
module _ {R T O : Type 0} (run : Run R T O) (number : ℕ) (plan : RestorePlan) where
  -- a restore that can only be dry leaves the sink
  keeps_alone : (plan.dry ≡ true → run.new.tree ≡ run.old.tree) → (plan.dry ≡ false → ⊥) → run.new.tree ≡ run.old.tree
  keeps_alone dry never = dry (is_true plan.dry never)
    where
      is_true : (b : Bool) → (b ≡ false → ⊥) → b ≡ true
      is_true true never = refl
      is_true false never = absurd (never refl)

  -- the restore that the query asks for follows its journey, by the word that it cites
  its_order : (dest : List ℕ) → get_or run.words number [] ≡ dest
      → IfSome (before run).held (λ images. InOrder plan dest images (before run) (behind run) (outside_before run) (outside_behind run) run.answer)
      → (other : ℕ) (given : RestorePlan) → Restore number plan ≡ Restore other given
      → IfSome (before run).held (λ images. InOrder given (get_or run.words other []) images (before run) (behind run) (outside_before run) (outside_behind run)
      run.answer)
  its_order dest named order other given is = map_some (before run).held _ _ (λ images follows.
      subst (λ p. InOrder p (get_or run.words other []) images (before run) (behind run) (outside_before run) (outside_behind run) run.answer)
      (same_plan is)
      (subst (λ d. InOrder plan d images (before run) (behind run) (outside_before run) (outside_behind run) run.answer)
      (sym named ∙ ap (λ n. get_or run.words n []) (same_number is)) follows)) order
    where
      same_plan : Restore number plan ≡ Restore other given → plan ≡ given
      same_plan e = cc e

      same_number : Restore number plan ≡ Restore other given → number ≡ other
      same_number e = cc e

  -- a restore that was done is a query that was done
  pub restore_asked : (dest : List ℕ) → get_or run.words number [] ≡ dest
      → IsRowDone (restore_row plan dest) (before run) (behind run) (outside_before run) (outside_behind run) run.answer
      → IfSome (before run).held (λ images. InOrder plan dest images (before run) (behind run) (outside_before run) (outside_behind run) run.answer)
      → IsStored (run.eyes.waits run.new.tree) run.answer → (plan.dry ≡ true → run.new.tree ≡ run.old.tree)
      → IsAsked run (Restore number plan)
  restore_asked dest named done order stored dry =
      asked run (Restore number plan)
      (by_word (restore_row plan) (before run) (behind run) (outside_before run) (outside_behind run) run.answer (get_or run.words number []) dest named done)
      (its_order dest named order) stored (keeps_alone dry)
