-- What doing what the words say comes to, by the step that ended it.
use Rattle.std.proofs.Common.{◌≡◌, ◌≢◌, inl, inr, ⊎_elim, true, false, ltb, cond, ℕ, ◌<◌, ◌≤◌, ◌-◌, List, [], length, map, take, drop, String, Option, Some}
use Rattle.std.proofs.Common.{None, refl, sym, ap, ◌∙◌, arith}
use Rattle.std.specs.Option.{IfSome, option_and_then}
use Rattle.std.specs.String.{string_bytes}
use Rattle.std.specs.declared.alloc.Global.{Global}
use Rattle.std.proofs.lemmas.Bool.{cases_lt}
use Rattle.std.proofs.lemmas.Bool.Decides.{nat_tests}
use Rattle.std.proofs.lemmas.List.{drop-map, take_rest}
use Rattle.btr_rack.specs.Rack.{Seen, Slot, Steady, Shelf}
use Rattle.btr_restore.specs.Running.{Outside}
use Rattle.btr_run.specs.Agreeing.{ComesAgreed, FollowsAgreed}
use Rattle.btr_run.specs.Answers.{error_line}
use Rattle.btr_run.specs.Causes.{IsBehindWords}
use Rattle.btr_run.specs.Commands.{command_outcome}
use Rattle.btr_run.specs.Effects.{FollowsWords, IsDecided, IsOutcome, MayFollow, MayWantBy, images_outcome}
use Rattle.btr_run.specs.Images.{most_images, taken}
use Rattle.btr_run.specs.Opening.{opening_answer}
use Rattle.btr_run.specs.Order.{FollowsOrder}
use Rattle.btr_run.specs.Outcomes.{refused, HasOneOutcome, IsNoFault, OrBare, OrMemory}
use Rattle.btr_run.specs.Checked.{found}
use Rattle.btr_run.specs.Repaired.{AsksToWrite, KeepsRepair, LeavesImages}
use Rattle.btr_run.specs.Scrubbed.{mending_writes}
use Rattle.btr_run.specs.Unopened.{IsUnopened}
use Rattle.btr_run.specs.Words.{Words, IsUsageAt}
use Rattle.btr_run.specs.declared.plan.Command.{Command}
use Rattle.btr_run.specs.declared.plan.Command.TheVariants.{Super, Ask, Check, Scrub, SelfTest}
use Rattle.btr_run.specs.declared.opening.OpeningFault.{OpeningFault}
use Rattle.btr_run.specs.declared.opening.OpeningFault.TheVariants.{TooMany, Failed, Memory as memory_fault}
use Rattle.btr_volume.specs.declared.which.Which.TheVariants.{Images as images_limit}
use Rattle.btr_run.specs.declared.answer.Answer.{Answer}
use Rattle.btr_run.specs.declared.answer.Answer.TheVariants.{Usage, Limit, SinkFault, OutFault, Memory}
use Rattle.btr_run.proofs.Causing.{none_failed_yet}
use Rattle.btr_run.proofs.Coming.{comes_bare}
use Rattle.btr_run.proofs.Faulting.{no_tree, tree_in}
use Rattle.btr_run.proofs.Openings.{Images}

-- a clause on what may be told
pub all_told : {X : Type 0} (o : Option X) (Q : X → Type 0) → ((x : X) → Q x) → IfSome o Q
all_told None Q f = tt
all_told (Some x) Q f = f x

-- the names of the images, as a part of the words
pub names_are : (xs : List (String Global)) (k : ℕ) → drop k (map string_bytes xs) ≡ map string_bytes (take (length xs - k) (drop k xs))
names_are xs k = drop-map string_bytes k xs ∙ ap (map string_bytes) (sym (take_rest xs k))

-- words go wrong at one place only
usage_once : (words : Words) (at other : ℕ) → IsUsageAt words at → IsUsageAt words other → at ≡ other
usage_once words at other a b = of (le at other a b) (le other at b a)
  where
    of : at ≤ other → other ≤ at → at ≡ other
    of x y = omega arith

    le : (i j : ℕ) → IsUsageAt words i → IsUsageAt words j → i ≤ j
    le i j x y = ⊎_elim (λ past. absurd (y.longest i past x.within x.begins)) (λ le. le) (cases_lt j i)

-- images that are as they were
pub as_they_were : (unfailing : Type 0) (images left : Images) (answer : Answer) → ((lost : ℕ) → answer ≢ found lost) → left ≡ images
    → LeavesImages unfailing images left answer
as_they_were unfailing images left answer other same = record {
  stopped = λ sure. record { before = []; behind = mending_writes images; place = refl; stands = inl same };
  finished = λ lost e sure. absurd (other lost e);
  unchanged = inl same;
  safe = λ sure. inl same;
}

-- images that were opened and not written are as they were, where the shelf and the rack tell them
pub as_opened : (unfailing : Type 0) (shelf : Option Shelf) (held : Option Images) (slots : List Slot) (answer : Answer) → ((lost : ℕ) → answer ≢ found lost)
    → IfSome shelf (λ at. IfSome held (λ images. taken (map (λ s. s.name) slots) at ≡ Some images))
    → IfSome shelf (λ at. IfSome held (λ left. (images : Images) × (taken (map (λ s. s.name) slots) at ≡ Some images)
    × LeavesImages unfailing images left answer))
as_opened unfailing None held slots answer other opens = tt
as_opened unfailing (Some at) None slots answer other opens = tt
as_opened unfailing (Some at) (Some images) slots answer other opens = (images, opens, as_they_were unfailing images images answer other refl)

-- what is answered before anything is put is one of the answers of each command over images that agree
pub agreed_before : (command : Command) (words : Words) (images : Images) (answer : Answer) → error_line answer ≢ [] → IsUnopened images (refused answer)
    → ComesAgreed command words images (refused answer)
agreed_before Super words images answer line unread = inr (refl, line)
agreed_before (Ask query) words images answer line unread = inr (inr unread)
agreed_before (Check read_data) words images answer line unread = inl (inr unread)
agreed_before (Scrub write) words images answer line unread = inl (inr unread)
agreed_before (SelfTest number) words images answer line unread = inr (refl, line)

-- words that are no sentence
module _ (words : Words) (at : ℕ) (usage : IsUsageAt words at) where
  -- a usage error is no fault of the output or of the sink
  usage_no_fault : IsNoFault (Usage at)
  usage_no_fault = record { no_out = λ e. cc; no_sink = λ e. cc }

  -- words that are no sentence come to their usage error, before anything is put
  pub usage_effect : (shelf : Option Shelf) (old new : ℕ) (x : Outside) → IfSome shelf
      (λ s. Steady old new → HasOneOutcome (MayWantBy words x.out_calls) (OrMemory (IsOutcome words s)) x x (Usage at))
  usage_effect shelf old new x =
      all_told shelf _ (λ s steady. comes_bare (MayWantBy words x.out_calls) (OrMemory (IsOutcome words s)) x (Usage at)
      (inl (inl (at, usage, refl))) usage_no_fault)

  -- their usage error is a refusal before anything else, which needs nothing of the images
  pub usage_told : (x : Outside) → HasOneOutcome (MayWantBy words x.out_calls) (OrBare (MayFollow words)) x x (Usage at)
  usage_told x = comes_bare (MayWantBy words x.out_calls) (OrBare (MayFollow words)) x (Usage at) (inr (refl, λ e. cc)) usage_no_fault

  -- they ask for no restore, which would follow its order
  pub usage_order : (shelf : Option Shelf) (old new : Seen) (x : Outside) → IfSome shelf (λ s. FollowsOrder words s old new x x (Usage at))
  usage_order shelf old new x = all_told shelf _ (λ s plan dest images from. absurd (usage.no_sentence _ from.sentence))

  -- they ask for no command over images that agree
  pub usage_agreed : (shelf : Option Shelf) (x : Outside) → IfSome shelf (λ s. FollowsAgreed words s x x (Usage at))
  usage_agreed shelf x = all_told shelf _ (λ s plan images asks. absurd (usage.no_sentence _ asks.sentence))

  -- they ask for no scrub, which would keep its repair
  pub usage_repaired : (shelf : Option Shelf) (steady : Type 0) (held : Option Images) → IfSome shelf
      (λ s. steady → Usage at ≢ Memory → KeepsRepair words s held)
  usage_repaired shelf steady held = all_told shelf _ (λ s unfailing enough images from. absurd (usage.no_sentence _ from.sentence))

  -- they don't ask to write into images
  pub usage_left : AsksToWrite words → ⊥
  usage_left asks = usage.no_sentence asks.0 asks.1

  -- they decide no answer but their own usage error
  pub usage_decided : (answer : Answer) → IsDecided words answer → Usage at ≡ answer
  usage_decided answer decided =
      ⊎_elim (λ other. ap (λ k. Usage k) (usage_once words at other.0 usage other.1) ∙ sym other.2) (λ many. absurd (usage.no_sentence many.0 many.1)) decided

  -- their usage error is one that the words alone decide
  pub usage_stated : FollowsWords words (Usage at)
  usage_stated = record { usage = λ other is. inl (at, usage, refl); limit = λ n is. absurd (cc is) }

  -- behind their usage error the rack is as it was, and no call failed
  pub usage_cause : (seen : Seen) → IsBehindWords words seen seen (Usage at)
  usage_cause seen = record {
    image = λ slot is. absurd (cc is);
    shut = λ more. absurd (omega (arith, more));
    hidden = inl (none_failed_yet seen.account);
    sure = λ slot is. absurd (cc is);
    tree = λ fault e. absurd (no_tree (Usage at) refl fault e);
  }

-- each fault of opening the images has a line
pub opening_line : (fault : OpeningFault) → error_line (opening_answer fault) ≢ []
opening_line (TooMany count) e = cc
opening_line (Failed slot) e = cc
opening_line memory_fault e = cc

opening_no_out : (fault : OpeningFault) → opening_answer fault ≢ OutFault
opening_no_out (TooMany count) e = cc
opening_no_out (Failed slot) e = cc
opening_no_out memory_fault e = cc

opening_no_sink : (fault : OpeningFault) → opening_answer fault ≢ SinkFault
opening_no_sink (TooMany count) e = cc
opening_no_sink (Failed slot) e = cc
opening_no_sink memory_fault e = cc

-- no fault of opening the images is answered as one of the output or of the sink
pub opening_no_fault : (fault : OpeningFault) → IsNoFault (opening_answer fault)
opening_no_fault fault = record { no_out = opening_no_out fault; no_sink = opening_no_sink fault }

-- no fault of opening the images is answered as a fault of a tree
pub opening_no_tree : (fault : OpeningFault) → tree_in (opening_answer fault) ≡ None
opening_no_tree (TooMany count) = refl
opening_no_tree (Failed slot) = refl
opening_no_tree memory_fault = refl

-- a number that is at most another isn't above it, by the test
pub few : (n m : ℕ) → n ≤ m → ltb m n ≡ false
few n m le = grind (arith, nat_tests)

-- a number above another is so by the test
too_many : (n m : ℕ) → m < n → ltb m n ≡ true
too_many n m lt = grind (arith, nat_tests)

-- too many images
pub limit_outcome : (command : Command) (words names : Words) (shelf : Shelf) → most_images < length names
    → images_outcome command words names shelf ≡ Some (refused (Limit images_limit (length names)))
limit_outcome command words names shelf lt =
    ap (λ b. cond b (Some (refused (Limit images_limit (length names)))) (option_and_then (command_outcome command words) (taken names shelf)))
    (too_many (length names) most_images lt)

-- images that were taken from the shelf
pub taken_outcome : (command : Command) (words names : Words) (shelf : Shelf) (images : Images) → length names ≤ most_images → taken names shelf ≡ Some images
    → images_outcome command words names shelf ≡ command_outcome command words images
taken_outcome command words names shelf images le opened =
    ap (λ b. cond b (Some (refused (Limit images_limit (length names)))) (option_and_then (command_outcome command words) (taken names shelf)))
    (few (length names) most_images le)
    ∙ ap (option_and_then (command_outcome command words)) opened
