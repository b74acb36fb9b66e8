-- What `super` comes to, by what reading the superblocks found.
use Rattle.std.proofs.Common.{◌≡◌, ◌≢◌, ℕ, ◌<◌, List, length, get_or, Option, Some, None, Result, Ok, Err, inl, inr, refl, sym, ap, ◌∙◌, subst, arith}
use Rattle.std.specs.Option.{IfSome, option_map}
use Rattle.std.specs.declared.alloc.Global.{Global}
use Rattle.std.specs.Prelude.{Vec}
use Rattle.btr_rack.specs.Rack.{Seen, Account, Steady, NoneFailed, OnlyCounts, OnlyReads}
use Rattle.btr_rack.specs.Out.{CallAccount, Puts, Counts}
use Rattle.btr_rack.specs.declared.error.SinkError.{SinkError}
use Rattle.btr_rack.specs.declared.error.SinkError.TheVariants.{Failed as failed_fault, Memory as memory_fault}
use Rattle.btr_super.specs.Newest.{newest_index}
use Rattle.btr_super.specs.declared.superblock.Super.{Super}
use Rattle.btr_run.specs.Behind.{AnyFault, IsBehind}
use Rattle.btr_run.specs.Newest.{shown, newest_shown, super_outcome, IsSuperOutcome}
use Rattle.btr_run.specs.Faults.{open_answer}
use Rattle.btr_run.specs.Outcomes.{Outcome, due_after, refused, showing, ShowsOutcome, OrBare, OrMemory}
use Rattle.btr_run.specs.Text.{super_text}
use Rattle.btr_run.specs.declared.answer.Answer.{Answer}
use Rattle.btr_volume.specs.Opening.{IsLimited, ReadsSupers, SuperUnread, SupersCause}
use Rattle.btr_volume.specs.Start.{supers_from}
use Rattle.btr_volume.specs.declared.fault.OpenFault.{OpenFault}
use Rattle.btr_volume.specs.declared.fault.OpenFault.TheVariants as opening
use Rattle.btr_volume.specs.declared.which.Which.{Which}
use Rattle.btr_volume.specs.declared.which.Which.TheVariants.{Images as images_limit, Stripes as stripes_limit, Chunks as chunks_limit}
use Rattle.btr_run.specs.declared.answer.Answer.TheVariants.{Done, Usage, Limit, ImageFault}
use Rattle.btr_run.proofs.Coming.{shows_bare}
use Rattle.btr_run.proofs.Faulting.{tree_in, untold}
use Rattle.btr_run.proofs.Refusals.{open_line, open_no_fault, open_no_usage}
use Rattle.btr_run.proofs.Openings.{Images}
use Rattle.btr_read.proofs.Compared.{steady_not_rose}
use Rattle.btr_volume.proofs.Opened.{newest_at}

-- the newest is what is shown
pub shown_is : (images : Images) (supers : List Super) (slot : ℕ) (s : Super) → supers_from 0 images ≡ Ok supers → newest_index supers ≡ slot
    → slot < length supers → s ≡ get_or supers slot s → super_outcome images ≡ Some (showing (shown slot s))
shown_is images supers slot s read index lt is =
    ap newest_shown read
    ∙ ap (option_map (λ x. showing (shown (newest_index supers) x))) (newest_at supers slot s index lt is)
    ∙ ap (λ k. Some (showing (shown k s))) index

-- the text of a superblock was put, wholly or in part
module _ (slot : ℕ) (s : Super) (old new : Option (List ℕ)) (before after : CallAccount) (put : Result Unit SinkError)
    (puts : Puts old new (super_text slot s) put) (counts : Counts before after put) (result : Answer) (due : result ≡ due_after put (Done 0)) where
  -- the text of the superblock was shown, or a first part of it, as one of some outcomes
  shows : (IsOne : Outcome → Type 0) → IsOne (showing (shown slot s)) → ShowsOutcome IsOne old new before after result
  shows IsOne is_one = record {
    shown = shown slot s;
    is_one = is_one;
    no_fault = record { no_out = λ e. cc; no_sink = λ e. cc };
    put = record
        { put = put; puts = puts; counts = counts; due = due };
  }

  -- whatever failed, some superblock was shown
  pub shown_told : ShowsOutcome (OrBare IsSuperOutcome) old new before after result
  shown_told = shows (OrBare IsSuperOutcome) (inl (slot, s, refl))

-- and it is that of the newest
pub shown_effect : (old new : Account) (held : Option Images) (supers : List Super) (slot : ℕ) (s : Super)
    → IfSome held (λ images. supers_from 0 images ≡ Ok supers) → newest_index supers ≡ slot → slot < length supers → s ≡ get_or supers slot s
    → (texts texts' : Option (List ℕ)) (before after : CallAccount) (put : Result Unit SinkError) → Puts texts texts' (super_text slot s) put
    → Counts before after put → (result : Answer) → result ≡ due_after put (Done 0)
    → IfSome held (λ images. Steady old.faults new.faults → ShowsOutcome (OrMemory (λ outcome. super_outcome images ≡ Some outcome)) texts texts' before after
    result)
shown_effect old new None supers slot s read index lt is texts texts' before after put puts counts result due = tt
shown_effect old new (Some images) supers slot s read index lt is texts texts' before after put puts counts result due = λ steady.
    shows slot s texts texts' before after put puts counts result due (OrMemory (λ outcome. super_outcome images ≡ Some outcome))
    (inl (shown_is images supers slot s read index lt is))

-- what `super` comes to where there are no superblocks
refusal_comes : (images : Images) (old new : Seen) (text : Option (List ℕ)) (account : CallAccount) (refusal : OpenFault)
    → SupersCause {T = Vec Super Global} old new (Err refusal) → ReadsSupers images (Err refusal) → Steady old.account.faults new.account.faults
    → ShowsOutcome (OrMemory (λ outcome. super_outcome images ≡ Some outcome)) text text account account (open_answer refusal)
refusal_comes images old new text account refusal cause read steady = shows_bare _ text account (open_answer refusal) (of refusal cause read)
    (open_no_fault refusal)
  where
    of : (r : OpenFault) → SupersCause {T = Vec Super Global} old new (Err r) → ReadsSupers images (Err r)
        → OrMemory (λ outcome. super_outcome images ≡ Some outcome) (refused (open_answer r))
    of (opening.ImageFault slot) cause read = absurd (steady_not_rose old.account.faults new.account.faults steady cause.faults)
    of opening.Memory cause read = inr refl
    of (opening.Tree f) cause read = absurd cause
    of refusal cause read = inl (ap newest_shown read)

-- reading superblocks only reads
pub supers_read : {T : Type 0} (old new : Seen) (r : Result T OpenFault) → OnlyCounts old new → SupersCause old new r → OnlyReads old new
supers_read {T} old new r same cause = of r cause
  where
    unfailing : NoneFailed old.account new.account → OnlyReads old new
    unfailing none = record { same = same; later = omega (arith, none.faults); same_shut = none.shut }

    of : (r : Result T OpenFault) → SupersCause old new r → OnlyReads old new
    of (Ok x) cause = unfailing cause
    of (Err (opening.ImageFault slot)) cause = record { same = same; later = cause.faults.0; same_shut = cause.shut }
    of (Err (opening.Limit which n)) cause = unfailing cause.1
    of (Err (opening.Tree f)) cause = absurd cause
    of (Err refusal) cause = unfailing cause

-- where there are no superblocks
module _ (old new : Seen) (refusal : OpenFault) (cause : SupersCause {T = Vec Super Global} old new (Err refusal)) where
  -- where no call failed, the answer is what `super` comes to over the images, or memory was wanted
  pub refusal_effect : (held : Option Images) (text : Option (List ℕ)) (account : CallAccount) (result : Answer) → result ≡ open_answer refusal
      → IfSome held (λ images. ReadsSupers images (Err refusal))
      → IfSome held (λ images. Steady old.account.faults new.account.faults → ShowsOutcome
      (OrMemory (λ outcome. super_outcome images ≡ Some outcome)) text text account account result)
  refusal_effect None text account result is read = tt
  refusal_effect (Some images) text account result is read = λ steady.
      subst (λ a. ShowsOutcome (OrMemory (λ outcome. super_outcome images ≡ Some outcome)) text text account account a) (sym is)
      (refusal_comes images old new text account refusal cause read steady)

  -- whatever failed, the answer is a refusal before anything else
  pub refusal_told : (IsOne : Outcome → Type 0) (text : Option (List ℕ)) (account : CallAccount) (result : Answer) → result ≡ open_answer refusal
      → ShowsOutcome (OrBare IsOne) text text account account result
  refusal_told IsOne text account result is = subst (λ a. ShowsOutcome (OrBare IsOne) text text account account a) (sym is)
      (shows_bare (OrBare IsOne) text account (open_answer refusal) (inr (refl, open_line refusal)) (open_no_fault refusal))

  -- the images were only read, and an image that is answered has its cause
  pub refusal_behind : (MayFail : Answer → Type 0) (result : Answer) → result ≡ open_answer refusal → OnlyCounts old new
      → IsBehind MayFail AnyFault old new result
  refusal_behind MayFail result is same = subst (IsBehind MayFail AnyFault old new) (sym is) (of refusal cause)
    where
      reads : OnlyReads old new
      reads = supers_read {T = Vec Super Global} old new (Err refusal) same cause

      -- a refusal by the superblocks, where no call failed
      unfailing : (r : OpenFault) → NoneFailed old.account new.account → tree_in (open_answer r) ≡ None → ((slot : ℕ) → open_answer r ≢ ImageFault slot)
          → ((n : ℕ) → open_answer r ≢ Limit images_limit n) → IsBehind MayFail AnyFault old new (open_answer r)
      unfailing r none no_tree no_image no_limit =
          record {
            reads = reads;
            image = λ slot e. absurd (no_image slot e);
            tree = untold old new (open_answer r) no_tree;
            hidden = inl none;
            no_usage =
                open_no_usage r;
            no_limit = no_limit;
          }

      -- too many stripes or chunks aren't too many images
      counted : (which : Which) (n m : ℕ) → IsLimited which → open_answer (opening.Limit which n) ≢ Limit images_limit m
      counted images_limit n m counts e = counts
      counted stripes_limit n m counts e = cc
      counted chunks_limit n m counts e = cc

      of : (r : OpenFault) → SupersCause {T = Vec Super Global} old new (Err r) → IsBehind MayFail AnyFault old new (open_answer r)
      of (opening.ImageFault slot) cause = record {
        reads = reads;
        image = λ other e. subst (SuperUnread old new) (cc e) cause;
        tree = untold old new (ImageFault slot) refl;
        hidden = inr (inl (inl (slot, refl)));
        no_usage = open_no_usage (opening.ImageFault slot);
        no_limit = λ n e. cc;
      }
      of opening.Memory none = unfailing opening.Memory none refl (λ slot e. cc) (λ n e. cc)
      of (opening.NoSuper slot) none = unfailing (opening.NoSuper slot) none refl (λ other e. cc) (λ n e. cc)
      of (opening.SumKind kind) none = unfailing (opening.SumKind kind) none refl (λ other e. cc) (λ n e. cc)
      of (opening.Foreign slot) none = unfailing (opening.Foreign slot) none refl (λ other e. cc) (λ n e. cc)
      of (opening.Twin slot) none = unfailing (opening.Twin slot) none refl (λ other e. cc) (λ n e. cc)
      of (opening.Diverged slot) none = unfailing (opening.Diverged slot) none refl (λ other e. cc) (λ n e. cc)
      of (opening.Unsupported bits) none = unfailing (opening.Unsupported bits) none refl (λ other e. cc) (λ n e. cc)
      of opening.Geometry none = unfailing opening.Geometry none refl (λ other e. cc) (λ n e. cc)
      of opening.LogPending none = unfailing opening.LogPending none refl (λ other e. cc) (λ n e. cc)
      of opening.BadArray none = unfailing opening.BadArray none refl (λ other e. cc) (λ n e. cc)
      of (opening.BadChunk start) none = unfailing (opening.BadChunk start) none refl (λ other e. cc) (λ n e. cc)
      of (opening.Limit which n) cause = unfailing (opening.Limit which n) cause.1 refl (λ other e. cc) (λ m. counted which n m cause.0)
      of (opening.Tree f) cause = absurd cause

-- where a superblock's text was put, wholly or in part
pub shown_behind : (MayFail : Answer → Type 0) (old new : Seen) (put : Result Unit SinkError) → OnlyReads old new → NoneFailed old.account new.account
    → (result : Answer) → result ≡ due_after put (Done 0)
    → IsBehind MayFail AnyFault old new result
shown_behind MayFail old new put reads none result due = subst (IsBehind MayFail AnyFault old new) (sym due) (record {
  reads = reads;
  image = λ slot is. absurd (no_image put slot is);
  tree = untold old new (due_after put (Done 0)) (put_no_tree put);
  hidden = inl none;
  no_usage = no_usage put;
  no_limit = no_limit put;
})
  where
    put_no_tree : (r : Result Unit SinkError) → tree_in (due_after r (Done 0)) ≡ None
    put_no_tree (Ok x) = refl
    put_no_tree (Err failed_fault) = refl
    put_no_tree (Err memory_fault) = refl

    no_image : (r : Result Unit SinkError) (slot : ℕ) → due_after r (Done 0) ≢ ImageFault slot
    no_image (Ok x) slot is = cc
    no_image (Err failed_fault) slot is = cc
    no_image (Err memory_fault) slot is = cc

    no_usage : (r : Result Unit SinkError) (at : ℕ) → due_after r (Done 0) ≢ Usage at
    no_usage (Ok x) slot is = cc
    no_usage (Err failed_fault) slot is = cc
    no_usage (Err memory_fault) slot is = cc

    no_limit : (r : Result Unit SinkError) (n : ℕ) → due_after r (Done 0) ≢ Limit images_limit n
    no_limit (Ok x) slot is = cc
    no_limit (Err failed_fault) slot is = cc
    no_limit (Err memory_fault) slot is = cc
