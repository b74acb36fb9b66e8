-- What becomes of an entry, by what it comes to.
use Rattle.std.proofs.Common.{◌≡◌, ℕ, ◌<◌, Bool, true, false, cond, List, length, Option, Result, Ok, Err, refl, sym, ap, ◌∙◌, subst}
use Rattle.std.specs.Prelude.{nat_lt}
use Rattle.std.proofs.lemmas.Bool.{lt-ltb}
use Rattle.btr_items.specs.declared.inode.Inode.{Inode}
use Rattle.btr_prog.specs.Prog.{Return}
use Rattle.btr_rack.specs.Name.{is_bad}
use Rattle.btr_rack.specs.Rack.{Seen}
use Rattle.btr_super.specs.declared.superblock.Super.{Super}
use Rattle.btr_walk.specs.declared.fault.TreeFault.{TreeFault}
use Rattle.btr_volume.specs.Lookup.{Lookup, looks}
use Rattle.btr_volume.specs.declared.root.TreeRoot.{TreeRoot}
use Rattle.btr_volume.specs.declared.stop.Stop.{Stop as TheStop}
use Rattle.btr_volume.specs.declared.stop.Stop.TheVariants as stop
use Rattle.btr_volume.specs.declared.volume.Volume.{Volume}
use Rattle.btr_files.specs.declared.counts.Counts.{Counts}
use Rattle.btr_files.specs.Entries.{name_in}
use Rattle.btr_listing.specs.declared.cause.Cause.{Cause}
use Rattle.btr_listing.specs.declared.cause.Cause.TheVariants as cause
use Rattle.btr_listing.specs.declared.decision.Decision.{Decision}
use Rattle.btr_listing.specs.declared.decision.Decision.TheVariants as decision
use Rattle.btr_listing.specs.declared.entry.Entry.{Entry}
use Rattle.btr_listing.specs.declared.rules.Rules.{Rules}
use Rattle.btr_listing.specs.Causes.{cause_text}
use Rattle.btr_listing.specs.Deciding.{Met, decided, named_decided}
use Rattle.btr_listing.specs.Looked.{Looked, met_by}
use Rattle.btr_restore.specs.Journey.{Treated, skip}
use Rattle.btr_volume.specs.Readable.{CanRead}
use Rattle.btr_restore.specs.Running.{Outside, Ran, World, world}
use Rattle.btr_restore.proofs.Rans.{look_halt, look_then, ran_fault, ran_found}
use Rattle.btr_send.specs.Sending.{done_about, empty, entered, rules}
use Rattle.btr_send.specs.Treating.{done_for, overlong, treated_for, written_for}

module _ (sums : Option TreeRoot) (entry : Entry) (counts : Counts) (s : Super) where
  -- what is done about an entry, by a decision
  module _ (x y : World) (r : Result Treated TheStop) (found : Decision) where
    -- what a decision asks for was done about the entry
    abbrev Does : Decision → Type 0
    Does d = Ran (done_for sums entry d counts s) x y r

    -- what a decision asks for was done, so what the decision found asks for was done
    as_found : (d : Decision) → found ≡ d → Does d → Does found
    as_found d is h = subst Does (sym is) h

    -- where the entry is to be left out, its skip line was told
    pub done_skip : (cause : Cause) → found ≡ decision.Skip cause → Ran (skip (cause_text cause) entry.path.now counts) x y r → Does found
    done_skip cause is h = as_found (decision.Skip cause) is h

    -- where the entry is a file, the file was sent
    pub done_file : (inode : Inode) → found ≡ decision.File inode → Ran (written_for sums entry inode counts s) x y r → Does found
    done_file inode is h = as_found (decision.File inode) is h

    -- where the entry stays an empty directory, that was made
    pub done_empty : found ≡ decision.Empty → Ran (empty entry.path.now counts) x y r → Does found
    done_empty is h = as_found decision.Empty is h

    -- where the entry is a directory to be listed, it was entered
    pub done_folder : (inner : TreeRoot) (dirid : ℕ) → found ≡ decision.Folder inner dirid → Ran (entered entry.path.now inner dirid counts) x y r → Does found
    done_folder inner dirid is h = as_found (decision.Folder inner dirid) is h

  -- an entry, by what is looked up under the rules of send
  module _ (by : Rules) (of_send : by ≡ rules) (old : Seen) (vol : Volume) (same : s ≡ vol.sup) (new : Seen) (after : Volume)
      (x : Outside) (ready : CanRead 6 old vol) where
    -- what was looked up by the rules of the call was looked up by those of send
    as_rules : (r : Result Decision TreeFault) → Looked (decided by vol.sup (met_by entry)) old vol new after r
        → Looked (decided rules s (met_by entry)) old vol new after r
    as_rules r h =
        subst (λ (t : Super). Looked (decided rules t (met_by entry)) old vol new after r) (sym same)
        (subst (λ (k : Rules). Looked (decided k vol.sup (met_by entry)) old vol new after r) of_send h)

    -- where what the entry comes to could not be looked up, it is treated no further and stops for that fault
    pub treat_halts : (f : TreeFault) → Looked (decided by vol.sup (met_by entry)) old vol new after (Err f) → Ran (treated_for sums entry counts s)
        (world old vol x) (world new after x) (Err (stop.Tree f))
    treat_halts f h =
        look_halt (decided rules s (met_by entry)) (done_about s sums (met_by entry) counts)
        (world old vol x) (world new after x) (Err (stop.Tree f)) (stop.Tree f)
        (ran_fault (decided rules s (met_by entry)) old new vol after x f ready (as_rules (Err f) h)) refl

    -- what the entry comes to was looked up, and then what is done about it was done: so it was treated
    pub treat_then : (z : World) (found : Decision) (r : Result Treated TheStop) → Looked (decided by vol.sup (met_by entry)) old vol new after
        (Ok found) → Ran (done_for sums entry found counts s) (world new after x) z r → Ran (treated_for sums entry counts s) (world old vol x) z r
    treat_then z found r h g =
        look_then (decided rules s (met_by entry)) (done_about s sums (met_by entry) counts)
        (world old vol x) (world new after x) (Ok found) z found r
        (ran_found (decided rules s (met_by entry)) old new vol after x found ready (as_rules (Ok found) h)) refl g

-- an entry with too long a path is left out without a lookup
module _ (s : Super) (met : Met) where
  -- the entry is left out for a cause, without a lookup
  abbrev left_out : Cause → Lookup Decision
  left_out cause = Return (decision.Skip cause)

  -- where the path is too long, the entry is left out for it, whatever else would be looked up
  if_long : (b : Bool) (p : Lookup Decision) → b ≡ true → cond b (left_out cause.Path) p ≡ left_out cause.Path
  if_long true p e = refl
  if_long false p e = absurd (cc e)

  -- an entry that is left out for its path is left out for its name instead, if that is bad
  if_bad : (b : Bool) (p : Lookup Decision) → p ≡ left_out cause.Path → cond b (left_out cause.Name) p ≡ left_out (cond b cause.Name cause.Path)
  if_bad true p e = refl
  if_bad false p e = e

  -- an entry with too long a path is left out, for its name if that is bad
  long_decided : 4096 < length met.path → decided rules s met ≡ left_out (overlong met.entry.name)
  long_decided h = if_bad (is_bad met.entry.name) (named_decided rules s met) (if_long (nat_lt 4096 (length met.path)) _ (lt-ltb 4096 (length met.path) h))

-- where the path is too long, the skip line is all that is done about the entry
pub treat_long : (sums : Option TreeRoot) (entry : Entry) (counts : Counts) (s : Super) (name : List ℕ) (cause : Cause) (x y : World)
    (r : Result Treated TheStop)
    → 4096 < length entry.path.now → name ≡ name_in entry.name.now → cause ≡ overlong name
    → Ran (skip (cause_text cause) entry.path.now counts) x y r → Ran (treated_for sums entry counts s) x y r
treat_long sums entry counts s name cause x y r long named is h =
    subst (λ (p : Lookup Decision). Ran (looks p (done_about s sums (met_by entry) counts)) x y r) (sym (long_decided s (met_by entry) long))
    (subst (λ (c : Cause). Ran (skip (cause_text c) entry.path.now counts) x y r) (is ∙ ap overlong named) h)
