-- What restore does about an entry, and in a directory: the steps are the same whatever was counted before.
use Rattle.std.proofs.Common.{◌≡◌, ℕ, zero, suc, Bool, true, false, cond, ◌||◌, List, [], ◌∷◌, ◌++◌, codes, Option, Result, Ok, Err, refl, sym, ap}
use Rattle.std.proofs.Common.{◌∙◌, subst, append-nil}
use Rattle.btr_items.specs.declared.inode.Inode.{Inode}
use Rattle.btr_prog.specs.Prog.{Return, Stop, Need, Emit, exec, bind, given, steps_of}
use Rattle.btr_prog.specs.Quiet.{quiet}
use Rattle.btr_prog.proofs.Quieting.{quiet_ends}
use Rattle.btr_read.specs.Fate.{Fault}
use Rattle.btr_super.specs.declared.superblock.Super.{Super}
use Rattle.btr_walk.specs.Reading.{Map}
use Rattle.btr_volume.specs.Lookup.{Program, each}
use Rattle.btr_volume.specs.declared.root.TreeRoot.{TreeRoot}
use Rattle.btr_files.specs.declared.counts.Counts.{Counts}
use Rattle.btr_files.specs.declared.plan.RestorePlan.{RestorePlan}
use Rattle.btr_files.specs.Entries.{DirEntry, entries}
use Rattle.btr_listing.specs.declared.decision.Decision.{Decision}
use Rattle.btr_listing.specs.declared.decision.Decision.TheVariants.{Skip, File, Empty, Folder}
use Rattle.btr_listing.specs.Causes.{cause_text}
use Rattle.btr_listing.specs.Deciding.{Met, decided, met_in, target}
use Rattle.btr_listing.specs.Lines.{line, skip_line, with_dir, with_file, with_skip}
use Rattle.btr_listing.specs.Step as step
use Rattle.btr_listing.specs.Step.{Step, Line}
use Rattle.btr_restore.specs.Journey.{closed, done_about, empty, entered, pieces, row, rules_of, told, unverified, written}
use Rattle.btr_restore.specs.Journey as journey
use Rattle.btr_salvage.specs.Left.{way_up}
use Rattle.btr_salvage.proofs.Endings.{Did, bind_value, did_first, did_quiet, did_then, did_unless, did_where, first_value, unless_ends}
use Rattle.btr_restore.proofs.Held.{same_value}

-- ---- what restore does about an entry, by any blocks and counts

module _ (plan : RestorePlan) (X : Map) where
  -- the line for what was entered or finished, if such lines are asked for
  abbrev telling : List ℕ → List ℕ → List Step
  telling word path = cond (plan.verbose || plan.dry) (Line (line word path) ∷ []) []

  -- the step, unless the run is dry
  abbrev pub unless_dry : Step → List Step
  unless_dry st = cond plan.dry [] (st ∷ [])

  -- the way up is one step, unless the run is dry
  pub up_did : {A : Type 0} (a : A) → Did X (row plan step.Up (Return a)) (way_up plan) (Ok a)
  up_did a = subst (λ l. Did X (row plan step.Up (Return a)) l (Ok a)) (append-nil (way_up plan))
      (did_unless X plan.dry step.Up (Return a) [] (Ok a) (refl, refl))

  -- a directory is entered by its step and its line, and one directory more is counted
  pub entered_did : (name path : List ℕ) (tree : TreeRoot) (dirid : ℕ) (counts : Counts)
      → Did X (entered plan name path tree dirid counts) (unless_dry (step.Dir name) ++ (telling (codes "dir") path ++ []))
      (Ok (journey.Within tree dirid (with_dir counts)))
  entered_did name path tree dirid counts =
      let inside : Program Step journey.Treated = Return (journey.Within tree dirid (with_dir counts)) in
      let w : Result journey.Treated Fault = Ok (journey.Within tree dirid (with_dir counts)) in
      did_unless X plan.dry (step.Dir name) (told plan (codes "dir") path inside) (telling (codes "dir") path ++ []) w
      (did_where X (plan.verbose || plan.dry) (Line (line (codes "dir") path)) inside [] w (refl, refl))

  -- a directory stays empty by its step, its line and the way up, and one directory more is counted
  pub empty_did : (name path : List ℕ) (counts : Counts)
      → Did X (empty plan name path counts) (unless_dry (step.Dir name) ++ (telling (codes "dir") path ++ (unless_dry step.Up ++ [])))
      (Ok (journey.Over (with_dir counts)))
  empty_did name path counts =
      let over : Program Step journey.Treated = Return (journey.Over (with_dir counts)) in
      let w : Result journey.Treated Fault = Ok (journey.Over (with_dir counts)) in
      did_unless X plan.dry (step.Dir name) (told plan (codes "dir") path (row plan step.Up over)) (telling (codes "dir") path ++ (unless_dry step.Up ++ [])) w
      (did_where X (plan.verbose || plan.dry) (Line (line (codes "dir") path)) (row plan step.Up over) (unless_dry step.Up ++ []) w
      (did_unless X plan.dry step.Up over [] w (refl, refl)))

  -- the steps at the end of a file: that it is done, its line, and the line of an unverified one
  abbrev pub closing : List ℕ → Bool → List Step
  closing path plain = unless_dry step.Done ++ (telling (codes "file") path ++ (cond plain (Line (line (codes "unverified") path) ∷ []) [] ++ []))

  -- the end of a file is these steps, and one file more is counted
  closed_did : (path : List ℕ) (counts : Counts) (plain : Bool) → Did X (closed plan path counts plain) (closing path plain)
      (Ok (journey.Over (with_file counts)))
  closed_did path counts plain =
      let over : Program Step journey.Treated = Return (journey.Over (with_file counts)) in
      let w : Result journey.Treated Fault = Ok (journey.Over (with_file counts)) in
      did_unless X plan.dry step.Done (told plan (codes "file") path (unverified plain path over))
      (telling (codes "file") path ++ (cond plain (Line (line (codes "unverified") path) ∷ []) [] ++ [])) w
      (did_where X (plan.verbose || plan.dry) (Line (line (codes "file") path)) (unverified plain path over)
      (cond plain (Line (line (codes "unverified") path) ∷ []) [] ++ []) w
      (did_where X plain (Line (line (codes "unverified") path)) over [] w (refl, refl)))

  module _ (s : Super) (sums : Option TreeRoot) (tree : TreeRoot) (ino : ℕ) (inode : Inode) where
    -- where its pieces come to their end a file is written: it is begun, its pieces are put, and it ends
    pub written_did : (name path : List ℕ) (counts : Counts) (plain : Bool) → (exec X (pieces plan s sums tree ino inode)).ending ≡ Ok plain
        → Did X (written plan s sums tree ino name path inode counts) (unless_dry (step.File name)
        ++ (steps_of (exec X (pieces plan s sums tree ino inode)).marks ++ closing path plain)) (Ok (journey.Over (with_file counts)))
    written_did name path counts plain e =
        let p = pieces plan s sums tree ino inode in
        did_unless X plan.dry (step.File name) (bind p (closed plan path counts)) (steps_of (exec X p).marks ++ closing path plain)
        (Ok (journey.Over (with_file counts)))
        (did_then X p (closed plan path counts) plain (steps_of (exec X p).marks) (closing path plain) (Ok (journey.Over (with_file counts))) (refl, e)
        (closed_did path counts plain))

    -- where a file was written to its end, its pieces came to theirs
    pub pieces_value : (name path : List ℕ) (counts : Counts) (t : journey.Treated)
        → (exec X (written plan s sums tree ino name path inode counts)).ending ≡ Ok t
        → (plain : Bool) × ((exec X (pieces plan s sums tree ino inode)).ending ≡ Ok plain)
    pieces_value name path counts t h =
        let v = bind_value X (pieces plan s sums tree ino inode) (closed plan path counts) t
        (unless_ends X plan.dry (step.File name) (bind (pieces plan s sums tree ino inode) (closed plan path counts)) (Ok t) h) in
        (v.0, v.1)

-- ---- whatever was counted before

module _ (C : Map) where
  -- a listing that comes to its end does so by the same steps, whatever was counted before
  abbrev pub Countless : (Counts → Program Step Counts) → Type 0
  Countless f =
      (c d e : Counts) → (exec C (f c)).ending ≡ Ok e → (e' : Counts) × Did C (f d) (steps_of (exec C (f c)).marks) (Ok e')

  -- so does a listing of each directory
  abbrev pub EachCountless : journey.Listing → Type 0
  EachCountless below = (tree : TreeRoot) (dirid : ℕ) (path : List ℕ) → Countless (below tree dirid path)

  -- a listing that lists nothing does no step, whatever was counted before
  pub nothing_free : EachCountless (λ tree dirid path counts. Return counts)
  nothing_free tree dirid path c d e h = (d, (refl, refl))

  -- so does what is done about each entry
  abbrev pub EntryCountless : (Counts → DirEntry → Program Step Counts) → Type 0
  EntryCountless treat = (entry : DirEntry) → Countless (λ counts. treat counts entry)

  module _ (treat : Counts → DirEntry → Program Step Counts) (free : EntryCountless treat) where
    -- entries that are treated to their end are so by the same steps, whatever was counted before
    pub each_free : (p : Program DirEntry (Unit {0})) → Countless (λ counts. each treat counts p)
    each_free (Return u) c d e h = (d, (refl, refl))
    each_free (Stop f) c d e h = absurd (cc h)
    each_free (Need w k) c d e h = by (C w) h (λ bytes g. each_free (k bytes) c d e g)
      where
        -- behind a block the steps are the same, whatever was counted before, if so for all bytes of it
        by : (x : Result (List ℕ) Fault) → (given x (λ bytes. exec C (each treat c (k bytes)))).ending ≡ Ok e
            → ((bytes : List ℕ) → (exec C (each treat c (k bytes))).ending ≡ Ok e
            → (e' : Counts) × Did C (each treat d (k bytes)) (steps_of (exec C (each treat c (k bytes))).marks) (Ok e'))
            → (e' : Counts)
            × ((steps_of (given x (λ bytes. exec C (each treat d (k bytes)))).marks ≡ steps_of (given x (λ bytes. exec C (each treat c (k bytes)))).marks)
            × ((given x (λ bytes. exec C (each treat d (k bytes)))).ending ≡ Ok e'))
        by (Ok bytes) h rest = rest bytes h
        by (Err f) h rest = absurd (cc h)
    each_free (Emit s p) c d e h =
        let after = first_value C treat c e s p h in
        let one = free s c d after.0 after.1 in
        let there = did_first C treat c after.0 s p after.1 in
        let here = did_first C treat d one.0 s p one.1.1 in
        let rest = each_free p after.0 one.0 e (sym there.1 ∙ h) in (
          rest.0,
          (
            here.0
                ∙ ap (λ l. l ++ steps_of (exec C (each treat one.0 p)).marks) one.1.0
                ∙ ap (λ l. steps_of (exec C (treat c s)).marks ++ l) rest.1.0
                ∙ sym there.0,
            here.1 ∙ rest.1.1,
          ),
        )

module _ (plan : RestorePlan) (s : Super) (sums : Option TreeRoot) (C : Map) where
  -- what was done about an entry, whatever was counted before: all, or what there is to do before what is in it is listed
  abbrev DoneSame : Met → Decision → journey.Treated → List Step → Type 0
  DoneSame met decision (journey.Over e) ss = (n : Counts) → (e' : Counts) × Did C (done_about plan s sums met n decision) ss (Ok (journey.Over e'))
  DoneSame met decision (journey.Within tree dirid e) ss =
      (n : Counts) → (e' : Counts) × Did C (done_about plan s sums met n decision) ss (Ok (journey.Within tree dirid e'))

  -- where an entry is treated wholly by some steps, whatever was counted before, these were done
  done_as : (met : Met) (decision : Decision) (c : Counts) (with_one : Counts → Counts) (t : journey.Treated) (ss : List Step)
      → (exec C (done_about plan s sums met c decision)).ending ≡ Ok t
      → ((n : Counts) → Did C (done_about plan s sums met n decision) ss (Ok (journey.Over (with_one n))))
      → DoneSame met decision t (steps_of (exec C (done_about plan s sums met c decision)).marks)
  done_as met decision c with_one t ss h did =
      let same = same_value (exec C (done_about plan s sums met c decision)).ending (journey.Over (with_one c)) t (did c).1 h in
      subst (λ x. DoneSame met decision x (steps_of (exec C (done_about plan s sums met c decision)).marks)) same
      (λ n. (with_one n, ((did n).0 ∙ sym (did c).0, (did n).1)))

  -- what is done about an entry to its end is the same, whatever was counted before
  done_same : (met : Met) (decision : Decision) (c : Counts) (t : journey.Treated) → (exec C (done_about plan s sums met c decision)).ending ≡ Ok t
      → DoneSame met decision t (steps_of (exec C (done_about plan s sums met c decision)).marks)
  done_same met (Skip cause) c t h =
      done_as met (Skip cause) c with_skip t (Line (skip_line (cause_text cause) met.path) ∷ []) h (λ n. (refl, refl))
  done_same met (File inode) c t h =
      let v = pieces_value plan C s sums met.tree (target met) inode met.entry.name met.path c t h in
      done_as met (File inode) c with_file t _ h (λ n. written_did plan C s sums met.tree (target met) inode met.entry.name met.path n v.0 v.1)
  done_same met Empty c t h =
      done_as met Empty c with_dir t _ h (empty_did plan C met.entry.name met.path)
  done_same met (Folder tree dirid) c t h =
      let did : (n : Counts) → Did C (done_about plan s sums met n (Folder tree dirid)) _ (Ok (journey.Within tree dirid (with_dir n))) =
      entered_did plan C met.entry.name met.path tree dirid in
      let same = same_value (exec C (done_about plan s sums met c (Folder tree dirid))).ending (journey.Within tree dirid (with_dir c)) t (did c).1 h in
      subst (λ x. DoneSame met (Folder tree dirid) x (steps_of (exec C (done_about plan s sums met c (Folder tree dirid))).marks)) same
      (λ n. (with_dir n, ((did n).0 ∙ sym (did c).0, (did n).1)))

  module _ (deep : Bool) (below : journey.Listing) (free : EachCountless C below) where
    module _ (tree : TreeRoot) (dirid : ℕ) (path : List ℕ) (entry : DirEntry) where
      -- the entry as it is met in its directory
      abbrev met : Met
      met = met_in deep tree dirid path entry

      -- the lookups that decide about the entry
      abbrev lookup : Program Step Decision
      lookup = quiet (decided (rules_of plan) s met)

      -- what restore does about the entry and in it
      abbrev whole : Counts → Program Step Counts
      whole counts = journey.treat plan s sums deep below tree dirid path counts entry

      -- an entry by its parts
      by_parts : (n e : Counts) (decision : Decision) (t : journey.Treated) (ss ts : List Step) → (exec C (decided (rules_of plan) s met)).ending ≡ Ok decision
          → Did C (done_about plan s sums met n decision) ss (Ok t) → Did C (journey.listed_in plan s sums below met.path t) ts (Ok e)
          → Did C (whole n) (ss ++ ts) (Ok e)
      by_parts n e decision t ss ts comes about inside =
          did_then C (journey.treated plan s sums met n) (journey.listed_in plan s sums below met.path) t ss ts (Ok e)
          (did_then C lookup (done_about plan s sums met n) decision [] ss (Ok t) (did_quiet C (decided (rules_of plan) s met) (Ok decision) comes) about)
          inside

      -- by what the entry came to, the steps about it and in it are the same, whatever was counted before
      by_treated : (c d e : Counts) (decision : Decision) (t : journey.Treated) → (exec C (decided (rules_of plan) s met)).ending ≡ Ok decision
          → (exec C (done_about plan s sums met c decision)).ending ≡ Ok t → (exec C (journey.listed_in plan s sums below met.path t)).ending ≡ Ok e
          → DoneSame met decision t (steps_of (exec C (done_about plan s sums met c decision)).marks)
          → (e' : Counts) × Did C (whole d) (steps_of (exec C (whole c)).marks) (Ok e')
      by_treated c d e decision (journey.Over x) comes about inside did =
          let ss = steps_of (exec C (done_about plan s sums met c decision)).marks in
          let there = by_parts c x decision (journey.Over x) ss [] comes (refl, about) (refl, refl) in
          let other = did d in
          let here = by_parts d other.0 decision (journey.Over other.0) ss [] comes other.1 (refl, refl) in
          (other.0, (here.0 ∙ sym there.0, here.1))
      by_treated c d e decision (journey.Within inner id x) comes about inside did =
          let ss = steps_of (exec C (done_about plan s sums met c decision)).marks in
          let up : Counts → Program Step Counts = λ after. row plan step.Up (Return after) in
          let v = bind_value C (below inner id met.path x) up e inside in
          let ts = steps_of (exec C (below inner id met.path x)).marks in
          let there = by_parts c v.0 decision (journey.Within inner id x) ss (ts ++ way_up plan) comes (refl, about)
          (did_then C (below inner id met.path x) up v.0 ts (way_up plan) (Ok v.0) (refl, v.1) (up_did plan C v.0)) in
          let other = did d in
          let inner_other = free inner id met.path x other.0 v.0 v.1 in
          let here = by_parts d inner_other.0 decision (journey.Within inner id other.0) ss (ts ++ way_up plan) comes other.1
          (did_then C (below inner id met.path other.0) up inner_other.0 ts (way_up plan) (Ok inner_other.0) inner_other.1 (up_did plan C inner_other.0)) in
          (inner_other.0, (here.0 ∙ sym there.0, here.1))

    -- an entry is treated to its end, with all that is in it, by the same steps, whatever was counted before
    pub treat_free : (tree : TreeRoot) (dirid : ℕ) (path : List ℕ) (entry : DirEntry)
        → Countless C (λ counts. journey.treat plan s sums deep below tree dirid path counts entry)
    treat_free tree dirid path entry c d e h =
        let m = met_in deep tree dirid path entry in
        let in_it = bind_value C (journey.treated plan s sums m c) (journey.listed_in plan s sums below m.path) e h in
        let about = bind_value C (quiet (decided (rules_of plan) s m)) (done_about plan s sums m c) in_it.0 in_it.1 in
        let comes = sym (quiet_ends Step C (decided (rules_of plan) s m)) ∙ about.1 in
        by_treated tree dirid path entry c d e about.0 in_it.0 comes about.2 in_it.2 (done_same m about.0 c in_it.0 about.2)

  -- a directory is listed to its end by the same steps, whatever was counted before
  pub directory_free : (n : ℕ) → EachCountless C (journey.directory plan s sums n)
  directory_free zero tree dirid path =
      let nothing : journey.Listing = λ tree dirid path counts. Return counts in
      each_free C (journey.treat plan s sums true nothing tree dirid path) (treat_free true nothing (nothing_free C) tree dirid path) (entries tree dirid)
  directory_free (suc n) tree dirid path =
      each_free C (journey.treat plan s sums false (journey.directory plan s sums n) tree dirid path)
      (treat_free false (journey.directory plan s sums n) (directory_free n) tree dirid path) (entries tree dirid)
