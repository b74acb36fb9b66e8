-- The steps of the journey are in order.
use Rattle.std.proofs.Common.{◌≡◌, ℕ, zero, suc, ◌+◌, ◌-◌, ◌<◌, Bool, true, false, cond, ◌||◌, List, [], Option, Some, None, Result, Ok, Err, refl, sym, ap}
use Rattle.std.proofs.Common.{◌∙◌, subst, arith}
use Rattle.std.specs.Prelude.{codes}
use Rattle.btr_items.specs.declared.inode.Inode.{Inode}
use Rattle.btr_chunk.specs.declared.chunk.Chunk.{Chunk}
use Rattle.btr_prog.specs.Prog.{Return, Emit, bind}
use Rattle.btr_prog.specs.Quiet.{quiet}
use Rattle.btr_prog.specs.Stages.{Early, Late, renamed, unless_refused}
use Rattle.btr_rack.specs.Name.{is_bad}
use Rattle.btr_rack.specs.Sink.{Sink, NotStarted, BetweenFiles, InFile}
use Rattle.btr_read.specs.Fate.{Fault}
use Rattle.btr_super.specs.declared.superblock.Super.{Super}
use Rattle.btr_volume.specs.declared.fault.OpenFault.{OpenFault}
use Rattle.btr_volume.specs.declared.root.TreeRoot.{TreeRoot}
use Rattle.btr_volume.specs.Lookup.{Program}
use Rattle.btr_volume.specs.Start.{Start}
use Rattle.btr_volume.specs.Table.{TableResult, refusal_of, table_scan}
use Rattle.btr_volume.specs.Tree.{tree_of}
use Rattle.btr_files.specs.declared.counts.Counts.{Counts}
use Rattle.btr_files.specs.declared.plan.RestorePlan.{RestorePlan}
use Rattle.btr_files.specs.Content.{Piece, Bytes, Gap, content}
use Rattle.btr_files.specs.Entries.{entries}
use Rattle.btr_files.specs.Sums.{kind_in}
use Rattle.btr_listing.specs.declared.decision.Decision.{Decision}
use Rattle.btr_listing.specs.declared.decision.Decision.TheVariants.{Skip, Empty, Folder}
use Rattle.btr_listing.specs.declared.decision.Decision.TheVariants as decision
use Rattle.btr_listing.specs.Causes.{cause_text}
use Rattle.btr_listing.specs.Deciding.{Fits, Met, decided, met_in, target}
use Rattle.btr_listing.specs.Lines.{path_in, line, no_counts, with_dir, with_file, with_skip, counts_line}
use Rattle.btr_listing.specs.Step.{Step, Dir, Up, File, Done, Line}
use Rattle.btr_listing.specs.Step as step
use Rattle.btr_listing.proofs.Decidings.{decided_fits}
use Rattle.btr_restore.specs.Journey.{Listing, Treated, Over, Within, has_no_sums, row, told, skip, put, pieces, unverified, closed, written, entered, empty}
use Rattle.btr_restore.specs.Journey.{done_about, rules_of, treated, listed_in, treat, listed, directory, restored, sums_lookup, from_root, listing, journey}
use Rattle.btr_restore.specs.Journey.{most_depth}
use Rattle.btr_restore.specs.Orderly.{begins_with, IfCounts, OrderlyLaw}
use Rattle.btr_restore.specs.Restoring.{sink_after}
use Rattle.btr_restore.proofs.Leading.{Claim, Leads, leads_bind, leads_found, leads_looks, leads_quiet, leads_if, leads_each, leads_renamed, IfValue, led}

-- a sink between two files, in so many directories, and in a file there
pub record At (d : ℕ) (s : Sink) : Type 0 where
  pub stage : s.stage ≡ BetweenFiles
  pub depth : s.depth ≡ d

pub record In (d : ℕ) (s : Sink) : Type 0 where
  pub stage : s.stage ≡ InFile
  pub depth : s.depth ≡ d

-- between two files again, with the counts of the steps
abbrev Stands : ℕ → Claim Counts
Stands d s c counts = At d s × (counts ≡ c)

-- between two files again, or in a directory below, if the one it is in isn't too deep
abbrev HasTreated : Bool → ℕ → Claim Treated
HasTreated deep d s c (Over counts) = At d s × (counts ≡ c)
HasTreated deep d s c (Within tree dirid counts) = (deep ≡ false) × At (d + 1) s × (counts ≡ c)

-- in a file, with the same counts
abbrev Writes : ℕ → Counts → {A : Type 0} → Claim A
Writes d counts s c a = In d s × (counts ≡ c)

module _ (plan : RestorePlan) (s : Super) (sums : Option TreeRoot) (wet : plan.dry ≡ false) where
  -- a sink may take the steps of a program, and the claim holds at its end
  abbrev Ends : {A : Type 0} → Claim A → Sink → Counts → Program Step A → Type 0
  Ends K t c p = Leads K t c p

  -- as the run isn't dry, a call of the sink before a program leads to what its step leads to
  row_leads : {A : Type 0} (K : Claim A) (t : Sink) (c : Counts) (step : Step) (rest : Program Step A) → Ends K t c (Emit step rest)
      → Ends K t c (row plan step rest)
  row_leads K t c step rest h = leads_if K t c plan.dry rest (Emit step rest) (λ e. absurd (dry e)) (λ e. h)
    where
      dry : plan.dry ≡ true → ⊥
      dry e = let f : true ≡ false = sym e ∙ wet in cc

  -- what isn't the line of a skipped entry is not counted
  counted_same : (c : Counts) (b : Bool) → b ≡ false → cond b (with_skip c) c ≡ c
  counted_same c true e = absurd (cc)
  counted_same c false e = refl

  -- a line that says nothing of a skipped entry changes no count
  line_leads : {A : Type 0} (K : Claim A) (t : Sink) (c : Counts) (text : List ℕ) (rest : Program Step A) → begins_with (codes "skip ") text ≡ false
      → Ends K t c rest → Ends K t c (Emit (Line text) rest)
  line_leads K t c text rest other h = (tt, subst (λ d. Ends K t d rest) (sym (counted_same c (begins_with (codes "skip ") text) other)) h)

  -- a line for what was entered or finished, which says nothing of a skipped entry, leads to what the rest leads to
  told_leads : {A : Type 0} (K : Claim A) (t : Sink) (c : Counts) (word path : List ℕ) (rest : Program Step A)
      → begins_with (codes "skip ") (line word path) ≡ false → Ends K t c rest → Ends K t c (told plan word path rest)
  told_leads K t c word path rest other h =
      leads_if K t c (plan.verbose || plan.dry) (Emit (Line (line word path)) rest) rest (λ e. line_leads K t c (line word path) rest other h) (λ e. h)

  -- a skipped entry leaves the sink where it stood, and is counted
  skip_leads : (deep : Bool) (d : ℕ) (t : Sink) (c : Counts) (cause path : List ℕ) (counts : Counts) → At d t → counts ≡ c
      → Ends (HasTreated deep d) t c (skip cause path counts)
  skip_leads deep d t c cause path counts at same = (tt, (at, ap with_skip same))

  -- a piece that is put leaves the sink in the file, and the counts as they are
  put_leads : (d : ℕ) (counts : Counts) (t : Sink) (c : Counts) (plain : Bool) (p : Piece) → Writes d counts t c plain
      → Ends (Writes d counts) t c (put plain p)
  put_leads d counts t c plain (Bytes bytes summed) h = (h.0.stage, (record { stage = h.0.stage; depth = h.0.depth }, h.1))
  put_leads d counts t c plain (Gap n) h = (h.0.stage, (record { stage = h.0.stage; depth = h.0.depth }, h.1))

  -- the pieces of a file leave the sink in it, and the counts as they are
  pieces_lead : (d : ℕ) (counts : Counts) (t : Sink) (c : Counts) (tree : TreeRoot) (ino : ℕ) (inode : Inode) → Writes d counts t c false
      → Ends (Writes d counts) t c (pieces plan s sums tree ino inode)
  pieces_lead d counts t c tree ino inode h =
      leads_if (Writes d counts) t c plan.dry (Return false) _ (λ e. h)
      (λ e. leads_each (Writes d counts) put (λ t c plain p i. put_leads d counts t c plain p i) t c false
      (content (kind_in s) sums (has_no_sums inode) inode.size tree ino) h)

  -- at the end of a file the sink stands between two files again, and the file is counted
  closed_leads : (deep : Bool) (d : ℕ) (t : Sink) (c : Counts) (path : List ℕ) (counts : Counts) (plain : Bool) → Writes d counts t c plain
      → Ends (HasTreated deep d) t c (closed plan path counts plain)
  closed_leads deep d t c path counts plain h =
      let last : Program Step Treated = unverified plain path (Return (Over (with_file counts))) in
      let after : At d (sink_after t Done) = record { stage = refl; depth = h.0.depth } in
      row_leads (HasTreated deep d) t c Done (told plan (codes "file") path last) (
        h.0.stage,
        told_leads (HasTreated deep d) (sink_after t Done) (with_file c) (codes "file") path last refl
            (leads_if (HasTreated deep d) (sink_after t Done) (with_file c) plain
            (Emit (Line (line (codes "unverified") path)) (Return (Over (with_file counts)))) (Return (Over (with_file counts)))
            (λ is. line_leads (HasTreated deep d) (sink_after t Done) (with_file c) (line (codes "unverified") path) (Return (Over (with_file counts)))
            refl (after, ap with_file h.1))
            (λ is. (after, ap with_file h.1))),
      )

  -- a file of a good name leaves the sink as deep as it stood, and is counted
  written_leads : (deep : Bool) (d : ℕ) (t : Sink) (c : Counts) (tree : TreeRoot) (ino : ℕ) (name path : List ℕ) (inode : Inode) (counts : Counts)
      → is_bad name ≡ false → At d t → counts ≡ c → Ends (HasTreated deep d) t c (written plan s sums tree ino name path inode counts)
  written_leads deep d t c tree ino name path inode counts good at same =
      row_leads (HasTreated deep d) t c (File name) (bind (pieces plan s sums tree ino inode) (closed plan path counts)) (
        (at.stage, good),
        leads_bind (Writes d counts) (HasTreated deep d) (sink_after t (File name)) c (pieces plan s sums tree ino inode) (closed plan path counts)
            (pieces_lead d counts (sink_after t (File name)) c tree ino inode (record { stage = refl; depth = at.depth }, same))
            (λ u e plain h. closed_leads deep d u e path counts plain h),
      )

  module _ (deep : Bool) (d : ℕ) (t : Sink) (c : Counts) (at : At d t) where
    -- a sink in a directory that was entered
    deeper : (name : List ℕ) → At (d + 1) (sink_after t (Dir name))
    deeper name = record { stage = at.stage; depth = ap (λ n. n + 1) at.depth }

    -- a directory of a good name that is entered leaves the sink one deeper, and is counted
    entered_leads : (name path : List ℕ) (tree : TreeRoot) (dirid : ℕ) (counts : Counts) → deep ≡ false → d < 512 → is_bad name ≡ false → counts ≡ c
        → Ends (HasTreated deep d) t c (entered plan name path tree dirid counts)
    entered_leads name path tree dirid counts high low good same =
        let last : Program Step Treated = Return (Within tree dirid (with_dir counts)) in
        row_leads (HasTreated deep d) t c (Dir name) (told plan (codes "dir") path last) (
          (at.stage, good, subst (λ n. n < 512) (sym at.depth) low),
          told_leads (HasTreated deep d) (sink_after t (Dir name)) (with_dir c) (codes "dir") path last refl (high, deeper name, ap with_dir same),
        )

    -- a directory of a good name that stays empty leaves the sink as deep as it stood, and is counted
    empty_leads : (name path : List ℕ) (counts : Counts) → d < 512 → is_bad name ≡ false → counts ≡ c
        → Ends (HasTreated deep d) t c (empty plan name path counts)
    empty_leads name path counts low good same =
        let last : Program Step Treated = Return (Over (with_dir counts)) in
        row_leads (HasTreated deep d) t c (Dir name) (told plan (codes "dir") path (row plan Up last)) (
          (at.stage, good, subst (λ n. n < 512) (sym at.depth) low),
          told_leads (HasTreated deep d) (sink_after t (Dir name)) (with_dir c) (codes "dir") path (row plan Up last) refl
              (row_leads (HasTreated deep d) (sink_after t (Dir name)) (with_dir c) Up last (
                (at.stage, subst (λ n. 0 < n + 1) (sym at.depth) (omega arith)),
                (record { stage = at.stage; depth = ap (λ n. n + 1 - 1) at.depth ∙ (omega arith) }, ap with_dir same),
              )),
        )

  module _ (met : Met) (d : ℕ) (t : Sink) (c : Counts) (at : At d t) (low : met.deep ≡ false → d < 512) (counts : Counts) (same : counts ≡ c) where
    -- what is done about an entry, by a decision that fits it
    done_leads : (found : Decision) → Fits (rules_of plan) met found → Ends (HasTreated met.deep d) t c (done_about plan s sums met counts found)
    done_leads (Skip cause) fits = skip_leads met.deep d t c (cause_text cause) met.path counts at same
    done_leads (decision.File inode) good = written_leads met.deep d t c met.tree (target met) met.entry.name met.path inode counts good at same
    done_leads Empty fits = empty_leads met.deep d t c at met.entry.name met.path counts (low fits.0) fits.1 same
    done_leads (Folder inner dirid) fits =
        entered_leads met.deep d t c at met.entry.name met.path inner dirid counts fits.0 (low fits.0) fits.1 same

    -- an entry leaves the sink as deep as it stood, or one deeper where it was entered
    treated_leads : Ends (HasTreated met.deep d) t c (treated plan s sums met counts)
    treated_leads =
        leads_found (HasTreated met.deep d) t c (decided (rules_of plan) s met) (done_about plan s sums met counts) (Fits (rules_of plan) met)
        (decided_fits (rules_of plan) s met) done_leads

  -- listings of directories so deep
  abbrev Lists : ℕ → Listing → Type 0
  Lists d below = (tree : TreeRoot) (dirid : ℕ) (path : List ℕ) (t : Sink) (c counts : Counts) → At d t → counts ≡ c
      → Ends (Stands d) t c (below tree dirid path counts)

  -- what is listed in an entry, and the way up, leave the sink as deep as it stood before the entry
  inside_leads : (deep : Bool) (d : ℕ) (below : Listing) → (deep ≡ false → Lists (d + 1) below)
      → (path : List ℕ) (t : Sink) (c : Counts) (came : Treated) → HasTreated deep d t c came → Ends (Stands d) t c (listed_in plan s sums below path came)
  inside_leads deep d below h path t c (Over counts) i = i
  inside_leads deep d below h path t c (Within tree dirid counts) i =
      let up : Counts → Program Step Counts = λ after. row plan Up (Return after) in
      leads_bind (Stands (d + 1)) (Stands d) t c (below tree dirid path counts) up (h i.0 tree dirid path t c counts i.1 i.2)
      (λ u e after j. row_leads (Stands d) u e Up (Return after) (
        (j.0.stage, subst (λ n. 0 < n) (sym j.0.depth) (omega arith)),
        (record { stage = j.0.stage; depth = ap (λ n. n - 1) j.0.depth ∙ (omega arith) }, j.1),
      ))

  -- the listing of a directory leaves the sink as deep as it stood, if the listings below do
  listed_leads : (deep : Bool) (d : ℕ) (below : Listing) → (deep ≡ false → d < 512) → (deep ≡ false → Lists (d + 1) below)
      → Lists d (listed plan s sums deep below)
  listed_leads deep d below low h tree dirid path t c counts at same =
      leads_each (Stands d) (treat plan s sums deep below tree dirid path)
      (λ u e counts entry i. leads_bind (HasTreated deep d) (Stands d) u e (treated plan s sums (met_in deep tree dirid path entry) counts)
      (listed_in plan s sums below (path_in path entry.name))
      (treated_leads (met_in deep tree dirid path entry) d u e i.0 low counts i.1)
      (λ v f came j. inside_leads deep d below h (path_in path entry.name) v f came j))
      t c counts (entries tree dirid) (at, same)

  -- the listing of a directory leaves the sink as deep as it stood, where its depth and the places below make 512
  tops_lead : (n d : ℕ) → d + n ≡ 512 → Lists d (directory plan s sums n)
  tops_lead zero d e = listed_leads true d (λ tree dirid path counts. Return counts) (λ high. absurd (cc)) (λ high. absurd (cc))
  tops_lead (suc n) d e = listed_leads false d (directory plan s sums n) (λ high. omega (arith, e)) (λ high. tops_lead n (d + 1) (omega (arith, e)))

-- the last claim of a listing, and of the journey
abbrev Ended : Claim (Result Counts OpenFault)
Ended s c (Ok counts) = Stands 0 s c counts
Ended s c (Err refusal) = Unit {0}

module _ (plan : RestorePlan) (dest : List ℕ) (start : Start) (wet : plan.dry ≡ false) where
  -- the listing of a tree into the destination leaves the sink there, with the counts of its steps
  abbrev restored_leads : (t : Sink) → t.stage ≡ NotStarted → (tree : TreeRoot) (sums : Option TreeRoot)
      → Leads (Stands 0) t no_counts (restored plan dest start.sup tree sums)
  restored_leads t fresh tree sums =
      let s = start.sup in
      let begun : Sink = sink_after t (step.Start dest) in
      let last : Counts → Program Step Counts = λ counts. Emit (Line (counts_line counts)) (Return counts) in
      row_leads plan s sums wet (Stands 0) t no_counts (step.Start dest) (bind (directory plan s sums most_depth tree tree.dirid [] no_counts) last) (
        fresh,
        leads_bind (Stands 0) (Stands 0) begun no_counts (directory plan s sums most_depth tree tree.dirid [] no_counts) last
            (tops_lead plan s sums wet most_depth 0 refl tree tree.dirid [] begun no_counts no_counts (record { stage = refl; depth = refl }) refl)
            (λ u e counts h. line_leads plan s sums wet (Stands 0) u e (counts_line counts) (Return counts) refl h),
      )

  -- the restore of the tree that was found, if there is one, leaves the sink in the destination, with the counts of its steps
  root_leads : (t : Sink) → t.stage ≡ NotStarted → (o : Option TreeRoot) → Leads (Stands 0) t no_counts (from_root plan dest start.sup o)
  root_leads t fresh None = tt
  root_leads t fresh (Some tree) =
      leads_looks (Stands 0) t no_counts (sums_lookup plan start.sup) (restored plan dest start.sup tree) (restored_leads t fresh tree)

  -- a sink that isn't started may take the steps of the journey, and stands in the destination at the end, with their counts
  pub journey_leads : (t : Sink) → t.stage ≡ NotStarted → Leads Ended t no_counts (journey plan dest start)
  journey_leads t fresh =
      let inside = listing plan dest start.sup in
      let last : Counts → Program Step (Result Counts OpenFault) = λ counts. Return (Ok counts) in
      let rest : List Chunk → Program Step (Result Counts OpenFault) = λ table. bind inside last in
      let Same : Claim TableResult = λ u e found. (u ≡ t) × (e ≡ no_counts) in
      let listed = leads_bind (Stands 0) Ended t no_counts inside last
      (leads_looks (Stands 0) t no_counts (tree_of start.sup plan.root) (from_root plan dest start.sup) (root_leads t fresh)) (λ u e counts h. h) in
      leads_bind Same Ended t no_counts (renamed Early (quiet (table_scan start)))
      (unless_refused (λ fault. Err (refusal_of fault)) (λ (table : List Chunk). renamed (Late table) (rest table)))
      (leads_renamed Early Same t no_counts (quiet (table_scan start)) (leads_quiet Same t no_counts (table_scan start) (λ found. (refl, refl))))
      (λ u e found same. subst (λ x. Leads Ended x e (unless_refused (λ fault. Err (refusal_of fault))
      (λ (table : List Chunk). renamed (Late table) (rest table)) found)) (sym same.0)
      (subst (λ x. Leads Ended t x (unless_refused (λ fault. Err (refusal_of fault)) (λ (table : List Chunk). renamed (Late table) (rest table))
      found)) (sym same.1) (on found listed)))
    where
      -- behind a scan that came to a table or a refusal, the sink may take what is done, with the last claim of the journey
      on : (found : TableResult) → Leads Ended t no_counts (bind (listing plan dest start.sup) (λ counts. Return (Ok counts)))
          → Leads Ended t no_counts (unless_refused (λ fault. Err (refusal_of fault))
          (λ (table : List Chunk). renamed (Late table) (bind (listing plan dest start.sup) (λ counts. Return (Ok counts)))) found)
      on (Ok table) h = leads_renamed (Late table) Ended t no_counts (bind (listing plan dest start.sup) (λ counts. Return (Ok counts))) h
      on (Err fault) h = tt

-- what follows of the counts, if a run came to any
counts_of : (P : Counts → Type 0) (e : Result (Result Counts OpenFault) Fault) (K : Result Counts OpenFault → Type 0)
    → ((counts : Counts) → K (Ok counts) → P counts) → IfValue e K → IfCounts e P
counts_of P (Ok (Ok counts)) K f h = f counts h
counts_of P (Ok (Err refusal)) K f h = tt
counts_of P (Err fault) K f h = tt

-- each run of a restore that isn't dry is in order
pub orderly : OrderlyLaw
orderly plan dest start maps sink run wet fresh goes =
    let h = led maps Ended sink no_counts (journey plan dest start) run (journey_leads plan dest start wet sink fresh) goes in
    record {
      takes = h.0;
      between = counts_of _ run.ending _ (λ counts k. k.0.stage) h.1;
      depth = counts_of _ run.ending _ (λ counts k. k.0.depth) h.1;
      counts = counts_of _ run.ending _ (λ counts k. k.1) h.1;
    }
