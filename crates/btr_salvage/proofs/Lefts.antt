-- What is left of a committed listing: entries, directories, and the whole.
use Rattle.std.proofs.Common.{◌≡◌, ◌⊎◌, inl, inr, ℕ, zero, suc, Bool, true, false, cond, List, [], ◌∷◌, ◌++◌, codes, Option, Some, None, IsOk, Result, Ok}
use Rattle.std.proofs.Common.{Err, refl, sym, ap, ◌∙◌, subst, append-nil}
use Rattle.btr_items.specs.declared.inode.Inode.{Inode}
use Rattle.btr_prog.specs.Maps.{Loses}
use Rattle.btr_prog.specs.Prog.{Return, Emit, Run, exec, bind, steps_of}
use Rattle.btr_prog.specs.Quiet.{quiet}
use Rattle.btr_prog.specs.Trying.{Done, attempt}
use Rattle.btr_prog.proofs.Quieting.{quiet_ends}
use Rattle.btr_read.specs.Fate.{Fault, Lost, fate}
use Rattle.btr_read.specs.Want.{addr_of}
use Rattle.btr_read.specs.declared.want.Want.{Want}
use Rattle.btr_super.specs.declared.superblock.Super.{Super}
use Rattle.btr_walk.specs.Reading.{Map}
use Rattle.btr_volume.specs.Lookup.{Lookup, Program, each}
use Rattle.btr_volume.specs.Tree.{tree_of}
use Rattle.btr_volume.specs.declared.root.TreeRoot.{TreeRoot}
use Rattle.btr_files.specs.declared.counts.Counts.{Counts}
use Rattle.btr_files.specs.declared.plan.RestorePlan.{RestorePlan}
use Rattle.btr_files.specs.Content.{Piece, content}
use Rattle.btr_files.specs.Sums.{kind_in}
use Rattle.btr_listing.specs.declared.decision.Decision.{Decision}
use Rattle.btr_listing.specs.declared.decision.Decision.TheVariants.{Skip, File, Empty, Folder}
use Rattle.btr_listing.specs.Causes.{cause_text}
use Rattle.btr_listing.specs.Deciding.{Met, decided, met_in, target}
use Rattle.btr_listing.specs.Lines.{counts_line, no_counts, skip_line, with_dir, with_file, with_skip}
use Rattle.btr_listing.specs.Step as step
use Rattle.btr_listing.specs.Step.{Step, Line}
use Rattle.btr_restore.specs.Committed.{committed}
use Rattle.btr_restore.specs.Journey.{done_about, has_no_sums, listing, most_depth, pieces, put, restored, row, rules_of, sums_lookup}
use Rattle.btr_restore.specs.Journey as journey
use Rattle.btr_salvage.specs.declared.salvaged.Salvaged.{Salvaged}
use Rattle.btr_prog.specs.Attempts.{came_of, on_value, tried_run, value_then}
use Rattle.btr_salvage.specs.Laws.{HonestSalvage}
use Rattle.btr_salvage.specs.Left.{ByDecision, IsEntered, IsAllLeft, IsLeft, IsMissing, IsTreated, NeedsLost, OfDirectory, way_up}
use Rattle.btr_salvage.specs.Lines.{missing_line, nothing_yet, salvaged, salvaged_line, with_broken}
use Rattle.btr_salvage.specs.Salvaging.{Attempt, SalvageListing, Treated, Over, Within, begun, beside, broken, by_lookup, by_reading, carried_out, directory}
use Rattle.btr_salvage.specs.Salvaging.{from_root, from_tree, listed, listed_in, on_decision, reading, salvaging, summed_up, treat, treated, tries}
use Rattle.btr_salvage.specs.Salvaging as salvaging
use Rattle.btr_salvage.proofs.Countless.{EachCountless, closing, directory_free, empty_did, entered_did, nothing_free, pieces_value, treat_free}
use Rattle.btr_salvage.proofs.Countless.{unless_dry, up_did, written_did}
use Rattle.btr_salvage.proofs.Endings.{Came, Did, bind_value, came_attempt, came_ending, came_then, came_value, did_quiet, did_then, did_unless}
use Rattle.btr_restore.proofs.Held.{same_value}
use Rattle.btr_salvage.proofs.Endings.{each_value, unless_ends}
use Rattle.btr_salvage.proofs.Keeping.{Keeps, keeps_honest, same_or_lost, stops_lost}
use Rattle.btr_salvage.proofs.Parts.{EachEntry, FolderLeft, folder_left}
use Rattle.btr_salvage.proofs.Twice.{read_twice}

-- what came to a fault came to no value
not_ok : {A : Type 0} (x : Result A Fault) (fault : Fault) → x ≡ Err fault → IsOk x → ⊥
not_ok x fault i g = cc

-- ---- an entry

module _ (plan : RestorePlan) (wet : plan.dry ≡ false) (s : Super) (sums : Option TreeRoot) (B C : Map) (keeps : Keeps B C)
    (deep : Bool) (below : journey.Listing) (free : EachCountless C below) (here : SalvageListing)
    (Inside : TreeRoot → ℕ → List ℕ → List Step → List Step → Type 0) where
  -- what is left of a directory that is entered
  pub record BelowLeft (tree : TreeRoot) (dirid : ℕ) (path : List ℕ) (so_far : Salvaged) (whole : List Step) : Type 0 where
    pub after : Salvaged
    pub left : List Step
    pub came : Came B (here tree dirid path so_far) left (Ok after)
    pub is : Inside tree dirid path whole left

  -- salvage leaves something of each directory whose committed listing comes to its end
  abbrev pub EachBelow : Type 0
  EachBelow =
      (tree : TreeRoot) (dirid : ℕ) (path : List ℕ) (counts end : Counts) (so_far : Salvaged) → (exec C (below tree dirid path counts)).ending ≡ Ok end
      → BelowLeft tree dirid path so_far (steps_of (exec C (below tree dirid path counts)).marks)

  module _ (each_below : EachBelow) (met : Met) (counts end : Counts) (so_far : Salvaged) where
    -- the lookups that decide about the entry
    abbrev lookups : Lookup Decision
    lookups = decided (rules_of plan) s met

    -- the line that the entry is left out, as a block of it is lost
    abbrev broken_line : Want → Step
    broken_line want = Line (missing_line (codes "broken") (Lost (addr_of want)) met.path)

    -- an entry came to this, and then what is in it was listed: it was left out, or something is left of it
    pub record LeftOutcome (p : Attempt Treated) (decision : Decision) (whole : List Step) : Type 0 where
      pub to : Treated
      pub first : List Step
      pub came : Came B p first (Ok to)
      pub after : Salvaged
      pub rest : List Step
      pub then_came : Came B (listed_in plan s sums here met.path to) rest (Ok after)
      pub is :
          ByDecision plan s sums B C Inside met decision whole (first ++ rest)
          ⊎ (want : Want) × NeedsLost plan s sums B C met want × (first ++ rest ≡ broken_line want ∷ [])

    -- what is left of an entry by one program is left of it by another that comes to the same
    outcome_as : (p q : Attempt Treated) (decision : Decision) (whole : List Step)
        → ((ss : List Step) (to : Treated) → Came B p ss (Ok to) → Came B q ss (Ok to)) → LeftOutcome p decision whole → LeftOutcome q decision whole
    outcome_as p q decision whole f o = record {
      to = o.to;
      first = o.first;
      came = f o.first o.to o.came;
      after = o.after;
      rest = o.rest;
      then_came =
          o.then_came;
      is = o.is;
    }

    -- it is left out
    missed : (p : Attempt Treated) (want : Want) (decision : Decision) (whole : List Step) → NeedsLost plan s sums B C met want
        → Came B p (broken_line want ∷ []) (Ok (Over (with_broken so_far))) → LeftOutcome p decision whole
    missed p want decision whole lost came = record {
      to = Over (with_broken so_far);
      first = broken_line want ∷ [];
      came = came;
      after = with_broken so_far;
      rest = [];
      then_came = (refl, refl);
      is = inr (want, lost, refl);
    }

    module _ (decision : Decision) (t : journey.Treated) (whole : List Step)
        (ends : (exec C (done_about plan s sums met counts decision)).ending ≡ Ok t)
        (goes : (exec C (journey.listed_in plan s sums below met.path t)).ending ≡ Ok end)
        (all : whole ≡ steps_of (exec C (done_about plan s sums met counts decision)).marks
        ++ steps_of (exec C (journey.listed_in plan s sums below met.path t)).marks) where
      -- what restore does about the entry in the committed blocks
      abbrev done_there : List Step
      done_there = steps_of (exec C (done_about plan s sums met counts decision)).marks

      -- what restore lists in it there, and the way up
      abbrev inside_there : journey.Treated → List Step
      inside_there x = steps_of (exec C (journey.listed_in plan s sums below met.path x)).marks

      -- it is treated to its end
      kept : (ss : List Step) (c : Counts → Counts) (c' : Counts) → ((w l : List Step) → IsAllLeft plan s sums B C met decision w l
          → ByDecision plan s sums B C Inside met decision w l)
          → ((n : Counts) → Did C (done_about plan s sums met n decision) ss (Ok (journey.Over (c n))))
          → Did B (done_about plan s sums met so_far.counts decision) ss (Ok (journey.Over c'))
          → LeftOutcome (carried_out plan s sums met so_far decision) decision whole
      kept ss c c' how there done =
          let over = same_value (exec C (done_about plan s sums met counts decision)).ending t (journey.Over (c counts)) ends (there counts).1 in
          let is : whole ≡ done_there = all ∙ ap (λ x. done_there ++ inside_there x) over ∙ append-nil done_there in
          let handed : journey.Treated → Attempt Treated = λ to. Done (Ok (beside so_far.broken to)) in
          record {
            to = Over (salvaged c' so_far.broken);
            first = ss ++ [];
            came = came_value B (attempt (done_about plan s sums met so_far.counts decision)) handed (journey.Over c') ss []
                (Ok (Over (salvaged c' so_far.broken)))
                (came_attempt B (done_about plan s sums met so_far.counts decision) ss (Ok (journey.Over c')) done) (refl, refl);
            after = salvaged c' so_far.broken;
            rest = [];
            then_came = (refl, refl);
            is = inl (how whole ((ss ++ []) ++ []) (record {
              is = λ n. is ∙ (there counts).0 ∙ sym (there n).0;
              same = append-nil (ss ++ []) ∙ append-nil ss ∙ sym (there counts).0 ∙ sym is;
            }));
          }

      -- a directory that is entered
      entered_into : (tree : TreeRoot) (dirid : ℕ) (es : List Step) → ((w l : List Step)
          → IsEntered plan s sums B C (Inside tree dirid met.path) met decision w l → ByDecision plan s sums B C Inside met decision w l)
          → ((n : Counts) → Did C (done_about plan s sums met n decision) es (Ok (journey.Within tree dirid (with_dir n))))
          → Did B (done_about plan s sums met so_far.counts decision) es (Ok (journey.Within tree dirid (with_dir so_far.counts)))
          → LeftOutcome (carried_out plan s sums met so_far decision) decision whole
      entered_into tree dirid es how there done =
          let up : Counts → Program Step Counts = λ after. row plan step.Up (Return after) in
          let went = same_value (exec C (done_about plan s sums met counts decision)).ending t (journey.Within tree dirid (with_dir counts)) ends
          (there counts).1 in
          let v = bind_value C (below tree dirid met.path (with_dir counts)) up end
          (sym (ap (λ x. (exec C (journey.listed_in plan s sums below met.path x)).ending) went) ∙ goes) in
          let inside = steps_of (exec C (below tree dirid met.path (with_dir counts))).marks in
          let both = did_then C (below tree dirid met.path (with_dir counts)) up v.0 inside (way_up plan) (Ok v.0) (refl, v.1) (up_did plan C v.0) in
          let entered_in = salvaged (with_dir so_far.counts) so_far.broken in
          let b = each_below tree dirid met.path (with_dir counts) v.0 entered_in v.1 in
          let handed : journey.Treated → Attempt Treated = λ to. Done (Ok (beside so_far.broken to)) in
          record {
            to = Within tree dirid entered_in;
            first = es ++ [];
            came = came_value B (attempt (done_about plan s sums met so_far.counts decision)) handed (journey.Within tree dirid (with_dir so_far.counts)) es []
                (Ok (Within tree dirid entered_in))
                (came_attempt B (done_about plan s sums met so_far.counts decision) es (Ok (journey.Within tree dirid (with_dir so_far.counts))) done)
                (refl, refl);
            after = b.after;
            rest = b.left ++ way_up plan;
            then_came = came_value B (here tree dirid met.path entered_in) (λ after. attempt (row plan step.Up (Return after))) b.after b.left (way_up plan)
                (Ok b.after) b.came
                (came_attempt B (row plan step.Up (Return b.after)) (way_up plan) (Ok b.after) (up_did plan B b.after));
            is = inl (how whole ((es ++ []) ++ (b.left ++ way_up plan)) (record {
              inside = inside;
              kept = b.left;
              is = λ n. all ∙ ap (λ x. done_there ++ inside_there x) went ∙ ap (λ l. done_there ++ l) both.0
                  ∙ ap (λ l. l ++ (inside ++ way_up plan)) ((there counts).0 ∙ sym (there n).0);
              rest = λ n. ap (λ l. l ++ (b.left ++ way_up plan)) (append-nil es ∙ sym (there n).0);
              below = b.is;
            }));
          }

    module _ (inode : Inode) (comes : (exec C lookups).ending ≡ Ok (File inode)) (t : journey.Treated) (whole : List Step)
        (ends : (exec C (done_about plan s sums met counts (File inode))).ending ≡ Ok t)
        (goes : (exec C (journey.listed_in plan s sums below met.path t)).ending ≡ Ok end)
        (all : whole ≡ steps_of (exec C (done_about plan s sums met counts (File inode))).marks
        ++ steps_of (exec C (journey.listed_in plan s sums below met.path t)).marks) where
      -- the bytes of the file, piece by piece
      abbrev bytes : Program Piece (Unit {0})
      bytes = content (kind_in s) sums (has_no_sums inode) inode.size met.tree (target met)

      -- the pieces of the file as restore puts them
      abbrev puts : Program Step Bool
      puts = pieces plan s sums met.tree (target met) inode

      -- what salvage does with the file
      abbrev the_file : Attempt Treated
      the_file = salvaging.file plan s sums met so_far inode

      -- the bytes could be had in the committed blocks
      bytes_ended : (plain : Bool) → (exec C puts).ending ≡ Ok plain → (exec C bytes).ending ≡ Ok tt
      bytes_ended plain e = each_value C put bytes false plain (sym (ap (λ dry. (exec C (cond dry (Return false) (each put false bytes))).ending) wet) ∙ e)

      -- the file comes to what is done by how the first reading of its bytes ended
      on_bytes : (x : Result (Unit {0}) Fault) (ss : List Step) (to : Treated) → (exec B bytes).ending ≡ x
          → Came B (by_reading plan s sums met so_far inode x) ss (Ok to) → Came B the_file ss (Ok to)
      on_bytes x ss to e came = came_then B (reading plan s sums met.tree (target met) inode) (by_reading plan s sums met so_far inode) x [] ss (Ok to)
          (came_ending B bytes x e) came

      -- they could be had in the images too: so they are put
      file_put : (plain : Bool) → (exec C puts).ending ≡ Ok plain → (exec B bytes).ending ≡ Ok tt → (exec B puts ≡ exec C puts)
          ⊎ Loses B (exec C puts) (exec B puts) → LeftOutcome the_file (File inode) whole
      file_put plain e h (inr m) = absurd (not_ok (exec B puts).ending m.fault m.ending
          (read_twice plan s sums B met.tree (target met) inode (came_ending B bytes (Ok tt) h).1))
      file_put plain e h (inl same) =
          let done = written_did plan B s sums met.tree (target met) inode met.entry.name met.path so_far.counts plain
          (ap (λ (r : Run Want Fault Step Bool). r.ending) same ∙ e) in
          let ss = unless_dry plan C (step.File met.entry.name) ++ (steps_of (exec C puts).marks ++ closing plan C met.path plain) in
          let done_same = done.0 ∙ ap (λ (r : Run Want Fault Step Bool). unless_dry plan C (step.File met.entry.name)
          ++ (steps_of r.marks ++ closing plan C met.path plain)) same in
          outcome_as (carried_out plan s sums met so_far (File inode)) the_file (File inode) whole (λ ls to came. on_bytes (Ok tt) ls to h came)
          (kept (File inode) t whole ends goes all ss with_file (with_file so_far.counts) (λ w l i. i)
          (λ n. written_did plan C s sums met.tree (target met) inode met.entry.name met.path n plain e) (done_same, done.1))

      -- the file is put, or it is left out for the first block of its bytes that is lost
      file_by : (plain : Bool) → (exec C puts).ending ≡ Ok plain → (exec B bytes ≡ exec C bytes) ⊎ Loses B (exec C bytes) (exec B bytes)
          → LeftOutcome the_file (File inode) whole
      file_by plain e (inl same) =
          file_put plain e (ap (λ (r : Run Want Fault Piece (Unit {0})). r.ending) same ∙ bytes_ended plain e) (same_or_lost B C keeps puts plain e)
      file_by plain e (inr m) =
          let stops = stops_lost B C keeps bytes tt (bytes_ended plain e) m in
          missed the_file m.want (File inode) whole (inr (inode, comes, (m, refl)))
          (on_bytes (Err (Lost (addr_of m.want))) (broken_line m.want ∷ []) (Over (with_broken so_far)) stops (refl, refl))

      -- a file that restore writes in the committed blocks is written by salvage too, or left out for a lost block
      file_did : LeftOutcome the_file (File inode) whole
      file_did =
          let v = pieces_value plan C s sums met.tree (target met) inode met.entry.name met.path counts t ends in
          file_by v.0 v.1 (same_or_lost B C keeps bytes tt (bytes_ended v.0 v.1))

    -- an entry, by what it comes to
    by_decision : (decision : Decision) → (exec C lookups).ending ≡ Ok decision → (t : journey.Treated) (whole : List Step)
        → (exec C (done_about plan s sums met counts decision)).ending ≡ Ok t
        → (exec C (journey.listed_in plan s sums below met.path t)).ending ≡ Ok end
        → whole ≡ steps_of (exec C (done_about plan s sums met counts decision)).marks
        ++ steps_of (exec C (journey.listed_in plan s sums below met.path t)).marks
        → LeftOutcome (on_decision plan s sums met so_far decision) decision whole
    by_decision (Skip cause) comes t whole ends goes all =
        kept (Skip cause) t whole ends goes all (Line (skip_line (cause_text cause) met.path) ∷ []) with_skip (with_skip so_far.counts) (λ w l i. i)
        (λ n. (refl, refl)) (refl, refl)
    by_decision (File inode) comes t whole ends goes all = file_did inode comes t whole ends goes all
    by_decision Empty comes t whole ends goes all =
        kept Empty t whole ends goes all _ with_dir (with_dir so_far.counts) (λ w l i. i) (empty_did plan C met.entry.name met.path)
        (empty_did plan B met.entry.name met.path so_far.counts)
    by_decision (Folder tree dirid) comes t whole ends goes all =
        entered_into (Folder tree dirid) t whole ends goes all tree dirid _ (λ w l i. i) (entered_did plan C met.entry.name met.path tree dirid)
        (entered_did plan B met.entry.name met.path tree dirid so_far.counts)

    -- an entry, by its lookups
    abbrev the_entry : Attempt Treated
    the_entry = treated plan s sums met so_far

    -- the entry comes to what is done by how its lookups ended
    on_lookup : (x : Result Decision Fault) (ss : List Step) (to : Treated) → (exec B lookups).ending ≡ x
        → Came B (by_lookup plan s sums met so_far x) ss (Ok to) → Came B the_entry ss (Ok to)
    on_lookup x ss to e came =
        came_then B (tries lookups) (by_lookup plan s sums met so_far) x [] ss (Ok to) (came_attempt B (quiet lookups) [] x (did_quiet B lookups x e)) came

    module _ (decision : Decision) (comes : (exec C lookups).ending ≡ Ok decision) (t : journey.Treated) (whole : List Step)
        (ends : (exec C (done_about plan s sums met counts decision)).ending ≡ Ok t)
        (goes : (exec C (journey.listed_in plan s sums below met.path t)).ending ≡ Ok end)
        (all : whole ≡ steps_of (exec C (done_about plan s sums met counts decision)).marks
        ++ steps_of (exec C (journey.listed_in plan s sums below met.path t)).marks) where
      -- the entry is treated by what it comes to, or left out for the first block of its lookups that is lost
      entry_by : (exec B lookups ≡ exec C lookups) ⊎ Loses B (exec C lookups) (exec B lookups) → LeftOutcome the_entry decision whole
      entry_by (inl same) =
          outcome_as (on_decision plan s sums met so_far decision) the_entry decision whole
          (λ ss to came. on_lookup (Ok decision) ss to (ap (λ (r : Run Want Fault ⊥ Decision). r.ending) same ∙ comes) came)
          (by_decision decision comes t whole ends goes all)
      entry_by (inr m) =
          missed the_entry m.want decision whole (inl (m, refl))
          (on_lookup (Err (Lost (addr_of m.want))) (broken_line m.want ∷ []) (Over (with_broken so_far)) (stops_lost B C keeps lookups decision comes m)
          (refl, refl))

      -- an entry that restore treats to its end is treated so by salvage too, or left out and named with a lost block
      pub entry_did : LeftOutcome the_entry decision whole
      entry_did = entry_by (same_or_lost B C keeps lookups decision comes)

  -- ---- an entry of a directory, and the directory

  module _ (each_below : EachBelow) (tree : TreeRoot) (dirid : ℕ) (path : List ℕ) where
    -- each entry of a directory that restore treats to its end is treated so by salvage, or left out and named
    pub each_entry : EachEntry plan s sums B C keeps deep below here Inside tree dirid path
    each_entry entry counts end so_far h =
        let met = met_in deep tree dirid path entry in
        let look : Program Step Decision = quiet (decided (rules_of plan) s met) in
        let in_it = bind_value C (journey.treated plan s sums met counts) (journey.listed_in plan s sums below met.path) end h in
        let about = bind_value C look (done_about plan s sums met counts) in_it.0 in_it.1 in
        let comes = sym (quiet_ends Step C (decided (rules_of plan) s met)) ∙ about.1 in
        let one = did_then C look (done_about plan s sums met counts) about.0 [] (steps_of (exec C (done_about plan s sums met counts about.0)).marks)
        (Ok in_it.0) (did_quiet C (decided (rules_of plan) s met) (Ok about.0) comes) (refl, about.2) in
        let all = did_then C (journey.treated plan s sums met counts) (journey.listed_in plan s sums below met.path) in_it.0
        (steps_of (exec C (done_about plan s sums met counts about.0)).marks)
        (steps_of (exec C (journey.listed_in plan s sums below met.path in_it.0)).marks) (Ok end) one (refl, in_it.2) in
        let whole = steps_of (exec C (journey.treat plan s sums deep below tree dirid path counts entry)).marks in
        let o = entry_did each_below met counts end so_far about.0 comes in_it.0 whole about.2 in_it.2 all.0 in
        record {
          after = o.after;
          left = o.first ++ o.rest;
          came = came_value B (treated plan s sums met so_far) (listed_in plan s sums here met.path) o.to o.first o.rest (Ok o.after) o.came o.then_came;
          is = by_is (o.first ++ o.rest) about.0 comes o.is;
        }
      where
        -- what restore does in the committed blocks about the entry and in it
        whole_entry : List Step
        whole_entry = steps_of (exec C (journey.treat plan s sums deep below tree dirid path counts entry)).marks

        -- what the entry came to is what is left of it in its directory
        by_is : (left : List Step) (decision : Decision)
            → (exec C (decided (rules_of plan) s (met_in deep tree dirid path entry))).ending ≡ Ok decision
            → ByDecision plan s sums B C Inside (met_in deep tree dirid path entry) decision whole_entry left
            ⊎ (want : Want) × NeedsLost plan s sums B C (met_in deep tree dirid path entry) want
            × (left ≡ Line (missing_line (codes "broken") (Lost (addr_of want)) (met_in deep tree dirid path entry).path) ∷ [])
            → IsTreated plan s sums B C Inside (met_in deep tree dirid path entry) whole_entry left
            ⊎ IsMissing plan s sums B C deep below Inside tree dirid path entry whole_entry left
        by_is left decision comes (inl does) = inl record { decision = decision; comes = comes; does = does }
        by_is left decision comes (inr m) = inr record {
          want = m.0;
          lost = m.1;
          is = λ n. sym (treat_free plan s sums C deep below free tree dirid path entry counts n end h).1.0;
          named = m.2;
        }

    -- salvage lists a directory whose committed listing comes to its end, and leaves all of it but what needs lost blocks
    pub folder_did : (counts end : Counts) (so_far : Salvaged) → (exec C (journey.listed plan s sums deep below tree dirid path counts)).ending ≡ Ok end
        → FolderLeft plan s sums B C keeps deep below here Inside tree dirid path (treat_free plan s sums C deep below free tree dirid path) each_entry so_far
        (steps_of (exec C (journey.listed plan s sums deep below tree dirid path counts)).marks)
    folder_did = folder_left plan s sums B C keeps deep below here Inside tree dirid path (treat_free plan s sums C deep below free tree dirid path) each_entry

-- ---- directories, and the whole

module _ (plan : RestorePlan) (wet : plan.dry ≡ false) (s : Super) (B C : Map) (keeps : Keeps B C) where
  module _ (sums : Option TreeRoot) where
    -- below the deepest directory restore lists nothing
    nothing_below : (tree : TreeRoot) (dirid : ℕ) (path : List ℕ) (counts : Counts) → Program Step Counts
    nothing_below tree dirid path counts = Return counts

    -- below the deepest directory salvage lists nothing
    nothing_here : (tree : TreeRoot) (dirid : ℕ) (path : List ℕ) (so_far : Salvaged) → Attempt Salvaged
    nothing_here tree dirid path so_far = Done (Ok so_far)

    -- nothing was to be done there, and nothing is left
    abbrev Nothing : TreeRoot → ℕ → List ℕ → List Step → List Step → Type 0
    Nothing tree dirid path whole left = (whole ≡ []) × (left ≡ [])

    -- salvage leaves something of each directory below which so many more may be entered
    directory_did : (n : ℕ) → EachBelow plan wet s sums B C keeps false (journey.directory plan s sums n) (directory_free plan s sums C n)
        (directory plan s sums n) (OfDirectory plan s sums B C n)
    directory_did zero tree dirid path counts end so_far h =
        let f = folder_did plan wet s sums B C keeps true (λ tree dirid path counts. Return counts) (nothing_free C)
        (λ tree dirid path so_far. Done (Ok so_far)) Nothing
        (λ t d p c e st g. record { after = st; left = []; came = (refl, refl); is = (refl, refl) }) tree dirid path counts end so_far h in
        record { after = f.after; left = f.left; came = f.came; is = f.is }
    directory_did (suc n) tree dirid path counts end so_far h =
        let f = folder_did plan wet s sums B C keeps false (journey.directory plan s sums n) (directory_free plan s sums C n) (directory plan s sums n)
        (OfDirectory plan s sums B C n)
        (directory_did n) tree dirid path counts end so_far h in
        record { after = f.after; left = f.left; came = f.came; is = f.is }

  module _ (dest : List ℕ) (counts : Counts) (so_far : Salvaged) (has : (tried_run B (salvaging plan dest s)).ending ≡ Ok so_far) where
    -- what salvage did is what is left of these steps of restore
    abbrev IsLeftOf : List Step → Type 0
    IsLeftOf whole = IsLeft plan dest s B C counts so_far whole (steps_of (tried_run B (salvaging plan dest s)).marks)

    -- it came to this
    salvaged_is : (ss : List Step) (x : Result Salvaged Fault) → Came B (salvaging plan dest s) ss x → x ≡ Ok so_far
    salvaged_is ss x came = sym (ap came_of came.1) ∙ has

    -- salvage came to its end, and so to no fault
    not_lost : {A : Type 0} (fault : Fault) → (let x : Result Salvaged Fault = Err fault in x) ≡ Ok so_far → A
    not_lost fault e = absurd (cc)

    -- salvage comes to what is done by how the lookup of the start tree ended
    on_root : (x : Result (Option TreeRoot) Fault) (ss : List Step) (y : Result Salvaged Fault) → (exec B (tree_of s plan.root)).ending ≡ x
        → Came B (on_value (from_root plan dest s) x) ss y → Came B (salvaging plan dest s) ss y
    on_root x ss y e came =
        came_then B (tries (tree_of s plan.root)) (on_value (from_root plan dest s)) x [] ss y
        (came_attempt B (quiet (tree_of s plan.root)) [] x (did_quiet B (tree_of s plan.root) x e)) came

    module _ (tree : TreeRoot) (root : (exec C (tree_of s plan.root)).ending ≡ Ok (Some tree))
        (root_there : (exec B (tree_of s plan.root)).ending ≡ Ok (Some tree)) where
      -- salvage comes to what is done by how the lookup of the checksum tree ended
      on_sums : (x : Result (Option TreeRoot) Fault) (ss : List Step) (y : Result Salvaged Fault) → (exec B (tree_of s 7)).ending ≡ x
          → Came B (on_value (from_tree plan dest s tree) x) ss y → Came B (salvaging plan dest s) ss y
      on_sums x ss y e came =
          on_root (Ok (Some tree)) ss y root_there
          (came_then B (tries (tree_of s 7)) (on_value (from_tree plan dest s tree)) x [] ss y
          (came_attempt B (quiet (tree_of s 7)) [] x (did_quiet B (tree_of s 7) x e)) came)

      module _ (sums : Option TreeRoot) (sums_are : (exec C (tree_of s 7)).ending ≡ Ok sums) (sums_there : (exec B (tree_of s 7)).ending ≡ Ok sums)
          (ends : (exec C (restored plan dest s tree sums)).ending ≡ Ok counts) where
        -- the line of the counts
        abbrev tell : Counts → Program Step Counts
        tell c = Emit (Line (counts_line c)) (Return c)

        -- the listing of the top directory by restore
        abbrev top : Program Step Counts
        top = journey.directory plan s sums most_depth tree tree.dirid [] no_counts

        -- the listing of the top directory by salvage
        abbrev top_here : Attempt Salvaged
        top_here = directory plan s sums most_depth tree tree.dirid [] nothing_yet

        -- in the committed blocks restore's listing of the top directory comes to counts, which are told
        top_value : (c : Counts) × ((exec C top).ending ≡ Ok c) × ((exec C (tell c)).ending ≡ Ok counts)
        top_value = bind_value C top tell counts (unless_ends C plan.dry (step.Start dest) (bind top tell) (Ok counts) ends)

        -- those counts are the ones that restore ends with
        top_counts : top_value.0 ≡ counts
        top_counts = sym (same_value (exec C (tell top_value.0)).ending counts top_value.0 top_value.2 refl)

        -- what salvage leaves of the top directory
        top_did : BelowLeft plan wet s sums B C keeps false (journey.directory plan s sums most_depth) (directory_free plan s sums C most_depth)
            (directory plan s sums most_depth)
            (OfDirectory plan s sums B C most_depth) tree tree.dirid [] nothing_yet (steps_of (exec C top).marks)
        top_did = directory_did sums most_depth tree tree.dirid [] no_counts top_value.0 nothing_yet top_value.1

        -- what is done first, in a run that isn't dry
        started : (ss : List Step) → cond plan.dry [] (step.Start dest ∷ []) ++ ss ≡ step.Start dest ∷ ss
        started ss = ap (λ dry. cond dry [] (step.Start dest ∷ []) ++ ss) wet

        -- in the committed blocks restore begins the destination, lists the top directory and tells the counts
        whole_is : steps_of (exec C (restored plan dest s tree sums)).marks ≡ step.Start dest ∷ steps_of (exec C top).marks ++ Line (counts_line counts) ∷ []
        whole_is =
            (did_unless C plan.dry (step.Start dest) (bind top tell) (steps_of (exec C top).marks ++ Line (counts_line top_value.0) ∷ []) (Ok top_value.0)
            (did_then C top tell top_value.0 (steps_of (exec C top).marks) (Line (counts_line top_value.0) ∷ []) (Ok top_value.0) (refl, top_value.1)
            (refl, refl))).0
            ∙ (started (steps_of (exec C top).marks ++ Line (counts_line top_value.0) ∷ [])
            ∙ ap (λ c. step.Start dest ∷ steps_of (exec C top).marks ++ Line (counts_line c) ∷ []) top_counts)

        -- the destination is begun, unless the run is dry
        abbrev begin : List Step
        begin = cond plan.dry [] (step.Start dest ∷ []) ++ []

        -- salvage begins the destination, lists the top directory and tells how much was salvaged
        all_came : Came B (salvaging plan dest s) (begin ++ (top_did.left ++ Line (salvaged_line top_did.after) ∷ [])) (Ok top_did.after)
        all_came =
            on_sums (Ok sums) (begin ++ (top_did.left ++ Line (salvaged_line top_did.after) ∷ [])) (Ok top_did.after) sums_there
            (came_value B (attempt (begun plan dest s)) (λ u. value_then top_here (λ so_far. attempt (summed_up so_far))) tt begin
            (top_did.left ++ Line (salvaged_line top_did.after) ∷ []) (Ok top_did.after)
            (came_attempt B (begun plan dest s) begin (Ok tt) (did_unless B plan.dry (step.Start dest) (Return tt) [] (Ok tt) (refl, refl)))
            (came_value B top_here (λ so_far. attempt (summed_up so_far)) top_did.after top_did.left (Line (salvaged_line top_did.after) ∷ [])
            (Ok top_did.after) top_did.came (refl, refl)))

        -- how much was salvaged of the top directory is what salvage ends with
        after_is : top_did.after ≡ so_far
        after_is = same_value (Ok so_far) top_did.after so_far
            (sym (salvaged_is (begin ++ (top_did.left ++ Line (salvaged_line top_did.after) ∷ [])) (Ok top_did.after) all_came)) refl

        -- what salvage did: the start, what is left of the top directory, and how much was salvaged
        left_is : steps_of (tried_run B (salvaging plan dest s)).marks ≡ step.Start dest ∷ top_did.left ++ Line (salvaged_line so_far) ∷ []
        left_is =
            all_came.0
            ∙ (ap (λ l. l ++ (top_did.left ++ Line (salvaged_line top_did.after) ∷ [])) (append-nil (cond plan.dry [] (step.Start dest ∷ [])))
            ∙ (started (top_did.left ++ Line (salvaged_line top_did.after) ∷ [])
            ∙ ap (λ x. step.Start dest ∷ top_did.left ++ Line (salvaged_line x) ∷ []) after_is))

        -- what salvage did is what is left of the restore of the start tree, where both roots are there
        pub tree_left : IsLeftOf (steps_of (exec C (restored plan dest s tree sums)).marks)
        tree_left = record {
          tree = tree;
          sums = sums;
          root = root;
          checksums = sums_are;
          inside = steps_of (exec C top).marks;
          kept = top_did.left;
          is = whole_is;
          rest = left_is;
          below = top_did.is;
        }

      -- the checksum tree is there
      sums_by : (sums : Option TreeRoot) → (exec C (tree_of s 7)).ending ≡ Ok sums → (exec C (restored plan dest s tree sums)).ending ≡ Ok counts
          → (exec B (tree_of s 7) ≡ exec C (tree_of s 7)) ⊎ Loses B (exec C (tree_of s 7)) (exec B (tree_of s 7))
          → IsLeftOf (steps_of (exec C (restored plan dest s tree sums)).marks)
      sums_by sums are ends (inl same) = tree_left sums are (ap (λ (r : Run Want Fault ⊥ (Option TreeRoot)). r.ending) same ∙ are) ends
      sums_by sums are ends (inr m) = not_lost m.fault (salvaged_is [] (Err m.fault) (on_sums (Err m.fault) [] (Err m.fault) m.ending (refl, refl)))

      -- with the start tree there, what salvage did is what is left of restore, by the lookup of the checksum tree
      look_sums : (ends : (exec C (journey.from_root plan dest s (Some tree))).ending ≡ Ok counts)
          → IsLeftOf (steps_of (exec C (journey.from_root plan dest s (Some tree))).marks)
      look_sums ends =
          let look : Program Step (Option TreeRoot) = quiet (sums_lookup plan s) in
          let v = bind_value C look (restored plan dest s tree) counts ends in
          let wet_lookup = ap (λ dry. cond dry (Return None) (tree_of s 7)) wet in
          let are = sym (ap (λ (p : Lookup (Option TreeRoot)). (exec C p).ending) wet_lookup) ∙ (sym (quiet_ends Step C (sums_lookup plan s)) ∙ v.1) in
          let both = did_then C look (restored plan dest s tree) v.0 [] (steps_of (exec C (restored plan dest s tree v.0)).marks) (Ok counts)
          (did_quiet C (sums_lookup plan s) (Ok v.0) (sym (quiet_ends Step C (sums_lookup plan s)) ∙ v.1)) (refl, v.2) in
          subst IsLeftOf (sym both.0) (sums_by v.0 are v.2 (same_or_lost B C keeps (tree_of s 7) v.0 are))

    -- the start tree is there
    root_by : (found : Option TreeRoot) → (exec C (tree_of s plan.root)).ending ≡ Ok found → (exec C (journey.from_root plan dest s found)).ending ≡ Ok counts
        → (exec B (tree_of s plan.root) ≡ exec C (tree_of s plan.root)) ⊎ Loses B (exec C (tree_of s plan.root)) (exec B (tree_of s plan.root))
        → IsLeftOf (steps_of (exec C (journey.from_root plan dest s found)).marks)
    root_by None is ends lost = absurd (cc)
    root_by (Some tree) is ends (inl same) = look_sums tree is (ap (λ (r : Run Want Fault ⊥ (Option TreeRoot)). r.ending) same ∙ is) ends
    root_by (Some tree) is ends (inr m) = not_lost m.fault (salvaged_is [] (Err m.fault) (on_root (Err m.fault) [] (Err m.fault) m.ending (refl, refl)))

    -- what salvage did is what is left of a committed listing that comes to its end
    pub all_left : (exec C (listing plan dest s)).ending ≡ Ok counts → IsLeftOf (steps_of (exec C (listing plan dest s)).marks)
    all_left ends =
        let look : Program Step (Option TreeRoot) = quiet (tree_of s plan.root) in
        let v = bind_value C look (journey.from_root plan dest s) counts ends in
        let is = sym (quiet_ends Step C (tree_of s plan.root)) ∙ v.1 in
        let both = did_then C look (journey.from_root plan dest s) v.0 [] (steps_of (exec C (journey.from_root plan dest s v.0)).marks) (Ok counts)
        (did_quiet C (tree_of s plan.root) (Ok v.0) is) (refl, v.2) in
        subst IsLeftOf (sym both.0) (root_by v.0 is v.2 (same_or_lost B C keeps (tree_of s plan.root) v.0 is))

-- over honest images all of an entry is left, or it is named with a block that is lost
pub honest_salvage : HonestSalvage
honest_salvage plan dest s images layout C counts so_far wet honest ends has =
    all_left plan wet s (fate images layout) (committed C images layout) (keeps_honest C images layout honest) dest counts so_far has ends
