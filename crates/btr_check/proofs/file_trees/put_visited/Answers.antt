use Rattle.std.proofs.Common.{◌≡◌, true, List, [], ◌∷◌, fold, Some, refl, sym, ap, ◌∙◌, subst}
use Rattle.btr_chunk.specs.declared.chunk.Chunk.{Chunk}
use Rattle.btr_read.specs.Layout.{Layout}
use Rattle.btr_findings.specs.Findings.{Adds}
use Rattle.btr_check_sums.specs.Sums.{tree_missing}
use Rattle.btr_volume.specs.declared.stop.Stop.TheVariants.{Memory as NoMemory}
use Rattle.btr_check.specs.Counting.{Unless}
use Rattle.btr_check.specs.Data.{sum_runs}
use Rattle.btr_check.specs.Families.{AreSumRanges}
use Rattle.btr_check.specs.FileTrees.{file_step, entries_if, TreatsNames}
use Rattle.btr_check.specs.Passes.{marks_if}
use Rattle.btr_check.specs.Running.{world, filesystem, is_outside}
use Rattle.btr_check.specs.SoundTrees.{AreBelow, AreKept, TreatsAll}
use Rattle.btr_check.specs.declared.file_tree.FileTree.{FileTree}
use Rattle.btr_check.proofs.FileTrees.{file_tree_met, treats_paired, treats_looked}
use Rattle.btr_check.proofs.Passes.{ran_no_memory, unless_more}
use Rattle.btr_check.proofs.Runs.{ran_stop_within, ran_then, ran_value, stop_is}
use Rattle.btr_check.proofs.Wanting.{one_wanted}
use Rattle.btr_check.proofs.SoundTrees.{kept_met, not_both}
use Rattle.btr_check.proofs.file_trees.put_visited.Goals as goal

pub returns-in_err-met : goal.returns-in_err-met
returns-in_err-met g c =
    let x = world (g.R.Rack.seen c.args.rack.now) c.args.vol.now in
    let y = world (g.R.Rack.seen c.collect.new.rack) c.collect.new.vol in
    let rooted = c.args.rooted in
    record {
      ran = rw (stop_is c.from_residual.result c.from_residual.ensures.1)
          (ran_stop_within (λ fs. is_outside c.in_err-met.field-0.0 ≡ true)
          (λ fs. AreSumRanges fs c.args.sums.now → AreKept fs c.args.kept.now.sound.items → AreBelow fs rooted.tree rooted.children.items
          → is_outside c.in_err-met.field-0.0 ≡ true) x y c.in_err-met.field-0.0 c.in_err-met.ensures.ran (λ B h same kept below. h)
          (λ B want w. one_wanted (filesystem c.args.vol.now B) rooted.tree want w));
    }

pub returns-in-Err : goal.returns-in-Err
returns-in-Err g c =
    let x = world (g.R.Rack.seen c.args.rack.now) c.args.vol.now in
    let y = world (g.R.Rack.seen c.collect.new.rack) c.collect.new.vol in
    let rooted = c.args.rooted in
    record {
      ran = ran_no_memory {A = FileTree} (λ fs. c.in_ok-met.met ≡ fold file_step c.new.result (marks_if fs.blocks (Some rooted.tree)))
          (λ fs. AreSumRanges fs c.args.sums.now → AreKept fs c.args.kept.now.sound.items → AreBelow fs rooted.tree rooted.children.items
          → is_outside NoMemory ≡ true) x y c.in_ok-met.met c.in_ok-met.ensures.ran (λ B known kept below. refl);
    }

pub returns-then-paired : goal.returns-then-paired
returns-then-paired g c =
    let x = world (g.R.Rack.seen c.args.rack.now) c.args.vol.now in
    let y = world (g.R.Rack.seen c.collect.new.rack) c.collect.new.vol in
    let rooted = c.args.rooted in
    let tree = rooted.tree in
    let met = c.in_ok-met.met in
    let found = c.args.found.now in
    let found' = c.put_met.new.found in
    let old = c.args.kept.now in
    let new = c.put_met.new.kept in
    let put = c.in-Ok.ensures in
    record {
      ran = ran_value {A = FileTree} {C = Unit {0}} (λ fs. met ≡ fold file_step c.new.result (marks_if fs.blocks (Some tree)))
          (λ fs. AreSumRanges fs c.args.sums.now → AreKept fs old.sound.items → AreBelow fs tree rooted.children.items
          → TreatsAll fs (tree ∷ []) found found' old.subvolumes new.subvolumes new.sound.items) x y met tt c.in_ok-met.ensures.ran
          (λ B h same kept below.
          let fs = filesystem c.args.vol.now B in
          let runs = sum_runs fs in
          let chunks = c.args.vol.now.store.layout.chunks in
          let are : c.chunks-chunks.result.now ≡ chunks = c.chunks-chunks.ensures ∙ ap (λ (l : Layout). l.chunks) c.in_ok-met.ensures.ran.volume.store.layout in
          let missing = subst (λ (l : List Chunk). Adds (tree_missing l runs tree.id met.uses.loose met.uses.used) found found') are
          (put.found runs same) in
          let is = file_tree_met B c.unpaired_law.ensures c.keeps_law.ensures.uses tree c.new.result met c.new.ensures h in
          let paired : _ ≡ true = sym put.paired ∙ c.if-paired.true in
          record {
            treats = treats_paired B chunks runs tree met found found' old.subvolumes new.subvolumes is paired missing
                (put.entries ∙ ap (λ b. entries_if b tree.id met.names.subvolumes old.subvolumes) c.if-paired.true);
            kept = put.sound fs same (λ yes none. kept_met fs rooted met c.chunks-chunks.result.now is are paired below none) kept;
          });
    }

pub returns-else-paired : goal.returns-else-paired
returns-else-paired g c =
    let x = world (g.R.Rack.seen c.args.rack.now) c.args.vol.now in
    let y = world (g.R.Rack.seen c.collect.new.rack) c.collect.new.vol in
    let z = world (g.R.Rack.seen c.put_names.new.rack) c.put_names.new.vol in
    let rooted = c.args.rooted in
    let tree = rooted.tree in
    let met = c.in_ok-met.met in
    let found = c.args.found.now in
    let found' = c.put_met.new.found in
    let found'' = c.put_names.new.found in
    let old = c.args.kept.now in
    let mid = c.put_met.new.kept in
    let names'' = c.put_names.new.subvolumes in
    let put = c.in-Ok.ensures in
    record {
      ran = ran_then {A = FileTree} {C = Unit {0}} (λ fs. met ≡ fold file_step c.new.result (marks_if fs.blocks (Some tree)))
          (λ fs. Unless (λ u. TreatsNames fs.blocks tree found' found'' mid.subvolumes names'') c.put_names.result)
          (λ fs. AreSumRanges fs c.args.sums.now → AreKept fs old.sound.items → AreBelow fs tree rooted.children.items
          → Unless (λ u. TreatsAll fs (tree ∷ []) found found'' old.subvolumes names'' mid.sound.items) c.put_names.result) x y z met c.put_names.result
          c.in_ok-met.ensures.ran c.put_names.ensures.ran
          (λ B h q same kept below.
          let fs = filesystem c.args.vol.now B in
          let runs = sum_runs fs in
          let chunks = c.args.vol.now.store.layout.chunks in
          let are : c.chunks-chunks.result.now ≡ chunks = c.chunks-chunks.ensures ∙ ap (λ (l : Layout). l.chunks) c.in_ok-met.ensures.ran.volume.store.layout in
          let missing = subst (λ (l : List Chunk). Adds (tree_missing l runs tree.id met.uses.loose met.uses.used) found found') are
          (put.found runs same) in
          let is = file_tree_met B c.unpaired_law.ensures c.keeps_law.ensures.uses tree c.new.result met c.new.ensures h in
          unless_more (λ u. TreatsNames B tree found' found'' mid.subvolumes names'')
          (λ u. TreatsAll fs (tree ∷ []) found found'' old.subvolumes names'' mid.sound.items) c.put_names.result
          (λ u treats. record {
            treats = treats_looked B chunks runs tree met found found' found'' old.subvolumes mid.subvolumes names'' is missing
                (put.entries ∙ ap (λ b. entries_if b tree.id met.names.subvolumes old.subvolumes) c.if-paired.false) treats;
            kept = put.sound fs same (λ yes none. absurd (not_both c.in-Ok.paired yes c.if-paired.false)) kept;
          }) q)
          (λ B p want w. w);
    }
