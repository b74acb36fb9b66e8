use Rattle.std.proofs.Common.{◌≡◌, ◌++◌, Bool, true, false, List, [], ◌∷◌, Some, None, refl, sym, ap, ◌∙◌, option_to_list, subst}
use Rattle.btr_check_names.specs.Subvolumes.{subvolumes_at}
use Rattle.btr_volume.specs.declared.stop.Stop.TheVariants.{Memory as NoMemory}
use Rattle.btr_check.specs.Counting.{Unless}
use Rattle.btr_check.specs.Differing.{IsSoundBy}
use Rattle.btr_check.specs.Families.{AreSumRanges}
use Rattle.btr_check.specs.Filesystem.{Filesystem}
use Rattle.btr_check.specs.Running.{world, filesystem, is_outside}
use Rattle.btr_check.specs.SoundTrees.{AreBelow, AreKept, TreatsAll}
use Rattle.btr_check.specs.Wanted.{OfTree}
use Rattle.btr_check.specs.declared.sound_tree.SoundTree.{SoundTree}
use Rattle.btr_check.proofs.Passes.{on_both, ran_no_memory, ran_put}
use Rattle.btr_check.proofs.Runs.{ran_more, ran_then}
use Rattle.btr_check.proofs.SoundTrees.{kept_after, kept_before, treats_sound}
use Rattle.btr_check.proofs.file_trees.put_unlike.Goals as goal

-- the first of some trees that are kept
kept_front : (fs : Filesystem) (xs ys : List SoundTree) → AreKept fs (xs ++ ys) → AreKept fs xs
kept_front fs [] ys all = tt
kept_front fs (x ∷ xs) ys all = (all.0, kept_front fs xs ys all.1)

pub returns-then-is_sound_by : goal.returns-then-is_sound_by
returns-then-is_sound_by g c =
    let x = world (g.R.Rack.seen c.args.rack.now) c.args.vol.now in
    let y = world (g.R.Rack.seen c.is_sound_by.new.rack) c.is_sound_by.new.vol in
    let rooted = c.args.rooted in
    let tree = rooted.tree in
    let before = c.in-Some.before in
    let found = c.args.found.now in
    let old = c.args.kept.now in
    let mid = c.pop.new.self.items in
    let popped : old.sound.items ≡ mid ++ before ∷ [] = c.pop.ensures.items ∙ ap (λ o. mid ++ option_to_list o) c.in-Some.is in
    let new = c.keep_passed.new.kept in
    let r = c.or_memory.result in
    let one : SoundTree = record { rooted = rooted; names = before.names; is_plain = true } in
    let put = ran_put {U = OfTree tree.place} (λ fs. AreSumRanges fs c.args.sums.now → c.is_sound_by.result ≡ true → IsSoundBy fs before rooted)
    (λ fs. AreSumRanges fs c.args.sums.now × AreKept fs old.sound.items × AreBelow fs tree rooted.children.items)
    (λ fs. TreatsAll fs (tree ∷ []) found found old.subvolumes new.subvolumes new.sound.items) x y c.is_sound_by.result c.keep_passed.result r
    c.is_sound_by.ensures.ran c.or_memory.ensures
    (λ B by known.
    let fs = filesystem c.args.vol.now B in
    let all = kept_before fs mid before (subst (AreKept fs) popped known.1) in
    let is = by known.0 c.if-is_sound_by.true all.1 known.2 in
    on_both (new.subvolumes ≡ subvolumes_at old.subvolumes tree.id before.names.subvolumes) (new.sound.items ≡ mid ++ one ∷ [])
    (TreatsAll fs (tree ∷ []) found found old.subvolumes new.subvolumes new.sound.items) c.keep_passed.result
    (λ entries sound. record {
      treats = treats_sound fs tree before.names found old.subvolumes new.subvolumes is.sound entries;
      kept = subst (AreKept fs) (sym sound) (kept_after fs mid one all.0 is);
    }) c.keep_passed.ensures.entries c.keep_passed.ensures.sound) in
    record {
      ran = ran_more (λ fs. AreSumRanges fs c.args.sums.now × AreKept fs old.sound.items × AreBelow fs tree rooted.children.items
          → Unless (λ u. TreatsAll fs (tree ∷ []) found found old.subvolumes new.subvolumes new.sound.items) r)
          (λ fs. AreSumRanges fs c.args.sums.now → AreKept fs old.sound.items → AreBelow fs tree rooted.children.items
          → Unless (λ u. TreatsAll fs (tree ∷ []) found found old.subvolumes new.subvolumes new.sound.items) r) x y r put
          (λ B h held kept below. h (held, kept, below));
    }

pub returns-in-Ok : goal.returns-in-Ok
returns-in-Ok g c =
    let x = world (g.R.Rack.seen c.args.rack.now) c.args.vol.now in
    let y = world (g.R.Rack.seen c.is_sound_by.new.rack) c.is_sound_by.new.vol in
    let z = world (g.R.Rack.seen c.put_visited-in-Ok.new.rack) c.put_visited-in-Ok.new.vol in
    let rooted = c.args.rooted in
    let before = c.in-Some.before in
    let old = c.args.kept.now in
    let new = c.put_visited-in-Ok.new.kept in
    let r = c.put_visited-in-Ok.result in
    let mid = c.pop.new.self.items in
    let popped : old.sound.items ≡ mid ++ before ∷ [] = c.pop.ensures.items ∙ ap (λ o. mid ++ option_to_list o) c.in-Some.is in
    let same : c.push.new.list.items ≡ old.sound.items = c.in-Ok.ensures ∙ sym popped in
    record {
      ran = ran_then (λ fs. AreSumRanges fs c.args.sums.now → c.is_sound_by.result ≡ true → IsSoundBy fs before rooted)
          (λ fs. AreSumRanges fs c.args.sums.now → AreKept fs c.push.new.list.items → AreBelow fs rooted.tree rooted.children.items
          → Unless (λ u. TreatsAll fs (rooted.tree ∷ []) c.args.found.now c.put_visited-in-Ok.new.found old.subvolumes new.subvolumes new.sound.items) r)
          (λ fs. AreSumRanges fs c.args.sums.now → AreKept fs old.sound.items → AreBelow fs rooted.tree rooted.children.items
          → Unless (λ u. TreatsAll fs (rooted.tree ∷ []) c.args.found.now c.put_visited-in-Ok.new.found old.subvolumes new.subvolumes new.sound.items) r)
          x y z c.is_sound_by.result r c.is_sound_by.ensures.ran c.put_visited-in-Ok.ensures.ran
          (λ B p q held kept below. q held (subst (AreKept (filesystem c.args.vol.now B)) (sym same) kept) below) (λ B p want w. w);
    }

pub returns-in-Err : goal.returns-in-Err
returns-in-Err g c =
    let x = world (g.R.Rack.seen c.args.rack.now) c.args.vol.now in
    let y = world (g.R.Rack.seen c.is_sound_by.new.rack) c.is_sound_by.new.vol in
    let rooted = c.args.rooted in
    record {
      ran = ran_no_memory (λ fs. AreSumRanges fs c.args.sums.now → c.is_sound_by.result ≡ true → IsSoundBy fs c.in-Some.before rooted)
          (λ fs. AreSumRanges fs c.args.sums.now → AreKept fs c.args.kept.now.sound.items → AreBelow fs rooted.tree rooted.children.items
          → is_outside NoMemory ≡ true) x y c.is_sound_by.result c.is_sound_by.ensures.ran (λ B held kept below. refl);
    }

pub returns-in_default : goal.returns-in_default
returns-in_default g c =
    let x = world (g.R.Rack.seen c.args.rack.now) c.args.vol.now in
    let y = world (g.R.Rack.seen c.put_visited.new.rack) c.put_visited.new.vol in
    let tree = c.args.rooted.tree in
    let block_pointers = c.args.rooted.children.items in
    let old = c.args.kept.now in
    let new = c.put_visited.new.kept in
    let r = c.put_visited.result in
    record {
      ran = ran_more (λ fs. AreSumRanges fs c.args.sums.now → AreKept fs c.pop.new.self.items → AreBelow fs tree block_pointers
          → Unless (λ u. TreatsAll fs (tree ∷ []) c.args.found.now c.put_visited.new.found old.subvolumes new.subvolumes new.sound.items) r)
          (λ fs. AreSumRanges fs c.args.sums.now → AreKept fs old.sound.items → AreBelow fs tree block_pointers
          → Unless (λ u. TreatsAll fs (tree ∷ []) c.args.found.now c.put_visited.new.found old.subvolumes new.subvolumes new.sound.items) r) x y r
          c.put_visited.ensures.ran
          (λ B h held kept below. h held
          (kept_front (filesystem c.args.vol.now B) c.pop.new.self.items (option_to_list c.pop.result)
          (subst (AreKept (filesystem c.args.vol.now B)) c.pop.ensures.items kept)) below);
    }
