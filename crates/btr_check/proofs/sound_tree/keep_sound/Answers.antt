use Rattle.std.proofs.Common.{◌≡◌, [], ◌∷◌, ◌++◌, sym, subst}
use Rattle.btr_check.specs.Filesystem.{Filesystem}
use Rattle.btr_check.specs.SoundTrees.{AreKept, IsKeptOf}
use Rattle.btr_check.proofs.Passes.{on_done}
use Rattle.btr_check.proofs.SoundTrees.{kept_after}
use Rattle.btr_check.proofs.sound_tree.keep_sound.Goals as goal

pub returns : goal.returns
returns c =
    let old = c.args.sound.now.items in
    let mid = c.make_room.new.sound.items in
    let new = c.push.new.list.items in
    let one = c.args.one in
    on_done (new ≡ mid ++ one ∷ []) ((fs : Filesystem) → IsKeptOf fs one → AreKept fs old → AreKept fs new) c.push.result
    (λ is fs kept before. subst (AreKept fs) (sym is) (kept_after fs mid one (c.make_room.ensures fs before) kept)) c.push.ensures
