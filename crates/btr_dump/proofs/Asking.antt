-- A tree that was asked for.
use Rattle.std.proofs.Common.{◌≡◌, ℕ, List, [], Option, Some, None, Result, Ok, Err, refl, sym, subst}
use Rattle.btr_base.specs.declared.kind.SumKind.{SumKind}
use Rattle.btr_prog.specs.Prog.{Return, run, exec, and_then, wants_of}
use Rattle.btr_prog.specs.Quiet.{quiet}
use Rattle.btr_prog.specs.Answers.{Halt, Broke, Follows, no_part}
use Rattle.btr_prog.proofs.Follow.{follows_then, follows_halt, follows_value, follows_alone, follows_as}
use Rattle.btr_prog.proofs.Quieting.{follows_quiet}
use Rattle.btr_prog.proofs.Runs.{exec-bind}
use Rattle.btr_read.specs.Fate as fate
use Rattle.btr_read.specs.declared.want.Want.{Want}
use Rattle.btr_text.proofs.Writing.{adds_nothing}
use Rattle.btr_walk.specs.declared.fault.TreeFault.{TreeFault}
use Rattle.btr_walk.specs.Reading.{Map, UnreadBlock, halt_of}
use Rattle.btr_volume.specs.Lookup.{Lookup, looks}
use Rattle.btr_volume.specs.declared.root.TreeRoot.{TreeRoot}
use Rattle.btr_volume.specs.declared.stop.Stop.{Stop}
use Rattle.btr_volume.specs.declared.stop.Stop.TheVariants.{NoTree, Tree, Deletion, Balance, Missing, Image, Sink, Out, Memory}
use Rattle.btr_dump.specs.Pieces.{Text, Asked, tree_shown, found_tree}
use Rattle.btr_dump.specs.Showing.{part, TextRun, AskedFollows, StopFollows, PutsText, PutsAsked}

module _ (Is : UnreadBlock → Want → Type 0) (B : Map) (kind : SumKind) (id : ℕ) (lookup : Lookup (Option TreeRoot)) where
  -- the text of the tree that a lookup finds, or that there is none
  abbrev asked : Asked
  asked = looks lookup (found_tree kind id)

  -- the run of the lookup
  abbrev looked : TextRun (Option TreeRoot)
  looked = exec B (quiet lookup)

  -- the run of what comes of what was found
  abbrev next : Option TreeRoot → TextRun (Option ℕ)
  next found = exec B (found_tree kind id found)

  -- what follows the lookup and what comes of it, one after the other, follows the whole
  of_parts : (done : List Text) (ans : Result (Option ℕ) (Halt fate.Fault UnreadBlock)) → Follows Is part [] (and_then looked next) done ans
      → Follows Is part [] (exec B asked) done ans
  of_parts done ans f = subst (λ r. Follows Is part [] r done ans) (sym (exec-bind B (quiet lookup) (found_tree kind id))) f

  -- the root tree can't be read on
  pub asked_fault : (text : Option Text) (f : TreeFault) → Follows {S = ⊥} Is no_part [] (exec B lookup) [] (Err (halt_of f))
      → PutsAsked Is (exec B asked) text text (Err (Tree f))
  asked_fault text f h = record {
    done = [];
    adds = adds_nothing text;
    follows = of_parts [] (Err (halt_of f)) (follows_halt Is part [] looked next [] (halt_of f) (follows_quiet Is part [] B lookup [] (Err (halt_of f)) h));
  }

  -- where the lookup found something or nothing, what follows what comes of that follows the whole
  found_then : (found : Option TreeRoot) (done : List Text) (ans : Result (Option ℕ) (Halt fate.Fault UnreadBlock))
      → Follows {S = ⊥} Is no_part [] (exec B lookup) [] (Ok found) → Follows Is part [] (next found) done ans → Follows Is part [] (exec B asked) done ans
  found_then found done ans h g =
      of_parts done ans (follows_then Is part [] looked found next [] done ans (follows_quiet Is part [] B lookup [] (Ok found) h)
      (follows_alone Is part (wants_of looked.marks) (next found) done ans g))

  -- there is no such tree
  pub asked_none : (text : Option Text) → Follows {S = ⊥} Is no_part [] (exec B lookup) [] (Ok None) → PutsAsked Is (exec B asked) text text (Err (NoTree id))
  asked_none text h = record { done = []; adds = adds_nothing text; follows = found_then None [] (Ok (Some id)) h (refl, refl) }

  -- the tree was put
  pub asked_some : (root : TreeRoot) (Later : UnreadBlock → Want → Type 0) → ((u : UnreadBlock) (w : Want) → Later u w → Is u w)
      → (old new : Option Text) (result : Result (Unit {0}) Stop) → Follows {S = ⊥} Is no_part [] (exec B lookup) [] (Ok (Some root))
      → PutsText Later (exec B (tree_shown kind root)) old new result → PutsAsked Is (exec B asked) old new result
  asked_some root Later weaker old new result h p = record { done = p.done; adds = p.adds; follows = by result p.follows }
    where
      shown : TextRun (Unit {0})
      shown = exec B (tree_shown kind root)

      -- what comes of a tree that was found is its text, and then that there was one
      whole_is : next (Some root) ≡ and_then shown (λ u. run [] (Ok None))
      whole_is = exec-bind B (tree_shown kind root) (λ u. Return None)

      -- a want that couldn't be read by the tree's calls couldn't be by all calls
      weak : (ans : Result (Unit {0}) (Halt fate.Fault UnreadBlock)) → Follows Later part [] shown p.done ans → Follows Is part [] shown p.done ans
      weak ans f = follows_as Later Is weaker part [] shown p.done ans f

      -- where the tree's text was put to its end, the whole was
      all : Follows Later part [] shown p.done (Ok tt) → Follows Is part [] (exec B asked) p.done (Ok None)
      all f = found_then (Some root) p.done (Ok None) h (subst (λ r. Follows Is part [] r p.done (Ok None)) (sym whole_is)
          (follows_value Is part [] (λ u. None) shown tt p.done (weak (Ok tt) f)))

      -- what halts the tree's text halts the whole
      halts : (x : Halt fate.Fault UnreadBlock) → Follows Later part [] shown p.done (Err x) → Follows Is part [] (exec B asked) p.done (Err x)
      halts x f = found_then (Some root) p.done (Err x) h (subst (λ r. Follows Is part [] r p.done (Err x)) (sym whole_is)
          (follows_halt Is part [] shown (λ u. run [] (Ok None)) p.done x (weak (Err x) f)))

      by : (result : Result (Unit {0}) Stop) → StopFollows Later shown p.done result → AskedFollows Is (exec B asked) p.done result
      by (Ok u) f = all f
      by (Err (Tree f)) g = halts (halt_of f) g
      by (Err Out) g = halts Broke g
      by (Err Memory) g = halts Broke g
      by (Err (NoTree n)) g = absurd g
      by (Err (Deletion n)) g = absurd g
      by (Err Balance) g = absurd g
      by (Err (Missing n)) g = absurd g
      by (Err (Image slot)) g = absurd g
      by (Err Sink) g = absurd g
