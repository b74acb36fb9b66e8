-- What is made of the items of a range, one after another, as a program over wants.
use Rattle.std.specs.Prelude.{◌≡◌, ℕ, Result, Ok, Err}
use Rattle.btr_base.specs.declared.key.Key.{Key}
use Rattle.btr_prog.specs.Prog.{Prog, Return, Stop}
use Rattle.btr_prog.specs.Thread.{thread}
use Rattle.btr_read.specs.Fate.{Fault, Malformed}
use Rattle.btr_read.specs.declared.want.Want.{Want}
use Rattle.btr_walk.specs.declared.folder.Took.{Took}
use Rattle.btr_walk.specs.declared.folder.Took.TheVariants as took
use Rattle.btr_walk.specs.declared.place.RootPlace.{RootPlace}
use Rattle.btr_walk.specs.Le.{TreeItem}
use Rattle.btr_walk.specs.Range.{RangeProg, range}

-- what an item makes of a state: the next state, or the answer, or the item breaks its form
pub data Next (St R : Type 0) : Type 0 where
  Go : St → Next St R
  End : R → Next St R
  Broken : Next St R

module _ {St R : Type 0} where
  -- the same as a program: an item that breaks its form makes its leaf malformed
  abbrev pub next_prog : ℕ → Next St R → Prog Want Fault ⊥ (Result St R)
  next_prog leaf (Go st) = Return (Ok st)
  next_prog leaf (End r) = Return (Err r)
  next_prog leaf Broken = Stop (Malformed leaf)

  module _ (step : St → TreeItem → Next St R) (answer : St → R) where
    -- the items of a program, from a state on
    abbrev pub folded_over : St → RangeProg → Prog Want Fault ⊥ R
    folded_over state items = thread (λ st item. next_prog item.leaf (step st item)) (λ st u. answer st) state items

    -- the items of a tree from one key to another, from a state on
    abbrev pub folded : St → RootPlace → Key → Key → Prog Want Fault ⊥ R
    folded state root lo hi = folded_over state (range lo hi root)

-- a call did what the step says
abbrev pub TakesItem : {St R E : Type 0} → (St → TreeItem → Next St R) → St → TreeItem → St → Result (Took R) E → Type 0
TakesItem step old item new (Ok took.Go) = step old item ≡ Go new
TakesItem step old item new (Ok (took.End r)) = step old item ≡ End r
TakesItem step old item new (Ok took.Broken) = step old item ≡ Broken
TakesItem step old item new (Err e) = Unit {0}
