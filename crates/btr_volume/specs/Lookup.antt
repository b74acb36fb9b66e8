-- Lookups: programs over wants without steps, whose values are what was looked up.
use Rattle.std.specs.Prelude.{Result, Ok, Err}
use Rattle.btr_prog.specs.Prog.{Prog, Return, Stop, bind}
use Rattle.btr_prog.specs.Quiet.{quiet}
use Rattle.btr_prog.specs.Thread.{thread}
use Rattle.btr_read.specs.Fate.{Fault, Malformed}
use Rattle.btr_read.specs.declared.want.Want.{Want}
use Rattle.btr_items.specs.declared.fault.ItemFault.{ItemFault}
use Rattle.btr_walk.specs.Le.{TreeItem}

-- a program over the wants of blocks
abbrev pub Program : Type 0 → Type 0 → Type 0
Program S A = Prog Want Fault S A

-- a program that looks something up
abbrev pub Lookup : Type 0 → Type 0
Lookup A = Program ⊥ A

-- a lookup, and then a program by its value
abbrev pub looks : {S A C : Type 0} → Lookup A → (A → Program S C) → Program S C
looks p k = bind (quiet p) k

-- on by what an item holds; one that breaks its form makes its leaf malformed
abbrev pub formed : {S X A : Type 0} → TreeItem → Result X ItemFault → (X → Program S A) → Program S A
formed item (Ok fields) k = k fields
formed item (Err fault) k = Stop (Malformed item.leaf)

-- each step of a program is treated wholly before the next block is wanted; the state goes from one to the next
abbrev pub each : {S T St : Type 0} → (St → S → Program T St) → St → Program S (Unit {0}) → Program T St
each treat state p = thread (λ st s. bind (treat st s) (λ st'. Return (Ok st'))) (λ st u. st) state p
