-- What a store ends as, once what was lent from it has ended.
use Rattle.std.specs.Prelude.{Option, Some, None, IfSome, ⊤}
use Rattle.std.specs.Borrow.{follows_so, MutBor, Fml}
use mathlib.Core.Option.{none}
use Rattle.btr_rack.specs.Rack.{Seen}
use Rattle.btr_read.specs.Serves.{Serves}
use Rattle.btr_read.specs.Store.{Blocks, Lent, SameLoans, with_loan, IsLiveIn}
use Rattle.btr_read.specs.contracts.store.Store.{the_row}

-- the store without a loan
abbrev pub base : Blocks → Option Lent → Blocks
base store None = store
base store (Some loan) = with_loan store loan.slot None

-- the loan is live, and but for it the loans are as they were; the rack serves the store
pub record IsLentOnly (rack : Seen) (old new : Blocks) (loan : Option Lent) : Type 0 where
  pub same : SameLoans old (base new loan)
  pub live : IfSome loan (IsLiveIn new)
  pub serves : Serves rack new

-- once what was lent has ended, the store has this loan, and but for it the loans that it had
abbrev pub EndsWith : Seen → MutBor Blocks → Option Lent → Fml
EndsWith rack store loan = follows_so the_row the_row store.ghost_name none (λ _ _. ⊤) (λ new. IsLentOnly rack store.now new loan)
