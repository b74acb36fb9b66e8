-- What bringing a plain sector's copies up to date did.
use Rattle.std.specs.Prelude.{◌≡◌, ℕ, Bool, false, List, Option, Some, None, IfOk, Result, Ok, Err}
use Rattle.btr_rack.specs.Rack.{Seen}
use Rattle.btr_read.specs.Candidates.{Target}
use Rattle.btr_read.specs.Fate.{sought}
use Rattle.btr_read.specs.Store.{Blocks, IsLentBy, Lent, SameLoans, block_of}
use Rattle.btr_read.specs.declared.want.Want.{Want}
use Rattle.btr_scrub_copies.specs.Fresh.{Failing, flagged, fresh, fresh_writes, freshened, lies_behind}
use Rattle.btr_scrub_copies.specs.Mending.{Repairs}
use Rattle.btr_scrub_copies.specs.Writes.{Images}
use Rattle.btr_scrub_copies.specs.declared.mended.MendFault.{MendFault}
use Rattle.btr_scrub_copies.specs.declared.mended.Mended.{Mended}

-- a plain sector was brought up to date: the writes are those of its fresh bytes over what is stale
abbrev pub Freshens : Failing → Target → Bool → List Bool → List Bool → Seen → Seen → Result Mended MendFault → Type 0
Freshens failing t write marks marks' old new result =
    Repairs t write (λ images. fresh_writes images failing t) (λ images. freshened images failing t write) marks marks' old new result

-- a block of a want is lent, if there is one, and nothing else
abbrev pub LendsAny : Want → Blocks → Blocks → Result (Option Lent) MendFault → Type 0
LendsAny want old new (Ok (Some loan)) = IsLentBy old new want loan
LendsAny want old new (Ok None) = SameLoans old new
LendsAny want old new (Err fault) = SameLoans old new

-- the bytes that are lent, if any are
abbrev pub lent_bytes : Blocks → Option Lent → Option (List ℕ)
lent_bytes store None = None
lent_bytes store (Some loan) = block_of store loan

-- this holds of the bytes of a loan
abbrev pub OfLoan : Blocks → Lent → (List ℕ → Type 0) → Type 0
OfLoan store loan Fact = (bytes : List ℕ) → block_of store loan ≡ Some bytes → Fact bytes

-- the bytes that are lent are the fresh bytes
abbrev pub FindsFresh : Images → Failing → Target → Blocks → Result (Option Lent) MendFault → Type 0
FindsFresh images failing t store result = IfOk result (λ found. lent_bytes store found ≡ fresh images failing t)

-- ---- a plain sector, by its position, with the images flagged on which some checked block doesn't pass

-- it was brought up to date in its copies
abbrev pub MendsFresh : Blocks → Want → Bool → List Bool → List Bool → List Bool → Seen → Seen → Result Mended MendFault → Type 0
MendsFresh store want write flags marks marks' old new result =
    (t : Target) → sought store.layout want ≡ Ok t → Freshens (flagged flags) t write marks marks' old new result

-- where none of its copies lies on an image that is behind, nothing was done
abbrev pub RestsUnread : Blocks → Want → List Bool → Seen → Seen → Type 0
RestsUnread store want flags old new = (t : Target) → sought store.layout want ≡ Ok t → lies_behind (flagged flags) t ≡ false → new ≡ old
