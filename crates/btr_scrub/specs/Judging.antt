-- What a look at the list of the checked blocks answers.
use Rattle.std.specs.Prelude.{◌≡◌, ◌⊎◌, ℕ, ◌+◌, ◌*◌, ◌<◌, ◌≤◌, List, [], ◌∷◌, IsOk, Result, Ok, Err}
use Rattle.btr_read.specs.Fate as fate
use Rattle.btr_read.specs.Fate.{sought}
use Rattle.btr_read.specs.Layout.{Layout}
use Rattle.btr_read.specs.Want.{addr_of, len_of}
use Rattle.btr_read.specs.declared.want.Want.{Want}
use Rattle.btr_read.specs.declared.want.Want.TheVariants.{Plain}
use Rattle.btr_walk.specs.declared.fault.TreeFault.{TreeFault}
use Rattle.btr_walk.specs.declared.fault.TreeFault.TheVariants.{Lost, Unread, Unmapped, Crosses, Malformed}
use Rattle.btr_scrub.specs.Order.{AreUpTo}

-- a block has a position, and begins at or behind an address
abbrev pub BeginsFrom : Layout → ℕ → Want → Type 0
BeginsFrom layout from want = (from ≤ addr_of want) × IsOk (sought layout want)

-- why one doesn't: it has no position, or it has one and begins before that address
abbrev pub IsRefused : Layout → ℕ → Want → TreeFault → Type 0
IsRefused layout from want (Lost a) = ⊥
IsRefused layout from want (Unread a slot) = ⊥
IsRefused layout from want (Unmapped a) = sought layout want ≡ Err (fate.Unmapped a)
IsRefused layout from want (Crosses a) = sought layout want ≡ Err (fate.Crosses a)
IsRefused layout from want (Malformed a) = (a ≡ addr_of want) × IsOk (sought layout want) × (addr_of want < from)

-- where a block ends that is so, or why it isn't
abbrev pub JudgedOne : Layout → ℕ → Want → Result ℕ TreeFault → Type 0
JudgedOne layout from want (Ok end) = BeginsFrom layout from want × (end ≡ addr_of want + len_of layout.setting want)
JudgedOne layout from want (Err fault) = IsRefused layout from want fault

-- plain sectors one behind another from an address on, which begin before a bound, have a position
abbrev pub ArePlaced : Layout → ℕ → ℕ → Type 0
ArePlaced layout addr bound =
    (i : ℕ) → addr + i * 4096 < bound → IsOk (sought layout (Plain (addr + i * 4096)))

-- the first block of a list that isn't behind the one before it, the first one behind an address, and why
abbrev pub IsFirstRefused : Layout → ℕ → List Want → TreeFault → Type 0
IsFirstRefused layout end [] fault = ⊥
IsFirstRefused layout end (want ∷ wants) fault =
    IsRefused layout end want fault ⊎ (BeginsFrom layout end want × IsFirstRefused layout (addr_of want + len_of layout.setting want) wants fault)

-- all blocks of a list have a position and are apart, from an address on, and where they end; or why one doesn't
abbrev pub Judged : Layout → ℕ → List Want → Result ℕ TreeFault → Type 0
Judged layout from wants (Ok end) = AreUpTo layout from end wants
Judged layout from wants (Err fault) = IsFirstRefused layout from wants fault
