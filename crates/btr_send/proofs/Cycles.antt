-- A directory in another one.
use Rattle.std.proofs.Common.{◌≡◌, ℕ, ◌+◌, zero, suc, List, Option, Result, refl, sym, ap, ◌∙◌, subst, arith}
use Rattle.btr_super.specs.declared.superblock.Super.{Super}
use Rattle.btr_volume.specs.Lookup.{each}
use Rattle.btr_volume.specs.declared.root.TreeRoot.{TreeRoot}
use Rattle.btr_volume.specs.declared.stop.Stop.{Stop as TheStop}
use Rattle.btr_files.specs.declared.counts.Counts.{Counts}
use Rattle.btr_files.specs.Entries.{entries}
use Rattle.btr_restore.specs.Journey as journey
use Rattle.btr_restore.specs.Journey.{Listing}
use Rattle.btr_restore.specs.Running.{World, Ran}
use Rattle.btr_send.specs.Sending.{directory, listed_in}
use Rattle.btr_send.specs.Listing.{listing_in, treat_in}

-- a directory, below which so many more may be entered, entry by entry
pub directory_is : (s : Super) (sums : Option TreeRoot) (k : ℕ) (tree : TreeRoot) (dirid : ℕ) (path : List ℕ) (counts : Counts)
    → each (treat_in sums s k tree dirid path) counts (entries tree dirid) ≡ directory s sums k tree dirid path counts
directory_is s sums zero tree dirid path counts = refl
directory_is s sums (suc n) tree dirid path counts = refl

-- the listing of one of some places
pub listing_is : (s : Super) (sums : Option TreeRoot) (dirs below : ℕ) → dirs ≡ below + 1 → listing_in sums s dirs ≡ directory s sums below
listing_is s sums dirs below e = ap (listing_in sums s) (e ∙ step below)
  where
    step : (k : ℕ) → k + 1 ≡ suc k
    step k = omega arith

-- what is in a directory
pub within_listed : (s : Super) (sums : Option TreeRoot) (dirs below : ℕ) → dirs ≡ below + 1 → (inner : TreeRoot) (dirid : ℕ) (path : List ℕ)
    (counts : Counts) (x y : World) (r : Result Counts TheStop) → Ran (directory s sums below inner dirid path counts) x y r
    → Ran (listed_in s sums (listing_in sums s dirs) path (journey.Within inner dirid counts)) x y r
within_listed s sums dirs below is inner dirid path counts x y r h =
    subst (λ (l : Listing). Ran (l inner dirid path counts) x y r) (sym (listing_is s sums dirs below is)) h
