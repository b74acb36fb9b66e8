-- The checksums of data.
use Rattle.std.specs.Prelude.{ℕ, ◌+◌, ◌-◌, ◌*◌, ◌/◌, ◌^◌, Bool, ◌&&◌, ◌==◌, nat_le, nat_lt, if◌then◌else◌, List, drop, Option, Some, None, unwrap_or}
use Rattle.std.specs.Borrow.{Bor}
use Rattle.btr_base.specs.Sum.{kind_of_type, sum_size, stored_sum}
use Rattle.btr_base.specs.declared.key.Key.{Key}
use Rattle.btr_base.specs.declared.kind.SumKind.{SumKind}
use Rattle.btr_base.specs.declared.kind.SumKind.TheVariants.{Crc32c}
use Rattle.btr_base.specs.declared.stored.Sum.{Sum}
use Rattle.btr_items.specs.SumRun.{sum_run_of}
use Rattle.btr_items.specs.Types.{extent_csum}
use Rattle.btr_items.specs.declared.sum_run.SumRun.{SumRun}
use Rattle.btr_prog.specs.Prog.{Return, bind}
use Rattle.btr_super.specs.declared.superblock.Super.{Super}
use Rattle.btr_walk.specs.declared.place.RootPlace.{RootPlace}
use Rattle.btr_walk.specs.Le.{TreeItem, le}
use Rattle.btr_volume.specs.declared.root.TreeRoot.{TreeRoot}
use Rattle.btr_volume.specs.Lookup.{Lookup, formed}
use Rattle.btr_volume.specs.Tree.{key}

-- the kind of a filesystem's checksums, by its superblock; one that was opened has a kind that is known
abbrev pub kind_in : Super → SumKind
kind_in s = unwrap_or (kind_of_type s.csum_type) Crc32c

-- the objectid of all checksums of data: minus 10
abbrev pub sums_objectid : ℕ
sums_objectid = 2 ^ 64 - 10

-- a run has a checksum for the sector at an address
abbrev pub covers : SumRun → ℕ → Bool
covers run addr = nat_le run.start addr && nat_lt addr (run.start + run.count * 4096)

-- the checksum of the sector at an address, if a run covers it
abbrev pub sum_in : SumKind → ℕ → List ℕ → SumRun → Option Sum
sum_in kind addr body run = if covers run addr then Some (stored_sum kind (drop ((addr - run.start) / 4096 * sum_size kind) body)) else None

-- a key is of an item of checksums
abbrev pub is_sums : Key → Bool
is_sums key = (key.objectid == sums_objectid) && (key.kind == extent_csum)

-- the checksum in what was found for an address: none where it is another item
abbrev pub sum_found : SumKind → ℕ → Option TreeItem → Lookup (Option Sum)
sum_found kind addr None = Return None
sum_found kind addr (Some item) =
    if is_sums item.key then formed item (sum_run_of kind item.key item.body) (λ run. Return (sum_in kind addr item.body run))
    else Return None

-- the checksum of the sector at an address, in the tree with this root: none where no item covers it
abbrev pub sum_under : SumKind → RootPlace → ℕ → Lookup (Option Sum)
sum_under kind root addr = bind (le root (key sums_objectid extent_csum addr)) (sum_found kind addr)

-- the checksum tree behind a reference, if there is one
abbrev pub tree_behind : Option (Bor TreeRoot) → Option TreeRoot
tree_behind None = None
tree_behind (Some tree) = Some tree.now

-- the lookup of the checksum of the sector at an address: none where there is no checksum tree
abbrev pub sum_at : SumKind → Option TreeRoot → ℕ → Lookup (Option Sum)
sum_at kind None addr = Return None
sum_at kind (Some sums) addr = sum_under kind sums.place addr
