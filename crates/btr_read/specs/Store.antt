-- What a contract sees of a store and of its loans.
use Rattle.std.specs.Prelude.{◌≡◌, ℕ, ◌+◌, ◌<◌, ◌≤◌, Bool, true, false, List, [], ◌∷◌, ◌++◌, length, take, drop, replicate, Option, Some, None}
use Rattle.std.specs.Prelude.{IsSome, IsSomeAnd, is_none, slice_index_or, slice_set, count_by}
use Rattle.std.specs.Option.{option_map}
use Rattle.btr_base.specs.declared.kind.SumKind.{SumKind}
use Rattle.btr_chunk.specs.declared.chunk.Chunk.{Chunk}
use Rattle.btr_node.specs.Node.{node_of}
use Rattle.btr_pool.specs.Slots.{Slots}
use Rattle.btr_read.specs.declared.device.Member.{Member}
use Rattle.btr_read.specs.declared.setting.Setting.{Setting}
use Rattle.btr_read.specs.declared.want.Want.{Want}
use Rattle.btr_read.specs.declared.want.Want.TheVariants.{Tree, Block, Sector, Plain}
use Rattle.btr_read.specs.Want.{len_of}
use Rattle.btr_read.specs.Layout.{Layout}

-- a loan: the number of its slot, and how many bytes it has
pub record Lent : Type 0 where
  pub slot : ℕ
  pub len : ℕ

-- a block that is kept: its want and its bytes
pub record Kept : Type 0 where
  pub want : Want
  pub bytes : List ℕ

-- a store: how blocks are found and tested, and by slot the bytes of its loan, if one is live,
-- and the block that is kept in it, if one is
pub record Blocks : Type 0 where
  pub layout : Layout
  pub loans : List (Option (List ℕ))
  pub kept : List (Option Kept)

-- the block of a want in a slot with these bytes
abbrev pub block_in : Setting → List ℕ → Want → Kept
block_in setting bytes want = record { want = want; bytes = take (len_of setting want) bytes }

-- the blocks that are kept by slot, where these are the wants whose blocks stand in the slots, and the slots' bytes
abbrev pub kept_in : Setting → List (Option Want) → List (List ℕ) → List (Option Kept)
kept_in setting [] slots = []
kept_in setting (want ∷ wants) slots = option_map (block_in setting (slice_index_or slots 0 [])) want ∷ kept_in setting wants (drop 1 slots)

-- only tree blocks are kept
abbrev pub kept_want : Want → Option Want
kept_want (Tree addr generation level) = Some (Tree addr generation level)
kept_want (Block addr) = Some (Block addr)
kept_want (Sector addr sum) = None
kept_want (Plain addr) = None

-- each slot is as long as a node
pub record IsStore (pool : Slots) (setting : Setting) : Type 0 where
  pub size : pool.size ≡ setting.nodesize
  pub large : 4096 ≤ setting.nodesize
  pub small : setting.nodesize ≤ 65536
  pub whole : length pool.bytes ≡ length pool.lent
  pub count : length pool.bytes ≡ 24

-- a block is a good node
abbrev pub IsNode : List ℕ → Type 0
IsNode block = IsSome (node_of block)

-- by the wants whose blocks stand in the slots, which of them are known to be good nodes, and the
-- slots' bytes: those that are known to be are
abbrev pub AreNodes : List (Option Want) → List Bool → List (List ℕ) → ℕ → Type 0
AreNodes wants nodes slots size =
    (k : ℕ) (want : Want) → slice_index_or wants k None ≡ Some want → slice_index_or nodes k false ≡ true → IsNode (take size (slice_index_or slots k []))

-- each slot is as long as a node, and the blocks that are known to be good nodes are
pub record IsSound (pool : Slots) (wants : List (Option Want)) (nodes : List Bool) (setting : Setting) : Type 0 where
  pub store : IsStore pool setting
  pub known : AreNodes wants nodes pool.bytes setting.nodesize

-- the bytes of a slot's loan, if it is live
abbrev pub loan_in : Blocks → ℕ → Option (List ℕ)
loan_in store slot = slice_index_or store.loans slot None

-- the bytes of a loan, if it is live
abbrev pub block_of : Blocks → Lent → Option (List ℕ)
block_of store loan = option_map (take loan.len) (loan_in store loan.slot)

-- the block that is kept in a slot, if one is
abbrev pub kept_at : Blocks → ℕ → Option Kept
kept_at store slot = slice_index_or store.kept slot None

-- a slot keeps the block of a want
abbrev pub KeepsIn : Blocks → ℕ → Want → Type 0
KeepsIn store slot want = IsSomeAnd (kept_at store slot) (λ kept. kept.want ≡ want)

-- a free slot keeps the block of a want
pub record KeepsFree (store : Blocks) (want : Want) : Type 0 where
  pub slot : ℕ
  pub there : slot < length store.loans
  pub free : loan_in store slot ≡ None
  pub keeps : KeepsIn store slot want

-- no block is kept in any slot
abbrev pub none_kept : List (Option Kept)
none_kept = replicate 24 None

-- how many slots are free
abbrev pub free_count : Blocks → ℕ
free_count store = count_by is_none store.loans

-- a loan is live, and as long as a block may be
pub record IsLiveIn (store : Blocks) (loan : Lent) : Type 0 where
  pub live : IsSome (loan_in store loan.slot)
  pub fits : loan.len ≤ store.layout.setting.nodesize

-- the store with these bytes lent, or with nothing lent, in a slot
abbrev pub with_loan : Blocks → ℕ → Option (List ℕ) → Blocks
with_loan store slot loan = record { layout = store.layout; loans = slice_set store.loans slot loan; kept = store.kept }

-- the store of these chunks with no device, which keeps nothing
abbrev pub store_of : List Chunk → SumKind → List ℕ → ℕ → Blocks
store_of chunks kind fsid nodesize = record {
  layout = record { chunks = chunks; devices = []; setting = record { kind = kind; fsid = fsid; nodesize = nodesize } };
  loans = replicate 24 None;
  kept = none_kept;
}

-- the store with other chunks, which keeps nothing
abbrev pub with_chunks : Blocks → List Chunk → Blocks
with_chunks store chunks = record {
  layout = record { chunks = chunks; devices = store.layout.devices; setting = store.layout.setting };
  loans = store.loans;
  kept = none_kept;
}

-- the store with one more device, which keeps nothing
abbrev pub with_member : Blocks → Member → Blocks
with_member store member = record {
  layout = record { chunks = store.layout.chunks; devices = store.layout.devices ++ member ∷ []; setting = store.layout.setting };
  loans = store.loans;
  kept = none_kept;
}

-- the store with one more device, by its id: the image of a length in a slot, older or not
abbrev pub with_device : Blocks → ℕ → ℕ → ℕ → Bool → Blocks
with_device store devid slot len older = with_member store (record { devid = devid; device = record { slot = slot; len = len; older = older } })

-- the store that keeps nothing
abbrev pub without_kept : Blocks → Blocks
without_kept store = record { layout = store.layout; loans = store.loans; kept = none_kept }

-- the layout and the loans are as before
pub record SameLoans (old new : Blocks) : Type 0 where
  pub layout : new.layout ≡ old.layout
  pub loans : new.loans ≡ old.loans

-- a loan of a want is new, and the layout and the other loans are as before
pub record IsLentBy (old new : Blocks) (want : Want) (loan : Lent) : Type 0 where
  pub there : loan.slot < length old.loans
  pub free : loan_in old loan.slot ≡ None
  pub layout : new.layout ≡ old.layout
  pub after : (written : List ℕ) × (new.loans ≡ slice_set old.loans loan.slot (Some written))
  pub len : loan.len ≡ len_of old.layout.setting want
  pub large : 4096 ≤ loan.len
  pub small : loan.len ≤ 65536
  pub live : IsLiveIn new loan
  pub fewer : free_count new + 1 ≡ free_count old
