-- What a fetch answers and leaves.
use Rattle.std.proofs.Common.{◌≡◌, ℕ, ◌≤◌, List, take, get_or, Option, Some, None, IsSomeAnd, IsSome, Result, Ok, Err, IfOk, refl, sym, ap, ◌∙◌, subst, arith}
use Rattle.std.specs.Option.{is_some}
use Rattle.btr_chunk.specs.declared.chunk.Chunk.{Chunk}
use Rattle.btr_chunk.specs.declared.position.Elements.{Elements}
use Rattle.btr_chunk.specs.declared.mapping.MapFault.{MapFault}
use Rattle.btr_chunk.specs.declared.mapping.MapFault.TheVariants as map_fault
use Rattle.btr_chunk.specs.Mapping.{elements_of}
use Rattle.btr_chunk.specs.Table.{chunk_at}
use Rattle.btr_pool.specs.Slots.{Slots, IsFree, loans_of, bytes_at, with_lent}
use Rattle.btr_read.specs.declared.device.Member.{Member}
use Rattle.btr_read.specs.declared.setting.Setting.{Setting}
use Rattle.btr_read.specs.declared.want.Want.{Want}
use Rattle.btr_read.specs.declared.want.Want.TheVariants.{Tree, Block, Sector, Plain}
use Rattle.btr_read.specs.Want.{addr_of, len_of}
use Rattle.btr_read.specs.Layout.{Layout}
use Rattle.btr_read.specs.declared.attempt.Attempt.TheVariants as attempt
use Rattle.btr_read.specs.declared.candidate.Candidate.{Candidate}
use Rattle.btr_read.specs.declared.mirror.Tried.TheVariants as tried
use Rattle.btr_read.specs.Candidates.{Target, size_of}
use Rattle.btr_read.specs.Fate.{Fault, sought, sought_in, sought_at}
use Rattle.btr_read.specs.Store.{Blocks, Kept, Lent, IsStore, IsLentBy, block_of}
use Rattle.btr_read.specs.Attempt.{FitsAttempt}
use Rattle.btr_read.specs.Mirror.{IsTried, FitsTried}
use Rattle.btr_read.specs.Writing.{OnlyWrites}
use Rattle.btr_read.proofs.Loans.{blocks, loan_taken, loans_taken, no_loan, length-loans, one_fewer}

-- what is sought has the want, and the setting and the devices of the layout
pub record IsOf (layout : Layout) (want : Want) (t : Target) : Type 0 where
  pub want_is : t.want ≡ want
  pub setting_is : t.setting ≡ layout.setting
  pub devices_is : t.devices ≡ layout.devices

-- what is sought at a position of a chunk has the want, and the setting and the devices of the layout
of_at : (layout : Layout) (want : Want) (t : Target) (chunk : Chunk) (r : Result Elements MapFault) → sought_at layout want chunk r ≡ Ok t → IsOf layout want t
of_at layout want t chunk (Err map_fault.Unmapped) e = cc
of_at layout want t chunk (Err map_fault.Crosses) e = cc
of_at layout want t chunk (Ok at) e =
    let same : record { want = want; setting = layout.setting; chunk = chunk; at = at; devices = layout.devices } ≡ t = cc in
    subst (IsOf layout want) same (record { want_is = refl; setting_is = refl; devices_is = refl })

-- what is sought in a chunk has the want, and the setting and the devices of the layout
of_in : (layout : Layout) (want : Want) (t : Target) (o : Option Chunk) → sought_in layout want o ≡ Ok t → IsOf layout want t
of_in layout want t None e = cc
of_in layout want t (Some chunk) e = of_at layout want t chunk (elements_of chunk (addr_of want) (len_of layout.setting want)) e

-- what is sought for a want has that want, and the setting and the devices of the layout
pub sought_of : (layout : Layout) (want : Want) (t : Target) → sought layout want ≡ Ok t → IsOf layout want t
sought_of layout want t e = of_in layout want t (chunk_at layout.chunks (addr_of want)) e

-- what is sought with the parts of a store
pub located : (chunks : List Chunk) (devices given : List Member) (setting : Setting) (loans : List (Option (List ℕ))) (kept : List (Option Kept))
    (store : Blocks) (want : Want) (t : Target) → blocks chunks devices setting loans kept ≡ store → given ≡ devices
    → sought (record { chunks = chunks; devices = given; setting = setting }) want ≡ Ok t → sought store.layout want ≡ Ok t
located chunks devices given setting loans kept store want t view same e =
    subst (λ layout. sought layout want ≡ Ok t) (ap (λ s. s.layout) view)
    (subst (λ devices. sought (record { chunks = chunks; devices = devices; setting = setting }) want ≡ Ok t) same e)

-- a want is no longer than a node
pub len_fits : (setting : Setting) (want : Want) → 4096 ≤ setting.nodesize → len_of setting want ≤ setting.nodesize
len_fits setting (Tree addr generation level) h = omega arith
len_fits setting (Block addr) h = omega arith
len_fits setting (Sector addr sum) h = h
len_fits setting (Plain addr) h = h

-- what is sought is as long as its want
pub sought_size : (layout : Layout) (want : Want) (t : Target) (setting : Setting) → layout.setting ≡ setting → sought layout want ≡ Ok t
    → size_of t ≡ len_of setting want
sought_size layout want t setting same seeks =
    let is = sought_of layout want t seeks in
    ap (λ s. len_of s t.want) (is.setting_is ∙ same) ∙ ap (len_of setting) is.want_is

-- what is sought fits a slot
pub sought_fits : (layout : Layout) (want : Want) (t : Target) (pool : Slots) (setting : Setting) → layout.setting ≡ setting → sought layout want ≡ Ok t
    → IsStore pool setting → size_of t ≤ pool.size
sought_fits layout want t pool setting same seeks is = omega (arith, sought_size layout want t setting same seeks, len_fits setting want is.large, is.size)

-- a want is no shorter than a sector
len_large : (setting : Setting) (want : Want) → 4096 ≤ setting.nodesize → 4096 ≤ len_of setting want
len_large setting (Tree addr generation level) h = h
len_large setting (Block addr) h = h
len_large setting (Sector addr sum) h = omega arith
len_large setting (Plain addr) h = omega arith

some_is : (o : Option (List ℕ)) (bytes : List ℕ) → o ≡ Some bytes → IsSome o
some_is o bytes e = ap is_some e

-- a slot was taken for a want, and written
pub lent_by : (chunks : List Chunk) (devices : List Member) (setting : Setting) (p0 p2 : Slots) (kept kept' : List (Option Kept)) (k len : ℕ) (old : Blocks)
    (want : Want) → IsStore p0 setting → blocks chunks devices setting (loans_of p0) kept ≡ old → IsFree p0 k → OnlyWrites k (with_lent p0 k) p2
    → len ≡ len_of setting want → IsLentBy old (blocks chunks devices setting (loans_of p2) kept') want (record { slot = k; len = len })
lent_by chunks devices setting p0 p2 kept kept' k len old want is view free writes e =
    subst (λ old. IsLentBy old (blocks chunks devices setting (loans_of p2) kept') want (record { slot = k; len = len })) view (record {
      there = omega (arith, free.there, is.whole, length-loans p0);
      free = no_loan p0 k free;
      layout = refl;
      after = (bytes_at p2 k, loans_taken p0 p2 k is.whole free writes);
      len = e;
      large = omega (arith, e, len_large setting want is.large);
      small = omega (arith, e, len_fits setting want is.large, is.small);
      live = record {
        live = some_is (get_or (loans_of p2) k None) (bytes_at p2 k) (loan_taken p0 p2 k is.whole free writes);
        fits = omega (arith, e, len_fits setting want is.large);
      };
      fewer = one_fewer p0 p2 k free writes;
    })

-- what a mirror that passes says of what is sought
pub tried_passes : (s : Result Target Fault) (t : Target) (c : Candidate) (held : Option (List (List ℕ))) (store : Blocks) (loan : Lent)
    (slot : List ℕ) → s ≡ Ok t → FitsAttempt t c held slot attempt.Passed → block_of store loan ≡ Some (take (size_of t) slot)
    → IfOk s (λ t. FitsTried t c held store (Ok (tried.Passed loan)))
tried_passes s t c held store loan slot e fits block =
    subst (λ s. IfOk s (λ t. FitsTried t c held store (Ok (tried.Passed loan)))) (sym e) (
      fits.0,
      subst (λ o. IsSomeAnd o (IsTried t c held)) (sym block) (record { pass = fits.1; value = fits.2 }),
    )
