-- The steps of the test of a superblock.
use Rattle.std.proofs.Common.{◌≡◌, ℕ, true, false, eqb, List, refl, Err, Ok, Some, None, arith, eq-eqb}
use Rattle.std.specs.Str.{bytes_eq}
use Rattle.std.proofs.lemmas.Bool.Decides.{nat_tests}
use Rattle.btr_base.specs.Field.{number_at, bytes_at}
use Rattle.btr_base.specs.Sum.{kind_of_type, is_summed}
use Rattle.btr_base.specs.declared.kind.SumKind.{SumKind as Kind}
use Rattle.btr_super.specs.Super.{superblock, super_of, magic}
use Rattle.btr_super.specs.declared.fault.SuperFault.TheVariants.{Magic, Place, SumKind, Sum}

-- numbers that differ fail the test of equality
differs : (x y : ℕ) → (x ≡ y → ⊥) → eqb x y ≡ false
differs x y ne = grind (arith, nat_tests)

module _ (bytes : List ℕ) (place : ℕ) where
  -- a copy without the magic is refused for it
  pub no_magic : bytes_eq (bytes_at 8 0x40 bytes) magic ≡ false → superblock bytes place ≡ Err Magic
  unfolding superblock
  no_magic e = rw e refl

  module _ (magical : bytes_eq (bytes_at 8 0x40 bytes) magic ≡ true) where
    -- a copy that states another place is refused for it
    pub misplaced : (number_at 8 0x30 bytes ≡ place → ⊥) → superblock bytes place ≡ Err Place
    unfolding superblock
    misplaced ne = let e = differs (number_at 8 0x30 bytes) place ne in rw (magical, e) refl

    module _ (at_place : number_at 8 0x30 bytes ≡ place) where
      -- a copy that states its place passes the test of it
      placed : eqb (number_at 8 0x30 bytes) place ≡ true
      placed = eq-eqb (number_at 8 0x30 bytes) place at_place

      -- a copy whose checksum type isn't supported is refused for it
      pub other_kind : kind_of_type (number_at 2 0xc4 bytes) ≡ None → superblock bytes place ≡ Err (SumKind (number_at 2 0xc4 bytes))
      unfolding superblock
      other_kind none = rw (magical, placed, none) refl

      module _ (kind : Kind) (of_kind : kind_of_type (number_at 2 0xc4 bytes) ≡ Some kind) where
        -- a copy whose sum is not that of its bytes is refused for it
        pub no_sum : is_summed kind bytes ≡ false → superblock bytes place ≡ Err Sum
        unfolding superblock
        no_sum e = rw (magical, placed, of_kind, e) refl

        -- a copy that passes all tests is the superblock of its fields
        pub good : is_summed kind bytes ≡ true → superblock bytes place ≡ Ok (super_of bytes)
        unfolding superblock
        good e = rw (magical, placed, of_kind, e) refl
