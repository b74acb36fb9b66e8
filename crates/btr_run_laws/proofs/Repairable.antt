-- What a scrub of the example needs.
use Rattle.std.proofs.Common.{◌≡◌, ℕ, ◌/◌, ◌%◌, ◌^◌, ◌<◌, Bool, true, false, cond, List, [], ◌∷◌, ◌++◌, length, get_or, Option, Some, None, Result, Ok, refl}
use Rattle.std.proofs.Common.{sym, ap, ◌∙◌, subst}
use Rattle.std.proofs.Common.{arith, inl, ltb-true}
use Rattle.std.specs.Prelude.{IsSome, filter_map, nat_lt, replicate, slice_get, ◌==◌, ◌&&◌}
use Rattle.std.specs.List.{All, filter, list_all}
use Rattle.std.specs.Option.{IfSome, option_and_then}
use Rattle.std.proofs.lemmas.List.{get_or_default}
use Rattle.std.proofs.lemmas.List.Elements.{All-append, All-cons, All-nil}
use Rattle.std.proofs.lemmas.List.Sums.{AllPass-from_list_all}
use Rattle.byteorder.specs.Endian.{little_bytes}
use Rattle.btr_base.specs.Crc.{crc32c}
use Rattle.btr_chunk.specs.Mapping.{position}
use Rattle.btr_chunk.specs.declared.place.Part.TheVariants.{Mirror}
use Rattle.btr_items.specs.Parts.{parts_within}
use Rattle.btr_node.specs.Block.{entry_count, entry_key, is_leaf, item_at, items}
use Rattle.btr_parity.specs.Slices.{IsSlice}
use Rattle.btr_prog.specs.Maps.{Each}
use Rattle.btr_prog.specs.Prog.{exec, needs, steps_of}
use Rattle.btr_prog.proofs.Runs.{only_needs}
use Rattle.btr_read.specs.Candidates.{Target, size_of}
use Rattle.btr_read.specs.Comparing.{differ, disagreeing, least_slot}
use Rattle.btr_read.specs.Fate.{Fault, fate, or_lost, passing_for, sought, target}
use Rattle.btr_read.specs.Want.{addr_of, passes}
use Rattle.btr_read.specs.declared.candidate.Candidate.TheVariants.{Read}
use Rattle.btr_read.specs.declared.want.Want.{Want}
use Rattle.btr_read.specs.declared.want.Want.TheVariants.{Tree, Block, Sector, Plain}
use Rattle.btr_scrub.specs.Repair.{blocks, is_checked, meeting, target_met}
use Rattle.btr_scrub.specs.Right.{AllPass as AllCommittedPass, CanBeSpared, IsCommitted, IsHonest}
use Rattle.btr_scrub.specs.Units.{units}
use Rattle.btr_super.specs.Super.{super_of}
use Rattle.btr_volume.specs.Maps.{array_layout}
use Rattle.btr_volume.specs.Table.{table_scan}
use Rattle.btr_run.specs.Filesystem.{filesystem_of, with_roots, with_start, with_table}
use Rattle.btr_run.specs.Scrubbed.{filesystem_as}
use Rattle.btr_run_laws.specs.Example.{MeetsScrubs, block_at, chunk, chunk_tree, committed_blocks, extent_tree, file_tree, fs, images, layout, root_tree}
use Rattle.btr_run_laws.specs.Example.{sealed, start, table}
use Rattle.btr_run_laws.proofs.Sealed.{begun, chunk_fate, extent_fate, honest, root_fate, summed_chunks, summed_extents, summed_files, summed_roots, equal}
use Rattle.btr_run.proofs.Named.{both}

-- the committed blocks as a map
abbrev D : Want → Result (List ℕ) Fault
D want = or_lost (addr_of want) (committed_blocks want)

-- the chunk tree
scan_needs : Each (λ w. D w ≡ fate images (array_layout start) w) (needs D (table_scan start))
unfolding is_leaf items entry_count item_at entry_key super_of sealed
scan_needs = (sym chunk_fate, tt)

-- the scan of the chunk tree over the image comes to the table
pub scan_ends : (exec (fate images (array_layout start)) (table_scan start)).ending ≡ Ok (Ok table)
unfolding is_leaf items entry_count item_at entry_key super_of sealed
scan_ends = ap (λ r. r.ending) (sym (only_needs D (fate images (array_layout start)) (table_scan start) scan_needs))

-- the root tree's root block has one candidate
none_differ : disagreeing images layout (Tree 1052672 7 0) ≡ None
unfolding sealed
none_differ =
    ap (λ b. option_and_then (least_slot (target layout (Tree 1052672 7 0) chunk (position chunk 1052672)))
    (option_and_then (λ block. cond (b && differ block root_tree) (Some (Read (Mirror 0))) None) (slice_get (cond b (root_tree ∷ []) []) 0))) summed_roots

-- the image makes the filesystem
opened : filesystem_of images ≡ Ok fs
unfolding super_of sealed
opened = ap (with_start images) begun ∙ ap (with_table images start) scan_ends ∙ ap (with_roots start table) none_differ

-- the extents
units_need : Each (λ w. D w ≡ fate images layout w) (needs D (units (filesystem_as fs)))
unfolding is_leaf items entry_count item_at entry_key parts_within super_of sealed
units_need = (sym root_fate, (sym root_fate, (sym extent_fate, tt)))

-- the listing of the checked blocks over the image is that over the committed blocks
met_so : exec D (units (filesystem_as fs)) ≡ meeting images (filesystem_as fs)
met_so = only_needs D (fate images layout) (units (filesystem_as fs)) units_need

-- the listing of the checked blocks comes to its end
ends : (meeting images (filesystem_as fs)).ending ≡ Ok tt
unfolding is_leaf items entry_count item_at entry_key parts_within super_of sealed
ends = ap (λ r. r.ending) (sym met_so)

-- the checked blocks
abbrev at_address : ℕ → Target
at_address addr = target layout (Tree addr 7 0) chunk (position chunk addr)

-- the four of them: the leaves of the chunk tree, the root tree, the tree of files and the extent tree
abbrev four_blocks : List Target
four_blocks = at_address 1048576 ∷ at_address 1052672 ∷ at_address 1056768 ∷ at_address 1060864 ∷ []

-- the checked blocks are these four
blocks_are : blocks images (filesystem_as fs) ≡ four_blocks
unfolding is_leaf items entry_count item_at entry_key parts_within super_of sealed
blocks_are = ap (λ r. filter is_checked (filter_map (target_met layout) (steps_of r.marks))) (sym met_so)

-- what holds of the blocks at the four addresses holds of each checked block
each_of_four : (P : Target → Type 0) → P (at_address 1048576) → P (at_address 1052672) → P (at_address 1056768) → P (at_address 1060864)
    → All P (blocks images (filesystem_as fs))
each_of_four P a b c d =
    subst (All P) (sym blocks_are)
    (All-cons P (at_address 1048576) (at_address 1052672 ∷ at_address 1056768 ∷ at_address 1060864 ∷ []) a
    (All-cons P (at_address 1052672) (at_address 1056768 ∷ at_address 1060864 ∷ []) b
    (All-cons P (at_address 1056768) (at_address 1060864 ∷ []) c (All-cons P (at_address 1060864) [] d (All-nil P)))))

-- a sealed block is bytes
is_byte : (n : ℕ) → n % 256 < 256
is_byte n = omega arith

-- a number is a byte
abbrev Byte : ℕ → Type 0
Byte b = b < 256

-- the lowest four bytes of a number are bytes
low_bytes : (n : ℕ) → All Byte (little_bytes 4 n)
low_bytes n =
    All-cons Byte (n % 256) (n / 256 ^ 1 % 256 ∷ n / 256 ^ 2 % 256 ∷ n / 256 ^ 3 % 256 ∷ []) (is_byte n)
    (All-cons Byte (n / 256 ^ 1 % 256) (n / 256 ^ 2 % 256 ∷ n / 256 ^ 3 % 256 ∷ []) (is_byte (n / 256 ^ 1))
    (All-cons Byte (n / 256 ^ 2 % 256) (n / 256 ^ 3 % 256 ∷ []) (is_byte (n / 256 ^ 2))
    (All-cons Byte (n / 256 ^ 3 % 256) [] (is_byte (n / 256 ^ 3)) (All-nil Byte))))

-- numbers that all pass the test are bytes
are_bytes : (xs : List ℕ) → list_all (λ b. nat_lt b 256) xs ≡ true → All (λ b. b < 256) xs
are_bytes xs is k d lt = ltb-true (get_or xs k d) 256 (AllPass-from_list_all (λ b. nat_lt b 256) xs is k d lt)

-- a sealed block consists of bytes, if what is sealed does
sealed_bytes : (rest : List ℕ) → list_all (λ b. nat_lt b 256) (replicate 28 0 ++ rest) ≡ true → All (λ b. b < 256) (sealed rest)
unfolding sealed
sealed_bytes rest is =
    All-append (λ b. b < 256) (little_bytes 4 (crc32c rest)) (replicate 28 0 ++ rest)
    (low_bytes (crc32c rest)) (are_bytes (replicate 28 0 ++ rest) is)

-- a sealed block of 4096 bytes is a slice of that size
block_is_slice : (rest : List ℕ) → length (sealed rest) ≡ 4096 → list_all (λ b. nat_lt b 256) (replicate 28 0 ++ rest) ≡ true → IsSlice 4096 (sealed rest)
block_is_slice rest long bytes = record { long = long; bytes = sealed_bytes rest bytes }

-- what was committed of each checked block is a slice of its size
slices : All (λ t. IfSome (committed_blocks t.want) (IsSlice (size_of t))) (blocks images (filesystem_as fs))
unfolding sealed
slices =
    each_of_four (λ t. IfSome (committed_blocks t.want) (IsSlice (size_of t)))
    (block_is_slice _ refl refl) (block_is_slice _ refl refl) (block_is_slice _ refl refl) (block_is_slice _ refl refl)

-- each has its copy
spared : All (CanBeSpared images (filesystem_as fs) committed_blocks) (blocks images (filesystem_as fs))
unfolding sealed
spared =
    each_of_four (CanBeSpared images (filesystem_as fs) committed_blocks) (inl (0, Mirror 0, omega arith, refl, refl))
    (inl (0, Mirror 0, omega arith, refl, refl)) (inl (0, Mirror 0, omega arith, refl, refl)) (inl (0, Mirror 0, omega arith, refl, refl))

-- the committed bytes pass
abbrev PassesAt : ℕ → ℕ → ℕ → Option (List ℕ) → Type 0
PassesAt addr generation level o = IfSome o (λ bytes. passes layout.setting (Tree addr generation level) bytes ≡ true)

-- the block that was committed at an address, if there is one, passes there
block_passes : (addr : ℕ) → PassesAt addr 7 0 (block_at addr)
unfolding sealed
block_passes addr = first (addr == 1048576) refl
  where
    fourth : (b : Bool) → (addr == 1060864) ≡ b → PassesAt addr 7 0 (cond b (Some extent_tree) None)
    fourth true e = subst (λ n. passes layout.setting (Tree n 7 0) extent_tree ≡ true) (sym (equal addr 1060864 e)) summed_extents
    fourth false e = tt

    third : (b : Bool) → (addr == 1056768) ≡ b → PassesAt addr 7 0 (cond b (Some file_tree) (cond (addr == 1060864) (Some extent_tree) None))
    third true e = subst (λ n. passes layout.setting (Tree n 7 0) file_tree ≡ true) (sym (equal addr 1056768 e)) summed_files
    third false e = fourth (addr == 1060864) refl

    second : (b : Bool) → (addr == 1052672) ≡ b
        → PassesAt addr 7 0 (cond b (Some root_tree) (cond (addr == 1056768) (Some file_tree) (cond (addr == 1060864) (Some extent_tree) None)))
    second true e = subst (λ n. passes layout.setting (Tree n 7 0) root_tree ≡ true) (sym (equal addr 1052672 e)) summed_roots
    second false e = third (addr == 1056768) refl

    first : (b : Bool) → (addr == 1048576) ≡ b
        → PassesAt addr 7 0 (cond b (Some chunk_tree) (cond (addr == 1052672) (Some root_tree) (cond (addr == 1056768) (Some file_tree)
        (cond (addr == 1060864) (Some extent_tree) None))))
    first true e = subst (λ n. passes layout.setting (Tree n 7 0) chunk_tree ≡ true) (sym (equal addr 1048576 e)) summed_chunks
    first false e = second (addr == 1052672) refl

-- what was committed for a want passes its test
all_pass : AllCommittedPass layout committed_blocks
all_pass (Tree addr generation level) = of ((generation == 7) && (level == 0)) refl
  where
    of : (b : Bool) → ((generation == 7) && (level == 0)) ≡ b → PassesAt addr generation level (cond b (block_at addr) None)
    of true e =
        let is = both (generation == 7) (level == 0) e in
        subst (λ g. PassesAt addr g level (block_at addr)) (sym (equal generation 7 is.0))
        (subst (λ l. PassesAt addr 7 l (block_at addr)) (sym (equal level 0 is.1)) (block_passes addr))
    of false e = tt
all_pass (Block addr) = tt
all_pass (Sector addr sum) = tt
all_pass (Plain addr) = tt

-- and are all that passes
honest_so : IsHonest images layout committed_blocks
honest_so want = of (committed_blocks want) refl
  where
    of : (o : Option (List ℕ)) → committed_blocks want ≡ o → IfSome o (λ bytes. All (λ other. other ≡ bytes) (passing_for images (sought layout want)))
    of None is = tt
    of (Some bytes) is = λ k d lt.
        honest want bytes (get_or (passing_for images (sought layout want)) k d) is
        (k, lt, get_or_default (passing_for images (sought layout want)) k (get_or (passing_for images (sought layout want)) k d) d lt)

-- all that is asked for of committed blocks holds of those of the example
known : IsCommitted images (filesystem_as fs) committed_blocks
known = record {
  given = refl;
  pass = all_pass;
  honest = honest_so;
  committed = each_of_four (λ t. IsSome (committed_blocks t.want)) refl refl refl refl;
  slices = slices;
}

-- the example meets what the clauses on scrubs ask for
pub meets_scrubs : MeetsScrubs
meets_scrubs = record { opened = opened; listed = ends; known = known; spared = spared }
