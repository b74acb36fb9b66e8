-- Extents, block groups and chunks.
use Rattle.std.specs.Prelude.{ℕ, ◌+◌, ◌==◌, ◌&&◌, Bool, nat_le, nat_lt, List, [], ◌∷◌, ◌++◌, map, drop, zip, filter_map, sum_by, cond, option_to_list, Option}
use Rattle.std.specs.List.{list_any}
use Rattle.btr_chunk.specs.declared.chunk.Chunk.{Chunk}
use Rattle.btr_findings.specs.declared.finding.Finding.{Finding}
use Rattle.btr_findings.specs.declared.kind.Kind.TheVariants as kind
use Rattle.btr_findings.specs.Findings.{found, unless, shown_sum}
use Rattle.btr_findings.specs.declared.extent.Extent.{Extent}
use Rattle.btr_check_space.specs.declared.group.Group.{Group}
use Rattle.btr_check_space.specs.declared.span.Span.{Span}
use Rattle.btr_check_space.specs.Orders.{chunk_span}

-- a range lies in a block group
abbrev pub lies_in : Extent → Group → Bool
lies_in extent group = nat_le group.start extent.addr && nat_le (extent.addr + extent.len) (group.start + group.len)

-- an extent lies in a block group
abbrev pub outside_group : List Group → Extent → Option Finding
outside_group groups extent = unless (list_any (lies_in extent) groups) (found kind.OutsideGroup (extent.addr ∷ extent.len ∷ []))

-- each element of a list and the one behind it
abbrev pub neighbours : {X : Type 0} → List X → List (X × X)
neighbours list = zip list (drop 1 list)

-- an extent begins at or behind the end of the one before it
abbrev pub overlap : Extent × Extent → Option Finding
overlap two = unless (nat_le (two.0.addr + two.0.len) two.1.addr) (found kind.Overlap (two.1.addr ∷ two.0.addr ∷ []))

-- a chunk has a block group of its length and type
abbrev pub chunk_group : List Group → Span → Option Finding
chunk_group groups chunk =
    unless (list_any (λ group. (group.start == chunk.start) && (group.len == chunk.len) && (group.flags == chunk.flags)) groups)
    (found kind.ChunkGroup (chunk.start ∷ []))

-- a block group has a chunk of its length
abbrev pub group_chunk : List Span → Group → Option Finding
group_chunk chunks group =
    unless (list_any (λ chunk. (chunk.start == group.start) && (chunk.len == group.len)) chunks) (found kind.GroupChunk (group.start ∷ []))

-- the bytes of the extents that begin in a block group
abbrev pub used_in : List Extent → Group → ℕ
used_in extents group = sum_by (λ extent. cond (nat_le group.start extent.addr && nat_lt extent.addr (group.start + group.len)) extent.len 0) extents

-- a block group states them
abbrev pub group_used : List Extent → Group → Option Finding
group_used extents group =
    unless (group.used == used_in extents group) (found kind.GroupUsed (group.start ∷ group.used ∷ shown_sum (used_in extents group) ∷ []))

-- the sum of what the block groups state
abbrev pub stated_in : List Group → ℕ
stated_in groups = sum_by (λ (group : Group). group.used) groups

-- the superblock states the sum of what the block groups state
abbrev pub total_used : ℕ → List Group → Option Finding
total_used stated groups = unless (stated == stated_in groups) (found kind.TotalUsed (stated ∷ shown_sum (stated_in groups) ∷ []))

-- the findings on extents, block groups and chunks
abbrev pub group_findings : List Chunk → List Extent → List Group → ℕ → List Finding
group_findings chunks extents groups stated =
    filter_map (outside_group groups) extents
    ++ filter_map overlap (neighbours extents)
    ++ filter_map (chunk_group groups) (map chunk_span chunks)
    ++ filter_map (group_chunk (map chunk_span chunks)) groups
    ++ filter_map (group_used extents) groups
    ++ option_to_list (total_used stated groups)
