-- Extents that are others than what uses them.
use Rattle.std.specs.Prelude.{ℕ, ◌==◌, Bool, true, false, List, [], ◌∷◌, ◌++◌, filter, fold, Option, Some, None, if◌then◌else◌}
use Rattle.std.specs.BTreeSet.{insert_key}
use Rattle.std.specs.Option.{option_to_list}
use Rattle.btr_items.specs.ExtentItem.{is_tree_block}
use Rattle.btr_findings.specs.declared.extent.Extent.{Extent}
use Rattle.btr_findings.specs.declared.finding.Finding.{Finding}
use Rattle.btr_findings.specs.declared.kind.Kind.TheVariants as kind
use Rattle.btr_findings.specs.Findings.{finding_cmp, found, unless}
use Rattle.btr_refs.specs.declared.used.Used.{Used}
use Rattle.btr_refs.specs.declared.used.Used.TheVariants.{TreeBlock, Data}

-- a use is as a tree block, or as data
abbrev pub is_kind : Bool → Used → Bool
is_kind true (TreeBlock level) = true
is_kind true (Data len) = false
is_kind false (TreeBlock level) = false
is_kind false (Data len) = true

-- a tree block is used as one, and data as data
abbrev pub extent_kind : Extent → Used → Option Finding
extent_kind extent what = unless (is_kind (is_tree_block extent.flags) what) (found kind.ExtentKind (extent.addr ∷ extent.flags ∷ []))

-- how long a use says that an extent is: as long as a node, or as a file says
abbrev pub used_len : ℕ → Used → ℕ
used_len nodesize (TreeBlock level) = nodesize
used_len nodesize (Data len) = len

-- an extent is as long as a node, or as a file says
abbrev pub extent_length : ℕ → Extent → Used → Option Finding
extent_length nodesize extent what =
    unless (extent.len == used_len nodesize what) (found kind.ExtentLength (extent.addr ∷ extent.len ∷ used_len nodesize what ∷ []))

-- the finding that a tree block at an address states another level than it is used at
abbrev pub level_differs : ℕ → Option ℕ → Used → Option Finding
level_differs addr None what = None
level_differs addr (Some level) (TreeBlock found_level) = unless (level == found_level) (found kind.ExtentLevel (addr ∷ level ∷ found_level ∷ []))
level_differs addr (Some level) (Data len) = None

-- a tree block that states a level is used at it
abbrev pub extent_level : Extent → Used → Option Finding
extent_level extent what = level_differs extent.addr extent.level what

-- what is wrong with an extent that is used so
abbrev pub misused : ℕ → Extent → Used → List Finding
misused nodesize extent what = option_to_list (extent_kind extent what) ++ option_to_list (extent_length nodesize extent what) ++ option_to_list
    (extent_level extent what)

-- the same by a use of what is at an address, where that is this extent
abbrev pub misused_at : ℕ → ℕ → Used → Extent → List Finding
misused_at nodesize addr what extent = if addr == extent.addr then misused nodesize extent what else []

-- those of some extents that are at an address
abbrev pub extents_at : List Extent → ℕ → List Extent
extents_at extents addr = filter (λ (extent : Extent). extent.addr == addr) extents

-- a set of findings with some more
abbrev pub with_findings : List Finding → List Finding → List Finding
with_findings set more = fold (insert_key finding_cmp) set more
