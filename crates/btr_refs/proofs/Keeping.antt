-- What is kept of items, one more at a time.
use Rattle.std.proofs.Common.{◌≡◌, ℕ, Bool, true, false, ◌&&◌, List, [], ◌∷◌, ◌++◌, fold, if◌then◌else◌, refl, sym, ap, ◌∙◌, append_assoc}
use Rattle.std.proofs.Common.{append-nil}
use Rattle.std.proofs.lemmas.List.Sums.{fold-append}
use Rattle.std.specs.List.{list_all}
use Rattle.btr_items.specs.Key.{key_fits}
use Rattle.btr_tour.specs.Tour.{Mark, Block, Child, Item, Left, items_met}
use Rattle.btr_walk.specs.Le.{TreeItem}
use Rattle.btr_findings.specs.declared.extent.Extent.{Extent}
use Rattle.btr_refs.specs.Counts.{RefCounts, counted, counted_all}
use Rattle.btr_refs.specs.Extents.{KeptExtents, StoredLaw, nothing_kept, kept_with, stored_step, refs_in, extent_in, stored_in, extents_in}

-- what some items leave
abbrev all_kept : KeptExtents → List TreeItem → KeptExtents
all_kept kept items =
    record { nodesize = kept.nodesize; refs = counted_all kept.refs (stored_in items); extents = kept.extents ++ extents_in kept.nodesize items }

-- what is kept, made of its parts
abbrev kept_as : ℕ → RefCounts → List Extent → KeptExtents
kept_as nodesize refs extents = record { nodesize = nodesize; refs = refs; extents = extents }

-- no items leave what is kept as it is
kept_none : (kept : KeptExtents) → all_kept kept [] ≡ kept
kept_none kept = ap (kept_as kept.nodesize kept.refs) (append-nil kept.extents)

-- what is left by one more item, and then by the others
kept_one : (kept : KeptExtents) (item : TreeItem) (items : List TreeItem) → all_kept (kept_with kept item) items ≡ all_kept kept (item ∷ items)
kept_one kept item items =
    ap (λ refs. kept_as kept.nodesize refs ((kept.extents ++ extent_in kept.nodesize item.key item.body) ++ extents_in kept.nodesize items))
    (sym (fold-append counted kept.refs (refs_in item.key item.body) (stored_in items)))
    ∙ ap (kept_as kept.nodesize (counted_all kept.refs (stored_in (item ∷ items))))
    (append_assoc kept.extents (extent_in kept.nodesize item.key item.body) (extents_in kept.nodesize items))

pub both_true : (a b : Bool) → (a && b) ≡ true → (a ≡ true) × (b ≡ true)
both_true true b e = (refl, e)
both_true false b e = cc

-- an item's key keeps the rules of its type
abbrev keyed : TreeItem → Bool
keyed item = key_fits item.key

-- where the keys of all items keep the rules of their types, marks leave what their items leave
keeps : (marks : List Mark) (from : KeptExtents) → list_all keyed (items_met marks) ≡ true → fold stored_step from marks ≡ all_kept from (items_met marks)
keeps [] from all = sym (kept_none from)
keeps (Block place block ∷ marks) from all = keeps marks from all
keeps (Child addr place ∷ marks) from all = keeps marks from all
keeps (Left fault ∷ marks) from all = keeps marks from all
keeps (Item item ∷ marks) from all =
    let both = both_true (keyed item) (list_all keyed (items_met marks)) all in
    ap (λ (b : Bool). fold stored_step (if b then kept_with from item else from) marks) both.0 ∙ keeps marks (kept_with from item) both.1
    ∙ kept_one from item (items_met marks)

-- where the keys of all items keep the rules of their types, what is kept of a tree is what its items say
pub stored_law : StoredLaw
stored_law nodesize marks all = keeps marks (nothing_kept nodesize) all
