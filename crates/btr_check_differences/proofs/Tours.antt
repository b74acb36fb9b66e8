-- Tours over ranges.
use Rattle.std.proofs.Common.{◌≡◌, ◌∙◌, ℕ, ◌^◌, ◌-◌, ◌≤◌, ◌&&◌, leb, List, [], ◌∷◌}
use Rattle.std.proofs.Common.{◌++◌, fold, take, get_or, length, ◌+◌, ◌<◌, append-nil, refl, sym, ap, arith}
use Rattle.std.proofs.lemmas.Bool.{and_parts, leb-true}
use Rattle.std.proofs.lemmas.Grind.{flat_map-append}
use Rattle.std.proofs.lemmas.List.{take_more}
use Rattle.std.proofs.lemmas.List.Sums.{fold-append}
use Rattle.btr_base.specs.Key.{key_number, last_key}
use Rattle.btr_tour.specs.Tour.{Mark, items_met, tour, whole}
use Rattle.btr_walk.specs.declared.place.RootPlace.{RootPlace}
use Rattle.btr_walk.specs.Le.{TreeItem, root_pointer}
use Rattle.btr_walk.specs.Reading.{Map}
use Rattle.btr_check_differences.specs.declared.inode_range.InodeRange.{InodeRange}
use Rattle.btr_check_differences.specs.Law.{ToursLaw, tours}
use Rattle.btr_check_differences.specs.Ranges.{are_apart, high, is_before, is_range, items_among, low}
use Rattle.btr_check_differences.proofs.Chains.{split}
use Rattle.btr_check_differences.proofs.Nodes.{items_then}
use Rattle.btr_check_differences.proofs.Within.{tour_chain, tour_within}

-- of no ranges there are no items
none_among : (items : List TreeItem) → items_among [] items ≡ []
none_among [] = refl
none_among (item ∷ items) = none_among items

-- tours over ranges that are apart meet just those items of the whole tree that are of their inodes
pub tours_law : ToursLaw
tours_law B root [] apart = sym (none_among (items_met (whole B root)))
tours_law B root (range ∷ ranges) apart =
    let parts = and_parts (is_range range) (is_before range ranges && are_apart ranges) apart in
    let more = and_parts (is_before range ranges) (are_apart ranges) parts.1 in
    let small : range.last ≤ 2 ^ 64 - 1 = leb-true _ _ (and_parts (leb range.first range.last) (leb range.last (2 ^ 64 - 1)) parts.0).1 in
    let top : key_number (high range) ≤ key_number last_key = omega (arith, small) in
    let all = items_met (whole B root) in
    items_then (tour (low range) (high range) B root) (tours B root ranges)
    ∙ (λ i. tour_within (low range) (high range) top B root.level (root_pointer root) tt i ++ tours_law B root ranges more.1 i)
    ∙ sym (split range ranges more.0 more.1 0 all _ (tour_chain B root.level (root_pointer root) tt))

-- one range more was toured
pub tours_more : {St : Type 0} (step : St → Mark → St) (old : St) (B : Map) (root : RootPlace) (ranges : List InodeRange) (i : ℕ) (d : InodeRange)
    → i < length ranges
    → fold step (fold step old (tours B root (take i ranges))) (tour (low (get_or ranges i d)) (high (get_or ranges i d)) B root)
    ≡ fold step old (tours B root (take (i + 1) ranges))
tours_more step old B root ranges i d lt =
    let here = tour (low (get_or ranges i d)) (high (get_or ranges i d)) B root in
    let more : tours B root (take (i + 1) ranges) ≡ tours B root (take i ranges) ++ here =
    ap (tours B root) (take_more ranges i d lt) ∙ flat_map-append _ (take i ranges) (get_or ranges i d ∷ [])
    ∙ ap (λ l. tours B root (take i ranges) ++ l) (append-nil here) in
    sym (fold-append step old (tours B root (take i ranges)) here) ∙ ap (fold step old) (sym more)
