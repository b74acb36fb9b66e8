use Rattle.std.proofs.Common.{◌≡◌, ℕ, ◌+◌, ◌<◌, true, false, List, [], ◌∷◌, ◌++◌, length, ap, sym, ◌∙◌, map, take, get_or, arith, cond, filter}
use Rattle.std.proofs.lemmas.List.{append-nil, map-append}
use Rattle.std.proofs.lemmas.List.Elements.{filter_more}
use Rattle.btr_check_names.specs.Names.{is_removed, removed_dirs}
use Rattle.btr_check_names.specs.declared.inode_at.InodeAt.{InodeAt}
use Rattle.btr_check_names.proofs.put_inodes.removed_dirs.Goals as goal
use Rattle.btr_check_names.proofs.put_inodes.removed_dirs.Goals.{then-is_removed+in_ok-push, else-is_removed}

module _ (orphans : List ℕ) (inodes : List InodeAt) (i : ℕ) (d : InodeAt) (lt : i < length inodes) (removed : List ℕ)
    (is : removed ≡ removed_dirs orphans (take i inodes)) where
  abbrev number : InodeAt → ℕ
  number at = at.number

  abbrev this : InodeAt
  this = get_or inodes i d

  -- those among one more inode
  more : removed_dirs orphans (take (i + 1) inodes) ≡ removed ++ map number (cond (is_removed orphans this) (this ∷ []) [])
  more = ap (map number) (filter_more (is_removed orphans) inodes i d lt)
      ∙ map-append number (filter (is_removed orphans) (take i inodes)) (cond (is_removed orphans this) (this ∷ []) [])
      ∙ ap (λ (r : List ℕ). r ++ map number (cond (is_removed orphans this) (this ∷ []) [])) (sym is)

  with_it : is_removed orphans this ≡ true → removed ++ number this ∷ [] ≡ removed_dirs orphans (take (i + 1) inodes)
  with_it e = sym (more ∙ ap (λ b. removed ++ map number (cond b (this ∷ []) [])) e)

  without_it : is_removed orphans this ≡ false → removed ≡ removed_dirs orphans (take (i + 1) inodes)
  without_it e = sym (more ∙ ap (λ b. removed ++ map number (cond b (this ∷ []) [])) e ∙ append-nil removed)

pub loop-at-preserved : goal.loop-at-preserved
loop-at-preserved c = elim c.if-is_removed.branch [
  | then-is_removed+in_ok-push w ↦
      ap (λ v. v.items) w.removed-is ∙ w.in_ok-push.ensures
      ∙ with_it c.args.orphans.now c.args.inodes.now c.loop-at.at-index _ (omega (arith, c.loop-at-test.true)) c.loop-at.removed.items c.loop-at.invariant
      (sym (c.is_removed.ensures c.args.orphans.now c.in_ok-numbers.ensures) ∙ w.if-is_removed.true)
  | else-is_removed w ↦
      ap (λ v. v.items) w.removed-is
      ∙ without_it c.args.orphans.now c.args.inodes.now c.loop-at.at-index _ (omega (arith, c.loop-at-test.true)) c.loop-at.removed.items c.loop-at.invariant
      (sym (c.is_removed.ensures c.args.orphans.now c.in_ok-numbers.ensures) ∙ w.if-is_removed.false)
]
