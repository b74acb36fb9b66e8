use Rattle.std.proofs.Common.{◌≡◌, ◌∙◌, ◌-◌, ◌≤◌, Option, IfSome, sym, ap, subst}
use Rattle.btr_walk.specs.declared.leaf_at.LeafAt.{LeafAt}
use Rattle.btr_tour.specs.declared.tour.Tour.{Tour}
use Rattle.btr_tour.specs.Shape.{rank_on}
use Rattle.btr_tour.specs.Steps.{passed_leaf}
use Rattle.btr_tour.proofs.Enters.{held_passed}
use Rattle.btr_tour.proofs.Ranking.{pass_node, pass_leaf}
use Rattle.btr_walk.specs.Hand.{IsHeld}
use Rattle.btr_tour.proofs.tour.Tour.pass.Goals as goal
use Rattle.btr_tour.proofs.tour.Tour.pass.Goals.{then-level-eq0, else-level-eq0}

pub returns-clause-rank_falls : goal.returns-clause-rank_falls
returns-clause-rank_falls c =
    let old = c.args.self.now in
    let P : Tour → Type 0 = λ t. rank_on t.place t.leaf ≤ rank_on old.place old.leaf in
    elim c.if-level-eq0.branch [
      | then-level-eq0 w ↦
          let behind : w.put_leaf.new.place ≡ passed_leaf 0 old.leaf =
          w.put_leaf.ensures ∙ w.behind_all-leaf.ensures ∙ ap (passed_leaf 0) w.take.ensures.value in
          subst P (sym w.self-is) (subst (λ (l : Option LeafAt). rank_on old.place l ≤ rank_on old.place old.leaf) (sym behind) (pass_leaf old.place old.leaf))
      | else-level-eq0 w ↦ subst P (sym w.self-is) (pass_node old.place (c.in-Some.level - 1) old.leaf)
    ]

pub returns-clause-held : goal.returns-clause-held
returns-clause-held c =
    let old = c.args.self.now in
    λ B seen store held.
    let P : Tour → Type 0 = λ t. IfSome t.leaf (IsHeld B seen store) in
    elim c.if-level-eq0.branch [
      | then-level-eq0 w ↦
          let behind : w.put_leaf.new.place ≡ passed_leaf 0 old.leaf =
          w.put_leaf.ensures ∙ w.behind_all-leaf.ensures ∙ ap (passed_leaf 0) w.take.ensures.value in
          subst P (sym w.self-is) (subst (λ (l : Option LeafAt). IfSome l (IsHeld B seen store)) (sym behind) (held_passed B seen store old.leaf held))
      | else-level-eq0 w ↦ subst P (sym w.self-is) held
    ]
