-- What the code of a lookup folds is what its definition looks up.
use Rattle.std.proofs.Common.{◌≡◌, Result, Ok, Err, refl, sym, ap, ◌∙◌, subst}
use Rattle.std.proofs.Math.Path.{fun_ext}
use Rattle.btr_prog.specs.Prog.{Return, Stop, Need, Emit, bind}
use Rattle.btr_prog.specs.Thread.{thread, go_on}
use Rattle.btr_walk.specs.Folds.{Next, Go, End, Broken, next_prog, folded_over}
use Rattle.btr_walk.specs.Le.{TreeItem}
use Rattle.btr_walk.specs.Range.{RangeProg}
use Rattle.btr_walk.specs.declared.fault.TreeFault.{TreeFault}
use Rattle.btr_rack.specs.Rack.{Seen}
use Rattle.btr_read.specs.Layout.{Layout}
use Rattle.btr_items.specs.declared.fault.ItemFault.{ItemFault}
use Rattle.btr_volume.specs.Lookup.{Lookup, formed}
use Rattle.btr_volume.specs.Looking.{Looks}
use Rattle.btr_files.specs.Steps.{formed_next}

-- what is answered of a lookup is answered of the same by another name
pub looked : {A : Type 0} (layout : Layout) (old new : Seen) (p q : Lookup A) (result : Result A TreeFault) → p ≡ q → Looks layout old new p result
    → Looks layout old new q result
looked layout old new p q result e h = subst (λ x. Looks layout old new x result) e h

-- a program, and then nothing
pub bind-return : {A : Type 0} (p : Lookup A) → bind p Return ≡ p
bind-return (Return a) = refl
bind-return (Stop f) = refl
bind-return (Need w k) = ap (Need w) (fun_ext (λ bytes. bind-return (k bytes)))
bind-return (Emit s p) = absurd s

-- the next state and the answer by other names
abbrev pub map_next : {St' R' St R : Type 0} → (St' → St) → (R' → R) → Next St' R' → Next St R
map_next g h (Go st) = Go (g st)
map_next g h (End r) = End (h r)
map_next g h Broken = Broken

module _ {St' R' St R : Type 0} (body : St' → TreeItem → Lookup (Result St' R')) (done : St' → Unit {0} → R') (next : St' → TreeItem → Next St' R')
    (step : St → TreeItem → Next St R) (answer : St → R) (g : St' → St) (h : R' → R)
    (is_next : (st : St') (item : TreeItem) → body st item ≡ next_prog item.leaf (next st item))
    (is_step : (st : St') (item : TreeItem) → step (g st) item ≡ map_next g h (next st item)) (is_answer : (st : St') → answer (g st) ≡ h (done st tt)) where
  abbrev value : R' → Lookup R
  value r = Return (h r)

  -- going on behind an item is the same from a state and from the one that stands for it
  turned : (leaf : _) (n : Next St' R') (k : St' → Lookup R') (k' : St → Lookup R) → ((st : St') → bind (k st) value ≡ k' (g st))
      → bind (bind (next_prog leaf n) (go_on k)) value ≡ bind (next_prog leaf (map_next g h n)) (go_on k')
  turned leaf (Go st) k k' f = f st
  turned leaf (End r) k k' f = refl
  turned leaf Broken k k' f = refl

  -- a definition that treats each item, and the fold of states that stand for its states
  pub fold_as : (p : RangeProg) (st : St') → bind (thread body done st p) value ≡ folded_over step answer (g st) p
  fold_as (Return tt) st = ap Return (sym (is_answer st))
  fold_as (Stop f) st = refl
  fold_as (Need w k) st = ap (Need w) (fun_ext (λ bytes. fold_as (k bytes) st))
  fold_as (Emit item p) st =
      ap (λ (x : Lookup (Result St' R')). bind (bind x (go_on (λ st'. thread body done st' p))) value) (is_next st item)
      ∙ turned item.leaf (next st item) (λ st'. thread body done st' p) (λ st'. folded_over step answer st' p) (λ st'. fold_as p st')
      ∙ ap (λ (n : Next St R). bind (next_prog item.leaf n) (go_on (λ st'. folded_over step answer st' p))) (sym (is_step st item))

module _ {St R X : Type 0} (item : TreeItem) (k : X → Lookup (Result St R)) (k' : X → Next St R) where
  -- an item by what it holds, as a definition and as code treat it
  pub formed_is : (r : Result X ItemFault) → ((x : X) → k x ≡ next_prog item.leaf (k' x)) → formed item r k ≡ next_prog item.leaf (formed_next r k')
  formed_is (Ok x) f = f x
  formed_is (Err fault) f = refl

module _ {St' R' St R X : Type 0} (g : St' → St) (h : R' → R) (k' : X → Next St' R') (k : X → Next St R) where
  -- an item by what it holds, where the states and the answer have other names
  pub formed_map : (r : Result X ItemFault) → ((x : X) → k x ≡ map_next g h (k' x)) → formed_next r k ≡ map_next g h (formed_next r k')
  formed_map (Ok x) f = f x
  formed_map (Err fault) f = refl
