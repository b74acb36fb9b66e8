-- A lookup by one item.
use Rattle.std.proofs.Common.{◌≡◌, List, [], Option, Some, None, Result, Ok, Err, refl, sym, ap, ◌∙◌, subst}
use Rattle.btr_base.specs.declared.key.Key.{Key}
use Rattle.btr_prog.specs.Prog.{Return, exec, bind}
use Rattle.btr_prog.specs.Answers.{Follows, no_part}
use Rattle.btr_prog.proofs.Follow.{follows_then, follows_halt}
use Rattle.btr_prog.proofs.Runs.{exec-bind}
use Rattle.btr_rack.specs.Rack.{Seen}
use Rattle.btr_read.specs.Layout.{Layout}
use Rattle.btr_read.specs.Serves.{Serves}
use Rattle.btr_read.specs.Store.{Blocks, Lent}
use Rattle.btr_read.specs.declared.want.Want.{Want}
use Rattle.btr_read.proofs.Serving.{serves_given}
use Rattle.btr_walk.specs.declared.fault.TreeFault.{TreeFault}
use Rattle.btr_walk.specs.declared.fault.TreeFault.TheVariants.{Lost, Unread, Unmapped, Crosses, Malformed}
use Rattle.btr_walk.specs.declared.found.Found.{Found}
use Rattle.btr_walk.specs.declared.place.RootPlace.{RootPlace}
use Rattle.btr_walk.specs.Le.{TreeItem, le}
use Rattle.btr_walk.specs.Lending.{base}
use Rattle.btr_walk.specs.Reading.{Map, UnreadBlock, Tells, unread_by, halt_of, answer_of}
use Rattle.btr_walk.specs.Showing.{FindsItem, item_of, items_of}
use Rattle.btr_walk.proofs.Joined.{drawn}
use Rattle.btr_volume.specs.Lookup.{Lookup}
use Rattle.btr_volume.specs.Looking.{Looks, Judges}

-- what was found is judged; a fault is passed on
abbrev pub JudgesFound : {A : Type 0} → (Option TreeItem → Lookup A) → Result (Option TreeItem) TreeFault → Result A TreeFault → Type 0
JudgesFound k (Ok item) answer = Judges (k item) answer
JudgesFound k (Err fault) answer = answer ≡ Err fault

-- the rack serves the store still
pub served_base : (rack : Seen) (store : Blocks) (loan : Option Lent) → Serves rack store → Serves rack (base store loan)
served_base rack store None serves = serves
served_base rack store (Some loan) serves = serves_given rack store loan.slot serves

module _ {A : Type 0} (Is : UnreadBlock → Want → Type 0) (B : Map) where
  -- a judgement is answered as its program
  judged_follows : (seen : List Want) (p : Lookup A) (answer : Result A TreeFault) → Judges p answer
      → Follows {S = ⊥} Is no_part seen (exec B p) [] (answer_of answer)
  judged_follows seen p (Ok a) j = subst (λ (q : Lookup A). Follows {S = ⊥} Is no_part seen (exec B q) [] (Ok a)) (sym j) (refl, refl)
  judged_follows seen p (Err (Malformed a)) j = subst (λ (q : Lookup A). Follows {S = ⊥} Is no_part seen (exec B q) []
      (answer_of (Err (Malformed a)))) (sym j) (refl, refl)
  judged_follows seen p (Err (Lost a)) j = absurd j
  judged_follows seen p (Err (Unread a slot)) j = absurd j
  judged_follows seen p (Err (Unmapped a)) j = absurd j
  judged_follows seen p (Err (Crosses a)) j = absurd j

  -- what is made of an item that was found follows the lookup of the item, and then the program of what is made of it
  found_follows : (root : RootPlace) (key : Key) (k : Option TreeItem → Lookup A) (found : Result (Option TreeItem) TreeFault)
      (answer : Result A TreeFault) → Follows {S = ⊥} Is no_part [] (exec B (le root key)) [] (answer_of found) → JudgesFound k found answer
      → Follows {S = ⊥} Is no_part [] (exec B (bind (le root key) k)) [] (answer_of answer)
  found_follows root key k (Ok item) answer f j =
      subst (λ r. Follows Is no_part [] r [] (answer_of answer)) (sym (exec-bind B (le root key) k))
      (follows_then Is no_part [] (exec B (le root key)) item (λ a. exec B (k a)) [] [] (answer_of answer) f (judged_follows _ (k item) answer j))
  found_follows root key k (Err fault) answer f j =
      subst (λ a. Follows Is no_part [] (exec B (bind (le root key) k)) [] (answer_of a)) (sym j)
      (subst (λ r. Follows Is no_part [] r [] (Err (halt_of fault))) (sym (exec-bind B (le root key) k))
      (follows_halt Is no_part [] (exec B (le root key)) (λ a. exec B (k a)) [] (halt_of fault) f))

-- a lookup by the greatest item at or below a key, and what is made of it
pub looks_found : {A : Type 0} (layout : Layout) (old new : Seen) (root : RootPlace) (key : Key) (k : Option TreeItem → Lookup A)
    (found : Result (Option Found) TreeFault) (answer : Result A TreeFault)
    → Tells layout old new (λ B. FindsItem (unread_by layout old new) B root key found) → JudgesFound k (items_of found) answer
    → Looks layout old new (bind (le root key) k) answer
looks_found layout old new root key k found answer t j =
    drawn layout (λ B. FindsItem (unread_by layout old new) B root key found)
    (λ B. Follows (unread_by layout old new) no_part [] (exec B (bind (le root key) k)) [] (answer_of answer))
    (λ B f. found_follows (unread_by layout old new) B root key k (items_of found) answer f j) t

module _ {A : Type 0} (k : Option TreeItem → Lookup A) (answer : Result A TreeFault) where
  -- a fault of a lookup is what comes of it
  pub judges_err : (r : Result (Option Found) TreeFault) (fault : TreeFault) → r ≡ Err fault → answer ≡ Err fault → JudgesFound k (items_of r) answer
  judges_err r fault is e = subst (λ (x : Result (Option Found) TreeFault). JudgesFound k (items_of x) answer) (sym is) e

  -- where no item was found, the value that is made of none comes of a lookup
  pub judges_none : (r : Result (Option Found) TreeFault) (o : Option Found) (a : A) → r ≡ Ok o → o ≡ None → k None ≡ Return a → answer ≡ Ok a
      → JudgesFound k (items_of r) answer
  judges_none r o a is none program e =
      subst (λ (x : Result (Option Found) TreeFault). JudgesFound k (items_of x) answer) (sym (is ∙ ap (λ x. Ok x) none))
      (subst (λ x. Judges (k None) x) (sym e) program)

  -- where an item was found, what it was judged to be comes of a lookup
  pub judges_some : (r : Result (Option Found) TreeFault) (o : Option Found) (found : Found) (judged : Result A TreeFault) → r ≡ Ok o → o ≡ Some found
      → Judges (k (Some (item_of found))) judged → answer ≡ judged → JudgesFound k (items_of r) answer
  judges_some r o found judged is some j e =
      subst (λ (x : Result (Option Found) TreeFault). JudgesFound k (items_of x) answer) (sym (is ∙ ap (λ x. Ok x) some))
      (subst (λ x. Judges (k (Some (item_of found))) x) (sym e) j)
