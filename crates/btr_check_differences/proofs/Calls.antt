-- Calls that read blocks, one after another.
use Rattle.std.proofs.Common.{Option, Some, None, OnSome}
use Rattle.btr_rack.proofs.Reading.{reads_none, reads_more}
use Rattle.btr_walk.proofs.Joined.{drawn, joined, unread_on}
use Rattle.btr_walk.proofs.Lending.{same_none, same_then}
use Rattle.btr_walk.specs.Reading.{Map}
use Rattle.btr_check_differences.specs.Reading.{World, IsReady, Read}

-- nothing was read
pub read_none : (P : Map → Type 0) (x : World) → IsReady x → ((B : Map) → P B) → Read P x x
read_none P x ready h =
    record { reads = reads_none x.rack; loans = same_none x.store; ready = ready; told = unread_on x.store.layout P h }

-- one call behind another
pub read_then : (P Q S : Map → Type 0) (x y z : World) → Read P x y → Read Q y z → ((B : Map) → P B → Q B → S B) → Read S x z
read_then P Q S x y z one two f = record {
  reads = reads_more one.reads two.reads;
  loans = same_then one.loans two.loans;
  ready = two.ready;
  told = joined P Q S one.loans.layout f one.told two.told;
}

-- less may be said of a call
pub read_as : (P S : Map → Type 0) (x y : World) → Read P x y → ((B : Map) → P B → S B) → Read S x y
read_as P S x y one f = record { reads = one.reads; loans = one.loans; ready = one.ready; told = drawn x.store.layout P S f one.told }

-- what follows from what holds of an answer holds of it
pub on_some : {A : Type 0} (r : Option A) (P Q : Type 0) → (P → Q) → OnSome r P → OnSome r Q
on_some None P Q f h = tt
on_some (Some a) P Q f h = f h

-- what follows from two things that hold of an answer holds of it
pub on_both : {A : Type 0} (r : Option A) (P Q S : Type 0) → (P → Q → S) → OnSome r P → OnSome r Q → OnSome r S
on_both None P Q S f h k = tt
on_both (Some a) P Q S f h k = f h k
