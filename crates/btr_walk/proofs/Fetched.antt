-- What a fetch says of a block that was read.
use Rattle.std.proofs.Common.{◌≡◌, ℕ, List, Bool, false, Option, Some, None, IfSome, IsSomeAnd, ◌≤◌, All, Any, length, Result, Ok, IsErrAnd, Err, refl, sym, ap}
use Rattle.std.proofs.Common.{◌∙◌, subst, arith}
use Rattle.std.specs.Option.{is_some}
use Rattle.btr_rack.specs.Rack.{Seen, OnlyReads}
use Rattle.btr_read.specs.Fate.{Lost, Unmapped, Crosses, passing, fate, sought}
use Rattle.btr_read.specs.Candidates.{candidates}
use Rattle.btr_read.specs.Cause.{Passes, IsOf}
use Rattle.btr_read.specs.Fetch.{FitsFetch, AnswersOf}
use Rattle.btr_read.specs.declared.fault.ReadFault.{ReadFault}
use Rattle.btr_read.specs.declared.fault.ReadFault.TheVariants as read
use Rattle.btr_read.specs.Layout.{Layout}
use Rattle.btr_read.specs.Store.{Blocks, Lent, block_of}
use Rattle.btr_read.specs.declared.want.Want.{Want}
use Rattle.btr_walk.specs.declared.fault.TreeFault.{TreeFault}
use Rattle.btr_walk.specs.declared.fault.TreeFault.TheVariants as tree
use Rattle.btr_walk.specs.declared.block_pointer.BlockPointer.{BlockPointer}
use Rattle.btr_node.specs.declared.node.Node.{Node}
use Rattle.btr_walk.specs.BlockPointer.{judged}
use Rattle.btr_walk.specs.Reading.{Map, UnreadBlock, Reads, FaultCause, CauseOf, unread_by, tree_fault}
use Rattle.btr_walk.specs.Le.{want_of}

-- what holds of the bytes that a loan has holds of its block
pub some_block : (store : Blocks) (loan : Lent) (block : List ℕ) (P : List ℕ → Type 0) → block_of store loan ≡ Some block → P block
    → IsSomeAnd (block_of store loan) P
some_block store loan block P is h = subst (λ o. IsSomeAnd o P) (sym is) h

none_is : (o : Option Node) → is_some o ≡ false → o ≡ None
none_is (Some x) e = cc
none_is None e = refl

-- a block that was judged isn't a good one that fits its pointer
pub bad_block : (B : Map) (level : ℕ) (pointer : BlockPointer) (o : Option (List ℕ)) (r : Bool) → IsSomeAnd o (λ block. B (want_of level pointer) ≡ Ok block)
    → IsSomeAnd o (λ block. r ≡ is_some (judged level pointer block)) → r ≡ false → (block : List ℕ) × (B (want_of level pointer) ≡ Ok block)
    × (judged level pointer block ≡ None)
bad_block B level pointer (Some block) r came h e = (block, came, none_is (judged level pointer block) (sym h ∙ e))
bad_block B level pointer None r came h e = absurd came

-- a cause stays one of calls that began earlier
pub unread_since : (layout : Layout) {a b c : Seen} (u : UnreadBlock) (want : Want) → OnlyReads a b → unread_by layout b c u want → unread_by layout a c u want
unread_since layout {a} {b} {c} u want first h = record {
  same_addr = h.same_addr;
  target = h.target;
  is_sought = h.is_sought;
  unread = record {
    unsure = ap (λ (s : Seen). s.sure) (sym first.same) ∙ h.unread.unsure;
    rose = (omega (arith, first.later, h.unread.rose.0), omega (arith, first.later, h.unread.rose.1));
    read = h.unread.read;
    on_slot = h.unread.on_slot;
    of_candidate = h.unread.of_candidate;
    only = h.unread.only;
    some = h.unread.some;
    enough = subst (λ held. IfSome held (λ images. length (passing images h.target) ≤ c.account.fresh)) (ap (λ (s : Seen). s.held) first.same) h.unread.enough;
    each = subst (λ held. IfSome held (λ images. All (λ candidate. Passes images h.target candidate
        → Any (λ missed. IsOf h.target missed candidate) c.account.missed) (candidates h.target))) (ap (λ (s : Seen). s.held) first.same) h.unread.each;
  };
}

-- what a fetch answers is what reading a block answers
pub reads_err : (layout : Layout) (B : Map) (old new : Seen) (level : ℕ) (pointer : BlockPointer) (store : Blocks) (f : ReadFault)
    → FitsFetch layout (want_of level pointer) old new store (Err f) → AnswersOf (want_of level pointer) store (Err f) B
    → Reads (unread_by layout old new) B level pointer store (Err (tree_fault f))
reads_err layout B old new level pointer store (read.Lost a) fits h = h
reads_err layout B old new level pointer store (read.Unread a slot) fits h = fits
reads_err layout B old new level pointer store (read.Unmapped a) fits h = h
reads_err layout B old new level pointer store (read.Crosses a) fits h = h

-- a fault of a fetch, as one of the tree, has its cause
pub cause_err : (layout : Layout) (old new : Seen) (level : ℕ) (pointer : BlockPointer) (store : Blocks) (f : ReadFault)
    → FitsFetch layout (want_of level pointer) old new store (Err f) → FaultCause layout old new (tree_fault f)
cause_err layout old new level pointer store (read.Lost a) fits = (want_of level pointer, fits.2)
cause_err layout old new level pointer store (read.Unread a slot) fits = (want_of level pointer, fits)
cause_err layout old new level pointer store (read.Unmapped a) fits = (want_of level pointer, fits)
cause_err layout old new level pointer store (read.Crosses a) fits = (want_of level pointer, fits)

-- a fault of a fetch, as one of the tree, has its cause in the want of its block
pub cause_of_err : (layout : Layout) (old new : Seen) (level : ℕ) (pointer : BlockPointer) (store : Blocks) (f : ReadFault)
    → FitsFetch layout (want_of level pointer) old new store (Err f) → CauseOf layout (want_of level pointer) old new (tree_fault f)
cause_of_err layout old new level pointer store (read.Lost a) fits = fits.2
cause_of_err layout old new level pointer store (read.Unread a slot) fits = fits
cause_of_err layout old new level pointer store (read.Unmapped a) fits = fits
cause_of_err layout old new level pointer store (read.Crosses a) fits = fits

-- what holds of the fault that a read's becomes
pub by_fault : {A : Type 0} (P : Result A TreeFault → Type 0) (r : Result A TreeFault) (f : ReadFault) → IsErrAnd r (λ e. e ≡ tree_fault f)
    → P (Err (tree_fault f)) → P r
by_fault P (Ok a) f h p = absurd h
by_fault {A} P (Err e) f h p = subst (λ (x : TreeFault). P (Err x)) (sym h) p

-- the same where the layout goes by another name
pub since : {a b c : Seen} (layout layout' : Layout) → layout' ≡ layout → OnlyReads a b → (u : UnreadBlock) (want : Want)
    → unread_by layout' b c u want → unread_by layout a c u want
since {a} {b} {c} layout layout' e first u want h = unread_since layout u want first (subst (λ (l : Layout). unread_by l b c u want) e h)

-- a fault's cause stays one of calls that began earlier, over an equal layout
pub cause_since : {a b : Seen} (c : Seen) (layout layout' : Layout) (f : TreeFault) → layout' ≡ layout → OnlyReads a b → FaultCause layout' b c f
    → FaultCause layout a c f
cause_since {a} {b} c layout layout' (tree.Lost x) e first h = (
  h.0,
  subst (λ (l : Layout). IfSome a.held (λ images. fate images l h.0 ≡ Err (Lost x))) e
      (subst (λ held. IfSome held (λ images. fate images layout' h.0 ≡ Err (Lost x))) (ap (λ (s : Seen). s.held) first.same) h.1),
)
cause_since c layout layout' (tree.Unread x slot) e first h = (h.0, since layout layout' e first (record { addr = x; slot = slot }) h.0 h.1)
cause_since c layout layout' (tree.Unmapped x) e first h = (h.0, subst (λ (l : Layout). sought l h.0 ≡ Err (Unmapped x)) e h.1)
cause_since c layout layout' (tree.Crosses x) e first h = (h.0, subst (λ (l : Layout). sought l h.0 ≡ Err (Crosses x)) e h.1)
cause_since c layout layout' (tree.Malformed x) e first h = tt

-- a fault that is passed on
pub passed_on : {A : Type 0} (P : Result A TreeFault → Type 0) (r : Result A TreeFault) (f : TreeFault) → IsErrAnd r (λ e. e ≡ f) → P (Err f) → P r
passed_on P (Ok a) f h p = absurd h
passed_on {A} P (Err e) f h p = subst (λ (x : TreeFault). P (Err x)) (sym h) p
