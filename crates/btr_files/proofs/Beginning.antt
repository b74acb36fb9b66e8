-- What a file that begins has to give is its content.
use Rattle.std.proofs.Common.{◌≡◌, ℕ, ◌-◌, Bool, true, false, cond, [], Result, Ok, Err, refl, sym, ap, ◌∙◌, subst, arith}
use Rattle.std.proofs.Math.Path.{fun_ext}
use Rattle.std.specs.Prelude.{◌==◌, nat_le}
use Rattle.std.proofs.lemmas.Bool.Decides.{nat_tests}
use Rattle.btr_base.specs.declared.key.Key.{Key}
use Rattle.btr_base.specs.declared.kind.SumKind.{SumKind}
use Rattle.btr_items.specs.FileExtent.{file_extent_of, end_of}
use Rattle.btr_items.specs.declared.fault.ItemFault.{ItemFault}
use Rattle.btr_items.specs.declared.file_extent.FileExtent.{FileExtent}
use Rattle.btr_prog.specs.Goes.{GoesTo}
use Rattle.btr_prog.specs.Prog.{Return, Stop, Need, Emit, exec, bind}
use Rattle.btr_prog.specs.Thread.{thread, go_on}
use Rattle.btr_prog.proofs.Choices.{goes_map, goes_bind}
use Rattle.btr_prog.proofs.ChoiceThreads.{goes_thread}
use Rattle.btr_read.specs.Fate.{Malformed}
use Rattle.btr_walk.specs.declared.rest.Rest.{Rest}
use Rattle.btr_walk.specs.Going.{IsOn}
use Rattle.btr_walk.specs.Le.{TreeItem}
use Rattle.btr_walk.specs.Range.{RangeProg, range}
use Rattle.btr_walk.specs.Reading.{Map}
use Rattle.btr_walk.specs.Rests.{rest_left, met_last}
use Rattle.btr_volume.specs.declared.root.TreeRoot.{TreeRoot}
use Rattle.btr_volume.specs.Lookup.{Program, formed}
use Rattle.btr_volume.specs.Tree.{key, last}
use Rattle.btr_files.specs.declared.progress.Progress.{Progress}
use Rattle.btr_files.specs.declared.progress.Source.{Source}
use Rattle.btr_files.specs.declared.progress.Todo.{Todo}
use Rattle.btr_files.specs.declared.progress.Todo.TheVariants.{Next, Over}
use Rattle.btr_files.specs.Content.{Piece, gap, piece, pieces, content}
use Rattle.btr_files.specs.Extents.{Extent, extent, in_order, extents_in, extents}
use Rattle.btr_files.specs.Streaming.{GivenUpTo, given, on_behind, inline_of, extent_pieces, item_pieces}
use Rattle.btr_files.specs.Streaming.{zeros_to_end, todo_prog, Treats, Then, LeftBy, IsInline}
use Rattle.btr_files.specs.Streaming.{IsGoing}
use Rattle.btr_files.proofs.Binds.{bind_assoc, bind_same}
use Rattle.btr_files.proofs.Onwards.{Pieces, of_then}

module _ (kind : SumKind) (source : Source) where
  abbrev one : ℕ → Extent → Program Piece (Result ℕ ℕ)
  one = piece kind source.sums source.nosum source.size

  abbrev at_end : ℕ → Unit {0} → ℕ
  at_end at u = at

  abbrev given_end : GivenUpTo → Unit {0} → ℕ
  given_end g u = g.at

  -- going on from a position is going on from it with the end of the last extent beside it
  on_same : (end : ℕ) (k : ℕ → Program Piece ℕ) (k' : GivenUpTo → Program Piece ℕ) → ((at : ℕ) → k at ≡ k' (given at end)) → (r : Result ℕ ℕ) → go_on k r
      ≡ go_on k' (on_behind end r)
  on_same end k k' f (Ok at) = f at
  on_same end k k' f (Err at) = refl

  -- the pieces of an extent, and then what comes behind it, with its end beside the position or without
  on_piece : (x : Program Piece (Result ℕ ℕ)) (end : ℕ) (k : ℕ → Program Piece ℕ) (k' : GivenUpTo → Program Piece ℕ)
      → ((at : ℕ) → k at ≡ k' (given at end)) → bind x (go_on k) ≡ bind (bind x (λ r. Return (on_behind end r))) (go_on k')
  on_piece x end k k' f = bind_same x (go_on k) (λ r. go_on k' (on_behind end r)) (on_same end k k' f)
      ∙ sym (bind_assoc x (λ r. Return (on_behind end r)) (go_on k'))

  -- an extent in its order gives as an extent what its item gives; out of order it is malformed either way
  on_order : (item : TreeItem) (fields : FileExtent) (at : ℕ) (b : Bool) (k : ℕ → Program Extent (Unit {0})) (k' : GivenUpTo → Program Piece ℕ)
      → ((at' end' : ℕ) → thread one at_end at' (k end') ≡ k' (given at' end')) →
      thread one at_end at (bind (cond b (Emit (extent item fields) (Return (Ok (end_of item.key.offset fields)))) (Stop (Malformed item.leaf))) (go_on k))
      ≡ bind (cond b (bind (one at (extent item fields)) (λ r. Return (on_behind (end_of item.key.offset fields) r))) (Stop (Malformed item.leaf))) (go_on k')
  on_order item fields at true k k' f = on_piece (one at (extent item fields)) (end_of item.key.offset fields)
      (λ at'. thread one at_end at' (k (end_of item.key.offset fields))) k' (λ at'. f at' (end_of item.key.offset fields))
  on_order item fields at false k k' f = refl

  -- an item gives by its form what its extent gives, and so do the items behind it
  on_form : (item : TreeItem) (at end : ℕ) (r : Result FileExtent ItemFault) (k : ℕ → Program Extent (Unit {0})) (k' : GivenUpTo → Program Piece ℕ)
      → ((at' end' : ℕ) → thread one at_end at' (k end') ≡ k' (given at' end')) →
      thread one at_end at (bind (formed item r (λ fields. in_order end (extent item fields))) (go_on k))
      ≡ bind (formed item r (extent_pieces kind source (given at end) item)) (go_on k')
  on_form item at end (Ok fields) k k' f = on_order item fields at (nat_le end item.key.offset) k k' f
  on_form item at end (Err fault) k k' f = refl

  -- the pieces of the extents in some items are those of the items
  pub thread_as : (p : RangeProg) (at end : ℕ) → thread one at_end at (extents_in end p) ≡ thread (item_pieces kind source) given_end (given at end) p
  thread_as (Return tt) at end = refl
  thread_as (Stop f) at end = refl
  thread_as (Need w k) at end = ap (Need w) (fun_ext (λ bytes. thread_as (k bytes) at end))
  thread_as (Emit item p) at end =
      on_form item at end (file_extent_of item.key.offset item.body) (λ end'. extents_in end' p) (λ g. thread (item_pieces kind source) given_end g p)
      (λ at' end'. thread_as p at' end')

  module _ (Bs : ℕ → Map) where
    -- a run of the pieces of some items is one of the pieces of their extents
    treats_goes : (p : RangeProg) (at end : ℕ) (q : Pieces) → Treats kind source Bs (given at end) (exec (Bs 0) p) q
        → GoesTo Bs (pieces kind source.sums source.nosum source.size at (extents_in end p)) q
    treats_goes p at end q h =
        let t : GoesTo Bs (thread (item_pieces kind source) given_end (given at end) p) h.0 =
        goes_thread Bs (item_pieces kind source) given_end (given at end) p (exec (Bs 0) p) h.0 (goes_map Bs 0 p) h.1 in
        subst (λ (x : Program Piece ℕ). GoesTo Bs (bind x (zeros_to_end kind source)) q) (sym (thread_as p at end))
        (goes_bind Bs (zeros_to_end kind source) (thread (item_pieces kind source) given_end (given at end) p) h.0 q t h.2)

zero_test : (n : ℕ) → n ≡ 0 → (n == 0) ≡ true
zero_test n h = grind (arith, nat_tests)

some_test : (n : ℕ) → (n ≡ 0 → ⊥) → (n == 0) ≡ false
some_test n h = grind (arith, nat_tests)

module _ (kind : SumKind) (source : Source) (tree : TreeRoot) (ino : ℕ) (rest : Rest) (Bs : ℕ → Map) (todo : Todo) where
  -- a file that begins: nothing of it has been given
  abbrev begun : Progress
  begun = record { rest = rest; at = 0; end = 0; todo = todo }

  -- a run is one of the file's content, where it is known whether the file is empty
  abbrev Content : Bool → Pieces → Type 0
  Content b q = GoesTo Bs (cond b (Return tt) (pieces kind source.sums source.nosum source.size 0 (extents tree ino))) q

  -- an empty file, and one that isn't
  pub begins_empty : (q : Pieces) → source.size ≡ 0 → todo ≡ Over → LeftBy kind source Bs (Bs 0) begun q
      → GoesTo Bs (content kind source.sums source.nosum source.size tree ino) q
  begins_empty q none is h =
      let h' : Then kind source Bs (Return (Err 0)) (exec (Bs 0) (rest_left (Bs 0) rest)) q =
      subst (λ (t : Todo). Then kind source Bs (todo_prog kind source 0 0 (inline_of (met_last (Bs 0) rest)) t) (exec (Bs 0) (rest_left (Bs 0) rest)) q)
      is h in
      let e : GoesTo Bs (gap (source.size - 0) (Return tt)) q = of_then kind source Bs (Err 0) (exec (Bs 0) (rest_left (Bs 0) rest)) q h' in
      let z : source.size - 0 ≡ 0 = omega (arith, none) in
      subst (λ (b : Bool). Content b q) (sym (zero_test source.size none)) (subst (λ (n : ℕ). GoesTo Bs (gap n (Return tt)) q) z e)

  -- each run of what a file that isn't empty has to give as it begins is one of its content
  pub begins_some : (q : Pieces) → (source.size ≡ 0 → ⊥) → todo ≡ Next → rest_left (Bs 0) rest ≡ range (key ino 108 0) (key ino 108 last) tree.place
      → LeftBy kind source Bs (Bs 0) begun q → GoesTo Bs (content kind source.sums source.nosum source.size tree ino) q
  begins_some q some is program h =
      let h' : Then kind source Bs (Return (Ok (given 0 0))) (exec (Bs 0) (rest_left (Bs 0) rest)) q =
      subst (λ (t : Todo). Then kind source Bs (todo_prog kind source 0 0 (inline_of (met_last (Bs 0) rest)) t) (exec (Bs 0) (rest_left (Bs 0) rest)) q)
      is h in
      let t : Treats kind source Bs (given 0 0) (exec (Bs 0) (rest_left (Bs 0) rest)) q =
      of_then kind source Bs (Ok (given 0 0)) (exec (Bs 0) (rest_left (Bs 0) rest)) q h' in
      subst (λ (b : Bool). Content b q) (sym (some_test source.size some))
      (treats_goes kind source Bs (range (key ino 108 0) (key ino 108 last) tree.place) 0 0 q
      (subst (λ (x : RangeProg). Treats kind source Bs (given 0 0) (exec (Bs 0) x) q) program t))

-- at the beginning no block was read
pub going_begun : (B : Map) (rest : Rest) (todo : Todo) (lo hi : Key) → rest.lo ≡ lo → rest.hi ≡ hi → IsOn lo hi B [] rest.place
    → IsInline (met_last B rest) todo → IsGoing B [] (record { rest = rest; at = 0; end = 0; todo = todo })
going_begun B rest todo lo hi same_lo same_hi on inline = record {
  rest = subst (λ (k : Key). IsOn k rest.hi B [] rest.place) (sym same_lo) (subst (λ (k : Key). IsOn lo k B [] rest.place) (sym same_hi) on);
  inline = inline;
}
