-- How far a scan has come on its way to the next leaf.
use Rattle.std.proofs.Common.{◌≡◌, ℕ, ◌<◌, ◌≤◌, List, [], ◌++◌, Option, Some, None, IsSomeAnd, Result, Ok, Err, ap, ◌∙◌, subst}
use Rattle.std.proofs.Common.{append_assoc}
use Rattle.btr_base.specs.declared.key.Key.{Key}
use Rattle.btr_prog.specs.Prog.{prepend, exec}
use Rattle.btr_prog.specs.Answers.{Halt, Follows, no_part}
use Rattle.btr_prog.proofs.Follow.{follows_as}
use Rattle.btr_read.specs.Fate as fate
use Rattle.btr_read.specs.Store.{Blocks, SameLoans, block_of}
use Rattle.btr_walk.specs.Ranks.{IsShaped, RankFalls, rank}
use Rattle.btr_read.specs.declared.want.Want.{Want}
use Rattle.btr_walk.specs.declared.fault.TreeFault.{TreeFault}
use Rattle.btr_walk.specs.declared.going.Gone.TheVariants as gone
use Rattle.btr_walk.specs.declared.going.Where.{Where}
use Rattle.btr_walk.specs.Le.{TreeItem}
use Rattle.btr_walk.specs.Range.{RangeProg, emit_all}
use Rattle.btr_walk.specs.Reading.{Map, UnreadBlock, halt_of}
use Rattle.btr_walk.specs.Scans.{wants, part_items}
use Rattle.btr_walk.specs.Going.{place_prog, IsAlong, GoesOnTo, GoesOnHolding, IsGone, LendsGone}
use Rattle.btr_walk.specs.Leaving.{IsReached}
use Rattle.btr_walk.proofs.Items.{part_none}
use Rattle.btr_walk.proofs.Marks.{behind_wants, past_both}
use Rattle.btr_walk.specs.declared.leaf_at.LeafAt.{LeafAt}
use Rattle.btr_walk.specs.Hand.{IsHeld, LendsHand}

module _ (lo hi : Key) (B : Map) where
  -- from whatever was seen before
  abbrev pub Leads : Where → Where → Type 0
  Leads from to = (seen : List Want) → IsAlong lo hi B seen from → GoesOnTo lo hi B seen from (place_prog lo hi B to) to

  -- one after another
  abbrev comes_then : (seen : List Want) (from at : Where) (c : RangeProg) (after : Where) → (x : GoesOnTo lo hi B seen from (place_prog lo hi B at) at)
      → GoesOnTo lo hi B (seen ++ x.past) at c after → GoesOnTo lo hi B seen from c after
  comes_then seen from at c after x y = record {
    past = x.past ++ y.past;
    is = x.is ∙ ap (prepend (wants x.past)) y.is ∙ past_both x.past y.past (exec B c);
    on = subst (λ (z : List Want). IsAlong lo hi B z after) (append_assoc seen x.past y.past) y.on;
  }

  -- where a scan that came to a place goes on from there to no leaf yet, it came from the first place to the next
  pub leads_between : (Is : UnreadBlock → Want → Type 0) (from at after : Where) (store : Blocks) → Leads from at
      → IsGone lo hi Is B at after store (Ok gone.Between) → Leads from after
  leads_between Is from at after store l g seen on =
      let x = l seen on in
      comes_then seen from at (place_prog lo hi B after) after x (g (seen ++ x.past) x.on)

  -- where a scan that came to a place goes on from there to a leaf, it reached that leaf from the first place
  pub leads_leaf : (Is : UnreadBlock → Want → Type 0) (from at after : Where) (store : Blocks) (l : LeafAt) → Leads from at
      → IsGone lo hi Is B at after store (Ok (gone.Leaf l)) → IsReached lo hi Is B from after store (Ok (Some l))
  leads_leaf Is from at after store l lead g seen on =
      let x = lead seen on in
      both (block_of store l.loan) x (g (seen ++ x.past) x.on)
    where
      both : (o : Option (List ℕ)) (x : GoesOnTo lo hi B seen from (place_prog lo hi B at) at)
          → IsSomeAnd o (λ block. GoesOnHolding lo hi B (seen ++ x.past) at
          (emit_all (part_items l.pointer.addr block l.next l.end) (place_prog lo hi B after)) after store l)
          → IsSomeAnd o (λ block. GoesOnHolding lo hi B seen from (emit_all (part_items l.pointer.addr block l.next l.end)
          (place_prog lo hi B after)) after store l)
      both None x h = absurd h
      both (Some block) x h =
          let c = h.comes in
          record {
            comes = comes_then seen from at (emit_all (part_items l.pointer.addr block l.next l.end) (place_prog lo hi B after)) after x c;
            held = subst (λ (z : List Want). IsHeld B z store l) (append_assoc seen x.past c.past) h.held;
          }

  -- a leaf with no item in the range
  pub leads_empty : (Is : UnreadBlock → Want → Type 0) (from at after : Where) (store : Blocks) (l : LeafAt) → l.end ≤ l.next → Leads from at
      → IsGone lo hi Is B at after store (Ok (gone.Leaf l)) → Leads from after
  leads_empty Is from at after store l le lead g seen on =
      let x = lead seen on in
      empty (block_of store l.loan) x (g (seen ++ x.past) x.on)
    where
      empty : (o : Option (List ℕ)) (x : GoesOnTo lo hi B seen from (place_prog lo hi B at) at)
          → IsSomeAnd o (λ block. GoesOnHolding lo hi B (seen ++ x.past) at
          (emit_all (part_items l.pointer.addr block l.next l.end) (place_prog lo hi B after)) after store l)
          → GoesOnTo lo hi B seen from (place_prog lo hi B after) after
      empty None x h = absurd h
      empty (Some block) x h =
          comes_then seen from at (place_prog lo hi B after) after x
          (subst (λ (items : List TreeItem). GoesOnTo lo hi B (seen ++ x.past) at (emit_all items (place_prog lo hi B after)) after)
          (part_none l.pointer.addr block l.next l.end le) h.comes)

  -- what is answered from here is answered from the beginning
  follows_from : (Is : UnreadBlock → Want → Type 0) (seen : List Want) (from at : Where) (ans : Result (Unit {0}) (Halt fate.Fault UnreadBlock))
      → (x : GoesOnTo lo hi B seen from (place_prog lo hi B at) at) → Follows Is no_part (seen ++ x.past) (exec B (place_prog lo hi B at)) [] ans
      → Follows Is no_part seen (exec B (place_prog lo hi B from)) [] ans
  follows_from Is seen from at ans x h =
      behind_wants Is seen x.past (exec B (place_prog lo hi B from)) no_part (exec B (place_prog lo hi B at)) [] ans x.is h

  -- where a scan that came to a place is at its end there, it reached its end from the first place
  pub leads_end : (Is : UnreadBlock → Want → Type 0) (from at after : Where) (store store' : Blocks) → Leads from at
      → IsGone lo hi Is B at after store (Ok gone.End) → IsReached lo hi Is B from after store' (Ok None)
  leads_end Is from at after store store' lead g seen on = let x = lead seen on in follows_from Is seen from at (Ok tt) x (g (seen ++ x.past) x.on)

  -- where a scan that came to a place halts there, it halts with this fault from the first place
  pub leads_err : (Is : UnreadBlock → Want → Type 0) (from at after : Where) (store store' : Blocks) (f : TreeFault) → Leads from at
      → IsGone lo hi Is B at after store (Err f) → IsReached lo hi Is B from after store' (Err f)
  leads_err Is from at after store store' f lead g seen on = let x = lead seen on in follows_from Is seen from at (Err (halt_of f)) x (g (seen ++ x.past) x.on)

-- where a scan came to a leaf, that leaf's loan is new
pub gone_lent : (old new : Blocks) (x : _) (l : LeafAt) → x ≡ gone.Leaf l → LendsGone old new (Ok x) → LendsHand old new l
gone_lent old new x l e h = subst (λ y. LendsGone old new (Ok y)) e h

-- where a scan came to no leaf yet, no loan changed
pub gone_same : (old new : Blocks) (x : _) → x ≡ gone.Between → LendsGone old new (Ok x) → SameLoans old new
gone_same old new x e h = subst (λ y. LendsGone old new (Ok y)) e h

-- where a scan came to a leaf, it is nearer to its end
pub gone_near : (place after : Where) (x : _) (l : LeafAt) → x ≡ gone.Leaf l → RankFalls place after (Ok x) → IsShaped after × (rank after < rank place)
gone_near place after x l e h = subst (λ y. RankFalls place after (Ok y)) e h

-- where a scan came to no leaf yet, it is nearer to its end
pub gone_near_between : (place after : Where) (x : _) → x ≡ gone.Between → RankFalls place after (Ok x) → IsShaped after × (rank after < rank place)
gone_near_between place after x e h = subst (λ y. RankFalls place after (Ok y)) e h

-- where a scan came to its end, it stays where it is
pub gone_at_end : (place after : Where) (x : _) → x ≡ gone.End → RankFalls place after (Ok x) → after ≡ place
gone_at_end place after x e h = subst (λ y. RankFalls place after (Ok y)) e h

-- less may be said of a block that could not be read
pub gone_as : (lo hi : Key) (B : Map) (Is Less : UnreadBlock → Want → Type 0) (place after : Where) (store : Blocks) (result : Result _ TreeFault)
    → ((u : UnreadBlock) (w : Want) → Is u w → Less u w) → IsGone lo hi Is B place after store result → IsGone lo hi Less B place after store result
gone_as lo hi B Is Less place after store (Ok (gone.Leaf l)) weaker g = g
gone_as lo hi B Is Less place after store (Ok gone.Between) weaker g = g
gone_as lo hi B Is Less place after store (Ok gone.End) weaker g = g
gone_as lo hi B Is Less place after store (Err f) weaker g = λ seen on. follows_as Is Less weaker no_part seen (exec B (place_prog lo hi B place)) []
    (Err (halt_of f)) (g seen on)
