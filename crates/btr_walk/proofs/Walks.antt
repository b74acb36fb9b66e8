-- A step of a walk over the blocks of a tree.
use Rattle.std.proofs.Common.{◌≡◌, ℕ, ◌<◌, [], Option, Some, None, IfSome, IsSomeAnd, Result, Ok, Err, refl, sym, ◌∙◌, subst}
use Rattle.btr_prog.specs.Prog.{exec}
use Rattle.btr_prog.specs.Answers.{Follows, no_part}
use Rattle.btr_prog.proofs.Follow.{follows_as}
use Rattle.btr_rack.specs.Rack.{Seen}
use Rattle.btr_read.specs.Serves.{Serves}
use Rattle.btr_read.specs.Layout.{Layout}
use Rattle.btr_read.specs.Store.{Blocks, Lent, SameLoans, block_of, IsLiveIn, IsLentBy}
use Rattle.btr_read.specs.declared.want.Want.{Want}
use Rattle.btr_walk.specs.declared.ahead.Ahead.{Ahead}
use Rattle.btr_walk.specs.declared.block_scan.BlockScan.{BlockScan}
use Rattle.btr_walk.specs.declared.fault.TreeFault.{TreeFault}
use Rattle.btr_walk.specs.declared.found_block.FoundBlock.{FoundBlock}
use Rattle.btr_walk.specs.declared.going.Where.{Where}
use Rattle.btr_walk.specs.declared.preorder.Entry.{Entry}
use Rattle.btr_walk.specs.Le.{want_of}
use Rattle.btr_walk.specs.Lending.{base}
use Rattle.btr_walk.specs.Ranks.{IsShaped, rank}
use Rattle.btr_walk.specs.Reading.{Map, UnreadBlock, Tells, unread_by, FaultCause, halt_of}
use Rattle.btr_walk.specs.Preorder.{place_blocks, place_of, IsAhead, Enters, IsEntry, GivesBlock, IsStep, RankFallsStep, LendsBlock, LendsStep}
use Rattle.btr_walk.specs.Preorder.{IsNextBlock, Walked}
use Rattle.btr_walk.proofs.Joined.{drawn, block_is}
use Rattle.btr_walk.proofs.Lending.{given_back, same_then}
use Rattle.btr_walk.proofs.Preorders.{gives_entered}
use Rattle.btr_walk.proofs.Turns.{base_layout}

-- what follows of a value follows of the one that is there
some_as : {A : Type 0} (o : Option A) (P Q : A → Type 0) → ((a : A) → P a → Q a) → IsSomeAnd o P → IsSomeAnd o Q
some_as None P Q f h = h
some_as (Some a) P Q f h = f a h

module _ (B : Map) (was then is : UnreadBlock → Want → Type 0) (place : Where) (store : Blocks) where
  -- where no block is to be read any more, the step comes to the end
  pub step_end : IsAhead is B place (Ok None) → IsStep is B place store (Ok None)
  step_end h seen on = subst (λ p. Follows is no_part seen (exec B p) [] (Ok tt)) (sym (h seen on)) (refl, refl)

  -- where the block that is to be read next comes to a fault, the step halts with it
  pub step_halts : (ahead : Ahead) (f : TreeFault) → ((u : UnreadBlock) (w : Want) → then u w → is u w) → IsAhead was B place (Ok (Some ahead))
      → IsEntry then B ahead store (Err f) → IsStep is B place store (Err f)
  step_halts ahead f weaker a e seen on =
      let x = a seen on in
      subst (λ p. Follows is no_part seen (exec B p) [] (Err (halt_of f))) (sym x.0)
      (follows_as then is weaker no_part seen (exec B (place_blocks B (place_of ahead))) [] (Err (halt_of f)) (e seen x.1))

  -- where the block that is to be read next was had, the step gives it
  pub step_gives : (ahead : Ahead) (e : Entry) → IsAhead was B place (Ok (Some ahead)) → IsEntry then B ahead store (Ok e)
      → IsStep is B place store (Ok (Some e))
  step_gives ahead e a h seen on =
      let x = a seen on in
      some_as (block_of store e.loan) (λ block. Enters B seen (place_of ahead) e.place (want_of ahead.todo.level ahead.todo.pointer)
      (record { addr = e.addr; level = e.level; bytes = block }))
      (λ block. GivesBlock B seen place e.place (record { addr = e.addr; level = e.level; bytes = block }))
      (λ block y. gives_entered B seen place (place_of ahead) e.place (want_of ahead.todo.level ahead.todo.pointer)
      (record { addr = e.addr; level = e.level; bytes = block }) x.0 y) (h seen x.1)

-- where no loan changed before it, the loan of a block that was read is the only new one
pub lends_block : (old mid new : Blocks) (want : Want) (e : Entry) → SameLoans old mid → IsLentBy mid new want e.loan → LendsBlock old new e
lends_block old mid new want e same t = record { others = same_then same (given_back mid new (base new (Some e.loan)) want e.loan t refl); live = t.live }

-- the same over a layout that is equal
step_as : (layout layout' : Layout) (before now : Seen) (place : Where) (store : Blocks) (r : Result (Option Entry) TreeFault) → layout' ≡ layout
    → Tells layout' before now (λ B. IsStep (unread_by layout' before now) B place store r)
    → Tells layout before now (λ B. IsStep (unread_by layout before now) B place store r)
step_as layout layout' before now place store r e h = subst (λ (l : Layout). Tells l before now (λ B. IsStep (unread_by l before now) B place store r)) e h

module _ (store mid new : Blocks) (scan : BlockScan) (taken : Option Lent) (is_taken : taken ≡ scan.loan) (back : SameLoans (base store taken) mid)
    (before now : Seen) (serves : Serves now new) where
  -- which want it is that could not be read in this call
  abbrev Is : UnreadBlock → Want → Type 0
  Is = unread_by store.layout before now

  -- but for the loan of the walk's block the loans are as they were
  from_store : SameLoans (base store scan.loan) mid
  from_store = subst (λ l. SameLoans (base store l) mid) is_taken back

  -- the layout is as it was
  layout : mid.layout ≡ store.layout
  layout = from_store.layout ∙ base_layout store scan.loan

  -- a call that gives no block leaves the walk at its place, without a loan
  walked_free : (loan : Option Lent) (result : Result (Option FoundBlock) TreeFault) (r : Result (Option Entry) TreeFault) → loan ≡ None → SameLoans mid new
      → IsShaped scan.place → ((B : Map) → IsStep Is B scan.place new r → IsNextBlock Is B scan (record { place = scan.place; loan = loan }) result)
      → Tells mid.layout before now (λ B. IsStep (unread_by mid.layout before now) B scan.place new r)
      → Walked store new scan (record { place = scan.place; loan = loan }) before now result
  walked_free loan result r none same shaped f c = record {
    others = subst (λ l. SameLoans (base store scan.loan) (base new l)) (sym none) (same_then from_store same);
    ready = record { serves = serves; live = subst (λ l. IfSome l (IsLiveIn new)) (sym none) tt; shaped = shaped };
    content = drawn store.layout (λ B. IsStep Is B scan.place new r) (λ B. IsNextBlock Is B scan (record { place = scan.place; loan = loan }) result) f
        (step_as store.layout mid.layout before now scan.place new r layout c);
  }

  -- a call that ends in a fault leaves the walk at its place, without a loan
  pub walked_err : (loan : Option Lent) (f : TreeFault) → loan ≡ None → SameLoans mid new → IsShaped scan.place
      → Tells mid.layout before now (λ B. IsStep (unread_by mid.layout before now) B scan.place new (Err f))
      → Walked store new scan (record { place = scan.place; loan = loan }) before now (Err f)
  walked_err loan f none same shaped c = walked_free loan (Err f) (Err f) none same shaped (λ B h seen on. h seen on) c

  -- a call that comes to the end leaves the walk at its place, without a loan
  pub walked_end : (loan : Option Lent) → loan ≡ None → SameLoans mid new → IsShaped scan.place
      → Tells mid.layout before now (λ B. IsStep (unread_by mid.layout before now) B scan.place new (Ok None))
      → Walked store new scan (record { place = scan.place; loan = loan }) before now (Ok None)
  walked_end loan none same shaped c = walked_free loan (Ok None) (Ok None) none same shaped (λ B h seen on. h seen on) c

  -- a call that gives a block leaves the walk at the place behind it, with its loan
  pub walked_some : (loan : Option Lent) (e : Entry) (found : FoundBlock) → loan ≡ Some e.loan → block_of new e.loan ≡ Some found.bytes.now
      → found.addr ≡ e.addr → found.level ≡ e.level → LendsBlock mid new e → IsShaped e.place
      → Tells mid.layout before now (λ B. IsStep (unread_by mid.layout before now) B scan.place new (Ok (Some e)))
      → Walked store new scan (record { place = e.place; loan = loan }) before now (Ok (Some found))
  walked_some loan e found kept is addr level lent shaped c = record {
    others = subst (λ l. SameLoans (base store scan.loan) (base new l)) (sym kept) (same_then from_store lent.others);
    ready = record { serves = serves; live = subst (λ l. IfSome l (IsLiveIn new)) (sym kept) lent.live; shaped = shaped };
    content = drawn store.layout (λ B. IsStep Is B scan.place new (Ok (Some e)))
        (λ B. IsNextBlock Is B scan (record { place = e.place; loan = loan }) (Ok (Some found)))
        (λ B h seen on. subst (λ (n : ℕ). GivesBlock B seen scan.place e.place (record { addr = n; level = found.level; bytes = found.bytes.now }))
        (sym addr) (subst (λ (n : ℕ). GivesBlock B seen scan.place e.place (record { addr = e.addr; level = n; bytes = found.bytes.now })) (sym level)
        (block_is new e.loan found.bytes.now (λ block. GivesBlock B seen scan.place e.place
        (record { addr = e.addr; level = e.level; bytes = block })) is (h seen on))))
        (step_as store.layout mid.layout before now scan.place new (Ok (Some e)) layout c);
  }

  -- a fault's cause is one over the layout as it was
  pub cause_of : (f : TreeFault) → FaultCause mid.layout before now f → FaultCause store.layout before now f
  cause_of f h = subst (λ l. FaultCause l before now f) layout h

-- where a step gave a block, its loan is new, and no other changed
pub lends_is : (old new : Blocks) (o : Option Entry) (e : Entry) → o ≡ Some e → LendsStep old new (Ok o) → LendsBlock old new e
lends_is old new o e is h = subst (λ x. LendsStep old new (Ok x)) is h

-- where a step gave a block, the walk is nearer to its end
pub rank_falls_is : (place : Where) (o : Option Entry) (e : Entry) → o ≡ Some e → RankFallsStep place (Ok o) → IsShaped e.place × (rank e.place < rank place)
rank_falls_is place o e is h = subst (λ x. RankFallsStep place (Ok x)) is h

-- the loan that is kept is the one that was put there
pub held_is : (place : Option Lent) (held loan : Lent) → place ≡ Some held → place ≡ Some loan → held ≡ loan
held_is place held loan a b = let e : Some held ≡ Some loan = sym a ∙ b in cc

-- where a step came to the end, no loan changed
pub lends_none : (old new : Blocks) (o : Option Entry) → o ≡ None → LendsStep old new (Ok o) → SameLoans old new
lends_none old new o is h = subst (λ x. LendsStep old new (Ok x)) is h
