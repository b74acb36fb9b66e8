-- How a scan of a tree's items goes on from owner to owner.
use Rattle.std.proofs.Common.{◌≡◌, ℕ, ◌<◌, List, [], ◌++◌, Option, Some, None, Result, Ok, Err, refl, sym, ap, ◌∙◌, subst, append-nil, append_assoc, arith}
use Rattle.btr_base.specs.declared.key.Key.{Key}
use Rattle.btr_prog.specs.Prog.{Does, Return, Stop, Emit, first, prepend, exec, and_then, want_marks}
use Rattle.btr_prog.specs.Thread.{go_on_run}
use Rattle.btr_prog.specs.Answers.{Follows, no_part}
use Rattle.btr_prog.proofs.Follow.{follows_as}
use Rattle.btr_read.specs.Fate as fate
use Rattle.btr_read.specs.Store.{Blocks}
use Rattle.btr_read.specs.declared.want.Want.{Want}
use Rattle.btr_walk.specs.declared.fault.TreeFault.{TreeFault}
use Rattle.btr_walk.specs.declared.fault.TreeFault.TheVariants.{Malformed}
use Rattle.btr_walk.specs.declared.found.Found.{Found}
use Rattle.btr_walk.specs.declared.rest.Rest.{Rest}
use Rattle.btr_walk.specs.declared.scan.Scan.{Scan}
use Rattle.btr_walk.specs.Going.{IsOn}
use Rattle.btr_walk.specs.Le.{TreeItem}
use Rattle.btr_walk.specs.Reading.{Map, UnreadBlock, halt_of}
use Rattle.btr_walk.specs.Rests.{Rests, rank_left}
use Rattle.btr_walk.specs.ScanEnds.{left_of, rank_of, Gives, HoldsLeaf, IsNextOn}
use Rattle.btr_walk.specs.Showing.{item_of}
use Rattle.btr_walk.proofs.Marks.{behind_wants, past_both, wants_fault}
use Rattle.btr_volume.specs.Lookup.{Program}
use Rattle.btr_volume.specs.declared.root.TreeRoot.{TreeRoot}
use Rattle.btr_files.proofs.Rows.{rest_is, scan_of}
use Rattle.btr_resolve.specs.Cursor.{Meets, owners_of, GivesOwner, PassesItem, HaltsOwners, IsTurn, IsFound, owners_left, AreOn, LeadsOn, NextOwnerBy}
use Rattle.btr_resolve.specs.Owning.{item_met, owners_in}
use Rattle.btr_resolve.specs.declared.owner.Met.{Met}
use Rattle.btr_resolve.specs.declared.owner.Owner.{Owner}
use Rattle.btr_resolve.specs.declared.owners.Owners.{Owners}
use Rattle.btr_resolve.specs.declared.owners.Turn.TheVariants as turn
use Rattle.btr_resolve.proofs.Threads.{RunOf, turned, turn_halts, turn_ends}

abbrev fin : Met → Unit {0} → Unit {0}
fin met u = u

module _ (addr : ℕ) (tree : TreeRoot) (B : Map) (old new : Blocks) (scan scan' : Scan) (met : Met) where
  -- the run of the owners that are still to come
  abbrev from : RunOf Owner (Unit {0})
  from = exec B (owners_of addr tree B old met scan)

  -- the scan came to no item
  pub turn_fault : (Is : UnreadBlock → Want → Type 0) (f : TreeFault) → IsNextOn Is B old new scan scan' (Err f)
      → IsTurn addr tree Is B old new scan scan' met met (Err f)
  turn_fault Is f n seen on = turn_halts B (item_met addr tree) fin Is no_part seen met (left_of B old scan) (halt_of f) (n seen on)

  -- where the scan has no item more, there is no owner more
  pub turn_end : (Is : UnreadBlock → Want → Type 0) → IsNextOn Is B old new scan scan' (Ok None)
      → IsTurn addr tree Is B old new scan scan' met met (Ok turn.End)
  turn_end Is n seen on = turn_ends B (item_met addr tree) fin Is no_part seen met (left_of B old scan) (n seen on)

  module _ (met' : Met) (found : Found) where
    abbrev item : TreeItem
    item = item_of found

    -- what the item comes to by a program, and then the owners behind it
    abbrev after_item : Program Owner (Result Met (Unit {0})) → RunOf Owner (Unit {0})
    after_item p = and_then (exec B p) (go_on_run (λ m. exec B (owners_of addr tree B new m scan')))

    -- what is still to come are the wants before the item, what it comes to, and the owners behind it
    item_turned : (seen : List Want) (g : Gives B seen old new scan scan' found) (p : Program Owner (Result Met (Unit {0})))
        → item_met addr tree met item ≡ p → from ≡ prepend (want_marks g.past) (after_item p)
    item_turned seen g p is =
        turned B (item_met addr tree) fin (left_of B old scan) (left_of B new scan') item g.past met g.is
        ∙ ap (λ q. prepend (want_marks g.past) (after_item q)) is

    -- an item that gives no owner is passed
    pub turn_other : (Is : UnreadBlock → Want → Type 0) → Meets addr tree met item met' (Ok None)
        → IsNextOn Is B old new scan scan' (Ok (Some found)) → IsTurn addr tree Is B old new scan scan' met met' (Ok turn.Other)
    turn_other Is is n seen on =
        let g = n seen on in
        record { past = g.past; is = item_turned seen g (Return (Ok met')) is; on = g.on; held = g.held }

    -- an item that gives an owner gives the next one
    pub turn_owner : (Is : UnreadBlock → Want → Type 0) (owner : Owner) → Meets addr tree met item met' (Ok (Some owner))
        → IsNextOn Is B old new scan scan' (Ok (Some found)) → IsTurn addr tree Is B old new scan scan' met met' (Ok (turn.Owner owner))
    turn_owner Is owner is n seen on =
        let g = n seen on in
        record { past = g.past; is = item_turned seen g (Emit owner (Return (Ok met'))) is; on = g.on; held = g.held }

    -- an item that makes its leaf malformed ends the owners with that fault
    pub turn_broken : (Is : UnreadBlock → Want → Type 0) (f : TreeFault) → Meets addr tree met item met' (Err f)
        → IsNextOn Is B old new scan scan' (Ok (Some found)) → IsTurn addr tree Is B old new scan scan' met met' (Err f)
    turn_broken Is f is n seen on =
        let g = n seen on in
        subst (λ (x : TreeFault). HaltsOwners addr tree Is B seen old met scan x) (sym is.1)
        (wants_fault Is seen g.past from (fate.Malformed item.leaf) (item_turned seen g (Stop (fate.Malformed item.leaf)) is.0))

-- ---- from owner to owner

module _ (addr : ℕ) (tree : TreeRoot) (B : Map) (start : Blocks) (scan0 : Scan) (met0 : Met) where
  -- items were passed, whatever was seen before
  abbrev pub Gone : Blocks → Scan → Met → Type 0
  Gone store scan met = (seen : List Want) → IsOn scan0.lo scan0.hi B seen scan0.place → PassesItem addr tree B seen start store scan0 scan met0 met

  -- at the beginning no item was passed
  pub gone_none : Gone start scan0 met0
  gone_none seen on = record {
    past = [];
    is = refl;
    on = subst (λ (x : List Want). IsOn scan0.lo scan0.hi B x scan0.place) (sym (append-nil seen)) on;
    held = λ h. subst (λ (x : List Want). HoldsLeaf B x start scan0) (sym (append-nil seen)) h;
  }

  module _ (Was Is : UnreadBlock → Want → Type 0) (store : Blocks) (scan : Scan) (met : Met) (lo : scan.lo ≡ scan0.lo)
      (hi : scan.hi ≡ scan0.hi) (gone : Gone store scan met) where
    -- a scan that goes on by the first one's ends does so by its own
    on_here : (seen : List Want) → IsOn scan0.lo scan0.hi B seen scan.place → IsOn scan.lo scan.hi B seen scan.place
    on_here seen on = subst (λ (k : Key). IsOn k scan.hi B seen scan.place) (sym lo)
        (subst (λ (k : Key). IsOn scan0.lo k B seen scan.place) (sym hi) on)

    -- a scan that goes on from there does so by the first one's ends, behind all wants
    on_there : (seen xs ys : List Want) (scan' : Scan) → IsOn scan.lo scan.hi B ((seen ++ xs) ++ ys) scan'.place
        → IsOn scan0.lo scan0.hi B (seen ++ (xs ++ ys)) scan'.place
    on_there seen xs ys scan' on =
        subst (λ (z : List Want). IsOn scan0.lo scan0.hi B z scan'.place) (append_assoc seen xs ys)
        (subst (λ (k : Key). IsOn k scan0.hi B ((seen ++ xs) ++ ys) scan'.place) lo
        (subst (λ (k : Key). IsOn scan.lo k B ((seen ++ xs) ++ ys) scan'.place) hi on))

    -- the leaf in hand there is among all wants, however they are split
    held_there : (seen xs ys : List Want) (new : Blocks) (scan' : Scan) → HoldsLeaf B ((seen ++ xs) ++ ys) new scan'
        → HoldsLeaf B (seen ++ (xs ++ ys)) new scan'
    held_there seen xs ys new scan' h = subst (λ (z : List Want). HoldsLeaf B z new scan') (append_assoc seen xs ys) h

    module _ (new : Blocks) (scan' : Scan) (met' : Met) where
      -- behind items that were passed, one more was passed
      pub gone_more : IsTurn addr tree Was B store new scan scan' met met' (Ok turn.Other) → Gone new scan' met'
      gone_more t seen on =
          let x = gone seen on in
          let y = t (seen ++ x.past) (on_here (seen ++ x.past) x.on) in
          record {
            past = x.past ++ y.past;
            is = x.is ∙ ap (prepend (want_marks x.past)) y.is ∙ past_both x.past y.past (exec B (owners_of addr tree B new met' scan'));
            on = on_there seen x.past y.past scan' y.on;
            held = λ h. held_there seen x.past y.past new scan' (y.held (x.held h));
          }

      -- an owner behind items that were passed is the next owner of the scan that began before them
      pub gone_owner : (owner : Owner) → IsTurn addr tree Was B store new scan scan' met met' (Ok (turn.Owner owner))
          → IsFound addr tree Is B start new scan0 scan' met0 met' (Ok (Some owner))
      gone_owner owner t seen on =
          let x = gone seen on in
          let y = t (seen ++ x.past) (on_here (seen ++ x.past) x.on) in
          record {
            past = x.past ++ y.past;
            is = x.is ∙ ap (prepend (want_marks x.past)) y.is
                ∙ past_both x.past y.past (first (Does owner) (exec B (owners_of addr tree B new met' scan')));
            on = on_there seen x.past y.past scan' y.on;
            held = λ h. held_there seen x.past y.past new scan' (y.held (x.held h));
          }

      -- where no owner is behind the items that were passed, the scan that began before them has none
      pub gone_end : ((u : UnreadBlock) (w : Want) → Was u w → Is u w)
          → IsTurn addr tree Was B store new scan scan' met met' (Ok turn.End) → IsFound addr tree Is B start new scan0 scan' met0 met' (Ok None)
      gone_end weaker t seen on =
          let x = gone seen on in
          let rest = exec B (owners_of addr tree B store met scan) in
          behind_wants Is seen x.past (exec B (owners_of addr tree B start met0 scan0)) no_part rest [] (Ok tt) x.is
          (t (seen ++ x.past) (on_here (seen ++ x.past) x.on))

      -- a fault behind items that were passed is one of the scan that began before them
      pub gone_fault : (f : TreeFault) → ((u : UnreadBlock) (w : Want) → Was u w → Is u w)
          → IsTurn addr tree Was B store new scan scan' met met' (Err f) → IsFound addr tree Is B start new scan0 scan' met0 met' (Err f)
      gone_fault f weaker t seen on =
          let x = gone seen on in
          let rest = exec B (owners_of addr tree B store met scan) in
          behind_wants Is seen x.past (exec B (owners_of addr tree B start met0 scan0)) no_part rest [] (Err (halt_of f)) x.is
          (follows_as Was Is weaker no_part (seen ++ x.past) rest [] (Err (halt_of f)) (t (seen ++ x.past) (on_here (seen ++ x.past) x.on)))

-- ---- a cursor that keeps no loan

module _ (B : Map) (Is : UnreadBlock → Want → Type 0) (old new : Blocks) (owners : Owners) (scan scan' : Scan) (met' : Met)
    (is : scan ≡ scan_of owners.rest) where
  -- an answer of the scan that the cursor goes on by
  abbrev Answer : Result (Option Owner) TreeFault → Scan → Type 0
  Answer result s = IsFound owners.addr owners.tree Is B old new s scan' owners.met met' result

  -- the owners that are left to the cursor are those that its scan has still to give
  same_left : exec B (owners_left B owners) ≡ exec B (owners_of owners.addr owners.tree B old owners.met (scan_of owners.rest))
  same_left = ap (λ p. exec B (owners_in owners.addr owners.tree owners.met p)) (rest_is B old owners.rest)

  -- the next owner of the scan is the next one of the cursor, which goes on where the scan rests
  pub next_owner : (rest : Rest) (owner : Owner) → scan'.lo ≡ scan.lo → scan'.hi ≡ scan.hi → Rests new scan' rest → Answer (Ok (Some owner)) scan
      → (seen : List Want) → AreOn B seen owners
      → LeadsOn B seen owners (record { addr = owners.addr; tree = owners.tree; met = met'; rest = rest }) owner
  next_owner rest owner lo hi rests found seen on =
      let g : GivesOwner owners.addr owners.tree B seen old new (scan_of owners.rest) scan' owners.met met' owner =
      subst (Answer (Ok (Some owner))) is found seen on in
      let lo' : scan'.lo ≡ owners.rest.lo = lo ∙ ap (λ (s : Scan). s.lo) is in
      let hi' : scan'.hi ≡ owners.rest.hi = hi ∙ ap (λ (s : Scan). s.hi) is in
      let on' : IsOn scan'.lo scan'.hi B (seen ++ g.past) scan'.place =
      subst (λ (k : Key). IsOn k scan'.hi B (seen ++ g.past) scan'.place) (sym lo')
      (subst (λ (k : Key). IsOn owners.rest.lo k B (seen ++ g.past) scan'.place) (sym hi') g.on) in
      record {
        past = g.past;
        is = same_left ∙ g.is
            ∙ ap (λ p. prepend (want_marks g.past) (first (Does owner) (exec B (owners_in owners.addr owners.tree met' p))))
            (sym (rests.program B (seen ++ g.past) (g.held tt)));
        on = rests.on B (seen ++ g.past) (g.held tt) on';
      }

  -- where the scan has no owner more, the cursor has none
  pub next_none : (owners' : Owners) → Answer (Ok None) scan → (seen : List Want) → AreOn B seen owners → NextOwnerBy Is B seen owners owners' (Ok None)
  next_none owners' found seen on =
      subst (λ (r : RunOf Owner (Unit {0})). Follows Is no_part seen r [] (Ok tt)) (sym same_left) (subst (Answer (Ok None)) is found seen on)

  -- a fault of the scan is one of the cursor
  pub next_fault : (owners' : Owners) (f : TreeFault) → Answer (Err f) scan → (seen : List Want) → AreOn B seen owners
      → NextOwnerBy Is B seen owners owners' (Err f)
  next_fault owners' f found seen on =
      subst (λ (r : RunOf Owner (Unit {0})). Follows Is no_part seen r [] (Err (halt_of f))) (sym same_left) (subst (Answer (Err f)) is found seen on)

-- where its scan came nearer to its end, so did the cursor
pub next_rank_falls : (rest0 : Rest) (scan scan' : Scan) (store : Blocks) (rest : Rest) → scan ≡ scan_of rest0
    → Rests store scan' rest → rank_of scan' < rank_of scan → rank_left rest < rank_left rest0
next_rank_falls rest0 scan scan' store rest e r h = let f = ap rank_of e in omega (arith, h, r.rank, f)
