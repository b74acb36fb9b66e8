-- The sectors of a file.
use Rattle.std.proofs.Common.{◌≡◌, ℕ, ◌<◌, Bool, true, false, cond, ltb, List, [], length, Option, Some, None, IfSome, IsSomeAnd, Result, Ok, Err, refl, sym}
use Rattle.std.proofs.Common.{ap, ◌∙◌, subst, arith}
use Rattle.std.specs.Borrow.{Bor}
use Rattle.std.specs.Prelude.{Contains, slice_get}
use Rattle.std.specs.Option.{option_copied}
use Rattle.std.proofs.lemmas.Bool.Decides.{nat_tests}
use Rattle.std.proofs.lemmas.Option.{slice_get-get_or}
use Rattle.btr_base.specs.declared.kind.SumKind.{SumKind}
use Rattle.btr_base.specs.declared.stored.Sum.{Sum}
use Rattle.btr_prog.specs.Answers.{Follows, no_part}
use Rattle.btr_prog.specs.Calls as calls
use Rattle.btr_prog.specs.Calls.{Sure, First, Any}
use Rattle.btr_prog.specs.Prog.{Return, exec, bind}
use Rattle.btr_prog.proofs.Follow.{follows_halt, follows_value}
use Rattle.btr_prog.proofs.Runs.{exec-bind}
use Rattle.btr_rack.specs.Rack.{Seen, OnlyReads}
use Rattle.btr_read.specs.Candidates.{Target}
use Rattle.btr_read.specs.Fate as fate
use Rattle.btr_read.specs.Fate.{fate, fate_of, sought, passing, passing_for, Agree, or_lost, choice_of, choices}
use Rattle.btr_read.specs.Fetch.{IsFetched, FitsFetch}
use Rattle.btr_read.specs.Layout.{Layout}
use Rattle.btr_read.specs.Reading.{AgreedOn, shown}
use Rattle.btr_read.specs.Store.{Blocks, Lent, block_of, IsLentBy}
use Rattle.btr_read.specs.Want.{addr_of, len_of}
use Rattle.btr_read.specs.declared.fault.ReadFault.{ReadFault}
use Rattle.btr_read.specs.declared.fault.ReadFault.TheVariants as read
use Rattle.btr_read.specs.declared.want.Want.{Want}
use Rattle.btr_read.specs.declared.want.Want.TheVariants as want
use Rattle.btr_read.proofs.Lent.{given_back}
use Rattle.btr_walk.specs.declared.fault.TreeFault.{TreeFault}
use Rattle.btr_walk.specs.Reading.{Map, unread_by, tree_fault, halt_of, answer_of}
use Rattle.btr_volume.specs.declared.root.TreeRoot.{TreeRoot}
use Rattle.btr_volume.specs.Looking.{Looks}
use Rattle.btr_volume.specs.Lookup.{Lookup}
use Rattle.btr_walk.proofs.Joined.{drawn}
use Rattle.btr_files.specs.Content.{want_by, sector_want}
use Rattle.btr_files.specs.Giving.{IsSectorWant, IsSectorLent, SectorComes}
use Rattle.btr_files.specs.Maps.{maps_by, TellsAll}
use Rattle.btr_files.specs.Sums.{tree_behind, sum_at}
use Rattle.btr_files.proofs.AllMaps.{maps-zero}
use Rattle.btr_read.proofs.Fetched.{map_some, if_all}

-- ---- the want of a sector, by the checksum that was looked up
pub copied_is : (o : Option (Bor TreeRoot)) → tree_behind o ≡ option_copied o
copied_is None = refl
copied_is (Some tree) = refl

-- a want by the checksum that was answered, or the fault
abbrev pub want_with : ℕ → Result (Option Sum) TreeFault → Result Want TreeFault
want_with addr (Ok sum) = Ok (want_by addr sum)
want_with addr (Err f) = Err f

module _ (layout : Layout) (old new : Seen) (kind : SumKind) (sums : Option TreeRoot) (nosum : Bool) (addr : ℕ) where
  -- the want of a sector by the lookup of its checksum
  abbrev by_sum : Lookup Want
  by_sum = bind (sum_at kind sums addr) (λ sum. Return (want_by addr sum))

  -- what is answered of the lookup of a checksum is answered, as its want, of the lookup of the want
  looked : (Is : _ → Want → Type 0) (B : Map) (r : Result (Option Sum) TreeFault)
      → Follows {S = ⊥} Is no_part [] (exec B (sum_at kind sums addr)) [] (answer_of r)
      → Follows {S = ⊥} Is no_part [] (exec B by_sum) [] (answer_of (want_with addr r))
  looked Is B (Ok sum) f = subst (λ q. Follows Is no_part [] q [] (Ok (want_by addr sum)))
      (sym (exec-bind B (sum_at kind sums addr) (λ s. Return (want_by addr s))))
      (follows_value Is no_part [] (want_by addr) (exec B (sum_at kind sums addr)) sum [] f)
  looked Is B (Err x) f = subst (λ q. Follows Is no_part [] q [] (Err (halt_of x)))
      (sym (exec-bind B (sum_at kind sums addr) (λ s. Return (want_by addr s))))
      (follows_halt Is no_part [] (exec B (sum_at kind sums addr)) (λ s. exec B (Return (want_by addr s))) [] (halt_of x) f)

  -- the want of a sector of an inode with checksums is told by the lookup of its checksum
  pub want_summed : (o : Option (Bor TreeRoot)) (r : Result (Option Sum) TreeFault) (w : Result Want TreeFault) → nosum ≡ false → option_copied o
      ≡ sums → w ≡ want_with addr r → Looks layout old new (sum_at kind (tree_behind o) addr) r → Looks layout old new (sector_want kind sums nosum addr) w
  want_summed o r w tested same is h =
      let is_unread = unread_by layout old new in
      let h' : Looks layout old new (sum_at kind sums addr) r =
      subst (λ (s : Option TreeRoot). Looks layout old new (sum_at kind s addr) r) (copied_is o ∙ same) h in
      subst (λ (b : Bool). Looks layout old new (cond b (Return (want.Plain addr)) by_sum) w) (sym tested)
      (subst (Looks layout old new by_sum) (sym is)
      (drawn layout (λ B. Follows {S = ⊥} is_unread no_part [] (exec B (sum_at kind sums addr)) [] (answer_of r))
      (λ B. Follows {S = ⊥} is_unread no_part [] (exec B by_sum) [] (answer_of (want_with addr r))) (λ B f. looked is_unread B r f) h'))

-- ---- a sector that was fetched
-- any candidate is a choice, where there is no test
lt_test : (m n : ℕ) → m < n → ltb m n ≡ true
lt_test m n h = grind (arith, nat_tests)

module _ (images : List (List ℕ)) (addr : ℕ) (block : List ℕ) where
  -- bytes that pass of a want without a test are one of its choices
  choice_in : (x : Result Target fate.Fault) → Contains (passing_for images x) block → (n : ℕ) × (choice_of images n (want.Plain addr) x ≡ Ok block)
  choice_in (Err f) h = absurd (omega (arith, h.1))
  choice_in (Ok t) h =
      let xs = passing images t in (
        h.0,
        ap (λ (b : Bool). or_lost addr (slice_get xs (cond b h.0 0))) (lt_test h.0 (length xs) h.1)
            ∙ ap (or_lost addr) (slice_get-get_or xs h.0 block h.1 ∙ ap Some h.2),
      )

module _ (layout : Layout) (w : Want) (old new : Seen) (reads : OnlyReads old new) (store : Blocks) where
  -- a sector came, or why it didn't, as a map of these images says
  abbrev TellsSector : Sure → Result Lent TreeFault → List (List ℕ) → Type 0
  TellsSector sure result images = SectorComes (unread_by layout old new) (λ n. maps_by sure images n layout) w store result

  -- what holds of the images, so far as what was read can be told, is told of the sector
  told : (result : Result Lent TreeFault) → ((sure : Sure) → calls.CanTell (AgreedOn layout) sure (shown old) (shown new)
      → IfSome old.held (TellsSector sure result)) → TellsAll layout old new (λ Bs. SectorComes (unread_by layout old new) Bs w store result)
  told result f = record { calls = record { same = ap (λ (s : Seen). s.held) reads.same; later = reads.later; content = f } }

  module _ (loan : Lent) (block : List ℕ) (is : block_of store loan ≡ Some block) where
    -- a sector came where one of the maps has its bytes
    came : (sure : Sure) (images : List (List ℕ)) (n : ℕ) → maps_by sure images n layout w ≡ Ok block → TellsSector sure (Ok loan) images
    came sure images n e = (n, subst (λ o. IsSomeAnd o (λ b. maps_by sure images n layout w ≡ Ok b)) (sym is) e)

    -- a sector came where its fate has its bytes
    by_fate : (sure : Sure) (images : List (List ℕ)) → fate images layout w ≡ Ok block → TellsSector sure (Ok loan) images
    by_fate sure images e = came sure images 0 (ap (λ (B : Map). B w) (maps-zero sure images layout) ∙ e)

    -- where all copies that pass agree, a sector with a test came as its fate says
    agreed_in : (o : Option (List (List ℕ))) → ((images : List (List ℕ)) → AgreedOn layout (Some images) → Agree images layout w) → AgreedOn layout o
        → IfSome o (λ images. Agree images layout w → fate images layout w ≡ Ok block) → IfSome o (TellsSector Any (Ok loan))
    agreed_in None tested s f = tt
    agreed_in (Some images) tested s f = by_fate Any images (f (tested images s))

  -- where all copies that pass agree, a fetched sector came, with a test or without
  by_want : (loan : Lent) (block : List ℕ) (v : Want) → v ≡ w → block_of store loan ≡ Some block → IsSectorWant v → IsFetched layout w old new block
      → AgreedOn layout old.held → IfSome old.held (TellsSector Any (Ok loan))
  by_want loan block (want.Tree addr generation level) e is h f s = absurd h
  by_want loan block (want.Block addr) e is h f s = absurd h
  by_want loan block (want.Sector addr sum) e is h f s =
      agreed_in loan block is old.held (λ images agreed. subst (Agree images layout) e (agreed (want.Sector addr sum) h)) s f.agreed
  by_want loan block (want.Plain addr) e is h f s =
      map_some old.held (λ images. Contains (passing_for images (sought layout w)) block) (TellsSector Any (Ok loan))
      (λ images there.
      let c = choice_in images addr block (sought layout (want.Plain addr))
      (subst (λ (x : Want). Contains (passing_for images (sought layout x)) block) (sym e) there) in
      came loan block is Any images c.0 (subst (λ (x : Want). choices images c.0 layout x ≡ Ok block) e c.1)) f.stand

  -- the block of a fetched sector's loan came, where no read failed or all copies that pass agree
  by_block : (loan : Lent) (o : Option (List ℕ)) → block_of store loan ≡ o → IsSectorWant w → IsSomeAnd o (IsFetched layout w old new) → (sure : Sure)
      → calls.CanTell (AgreedOn layout) sure (shown old) (shown new) → IfSome old.held (TellsSector sure (Ok loan))
  by_block loan None is h f sure s = absurd f
  by_block loan (Some block) is h f First s = map_some old.held (λ images. fate images layout w ≡ Ok block) (TellsSector First (Ok loan))
      (λ images e. by_fate loan block is First images e) (f.first (omega (arith, s.0), s.1))
  by_block loan (Some block) is h f Any s = by_want loan block w refl is h f s

  -- a sector that was fetched came, as one of the maps says
  pub sector_came : (loan : Lent) → IsSectorWant w → FitsFetch layout w old new store (Ok loan)
      → TellsAll layout old new (λ Bs. SectorComes (unread_by layout old new) Bs w store (Ok loan))
  sector_came loan h fits = told (Ok loan) (by_block loan (block_of store loan) refl h fits.1)

  -- a want whose fate is a fault has it under one of the maps
  zero_fault : (sure : Sure) (images : List (List ℕ)) (f : fate.Fault) → fate images layout w ≡ Err f → (n : ℕ) × (maps_by sure images n layout w ≡ Err f)
  zero_fault sure images f e = (0, ap (λ (B : Map). B w) (maps-zero sure images layout) ∙ e)

  -- where a fetch of a sector failed, the sector didn't come, for the same cause
  pub sector_failed : (f : ReadFault) → FitsFetch layout w old new store (Err f)
      → TellsAll layout old new (λ Bs. SectorComes (unread_by layout old new) Bs w store (Err (tree_fault f)))
  sector_failed (read.Lost a) fits = told (Err (tree_fault (read.Lost a)))
      (λ sure s. map_some old.held (λ images. fate images layout w ≡ Err (fate.Lost a)) (TellsSector sure (Err (tree_fault (read.Lost a))))
      (λ images e. zero_fault sure images (fate.Lost a) e) fits.2)
  sector_failed (read.Unread a slot) fits = told (Err (tree_fault (read.Unread a slot)))
      (λ sure s. if_all old.held (TellsSector sure (Err (tree_fault (read.Unread a slot)))) (λ images. fits))
  sector_failed (read.Unmapped a) fits = told (Err (tree_fault (read.Unmapped a)))
      (λ sure s. if_all old.held (TellsSector sure (Err (tree_fault (read.Unmapped a))))
      (λ images. zero_fault sure images (fate.Unmapped a) (ap (fate_of images (addr_of w)) fits)))
  sector_failed (read.Crosses a) fits = told (Err (tree_fault (read.Crosses a)))
      (λ sure s. if_all old.held (TellsSector sure (Err (tree_fault (read.Crosses a))))
      (λ images. zero_fault sure images (fate.Crosses a) (ap (fate_of images (addr_of w)) fits)))

-- its loan
len_is : (old : Blocks) (v : Want) → IsSectorWant v → (n : ℕ) → n ≡ len_of old.layout.setting v → n ≡ 4096
len_is old (want.Tree addr generation level) h n e = absurd h
len_is old (want.Block addr) h n e = absurd h
len_is old (want.Sector addr sum) h n e = e
len_is old (want.Plain addr) h n e = e

-- the loan of a fetched sector is new, live and 4096 bytes long
pub sector_lent : (old new : Blocks) (v : Want) (loan : Lent) → IsSectorWant v → IsLentBy old new v loan → IsSectorLent old new loan
sector_lent old new v loan h t = record { others = given_back old new v loan t; live = t.live; len = len_is old v h loan.len t.len }
