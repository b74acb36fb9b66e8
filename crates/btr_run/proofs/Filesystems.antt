-- What opening a filesystem comes to, where no call on an image failed.
use Rattle.std.proofs.Common.{◌≡◌, ◌⊎◌, inl, inr, ⊎_elim, ℕ, Option, Some, None, Result, Ok, Err, refl, sym, ap, ◌∙◌, subst}
use Rattle.std.specs.Option.{IfSome}
use Rattle.btr_prog.specs.Answers.{Fault as halts}
use Rattle.btr_rack.specs.Rack.{OnlyReads, Seen, Steady}
use Rattle.btr_read.specs.Fate as fault
use Rattle.btr_read.specs.Layout.{Layout}
use Rattle.btr_walk.specs.Reading.{FaultCause, halt_of}
use Rattle.btr_walk.specs.declared.fault.TreeFault.{TreeFault}
use Rattle.btr_walk.specs.declared.fault.TreeFault.TheVariants as tree
use Rattle.btr_volume.specs.Maps.{array_layout}
use Rattle.btr_volume.specs.Tree.{root_want}
use Rattle.btr_read.proofs.Compared.{compares_steady, steady_not_rose}
use Rattle.btr_volume.specs.Opening.{OpenCause, Opens, Opened, RootsDiffer, Scans, StartOf, Starts, start_in}
use Rattle.btr_volume.specs.Start.{Images, Start, start_of, layout_by}
use Rattle.btr_volume.specs.Table.{refusal_of}
use Rattle.btr_volume.specs.declared.fault.OpenFault.{OpenFault}
use Rattle.btr_volume.specs.declared.fault.OpenFault.TheVariants as opening
use Rattle.btr_volume.specs.declared.fault.TableFault.{TableFault}
use Rattle.btr_volume.specs.declared.volume.Volume.{Volume}
use Rattle.btr_run.specs.Behind.{HasTreeCause, IfSteady, IsLayoutOf}
use Rattle.btr_run.specs.Faults.{open_answer, tree_answer}
use Rattle.btr_run.specs.Filesystem.{OpensAs, OpensFilesystem, answer_as, filesystem_of, filesystem_in, with_roots, with_start, with_table}
use Rattle.btr_run.specs.declared.answer.Answer.{Answer}
use Rattle.btr_run.specs.declared.answer.Answer.TheVariants.{Diverged}
use Rattle.btr_read.proofs.Fetched.{map_some}
use Rattle.btr_run.proofs.Faulting.{tree_back, tree_in}
use Rattle.btr_trial.proofs.Filesystems.{scanned}

-- the volume is the filesystem
opened : (old new : Seen) (images : Images) (volume : Volume) → old.held ≡ Some images → Steady old.account.faults new.account.faults
    → Opened images old new volume → filesystem_of images ≡ Ok (filesystem_in volume)
opened old new images volume told steady o =
    let scan = scanned o.start old new images (Ok (Ok volume.store.layout.chunks)) told steady o.scans in
    let none = compares_steady images (layout_by o.start volume.store.layout.chunks) (root_want o.start.sup) old new None told steady o.alike in
    ap (with_start images) o.is ∙ ap (with_table images o.start) scan.1 ∙ ap (with_roots o.start volume.store.layout.chunks) (sym none)
    ∙ ap (λ s. Ok (record { sup = s; layout = layout_by o.start volume.store.layout.chunks })) (sym o.by.sup)
    ∙ ap (λ l. Ok (record { sup = volume.sup; layout = l })) (sym o.by.layout)

-- a refusal by a chunk of the chunk tree
by_table : (old new : Seen) (images : Images) (f : TableFault) → old.held ≡ Some images → Steady old.account.faults new.account.faults
    → Starts images old new (Ok (Err f)) → filesystem_of images ≡ Err (open_answer (refusal_of f))
by_table old new images f told steady s =
    let scan = scanned s.start old new images (Ok (Err f)) told steady s.scans in ap (with_start images) s.is ∙ ap (with_table images s.start) scan.1

-- the chunk tree can't be read on
by_tree : (old new : Seen) (images : Images) (f : TreeFault) → old.held ≡ Some images → Steady old.account.faults new.account.faults
    → OpenCause {T = Volume} old new (Err (opening.Tree f)) → Starts images old new (Err (halt_of f))
    → filesystem_of images ≡ Err (tree_answer f)
by_tree old new images (tree.Lost a) told steady cause s =
    let scan = scanned s.start old new images (Err (halts (fault.Lost a))) told steady s.scans in ap (with_start images) s.is
    ∙ ap (with_table images s.start) scan.1
by_tree old new images (tree.Unmapped a) told steady cause s =
    let scan = scanned s.start old new images (Err (halts (fault.Unmapped a))) told steady s.scans in ap (with_start images) s.is
    ∙ ap (with_table images s.start) scan.1
by_tree old new images (tree.Crosses a) told steady cause s =
    let scan = scanned s.start old new images (Err (halts (fault.Crosses a))) told steady s.scans in ap (with_start images) s.is
    ∙ ap (with_table images s.start) scan.1
by_tree old new images (tree.Malformed a) told steady cause s =
    let scan = scanned s.start old new images (Err (halts (fault.Malformed a))) told steady s.scans in ap (with_start images) s.is
    ∙ ap (with_table images s.start) scan.1
by_tree old new images (tree.Unread a slot) told steady cause s = absurd (steady_not_rose old.account.faults new.account.faults steady cause.1.1.unread.rose)

-- by the superblocks, or by a chunk of the chunk tree
by_refusal : (old new : Seen) (images : Images) (refusal : OpenFault) → old.held ≡ Some images → Steady old.account.faults new.account.faults
    → (start_of images ≡ Err refusal) ⊎ ((f : TableFault) × (refusal_of f ≡ refusal) × Starts images old new (Ok (Err f)))
    → OpensFilesystem images (Err (open_answer refusal))
by_refusal old new images refusal told steady why =
    inl (⊎_elim (λ start. ap (with_start images) start) (λ table. by_table old new images table.0 told steady table.2
    ∙ ap (λ r. Err (open_answer r)) table.1) why)

-- by the superblocks, or by the root tree's root block
by_roots : (old new : Seen) (images : Images) (slot : ℕ) → old.held ≡ Some images → Steady old.account.faults new.account.faults
    → (start_of images ≡ Err (opening.Diverged slot)) ⊎ RootsDiffer images old new slot → OpensFilesystem images (Err (Diverged slot))
by_roots old new images slot told steady why =
    inl (⊎_elim (λ start. ap (with_start images) start) (λ (d : RootsDiffer images old new slot).
    let scan = scanned d.start old new images (Ok (Ok d.chunks)) told steady d.scans in
    let some = compares_steady images (layout_by d.start d.chunks) (root_want d.start.sup) old new (Some slot) told steady d.differ in
    ap (with_start images) d.is ∙ ap (with_table images d.start) scan.1 ∙ ap (with_roots d.start d.chunks) (sym some)) why)

-- where no call failed, a refusal of opening is that of the images, or memory was wanted
refused : (old new : Seen) (images : Images) (refusal : OpenFault) → old.held ≡ Some images → Steady old.account.faults new.account.faults
    → OpenCause {T = Volume} old new (Err refusal) → Opens images old new (Err refusal)
    → OpensFilesystem images (Err (open_answer refusal))
refused old new images (opening.ImageFault slot) told steady cause opens = absurd (steady_not_rose old.account.faults new.account.faults steady cause.faults)
refused old new images opening.Memory told steady cause opens = inr refl
refused old new images (opening.Tree f) told steady cause opens = inl (by_tree old new images f told steady cause opens)
refused old new images (opening.NoSuper slot) told steady cause opens = by_refusal old new images (opening.NoSuper slot) told steady opens
refused old new images (opening.SumKind kind) told steady cause opens = by_refusal old new images (opening.SumKind kind) told steady opens
refused old new images (opening.Foreign slot) told steady cause opens = by_refusal old new images (opening.Foreign slot) told steady opens
refused old new images (opening.Twin slot) told steady cause opens = by_refusal old new images (opening.Twin slot) told steady opens
refused old new images (opening.Diverged slot) told steady cause opens = by_roots old new images slot told steady opens
refused old new images (opening.Unsupported bits) told steady cause opens = by_refusal old new images (opening.Unsupported bits) told steady opens
refused old new images opening.Geometry told steady cause opens = by_refusal old new images opening.Geometry told steady opens
refused old new images opening.LogPending told steady cause opens = by_refusal old new images opening.LogPending told steady opens
refused old new images opening.BadArray told steady cause opens = by_refusal old new images opening.BadArray told steady opens
refused old new images (opening.BadChunk start) told steady cause opens = by_refusal old new images (opening.BadChunk start) told steady opens
refused old new images (opening.Limit which count) told steady cause opens = by_refusal old new images (opening.Limit which count) told steady opens

-- where the rack tells its images and no call failed, a volume that was opened is their filesystem
pub opened_content : (old new : Seen) (volume : Volume) → IfSome old.held (λ images. Opens images old new (Ok volume))
    → IfSteady old.held old.account new.account (λ images. OpensFilesystem images (Ok volume))
opened_content old new volume = of old.held refl
  where
    of : (held : Option Images) → old.held ≡ held → IfSome held (λ images. Opens images old new (Ok volume))
        → IfSteady held old.account new.account (λ images. OpensFilesystem images (Ok volume))
    of None told opens = tt
    of (Some images) told opens = λ steady. opened old new images volume told steady opens

-- where the rack tells its images and no call failed, the answer of a refusal is theirs, or memory was wanted
pub refused_content : (old new : Seen) (refusal : OpenFault) (answer : Answer) → answer ≡ open_answer refusal → OpenCause {T = Volume} old new (Err refusal)
    → IfSome old.held (λ images. Opens images old new (Err refusal))
    → IfSteady old.held old.account new.account (λ images. OpensFilesystem images (Err answer))
refused_content old new refusal answer is cause = of old.held refl
  where
    of : (held : Option Images) → old.held ≡ held → IfSome held (λ images. Opens images old new (Err refusal))
        → IfSteady held old.account new.account (λ images. OpensFilesystem images (Err answer))
    of None told opens = tt
    of (Some images) told opens = λ steady. subst (λ a. OpensFilesystem images (Err a)) (sym is) (refused old new images refusal told steady cause opens)

-- what opening answered, whatever failed
pub opened_as : (old new : Seen) (volume : Volume) → IfSome old.held (λ images. Opens images old new (Ok volume))
    → IfSome old.held (λ images. OpensAs images old new (Ok volume))
opened_as old new volume = of old.held
  where
    of : (held : Option Images) → IfSome held (λ images. Opens images old new (Ok volume)) → IfSome held (λ images. OpensAs images old new (Ok volume))
    of None opens = tt
    of (Some images) opens = record { opening = Ok volume; opens = opens; same = refl }

-- an opening that was refused answers as its refusal says, whatever failed
pub refused_as : (old new : Seen) (refusal : OpenFault) (result : Result Volume Answer) → result ≡ Err (open_answer refusal)
    → IfSome old.held (λ images. Opens images old new (Err refusal)) → IfSome old.held (λ images. OpensAs images old new result)
refused_as old new refusal result is = of old.held
  where
    of : (held : Option Images) → IfSome held (λ images. Opens images old new (Err refusal)) → IfSome held (λ images. OpensAs images old new result)
    of None opens = tt
    of (Some images) opens = record { opening = Err refusal; opens = opens; same = sym is }

-- a volume that was opened is read by the chunks that a scan of the chunk tree came to
pub opened_layout : (old mid new : Seen) (volume : Volume) → OnlyReads old mid → OnlyReads mid new
    → IfSome old.held (λ images. OpensAs images old mid (Ok volume)) → IsLayoutOf old new volume.store.layout
opened_layout old mid new volume first second = of old.held refl
  where
    volume_is : (other : Volume) → ◌≡◌ {A = Result Volume Answer} (Ok other) (Ok volume) → other ≡ volume
    volume_is other e = cc e

    -- by this start, where the images are told
    Told : Start → Images → Type 0
    Told start images = (start_of images ≡ Ok start)
        × ((volume.store.layout.chunks ≡ start.array)
        ⊎ ((at : Seen) × OnlyReads old at × OnlyReads at new × Scans start old at (Ok (Ok volume.store.layout.chunks))))

    by : (images : Images) → old.held ≡ Some images → (opening : Result Volume OpenFault) → Opens images old mid opening → answer_as opening ≡ Ok volume
        → IsLayoutOf old new volume.store.layout
    by images told (Err refusal) opens same = absurd (cc same)
    by images told (Ok other) opens same =
        let o = subst (Opened images old mid) (volume_is other same) opens in record {
          start = o.start;
          chunks = volume.store.layout.chunks;
          by = o.by.layout;
          is = subst (λ (h : Option Images). IfSome h (Told o.start)) (sym told) (o.is, inr (mid, first, second, o.scans));
        }

    of : (held : Option Images) → old.held ≡ held → IfSome held (λ images. OpensAs images old mid (Ok volume)) → IsLayoutOf old new volume.store.layout
    of None told opens = record {
      start = start_in volume;
      chunks = volume.store.layout.chunks;
      by = refl;
      is = subst (λ (h : Option Images). IfSome h (Told (start_in volume))) (sym told) tt;
    }
    of (Some images) told opens = by images told opens.opening opens.opens opens.same

-- a fault of the chunk tree has its cause by the chunks of the array
pub refused_tree : (old new : Seen) (refusal : OpenFault) (answer : Answer) → answer ≡ open_answer refusal → OpenCause {T = Volume} old new (Err refusal)
    → HasTreeCause old new answer
refused_tree old new refusal answer is cause fault e = of refusal cause (ap tree_in (sym is ∙ e) ∙ tree_back fault)
  where
    -- the fault has its cause by some layout of the images
    Caused : Type 0
    Caused = (layout : Layout) × IsLayoutOf old new layout × FaultCause layout old new fault

    -- a fault that has its cause by the chunks of the array has it by a layout of the images
    by_array : (f : TreeFault) → f ≡ fault → (begun : StartOf old) → FaultCause (array_layout begun.start) old new f → Caused
    by_array f same begun caused = (
      array_layout begun.start,
      record {
        start = begun.start;
        chunks = begun.start.array;
        by = refl;
        is = map_some old.held (λ images. start_of images ≡ Ok begun.start) _ (λ images e. (e, inl refl)) begun.is;
      },
      subst (FaultCause (array_layout begun.start) old new) same caused,
    )

    of : (r : OpenFault) → OpenCause {T = Volume} old new (Err r) → tree_in (open_answer r) ≡ Some fault → Caused
    of (opening.Tree f) c t = by_array f (cc (sym (tree_back f) ∙ t)) c.0 c.1
    of (opening.ImageFault slot) c t = absurd (cc t)
    of (opening.NoSuper slot) c t = absurd (cc t)
    of (opening.SumKind kind) c t = absurd (cc t)
    of (opening.Foreign slot) c t = absurd (cc t)
    of (opening.Twin slot) c t = absurd (cc t)
    of (opening.Diverged slot) c t = absurd (cc t)
    of (opening.Unsupported bits) c t = absurd (cc t)
    of opening.Geometry c t = absurd (cc t)
    of opening.LogPending c t = absurd (cc t)
    of opening.BadArray c t = absurd (cc t)
    of (opening.BadChunk start) c t = absurd (cc t)
    of (opening.Limit which count) c t = absurd (cc t)
    of opening.Memory c t = absurd (cc t)
