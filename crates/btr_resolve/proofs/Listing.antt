-- The ids of all subvolumes are what is folded.
use Rattle.std.proofs.Common.{◌≡◌, ℕ, List, [], Option, Result, Ok, refl, sym, ap, ◌∙◌, subst}
use Rattle.btr_base.specs.Key.{last_key}
use Rattle.btr_base.specs.declared.memory.Memory.{Memory}
use Rattle.btr_prog.specs.Answers.{Follows, no_part}
use Rattle.btr_prog.specs.Prog.{Return, exec, bind}
use Rattle.btr_prog.specs.Quiet.{quiet}
use Rattle.btr_rack.specs.Out.{CallAccount}
use Rattle.btr_rack.specs.Rack.{Seen, OnlyReads}
use Rattle.btr_read.specs.Serves.{Serves}
use Rattle.btr_walk.specs.Folding.{FoldCause, FoldFollows, fold_answer}
use Rattle.btr_walk.specs.Folds.{Next, Go, folded_over}
use Rattle.btr_walk.specs.Le.{TreeItem}
use Rattle.btr_walk.specs.Range.{RangeProg, range}
use Rattle.btr_walk.specs.Reading.{Tells, unread_by}
use Rattle.btr_walk.specs.declared.folder.FoldFault.{FoldFault}
use Rattle.btr_walk.specs.declared.place.RootPlace.{RootPlace}
use Rattle.btr_walk.proofs.Joined.{drawn}
use Rattle.btr_volume.specs.Looking.{SameVolume}
use Rattle.btr_volume.specs.Readable.{CanRead}
use Rattle.btr_volume.specs.Lookup.{Lookup, each}
use Rattle.btr_volume.specs.Table.{first_key}
use Rattle.btr_volume.specs.Tree.{root_root}
use Rattle.btr_volume.specs.declared.volume.Volume.{Volume}
use Rattle.btr_files.proofs.Folding.{bind-return, fold_as}
use Rattle.btr_resolve.specs.Resolving.{subvolumes, with_id}
use Rattle.btr_resolve.specs.Running.{Ran, world}
use Rattle.btr_resolve.proofs.Rans.{folded_ran, stop_folded}

-- the ids after an item
abbrev pub ids_step : List ℕ → TreeItem → Next (List ℕ) (List ℕ)
ids_step ids item = Go (with_id ids item.key)

-- the ids with that of an item, as the definition takes them
abbrev ids_body : List ℕ → TreeItem → Lookup (Result (List ℕ) (List ℕ))
ids_body ids item = bind (Return (with_id ids item.key)) (λ st. Return (Ok st))

-- the ids of the subvolumes among some items are the fold of these items
ids_as : (p : RangeProg) → each (λ ids (item : TreeItem). Return (with_id ids item.key)) [] p ≡ folded_over ids_step (λ ids. ids) [] p
ids_as p =
    sym (bind-return (each (λ ids (item : TreeItem). Return (with_id ids item.key)) [] p))
    ∙ fold_as ids_body (λ ids u. ids) ids_step ids_step (λ ids. ids) (λ (ids : List ℕ). ids) (λ (ids : List ℕ). ids)
    (λ ids item. refl) (λ ids item. refl) (λ ids. refl) p []

-- the fold was done
pub subvolumes_ran : (old new : Seen) (vol after : Volume) (text : Option (List ℕ)) (calls : CallAccount) (empty : List ℕ)
    (root : RootPlace) (r : Result (List ℕ) (FoldFault Memory)) → empty ≡ [] → root ≡ root_root vol.sup → CanRead 4 old vol
    → Serves new after.store → OnlyReads old new → SameVolume vol after → FoldCause vol.store.layout old new r
    → Tells vol.store.layout old new (λ B. FoldFollows ids_step (λ ids. ids) (unread_by vol.store.layout old new) B empty root first_key last_key r)
    → Ran (quiet (subvolumes vol.sup)) (world old vol text calls) (world new after text calls) (stop_folded r)
subvolumes_ran old new vol after text calls empty root r is_empty is_root ready serves reads same cause told =
    let is = unread_by vol.store.layout old new in
    let folds = λ (ids : List ℕ) (place : RootPlace). folded_over ids_step (λ ids. ids) ids (range first_key last_key place) in
    let same_lookup : folds empty root ≡ subvolumes vol.sup =
    ap (λ e. folds e root) is_empty ∙ ap (folds []) is_root ∙ sym (ids_as (range first_key last_key (root_root vol.sup))) in
    folded_ran (subvolumes vol.sup) old new vol after text calls r ready serves reads same cause
    (drawn vol.store.layout (λ B. FoldFollows ids_step (λ ids. ids) is B empty root first_key last_key r)
    (λ B. Follows {S = ⊥} is no_part [] (exec B (subvolumes vol.sup)) [] (fold_answer r))
    (λ B h. subst (λ (p : Lookup (List ℕ)). Follows {S = ⊥} is no_part [] (exec B p) [] (fold_answer r)) same_lookup h) told)
