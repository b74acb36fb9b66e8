-- The survey of extents, item by item.
use Rattle.std.proofs.Common.{◌≡◌, ℕ, ◌<◌, ◌≤◌, Bool, true, false, cond, Result, Ok, Err, refl, sym, ap, ◌∙◌, arith}
use Rattle.std.proofs.Math.Path.{fun_ext}
use Rattle.std.specs.Prelude.{nat_le}
use Rattle.std.proofs.lemmas.Bool.Decides.{nat_tests}
use Rattle.btr_items.specs.FileExtent.{file_extent_of, end_of}
use Rattle.btr_items.specs.declared.fault.ItemFault.{ItemFault}
use Rattle.btr_items.specs.declared.file_extent.FileExtent.{FileExtent}
use Rattle.btr_prog.specs.Prog.{Return, Stop, Need, Emit, bind}
use Rattle.btr_prog.specs.Thread.{thread, go_on}
use Rattle.btr_walk.specs.Folds.{Next, Go, End, Broken, next_prog, folded_over}
use Rattle.btr_walk.specs.Le.{TreeItem}
use Rattle.btr_walk.specs.Range.{RangeProg}
use Rattle.btr_volume.specs.Lookup.{Lookup, Program, formed}
use Rattle.btr_files.specs.declared.clearness.Survey.{Survey}
use Rattle.btr_files.specs.declared.clearness.Survey.TheVariants.{Clear, Compressed, Encoded}
use Rattle.btr_files.specs.declared.surveying.Surveyor.{Surveyor}
use Rattle.btr_files.specs.Extents.{Extent, extent, in_order, extents_in, judged, if_clear}
use Rattle.btr_files.specs.Steps.{formed_next, cleared, survey_fields, survey_step}

abbrev at : ℕ → Surveyor
at end = record { end = end }

abbrev judge : Unit {0} → Extent → Lookup (Result (Unit {0}) Survey)
judge u x = Return (if_clear (judged x.fields))

abbrev done : Unit {0} → Unit {0} → Survey
done u v = Clear

-- the survey of some extents
abbrev surveyed : Program Extent (Unit {0}) → Lookup Survey
surveyed xs = thread judge done tt xs

-- the fold of some items, behind an extent that ends at a position
abbrev folds : ℕ → RangeProg → Lookup Survey
folds end p = folded_over survey_step (λ s. Clear) (at end) p

-- a clear extent goes on and another decides, in the survey as in the fold
on_clear : (leaf : ℕ) (s : Survey) (end : ℕ) (k : Unit {0} → Lookup Survey) (k' : Surveyor → Lookup Survey) → k tt ≡ k' (at end)
    → bind (Return (if_clear s)) (go_on k) ≡ bind (next_prog leaf (cleared s (Go (at end)))) (go_on k')
on_clear leaf Clear end k k' e = e
on_clear leaf Compressed end k k' e = refl
on_clear leaf Encoded end k k' e = refl

-- an extent by its order comes to the same in the survey as in the fold
on_order : (x : Extent) (end : ℕ) (b : Bool) (k : ℕ → Program Extent (Unit {0})) (k' : Surveyor → Lookup Survey)
    → ((end' : ℕ) → surveyed (k end') ≡ k' (at end')) →
    surveyed (bind (cond b (Emit x (Return (Ok (end_of x.start x.fields)))) (Stop (Rattle.btr_read.specs.Fate.Malformed x.leaf))) (go_on k))
    ≡ bind (next_prog x.leaf (cond b (cleared (judged x.fields) (Go (at (end_of x.start x.fields)))) Broken)) (go_on k')
on_order x end true k k' f = on_clear x.leaf (judged x.fields) (end_of x.start x.fields) (λ u. surveyed (k (end_of x.start x.fields))) k'
    (f (end_of x.start x.fields))
on_order x end false k k' f = refl

-- an item by its form comes to the same in the survey as in the fold
on_form : (item : TreeItem) (end : ℕ) (r : Result FileExtent ItemFault) (k : ℕ → Program Extent (Unit {0})) (k' : Surveyor → Lookup Survey)
    → ((end' : ℕ) → surveyed (k end') ≡ k' (at end')) →
    surveyed (bind (formed item r (λ fields. in_order end (extent item fields))) (go_on k))
    ≡ bind (next_prog item.leaf (formed_next r (survey_fields (at end) item.key.offset))) (go_on k')
on_form item end (Ok fields) k k' f = on_order (extent item fields) end (nat_le end item.key.offset) k k' f
on_form item end (Err fault) k k' f = refl

-- the survey of the extents in some items, from where the last one ended
pub survey_as : (p : RangeProg) (end : ℕ) → surveyed (extents_in end p) ≡ folds end p
survey_as (Return tt) end = refl
survey_as (Stop f) end = refl
survey_as (Need w k) end = ap (Need w) (fun_ext (λ bytes. survey_as (k bytes) end))
survey_as (Emit item p) end = on_form item end (file_extent_of item.key.offset item.body) (λ end'. extents_in end' p)
    (λ s. folded_over survey_step (λ s'. Clear) s p) (λ end'. survey_as p end')

-- what one extent comes to
order_is : (s : Surveyor) (start : ℕ) → start < s.end → nat_le s.end start ≡ false
order_is s start h = grind (arith, nat_tests)

-- an extent that begins at the last one's end or behind it is in order
in_order_is : (s : Surveyor) (start : ℕ) → s.end ≤ start → nat_le s.end start ≡ true
in_order_is s start h = grind (arith, nat_tests)

-- a step with an item that has its form is one with its fields
pub step_is : (s : Surveyor) (item : TreeItem) (fields : FileExtent) → Ok fields ≡ file_extent_of item.key.offset item.body → survey_step s item
    ≡ survey_fields s item.key.offset fields
step_is s item fields e = ap (λ r. formed_next r (survey_fields s item.key.offset)) (sym e)

-- an extent that begins before the end of the last one breaks the survey
pub step_broken : (s : Surveyor) (item : TreeItem) (fields : FileExtent) → Ok fields ≡ file_extent_of item.key.offset item.body
    → item.key.offset < s.end → survey_step s item ≡ Broken
step_broken s item fields e h = step_is s item fields e ∙ ap
    (λ (b : Bool). cond b (cleared (judged fields) (Go (at (end_of item.key.offset fields)))) Broken) (order_is s item.key.offset h)

-- an extent in its order goes on with the survey or decides it, by its clearness
pub step_judged : (s : Surveyor) (item : TreeItem) (fields : FileExtent) (found : Survey) → Ok fields ≡ file_extent_of item.key.offset item.body
    → s.end ≤ item.key.offset → found ≡ judged fields → survey_step s item ≡ cleared found (Go (at (end_of item.key.offset fields)))
step_judged s item fields found e h j =
    step_is s item fields e
    ∙ ap (λ (b : Bool). cond b (cleared (judged fields) (Go (at (end_of item.key.offset fields)))) Broken) (in_order_is s item.key.offset h)
    ∙ ap (λ x. cleared x (Go (at (end_of item.key.offset fields)))) (sym j)

-- an extent that isn't clear decides the survey
pub cleared_ends : (found : Survey) (next : Next Surveyor Survey) → (found ≡ Clear → ⊥) → cleared found next ≡ End found
cleared_ends Clear next n = absurd (n refl)
cleared_ends Compressed next n = refl
cleared_ends Encoded next n = refl
