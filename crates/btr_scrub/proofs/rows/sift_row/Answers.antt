use Rattle.std.proofs.Common.{◌≡◌, ◌+◌, ◌∷◌, Option, ℕ, is_some, IfSome, refl, sym, ap, ◌∙◌, subst}
use Rattle.std.specs.declared.vec.Vec.{Vec}
use Rattle.btr_scrub.proofs.Common.{AddsAll, AreOfKind, Global, Want, sought, stood}
use Rattle.btr_scrub.specs.Sifting.{sound_in}
use Rattle.btr_scrub.proofs.Doubting.{the_sought}
use Rattle.btr_scrub.proofs.OneRow.{chunk_of}
use Rattle.btr_scrub.proofs.Sieving.{of_kind_first}
use Rattle.btr_scrub.proofs.SiftedRows.{is_row, row, row_kept, row_next, row_out}
use Rattle.btr_scrub.proofs.Tallying.{stood_add}
use Rattle.btr_scrub.proofs.rows.sift_row.Goals as goal

pub collect_row-requires : goal.collect_row-requires
collect_row-requires g c =
    let layout = c.args.store.now.layout in
    let t = the_sought (sought layout c.args.first) c.requires.apart.1 in
    ap is_some (chunk_of layout c.args.first t.0 t.1)

pub sound_in-requires-clause-row : goal.sound_in-requires-clause-row
sound_in-requires-clause-row g c =
    let chunk = c.in-Some.chunk.now in
    let at = rw (c.chunks.ensures, c.addr.ensures) at (sym c.in-Some.ensures.chunk) in
    let n = row_next c.requires.ready c.args.first c.args.blocks.now c.collect_row.new.blocks c.collect_row.new.wants.items chunk c.in-Ok.number
    c.requires.apart c.requires.parity at (c.in-Ok.ensures chunk at) in
    record { row = row n; is = is_row n }

pub keep_all-requires-clause-of_kind : goal.keep_all-requires-clause-of_kind
keep_all-requires-clause-of_kind g c =
    let got = c.in-Ok.ensures c.in-Some.chunk.now (rw (c.chunks.ensures, c.addr.ensures) at (sym c.in-Some.ensures.chunk)) in
    let kind = c.args.sifted.now.kept.kind in
    subst (AreOfKind kind) (sym (c.deref.ensures.value ∙ ap (λ (v : Vec Want Global). v.items) c.in_ok-sound.ensures.wants ∙ got.1.are))
    (of_kind_first kind (c.args.first ∷ got.1.more) c.collect_row.new.blocks
    (subst (AreOfKind kind) (ap (λ xs. c.args.first ∷ xs) got.1.split) c.requires.of_kind))

pub returns-in-Some-2-clause-sifts : goal.returns-in-Some-2-clause-sifts
returns-in-Some-2-clause-sifts g c =
    let layout = c.args.store.now.layout in
    let chunk = c.in-Some.chunk.now in
    let at = rw (c.chunks.ensures, c.addr.ensures) at (sym c.in-Some.ensures.chunk) in
    let n = row_next c.requires.ready c.args.first c.args.blocks.now c.collect_row.new.blocks c.collect_row.new.wants.items chunk c.in-Ok.number
    c.requires.apart c.requires.parity at (c.in-Ok.ensures chunk at) in
    let held = (g.R.Rack.seen c.args.rack.now).held in
    let can = c.requires.can in
    row_out n held c.args.sifted.now (record c.args.sifted.now { sound = c.saturating_add-sifted.result; room = c.sound_in.new.room }) c.in-Some-2.sound
    (record { is_list = can.is_list; nodesize = can.nodesize; large = can.large; rooms = c.in_ok-sound.ensures.rooms })
    (subst (λ (o : Option ℕ). IfSome held (λ images. o ≡ sound_in images layout (row n))) c.in-Some-2.is (c.in_ok-sound.ensures.sound (row n) (is_row n) refl))
    refl (λ n e. c.saturating_add-sifted.ensures ∙ ap (λ k. stood (k + c.in-Some-2.sound)) e ∙ stood_add n c.in-Some-2.sound)

pub returns-in-Ok-keep_all-clause-sifts : goal.returns-in-Ok-keep_all-clause-sifts
returns-in-Ok-keep_all-clause-sifts g c =
    let layout = c.args.store.now.layout in
    let chunk = c.in-Some.chunk.now in
    let at = rw (c.chunks.ensures, c.addr.ensures) at (sym c.in-Some.ensures.chunk) in
    let n = row_next c.requires.ready c.args.first c.args.blocks.now c.collect_row.new.blocks c.collect_row.new.wants.items chunk c.in-Ok.number
    c.requires.apart c.requires.parity at (c.in-Ok.ensures chunk at) in
    let held = (g.R.Rack.seen c.args.rack.now).held in
    row_kept n held c.args.sifted.now (record c.args.sifted.now { kept = c.keep_all.new.kept; room = c.sound_in.new.room }) c.requires.can
    (subst (λ (o : Option ℕ). IfSome held (λ images. o ≡ sound_in images layout (row n))) c.in-None.is (c.in_ok-sound.ensures.sound (row n) (is_row n) refl))
    (subst (AddsAll c.args.sifted.now.kept c.keep_all.new.kept) (c.deref.ensures.value ∙ ap (λ (v : Vec Want Global). v.items) c.in_ok-sound.ensures.wants)
    c.in-Ok-keep_all.ensures) refl refl c.in_ok-sound.ensures.rooms
