use Rattle.std.proofs.Common.{◌∙◌, ◌≡◌, Ok, Err, Some, None, ap, subst}
use Rattle.std.specs.Option.{IfSome}
use Rattle.std.proofs.Common.{List}
use Rattle.btr_chunk.specs.declared.chunk.Chunk.{Chunk}
use Rattle.btr_volume.specs.declared.volume.Volume.{Volume}
use Rattle.btr_rack.specs.Rack.{Seen, OnlyReads}
use Rattle.btr_read.specs.Comparing.{Compares}
use Rattle.btr_read.specs.Layout.{Layout}
use Rattle.btr_read.specs.Store.{Blocks, SameLoans, with_chunks}
use Rattle.btr_volume.specs.Opening.{Opens, OpenCause, TableCause, ReadsTable, start_in}
use Rattle.btr_volume.proofs.Opened.{same_seen, refused_early, told_early, refused_late, told_late, told_opened, told_diverged, diverged_cause, served_anew}
use Rattle.btr_volume.proofs.Opened.{passed}
use Rattle.btr_volume.proofs.volume.Volume.open.Goals as goal

pub returns-in_err-volume-clause-cause : goal.returns-in_err-volume-clause-cause
returns-in_err-volume-clause-cause g c =
    let old = g.R.Rack.seen c.args.rack.now in
    let new = g.R.Rack.seen c.prepare.new.rack in
    passed (λ r. OpenCause old new r) c.from_residual.result c.in_err-volume.field-0.0 c.from_residual.ensures.1
    (refused_early old new c.in_err-volume.field-0.0 Volume c.in_err-volume.ensures.cause)

pub returns-in_err-volume-clause-content : goal.returns-in_err-volume-clause-content
returns-in_err-volume-clause-content g c =
    let old = g.R.Rack.seen c.args.rack.now in
    let new = g.R.Rack.seen c.prepare.new.rack in
    passed (λ r. IfSome old.held (λ images. Opens images old new r)) c.from_residual.result c.in_err-volume.field-0.0 c.from_residual.ensures.1
    (told_early old new old.held c.in_err-volume.field-0.0 c.in_err-volume.ensures.content)

pub returns-in_err-chunks-clause-cause : goal.returns-in_err-chunks-clause-cause
returns-in_err-chunks-clause-cause g c =
    let old = g.R.Rack.seen c.args.rack.now in
    let mid = g.R.Rack.seen c.prepare.new.rack in
    let new = g.R.Rack.seen c.read_table.new.rack in
    let same : mid ≡ old = same_seen old mid c.in_ok-volume.ensures.same c.in_ok-volume.ensures.cause in
    let layout = c.in_ok-volume.volume.store.layout in
    passed (λ r. OpenCause old new r) c.from_residual-in_err-chunks.result c.in_err-chunks.field-0.0 c.from_residual-in_err-chunks.ensures.1
    (refused_late old new (record { start = start_in c.in_ok-volume.volume; is = c.in_ok-volume.ensures.content })
    c.in_err-chunks.field-0.0 (List Chunk) Volume (subst (λ (s : Seen). TableCause {T = List Chunk} layout s new (Err c.in_err-chunks.field-0.0)) same
    c.in_err-chunks.ensures.cause))

pub returns-in_err-chunks-clause-content : goal.returns-in_err-chunks-clause-content
returns-in_err-chunks-clause-content g c =
    let old = g.R.Rack.seen c.args.rack.now in
    let mid = g.R.Rack.seen c.prepare.new.rack in
    let new = g.R.Rack.seen c.read_table.new.rack in
    let same : mid ≡ old = same_seen old mid c.in_ok-volume.ensures.same c.in_ok-volume.ensures.cause in
    let volume = c.in_ok-volume.volume in
    let layout = volume.store.layout in
    passed (λ r. IfSome old.held (λ images. Opens images old new r)) c.from_residual-in_err-chunks.result c.in_err-chunks.field-0.0
    c.from_residual-in_err-chunks.ensures.1
    (told_late old new volume old.held c.in_err-chunks.field-0.0 layout (List Chunk)
    (subst (λ (s : Seen). TableCause {T = List Chunk} layout s new (Err c.in_err-chunks.field-0.0)) same c.in_err-chunks.ensures.cause)
    c.in_ok-volume.ensures.content
    (subst (λ (s : Seen). ReadsTable volume.sup layout s new (Err c.in_err-chunks.field-0.0)) same c.in_err-chunks.ensures.content))

pub compare_candidates-requires-clause-serves : goal.compare_candidates-requires-clause-serves
compare_candidates-requires-clause-serves g c =
    served_anew (g.R.Rack.seen c.read_table.new.rack) c.read_table.new.store c.replace_chunks.new.self c.in_ok-chunks.chunks
    c.in_ok-chunks.ensures.serves c.replace_chunks.ensures

scanned : (old mid now : Seen) → mid ≡ old → OnlyReads mid now → OnlyReads old now
scanned old mid now same reads = subst (λ (s : Seen). OnlyReads s now) same reads

table_is : (old mid now : Seen) (volume : Volume) (chunks : List Chunk) → mid ≡ old → ReadsTable volume.sup volume.store.layout mid now (Ok chunks)
    → ReadsTable volume.sup volume.store.layout old now (Ok chunks)
table_is old mid now volume chunks same h = subst (λ (s : Seen). ReadsTable volume.sup volume.store.layout s now (Ok chunks)) same h

layout_is : (volume : Volume) (read replaced : Blocks) (chunks : List Chunk) → replaced ≡ with_chunks read chunks → SameLoans volume.store read
    → replaced.layout ≡ record (volume.store.layout) { chunks = chunks }
layout_is volume read replaced chunks e same = ap (λ (s : Blocks). s.layout) e ∙ ap {A = Layout} (λ l. record l { chunks = chunks }) same.layout

pub returns-in-None-clause-content : goal.returns-in-None-clause-content
returns-in-None-clause-content g c =
    let old = g.R.Rack.seen c.args.rack.now in
    let mid = g.R.Rack.seen c.prepare.new.rack in
    let now = g.R.Rack.seen c.read_table.new.rack in
    let new = g.R.Rack.seen c.compare_candidates.new.rack in
    let same : mid ≡ old = same_seen old mid c.in_ok-volume.ensures.same c.in_ok-volume.ensures.cause in
    let volume = c.in_ok-volume.volume in
    let chunks = c.in_ok-chunks.chunks in
    let store = c.replace_chunks.new.self in
    let e = c.in-None.ensures in
    told_opened old now new volume store chunks (scanned old mid now same c.in_ok-chunks.ensures.reads) e.reads
    (layout_is volume c.read_table.new.store store chunks c.replace_chunks.ensures c.in_ok-chunks.ensures.loans)
    (table_is old mid now volume chunks same c.in_ok-chunks.ensures.content)
    old.held c.compare_candidates.new.store c.in_ok-volume.ensures.content e.loans.layout
    (subst (λ w. Compares store.layout w now new None) c.root_want.ensures e.answer)

pub returns-in-Some-clause-cause : goal.returns-in-Some-clause-cause
returns-in-Some-clause-cause g c =
    let old = g.R.Rack.seen c.args.rack.now in
    let mid = g.R.Rack.seen c.prepare.new.rack in
    let now = g.R.Rack.seen c.read_table.new.rack in
    let new = g.R.Rack.seen c.compare_candidates.new.rack in
    let same : mid ≡ old = same_seen old mid c.in_ok-volume.ensures.same c.in_ok-volume.ensures.cause in
    let volume = c.in_ok-volume.volume in
    let chunks = c.in_ok-chunks.chunks in
    let store = c.replace_chunks.new.self in
    let e = c.in-Some.ensures in
    diverged_cause old now new volume store chunks (scanned old mid now same c.in_ok-chunks.ensures.reads) e.reads
    (layout_is volume c.read_table.new.store store chunks c.replace_chunks.ensures c.in_ok-chunks.ensures.loans)
    (table_is old mid now volume chunks same c.in_ok-chunks.ensures.content)
    c.in-Some.slot Volume c.in_ok-volume.ensures.content
    (subst (λ w. Compares store.layout w now new (Some c.in-Some.slot)) c.root_want.ensures e.answer)

pub returns-in-Some-clause-content : goal.returns-in-Some-clause-content
returns-in-Some-clause-content g c =
    let old = g.R.Rack.seen c.args.rack.now in
    let mid = g.R.Rack.seen c.prepare.new.rack in
    let now = g.R.Rack.seen c.read_table.new.rack in
    let new = g.R.Rack.seen c.compare_candidates.new.rack in
    let same : mid ≡ old = same_seen old mid c.in_ok-volume.ensures.same c.in_ok-volume.ensures.cause in
    let volume = c.in_ok-volume.volume in
    let chunks = c.in_ok-chunks.chunks in
    let store = c.replace_chunks.new.self in
    let e = c.in-Some.ensures in
    told_diverged old now new volume store chunks (scanned old mid now same c.in_ok-chunks.ensures.reads) e.reads
    (layout_is volume c.read_table.new.store store chunks c.replace_chunks.ensures c.in_ok-chunks.ensures.loans)
    (table_is old mid now volume chunks same c.in_ok-chunks.ensures.content)
    old.held c.in-Some.slot c.in_ok-volume.ensures.content
    (subst (λ w. Compares store.layout w now new (Some c.in-Some.slot)) c.root_want.ensures e.answer)
