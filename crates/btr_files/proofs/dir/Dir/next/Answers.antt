use Rattle.std.proofs.Common.{Result, Ok, Err, Option, Some, None, refl, ◌∙◌, ap, subst, sym, ◌≤◌}
use Rattle.btr_read.specs.Store.{free_count}
use Rattle.btr_walk.specs.Reading.{Map, HasCause, unread_by}
use Rattle.btr_walk.specs.declared.fault.TreeFault.{TreeFault}
use Rattle.btr_walk.proofs.Joined.{drawn}
use Rattle.btr_files.specs.declared.dir_row.DirRow.{DirRow}
use Rattle.btr_files.specs.Listing.{IsNextRow, IsNextEntry, KeepsName, RowRankFalls}
use Rattle.btr_files.proofs.Rows.{ready_is, free_is, same_through, dir_some, dir_ends, dir_fault, dir_rank_falls}
use Rattle.btr_files.proofs.dir.Dir.next.Goals as goal

pub read_row-requires-clause-ready : goal.read_row-requires-clause-ready
read_row-requires-clause-ready g c = ready_is (g.R.Rack.seen c.args.rack.now) c.args.vol.now.store c.scan-scan.result c.args.self.now.rest
    c.scan-scan.ensures c.requires.serves c.requires.dir.shaped

pub read_row-requires-clause-room : goal.read_row-requires-clause-room
read_row-requires-clause-room g c = subst (λ s. 4 ≤ free_count s)
    (sym (free_is c.args.vol.now.store c.scan-scan.result c.args.self.now.rest c.scan-scan.ensures)) c.requires.room

pub returns-in-Ok-Some-clause-content : goal.returns-in-Ok-Some-clause-content
returns-in-Ok-Some-clause-content g c =
    let is = unread_by c.args.vol.now.store.layout (g.R.Rack.seen c.args.rack.now) (g.R.Rack.seen c.read_row.new.rack) in
    let old = c.args.vol.now.store in
    let new = c.read_row.new.store in
    let dir = c.args.self.now in
    let scan = c.scan-scan.result in
    let scan' = c.read_row.new.scan in
    let name = c.read_row.new.name in
    let by = λ (r : Result (Option DirRow) TreeFault) (B : Map). IsNextRow is B old new scan scan' name r in
    drawn old.layout (by c.read_row.result) (λ B. IsNextEntry is B dir (record { rest = c.rest-after.result }) name (Ok (Some c.in-Ok-Some.row)))
    (λ B h. dir_some B is old new dir scan scan' c.rest-after.result name c.in-Ok-Some.row c.scan-scan.ensures c.read_row.ensures.lo
    c.read_row.ensures.hi c.rest-after.ensures.rests (subst (λ r. by r B) (c.in-Ok-Some.is ∙ ap Ok c.in-Ok-Some.field-0-is) h))
    c.read_row.ensures.content

pub returns-in-Ok-Some-clause-dir : goal.returns-in-Ok-Some-clause-dir
returns-in-Ok-Some-clause-dir g c = record { shaped = c.rest-after.ensures.rests.shaped (g.R.Rack.seen c.read_row.new.rack) c.read_row.ensures.ready }

pub returns-in-Ok-Some-clause-serves : goal.returns-in-Ok-Some-clause-serves
returns-in-Ok-Some-clause-serves g c = c.rest-after.ensures.serves (g.R.Rack.seen c.read_row.new.rack) c.read_row.ensures.ready.serves

pub returns-in-Ok-Some-clause-volume : goal.returns-in-Ok-Some-clause-volume
returns-in-Ok-Some-clause-volume g c = record {
  sup = refl;
  store = same_through c.args.vol.now.store c.read_row.new.store c.rest-after.new.store c.scan-scan.result c.read_row.new.scan c.args.self.now.rest
      c.scan-scan.ensures c.read_row.ensures.others c.rest-after.ensures.back;
}

pub returns-in-Ok-Some-clause-rank_falls : goal.returns-in-Ok-Some-clause-rank_falls
returns-in-Ok-Some-clause-rank_falls g c =
    dir_rank_falls c.args.self.now c.scan-scan.result c.read_row.new.scan c.read_row.new.store c.rest-after.result c.scan-scan.ensures
    c.rest-after.ensures.rests
    (subst (RowRankFalls c.scan-scan.result c.read_row.new.scan) (c.in-Ok-Some.is ∙ ap Ok c.in-Ok-Some.field-0-is) c.read_row.ensures.rank_falls)

pub returns-in-Ok-None-clause-content : goal.returns-in-Ok-None-clause-content
returns-in-Ok-None-clause-content g c =
    let is = unread_by c.args.vol.now.store.layout (g.R.Rack.seen c.args.rack.now) (g.R.Rack.seen c.read_row.new.rack) in
    let old = c.args.vol.now.store in
    let new = c.read_row.new.store in
    let dir = c.args.self.now in
    let scan = c.scan-scan.result in
    let scan' = c.read_row.new.scan in
    let name = c.read_row.new.name in
    let by = λ (r : Result (Option DirRow) TreeFault) (B : Map). IsNextRow is B old new scan scan' name r in
    drawn old.layout (by c.read_row.result) (λ B. IsNextEntry is B dir dir name (Ok None))
    (λ B h. dir_ends B is old new dir scan scan' name c.scan-scan.ensures (subst (λ r. by r B) (c.in-Ok-None.is ∙ ap Ok c.in-Ok-None.field-0-is) h))
    c.read_row.ensures.content

pub returns-in-Ok-None-clause-name : goal.returns-in-Ok-None-clause-name
returns-in-Ok-None-clause-name g c = subst (KeepsName c.args.name.now c.read_row.new.name) (c.in-Ok-None.is ∙ ap Ok c.in-Ok-None.field-0-is)
    c.read_row.ensures.name

pub returns-in-Err-clause-content : goal.returns-in-Err-clause-content
returns-in-Err-clause-content g c =
    let is = unread_by c.args.vol.now.store.layout (g.R.Rack.seen c.args.rack.now) (g.R.Rack.seen c.read_row.new.rack) in
    let old = c.args.vol.now.store in
    let new = c.read_row.new.store in
    let dir = c.args.self.now in
    let scan = c.scan-scan.result in
    let scan' = c.read_row.new.scan in
    let name = c.read_row.new.name in
    let by = λ (r : Result (Option DirRow) TreeFault) (B : Map). IsNextRow is B old new scan scan' name r in
    drawn old.layout (by c.read_row.result) (λ B. IsNextEntry is B dir dir name (Err c.in-Err.fault))
    (λ B h. dir_fault B is old new dir scan scan' name c.in-Err.fault c.scan-scan.ensures (subst (λ r. by r B) c.in-Err.is h))
    c.read_row.ensures.content

pub returns-in-Err-clause-name : goal.returns-in-Err-clause-name
returns-in-Err-clause-name g c = subst (KeepsName c.args.name.now c.read_row.new.name) c.in-Err.is c.read_row.ensures.name

pub returns-in-Err-clause-cause : goal.returns-in-Err-clause-cause
returns-in-Err-clause-cause g c = subst (HasCause c.args.vol.now.store.layout (g.R.Rack.seen c.args.rack.now) (g.R.Rack.seen c.read_row.new.rack))
    c.in-Err.is c.read_row.ensures.cause
