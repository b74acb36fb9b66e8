use Rattle.std.proofs.Common.{Result, Ok, Err, Option, Some, None, List, refl, ◌∙◌, ap, subst, sym, ◌≤◌}
use Rattle.btr_read.specs.Store.{free_count}
use Rattle.btr_read.specs.declared.want.Want.{Want}
use Rattle.btr_walk.specs.Reading.{Map, unread_by}
use Rattle.btr_walk.specs.ScanEnds.{rank_of}
use Rattle.btr_walk.specs.declared.fault.TreeFault.{TreeFault}
use Rattle.btr_walk.proofs.Joined.{drawn}
use Rattle.btr_files.proofs.Rows.{free_is, ready_is, same_through}
use Rattle.btr_resolve.specs.Cursor.{AreOn, FoundRankFalls, IsFound, NextOwnerBy}
use Rattle.btr_resolve.specs.declared.owner.Owner.{Owner}
use Rattle.btr_resolve.specs.declared.owners.Owners.{Owners}
use Rattle.btr_resolve.proofs.Cursors.{next_fault, next_rank_falls, next_none, next_owner}
use Rattle.btr_resolve.proofs.owners.Owners.next.Goals as goal

pub find_owner-requires-clause-ready : goal.find_owner-requires-clause-ready
find_owner-requires-clause-ready g c =
    ready_is (g.R.Rack.seen c.args.rack.now) c.args.vol.now.store c.scan-scan.result c.args.self.now.rest c.scan-scan.ensures
    c.requires.serves c.requires.owners.shaped

pub find_owner-requires-clause-room : goal.find_owner-requires-clause-room
find_owner-requires-clause-room g c =
    subst (λ s. 4 ≤ free_count s) (sym (free_is c.args.vol.now.store c.scan-scan.result c.args.self.now.rest c.scan-scan.ensures)) c.requires.room

pub returns-in-Ok-Some-clause-content : goal.returns-in-Ok-Some-clause-content
returns-in-Ok-Some-clause-content g c =
    let old = c.args.vol.now.store in
    let new = c.find_owner.new.store in
    let cursor = c.args.self.now in
    let scan = c.scan-scan.result in
    let scan' = c.find_owner.new.scan in
    let met' = c.find_owner.new.met in
    let owner = c.in-Ok-Some.owner in
    let rest = c.rest-self.result in
    let is = unread_by old.layout (g.R.Rack.seen c.args.rack.now) (g.R.Rack.seen c.find_owner.new.rack) in
    let by = λ (r : Result (Option Owner) TreeFault) (B : Map). IsFound cursor.addr cursor.tree is B old new scan scan' cursor.met met' r in
    let after : Owners = record { addr = cursor.addr; tree = cursor.tree; met = met'; rest = rest } in
    drawn old.layout (by c.find_owner.result) (λ B. (seen : List Want) → AreOn B seen cursor → NextOwnerBy is B seen cursor after (Ok (Some owner)))
    (λ B h. next_owner B is old new cursor scan scan' met' c.scan-scan.ensures rest owner c.find_owner.ensures.lo
    c.find_owner.ensures.hi c.rest-self.ensures.rests (subst (λ r. by r B) (c.in-Ok-Some.is ∙ ap Ok c.in-Ok-Some.field-0-is) h))
    c.find_owner.ensures.content

pub returns-in-Ok-Some-clause-owners : goal.returns-in-Ok-Some-clause-owners
returns-in-Ok-Some-clause-owners g c =
    record { shaped = c.rest-self.ensures.rests.shaped (g.R.Rack.seen c.find_owner.new.rack) c.find_owner.ensures.ready }

pub returns-in-Ok-Some-clause-serves : goal.returns-in-Ok-Some-clause-serves
returns-in-Ok-Some-clause-serves g c = c.rest-self.ensures.serves (g.R.Rack.seen c.find_owner.new.rack) c.find_owner.ensures.ready.serves

pub returns-in-Ok-Some-clause-volume : goal.returns-in-Ok-Some-clause-volume
returns-in-Ok-Some-clause-volume g c = record {
  sup = refl;
  store = same_through c.args.vol.now.store c.find_owner.new.store c.rest-self.new.store c.scan-scan.result
      c.find_owner.new.scan c.args.self.now.rest c.scan-scan.ensures c.find_owner.ensures.others c.rest-self.ensures.back;
}

pub returns-in-Ok-Some-clause-rank_falls : goal.returns-in-Ok-Some-clause-rank_falls
returns-in-Ok-Some-clause-rank_falls g c =
    next_rank_falls c.args.self.now.rest c.scan-scan.result c.find_owner.new.scan c.find_owner.new.store c.rest-self.result
    c.scan-scan.ensures c.rest-self.ensures.rests
    (subst (FoundRankFalls (rank_of c.scan-scan.result) (rank_of c.find_owner.new.scan))
    (c.in-Ok-Some.is ∙ ap Ok c.in-Ok-Some.field-0-is) c.find_owner.ensures.rank_falls)

pub returns-in-Ok-None-clause-content : goal.returns-in-Ok-None-clause-content
returns-in-Ok-None-clause-content g c =
    let old = c.args.vol.now.store in
    let new = c.find_owner.new.store in
    let cursor = c.args.self.now in
    let scan = c.scan-scan.result in
    let scan' = c.find_owner.new.scan in
    let met' = c.find_owner.new.met in
    let is = unread_by old.layout (g.R.Rack.seen c.args.rack.now) (g.R.Rack.seen c.find_owner.new.rack) in
    let by = λ (r : Result (Option Owner) TreeFault) (B : Map). IsFound cursor.addr cursor.tree is B old new scan scan' cursor.met met' r in
    let after : Owners = record { addr = cursor.addr; tree = cursor.tree; met = met'; rest = cursor.rest } in
    drawn old.layout (by c.find_owner.result) (λ B. (seen : List Want) → AreOn B seen cursor → NextOwnerBy is B seen cursor after (Ok None))
    (λ B h. next_none B is old new cursor scan scan' met' c.scan-scan.ensures after
    (subst (λ r. by r B) (c.in-Ok-None.is ∙ ap Ok c.in-Ok-None.field-0-is) h))
    c.find_owner.ensures.content

pub returns-in-Err-clause-content : goal.returns-in-Err-clause-content
returns-in-Err-clause-content g c =
    let old = c.args.vol.now.store in
    let new = c.find_owner.new.store in
    let cursor = c.args.self.now in
    let scan = c.scan-scan.result in
    let scan' = c.find_owner.new.scan in
    let met' = c.find_owner.new.met in
    let is = unread_by old.layout (g.R.Rack.seen c.args.rack.now) (g.R.Rack.seen c.find_owner.new.rack) in
    let by = λ (r : Result (Option Owner) TreeFault) (B : Map). IsFound cursor.addr cursor.tree is B old new scan scan' cursor.met met' r in
    let after : Owners = record { addr = cursor.addr; tree = cursor.tree; met = met'; rest = cursor.rest } in
    drawn old.layout (by c.find_owner.result) (λ B. (seen : List Want) → AreOn B seen cursor → NextOwnerBy is B seen cursor after (Err c.in-Err.fault))
    (λ B h. next_fault B is old new cursor scan scan' met' c.scan-scan.ensures after c.in-Err.fault (subst (λ r. by r B) c.in-Err.is h))
    c.find_owner.ensures.content
