use Rattle.std.proofs.Common.{Option, Ok, Err, subst}
use Rattle.std.proofs.lemmas.Result.{err_from_is_err_and}
use Rattle.btr_volume.specs.declared.stop.Stop.TheVariants.{Tree}
use Rattle.btr_resolve.specs.Cursor.{TellsNext}
use Rattle.btr_resolve.specs.Running.{world}
use Rattle.btr_resolve.specs.declared.owner.Owner.{Owner}
use Rattle.btr_volume.proofs.Onward.{reads_on}
use Rattle.btr_resolve.proofs.Tellings.{leads_first, told_end, told_fault, told_more, told_stop}
use Rattle.btr_resolve.proofs.telling.tell_owners.Goals as goal

pub loop-fault-init : goal.loop-fault-init
loop-fault-init g c = record {
  ready = c.requires.ready;
  owners = c.new-owners.ensures.owners;
  leads = leads_first c.args.addr c.args.tree.now c.args.report.now.count c.new-owners.result
      (world (g.R.Rack.seen c.args.rack.now) c.args.vol.now (g.O.Out.text c.args.out.now) (g.O.Out.account c.args.out.now))
      c.new-owners.ensures.program c.new-owners.ensures.on;
}

pub returns-in-Err : goal.returns-in-Err
returns-in-Err g c =
    let f = c.loop-fault in
    let e = c.in-Err.ensures in
    f.invariant.leads (world (g.R.Rack.seen c.next.new.rack) c.next.new.vol (g.O.Out.text f.out) (g.O.Out.account f.out)) (Err (Tree c.in-Err.fault))
    (told_fault f.report.count f.owners c.next.new.self (g.R.Rack.seen f.rack)
    (g.R.Rack.seen c.next.new.rack) f.vol c.next.new.vol (g.O.Out.text f.out) (g.O.Out.account f.out) e.reads e.volume
    (reads_on _ f.vol c.next.new.vol f.invariant.ready e.serves e.volume) c.in-Err.fault e.cause e.content)

pub returns-in-Ok-None : goal.returns-in-Ok-None
returns-in-Ok-None g c =
    let f = c.loop-fault in
    let e = c.in-Ok-None.ensures in
    let old = g.R.Rack.seen f.rack in
    let new = g.R.Rack.seen c.next.new.rack in
    f.invariant.leads (world new c.next.new.vol (g.O.Out.text f.out) (g.O.Out.account f.out)) (Ok f.report.count)
    (told_end f.report.count f.owners c.next.new.self old new f.vol c.next.new.vol (g.O.Out.text f.out)
    (g.O.Out.account f.out) e.reads e.volume (reads_on new f.vol c.next.new.vol f.invariant.ready e.serves e.volume)
    (subst (λ (o : Option Owner). TellsNext f.vol old new f.owners c.next.new.self (Ok o)) c.in-Ok-None.field-0-is e.content))

pub loop-fault-preserved : goal.loop-fault-preserved
loop-fault-preserved g c =
    let f = c.loop-fault in
    let e = c.in-Ok-Some.ensures in
    let old = g.R.Rack.seen f.rack in
    let new = g.R.Rack.seen c.next.new.rack in
    let next = subst (λ (o : Option Owner). TellsNext f.vol old new f.owners c.next.new.self (Ok o)) c.in-Ok-Some.field-0-is e.content in
    let told = c.in_ok-tell_owner-in-Ok-Some.ensures in
    let z = world (g.R.Rack.seen c.tell_owner.new.rack) c.tell_owner.new.vol (g.O.Out.text c.tell_owner.new.out)
    (g.O.Out.account c.tell_owner.new.out) in
    record {
      ready = told.ready;
      owners = e.owners;
      leads = λ w answer t. f.invariant.leads w answer
          (told_more f.report.count f.owners c.next.new.self old new f.vol c.next.new.vol (g.O.Out.text f.out)
          (g.O.Out.account f.out) e.reads e.volume (reads_on new f.vol c.next.new.vol f.invariant.ready e.serves e.volume)
          c.in-Ok-Some.owner next z c.tell_owner.new.report.count told w answer t);
    }

pub returns-in_err-tell_owner-in-Ok-Some : goal.returns-in_err-tell_owner-in-Ok-Some
returns-in_err-tell_owner-in-Ok-Some g c =
    let f = c.loop-fault in
    let e = c.in-Ok-Some.ensures in
    let old = g.R.Rack.seen f.rack in
    let new = g.R.Rack.seen c.next.new.rack in
    let next = subst (λ (o : Option Owner). TellsNext f.vol old new f.owners c.next.new.self (Ok o)) c.in-Ok-Some.field-0-is e.content in
    let p = err_from_is_err_and c.from_residual.result c.from_residual.ensures.1 in
    rw (p.1, p.2)
    (let z = world (g.R.Rack.seen c.tell_owner.new.rack) c.tell_owner.new.vol (g.O.Out.text c.tell_owner.new.out)
    (g.O.Out.account c.tell_owner.new.out) in
    f.invariant.leads z (Err c.in_err-tell_owner-in-Ok-Some.field-0.0)
    (told_stop f.report.count f.owners c.next.new.self old new f.vol c.next.new.vol (g.O.Out.text f.out)
    (g.O.Out.account f.out) e.reads e.volume (reads_on new f.vol c.next.new.vol f.invariant.ready e.serves e.volume)
    c.in-Ok-Some.owner next z c.in_err-tell_owner-in-Ok-Some.field-0.0 c.in_err-tell_owner-in-Ok-Some.ensures))
