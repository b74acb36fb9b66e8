use Rattle.std.specs.List.{list_any}
use Rattle.btr_check_names.specs.declared.subvolume_name.SubvolumeName.{SubvolumeName}
use Rattle.btr_check_names.specs.Subvolume.{name_of}
use Rattle.btr_check_names.specs.Subvolumes.{name_cmp, same_name}
use Rattle.btr_check_names.proofs.Looking.{set_more, subvolume-alike}
use Rattle.btr_check_names.proofs.put_subvolumes.names_of.Goals as goal

pub loop-name-preserved : goal.loop-name-preserved
loop-name-preserved c =
    set_more name_cmp (λ (q : SubvolumeName). same_name (name_of q)) c.loop-name.set c.insert.new.self c.in-Some.name (name_of c.in-Some.name)
    c.next.new.self c.loop-name.name-iterator
    (λ (q : SubvolumeName). list_any (same_name (name_of q)) c.args.names.now) c.in-Ok.ensures.updates.0 c.in-Some.ensures.steps
    (subvolume-alike c.in-Some.name) c.loop-name.invariant
