use Rattle.btr_check_space.specs.Items.{group_in, device_extent_in, device_in}
use Rattle.btr_check_space.proofs.Collecting.{collects}
use Rattle.btr_check_space.proofs.laws.collects_law.Goals as goal

pub returns : goal.returns
returns c = record {
  groups = collects group_in;
  device_extents = collects device_extent_in;
  devices = collects device_in;
}
