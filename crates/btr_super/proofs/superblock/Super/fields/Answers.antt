use Rattle.std.proofs.Common.{get_or}
use Rattle.btr_super.specs.Super.{super_of}
use Rattle.btr_super.proofs.superblock.Super.fields.Goals as goal

pub returns : goal.returns
unfolding super_of
returns c = λ i. record {
  fsid = c.array_at.ensures i;
  place = c.u64_at.ensures i;
  flags = c.u64_at-2.ensures i;
  generation = c.u64_at-3.ensures i;
  root = c.u64_at-4.ensures i;
  chunk_root = c.u64_at-5.ensures i;
  log_root = c.u64_at-6.ensures i;
  total_bytes = c.u64_at-7.ensures i;
  bytes_used = c.u64_at-8.ensures i;
  root_dir = c.u64_at-9.ensures i;
  num_devices = c.u64_at-10.ensures i;
  sectorsize = c.u32_at.ensures i;
  nodesize = c.u32_at-2.ensures i;
  leafsize = c.u32_at-3.ensures i;
  stripesize = c.u32_at-4.ensures i;
  sys_chunk_array_size = c.u32_at-5.ensures i;
  chunk_root_generation = c.u64_at-11.ensures i;
  compat = c.u64_at-12.ensures i;
  compat_ro = c.u64_at-13.ensures i;
  incompat = c.u64_at-14.ensures i;
  csum_type = c.u16_at.ensures i;
  root_level = get_or c.args.bytes.now 198 0;
  chunk_root_level = get_or c.args.bytes.now 199 0;
  log_root_level = get_or c.args.bytes.now 200 0;
  devid = c.u64_at-15.ensures i;
  dev_uuid = c.array_at-2.ensures i;
  label = c.array_at-3.ensures i;
  cache_generation = c.u64_at-16.ensures i;
  uuid_tree_generation = c.u64_at-17.ensures i;
  metadata_uuid = c.array_at-4.ensures i;
  reserved = c.array_at-5.ensures i;
  array = c.array_at-6.ensures i;
  backups = c.array_at-7.ensures i;
}
