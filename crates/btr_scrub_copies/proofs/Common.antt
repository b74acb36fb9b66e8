-- What most proofs of this crate speak of, under one name.
pub use Rattle.btr_chunk.specs.Chunk.{mirrors}
pub use Rattle.btr_chunk.specs.declared.place.Part.{Part}
pub use Rattle.btr_chunk.specs.declared.place.Part.TheVariants.{Mirror}
pub use Rattle.btr_rack.proofs.Reading.{reads_more, reads_none}
pub use Rattle.btr_rack.specs.Rack.{NoneFailed, OnlyReads, Seen}
pub use Rattle.btr_rack.specs.declared.place.Place.{Place as Range}
pub use Rattle.btr_read.proofs.Keeping.{none_failed, none_more}
pub use Rattle.btr_read.proofs.Lent.{given_back, stays_same}
pub use Rattle.btr_read.proofs.Order.{with_copies}
pub use Rattle.btr_read.proofs.ReadsOn.{same_held}
pub use Rattle.btr_read.proofs.Serving.{serves_given}
pub use Rattle.btr_read.specs.Candidates.{Target, candidates, element, range_of, stands}
pub use Rattle.btr_read.specs.Fate.{sought}
pub use Rattle.btr_read.specs.Layout.{Layout, device_in}
pub use Rattle.btr_read.specs.Serves.{Serves}
pub use Rattle.btr_read.specs.Store.{Lent, SameLoans, block_of}
pub use Rattle.btr_read.specs.declared.want.Want.{Want}
pub use Rattle.btr_scrub_copies.specs.Blocks.{copy_writes}
pub use Rattle.btr_scrub_copies.specs.Fresh.{flagged, is_on_behind, is_on_doubtful, is_stale}
pub use Rattle.btr_scrub_copies.specs.Mending.{AreFlagged, IsOfCopy, flagged_copies, mended_copies}
pub use Rattle.btr_scrub_copies.specs.Writes.{AccountsMend, AreAmong, DoesWrites, Images, In, IsMarked, IsStopped, LeaveImages, Write, ranges_of, writes_if}
pub use Rattle.btr_scrub_copies.specs.declared.mended.MendFault.{MendFault}
pub use Rattle.btr_scrub_copies.specs.declared.mended.MendFault.TheVariants.{Image, Memory}
pub use Rattle.std.proofs.lemmas.Bool.{cases_lt, false≢true}
pub use Rattle.std.proofs.lemmas.List.{get_or-set_other}
pub use Rattle.std.specs.List.{filter, range_with_len}
pub use Rattle.std.specs.Option.{option_map, option_map_or}
pub use Rattle.std.specs.Str.{bytes_eq}
