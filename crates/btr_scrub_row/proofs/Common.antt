-- What most proofs of this crate speak of, under one name.
pub use Rattle.btr_chunk.proofs.Rows.{without_copies}
pub use Rattle.btr_chunk.specs.Chunk.{IsChunk, data_count, mirrors}
pub use Rattle.btr_chunk.specs.Mapping.{HasPart}
pub use Rattle.btr_chunk.specs.declared.place.Part.{Part}
pub use Rattle.btr_chunk.specs.declared.place.Part.TheVariants.{P, Q, Slice}
pub use Rattle.btr_chunk.specs.declared.profile.Profile.{Profile}
pub use Rattle.btr_chunk.specs.declared.profile.Profile.TheVariants.{Raid6}
pub use Rattle.btr_chunk.specs.declared.stripe.Stripe.{Stripe}
pub use Rattle.btr_parity.proofs.Folding.{parity_by_folding}
pub use Rattle.btr_parity.proofs.Solving.{bytes_of}
pub use Rattle.btr_parity.specs.Slices.{IsSlice, parity_p, parity_q, plus}
pub use Rattle.btr_rack.specs.Rack.{Seen, pasted, range_in}
pub use Rattle.btr_rack.specs.declared.place.Place.{Place as Range}
pub use Rattle.btr_read.proofs.Fates.{sought_of}
pub use Rattle.btr_read.proofs.Pieces.{range-range}
pub use Rattle.btr_read.proofs.Sums.{GatheredSoFar}
pub use Rattle.btr_read.proofs.Trials.{telling}
pub use Rattle.btr_read.specs.Candidates.{Target, candidates, range_of, reads_slice, size_of, value_of, ways}
pub use Rattle.btr_read.specs.Fate.{is_plain, sought}
pub use Rattle.btr_read.specs.Gathering.{part_of}
pub use Rattle.btr_read.specs.Layout.{Layout}
pub use Rattle.btr_read.specs.declared.candidate.Candidate.{Candidate}
pub use Rattle.btr_read.specs.declared.parity.Parity.{Parity}
pub use Rattle.btr_read.specs.declared.want.Want.{Want}
pub use Rattle.btr_scrub_copies.proofs.Doing.{does_nothing, does_passed}
pub use Rattle.btr_scrub_copies.specs.Fresh.{flagged, is_behind, is_doubtful, is_on_behind, is_trusted}
pub use Rattle.btr_scrub_copies.specs.Writes.{DoesWrites, Images, Write}
pub use Rattle.btr_scrub_row.specs.Judging.{AreJudged, meets_piece}
pub use Rattle.btr_scrub_row.specs.Memory.{HasParity, HoldsRow, IsInMemory, IsSited, IsStripeOf, KnowsDoubts, LiesAt, devid_at, element_count, element_in}
pub use Rattle.btr_scrub_row.specs.Memory.{element_of, flag_of, part_at, piece_in}
pub use Rattle.btr_scrub_row.specs.Mending.{IsOfRow, IsOn, parity_count}
pub use Rattle.btr_scrub_row.specs.Preparing.{IsPrepared}
pub use Rattle.btr_scrub_row.specs.Rows.{Row, differs, element, is_decided, is_sure, parities, parity_writes, range_in_element, slice_count}
pub use Rattle.btr_scrub_row.specs.Wanted.{is_checked, mending_writes, new_bytes}
pub use Rattle.btr_scrub_row.specs.Writing.{CanWrite, CanWriteIn, column_writes, told_writes}
pub use Rattle.btr_scrub_row.specs.declared.doubts.Doubts.{Doubts}
pub use Rattle.btr_scrub_row.specs.declared.judged.Judged.{Judged}
pub use Rattle.btr_scrub_row.specs.declared.slice_piece.SlicePiece.{SlicePiece}
pub use Rattle.btr_scrub_row.specs.declared.stripe.FullStripe.{FullStripe}
pub use Rattle.std.proofs.lemmas.Bool.{false≢true}
pub use Rattle.std.proofs.lemmas.Grind.{common_steps}
pub use Rattle.std.proofs.lemmas.List.{take_all, take_more}
pub use Rattle.std.proofs.lemmas.List.FromFn.{length-range_with_len}
pub use Rattle.std.proofs.lemmas.Option.{same_Some, slice_get_within}
pub use Rattle.std.specs.List.{filter, flat_map, list_any, range_with_len}
pub use Rattle.std.specs.Option.{option_map_or}
pub use Rattle.std.specs.Str.{bytes_eq}
