-- What most proofs of this crate speak of, under one name.
pub use Rattle.btr_base.specs.Sum.{stored_sum, sum_size}
pub use Rattle.btr_base.specs.declared.kind.SumKind.{SumKind}
pub use Rattle.btr_base.specs.declared.stored.Sum.{Sum}
pub use Rattle.btr_chunk.proofs.Bytes.{placed_part}
pub use Rattle.btr_chunk.proofs.Rows.{without_copies}
pub use Rattle.btr_chunk.proofs.Rule.{facts}
pub use Rattle.btr_chunk.proofs.Searches.{list_any-false, list_any-true}
pub use Rattle.btr_chunk.specs.Chunk.{IsChunk, data_count, is_striped, mirror_count, mirrors, stripe_length}
pub use Rattle.btr_chunk.specs.Mapping.{HasPart, IsPosition, crosses, holds, place_at, position, stripe_of}
pub use Rattle.btr_chunk.specs.Table.{IsTable, chunk_at}
pub use Rattle.btr_chunk.specs.declared.chunk.Chunk.{Chunk}
pub use Rattle.btr_chunk.specs.declared.place.Part.{Part}
pub use Rattle.btr_chunk.specs.declared.place.Part.TheVariants.{Mirror, P, Q}
pub use Rattle.btr_chunk.specs.declared.place.StripePlace.{StripePlace}
pub use Rattle.btr_chunk.specs.declared.position.Elements.{Elements}
pub use Rattle.btr_chunk.specs.declared.profile.Profile.{Profile}
pub use Rattle.btr_chunk.specs.declared.profile.Profile.TheVariants.{Raid5, Raid6}
pub use Rattle.btr_chunk.specs.declared.stripe.Stripe.{Stripe}
pub use Rattle.btr_files.specs.Sums.{kind_in, sum_at, tree_behind}
pub use Rattle.btr_parity.specs.Slices.{IsSlice, parity_p, parity_q}
pub use Rattle.btr_prog.proofs.Runs.{exec-bind}
pub use Rattle.btr_prog.specs.Answers.{Follows, no_part}
pub use Rattle.btr_prog.specs.Prog.{Emit, Mark, Return, bind, exec, steps_of}
pub use Rattle.btr_prog.specs.Quiet.{quiet}
pub use Rattle.btr_rack.proofs.Reading.{reads_more}
pub use Rattle.btr_rack.specs.Rack.{NoneFailed, OnlyReads, Seen, bytes_of, image_of, pasted, range_in}
pub use Rattle.btr_rack.specs.declared.place.Place.{Place as Range}
pub use Rattle.btr_read.proofs.Fates.{sought_of}
pub use Rattle.btr_read.proofs.Ones.{in_below, in_either, in_left, in_right}
pub use Rattle.btr_read.proofs.Pieces.{length-slice_range}
pub use Rattle.btr_read.proofs.ReadsOn.{same_held}
pub use Rattle.btr_read.proofs.Serving.{serving}
pub use Rattle.btr_read.specs.Candidates.{Target, candidates, parts_read, range_of, range_on, size_of, slice_count, stands, value_of}
pub use Rattle.btr_read.specs.Fate.{Crosses, Fault, is_plain, sought, sought_at, sought_in}
pub use Rattle.btr_read.specs.Layout.{HaveOwnSlots, Layout, device_in}
pub use Rattle.btr_read.specs.Serves.{Serves}
pub use Rattle.btr_read.specs.Store.{Blocks, SameLoans}
pub use Rattle.btr_read.specs.Want.{addr_of, len_of, passes}
pub use Rattle.btr_read.specs.declared.candidate.Candidate.{Candidate}
pub use Rattle.btr_read.specs.declared.candidate.Candidate.TheVariants.{Read}
pub use Rattle.btr_read.specs.declared.device.Device.{Device}
pub use Rattle.btr_read.specs.declared.want.Want.{Want}
pub use Rattle.btr_read.specs.declared.want.Want.TheVariants.{Plain, Sector}
pub use Rattle.btr_scrub.specs.BlocksInRows.{In, IsInRow, LiesInRow}
pub use Rattle.btr_scrub.specs.Columns.{right_for}
pub use Rattle.btr_scrub.specs.Devices.{HaveLengths}
pub use Rattle.btr_scrub.specs.Doubts.{failing, fails_at, fails_on}
pub use Rattle.btr_scrub.specs.Gathering.{Gathers, HasPassed, Lists, Scene, count_met, scene, wants_among}
pub use Rattle.btr_scrub.specs.Judged.{Flags, has_behind, has_older}
pub use Rattle.btr_scrub.specs.Judging.{IsFirstRefused}
pub use Rattle.btr_scrub.specs.Listed.{AddsAll, AddsTo, AreOfKind, IsList, KeptBlocks, kept_wants, plains_from}
pub use Rattle.btr_scrub.specs.Order.{AreApart, AreUpTo, IsSought, targets}
pub use Rattle.btr_scrub.specs.Pages.{items_in}
pub use Rattle.btr_scrub.specs.Places.{IsOfElement}
pub use Rattle.btr_scrub.specs.Repair.{covers, first_missing, is_in_chunk, is_in_row, missing_stripes, ok_or_none, row_of, rows_in, stood}
pub use Rattle.btr_scrub.specs.Rowing.{untouched}
pub use Rattle.btr_scrub.specs.Scrubbing.{BeginsBehind, CanMend, HasRooms, IsOfScrub, IsPastChunk, Scrubs, Works, all_count_for, all_writes_for}
pub use Rattle.btr_scrub.specs.Scrubbing.{chunk_count_for, chunk_writes_for, count_row, count_row_of, count_site, counted, counted_plain, counted_row}
pub use Rattle.btr_scrub.specs.Scrubbing.{rows_count, rows_writes, sites_count, sites_in, sites_writes}
pub use Rattle.btr_scrub.specs.Sifting.{CanSift, HasKeptOf, ShareNoRow, Sifts, SiftsNext, begun, is_copy_needed, is_needed, is_row_needed}
pub use Rattle.btr_scrub.specs.Survival.{IsSoundRow}
pub use Rattle.btr_scrub.specs.Units.{Checked, Meeting, Met, blocks_of, extent_met, in_chunk, in_chunks, sector, sector_met, sectors, units_in}
pub use Rattle.btr_scrub.specs.Whole.{first_tally, listed_count_for, listed_writes_for}
pub use Rattle.btr_scrub.specs.WrittenRanges.{KeepsOutside, LiesInChunk, LiesInStripe, alone}
pub use Rattle.btr_scrub.specs.declared.extent.Extent.{Extent}
pub use Rattle.btr_scrub.specs.declared.extent.Span.{Span}
pub use Rattle.btr_scrub.specs.declared.gathered.Gathered.{Gathered}
pub use Rattle.btr_scrub.specs.declared.tally.Tally.{Tally}
pub use Rattle.btr_scrub_copies.proofs.Copied.{has_mirror, same_loans_then}
pub use Rattle.btr_scrub_copies.proofs.Syncs.{passing_filter}
pub use Rattle.btr_scrub_copies.proofs.Turning.{all_at}
pub use Rattle.btr_scrub_copies.specs.Blocks.{accepted, bad_parts, block_writes, copy_writes, is_good, is_sound, own_parts}
pub use Rattle.btr_scrub_copies.specs.Fresh.{Failing, flagged, fresh, fresh_writes, freshened, is_on_behind, is_stale, stale_beside, stale_parts}
pub use Rattle.btr_scrub_copies.specs.Mending.{mended_of}
pub use Rattle.btr_scrub_copies.specs.Syncing.{plain}
pub use Rattle.btr_scrub_copies.specs.Turns.{waiting}
pub use Rattle.btr_scrub_copies.specs.Writes.{AccountsMend, Images, Write, write_on, writes_if}
pub use Rattle.btr_scrub_copies.specs.declared.mended.MendFault.{MendFault}
pub use Rattle.btr_scrub_copies.specs.declared.mended.MendFault.TheVariants.{Image, Memory}
pub use Rattle.btr_scrub_copies.specs.declared.mended.Mended.{Mended}
pub use Rattle.btr_scrub_row.proofs.Elements.{range_stands, stands_on}
pub use Rattle.btr_scrub_row.proofs.Pasted.{length-pasted}
pub use Rattle.btr_scrub_row.specs.Mending.{mended_row}
pub use Rattle.btr_scrub_row.specs.Rows.{Row, blocks_at, element_with, has_doubtful, parities, parity_writes, range_in_element, row_writes, slices_with}
pub use Rattle.btr_scrub_row.specs.Wanted.{is_checked, is_lost_block, mending_writes, new_bytes, renewed, wrong_parts}
pub use Rattle.btr_scrub_row.specs.declared.mended.MendedRow.{MendedRow}
pub use Rattle.btr_super.specs.declared.superblock.Super.{Super}
pub use Rattle.btr_volume.specs.Looking.{Looks, SameVolume}
pub use Rattle.btr_volume.specs.Tree.{key}
pub use Rattle.btr_volume.specs.declared.root.TreeRoot.{TreeRoot}
pub use Rattle.btr_volume.specs.declared.volume.Volume.{Volume}
pub use Rattle.btr_walk.proofs.Joined.{drawn}
pub use Rattle.btr_walk.specs.Le.{TreeItem}
pub use Rattle.btr_walk.specs.Reading.{Map, Tells, UnreadBlock, unread_by}
pub use Rattle.btr_walk.specs.ScanEnds.{without_leaf}
pub use Rattle.btr_walk.specs.declared.fault.TreeFault.{TreeFault}
pub use Rattle.btr_walk.specs.declared.scan.Scan.{Scan}
pub use Rattle.std.proofs.lemmas.Bool.{and_from, and_parts, cases_lt, eq-eqb, eqb-true, false_from_ne_true, false≢true, le-leb, leb-true, lt-ltb, ltb-false}
pub use Rattle.std.proofs.lemmas.Bool.{not-true, or_parts}
pub use Rattle.std.proofs.lemmas.List.{get_or-map, length-drop, length-map, take_at}
pub use Rattle.std.proofs.lemmas.List.Sums.{sum_by-cons}
pub use Rattle.std.proofs.lemmas.Option.{get_or_from_slice_get, same_Some, slice_get_within}
pub use Rattle.std.proofs.lemmas.Result.{err_from_is_err_and}
pub use Rattle.std.specs.List.{cons_option, filter, filter_map, flat_map, fold, list_any, range_with_len, sum_by}
pub use Rattle.std.specs.Option.{option_map, option_map_or}
pub use Rattle.std.specs.Str.{bytes_eq}
pub use Rattle.std.specs.declared.alloc.Global.{Global}
