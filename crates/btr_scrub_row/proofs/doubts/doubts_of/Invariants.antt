use Rattle.std.proofs.Common.{◌≡◌, ℕ, ◌<◌, length}
use Rattle.btr_scrub_row.proofs.Common.{IsStripeOf, Row, devid_at, flag_of, flagged, is_behind, is_doubtful, part_at, slice_count}
use Rattle.btr_scrub_row.proofs.doubts.doubts_of.Given as goal

abbrev pub invariant-loop-number : goal.invariant-loop-number
invariant-loop-number l = record {
  doubtful_long : length l.doubtful ≡ 64;
  behind_long : length l.behind ≡ 64;
  doubtful : (row : Row) (e : ℕ) → IsStripeOf l.store.layout l.stripe row → e < l.number
      → flag_of l.doubtful e ≡ is_doubtful l.store.layout.devices (flagged l.failing) (devid_at row (part_at (slice_count row) e));
  behind : (row : Row) (e : ℕ) → IsStripeOf l.store.layout l.stripe row → e < l.number
      → flag_of l.behind e ≡ is_behind l.store.layout.devices (flagged l.failing) (devid_at row (part_at (slice_count row) e));
}
