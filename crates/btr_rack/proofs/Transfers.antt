-- One piece more that was read or stored.
use Rattle.std.proofs.Common.{◌≡◌, ℕ, ◌+◌, ◌-◌, ◌<◌, ◌≤◌, List, ◌∷◌, ◌++◌, length, take, drop, arith, ap, sym, ◌∙◌, inl, inr, subst}
use Rattle.std.proofs.Math.Seq.{take-add, take-append-add}
use Rattle.std.proofs.lemmas.Grind.{common_steps}
use Rattle.std.proofs.lemmas.List.{length-take-le, take-append-le, take_all}
use borrow.Rule.Slice.PartMut.{put_mid, post_of, same_len_mid}
use Rattle.btr_rack.specs.declared.raw_call.RawCall.{RawCall}
use Rattle.btr_rack.specs.History.{Event, event, refused, interrupted, Moves, piece_moved, none_moved, Stops, FallsShort}

-- one more piece was moved, behind those before it
moves_next : (call : ℕ → RawCall) (off at again : ℕ) (old now now' : List Event) (bytes bytes' piece : List ℕ) → Moves call off old again now bytes
    → at ≡ off + length bytes → 0 < length piece
    → now' ≡ event (call at) piece ∷ now → bytes' ≡ bytes ++ piece → Moves call off old again now' bytes'
moves_next call off at again old now now' bytes bytes' piece before e some en eb = rw (en, e, eb) (piece_moved again now bytes piece before some)

-- one more call was interrupted, and moved nothing
pub moves_again : (call : ℕ → RawCall) (off again : ℕ) (old now now' : List Event) (bytes : List ℕ) → Moves call off old again now bytes → now'
    ≡ interrupted ∷ now → Moves call off old (again + 1) now' bytes
moves_again call off again old now now' bytes before e = rw e (none_moved again now bytes before)

-- a refused call, or the seventeenth interruption
pub moves_refused : (call : ℕ → RawCall) (off again : ℕ) (old now now' : List Event) (bytes : List ℕ) → again ≤ 16
    → Moves call off old again now bytes → now' ≡ refused ∷ now → Stops call off old now' bytes
moves_refused call off again old now now' bytes few before e =
    record { before = now; moved = record { again = again; few = few; moves = before }; stop = inl e }

-- an interruption behind sixteen others stops the transfer
pub moves_too_often : (call : ℕ → RawCall) (off again : ℕ) (old now now' : List Event) (bytes : List ℕ) → again ≤ 16 → 16 ≤ again
    → Moves call off old again now bytes → now' ≡ interrupted ∷ now → Stops call off old now' bytes
moves_too_often call off again old now now' bytes few many before e =
    record { before = now; moved = record { again = again; few = few; moves = before }; stop = inr (omega arith, e) }

-- the first bytes and a part of what is behind them are that many more of the first
pub take_piece : (done n : ℕ) (bytes : List ℕ) → n ≤ length (take (length bytes - done) (drop done bytes)) → take (done + n) bytes ≡ take done bytes
    ++ take n (take (length bytes - done) (drop done bytes))
take_piece done n bytes h = grind (arith, common_steps, take-add {A = ℕ})

-- one more piece of the bytes was stored
pub stores_piece : (call : ℕ → RawCall) (off done n again : ℕ) (old now now' : List Event) (bytes : List ℕ)
    → Moves call off old again now (take done bytes) → done < length bytes → 0 < n
    → n ≤ length (take (length bytes - done) (drop done bytes)) → now' ≡ event (call (off + done)) (take n (take (length bytes - done) (drop done bytes))) ∷ now
    → (done + n ≤ length bytes) × Moves call off old again now' (take (done + n) bytes)
stores_piece call off done n again old now now' bytes before below some h e = (
  grind (arith, common_steps),
  moves_next call off (off + done) again old now now' (take done bytes) (take (done + n) bytes)
      (take n (take (length bytes - done) (drop done bytes))) before (grind (arith, common_steps)) (grind (arith, common_steps)) e (take_piece done n bytes h),
)

-- what was read into a buffer behind its first bytes stands behind them
take_put : (done n : ℕ) (buf new : List ℕ) → done ≤ length buf → n ≤ length new → take (done + n) (put_mid done (length buf - done) buf new)
    ≡ take done buf ++ take n new
take_put done n buf new h k =
    ap (λ m. take (m + n) (put_mid done (length buf - done) buf new)) (sym (length-take-le done buf h))
    ∙ take-append-add (take done buf) (new ++ post_of done (length buf - done) buf) n
    ∙ ap (λ r. take done buf ++ r) (take-append-le n new (post_of done (length buf - done) buf) k)

-- one more piece was read into the buffer
pub reads_piece : (call : ℕ → RawCall) (off done n again : ℕ) (old now now' : List Event) (buf new : List ℕ)
    → Moves call off old again now (take done buf) → done < length buf → 0 < n → n ≤ length new
    → length new ≡ length (take (length buf - done) (drop done buf)) → now' ≡ event (call (off + done)) (take n new) ∷ now
    → (done + n ≤ length (put_mid done (length buf - done) buf new))
    × Moves call off old again now' (take (done + n) (put_mid done (length buf - done) buf new))
reads_piece call off done n again old now now' buf new before below some h l e = (
  grind (arith, common_steps, same_len_mid done (length buf - done) buf new l),
  moves_next call off (off + done) again old now now' (take done buf) (take (done + n) (put_mid done (length buf - done) buf new)) (take n new) before
      (grind (arith, common_steps)) (grind (arith, common_steps)) e (take_put done n buf new (omega arith) (omega arith)),
)

-- what was read before stays, whatever a read leaves behind it
take_kept : (done : ℕ) (buf new : List ℕ) → done < length buf → take done (put_mid done (length buf - done) buf new) ≡ take done buf
take_kept done buf new h =
    ap (λ m. take m (put_mid done (length buf - done) buf new)) (sym (length-take-le done buf (omega arith)))
    ∙ take-append-le (length (take done buf)) (take done buf) (new ++ post_of done (length buf - done) buf) (omega arith)
    ∙ take_all (length (take done buf)) (take done buf) (omega arith)

-- a buffer keeps what was read into it before, whatever a call that read nothing leaves behind that
pub still_read : (call : ℕ → RawCall) (off done again : ℕ) (old now : List Event) (buf new : List ℕ) → done < length buf → length new
    ≡ length (take (length buf - done) (drop done buf)) → again ≤ 16
    → Moves call off old again now (take done buf)
    → record {
      inside : done ≤ length (put_mid done (length buf - done) buf new);
      few : again ≤ 16;
      moves : Moves call off old again now (take done (put_mid done (length buf - done) buf new));
    }
still_read call off done again old now buf new below l few moves = record {
  inside = omega (arith, same_len_mid done (length buf - done) buf new l);
  few = few;
  moves = subst (Moves call off old again now) (sym (take_kept done buf new below)) moves;
}

-- a buffer that was not filled when the transfer stopped fell short
pub fell_short : (call : ℕ → RawCall) (off done : ℕ) (old now : List Event) (buf new : List ℕ) → done < length buf → length new
    ≡ length (take (length buf - done) (drop done buf))
    → Stops call off old now (take done buf) → FallsShort call off old now (put_mid done (length buf - done) buf new)
fell_short call off done old now buf new below l stops = (
  done,
  omega (arith, same_len_mid done (length buf - done) buf new l),
  subst (Stops call off old now) (sym (take_kept done buf new below)) stops,
)
