use Rattle.std.proofs.Common.{◌≡◌, ◌+◌, ◌-◌, cond, true, take, slice_range, Some, None, sym, ap, ◌∙◌, arith, rules}
use Rattle.btr_scrub_row.proofs.Common.{Slice, bytes_eq, is_on_behind, piece_in, size_of}
use Rattle.btr_scrub_row.specs.Memory.{piece_at}
use Rattle.btr_scrub_row.proofs.Doubting.{own_behind}
use Rattle.btr_scrub_row.proofs.Settled.{renewed_as}
use Rattle.btr_scrub_row.proofs.freshening.is_stale.Goals as goal

pub returns : goal.returns
returns c = λ images row t e lies knows h.
    let piece = c.args.piece.now in
    let bytes = c.args.view.now.old.now in
    let block = c.find_fresh.new.block in
    let start = c.start-start.result in
    let front : 0 + piece.len - 0 ≡ piece.len = omega arith in
    let flagged : c.flag_of.result ≡ true = search rules in
    let found : c.find_fresh.result ≡ true = search rules in
    let behind : is_on_behind row.failing t (Slice t.at.index) ≡ true = sym (own_behind lies knows) ∙ sym c.flag_of.ensures ∙ flagged in
    let is = c.find_fresh.ensures images row t e lies knows h ∙ ap (λ b. cond b (Some (take (size_of t) block)) None) found in
    renewed_as images row t lies.sited.parity block (piece_at bytes start piece.len) c.same_pieces.result behind is
    (ap (λ s. slice_range bytes s (s + piece.len)) c.start-start.ensures ∙ ap (piece_in bytes piece) h.place.index
    ∙ h.block.slices t.at.index h.block.position.index)
    (c.same_pieces.ensures ∙ ap (λ n. bytes_eq (piece_at bytes start piece.len) (take n block)) (front ∙ h.place.len))
