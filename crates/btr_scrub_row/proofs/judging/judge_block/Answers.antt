use Rattle.std.proofs.Common.{◌≡◌, ◌+◌, ◌*◌, ◌&&◌, ◌||◌, not, cond, take, Some, None, List, ℕ, Bool, IsNone, refl, sym, ap, ◌∙◌, subst, arith}
use Rattle.btr_scrub_row.proofs.Common.{Slice, is_checked, is_plain, option_map_or, pasted, size_of, sought_of}
use Rattle.btr_scrub_row.specs.Memory.{IsPiece}
use Rattle.btr_scrub_row.proofs.Held.{held, is_block, lies_at, piece_is}
use Rattle.btr_scrub_row.proofs.Settled.{length-writes, length-wrong, long_is, lost_is, sure_is}
use Rattle.btr_scrub_row.proofs.BlockWrites.{own_range}
use Rattle.btr_scrub_row.proofs.judging.judge_block.Goals as goal

pub settle-settled-requires-clause-piece : goal.settle-settled-requires-clause-piece
settle-settled-requires-clause-piece c =
    piece_is c.args.view.now c.requires.view c.args.want.now c.requires.within c.piece_of-piece.result c.piece_of-piece.ensures

-- what is given is pasted
pasted_as : (bytes block : List ℕ) (at : ℕ) (n : ℕ) (b : Bool) → cond b (pasted bytes at (take n block)) bytes
    ≡ option_map_or (pasted bytes at) (cond b (Some (take n block)) None) bytes
pasted_as bytes block at n b = grind arith

pub returns-clause-verdict : goal.returns-clause-verdict
returns-clause-verdict c = λ images row t of knows holds e.
    let layout = c.args.view.now.store.now.layout in
    let piece = c.piece_of-piece.result in
    let settled = c.settle-settled.result in
    let b = is_block c.requires.within of e c.piece_of-piece.ensures in
    let p = b.placed in
    let h = held b images c.args.view.now.old.now holds in
    let block = c.settle-settled.new.block in
    let is = c.settle-settled.ensures images row t e (lies_at b) knows h in
    let v = c.verdict_of.ensures in
    let new = c.args.new.now in
    let range = own_range b in
    let want_is = (sought_of layout c.args.want.now t e).want_is in
    let checked : c.verdict_of.result.checked ≡ is_checked t = v.checked_is ∙ ap not (c.is_plain.ensures ∙ ap is_plain (sym want_is)) in
    record {
      parity = h.block.parity;
      index = h.block.position.index;
      inside = p.inside;
      stand = h.block.stand (Slice t.at.index) (subst IsNone (sym h.block.parity) refl, h.block.position.index);
      long = long_is images row t block settled is (omega (arith, c.settle-settled.auto.block, c.requires.block, p.inside));
      piece = subst (IsPiece t) (sym v.piece_is) h.place;
      checked = checked;
      wrong = length-wrong images row t block settled is ∙ ap (λ b. cond (not b) 1 0) (sym v.good);
      mends = length-writes images row t block settled is range.0 range.1
          ∙ ap (λ b. cond (not b && settled.given) 1 0) (sym v.good)
          ∙ ap (λ b. cond (not c.verdict_of.result.good && b) 1 0) (sym v.given_is);
      lost = lost_is images row t block settled is ∙ ap (λ b. b && not settled.given) (sym checked)
          ∙ ap (λ b. c.verdict_of.result.checked && not b) (sym v.given_is);
      sure = v.sure ∙ ap (λ b. settled.given || not b && c.is_surer-surer.result) (sym v.checked_is ∙ checked)
          ∙ ap (λ b. settled.given || not (is_checked t) && b) c.is_surer-surer.ensures
          ∙ sure_is images row t block settled is layout piece c.args.view.now.wanted.doubts (lies_at b) knows;
      pasted_is = c.paste.ensures
          ∙ ap (λ at. cond settled.given (pasted new at (take piece.len block)) new)
          (c.start.ensures ∙ ap (λ i. i * 65536 + piece.rest) p.index ∙ ap (λ r. t.at.index * 65536 + r) p.rest)
          ∙ ap (λ n. cond settled.given (pasted new (t.at.index * 65536 + t.at.rest) (take n block)) new) p.len
          ∙ pasted_as new block (t.at.index * 65536 + t.at.rest) (size_of t) settled.given
          ∙ ap (λ o. option_map_or (pasted new (t.at.index * 65536 + t.at.rest)) o new) (sym is.gets);
    }

pub returns-clause-inside : goal.returns-clause-inside
returns-clause-inside c =
    let w = c.requires.within in
    let p = c.piece_of-piece.ensures w.target w.is_sought in
    let v = c.verdict_of.ensures in
    omega (arith, ap (λ s. s.rest) v.piece_is, ap (λ s. s.len) v.piece_is, p.rest, p.len, p.inside)
