use Rattle.std.proofs.Common.{◌≡◌, ◌≢◌, ℕ, ◌+◌, ◌*◌, ◌-◌, ◌≤◌, List, length, take, drop, slice_range, sym, ap, ◌∙◌, arith, length-take, length-drop}
use Rattle.btr_scrub_row.proofs.Common.{element_in, pasted}
use borrow.Rule.Slice.PartMut.{put_mid}
use Rattle.btr_scrub_row.proofs.Elements.{is_at, its_element, lies, open_at}
use Rattle.btr_scrub_row.proofs.Pasted.{element_other, put_is, range_pasted}
use Rattle.btr_scrub_row.proofs.reading.read_element.Goals as goal

-- the piece that is read is as long as an element
piece_long : (n : ℕ) (xs : List ℕ) → (n + 1) * 65536 ≤ length xs → length (take (n * 65536 + 65536 - n * 65536) (drop (n * 65536) xs)) ≡ 65536
piece_long n xs room = omega (arith, length-take (n * 65536 + 65536 - n * 65536) (drop (n * 65536) xs), length-drop (n * 65536) xs, room)

-- the other elements stay
others_stay : (n e : ℕ) (xs w : List ℕ) → (n + 1) * 65536 ≤ length xs → length w ≡ 65536 → e ≢ n
    → element_in (put_mid (n * 65536) (n * 65536 + 65536 - n * 65536) xs w) e ≡ element_in xs e
others_stay n e xs w room long ne =
    let zero_more : n * 65536 ≡ n * 65536 + 0 = omega arith in
    ap (λ ys. element_in ys e) (put_is xs w (n * 65536) (n * 65536 + 65536 - n * 65536) (omega (arith, long)) ∙ ap (λ a. pasted xs a w) zero_more)
    ∙ element_other xs n 0 e w (omega (arith, room, long)) (omega (arith, long)) ne

-- the element is what was read
is_read : (n : ℕ) (xs w : List ℕ) → (n + 1) * 65536 ≤ length xs → length w ≡ 65536 → element_in (put_mid (n * 65536) (n * 65536 + 65536 - n * 65536) xs w) n ≡ w
is_read n xs w room long =
    ap (λ ys. element_in ys n) (put_is xs w (n * 65536) (n * 65536 + 65536 - n * 65536) (omega (arith, long)))
    ∙ ap (λ m. slice_range (pasted xs (n * 65536) w) (n * 65536) (n * 65536 + m)) (sym long)
    ∙ range_pasted xs (n * 65536) w (omega (arith, room, long))

pub read_at-requires-clause-open : goal.read_at-requires-clause-open
read_at-requires-clause-open g c =
    let s = c.requires.stripe in
    let el = its_element s.of c.args.part (c.requires.part s.row s.of) in
    let at = is_at el (lies el) c.place_of_part-place.result (c.place_of_part-place.ensures s.row s.of) in
    let there = open_at el (lies el) (g.R.Rack.seen c.args.rack.now).slots c.requires.open in
    omega (arith, at.slot, there.0)

pub returns-in-Ok-clause-others : goal.returns-in-Ok-clause-others
returns-in-Ok-clause-others g c = λ e ne. others_stay c.args.number e c.args.bytes.now c.read_at.new.buf c.requires.room
    (c.read_at.auto.buf ∙ piece_long c.args.number c.args.bytes.now c.requires.room) ne

pub returns-in-Err-Failed-clause-others : goal.returns-in-Err-Failed-clause-others
returns-in-Err-Failed-clause-others g c = λ e ne. others_stay c.args.number e c.args.bytes.now c.read_at.new.buf c.requires.room
    (c.read_at.auto.buf ∙ piece_long c.args.number c.args.bytes.now c.requires.room) ne
