use Rattle.std.proofs.Common.{◌≡◌, ℕ, ◌<◌, Bool, true, false, not, length, sym, ap, ◌∙◌, arith, rules}
use Rattle.btr_scrub_row.proofs.Common.{Candidate, Doubts, KnowsDoubts, Layout, LiesAt, Row, SlicePiece, Target, filter, is_trusted, take_all, ways}
use Rattle.btr_scrub_row.specs.Memory.{IsWayCount, IsWayOf, reads_flagged}
use Rattle.btr_scrub_row.proofs.Accepted.{in_count, length-ways, parts_are, q_is, way_is, way_stands}
use Rattle.btr_scrub_row.proofs.Doubting.{first_of_ways, no_way, none_more, reads_at, trusted_where}
use Rattle.btr_scrub_row.proofs.freshening.first_trusted.Goals as goal

-- a way is trusted where no element that it reads is flagged
way_trusted : {layout : Layout} {row : Row} {t : Target} {piece : SlicePiece} {doubts : Doubts} {n k : ℕ} {way : Candidate} (b : Bool)
    → LiesAt layout row t piece → KnowsDoubts layout row doubts → IsWayCount piece n → k < n → IsWayOf piece.index k way
    → reads_flagged doubts.doubtful piece.shape.slices piece.index way ≡ b → is_trusted row.failing t way ≡ not b
way_trusted {way = way} b lies knows count below at reads =
    trusted_where lies knows way b (way_stands lies.sited count below at lies.stand)
    (sym (reads_at lies knows way (parts_are lies.sited count below at) (q_is lies.sited count below at)) ∙ reads)

pub returns-then-not-reads_flagged-clause-first : goal.returns-then-not-reads_flagged-clause-first
returns-then-not-reads_flagged-clause-first c = λ row t e lies knows.
    let count = c.way_count-k-end.ensures in
    let no_flag : c.reads_flagged.result ≡ false = search rules in
    first_of_ways lies knows c.way_of-way.result c.loop-k.k (way_is lies.sited count c.loop-k-test.true c.way_of-way.ensures)
    (c.loop-k.invariant row t e lies knows)
    (way_trusted false lies knows count c.loop-k-test.true c.way_of-way.ensures (sym c.reads_flagged.ensures ∙ no_flag))

pub returns-then-not-reads_flagged-clause-parts : goal.returns-then-not-reads_flagged-clause-parts
returns-then-not-reads_flagged-clause-parts c =
    c.way_of-way.ensures.parts c.args.piece.now.shape.slices c.requires.index
    (in_count c.loop-k.k c.way_count-k-end.ensures (omega (arith, c.requires.index)) c.loop-k-test.true)

pub loop-k-preserved : goal.loop-k-preserved
loop-k-preserved c = λ row t e lies knows.
    let count = c.way_count-k-end.ensures in
    let flag : c.reads_flagged.result ≡ true = search rules in
    none_more (is_trusted row.failing t) (ways t) c.loop-k.k c.way_of-way.result (way_is lies.sited count c.loop-k-test.true c.way_of-way.ensures)
    (c.loop-k.invariant row t e lies knows)
    (way_trusted true lies knows count c.loop-k-test.true c.way_of-way.ensures (sym c.reads_flagged.ensures ∙ flag))

pub returns-clause-first : goal.returns-clause-first
returns-clause-first c = λ row t e lies knows.
    let long : length (ways t) ≡ c.way_count-k-end.result = length-ways lies.sited c.way_count-k-end.ensures in
    no_way lies knows (ap (filter (is_trusted row.failing t)) (sym (take_all c.loop-k.k (ways t) (omega (arith, long, c.loop-k-test.false))))
    ∙ c.loop-k.invariant row t e lies knows)
