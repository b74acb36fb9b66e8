use Rattle.std.proofs.Common.{length, drop, ◌∙◌}
use Rattle.btr_scrub_row.proofs.Common.{AreJudged, telling}
use Rattle.std.proofs.lemmas.List.{take_at}
use Rattle.btr_scrub_row.proofs.Prepared.{knows_p, knows_q}
use Rattle.btr_scrub_row.proofs.preparing.prepare.Goals as goal

pub returns-clause-prepared : goal.returns-clause-prepared
returns-clause-prepared g c = λ images row is wanted.
    let of = wanted.of in
    let buffer = c.args.buffer.now in
    let read = c.read_row.new.bytes in
    let same_old = take_at read (drop (length read) buffer.elements.items) buffer.elements.len (c.read_row.auto.bytes ∙ c.deref_mut.ensures.len) in
    let holds = telling _ _ c.in_ok-read_row.ensures.bytes images is row of in
    let made = c.judge-judged.new.new in
    let same_new = take_at made (drop (length made) buffer.slices.items) buffer.slices.len (c.judge-judged.auto.new ∙ c.deref_mut-2.ensures.len) in
    let are = c.judge-judged.ensures images row wanted (rw (c.deref.ensures.value, same_old) holds) in
    let p = c.make_parities.new.p in
    let same_p = take_at p (drop (length p) buffer.p.items) buffer.p.len (c.make_parities.auto.p ∙ c.deref_mut-5.ensures.len) in
    let q = c.make_parities.new.q in
    let same_q = take_at q (drop (length q) buffer.q.items) buffer.q.len (c.make_parities.auto.q ∙ c.deref_mut-6.ensures.len) in
    let are' : AreJudged images c.args.store.now.layout row row.blocks c.deref-2.result.now c.judge-judged.result =
    rw (c.deref-2.ensures.value, same_new) are in
    record {
      holds = rw same_old holds;
      blocks = rw same_new are;
      p = rw same_p (rw same_old (knows_p images c.args.store.now.layout c.args.wanted.now.stripe row of read _ _ holds are' p c.make_parities.ensures.p));
      q = λ six. rw same_q (rw same_old (knows_q images c.args.store.now.layout c.args.wanted.now.stripe row of read _ _ holds are' q six
          (c.make_parities.ensures.q (of.shape.profile ∙ six))));
    }
