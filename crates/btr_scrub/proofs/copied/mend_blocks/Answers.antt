use Rattle.std.proofs.Common.{◌≡◌, Bool, List, Result, ◌+◌, true, false, not, sym, ap, ◌∙◌, subst, refl}
use Rattle.btr_scrub.proofs.Common.{Chunk, Failing, Layout, MendFault, Scrubs, Seen, Tally, Target, alone, and_parts, count_site, flagged, has_behind, is_plain}
use Rattle.btr_scrub.proofs.Common.{mending_writes, mirrors, not-true, same_Some, same_loans_then, serving, sites_count, sites_writes, targets}
use Rattle.btr_scrub.proofs.Blockwise.{chunk_mended, have_lengths, next_block, next_copied, past_chunk, underway_cut, underway_first, underway_more}
use Rattle.btr_scrub.proofs.Passing.{passed_if, settled}
use Rattle.btr_scrub.proofs.Scrubbing.{scrubs_passed}
use Rattle.btr_scrub.proofs.copied.mend_blocks.Goals as goal
use Rattle.btr_scrub.proofs.Lists.{some_of}

-- what was done for a block in its chunk was done in one that is the same
site_scrubs : (fails : Failing) (layout : Layout) (t : Target) {write : Bool} {chunk : Chunk} {m n : List Bool} {a b : Seen} {u w : Tally}
    {r : Result (Unit {0}) MendFault} → t.chunk ≡ chunk → Scrubs (alone layout t.chunk) write (λ images. mending_writes images fails t)
    (λ images x. count_site fails images write x t) m n a b u w r → Scrubs (alone layout chunk) write (λ images. mending_writes images fails t)
    (λ images x. count_site fails images write x t) m n a b u w r
site_scrubs fails layout t {write} {m = m} {n} {a} {b} {u} {w} {r} mine one =
    subst (λ k. Scrubs (alone layout k) write (λ images. mending_writes images fails t) (λ images x. count_site fails images write x t) m n a b u w r) mine one

pub loop-want-init : goal.loop-want-init
loop-want-init g c = record {
  ready = c.requires.ready;
  loans = record { layout = refl; loans = refl };
  underway = λ chunk there. underway_first (flagged c.args.task.how.failing.now) c.args.store.now.layout c.args.task.how.write chunk c.args.blocks.now
      c.args.progress.now.marks.items (g.R.Rack.seen c.args.rack.now) c.args.progress.now.tally (rw there at c.requires.chunk).1;
}

pub mend_site-requires-clause-copied : goal.mend_site-requires-clause-copied
mend_site-requires-clause-copied g c =
    let layout = c.args.store.now.layout in
    let chunk = c.at-chunk.result.now in
    let there = rw c.chunks.ensures at c.at-chunk.ensures.chunk in
    let h = c.loop-want.invariant.underway chunk there in
    let next = next_block layout c.requires.ready.table c.args.task.number chunk there h.end c.in-Some.want c.next_below.new.blocks h.from
    (rw c.in-Some.ensures.0 at h.apart) c.in-Some.ensures.1 in
    rw c.loop-want.invariant.loans.layout (next_copied layout c.requires.ready.table chunk h.end c.in-Some.want c.next_below.new.blocks
    (rw there at c.requires.chunk).0 c.requires.ready.given next)

pub loop-want-preserved : goal.loop-want-preserved
loop-want-preserved g c = record {
  ready = c.in_ok-mend_site.ensures.ready;
  loans = same_loans_then c.args.store.now c.loop-want.store c.mend_site.new.store c.loop-want.invariant.loans c.in_ok-mend_site.ensures.loans;
  underway = λ chunk there.
      let layout = c.args.store.now.layout in
      let copies = (rw there at c.requires.chunk).0 in
      let same = same_Some c.at-chunk.result.now chunk (sym (rw c.chunks.ensures at c.at-chunk.ensures.chunk) ∙ there) in
      let h = c.loop-want.invariant.underway chunk there in
      let next = next_block layout c.requires.ready.table c.args.task.number chunk there h.end c.in-Some.want c.next_below.new.blocks h.from
      (rw c.in-Some.ensures.0 at h.apart) (rw same at c.in-Some.ensures.1) in
      let own = (serving (g.R.Rack.seen c.args.rack.now) c.args.store.now c.requires.ready.serves).own_slots in
      let lengths = have_lengths (g.R.Rack.seen c.args.rack.now) c.args.store.now (g.met.R.Rack.sound c.args.rack.now) c.requires.ready.serves in
      let fails = flagged c.args.task.how.failing.now in
      let one = site_scrubs fails layout next.target next.mine
      ((rw c.loop-want.invariant.loans.layout at c.in_ok-mend_site.ensures.scrubs) next.target next.is_sought) in
      let write = c.args.task.how.write in
      let n = some_of (mirrors chunk) copies in
      let inert : not c.has_behind-behind.result ≡ true → has_behind layout.devices fails chunk ≡ false =
      λ e. ap (has_behind layout.devices fails) (sym same) ∙ sym c.has_behind-behind.ensures ∙ not-true c.has_behind-behind.result e in
      passed_if (underway_more h c.requires.ready.table c.args.task.number there own copies lengths c.in-Some.ensures.0 next one)
      c.requires.ready.table c.args.task.number there n.0 n.1 own lengths c.is_inert.result c.pass_if.new.blocks
      (c.at-chunk.result.now.start + c.at-chunk.result.now.length)
      (λ e.
      let both = and_parts (is_plain c.in-Some.want) (not c.has_behind-behind.result) (sym c.is_inert.ensures ∙ e) in (
        inert both.1,
        settled fails layout write c.requires.ready.table c.args.task.number chunk there n.0 n.1 (inert both.1) h.end c.in-Some.want
            c.next_below.new.blocks next both.0 (sites_writes fails (targets layout h.past)) (sites_count fails write (targets layout h.past))
            c.args.progress.now.marks.items c.loop-want.progress.marks.items c.mend_site.new.progress.marks.items (g.R.Rack.seen c.args.rack.now)
            (g.R.Rack.seen c.loop-want.rack) (g.R.Rack.seen c.mend_site.new.rack) c.args.progress.now.tally c.loop-want.progress.tally
            c.mend_site.new.progress.tally h.done one,
      )) (ap (λ (k : Chunk). k.start + k.length) same) c.pass_if.ensures;
}

pub returns-in_err-mend_site-clause-scrubs : goal.returns-in_err-mend_site-clause-scrubs
returns-in_err-mend_site-clause-scrubs g c chunk there =
    let same = same_Some c.at-chunk.result.now chunk (sym (rw c.chunks.ensures at c.at-chunk.ensures.chunk) ∙ there) in
    let h = c.loop-want.invariant.underway chunk there in
    let next = next_block c.args.store.now.layout c.requires.ready.table c.args.task.number chunk there h.end c.in-Some.want c.next_below.new.blocks h.from
    (rw c.in-Some.ensures.0 at h.apart) (rw same at c.in-Some.ensures.1) in
    scrubs_passed c.from_residual.ensures.1 (underway_cut h c.requires.ready.table c.args.task.number there
    (serving (g.R.Rack.seen c.args.rack.now) c.args.store.now c.requires.ready.serves).own_slots (rw there at c.requires.chunk).0
    (have_lengths (g.R.Rack.seen c.args.rack.now) c.args.store.now (g.met.R.Rack.sound c.args.rack.now) c.requires.ready.serves) c.in-Some.ensures.0
    next c.in_err-mend_site.field-0.0
    (site_scrubs (flagged c.args.task.how.failing.now) c.args.store.now.layout next.target next.mine
    ((rw c.loop-want.invariant.loans.layout at c.in_err-mend_site.ensures.scrubs) next.target next.is_sought)))

pub returns-clause-past : goal.returns-clause-past
returns-clause-past g c chunk there =
    let same = same_Some c.at-chunk.result.now chunk (sym (rw c.chunks.ensures at c.at-chunk.ensures.chunk) ∙ there) in
    rw c.in_default.ensures.0 (past_chunk (c.loop-want.invariant.underway chunk there) (rw same at c.in_default.ensures.1))

pub returns-clause-scrubs : goal.returns-clause-scrubs
returns-clause-scrubs g c chunk there =
    chunk_mended (c.loop-want.invariant.underway chunk there) c.requires.ready.table c.args.task.number there c.loop-want.blocks
    (rw c.in_default.ensures.0 at (returns-clause-past g c chunk there)) refl
