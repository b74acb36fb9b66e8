use Rattle.std.proofs.Common.{refl}
use Rattle.btr_scrub.proofs.Common.{err_from_is_err_and, units_in}
use Rattle.btr_scrub.proofs.Sieved.{nothing_is, nothing_listed, sifted_all, sifted_none}
use Rattle.btr_scrub.proofs.units.sift_blocks.Goals as goal

pub returns : goal.returns
returns g c =
    let vol = c.args.vol.now in
    let a = g.R.Rack.seen c.args.rack.now in
    let whole = nothing_listed c.kind_of.result in
    let s = c.in_ok-sift_all.ensures.sieves whole
    (c.new_sieve-sieve.ensures.stands vol.store.layout a.held whole refl (nothing_is c.kind_of.result) refl refl
    (c.new_sieve-sieve.ensures.can vol.store.layout c.requires.nodesize c.requires.rooms)) in
    record {
      ready = c.in_ok-sift_all.ensures.ready;
      reads = s.reads;
      volume = s.volume;
      sifts = sifted_all (units_in vol.sup vol.store.layout.chunks) a (g.R.Rack.seen c.sift_all.new.rack) vol c.sift_all.new.vol c.kind_of.result
          c.sift_all.new.sieve s;
    }

pub returns-in_err-sift_all : goal.returns-in_err-sift_all
returns-in_err-sift_all g c =
    let vol = c.args.vol.now in
    let a = g.R.Rack.seen c.args.rack.now in
    let whole = nothing_listed c.kind_of.result in
    let s = c.in_err-sift_all.ensures.sieves whole
    (c.new_sieve-sieve.ensures.stands vol.store.layout a.held whole refl (nothing_is c.kind_of.result) refl refl
    (c.new_sieve-sieve.ensures.can vol.store.layout c.requires.nodesize c.requires.rooms)) in
    let p = err_from_is_err_and c.from_residual.result c.from_residual.ensures.1 in
    record {
      ready = c.in_err-sift_all.ensures.ready;
      reads = s.reads;
      volume = s.volume;
      sifts = rw (p.1, p.2) (sifted_none (units_in vol.sup vol.store.layout.chunks) a (g.R.Rack.seen c.sift_all.new.rack) vol c.sift_all.new.vol
          c.kind_of.result c.sift_all.new.sieve c.in_err-sift_all.field-0.0 s);
    }

pub sift_all-requires-clause-can : goal.sift_all-requires-clause-can
sift_all-requires-clause-can g c = c.new_sieve-sieve.ensures.can c.args.vol.now.store.layout c.requires.nodesize c.requires.rooms
