use Rattle.std.proofs.Common.{◌∙◌, sym, ap}
use Rattle.std.proofs.lemmas.List.{take_rest}
use Rattle.btr_base.specs.Xxh64.{lane}
use Rattle.btr_base.specs.declared.xxhash.Lanes.{Lanes}
use Rattle.btr_base.proofs.Hashing.{lane_more, lane_none}
use Rattle.btr_base.proofs.xxhash.lanes_of.Goals as goal

pub loop-rest-init : goal.loop-rest-init
loop-rest-init c =
    let bytes = c.args.bytes.now in
    let new = c.new-lanes.ensures in
    record {
      first = ap (λ (lanes : Lanes). lane lanes.first 0 bytes) new;
      second = ap (λ (lanes : Lanes). lane lanes.second 8 bytes) new;
      third = ap (λ (lanes : Lanes). lane lanes.third 16 bytes) new;
      fourth = ap (λ (lanes : Lanes). lane lanes.fourth 24 bytes) new;
    }

pub loop-rest-preserved : goal.loop-rest-preserved
loop-rest-preserved c =
    let rest = c.loop-rest.rest.now in
    let lanes = c.loop-rest.lanes in
    let before = c.loop-rest.invariant in
    let wide = c.loop-rest-test.true in
    let with = c.with-lanes.ensures in
    let left = take_rest rest 32 in
    record {
      first = (λ i. lane ((with i).first) 0 (left i)) ∙ sym (lane_more lanes.first 0 rest wide) ∙ before.first;
      second = (λ i. lane ((with i).second) 8 (left i)) ∙ sym (lane_more lanes.second 8 rest wide) ∙ before.second;
      third = (λ i. lane ((with i).third) 16 (left i)) ∙ sym (lane_more lanes.third 16 rest wide) ∙ before.third;
      fourth = (λ i. lane ((with i).fourth) 24 (left i)) ∙ sym (lane_more lanes.fourth 24 rest wide) ∙ before.fourth;
    }

pub returns : goal.returns
returns c =
    let rest = c.loop-rest.rest.now in
    let lanes = c.loop-rest.lanes in
    let before = c.loop-rest.invariant in
    let few = c.loop-rest-test.false in
    λ i. record {
      first = (sym (lane_none lanes.first 0 rest few) ∙ before.first) i;
      second = (sym (lane_none lanes.second 8 rest few) ∙ before.second) i;
      third = (sym (lane_none lanes.third 16 rest few) ∙ before.third) i;
      fourth = (sym (lane_none lanes.fourth 24 rest few) ∙ before.fourth) i;
    }
