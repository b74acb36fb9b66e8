-- the key in the bytes behind a place
use Rattle.std.proofs.Common.{◌≡◌, ◌∙◌, ℕ, List, drop, ap}
use Rattle.std.proofs.lemmas.List.{get_or-drop, drop-drop, take_rest}
use Rattle.btr_base.specs.Field.{number_at}
use Rattle.btr_base.specs.Key.{key_at}
use Rattle.btr_items.proofs.field.key_at.Goals as goal

behind : (at : ℕ) (body : List ℕ) → key_at 0 (drop at body) ≡ key_at at body
behind at body = λ i. record {
  objectid = number_at 8 at body;
  kind = get_or-drop at body 8 0 i;
  offset = ap (number_at 8 0) (drop-drop 9 at body) i;
}

pub returns : goal.returns
returns c = c.read.ensures ∙ ap (key_at 0) (take_rest c.args.body.now c.args.at) ∙ behind c.args.at c.args.body.now
