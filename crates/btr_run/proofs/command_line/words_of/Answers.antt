use Rattle.std.proofs.Common.{map, ◌∷◌, [], subst, sym, ap, ◌∙◌, ◌+◌}
use Rattle.std.specs.String.{string_bytes}
use Rattle.std.proofs.lemmas.List.{map-append}
use Rattle.btr_run.specs.CommandLine.{IsWord}
use Rattle.btr_run.proofs.Texts.{AreReadOf, all_read, none_read, one_read}
use Rattle.btr_run.proofs.command_line.words_of.Goals as goal

pub loop-number-init : goal.loop-number-init
loop-number-init g c =
    subst (λ l. AreReadOf (g.W.CommandLine.told c.args.line.now) (map string_bytes l) 0) (sym c.new-words.ensures.items)
    (none_read (g.W.CommandLine.told c.args.line.now))

pub loop-number-preserved : goal.loop-number-preserved
loop-number-preserved g c =
    let told = g.W.CommandLine.told c.args.line.now in
    subst (λ l. AreReadOf told l (c.loop-number.number + 1))
    (sym (map-append string_bytes c.loop-number.words.items (c.text_of.result ∷ [])) ∙ sym (ap (map string_bytes) c.in_ok-push-in-Some.ensures.items))
    (one_read told (map string_bytes c.loop-number.words.items) c.loop-number.number c.in-Some.bytes.items
    (string_bytes c.text_of.result) c.loop-number.invariant
    (subst (IsWord told c.loop-number.number) c.in-Some.is c.in_ok-bytes.ensures) c.text_of.ensures)

pub returns-in-None : goal.returns-in-None
returns-in-None g c =
    let told = g.W.CommandLine.told c.args.line.now in
    all_read told (map string_bytes c.loop-number.words.items) c.loop-number.number c.loop-number.invariant
    (subst (IsWord told c.loop-number.number) c.in-None.is c.in_ok-bytes.ensures)
