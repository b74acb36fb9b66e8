use Rattle.std.proofs.Common.{◌++◌, ap, codes}
use Rattle.btr_run.specs.Text.{ids_text, name_text, roots_text, sizes_text, bits_text, super_text}
use Rattle.btr_text.proofs.Writing.{wrote_then, wrote_as, cut_then, cut_longer, cut_as, cut_puts, wrote_put}
use Rattle.btr_run.proofs.text.put_super.Goals as goal

pub returns-in_err-push_all-clause-text : goal.returns-in_err-push_all-clause-text
unfolding super_text
returns-in_err-push_all-clause-text g c =
    let s = c.args.s.now in
    cut_puts c.from_residual.result c.from_residual.ensures.0 c.new-text.ensures
    (cut_longer (bits_text s) (cut_longer (sizes_text s)
    (cut_longer (roots_text s) (cut_longer (name_text s.label) (cut_as (ids_text c.args.slot s) c.ids.ensures c.in_err-push_all.ensures.text)))))

pub returns-in_err-push_all-2-clause-text : goal.returns-in_err-push_all-2-clause-text
unfolding super_text
returns-in_err-push_all-2-clause-text g c =
    let s = c.args.s.now in
    let ids = wrote_as (ids_text c.args.slot s) c.ids.ensures c.in_ok-push_all.ensures.text in
    let name = ap (λ l. codes "\nlabel [" ++ l ++ codes "]") c.label_of.ensures in
    cut_puts c.from_residual-in_err-push_all-2.result c.from_residual-in_err-push_all-2.ensures.0 c.new-text.ensures
    (cut_longer (bits_text s) (cut_longer (sizes_text s)
    (cut_longer (roots_text s) (cut_then ids (cut_as (name_text s.label) name c.in_err-push_all-2.ensures.text)))))

pub returns-in_err-push_all-3-clause-text : goal.returns-in_err-push_all-3-clause-text
unfolding super_text
returns-in_err-push_all-3-clause-text g c =
    let s = c.args.s.now in
    let ids = wrote_as (ids_text c.args.slot s) c.ids.ensures c.in_ok-push_all.ensures.text in
    let name = wrote_as (name_text s.label) (ap (λ l. codes "\nlabel [" ++ l ++ codes "]") c.label_of.ensures) c.in_ok-push_all-2.ensures.text in
    cut_puts c.from_residual-in_err-push_all-3.result c.from_residual-in_err-push_all-3.ensures.0 c.new-text.ensures
    (cut_longer (bits_text s) (cut_longer (sizes_text s)
    (cut_then (wrote_then ids name) (cut_as (roots_text s) c.roots.ensures c.in_err-push_all-3.ensures.text))))

pub returns-in_err-push_all-4-clause-text : goal.returns-in_err-push_all-4-clause-text
unfolding super_text
returns-in_err-push_all-4-clause-text g c =
    let s = c.args.s.now in
    let ids = wrote_as (ids_text c.args.slot s) c.ids.ensures c.in_ok-push_all.ensures.text in
    let name = wrote_as (name_text s.label) (ap (λ l. codes "\nlabel [" ++ l ++ codes "]") c.label_of.ensures) c.in_ok-push_all-2.ensures.text in
    let roots = wrote_as (roots_text s) c.roots.ensures c.in_ok-push_all-3.ensures.text in
    cut_puts c.from_residual-in_err-push_all-4.result c.from_residual-in_err-push_all-4.ensures.0 c.new-text.ensures
    (cut_longer (bits_text s) (cut_then (wrote_then (wrote_then ids name) roots) (cut_as (sizes_text s) c.sizes.ensures c.in_err-push_all-4.ensures.text)))

pub returns-in_err-push_all-5-clause-text : goal.returns-in_err-push_all-5-clause-text
unfolding super_text
returns-in_err-push_all-5-clause-text g c =
    let s = c.args.s.now in
    let ids = wrote_as (ids_text c.args.slot s) c.ids.ensures c.in_ok-push_all.ensures.text in
    let name = wrote_as (name_text s.label) (ap (λ l. codes "\nlabel [" ++ l ++ codes "]") c.label_of.ensures) c.in_ok-push_all-2.ensures.text in
    let roots = wrote_as (roots_text s) c.roots.ensures c.in_ok-push_all-3.ensures.text in
    let sizes = wrote_as (sizes_text s) c.sizes.ensures c.in_ok-push_all-4.ensures.text in
    cut_puts c.from_residual-in_err-push_all-5.result c.from_residual-in_err-push_all-5.ensures.0 c.new-text.ensures
    (cut_then (wrote_then (wrote_then (wrote_then ids name) roots) sizes) (cut_as (bits_text s) c.bits.ensures c.in_err-push_all-5.ensures.text))

pub returns-clause-text : goal.returns-clause-text
unfolding super_text
returns-clause-text g c =
    let s = c.args.s.now in
    let ids = wrote_as (ids_text c.args.slot s) c.ids.ensures c.in_ok-push_all.ensures.text in
    let name = wrote_as (name_text s.label) (ap (λ l. codes "\nlabel [" ++ l ++ codes "]") c.label_of.ensures) c.in_ok-push_all-2.ensures.text in
    let roots = wrote_as (roots_text s) c.roots.ensures c.in_ok-push_all-3.ensures.text in
    let sizes = wrote_as (sizes_text s) c.sizes.ensures c.in_ok-push_all-4.ensures.text in
    let bits = wrote_as (bits_text s) c.bits.ensures c.in_ok-push_all-5.ensures.text in
    wrote_put (g.O.Out.text c.flush.new.out) c.flush.result c.new-text.ensures
    (wrote_then (wrote_then (wrote_then (wrote_then ids name) roots) sizes) bits) c.flush.ensures.text
