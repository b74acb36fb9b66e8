use Rattle.std.proofs.Common.{◌∙◌, map, sym, ap, subst}
use Rattle.std.specs.String.{string_bytes}
use Rattle.btr_rack.specs.Sink.{is_in_file}
use Rattle.btr_run.specs.Commands.{IsFit, opens_to_write}
use Rattle.btr_run.specs.Run.{IsPerformed}
use Rattle.btr_run.specs.declared.plan.Command.TheVariants.{Super, Check, Scrub}
use Rattle.btr_run.proofs.Performing.{query_performed, scrub_writes, shown}
use Rattle.btr_run.proofs.commands.perform.Goals as goal

pub returns-in-Super : goal.returns-in-Super
returns-in-Super g c =
    let s = c.show_newest.ensures in
    subst (IsPerformed _) (sym c.in-Super.is)
    (shown _ _ _ _ _ _ Super (g.met.T.TreeSink.settled c.args.tree.now (ap is_in_file c.requires.fresh)) (λ scarce. scarce) (λ query is. absurd (cc is))
    s.effect s.told s.agreed s.cause (λ is. absurd (cc is)))

pub ask-requires-clause-fit : goal.ask-requires-clause-fit
ask-requires-clause-fit g c = subst (λ command. IsFit command (map string_bytes c.args.words.now)) c.in-Ask.is c.requires.fit

pub returns-in-Ask : goal.returns-in-Ask
returns-in-Ask g c = subst (IsPerformed _) (sym c.in-Ask.is) (query_performed _ c.in-Ask.query c.ask.ensures)

pub returns-in-Check : goal.returns-in-Check
returns-in-Check g c =
    let s = c.show_findings.ensures in
    subst (IsPerformed _) (sym c.in-Check.is)
    (shown _ _ _ _ _ _ (Check c.in-Check.read_data) (g.met.T.TreeSink.settled c.args.tree.now (ap is_in_file c.requires.fresh)) (λ scarce. scarce)
    (λ query is. absurd (cc is)) s.effect s.told s.agreed s.cause (λ is. absurd (cc is)))

pub scrub_images-requires-clause-writable : goal.scrub_images-requires-clause-writable
scrub_images-requires-clause-writable g c = λ is. c.requires.writable (ap opens_to_write c.in-Scrub.is ∙ is)

pub returns-in-Scrub : goal.returns-in-Scrub
returns-in-Scrub g c =
    let s = c.scrub_images.ensures.shows in
    subst (IsPerformed _) (sym c.in-Scrub.is)
    (shown _ _ _ _ _ _ (Scrub c.in-Scrub.write) (g.met.T.TreeSink.settled c.args.tree.now (ap is_in_file c.requires.fresh)) (λ scarce. scarce)
    (λ query is. absurd (cc is)) s.effect s.told s.agreed s.cause (λ is. c.scrub_images.ensures.leaves (scrub_writes c.in-Scrub.write is)))
