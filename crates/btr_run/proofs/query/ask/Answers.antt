use Rattle.std.proofs.Common.{ℕ, ◌<◌, List, String, [], get_or, length, map, refl, sym, ap, subst, arith}
use Rattle.std.specs.String.{string_bytes}
use Rattle.std.specs.declared.alloc.Global.{Global}
use Rattle.std.proofs.lemmas.List.{length-map}
use Rattle.btr_rack.specs.Sink.{is_in_file}
use Rattle.btr_send.specs.Names.{IsStreamName}
use Rattle.btr_run.specs.Queries.{IsQueryFit}
use Rattle.btr_run.specs.Run.{IsAsked}
use Rattle.btr_run.specs.Queries.Salvaged.{salvage_row}
use Rattle.btr_run.specs.Queries.Sent.{send_row}
use Rattle.btr_run.specs.declared.query.Query.TheVariants.{Dump, Resolve, Salvage, Send}
use Rattle.btr_run.proofs.Causing.{name_at}
use Rattle.btr_run.proofs.Performing.{asked, by_word, restore_asked}
use Rattle.btr_run.proofs.query.ask.Goals as goal

-- a word that is there by its bytes
there : (words : List (String Global)) (number : ℕ) → number < length (map string_bytes words) → number < length words
there words number lt = omega (arith, lt, length-map words string_bytes)

pub returns-in-Dump : goal.returns-in-Dump
returns-in-Dump g c =
    subst (IsAsked _) (sym c.in-Dump.is)
    (asked _ (Dump c.in-Dump.choice) (c.show_trees.ensures (g.T.TreeSink.sink c.args.tree.now) (g.T.TreeSink.account c.args.tree.now))
    (λ number plan is. absurd (cc is)) (λ undone other. g.met.T.TreeSink.settled c.args.tree.now (ap is_in_file c.requires.fresh)) (λ never. refl))

pub returns-in-Resolve : goal.returns-in-Resolve
returns-in-Resolve g c =
    subst (IsAsked _) (sym c.in-Resolve.is)
    (asked _ (Resolve c.in-Resolve.addr) (c.show_owners.ensures (g.T.TreeSink.sink c.args.tree.now) (g.T.TreeSink.account c.args.tree.now))
    (λ number plan is. absurd (cc is)) (λ undone other. g.met.T.TreeSink.settled c.args.tree.now (ap is_in_file c.requires.fresh)) (λ never. refl))

pub returns-in-Restore : goal.returns-in-Restore
returns-in-Restore g c =
    let number = c.in-Restore.dest in let plan = c.in-Restore.plan in
    let named = name_at c.args.words.now number c.index-words-dest.result c.as_str.result.now
    (there c.args.words.now number (subst (λ query. IsQueryFit query (map string_bytes c.args.words.now)) c.in-Restore.is c.requires.fit))
    c.as_str.ensures.value c.index-words-dest.is in
    subst (IsAsked _) (sym c.in-Restore.is)
    (restore_asked _ number plan _ named c.restore_files.ensures.done c.restore_files.ensures.order c.restore_files.ensures.stored
    c.restore_files.ensures.dry)

pub salvage_files-requires-clause-wet : goal.salvage_files-requires-clause-wet
salvage_files-requires-clause-wet g c = (subst (λ query. IsQueryFit query (map string_bytes c.args.words.now)) c.in-Salvage.is c.requires.fit).1

pub returns-in-Salvage : goal.returns-in-Salvage
returns-in-Salvage g c =
    let number = c.in-Salvage.dest in let plan = c.in-Salvage.plan in
    let named = name_at c.args.words.now number c.index-words-dest-in-Salvage.result c.as_str-in-Salvage.result.now
    (there c.args.words.now number (subst (λ query. IsQueryFit query (map string_bytes c.args.words.now)) c.in-Salvage.is c.requires.fit).0)
    c.as_str-in-Salvage.ensures.value c.index-words-dest-in-Salvage.is in
    subst (IsAsked _) (sym c.in-Salvage.is)
    (asked _ (Salvage number plan) (by_word (salvage_row plan) _ _ _ _ _ _ _ named c.salvage_files.ensures.done) (λ other given is. absurd (cc is))
    c.salvage_files.ensures.stored (λ never. absurd (never tt)))

pub send_files-requires-clause-good : goal.send_files-requires-clause-good
send_files-requires-clause-good g c =
    let fit = subst (λ query. IsQueryFit query (map string_bytes c.args.words.now)) c.in-Send.is c.requires.fit in
    subst IsStreamName
    (name_at c.args.words.now c.in-Send.file c.index-words-file.result c.as_str-name.result.now (there c.args.words.now c.in-Send.file fit.1)
    c.as_str-name.ensures.value c.index-words-file.is)
    fit.2

pub returns-in-Send : goal.returns-in-Send
returns-in-Send g c =
    let number = c.in-Send.dest in let file = c.in-Send.file in let plan = c.in-Send.plan in
    let dest = get_or (map string_bytes c.args.words.now) number [] in
    let fit = subst (λ query. IsQueryFit query (map string_bytes c.args.words.now)) c.in-Send.is c.requires.fit in
    let in_dest = name_at c.args.words.now number c.index-words-dest-in-Send.result c.as_str-dest.result.now (there c.args.words.now number fit.0)
    c.as_str-dest.ensures.value c.index-words-dest-in-Send.is in
    let named = name_at c.args.words.now file c.index-words-file.result c.as_str-name.result.now (there c.args.words.now file fit.1)
    c.as_str-name.ensures.value c.index-words-file.is in
    subst (IsAsked _) (sym c.in-Send.is)
    (asked _ (Send number file plan)
    (by_word (send_row plan dest) _ _ _ _ _ _ _ named
    (by_word (λ d. send_row plan d c.as_str-name.result.now) _ _ _ _ _ _ _ in_dest c.send_files.ensures.done)) (λ other given is. absurd (cc is))
    c.send_files.ensures.stored (λ never. absurd (never tt)))
