use Rattle.std.proofs.Common.{sym, ◌∙◌}
use Rattle.btr_prog_example.proofs.Shows.{none_of, some_of, page_none, page_all, page_part, page_bytes}
use Rattle.btr_prog_example.proofs.list.put_page.Goals as goal

pub returns-then-is_empty : goal.returns-then-is_empty
returns-then-is_empty g c = page_none c.args.bytes.now (g.S.Sink.rows c.args.sink.now) (none_of c.args.bytes.now (sym c.is_empty.ensures ∙ c.if-is_empty.true))

pub returns-in-Err : goal.returns-in-Err
returns-in-Err g c = page_part c.args.bytes.now (g.S.Sink.rows c.args.sink.now) (g.S.Sink.rows c.put.new.self)
    (some_of c.args.bytes.now (sym c.is_empty.ensures ∙ c.if-is_empty.false)) c.in-Err.ensures

pub returns-in-Ok-end : goal.returns-in-Ok-end
returns-in-Ok-end g c = page_all c.args.bytes.now (g.S.Sink.rows c.args.sink.now) (g.S.Sink.rows c.put.new.self) (g.S.Sink.rows c.end.new.self)
    (some_of c.args.bytes.now (sym c.is_empty.ensures ∙ c.if-is_empty.false)) c.in-Ok.ensures c.in-Ok-end.ensures

pub returns-in-Err-end : goal.returns-in-Err-end
returns-in-Err-end g c = page_bytes c.args.bytes.now (g.S.Sink.rows c.args.sink.now) (g.S.Sink.rows c.put.new.self) (g.S.Sink.rows c.end.new.self)
    (some_of c.args.bytes.now (sym c.is_empty.ensures ∙ c.if-is_empty.false)) c.in-Ok.ensures c.in-Err-end.ensures
