use Rattle.std.proofs.Common.{Ok, Err, sym, ◌∙◌}
use Rattle.std.proofs.lemmas.Result.{err_from_is_err_and}
use Rattle.btr_walk.specs.Reading.{unread_by}
use Rattle.btr_walk.proofs.Fetched.{since}
use Rattle.btr_walk.proofs.Joined.{drawn, joined}
use Rattle.btr_walk.proofs.Turns.{base_layout}
use Rattle.btr_tour.specs.Rests.{TakesUp}
use Rattle.btr_salvage.specs.Folders.{IsNextFound, IsNextMet}
use Rattle.btr_salvage.proofs.Folders.{next_found, rest_fault}
use Rattle.btr_salvage.proofs.folder.Folder.next.Goals as goal

pub returns-in_err-tour-clause-content : goal.returns-in_err-tour-clause-content
returns-in_err-tour-clause-content g c =
    let layout = c.args.vol.now.store.layout in
    let is = unread_by layout (g.R.Rack.seen c.args.rack.now) (g.R.Rack.seen c.tour.new.rack) in
    let p = err_from_is_err_and c.from_residual.result c.from_residual.ensures.1 in
    rw (p.1, p.2)
    (drawn layout (λ B. TakesUp is B c.args.self.now.rest c.tour.new.store (Err c.in_err-tour.field-0.0))
    (λ B. IsNextFound is B c.args.self.now c.args.self.now c.args.name.now (Err c.in_err-tour.field-0.0))
    (λ B h. rest_fault is B c.args.self.now c.tour.new.store c.args.name.now c.in_err-tour.field-0.0 h) c.in_err-tour.ensures.content)

pub returns-clause-content : goal.returns-clause-content
returns-clause-content g c =
    let layout = c.args.vol.now.store.layout in
    let mid = c.tour.new.store in
    let same = sym (base_layout mid _) ∙ c.in_ok-tour.ensures.taken.others.layout in
    let one = unread_by mid.layout (g.R.Rack.seen c.tour.new.rack) (g.R.Rack.seen c.meet_next-found.new.rack) in
    let is = unread_by layout (g.R.Rack.seen c.args.rack.now) (g.R.Rack.seen c.meet_next-found.new.rack) in
    joined {layout' = mid.layout}
    (λ B. TakesUp (unread_by layout (g.R.Rack.seen c.args.rack.now) (g.R.Rack.seen c.tour.new.rack)) B c.args.self.now.rest mid (Ok c.in_ok-tour.tour))
    (λ B. IsNextMet one B mid c.meet_next-found.new.store c.in_ok-tour.tour c.meet_next-found.new.tour c.meet_next-found.new.name c.meet_next-found.result)
    (λ B. IsNextFound is B c.args.self.now (record { rest = c.rest-after.result }) c.meet_next-found.new.name c.meet_next-found.result)
    same
    (λ B takes meets. next_found is one (λ u w i. since layout mid.layout same c.in_ok-tour.ensures.reads u w i) B c.args.self.now c.args.vol.now.store mid
    c.meet_next-found.new.store c.in_ok-tour.tour c.meet_next-found.new.tour c.rest-after.result c.meet_next-found.new.name c.rest-after.ensures.rests
    c.meet_next-found.result takes meets)
    c.in_ok-tour.ensures.content c.meet_next-found.ensures.content
