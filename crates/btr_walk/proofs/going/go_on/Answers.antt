use Rattle.std.proofs.Common.{◌+◌, Ok, Err, Some, None, refl, subst}
use Rattle.std.proofs.lemmas.Result.{err_from_is_err_and}
use Rattle.btr_walk.specs.declared.going.Gone.TheVariants as gone
use Rattle.btr_walk.specs.Entering.{IsEntered}
use Rattle.btr_walk.specs.Again.{Rereads}
use Rattle.btr_walk.specs.Going.{IsGone}
use Rattle.btr_walk.specs.Reading.{unread_by}
use Rattle.btr_walk.proofs.Joined.{drawn, unread_on}
use Rattle.btr_walk.proofs.Paths.{gone_leaf, gone_inner, gone_end, gone_again, gone_err, again_halts, at_place}
use Rattle.btr_walk.proofs.Ranking.{near_leaf, near_inner, near_again, near_place, fits_below}
use Rattle.btr_walk.proofs.going.go_on.Goals as goal

pub returns-in_err-leaf-in-Some-clause-content : goal.returns-in_err-leaf-in-Some-clause-content
returns-in_err-leaf-in-Some-clause-content g c =
    let is = unread_by c.args.store.now.layout (g.R.Rack.seen c.args.rack.now) (g.R.Rack.seen c.enter.new.rack) in
    let place = c.args.place.now in
    let p = err_from_is_err_and c.from_residual.result c.from_residual.ensures.1 in
    rw (p.1, p.2)
    (drawn c.args.store.now.layout (λ B. IsEntered c.args.lo c.args.hi is B c.in-Some.todo c.enter.new.store (Err c.in_err-leaf-in-Some.field-0.0))
    (λ B. IsGone c.args.lo c.args.hi is B place place c.enter.new.store (Err c.in_err-leaf-in-Some.field-0.0))
    (λ B h. at_place c.args.lo c.args.hi is B place place (Some c.in-Some.todo) c.enter.new.store (Err c.in_err-leaf-in-Some.field-0.0) c.in-Some.is
    (gone_err c.args.lo c.args.hi B is place.path c.in-Some.todo place c.enter.new.store c.enter.new.store c.in_err-leaf-in-Some.field-0.0 h))
    c.in_err-leaf-in-Some.ensures.content)

pub returns-in-Leaf-clause-content : goal.returns-in-Leaf-clause-content
returns-in-Leaf-clause-content g c =
    let is = unread_by c.args.store.now.layout (g.R.Rack.seen c.args.rack.now) (g.R.Rack.seen c.enter.new.rack) in
    let place = c.args.place.now in
    let l = c.in-Leaf.leaf in
    drawn c.args.store.now.layout (λ B. IsEntered c.args.lo c.args.hi is B c.in-Some.todo c.enter.new.store (Ok c.in_ok-leaf-in-Some.field-0))
    (λ B. IsGone c.args.lo c.args.hi is B place (record { path = place.path; todo = None }) c.enter.new.store (Ok (gone.Leaf l)))
    (λ B h. at_place c.args.lo c.args.hi is B place (record { path = place.path; todo = None }) (Some c.in-Some.todo) c.enter.new.store
    (Ok (gone.Leaf l)) c.in-Some.is
    (gone_leaf c.args.lo c.args.hi B is place.path c.in-Some.todo c.enter.new.store l
    (subst (λ x. IsEntered c.args.lo c.args.hi is B c.in-Some.todo c.enter.new.store (Ok x)) c.in-Leaf.is h))) c.in_ok-leaf-in-Some.ensures.content

pub returns-in-Inner-clause-content : goal.returns-in-Inner-clause-content
returns-in-Inner-clause-content g c =
    let is = unread_by c.args.store.now.layout (g.R.Rack.seen c.args.rack.now) (g.R.Rack.seen c.enter.new.rack) in
    let place = c.args.place.now in
    let b = c.in-Inner.below in
    let fits = fits_below c.in-Some.todo c.in_ok-leaf-in-Some.field-0 b c.in-Inner.is c.in_ok-leaf-in-Some.ensures.level in
    drawn c.args.store.now.layout (λ B. IsEntered c.args.lo c.args.hi is B c.in-Some.todo c.enter.new.store (Ok c.in_ok-leaf-in-Some.field-0))
    (λ B. IsGone c.args.lo c.args.hi is B place (record { path = c.set_frame.new.path; todo = b.todo }) c.enter.new.store (Ok gone.Between))
    (λ B h. at_place c.args.lo c.args.hi is B place (record { path = c.set_frame.new.path; todo = b.todo }) (Some c.in-Some.todo) c.enter.new.store
    (Ok gone.Between) c.in-Some.is
    (gone_inner c.args.lo c.args.hi B is place.path c.in-Some.todo c.enter.new.store b c.set_frame.new.path c.set_frame.ensures.long fits.some fits.few
    c.set_frame.ensures.set (subst (λ x. IsEntered c.args.lo c.args.hi is B c.in-Some.todo c.enter.new.store (Ok x)) c.in-Inner.is h)))
    c.in_ok-leaf-in-Some.ensures.content

pub returns-in-None-lowest-clause-content : goal.returns-in-None-lowest-clause-content
returns-in-None-lowest-clause-content g c =
    let is = unread_by c.args.store.now.layout (g.R.Rack.seen c.args.rack.now) (g.R.Rack.seen c.args.rack.now) in
    let place = c.args.place.now in
    unread_on c.args.store.now.layout (λ B. IsGone c.args.lo c.args.hi is B place place c.args.store.now (Ok gone.End))
    (λ B. at_place c.args.lo c.args.hi is B place place None c.args.store.now (Ok gone.End) c.in-None.is
    (gone_end c.args.lo c.args.hi B is place.path place c.args.store.now c.in-None-lowest.ensures.none))

pub returns-in_err-below-in-Some-lowest-clause-content : goal.returns-in_err-below-in-Some-lowest-clause-content
returns-in_err-below-in-Some-lowest-clause-content g c =
    let is = unread_by c.args.store.now.layout (g.R.Rack.seen c.args.rack.now) (g.R.Rack.seen c.read_again.new.rack) in
    let place = c.args.place.now in
    let low = c.in-Some-lowest.low in
    let fault = c.in_err-below-in-Some-lowest.field-0.0 in
    let p = err_from_is_err_and c.from_residual-in_err-below-in-Some-lowest.result c.from_residual-in_err-below-in-Some-lowest.ensures.1 in
    rw (p.1, p.2)
    (drawn c.args.store.now.layout (λ B. Rereads is B (low.at + 1) low.frame (Err fault))
    (λ B. IsGone c.args.lo c.args.hi is B place place c.read_again.new.store (Err fault))
    (λ B h. at_place c.args.lo c.args.hi is B place place None c.read_again.new.store (Err fault) c.in-None.is
    (again_halts c.args.lo c.args.hi B is place.path place low.at (low.at + 1) low.frame c.read_again.new.store fault refl
    c.in-Some-lowest.ensures.here h)) c.in_err-below-in-Some-lowest.ensures.content)

pub returns-in_ok-below-in-Some-lowest-clause-content : goal.returns-in_ok-below-in-Some-lowest-clause-content
returns-in_ok-below-in-Some-lowest-clause-content g c =
    let is = unread_by c.args.store.now.layout (g.R.Rack.seen c.args.rack.now) (g.R.Rack.seen c.read_again.new.rack) in
    let place = c.args.place.now in
    let low = c.in-Some-lowest.low in
    let b = c.in_ok-below-in-Some-lowest.below in
    drawn c.args.store.now.layout (λ B. Rereads is B (low.at + 1) low.frame (Ok b))
    (λ B. IsGone c.args.lo c.args.hi is B place (record { path = c.set_frame-in-Some-lowest.new.path; todo = b.todo }) c.read_again.new.store
    (Ok gone.Between))
    (λ B h. at_place c.args.lo c.args.hi is B place (record { path = c.set_frame-in-Some-lowest.new.path; todo = b.todo }) None c.read_again.new.store
    (Ok gone.Between) c.in-None.is
    (gone_again c.args.lo c.args.hi B is place.path low.at (low.at + 1) low.frame c.read_again.new.store b c.set_frame-in-Some-lowest.new.path
    c.set_frame-in-Some-lowest.ensures.long c.in-Some-lowest.ensures.within refl c.in-Some-lowest.ensures.before c.in-Some-lowest.ensures.here
    c.set_frame-in-Some-lowest.ensures.set h)) c.in_ok-below-in-Some-lowest.ensures.content

pub returns-in-Leaf-clause-rank_falls : goal.returns-in-Leaf-clause-rank_falls
returns-in-Leaf-clause-rank_falls g c =
    let place = c.args.place.now in
    near_place place (Some c.in-Some.todo) (record { path = place.path; todo = None }) c.in-Some.is c.requires.shaped (near_leaf place.path c.in-Some.todo)

pub returns-in-Inner-clause-rank_falls : goal.returns-in-Inner-clause-rank_falls
returns-in-Inner-clause-rank_falls g c =
    let place = c.args.place.now in
    let b = c.in-Inner.below in
    let fits = fits_below c.in-Some.todo c.in_ok-leaf-in-Some.field-0 b c.in-Inner.is c.in_ok-leaf-in-Some.ensures.level in
    near_place place (Some c.in-Some.todo) (record { path = c.set_frame.new.path; todo = b.todo }) c.in-Some.is c.requires.shaped
    (near_inner place.path c.set_frame.new.path c.in-Some.todo b fits c.set_frame.ensures.set)

pub returns-in_ok-below-in-Some-lowest-clause-rank_falls : goal.returns-in_ok-below-in-Some-lowest-clause-rank_falls
returns-in_ok-below-in-Some-lowest-clause-rank_falls g c =
    let place = c.args.place.now in
    let low = c.in-Some-lowest.low in
    let b = c.in_ok-below-in-Some-lowest.below in
    near_place place None (record { path = c.set_frame-in-Some-lowest.new.path; todo = b.todo }) c.in-None.is c.requires.shaped
    (near_again place.path c.set_frame-in-Some-lowest.new.path low.at
    (low.at + 1) low.frame b refl c.in-Some-lowest.ensures.within c.in_ok-below-in-Some-lowest.ensures.next c.set_frame-in-Some-lowest.ensures.set
    c.in-Some-lowest.ensures.here c.in-Some-lowest.ensures.before)
