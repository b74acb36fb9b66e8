use Rattle.std.proofs.Common.{◌≡◌, take, get_or, count_by, None, Some, IsSomeAnd, Ok, Err, refl, subst, sym, ap, ◌∙◌, arith}
use Rattle.std.specs.Option.{option_map, is_none}
use Rattle.btr_pool.specs.Slots.{loans_of, bytes_at, free_count, with_lent}
use Rattle.btr_pool.proofs.Loans.{count_by-loans_of}
use Rattle.btr_read.specs.Want.{len_of}
use Rattle.btr_read.specs.Layout.{AreOpen}
use Rattle.btr_read.specs.Fate.{sought}
use Rattle.btr_read.specs.Store.{Lent, KeepsFree, kept_in}
use Rattle.btr_read.specs.Fetch.{IsFetched, FitsFetch}
use Rattle.btr_read.specs.Finding.{fault_of}
use Rattle.btr_read.specs.Writing.{OnlyWrites, StillKept}
use Rattle.btr_read.proofs.Slots.{only_writes_none}
use Rattle.btr_read.proofs.Loans.{blocks, loan_taken}
use Rattle.btr_rack.proofs.Reading.{reads_forget, reads_more}
use Rattle.btr_read.proofs.Fates.{located, sought_fits, lent_by}
use Rattle.btr_read.proofs.Fetched.{kept_fetched, kept_last, calls_of}
use Rattle.btr_read.proofs.Found.{IsVain, not_again, found_of, taken_of, missed, had}
use Rattle.btr_read.proofs.Serving.{still_same, sought_open, serves_still, kept_there, keeps_in}
use Rattle.btr_read.proofs.Nodes.{found_sound}
use Rattle.btr_read.proofs.fetching.fetch.Given as given
use Rattle.btr_read.proofs.fetching.fetch.Goals as goal
use Rattle.btr_read.proofs.fetching.fetch.Goals.{After-locate, In_ok-search}

-- ---- a block that is kept

pub returns-in-Some : goal.returns-in-Some
returns-in-Some g c =
    let s = c.store.inside in
    let p0 = s.pool in
    let w0 = s.kept.wants in
    let p1 = c.lend_kept.new.pool in
    let w1 = c.lend_kept.new.kept.wants in
    let store = c.args.store.now in
    let layout = store.layout in
    let want = c.args.want.now in
    let old = g.R.Rack.seen c.args.rack.now in
    let new = g.R.Rack.seen c.forget.new.self in
    let k = c.in-Some.slot in
    let len = c.len-len.result in
    let lent = c.in-Some.ensures.lent in
    let slots = ap (λ s. s.slots) c.forget.ensures in
    let held = ap (λ s. s.held) c.forget.ensures in
    let still = subst (λ w. StillKept w0 w p0 p1) (sym c.in-Some.ensures.wants) (still_same w0 p0 p1 (ap (λ p. p.bytes) lent)) in
    let writes = subst (OnlyWrites k (with_lent p0 k)) (sym lent) (only_writes_none (with_lent p0 k) k) in
    let reads = reads_forget old new c.forget.ensures in
    let kept = kept_there s.chunks s.devices.items s.setting w0 w1 p0 p1 old new store c.store.view_is k want c.requires.serves c.in-Some.ensures.kept in
    let here = kept_fetched layout want old new (take (len_of s.setting want) (bytes_at p0 k)) kept in
    let whole = subst (λ n. IsFetched layout want old new (take n (bytes_at p0 k))) (sym c.len-len.ensures) here in
    let there = subst (λ p. IsFetched layout want old new (take len (bytes_at p k))) (sym lent) whole in
    let block : option_map (take len) (get_or (loans_of p1) k None) ≡ Some (take len (bytes_at p1 k)) =
    ap (option_map (take len)) (loan_taken p0 p1 k c.store.invariant.store.whole c.in-Some.ensures.free writes) in
    let then = blocks s.chunks s.devices.items s.setting (loans_of p1) (kept_in s.setting w1 p1.bytes) in
    let loan : Lent = record { slot = k; len = len } in
    let answer : FitsFetch layout want old new then (Ok loan) = (kept.sought, subst (λ o. IsSomeAnd o (IsFetched layout want old new)) (sym block) there) in
    record {
      serves = serves_still s.chunks s.devices.items s.setting w0 w1 p0 p1 old new store c.store.view_is slots held still c.requires.serves (loans_of p1);
      reads = reads;
      account = kept_last layout want old new c.forget.ensures;
      lent = lent_by s.chunks s.devices.items s.setting p0 p1 (kept_in s.setting w0 p0.bytes) (kept_in s.setting w1 p1.bytes) k len store want
          c.store.invariant.store c.store.view_is c.in-Some.ensures.free writes c.len-len.ensures;
      refused = tt;
      again = λ kept. (refl, ap (λ s. s.account) c.forget.ensures);
      keeps = λ tree steady. keeps_in s.setting w1 p1.bytes k want (ap (λ w. get_or w k None) c.in-Some.ensures.wants ∙ c.in-Some.ensures.kept);
      answer = answer;
      calls = calls_of layout want old new then (Ok loan) reads answer;
    }

-- ---- what is known of the blocks that are kept

pub invariant_of-store-in-Err : goal.invariant_of-store-in-Err
invariant_of-store-in-Err g c =
    let s = c.store.inside in
    found_sound s.pool c.lend_kept.new.pool c.find.new.pool s.kept.wants c.lend_kept.new.kept.wants c.find.new.kept.wants s.kept.nodes
    c.lend_kept.new.kept.nodes c.find.new.kept.nodes s.setting
    c.in_default.ensures.none c.lend_kept.ensures.wants c.lend_kept.ensures.nodes c.in-Err.ensures.shape c.in-Err.ensures.nodes c.store.invariant

pub invariant_of-store-2 : goal.invariant_of-store-2
invariant_of-store-2 g c =
    let s = c.store.inside in
    found_sound s.pool c.lend_kept.new.pool c.find.new.pool s.kept.wants c.lend_kept.new.kept.wants c.find.new.kept.wants s.kept.nodes
    c.lend_kept.new.kept.nodes c.find.new.kept.nodes s.setting
    c.in_default.ensures.none c.lend_kept.ensures.wants c.lend_kept.ensures.nodes c.in-Ok.ensures.shape c.in-Ok.ensures.nodes c.store.invariant

-- ---- a block that is sought

-- no free slot keeps the block
none_again : (g : given.Over) (c : After-locate g) → KeepsFree c.args.store.now c.args.want.now → ⊥
none_again g c =
    let s = c.store.inside in
    not_again s.chunks s.devices.items s.setting s.pool s.kept.wants c.args.store.now c.store.invariant.store c.store.view_is c.args.want.now
    c.in_default.ensures.missing

-- what is sought is what `locate` found
seeks : (g : given.Over) (c : In_ok-search g) → sought c.args.store.now.layout c.args.want.now ≡ Ok c.in_ok-search.search
seeks g c =
    let s = c.store.inside in
    located s.chunks s.devices.items c.deref.result.now s.setting (loans_of s.pool) (kept_in s.setting s.kept.wants s.pool.bytes)
    c.args.store.now c.args.want.now c.in_ok-search.search c.store.view_is c.deref.ensures.value c.in_ok-search.ensures

pub returns-in_err-search-clause-serves : goal.returns-in_err-search-clause-serves
returns-in_err-search-clause-serves g c =
    let s = c.store.inside in
    let p0 = s.pool in
    let w0 = s.kept.wants in
    let p1 = c.lend_kept.new.pool in
    let still = subst (λ w. StillKept w0 w p0 p1) (sym c.lend_kept.ensures.wants) (still_same w0 p0 p1 (ap (λ p. p.bytes) c.in_default.ensures.none)) in
    serves_still s.chunks s.devices.items s.setting w0 c.lend_kept.new.kept.wants p0 p1 (g.R.Rack.seen c.args.rack.now) (g.R.Rack.seen c.forget.new.self)
    c.args.store.now c.store.view_is (ap (λ s. s.slots) c.forget.ensures) (ap (λ s. s.held) c.forget.ensures) still c.requires.serves (loans_of p1)

pub returns-in_err-search-clause-again : goal.returns-in_err-search-clause-again
returns-in_err-search-clause-again g c = λ kept. absurd (none_again g (goal.at.returns-in_err-search-clause-again g c).After-locate kept)

pub find-requires-clause-open : goal.find-requires-clause-open
find-requires-clause-open g c = subst (λ slots. AreOpen slots c.in_ok-search.search.devices) (sym (ap (λ s. s.slots) c.forget.ensures))
    (sought_open (g.R.Rack.seen c.args.rack.now) c.args.store.now c.args.want.now c.in_ok-search.search
    (seeks g (goal.at.find-requires-clause-open g c).In_ok-search) c.requires.serves)

pub find-requires-clause-room : goal.find-requires-clause-room
find-requires-clause-room g c =
    let counted = ap (λ s. count_by is_none s.loans) c.store.view_is in
    let same = ap free_count c.in_default.ensures.none in
    omega (arith, count_by-loans_of c.store.inside.pool, counted, c.requires.room, same)

pub find-requires-clause-fits : goal.find-requires-clause-fits
find-requires-clause-fits g c =
    let s = c.store.inside in
    let fits = sought_fits c.args.store.now.layout c.args.want.now c.in_ok-search.search s.pool s.setting
    (sym (ap (λ s. s.layout.setting) c.store.view_is)) (seeks g (goal.at.find-requires-clause-fits g c).In_ok-search) c.store.invariant.store in
    omega (arith, fits, ap (λ p. p.size) c.in_default.ensures.none)

-- ---- a block that was sought in vain

pub returns-in-Err : goal.returns-in-Err
returns-in-Err g c =
    let s = c.store.inside in
    let p0 = s.pool in
    let w0 = s.kept.wants in
    let p2 = c.find.new.pool in
    let w2 = c.find.new.kept.wants in
    let store = c.args.store.now in
    let want = c.args.want.now in
    let t = c.in_ok-search.search in
    let old = g.R.Rack.seen c.args.rack.now in
    let mid = g.R.Rack.seen c.forget.new.self in
    let after = g.R.Rack.seen c.find.new.rack in
    let e = c.in-Err.ensures in
    let m = c.in-Err.missed in
    let path = goal.at.returns-in-Err g c in
    let reads = reads_more (reads_forget old mid c.forget.ensures) e.reads in
    let found = found_of t w0 c.lend_kept.new.kept.wants w2 p0 c.lend_kept.new.pool p2 mid after (Err m) c.in_default.ensures.none
    c.lend_kept.ensures.wants e.found in
    let then = blocks s.chunks s.devices.items s.setting (loans_of p2) (kept_in s.setting w2 p2.bytes) in
    let vain = subst (IsVain store want old after then) (sym (c.fault.ensures ∙ ap (λ a. fault_of a m) c.addr.ensures))
    (missed s.chunks s.devices.items s.setting p0 w0 store c.store.invariant.store c.store.view_is want t (seeks g path.In_ok-search) old mid after
    c.forget.ensures e.reads p2 w2 m found c.requires.serves) in
    record {
      serves = vain.serves;
      reads = reads;
      account = vain.account;
      lent = tt;
      refused = record {
        layout = ap (λ z. z.layout) c.store.view_is;
        loans = e.refused ∙ ap loans_of c.in_default.ensures.none ∙ ap (λ z. z.loans) c.store.view_is;
      };
      again = λ kept. absurd (none_again g path.After-locate kept);
      keeps = tt;
      answer = vain.answer;
      calls = calls_of store.layout want old after then (Err c.fault.result) reads vain.answer;
    }

-- ---- a block that was found

pub returns : goal.returns
returns g c =
    let s = c.store.inside in
    let p0 = s.pool in
    let w0 = s.kept.wants in
    let p2 = c.find.new.pool in
    let w2 = c.find.new.kept.wants in
    let store = c.args.store.now in
    let want = c.args.want.now in
    let t = c.in_ok-search.search in
    let old = g.R.Rack.seen c.args.rack.now in
    let mid = g.R.Rack.seen c.forget.new.self in
    let after = g.R.Rack.seen c.find.new.rack in
    let new = g.R.Rack.seen c.forget-in-Ok.new.self in
    let e = c.in-Ok.ensures in
    let k = c.in-Ok.slot in
    let len = c.size-len.result in
    let path = goal.at.returns g c in
    let reads = reads_more (reads_more (reads_forget old mid c.forget.ensures) e.reads) (reads_forget after new c.forget-in-Ok.ensures) in
    let found = found_of t w0 c.lend_kept.new.kept.wants w2 p0 c.lend_kept.new.pool p2 mid after (Ok k) c.in_default.ensures.none
    c.lend_kept.ensures.wants e.found in
    let here = had s.chunks s.devices.items s.setting p0 w0 store c.store.invariant.store c.store.view_is want t (seeks g path.In_ok-search) old mid
    after c.forget.ensures e.reads p2 w2 k found new c.forget-in-Ok.ensures len c.size-len.ensures.value
    (taken_of p0 c.lend_kept.new.pool p2 k c.in_default.ensures.none e.taken) c.requires.serves in
    record {
      serves = here.serves;
      reads = reads;
      account = here.account;
      lent = here.lent;
      refused = tt;
      again = λ kept. absurd (none_again g path.After-locate kept);
      keeps = here.keeps;
      answer = here.answer;
      calls = calls_of store.layout want old new (blocks s.chunks s.devices.items s.setting (loans_of p2) (kept_in s.setting w2 p2.bytes))
          (Ok (record { slot = k; len = len })) reads here.answer;
    }
