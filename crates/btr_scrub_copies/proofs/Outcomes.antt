-- What mending a block comes to.
use Rattle.std.proofs.Common.{◌≡◌, ℕ, Bool, true, false, List, [], get_or, set, take, Option, Some, None, IsSome, Result, Ok, Err, IsErrAnd, refl, sym, ap, ◌∙◌}
use Rattle.std.proofs.Common.{subst}
use Rattle.btr_scrub_copies.proofs.Common.{AccountsMend, DoesWrites, Images, IsOfCopy, Layout, Lent, MendFault, NoneFailed, OnlyReads, SameLoans, Seen, Serves}
use Rattle.btr_scrub_copies.proofs.Common.{Target, Want, Write, block_of, copy_writes, false≢true, flagged_copies, given_back, mended_copies, none_failed}
use Rattle.btr_scrub_copies.proofs.Common.{option_map, reads_more, reads_none, same_held, sought, writes_if}
use Rattle.btr_read.specs.Store.{Blocks, IsLentBy, IsLiveIn, loan_in, with_loan, without_kept}
use Rattle.btr_read.proofs.Serving.{serves_anew, serving}
use Rattle.btr_read.proofs.Trials.{told, telling}
use Rattle.btr_scrub_copies.specs.Mending.{CountsMended, Repairs, MendsBad}
use Rattle.btr_scrub_copies.specs.declared.mended.Mended.{Mended}
use Rattle.btr_scrub_copies.proofs.Doing.{does_as, does_as_halt, does_behind, does_failed, does_reads, passed}
use Rattle.btr_scrub_copies.specs.declared.judged_copies.JudgedCopies.{JudgedCopies}

-- a live loan has bytes
pub has_bytes : (store : Blocks) (loan : Lent) → IsLiveIn store loan → (bytes : List ℕ) × (block_of store loan ≡ Some bytes)
has_bytes store loan live = of (loan_in store loan.slot) refl live.live
  where
    of : (o : Option (List ℕ)) → loan_in store loan.slot ≡ o → IsSome o → (bytes : List ℕ) × (block_of store loan ≡ Some bytes)
    of None e h = absurd (false≢true h)
    of (Some bytes) e h = (take loan.len bytes, ap (option_map (take loan.len)) e)

module _ {t : Target} {write : Bool} {W : Images → List Write} {C : Images → Mended} {marks : List Bool} {a b : Seen} (reads : OnlyReads a b) where
  -- a read failed, and its fault is passed on
  pub repairs_failed : {r : Result Mended MendFault} (B : Type 0) (fault : MendFault) → IsErrAnd r (λ e. e ≡ fault)
      → AccountsMend {A = B} (IsOfCopy t) a b (Err fault) → Repairs t write W C marks marks a b r
  repairs_failed {r = r} B fault is account = passed (λ r. Repairs t write W C marks marks a b r) r fault is (record {
    does = does_failed (IsOfCopy t) Mended B (λ images. writes_if write (W images)) marks a b fault reads account;
    counts = tt;
    unwritten = λ w. reads;
  })

  -- nothing was written
  pub repairs_read : {m : Mended} → NoneFailed a.account b.account
      → ((images : Images) → a.held ≡ Some images → ([] ≡ writes_if write (W images)) × (m ≡ C images)) → Repairs t write W C marks marks a b (Ok m)
  repairs_read {m = m} none are = record {
    does = does_as (IsOfCopy t) (λ i. []) (λ images. writes_if write (W images)) marks marks a b m m (λ images e. (are images e).0)
        (does_reads (IsOfCopy t) marks a b m reads none);
    counts = told a.held (λ images. m ≡ C images) (λ images e. (are images e).1);
    unwritten = λ w. reads;
  }

  -- what was repaired behind the reads was repaired with them, where the writes and the counts follow from the images otherwise
  pub repairs_behind : {V : Images → List Write} {D : Images → Mended} {marks' : List Bool} {d : Seen} {r : Result Mended MendFault}
      → NoneFailed a.account b.account → Repairs t write V D marks marks' b d r
      → ((images : Images) → a.held ≡ Some images → (V images ≡ W images) × (D images ≡ C images)) → Repairs t write W C marks marks' a d r
  repairs_behind {V = V} {D = D} {marks' = marks'} {d = d} {r = r} none h same = record {
    does = as_told r (does_behind (IsOfCopy t) (λ images. writes_if write (V images)) marks marks' a b d r reads none h.does);
    counts = count_told r (subst (λ o. CountsMended o D r) (same_held reads) h.counts);
    unwritten = λ w. reads_more reads (h.unwritten w);
  }
    where
      as_told : (r : Result Mended MendFault) → DoesWrites (IsOfCopy t) (λ images. writes_if write (V images)) marks marks' a d r
          → DoesWrites (IsOfCopy t) (λ images. writes_if write (W images)) marks marks' a d r
      as_told (Ok m) h = does_as (IsOfCopy t) (λ images. writes_if write (V images)) (λ images. writes_if write (W images)) marks marks' a d m m
          (λ images e. ap (writes_if write) (same images e).0) h
      as_told (Err e) h = does_as_halt (IsOfCopy t) Mended Mended (λ images. writes_if write (V images)) (λ images. writes_if write (W images)) marks marks'
          a d e (λ images e. ap (writes_if write) (same images e).0) h

      count_told : (r : Result Mended MendFault) → CountsMended a.held D r → CountsMended a.held C r
      count_told (Ok m) h = told a.held (λ images. m ≡ C images) (λ images e. telling a.held (λ images. m ≡ D images) h images e ∙ (same images e).1)
      count_told (Err e) h = tt

-- writes over the bad copies, by how many there are
module _ {t : Target} {write : Bool} {ws : List Write} (count : ℕ) {marks : List Bool} {a : Seen} where
  -- they were only to be read
  pub over_read : write ≡ false → Repairs t write (λ i. ws) (λ i. mended_copies count write) marks marks a a (Ok (mended_copies count false))
  over_read unwritten = repairs_read (reads_none a) (none_failed a.account)
      (λ images e. (ap (λ w. writes_if w ws) (sym unwritten), ap (mended_copies count) (sym unwritten)))

  module _ (writing : write ≡ true) {marks' : List Bool} {b : Seen} where
    -- all were written
    pub over_wrote : DoesWrites {A = Unit {0}} (IsOfCopy t) (λ i. ws) marks marks' a b (Ok tt)
        → Repairs t write (λ i. ws) (λ i. mended_copies count write) marks marks' a b (Ok (mended_copies count true))
    over_wrote h = record {
      does = does_as (IsOfCopy t) (λ i. ws) (λ i. writes_if write ws) marks marks' a b tt (mended_copies count true)
          (λ images e. ap (λ w. writes_if w ws) (sym writing)) h;
      counts = told a.held (λ i. mended_copies count true ≡ mended_copies count write) (λ images e. ap (mended_copies count) (sym writing));
      unwritten = λ w. absurd (false≢true (sym w ∙ writing));
    }

    -- those before one that failed were, and its fault is passed on
    pub over_cut : {r : Result Mended MendFault} (fault : MendFault) → IsErrAnd r (λ e. e ≡ fault)
        → DoesWrites {A = Unit {0}} (IsOfCopy t) (λ i. ws) marks marks' a b (Err fault)
        → Repairs t write (λ i. ws) (λ i. mended_copies count write) marks marks' a b r
    over_cut {r = r} fault is h = passed (λ r. Repairs t write (λ i. ws) (λ i. mended_copies count write) marks marks' a b r) r fault is (record {
      does = does_as_halt (IsOfCopy t) (Unit {0}) Mended (λ i. ws) (λ i. writes_if write ws) marks marks' a b fault
          (λ images e. ap (λ w. writes_if w ws) (sym writing)) h;
      counts = tt;
      unwritten = λ w. absurd (false≢true (sym w ∙ writing));
    })

-- a store that forgot what it kept is served, whatever was written
pub serves_forgot : (rack now : Seen) (store store' : Blocks) → Serves rack store → store' ≡ without_kept store → now.slots ≡ rack.slots → Serves now store'
serves_forgot rack now store store' serves e slots =
    let was = serving rack store serves in
    rw e (serves_anew now (without_kept store) (rw slots was.are_open) was.own_slots refl)

-- the bytes of a loan are the same where the loans are
pub same_block : {a b : Blocks} (loan : Lent) → SameLoans a b → block_of b loan ≡ block_of a loan
same_block loan same = ap (λ (loans : List (Option (List ℕ))). option_map (take loan.len) (get_or loans loan.slot None)) same.loans

-- the bytes of a live loan were written over the copies that have a flag, behind reads that left it
pub repairs_flagged : {store now : Blocks} (judged : JudgedCopies) {loan : Lent} {t : Target} {write : Bool} {W : Images → List Write} {C : Images → Mended}
    {marks marks' : List Bool} {a b d : Seen} {r : Result Mended MendFault} → OnlyReads a b → NoneFailed a.account b.account → SameLoans store now
    → IsLiveIn store loan → sought store.layout judged.block.want.now ≡ Ok t → MendsBad now judged loan write marks marks' b d r
    → ((bytes : List ℕ) (images : Images) → block_of store loan ≡ Some bytes → a.held ≡ Some images
    → (copy_writes t bytes (flagged_copies judged.bad.flags judged.block.copies) ≡ W images) × (mended_copies judged.bad.count write ≡ C images))
    → Repairs t write W C marks marks' a d r
repairs_flagged {store = store} {now = now} judged {loan = loan} {t = t} reads none same live e mends are =
    let own = has_bytes store loan live in
    repairs_behind reads none (mends t own.0 (ap (λ (l : Layout). sought l judged.block.want.now) same.layout ∙ e)
    (same_block loan same ∙ own.1)) (λ images told. are own.0 images own.1 told)

-- a loan was given back behind calls that left the loans
pub given_behind : (old mid after : Blocks) (want : Want) (loan : Lent) → IsLentBy old mid want loan → SameLoans mid after
    → SameLoans old (with_loan after loan.slot None)
given_behind old mid after want loan lent same =
    let back = given_back old mid want loan lent in
    record { layout = same.layout ∙ back.layout; loans = ap (λ (loans : List (Option (List ℕ))). set loans loan.slot None) same.loans ∙ back.loans }
