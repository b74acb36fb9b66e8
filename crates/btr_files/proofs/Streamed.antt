-- A file and its volume after a piece.
use Rattle.std.proofs.Common.{◌≡◌, ℕ, ◌-◌, ◌<◌, List, [], Option, Some, None, IfSome, Result, Ok, Err, refl, sym, ap, ◌∙◌, subst, arith}
use Rattle.std.specs.Prelude.{unwrap_or}
use Rattle.btr_base.specs.declared.kind.SumKind.{SumKind}
use Rattle.btr_rack.specs.Rack.{Seen}
use Rattle.btr_read.specs.Layout.{Layout}
use Rattle.btr_read.specs.Serves.{Serves}
use Rattle.btr_read.specs.Store.{Blocks, Lent, SameLoans, block_of, IsLiveIn}
use Rattle.btr_read.specs.declared.want.Want.{Want}
use Rattle.btr_walk.specs.declared.fault.TreeFault.{TreeFault}
use Rattle.btr_walk.specs.Lending.{base}
use Rattle.btr_walk.specs.Reading.{Map, UnreadBlock, unread_by}
use Rattle.btr_walk.proofs.Turns.{base_layout}
use Rattle.btr_volume.specs.declared.volume.Volume.{Volume}
use Rattle.btr_volume.proofs.Looked.{served_base}
use Rattle.btr_files.specs.declared.file.FileBytes.{FileBytes}
use Rattle.btr_files.specs.declared.piece.Piece.{Piece as Lending}
use Rattle.btr_files.specs.declared.progress.Progress.{Progress}
use Rattle.btr_files.specs.declared.progress.Source.{Source}
use Rattle.btr_files.specs.declared.streaming.Shown.{Shown}
use Rattle.btr_files.specs.declared.streaming.Shown.TheVariants as shown
use Rattle.btr_files.specs.declared.streaming.Span.{Span}
use Rattle.btr_files.specs.declared.sums_ahead.SumsAhead.{SumsAhead}
use Rattle.btr_files.specs.Aheads.{IsSummed}
use Rattle.btr_files.specs.Content.{Piece}
use Rattle.btr_files.specs.Giving.{span_piece, shown_piece, IsSpanLent, LendsShown, LendsNext, StepsOn, NextStepsOn, IsNextStep}
use Rattle.btr_files.specs.Maps.{TellsAll}
use Rattle.btr_files.specs.Streaming.{piece_of, GivesPiece, IsNextPiece, IsUnderway, Streamed}
use Rattle.btr_files.specs.Sums.{kind_in}
use Rattle.btr_files.proofs.AllMaps.{all_drawn}

-- a file that has come so far, with the checksums and the loan that it keeps then
abbrev pub file_at : FileBytes → Progress → SumsAhead → Option Lent → FileBytes
file_at file p ahead loan = record { source = file.source; progress = p; ahead = ahead; loan = loan }

-- what a step comes to where the checksums that are kept are those of the tree, and they are so behind it
abbrev pub NextWithSums : SumKind → Source → (UnreadBlock → Want → Type 0) → (ℕ → Map) → Progress → Progress → Blocks → SumsAhead → SumsAhead
    → Result (Option Shown) TreeFault → Type 0
NextWithSums kind source Is Bs p p' store ahead ahead' result = IsSummed (Bs 0) source.sums ahead → IsNextStep kind source Is Bs p p' store result
    × IsSummed (Bs 0) source.sums ahead'

-- a step with its piece
gives : (kind : SumKind) (Is : UnreadBlock → Want → Type 0) (Bs : ℕ → Map) (file : FileBytes) (store : Blocks) (ahead : SumsAhead) (p' : Progress)
    (given : Shown) (loan : Option Lent) (piece : Lending) → shown_piece store given ≡ piece_of piece
    → NextWithSums kind file.source Is Bs file.progress p' store file.ahead ahead (Ok (Some given))
    → IsNextPiece kind Is Bs file (file_at file p' ahead loan) (Ok (Some piece))
gives kind Is Bs file store ahead p' given loan piece e h seen on =
    let both = h on.1 in
    let s = both.0 seen on.0 in
    subst (GivesPiece kind Bs seen file (file_at file p' ahead loan)) e (record { past = s.past; goes = s.goes; on = (s.on, both.1) })

-- a store whose loan was given back serves
pub served_back : (rack : Seen) (old new : Blocks) (loan : Option Lent) → new ≡ base old loan → Serves rack old → Serves rack new
served_back rack old new loan back serves = subst (Serves rack) (sym back) (served_base rack old loan serves)

module _ (old new : Volume) (mid : Blocks) (file : FileBytes) (taken : Option Lent) (is_taken : taken ≡ file.loan) (back : mid ≡ base old.store taken)
    (before now : Seen) where
  -- giving back the loan of the piece before leaves the layout as it was
  pub layout_is : mid.layout ≡ old.store.layout
  layout_is = ap (λ (s : Blocks). s.layout) back ∙ base_layout old.store taken

  -- what the calls of a step tell of it
  abbrev Told : Progress → SumsAhead → Layout → Result (Option Shown) TreeFault → Type 0
  Told p' ahead l r = TellsAll l before now (λ Bs. NextWithSums (kind_in old.sup) file.source (unread_by l before now) Bs file.progress p' new.store
      file.ahead ahead r)

  -- after a step that gives a piece
  pub streamed : (ahead : SumsAhead) (p' : Progress) (given : Shown) (loan : Option Lent) (piece : Lending) → shown_piece new.store given
      ≡ piece_of piece → new.sup ≡ old.sup → SameLoans mid (base new.store loan) → IfSome loan (IsLiveIn new.store) → Serves now new.store
      → StepsOn file.source file.progress p' given → Told p' ahead mid.layout (Ok (Some given))
      → Streamed old new file (file_at file p' ahead loan) before now (Ok (Some piece))
  streamed ahead p' given loan piece e sup others live serves on told = record {
    sup = sup;
    others = subst (λ (s : Blocks). SameLoans s (base new.store loan)) (back ∙ ap (base old.store) is_taken) others;
    reading = record { serves = serves; held = live; underway = on.underway };
    content = all_drawn old.store.layout (λ Bs. NextWithSums (kind_in old.sup) file.source (unread_by old.store.layout before now) Bs file.progress p'
        new.store file.ahead ahead (Ok (Some given)))
        (λ Bs. IsNextPiece (kind_in old.sup) (unread_by old.store.layout before now) Bs file (file_at file p' ahead loan) (Ok (Some piece)))
        (λ Bs h. gives (kind_in old.sup) (unread_by old.store.layout before now) Bs file new.store ahead p' given loan piece e h)
        (subst (λ l. Told p' ahead l (Ok (Some given))) layout_is told);
  }

  -- after a step that gives none: the end, or a fault
  ended : (file' : FileBytes) (p' : Progress) (ahead : SumsAhead) (step : Result (Option Shown) TreeFault)
      (result : Result (Option Lending) TreeFault) → ((Is : UnreadBlock → Want → Type 0) (Bs : ℕ → Map)
      → NextWithSums (kind_in old.sup) file.source Is Bs file.progress p' new.store file.ahead ahead step
      → IsNextPiece (kind_in old.sup) Is Bs file file' result)
      → file'.source ≡ file.source → file'.progress ≡ p' → file'.loan ≡ None → new.sup ≡ old.sup → SameLoans mid new.store → Serves now new.store
      → IsUnderway file.source p' → Told p' ahead mid.layout step → Streamed old new file file' before now result
  ended file' p' ahead step result f source progress loan sup same serves underway told = record {
    sup = sup;
    others = subst (λ (s : Blocks). SameLoans s (base new.store file'.loan)) (back ∙ ap (base old.store) is_taken)
        (subst (λ l. SameLoans mid (base new.store l)) (sym loan) same);
    reading = record {
      serves = serves;
      held = subst (λ l. IfSome l (IsLiveIn new.store)) (sym loan) tt;
      underway = subst
          (λ (s : Source). IsUnderway s file'.progress) (sym source) (subst (IsUnderway file.source) (sym progress) underway);
    };
    content = all_drawn old.store.layout (λ Bs. NextWithSums (kind_in old.sup) file.source (unread_by old.store.layout before now) Bs file.progress p'
        new.store file.ahead ahead step)
        (λ Bs. IsNextPiece (kind_in old.sup) (unread_by old.store.layout before now) Bs file file' result)
        (λ Bs h. f (unread_by old.store.layout before now) Bs h)
        (subst (λ l. Told p' ahead l step) layout_is told);
  }

  -- after a step that found nothing more to give
  pub streamed_none : (ahead : SumsAhead) (p' : Progress) (loan : Option Lent) → loan ≡ None → new.sup ≡ old.sup → SameLoans mid new.store
      → Serves now new.store → IsUnderway file.source p' → Told p' ahead mid.layout (Ok None)
      → Streamed old new file (file_at file p' ahead loan) before now (Ok None)
  streamed_none ahead p' loan none = ended (file_at file p' ahead loan) p' ahead (Ok None) (Ok None) (λ Is Bs h seen on. (h on.1).0 seen on.0) refl refl none

  -- after a step that came to a fault
  pub streamed_err : (ahead later : SumsAhead) (p' : Progress) (loan : Option Lent) (fault : TreeFault) → loan ≡ None → new.sup ≡ old.sup
      → SameLoans mid new.store → Serves now new.store → IsUnderway file.source p' → Told p' ahead mid.layout (Err fault)
      → Streamed old new file (file_at file p' later loan) before now (Err fault)
  streamed_err ahead later p' loan fault none = ended (file_at file p' later loan) p' ahead (Err fault) (Err fault)
      (λ Is Bs h seen on. (h on.1).0 seen on.0) refl refl none

-- less is left of the file
pub nearer : (file : FileBytes) (p' : Progress) (given : Shown) → StepsOn file.source file.progress p' given
    → file.source.size - p'.at < file.source.size - file.progress.at
nearer file p' given on = omega (arith, on.further, on.underway.within)

-- what is known of a step, by its piece
module _ (old new : Blocks) (given : Shown) (o : Option Shown) (is : o ≡ Some given) where
  -- what the step lends is what it shows
  lent_is : LendsNext old new (Ok o) → LendsShown old new given
  lent_is h = subst (λ x. LendsNext old new (Ok x)) is h

  -- where zeros are given, no loan changed
  pub gap_lent : (count : ℕ) → given ≡ shown.Gap count → LendsNext old new (Ok o) → SameLoans old new
  gap_lent count e h = subst (LendsShown old new) e (lent_is h)

  -- where bytes are given, their loan is new and live
  pub span_lent : (loan : Lent) (place : Span) → given ≡ shown.Bytes loan place → LendsNext old new (Ok o) → IsSpanLent old new loan place
  span_lent loan place e h = subst (LendsShown old new) e (lent_is h)

  -- where a piece is given, the step went on
  pub steps_on : (source : Source) (p p' : Progress) → NextStepsOn source p p' (Ok o) → StepsOn source p p' given
  steps_on source p p' h = subst (λ x. NextStepsOn source p p' (Ok x)) is h

-- the loan that is kept is none, or the piece's
pub none_back : (mid new : Blocks) (loan : Option Lent) → loan ≡ None → SameLoans mid new → SameLoans mid (base new loan)
none_back mid new loan e h = subst (λ l. SameLoans mid (base new l)) (sym e) h

-- where no loan is kept, none has to be live
pub none_live : (new : Blocks) (loan : Option Lent) → loan ≡ None → IfSome loan (IsLiveIn new)
none_live new loan e = subst (λ l. IfSome l (IsLiveIn new)) (sym e) tt

-- where the loan that is kept is the piece's, the other loans are as before
pub some_back : (mid new : Blocks) (place : Option Lent) (loan : Lent) → place ≡ Some loan → SameLoans mid (base new (Some loan))
    → SameLoans mid (base new place)
some_back mid new place loan e h = subst (λ l. SameLoans mid (base new l)) (sym e) h

-- where the loan that is kept is the piece's, it is live
pub some_live : (new : Blocks) (place : Option Lent) (loan : Lent) → place ≡ Some loan → IsLiveIn new loan → IfSome place (IsLiveIn new)
some_live new place loan e h = subst (λ l. IfSome l (IsLiveIn new)) (sym e) h

-- a piece of the bytes behind a loan is the one that is shown of that loan
pub span_shown : (store : Blocks) (loan held : Lent) (place : Span) (bytes : List ℕ) (piece : Piece) → held ≡ loan → block_of store held ≡ Some bytes
    → piece ≡ span_piece bytes place → shown_piece store (shown.Bytes loan place) ≡ piece
span_shown store loan held place bytes piece e is p =
    ap (λ l. span_piece (unwrap_or (block_of store l) []) place) (sym e) ∙ ap (λ o. span_piece (unwrap_or o []) place) is ∙ sym p
