-- A block that could not be read is one that was wanted.
use Rattle.std.proofs.Common.{◌≡◌, inl, inr, ⊎_elim, List, [], ◌∷◌, Err, sym, ap, ◌∙◌, subst}
use Rattle.btr_prog.proofs.Follow.{names_left}
use Rattle.btr_prog.proofs.Runs.{wants_of-append}
use Rattle.btr_prog.specs.Answers.{Follows, Names, Unread, no_part}
use Rattle.btr_prog.specs.Prog.{Run, wants_of}
use Rattle.btr_rack.specs.Rack.{Seen}
use Rattle.btr_read.specs.Fate.{Fault}
use Rattle.btr_read.specs.Layout.{Layout}
use Rattle.btr_read.specs.Want.{addr_of}
use Rattle.btr_read.specs.declared.want.Want.{Want}
use Rattle.btr_walk.specs.Reading.{UnreadBlock, unread_by}

module _ (layout : Layout) (old new : Seen) (u : UnreadBlock) where
  -- it has the address of the want whose cause is told
  pub names_addr : (ws : List Want) → Names (unread_by layout old new) u ws → Names (λ b want. b.addr ≡ addr_of want) u ws
  names_addr [] named = named
  names_addr (w ∷ ws) named = ⊎_elim (λ is. inl is.same_addr) (λ more. inr (names_addr ws more)) named

  -- that want is one of the run that was broken off there
  pub names_wanted : {S A : Type 0} (r : Run Want Fault S A) (done : List S) → Follows (unread_by layout old new) no_part [] r done (Err (Unread u))
      → Names (λ b want. b.addr ≡ addr_of want) u (wants_of r.marks)
  names_wanted r done f =
      subst (Names (λ b want. b.addr ≡ addr_of want) u) (sym (wants_of-append f.before f.behind) ∙ sym (ap wants_of f.place))
      (names_left (λ b want. b.addr ≡ addr_of want) u (wants_of f.before) (wants_of f.behind) (names_addr (wants_of f.before) f.holds))
