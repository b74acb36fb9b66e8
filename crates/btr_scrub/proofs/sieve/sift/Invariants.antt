use Rattle.std.proofs.Common.{◌≡◌, List, ◌++◌, false, length}
use Rattle.btr_scrub.proofs.Common.{AreApart, AreOfKind, CanMend, NoneFailed, OnlyReads, SameLoans, ShareNoRow, Sifts, Want}
use Rattle.btr_scrub.proofs.sieve.sift.Given as goal

abbrev pub invariant-loop-want : goal.invariant-loop-want
invariant-loop-want g l = record {
  ready : CanMend false (g.R.Rack.seen l.rack) l.store l.marks;
  loans : SameLoans l.fn.store l.store;
  reads : OnlyReads (g.R.Rack.seen l.fn.rack) (g.R.Rack.seen l.rack);
  none : NoneFailed (g.R.Rack.seen l.fn.rack).account (g.R.Rack.seen l.rack).account;
  past : List Want;
  split : l.fn.blocks ≡ past ++ l.blocks;
  apart : AreApart l.fn.store.layout 0 l.blocks;
  of_kind : AreOfKind l.sifted.kept.kind l.blocks;
  rows : ShareNoRow l.fn.store.layout past l.blocks;
  sifts : Sifts l.fn.store.layout (g.R.Rack.seen l.fn.rack).held past l.fn.sifted l.sifted;
}

abbrev pub decreases-loop-want : goal.decreases-loop-want
decreases-loop-want g l = length l.blocks
