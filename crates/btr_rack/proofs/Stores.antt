-- What storing bytes, one piece after the other, makes of a file.
use Rattle.std.proofs.Common.{◌≡◌, ℕ, ◌+◌, ◌-◌, ◌<◌, ◌≤◌, ◌⊎◌, List, [], ◌∷◌, ◌++◌, length, take, replicate, refl, ap, ◌∙◌, inl, inr, arith, append_assoc}
use Rattle.std.proofs.Common.{length-append, sym, subst}
use Rattle.std.proofs.lemmas.List.{length-take-le, take_all, append-nil, replicate-append-replicate}
use Rattle.std.proofs.lemmas.Bool.{cases_lt}
use Rattle.std.proofs.lemmas.Grind.{common_steps}
use Rattle.btr_rack.specs.declared.raw_call.RawCall.TheVariants.{Stored}
use Rattle.btr_rack.specs.History.{Event, refused, interrupted, Moves, nothing_moved, piece_moved, none_moved, Moved, Stops, resized, overwritten, replay}

-- a resized file has the length
pub length_resized : (len : ℕ) (file : List ℕ) → length (resized len file) ≡ len
length_resized len file = grind (arith, common_steps)

-- a file resized to its own length is as it was
pub resized_same : (len : ℕ) (file : List ℕ) → length file ≡ len → resized len file ≡ file
resized_same len file e = grind (arith, common_steps)

-- a file that ends before a place is longer by zeros from there on
pub resized_gap : (a count : ℕ) (file : List ℕ) → length file ≤ a → resized (a + count) file ≡ resized a file ++ replicate count 0
resized_gap a count file h =
    let whole : take (a + count) file ≡ file = take_all (a + count) file (omega arith) in
    let zeros : (a + count) - length file ≡ (a - length file) + count = omega arith in
    ap (λ x. x ++ replicate ((a + count) - length file) 0) whole
    ∙ ap (λ n. file ++ replicate n 0) zeros
    ∙ ap (λ r. file ++ r) (sym (replicate-append-replicate (a - length file) count 0))
    ∙ sym (append_assoc file (replicate (a - length file) 0) (replicate count 0))
    ∙ ap (λ x. (x ++ replicate (a - length file) 0) ++ replicate count 0) (sym (take_all a file h))

-- zeros appended where no byte waits
pub gap_contents : (position count position' : ℕ) (file buffer : List ℕ) → length file ≤ position → buffer ≡ [] → position' ≡ position + count
    → resized position' file ++ buffer ≡ (resized position file ++ buffer) ++ replicate count 0
gap_contents position count position' file buffer h e p = rw (e, p)
    (append-nil (resized (position + count) file) ∙ resized_gap position count file h
    ∙ ap (λ x. x ++ replicate count 0) (sym (append-nil (resized position file))))

-- bytes stored at the end or behind it
pub overwritten_end : (off : ℕ) (bytes file : List ℕ) → length file ≤ off → overwritten off bytes file ≡ resized off file ++ bytes
overwritten_end off bytes file h = grind (arith, common_steps)

-- the first piece, stored at the end of a file or behind it, stands at its end
grown_first : (off : ℕ) (bytes file file' piece : List ℕ) → length file ≤ off → bytes ≡ [] → file' ≡ file
    → overwritten (off + length bytes) piece file' ≡ resized off file ++ (bytes ++ piece)
grown_first off bytes file file' piece h e f =
    let at : off + length bytes ≡ off = omega (arith, ap length e) in
    ap (λ n. overwritten n piece file') at ∙ ap (λ g. overwritten off piece g) f ∙ overwritten_end off piece file h
    ∙ ap (λ b. resized off file ++ (b ++ piece)) (sym e)

-- one piece more, stored behind those that stand at the end, stands behind them
grown_next : (off : ℕ) (bytes file file' piece : List ℕ) → file' ≡ resized off file ++ bytes → overwritten (off + length bytes) piece file'
    ≡ resized off file ++ (bytes ++ piece)
grown_next off bytes file file' piece f =
    let l : length (resized off file ++ bytes) ≡ off + length bytes =
    length-append (resized off file) bytes ∙ ap (λ n. n + length bytes) (length_resized off file) in
    rw f (overwritten_end (off + length bytes) piece (resized off file ++ bytes) (omega arith)
    ∙ ap (λ x. x ++ piece) (resized_same (off + length bytes) (resized off file ++ bytes) l) ∙ append_assoc (resized off file) bytes piece)

-- no byte was stored, and the file is as it was, or the bytes stand at its end
abbrev pub Made : ℕ → List ℕ → List ℕ → List ℕ → Type 0
Made off file bytes file' = ((bytes ≡ []) × (file' ≡ file)) ⊎ ((0 < length bytes) × (file' ≡ resized off file ++ bytes))

-- where pieces were stored, one piece more makes a file that they all end
made_more : (off : ℕ) (bytes file file' piece : List ℕ) → length file ≤ off → 0 < length piece → Made off file bytes file'
    → Made off file (bytes ++ piece) (overwritten (off + length bytes) piece file')
made_more off bytes file file' piece h some (inl m) = inr (grind (arith, common_steps), grown_first off bytes file file' piece h m.0 m.1)
made_more off bytes file file' piece h some (inr m) = inr (grind (arith, common_steps), grown_next off bytes file file' piece m.1)

-- bytes that were stored since, one piece after the other, stand at the end of the file
moves_made : (off : ℕ) (old : List Event) (again : ℕ) (now : List Event) (bytes : List ℕ) → length (replay old) ≤ off
    → Moves Stored off old again now bytes → Made off (replay old) bytes (replay now)
moves_made off old _ _ _ h nothing_moved = inl (refl, refl)
moves_made off old _ _ _ h (piece_moved again now bytes piece before some) = made_more off bytes (replay old) (replay now) piece h some
    (moves_made off old again now bytes h before)
moves_made off old _ _ _ h (none_moved again now bytes before) = moves_made off old again now bytes h before

-- a call that was refused or interrupted leaves what was made
stops_made : (off : ℕ) (old before new : List Event) (bytes : List ℕ) → Made off (replay old) bytes (replay before) → (new ≡ refused ∷ before)
    ⊎ (new ≡ interrupted ∷ before) → Made off (replay old) bytes (replay new)
stops_made off old before new bytes made (inl e) = subst (λ n. Made off (replay old) bytes (replay n)) (sym e) made
stops_made off old before new bytes made (inr e) = subst (λ n. Made off (replay old) bytes (replay n)) (sym e) made

-- all of them were stored, or a first part
pub stores_made : (off : ℕ) (old new : List Event) (bytes : List ℕ) (stored : ℕ) → length (replay old) ≤ off → stored ≤ length bytes
    → (stored ≡ length bytes → Moved Stored off old new bytes) → (stored < length bytes → Stops Stored off old new (take stored bytes))
    → Made off (replay old) (take stored bytes) (replay new)
stores_made off old new bytes stored h within all some = elim (cases_lt stored (length bytes)) [
  | inl short ↦
      let s = some short in
      stops_made off old s.before new (take stored bytes) (moves_made off old s.moved.again s.before (take stored bytes) h s.moved.moves)
      (elim s.stop [ inl e ↦ inl e | inr e ↦ inr e.1 ])
  | inr past ↦
      let whole : stored ≡ length bytes = omega (arith, within, past) in
      let m = all whole in
      subst (λ bs. Made off (replay old) bs (replay new)) (sym (take_all stored bytes (omega (arith, whole)))) (moves_made off old m.again new bytes h m.moves)
]

-- the first bytes of some are not none, where they are said to be more than none
made_none : (bytes : List ℕ) (stored : ℕ) → take stored bytes ≡ [] → 0 < stored → stored ≤ length bytes → ⊥
made_none bytes stored e some h = grind (arith, common_steps, ap length e, length-take-le stored bytes h)

-- where the first bytes are more than none, more than none were asked for
made_some_of_none : (stored : ℕ) (bytes : List ℕ) → 0 < length (take stored bytes) → stored ≡ 0 → ⊥
made_some_of_none stored bytes h e = let k : 0 < length (take 0 bytes) = rw e at h in omega (arith, k)

-- where some bytes were stored, the file ends behind them
pub made_some : (off stored : ℕ) (file bytes file' : List ℕ) → Made off file (take stored bytes) file' → 0 < stored → stored ≤ length bytes
    → (length file' ≡ off + stored) × (resized (off + stored) file' ≡ resized off file ++ take stored bytes)
made_some off stored file bytes file' (inl m) some h = absurd (made_none bytes stored m.0 some h)
made_some off stored file bytes file' (inr m) some h =
    let l : length file' ≡ off + stored =
    rw m.1 (length-append (resized off file) (take stored bytes) ∙ ap (λ n. n + length (take stored bytes)) (length_resized off file)
    ∙ ap (λ n. off + n) (length-take-le stored bytes h)) in
    (l, resized_same (off + stored) file' l ∙ m.1)

-- where none was, it is as it was
pub made_zero : (off stored : ℕ) (file bytes file' : List ℕ) → Made off file (take stored bytes) file' → stored ≤ 0 → (file' ≡ file)
    × (resized off file' ≡ resized off file ++ take stored bytes)
made_zero off stored file bytes file' (inl m) h = (m.1, ap (λ g. resized off g) m.1 ∙ sym (ap (λ b. resized off file ++ b) m.0 ∙ append-nil (resized off file)))
made_zero off stored file bytes file' (inr m) h = absurd (made_some_of_none stored bytes m.0 (omega arith))
