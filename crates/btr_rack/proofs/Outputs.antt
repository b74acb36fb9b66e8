-- One piece more that went out.
use Rattle.std.proofs.Common.{◌≡◌, ℕ, ◌+◌, ◌-◌, ◌≤◌, List, ◌∷◌, ◌++◌, length, take, drop, ap, sym, ◌∙◌, append_assoc}
use Rattle.std.proofs.lemmas.List.{append-nil}
use Rattle.btr_rack.specs.declared.raw_call.RawCall.TheVariants.{Stored}
use Rattle.btr_rack.specs.History.{Event, event, refused}
use Rattle.btr_rack.specs.StdOut.{text_of}
use Rattle.btr_rack.proofs.Transfers.{take_piece}

-- where a call took a first part of what is left, that part more of the bytes went out
pub text_more : (done n : ℕ) (text bytes : List ℕ) (old new : List Event) → text_of old ≡ text ++ take done bytes
    → n ≤ length (take (length bytes - done) (drop done bytes))
    → new ≡ event (Stored 0) (take n (take (length bytes - done) (drop done bytes))) ∷ old
    → text_of new ≡ text ++ take (done + n) bytes
text_more done n text bytes old new before h e =
    let piece : List ℕ = take n (take (length bytes - done) (drop done bytes)) in
    ap text_of e ∙ ap (λ t. t ++ piece) before ∙ append_assoc text (take done bytes) piece ∙ ap (λ t. text ++ t) (sym (take_piece done n bytes h))

-- a refused call sends nothing out
pub text_same : (text : List ℕ) (old new : List Event) → text_of old ≡ text → new ≡ refused ∷ old → text_of new ≡ text
text_same text old new before e = ap text_of e ∙ append-nil (text_of old) ∙ before
