-- Texts that are written one behind another.
use Rattle.std.proofs.Common.{◌≡◌, ℕ, ◌+◌, min, List, [], ◌++◌, length, take, Option, Some, None, Result, Ok, Err, refl, sym, ap, ◌∙◌, subst, arith}
use Rattle.std.proofs.lemmas.List.{append_assoc, append-nil, take_min, take-append-le}
use Rattle.std.proofs.Math.Seq.{take-append-add}
use Rattle.std.specs.Result.{IsErr}
use Rattle.btr_rack.specs.Out.{Adds, Puts}
use Rattle.btr_rack.specs.declared.error.SinkError.{SinkError}
use Rattle.btr_text.specs.Text.{Wrote, WasCut, WritesOut}

-- nothing is added
pub adds_nothing : (out : Option (List ℕ)) → Adds out out []
adds_nothing None = refl
adds_nothing (Some text) = ap (λ l. Some l) (sym (append-nil text))

-- one text is added behind another
pub adds_twice : (old mid new : Option (List ℕ)) (first second : List ℕ) → Adds old mid first → Adds mid new second → Adds old new (first ++ second)
adds_twice None mid new first second a b = subst (λ o. Adds o new second) a b
adds_twice (Some text) mid new first second a b = subst (λ o. Adds o new second) a b ∙ ap (λ l. Some l) (append_assoc text first second)

-- a text that only waits
pub wrote_waiting : (out : Option (List ℕ)) (waited waits text : List ℕ) → waits ≡ waited ++ text → Wrote out out waited waits text
wrote_waiting out waited waits text is = record { put = []; adds = adds_nothing out; whole = is }

-- nothing was written
pub wrote_nothing : (out : Option (List ℕ)) (waits : List ℕ) → Wrote out out waits waits []
wrote_nothing out waits = wrote_waiting out waits waits [] (sym (append-nil waits))

-- what waited was put, and then a text that waits
pub wrote_flushed : (old new : Option (List ℕ)) (waited between waits text : List ℕ) → Adds old new waited → between ≡ [] → waits ≡ between ++ text
    → Wrote old new waited waits text
wrote_flushed old new waited between waits text adds none is =
    record { put = waited; adds = adds; whole = ap (λ l. waited ++ l) (is ∙ ap (λ l. l ++ text) none) }

-- a first part of what waited was put
pub cut_flushing : (old new : Option (List ℕ)) (waited waits text : List ℕ) → (n : ℕ) → Adds old new (take n waited) → waits ≡ []
    → WasCut old new waited waits text
cut_flushing old new waited waits text n adds none = record {
  count = min n (length waited);
  adds = subst (Adds old new) (sym (take_min n waited) ∙ sym (take-append-le (min n (length waited)) waited text (omega arith))) adds;
  empty = none;
}

-- a text was put at once, behind what waited
pub writes_at_once : {T : Type 0} (old mid new : Option (List ℕ)) (waited waits text : List ℕ) (r : Result T SinkError) → Adds old mid waited → waits
    ≡ [] → Puts mid new text r → WritesOut old new waited waits text r
writes_at_once old mid new waited waits text (Ok x) adds none puts =
    record {
      put = waited ++ text;
      adds = adds_twice old mid new waited text adds puts;
      whole = ap (λ l. (waited ++ text) ++ l) none ∙ append-nil (waited ++ text);
    }
writes_at_once old mid new waited waits text (Err e) adds none puts = record {
  count = length waited + puts.0;
  adds = subst (Adds old new) (sym (take-append-add waited text puts.0)) (adds_twice old mid new waited (take puts.0 text) adds puts.1);
  empty = none;
}

-- one text behind another
pub wrote_then : {old mid new : Option (List ℕ)} {waited between waits first second : List ℕ} → Wrote old mid waited between first
    → Wrote mid new between waits second → Wrote old new waited waits (first ++ second)
wrote_then {old = old} {mid = mid} {new = new} {waited = waited} {between = between} {waits = waits} {first = first} {second = second} a b = record {
  put = a.put ++ b.put;
  adds = adds_twice old mid new a.put b.put a.adds b.adds;
  whole =
      append_assoc a.put b.put waits ∙ ap (λ l. a.put ++ l) b.whole ∙ sym (append_assoc a.put between second) ∙ ap (λ l. l ++ second) a.whole
      ∙ append_assoc waited first second;
}

-- a text that was cut short, behind one that was written
pub cut_then : {old mid new : Option (List ℕ)} {waited between waits first second : List ℕ} → Wrote old mid waited between first
    → WasCut mid new between waits second → WasCut old new waited waits (first ++ second)
cut_then {old = old} {mid = mid} {new = new} {waited = waited} {between = between} {first = first} {second = second} a b =
    let whole : a.put ++ (between ++ second) ≡ waited ++ (first ++ second) =
    sym (append_assoc a.put between second) ∙ ap (λ l. l ++ second) a.whole ∙ append_assoc waited first second in
    record {
      count = length a.put + b.count;
      adds = subst (Adds old new) (sym (take-append-add a.put (between ++ second) b.count) ∙ ap (take (length a.put + b.count)) whole)
          (adds_twice old mid new a.put (take b.count (between ++ second)) a.adds b.adds);
      empty = b.empty;
    }

-- a text was cut short, and so was a longer one
pub cut_longer : {old new : Option (List ℕ)} {waited waits text : List ℕ} (more : List ℕ) → WasCut old new waited waits text
    → WasCut old new waited waits (text ++ more)
cut_longer {old = old} {new = new} {waited = waited} {text = text} more a =
    let n : ℕ = min a.count (length (waited ++ text)) in
    record {
      count = n;
      adds = subst (Adds old new) (sym (take_min a.count (waited ++ text)) ∙ sym (take-append-le n (waited ++ text) more (omega arith))
          ∙ ap (take n) (append_assoc waited text more)) a.adds;
      empty = a.empty;
    }

-- the same text, said otherwise
pub wrote_as : {old new : Option (List ℕ)} {waited waits text : List ℕ} (other : List ℕ) → text ≡ other → Wrote old new waited waits text
    → Wrote old new waited waits other
wrote_as {old = old} {new = new} {waited = waited} {waits = waits} other same a = subst (Wrote old new waited waits) same a

-- a text that was cut short is the same text, said otherwise
pub cut_as : {old new : Option (List ℕ)} {waited waits text : List ℕ} (other : List ℕ) → text ≡ other → WasCut old new waited waits text
    → WasCut old new waited waits other
cut_as {old = old} {new = new} {waited = waited} {waits = waits} other same a = subst (WasCut old new waited waits) same a

-- a text that was written from an empty buffer, and what waits then put
pub wrote_put : {T : Type 0} {old mid : Option (List ℕ)} {waited waits text : List ℕ} (new : Option (List ℕ)) (r : Result T SinkError) → waited ≡ []
    → Wrote old mid waited waits text → Puts mid new waits r → Puts old new text r
wrote_put {old = old} {mid = mid} {waits = waits} {text = text} new (Ok x) none a puts =
    subst (Adds old new) (a.whole ∙ ap (λ l. l ++ text) none) (adds_twice old mid new a.put waits a.adds puts)
wrote_put {old = old} {mid = mid} {waits = waits} {text = text} new (Err e) none a puts = (
  length a.put + puts.0,
  subst (Adds old new) (sym (take-append-add a.put waits puts.0) ∙ ap (take (length a.put + puts.0)) (a.whole ∙ ap (λ l. l ++ text) none))
      (adds_twice old mid new a.put (take puts.0 waits) a.adds puts.1),
)

-- a text from an empty buffer that was cut short
pub cut_put : {old new : Option (List ℕ)} {waited waits text : List ℕ} → waited ≡ [] → WasCut old new waited waits text → (n : ℕ) × Adds old new (take n text)
cut_put {old = old} {new = new} {text = text} none a = (a.count, subst (λ l. Adds old new (take a.count (l ++ text))) none a.adds)

-- an error that is passed on
pub cut_writes : {T : Type 0} {old new : Option (List ℕ)} {waited waits text : List ℕ} (r : Result T SinkError) → IsErr r
    → WasCut old new waited waits text → WritesOut old new waited waits text r
cut_writes (Ok x) is a = absurd (cc is)
cut_writes (Err e) is a = a

-- a text behind one that was written
pub writes_then : {T : Type 0} {old mid : Option (List ℕ)} {waited between first : List ℕ} (new : Option (List ℕ)) (waits second : List ℕ)
    (r : Result T SinkError) → Wrote old mid waited between first → WritesOut mid new between waits second r
    → WritesOut old new waited waits (first ++ second) r
writes_then new waits second (Ok x) a b = wrote_then a b
writes_then new waits second (Err e) a b = cut_then a b

-- from other bytes that are the same
pub writes_from : {T : Type 0} (old new : Option (List ℕ)) (waited waited' waits text : List ℕ) (r : Result T SinkError) → waited ≡ waited'
    → WritesOut old new waited waits text r → WritesOut old new waited' waits text r
writes_from old new waited waited' waits text r same a = subst (λ l. WritesOut old new l waits text r) same a

-- the same text, said otherwise
pub writes_as : {T : Type 0} (old new : Option (List ℕ)) (waited waits text other : List ℕ) (r : Result T SinkError) → text ≡ other
    → WritesOut old new waited waits text r → WritesOut old new waited waits other r
writes_as old new waited waits text other r same a = subst (λ l. WritesOut old new waited waits l r) same a

-- an error that is passed on, of a text that began in an empty buffer
pub cut_puts : {T : Type 0} {old new : Option (List ℕ)} {waited waits text : List ℕ} (r : Result T SinkError) → IsErr r → waited ≡ []
    → WasCut old new waited waits text → Puts old new text r
cut_puts (Ok x) is none a = absurd (cc is)
cut_puts (Err e) is none a = cut_put none a
