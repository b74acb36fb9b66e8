-- Commands byte by byte.
use Rattle.std.proofs.Common.{◌≡◌, ◌≢◌, ℕ, ◌+◌, ◌-◌, ◌≤◌, Option, Some, None, IfSome, List, [], ◌++◌, length, take, drop, replicate, Result, Ok, Err}
use Rattle.std.proofs.Common.{refl, sym, ap, ◌∙◌, arith, append_assoc, length-append, length-drop}
use Rattle.std.specs.Prelude.{OnOk}
use Rattle.std.specs.Int.{to_le_bytes, w16, w32}
use Rattle.std.proofs.Math.Seq.{drop-append_seam}
use Rattle.std.proofs.lemmas.List.{take-append-drop, drop-drop}
use Rattle.btr_base.specs.Crc.{crc32c, register}
use Rattle.btr_send.specs.Command.{attribute, command, command_with, IsLastCrc}

-- an attribute has four bytes before its data
pub attribute_length : (kind : ℕ) (bytes : List ℕ) → length (attribute kind bytes) ≡ 4 + length bytes
unfolding attribute
attribute_length kind bytes = grind (arith, length-append)

-- the type, the length and the data, put one behind another, are the attribute
pub attribute_behind : (old : List ℕ) (kind : ℕ) (bytes : List ℕ) → old ++ to_le_bytes w16 kind ++ to_le_bytes w16
    (length bytes) ++ bytes ≡ old ++ attribute kind bytes
unfolding attribute
attribute_behind old kind bytes =
    append_assoc (old ++ to_le_bytes w16 kind) (to_le_bytes w16 (length bytes)) bytes
    ∙ append_assoc old (to_le_bytes w16 kind) (to_le_bytes w16 (length bytes) ++ bytes)
    ∙ ap (λ x. old ++ x) (sym (append_assoc (to_le_bytes w16 kind) (to_le_bytes w16 (length bytes)) bytes))

-- how long some bytes are with one attribute more
pub attribute_more : (old new : List ℕ) (kind : ℕ) (bytes : List ℕ) → new ≡ old ++ attribute kind bytes → length new ≡ length old + (4 + length bytes)
attribute_more old new kind bytes e = ap (λ (x : List ℕ). length x) e ∙ (length-append old (attribute kind bytes)
    ∙ ap (λ (n : ℕ). length old + n) (attribute_length kind bytes))

module _ (number : ℕ) (rest : List ℕ) where
  -- a command whose head is still blank
  abbrev blank : List ℕ
  blank = replicate 10 0 ++ rest

  -- with the length of its attributes in the head
  abbrev first : List ℕ
  first = take 0 blank ++ to_le_bytes w32 (length rest) ++ drop (0 + length (to_le_bytes w32 (length rest))) blank

  -- with its number in the head too
  abbrev second : List ℕ
  second = take 4 first ++ to_le_bytes w16 number ++ drop (4 + length (to_le_bytes w16 number)) first

  -- with a checksum in the head too
  abbrev third : ℕ → List ℕ
  third sum = take 6 second ++ to_le_bytes w32 sum ++ drop (6 + length (to_le_bytes w32 sum)) second

  -- with length and number it is the command with a checksum of 0
  unsummed : second ≡ command_with 0 number rest
  unfolding command_with
  unsummed = refl

  -- with a checksum it is the command with that checksum
  summed : (sum : ℕ) → third sum ≡ command_with sum number rest
  unfolding command_with
  summed sum = refl

  -- with the register over it as the checksum it is the command
  pub headed : third (register 0 second) ≡ command number rest
  unfolding command
  headed = summed (register 0 second) ∙ ap (λ x. command_with (register 0 x) number rest) unsummed

-- the head of a command without its checksum
begun : (number len : ℕ) (old a b p q : List ℕ) → take 10 old ≡ replicate 10 0 → length old ≡ 10 + len → p ≡ to_le_bytes w32 len → q ≡ to_le_bytes w16 number
    → a ≡ take 0 old ++ p ++ drop (0 + length p) old → b ≡ take 4 a ++ q ++ drop (4 + length q) a → b ≡ second number (drop 10 old)
begun number len old a b p q blanks long ep eq ea eb =
    let rest = drop 10 old in
    let o : old ≡ blank number rest = sym (take-append-drop 10 old) ∙ ap (λ x. x ++ rest) blanks in
    let n : len ≡ length rest = omega (arith, long, length-drop 10 old) in
    let p' : p ≡ to_le_bytes w32 (length rest) = ep ∙ ap (λ k. to_le_bytes w32 k) n in
    let a' : a ≡ first number rest = ea ∙ (ap (λ x. take 0 x ++ p ++ drop (0 + length p) x) o
    ∙ ap (λ y. take 0 (blank number rest) ++ y ++ drop (0 + length y) (blank number rest)) p') in
    eb ∙ (ap (λ x. take 4 x ++ q ++ drop (4 + length q) x) a'
    ∙ ap (λ y. take 4 (first number rest) ++ y ++ drop (4 + length y) (first number rest)) eq)

-- what stands behind the head is as it was
head_dropped : (number k : ℕ) (rest : List ℕ) → drop (10 + k) (command_with 0 number rest) ≡ drop k rest
unfolding command_with
head_dropped number k rest = sym (drop-drop k 10 (command_with 0 number rest))

-- a command without its checksum has ten bytes before its attributes
head_length : (number : ℕ) (rest : List ℕ) → length (command_with 0 number rest) ≡ 10 + length rest
unfolding command_with
head_length number rest = grind (arith, length-append)

-- what is the CRC-32C of the last 4096 bytes stays so when length and number are written
last_kept : (number crc : ℕ) (old b : List ℕ) → b ≡ command_with 0 number (drop 10 old) → IsLastCrc old crc → IsLastCrc b crc
last_kept number crc old b is h =
    let rest = drop 10 old in
    let long : length b ≡ length old = ap length is ∙ omega (arith, head_length number rest, length-drop 10 old, h.0) in
    let k = length old - 4096 - 10 in
    let behind : length old - 4096 ≡ 10 + k = omega (arith, h.0) in
    let same : drop (length b - 4096) b ≡ drop (length old - 4096) old =
    ap (λ n. drop (n - 4096) b) long ∙ ap (drop (length old - 4096)) is ∙ ap (λ n. drop n (command_with 0 number rest)) behind
    ∙ head_dropped number k rest ∙ drop-drop k 10 old ∙ ap (λ n. drop n old) (sym behind) in
    (omega (arith, long, h.0), h.1 ∙ ap crc32c (sym same))

-- what is known as the CRC-32C of the last 4096 bytes, if anything, stays so when length and number are written
pub known_kept : (number len : ℕ) (crc : Option ℕ) (old a b p q : List ℕ) → take 10 old ≡ replicate 10 0 → length old ≡ 10 + len
    → p ≡ to_le_bytes w32 len → q ≡ to_le_bytes w16 number → a ≡ take 0 old ++ p ++ drop (0 + length p) old → b ≡ take 4 a ++ q ++ drop (4 + length q) a
    → IfSome crc (IsLastCrc old) → IfSome crc (IsLastCrc b)
known_kept number len None old a b p q blanks long ep eq ea eb known = tt
known_kept number len (Some crc) old a b p q blanks long ep eq ea eb known =
    last_kept number crc old b (begun number len old a b p q blanks long ep eq ea eb ∙ unsummed number (drop 10 old)) known

-- the last attribute is a sector
last_is : (old part : List ℕ) (kind : ℕ) → length part ≡ 4096 → drop (length (old ++ attribute kind part) - 4096) (old ++ attribute kind part) ≡ part
last_is old part kind long =
    let front = old ++ to_le_bytes w16 kind ++ to_le_bytes w16 (length part) in
    let n : length (front ++ part) - 4096 ≡ length front = omega (arith, length-append front part, long) in
    ap (λ (x : List ℕ). drop (length x - 4096) x) (sym (attribute_behind old kind part)) ∙ ap (λ k. drop k (front ++ part)) n ∙ drop-append_seam front part

-- what is known as the CRC-32C of the sector that was added last is that of the last 4096 bytes
pub last_known : (old new part : List ℕ) (kind : ℕ) (crc : Option ℕ) → 10 ≤ length old → new ≡ old ++ attribute kind part
    → IfSome crc (λ c. (length part ≡ 4096) × (c ≡ crc32c part)) → IfSome crc (IsLastCrc new)
last_known old new part kind None long is h = tt
last_known old new part kind (Some crc) long is h =
    let whole = attribute_more old new kind part is in
    let same : drop (length new - 4096) new ≡ part = ap (λ (x : List ℕ). drop (length x - 4096) x) is ∙ last_is old part kind h.0 in
    (omega (arith, whole, long, h.0), h.1 ∙ ap crc32c (sym same))

-- a blank head in which length, number and checksum were written is that of the command
pub head_written : (number len sum : ℕ) (old a b c p q r : List ℕ) → take 10 old ≡ replicate 10 0 → length old ≡ 10 + len
    → p ≡ to_le_bytes w32 len → q ≡ to_le_bytes w16 number → r ≡ to_le_bytes w32 sum
    → a ≡ take 0 old ++ p ++ drop (0 + length p) old → b ≡ take 4 a ++ q ++ drop (4 + length q) a
    → sum ≡ register 0 b → c ≡ take 6 b ++ r ++ drop (6 + length r) b → c ≡ command number (drop 10 old)
head_written number len sum old a b c p q r blanks long ep eq er ea eb es ec =
    let rest = drop 10 old in
    let b' : b ≡ second number rest = begun number len old a b p q blanks long ep eq ea eb in
    let s' : sum ≡ register 0 (second number rest) = es ∙ ap (λ x. register 0 x) b' in
    let r' : r ≡ to_le_bytes w32 (register 0 (second number rest)) = er ∙ ap (λ k. to_le_bytes w32 k) s' in
    ec ∙ (ap (λ x. take 6 x ++ r ++ drop (6 + length r) x) b' ∙ (ap (λ y. take 6 (second number rest) ++ y ++ drop (6 + length y) (second number rest)) r'
    ∙ headed number rest))

-- a result that holds of one value holds of an equal one
pub ok_as : {A T E : Type 0} (r : Result T E) (x y z : A) → OnOk r (x ≡ y) → y ≡ z → OnOk r (x ≡ z)
ok_as (Ok v) x y z h e = h ∙ e
ok_as (Err v) x y z h e = tt

-- a command isn't empty
pub command_some : (number : ℕ) (attributes : List ℕ) → command number attributes ≢ []
unfolding command command_with
command_some number attributes = λ e. cc

-- a buffer that holds a command isn't empty
pub filled_some : (b : List ℕ) (number : ℕ) (attributes : List ℕ) → b ≡ command number attributes → b ≢ []
filled_some b number attributes is = λ e. command_some number attributes (sym is ∙ e)
