-- Streams read back.
use Rattle.std.proofs.Common.{◌≡◌, ℕ, ◌+◌, ◌<◌, ◌≤◌, ◌^◌, zero, suc, Bool, true, false, cond, List, [], ◌∷◌, ◌++◌, length, take, drop, Option, Some, None}
use Rattle.std.proofs.Common.{refl, sym, ap, ◌∙◌, subst, arith, append_assoc, append-nil, length-append}
use Rattle.std.specs.Prelude.{flat_map}
use Rattle.std.specs.Int.{from_le_bytes, to_le_bytes, w16, w32, w64}
use Rattle.std.specs.Str.{bytes_eq}
use Rattle.std.proofs.lemmas.Nat.{from_le_bytes-to_le_bytes_2, from_le_bytes-to_le_bytes_4, from_le_bytes-to_le_bytes_8}
use Rattle.std.proofs.lemmas.Slice.Eq.{bytes_eq-Decides}
use Rattle.std.proofs.Math.Seq.{drop-append-add, drop-append_seam, take-append_seam}
use Rattle.btr_send.specs.Command.{attribute, command, command_with, header, number_attribute}
use Rattle.btr_send.specs.Replay.{Command, Subvol, MkFile, MkDir, Write, Truncate, End, Read, Made, Further, FieldsFit, IsInner, AreInner, ReplayLaw}
use Rattle.btr_send.specs.Replay.{behind_command, behind_first, behind_play, behind_read, by_fields, bytes_of, first_data, from_first, members_of}
use Rattle.btr_send.specs.Replay.{nothing_made, play, play_all, play_on, read_command, replay, replay_from}
use Rattle.btr_send.proofs.Encoding.{attribute_length}

-- what is taken by the length of the first of two lists is that list
taken : (n : ℕ) (xs ys : List ℕ) → n ≡ length xs → take n (xs ++ ys) ≡ xs
taken n xs ys e = ap (λ k. take k (xs ++ ys)) e ∙ take-append_seam xs ys

-- what is left behind the length of the first of two lists is the second
dropped : (n : ℕ) (xs ys : List ℕ) → n ≡ length xs → drop n (xs ++ ys) ≡ ys
dropped n xs ys e = ap (λ k. drop k (xs ++ ys)) e ∙ drop-append_seam xs ys

-- the first attribute of some
module _ (kind : ℕ) (xs more : List ℕ) (short : length xs < 2 ^ 16) where
  -- the data of the first attribute is read back
  pub first_back : first_data (attribute kind xs ++ more) ≡ xs
  unfolding attribute
  first_back = taken (from_le_bytes w16 (to_le_bytes w16 (length xs) ++ (xs ++ more))) xs more (from_le_bytes-to_le_bytes_2 (length xs) short)

  -- what comes behind the first attribute is read back
  pub more_back : behind_first (attribute kind xs ++ more) ≡ more
  unfolding attribute
  more_back = dropped (from_le_bytes w16 (to_le_bytes w16 (length xs) ++ (xs ++ more))) xs more (from_le_bytes-to_le_bytes_2 (length xs) short)

-- the only one
pub alone_back : (kind : ℕ) (xs : List ℕ) → length xs < 2 ^ 16 → first_data (attribute kind xs) ≡ xs
alone_back kind xs short = ap (λ a. first_data a) (sym (append-nil (attribute kind xs))) ∙ first_back kind xs [] short

-- a number in the attribute behind the first
number_back : (kind n : ℕ) (more : List ℕ) → n < 2 ^ 64 → from_le_bytes w64 (drop 4 (number_attribute kind n ++ more)) ≡ n
unfolding attribute
number_back kind n more fits = from_le_bytes-to_le_bytes_8 n fits

-- the number of a command, and its attributes
abbrev number_of : Command → ℕ
number_of (Subvol name uuid transid) = 1
number_of (MkFile path) = 3
number_of (MkDir path) = 4
number_of (Write path offset bytes) = 15
number_of (Truncate path size) = 17
number_of End = 21

-- the attributes of a command, as they stand behind its head
abbrev attributes_of : Command → List ℕ
attributes_of (Subvol name uuid transid) = attribute 15 name ++ attribute 1 uuid ++ number_attribute 2 transid
attributes_of (MkFile path) = attribute 15 path
attributes_of (MkDir path) = attribute 15 path
attributes_of (Write path offset bytes) = attribute 15 path ++ number_attribute 18 offset ++ attribute 19 bytes
attributes_of (Truncate path size) = attribute 15 path ++ number_attribute 4 size
attributes_of End = []

-- the command is the one of its number and its attributes
is_command : (c : Command) → bytes_of c ≡ command (number_of c) (attributes_of c)
is_command (Subvol name uuid transid) = refl
is_command (MkFile path) = refl
is_command (MkDir path) = refl
is_command (Write path offset bytes) = refl
is_command (Truncate path size) = refl
is_command End = refl

-- the number of a command fits its two bytes
small_number : (c : Command) → number_of c < 2 ^ 16
small_number (Subvol name uuid transid) = omega arith
small_number (MkFile path) = omega arith
small_number (MkDir path) = omega arith
small_number (Write path offset bytes) = omega arith
small_number (Truncate path size) = omega arith
small_number End = omega arith

-- a number as an attribute has twelve bytes
number_length : (kind n : ℕ) → length (number_attribute kind n) ≡ 12
number_length kind n = attribute_length kind (to_le_bytes w64 n)

-- the attributes of a sound command are short
short_attributes : (c : Command) → FieldsFit c → length (attributes_of c) < 2 ^ 32
short_attributes (Subvol name uuid transid) s =
    omega (
      arith,
      length-append (attribute 15 name ++ attribute 1 uuid) (number_attribute 2 transid),
      length-append (attribute 15 name) (attribute 1 uuid),
      attribute_length 15 name,
      attribute_length 1 uuid,
      number_length 2 transid,
      s.0,
      s.1,
    )
short_attributes (MkFile path) s = omega (arith, attribute_length 15 path, s)
short_attributes (MkDir path) s = omega (arith, attribute_length 15 path, s)
short_attributes (Write path offset bytes) s =
    omega (
      arith,
      length-append (attribute 15 path ++ number_attribute 18 offset) (attribute 19 bytes),
      length-append (attribute 15 path) (number_attribute 18 offset),
      attribute_length 15 path,
      number_length 18 offset,
      attribute_length 19 bytes,
      s.0,
      s.2,
    )
short_attributes (Truncate path size) s =
    omega (arith, length-append (attribute 15 path) (number_attribute 4 size), attribute_length 15 path, number_length 4 size, s.0)
short_attributes End s = omega arith

-- a number in the last attribute
last_number : (kind n : ℕ) → n < 2 ^ 64 → from_le_bytes w64 (drop 4 (number_attribute kind n)) ≡ n
unfolding attribute
last_number kind n fits = from_le_bytes-to_le_bytes_8 n fits

-- behind the uuid and the heads of both attributes stands the transid
behind_uuid : (uuid : List ℕ) (transid : ℕ) → length uuid ≡ 16 → drop 24 (attribute 1 uuid ++ number_attribute 2 transid) ≡ drop 4 (number_attribute 2 transid)
unfolding attribute
behind_uuid uuid transid e =
    let at : 20 ≡ length uuid + 4 = omega (arith, e) in
    ap (λ k. drop k (uuid ++ number_attribute 2 transid)) at ∙ drop-append-add uuid (number_attribute 2 transid) 4

-- behind the offset of a write and the head of its data stands the data
data_back : (offset : ℕ) (bytes : List ℕ) → drop 16 (number_attribute 18 offset ++ attribute 19 bytes) ≡ bytes
unfolding attribute
data_back offset bytes = refl

-- its fields stand where they are sought
uuid_back : (uuid : List ℕ) (transid : ℕ) → length uuid ≡ 16 → take 16 (drop 4 (attribute 1 uuid ++ number_attribute 2 transid)) ≡ uuid
unfolding attribute
uuid_back uuid transid e = taken 16 uuid (number_attribute 2 transid) (sym e)

-- the transid is read back from where it is sought
transid_back : (uuid : List ℕ) (transid : ℕ) → length uuid ≡ 16 → transid < 2 ^ 64 → from_le_bytes w64 (drop 24
    (attribute 1 uuid ++ number_attribute 2 transid)) ≡ transid
transid_back uuid transid e fits = ap (λ xs. from_le_bytes w64 xs) (behind_uuid uuid transid e) ∙ last_number 2 transid fits

-- the command of the fields of a sound one is that
pub fields_back : (c : Command) → FieldsFit c → by_fields (number_of c) (attributes_of c) ≡ c
fields_back (Subvol name uuid transid) s =
    let more = attribute 1 uuid ++ number_attribute 2 transid in
    ap (λ a. by_fields 1 a) (append_assoc (attribute 15 name) (attribute 1 uuid) (number_attribute 2 transid))
    ∙ (ap (λ path. Subvol path (take 16 (drop 4 (behind_first (attribute 15 name ++ more)))) (from_le_bytes w64 (drop 24 (behind_first
    (attribute 15 name ++ more))))) (first_back 15 name more s.0)
    ∙ (ap (λ x. Subvol name (take 16 (drop 4 x)) (from_le_bytes w64 (drop 24 x))) (more_back 15 name more s.0)
    ∙ (ap (λ u. Subvol name u (from_le_bytes w64 (drop 24 more))) (uuid_back uuid transid s.1)
    ∙ ap (λ t. Subvol name uuid t) (transid_back uuid transid s.1 s.2))))
fields_back (MkFile path) s = ap (λ p. MkFile p) (alone_back 15 path s)
fields_back (MkDir path) s = ap (λ p. MkDir p) (alone_back 15 path s)
fields_back (Write path offset bytes) s =
    let more = number_attribute 18 offset ++ attribute 19 bytes in
    ap (λ a. by_fields 15 a) (append_assoc (attribute 15 path) (number_attribute 18 offset) (attribute 19 bytes))
    ∙ (ap (λ p. Write p (from_le_bytes w64 (drop 4 (behind_first (attribute 15 path ++ more)))) (drop 16 (behind_first (attribute 15 path ++ more))))
    (first_back 15 path more s.0)
    ∙ (ap (λ x. Write path (from_le_bytes w64 (drop 4 x)) (drop 16 x)) (more_back 15 path more s.0)
    ∙ (ap (λ n. Write path n (drop 16 more)) (number_back 18 offset (attribute 19 bytes) s.1) ∙ ap (λ b. Write path offset b) (data_back offset bytes))))
fields_back (Truncate path size) s =
    let more = number_attribute 4 size in
    ap (λ p. Truncate p (from_le_bytes w64 (drop 4 (behind_first (attribute 15 path ++ more))))) (first_back 15 path more s.0)
    ∙ (ap (λ x. Truncate path (from_le_bytes w64 (drop 4 x))) (more_back 15 path more s.0) ∙ ap (λ n. Truncate path n) (last_number 4 size s.1))
fields_back End s = refl

-- a command at the front of some bytes
module _ (number : ℕ) (attributes rest : List ℕ) where
  -- the command of a number and attributes
  abbrev whole : List ℕ
  whole = command number attributes

  -- its length is read back
  size_back : length attributes < 2 ^ 32 → 10 + from_le_bytes w32 (whole ++ rest) ≡ length whole
  unfolding command command_with
  size_back short = ap (λ n. 10 + n) (from_le_bytes-to_le_bytes_4 (length attributes) short) ∙ grind arith

  -- its number is read back
  command_back : number < 2 ^ 16 → from_le_bytes w16 (drop 4 (whole ++ rest)) ≡ number
  unfolding command command_with
  command_back small = from_le_bytes-to_le_bytes_2 number small

  -- its attributes stand behind its head
  attributes_back : drop 10 whole ≡ attributes
  unfolding command command_with
  attributes_back = refl

-- bytes are found to be equal to themselves
pub same_bytes : (xs : List ℕ) → bytes_eq xs xs ≡ true
same_bytes xs = (bytes_eq-Decides xs xs).1 refl

-- what is read of some bytes, cut into the first command and what is behind it
abbrev cut : ℕ → List ℕ → List ℕ → Option Read
cut number front behind =
    let first = by_fields number (drop 10 front) in
    cond (bytes_eq front (bytes_of first)) (Some (record { first = first; rest = behind })) None

-- where a test is true, what was read is given
if_same : (b : Bool) (x : Read) → b ≡ true → cond b (Some x) None ≡ Some x
if_same true x e = refl
if_same false x e = absurd (cc e)

-- a sound command is read back
pub read_back : (c : Command) (rest : List ℕ) → FieldsFit c → read_command (bytes_of c ++ rest) ≡ Some (record { first = c; rest = rest })
read_back c rest s =
    let n = number_of c in
    let a = attributes_of c in
    let bytes = command n a ++ rest in
    let size = size_back n a rest (short_attributes c s) in
    ap (λ x. read_command (x ++ rest)) (is_command c)
    ∙ (ap (λ k. cut k (take (10 + from_le_bytes w32 bytes) bytes) (drop (10 + from_le_bytes w32 bytes) bytes)) (command_back n a rest (small_number c))
    ∙ (ap (λ f. cut n f (drop (10 + from_le_bytes w32 bytes) bytes)) (taken (10 + from_le_bytes w32 bytes) (command n a) rest size)
    ∙ (ap (λ b. cut n (command n a) b) (dropped (10 + from_le_bytes w32 bytes) (command n a) rest size)
    ∙ (ap (λ x. cond (bytes_eq (command n a) (bytes_of (by_fields n x))) (Some (record { first = by_fields n x; rest = rest })) None) (attributes_back n a rest)
    ∙ (ap (λ f. cond (bytes_eq (command n a) (bytes_of f)) (Some (record { first = f; rest = rest })) None) (fields_back c s)
    ∙ (ap (λ x. cond (bytes_eq x (bytes_of c)) (Some (record { first = c; rest = rest })) None) (sym (is_command c))
    ∙ if_same (bytes_eq (bytes_of c) (bytes_of c)) (record { first = c; rest = rest }) (same_bytes (bytes_of c))))))))

-- what is behind an inner command is what it makes
inner_step : (further : Further) (made : Made) (c : Command) (rest : List ℕ) → IsInner c → behind_command further made c rest ≡ behind_play further
    (play made c) rest
inner_step further made (Subvol name uuid transid) rest i = absurd i
inner_step further made (MkFile path) rest i = refl
inner_step further made (MkDir path) rest i = refl
inner_step further made (Write path offset bytes) rest i = refl
inner_step further made (Truncate path size) rest i = refl
inner_step further made End rest i = absurd i

-- behind a command that is played the replay is what the others make, if so whatever was made
played_on : (further : Further) (more : List Command) (o : Option Made) (rest : List ℕ) → ((made : Made) → further made rest ≡ members_of (play_all more made))
    → behind_play further o rest ≡ members_of (play_on (play_all more) o)
played_on further more None rest h = refl
played_on further more (Some made) rest h = h made

-- the bytes of inner commands, and of the end
abbrev rest_of : List Command → List ℕ
rest_of inner = flat_map bytes_of inner ++ bytes_of End

-- the replay of inner commands and the end is what these commands make
replayed : (inner : List Command) (n : ℕ) (made : Made) → length inner < n → AreInner inner
    → replay_from n made (rest_of inner) ≡ members_of (play_all inner made)
replayed inner zero made fuel i = absurd (omega (arith, fuel))
replayed [] (suc m) made fuel i =
    ap (λ r. behind_read (replay_from m) made r) (ap (λ b. read_command b) (sym (append-nil (bytes_of End))) ∙ read_back End [] tt)
replayed (c ∷ more) (suc m) made fuel i =
    ap (λ b. behind_read (replay_from m) made (read_command b)) (append_assoc (bytes_of c) (flat_map bytes_of more) (bytes_of End))
    ∙ (ap (λ r. behind_read (replay_from m) made r) (read_back c (rest_of more) i.1)
    ∙ (inner_step (replay_from m) made c (rest_of more) i.0
    ∙ played_on (replay_from m) more (play made c) (rest_of more) (λ after. replayed more m after (omega (arith, fuel)) i.2)))

-- there are no more commands than bytes
some_of : (n : ℕ) (a : List ℕ) → 0 < length (command n a)
unfolding command command_with
some_of n a = omega arith

-- each command that is read back has some bytes
some_bytes : (c : Command) → 0 < length (bytes_of c)
some_bytes c = subst (λ (b : List ℕ). 0 < length b) (sym (is_command c)) (some_of (number_of c) (attributes_of c))

-- commands have at least as many bytes as they are
count_bytes : (inner : List Command) → length inner ≤ length (flat_map bytes_of inner)
count_bytes [] = omega arith
count_bytes (c ∷ more) = omega (arith, length-append (bytes_of c) (flat_map bytes_of more), some_bytes c, count_bytes more)

-- bytes that begin with the header are replayed from the first command on
if_header : (bytes rest : List ℕ) → take 17 bytes ≡ header → drop 17 bytes ≡ rest → replay bytes ≡ from_first (read_command rest)
if_header bytes rest e d =
    ap (λ h. cond (bytes_eq h header) (from_first (read_command (drop 17 bytes))) None) e
    ∙ (ap (λ b. cond b (from_first (read_command (drop 17 bytes))) None) (same_bytes header) ∙ ap (λ r. from_first (read_command r)) d)

-- the replay of a stream of sound commands is what these commands make
pub replays : ReplayLaw
replays name uuid transid inner sound are =
    let first = Subvol name uuid transid in
    let behind = bytes_of first ++ rest_of inner in
    if_header (header ++ behind) behind refl refl
    ∙ (ap (λ r. from_first r) (read_back first (rest_of inner) sound)
    ∙ replayed inner (length (rest_of inner) + 1) nothing_made
    (omega (arith, length-append (flat_map bytes_of inner) (bytes_of End), count_bytes inner)) are)
