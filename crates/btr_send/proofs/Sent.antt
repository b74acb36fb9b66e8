-- A whole stream makes what restore makes by the rules of send.
use Rattle.std.proofs.Common.{◌≡◌, ℕ, zero, suc, ◌+◌, ◌-◌, ◌*◌, ◌/◌, ◌<◌, ◌≤◌, ◌^◌, Bool, true, false, cond, length, replicate, take}
use Rattle.std.proofs.Common.{drop, List, [], ◌∷◌, ◌++◌}
use Rattle.std.proofs.Common.{Option, Some, None, Result, Ok, Err, refl, sym, ap, ◌∙◌, subst, arith, append_assoc, append-nil}
use Rattle.std.specs.Prelude.{codes, flat_map, fold, get_or, nat_le, not, ◌||◌, ◌==◌}
use Rattle.std.specs.Option.{option_map}
use Rattle.std.specs.Int.{from_le_bytes, to_le_bytes, w64}
use Rattle.std.proofs.lemmas.Bool.Decides.{nat_tests}
use Rattle.std.proofs.lemmas.List.{length-append, length-replicate, length-take-le, replicate-append-replicate, take-append-drop, take_all}
use Rattle.std.proofs.lemmas.Grind.{flat_map-append}
use Rattle.std.proofs.lemmas.Nat.{le_bytes_8}
use Rattle.btr_base.specs.Field.{bytes_at}
use Rattle.btr_files.specs.declared.counts.Counts.{Counts}
use Rattle.btr_files.specs.Content.{Piece, Bytes, Gap, content}
use Rattle.btr_files.specs.Entries.{DirEntry, entries}
use Rattle.btr_files.specs.FileAt as file
use Rattle.btr_files.specs.FileAt.{piece_bytes}
use Rattle.btr_files.specs.Sums.{kind_in}
use Rattle.btr_files.proofs.Contents.{content_is}
use Rattle.btr_items.specs.RootItem.{root_item_of}
use Rattle.btr_items.specs.Types.{root_item}
use Rattle.btr_items.specs.declared.fault.ItemFault.{ItemFault}
use Rattle.btr_items.specs.declared.inode.Inode.{Inode}
use Rattle.btr_items.specs.declared.root_item.RootItem.{RootItem}
use Rattle.btr_listing.specs.Deciding.{Met, decided, met_in, target}
use Rattle.btr_listing.specs.declared.decision.Decision.{Decision}
use Rattle.btr_listing.specs.declared.decision.Decision.TheVariants.{Skip, Empty, Folder}
use Rattle.btr_listing.specs.declared.decision.Decision.TheVariants as decision
use Rattle.btr_listing.specs.Lines.{counts_line, line, no_counts, path_in, with_dir, with_file, with_skip}
use Rattle.btr_listing.specs.Step.{Step, Dir, Up, Zeros, Done, Line}
use Rattle.btr_listing.specs.Step as step
use Rattle.btr_listing.proofs.Decidings.{Gives}
use Rattle.btr_prog.specs.Prog.{Prog, Return, Stop, Need, Emit, bind, exec, steps}
use Rattle.btr_prog.specs.Quiet.{quiet}
use Rattle.btr_rack.specs.Sink.{Tree, with_finished, longer}
use Rattle.btr_rack.specs.declared.row.Row.TheVariants as row
use Rattle.btr_read.specs.Fate.{NoTree}
use Rattle.btr_read.proofs.Pieces.{length-slice_range}
use Rattle.btr_restore.specs.Journey as restore
use Rattle.btr_restore.specs.Journey.{Listing, Treated, Over, Within, has_no_sums}
use Rattle.btr_restore.specs.Outcome.{after_step, nothing}
use Rattle.btr_super.specs.declared.superblock.Super.{Super}
use Rattle.btr_volume.specs.Lookup.{Program, formed, looks}
use Rattle.btr_volume.specs.Table.{chunk_root}
use Rattle.btr_volume.specs.Tree.{described, is_root_of, key, last, named_root, root_found, root_in, root_root, tree_of}
use Rattle.btr_volume.specs.declared.root.TreeRoot.{TreeRoot}
use Rattle.btr_walk.specs.Le.{TreeItem, le}
use Rattle.btr_walk.specs.Reading.{Map}
use Rattle.btr_send.specs.declared.progress.SentPart.{SentPart}
use Rattle.btr_send.specs.declared.source.Source.{Source}
use Rattle.btr_send.specs.Command.{attribute, below, command, header, subvol}
use Rattle.btr_send.specs.Replay.{Command, Subvol, MkFile, MkDir, Write, Truncate, End, Made, Member, member, File, Directory, IsInner, FieldsFit}
use Rattle.btr_send.specs.Replay.{AreInner}
use Rattle.btr_send.specs.Replay.{all_made, bytes_of, grow, made_with, members_of, nothing_made, play, play_all, play_on, replay}
use Rattle.btr_send.specs.Restored.{GivesSectors, OwnRules, SentLaw, at_top, behind_row, plain}
use Rattle.btr_send.specs.Restored as restored
use Rattle.btr_send.specs.Sending as sending
use Rattle.btr_send.specs.Sending.{behind, cuts, rules, writes}
use Rattle.btr_send.specs.Source.{source_at, source_found, source_in, unnamed, uuid_in}
use Rattle.btr_send.proofs.Beside as beside
use Rattle.btr_restore.proofs.Doing.{fold-append}
use Rattle.btr_send.proofs.ReadBack.{replays, same_bytes}
use Rattle.btr_send.proofs.Shorts.{IsShort, decided_short}

-- the subvolume that was sent, as a command that is read back
transid_fits : (n : ℕ) → from_le_bytes w64 (to_le_bytes w64 n) < 2 ^ 64
transid_fits n = omega arith

-- a transid has the bytes of the number that is read back of it
same_transid : (n : ℕ) → to_le_bytes w64 n ≡ to_le_bytes w64 (from_le_bytes w64 (to_le_bytes w64 n))
same_transid n = sym (le_bytes_8 (to_le_bytes w64 n) (from_le_bytes w64 (to_le_bytes w64 n)) refl fits refl)
  where
    fits : (i : ℕ) → get_or (to_le_bytes w64 n) i 0 < 256
    fits zero = omega arith
    fits (suc zero) = omega arith
    fits (suc (suc zero)) = omega arith
    fits (suc (suc (suc zero))) = omega arith
    fits (suc (suc (suc (suc zero)))) = omega arith
    fits (suc (suc (suc (suc (suc zero))))) = omega arith
    fits (suc (suc (suc (suc (suc (suc zero)))))) = omega arith
    fits (suc (suc (suc (suc (suc (suc (suc zero))))))) = omega arith
    fits (suc (suc (suc (suc (suc (suc (suc (suc i)))))))) = omega arith

-- the command of the subvolume that is put is one that is read back
same_subvol : (name uuid : List ℕ) (transid : ℕ) → subvol name uuid transid ≡ bytes_of (Subvol name uuid (from_le_bytes w64 (to_le_bytes w64 transid)))
same_subvol name uuid transid = ap (λ x. command 1 (attribute 15 name ++ attribute 1 uuid ++ attribute 2 x)) (same_transid transid)

-- the uuid of a ROOT_ITEM has 16 bytes, in the old form too
uuid_length : (body : List ℕ) → length (uuid_in body) ≡ 16
uuid_length body = by_form (length body == 439) refl
  where
    by_form : (b : Bool) → (length body == 439) ≡ b → length (cond b (bytes_at 16 247 body) (replicate 16 0)) ≡ 16
    by_form true e = let is : length body ≡ 439 = grind (arith, nat_tests) in length-slice_range body 247 263 (omega (arith, is))
    by_form false e = refl

-- nothing is asked of the value of a lookup
gives_all : {W F A : Type 0} (p : Prog W F ⊥ A) → Gives (λ a. Unit {0}) p
gives_all (Return a) = tt
gives_all (Stop f) = tt
gives_all (Need w k) = λ bytes. gives_all (k bytes)
gives_all (Emit step p) = tt

-- one command behind others
flat_more : (cs : List Command) (c : Command) → flat_map bytes_of (cs ++ c ∷ []) ≡ flat_map bytes_of cs ++ bytes_of c
flat_more cs c = flat_map-append bytes_of cs (c ∷ []) ∙ ap (λ x. flat_map bytes_of cs ++ x) (append-nil (bytes_of c))

-- inner commands, and one more that is inner and sound, are inner
inner_more : (cs : List Command) (c : Command) → AreInner cs → IsInner c → FieldsFit c → AreInner (cs ++ c ∷ [])
inner_more [] c h i s = (i, s, tt)
inner_more (d ∷ cs) c h i s = (h.0, h.1, inner_more cs c h.2 i s)

-- what more commands make behind some, they make behind a first command too
on_more : (cs ds : List Command) (o : Option Made) (made y : Made) → ((z : Made) → play_all cs z ≡ Some made → play_all ds z ≡ Some y)
    → play_on (play_all cs) o ≡ Some made → play_on (play_all ds) o ≡ Some y
on_more cs ds None made y h e = absurd (cc e)
on_more cs ds (Some z) made y h e = h z e

-- one command more is played after what the others made
play_more : (cs : List Command) (c : Command) (x made y : Made) → play_all cs x ≡ Some made → play made c ≡ Some y → play_all (cs ++ c ∷ []) x ≡ Some y
play_more [] c x made y e p = let is : x ≡ made = cc e in ap (λ z. play_on (play_all []) (play z c)) is ∙ ap (λ o. play_on (play_all []) o) p
play_more (d ∷ cs) c x made y e p = on_more cs (cs ++ c ∷ []) (play x d) made y (λ z i. play_more cs c z made y i p) e

-- bytes of no length are none
no_bytes : (xs : List ℕ) → length xs ≤ 0 → xs ≡ []
no_bytes [] h = refl
no_bytes (x ∷ xs) h = absurd (omega (arith, h))

-- what a file has, which stops short of an offset, with zeros up to it
abbrev filled : ℕ → List ℕ → List ℕ
filled offset bytes = bytes ++ replicate (offset - length bytes) 0

-- filled up to an offset, a file is so long
filled_length : (offset : ℕ) (bytes : List ℕ) → length bytes ≤ offset → length (filled offset bytes) ≡ offset
filled_length offset bytes le =
    omega (arith, length-append bytes (replicate (offset - length bytes) 0), length-replicate {A = ℕ} (offset - length bytes) 0, le)

-- a file that is as long as an offset needs no zeros up to it
filled_whole : (offset : ℕ) (bytes : List ℕ) → length bytes ≡ offset → filled offset bytes ≡ bytes
filled_whole offset bytes e =
    let none : offset - length bytes ≡ 0 = omega (arith, e) in
    ap (λ n. bytes ++ replicate n 0) none ∙ append-nil bytes

-- a file filled up to an offset, with zeros behind, is filled up to where those end
filled_more : (offset count : ℕ) (bytes : List ℕ) → length bytes ≤ offset → filled offset bytes ++ replicate count 0 ≡ filled (offset + count) bytes
filled_more offset count bytes le =
    append_assoc bytes (replicate (offset - length bytes) 0) (replicate count 0)
    ∙ ap (λ x. bytes ++ x) (replicate-append-replicate (offset - length bytes) count 0 ∙ ap (λ n. replicate n 0) (omega (arith, le)))

-- a number that is at most another is found so
if_le : (m n : ℕ) → m ≤ n → nat_le m n ≡ true
if_le m n h = grind (arith, nat_tests)

-- a file grown behind an offset
grown : (members : List Member) (path bytes more : List ℕ) (offset : ℕ) → length bytes ≤ offset
    → grow members (Some (record { path = path; bytes = bytes })) path offset more
    ≡ Some (record { members = members; growing = Some (record { path = path; bytes = filled offset bytes ++ more }) })
grown members path bytes more offset le =
    ap (λ b. cond b (made_with members path (cond (nat_le (length bytes) offset) (Some (filled offset bytes ++ more)) None)) None) (same_bytes path)
    ∙ ap (λ b. made_with members path (cond b (Some (filled offset bytes ++ more)) None)) (if_le (length bytes) offset le)

-- the stream in the destination of send, with the commands behind its front
module _ (dest name front : List ℕ) where
  -- a destination in which the stream has some bytes so far
  abbrev stream_with : List ℕ → Tree
  stream_with bytes = record { rows = row.Start dest ∷ []; part = Some (record { name = name; bytes = bytes }) }

  pub record IsTold (m : Tree) (made : Made) : Type 0 where
    pub commands : List Command
    pub inner : AreInner commands
    pub tree : m ≡ stream_with (front ++ flat_map bytes_of commands)
    pub played : play_all commands nothing_made ≡ Some made

  -- one command more is told in the stream, and made what it makes
  pub told_more : (m : Tree) (made made' : Made) (c : Command) → IsInner c → FieldsFit c → play made c ≡ Some made' → IsTold m made
      → IsTold (after_step m (step.Bytes (bytes_of c))) made'
  told_more m made made' c i s p h = record {
    commands = h.commands ++ c ∷ [];
    inner = inner_more h.commands c h.inner i s;
    tree =
        ap (λ x. after_step x (step.Bytes (bytes_of c))) h.tree
        ∙ ap stream_with (append_assoc front (flat_map bytes_of h.commands) (bytes_of c) ∙ ap (λ x. front ++ x) (sym (flat_more h.commands c)));
    played = play_more h.commands c nothing_made made made' h.played p;
  }

  -- both destinations between two files, in a directory of a path, which is in others
  pub record At (path : List ℕ) (outer : List (List ℕ)) (m t : Tree) : Type 0 where
    pub made : Made
    pub told : IsTold m made
    pub part : t.part ≡ None
    pub place : fold behind_row at_top t.rows ≡ record { here = path; outer = outer; members = all_made made }

  -- both in a file there, up to an offset: zeros at the end aren't told yet
  pub record In (path : List ℕ) (outer : List (List ℕ)) (called : List ℕ) (offset : ℕ) (m t : Tree) : Type 0 where
    pub members : List Member
    pub bytes : List ℕ
    pub told : IsTold m (record { members = members; growing = Some (record { path = below (path_in path called); bytes = bytes }) })
    pub part : t.part ≡ Some (record { name = called; bytes = filled offset bytes })
    pub place : fold behind_row at_top t.rows ≡ record { here = path; outer = outer; members = members }
    pub long : length bytes ≤ offset

  module _ (B : Map) where
    -- the destination after the steps of a program
    abbrev After : {A : Type 0} → Tree → Program Step A → Tree
    After m p = beside.after_all after_step B m p

    -- where the first program comes to a value, so does the second, and the claim holds of both destinations
    abbrev Both : {A C : Type 0} → (Tree → Tree → A → C → Type 0) → Tree → Tree → Program Step A → Program Step C → Type 0
    Both K m t p q = beside.Both after_step B K m t p q

    -- the writes of a piece
    module _ (path : List ℕ) (short : length path ≤ 4096) (members : List Member) where
      -- what was made, with a file of the path that has some bytes so far
      abbrev Grown : List ℕ → Made
      Grown bytes = record { members = members; growing = Some (record { path = below path; bytes = bytes }) }

      pub record AreWritten (m : Tree) (p : Program Step (Unit {0})) (end : ℕ) (all : List ℕ) : Type 0 where
        pub ends : (exec B p).ending ≡ Ok tt
        pub bytes : List ℕ
        pub told : IsTold (After m p) (Grown bytes)
        pub is : filled end bytes ≡ all
        pub long : length bytes ≤ end

      -- a path of at most 4096 bytes fits an attribute
      short_below : (xs : List ℕ) → length xs ≤ 4096 → length (below xs) < 2 ^ 16
      short_below [] h = omega arith
      short_below (x ∷ xs) h = omega (arith, h)

      -- one write is told: its file has zeros up to the offset, and the piece behind them
      one_told : (m : Tree) (bytes : List ℕ) (offset : ℕ) (piece : List ℕ) → length piece ≤ 4096 → length bytes ≤ offset → offset ≤ 2 ^ 60
          → IsTold m (Grown bytes) → IsTold (after_step m (step.Bytes (bytes_of (Write (below path) offset piece)))) (Grown (filled offset bytes ++ piece))
      one_told m bytes offset piece few le low h =
          told_more m (Grown bytes) (Grown (filled offset bytes ++ piece)) (Write (below path) offset piece) tt
          (short_below path short, omega (arith, low), omega (arith, few)) (grown members (below path) bytes piece offset le) h

      -- so many writes are told, as many as the piece needs
      cuts_told : (n : ℕ) (m : Tree) (bytes : List ℕ) (offset : ℕ) (piece : List ℕ) → 4096 * n < length piece + 4096 → length piece ≤ 4096 * n
          → length bytes ≤ offset → offset + length piece ≤ 2 ^ 60 → IsTold m (Grown bytes)
          → AreWritten m (cuts n path offset piece) (offset + length piece) (filled offset bytes ++ piece)
      cuts_told zero m bytes offset piece few many le low h =
          let none = no_bytes piece (omega (arith, many)) in
          let same : offset + length piece ≡ offset = omega (arith, many) in
          record {
            ends = refl;
            bytes = bytes;
            told = h;
            is = ap (λ k. filled k bytes) same ∙ (sym (append-nil (filled offset bytes)) ∙ ap (λ x. filled offset bytes ++ x) (sym none));
            long = omega (arith, le);
          }
      cuts_told (suc zero) m bytes offset piece few many le low h =
          let all = take_all 4096 piece (omega (arith, many)) in
          let long : length (filled offset bytes ++ piece) ≡ offset + length piece = omega (
            arith,
            length-append (filled offset bytes) piece,
            filled_length offset bytes le,
          ) in
          record {
            ends = refl;
            bytes = filled offset bytes ++ piece;
            told = subst (λ x. IsTold (after_step m (step.Bytes (bytes_of (Write (below path) offset x)))) (Grown (filled offset bytes ++ piece))) (sym all)
                (one_told m bytes offset piece (omega (arith, many)) le (omega (arith, low)) h);
            is = filled_whole (offset + length piece) (filled offset bytes ++ piece) long;
            long = omega (arith, long);
          }
      cuts_told (suc (suc n)) m bytes offset piece few many le low h =
          let front_length : length (take 4096 piece) ≡ 4096 = length-take-le 4096 piece (omega (arith, few)) in
          let rest_length : length (take 4096 piece) + length (drop 4096 piece) ≡ length piece =
          sym (length-append (take 4096 piece) (drop 4096 piece)) ∙ ap length (take-append-drop 4096 piece) in
          let now = filled offset bytes ++ take 4096 piece in
          let long : length now ≡ offset + 4096 = omega (
            arith,
            length-append (filled offset bytes) (take 4096 piece),
            filled_length offset bytes le,
            front_length,
          ) in
          let next : behind offset 4096 ≡ offset + 4096 = omega (arith, low, few) in
          let after = after_step m (step.Bytes (bytes_of (Write (below path) offset (take 4096 piece)))) in
          let more = cuts_told (suc n) after now (offset + 4096) (drop 4096 piece) (omega (arith, few, front_length, rest_length)) (omega (
            arith,
            many,
            front_length,
            rest_length,
          ))
          (omega (arith, long)) (omega (arith, low, front_length, rest_length))
          (one_told m bytes offset (take 4096 piece) (omega (arith, front_length)) le (omega (arith, low)) h) in
          let end : offset + 4096 + length (drop 4096 piece) ≡ offset + length piece = omega (arith, front_length, rest_length) in
          let all : filled (offset + 4096) now ++ drop 4096 piece ≡ filled offset bytes ++ piece =
          ap (λ x. x ++ drop 4096 piece) (filled_whole (offset + 4096) now long)
          ∙ (append_assoc (filled offset bytes) (take 4096 piece) (drop 4096 piece) ∙ ap (λ x. filled offset bytes ++ x) (take-append-drop 4096 piece)) in
          let same : AreWritten after (cuts (suc n) path (offset + 4096) (drop 4096 piece)) (offset + length piece) (filled offset bytes ++ piece) =
          subst (λ k. AreWritten after (cuts (suc n) path (offset + 4096) (drop 4096 piece)) k (filled offset bytes ++ piece)) end
          (subst (λ x. AreWritten after (cuts (suc n) path (offset + 4096) (drop 4096 piece)) (offset + 4096 + length (drop 4096 piece)) x) all more) in
          let there : AreWritten after (cuts (suc n) path (behind offset 4096) (drop 4096 piece)) (offset + length piece) (filled offset bytes ++ piece) =
          subst (λ k. AreWritten after (cuts (suc n) path k (drop 4096 piece)) (offset + length piece) (filled offset bytes ++ piece)) (sym next) same in
          record { ends = there.ends; bytes = there.bytes; told = there.told; is = there.is; long = there.long }

      -- the writes of a piece are told
      writes_told : (m : Tree) (bytes : List ℕ) (offset : ℕ) (piece : List ℕ) → length bytes ≤ offset → offset + length piece ≤ 2 ^ 60 → IsTold m (Grown bytes)
          → AreWritten m (writes path offset piece) (offset + length piece) (filled offset bytes ++ piece)
      writes_told m bytes offset piece le low h =
          cuts_told ((length piece + 4095) / 4096) m bytes offset piece (omega arith) (omega arith) le low h

    -- a line on either side changes nothing of the destinations
    line_here : {A C : Type 0} (K : Tree → Tree → A → C → Type 0) (m t : Tree) (b : Bool) (text : List ℕ) (p : Program Step A) (q : Program Step C)
        → Both K m t p q → Both K m t (cond b (Emit (Line text) p) p) q
    line_here K m t true text p q h = h
    line_here K m t false text p q h = h

    -- a line of restore changes nothing of the destinations
    line_there : {A C : Type 0} (K : Tree → Tree → A → C → Type 0) (m t : Tree) (b : Bool) (text : List ℕ) (p : Program Step A) (q : Program Step C)
        → Both K m t p q → Both K m t p (cond b (Emit (Line text) q) q)
    line_there K m t true text p q h = h
    line_there K m t false text p q h = h

    module _ (root : ℕ) (s : Super) (sums : Option TreeRoot) (sectors : GivesSectors B) (path : List ℕ) (outer : List (List ℕ)) (called : List ℕ) where
      -- the path of the entry
      abbrev inner : List ℕ
      inner = path_in path called

      -- an entry was treated, or a directory was entered
      abbrev pub TreatedAlike : Tree → Tree → Treated → Treated → Type 0
      TreatedAlike m t (Over c) (Over d) = At path outer m t × (c ≡ d)
      TreatedAlike m t (Over c) (Within tree dirid d) = ⊥
      TreatedAlike m t (Within tree dirid c) (Over d) = ⊥
      TreatedAlike m t (Within tree dirid c) (Within tree' dirid' d) = (tree ≡ tree') × (dirid ≡ dirid') × At inner (path ∷ outer) m t × (c ≡ d)

      module _ (short : length inner ≤ 4096) where
        -- both are in the file behind some pieces, as far as these reach
        abbrev Reached : List Piece → Tree → Tree → SentPart → Bool → Type 0
        Reached done m t now read = (now.offset ≡ length (file.bytes_of done)) × In path outer called now.offset m t

        -- with one piece more a file is longer by its bytes
        bytes_more : (done : List Piece) (item : Piece) → length (file.bytes_of (done ++ item ∷ [])) ≡ length (file.bytes_of done) + length (piece_bytes item)
        bytes_more done item =
            ap length (flat_map-append piece_bytes done (item ∷ []) ∙ ap (λ x. file.bytes_of done ++ x) (append-nil (piece_bytes item)))
            ∙ length-append (file.bytes_of done) (piece_bytes item)

        -- a piece is put on both sides, up to 2^60 bytes
        put_told : (done : List Piece) (item : Piece) (m t : Tree) (now : SentPart) (read : Bool)
            → length (file.bytes_of done) + length (piece_bytes item) ≤ 2 ^ 60
            → Reached done m t now read → Both (Reached (done ++ item ∷ [])) m t (sending.put inner now item) (restore.put read item)
        put_told done (Bytes bytes summed) m t now read low h =
            let i = h.1 in
            let few : now.offset + length bytes ≤ 2 ^ 60 = omega (arith, low, h.0) in
            let w = writes_told inner short i.members m i.bytes now.offset bytes i.long few i.told in
            let next : behind now.offset (length bytes) ≡ now.offset + length bytes = omega (arith, few) in
            let j : In path outer called (now.offset + length bytes) (After m (writes inner now.offset bytes)) (after_step t (step.Bytes bytes)) = record {
              members = i.members;
              bytes = w.bytes;
              told = w.told;
              part = ap (λ p. option_map (longer bytes) p) i.part ∙ ap (λ x. Some (record { name = called; bytes = x })) (sym w.is);
              place = i.place;
              long = w.long;
            } in
            beside.both_bind after_step B (λ m t u v. In path outer called (now.offset + length bytes) m t) (Reached (done ++ Bytes bytes summed ∷ [])) m t
            (writes inner now.offset bytes) (Emit (step.Bytes bytes) (Return tt))
            (λ u. Return (record { offset = behind now.offset (length bytes); plain = now.plain || not summed })) (λ u. Return (read || not summed))
            (λ u o. (tt {0}, refl, j))
            (λ m t u v k. beside.both_return after_step B (Reached (done ++ Bytes bytes summed ∷ [])) m t
            (record { offset = behind now.offset (length bytes); plain = now.plain || not summed }) (read || not summed)
            (next ∙ (ap (λ n. n + length bytes) h.0 ∙ sym (bytes_more done (Bytes bytes summed))), subst (λ n. In path outer called n m t) (sym next) k))
        put_told done (Gap count) m t now read low h =
            let i = h.1 in
            let long : length (piece_bytes (Gap count)) ≡ count = length-replicate {A = ℕ} count 0 in
            let next : behind now.offset count ≡ now.offset + count = omega (arith, low, long, h.0) in
            let j : In path outer called (now.offset + count) m (after_step t (Zeros count)) = record {
              members = i.members;
              bytes = i.bytes;
              told = i.told;
              part =
                  ap (λ p. option_map (longer (replicate count 0)) p) i.part
                  ∙ ap (λ x. Some (record { name = called; bytes = x })) (filled_more now.offset count i.bytes i.long);
              place = i.place;
              long = omega (arith, i.long);
            } in
            beside.both_return after_step B (Reached (done ++ Gap count ∷ [])) m (after_step t (Zeros count))
            (record { offset = behind now.offset count; plain = now.plain }) read
            (omega (arith, next, h.0, long, bytes_more done (Gap count)), subst (λ n. In path outer called n m (after_step t (Zeros count))) (sym next) j)

        module _ (tree : TreeRoot) (ino : ℕ) (inode : Inode) (small : inode.size ≤ 2 ^ 60) where
          -- the pieces of the file
          abbrev items : Program Piece (Unit {0})
          items = content (kind_in s) sums (has_no_sums inode) inode.size tree ino

          -- no piece of the file reaches behind 2^60 bytes, as all of them have the file's size
          piece_low : length (file.bytes_of (steps B items)) ≡ inode.size → (done : List Piece) (item : Piece) (rest : List Piece)
              → steps B items ≡ done ++ (item ∷ rest)
              → length (file.bytes_of done) + length (piece_bytes item) ≤ 2 ^ 60
          piece_low whole done item rest e =
              let long : length (file.bytes_of (steps B items)) ≡ length (file.bytes_of done) + (length (piece_bytes item) + length (file.bytes_of rest)) =
              ap (λ x. length (file.bytes_of x)) e
              ∙ (ap length (flat_map-append piece_bytes done (item ∷ rest))
              ∙ (length-append (file.bytes_of done) (piece_bytes item ++ file.bytes_of rest)
              ∙ ap (λ n. length (file.bytes_of done) + n) (length-append (piece_bytes item) (file.bytes_of rest)))) in
              omega (arith, long, whole, small)

          -- all pieces are put on both sides, up to the size of the file
          pieces_told : (m t : Tree) → In path outer called 0 m t
              → Both (λ m t now read. In path outer called inode.size m t) m t (sending.pieces s sums tree ino inner inode) (restore.pieces
              (plain root) s sums tree ino inode)
          pieces_told m t i now o =
              let ok = beside.each_ends after_step B (sending.put inner) sending.at_front now items o in
              let whole = (content_is B (kind_in s) sums (has_no_sums inode) inode.size tree ino sectors ok).0 in
              let h = beside.both_each after_step B (sending.put inner) restore.put Reached (steps B items)
              (λ done item rest e m t now read r. put_told done item m t now read (piece_low whole done item rest e) r) [] m t sending.at_front false
              items refl (refl, i) now o in (
                h.0,
                h.1,
                subst (λ n. In path outer called n (After m (sending.pieces s sums tree ino inner inode)) (After t (restore.pieces
                    (plain root) s sums tree ino inode))) (h.2.0 ∙ whole) h.2.1,
              )

          -- the file ends on both sides: its size makes up for zeros that weren't sent
          closed_told : (m t : Tree) (c d : Counts) (now : SentPart) (read : Bool) → c ≡ d → In path outer called inode.size m t
              → Both TreatedAlike m t (sending.closed inner inode.size c now) (restore.closed (plain root) inner d read)
          closed_told m t c d now read same i =
              let full = filled inode.size i.bytes in
              let made : Made = record { members = i.members; growing = Some (record { path = below inner; bytes = full ++ [] }) } in
              let m' = after_step m (step.Bytes (bytes_of (Truncate (below inner) inode.size))) in
              let t' = after_step t Done in
              let over : At path outer m' t' = record {
                made = made;
                told =
                    told_more m (record { members = i.members; growing = Some (record { path = below inner; bytes = i.bytes }) }) made (Truncate
                    (below inner) inode.size) tt
                    (short_below inner short i.members inner short, omega (arith, small)) (grown i.members (below inner) i.bytes [] inode.size i.long) i.told;
                part = ap (λ p. (with_finished t p).part) i.part;
                place =
                    ap (λ p. fold behind_row at_top (with_finished t p).rows) i.part
                    ∙ (fold-append behind_row at_top t.rows (row.File called full ∷ [])
                    ∙ (ap (λ x. behind_row x (row.File called full)) i.place
                    ∙ ap (λ x. record { here = path; outer = outer; members = i.members ++ member (below inner) (File x) ∷ [] }) (sym (append-nil full))));
              } in
              let text = line (codes "unverified") inner in
              line_here TreatedAlike m' t' now.plain text (Return (Over (with_file c))) (restore.unverified read inner (Return (Over (with_file d))))
              (line_there TreatedAlike m' t' read text (Return (Over (with_file c))) (Return (Over (with_file d)))
              (beside.both_return after_step B TreatedAlike m' t' (Over (with_file c)) (Over (with_file d)) (over, ap with_file same)))

          -- a file is written on both sides
          written_told : (m t : Tree) (c d : Counts) → c ≡ d → At path outer m t
              → Both TreatedAlike m t (sending.written s sums tree ino inner inode c) (restore.written (plain root) s sums tree ino called inner inode d)
          written_told m t c d same h =
              let m' = after_step m (step.Bytes (bytes_of (MkFile (below inner)))) in
              let t' = after_step t (step.File called) in
              let begun : In path outer called 0 m' t' = record {
                members = all_made h.made;
                bytes = [];
                told =
                    told_more m h.made (record { members = all_made h.made; growing = Some (record { path = below inner; bytes = [] }) }) (MkFile
                    (below inner)) tt
                    (short_below inner short [] inner short) refl h.told;
                part = refl;
                place = h.place;
                long = omega arith;
              } in
              beside.both_bind after_step B (λ m t now read. In path outer called inode.size m t) TreatedAlike m' t'
              (sending.pieces s sums tree ino inner inode) (restore.pieces (plain root) s sums tree ino inode)
              (sending.closed inner inode.size c) (restore.closed (plain root) inner d) (pieces_told m' t' begun)
              (λ m t now read i. closed_told m t c d now read same i)

        -- a directory is entered on both sides
        entered_told : (m t : Tree) (c d : Counts) (tree : TreeRoot) (dirid : ℕ) → c ≡ d → At path outer m t
            → Both TreatedAlike m t (sending.entered inner tree dirid c) (restore.entered (plain root) called inner tree dirid d)
        entered_told m t c d tree dirid same h =
            let m' = after_step m (step.Bytes (bytes_of (MkDir (below inner)))) in
            let t' = after_step t (Dir called) in
            let made : Made = record { members = all_made h.made ++ member (below inner) Directory ∷ []; growing = None } in
            let at : At inner (path ∷ outer) m' t' = record {
              made = made;
              told = told_more m h.made made (MkDir (below inner)) tt (short_below inner short [] inner short) refl h.told;
              part = h.part;
              place = fold-append behind_row at_top t.rows (row.Dir called ∷ []) ∙ ap (λ x. behind_row x (row.Dir called)) h.place;
            } in
            beside.both_return after_step B TreatedAlike m' t' (Within tree dirid (with_dir c)) (Within tree dirid (with_dir d))
            (refl, refl, at, ap with_dir same)

      -- up again
      left_told : (m t : Tree) → At inner (path ∷ outer) m t → At path outer m (after_step t Up)
      left_told m t h = record {
        made = h.made;
        told = h.told;
        part = h.part;
        place = fold-append behind_row at_top t.rows (row.Up ∷ []) ∙ ap (λ x. behind_row x row.Up) h.place;
      }

    module _ (root : ℕ) (s : Super) (sums : Option TreeRoot) (sectors : GivesSectors B) where
      -- both stand in the directory again, and the counts are the same
      abbrev Stands : List ℕ → List (List ℕ) → Tree → Tree → Counts → Counts → Type 0
      Stands path outer m t c d = At path outer m t × (c ≡ d)

      -- listings on both sides
      abbrev Lists : Listing → Listing → Type 0
      Lists below there =
          (tree : TreeRoot) (dirid : ℕ) (path : List ℕ) (outer : List (List ℕ)) (m t : Tree) (c d : Counts) → c ≡ d → At path outer m t
          → Both (Stands path outer) m t (below tree dirid path c) (there tree dirid path d)

      module _ (path : List ℕ) (outer : List (List ℕ)) where
        module _ (deep : Bool) (tree : TreeRoot) (dirid : ℕ) (entry : DirEntry) where
          -- the entry as it is met in its directory
          abbrev met : Met
          met = met_in deep tree dirid path entry

          -- the entry was treated on both sides, or entered on both
          abbrev Treats : Tree → Tree → Treated → Treated → Type 0
          Treats = TreatedAlike root s sums sectors path outer entry.name

          -- what is done about an entry is done on both sides, by a decision with a short path and a file that isn't too large
          done_told : (m t : Tree) (c d : Counts) → c ≡ d → At path outer m t → (found : Decision) → IsShort met found
              → Both Treats m t (sending.done_about s sums met c found) (restore.done_about (plain root) s sums met d found)
          done_told m t c d same h (Skip cause) short = beside.both_return after_step B Treats m t (Over (with_skip c)) (Over (with_skip d)) (
            h,
            ap with_skip same,
          )
          done_told m t c d same h (decision.File inode) short =
              written_told root s sums sectors path outer entry.name short.0 tree (target met) inode short.1 m t c d same h
          done_told m t c d same h Empty short = absurd short
          done_told m t c d same h (Folder inner dirid') short = entered_told root s sums sectors path outer entry.name short m t c d inner dirid' same h

          -- an entry is treated on both sides, from its lookups on
          treated_told : (m t : Tree) (c d : Counts) → c ≡ d → At path outer m t → Both Treats m t (sending.treated s sums met c) (restored.treated rules
              (plain root) s sums met d)
          treated_told m t c d same h =
              beside.both_looks after_step B Treats (IsShort met) m t (decided rules s met) (sending.done_about s sums met c) (restore.done_about
              (plain root) s sums met d)
              (decided_short met s) (λ found short. done_told m t c d same h found short)

        module _ (below there : Listing) (lists : Lists below there) (called : List ℕ) where
          -- what is in an entry is listed on both sides, and restore goes up again
          inside_told : (m t : Tree) (came other : Treated) → TreatedAlike root s sums sectors path outer called m t came other
              → Both (Stands path outer) m t (sending.listed_in s sums below (path_in path called) came) (restore.listed_in (plain root) s sums there
              (path_in path called) other)
          inside_told m t (Over c) (Over d) h = beside.both_return after_step B (Stands path outer) m t c d h
          inside_told m t (Over c) (Within tree dirid d) h = absurd h
          inside_told m t (Within tree dirid c) (Over d) h = absurd h
          inside_told m t (Within tree dirid c) (Within tree' dirid' d) h =
              let inner = path_in path called in
              let J = Stands inner (path ∷ outer) in
              beside.both_then after_step B J (Stands path outer) m t (below tree dirid inner c) (there tree' dirid' inner d) (λ after. Emit Up (Return after))
              (subst (λ x. Both J m t (below tree dirid inner c) (there x dirid' inner d)) h.0
              (subst (λ x. Both J m t (below tree dirid inner c) (there tree x inner d)) h.1 (lists tree dirid inner (path ∷ outer) m t c d h.3 h.2)))
              (λ m t a b k. beside.both_return after_step B (Stands path outer) m (after_step t Up) a b
              (left_told root s sums sectors path outer called m t k.0, k.1))

      -- a directory is listed on both sides, if those below it are
      listed_told : (deep : Bool) (below there : Listing) → Lists below there → Lists (sending.listed s sums deep below) (restored.listed rules
          (plain root) s sums deep there)
      listed_told deep below there lists tree dirid path outer m t c d same h =
          beside.both_each after_step B (sending.treat s sums deep below tree dirid path) (restored.treat rules (plain root) s sums deep there tree dirid path)
          (λ done. Stands path outer) (steps B (entries tree dirid))
          (λ done entry rest e m t c d k.
          let met = met_in deep tree dirid path entry in
          beside.both_bind after_step B (TreatedAlike root s sums sectors path outer entry.name) (Stands path outer) m t
          (sending.treated s sums met c) (restored.treated rules (plain root) s sums met d)
          (sending.listed_in s sums below met.path) (restore.listed_in (plain root) s sums there met.path)
          (treated_told path outer deep tree dirid entry m t c d k.1 k.0)
          (λ m t came other j. inside_told path outer below there lists entry.name m t came other j))
          [] m t c d (entries tree dirid) refl (h, same)

      -- a directory, below which so many more may be entered, is listed on both sides
      pub all_told : (n : ℕ) → Lists (sending.directory s sums n) (restored.directory rules (plain root) s sums n)
      all_told zero =
          listed_told true (λ tree dirid path c. Return c) (λ tree dirid path c. Return c)
          (λ tree dirid path outer m t c d same h. beside.both_return after_step B (Stands path outer) m t c d (h, same))
      all_told (suc n) = listed_told false (sending.directory s sums n) (restored.directory rules (plain root) s sums n) (all_told n)

-- a subvolume that is sent, and the destination of restore
module _ (dest name : List ℕ) (source : Source) (long : length name ≤ 255) (uuid : length source.uuid ≡ 16) where
  -- a transid is sent in eight bytes
  abbrev transid : ℕ
  transid = from_le_bytes w64 (to_le_bytes w64 source.transid)

  -- the command of the subvolume
  abbrev first : Command
  first = Subvol name source.uuid transid

  -- the header and the first command of the stream
  abbrev front : List ℕ
  front = header ++ bytes_of first

  -- the one file is a stream of what was restored, and the counts are the same
  abbrev Final : Tree → Tree → Counts → Counts → Type 0
  Final m t c d = restored.IsStreamOf dest name m.rows (restored.members_of_rows t.rows) × (c ≡ d)

  -- send and restore end: the stream is whole, and the counts are told
  ended_told : (B : Map) (m t : Tree) (c d : Counts) → c ≡ d → At dest name front [] [] m t
      → beside.Both after_step B Final m t (sending.ended c) (Emit (Line (counts_line d)) (Return d))
  ended_told B m t c d same h =
      let inner = h.told.commands in
      let stream = front ++ flat_map bytes_of inner ++ bytes_of End in
      let whole : stream ≡ header ++ (bytes_of first ++ (flat_map bytes_of inner ++ bytes_of End)) =
      append_assoc front (flat_map bytes_of inner) (bytes_of End) ∙ append_assoc header (bytes_of first) (flat_map bytes_of inner ++ bytes_of End) in
      beside.both_return after_step B Final (after_step (after_step m (step.Bytes (bytes_of End))) Done) t c d (
        record {
          stream = stream;
          is = ap (λ x. (after_step (after_step x (step.Bytes (bytes_of End))) Done).rows) h.told.tree;
          replayed =
              ap replay whole
              ∙ (replays name source.uuid transid inner (omega (arith, long), uuid, transid_fits source.transid) h.told.inner
              ∙ (ap members_of h.told.played ∙ ap (λ (x : restored.TreePlace). Some x.members) (sym h.place)));
        },
        same,
      )

  -- where a subvolume is sent to an end, it is restored, and the stream makes what was restored
  pub sent_told : (B : Map) (root : ℕ) (s : Super) (sums : Option TreeRoot) → GivesSectors B
      → beside.Both after_step B Final nothing nothing (sending.sent dest name s source sums) (restored.restored rules (plain root) dest s source.root sums)
  sent_told B root s sums sectors =
      let m : Tree = record { rows = row.Start dest ∷ []; part = Some (record { name = name; bytes = header ++ subvol name source.uuid source.transid }) } in
      let t : Tree = record { rows = row.Start dest ∷ []; part = None } in
      let begun : At dest name front [] [] m t = record {
        made = nothing_made;
        told = record {
          commands = [];
          inner = tt;
          tree = ap (stream_with dest name front) (ap (λ x. header ++ x) (same_subvol name source.uuid source.transid) ∙ sym (append-nil front));
          played = refl;
        };
        part = refl;
        place = refl;
      } in
      beside.both_bind after_step B (λ m t c d. At dest name front [] [] m t × (c ≡ d)) Final m t
      (sending.directory s sums 512 source.root source.root.dirid [] no_counts) (restored.directory rules
      (plain root) s sums 512 source.root source.root.dirid [] no_counts)
      sending.ended (λ d. Emit (Line (counts_line d)) (Return d))
      (all_told dest name front B root s sums sectors 512 source.root source.root.dirid [] [] m t no_counts no_counts refl begun)
      (λ m t c d h. ended_told B m t c d h.1 h.0)

module _ (B : Map) (s : Super) (id : ℕ) (dest name : List ℕ) (long : length name ≤ 255) (sectors : GivesSectors B) where
  -- the one file is a stream of what restore made, and the counts are the same
  abbrev Stream : Tree → Tree → Counts → Counts → Type 0
  Stream m t c d = restored.IsStreamOf dest name m.rows (restored.members_of_rows t.rows) × (c ≡ d)

  -- what was found is sent, and a tree is restored by the rules of send
  abbrev Sends : Option Source → Option TreeRoot → Type 0
  Sends source tree =
      beside.Both after_step B Stream nothing nothing (sending.from_source dest name s id source) (restored.from_root rules (plain id) dest s tree)

  -- where there is no subvolume the sending comes to no value
  no_source : (q : Program Step Counts) → beside.Both after_step B Stream nothing nothing (Stop (NoTree id)) q
  no_source q a e = absurd (cc e)

  -- a subvolume, once its root is found
  source_sent : (source : Source) → length source.uuid ≡ 16 → Sends (Some source) (Some source.root)
  source_sent source uuid =
      beside.both_looks after_step B Stream (λ sums. Unit {0}) nothing nothing (tree_of s 7) (sending.sent dest name s source)
      (restored.restored rules (plain id) dest s source.root) (gives_all (tree_of s 7)) (λ sums u. sent_told dest name source long uuid B id s sums sectors)

  -- an item that was found is sent and restored, by whether it is of the id
  abbrev Found : Option TreeItem → Bool → Type 0
  Found None b = Unit {0}
  Found (Some item) b =
      beside.Both after_step B Stream nothing nothing
      (bind (quiet (cond b (formed item (root_item_of item.body) (λ root. Return (Some (source_at item (described item.key root))))) (Return None)))
      (sending.from_source dest name s id))
      (bind (quiet (cond b (formed item (root_item_of item.body) (λ root. Return (Some (described item.key root)))) (Return None))) (restored.from_root rules
      (plain id) dest s))

  -- a ROOT_ITEM of good form is sent and restored; one that breaks its form leads to no value
  formed_sent : (item : TreeItem) (x : Result RootItem ItemFault)
      → beside.Both after_step B Stream nothing nothing
      (bind (quiet (formed item x (λ root. Return (Some (source_at item (described item.key root)))))) (sending.from_source dest name s id))
      (bind (quiet (formed item x (λ root. Return (Some (described item.key root))))) (restored.from_root rules (plain id) dest s))
  formed_sent item (Ok root) = source_sent (source_at item (described item.key root)) (uuid_length item.body)
  formed_sent item (Err fault) = λ a e. absurd (cc e)

  -- an item of the id is sent and restored; another leads to no value
  item_sent : (item : TreeItem) (b : Bool) → Found (Some item) b
  item_sent item true = formed_sent item (root_item_of item.body)
  item_sent item false = no_source (restored.from_root rules (plain id) dest s None)

  -- what was found in the root tree is sent and restored
  found_sent : (found : Option TreeItem)
      → beside.Both after_step B Stream nothing nothing (bind (quiet (source_found id found)) (sending.from_source dest name s id))
      (bind (quiet (root_found id found)) (restored.from_root rules (plain id) dest s))
  found_sent None = no_source (restored.from_root rules (plain id) dest s None)
  found_sent (Some item) = item_sent item (is_root_of id item.key)

  -- a tree that the superblock names, or one in the root tree, is sent and restored
  abbrev Chosen : Bool → Bool → Type 0
  Chosen one three =
      beside.Both after_step B Stream nothing nothing
      (bind (quiet (cond one (Return (Some (unnamed (named_root 1 (root_root s))))) (cond three (Return (Some (unnamed (named_root 3 (chunk_root s)))))
      (source_in (root_root s) id)))) (sending.from_source dest name s id))
      (bind (quiet (cond one (Return (Some (named_root 1 (root_root s)))) (cond three (Return (Some (named_root 3 (chunk_root s)))) (root_in
      (root_root s) id)))) (restored.from_root rules (plain id) dest s))

  -- whichever tree the id is of, it is sent and restored
  chosen_sent : (one three : Bool) → Chosen one three
  chosen_sent true three = source_sent (unnamed (named_root 1 (root_root s))) refl
  chosen_sent false true = source_sent (unnamed (named_root 3 (chunk_root s))) refl
  chosen_sent false false =
      beside.both_from after_step B Stream nothing nothing (le (root_root s) (key id root_item last)) (source_found id) (root_found id)
      (sending.from_source dest name s id) (restored.from_root rules (plain id) dest s) found_sent

  -- where send comes to its end, so does restore by its rules, and the stream makes what was restored
  pub sends_restored : beside.Both after_step B Stream nothing nothing (restored.sends s id dest name) (restored.restores s id dest name)
  sends_restored = chosen_sent (id == 1) (id == 3)

-- where send comes to its end, the one file is a stream whose replay is what restore by its rules makes
pub sent_law : SentLaw
sent_law B s id dest name counts sectors good ok =
    let h = sends_restored B s id dest name good.1 sectors counts ok in
    record { restored = h.1 ∙ ap Ok (sym h.2.1); stream = h.2.0 }

-- each directory by the same rules, whatever the checksum tree is
abbrev by_rules : ℕ → Super → ℕ → Option TreeRoot → Listing
by_rules id s n sums = restored.directory (restore.rules_of (plain id)) (plain id) s sums n

-- each directory as restore lists it, whatever the checksum tree is
abbrev by_restore : ℕ → Super → ℕ → Option TreeRoot → Listing
by_restore id s n sums = restore.directory (plain id) s sums n

-- a directory as restore lists it, over a listing of those below
abbrev with_below : ℕ → Super → (Option TreeRoot → Listing) → Option TreeRoot → Listing
with_below id s below sums = restore.listed (plain id) s sums false (below sums)

-- by restore's own rules each directory is listed as restore does
same_directory : (id : ℕ) (s : Super) (n : ℕ) → by_rules id s n ≡ by_restore id s n
same_directory id s zero = refl
same_directory id s (suc n) = ap (with_below id s) (same_directory id s n)

module _ (s : Super) (id : ℕ) (dest : List ℕ) where
  -- the restore of the tree that was found, by a listing of its top directory
  abbrev from_tops : (Option TreeRoot → Listing) → Option TreeRoot → Program Step Counts
  from_tops top None = Stop (NoTree id)
  from_tops top (Some tree) =
      looks (tree_of s 7) (λ sums. Emit (step.Start dest)
      (bind (top sums tree tree.dirid [] no_counts) (λ counts. Emit (Line (counts_line counts)) (Return counts))))

  -- the whole restore, by a listing of the top directory
  abbrev by_tops : (Option TreeRoot → Listing) → Program Step Counts
  by_tops top = looks (tree_of s id) (from_tops top)

-- by restore's own rules, what restores by rules is restore
pub own_rules : OwnRules
own_rules s id dest = ap (by_tops s id dest) (same_directory id s 512)
