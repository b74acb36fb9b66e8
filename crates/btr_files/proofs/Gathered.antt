-- The names of an inode that are kept in a list are those that its definition looks up.
use Rattle.std.proofs.Common.{◌≡◌, ◌≢◌, ◌==◌, ◌+◌, ◌-◌, ℕ, suc, List, [], ◌∷◌, ◌++◌, length, map, take, drop, All, Option, Some, None, Bool, true, false, cond}
use Rattle.std.proofs.Common.{Result, Ok, Err, refl, sym, ap, ap₂, ◌∙◌, subst, arith}
use Rattle.std.specs.Prelude.{nat_lt, ◌&&◌, filter_map}
use Rattle.std.proofs.Math.Seq.{take-length, drop-append_seam}
use Rattle.std.proofs.lemmas.Bool.Decides.{nat_tests}
use Rattle.std.proofs.lemmas.List.{append-nil, append_assoc, drop-append-le, length-drop, map-append, take-append-le}
use Rattle.std.specs.List.{list_all}
use Rattle.std.specs.Result.{is_err, is_ok, result_ok}
use Rattle.btr_base.specs.declared.key.Key.{Key}
use Rattle.btr_items.specs.ExtRef.{ext_refs_of}
use Rattle.btr_items.specs.InodeRef.{inode_refs_of}
use Rattle.btr_items.specs.Form.{fields_if, map_ok}
use Rattle.btr_items.specs.declared.fault.ItemFault.{ItemFault}
use Rattle.btr_items.specs.Types.{inode_ref, inode_extref}
use Rattle.btr_prog.specs.Answers.{Halt, Follows, no_part}
use Rattle.btr_prog.specs.Prog.{Return, bind, exec}
use Rattle.btr_rack.specs.Rack.{Seen}
use Rattle.btr_read.specs.Fate as fate
use Rattle.btr_read.specs.Layout.{Layout}
use Rattle.btr_walk.specs.Folds.{Go, folded_over, next_prog}
use Rattle.btr_walk.specs.Le.{TreeItem}
use Rattle.btr_walk.specs.Range.{RangeProg, range}
use Rattle.btr_walk.specs.Reading.{Tells, UnreadBlock, unread_by}
use Rattle.btr_walk.proofs.Joined.{drawn}
use Rattle.btr_volume.specs.declared.root.TreeRoot.{TreeRoot}
use Rattle.btr_volume.specs.Tree.{key, last}
use Rattle.btr_volume.specs.Lookup.{Lookup, formed, each}
use Rattle.btr_files.specs.declared.name_list.NamePlace.{NamePlace}
use Rattle.btr_files.specs.Gathering.{IsNameWithin, link_at, links_more, names_step, parts_linked}
use Rattle.btr_files.specs.Names.{Link, link, inode_link, ext_link, links, parts_of, links_of}
use Rattle.btr_files.specs.Steps.{formed_next}
use Rattle.btr_files.proofs.Folding.{bind-return, fold_as, formed_map}

-- a name stays where bytes come behind those of all
link_same : (bytes more : List ℕ) (place : NamePlace) → IsNameWithin (length bytes) place → link_at (bytes ++ more) place ≡ link_at bytes place
link_same bytes more place within =
    let n = place.at + place.len - place.at in
    ap (link place.parent place.index)
    (ap (take n) (drop-append-le place.at bytes more (omega (arith, within)))
    ∙ take-append-le n (drop place.at bytes) more (omega (arith, within, length-drop place.at bytes)))

-- all names of a list stay where bytes come after those of all
links_same : (bytes more : List ℕ) (places : List NamePlace) → All (IsNameWithin (length bytes)) places
    → map (link_at (bytes ++ more)) places ≡ map (link_at bytes) places
links_same bytes more [] h = refl
links_same bytes more (place ∷ places) h =
    ap₂ (λ (x : Link) xs. x ∷ xs) (link_same bytes more place (h 0 place (omega arith)))
    (links_same bytes more places (λ k d lt. h (suc k) d (omega (arith, lt))))

-- the name whose bytes come behind those of all
link_behind : (bytes name : List ℕ) (parent index : ℕ)
    → link_at (bytes ++ name) (record { parent = parent; index = index; at = length bytes; len = length name }) ≡ link parent index name
link_behind bytes name parent index =
    ap (link parent index)
    (ap₂ take (omega arith) (drop-append_seam bytes name) ∙ take-length name)

-- the names after one was added
pub links_added : (bytes bytes' name : List ℕ) (parent index at : ℕ) (places places' : List NamePlace) → at ≡ length bytes
    → bytes' ≡ bytes ++ name → places' ≡ places ++ record { parent = parent; index = index; at = at; len = length name } ∷ []
    → All (IsNameWithin (length bytes)) places
    → map (link_at bytes') places' ≡ map (link_at bytes) places ++ link parent index name ∷ []
links_added bytes bytes' name parent index at places places' is_at is_bytes is_places within =
    let place : ℕ → NamePlace = λ n. record { parent = parent; index = index; at = n; len = length name } in
    ap₂ (λ (bs : List ℕ) (ps : List NamePlace). map (link_at bs) ps) is_bytes (is_places ∙ ap (λ n. places ++ place n ∷ []) is_at)
    ∙ map-append (link_at (bytes ++ name)) places (place (length bytes) ∷ [])
    ∙ ap₂ (λ (xs : List Link) (x : Link). xs ++ x ∷ []) (links_same bytes name places within) (link_behind bytes name parent index)

-- where there was memory, items were added
pub kept_items : {A E X : Type 0} (r : Result A E) (more less : List X) → false ≡ is_err r → cond (is_ok r) more less ≡ more
kept_items (Ok a) more less h = refl
kept_items (Err e) more less h = cc

-- what holds of each part holds of the rest
pub rest_holds : {T : Type 0} (P : T → Type 0) (xs rest : List T) (x : T) → xs ≡ x ∷ rest → All P xs → All P rest
rest_holds {T} P xs rest x e h = λ k d lt. let g : All P (x ∷ rest) = subst (All P) e h in g (suc k) d (omega (arith, lt))

module _ {T : Type 0} (of : T → Link) where
  -- the names of the parts, where each has its form
  abbrev linked_if : List Link → Bool → List Link → Option (List Link)
  linked_if found true more = Some (found ++ more)
  linked_if found false more = None

  -- the names of parts that are taken one by one are those of all parts, if each has its form
  parts_are_linked : (found : List Link) (parts : List (Result T ItemFault))
      → parts_linked of found parts ≡ linked_if found (list_all is_ok parts) (map of (filter_map result_ok parts))
  parts_are_linked found [] = ap Some (sym (append-nil found))
  parts_are_linked found (Ok part ∷ parts) = parts_are_linked (found ++ of part ∷ []) parts ∙ more (list_all is_ok parts)
    where
      more : (b : Bool) → linked_if (found ++ of part ∷ []) b (map of (filter_map result_ok parts)) ≡ linked_if found b
          (of part ∷ map of (filter_map result_ok parts))
      more true = ap Some (append_assoc found (of part ∷ []) (map of (filter_map result_ok parts)))
      more false = refl
  parts_are_linked found (Err fault ∷ parts) = refl

  -- one part more was looked at
  pub part_linked : (found next : List Link) (parts rest : List (Result T ItemFault)) (read : Result T ItemFault) (part : T)
      → parts ≡ read ∷ rest → read ≡ Ok part → next ≡ found ++ of part ∷ [] → parts_linked of next rest ≡ parts_linked of found parts
  part_linked found next parts rest read part e r n =
      ap (λ (m : List Link). parts_linked of m rest) n ∙ sym (ap (parts_linked of found) (e ∙ ap (λ x. x ∷ rest) r))

  -- the names of all parts, by whether each has its form, are those that a list gets
  by_test : (found : List Link) (parts : List T) (b : Bool)
      → linked_if found b (map of parts) ≡ links_more found (map_ok (map of) (fields_if b parts))
  by_test found parts true = refl
  by_test found parts false = refl

  some_is : (body : List ℕ) → (length body == 0) ≡ false → nat_lt 0 (length body) ≡ true
  some_is body h = grind (arith, nat_tests)

  -- the names in the parts of a body that isn't empty
  pub parts_are : (found : List Link) (body : List ℕ) (parts : List (Result T ItemFault)) → (length body == 0) ≡ false
      → parts_linked of found parts ≡ links_more found (map_ok (map of) (parts_of body parts))
  parts_are found body parts h =
      parts_are_linked found parts
      ∙ by_test found (filter_map result_ok parts) (list_all is_ok parts)
      ∙ ap (λ b. links_more found (map_ok (map of) (fields_if (b && list_all is_ok parts) (filter_map result_ok parts)))) (sym (some_is body h))

  none_is : (body : List ℕ) → (length body == 0) ≡ true → nat_lt 0 (length body) ≡ false
  none_is body h = grind (arith, nat_tests)

  -- an empty body breaks its form
  none_in : (found : List Link) (body : List ℕ) (parts : List (Result T ItemFault)) → (length body == 0) ≡ true
      → links_more found (map_ok (map of) (parts_of body parts)) ≡ None
  none_in found body parts h = ap
      (λ b. links_more found (map_ok (map of) (fields_if (b && list_all is_ok parts) (filter_map result_ok parts)))) (none_is body h)

-- an item that breaks its form as an INODE_REF and as an INODE_EXTREF breaks it whatever it is
by_kind : (found : List Link) (b : Bool) (refs exts : Result (List Link) ItemFault) → links_more found refs ≡ None
    → links_more found exts ≡ None → links_more found (cond b refs exts) ≡ None
by_kind found true refs exts h k = h
by_kind found false refs exts h k = k

is_ref : (key : Key) → key.kind ≡ 12 → (key.kind == 12) ≡ true
is_ref key h = grind (arith, nat_tests)

is_ext : (key : Key) → key.kind ≢ 12 → (key.kind == 12) ≡ false
is_ext key h = grind (arith, nat_tests)

-- the names of an item, by its type
pub refs_are : (found : List Link) (key : Key) (body : List ℕ) → (length body == 0) ≡ false → key.kind ≡ 12
    → parts_linked (inode_link key.offset body) found (inode_refs_of body) ≡ links_more found (links_of key body)
refs_are found key body some h =
    parts_are (inode_link key.offset body) found body (inode_refs_of body) some
    ∙ ap (λ (b : Bool). links_more found
    (cond b (map_ok (map (inode_link key.offset body)) (parts_of body (inode_refs_of body)))
    (map_ok (map (ext_link body)) (parts_of body (ext_refs_of body))))) (sym (is_ref key h))

-- the names of an item that is no INODE_REF are those of its parts as an INODE_EXTREF
pub ext_refs_are : (found : List Link) (key : Key) (body : List ℕ) → (length body == 0) ≡ false → key.kind ≢ 12
    → parts_linked (ext_link body) found (ext_refs_of body) ≡ links_more found (links_of key body)
ext_refs_are found key body some h =
    parts_are (ext_link body) found body (ext_refs_of body) some
    ∙ ap (λ (b : Bool). links_more found
    (cond b (map_ok (map (inode_link key.offset body)) (parts_of body (inode_refs_of body)))
    (map_ok (map (ext_link body)) (parts_of body (ext_refs_of body))))) (sym (is_ext key h))

-- the names of an item behind those that were found, as the definition takes them
abbrev name_body : List Link → TreeItem → Lookup (Result (List Link) (List Link))
name_body found item = bind (formed item (links_of item.key item.body) (λ more. Return (found ++ more))) (λ st. Return (Ok st))

-- an item adds its names, by their form, in the definition as in the code
name_body_is : (found : List Link) (item : TreeItem) (r : Result (List Link) ItemFault) →
    let p : Lookup (Result (List Link) (List Link)) =
    bind (formed item r (λ more. Return (found ++ more))) (λ st. Return (Ok st)) in
    p ≡ next_prog item.leaf (formed_next r (λ more. Go (found ++ more)))
name_body_is found item (Ok more) = refl
name_body_is found item (Err fault) = refl

-- all names of an inode are what is folded
pub names_as : (p : RangeProg) → each
    (λ found (item : TreeItem). formed item (links_of item.key item.body) (λ more. Return (found ++ more))) [] p ≡ folded_over
    names_step (λ found. found) [] p
names_as p =
    sym (bind-return (each (λ found (item : TreeItem). formed item (links_of item.key item.body) (λ more. Return (found ++ more))) [] p))
    ∙ fold_as name_body (λ found u. found) names_step names_step (λ found. found) (λ (found : List Link). found) (λ (found : List Link). found)
    (λ found item. name_body_is found item (links_of item.key item.body))
    (λ found item. formed_map (λ (xs : List Link). xs) (λ (xs : List Link). xs) (λ more. Go (found ++ more))
    (λ more. Go (found ++ more)) (links_of item.key item.body) (λ more. refl))
    (λ found. refl) p []

-- what is answered of the fold is answered of the lookup
pub told_names : (layout : Layout) (a b : Seen) (tree : TreeRoot) (ino : ℕ) (empty : List Link) (lo hi : Key)
    (ans : Result (List Link) (Halt fate.Fault UnreadBlock)) → empty ≡ [] → lo ≡ key ino inode_ref 0 → hi ≡ key ino inode_extref last
    → Tells layout a b (λ B. Follows {S = ⊥} (unread_by layout a b) no_part []
    (exec B (folded_over names_step (λ found. found) empty (range lo hi tree.place))) [] ans)
    → Tells layout a b (λ B. Follows {S = ⊥} (unread_by layout a b) no_part [] (exec B (links tree ino)) [] ans)
told_names layout a b tree ino empty lo hi ans is_empty is_lo is_hi told =
    let is = unread_by layout a b in
    let folds = λ (found : List Link) (l h : Key). folded_over names_step (λ found. found) found (range l h tree.place) in
    let same : folds empty lo hi ≡ links tree ino =
    ap (λ e. folds e lo hi) is_empty ∙ ap (λ k. folds [] k hi) is_lo ∙ ap (λ k. folds [] (key ino inode_ref 0) k) is_hi
    ∙ sym (names_as (range (key ino inode_ref 0) (key ino inode_extref last) tree.place)) in
    drawn layout (λ B. Follows {S = ⊥} is no_part [] (exec B (folds empty lo hi)) [] ans)
    (λ B. Follows {S = ⊥} is no_part [] (exec B (links tree ino)) [] ans)
    (λ B h. subst (λ (p : Lookup (List Link)). Follows {S = ⊥} is no_part [] (exec B p) [] ans) same h) told
