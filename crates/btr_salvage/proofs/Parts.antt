-- The tour of a directory over images that lack blocks, beside what restore does about its items.
use Rattle.std.proofs.Common.{◌≡◌, ◌⊎◌, inl, inr, ℕ, zero, suc, ◌-◌, Bool, List, [], ◌∷◌, ◌++◌, map, filter, flat_map, codes, Option, Some, None, Result, Ok}
use Rattle.std.proofs.Common.{Err, refl, sym, ap, ◌∙◌, subst, append-nil, append_assoc}
use Rattle.btr_base.specs.declared.key.Key.{Key}
use Rattle.btr_items.specs.Entry.{index_entry_of}
use Rattle.btr_items.specs.Types.{dir_index}
use Rattle.btr_items.specs.declared.entry.Entry.{Entry as IndexEntry}
use Rattle.btr_items.specs.declared.fault.ItemFault.{ItemFault}
use Rattle.btr_node.specs.declared.node.Node.{Node}
use Rattle.btr_node.specs.declared.node.Node.TheVariants.{Leaf, Inner}
use Rattle.btr_prog.specs.Outcomes.{RunOutcome, outcome, outcome_of}
use Rattle.btr_prog.specs.Prog.{Return, Stop, Emit, exec, bind, given, steps_of}
use Rattle.btr_prog.specs.Thread.{go_on}
use Rattle.btr_prog.specs.Trying.{Done, Try, Act, act_all, tried}
use Rattle.btr_read.specs.Fate.{Fault, Lost, Malformed}
use Rattle.btr_super.specs.declared.superblock.Super.{Super}
use Rattle.btr_tour.specs.Program.{TourProg, by_block, by_node, children, items_until_fault, tour_from}
use Rattle.btr_tour.specs.Tour.{Mark, Block, Child, Item, Left, block_tour, child_pointers, child_tour, faults_met, items_met, meets_keys, node_tour}
use Rattle.btr_tour.specs.Tour.{tour, tour_at}
use Rattle.btr_tour.proofs.Programs.{marks_law}
use Rattle.btr_tour.proofs.Ranges.{faultless_law, stops_law}
use Rattle.btr_walk.specs.Le.{TreeItem, root_pointer, want_of}
use Rattle.btr_walk.specs.Range.{RangeProg, emit_all, items_within, range}
use Rattle.btr_walk.specs.Reading.{Map}
use Rattle.btr_walk.specs.BlockPointer.{judged}
use Rattle.btr_walk.specs.declared.block_pointer.BlockPointer.{BlockPointer}
use Rattle.btr_volume.specs.Lookup.{Program, each, formed}
use Rattle.btr_volume.specs.Tree.{key, last}
use Rattle.btr_volume.specs.declared.root.TreeRoot.{TreeRoot}
use Rattle.btr_files.specs.declared.counts.Counts.{Counts}
use Rattle.btr_files.specs.declared.plan.RestorePlan.{RestorePlan}
use Rattle.btr_files.specs.Entries.{DirEntry, entries, entries_in, entry_of}
use Rattle.btr_listing.specs.Deciding.{met_in}
use Rattle.btr_listing.specs.Step.{Step, Line}
use Rattle.btr_restore.specs.Journey as journey
use Rattle.btr_salvage.specs.declared.salvaged.Salvaged.{Salvaged}
use Rattle.btr_prog.specs.Attempts.{treat_each, value_then}
use Rattle.btr_salvage.specs.Left.{InTurn, Joined, IsMissing, IsPart, IsThere, IsTreated, OfBlock, OfItem, OfListed, OfNode, treat_entry, treat_items}
use Rattle.btr_salvage.specs.Lines.{folder_path, missing_line, with_broken}
use Rattle.btr_salvage.specs.Marks.{folder_tour, item_in, mark_in}
use Rattle.btr_salvage.specs.Salvaging.{Attempt, SalvageListing, listed, meet, treat}
use Rattle.btr_salvage.proofs.Countless.{Countless, EntryCountless, each_free}
use Rattle.btr_salvage.proofs.Endings.{Came, Did, came_value, did_first, each_same, each_value, first_value}
use Rattle.btr_salvage.proofs.Keeping.{Keeps}

-- ---- marks

items_met-append : (xs ys : List Mark) → items_met (xs ++ ys) ≡ items_met xs ++ items_met ys
items_met-append [] ys = refl
items_met-append (Block place block ∷ xs) ys = items_met-append xs ys
items_met-append (Child addr place ∷ xs) ys = items_met-append xs ys
items_met-append (Item item ∷ xs) ys = ap (λ l. item ∷ l) (items_met-append xs ys)
items_met-append (Left fault ∷ xs) ys = items_met-append xs ys

-- marks without faults have none in their parts
no_faults : (xs ys : List Mark) → faults_met (xs ++ ys) ≡ [] → (faults_met xs ≡ []) × (faults_met ys ≡ [])
no_faults [] ys h = (refl, h)
no_faults (Block place block ∷ xs) ys h = no_faults xs ys h
no_faults (Child addr place ∷ xs) ys h = no_faults xs ys h
no_faults (Item item ∷ xs) ys h = no_faults xs ys h
no_faults (Left fault ∷ xs) ys h = absurd (let e : fault ∷ faults_met (xs ++ ys) ≡ [] = h in cc)

-- the items met in a tour of items alone are these
items_alone : (xs : List TreeItem) → items_met (map Item xs) ≡ xs
items_alone [] = refl
items_alone (x ∷ xs) = ap (λ l. x ∷ l) (items_alone xs)

-- ---- where a range comes to its end, its tour has no fault

module _ (C : Map) where
  -- what a tour meets, by the block map
  abbrev marks_by : TourProg → List Mark
  marks_by p = steps_of (tried C p).marks

  -- where a range behind a want comes to its end, its tour met no fault, if so for each block of the want
  given_whole : (x : Result (List ℕ) Fault) (k : Result (List ℕ) Fault → TourProg)
      → ((block : List ℕ) → (exec C (items_until_fault (k (Ok block)))).ending ≡ Ok tt → faults_met (marks_by (k (Ok block))) ≡ [])
      → (given x (λ block. exec C (items_until_fault (k (Ok block))))).ending ≡ Ok tt → faults_met (marks_by (k x)) ≡ []
  given_whole (Ok block) k ih h = ih block h
  given_whole (Err fault) k ih h = absurd (cc)

  -- where the range of a tour comes to its end, the tour met no fault
  whole_tour : (p : TourProg) → (exec C (items_until_fault p)).ending ≡ Ok tt → faults_met (marks_by p) ≡ []
  whole_tour (Done u) h = refl
  whole_tour (Try w k) h = given_whole (C w) k (λ block g. whole_tour (k (Ok block)) g) h
  whole_tour (Act (Block place block) p) h = whole_tour p h
  whole_tour (Act (Child addr place) p) h = whole_tour p h
  whole_tour (Act (Item item) p) h = whole_tour p h
  whole_tour (Act (Left fault) p) h = absurd (cc)

  -- a range of some items alone gives these, and comes to its end
  emitted : (xs : List TreeItem) → outcome_of (exec C (emit_all xs (Return tt))) ≡ outcome xs (Ok tt)
  emitted [] = refl
  emitted (x ∷ xs) = ap (λ (o : RunOutcome Fault TreeItem (Unit {0})). outcome (x ∷ o.steps) o.ending) (emitted xs)

-- ---- entries

-- the entry in an item of a directory
abbrev in_item : Unit {0} → TreeItem → Program DirEntry (Unit {0})
in_item u item = formed item (index_entry_of item.body) (λ entry. Emit (entry_of item entry) (Return tt))

-- the entry in an item and those behind it, by the item's form
abbrev by_form : TreeItem → RangeProg → Result IndexEntry ItemFault → Program DirEntry (Unit {0})
by_form item more form =
    bind (bind (formed item form (λ entry. Emit (entry_of item entry) (Return tt))) (λ st'. Return (Ok st'))) (go_on (λ st'. each in_item st' more))

-- an item of good form gives its entry, and then come those behind it
entry_first : (item : TreeItem) (more : RangeProg) (entry : IndexEntry) → index_entry_of item.body ≡ Ok entry → entries_in (Emit item more)
    ≡ Emit (entry_of item entry) (entries_in more)
entry_first item more entry e = ap (by_form item more) e

-- an item that breaks its form makes its leaf malformed, and nothing comes behind it
entry_broken : (item : TreeItem) (more : RangeProg) (fault : ItemFault) → index_entry_of item.body ≡ Err fault → entries_in (Emit item more)
    ≡ Stop (Malformed item.leaf)
entry_broken item more fault e = ap (by_form item more) e

module _ (C : Map) {St : Type 0} (treat_one : St → DirEntry → Program Step St) where
  -- an item from which entries were treated to their end is of good form
  form_by : (item : TreeItem) (more : RangeProg) (st end : St) (x : Result IndexEntry ItemFault) → index_entry_of item.body ≡ x
      → (exec C (each treat_one st (entries_in (Emit item more)))).ending ≡ Ok end → (entry : IndexEntry) × (index_entry_of item.body ≡ Ok entry)
  form_by item more st end (Ok entry) e h = (entry, e)
  form_by item more st end (Err fault) e h = let g = sym (ap (λ p. (exec C (each treat_one st p)).ending) (entry_broken item more fault e)) ∙ h in absurd (cc)

  -- the first item has an entry, that is treated to a value
  pub item_value : (item : TreeItem) (more : RangeProg) (st end : St) → (exec C (each treat_one st (entries_in (Emit item more)))).ending ≡ Ok end
      → (entry : IndexEntry) × (index_entry_of item.body ≡ Ok entry) × (after : St) × ((exec C (treat_one st (entry_of item entry))).ending ≡ Ok after)
  item_value item more st end h =
      let f = form_by item more st end (index_entry_of item.body) refl h in
      let g = first_value C treat_one st end (entry_of item f.0) (entries_in more)
      (sym (ap (λ p. (exec C (each treat_one st p)).ending) (entry_first item more f.0 f.1)) ∙ h) in
      (f.0, f.1, g.0, g.1)

  -- behind it come the others
  pub item_first : (item : TreeItem) (more : RangeProg) (entry : IndexEntry) (st after : St) → index_entry_of item.body ≡ Ok entry
      → (exec C (treat_one st (entry_of item entry))).ending ≡ Ok after
      → Did C (each treat_one st (entries_in (Emit item more)))
      (steps_of (exec C (treat_one st (entry_of item entry))).marks ++ steps_of (exec C (each treat_one after (entries_in more))).marks)
      (exec C (each treat_one after (entries_in more))).ending
  item_first item more entry st after e h =
      subst (λ p. Did C (each treat_one st p) (steps_of (exec C (treat_one st (entry_of item entry))).marks
      ++ steps_of (exec C (each treat_one after (entries_in more))).marks) (exec C (each treat_one after (entries_in more))).ending)
      (sym (entry_first item more entry e)) (did_first C treat_one st after (entry_of item entry) (entries_in more) h)

  -- the entries in some items are treated one after another
  abbrev all : St → List TreeItem → Program Step St
  all st xs = each treat_one st (entries_in (emit_all xs (Return tt)))

  -- items fall into two parts
  pub record Parts (xs ys : List TreeItem) (st end : St) : Type 0 where
    pub between : St
    pub first : (exec C (all st xs)).ending ≡ Ok between
    pub then_ends : (exec C (all between ys)).ending ≡ Ok end
    pub steps : steps_of (exec C (all st (xs ++ ys))).marks ≡ steps_of (exec C (all st xs)).marks ++ steps_of (exec C (all between ys)).marks

  -- items that are treated to their end in a row are so in two parts
  pub parts : (xs ys : List TreeItem) (st end : St) → (exec C (all st (xs ++ ys))).ending ≡ Ok end → Parts xs ys st end
  parts [] ys st end h = record { between = st; first = refl; then_ends = h; steps = refl }
  parts (x ∷ xs) ys st end h =
      let v = item_value x (emit_all (xs ++ ys) (Return tt)) st end h in
      let one = steps_of (exec C (treat_one st (entry_of x v.0))).marks in
      let both = item_first x (emit_all (xs ++ ys) (Return tt)) v.0 st v.2 v.1 v.3 in
      let here = item_first x (emit_all xs (Return tt)) v.0 st v.2 v.1 v.3 in
      let ih = parts xs ys v.2 end (sym both.1 ∙ h) in
      record {
        between = ih.between;
        first = here.1 ∙ ih.first;
        then_ends = ih.then_ends;
        steps =
            both.0
            ∙ ap (λ l. one ++ l) ih.steps
            ∙ sym (append_assoc one (steps_of (exec C (all v.2 xs)).marks) (steps_of (exec C (all ih.between ys)).marks))
            ∙ ap (λ l. l ++ steps_of (exec C (all ih.between ys)).marks) (sym here.0);
      }

-- ---- a directory of which the images may lack blocks

module _ (plan : RestorePlan) (s : Super) (sums : Option TreeRoot) (B C : Map) (keeps : Keeps B C)
    (deep : Bool) (below : journey.Listing) (here : SalvageListing) (Inside : TreeRoot → ℕ → List ℕ → List Step → List Step → Type 0)
    (tree : TreeRoot) (dirid : ℕ) (path : List ℕ) where
  -- the first key of the directory's items
  abbrev lo : Key
  lo = key dirid dir_index 0

  -- the last key of the directory's items
  abbrev hi : Key
  hi = key dirid dir_index last

  -- what restore does about the entries in some items of the directory
  abbrev by_restore : Counts → List TreeItem → Program Step Counts
  by_restore = treat_items plan s sums B C deep below Inside tree dirid path

  -- what restore does about them in the committed blocks
  abbrev whole_of : Counts → List TreeItem → List Step
  whole_of counts items = steps_of (exec C (by_restore counts items)).marks

  -- what an entry comes to
  abbrev IsOne : DirEntry → List Step → List Step → Type 0
  IsOne entry whole left =
      IsTreated plan s sums B C Inside (met_in deep tree dirid path entry) whole left
      ⊎ IsMissing plan s sums B C deep below Inside tree dirid path entry whole left

  pub record EntryLeft (entry : DirEntry) (so_far : Salvaged) (whole : List Step) : Type 0 where
    pub after : Salvaged
    pub left : List Step
    pub came : Came B (treat plan s sums deep here tree dirid path so_far entry) left (Ok after)
    pub is : IsOne entry whole left

  -- salvage leaves something of each entry that restore treats to its end in the committed blocks
  abbrev pub EachEntry : Type 0
  EachEntry =
      (entry : DirEntry) (counts end : Counts) (so_far : Salvaged)
      → (exec C (journey.treat plan s sums deep below tree dirid path counts entry)).ending ≡ Ok end
      → EntryLeft entry so_far (steps_of (exec C (journey.treat plan s sums deep below tree dirid path counts entry)).marks)

  module _ (free : EntryCountless C (journey.treat plan s sums deep below tree dirid path)) (each_entry : EachEntry) where
    -- what salvage does with the marks of a tour
    abbrev left_to : Salvaged → TourProg → Attempt Salvaged
    left_to so_far p = treat_each (λ before mark. meet plan s sums deep here tree dirid path before (mark_in mark)) so_far p

    -- some of a tour is past, and then comes the rest
    record Past (now : Attempt Salvaged) (rest : TourProg) (Of : List Step → Type 0) : Type 0 where
      pub after : Salvaged
      pub left : List Step
      pub of : Of left
      pub on : (ts : List Step) (x : Result Salvaged Fault) → Came B (left_to after rest) ts x → Came B now (left ++ ts) x

    -- items are treated to their end by the same steps, whatever was counted before
    items_free : (items : List TreeItem) → Countless C (λ counts. by_restore counts items)
    items_free items =
        each_free C (treat_entry plan s sums B C deep below Inside tree dirid path) free (entries_in (emit_all items (Return tt)))

    -- salvage passes a tour up to its rest, and what it leaves of what restore does about some items is as Of says
    abbrev Passes : TourProg → TourProg → List TreeItem → (List Step → List Step → Type 0) → Type 0
    Passes p rest items Of =
        (counts end : Counts) (so_far : Salvaged) → (exec C (by_restore counts items)).ending ≡ Ok end
        → Past (left_to so_far p) rest (Of (whole_of counts items))

    -- with no items to pass nothing is done, and nothing is left
    pass_none : (rest : TourProg) → Passes rest rest [] (λ whole left. (whole ≡ []) × (left ≡ []))
    pass_none rest counts end so_far h = record { after = so_far; left = []; of = (refl, refl); on = λ ts x g. g }

    -- two parts of a tour are passed one after the other
    pass_then : (p between rest : TourProg) (xs ys : List TreeItem) (One More : List Step → List Step → Type 0) → Passes p between xs One
        → Passes between rest ys More → Passes p rest (xs ++ ys) (Joined One More)
    pass_then p between rest xs ys One More one more counts end so_far h =
        let f = parts C (treat_entry plan s sums B C deep below Inside tree dirid path) xs ys counts end h in
        let a = one counts f.between so_far f.first in
        let b = more f.between end a.after f.then_ends in
        record {
          after = b.after;
          left = a.left ++ b.left;
          of = record {
            one = whole_of counts xs;
            more = whole_of f.between ys;
            one_left = a.left;
            more_left = b.left;
            parts = f.steps;
            parts_left = refl;
            of_one = a.of;
            of_more = b.of;
          };
          on = λ ts x g. subst (λ l. Came B (left_to so_far p) l x) (sym (append_assoc a.left b.left ts)) (a.on (b.left ++ ts) x (b.on ts x g));
        }

    -- an item of the directory is passed: its entry is treated, or left out and named
    pass_item : (item : TreeItem) (rest : TourProg) → Passes (Act (Item item) rest) rest (item ∷ [])
        (OfItem plan s sums B C deep below Inside tree dirid path item)
    pass_item item rest counts end so_far h =
        let v = item_value C (treat_entry plan s sums B C deep below Inside tree dirid path) item (Return tt) counts end h in
        let alone = item_first C (treat_entry plan s sums B C deep below Inside tree dirid path) item (Return tt) v.0 counts v.2 v.1 v.3 in
        let whole = steps_of (exec C (journey.treat plan s sums deep below tree dirid path counts (entry_of item v.0))).marks in
        let e = each_entry (entry_of item v.0) counts v.2 so_far v.3 in
        record {
          after = e.after;
          left = e.left;
          of = record {
            entry = v.0;
            formed = v.1;
            is = subst (λ l. IsOne (entry_of item v.0) l e.left) (sym (alone.0 ∙ append-nil whole)) e.is;
          };
          on = λ ts x g. subst (λ form. Came B (value_then (meet plan s sums deep here tree dirid path so_far (item_in item form))
              (λ after. left_to after rest)) (e.left ++ ts) x) (sym v.1)
              (came_value B (treat plan s sums deep here tree dirid path so_far (entry_of item v.0))
              (λ after. left_to after rest) e.after e.left ts x e.came g);
        }

    -- items of the directory are passed in turn
    pass_items : (items : List TreeItem) (rest : TourProg) → Passes (act_all (map Item items) rest) rest items
        (InTurn (OfItem plan s sums B C deep below Inside tree dirid path) items)
    pass_items [] rest = pass_none rest
    pass_items (x ∷ xs) rest =
        let One = OfItem plan s sums B C deep below Inside tree dirid path in
        let later = act_all (map Item xs) rest in
        pass_then (Act (Item x) later) later rest (x ∷ []) xs (One x) (InTurn One xs) (pass_item x later) (pass_items xs rest)

    module _ (go : BlockPointer → TourProg → TourProg) (marks : BlockPointer → List Mark) (One : BlockPointer → List Step → List Step → Type 0)
        (each_block : (pointer : BlockPointer) (rest : TourProg) → faults_met (marks pointer) ≡ []
        → Passes (go pointer rest) rest (items_met (marks pointer)) (One pointer)) where
      -- the children of a node are passed in turn
      pass_children : (addr level : ℕ) (block_pointers : List BlockPointer) (rest : TourProg)
          → faults_met (flat_map (child_tour lo hi marks addr level) block_pointers) ≡ []
          → Passes (children go addr level block_pointers rest) rest (items_met (flat_map (child_tour lo hi marks addr level) block_pointers))
          (InTurn One block_pointers)
      pass_children addr level [] rest none = pass_none rest
      pass_children addr level (pointer ∷ block_pointers) rest none =
          let later : List Mark = flat_map (child_tour lo hi marks addr level) block_pointers in
          let each_none = no_faults (marks pointer) later none in
          let on = children go addr level block_pointers rest in
          subst (λ items. Passes (go pointer on) rest items (InTurn One (pointer ∷ block_pointers))) (sym (items_met-append (marks pointer) later))
          (pass_then (go pointer on) on rest (items_met (marks pointer)) (items_met later) (One pointer) (InTurn One block_pointers)
          (each_block pointer on each_none.0) (pass_children addr level block_pointers rest each_none.1))

      -- a block whose tour has no fault is a good one, and what is below it is passed
      pass_node : (level : ℕ) (pointer : BlockPointer) (block : List ℕ) (rest : TourProg) (o : Option Node)
          → faults_met (node_tour lo hi marks level pointer block o) ≡ []
          → (node : Node) × (o ≡ Some node)
          × Passes (by_node lo hi go level pointer block rest o) rest (items_met (node_tour lo hi marks level pointer block o))
          (OfNode plan s sums B C deep below Inside tree dirid path One pointer node)
      pass_node level pointer block rest None none = absurd (let e : Malformed pointer.addr ∷ [] ≡ [] = none in cc)
      pass_node level pointer block rest (Some (Leaf items)) none =
          let xs = items_within lo hi pointer.addr items in (
            Leaf items,
            refl,
            subst (λ l. Passes (act_all (map Item xs) rest) rest l (InTurn (OfItem plan s sums B C deep below Inside tree dirid path) xs))
                (sym (items_alone xs)) (pass_items xs rest),
          )
      pass_node level pointer block rest (Some (Inner ps)) none =
          (Inner ps, refl, pass_children pointer.addr (level - 1) (filter (meets_keys lo hi) (child_pointers ps pointer.up)) rest none)

      module _ (level : ℕ) (pointer : BlockPointer) (rest : TourProg) (same : tour_at lo hi C level pointer
          ≡ block_tour lo hi marks level pointer (C (want_of level pointer)))
        where
          -- what the tour meets from the block downwards, by what becomes of it
          abbrev here_marks : Result (List ℕ) Fault → List Mark
          here_marks x = block_tour lo hi marks level pointer x

          -- the images have the block as it was committed, or it is lost
          abbrev IsBlock : List Step → List Step → Type 0
          IsBlock whole left =
              IsThere plan s sums B C deep below Inside tree dirid path One level pointer whole left
              ⊎ IsPart plan s sums B C deep below Inside tree dirid path level pointer whole left

          -- the block is tried by salvage
          abbrev wanted : Salvaged → Attempt Salvaged
          wanted so_far = left_to so_far (Try (want_of level pointer) (by_block lo hi go level pointer rest))

          -- salvage goes on by what became of the block
          abbrev goes_on : Salvaged → Result (List ℕ) Fault → Attempt Salvaged
          goes_on so_far fate = left_to so_far (by_block lo hi go level pointer rest fate)

          -- the line that a part of the directory is lost
          abbrev part_line : Step
          part_line = Line (missing_line (codes "part") (Lost pointer.addr) (folder_path path))

          -- a lost block is passed: it is named once, and all that is below it is left out
          pass_lost : (counts end : Counts) (so_far : Salvaged)
              → (exec C (by_restore counts (items_met (here_marks (C (want_of level pointer)))))).ending ≡ Ok end
              → B (want_of level pointer) ≡ Err (Lost pointer.addr)
              → Past (wanted so_far) rest (IsBlock (whole_of counts (items_met (here_marks (C (want_of level pointer))))))
          pass_lost counts end so_far h lost = record {
            after = with_broken so_far;
            left = part_line ∷ [];
            of = inr record {
              lost = lost;
              is = λ n. sym (items_free (items_met (here_marks (C (want_of level pointer)))) counts n end h).1.0
                  ∙ ap (λ ms. whole_of n (items_met ms)) (sym same);
              named = refl;
            };
            on = λ ts x g. subst (λ fate. Came B (goes_on so_far fate) (part_line ∷ ts) x) (sym lost) (ap (λ l. part_line ∷ l) g.0, g.1);
          }

          -- a block that the images have as it was committed is passed, with all that is below it
          pass_good : (block : List ℕ) → C (want_of level pointer) ≡ Ok block → B (want_of level pointer) ≡ Ok block
              → faults_met (here_marks (C (want_of level pointer)))
              ≡ []
              → (counts end : Counts) (so_far : Salvaged) → (exec C (by_restore counts (items_met (here_marks (C (want_of level pointer)))))).ending ≡ Ok end
              → Past (wanted so_far) rest (IsBlock (whole_of counts (items_met (here_marks (C (want_of level pointer))))))
          pass_good block was came none counts end so_far h =
              let n = pass_node level pointer block rest (judged level pointer block) (sym (ap (λ x. faults_met (here_marks x)) was) ∙ none) in
              let r = n.2 counts end so_far (sym (ap (λ x. (exec C (by_restore counts (items_met (here_marks x)))).ending) was) ∙ h) in
              record {
                after = r.after;
                left = r.left;
                of = inl record {
                  block = block;
                  node = n.0;
                  was = was;
                  came = came;
                  good = n.1;
                  of = subst (λ whole. OfNode plan s sums B C deep below Inside tree dirid path One pointer n.0 whole r.left)
                      (sym (ap (λ x. whole_of counts (items_met (here_marks x))) was)) r.of;
                };
                on = λ ts x g. subst (λ fate. Came B (goes_on so_far fate) (r.left ++ ts) x) (sym came) (r.on ts x g);
              }

          -- a committed block is passed, whatever the images have of it
          pass_by : (x : Result (List ℕ) Fault) → C (want_of level pointer) ≡ x → faults_met (here_marks (C (want_of level pointer))) ≡ []
              → Passes (Try (want_of level pointer) (by_block lo hi go level pointer rest)) rest (items_met (here_marks (C (want_of level pointer)))) IsBlock
          pass_by (Err fault) is none = let e : fault ∷ [] ≡ [] = sym (ap (λ x. faults_met (here_marks x)) is) ∙ none in absurd (cc)
          pass_by (Ok block) is none = λ counts end so_far h. by_fate counts end so_far h (keeps (want_of level pointer) block is)
            where
              -- a committed block is passed, as the images have it or it is lost
              by_fate : (counts end : Counts) (so_far : Salvaged)
                  → (exec C (by_restore counts (items_met (here_marks (C (want_of level pointer)))))).ending ≡ Ok end
                  → (B (want_of level pointer) ≡ Ok block) ⊎ (B (want_of level pointer) ≡ Err (Lost pointer.addr))
                  → Past (wanted so_far) rest (IsBlock (whole_of counts (items_met (here_marks (C (want_of level pointer))))))
              by_fate counts end so_far h (inl came) = pass_good block is came none counts end so_far h
              by_fate counts end so_far h (inr lost) = pass_lost counts end so_far h lost

    -- the tour from a block downwards is passed, whatever its level
    pass_at : (level : ℕ) (pointer : BlockPointer) (rest : TourProg) → faults_met (tour_at lo hi C level pointer) ≡ []
        → Passes (tour_from lo hi level pointer rest) rest (items_met (tour_at lo hi C level pointer))
        (OfBlock plan s sums B C deep below Inside tree dirid path level pointer)
    pass_at zero pointer rest none =
        pass_by (λ child more. more) (λ child. []) (λ child w l. (w ≡ []) × (l ≡ [])) (λ child more e. pass_none more) 0 pointer rest refl
        (C (want_of 0 pointer)) refl none
    pass_at (suc n) pointer rest none =
        pass_by (tour_from lo hi n) (tour_at lo hi C n) (OfBlock plan s sums B C deep below Inside tree dirid path n) (pass_at n) (suc n) pointer rest refl
        (C (want_of (suc n) pointer)) refl none

    -- a directory whose entries all come to an end in the committed blocks
    pub record FolderLeft (so_far : Salvaged) (whole : List Step) : Type 0 where
      pub after : Salvaged
      pub left : List Step
      pub came : Came B (listed plan s sums deep here tree dirid path so_far) left (Ok after)
      pub is : OfListed plan s sums B C deep below Inside tree dirid path whole left

    -- a directory whose committed listing comes to its end is listed, and what is left of it is as its blocks are there or lost
    pub folder_left : (counts end : Counts) (so_far : Salvaged) → (exec C (journey.listed plan s sums deep below tree dirid path counts)).ending ≡ Ok end
        → FolderLeft so_far (steps_of (exec C (journey.listed plan s sums deep below tree dirid path counts)).marks)
    folder_left counts end so_far h =
        let one = treat_entry plan s sums B C deep below Inside tree dirid path in
        let all : RangeProg = range lo hi tree.place in
        let ended = each_value C in_item all tt tt (each_value C one (entries tree dirid) counts end h) in
        let none = ap faults_met (sym (marks_law C tree.place lo hi)) ∙ whole_tour C (folder_tour tree dirid)
        (ap (λ p. (exec C p).ending) (stops_law tree.place lo hi) ∙ ended) in
        let met = items_met (tour lo hi C tree.place) in
        let found = faultless_law C tree.place lo hi none in
        let same = each_same C one (entries tree dirid) (entries_in (emit_all met (Return tt))) counts
        (each_same C in_item all (emit_all met (Return tt)) tt (ap (λ xs. outcome xs (exec C all).ending) found.0 ∙ ap (outcome met) found.1
        ∙ sym (emitted C met))) in
        let r = pass_at tree.place.level (root_pointer tree.place) (Done tt) none counts end so_far (ap (λ o. o.ending) (sym same) ∙ h) in
        record {
          after = r.after;
          left = r.left;
          came = subst (λ l. Came B (listed plan s sums deep here tree dirid path so_far) l (Ok r.after)) (append-nil r.left)
              (r.on [] (Ok r.after) (refl, refl));
          is = subst (λ whole. OfListed plan s sums B C deep below Inside tree dirid path whole r.left) (sym (ap (λ o. o.steps) same)) r.of;
        }
