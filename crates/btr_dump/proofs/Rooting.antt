-- Lines of roots.
use Rattle.std.proofs.Common.{◌≡◌, Bool, eqb, cond, true, false, List, [], ◌∷◌, ◌++◌, Option, Result, Ok, Err, refl, sym, ap, ◌∙◌, subst}
use Rattle.std.proofs.Common.{eq-eqb}
use Rattle.std.proofs.lemmas.Bool.{ne_eqb}
use Rattle.std.proofs.lemmas.List.{append-nil}
use Rattle.btr_items.specs.RootItem.{root_item_of}
use Rattle.btr_items.specs.declared.fault.ItemFault.{ItemFault}
use Rattle.btr_items.specs.declared.root_item.RootItem.{RootItem}
use Rattle.btr_prog.specs.Prog.{Return, Stop as stop, Emit, Does, exec, wants_of}
use Rattle.btr_rack.specs.declared.error.SinkError.{SinkError}
use Rattle.btr_rack.specs.declared.error.SinkError.TheVariants as sink
use Rattle.btr_read.specs.Fate as fate
use Rattle.btr_read.specs.declared.want.Want.{Want}
use Rattle.btr_text.specs.Text.{Wrote, WasCut}
use Rattle.btr_text.proofs.Writing.{wrote_nothing, wrote_as, cut_as}
use Rattle.btr_dump.proofs.Loops.{goes_ends}
use Rattle.btr_walk.specs.Le.{TreeItem}
use Rattle.btr_walk.specs.Reading.{Map, UnreadBlock}
use Rattle.btr_volume.specs.Lookup.{formed}
use Rattle.btr_volume.specs.Tree.{described}
use Rattle.btr_walk.specs.declared.fault.TreeFault.TheVariants.{Malformed}
use Rattle.btr_volume.specs.declared.stop.Stop.{Stop}
use Rattle.btr_volume.specs.declared.stop.Stop.TheVariants.{Tree}
use Rattle.btr_dump.specs.Pieces.{Text, Shown, piece, root_line, item_line}
use Rattle.btr_dump.specs.Showing.{CutIn, ShowsText}
use Rattle.btr_dump.specs.Stops.{stop_of}

-- the output refused within a piece
pub piece_cut : (Is : UnreadBlock → Want → Type 0) (seen : List Want) (B : Map) (text : Text) (old new : Option Text) (waited waits : Text)
    (e : SinkError) → WasCut old new waited waits text → ShowsText {A = Unit {0}} Is seen (exec B (piece text)) old new waited waits (Err (stop_of e))
piece_cut Is seen B text old new waited waits e cut = by e
  where
    -- the output refused within the one piece
    within : CutIn (exec B (piece text)) old new waited waits
    within = record { before = Does text ∷ []; behind = []; place = refl; cut = cut_as (text ++ []) (sym (append-nil text)) cut }

    by : (e : SinkError) → ShowsText {A = Unit {0}} Is seen (exec B (piece text)) old new waited waits (Err (stop_of e))
    by sink.Failed = within
    by sink.Memory = within

module _ (item : TreeItem) where
  -- an item of another type has no line
  pub item_none : eqb item.key.kind 132 ≡ false → Return tt ≡ item_line item
  unfolding item_line
  item_none other = ap (λ b. cond b (formed item (root_item_of item.body) (λ root. piece (root_line (described item.key root)))) (Return tt)) (sym other)

  -- a ROOT_ITEM has the line of the root that it describes, by its form
  same_kind : eqb item.key.kind 132 ≡ true → formed item (root_item_of item.body) (λ root. piece (root_line (described item.key root))) ≡ item_line item
  unfolding item_line
  same_kind is = ap (λ b. cond b (formed item (root_item_of item.body) (λ root. piece (root_line (described item.key root)))) (Return tt)) (sym is)

  -- one that breaks its form
  pub item_broken : eqb item.key.kind 132 ≡ true → (fault : ItemFault) → Err fault ≡ root_item_of item.body → stop (fate.Malformed item.leaf) ≡ item_line item
  item_broken is fault read = ap (λ r. formed item r (λ root. piece (root_line (described item.key root)))) read ∙ same_kind is

  -- one of a root
  pub item_root : eqb item.key.kind 132 ≡ true → (root : RootItem) → Ok root ≡ root_item_of item.body → piece (root_line (described item.key root))
      ≡ item_line item
  item_root is root read = ap (λ r. formed item r (λ root. piece (root_line (described item.key root)))) read ∙ same_kind is

module _ (Is : UnreadBlock → Want → Type 0) (seen : List Want) (B : Map) (item : TreeItem) (text : Option Text) (waits : Text) where
  -- so nothing is written of an item of another type
  pub none_written : (item.key.kind ≡ 132 → ⊥) → ShowsText {A = Unit {0}} Is seen (exec B (item_line item)) text text waits waits (Ok tt)
  none_written other = subst (λ p. ShowsText {A = Unit {0}} Is seen (exec B p) text text waits waits (Ok tt)) (item_none item (ne_eqb _ _ other))
      (record { done = []; wrote = wrote_nothing text waits; follows = (refl, refl) })

  -- nor of one that breaks its form
  pub broken_written : item.key.kind ≡ 132 → (fault : ItemFault) → Err fault ≡ root_item_of item.body
      → ShowsText {A = Unit {0}} Is seen (exec B (item_line item)) text text waits waits (Err (Tree (Malformed item.leaf)))
  broken_written is fault read =
      subst (λ p. ShowsText {A = Unit {0}} Is seen (exec B p) text text waits waits (Err (Tree (Malformed item.leaf))))
      (item_broken item (eq-eqb _ _ is) fault read)
      (record { done = []; wrote = wrote_nothing text waits; follows = (refl, refl) })

-- the line of a root is written
pub root_written : (Is : UnreadBlock → Want → Type 0) (seen : List Want) (B : Map) (item : TreeItem) (line : Text) (old new : Option Text)
    (waited waits : Text) (result : Result (Unit {0}) Stop) → item.key.kind ≡ 132 → (root : RootItem) → Ok root ≡ root_item_of item.body
    → line ≡ root_line (described item.key root) → ShowsText Is seen (exec B (piece line)) old new waited waits result
    → ShowsText Is seen (exec B (item_line item)) old new waited waits result
root_written Is seen B item line old new waited waits result is root read same w =
    subst (λ p. ShowsText Is seen (exec B p) old new waited waits result) (item_root item (eq-eqb _ _ is) root read)
    (subst (λ l. ShowsText Is seen (exec B (piece l)) old new waited waits result) same w)

-- a line of an item wants nothing
pub no_wants : (B : Map) (item : TreeItem) → wants_of (exec B (item_line item)).marks ≡ []
unfolding item_line
no_wants B item = by_kind (eqb item.key.kind 132)
  where
    -- the line of a ROOT_ITEM wants nothing, whether it keeps its form or not
    by_root : (r : Result RootItem ItemFault) → let p : Shown = formed item r (λ root. piece (root_line (described item.key root))) in
        wants_of (exec B p).marks ≡ []
    by_root (Ok root) = refl
    by_root (Err fault) = refl

    -- the line of an item wants nothing, whether it is a ROOT_ITEM or not
    by_kind : (b : Bool) → let p : Shown = cond b (formed item (root_item_of item.body) (λ root. piece (root_line (described item.key root))))
        (Return tt) in wants_of (exec B p).marks ≡ []
    by_kind true = by_root (root_item_of item.body)
    by_kind false = refl

module _ (Is : UnreadBlock → Want → Type 0) (B : Map) (first second : Text) (p : Shown) where
  -- the output refused within two pieces
  pub two_cut : (old new : Option Text) (waited waits : Text) (e : SinkError) → WasCut old new waited waits (first ++ second)
      → ShowsText {A = Unit {0}} Is [] (exec B (Emit first (Emit second p))) old new waited waits (Err (stop_of e))
  two_cut old new waited waits e cut = by e
    where
      -- the output refused within the first two pieces
      within : CutIn (exec B (Emit first (Emit second p))) old new waited waits
      within = record {
        before = Does first ∷ Does second ∷ [];
        behind = (exec B p).marks;
        place = refl;
        cut = cut_as (first ++ (second ++ [])) (ap (λ t. first ++ t) (sym (append-nil second))) cut;
      }

      by : (e : SinkError) → ShowsText {A = Unit {0}} Is [] (exec B (Emit first (Emit second p))) old new waited waits (Err (stop_of e))
      by sink.Failed = within
      by sink.Memory = within

  -- two pieces were written, and then what follows
  pub two_then : (old mid new : Option Text) (waited between waits : Text) (result : Result (Unit {0}) Stop)
      → Wrote old mid waited between (first ++ second) → ShowsText Is [] (exec B p) mid new between waits result
      → ShowsText Is [] (exec B (Emit first (Emit second p))) old new waited waits result
  two_then old mid new waited between waits result wrote w =
      goes_ends (λ ws. ws ≡ []) Is Is (λ u w i. i) (exec B (Emit first (Emit second p))) (exec B p) [] old mid new waited between waits result
      (record {
        past = record {
          marks = Does first ∷ Does second ∷ [];
          is = refl;
          wrote = wrote_as (first ++ (second ++ [])) (ap (λ t. first ++ t) (sym (append-nil second))) wrote;
        };
        on = refl;
      })
      (λ ws none. subst (λ (x : List Want). ShowsText Is x (exec B p) mid new between waits result) (sym none) w)

module _ (Is : UnreadBlock → Want → Type 0) (B : Map) (first : Text) (p : Shown) where
  -- the output refused within a piece
  pub one_cut : (old new : Option Text) (waited waits : Text) (e : SinkError) → WasCut old new waited waits first
      → ShowsText {A = Unit {0}} Is [] (exec B (Emit first p)) old new waited waits (Err (stop_of e))
  one_cut old new waited waits e cut = by e
    where
      -- the output refused within the first piece
      within : CutIn (exec B (Emit first p)) old new waited waits
      within = record { before = Does first ∷ []; behind = (exec B p).marks; place = refl; cut = cut_as (first ++ []) (sym (append-nil first)) cut }

      by : (e : SinkError) → ShowsText {A = Unit {0}} Is [] (exec B (Emit first p)) old new waited waits (Err (stop_of e))
      by sink.Failed = within
      by sink.Memory = within

  -- a piece was written, and then what follows
  pub one_then : (old mid new : Option Text) (waited between waits : Text) (result : Result (Unit {0}) Stop) → Wrote old mid waited between first
      → ShowsText Is [] (exec B p) mid new between waits result → ShowsText Is [] (exec B (Emit first p)) old new waited waits result
  one_then old mid new waited between waits result wrote w =
      goes_ends (λ ws. ws ≡ []) Is Is (λ u w i. i) (exec B (Emit first p)) (exec B p) [] old mid new waited between waits result
      (record { past = record { marks = Does first ∷ []; is = refl; wrote = wrote_as (first ++ []) (sym (append-nil first)) wrote }; on = refl })
      (λ ws none. subst (λ (x : List Want). ShowsText Is x (exec B p) mid new between waits result) (sym none) w)
