-- A file goes on to its next extent.
use Rattle.std.proofs.Common.{◌≡◌, ℕ, ◌<◌, ◌≤◌, List, ◌++◌, Option, Some, None, IsSomeAnd, Ok, Err, sym, ap, ◌∙◌, subst}
use Rattle.btr_base.specs.declared.key.Key.{Key}
use Rattle.btr_base.specs.declared.kind.SumKind.{SumKind}
use Rattle.btr_items.specs.FileExtent.{inline_data}
use Rattle.btr_prog.specs.Prog.{exec}
use Rattle.btr_read.specs.Store.{Blocks}
use Rattle.btr_read.specs.declared.want.Want.{Want}
use Rattle.btr_walk.specs.declared.fault.TreeFault.{TreeFault}
use Rattle.btr_walk.specs.declared.rest.Rest.{Rest}
use Rattle.btr_walk.specs.declared.scan.Scan.{Scan}
use Rattle.btr_walk.specs.Going.{IsOn}
use Rattle.btr_walk.specs.Le.{TreeItem}
use Rattle.btr_walk.specs.Range.{RangeProg}
use Rattle.btr_walk.specs.Reading.{Map, UnreadBlock}
use Rattle.btr_walk.specs.Rests.{rest_left, IsRestOn, met_last, Rests}
use Rattle.btr_walk.specs.ScanEnds.{left_of, HoldsLeaf}
use Rattle.btr_walk.proofs.Staying.{on_more}
use Rattle.btr_files.specs.declared.extent.Ahead.{Ahead}
use Rattle.btr_files.specs.declared.progress.Progress.{Progress}
use Rattle.btr_files.specs.declared.progress.Source.{Source}
use Rattle.btr_files.specs.declared.progress.Todo.{Todo}
use Rattle.btr_files.specs.declared.progress.Todo.TheVariants.{Next, Over}
use Rattle.btr_files.specs.Streaming.{inline_of, todo_prog, Then, LeftBy, IsInline, IsGoing}
use Rattle.btr_files.specs.Ahead.{Onward, IsNextExtent, IsLooked}
use Rattle.btr_files.proofs.Onwards.{Pieces, of_then}
use Rattle.btr_files.proofs.Rows.{scan_of, rest_is}

-- ---- where more was seen, a scan can still go on

-- the blocks that a scan goes on from are among those that were wanted, however many were wanted since
pub rest_more : (B : Map) (seen more : List Want) (rest : Rest) → IsRestOn B seen rest → IsRestOn B (seen ++ more) rest
rest_more B seen more rest on = on_more rest.lo rest.hi B seen more rest.place on

module _ (source : Source) (Is : UnreadBlock → Want → Type 0) (B : Map) (old new : Blocks) (p : Progress) (scan scan' : Scan) (is : scan ≡ scan_of p.rest)
    (next : p.todo ≡ Next) where
  -- where nothing more is to come of an extent, what is left behind it is what is left of the file
  to_left : (kind : SumKind) (Bs : ℕ → Map) (q : Pieces) → Onward kind source Bs p.at p.end (exec B (left_of B old scan)) q → LeftBy kind source Bs B p q
  to_left kind Bs q h =
      let same : left_of B old scan ≡ rest_left B p.rest = ap (left_of B old) is ∙ sym (rest_is B old p.rest) in
      subst (λ (t : Todo). Then kind source Bs (todo_prog kind source p.at p.end (inline_of (met_last B p.rest)) t) (exec B (rest_left B p.rest)) q) (sym next)
      (subst (λ (r : RangeProg). Onward kind source Bs p.at p.end (exec B r) q) same h)

  -- where a file goes on, its scan does
  on_scan : (seen : List Want) → IsGoing B seen p → IsOn scan.lo scan.hi B seen scan.place
  on_scan seen going = subst (λ (s : Scan). IsOn s.lo s.hi B seen s.place) (sym is) going.rest

  -- a fault of the look for the next extent is one of the file
  pub looked_err : (f : TreeFault) → IsNextExtent source Is B old new scan scan' p.end (Err f) → IsLooked source Is B p (Err f)
  looked_err f n seen going kind Bs = let h = n seen (on_scan seen going) kind Bs p.at in (h.0, to_left kind Bs h.0 h.1, h.2)

  -- where there is no extent more, what is left of the file are the zeros up to its size
  pub looked_none : IsNextExtent source Is B old new scan scan' p.end (Ok None)
      → IsLooked source Is B p (Ok (record { rest = p.rest; at = p.at; end = p.end; todo = Over }))
  looked_none n seen going =
      let o = n seen (on_scan seen going) in
      record {
        past = o.past;
        goes = λ kind Bs q h. to_left kind Bs _ (o.goes kind Bs p.at q (of_then kind source Bs (Err p.at) (exec B (rest_left B p.rest)) q h));
        on = record { rest = rest_more B seen o.past p.rest going.rest; inline = tt };
      }

  module _ (lo : scan'.lo ≡ scan.lo) (hi : scan'.hi ≡ scan.hi) (rest : Rest) (r : Rests new scan' rest) where
    -- where the next extent was found, what is left of the file is what is left of that extent
    pub looked_some : (ahead : Ahead) → IsSomeAnd scan'.leaf (λ l. (0 < l.next) × (l.next ≤ l.end))
        → IsNextExtent source Is B old new scan scan' p.end (Ok (Some ahead))
        → IsLooked source Is B p (Ok (record { rest = rest; at = p.at; end = ahead.end; todo = ahead.todo }))
    looked_some ahead kept n seen going =
        let o = n seen (on_scan seen going) in
        let held : HoldsLeaf B (seen ++ o.past) new scan' = o.held (subst (HoldsLeaf B seen old) (sym is) tt) in
        let met : met_last B rest ≡ Some o.item = r.met B (seen ++ o.past) o.item held kept o.met in
        let program : rest_left B rest ≡ left_of B new scan' = r.program B (seen ++ o.past) held in
        let on' : IsOn scan'.lo scan'.hi B (seen ++ o.past) scan'.place =
        subst (λ (k : Key). IsOn k scan'.hi B (seen ++ o.past) scan'.place) (sym lo)
        (subst (λ (k : Key). IsOn scan.lo k B (seen ++ o.past) scan'.place) (sym hi) o.on) in
        record {
          past = o.past;
          goes = λ kind Bs q h.
              let a : Then kind source Bs (todo_prog kind source p.at ahead.end (inline_of (Some o.item)) ahead.todo) (exec B (rest_left B rest)) q =
              subst (λ (x : Option TreeItem). Then kind source Bs (todo_prog kind source p.at ahead.end (inline_of x) ahead.todo)
              (exec B (rest_left B rest)) q) met h in
              to_left kind Bs _ (o.goes kind Bs p.at q (subst
              (λ (x : RangeProg). Then kind source Bs (todo_prog kind source p.at ahead.end (inline_data o.item.body) ahead.todo) (exec B x) q) program a));
          on = record { rest = r.on B (seen ++ o.past) held on'; inline = subst (λ (x : Option TreeItem). IsInline x ahead.todo) (sym met) o.inline };
        }
