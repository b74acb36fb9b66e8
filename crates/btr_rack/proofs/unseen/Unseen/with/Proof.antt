-- `with` makes the empty struct, with the value that its clause names.
use Rattle.std.proofs.Common.{List, [], ◌∷◌, refl}
use Rattle.std.proofs.raw_atomic.Walks.{proved}
use mir.Syntax.{a_type, named, dcons, dnil}
use mir.Val.{Val, vstruct, vcons, vnil}
use mir.MapTy.{inst_fn}
use types.Kit.{‵, raw, ◌⊛◌, ◌$◌, ◌∵◌, !, qed, move, keep, split, suffices, done}
use types.Run.{enter, returns, and_then, no_more}
use types.Part.{agg}
use types.ByLocal.{alloc_all, pass_all, free_all, look_at, get, sets}
use denote.Exit.{yes}
use denote.RattleType.{owns}
use denote.Ref.{shr_vals, shr_Tells}
use denote.Shadow.{pure_i}
use denote.Signature.{plain, types_at}
use denote.Param.{param, bounded}
use denote.Triple.Entry.{alive}
use denote.Triple.Walked.{says, stay_none_ref, Stays, walk_of, ends_at, Goes-none_ref}
use Rattle.btr_rack.specs.contracts.unseen.Unseen as unseen
use Rattle.btr_rack.specs.contracts.unseen.Unseen.with as f
use Rattle.btr_rack.proofs.unseen.Unseen.with.Statement.{statement}
use Rattle.btr_rack.proofs.unseen.Unseen.with.Code as code

pub with_spec : {M : Type 1} → statement M
with_spec 𝓤 𝓛 𝓜 𝓡 wired T C LT LC g d met =
    let E = f.ended T C g d in let c = f.clauses T C g d 𝓛 𝓜.mem 𝓡.returns in
    let inst = bounded (a_type ∷ a_type ∷ []) (T, (C, tt)) (dcons d dnil) in
    let before = plain (λ _. unseen.the_row (param 0 T)) in let change = plain (λ _. param 1 C) in
    let stayed : Stays E.signature.params E.kept = (stay_none_ref (0 ∷ []) tt before yes, (stay_none_ref (1 ∷ []) tt change yes, tt)) in
    proved 𝓛 E stayed c 𝓜 𝓡 (Goes-none_ref 𝓛 4 (0 ∷ []) tt before yes, (Goes-none_ref 𝓛 4 (1 ∷ []) tt change yes, tt))
    (f.Key.name inst) (inst_fn inst code.function) (code.unfolded 𝓤 𝓛.H 𝓜 𝓡 wired (T, (C, tt)) d)
    (λ κs. (shr_vals, (shr_vals, tt)))
    (λ κs. (shr_Tells (named 0) κs.0 (unseen.the_row (param 0 T)), (shr_Tells (named 1) κs.1.0 (param 1 C), tt)))
    (λ κs qs bounds a x are.
    let vss : List Val × (List Val × Unit {0}) = (shr_vals a.0, (shr_vals a.1.0, tt)) in
    let y : (walk_of 𝓛 E stayed c).Ghost = ((κs, qs, bounds, a, vss), x) in
    let made = g.after a.1.0.now a.0.now in
    let none = vstruct vnil in let one = vstruct (vcons none vnil) in
    qed 𝓛 ((raw (alive 𝓛 E.signature κs qs) ⊛ ‵ (owns (types_at E.signature.params κs) a vss)) ∷ raw ((c κs a).requires x) ∷ []) ∵ keep ! (0 ∷ []) $ split ! $
    enter ! _ _ _ _ _ $ alloc_all ! (λ l. pass_all ! refl ((tt, tt), ((tt, tt), tt)) $
    sets ! (agg ! (no_more !)) refl (tt, tt) $ sets ! (agg ! (and_then ! (get ! refl) (no_more !))) refl (tt, (tt, tt)) $
    returns ! (look_at ! 0 refl) $ free_all ! refl $
    suffices ! _ (ends_at 𝓛 E stayed c y one made (tt, (tt, tt)) (tt, (tt, tt))) $ says ! refl $
    pure_i ! ((unseen.the_row (param 0 T)).own_val made (one ∷ [])) (λ h. (((λ vss. (tt, ((λ us. (tt, tt)), tt))), tt), tt))
    ((record { of = record {}; value = made }, (refl, tt)), ((((none ∷ [], tt), (refl, ((tt, (refl, tt)), tt))), tt), tt)) $ move ! (1 ∷ 2 ∷ 0 ∷ []) $ done !))
