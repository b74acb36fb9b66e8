-- `new` makes the empty struct, with the value that its clause names.
use Rattle.std.proofs.Common.{List, [], ◌∷◌, refl}
use Rattle.std.proofs.raw_atomic.Walks.{proved}
use mir.Syntax.{a_type, named}
use mir.Val.{Val, vstruct, vcons, vnil}
use mir.MapTy.{inst_fn}
use types.Kit.{‵, raw, ◌⊛◌, ◌$◌, ◌∵◌, !, qed, move, keep, split, suffices, done}
use types.Run.{enter, returns, and_then, no_more}
use types.Part.{agg}
use types.ByLocal.{alloc_all, pass_all, free_all, look_at, get, sets}
use denote.Exit.{yes}
use denote.RattleType.{owns}
use denote.Ref.{shr_vals, shr_Tells}
use denote.Shadow.{pure_i}
use denote.Signature.{plain, types_at}
use denote.Param.{param, layouts}
use denote.Triple.Entry.{alive}
use denote.Triple.Walked.{says, stay_none_ref, Stays, walk_of, ends_at, Goes-none_ref}
use Rattle.btr_rack.specs.contracts.unseen.Unseen as unseen
use Rattle.btr_rack.specs.contracts.unseen.Unseen.new as f
use Rattle.btr_rack.proofs.unseen.Unseen.new.Statement.{statement}
use Rattle.btr_rack.proofs.unseen.Unseen.new.Code as code

pub new_spec : {M : Type 1} → statement M
new_spec 𝓤 𝓛 𝓜 𝓡 wired T LT =
    let E = f.ended T in let c = f.clauses T 𝓛 𝓜.mem 𝓡.returns in
    let inst = layouts (a_type ∷ []) (T, tt) in
    let first = plain (λ _. param 0 T) in
    let stayed : Stays E.signature.params E.kept = (stay_none_ref (0 ∷ []) tt first yes, tt) in
    proved 𝓛 E stayed c 𝓜 𝓡 (Goes-none_ref 𝓛 2 (0 ∷ []) tt first yes, tt)
    (f.Key.name inst) (inst_fn inst code.function) (code.unfolded 𝓤 𝓛.H 𝓜 𝓡 wired (T, tt))
    (λ κs. (shr_vals, tt)) (λ κs. (shr_Tells (named 0) κs.0 (param 0 T), tt)) (λ κs qs bounds a x are.
    let vss : List Val × Unit {0} = (shr_vals a.0, tt) in
    let y : (walk_of 𝓛 E stayed c).Ghost = ((κs, qs, bounds, a, vss), x) in
    let made = a.0.now in
    let none = vstruct vnil in let one = vstruct (vcons none vnil) in
    qed 𝓛 ((raw (alive 𝓛 E.signature κs qs) ⊛ ‵ (owns (types_at E.signature.params κs) a vss)) ∷ raw ((c κs a).requires x) ∷ []) ∵ keep ! (0 ∷ []) $ split ! $
    enter ! _ _ _ _ _ $ alloc_all ! (λ l. pass_all ! refl ((tt, tt), tt) $
    sets ! (agg ! (no_more !)) refl (tt, tt) $ sets ! (agg ! (and_then ! (get ! refl) (no_more !))) refl (tt, (tt, tt)) $
    returns ! (look_at ! 0 refl) $ free_all ! refl $
    suffices ! _ (ends_at 𝓛 E stayed c y one made (tt, tt) (tt, tt)) $ says ! refl $
    pure_i ! ((unseen.the_row (param 0 T)).own_val made (one ∷ [])) (λ h. (((λ vss. (tt, ((λ us. (tt, tt)), tt))), tt), tt))
    ((record { of = record {}; value = made }, (refl, tt)), ((((none ∷ [], tt), (refl, ((tt, (refl, tt)), tt))), tt), tt)) $ move ! (1 ∷ 2 ∷ 0 ∷ []) $ done !))
