-- `into_box` makes the box again.
use Rattle.std.proofs.Common.{◌≡◌, List, [], ◌∷◌, ◌++◌, refl, sym, ap, ◌∙◌, subst}
use mir.Val.{Val, vptr}
use mir.Raw.{raw as bare}
use base.Logic.{SProp, ent, id⊢, emp, never, fst∗}
use base.Fraction.{full_share}
use base.Fml.{ftrue, flft}
use types.Logic.{sem}
use prog.Wp.{WpFn}
use types.Kit.{‵, raw, ◌⊛◌, some, later, at_ret, ◌$◌, ◌∵◌, !, qed, by, move, keep}
use types.Kit.{drop, split, split3, join, fsplit, fjoin, pick, suffices, use0, use1, await, rewrite, feq_i}
use types.Run.{stop, fld, of_opd, no_more, and_then, first, blocks, exec, returns, enter}
use types.ByLocal.{alloc_all, pass_all, free_all, look_at, get, get_in, sets, lands_last, env}
use types.Part.{sub, whole}
use types.Tokens.{lft_new}
use contract.Monad.{fact, fact_i}
use contract.BorrowLft.{◌⊑◌}
use contract.Lifetimes.{Lfts}
use contract.Running.{tables}
use denote.Exit.{yes}
use denote.RattleType.{RattleType, owns}
use denote.Signature.{types_at, plain}
use denote.RawPtr.{block_ptr, null_ptr, in_a_block}
use denote.Steps.{nothing, only, heard}
use denote.Param.{layout}
use denote.Triple.Clauses.{Lasts, lasts}
use denote.Triple.Spec.{triple_of}
use denote.Triple.Call.{calls_at_last}
use denote.Triple.Walked.{Stays, stay_dropped, walk_of, Goes-dropped}
use Rattle.core.proofs.alloc.Calls.{handle_tells, token}
use Rattle.core.proofs.alloc.Shapes.{after}
use Rattle.core.proofs.atomic.Steps.{fm}
use Rattle.core.proofs.cell.Inside.{Good}
use Rattle.std_alloc.proofs.BoxSteps.Form as box
use Rattle.std_alloc.proofs.BoxSteps.Steps.{box_out, box_in}
use Rattle.std_alloc.specs.Box.Ownership.{box_owns}
use Rattle.std.proofs.raw_atomic.Walks.{proved_at, leaves}
use Rattle.std.specs.declared.option.Option.TheVariants.{Some}
use Rattle.std.specs.contracts.alloc.Global as global
use Rattle.std.specs.contracts.impls.GlobalAllocator.TheImpl as TheImpl
use Rattle.std.proofs.alloc.Global.TheLaws as global_laws
use Rattle.std.proofs.impls.GlobalAllocator.TheImpl.Met as allocator
use Rattle.llb_embed.proofs.handle_value.Held.TheLaws as held_laws
use Rattle.llb_embed.proofs.KeptMachineValue.{lone, kept_out, X, G, X-laws, G-laws, E, none_drops, some_is}
use Rattle.llb_embed.specs.KeptPointer.{kept_owns, IsKept}
use Rattle.llb_embed.specs.contracts.kept_pointer.Kept as kept
use denote.Param.NoDrop.{glues}
use Rattle.std_alloc.specs.contracts.boxed.Box.from_raw as callee
use Rattle.std_alloc.proofs.boxed.Box.from_raw.Met.{met}
use Rattle.llb_embed.specs.contracts.kept_pointer.Kept.into_box.{ended, clauses}
use Rattle.llb_embed.specs.contracts.kept_pointer.Kept.into_box.Key.{name as #self}
use Rattle.llb_embed.proofs.kept_pointer.Kept.into_box.Statement.{statement}
use Rattle.llb_embed.proofs.kept_pointer.Kept.into_box.Code as code

pub into_box_spec : {M : Type 1} → statement M
unfolding Rattle.llb_embed.proofs.Destruct++none.drop.Code.code
into_box_spec {M} 𝓤 𝓛 𝓜 𝓡 wired =
    let H = 𝓛.H in let 𝓣 = tables 𝓤 H 𝓜 𝓡 𝓡.env in let c = clauses 𝓛 𝓜.mem 𝓡.returns in let fn = code.function in
    let hs : Stays ended.signature.params ended.kept = (stay_dropped (plain (λ _. kept.the_row)) yes, (stay_dropped (plain (λ _. global.the_row)) yes, tt)) in
    let k = triple_of 𝓛 (callee.signature X G TheImpl.ghosts TheImpl.dict none_drops)
    (callee.spec X G TheImpl.ghosts TheImpl.dict none_drops 𝓛 𝓜.mem 𝓡.returns) in let B : RattleType = box.B E in
    proved_at 𝓛 ended hs c 𝓜 𝓡 (
      Goes-dropped 𝓛 0 (plain (λ _. kept.the_row)) yes (λ κs x f. refl),
      (
        Goes-dropped 𝓛 0 (plain (λ _. global.the_row)) yes
            (λ κs x f. refl),
        tt,
      ),
    ) #self fn (code.unfolded 𝓤 H 𝓜 𝓡 wired) (λ z are.
    let v = z.0.3.0 in let a = z.0.3.1.0 in let Post : Val → SProp 𝓤 = (walk_of 𝓛 ended hs c).post z in
    let Run : List Val → SProp 𝓤 = λ ws. WpFn 𝓤 H 𝓣.C 𝓣.Λ fn ws Post in
    qed 𝓛 ((‵ ftrue ⊛ ‵ (owns (types_at ended.signature.params z.0.0) z.0.3 z.0.4)) ∷ raw ((c z.0.0 z.0.3).requires z.1) ∷ []) ∵ move ! (1 ∷ []) $
    heard ! (IsKept v.value) (λ is. split ! $ drop ! $ fsplit ! $ kept_out ! v z.0.4.0 (λ ev.
    let sx = some_is v.value is in let x = sx.0 in
    rewrite ! 0 (λ o. ‵ (kept_owns v.alloc v.at o)) sx.1 refl $ move ! (1 ∷ []) $ fsplit ! $ handle_tells E.al ! a z.0.4.1.0 (λ h ea fits. move ! (2 ∷ []) $
    in_a_block ! v.at (λ q. box_owns (token E.al a) (box.R E) q x) (fst∗ 𝓤 (never 𝓤) (sem 𝓛 (token E.al a (bare (layout X)) null_ptr))) (λ b o e.
    let w : Val = lone (block_ptr b o) in let ws : z.0.4.0 ++ (z.0.4.1.0 ++ []) ≡ w ∷ h ∷ [] = λ i. (ev ∙ ap (λ q. lone q ∷ []) e) i ++ (ea i ++ []) in
    suffices ! (Run (w ∷ h ∷ [])) (subst (λ (us : List Val). ent 𝓤 (Run (w ∷ h ∷ [])) (Run us)) (sym ws) (id⊢ 𝓤 (Run (w ∷ h ∷ [])))) $
    enter ! 𝓣.C 𝓣.Λ fn (w ∷ h ∷ []) Post $ alloc_all ! (λ l. pass_all ! refl ((tt, (tt, tt)), (fits, tt)) $ let Ev = env fn.locals l in
    sets ! (of_opd ! (get_in ! (fld ! refl (stop !)) (sub ! 0 refl (whole !)))) refl (tt, tt) $ first ! $ blocks ! $ sets ! (of_opd ! (get ! refl)) refl
    (tt, tt) $
    lft_new ! tt (λ α. lft_new ! tt (λ β. let κs : Lfts 2 = ((α ∷ []), ((β ∷ []), tt)) in let toks = ‵ (flft (α ∷ []) full_share) ⊛ ‵ (flft
    (β ∷ []) full_share) ⊛ ‵ ftrue in
    let inX = (α ∷ []) ⊑ X.lives in let inG = (β ∷ []) ⊑ G.lives in let Ce = callee.ended X G TheImpl.ghosts TheImpl.dict none_drops in
    let y : k.Ghost = ((κs, (full_share, (full_share, tt)), tt, (a, (block_ptr b o, tt)), (h ∷ [], (vptr b o ∷ [], tt))), x) in
    use0 𝓛 (raw (fact 𝓤 inG)) (fact_i 𝓤 inG (emp 𝓤) (global_laws.the_within (β ∷ []))) $ use0 𝓛 (raw (fact 𝓤 inX)) (fact_i 𝓤 inX (emp 𝓤)
    (held_laws.the_within (α ∷ []))) $
    move ! (1 ∷ 4 ∷ []) $ join ! $ move ! (1 ∷ 0 ∷ []) $ join ! $
    nothing ! $ feq_i ! (List Val) (vptr b o ∷ []) (vptr b o ∷ []) refl $ fjoin ! $ move ! (4 ∷ 0 ∷ []) $ fjoin ! $
    nothing ! $ move ! (3 ∷ 0 ∷ []) $ join ! $ move ! (3 ∷ 0 ∷ []) $ join ! $ join ! $ join ! $ use1 𝓛 (raw (k.pre y)) (id⊢ 𝓤 _) $
    calls_at_last ! (fm 𝓛 𝓜 𝓡) k (met 𝓤 𝓛 𝓜 𝓡 (code.calls-std_alloc::boxed::Box::from_raw 𝓡.env wired) X G X-laws G-laws TheImpl.ghosts TheImpl.dict none_drops
    (allocator.passed 𝓡.env (code.calls-std_heap::GlobalAllocator::allocate 𝓡.env wired) (code.calls-std_heap::GlobalAllocator::deallocate 𝓡.env wired)
    (code.calls-std_heap::GlobalAllocator::grow 𝓡.env wired) (code.calls-std_heap::GlobalAllocator::shrink 𝓡.env wired) M 𝓤 𝓛 𝓜 𝓡)
    (glues "llb_embed::Destruct++none::drop" 𝓡.env (code.calls-llb_embed::Destruct++none::drop 𝓡.env wired) G G-laws M 𝓤 𝓛 𝓜 𝓡)) y (and_then ! (get ! refl)
    (and_then ! (get ! refl) (no_more !))) (λ u.
    use1 𝓛 (later (some (λ (r : B.Denot). (toks ⊛ ‵ (B.own_val r (u ∷ []))) ⊛ some (λ (ls : Lasts Ce κs y.0.3). ‵ (lasts Ce κs y.0.3 ls) ⊛ (raw (fact 𝓤
    (r.value ≡ x)) ⊛ raw (fact 𝓤 (r.alloc ≡ a))))))) (id⊢ 𝓤 (k.post y u)) $
    await ! tt $ pick ! (λ r. split ! $ move ! (1 ∷ []) $ pick ! (λ _. split3 ! $ drop ! $ heard ! (r.value ≡ x) (λ er. drop ! $ split ! $ drop ! $
    box_out E ! r (u ∷ []) (λ b' o' h' e' us fits'. box_in E ! r b' o' r.value e' refl $ rewrite ! 0 (λ (xs : List Val). ‵ (B.own_val r xs)) (sym us) refl $
    let good : Good (layout B) u = subst (Good (layout B)) (sym (ap only us)) (box.box_typed E h' b' o' fits') in
    lands_last ! refl good $ exec ! 𝓣.C 𝓣.Λ Ev (after 2 fn.body) (at_ret Ev Post) $ sets ! (of_opd ! (get ! refl)) refl good $
    let out = v.value ≡ Some r.value in
    use0 𝓛 (raw (fact 𝓤 out)) (fact_i 𝓤 out (emp 𝓤) (sx.1 ∙ ap Some (sym er))) $ nothing ! $ nothing ! $ fjoin ! $ nothing ! $ fjoin ! $ nothing ! $
    returns ! (look_at ! 0 refl) $ free_all ! refl $ keep ! (0 ∷ 1 ∷ 3 ∷ 2 ∷ []) $ by ! (leaves 𝓛 ended hs c z u r (tt, (tt, tt)) (tt, (tt, tt))))))))))))))))
