-- `of` takes the box apart.
use Rattle.std.proofs.Common.{◌≡◌, List, [], ◌∷◌, ◌++◌, refl, sym, ap, ◌∙◌, subst}
use mir.Val.{Val}
use mir.Raw.{raw as bare}
use base.Logic.{SProp, ent, id⊢, emp, never, fst∗}
use base.Fraction.{full_share}
use base.Fml.{ftrue, flft}
use types.Logic.{sem}
use prog.Wp.{WpFn}
use types.Kit.{‵, raw, ◌⊛◌, some, later, ◌$◌, ◌∵◌, !, qed, by, move, keep, drop}
use types.Kit.{split, join, fsplit, fjoin, pick, suffices, use0, use1, await, feq_l}
use types.Run.{of_opd, no_more, and_then, returns, enter}
use types.ByLocal.{alloc_all, pass_all, free_all, look_at, get, sets, lands_as}
use types.Part.{agg}
use types.Tokens.{lft_new}
use contract.Monad.{fact, fact_i}
use contract.BorrowLft.{◌⊑◌}
use contract.Lifetimes.{Lfts}
use contract.Running.{tables}
use denote.Exit.{yes}
use denote.RattleType.{RattleType, owns}
use denote.Signature.{types_at, plain}
use denote.RawPtr.{Ptr, block_ptr, null_ptr, ptr_val, in_a_block}
use denote.Builtin.{RawPtr}
use denote.Steps.{nothing, only}
use denote.Param.{layout}
use denote.Triple.Clauses.{Lasts, lasts}
use denote.Triple.Spec.{triple_of}
use denote.Triple.Call.{calls_at}
use denote.Triple.Walked.{Stays, stay_dropped, walk_of, Goes-dropped}
use Rattle.core.proofs.alloc.Calls.{token}
use Rattle.core.proofs.atomic.Steps.{fm}
use Rattle.std_alloc.proofs.BoxSteps.Form as box
use Rattle.std_alloc.proofs.BoxSteps.Steps.{box_out, box_in}
use Rattle.std_alloc.specs.Box.Ownership.{box_owns}
use Rattle.std_alloc.specs.contracts.boxed.Box as boxed
use Rattle.std.proofs.raw_atomic.Walks.{proved_at, leaves}
use Rattle.std.specs.declared.option.Option.TheVariants.{Some}
use Rattle.std.specs.contracts.alloc.Global as global
use Rattle.std.specs.contracts.impls.GlobalAllocator.TheImpl as TheImpl
use Rattle.std.proofs.alloc.Global.TheLaws as global_laws
use Rattle.std.proofs.impls.GlobalAllocator.TheImpl.Met as allocator
use Rattle.llb_embed.proofs.handle_value.Held.TheLaws as held_laws
use Rattle.llb_embed.specs.contracts.handle_value.Held as held
use Rattle.llb_embed.proofs.KeptMachineValue.{lone, kept_in, X, G, X-laws, G-laws, E, none_drops}
use Rattle.llb_embed.proofs.DropGlue.{held_drops, held_glued}
use Rattle.llb_embed.specs.contracts.kept_pointer.Kept as kept
use denote.Param.NoDrop.{glues}
use Rattle.std_alloc.specs.contracts.boxed.Box.into_raw as callee
use Rattle.std_alloc.proofs.boxed.Box.into_raw.Met.{met}
use Rattle.llb_embed.specs.contracts.kept_pointer.Kept.of.{ended, clauses}
use Rattle.llb_embed.specs.contracts.kept_pointer.Kept.of.Key.{name as #self}
use Rattle.llb_embed.proofs.kept_pointer.Kept.of.Statement.{statement}
use Rattle.llb_embed.proofs.kept_pointer.Kept.of.Code as code

pub of_spec : {M : Type 1} → statement M
unfolding Rattle.llb_embed.proofs.Destruct++none.drop.Code.code
of_spec {M} 𝓤 𝓛 𝓜 𝓡 wired =
    let H = 𝓛.H in let 𝓣 = tables 𝓤 H 𝓜 𝓡 𝓡.env in let c = clauses 𝓛 𝓜.mem 𝓡.returns in let fn = code.function in
    let Row : RattleType = boxed.the_row held.the_row global.the_row TheImpl.ghosts in
    let hs : Stays ended.signature.params ended.kept = (stay_dropped (plain (λ _. Row)) yes, tt) in
    let k = triple_of 𝓛 (callee.signature X G TheImpl.ghosts TheImpl.dict none_drops held_drops)
    (callee.spec X G TheImpl.ghosts TheImpl.dict none_drops held_drops 𝓛 𝓜.mem 𝓡.returns) in let B : RattleType = box.B E in
    proved_at 𝓛 ended hs c 𝓜 𝓡 (Goes-dropped 𝓛 0 (plain (λ _. Row)) yes (λ κs x f. refl), tt) #self fn (code.unfolded 𝓤 H 𝓜 𝓡 wired) (λ z are.
    let v = z.0.3.0 in let Post : Val → SProp 𝓤 = (walk_of 𝓛 ended hs c).post z in let Run : List Val → SProp 𝓤 = λ ws. WpFn 𝓤 H 𝓣.C 𝓣.Λ fn ws Post in
    qed 𝓛 ((‵ ftrue ⊛ ‵ (owns (types_at ended.signature.params z.0.0) z.0.3 z.0.4)) ∷ raw ((c z.0.0 z.0.3).requires z.1) ∷ []) ∵ keep ! (0 ∷ []) $ split ! $
    drop ! $ fsplit ! $ box_out E ! v z.0.4.0 (λ b o h e ws fits. box_in E ! v b o v.value e refl $
    let w : Val = box.word E h b o in let typed = box.box_typed E h b o fits in
    suffices ! (Run (w ∷ [])) (subst (λ (us : List Val). ent 𝓤 (Run (w ∷ [])) (Run us)) (sym (λ i. ws i ++ [])) (id⊢ 𝓤 (Run (w ∷ [])))) $
    enter ! 𝓣.C 𝓣.Λ fn (w ∷ []) Post $ alloc_all ! (λ l. pass_all ! refl (typed, tt) $ sets ! (of_opd ! (get ! refl)) refl typed $
    lft_new ! tt (λ α. lft_new ! tt (λ β. let κs : Lfts 2 = ((α ∷ []), ((β ∷ []), tt)) in let toks = ‵ (flft (α ∷ []) full_share) ⊛ ‵ (flft
    (β ∷ []) full_share) ⊛ ‵ ftrue in
    let inX = (α ∷ []) ⊑ X.lives in let inG = (β ∷ []) ⊑ G.lives in let Ce = callee.ended X G TheImpl.ghosts TheImpl.dict none_drops held_drops in
    let y : k.Ghost = ((κs, (full_share, (full_share, tt)), tt, (v, tt), (w ∷ [], tt)), tt) in
    nothing ! $ use0 𝓛 (raw (fact 𝓤 inG)) (fact_i 𝓤 inG (emp 𝓤) (global_laws.the_within (β ∷ []))) $ join ! $ use0 𝓛 (raw (fact 𝓤 inX)) (fact_i 𝓤 inX (emp 𝓤)
    (held_laws.the_within (α ∷ []))) $ join ! $
    move ! (3 ∷ 4 ∷ []) $ fjoin ! $ nothing ! $ move ! (3 ∷ 0 ∷ []) $ join ! $ move ! (3 ∷ 0 ∷ []) $ join ! $ join ! $ join ! $ use1 𝓛 (raw (k.pre y))
    (id⊢ 𝓤 _) $
    calls_at ! (fm 𝓛 𝓜 𝓡) k (met 𝓤 𝓛 𝓜 𝓡 (code.calls-std_alloc::boxed::Box::into_raw 𝓡.env wired) X G X-laws G-laws TheImpl.ghosts TheImpl.dict none_drops
    held_drops
    (allocator.passed 𝓡.env (code.calls-std_heap::GlobalAllocator::allocate 𝓡.env wired) (code.calls-std_heap::GlobalAllocator::deallocate 𝓡.env wired)
    (code.calls-std_heap::GlobalAllocator::grow 𝓡.env wired) (code.calls-std_heap::GlobalAllocator::shrink 𝓡.env wired) M 𝓤 𝓛 𝓜 𝓡)
    (glues "llb_embed::Destruct++none::drop" 𝓡.env (code.calls-llb_embed::Destruct++none::drop 𝓡.env wired) G G-laws M 𝓤 𝓛 𝓜 𝓡)
    (held_glued 𝓤 𝓛 𝓜 𝓡 (code.calls-llb_embed::handle_value::Held::drop 𝓡.env wired))) y (and_then ! (get ! refl) (no_more !)) (λ u.
    use1 𝓛 (later (some (λ (r : Ptr). (toks ⊛ ‵ (RawPtr.own_val r (u ∷ []))) ⊛ some (λ (ls : Lasts Ce κs y.0.3). ‵ (lasts Ce κs y.0.3 ls) ⊛ ‵ (box_owns
    (token E.al v.alloc) (box.R E) r v.value))))) (id⊢ 𝓤 (k.post y u)) $
    await ! tt $ pick ! (λ r. split ! $ move ! (1 ∷ []) $ pick ! (λ _. split ! $ drop ! $ move ! (1 ∷ []) $ split ! $ drop ! $ feq_l ! (λ eu.
    in_a_block ! r (λ q. box_owns (token E.al v.alloc) (box.R E) q v.value) (fst∗ 𝓤 (never 𝓤) (sem 𝓛 (token E.al v.alloc (bare (layout X)) null_ptr)))
    (λ b' o' e'.
    lands_as ! (ap only (eu ∙ ap (λ (q : Ptr). ptr_val q ∷ []) e')) refl (tt, tt) $ sets ! (of_opd ! (get ! refl)) refl (tt, tt) $ sets ! (agg ! (and_then !
    (get ! refl) (no_more !))) refl (tt, (tt, tt)) $
    let it : kept.the_row.Denot = record { at = block_ptr b' o'; alloc = v.alloc; value = Some v.value } in let out = it.value ≡ Some v.value in
    kept_in ! (block_ptr b' o') v.alloc (Some v.value) $ use0 𝓛 (raw (fact 𝓤 out)) (fact_i 𝓤 out (emp 𝓤) refl) $ nothing ! $ nothing ! $ fjoin ! $ nothing ! $
    returns ! (look_at ! 0 refl) $ free_all ! refl $ keep ! (0 ∷ 1 ∷ 3 ∷ 2 ∷ []) $ by ! (leaves 𝓛 ended hs c z (lone (block_ptr b' o')) it (tt, tt)
    (tt, tt))))))))))))
