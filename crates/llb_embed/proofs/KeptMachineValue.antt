-- The machine value of a `Kept`. Assumes `Logic`.
--     kept_in, kept_out     a `Kept` by value is [what it owns]
use Rattle.std.proofs.Common.{◌≡◌, List, [], ◌∷◌, ◌++◌, refl, subst}
use seplogic.Ra.Ura.{Ura}
use mir.Val.{Val, vstruct, vcons, vnil, of_list}
use types.Logic.{Logic}
use types.Kit.{Item, Goal, Seq, Step, step, ‵, ◌$◌, drop, fsplit, fjoin, fpick, fpack, feq_i, feq_l}
use denote.RattleType.{Valss}
use denote.Builtin.{RawPtr}
use denote.RawPtr.{Ptr, ptr_val}
use denote.Steps.{nothing}
use denote.Struct.Struct.{within}
use denote.Struct.Owning.{shape}
use Rattle.llb_embed.specs.KeptPointer.{kept_owns, IsKept}
use Rattle.llb_embed.specs.contracts.kept_pointer.Kept as kept
use Rattle.llb_embed.specs.declared.handle_value.Held.{Held}
use Rattle.std.specs.declared.alloc.Global.{Global}
use Rattle.std.specs.declared.option.Option.{Option}
use Rattle.std.specs.declared.option.Option.TheVariants.{None, Some}
use Rattle.std.specs.contracts.alloc.Global as global
use Rattle.std.specs.contracts.impls.GlobalAllocator.TheImpl as TheImpl
use Rattle.std.proofs.alloc.Global.TheLaws as global_laws
use Rattle.llb_embed.specs.contracts.handle_value.Held as held
use Rattle.llb_embed.proofs.handle_value.Held.TheLaws as held_laws
use Rattle.std_alloc.proofs.BoxSteps.Form.{Bx}
use denote.RattleType.{RattleType}
use denote.Param.{arg, layout}
use denote.Param.Laws.{Laws, arg_laws}
use denote.Exit.{no}
use mir.Raw.{raw as bare}
use mir.Syntax.{Dict, impl, tcons, tnil, dnil}

abbrev pub lone : Ptr → Val
lone p = vstruct (vcons (ptr_val p) vnil)

module _ {M : Type 1} {𝓤 : Ura M} {𝓛 : Logic 𝓤} {K : Type 0} {Γ : List (Item 𝓤)} {G : Goal 𝓤 𝓛.H} where
  pub kept_in : K → (p : Ptr) (a : Global) (x : Option Held)
      → Step K 𝓛 (‵ (kept.the_row.own_val (record { at = p; alloc = a; value = x }) (lone p ∷ [])) ∷ Γ) G (‵ (kept_owns a p x) ∷ Γ) G
  kept_in t p a x = step (λ s. nothing t $ feq_i t (List Val) (ptr_val p ∷ []) (ptr_val p ∷ []) refl $ fjoin t $ feq_i t (List Val) (lone p ∷ [])
      (lone p ∷ []) refl $ fjoin t $
      fpack t (Valss (RawPtr ∷ [])) (within (shape kept.the_type) (p, tt) (lone p ∷ [])) (ptr_val p ∷ [], tt) $ fjoin t $ s)

  pub kept_out : K → (d : kept.the_row.Denot) (vs : List Val)
      → (vs ≡ lone d.at ∷ [] → Seq K 𝓛 (‵ (kept_owns d.alloc d.at d.value) ∷ Γ) G)
      → Seq K 𝓛 (‵ (kept.the_row.own_val d vs) ∷ Γ) G
  kept_out t d vs k = fsplit t $ fpick t (λ vss. fsplit t $ feq_l t (λ ev. fsplit t $ feq_l t (λ ep. drop t $
      k (subst (λ (ps : List Val). vs ≡ vstruct (of_list (ps ++ [])) ∷ []) ep ev))))

-- the types that a call of a `Box`'s function passes
abbrev pub X : RattleType
X = arg (bare (layout held.the_row)) no held.the_row

abbrev pub G : RattleType
G = arg (bare (layout global.the_row)) no global.the_row

abbrev pub X-laws : Laws X
X-laws = arg_laws (bare (layout held.the_row)) no held.the_row held_laws.the_row_laws refl

abbrev pub G-laws : Laws G
G-laws = arg_laws (bare (layout global.the_row)) no global.the_row global_laws.the_row_laws refl

abbrev pub none_drops : Dict
none_drops = impl ("llb_embed::Destruct++none::drop" ∷ []) (tcons (layout G) tnil) dnil

abbrev pub E : Bx
E = record { row = X; laws = X-laws; al = record { row = G; laws = G-laws; g = TheImpl.ghosts; d = TheImpl.dict; drops = none_drops } }

pub some_is : (o : Option Held) → IsKept o → (x : Held) × (o ≡ Some x)
some_is None s = absurd s
some_is (Some x) s = (x, refl)
