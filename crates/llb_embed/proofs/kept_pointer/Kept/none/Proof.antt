-- `none` makes the struct with a null pointer, which owns nothing.
use Rattle.std.proofs.Common.{◌≡◌, ◌^◌, ◌<◌, arith, [], ◌∷◌, refl}
use mir.Val.{Val}
use base.Logic.{SProp, emp}
use base.Fml.{ftrue}
use contract.Monad.{fact, fact_i}
use contract.Running.{tables}
use types.Kit.{‵, raw, use0, ◌⊛◌, ◌$◌, ◌∵◌, !, qed, by, keep}
use types.Run.{lit, and_then, no_more, returns, enter}
use types.ByLocal.{alloc_all, pass_all, free_all, look_at, sets}
use types.Part.{agg}
use denote.RawPtr.{null_ptr}
use denote.Steps.{nothing}
use denote.Triple.Walked.{Stays, walk_of}
use Rattle.std.proofs.raw_atomic.Walks.{proved_at, leaves}
use Rattle.std.specs.declared.option.Option.TheVariants.{None}
use Rattle.std.specs.declared.alloc.Global.{Global}
use Rattle.llb_embed.specs.contracts.kept_pointer.Kept as kept
use Rattle.llb_embed.proofs.KeptMachineValue.{lone, kept_in}
use Rattle.llb_embed.specs.contracts.kept_pointer.Kept.none.{ended, clauses}
use Rattle.llb_embed.specs.contracts.kept_pointer.Kept.none.Key.{name as #self}
use Rattle.llb_embed.proofs.kept_pointer.Kept.none.Statement.{statement}
use Rattle.llb_embed.proofs.kept_pointer.Kept.none.Code as code

abbrev nowhere : Global
nowhere = record { memory = record { seal = tt } }

pub none_spec : {M : Type 1} → statement M
none_spec 𝓤 𝓛 𝓜 𝓡 wired =
    let H = 𝓛.H in let 𝓣 = tables 𝓤 H 𝓜 𝓡 𝓡.env in let c = clauses 𝓛 𝓜.mem 𝓡.returns in let fn = code.function in
    let low : 0 < 2 ^ 64 = omega arith in let it : kept.the_row.Denot = record { at = null_ptr; alloc = nowhere; value = None } in
    let hs : Stays ended.signature.params ended.kept = tt in
    proved_at 𝓛 ended hs c 𝓜 𝓡 tt #self fn (code.unfolded 𝓤 H 𝓜 𝓡 wired) (λ z are.
    let Post : Val → SProp 𝓤 = (walk_of 𝓛 ended hs c).post z in
    qed 𝓛 ((‵ ftrue ⊛ ‵ ftrue) ∷ raw ((c z.0.0 z.0.3).requires z.1) ∷ []) ∵ keep ! [] $
    enter ! 𝓣.C 𝓣.Λ fn [] Post $ alloc_all ! (λ l. pass_all ! refl tt $
    sets ! (agg ! (and_then ! (lit ! tt) (no_more !))) refl (tt, (record { fits = low }, tt)) $ returns ! (look_at ! 0 refl) $ free_all ! refl $
    nothing ! $ kept_in ! null_ptr nowhere None $ use0 𝓛 (raw (fact 𝓤 (it.value ≡ None))) (fact_i 𝓤 (it.value ≡ None) (emp 𝓤) refl) $ nothing ! $ nothing ! $
    keep ! (0 ∷ 1 ∷ 3 ∷ 2 ∷ []) $ by ! (leaves 𝓛 ended hs c z (lone null_ptr) it tt tt)))
