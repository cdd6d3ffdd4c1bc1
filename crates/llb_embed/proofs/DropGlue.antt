-- The glue of `Held`, which its own `drop` gives.
use Rattle.std.proofs.Common.{[], ◌∷◌, refl}
use seplogic.Ra.Ura.{Ura}
use mir.Syntax.{Dict, impl, tnil, dnil, method, no_args}
use base.Logic.{ex, sep, emp, emp∗, comm∗, via}
use base.Fml.{ftrue, fsep}
use prog.Model.{Model}
use prog.Wired.{Wired}
use prog.Routine.{Routine}
use types.Logic.{Logic, sem}
use types.Kit.{raw, ◌$◌, ◌∵◌, !, qed, keep, join, show, done}
use contract.Running.{Running}
use denote.Steps.{nothing}
use denote.Param.Glue as glue
use denote.Triple.Carry.{beside, spared}
use denote.Triple.Spec.{Spec, Meets, triple_of}
use denote.Triple.Table.{run_framed, widened}
use Rattle.llb_embed.proofs.KeptMachineValue.{X}
use Rattle.llb_embed.proofs.handle_value.Held.drop.Symbol as its
use Rattle.llb_embed.proofs.handle_value.Held.drop.Met as its_met
use Rattle.llb_embed.specs.contracts.handle_value.Held.drop as f

abbrev pub held_drops : Dict
held_drops = impl ("llb_embed::handle_value::Held::drop" ∷ []) tnil dnil

-- it spends the value, and says nothing
abbrev c : {M : Type 1} {𝓤 : Ura M} (𝓛 : Logic 𝓤) → Spec 𝓤 f.signature
c {𝓤 = 𝓤} 𝓛 = λ κs a. record {
  ghost = Unit {0};
  requires = λ _. emp 𝓤;
  ensures = λ _ r. ex 𝓤 (λ (ws : Unit {0} × Unit {0}). sep 𝓤 (sem 𝓛 (fsep ftrue ftrue)) (emp 𝓤));
}

pub held_glued : {M : Type 1} (𝓤 : Ura M) (𝓛 : Logic 𝓤) (𝓜 : Model 𝓤 𝓛.H) (𝓡 : Running 𝓤 𝓛.H 𝓜) → Wired 𝓡.env its.code → glue.Met 𝓛 𝓜 𝓡 𝓡.env X held_drops
held_glued 𝓤 𝓛 𝓜 𝓡 wired y =
    let f' : Routine = 𝓡.env (method held_drops 0 no_args) in
    let said : Spec 𝓤 f.signature = f.spec 𝓛 𝓜.mem 𝓡.returns in
    let first : Meets 𝓛 f.signature (𝓡.run f') said = widened 𝓤 𝓛.H (triple_of 𝓛 f.signature said) 𝓜 𝓡 𝓡.env (𝓡.env its.name) f' (its.as_method 𝓡.env wired
    (method held_drops 0 no_args) refl) (its_met.met 𝓤 𝓛 𝓜 𝓡 wired) in
    let met : Meets 𝓛 f.signature (𝓡.run f') (c 𝓛) = beside 𝓛 f.signature (𝓡.run f') (run_framed 𝓤 𝓛.H 𝓜 𝓡 f') said (c 𝓛) (λ κs a x. x) (λ κs a x. emp 𝓤)
    (λ κs a x. via 𝓤 (sep 𝓤 (emp 𝓤) ((said κs a).requires x)) (emp∗ 𝓤 ((said κs a).requires x)) (comm∗ 𝓤 (emp 𝓤) ((said κs a).requires x)))
    (λ κs a x r. qed 𝓛 (raw ((said κs a).ensures x r) ∷ raw (emp 𝓤) ∷ []) ∵ keep ! [] $ show ! (λ (ws : Unit {0} × Unit {0}). sep 𝓤 (sem 𝓛
    (fsep ftrue ftrue)) (emp 𝓤)) (tt, tt) $
    nothing ! $ nothing ! $ nothing ! $ join ! $ done !) first in
    spared 𝓛 f.signature (𝓡.run f') (run_framed 𝓤 𝓛.H 𝓜 𝓡 f') 1 (X.lives, tt) (c 𝓛) met ((y.0.0, y.0.1, tt, y.0.3, y.0.4), y.1)
