-- How claims end, by the replies to come, and the claim order after a reply.
use Rattle.std.proofs.Common.{◌≡◌, ◌≢◌, ℕ, Bool, true, false, List, ◌∷◌, Option, Some, None, refl, sym, ap, cond}
use Rattle.std.proofs.lemmas.Bool.{ne_eqb, eq-eqb}
use Rattle.llb_events.specs.declared.fault.VertexFault.{VertexFault}
use Rattle.llb_model.specs.Program.{Build, MicroStep, ReadLocal, Act, LayInput, Run, Workspace, Left, last_of, is_run}
use Rattle.llb_model.specs.Outcome.{Ending, Done, Failed}
use Rattle.llb_model.specs.Table.{HasStepped, HasSettled, HasCancelled, cancel_reply}
use Rattle.llb_model.specs.Table.{Reply, Claimed}
use Rattle.llb_model.specs.Table.{settle_reply}
use Rattle.llb_model.specs.ClaimOrder.{Order, cut_in, named, after_whole}
use Rattle.llb_model.proofs.Lists.{some_of}

-- how claims end, by the replies to come
abbrev pub cuts : List Reply → ℕ → Option ℕ
cuts rs v = cut_in v rs

-- a settle and a cancel end that of their vertex, and no other
pub uncut_here : (v : ℕ) (e : Ending) (rs : List Reply) → cut_in v (settle_reply v e ∷ rs) ≡ None
uncut_here v (Done trees) rs = ap (λ t. cond t None (cut_in v rs)) (eq-eqb v v refl)
uncut_here v (Failed f) rs = ap (λ t. cond t None (cut_in v rs)) (eq-eqb v v refl)

pub uncut_later : (u : ℕ) (e : Ending) (rs : List Reply) (v : ℕ) → v ≢ u → cut_in v (settle_reply u e ∷ rs) ≡ cut_in v rs
uncut_later u (Done trees) rs v other = ap (λ t. cond t None (cut_in v rs)) (ne_eqb u v (λ e. other (sym e)))
uncut_later u (Failed f) rs v other = ap (λ t. cond t None (cut_in v rs)) (ne_eqb u v (λ e. other (sym e)))

pub cut_here : (v k : ℕ) (rs : List Reply) → cut_in v (cancel_reply v k ∷ rs) ≡ Some k
cut_here v k rs = ap (λ t. cond t (some_of k) (cut_in v rs)) (eq-eqb v v refl)

pub cut_later : (u k : ℕ) (rs : List Reply) (v : ℕ) → v ≢ u → cut_in v (cancel_reply u k ∷ rs) ≡ cut_in v rs
cut_later u k rs v other = ap (λ t. cond t (some_of k) (cut_in v rs)) (ne_eqb u v (λ e. other (sym e)))

-- the claim order after a reply, where those replies are to come
abbrev pub after_reply : Build → Order → Reply → List Reply → Order
after_reply b o (Claimed job) rs = after_whole b o (named job.vertex job.instances (cut_in job.vertex rs))
after_reply b o (HasStepped r) rs = o
after_reply b o (HasSettled r) rs = o
after_reply b o (HasCancelled r) rs = o
