-- The vertex of an exec: which kinds of mounts it can have, given its rules and that it has no unsupported features.
use Rattle.std.proofs.Common.{◌≡◌, ◌⊎◌, inl, inr, zero, suc, ℤ, pos, negsuc, true, false, List, [], Option, Some, None, IsSome, Result, Ok}
use Rattle.std.proofs.Common.{Err, length, unwrap_or, get_or, refl, ◌∙◌, ap, subst, arith}
use Rattle.std.proofs.lemmas.Int.{ints}
use Rattle.std.specs.List.{All}
use Rattle.std.specs.Result.{result_ok}
use Rattle.std.specs.Ordering.{int_eq}
use Rattle.llb_ops.specs.declared.op.Kind.TheVariants.{Exec}
use Rattle.llb_ops.specs.declared.exec.ExecOp.{ExecOp}
use Rattle.llb_ops.specs.declared.exec.Meta.{Meta}
use Rattle.llb_ops.specs.OpsWithinLimits.{IsMetaOptWithin, IsKindWithin}
use Rattle.llb_applet.specs.declared.joined_commands.Joined.{Joined}
use Rattle.llb_applet.specs.declared.fault.ScriptFault.{ScriptFault}
use Rattle.llb_applet.specs.Scripts.{script_of}
use Rattle.llb_loader.specs.declared.graph.Vertex.{Vertex}
use Rattle.llb_loader.specs.Mounts.{bind, secret, ssh, cache, tmpfs, has_type, ReadsCwd}
use Rattle.llb_loader.specs.Scripts.{commands_in}
use Rattle.llb_loader.specs.Rules.{IsBelow, HasWord, MeetsAll, rules_on, kind_steps, kind_outputs}
use Rattle.llb_loader.specs.Graph.{IsExecVertex}
use Rattle.llb_loader.proofs.ScriptLengths.{script_short}

-- a known type that is neither a secret nor an agent is one of three
three_types : (t : ℤ) → IsBelow 5 t → int_eq t secret ≡ false → int_eq t ssh ≡ false → (t ≡ bind) ⊎ ((t ≡ tmpfs) ⊎ (t ≡ cache))
three_types (pos zero) b s h = inl refl
three_types (pos (suc zero)) b s h = absurd (let x : true ≡ false = s in cc)
three_types (pos (suc (suc zero))) b s h = absurd (let x : true ≡ false = h in cc)
three_types (pos (suc (suc (suc zero)))) b s h = inr (inr refl)
three_types (pos (suc (suc (suc (suc zero))))) b s h = inr (inl refl)
three_types (pos (suc (suc (suc (suc (suc n)))))) b s h = absurd (let l = b.high in omega (arith, ints, l))
three_types (negsuc n) b s h = absurd (let l = b.low in omega (arith, ints, l))

there : (o : Option Meta) → IsSome o → (m : Meta) × (o ≡ Some m)
there (Some m) e = (m, refl)
there None e = absurd (let x : false ≡ true = e in cc)

commands_there : (r : Result (List Joined) ScriptFault) → IsSome (result_ok r) → (cs : List Joined) × (r ≡ Ok cs)
commands_there (Ok cs) e = (cs, refl)
commands_there (Err f) e = absurd (let x : false ≡ true = e in cc)

-- an exec that meets its rules, and has neither secrets nor agents among its mounts, is a vertex of its kind
pub exec_vertex : (v : Vertex) (x : ExecOp) → All (λ m. has_type secret m ≡ false) x.mounts → All (λ m. has_type ssh m ≡ false) x.mounts
    → MeetsAll v.op.inputs (Some (Exec x)) (rules_on (Some (Exec x))) → IsKindWithin (Some (Exec x)) → length v.inputs ≡ length v.op.inputs
    → v.script ≡ commands_in x.meta → v.steps ≡ kind_steps (Some (Exec x)) → v.outputs ≡ kind_outputs (Some (Exec x)) → IsExecVertex v x
exec_vertex v x secrets agents met within inputs script steps outputs =
    let m = there x.meta met.1.1.1.1.1.0 in
    let paths = met.1.1.1.1.1.1.1.1.1.0 in
    let known = met.1.1.1.1.1.1.1.1.1.1.1.0 in
    let words : HasWord (Some m.0) = subst (λ (o : Option Meta). HasWord o) m.1 met.1.1.1.1.1.1.0 in
    let cwd : ReadsCwd (Some m.0) = subst (λ (o : Option Meta). ReadsCwd o) m.1 paths.cwd in
    let small : IsMetaOptWithin (Some m.0) = subst (λ (o : Option Meta). IsMetaOptWithin o) m.1 within.meta in
    let c = commands_there (script_of m.0.args) (subst (λ (o : Option Meta). IsSome (commands_in o)) m.1 met.1.1.1.1.1.1.1.1.1.1.1.1.1.1.1.1.1.0) in
    let is : commands_in x.meta ≡ Some c.0 = ap commands_in m.1 ∙ ap (λ (r : Result (List Joined) ScriptFault). result_ok r) c.1 in
    record {
      meta = m.0;
      commands = c.0;
      there = m.1;
      words = words;
      few_words = small.args;
      few_env = small.env;
      reads = c.1;
      script = script ∙ is;
      few_commands = script_short m.0.args c.0 small.short c.1;
      cwd = cwd;
      some = met.1.1.1.1.1.1.1.0;
      few = within.mounts;
      root = met.1.1.1.1.1.1.1.1.0;
      dests = paths.dests;
      selectors = paths.selectors;
      apart = met.1.1.1.1.1.1.1.1.1.1.0;
      kinds = λ i d h. three_types (get_or x.mounts i d).mount_type (known i d h) (secrets i d h) (agents i d h);
      shown = met.1.1.1.1.1.1.1.1.1.1.1.1.0;
      given = met.1.1.1.1.1.1.1.1.1.1.1.1.1.0;
      options = met.1.1.1.1.1.1.1.1.1.1.1.1.1.1.0;
      sharing = met.1.1.1.1.1.1.1.1.1.1.1.1.1.1.1.0;
      keys = met.1.1.1.1.1.1.1.1.1.1.1.1.1.1.1.1.0;
      inputs = inputs;
      steps = steps ∙ ap (λ (o : Option (List Joined)). length (unwrap_or o [])) is;
      outputs = outputs;
    }
