use Rattle.std.proofs.Common.{◌≡◌, ℕ, true, false, List, sym, ◌∙◌, subst}
use Rattle.llb_loader.specs.declared.row.Row.{Row}
use Rattle.llb_loader.specs.RowLookup.{AllSame, Collides, RefusesCollision}
use Rattle.llb_findings.proofs.EveryFault.{all_few, all_collide, all_linked, own_rows}
use Rattle.llb_findings.proofs.finding.every_fault.Goals as goal

pub returns-then-all_same : goal.returns-then-all_same
returns-then-all_same c =
    let own = own_rows c.args.rows.now c.deref.result.now (c.deref.ensures.value ∙ c.in_ok-entries.ensures) in
    all_few c.args.rows.now _ _ _ c.in_ok-ops.ensures.adds c.new-found.ensures.items
    (subst (λ (rs : List Row). AllSame rs) own (c.all_same.ensures.0 c.if-all_same.true)) c.in_ok-push.ensures.items

pub returns-in-Ok : goal.returns-in-Ok
returns-in-Ok c =
    let own = own_rows c.args.rows.now c.deref.result.now (c.deref.ensures.value ∙ c.in_ok-entries.ensures) in
    let again = own_rows c.args.rows.now c.deref-2.result.now (c.deref-2.ensures.value ∙ c.in_ok-entries.ensures) in
    all_linked c.args.rows.now _ _ _ c.in_ok-ops.ensures.adds c.new-found.ensures.items
    (λ same. let t = c.all_same.ensures.1 (subst (λ (rs : List Row). AllSame rs) (sym own) same) in let x : true ≡ false = sym t ∙ c.if-all_same.false in cc)
    (subst (λ (rs : List Row). (k : ℕ) → ¬ Collides rs k) again c.in-Ok.ensures.apart) c.in_ok-add_linked-in-Ok.ensures

pub returns : goal.returns
returns c =
    let own = own_rows c.args.rows.now c.deref.result.now (c.deref.ensures.value ∙ c.in_ok-entries.ensures) in
    let again = own_rows c.args.rows.now c.deref-2.result.now (c.deref-2.ensures.value ∙ c.in_ok-entries.ensures) in
    all_collide c.args.rows.now c.in-Err.fault _ _ _ c.in_ok-ops.ensures.adds c.new-found.ensures.items
    (λ same. let t = c.all_same.ensures.1 (subst (λ (rs : List Row). AllSame rs) (sym own) same) in let x : true ≡ false = sym t ∙ c.if-all_same.false in cc)
    (subst (λ (rs : List Row). RefusesCollision rs c.in-Err.fault) again (c.in-Err.ensures.refused (sym c.is_memory.ensures ∙ c.if-is_memory.false)))
    c.in_ok-add_collisions-in-Err.ensures

pub add_linked-requires-clause-apart : goal.add_linked-requires-clause-apart
add_linked-requires-clause-apart c =
    let own = own_rows c.args.rows.now c.deref.result.now (c.deref.ensures.value ∙ c.in_ok-entries.ensures) in
    let again = own_rows c.args.rows.now c.deref-2.result.now (c.deref-2.ensures.value ∙ c.in_ok-entries.ensures) in
    record {
      several = λ same. let t = c.all_same.ensures.1 (subst (λ (rs : List Row). AllSame rs) (sym own) same) in
          let x : true ≡ false = sym t ∙ c.if-all_same.false in cc;
      apart = subst (λ (rs : List Row). (k : ℕ) → ¬ Collides rs k) again c.in-Ok.ensures.apart;
    }
