-- The parts of what is found in rows, put together.
use Rattle.std.proofs.Common.{◌≡◌, inl, inr, ℕ, ◌<◌, List, [], ◌∷◌, ◌++◌, length, map, refl, sym, ◌∙◌, ap, subst, arith}
use Rattle.llb_loader.specs.declared.row.Row.{Row}
use Rattle.llb_loader.specs.declared.fault.LoadFault.{LoadFault}
use Rattle.llb_loader.specs.declared.fault.LoadFault.TheVariants.{TooFew, NoResult, UnknownDigest, Cycle, Unsupported, Invalid, BadIndex, Collision}
use Rattle.llb_loader.specs.RowLookup.{AllSame, Collides, RefusesCollision}
use Rattle.llb_loader.specs.RowsWithoutBytes.{with_bytes, bytes_of}
use Rattle.llb_loader.specs.Features.{features}
use Rattle.llb_loader.specs.Rules.{rules_on}
use Rattle.llb_loader.specs.GraphOfRows.{Plan, op_at, IsApart}
use Rattle.llb_findings.specs.Findings.{plan_for, IsAsked, IsFaultIn, at_inputs, entry_faults, collisions, unknown_digests, unsupported, invalid, bad_indexes}
use Rattle.llb_findings.specs.Findings.{linked_faults, possible}
use Rattle.llb_findings.specs.Selections.{AreThose, Adds}
use Rattle.llb_findings.proofs.SelectionParts.{none_both, none_joined, none_map, one_not, one_here, adds_both, adds_none}

module _ (p : Plan) where
  asked_apart : (k i : ℕ) → IsAsked p k i → IsApart p.rows
  asked_apart k i (inl a) = a.0.result.apart
  asked_apart k i (inr a) = a.0.apart

  -- where rows collide, or all are the same, there is no fault of what comes after that
  none_linked : (¬ IsApart p.rows) → AreThose (IsFaultIn p) (linked_faults p) []
  unfolding linked_faults unknown_digests unsupported invalid bad_indexes
  none_linked n = none_both (IsFaultIn p) (NoResult ∷ []) _ (one_not (IsFaultIn p) NoResult (λ s. n s.0))
      (none_both (IsFaultIn p) (unknown_digests p) _ (none_joined (IsFaultIn p) (length p.rows) (at_inputs p (λ k i. UnknownDigest k i)) (λ k l.
      none_joined (IsFaultIn p) (length (op_at p.ops k).inputs) (λ i. UnknownDigest k i ∷ []) (λ i m.
      one_not (IsFaultIn p) (UnknownDigest k i) (λ s. n (asked_apart k i s.0)))))
      (none_both (IsFaultIn p) (Cycle ∷ []) _ (one_not (IsFaultIn p) Cycle (λ s. n s.0.result.apart))
      (none_both (IsFaultIn p) (unsupported p) _ (none_joined (IsFaultIn p) (length p.rows) (λ k. map (λ f. Unsupported k f) features) (λ k l.
      none_map (IsFaultIn p) (λ f. Unsupported k f) features (λ f s. n s.0.result.apart)))
      (none_both (IsFaultIn p) (invalid p) (bad_indexes p) (none_joined (IsFaultIn p) (length p.rows) (λ k. map (λ r. Invalid k r) (rules_on
      (op_at p.ops k).kind)) (λ k l.
      none_map (IsFaultIn p) (λ r. Invalid k r) (rules_on (op_at p.ops k).kind) (λ r s. n s.0.result.apart)))
      (none_joined (IsFaultIn p) (length p.rows) (at_inputs p (λ k i. BadIndex k i)) (λ k l.
      none_joined (IsFaultIn p) (length (op_at p.ops k).inputs) (λ i. BadIndex k i ∷ []) (λ i m.
      one_not (IsFaultIn p) (BadIndex k i) (λ s. n (asked_apart k i s.0)))))))))

  no_collision : ((k : ℕ) → ¬ Collides p.rows k) → AreThose (IsFaultIn p) (collisions p) []
  unfolding collisions
  no_collision h = none_joined (IsFaultIn p) (length p.rows) (λ k. Collision k ∷ []) (λ k l. one_not (IsFaultIn p) (Collision k) (λ s. h k s))

  put_together : (before a b d e : List LoadFault) → Adds (IsFaultIn p) (entry_faults p) before a
      → Adds (IsFaultIn p) (TooFew ∷ []) a b → Adds (IsFaultIn p) (collisions p) b d → Adds (IsFaultIn p) (linked_faults p) d e
      → before ≡ [] → AreThose (IsFaultIn p) (possible p) e
  unfolding possible
  put_together before a b d e w x y z none =
      let all = adds_both (IsFaultIn p) (entry_faults p) _ before a e w (adds_both (IsFaultIn p) (TooFew ∷ []) _ a b e x
      (adds_both (IsFaultIn p) (collisions p) (linked_faults p) b d e y z)) in
      let same : e ≡ all.0 = all.1 ∙ ap (λ (xs : List LoadFault). xs ++ all.0) none in
      subst (λ (xs : List LoadFault). AreThose (IsFaultIn p) (entry_faults p ++ ((TooFew ∷ []) ++ (collisions p ++ linked_faults p))) xs) (sym same) all.2

with_own : (rows : List Row) → with_bytes rows (bytes_of rows) ≡ rows
with_own [] = refl
with_own (r ∷ rows) = ap (λ (xs : List Row). r ∷ xs) (with_own rows)

-- rows with their own bytes are the rows
pub own_rows : (rows : List Row) (entries : List (List ℕ)) → entries ≡ bytes_of rows → with_bytes rows entries ≡ rows
own_rows rows entries e = ap (λ (es : List (List ℕ)). with_bytes rows es) e ∙ with_own rows

same_apart : (rows : List Row) → AllSame rows → (k : ℕ) → ¬ Collides rows k
same_apart rows same k c =
    let j = c.earlier.0 in
    let l : j < length rows = (let a = c.here in let b = c.earlier.1 in omega (arith, a, b)) in
    c.earlier.3 (ap (λ (r : Row). r.bytes) (same j l ∙ sym (same k c.here)))

-- all rows are the same
pub all_few : (rows : List Row) (before a b : List LoadFault) → Adds (IsFaultIn (plan_for rows)) (entry_faults (plan_for rows)) before a → before ≡ []
    → AllSame rows → b ≡ a ++ TooFew ∷ [] → AreThose (IsFaultIn (plan_for rows)) (possible (plan_for rows)) b
all_few rows before a b entries none same new = put_together (plan_for rows) before a b b b entries
    (TooFew ∷ [], new, one_here (IsFaultIn (plan_for rows)) TooFew same)
    (adds_none (IsFaultIn (plan_for rows)) (collisions (plan_for rows)) b (no_collision (plan_for rows) (same_apart rows same)))
    (adds_none (IsFaultIn (plan_for rows)) (linked_faults (plan_for rows)) b (none_linked (plan_for rows) (λ apart. apart.several same))) none

-- rows collide
pub all_collide : (rows : List Row) (e : LoadFault) (before a b : List LoadFault) → Adds (IsFaultIn (plan_for rows)) (entry_faults (plan_for rows)) before a
    → before ≡ [] → (¬ AllSame rows) → RefusesCollision rows e → Adds (IsFaultIn (plan_for rows)) (collisions (plan_for rows)) a b
    → AreThose (IsFaultIn (plan_for rows)) (possible (plan_for rows)) b
all_collide rows e before a b entries none several refused collide = put_together (plan_for rows) before a a b b entries
    (adds_none (IsFaultIn (plan_for rows)) (TooFew ∷ []) a (one_not (IsFaultIn (plan_for rows)) TooFew several)) collide
    (adds_none (IsFaultIn (plan_for rows)) (linked_faults (plan_for rows)) b
    (none_linked (plan_for rows) (λ apart. apart.apart refused.0 refused.2.holds))) none

-- the rows are apart
pub all_linked : (rows : List Row) (before a b : List LoadFault) → Adds (IsFaultIn (plan_for rows)) (entry_faults (plan_for rows)) before a
    → before ≡ [] → (¬ AllSame rows) → ((k : ℕ) → ¬ Collides rows k) → Adds (IsFaultIn (plan_for rows)) (linked_faults (plan_for rows)) a b
    → AreThose (IsFaultIn (plan_for rows)) (possible (plan_for rows)) b
all_linked rows before a b entries none several apart linked = put_together (plan_for rows) before a a a b entries
    (adds_none (IsFaultIn (plan_for rows)) (TooFew ∷ []) a (one_not (IsFaultIn (plan_for rows)) TooFew several))
    (adds_none (IsFaultIn (plan_for rows)) (collisions (plan_for rows)) a (no_collision (plan_for rows) apart)) linked none
