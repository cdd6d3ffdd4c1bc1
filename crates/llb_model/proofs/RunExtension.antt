-- A run goes on.
use Rattle.std.proofs.Common.{◌≡◌, List, [], ◌∷◌, ◌++◌, Option, Some, None, option_map, refl, sym, ap, subst, ◌∙◌}
use Rattle.llb_model.specs.Program.{Build}
use Rattle.llb_model.specs.State.{State}
use Rattle.llb_events.specs.declared.event.Event.{Event}
use Rattle.llb_model.specs.Table.{Reply, table}
use Rattle.llb_model.specs.Run.{run, after}
use Rattle.llb_model.proofs.Lists.{inside}
use Rattle.llb_model.proofs.GrantedEvents.{Answer}

abbrev pub Ran : Type 0
Ran = Option (State × List Reply)

-- ---- a run, and another from where it ended

-- replies first
abbrev pub behind : List Reply → Ran → Ran
behind rs o = option_map {U = State × List Reply} (λ (t : State × List Reply). (t.0, rs ++ t.1)) o

abbrev pub joined : Ran → (State → Ran) → Ran
joined None more = None
joined (Some (s, rs)) more = behind rs (more s)

behind_none : (o : Ran) → o ≡ behind [] o
behind_none None = refl
behind_none (Some (s, rs)) = refl

behind_one : (r : Reply) (rs : List Reply) (o : Ran) → behind (r ∷ []) (behind rs o) ≡ behind (r ∷ rs) o
behind_one r rs None = refl
behind_one r rs (Some (s, qs)) = refl

first_joined : (r : Reply) (o : Ran) (more : State → Ran) → behind (r ∷ []) (joined o more) ≡ joined (behind (r ∷ []) o) more
first_joined r None more = refl
first_joined r (Some (s, rs)) more = behind_one r rs (more s)

after_joined : (o : Option Answer) (go more : State → Ran) → after o (λ t. joined (go t) more) ≡ joined (after o go) more
after_joined None go more = refl
after_joined (Some (s, r)) go more = first_joined r (go s) more

pub run_append : (b : Build) (s : State) (xs ys : List Event) → run b s (xs ++ ys) ≡ joined (run b s xs) (λ t. run b t ys)
unfolding run
run_append b s [] ys = behind_none (run b s ys)
run_append b s (x ∷ xs) ys = (λ i. after (table b s x) (λ t. run_append b t xs ys i)) ∙ after_joined (table b s x) (λ t. run b t xs) (λ t. run b t ys)

-- a granted event is a run of that event alone
pub run_one : (b : Build) (s t : State) (e : Event) (r : Reply) → table b s e ≡ Some (t, r) → run b s (e ∷ []) ≡ Some (t, r ∷ [])
unfolding run
run_one b s t e r granted = ap (λ o. after o (λ t. run b t [])) granted

-- a run, and another from the state that it leads to, are one run with the replies of both
pub run_on : (b : Build) (s t u : State) (xs ys : List Event) (rs qs : List Reply) → run b s xs ≡ Some (t, rs) → run b t ys ≡ Some (u, qs)
    → run b s (xs ++ ys) ≡ Some (u, rs ++ qs)
run_on b s t u xs ys rs qs first later =
    run_append b s xs ys ∙ ap (λ o. joined o (λ v. run b v ys)) first ∙ ap (behind rs) later

-- an event more
pub run_more : (b : Build) (s t u : State) (es : List Event) (rs : List Reply) (e : Event) (r : Reply) → run b s es ≡ Some (t, rs) → table b t e ≡ Some (u, r)
    → run b s (es ++ e ∷ []) ≡ Some (u, rs ++ r ∷ [])
run_more b s t u es rs e r first granted = run_on b s t u es (e ∷ []) rs (r ∷ []) first (run_one b t u e r granted)

-- ---- induction over runs

pub record IsFirstOf (b : Build) (s : State) (e : Event) (es : List Event) (t : State) (rs : List Reply) : Type 0 where
  pub a : Answer
  pub given : table b s e ≡ Some a
  pub rest : List Reply
  pub goes_on : run b a.0 es ≡ Some (t, rest)
  pub replies : rs ≡ a.1 ∷ rest

-- a run of no events stays in its state and has no reply
pub run_none : (b : Build) (s t : State) (rs : List Reply) → run b s [] ≡ Some (t, rs) → (s ≡ t) × (rs ≡ [])
unfolding run
run_none b s t rs e = let same : ◌≡◌ {A = State × List Reply} (s, []) (t, rs) = inside e in (ap (λ x. x.0) same, sym (ap (λ x. x.1) same))

-- a run begins with its first event, which is granted, and goes on from there with the rest
pub run_first : (b : Build) (s : State) (e : Event) (es : List Event) (t : State) (rs : List Reply) → run b s (e ∷ es) ≡ Some (t, rs) → IsFirstOf b s e es t rs
unfolding run
run_first b s e es t rs given = go (table b s e) refl given
  where
    deeper : (a : Answer) → table b s e ≡ Some a → (o : Ran) → run b a.0 es ≡ o
        → option_map {U = State × List Reply} (λ (p : State × List Reply). (p.0, a.1 ∷ p.1)) o ≡ Some (t, rs) → IsFirstOf b s e es t rs
    deeper a is None goes h = absurd cc
    deeper a is (Some p) goes h =
        let same : ◌≡◌ {A = State × List Reply} (p.0, a.1 ∷ p.1) (t, rs) = inside h in
        record { a = a; given = is; rest = p.1; goes_on = goes ∙ ap (λ (q : State). Some (q, p.1)) (ap (λ x. x.0) same); replies = sym (ap (λ x. x.1) same) }

    go : (o : Option Answer) → table b s e ≡ o → after o (λ u. run b u es) ≡ Some (t, rs) → IsFirstOf b s e es t rs
    go None is given = absurd cc
    go (Some a) is given = deeper a is (run b a.0 es) refl given

-- what each event keeps, a run keeps
pub run_keeps : (b : Build) (P : State → Type 0) → ((s : State) (e : Event) (a : Answer) → P s → table b s e ≡ Some a → P a.0)
    → (s t : State) (es : List Event) (rs : List Reply) → P s → run b s es ≡ Some (t, rs) → P t
run_keeps b P each s t [] rs h given = subst P (run_none b s t rs given).0 h
run_keeps b P each s t (e ∷ es) rs h given =
    let r = run_first b s e es t rs given in
    run_keeps b P each r.a.0 t es r.rest (each s e r.a h r.given) r.goes_on
