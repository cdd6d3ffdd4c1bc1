-- Whole runs end as their claim order.
use Rattle.std.proofs.Common.{◌≡◌, ℕ, suc, Bool, true, false, cond, List, [], ◌∷◌, Option, Some, None, inl, inr, refl, sym, ap, subst, ◌∙◌}
use Rattle.std.specs.Prelude.{slice_get}
use Rattle.llb_cache.specs.declared.key.Key.{Key}
use Rattle.llb_model.specs.Caches.{Instance, IsExclusive}
use Rattle.llb_model.specs.Program.{Build, needs_of}
use Rattle.llb_model.specs.State.{Status, Waiting, Running, Settled, State, opening, program_in, is_finished, held, place_for}
use Rattle.llb_events.specs.declared.event.Event.{Event}
use Rattle.llb_events.specs.declared.event.Event.TheVariants.{Claim, Step, Settle, Cancel}
use Rattle.llb_model.specs.Table.{HasStepped, HasSettled, HasCancelled}
use Rattle.llb_model.specs.Table.{Reply, Claimed}
use Rattle.llb_model.specs.Table.{table}
use Rattle.llb_model.specs.Run.{run}
use Rattle.llb_model.specs.ClaimOrder.{Order, at_first, order, claims_in, StandsIn}
use Rattle.llb_model.specs.WholeRunLaws.{HasDistinctNeeds, NoShared, RunsInClaimOrder, EachIn, IsChosen, AloneInClaimOrder}
use Rattle.llb_model.proofs.Lists.{some_of}
use Rattle.llb_model.proofs.StoreWrites.{has_map, same_store}
use Rattle.llb_model.proofs.GrantedEvents.{Answer}
use Rattle.llb_model.proofs.RunExtension.{run_none, run_first}
use Rattle.llb_model.proofs.ChosenEventRuns.{IsNextOf, chosen_is}
use Rattle.llb_model.proofs.ExclusiveHolders.{alone, alone_free, TakesFree}
use Rattle.llb_model.proofs.ClaimEnds.{cuts, after_reply}
use Rattle.llb_model.proofs.ClaimOrderTracking.{any, Agrees, agree_settled, Tracks, event_tracks, opening_tracks}

-- ---- runs with their claim order

order_after : (b : Build) (o : Order) (r : Reply) (rs : List Reply) → order b o (claims_in (r ∷ rs)) ≡ order b (after_reply b o r rs) (claims_in rs)
order_after b o (Claimed job) rs = refl
order_after b o (HasStepped r) rs = refl
order_after b o (HasSettled r) rs = refl
order_after b o (HasCancelled r) rs = refl

-- what each event keeps of a state, its claim order and the replies to come, a run keeps
pub run_follows : (b : Build) (C : State → Event → Type 0) (Q : State → Order → List Reply → Type 0)
    → ((s : State) (o : Order) (e : Event) (a : Answer) (rs : List Reply) → Q s o (a.1 ∷ rs) → C s e → table b s e ≡ Some a
    → Q a.0 (after_reply b o a.1 rs) rs)
    → (s t : State) (o : Order) (es : List Event) (rs : List Reply) → Q s o rs → EachIn C b s es → run b s es ≡ Some (t, rs)
    → Q t (order b o (claims_in rs)) []
run_follows b C Q each s t o [] rs h allowed given =
    let n = run_none b s t rs given in
    subst (λ qs. Q t (order b o (claims_in qs)) []) (sym n.1) (subst (λ u. Q u o []) n.0 (subst (Q s o) n.1 h))
run_follows b C Q each s t o (e ∷ es) rs h allowed given =
    let r = run_first b s e es t rs given in
    let first = each s o e r.a r.rest (subst (Q s o) r.replies h) allowed.0 r.given in
    let rest = run_follows b C Q each r.a.0 t (after_reply b o r.a.1 r.rest) es r.rest first (allowed.1 r.a r.given) r.goes_on in
    subst (λ qs. Q t (order b o (claims_in qs)) []) (sym r.replies) (subst (λ (q : Order). Q t q []) (sym (order_after b o r.a.1 r.rest)) rest)

-- ---- where no cache is shared

takes_free : (b : Build) → NoShared b → (s : State) (a : Answer) (e : Event) → TakesFree any b s a e
unfolding alone
takes_free b none s a (Claim w v) = λ c p h counts.
    let m = has_map (place_for (held s.workers)) (needs_of c.start.vertex) p h in
    let exclusive = none v c.start.vertex c.begins.there m.0 m.1 in
    alone_free b s w v a c p h (subst (λ (k : Key). IsExclusive k.mode) (sym (ap (λ (q : Instance). q.key) m.2)) exclusive)
takes_free b none s a (Step w) = tt
takes_free b none s a (Settle w) = tt
takes_free b none s a (Cancel w) = tt

abbrev Always : State → Event → Type 0
Always s e = Unit {0}

always : (b : Build) (s : State) (es : List Event) → EachIn Always b s es
always b s [] = tt
always b s (e ∷ es) = (tt, λ a given. always b a.0 es)

stands : (b : Build) (s : State) (o : Order) (cut : ℕ → Option ℕ) → Tracks b s o cut → StandsIn s o
stands b s o cut tracks = record {
  endings = λ v e is. agree_settled (slice_get s.statuses v) (slice_get o.statuses v) e (tracks.agree v) is;
  contents = tracks.free;
}

-- where no cache is shared, a claim takes only what is free, so a run keeps step with its claim order
pub runs_in_claim_order : (b : Build) → HasDistinctNeeds b → NoShared b → RunsInClaimOrder b
runs_in_claim_order b differ none opened es rs s given =
    stands b s (order b (at_first b opened.store) (claims_in rs)) (cuts [])
    (run_follows b Always (λ t o qs. Tracks b t o (cuts qs))
    (λ t o e a qs tracks allowed is. event_tracks b differ t o e a qs tracks (takes_free b none t a e) is)
    (opening b opened) s (at_first b opened.store) es rs (opening_tracks b opened (cuts rs)) (always b (opening b opened) es) given)

-- ---- one driver

-- where a claim is chosen, nothing runs
chosen_free : (b : Build) (s : State) (a : Answer) (e : Event) → IsChosen b s e → TakesFree any b s a e
chosen_free b s a (Step w) is = tt
chosen_free b s a (Settle w) is = tt
chosen_free b s a (Cancel w) is = tt
chosen_free b s a (Claim w v) is = λ c p h counts u x there has. elim (chosen_is b s (Claim w v) is) [
  | inl n ↦ by_test (is_finished (program_in b n.execution).steps n.execution) n n.is
  | inr k ↦ k.2.idle u x there
]
  where
    by_test : (fin : Bool) (n : IsNextOf b s (Claim w v)) → Claim w v ≡ cond fin (Settle n.worker) (Step n.worker) → ⊥
    by_test true n e = cc
    by_test false n e = cc

-- two lists with the same at each place
same_list : {A : Type 0} (xs ys : List A) → ((k : ℕ) → slice_get xs k ≡ slice_get ys k) → xs ≡ ys
same_list [] [] same = refl
same_list [] (y ∷ ys) same = absurd (let h : None ≡ some_of y = same 0 in cc)
same_list (x ∷ xs) [] same = absurd (let h : some_of x ≡ None = same 0 in cc)
same_list (x ∷ xs) (y ∷ ys) same =
    let first : some_of x ≡ some_of y = same 0 in
    let h : x ≡ y = cc in
    ap (λ z. z ∷ xs) h ∙ ap (λ zs. y ∷ zs) (same_list xs ys (λ k. same (suc k)))

rests : (a b : Option Status) → Agrees a b → ((w : ℕ) → a ≡ Some (Running w) → ⊥) → a ≡ b
rests None b h nothing = sym h
rests (Some Waiting) b h nothing = sym h
rests (Some (Settled e)) b h nothing = sym h
rests (Some (Running w)) b h nothing = absurd (nothing w refl)

-- one driver claims only while nothing runs, so it leaves at rest what its claim order leaves, shared caches too
pub alone_in_claim_order : (b : Build) → HasDistinctNeeds b → AloneInClaimOrder b
alone_in_claim_order b differ opened es rs s given all rest =
    let o = order b (at_first b opened.store) (claims_in rs) in
    let tracks = run_follows b (IsChosen b) (λ t q qs. Tracks b t q (cuts qs))
    (λ t q e a qs tr is granted. event_tracks b differ t q e a qs tr (chosen_free b t a e is) granted)
    (opening b opened) s (at_first b opened.store) es rs (opening_tracks b opened (cuts rs)) all given in (
      same_list s.statuses o.statuses (λ k. rests (slice_get s.statuses k) (slice_get o.statuses k) (tracks.agree k) (rest k)),
      same_store s.store o.store (λ p. tracks.free p (λ w x there has. let own = tracks.working w x there in rest x.vertex w own.status)),
    )
