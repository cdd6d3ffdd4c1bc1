-- Whole runs on alike local trees and caches; and on tokens, where some sources are given by value.
use Rattle.std.proofs.Common.{◌≡◌, ℕ, Bool, true, false, ◌||◌, ◌&&◌, List, [], ◌∷◌, length, Option, Some, None, option_map, inl, inr}
use Rattle.std.proofs.Common.{refl, sym, ap, subst, ◌∙◌, get_or, ◌+◌, cond}
use Rattle.std.specs.Prelude.{◌++◌, codes, slice_get, unwrap_or, is_some, nat_le}
use Rattle.std.specs.Fmt.{decimal}
use Rattle.std.specs.List.{All, list_any}
use Rattle.std.specs.FinMap as finite
use Rattle.llb_wire.specs.Digest.{digits_of}
use Rattle.llb_applet.specs.Commands.{line}
use Rattle.llb_tree.specs.Tree.{TreeMap, Entry, Dir, File}
use Rattle.llb_loader.specs.declared.graph.Edge.{Edge}
use Rattle.llb_loader.specs.declared.graph.Vertex.{Vertex}
use Rattle.llb_loader.specs.Graph.{Numbered, links, IsGraph}
use Rattle.llb_loader.specs.LocalSources.{Local, tree_of_local}
use Rattle.llb_loader.proofs.ReachabilitySearch.{reached_step}
use Rattle.llb_model.specs.ListsFromEarlierItems.{by_number}
use Rattle.llb_model.specs.Caches.{Store, content}
use Rattle.llb_events.specs.declared.event.Event.{Event}
use Rattle.llb_events.specs.declared.event.Event.TheVariants.{Claim, Step, Settle}
use Rattle.llb_model.specs.Program.{program_of, program_at, start_with}
use Rattle.llb_model.specs.Outcome.{Done, Failed, inputs_from}
use Rattle.llb_model.specs.State.{Status, Waiting, Running, Settled, State, opening, ending_of, ending_at, is_waiting, is_failed}
use Rattle.llb_model.specs.State.{WorkerStatus, Idle, Runs, start_from, is_ready}
use Rattle.llb_model.specs.Table.{Reply, Claimed, HasStepped, HasSettled, HasCancelled, table}
use Rattle.llb_model.specs.WholeRunLaws.{AreChosen}
use Rattle.llb_model.proofs.GrantedEvents.{Answer}
use Rattle.llb_model.specs.Run.{is_settled, each, is_complete, next_of, least, or_else, chosen}
use Rattle.llb_model.proofs.ConstructorEqualities.{inside_some, none_some}
use Rattle.llb_model.proofs.Lists.{some_of, Each_of}
use Rattle.llb_model.proofs.RunExtension.{Ran}
use Rattle.llb_board.specs.BoardValue.{BoardValue, Replays, replies_in}
use Rattle.llb_stepper.specs.Records.{event_text, pair_text, step_text, settle_text, reply_text}
use Rattle.llb_laws.specs.AlikeTrees.{IsKept, BothOptions, BothLists, AreLike, AreAlike, AreAlikeEndings}
use Rattle.llb_laws.specs.ContentLaws.{ExpandsTo, spelled, has_mark, step_digests, IsLiteral, AreExchanged}
use Rattle.llb_laws.specs.AlikeStates.{AreAlikeStatuses, AreAlikeWorkers, AreAlikeStates, AreAlikeReplies, AreAlikeRuns}
use Rattle.llb_laws.specs.TokenRuns.{with_locals, run_from, HandsRunsOn, HandsRunContentsOn, WritesNoMarkAtAll}
use Rattle.llb_laws.specs.TokenRuns.{SourceHasNames, NeedsNoCaches, MakesDigest, IsByValue, HaveTokens, HandsRunTokensOn, result_tree, StandsForContents}
use Rattle.llb_laws.specs.TokenRuns.{PrintAlike, BoardStandsForContents}
use Rattle.llb_laws.proofs.AlikeValues.{carry_options, both_get}
use Rattle.llb_laws.proofs.AlikeOutcomes.{got_of_all, each_by_place, edge_to, alike_inputs, alike_output}
use Rattle.llb_laws.proofs.ContentRelations as exchanges
use Rattle.llb_laws.proofs.ContentRelations.{exchanged_kept, exchanged_itself}
use Rattle.llb_laws.proofs.AnyNames.{IsAny, any_name, steps_any, option_any}
use Rattle.llb_laws.proofs.AlikeTreesWithNames.{AlikeStores, Writes}
use Rattle.llb_laws.proofs.WrittenContents.{IsName, a_name, relates_steps}
use Rattle.llb_laws.proofs.ContentsByValue.{literal_kept, literal_itself, literal_digest}
use Rattle.llb_laws.proofs.Tokens.{named_option, spelled_kept, unmarked, expands_to_one}
use Rattle.llb_laws.proofs.AlikeEvents.{Within, AreFlowing, Stands, ended_both, Answers, table_both, state_wide, opening_both, alike_runs}
use Rattle.llb_laws.proofs.AlikeStateWrites.{nothing_in, none_alike}

-- ---- one relation

each_within : (R : List ℕ → List ℕ → Type 0) (es : List Edge) → Each_of (λ (e : Edge). Within R R) es
each_within R [] = tt
each_within R (e ∷ es) = (λ a b h. h, each_within R es)

pub hands_runs_on : (R : List ℕ → List ℕ → Type 0) → IsKept R → (g : Numbered) → IsGraph g → HandsRunsOn R g
hands_runs_on R kept g graph ls ms workers s t written sources caches =
    let flow : AreFlowing IsAny g ls ms (λ v. R) R R =
    record {
      kept = λ v. kept;
      written = λ k x there. steps_any R (program_of x).steps (written k x there);
      sources = λ k x name there named. option_any R (tree_of_local ls name) (tree_of_local ms name) (sources k x name there named);
      edges = λ k x there. each_within R x.inputs;
      reads = λ k x n there has a b h. h;
      writes = λ k x n there has a b h. h;
      wide = λ k a b h. h;
      wide_caches = λ a b h. h;
    } in
    alike_runs IsAny any_name g graph ls ms (λ v. R) R R flow workers s t (λ p. option_any R (content s p) (content t p) (caches p))

pub hands_run_contents_on : (g : Numbered) → IsGraph g → HandsRunContentsOn g
hands_run_contents_on g graph pairs ls ms workers s t none sources caches =
    hands_runs_on (AreExchanged pairs) (exchanged_kept pairs) g graph ls ms workers s t
    (λ k x there. exchanges.relates_steps (AreExchanged pairs) (exchanged_itself pairs) (program_of x).steps (none k x there)) sources caches

-- ---- two relations, of which the second is known on a condition

abbrev Also : (List ℕ → List ℕ → Type 0) → Type 0 → (List ℕ → List ℕ → Type 0) → List ℕ → List ℕ → Type 0
Also P C T a b = P a b × (C → T a b)

module _ (P : List ℕ → List ℕ → Type 0) (C : Type 0) (T : List ℕ → List ℕ → Type 0) where
  also_kept : IsKept P → IsKept T → IsKept (Also P C T)
  also_kept p t = record {
    empty = (p.empty, λ c. t.empty);
    appended = λ a b c d h k. (p.appended a b c d h.0 k.0, λ e. t.appended a b c d (h.1 e) (k.1 e));
  }

  also_like : (o p : Option Entry) → BothOptions (AreLike P) o p → (C → BothOptions (AreLike T) o p) → BothOptions (AreLike (Also P C T)) o p
  also_like None None h k = tt
  also_like (Some (Dir m)) (Some (Dir n)) h k = h
  also_like (Some (File m a)) (Some (File n b)) h k = (h.0, (h.1, λ c. (k c).1))
  also_like (Some (Dir m)) (Some (File n b)) h k = absurd h
  also_like (Some (File m a)) (Some (Dir n)) h k = absurd h
  also_like None (Some e) h k = absurd h
  also_like (Some e) None h k = absurd h

  also_option : (o p : Option TreeMap) → BothOptions (AreAlike P) o p → (C → BothOptions (AreAlike T) o p) → BothOptions (AreAlike (Also P C T)) o p
  also_option None None h k = tt
  also_option (Some t) (Some u) h k = λ q. also_like (finite.get t q) (finite.get u q) (h q) (λ c. k c q)
  also_option None (Some u) h k = absurd h
  also_option (Some t) None h k = absurd h

-- ---- tokens

module _ (table : ℕ → List ℕ) (g : Numbered) where
  abbrev Expands : List ℕ → List ℕ → Type 0
  Expands = ExpandsTo (spelled table)

  abbrev OfVertex : ℕ → List ℕ → List ℕ → Type 0
  OfVertex k = Also Expands (IsByValue g k) IsLiteral

  abbrev OfCaches : List ℕ → List ℕ → Type 0
  OfCaches = Also Expands (MakesDigest g) IsLiteral

  literal_expands : (a b : List ℕ) → IsLiteral a b → Expands a b
  literal_expands a b is = unmarked table a is.plain ∙ ap some_of is.same

  itself : (k : ℕ) (a : List ℕ) → has_mark a ≡ false → OfVertex k a a
  itself k a none = (unmarked table a none, λ _. literal_itself a none)

  all_written : WritesNoMarkAtAll g → (k : ℕ) (x : Vertex) → slice_get g.vertices k ≡ Some x → All (Writes IsName (OfVertex k)) (program_of x).steps
  all_written none k x there = by_digest (list_any step_digests (program_of x).steps) refl
    where
      by_digest : (d : Bool) → list_any step_digests (program_of x).steps ≡ d → All (Writes IsName (OfVertex k)) (program_of x).steps
      by_digest false is = relates_steps (OfVertex k) (itself k) x (none k x there) (inl is)
      by_digest true is =
          let value : IsByValue g k = record { top = k; before = (0, refl); cause = inl (record { vertex = x; there = there; digests = is }) } in
          relates_steps (OfVertex k) (itself k) x (none k x there)
          (inr (λ a b h.
          let literal = literal_digest a b (h.1 value) in
          (literal_expands (line (digits_of a)) (line (digits_of b)) literal, λ _. literal)))

  makes_digest : (k : ℕ) → IsByValue g k → MakesDigest g
  makes_digest k value = elim value.cause [ inl here ↦ (value.top, here) | inr some ↦ some.1 ]

  tokens_flow : (ls ms : List Local) (s t : Store) → WritesNoMarkAtAll g → HaveTokens table g ls ms s t → AreFlowing IsName g ls ms OfVertex OfCaches Expands
  tokens_flow ls ms s t none tokens = record {
    kept = λ v. also_kept Expands (IsByValue g v) IsLiteral (spelled_kept table) literal_kept;
    written = all_written none;
    sources = λ k x name there named. named_option (OfVertex k) (tree_of_local ls name) (tree_of_local ms name)
        (also_option Expands (IsByValue g k) IsLiteral (tree_of_local ls name) (tree_of_local ms name)
        (tokens.sources k x name there named) (λ value. tokens.values k x name value there named))
        (λ t. got_of_all (SourceHasNames ls) g.vertices tokens.local_names k x there name t named);
    edges = λ k x there. each_by_place (λ (e : Edge). Within (OfVertex e.vertex) (OfVertex k)) x.inputs (λ i d l a b h. (
      h.0,
      λ value. h.1 (record {
        top = value.top;
        before = reached_step (links g.vertices) value.top k (get_or x.inputs i d).vertex value.before (edge_to g k x there i d l);
        cause = value.cause;
      }),
    ));
    reads = λ k x n there has a b h. (h.0, λ value. h.1 (makes_digest k value));
    writes = λ k x n there has a b h. (
      h.0,
      λ some. h.1 (record {
        top = k;
        before = (0, refl);
        cause = inr (record { vertex = x; there = there; need = n; has = has }, some);
      }),
    );
    wide = λ k a b h. h.0;
    wide_caches = λ a b h. h.0;
  }

  pub tokens_caches : (ls ms : List Local) (s t : Store) → HaveTokens table g ls ms s t → AlikeStores IsName OfCaches s t
  tokens_caches ls ms s t tokens p =
      named_option OfCaches (content s p) (content t p)
      (also_option Expands (MakesDigest g) IsLiteral (content s p) (content t p) (tokens.caches p) (λ some. tokens.literal some p)) (tokens.cache_names p)

pub hands_run_tokens_on : (g : Numbered) → IsGraph g → HandsRunTokensOn g
hands_run_tokens_on g graph table ls ms workers s t none tokens =
    alike_runs IsName a_name g graph ls ms (OfVertex table g) (OfCaches table g) (Expands table g) (tokens_flow table g ls ms s t none tokens) workers s t
    (tokens_caches table g ls ms s t tokens)

-- ---- completeness looks at no content

seen_same : (P : List ℕ → List ℕ → Type 0) (o p : Option Status) → BothOptions (AreAlikeStatuses P) o p
    → (is_settled o ≡ is_settled p) × (is_waiting o ≡ is_waiting p) × (is_failed (ending_of o) ≡ is_failed (ending_of p))
seen_same P None None h = (refl, refl, refl)
seen_same P (Some Waiting) (Some Waiting) h = (refl, refl, refl)
seen_same P (Some (Running w)) (Some (Running u)) h = (refl, refl, refl)
seen_same P (Some (Settled (Done ts))) (Some (Settled (Done us))) h = (refl, refl, refl)
seen_same P (Some (Settled (Failed f))) (Some (Settled (Failed e))) h = (refl, refl, refl)
seen_same P _ _ h = absurd h

complete_same : (P : List ℕ → List ℕ → Type 0) (g : Numbered) (ls ms : List Local) (s t : State) → BothLists (AreAlikeStatuses P) s.statuses t.statuses
    → is_complete (with_locals g ls) s ≡ is_complete (with_locals g ms) t
complete_same P g ls ms s t h =
    let same = λ (v : ℕ). seen_same P (slice_get s.statuses v) (slice_get t.statuses v) (both_get (AreAlikeStatuses P) s.statuses t.statuses v h) in
    λ i. each (λ v. (same v).0 i || ((same v).1 i && unwrap_or (slice_get (by_number (λ (before : List Bool) (x : Vertex). (same (length before)).2 i
    || list_any (λ (e : Edge). unwrap_or (slice_get before e.vertex) false) x.inputs) [] g.vertices) v) false)) 0 (length g.vertices)

-- ---- what is printed for a reply looks at no content

module _ (P : List ℕ → List ℕ → Type 0) (vertices : List Vertex) where
  reply_same : (e : Event) (r q : Reply) → AreAlikeReplies P r q → reply_text vertices e r ≡ reply_text vertices e q
  reply_same e (Claimed j) (Claimed k) h = refl
  reply_same e (HasStepped d) (HasStepped f) h = ap step_text h
  reply_same e (HasSettled d) (HasSettled f) h = ap settle_text h
  reply_same e (HasCancelled c) (HasCancelled d) h = λ i. pair_text (h i).vertex (h i).done
  reply_same e _ _ h = absurd h

  print_alike : (es : List Event) (rs qs : List Reply) → BothLists (AreAlikeReplies P) rs qs → PrintAlike vertices es rs qs
  print_alike es rs qs h i e r q at first second =
      let both = carry_options (AreAlikeReplies P) (Some r) (slice_get rs i) (Some q) (slice_get qs i) (sym first) (sym second)
      (both_get (AreAlikeReplies P) rs qs i h) in
      ap (λ text. decimal (i + 1) ++ (codes " " ++ (event_text e ++ (codes " -> " ++ text)))) (reply_same e r q both)

-- ---- a board over tokens

module _ (expand : List ℕ → Option (List ℕ)) where
  -- a tree that another expands to is the only one
  the_one : (o p : Option TreeMap) → BothOptions (AreAlike (ExpandsTo expand)) o p → (tree other : TreeMap) → o ≡ Some tree
      → AreAlike (ExpandsTo expand) tree other → p ≡ Some other
  the_one (Some t) (Some u) h tree other is like =
      ap some_of (expands_to_one expand tree u other (subst (λ (z : TreeMap). AreAlike (ExpandsTo expand) z u) (inside_some is) h) like)
  the_one None None h tree other is like = absurd (none_some is)
  the_one (Some t) None h tree other is like = absurd h
  the_one None (Some u) h tree other is like = absurd h

-- ---- the chosen event looks at no content

module _ (P : List ℕ → List ℕ → Type 0) (g : Numbered) (ls ms : List Local) where
  next_same : (n : ℕ) (xs ys : List WorkerStatus) → BothLists (AreAlikeWorkers P) xs ys → next_of (with_locals g ls) n xs ≡ next_of (with_locals g ms) n ys
  next_same n [] [] h = refl
  next_same n (Idle ∷ xs) (Idle ∷ ys) h = next_same (n + 1) xs ys h.1
  next_same n (Runs x ∷ xs) (Runs y ∷ ys) h = ap (λ (e : Event). Some e) (λ i.
      cond (is_some (h.0.fault i) || nat_le (length (program_at (slice_get g.vertices (h.0.vertex i))).steps) (h.0.done i)) (Settle n) (Step n))
  next_same n (Idle ∷ xs) (Runs y ∷ ys) h = absurd h.0
  next_same n (Runs x ∷ xs) (Idle ∷ ys) h = absurd h.0
  next_same n [] (y ∷ ys) h = absurd h
  next_same n (x ∷ xs) [] h = absurd h

  module _ (s t : State) (h : AreAlikeStates P s t) where
    status_at : (v : ℕ) → BothOptions (AreAlikeStatuses P) (slice_get s.statuses v) (slice_get t.statuses v)
    status_at v = both_get (AreAlikeStatuses P) s.statuses t.statuses v h.statuses

    inputs_at : (es : List Edge) → BothOptions (BothLists (AreAlike P)) (inputs_from (ending_at s.statuses) es) (inputs_from (ending_at t.statuses) es)
    inputs_at es = alike_inputs (AreAlike P) (ending_at s.statuses) (ending_at t.statuses) es (each_end es)
      where
        each_end : (ds : List Edge) → Each_of (λ (e : Edge). BothOptions (AreAlikeEndings P) (ending_at s.statuses e.vertex) (ending_at t.statuses e.vertex)) ds
        each_end [] = tt
        each_end (d ∷ ds) = (ended_both (AreAlike P) (slice_get s.statuses d.vertex) (slice_get t.statuses d.vertex) (status_at d.vertex), each_end ds)

    starts_same : (x : Vertex) (o p : Option (List TreeMap)) → BothOptions (BothLists (AreAlike P)) o p
        → is_some (option_map (start_with x) o) ≡ is_some (option_map (start_with x) p)
    starts_same x None None k = refl
    starts_same x (Some ts) (Some us) k = refl
    starts_same x None (Some us) k = absurd k
    starts_same x (Some ts) None k = absurd k

    ready_by : (o p : Option Status) → BothOptions (AreAlikeStatuses P) o p → (u : Option Vertex)
        → is_some (start_from s.statuses o u) ≡ is_some (start_from t.statuses p u)
    ready_by None None k u = refl
    ready_by (Some Waiting) (Some Waiting) k None = refl
    ready_by (Some Waiting) (Some Waiting) k (Some x) =
        starts_same x (inputs_from (ending_at s.statuses) x.inputs) (inputs_from (ending_at t.statuses) x.inputs) (inputs_at x.inputs)
    ready_by (Some (Running a)) (Some (Running b)) k u = refl
    ready_by (Some (Settled d)) (Some (Settled e)) k u = refl
    ready_by _ _ k u = absurd k

    ready_same : (v : ℕ) → is_ready (with_locals g ls) s.statuses v ≡ is_ready (with_locals g ms) t.statuses v
    ready_same v = ready_by (slice_get s.statuses v) (slice_get t.statuses v) (status_at v) (slice_get g.vertices v)

    pub chosen_same : chosen (with_locals g ls) s ≡ chosen (with_locals g ms) t
    chosen_same =
        let next = next_same 0 s.workers t.workers h.workers in
        λ i. or_else (next i) (option_map (λ (v : ℕ). Claim 0 v) (least (λ v. ready_same v i) 0 (length g.vertices)))

-- ---- a run on one thread

module _ (names : ℕ → List ℕ) (g : Numbered) (graph : IsGraph g) (ls ms : List Local)
    (flow : AreFlowing IsName g ls ms (OfVertex names g) (OfCaches names g) (Expands names g)) where
  abbrev StandBy : State → State → Type 0
  StandBy = Stands IsName (OfVertex names g) (OfCaches names g)

  abbrev Both : Answer → Answer → Type 0
  Both = Answers IsName a_name g graph ls ms (OfVertex names g) (OfCaches names g) (Expands names g) flow

  along : (s t : State) → StandBy s t → (es : List Event) → AreChosen (with_locals g ls) s es → AreChosen (with_locals g ms) t es
  along s t h [] led = tt
  along s t h (e ∷ es) led = (
    sym (chosen_same (Expands names g) g ls ms s t
        (state_wide IsName a_name g graph ls ms (OfVertex names g) (OfCaches names g) (Expands names g) flow s t h)) ∙ led.0,
    λ a given. by_answer (λ u z k c. along u z k es c) a (table (with_locals g ls) s e) refl
        (subst (λ (o : Option Answer). BothOptions Both (table (with_locals g ls) s e) o) given
        (table_both IsName a_name g graph ls ms (OfVertex names g) (OfCaches names g) (Expands names g) flow s t h e)),
  )
    where
      by_answer : ((u z : State) → StandBy u z → AreChosen (with_locals g ls) u es → AreChosen (with_locals g ms) z es) → (a : Answer) → (o : Option Answer)
          → table (with_locals g ls) s e ≡ o → BothOptions Both o (Some a) → AreChosen (with_locals g ms) a.0 es
      by_answer go a None is k = absurd k
      by_answer go a (Some z) is k = go z.0 a.0 k.0 (led.1 z is)

pub needs_no_caches : (g : Numbered) → NeedsNoCaches g
needs_no_caches g table ls ms sources values names =
    record {
      sources = sources;
      values = values;
      caches = none_alike (ExpandsTo (spelled table));
      literal = λ some. none_alike IsLiteral;
      local_names = names;
      cache_names = λ p t is. absurd (none_some (sym (nothing_in p) ∙ is));
    }

pub board_stands : (b : BoardValue) → IsGraph b.build.graph → Replays b → BoardStandsForContents b
board_stands b graph replays table ms t none tokens =
    by_run (run_from b.build.graph ms b.opening.workers t b.events) refl
    (subst (λ (o : Ran). BothOptions (AreAlikeRuns (ExpandsTo (spelled table)) b.build (with_locals b.build.graph ms)) o
    (run_from b.build.graph ms b.opening.workers t b.events)) replays.leads
    (hands_run_tokens_on b.build.graph graph table b.build.locals ms b.opening.workers b.opening.store t none tokens b.events))
  where
    by_run : (o : Ran) → run_from b.build.graph ms b.opening.workers t b.events ≡ o
        → BothOptions (AreAlikeRuns (ExpandsTo (spelled table)) b.build (with_locals b.build.graph ms)) (Some (b.state, replays.replies)) o
        → StandsForContents table b ms t
    by_run None is h = absurd h
    by_run (Some a) is h =
        let E = ExpandsTo (spelled table) in
        let v = b.build.graph.result.vertex in
        let ends = ended_both (AreAlike E) (slice_get b.state.statuses v) (slice_get a.0.statuses v)
        (both_get (AreAlikeStatuses E) b.state.statuses a.0.statuses v h.states.statuses) in
        let flow = tokens_flow table b.build.graph b.build.locals ms b.opening.store t none tokens in
        let said : replies_in b ≡ replays.replies = ap (λ (o : Ran). unwrap_or (option_map (λ (z : State × List Reply). z.1) o) []) replays.leads in
        record {
          state = a.0;
          replies = a.1;
          leads = is;
          alike = h.states;
          said = subst (λ (rs : List Reply). BothLists (AreAlikeReplies E) rs a.1) (sym said) h.replies;
          lines = print_alike E b.build.graph.vertices b.events (replies_in b) a.1
              (subst (λ (rs : List Reply). BothLists (AreAlikeReplies E) rs a.1) (sym said) h.replies);
          answers = h.answers;
          result = the_one (spelled table) (result_tree b.build.graph b.state) (result_tree b.build.graph a.0)
              (alike_output (AreAlike E) (ending_at b.state.statuses v) (ending_at a.0.statuses v) ends b.build.graph.result.index);
          caches = λ p. the_one (spelled table) (content b.state.store p) (content a.0.store p) (h.states.store p);
          complete = complete_same E b.build.graph b.build.locals ms b.state a.0 h.states.statuses;
          next = chosen_same E b.build.graph b.build.locals ms b.state a.0 h.states;
          alone = along table b.build.graph graph b.build.locals ms flow (opening b.build b.opening)
              (opening (with_locals b.build.graph ms) (record { workers = b.opening.workers; store = t }))
              (opening_both IsName a_name b.build.graph graph b.build.locals ms (OfVertex table b.build.graph) (OfCaches table b.build.graph) E flow
              b.opening.workers b.opening.store t (tokens_caches table b.build.graph b.build.locals ms b.opening.store t tokens)) b.events;
        }
