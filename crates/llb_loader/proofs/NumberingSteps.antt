-- The turns of the numbering: what holds of the marks, of the ready rows and of the waiting ones.
use Rattle.std.proofs.Common.{◌≡◌, ◌≢◌, ℕ, zero, suc, ◌+◌, ◌<◌, ◌≤◌, Bool, true, false, cond, List, [], ◌∷◌, ◌++◌, ◌⊎◌, ◌↔◌, inl, inr}
use Rattle.std.proofs.Common.{length, take, get_or, set, refl, sym, ◌∙◌, ap, subst, eqb, replicate, arith}
use Rattle.std.proofs.lemmas.Bool.{cases_eq, cases_lt, cases_Bool, ne_eqb, eq-eqb}
use Rattle.std.proofs.lemmas.List.{get_or-set_same, get_or-set_other, length_push, get_or_default, take-append-le, take_at}
use Rattle.std.proofs.lemmas.List.{get_or_append_left, get_or_push, map-set, length-map}
use Rattle.std.proofs.lemmas.List.Elements.{Contains-append_left, Contains-push, Contains-push_cases, All-contains, All-weaker}
use Rattle.std.specs.List.{All, Contains}
use Rattle.llb_loader.specs.declared.numbering.Waiter.{Waiter}
use Rattle.llb_loader.specs.ReachedRows.{lists, inputs, HasEdge, Reached}
use Rattle.llb_loader.specs.Numbering.{IsReady, IsNext, GoesDown, HasCycle}
use Rattle.llb_loader.specs.WaitingRows.{IsMarked, IsChecked, GoesToReady, GoesToWaiting, IsPlacing}
use Rattle.llb_loader.proofs.ReachabilitySearch.{mark_stays, NoRow, reached_step, none_marked}
use Rattle.llb_loader.proofs.RowReadsAndMarks.{list_at, marked_below}
use Rattle.std.specs.Global.{Vec}

abbrev pub IsFresh : List Bool → ℕ → Type 0
IsFresh done k = get_or done k false ≡ false

pub not_both : (done : List Bool) (k : ℕ) → IsMarked done k → IsFresh done k → ⊥
not_both done k m f = let x : true ≡ false = sym m ∙ f in cc

-- a row that is about to be placed
pub record IsPending (g : List (List ℕ)) (start : ℕ) (done : List Bool) (w : Waiter) : Type 0 where
  pub reached : Reached g start w.row
  pub fresh : IsFresh done w.row
  pub checked : IsChecked g done w

-- a row that waits for its input b
pub record IsWaiting (g : List (List ℕ)) (start : ℕ) (done : List Bool) (b : ℕ) (w : Waiter) : Type 0 where
  pub pending : IsPending g start done w
  pub edge : HasEdge g w.row b
  pub blocked : IsFresh done b

-- a row that can be numbered: what `IsReady` says, but in terms of the marks (a reached row without a mark, all of whose inputs are marked)
pub record IsOpenRow (g : List (List ℕ)) (start : ℕ) (done : List Bool) (k : ℕ) : Type 0 where
  pub reached : Reached g start k
  pub fresh : IsFresh done k
  pub all : All (IsMarked done) (inputs g k)

abbrev pub Waits : List (List Waiter) → ℕ → Type 0
Waits ws k = (b : ℕ) × (w : Waiter) × Contains (get_or ws b []) w × (w.row ≡ k)

-- each reached row that is not numbered is ready, or waits, or is one of the P that are still to be placed
pub record IsPlaced (g : List (List ℕ)) (start : ℕ) (done : List Bool) (ready : ℕ → Bool) (ws : List (List Waiter)) (P : ℕ → Type 0) : Type 0 where
  pub sound : (k : ℕ) → ready k ≡ true → IsOpenRow g start done k
  pub waits : (b : ℕ) (w : Waiter) → Contains (get_or ws b []) w → IsWaiting g start done b w
  pub covers : (k : ℕ) → Reached g start k → IsFresh done k → (ready k ≡ true) ⊎ (P k ⊎ Waits ws k)

-- ---- sets, as tests

pub put_new : (t u : ℕ → Bool) (a : ℕ) → ((q : ℕ) → u q ≡ cond (eqb a q) true (t q)) → u a ≡ true
put_new t u a h = elim (cases_Bool (eqb a a)) [
  | inl e ↦ h a ∙ ap (λ b. cond b true (t a)) e
  | inr e ↦ absurd (let x : true ≡ false = sym (eq-eqb a a refl) ∙ e in cc)
]

pub put_old : (t u : ℕ → Bool) (a : ℕ) → ((q : ℕ) → u q ≡ cond (eqb a q) true (t q)) → (q : ℕ) → t q ≡ true → u q ≡ true
put_old t u a h q e = elim (cases_Bool (eqb a q)) [
  | inl x ↦ h q ∙ ap (λ b. cond b true (t q)) x
  | inr x ↦ h q ∙ ap (λ b. cond b true (t q)) x ∙ e
]

pub put_cases : (t u : ℕ → Bool) (a : ℕ) → ((q : ℕ) → u q ≡ cond (eqb a q) true (t q)) → (q : ℕ) → u q ≡ true → (t q ≡ true) ⊎ (q ≡ a)
put_cases t u a h q e = elim (cases_eq a q) [
  | inl x ↦ inr (sym x)
  | inr x ↦ inl (sym (h q ∙ ap (λ b. cond b true (t q)) (ne_eqb a q x)) ∙ e)
]

-- a test that excludes `a`, and is otherwise another test, agrees with this one on all rows but `a`
pub cut_other : (t u : ℕ → Bool) (a : ℕ) → ((q : ℕ) → u q ≡ cond (eqb a q) false (t q)) → (q : ℕ) → q ≢ a → u q ≡ t q
cut_other t u a h q n = h q ∙ ap (λ b. cond b false (t q)) (ne_eqb a q (λ e. n (sym e)))

pub cut_itself : (t u : ℕ → Bool) (a : ℕ) → ((q : ℕ) → u q ≡ cond (eqb a q) false (t q)) → u a ≡ false
cut_itself t u a h = h a ∙ ap (λ b. cond b false (t a)) (eq-eqb a a refl)

-- ---- a row is placed

pub IsChecked_stays : (g : List (List ℕ)) (done : List Bool) (w : Waiter) (k : ℕ) → k < length done → IsChecked g done w → IsChecked g (set done k true) w
IsChecked_stays g done w k h c = record { within = c.within; passed = λ i l. mark_stays done k (get_or (inputs g w.row) i 0) h (c.passed i l) }

pub place_ready : (g : List (List ℕ)) (start : ℕ) (done : List Bool) (w : Waiter) (r r' : ℕ → Bool) (ws ws' : List (List Waiter)) (P Q : ℕ → Type 0)
    → ((k : ℕ) → P k → Q k ⊎ (k ≡ w.row)) → IsPending g start done w → GoesToReady g done w r r' ws ws' → IsPlaced g start done r ws P
    → IsPlaced g start done r' ws' Q
place_ready g start done w r r' ws ws' P Q split p x s = record {
  sound = λ k m. elim (put_cases r r' w.row x.added k m) [
    | inl m' ↦ s.sound k m'
    | inr e ↦ rw e (record { reached = p.reached; fresh = p.fresh; all = x.all })
  ];
  waits = λ b v c. s.waits b v (subst (λ (l : List (List Waiter)). Contains (get_or l b []) v) x.same c);
  covers = λ k q f. elim (s.covers k q f) [
    | inl m ↦ inl (put_old r r' w.row x.added k m)
    | inr o ↦ elim o [
      | inl y ↦ elim (split k y) [ inl z ↦ inr (inl z) | inr e ↦ inl (rw e (put_new r r' w.row x.added)) ]
      | inr v ↦ inr (inr (rw x.same v))
    ]
  ];
}

pub place_waiting : (g : List (List ℕ)) (start : ℕ) (done : List Bool) (w : Waiter) (r r' : ℕ → Bool) (ws ws' : List (List Waiter)) (P Q : ℕ → Type 0)
    (b : ℕ) (next : Waiter)
    → ((k : ℕ) → P k → Q k ⊎ (k ≡ w.row)) → IsPending g start done w → GoesToWaiting g done w r r' ws ws' b next
    → IsPlaced g start done r ws P → IsPlaced g start done r' ws' Q
place_waiting g start done w r r' ws ws' P Q b next split p x s =
    let here : get_or ws' b [] ≡ get_or ws b [] ++ next ∷ [] = rw x.pushed (get_or-set_same ws b (get_or ws b [] ++ next ∷ []) [] x.below) in
    let there : (a : ℕ) → a ≢ b → get_or ws' a [] ≡ get_or ws a [] = λ a n. rw x.pushed (get_or-set_other ws b a (get_or ws b [] ++ next ∷ []) [] n) in
    let kept : (a : ℕ) (v : Waiter) → Contains (get_or ws a []) v → Contains (get_or ws' a []) v = λ a v c.
    elim (cases_eq a b) [
      | inl e ↦ rw e (rw here (Contains-append_left (get_or ws b []) (next ∷ []) v (subst (λ (n : ℕ). Contains (get_or ws n []) v) e c)))
      | inr n ↦ rw (there a n) c
    ] in
    let mine : IsWaiting g start done b next = record {
      pending = record { reached = rw x.row p.reached; fresh = rw x.row p.fresh; checked = x.checked };
      edge = rw x.row x.edge;
      blocked = x.open_input;
    } in
    record {
      sound = λ k m. s.sound k (sym (x.same k) ∙ m);
      waits = λ a v c. elim (cases_eq a b) [
        | inl e ↦ elim (Contains-push_cases (get_or ws b []) next v (rw here at (subst (λ (n : ℕ). Contains (get_or ws' n []) v) e c))) [
          | inl old ↦ rw e (s.waits b v old)
          | inr new ↦ rw e (subst (λ (u : Waiter). IsWaiting g start done b u) new mine)
        ]
        | inr n ↦ s.waits a v (rw (there a n) at c)
      ];
      covers = λ k q f. elim (s.covers k q f) [
        | inl m ↦ inl (x.same k ∙ m)
        | inr o ↦ elim o [
          | inl y ↦ elim (split k y) [
            | inl z ↦ inr (inl z)
            | inr e ↦ inr (inr (b, next, rw here (Contains-push (get_or ws b []) next), x.row ∙ sym e))
          ]
          | inr v ↦ inr (inr (v.0, v.1, kept v.0 v.1 v.2, v.3))
        ]
      ];
    }

-- once a row is placed, among the ready ones or those that wait, it is no longer one of those still to be placed
pub place_step : (g : List (List ℕ)) (start : ℕ) (done : List Bool) (w : Waiter) (r r' : ℕ → Bool) (ws ws' : List (List Waiter)) (P Q : ℕ → Type 0)
    → ((k : ℕ) → P k → Q k ⊎ (k ≡ w.row)) → IsPending g start done w → IsPlacing g done w r r' ws ws' → IsPlaced g start done r ws P
    → IsPlaced g start done r' ws' Q
place_step g start done w r r' ws ws' P Q split p x s = elim x [
  | inl y ↦ place_ready g start done w r r' ws ws' P Q split p y s
  | inr y ↦ place_waiting g start done w r r' ws ws' P Q y.0 y.1 split p y.2 s
]

-- the rows still to be placed may be described by any test that holds of each of them
pub placed_weaker : (g : List (List ℕ)) (start : ℕ) (done : List Bool) (r : ℕ → Bool) (ws : List (List Waiter)) (P Q : ℕ → Type 0)
    → ((k : ℕ) → Reached g start k → P k → Q k) → IsPlaced g start done r ws P → IsPlaced g start done r ws Q
placed_weaker g start done r ws P Q weaker s = record {
  sound = s.sound;
  waits = s.waits;
  covers = λ k q f. elim (s.covers k q f) [ inl m ↦ inl m | inr o ↦ elim o [ inl p ↦ inr (inl (weaker k q p)) | inr v ↦ inr (inr v) ] ];
}

-- ---- the least ready row is numbered

abbrev pub no_waiter : Waiter
no_waiter = record { row = 0; checked = 0 }

-- row q is one of the woken ones from the i-th on
abbrev pub WokenFrom : List Waiter → ℕ → ℕ → Type 0
WokenFrom woken i q = (j : ℕ) × (i ≤ j) × (j < length woken) × ((get_or woken j no_waiter).row ≡ q)

-- a woken row from i on is the one at i, or is among those after it
pub woken_step : (woken : List Waiter) (i : ℕ) (q : ℕ) → WokenFrom woken i q → WokenFrom woken (i + 1) q ⊎ (q ≡ (get_or woken i no_waiter).row)
woken_step woken i q v = elim (cases_eq v.0 i) [
  | inl x ↦ inr (sym v.3 ∙ ap (λ (n : ℕ). (get_or woken n no_waiter).row) x)
  | inr n ↦ (let l : i + 1 ≤ v.0 = (let a = v.1 in omega arith) in inl (v.0, l, v.2, v.3))
]

-- past the last woken row none is left
pub woken_end : (woken : List Waiter) (i : ℕ) → length woken ≤ i → (q : ℕ) → WokenFrom woken i q → ⊥
woken_end woken i h q v = (let a = v.1 in let b = v.2 in omega arith)

pub fresh_stays : (done : List Bool) (k q : ℕ) → q ≢ k → IsFresh done q → IsFresh (set done k true) q
fresh_stays done k q n f = get_or-set_other done k q true false n ∙ f

-- a row that waits for an input without a number is not row k, which is ready
pub waits_other : (g : List (List ℕ)) (start : ℕ) (done : List Bool) (k b : ℕ) (w : Waiter) → IsOpenRow g start done k → IsWaiting g start done b w → w.row ≢ k
waits_other g start done k b w o v e = not_both done b (All-contains (IsMarked done) (inputs g k) b o.all (rw (← e) v.edge)) v.blocked

pub pending_stays : (g : List (List ℕ)) (start : ℕ) (done : List Bool) (k : ℕ) (w : Waiter) → k < length done → w.row ≢ k
    → IsPending g start done w → IsPending g start (set done k true) w
pending_stays g start done k w h n p = record {
  reached = p.reached;
  fresh = fresh_stays done k w.row n p.fresh;
  checked = IsChecked_stays g done w k h p.checked;
}

pub turn_woken : (g : List (List ℕ)) (start : ℕ) (done : List Bool) (r : ℕ → Bool) (ws : List (List Waiter)) (k : ℕ)
    → k < length done → r k ≡ true → IsPlaced g start done r ws NoRow → (w : Waiter) → Contains (get_or ws k []) w → IsPending g start (set done k true) w
turn_woken g start done r ws k h m s w c =
    let v = s.waits k w c in
    pending_stays g start done k w h (waits_other g start done k k w (s.sound k m) v) v.pending

turn_from : (ws : List (List Waiter)) (k q b : ℕ) (w : Waiter) → b ≡ k → Contains (get_or ws b []) w → w.row ≡ q → WokenFrom (get_or ws k []) 0 q
turn_from ws k q b w e c r =
    let d = subst (λ (n : ℕ). Contains (get_or ws n []) w) e c in
    (d.0, omega arith, d.1, ap (λ (u : Waiter). u.row) (get_or_default (get_or ws k []) d.0 no_waiter w d.1 ∙ d.2) ∙ r)

pub turn_step : (g : List (List ℕ)) (start : ℕ) (done : List Bool) (r r' : ℕ → Bool) (ws : List (List Waiter)) (k : ℕ)
    → k < length done → k < length ws → r k ≡ true → ((q : ℕ) → r' q ≡ cond (eqb k q) false (r q)) → IsPlaced g start done r ws NoRow
    → IsPlaced g start (set done k true) r' (set ws k []) (WokenFrom (get_or ws k []) 0)
turn_step g start done r r' ws k h hw m cut s =
    let o = s.sound k m in
    let marks : IsMarked (set done k true) k = get_or-set_same done k true false h in
    record {
      sound = λ q mq. elim (cases_eq q k) [
        | inl e ↦ absurd (let z = cut_itself r r' k cut in let y : r' k ≡ true = rw (← e) mq in let x : true ≡ false = sym y ∙ z in cc)
        | inr n ↦ (let p = s.sound q (sym (cut_other r r' k cut q n) ∙ mq) in
            record {
              reached = p.reached;
              fresh = fresh_stays done k q n p.fresh;
              all = All-weaker (IsMarked done) (IsMarked (set done k true)) (λ i. mark_stays done k i h) (inputs g q) p.all;
            })
      ];
      waits = λ b w c. elim (cases_eq b k) [
        | inl e ↦ absurd (let d : Contains [] w = rw get_or-set_same at (subst (λ (n : ℕ). Contains (get_or (set ws k []) n []) w) e c) in omega (arith, d.1))
        | inr n ↦ (let v = s.waits b w (subst (λ (l : List Waiter). Contains l w) (get_or-set_other ws k b [] [] n) c) in
            record {
              pending = pending_stays g start done k w h (waits_other g start done k b w o v) v.pending;
              edge = v.edge;
              blocked = fresh_stays done k b n v.blocked;
            })
      ];
      covers = λ q t f. elim (cases_eq q k) [
        | inl e ↦ absurd (not_both (set done k true) k marks (subst (λ (n : ℕ). IsFresh (set done k true) n) e f))
        | inr n ↦ elim (s.covers q t (sym (get_or-set_other done k q true false n) ∙ f)) [
          | inl mq ↦ inl (cut_other r r' k cut q n ∙ mq)
          | inr v ↦ elim v [
            | inl p ↦ absurd p
            | inr u ↦ elim (cases_eq u.0 k) [
              | inl e ↦ inr (inl (turn_from ws k q u.0 u.1 e u.2 u.3))
              | inr ne ↦ inr (inr (u.0, u.1, subst (λ (l : List Waiter). Contains l u.1) (sym (get_or-set_other ws k u.0 [] [] ne)) u.2, u.3))
            ]
          ]
        ]
      ];
    }

-- ---- the order

-- the order has the marked rows, each in its turn
pub record IsOrder (g : List (List ℕ)) (start : ℕ) (done : List Bool) (order : List ℕ) : Type 0 where
  pub has : (k : ℕ) → IsMarked done k → Contains order k
  pub only : (k : ℕ) → Contains order k → IsMarked done k
  pub each : (i : ℕ) → i < length order → IsNext g start (take i order) (get_or order i 0)

pub next_least : (g : List (List ℕ)) (start : ℕ) (done : List Bool) (order : List ℕ) (r : ℕ → Bool) (ws : List (List Waiter)) (k j : ℕ)
    → ((q : ℕ) → r q ≡ true → k ≤ q) → IsPlaced g start done r ws NoRow → IsOrder g start done order → IsReady g start order j → k ≤ j
next_least g start done order r ws k j least s o x =
    let f : IsFresh done j = elim (cases_Bool (get_or done j false)) [ inl m ↦ absurd (x.fresh (o.has j m)) | inr f ↦ f ] in
    elim (s.covers j x.reached f) [
      | inl m ↦ least j m
      | inr v ↦ elim v [
        | inl p ↦ absurd p
        | inr u ↦ (let y = s.waits u.0 u.1 u.2 in
            absurd (not_both done u.0
            (o.only u.0 (All-contains (Contains order) (inputs g j) u.0 x.inputs_done (subst (λ (n : ℕ). HasEdge g n u.0) u.3 y.edge))) y.blocked))
      ]
    ]

-- the least ready row comes next in the order, and is marked
pub order_step : (g : List (List ℕ)) (start : ℕ) (done : List Bool) (order : List ℕ) (r : ℕ → Bool) (ws : List (List Waiter)) (k : ℕ)
    → k < length done → r k ≡ true → ((q : ℕ) → r q ≡ true → k ≤ q) → IsPlaced g start done r ws NoRow → IsOrder g start done order
    → IsOrder g start (set done k true) (order ++ k ∷ [])
order_step g start done order r ws k h m least s o =
    let x = s.sound k m in
    let turn : IsNext g start order k = record {
      ready = record {
        reached = x.reached;
        fresh = λ c. not_both done k (o.only k c) x.fresh;
        inputs_done = All-weaker (IsMarked done) (Contains order) o.has (inputs g k) x.all;
      };
      least = λ j. next_least g start done order r ws k j least s o;
    } in
    record {
      has = λ q mq. elim (cases_eq q k) [
        | inl e ↦ rw e (Contains-push order k)
        | inr n ↦ Contains-append_left order (k ∷ []) q (o.has q (sym (get_or-set_other done k q true false n) ∙ mq))
      ];
      only = λ q c. elim (Contains-push_cases order k q c) [
        | inl d ↦ mark_stays done k q h (o.only q d)
        | inr e ↦ rw (← e) (get_or-set_same done k true false h)
      ];
      each = λ i l. elim (cases_lt i (length order)) [
        | inl a ↦ (let b : i ≤ length order = omega arith in
            rw (take-append-le i order (k ∷ []) b, get_or_append_left order (k ∷ []) 0 i a) (o.each i a))
        | inr a ↦ (let e : length order ≡ i = (let p = length_push order k in omega (arith, p)) in
            rw (take_at order (k ∷ []) i e, get_or_push order k 0 i e) turn)
      ];
    }

-- ---- where nothing is ready

-- a row that is not numbered names another row that is not numbered
pub goes_on : (g : List (List ℕ)) (start : ℕ) (done : List Bool) (r : ℕ → Bool) (ws : List (List Waiter)) (k : ℕ)
    → ((q : ℕ) → r q ≡ false) → IsPlaced g start done r ws NoRow → Reached g start k → IsFresh done k → (b : ℕ) × HasEdge g k b × IsFresh done b
goes_on g start done r ws k none s t f = elim (s.covers k t f) [
  | inl m ↦ absurd (let n = none k in let x : true ≡ false = sym m ∙ n in cc)
  | inr v ↦ elim v [
    | inl p ↦ absurd p
    | inr u ↦ (let y = s.waits u.0 u.1 u.2 in (u.0, subst (λ (n : ℕ). HasEdge g n u.0) u.3 y.edge, y.blocked))
  ]
]

-- so if each edge goes down in rank, ranks would fall for ever, which is impossible
pub falls_for_ever : (g : List (List ℕ)) (start : ℕ) (done : List Bool) (rank : ℕ → ℕ) → GoesDown g start rank
    → ((k : ℕ) → Reached g start k → IsFresh done k → (b : ℕ) × HasEdge g k b × IsFresh done b)
    → (bound k : ℕ) → rank k < bound → Reached g start k → IsFresh done k → ⊥
falls_for_ever g start done rank down on zero k h t f = omega arith
falls_for_ever g start done rank down on (suc bound) k h t f =
    let n = on k t f in
    let l = down k n.0 t n.1 in
    falls_for_ever g start done rank down on bound n.0 (omega (arith, l, h)) (reached_step g start k n.0 t n.1) n.2

-- if no row is ready and a reached row has no number, each such row names another one, so there is a cycle
pub cycle_from_stuck : (g : List (List ℕ)) (start : ℕ) (done : List Bool) (r : ℕ → Bool) (ws : List (List Waiter)) (k : ℕ)
    → ((q : ℕ) → r q ≡ false) → IsPlaced g start done r ws NoRow → Reached g start k → IsFresh done k → HasCycle g start
cycle_from_stuck g start done r ws k none s t f rank down =
    falls_for_ever g start done rank down (λ q. goes_on g start done r ws q none s) (rank k + 1) k (omega arith) t f

-- ---- the code's steps

-- at first no row is marked
pub fresh_all : (n k : ℕ) → IsFresh (replicate n false) k
fresh_all n k = elim (cases_Bool (get_or (replicate n false) k false)) [ inl m ↦ absurd (none_marked n k m) | inr f ↦ f ]

-- at first nothing is marked, and the order is empty
pub order_start : (g : List (List ℕ)) (start n : ℕ) → IsOrder g start (replicate n false) []
order_start g start n = record {
  has = λ k m. absurd (none_marked n k m);
  only = λ k c. absurd (omega (arith, c.1));
  each = λ i h. absurd (omega arith);
}

-- the row is numbered: the list of the rows that wait for it is taken, and an empty one is put in its place
pub turn_taken : (g : List (List ℕ)) (start : ℕ) (done : List Bool) (r r' : ℕ → Bool) (items : List (Vec Waiter)) (k : ℕ) (old next : Vec Waiter)
    → k < length done → k < length items → r k ≡ true → ((q : ℕ) → r' q ≡ cond (eqb k q) false (r q)) → old ≡ get_or items k old → next.items ≡ []
    → IsPlaced g start done r (lists items) NoRow
    → IsPlaced g start (set done k true) r' (lists (set items k next)) (WokenFrom old.items 0)
turn_taken g start done r r' items k old next h hw m cut is nothing s =
    let at : get_or (lists items) k [] ≡ old.items = list_at items k old hw is in
    let e : lists (set items k next) ≡ set (lists items) k [] = map-set (λ (v : Vec Waiter). v.items) items k next
    ∙ ap (λ (xs : List Waiter). set (lists items) k xs) nothing in
    let l : k < length (lists items) = (let z = length-map items (λ (v : Vec Waiter). v.items) in omega (arith, z, hw)) in
    let t = turn_step g start done r r' (lists items) k h l m cut s in
    let u = subst (λ (xs : List Waiter). IsPlaced g start (set done k true) r' (set (lists items) k []) (WokenFrom xs 0)) at t in
    subst (λ (ws : List (List Waiter)). IsPlaced g start (set done k true) r' ws (WokenFrom old.items 0)) (sym e) u

-- a row that waited for the one that now has a number is to be placed again
pub taken_pending : (g : List (List ℕ)) (start : ℕ) (done : List Bool) (r : ℕ → Bool) (items : List (Vec Waiter)) (k : ℕ) (old : Vec Waiter)
    → k < length done → k < length items → r k ≡ true → old ≡ get_or items k old
    → IsPlaced g start done r (lists items) NoRow → (w : Waiter) → Contains old.items w → IsPending g start (set done k true) w
taken_pending g start done r items k old h hw m is s w c =
    turn_woken g start done r (lists items) k h m s w (subst (λ (xs : List Waiter). Contains xs w) (sym (list_at items k old hw is)) c)

-- a reached row is one of the rows
pub reached_below : (g : List (List ℕ)) (start n : ℕ) (seen : List Bool) → ((k : ℕ) → (get_or seen k false ≡ true) ↔ Reached g start k)
    → length seen ≡ n → (k : ℕ) → Reached g start k → k < n
reached_below g start n seen exact l k t = let h = marked_below seen k ((exact k).1 t) in omega (arith, h, l)

-- a row at or after `row` is after it, or is `row` itself
pub looked_placed : (k row : ℕ) → row ≤ k → (row + 1 ≤ k) ⊎ (k ≡ row)
looked_placed k row h = elim (cases_eq k row) [ inl e ↦ inr e | inr n ↦ inl (omega arith) ]

-- a row without a mark is not reached, so a reached row at or after it comes after it
pub looked_past : (g : List (List ℕ)) (start : ℕ) (seen : List Bool) → ((k : ℕ) → (get_or seen k false ≡ true) ↔ Reached g start k)
    → (row : ℕ) → IsFresh seen row
    → (k : ℕ) → Reached g start k → row ≤ k → row + 1 ≤ k
looked_past g start seen exact row f k t h = elim (cases_eq k row) [
  | inl e ↦ absurd (not_both seen row (subst (IsMarked seen) e ((exact k).1 t)) f)
  | inr n ↦ omega arith
]
