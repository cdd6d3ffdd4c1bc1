-- Reading the messages of a field one after the other, as a loop does.
use Rattle.std.proofs.Common.{◌≡◌, ℕ, ◌+◌, ◌≤◌, ◌<◌, Bool, true, false, cond, eqb, List, [], ◌∷◌, ◌++◌, length, get_or, drop, Result, Ok}
use Rattle.std.proofs.Common.{Err, refl, sym, ap, ◌∙◌, append_assoc}
use Rattle.std.proofs.lemmas.List.{append-nil, drop_more, drop_all}
use Rattle.llb_wire.specs.CallResults.{◌>>=◌, Fails}
use Rattle.llb_wire.specs.Records.{Record}
use Rattle.llb_ops.specs.declared.fault.OpFault.{OpFault}
use Rattle.llb_ops.specs.Faults.{is_memory}
use Rattle.llb_ops.specs.declared.records.Record.{Record as Held}
use Rattle.llb_ops.specs.Records.{view, views, all, each}

abbrev pub behind : {A : Type 0} → List A → Result (List A) OpFault → Result (List A) OpFault
behind front read = read >>= λ ms. Ok (front ++ ms)

-- the records of a field from a place on
abbrev pub field_from : ℕ → List Held → ℕ → List Record
field_from n rs i = all n (views (drop i rs))

pub field_step : (n : ℕ) (rs : List Held) (i : ℕ) (d : Held) (b : Bool) → i < length rs → eqb (get_or rs i d).number n ≡ b
    → field_from n rs i ≡ cond b (view (get_or rs i d) ∷ field_from n rs (i + 1)) (field_from n rs (i + 1))
field_step n rs i d true lt e = ap (λ xs. all n (views xs)) (drop_more rs i d lt) ∙ rw e refl
field_step n rs i d false lt e = ap (λ xs. all n (views xs)) (drop_more rs i d lt) ∙ rw e refl

regroup : {A : Type 0} (front : List A) (m : A) (read : Result (List A) OpFault) → behind front (read >>= λ ms. Ok (m ∷ ms)) ≡ behind (front ++ m ∷ []) read
regroup {A} front m (Ok ms) = ap (λ (x : List A). Ok x) (simp append_assoc)
regroup front m (Err f) = refl

first_is : {A : Type 0} (read : List ℕ → Result A OpFault) (n : ℕ) (rs : List Held) (i : ℕ) (d : Held) → i < length rs → eqb (get_or rs i d).number n ≡ true
    → each read (field_from n rs i) ≡ (read (get_or rs i d).payload.now >>= λ m. (each read (field_from n rs (i + 1)) >>= λ ms. Ok (m ∷ ms)))
unfolding each
first_is read n rs i d lt e = ap (each read) (field_step n rs i d true lt e)

-- where the record at hand is of the field and its message is read, this one goes after the others, and the total stays
pub goes_on : {A : Type 0} (read : List ℕ → Result A OpFault) (front new : List A) (n : ℕ) (rs : List Held) (i : ℕ) (d : Held) (m : A)
    (total : Result (List A) OpFault) → i < length rs → eqb (get_or rs i d).number n ≡ true → read (get_or rs i d).payload.now ≡ Ok m
    → new ≡ front ++ m ∷ [] → behind front (each read (field_from n rs i)) ≡ total → behind new (each read (field_from n rs (i + 1))) ≡ total
goes_on read front new n rs i d m total lt is got put so_far =
    let e : each read (field_from n rs i) ≡ (each read (field_from n rs (i + 1)) >>= λ ms. Ok (m ∷ ms)) = first_is read n rs i d lt is ∙ rw got refl in
    ap (λ xs. behind xs (each read (field_from n rs (i + 1)))) put ∙ sym (regroup front m (each read (field_from n rs (i + 1))))
    ∙ ap (behind front) (sym e) ∙ so_far

-- where the record at hand is of another field, the messages so far and the total stay
pub passes : {A : Type 0} (read : List ℕ → Result A OpFault) (front new : List A) (n : ℕ) (rs : List Held) (i : ℕ) (d : Held)
    (total : Result (List A) OpFault) → i < length rs → eqb (get_or rs i d).number n ≡ false
    → new ≡ front → behind front (each read (field_from n rs i)) ≡ total → behind new (each read (field_from n rs (i + 1))) ≡ total
passes read front new n rs i d total lt is same so_far =
    ap (λ xs. behind xs (each read (field_from n rs (i + 1)))) same ∙ ap (λ xs. behind front (each read xs)) (sym (field_step n rs i d false lt is)) ∙ so_far

err_goes : {A : Type 0} (read : List ℕ → Result A OpFault) (front : List A) (n : ℕ) (rs : List Held) (i : ℕ) (d : Held) (f : OpFault)
    (total : Result (List A) OpFault) → i < length rs → eqb (get_or rs i d).number n ≡ true → read (get_or rs i d).payload.now ≡ Err f
    → behind front (each read (field_from n rs i)) ≡ total → total ≡ Err f
err_goes read front n rs i d f total lt is got so_far =
    let e : each read (field_from n rs i) ≡ Err f = first_is read n rs i d lt is ∙ rw got refl in
    sym so_far ∙ ap (behind front) e

-- where the message of the record at hand is refused, so are all
pub ends : {A : Type 0} (read : List ℕ → Result A OpFault) (e : OpFault) (front : List A) (n : ℕ) (rs : List Held) (i : ℕ) (d : Held)
    (total : Result (List A) OpFault) → i < length rs → eqb (get_or rs i d).number n ≡ true → Fails is_memory e (read (get_or rs i d).payload.now)
    → behind front (each read (field_from n rs i)) ≡ total → Fails is_memory e total
ends read e front n rs i d total lt is got so_far = λ named. err_goes read front n rs i d e total lt is (got named) so_far

-- where no record is left, the messages so far are the total
pub is_done : {A : Type 0} (read : List ℕ → Result A OpFault) (front : List A) (n : ℕ) (rs : List Held) (i : ℕ)
    (total : Result (List A) OpFault) → length rs ≤ i → behind front (each read (field_from n rs i)) ≡ total → total ≡ Ok front
unfolding each
is_done {A} read front n rs i total le so_far =
    let e : drop i rs ≡ [] = drop_all i rs le in
    sym so_far ∙ ap (λ xs. behind front (each read (all n (views xs)))) e ∙ ap (λ (x : List A). Ok x) (append-nil front)
