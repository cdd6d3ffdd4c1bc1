-- A oneof is read again of what is written.
use Rattle.std.proofs.Common.{◌≡◌, ℕ, Bool, true, false, cond, List, [], ◌∷◌, ◌++◌, Option, Some, None, refl, sym, ap, subst, ◌∙◌, Result, Ok}
use Rattle.std.specs.Prelude.{filter, fold, option_map, ◌&&◌, not}
use Rattle.std.specs.List.{AllByRecursion}
use Rattle.std.specs.Bool.{◌==◌}
use Rattle.std.proofs.lemmas.Bool.{eqb-true}
use Rattle.std.proofs.lemmas.List.{append-nil}
use Rattle.std.proofs.lemmas.List.Elements.{filter-append}
use Rattle.llb_wire.specs.CallResults.{◌>>=◌}
use Rattle.llb_wire.proofs.RuleComposition.{bind_ok}
use Rattle.llb_wire.specs.Records.{Record}
use Rattle.llb_ops.specs.declared.fault.OpFault.{OpFault}
use Rattle.llb_ops.specs.Records.{Shape, all, last_of, is_member, chosen, kept, since, is_other, member, member_of, one_of}
use Rattle.llb_ops.specs.Writing.{one_of_field}
use Rattle.llb_ops.proofs.RecordRoundTrip.{spelled}
use Rattle.llb_ops.proofs.TextValidity.{last_more}
use Rattle.llb_ops.proofs.RecordsByFieldNumber.{All-append, All-filter, filter_passes, filter_narrow, mine, has}
use Rattle.llb_ops.proofs.FieldRoundTrip.{IsGood, IsShort, IsWritten, FieldOf, ok_of}

kept_all : (P : Record → Type 0) (rs : List Record) (r : Record) (b : Bool) → AllByRecursion P rs → P r → AllByRecursion P (cond b [] (rs ++ r ∷ []))
kept_all P rs r true h k = tt
kept_all P rs r false h k = All-append P rs (r ∷ []) h (k, tt)

since_all : (P : Record → Type 0) (p : Record → Bool) (so_far rs : List Record) → AllByRecursion P so_far → AllByRecursion P rs
    → AllByRecursion P (fold (kept p) so_far rs)
since_all P p so_far [] h k = h
since_all P p so_far (r ∷ rs) h k = since_all P p (kept p so_far r) rs (kept_all P so_far r (p r) h k.0) k.1

-- picking by q after a step of `kept` is the step on the picked records, or no step for a record that q does not pick; q picks all that clear
kept_mine : (p q : Record → Bool) (so_far : List Record) (r : Record) (a b : Bool) → p r ≡ a → q r ≡ b → (p r ≡ true → q r ≡ true)
    → filter q (kept p so_far r) ≡ cond b (kept p (filter q so_far) r) (filter q so_far)
kept_mine p q so_far r true true e f wider = rw e refl
kept_mine p q so_far r true false e f wider = absurd (let g = wider e in cc)
kept_mine p q so_far r false true e f wider = rw (e, filter-append, f) refl
kept_mine p q so_far r false false e f wider = rw (e, filter-append, f) (append-nil (filter q so_far))

since_step : (p q : Record → Bool) (so_far : List Record) (r : Record) (rs : List Record) (b : Bool) → q r ≡ b
    → fold (kept p) (cond b (kept p so_far r) so_far) (filter q rs) ≡ fold (kept p) so_far (filter q (r ∷ rs))
since_step p q so_far r rs true f = rw f refl
since_step p q so_far r rs false f = rw f refl

since_mine : (p q : Record → Bool) (so_far rs : List Record) → ((r : Record) → p r ≡ true → q r ≡ true)
    → filter q (fold (kept p) so_far rs) ≡ fold (kept p) (filter q so_far) (filter q rs)
since_mine p q so_far [] wider = refl
since_mine p q so_far (r ∷ rs) wider =
    since_mine p q (kept p so_far r) rs wider
    ∙ ap (λ xs. fold (kept p) xs (filter q rs)) (kept_mine p q so_far r (p r) (q r) refl refl (wider r))
    ∙ since_step p q (filter q so_far) r rs (q r) refl

and_left : (a b : Bool) → a && b ≡ true → a ≡ true
and_left true b e = refl
and_left false b e = absurd cc

member_mine : (ns : List ℕ) (n : ℕ) (rs : List Record) → has ns n ≡ true → member ns n (mine ns rs) ≡ member ns n rs
member_mine ns n rs h =
    ap (all n) (sym (since_mine (is_other ns n) (is_member ns) [] rs (λ r e. and_left (is_member ns r) (not (r.number == n)) e)))
    ∙ filter_narrow (λ r. r.number == n) (is_member ns) (since (is_other ns n) rs) (λ r e. subst (λ (k : ℕ). has ns k ≡ true) (sym (eqb-true r.number n e)) h)

abbrev some_of : ℕ → Option ℕ
some_of n = Some n

some_is : (m n : ℕ) → some_of m ≡ some_of n → m ≡ n
some_is m n e = cc

last_has : (ns : List ℕ) (xs : List Record) (n : ℕ) → AllByRecursion (λ r. is_member ns r ≡ true) xs
    → option_map (λ r. r.number) (last_of xs) ≡ some_of n → has ns n ≡ true
last_has ns [] n h e = absurd cc
last_has ns (r ∷ []) n h e = subst (λ (k : ℕ). has ns k ≡ true) (some_is r.number n e) h.0
last_has ns (r ∷ s ∷ xs) n h e = last_has ns (s ∷ xs) n h.1 (ap (option_map (λ x. x.number)) (sym (last_more r s xs)) ∙ e)

chosen_mine : (ns : List ℕ) (rs : List Record) → chosen ns (mine ns rs) ≡ chosen ns rs
chosen_mine ns rs = ap (λ xs. option_map (λ r. r.number) (last_of xs)) (filter_narrow (is_member ns) (is_member ns) rs (λ r e. e))

of_mine : {A : Type 0} (ns : List ℕ) (read : ℕ → List Record → Result A OpFault) (rs : List Record) (o : Option ℕ) → chosen ns rs ≡ o
    → member_of ns read o (mine ns rs) ≡ member_of ns read o rs
of_mine ns read rs None e = refl
of_mine ns read rs (Some n) e = ap (λ xs. read n xs >>= λ a. Ok (Some a)) (member_mine ns n rs (last_has ns (mine ns rs) n (filter_passes (is_member ns) rs) e))

pub one_of_mine : {A : Type 0} (ns : List ℕ) (read : ℕ → List Record → Result A OpFault) (rs : List Record) → one_of ns read (mine ns rs) ≡ one_of ns read rs
one_of_mine ns read rs = ap (λ o. member_of ns read o (mine ns rs)) (chosen_mine ns rs) ∙ of_mine ns read rs (chosen ns rs) refl

-- where a member is set, it was read of good records
pub member_from : {A : Type 0} (shape : Shape) (ns : List ℕ) (read : ℕ → List Record → Result A OpFault) (rs : List Record) (a : A)
    (o : Option ℕ) → AllByRecursion (IsGood shape) rs → member_of ns read o rs ≡ Ok (Some a)
    → (n : ℕ) × (xs : List Record) × AllByRecursion (IsGood shape) xs × (read n xs ≡ Ok a)
member_from shape ns read rs a None good e = absurd (nothing e) where
  nothing : {A : Type 0} {a : A} → ok_of {A = Option A} None ≡ ok_of (Some a) → ⊥
  nothing e = cc
member_from shape ns read rs a (Some n) good e =
    let b = bind_ok (read n (member ns n rs)) (λ a. Ok (Some a)) (Some a) e in (
      n,
      member ns n rs,
      All-filter (IsGood shape) (λ r. r.number == n) (since (is_other ns n) rs)
          (since_all (IsGood shape) (is_other ns n) [] rs tt good),
      b.1 ∙ ap (λ x. Ok x) (same b.0 a b.2),
    ) where
      same : {A : Type 0} (x y : A) → ok_of {A = Option A} (Some x) ≡ ok_of (Some y) → x ≡ y
      same x y e = cc

abbrev pub a_member : {A : Type 0} → (A → Record) → Option A → List Record
a_member write None = []
a_member write (Some a) = write a ∷ []

-- the members of the numbers `ns`, each written as one record
abbrev pub choice : {shape : Shape} {M A : Type 0} (ns : List ℕ) (read : ℕ → List Record → Result A OpFault) (write : A → Record) (bytes : A → List ℕ)
    → ((a : A) → (write a).text ≡ bytes a)
    → ((a : A) → is_member ns (write a) ≡ true)
    → ((n : ℕ) (xs : List Record) (a : A) → AllByRecursion (IsGood shape) xs → read n xs ≡ Ok a → IsWritten shape (write a))
    → ((n : ℕ) (xs : List Record) (a : A) → AllByRecursion (IsGood shape) xs → read n xs ≡ Ok a → IsShort (write a)
    → one_of ns read (write a ∷ []) ≡ Ok (Some a))
    → FieldOf shape M (Option A)
choice {shape} {M} {A} ns read write bytes text own written again = record {
  ns = ns;
  read = one_of ns read;
  run = λ rs k. one_of ns read rs >>= k;
  runs = λ rs k. refl;
  within = λ rs. true;
  write = a_member write;
  bytes = λ before o. before ++ one_of_field bytes o;
  spells = λ before o. ap (λ xs. before ++ xs) (spelled_member write bytes text o);
  own = λ o. own_member ns write own o;
  local = one_of_mine ns read;
  local_within = λ rs. refl;
  written = written_member shape ns read write written;
  again = again_member shape ns read write again;
  limit = λ rs o good e w. refl;
} where
  spelled_member : {A : Type 0} (write : A → Record) (bytes : A → List ℕ) → ((a : A) → (write a).text ≡ bytes a) → (o : Option A)
      → spelled (a_member write o) ≡ one_of_field bytes o
  spelled_member write bytes text None = refl
  spelled_member write bytes text (Some a) = append-nil (write a).text ∙ text a

  own_member : {A : Type 0} (ns : List ℕ) (write : A → Record) → ((a : A) → is_member ns (write a) ≡ true) → (o : Option A)
      → AllByRecursion (λ r. is_member ns r ≡ true) (a_member write o)
  own_member ns write own None = tt
  own_member ns write own (Some a) = (own a, tt)

  written_member : {A : Type 0} (shape : Shape) (ns : List ℕ) (read : ℕ → List Record → Result A OpFault) (write : A → Record)
      → ((n : ℕ) (xs : List Record) (a : A) → AllByRecursion (IsGood shape) xs → read n xs ≡ Ok a → IsWritten shape (write a))
      → (rs : List Record) (o : Option A) → AllByRecursion (IsGood shape) rs → one_of ns read rs ≡ Ok o
      → AllByRecursion (IsWritten shape) (a_member write o)
  written_member shape ns read write written rs None good e = tt
  written_member shape ns read write written rs (Some a) good e =
      let f = member_from shape ns read rs a (chosen ns rs) good e in (written f.0 f.1 a f.2 f.3, tt)

  again_member : {A : Type 0} (shape : Shape) (ns : List ℕ) (read : ℕ → List Record → Result A OpFault) (write : A → Record)
      → ((n : ℕ) (xs : List Record) (a : A) → AllByRecursion (IsGood shape) xs → read n xs ≡ Ok a → IsShort (write a)
      → one_of ns read (write a ∷ []) ≡ Ok (Some a)) → (rs : List Record) (o : Option A) → AllByRecursion (IsGood shape) rs
      → one_of ns read rs ≡ Ok o → AllByRecursion IsShort (a_member write o) → one_of ns read (a_member write o) ≡ Ok o
  again_member shape ns read write again rs None good e short = refl
  again_member shape ns read write again rs (Some a) good e short =
      let f = member_from shape ns read rs a (chosen ns rs) good e in again f.0 f.1 a f.2 f.3 short.0
