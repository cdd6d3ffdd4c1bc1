-- What is taken of a list of records after one more record.
use Rattle.std.proofs.Common.{◌≡◌, ℕ, ◌+◌, ◌<◌, Bool, true, false, cond, eqb, List, [], ◌∷◌, ◌++◌, length, take, get_or, refl, sym, ap, ◌∙◌}
use Rattle.std.specs.Prelude.{filter, is_none}
use Rattle.std.proofs.lemmas.List.{append-nil, map_push}
use Rattle.std.proofs.lemmas.List.Elements.{filter-append}
use Rattle.std.proofs.lemmas.List.Concat.{flat_map-append}
use Rattle.llb_wire.specs.Records.{Record}
use Rattle.llb_ops.specs.declared.records.Record.{Record as Held}
use Rattle.llb_ops.specs.Records.{Shape, form_of, view, views, all, joined, payloads, unnamed}
use Rattle.llb_ops.proofs.OneofMembers.{views_more}

joined_push : (n : ℕ) (rs : List Record) (r : Record) (b : Bool) → eqb r.number n ≡ b
    → joined (all n (rs ++ r ∷ [])) ≡ cond b (joined (all n rs) ++ r.payload) (joined (all n rs))
joined_push n rs r true e = rw (filter-append, e) (flat_map-append (λ x. x.payload) (all n rs) (r ∷ [])
    ∙ ap (λ xs. joined (all n rs) ++ xs) (append-nil r.payload))
joined_push n rs r false e = rw (filter-append, e, append-nil) refl

payloads_push : (n : ℕ) (rs : List Record) (r : Record) (b : Bool) → eqb r.number n ≡ b
    → payloads (all n (rs ++ r ∷ [])) ≡ cond b (payloads (all n rs) ++ r.payload ∷ []) (payloads (all n rs))
payloads_push n rs r true e = rw (filter-append, e) (map_push (λ x. x.payload) (all n rs) r)
payloads_push n rs r false e = rw (filter-append, e, append-nil) refl

unnamed_push : (shape : Shape) (rs : List Record) (r : Record) (b : Bool) → is_none (form_of shape r.number) ≡ b
    → unnamed shape (rs ++ r ∷ []) ≡ cond b (unnamed shape rs ++ r.text) (unnamed shape rs)
unnamed_push shape rs r true e =
    let others = filter (λ (x : Record). is_none (form_of shape x.number)) rs in
    rw (filter-append, e) (flat_map-append (λ x. x.text) others (r ∷ []) ∙ ap (λ xs. unnamed shape rs ++ xs) (append-nil r.text))
unnamed_push shape rs r false e = rw (filter-append, e, append-nil) refl

-- ---- as a loop goes on

-- with one record more, the payload goes after those so far if it is of the field, and they are still that field's in one
pub joined_more : (n : ℕ) (rs : List Held) (i : ℕ) (d : Held) (b : Bool) (before out : List ℕ) → i < length rs
    → eqb (get_or rs i d).number n ≡ b → before ≡ joined (all n (views (take i rs)))
    → out ≡ cond b (before ++ (get_or rs i d).payload.now) before → out ≡ joined (all n (views (take (i + 1) rs)))
joined_more n rs i d b before out lt is so_far new =
    new ∙ ap (λ (xs : List ℕ). cond b (xs ++ (get_or rs i d).payload.now) xs) so_far
    ∙ sym (joined_push n (views (take i rs)) (view (get_or rs i d)) b is) ∙ ap (λ (xs : List Record). joined (all n xs)) (sym (views_more rs i d lt))

-- with one record more, the payload goes after those so far if it is of the field, and they are still that field's, each by itself
pub payloads_more : (n : ℕ) (rs : List Held) (i : ℕ) (d : Held) (b : Bool) (before out : List (List ℕ)) → i < length rs
    → eqb (get_or rs i d).number n ≡ b → before ≡ payloads (all n (views (take i rs)))
    → out ≡ cond b (before ++ (get_or rs i d).payload.now ∷ []) before → out ≡ payloads (all n (views (take (i + 1) rs)))
payloads_more n rs i d b before out lt is so_far new =
    new ∙ ap (λ (xs : List (List ℕ)). cond b (xs ++ (get_or rs i d).payload.now ∷ []) xs) so_far
    ∙ sym (payloads_push n (views (take i rs)) (view (get_or rs i d)) b is)
    ∙ ap (λ (xs : List Record). payloads (all n xs)) (sym (views_more rs i d lt))

-- with one record more, its bytes go after those so far if the message does not name it, and they are still all such bytes
pub unnamed_more : (shape : Shape) (rs : List Held) (i : ℕ) (d : Held) (b : Bool) (before out : List ℕ) → i < length rs
    → is_none (form_of shape (get_or rs i d).number) ≡ b → before ≡ unnamed shape (views (take i rs))
    → out ≡ cond b (before ++ (get_or rs i d).text.now) before → out ≡ unnamed shape (views (take (i + 1) rs))
unnamed_more shape rs i d b before out lt is so_far new =
    new ∙ ap (λ (xs : List ℕ). cond b (xs ++ (get_or rs i d).text.now) xs) so_far
    ∙ sym (unnamed_push shape (views (take i rs)) (view (get_or rs i d)) b is) ∙ ap (unnamed shape) (sym (views_more rs i d lt))
