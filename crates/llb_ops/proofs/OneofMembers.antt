-- The last record of a oneof, and the records after the last of another member.
use Rattle.std.proofs.Common.{◌≡◌, ℕ, zero, suc, ◌+◌, ◌-◌, ◌≤◌, ◌<◌, Bool, true, false, cond, eqb, List, [], ◌∷◌, ◌++◌, length, take, drop}
use Rattle.std.proofs.Common.{get_or, Some, refl, sym, ap, ◌∙◌, arith}
use Rattle.std.specs.Prelude.{filter, slice_get, option_map, fold}
use Rattle.std.proofs.lemmas.List.{append-nil, take_more, map_push, length-append, length-take, length-map, drop_all}
use Rattle.std.proofs.lemmas.List.Elements.{filter-append}
use Rattle.llb_wire.specs.Records.{Record}
use Rattle.llb_ops.specs.declared.records.Record.{Record as Held}
use Rattle.llb_ops.specs.Records.{view, views, all, last_of, is_member, chosen, since, kept}

get_seam : (rs : List Record) (r : Record) → slice_get (rs ++ r ∷ []) (length rs) ≡ Some r
get_seam [] r = refl
get_seam (x ∷ rs) r = get_seam rs r

pub last_push : (rs : List Record) (r : Record) → last_of (rs ++ r ∷ []) ≡ Some r
last_push rs r =
    let e : length (rs ++ r ∷ []) - 1 ≡ length rs = omega (arith, length-append rs (r ∷ [])) in
    ap (slice_get (rs ++ r ∷ [])) e ∙ get_seam rs r

-- after one record more, the last one of a field is that one if it is of the field, and else as before
pub last_all_push : (n : ℕ) (rs : List Record) (r : Record) (b : Bool) → eqb r.number n ≡ b
    → last_of (all n (rs ++ r ∷ [])) ≡ cond b (Some r) (last_of (all n rs))
last_all_push n rs r true e = rw (filter-append, e) (last_push (all n rs) r)
last_all_push n rs r false e = rw (filter-append, e, append-nil) refl

-- after one record more, the member that is set is that one's if it is a member's, and else as before
pub chosen_push : (members : List ℕ) (rs : List Record) (r : Record) (b : Bool) → is_member members r ≡ b
    → chosen members (rs ++ r ∷ []) ≡ cond b (Some r.number) (chosen members rs)
chosen_push members rs r true e = rw (filter-append, e) (ap (option_map (λ x. x.number)) (last_push (filter (is_member members) rs) r))
chosen_push members rs r false e = rw (filter-append, e, append-nil) refl

fold_push : {A : Type 0} (f : A → Record → A) (a : A) (rs : List Record) (r : Record) → fold f a (rs ++ r ∷ []) ≡ f (fold f a rs) r
fold_push f a [] r = refl
fold_push f a (x ∷ rs) r = fold_push f (f a x) rs r

pub since_push : (p : Record → Bool) (rs : List Record) (r : Record) (b : Bool) → p r ≡ b → since p (rs ++ r ∷ []) ≡ cond b [] (since p rs ++ r ∷ [])
since_push p rs r b e = fold_push (kept p) [] rs r ∙ rw e refl

-- the views of the first i + 1 records are those of the first i, and that of the next one
pub views_more : (rs : List Held) (i : ℕ) (d : Held) → i < length rs → views (take (i + 1) rs) ≡ views (take i rs) ++ view (get_or rs i d) ∷ []
views_more rs i d lt = ap views (take_more rs i d lt) ∙ map_push view (take i rs) (get_or rs i d)

-- no records are left from the end on
pub drop_views : (rs : List Held) (start n : ℕ) → n ≤ start → drop start (views (take n rs)) ≡ []
drop_views rs start n le = drop_all start (views (take n rs)) (omega (arith, length-map (take n rs) view, length-take n rs, le))

pub drop_push : (rs : List Record) (r : Record) (start : ℕ) → start ≤ length rs → drop start (rs ++ r ∷ []) ≡ drop start rs ++ r ∷ []
drop_push rs r zero le = refl
drop_push [] r (suc start) le = absurd (omega (arith, le))
drop_push (x ∷ rs) r (suc start) le = drop_push rs r start (omega (arith, le))

pub drop_more_views : (rs : List Held) (start i : ℕ) (d : Held) → i < length rs → start ≤ i
    → drop start (views (take i rs)) ++ view (get_or rs i d) ∷ [] ≡ drop start (views (take (i + 1) rs))
drop_more_views rs start i d lt le =
    let long : start ≤ length (views (take i rs)) = omega (arith, length-map (take i rs) view, length-take i rs, le, lt) in
    sym (drop_push (views (take i rs)) (view (get_or rs i d)) start long) ∙ ap (drop start) (sym (views_more rs i d lt))

-- where what is kept are the records from a place on, one more that does not clear them is kept with them
pub since_keeps : (p : Record → Bool) (rs : List Held) (start i : ℕ) (d : Held) → i < length rs → start ≤ i → p (view (get_or rs i d)) ≡ false
    → since p (views (take i rs)) ≡ drop start (views (take i rs)) → since p (views (take (i + 1) rs)) ≡ drop start (views (take (i + 1) rs))
since_keeps p rs start i d lt le fails so_far =
    ap (since p) (views_more rs i d lt) ∙ since_push p (views (take i rs)) (view (get_or rs i d)) false fails
    ∙ ap (λ xs. xs ++ view (get_or rs i d) ∷ []) so_far ∙ drop_more_views rs start i d lt le

-- after a record that clears, what is kept are the records from the place after it on, so none yet
pub since_clears : (p : Record → Bool) (rs : List Held) (i : ℕ) (d : Held) → i < length rs → p (view (get_or rs i d)) ≡ true
    → since p (views (take (i + 1) rs)) ≡ drop (i + 1) (views (take (i + 1) rs))
since_clears p rs i d lt passes =
    ap (since p) (views_more rs i d lt) ∙ since_push p (views (take i rs)) (view (get_or rs i d)) true passes
    ∙ sym (drop_views rs (i + 1) (i + 1) (omega arith))
