-- The attributes that are held: no two have one key, so that their entries settle as they are.
use Rattle.std.proofs.Common.{◌≡◌, ℕ, ◌+◌, ◌≤◌, Bool, true, false, List, [], ◌∷◌, ◌++◌, length, map, fold, nat_eq, refl, sym, ap, subst}
use Rattle.std.proofs.Common.{◌∙◌, append_assoc, arith}
use Rattle.std.specs.List.{AllByRecursion}
use Rattle.std.specs.Cmp.Lexicographic.{pointwise}
use Rattle.std.proofs.lemmas.List.{append-nil}
use Rattle.indexmap.specs.IndexMap.{insert_entry}
use Rattle.llb_wire.specs.Hashing.{same_text}
use Rattle.llb_ops.specs.declared.source.Attribute.{Attribute}
use Rattle.llb_ops.specs.declared.source.AttributeEntry.{AttributeEntry}
use Rattle.llb_ops.specs.Attributes.{Held, entry_of, put, settled}
use Rattle.llb_ops.proofs.RecordsByFieldNumber.{All-append}

abbrev pub same : List ℕ → List ℕ → Bool
same = pointwise nat_eq

-- no key is that of an earlier one
abbrev pub Apart : List Held → Type 0
Apart [] = Unit {0}
Apart (p ∷ ps) = AllByRecursion (λ q. same q.0 p.0 ≡ false) ps × Apart ps

-- what holds of all keys and of one more key still holds of all keys after an entry with this key is put in
keys_hold : (P : List ℕ → Type 0) (es : List Held) (k : List ℕ) (v : Attribute) → AllByRecursion (λ q. P q.0) es → P k
    → AllByRecursion (λ q. P q.0) (insert_entry same es k v)
keys_hold P [] k v h n = (n, tt)
keys_hold P (e ∷ es) k v h n = go (same k e.0) refl (keys_hold P es k v h.1 n) where
  go : (b : Bool) → same k e.0 ≡ b → AllByRecursion (λ q. P q.0) (insert_entry same es k v) → AllByRecursion (λ q. P q.0) (insert_entry same (e ∷ es) k v)
  go true s rest = rw s (h.0, h.1)
  go false s rest = rw s (h.0, rest)

apart_more : (es : List Held) (k : List ℕ) (v : Attribute) → Apart es → Apart (insert_entry same es k v)
apart_more [] k v h = (tt, tt)
apart_more (e ∷ es) k v h = go (same k e.0) refl (apart_more es k v h.1) where
  go : (b : Bool) → same k e.0 ≡ b → Apart (insert_entry same es k v) → Apart (insert_entry same (e ∷ es) k v)
  go true s rest = rw s (h.0, h.1)
  go false s rest = rw s (keys_hold (λ j. same j e.0 ≡ false) es k v h.0 s, rest)

apart_fold : (held : List Held) (es : List AttributeEntry) → Apart held → Apart (fold put held es)
apart_fold held [] h = h
apart_fold held (e ∷ es) h = apart_fold (put held e) es (apart_more held e.key (record { value = e.value; extra = e.extra }) h)

-- no two of the attributes that are held have the same key
pub settled_apart : (es : List AttributeEntry) → Apart (settled es)
unfolding settled
settled_apart es = apart_fold [] es tt

-- a new key comes after all others
insert_behind : (es : List Held) (k : List ℕ) (v : Attribute) → AllByRecursion (λ q. same k q.0 ≡ false) es → insert_entry same es k v ≡ es ++ (k, v) ∷ []
insert_behind [] k v h = refl
insert_behind (e ∷ es) k v h = let s = h.0 in rw s (ap (λ xs. e ∷ xs) (insert_behind es k v h.1))

heads : (front : List Held) (p : Held) (ps : List Held) → AllByRecursion (λ f. AllByRecursion (λ q. same q.0 f.0 ≡ false) (p ∷ ps)) front
    → AllByRecursion (λ f. same p.0 f.0 ≡ false) front
heads [] p ps h = tt
heads (f ∷ front) p ps h = (h.0.0, heads front p ps h.1)

tails : (front : List Held) (p : Held) (ps : List Held) → AllByRecursion (λ f. AllByRecursion (λ q. same q.0 f.0 ≡ false) (p ∷ ps)) front
    → AllByRecursion (λ f. AllByRecursion (λ q. same q.0 f.0 ≡ false) ps) front
tails [] p ps h = tt
tails (f ∷ front) p ps h = (h.0.1, tails front p ps h.1)

fold_apart : (front ps : List Held) → AllByRecursion (λ f. AllByRecursion (λ q. same q.0 f.0 ≡ false) ps) front → Apart ps
    → fold put front (map entry_of ps) ≡ front ++ ps
fold_apart front [] h a = sym (append-nil front)
fold_apart front (p ∷ ps) h a =
    let here : put front (entry_of p) ≡ front ++ p ∷ [] = insert_behind front p.0 p.1 (heads front p ps h) in
    ap (λ (xs : List Held). fold put xs (map entry_of ps)) here
    ∙ fold_apart (front ++ p ∷ []) ps (All-append (λ f. AllByRecursion (λ q. same q.0 f.0 ≡ false) ps) front (p ∷ []) (tails front p ps h) (a.0, tt)) a.1
    ∙ append_assoc front (p ∷ []) ps

-- attributes, no two of which have the same key, stay as they are when their entries are settled
pub settles_again : (ps : List Held) → Apart ps → settled (map entry_of ps) ≡ ps
unfolding settled
settles_again ps a = fold_apart [] ps tt a

-- ---- what is held was an entry

hold_more : (P : AttributeEntry → Type 0) (es : List Held) (e : AttributeEntry) → AllByRecursion (λ p. P (entry_of p)) es → P e
    → AllByRecursion (λ p. P (entry_of p)) (put es e)
hold_more P [] e h n = (n, tt)
hold_more P (p ∷ ps) e h n = go (same e.key p.0) refl (hold_more P ps e h.1 n) where
  go : (b : Bool) → same e.key p.0 ≡ b → AllByRecursion (λ q. P (entry_of q)) (put ps e) → AllByRecursion (λ q. P (entry_of q)) (put (p ∷ ps) e)
  go true s rest = rw s (subst (λ (k : List ℕ). P (record { key = k; value = e.value; extra = e.extra })) (same_text e.key p.0 s) n, h.1)
  go false s rest = rw s (h.0, rest)

hold_fold : (P : AttributeEntry → Type 0) (held : List Held) (es : List AttributeEntry) → AllByRecursion (λ p. P (entry_of p)) held
    → AllByRecursion P es → AllByRecursion (λ p. P (entry_of p)) (fold put held es)
hold_fold P held [] h k = h
hold_fold P held (e ∷ es) h k = hold_fold P (put held e) es (hold_more P held e h k.0) k.1

-- what holds of all entries that were read holds of the attributes that are held, as entries
pub settled_hold : (P : AttributeEntry → Type 0) (es : List AttributeEntry) → AllByRecursion P es → AllByRecursion (λ p. P (entry_of p)) (settled es)
unfolding settled
settled_hold P es h = hold_fold P [] es tt h

-- ---- how many are held

one_more : (es : List Held) (k : List ℕ) (v : Attribute) → length (insert_entry same es k v) ≤ length es + 1
one_more [] k v = omega arith
one_more (e ∷ es) k v = go (same k e.0) refl (one_more es k v) where
  go : (b : Bool) → same k e.0 ≡ b → length (insert_entry same es k v) ≤ length es + 1 → length (insert_entry same (e ∷ es) k v) ≤ length (e ∷ es) + 1
  go true s rest = rw s (omega arith)
  go false s rest = rw s (omega (arith, rest))

fold_length : (held : List Held) (es : List AttributeEntry) → length (fold put held es) ≤ length held + length es
fold_length held [] = omega arith
fold_length held (e ∷ es) =
    let h = fold_length (put held e) es in
    let k = one_more held e.key (record { value = e.value; extra = e.extra }) in
    omega (arith, h, k)

-- no more attributes are held than entries were read
pub settled_length : (es : List AttributeEntry) → length (settled es) ≤ length es
unfolding settled
settled_length es = let h = fold_length [] es in omega (arith, h)
