-- Bare rows and the rows that they are with their bytes.
use Rattle.std.proofs.Common.{◌≡◌, ◌≢◌, ℕ, zero, suc, ◌+◌, ◌-◌, ◌<◌, ◌≤◌, List, [], ◌∷◌, ◌++◌, set, Option, Some, None, length, map, get_or, refl, sym, ◌∙◌}
use Rattle.std.proofs.Common.{ap, subst, arith, true, false, cond, Bool, Ok, IsOk, inl, inr}
use Rattle.std.proofs.lemmas.Bool.{cases_Bool}
use Rattle.std.proofs.lemmas.List.{get_or_append_left, get_or_push, get_or-set_other, length-map}
use Rattle.std.specs.Str.{bytes_eq}
use Rattle.std.specs.Map.{update}
use Rattle.std.specs.Option.{unwrap_or}
use Rattle.std.specs.List.{filter_map, cons_option}
use Rattle.llb_wire.specs.Digest.{digest_text}
use Rattle.llb_ops.specs.declared.op.Op.{Op}
use Rattle.llb_ops.specs.declared.op.Input.{Input}
use Rattle.llb_ops.specs.declared.fault.OpFault.{OpFault}
use Rattle.llb_ops.specs.declared.fault.OpFault.TheVariants as op
use Rattle.llb_ops.specs.Faults as ops
use Rattle.llb_ops.specs.Messages.{op_of}
use Rattle.llb_loader.specs.declared.row.Row.{Row}
use Rattle.llb_loader.specs.declared.fault.LoadFault.{LoadFault}
use Rattle.llb_loader.specs.declared.fault.LoadFault.TheVariants as fault
use Rattle.llb_loader.specs.Faults.{is_memory, row_fault}
use Rattle.llb_loader.specs.RowLookup.{row_at, AllSame, AreFirsts, Collides, first_with, other_than, terminal_in, row_named, rows_named, graph_of}
use Rattle.llb_loader.specs.RowsWithoutBytes.{with_bytes, AreBare, bared, bytes_of, titles_from, AreRead, RefusesEntry}
use Rattle.llb_loader.specs.LoadResult.{rows_from}
use Rattle.llb_loader.specs.RowReading.{AreOps, RefusesRow}
use Rattle.llb_loader.specs.GraphOfRows.{op_at, input_at, start_in, IsApart}
use Rattle.llb_loader.proofs.FirstRowOfDigest.{IsFirst, first_is, first_cases, cases_bytes, bytes_same, below_step, fresh_apart, equal_apart, collides_with}

-- ---- rows with bytes

-- what is at a place of the rows with their bytes
pub row_with : (rows : List Row) (es : List (List ℕ)) (k : ℕ) → length es ≡ length rows
    → row_at (with_bytes rows es) k ≡ record { digest = (row_at rows k).digest; bytes = get_or es k [] }
row_with [] [] k e = refl
row_with [] (b ∷ es) k e = absurd (omega (arith, e))
row_with (r ∷ rows) [] k e = absurd (omega (arith, e))
row_with (r ∷ rows) (b ∷ es) zero e = refl
row_with (r ∷ rows) (b ∷ es) (suc k) e = row_with rows es k (omega (arith, e))

-- there are as many rows with their bytes as bare rows
pub with_len : (rows : List Row) (es : List (List ℕ)) → length es ≡ length rows → length (with_bytes rows es) ≡ length rows
with_len [] es e = refl
with_len (r ∷ rows) [] e = absurd (omega (arith, e))
with_len (r ∷ rows) (b ∷ es) e = let h = with_len rows es (omega (arith, e)) in omega (arith, h)

-- rows with their bytes have the digest texts of the bare rows
pub with_digest : (rows : List Row) (es : List (List ℕ)) (k : ℕ) → length es ≡ length rows → (row_at rows k).digest ≡ (row_at (with_bytes rows es) k).digest
with_digest rows es k e = sym (ap (λ (r : Row). r.digest) (row_with rows es k e))

-- the bare rows of entries become the rows of entries
pub titles_with : (es : List (List ℕ)) → with_bytes (titles_from es) es ≡ rows_from es
titles_with [] = refl
titles_with (b ∷ es) = ap (λ (xs : List Row). (let r : Row = record { digest = digest_text b; bytes = b } in r) ∷ xs) (titles_with es)

pub titles_bare : (es : List (List ℕ)) → AreBare (titles_from es)
titles_bare [] k = refl
titles_bare (b ∷ es) zero = refl
titles_bare (b ∷ es) (suc k) = titles_bare es k

-- bared rows become the rows again with their bytes
pub bared_with : (rows : List Row) → with_bytes (bared rows) (bytes_of rows) ≡ rows
bared_with [] = refl
bared_with (r ∷ rows) = ap (λ (xs : List Row). r ∷ xs) (bared_with rows)

pub bared_bare : (rows : List Row) → AreBare (bared rows)
bared_bare [] k = refl
bared_bare (r ∷ rows) zero = refl
bared_bare (r ∷ rows) (suc k) = bared_bare rows k

pub bared_len : (rows : List Row) → length (bared rows) ≡ length rows
bared_len rows = length-map rows (λ (r : Row). let b : Row = record { digest = r.digest; bytes = [] } in b)

pub bytes_len : (rows : List Row) → length (bytes_of rows) ≡ length rows
bytes_len rows = length-map rows (λ (r : Row). r.bytes)

pub titles_len : (es : List (List ℕ)) → length (titles_from es) ≡ length es
titles_len es = length-map es (λ (bytes : List ℕ). let r : Row = record { digest = digest_text bytes; bytes = [] } in r)

-- ---- what is read off entries is read off the rows

pub ops_with : (rows : List Row) (es : List (List ℕ)) (ops : List Op) → length es ≡ length rows → AreRead es ops → AreOps (with_bytes rows es) ops
ops_with rows es ops e read = record {
  len = (let a = read.len in let b = with_len rows es e in omega (arith, a, b, e));
  each = λ k h. ap (λ (r : Row). op_of r.bytes) (row_with rows es k e)
      ∙ read.each k (let b = with_len rows es e in omega (arith, h, b, e));
}

pub refuses_with : (rows : List Row) (es : List (List ℕ)) (f : LoadFault) → length es ≡ length rows → RefusesEntry es f → RefusesRow (with_bytes rows es) f
refuses_with rows es f e (k, g, same, unread) = (
  k,
  g,
  same,
  record {
    here = (let a = unread.here in let b = with_len rows es e in omega (arith, a, b, e));
    fault = ap (λ (r : Row). op_of r.bytes) (row_with rows es k e) ∙ unread.fault;
    before = λ j l. subst (λ (r : Row). IsOk (op_of r.bytes)) (sym (row_with rows es j e)) (unread.before j l);
  },
)

-- ---- rows with the same digest texts

same_row : (a b : Row) → a.digest ≡ b.digest → a.bytes ≡ b.bytes → a ≡ b
same_row a b p q = ap (λ (x : List ℕ). let r : Row = record { digest = x; bytes = a.bytes } in r) p
    ∙ ap (λ (x : List ℕ). let r : Row = record { digest = b.digest; bytes = x } in r) q

-- where no row collides, a row with the first one's digest text is equal to it
equal_to_first : (rows : List Row) → ((k : ℕ) → ¬ Collides rows k) → (k : ℕ) → k < length rows → (row_at rows k).digest ≡ (row_at rows 0).digest
    → row_at rows k ≡ row_at rows 0
equal_to_first rows apart zero h e = refl
equal_to_first rows apart (suc k) h e = elim (cases_bytes (row_at rows 0).bytes (row_at rows (suc k)).bytes) [
  | inl y ↦ same_row _ _ e (sym y)
  | inr n ↦ absurd (apart (suc k) (record { here = h; earlier = (0, omega arith, sym e, n) }))
]

map_same : {X Y : Type 0} (f g : X → Y) → ((x : X) → f x ≡ g x) → (xs : List X) → map f xs ≡ map g xs
map_same f g same [] = refl
map_same {X} {Y} f g same (x ∷ xs) = ap (λ (y : Y). y ∷ map f xs) (same x) ∙ ap (λ (ys : List Y). g x ∷ ys) (map_same f g same xs)

pub maps_same : {X Y : Type 0} (f g : X → Y) → ((x : X) → f x ≡ g x) → (xs : List X) → map f xs ≡ map g xs
maps_same f g same xs = map_same f g same xs

filter_map_same : {X Y : Type 0} (f g : X → Option Y) → ((x : X) → f x ≡ g x) → (xs : List X) → filter_map f xs ≡ filter_map g xs
filter_map_same f g same [] = refl
filter_map_same {X} {Y} f g same (x ∷ xs) = ap (λ (o : Option Y). cons_option o (filter_map f xs)) (same x)
    ∙ ap (λ (ys : List Y). cons_option (g x) ys) (filter_map_same f g same xs)

module _ (B R : List Row) (len : length B ≡ length R) (same : (k : ℕ) → (row_at B k).digest ≡ (row_at R k).digest) where
  kept_first : (n : ℕ) (d : List ℕ) (o : Option ℕ) → IsFirst B n d o → IsFirst R n d o
  kept_first n d None f = λ j l e. f j l (same j ∙ e)
  kept_first n d (Some k) f = (f.0, sym (same k) ∙ f.1, λ j l e. f.2 j l (same j ∙ e))

  pub first_kept : (n : ℕ) (d : List ℕ) (o : Option ℕ) → IsFirst B n d o → IsFirst R n d o
  first_kept = kept_first

  pub first_same : (d : List ℕ) → first_with B d ≡ first_with R d
  first_same d = first_is R d (first_with B d) (subst (λ (n : ℕ). IsFirst R n d (first_with B d)) len
      (first_kept (length B) d (first_with B d) (first_cases B d (first_with B d) refl)))

  pub named_same : (t : ℕ) (d : List ℕ) → row_named B t d ≡ row_named R t d
  named_same t d = ap (other_than t) (first_same d)

  pub terminal_same : terminal_in B ≡ terminal_in R
  terminal_same = ap (λ (n : ℕ). unwrap_or (first_with B (row_at B (n - 1)).digest) 0) len
      ∙ ap (λ (d : List ℕ). unwrap_or (first_with B d) 0) (same (length R - 1))
      ∙ ap (λ (o : Option ℕ). unwrap_or o 0) (first_same (row_at R (length R - 1)).digest)

  pub start_same : (ops : List Op) → start_in B ops ≡ start_in R ops
  start_same ops = ap (λ (t : ℕ). unwrap_or (row_named B t (input_at (op_at ops t) 0).digest) 0) terminal_same
      ∙ ap (λ (o : Option ℕ). unwrap_or o 0) (named_same (terminal_in R) (input_at (op_at ops (terminal_in R)) 0).digest)

  pub links_same : (t : ℕ) (ops : List Op) → graph_of B t ops ≡ graph_of R t ops
  links_same t ops = map_same (rows_named B t) (rows_named R t) (λ op. filter_map_same (λ (i : Input). row_named B t i.digest)
      (λ (i : Input). row_named R t i.digest) (λ i. named_same t i.digest) op.inputs) ops

  -- bare rows are apart if the rows whose digest texts they have are apart
  pub bare_apart : AreBare B → IsApart R → IsApart B
  bare_apart bare apart = record {
    several = λ all. apart.several (λ k h. equal_to_first R apart.apart k h
        (sym (same k) ∙ ap (λ (r : Row). r.digest) (all k (omega (arith, h, len))) ∙ same 0));
    apart = λ k c. c.earlier.3 (bare c.earlier.0 ∙ sym (bare k));
  }

-- ---- the index of rows whose bytes are apart

module _ (rows : List Row) (es : List (List ℕ)) (e : length es ≡ length rows) where
  in_both : (n : ℕ) (d : List ℕ) (o : Option ℕ) → IsFirst rows n d o → IsFirst (with_bytes rows es) n d o
  in_both = first_kept rows (with_bytes rows es) (sym (with_len rows es e)) (λ k. with_digest rows es k e)

  at_digest : (k : ℕ) (o : Option ℕ) → IsFirst rows k (row_at rows k).digest o → IsFirst (with_bytes rows es) k (row_at (with_bytes rows es) k).digest o
  at_digest k o f = subst (λ (d : List ℕ). IsFirst (with_bytes rows es) k d o) (with_digest rows es k e) (in_both k (row_at rows k).digest o f)

  bytes_at : (k : ℕ) → (row_at (with_bytes rows es) k).bytes ≡ get_or es k []
  bytes_at k = ap (λ (r : Row). r.bytes) (row_with rows es k e)

  -- a row whose digest no earlier row has does not collide
  pub fresh_with : (k : ℕ) → IsFirst rows k (row_at rows k).digest None → ¬ Collides (with_bytes rows es) k
  fresh_with k f = fresh_apart (with_bytes rows es) k (at_digest k None f)

  -- a row with the digest of an earlier row and another entry collides
  pub collides_beside : (j k : ℕ) → k < length rows → IsFirst rows k (row_at rows k).digest (Some j) → get_or es j [] ≢ get_or es k []
      → Collides (with_bytes rows es) k
  collides_beside j k h f n = collides_with (with_bytes rows es) j k (let l = with_len rows es e in omega (arith, h, l)) (at_digest k (Some j) f)
      (λ x. n (sym (bytes_at j) ∙ x ∙ bytes_at k))

  -- a row with the entry of the first one that has its digest does not collide, where none before it does
  pub equal_with : (j k : ℕ) → IsFirst rows k (row_at rows k).digest (Some j) → get_or es j [] ≡ get_or es k []
      → ((i : ℕ) → i < k → ¬ Collides (with_bytes rows es) i) → ¬ Collides (with_bytes rows es) k
  equal_with j k f same apart = equal_apart (with_bytes rows es) j k (at_digest k (Some j) f) (bytes_at j ∙ same ∙ sym (bytes_at k)) apart

  -- a row with the digest and the entry of the first one is equal to it, and only such a row
  pub same_with : (k : ℕ) → (row_at rows k).digest ≡ (row_at rows 0).digest → get_or es k [] ≡ get_or es 0 []
      → row_at (with_bytes rows es) k ≡ row_at (with_bytes rows es) 0
  same_with k p q = same_row _ _ (sym (with_digest rows es k e) ∙ p ∙ with_digest rows es 0 e) (bytes_at k ∙ q ∙ sym (bytes_at 0))

  pub digest_with : (k : ℕ) → row_at (with_bytes rows es) k ≡ row_at (with_bytes rows es) 0 → (row_at rows k).digest ≡ (row_at rows 0).digest
  digest_with k p = with_digest rows es k e ∙ ap (λ (r : Row). r.digest) p ∙ sym (with_digest rows es 0 e)

  pub entry_with : (k : ℕ) → row_at (with_bytes rows es) k ≡ row_at (with_bytes rows es) 0 → get_or es k [] ≡ get_or es 0 []
  entry_with k p = sym (bytes_at k) ∙ ap (λ (r : Row). r.bytes) p ∙ bytes_at 0

-- a look-up is as it was before, once a key is given another value and then its former value again
pub put_back : (look second third : List ℕ → Option ℕ) (key : List ℕ) (n m : ℕ) → look key ≡ Some m
    → ((d : List ℕ) → second d ≡ update bytes_eq look key (Some n) d) → ((d : List ℕ) → third d ≡ update bytes_eq second key (Some m) d)
    → (d : List ℕ) → third d ≡ look d
put_back look second third key n m there once twice d = elim (cases_Bool (bytes_eq key d)) [
  | inl t ↦ twice d ∙ ap (λ (b : Bool). cond b (Some m) (second d)) t ∙ sym there ∙ ap look (bytes_same key d t)
  | inr f ↦ twice d ∙ ap (λ (b : Bool). cond b (Some m) (second d)) f ∙ once d ∙ ap (λ (b : Bool). cond b (Some n) (look d)) f
]

-- rows with bytes are apart, and so are the bare rows, if neither of the two refusals that look at bytes applies
pub both_apart : (rows : List Row) (es : List (List ℕ)) → length es ≡ length rows → AreBare rows → ¬ AllSame (with_bytes rows es)
    → ((k : ℕ) → ¬ Collides (with_bytes rows es) k) → IsApart (with_bytes rows es) × IsApart rows
both_apart rows es e bare several apart =
    let with_them : IsApart (with_bytes rows es) = record { several = several; apart = apart } in
    (with_them, bare_apart rows (with_bytes rows es) (sym (with_len rows es e)) (λ k. with_digest rows es k e) bare with_them)

-- ---- ops that are read one after another

-- with the op of the next entry, one more is read
pub read_push : (es : List (List ℕ)) (ops : List Op) (op : Op) (n : ℕ) → length ops ≡ n
    → ((j : ℕ) → j < n → op_of (get_or es j []) ≡ Ok (op_at ops j)) → op_of (get_or es n []) ≡ Ok op
    → (j : ℕ) → j < n + 1 → op_of (get_or es j []) ≡ Ok (op_at (ops ++ op ∷ []) j)
read_push es ops op n len old new = below_step (λ j. op_of (get_or es j []) ≡ Ok (op_at (ops ++ op ∷ []) j)) n
    (λ j l. subst (λ (o : Op). op_of (get_or es j []) ≡ Ok o)
    (sym (get_or_append_left ops (op ∷ []) (record { inputs = []; kind = None; extra = [] }) j (omega (arith, l, len)))) (old j l))
    (subst (λ (o : Op). op_of (get_or es n []) ≡ Ok o) (sym (get_or_push ops op (record { inputs = []; kind = None; extra = [] }) n len)) new)

-- an entry is taken out of its list, and later ones stay
pub taken_step : (first es : List (List ℕ)) (n : ℕ) (moved : List ℕ) → ((i : ℕ) → n ≤ i → get_or es i [] ≡ get_or first i [])
    → (i : ℕ) → n + 1 ≤ i → get_or (set es n moved) i [] ≡ get_or first i []
taken_step first es n moved kept i l = get_or-set_other es n i moved [] (λ e. omega (arith, e, l)) ∙ kept i (omega (arith, l))

-- the fault of an entry that can't be read, unless memory was refused
pub entry_fault : (k : ℕ) (f : OpFault) → is_memory (row_fault k f) ≡ false → (row_fault k f ≡ fault.Entry k f) × (ops.is_memory f ≡ false)
entry_fault k (op.Wire w) m = (refl, refl)
entry_fault k op.WrongWireType m = (refl, refl)
entry_fault k op.NotUtf8 m = (refl, refl)
entry_fault k op.OverLimit m = (refl, refl)
entry_fault k op.Memory m = absurd (let x : true ≡ false = m in cc)

-- ---- for each row, the first row with its digest text

-- the first row with a digest text among the first n rows is the first one among all rows
pub first_of_all : (rows : List Row) (n k : ℕ) (d : List ℕ) → n ≤ length rows → IsFirst rows n d (Some k) → IsFirst rows (length rows) d (Some k)
first_of_all rows n k d h f = (let l = f.0 in omega (arith, h, l), f.1, f.2)

-- with the first row for the digest text of the next row, the list has one more
pub firsts_push : (rows : List Row) (firsts : List ℕ) (n k : ℕ) → length firsts ≡ n
    → ((j : ℕ) → j < n → IsFirst rows (length rows) (row_at rows j).digest (Some (get_or firsts j 0)))
    → IsFirst rows (length rows) (row_at rows n).digest (Some k)
    → (j : ℕ) → j < n + 1 → IsFirst rows (length rows) (row_at rows j).digest (Some (get_or (firsts ++ k ∷ []) j 0))
firsts_push rows firsts n k len old new =
    below_step (λ j. IsFirst rows (length rows) (row_at rows j).digest (Some (get_or (firsts ++ k ∷ []) j 0))) n
    (λ j l. subst (λ (m : ℕ). IsFirst rows (length rows) (row_at rows j).digest (Some m)) (sym (get_or_append_left firsts (k ∷ []) 0 j (omega (arith, l, len))))
    (old j l))
    (subst (λ (m : ℕ). IsFirst rows (length rows) (row_at rows n).digest (Some m)) (sym (get_or_push firsts k 0 n len)) new)

pub are_firsts : (rows : List Row) (firsts : List ℕ) (n : ℕ) → n ≡ length rows → length firsts ≡ n
    → ((j : ℕ) → j < n → IsFirst rows (length rows) (row_at rows j).digest (Some (get_or firsts j 0))) → AreFirsts rows firsts
are_firsts rows firsts n same len firsts_are = record {
  len = len ∙ same;
  each = λ k h. sym (first_is rows (row_at rows k).digest (Some (get_or firsts k 0)) (firsts_are k (omega (arith, h, same))));
}
