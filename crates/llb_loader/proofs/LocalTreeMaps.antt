-- A map of trees by owned texts, seen as the list of names and trees.
use Rattle.std.proofs.Common.{◌≡◌, ℕ, Bool, true, false, List, [], ◌∷◌, Option, Some, None, cond, refl, sym, ◌∙◌, ap}
use Rattle.std.specs.Prelude.{if◌then◌else◌, option_map, slice_get, String, string_bytes, string_eq}
use Rattle.std.specs.Cmp.Lexicographic.{bytes_decides, nat_list_eq_equiv}
use Rattle.std.proofs.lemmas.Option.{slice_get-map}
use Rattle.std.specs.Map.{lookup}
use Rattle.std.specs.Str.{bytes_eq}
use Rattle.indexmap.specs.IndexMap.{insert_entry}
use Rattle.llb_tree.specs.Tree.{TreeMap}
use Rattle.llb_loader.specs.LocalSources.{Local, locals_of, tree_of_local, with_local}

-- a look-up by name in a map of trees finds the tree of the local with that name
pub locals_found : {Z : Type 0} (name : List ℕ) (es : List (String Z × TreeMap))
    → lookup (λ k. bytes_eq name (string_bytes k)) es ≡ tree_of_local (locals_of es) name
unfolding locals_of
locals_found name [] = refl
locals_found name (e ∷ es) = ap (λ r. cond (bytes_eq name (string_bytes e.0)) (Some e.1) r) (locals_found name es)

insert_case : {Z : Type 0} (b : Bool) (e : String Z × TreeMap) (v : TreeMap) (es rest : List (String Z × TreeMap)) (seen : List Local) → locals_of rest ≡ seen
    → locals_of (if b then (e.0, v) ∷ es else e ∷ rest) ≡ (if b then (string_bytes e.0, v) ∷ locals_of es else (string_bytes e.0, e.1) ∷ seen)
unfolding locals_of
insert_case true e v es rest seen h = refl
insert_case false e v es rest seen h = ap (λ xs. (string_bytes e.0, e.1) ∷ xs) h

-- an entry that is put into a map of trees is put among the locals in the same way
pub locals_added : {Z : Type 0} (es : List (String Z × TreeMap)) (k : String Z) (v : TreeMap)
    → locals_of (insert_entry string_eq es k v) ≡ with_local (locals_of es) (string_bytes k) v
unfolding locals_of
locals_added [] k v = refl
locals_added (e ∷ es) k v = insert_case (string_eq k e.0) e v es (insert_entry string_eq es k v)
    (with_local (locals_of es) (string_bytes k) v) (locals_added es k v)

own_case : {X : Type 0} (a b : Bool) (x y z : X) → a ≡ b → cond a x z ≡ cond b x (cond a y z)
own_case true true x y z e = refl
own_case false false x y z e = refl
own_case true false x y z e = absurd (let c : true ≡ false = e in cc)
own_case false true x y z e = absurd (let c : false ≡ true = e in cc)

other_case : {X : Type 0} (a b : Bool) (x y z : X) → (a ≡ true → b ≡ true → false ≡ true) → cond a x (cond b y z) ≡ cond b y (cond a x z)
other_case true true x y z e = absurd (let c : false ≡ true = e refl refl in cc)
other_case true false x y z e = refl
other_case false true x y z e = refl
other_case false false x y z e = refl

given_case : (b : Bool) (l : Local) (ls rest : List Local) (name other : List ℕ) (tree : TreeMap) → bytes_eq name l.0 ≡ b
    → tree_of_local rest other ≡ cond (bytes_eq name other) (Some tree) (tree_of_local ls other)
    → tree_of_local (if b then (l.0, tree) ∷ ls else l ∷ rest) other ≡ cond (bytes_eq name other) (Some tree) (tree_of_local (l ∷ ls) other)
given_case true l ls rest name other tree e h =
    let own : bytes_eq other l.0 ≡ bytes_eq name other = ap (λ (n : List ℕ). bytes_eq other n) (sym ((bytes_decides name l.0).0 e))
    ∙ nat_list_eq_equiv.symm other name in
    own_case (bytes_eq other l.0) (bytes_eq name other) (Some tree) (Some l.1) (tree_of_local ls other) own
given_case false l ls rest name other tree e h =
    ap (λ (o : Option TreeMap). cond (bytes_eq other l.0) (Some l.1) o) h
    ∙ other_case (bytes_eq other l.0) (bytes_eq name other) (Some l.1) (Some tree) (tree_of_local ls other)
    (λ p q. sym e ∙ ap (λ (n : List ℕ). bytes_eq name n) (sym ((bytes_decides other l.0).0 p)) ∙ q)

-- a name has the tree that was given last, and other names have what they had
pub last_given : (ls : List Local) (name : List ℕ) (tree : TreeMap) (other : List ℕ)
    → tree_of_local (with_local ls name tree) other ≡ cond (bytes_eq name other) (Some tree) (tree_of_local ls other)
last_given [] name tree other = ap (λ (b : Bool). cond b (Some tree) None) (nat_list_eq_equiv.symm other name)
last_given (l ∷ ls) name tree other = given_case (bytes_eq name l.0) l ls (with_local ls name tree) name other tree refl (last_given ls name tree other)

-- the local at a place is that of the entry there
pub local_at : {Z : Type 0} (es : List (String Z × TreeMap)) (i : ℕ) → slice_get (locals_of es) i ≡ option_map (λ e. (string_bytes e.0, e.1)) (slice_get es i)
unfolding locals_of
local_at es i = slice_get-map (λ e. (string_bytes e.0, e.1)) es i
