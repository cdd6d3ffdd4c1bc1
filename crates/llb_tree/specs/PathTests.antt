-- Tests of names that select paths: the first test is for the first name, and so on.
use Rattle.std.specs.Prelude.{◌≡◌, ℕ, Bool, true, false, ◌&&◌, not, cond, T, List, [], ◌∷◌, ◌++◌, map, Option, Some, None, is_some, unwrap_or}
use Rattle.std.specs.Prelude.{Result, Ok, Err, if◌then◌else◌}
use Rattle.std.specs.List.{list_any}
use Rattle.std.specs.Option.{option_or}
use Rattle.std.specs.FinMap as finite
use Rattle.llb_tree.specs.Path.{name_cmp}
use Rattle.llb_tree.specs.Tree.{TreeMap, Entry}
use Rattle.llb_tree.specs.Nodes.{Pairs, pair_of, below, flat, AreSorted}
use Rattle.llb_tree.specs.EntryLookup.{look_kids}
use Rattle.llb_tree.specs.declared.node.Child.{Child}
use Rattle.llb_tree.specs.declared.fault.TreeFault.{TreeFault}
use Rattle.llb_tree.specs.declared.fault.TreeFault.TheVariants.{Root}

module _ {X : Type 0} (passes : X → List ℕ → Bool) where
  -- whether a path is selected: it has as many names as there are tests, and each name passes its test
  abbrev pub passes_all : List X → List (List ℕ) → Bool
  passes_all [] [] = true
  passes_all [] (n ∷ q) = false
  passes_all (t ∷ ts) [] = false
  passes_all (t ∷ ts) (n ∷ q) = passes t n && passes_all ts q

  -- whether a path is at or below a path that the tests select: it has at least as many names as there are tests, and its first names pass the tests, in order
  abbrev pub goes : List X → List (List ℕ) → Bool
  goes [] q = true
  goes (t ∷ ts) [] = false
  goes (t ∷ ts) (n ∷ q) = passes t n && goes ts q

  -- whether some path of a tree is at or below a selected path (a selected path has one name for each test, and each name passes its test)
  abbrev pub any_goes : List X → TreeMap → Bool
  any_goes ts t = list_any (goes ts) (finite.keys t)

  -- the tree without each path that is at or below a selected path (one with a name for each test, where each name passes its test)
  abbrev pub thin : List X → TreeMap → TreeMap
  thin ts t = finite.retain_keys t (λ q. not (goes ts q))

  -- the tree without what is at or below paths that the tests select (`passes_all`); nothing if this removes no path; the fault `Root` if there are no tests
  abbrev pub rid_of : List X → TreeMap → Result (Option TreeMap) TreeFault
  rid_of [] t = Err Root
  rid_of (x ∷ ts) t = Ok (if any_goes (x ∷ ts) t then Some (thin (x ∷ ts) t) else None)

  -- ---- nodes

  -- the entry that is given for a path; nothing if the path is at or below a selected path (one with a name for each test, where each name passes its test)
  abbrev pub unless_goes : List X → List (List ℕ) → Option Entry → Option Entry
  unless_goes ts q o = cond (not (goes ts q)) o None

  -- `new` is the tree `old` without the paths at or below a path that the tests `ts` select; it is nothing if `old` has no such path
  pub record Thins (ts : List X) (old : TreeMap) (new : Option TreeMap) : Type 0 where
    pub any : is_some new ≡ any_goes ts old
    pub looks : (q : List (List ℕ)) → finite.get (unwrap_or new old) q ≡ unless_goes ts q (finite.get old q)

  -- `new` is the children `old` without the paths at or below a path that the tests `ts` select; it is nothing if `old` has no such path
  pub record KeepsAll (ts : List X) (old : List Child) (new : Option (List Child)) : Type 0 where
    pub any : is_some new ≡ list_any (goes ts) (map (λ e. e.0) (flat old))
    pub order : AreSorted old → AreSorted (unwrap_or new old)
    pub looks : (n : List ℕ) (q : List (List ℕ)) → look_kids (unwrap_or new old) n q ≡ unless_goes ts (n ∷ q) (look_kids old n q)

  -- `new` is `old`, and then `kid` without what is at or below a path that passes the tests; `gone`: whether `kid` has such paths; sorted names stay sorted
  pub record Keeps (ts : List X) (kid : Child) (gone : Bool) (old new : List Child) : Type 0 where
    pub any : gone ≡ list_any (goes ts) (map (λ e. e.0) (below kid))
    pub order : (later : Pairs) → T (finite.is_sorted name_cmp (map pair_of old ++ pair_of kid ∷ later))
        → T (finite.is_sorted name_cmp (map pair_of new ++ later))
    pub looks : (n : List ℕ) (q : List (List ℕ))
        → look_kids new n q ≡ option_or (look_kids old n q) (unless_goes ts (n ∷ q) (look_kids (kid ∷ []) n q))
