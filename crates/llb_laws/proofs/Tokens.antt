-- Tokens are spelled part by part; what writes no token is related to itself; and a tree expands to one tree at most.
use Rattle.std.specs.List.{All, list_any}
use Rattle.std.proofs.Common.{zero, suc, ◌+◌, ◌*◌, ◌≡◌, ℕ, Bool, true, false, cond, ◌==◌, List, [], ◌∷◌, ◌++◌, Option, Some, None, refl, sym, ap}
use Rattle.std.proofs.Common.{◌∙◌, ◌⊎◌, inl, inr}
use Rattle.std.proofs.Common.{append_assoc}
use Rattle.std.specs.Prelude.{option_map, slice_get}
use Rattle.std.specs.FinMap as finite
use Rattle.llb_loader.specs.declared.graph.Vertex.{Vertex}
use Rattle.llb_loader.specs.ReachedRows.{Reached}
use Rattle.llb_loader.specs.Graph.{Numbered, IsGraph, links}
use Rattle.llb_loader.specs.LocalSources.{tree_of_local}
use Rattle.llb_model.specs.Program.{program_of}
use Rattle.llb_model.specs.Outcome.{outcome}
use Rattle.llb_tree.specs.PathOrder.{path_cmp-IsTotalOrder, path_cmp-IsAntisymmetric}
use Rattle.llb_tree.specs.ModeAndOwner.{MetaValue}
use Rattle.llb_tree.specs.Tree.{TreeMap, Entry, Dir, File}
use Rattle.llb_laws.specs.AlikeTrees.{IsKept, BothOptions, AreLike, AreAlike, BothOutcomes}
use Rattle.llb_laws.specs.ContentLaws.{ExpandsTo, spelled_from, spelled, has_mark, step_digests, HasNames, IsLiteral, IsSourceOf, HaveAlikeSources}
use Rattle.llb_laws.specs.ContentLaws.{HandsTokensOn}
use Rattle.llb_laws.proofs.AlikeTreesWithNames.{Alike, Writes}
use Rattle.llb_laws.proofs.AlikeOutcomes.{hands_on_but}
use Rattle.llb_laws.proofs.WrittenContents.{IsName, a_name, relates_steps}
use Rattle.llb_laws.proofs.ContentsByValue.{literal_kept, literal_itself, literal_digest, weaker_outcomes, reached_through}
use Rattle.llb_laws.proofs.AlikeStateWrites.{weaker_tree}
use Rattle.std.proofs.lemmas.Bool.{or_parts}

abbrev some_bytes : List ℕ → Option (List ℕ)
some_bytes xs = Some xs

-- trees with names only, of which the first is given
pub named_option : (R : List ℕ → List ℕ → Type 0) (o p : Option TreeMap) → BothOptions (AreAlike R) o p → ((t : TreeMap) → o ≡ Some t → HasNames t)
    → BothOptions (Alike IsName R) o p
named_option R None None h names = tt
named_option R (Some t) (Some u) h names = record { like = h; named = names t refl }
named_option R None (Some u) h names = absurd h
named_option R (Some t) None h names = absurd h

module _ (table : ℕ → List ℕ) where
  -- a byte that begins no token
  pub literal : (b n : ℕ) (bytes : List ℕ) → (b == 255) ≡ false
      → spelled_from table (b ∷ bytes) 0 n ≡ option_map (λ rest. b ∷ rest) (spelled_from table bytes 0 0)
  literal b n bytes plain =
      ap (λ t. cond t (spelled_from table bytes 4 0) (option_map (λ rest. b ∷ rest) (spelled_from table bytes 0 0))) plain

  -- the byte that begins a token
  pub token : (b n : ℕ) (bytes : List ℕ) → (b == 255) ≡ true → spelled_from table (b ∷ bytes) 0 n ≡ spelled_from table bytes 4 0
  token b n bytes is =
      ap (λ t. cond t (spelled_from table bytes 4 0) (option_map (λ rest. b ∷ rest) (spelled_from table bytes 0 0))) is

  -- between tokens no number is read
  between : (n : ℕ) (bytes : List ℕ) → spelled_from table bytes 0 n ≡ spelled_from table bytes 0 0
  between n [] = refl
  between n (b ∷ bytes) = refl

  -- a part before another, where the rest of the first is spelled before the second
  behind : (f : List ℕ → List ℕ) → ((x y : List ℕ) → f x ++ y ≡ f (x ++ y)) → (o whole : Option (List ℕ)) (d : List ℕ)
      → ((x : List ℕ) → o ≡ Some x → whole ≡ Some (x ++ d)) → (y : List ℕ) → option_map f o ≡ Some y → option_map f whole ≡ Some (y ++ d)
  behind f moves None whole d rest y is = absurd cc
  behind f moves (Some x) whole d rest y is =
      let same : f x ≡ y = cc in
      ap (option_map f) (rest x refl) ∙ ap some_bytes (sym (moves x d) ∙ ap (λ z. z ++ d) same)

  -- a content that is cut anywhere, and one behind it
  spelled_both : (a : List ℕ) (left n : ℕ) (b c d : List ℕ) → spelled_from table a left n ≡ Some b → spelled_from table c 0 0 ≡ Some d
      → spelled_from table (a ++ c) left n ≡ Some (b ++ d)
  spelled_both [] zero n b c d first second = let same : [] ≡ b = cc in between n c ∙ second ∙ ap (λ z. some_bytes (z ++ d)) same
  spelled_both [] (suc left) n b c d first second = absurd cc
  spelled_both (x ∷ a) (suc zero) n b c d first second =
      behind (λ rest. table (n * 256 + x) ++ rest) (λ p q. append_assoc (table (n * 256 + x)) p q) (spelled_from table a 0 0)
      (spelled_from table (a ++ c) 0 0) d
      (λ y h. spelled_both a 0 0 y c d h second) b first
  spelled_both (x ∷ a) (suc (suc left)) n b c d first second = spelled_both a (suc left) (n * 256 + x) b c d first second
  spelled_both (x ∷ a) zero n b c d first second = by_first (x == 255) refl (spelled_both a)
    where
      by_first : (t : Bool) → (x == 255) ≡ t
          → ((left n : ℕ) (b c d : List ℕ) → spelled_from table a left n ≡ Some b → spelled_from table c 0 0 ≡ Some d
          → spelled_from table (a ++ c) left n ≡ Some (b ++ d))
          → spelled_from table (x ∷ (a ++ c)) 0 n ≡ Some (b ++ d)
      by_first true is rest = token x n (a ++ c) is ∙ rest 4 0 b c d (sym (token x n a is) ∙ first) second
      by_first false is rest =
          literal x n (a ++ c) is
          ∙ behind (λ rest. x ∷ rest) (λ p q. refl) (spelled_from table a 0 0) (spelled_from table (a ++ c) 0 0) d (λ y h. rest 0 0 y c d h second) b
          (sym (literal x n a is) ∙ first)

  pub spelled_kept : IsKept (ExpandsTo (spelled table))
  spelled_kept = record { empty = refl; appended = λ a b c d first second. spelled_both a 0 0 b c d first second }

  -- ---- what writes no token

  -- a content without the byte that begins tokens expands to itself
  pub unmarked : (a : List ℕ) → has_mark a ≡ false → spelled table a ≡ Some a
  unmarked [] none = refl
  unmarked (b ∷ a) none =
      literal b 0 a (or_parts (b == 255) (has_mark a) none).0
      ∙ ap (option_map (λ rest. b ∷ rest)) (unmarked a (or_parts (b == 255) (has_mark a) none).1)

-- with tokens for contents in local trees, the outcome is the one with the contents
pub hands_tokens_on : (g : Numbered) → IsGraph g → HandsTokensOn g
hands_tokens_on g graph table ls ms v written names digests sources =
    weaker_outcomes (Alike IsName E) (AreAlike E) (λ t u h. h.like) (outcome (record { graph = g; locals = ls }) v)
    (outcome (record { graph = g; locals = ms }) v)
    (hands_on_but IsName a_name E (spelled_kept table) g graph ls ms v (λ k x before there. by_digest k x before there (digests k x before there))
    (λ name of. named_option E (tree_of_local ls name) (tree_of_local ms name) (sources name of) (λ t is. names name t of is)))
  where
    E : List ℕ → List ℕ → Type 0
    E = ExpandsTo (spelled table)

    Known : ℕ → Type 0
    Known k =
        BothOptions (BothOutcomes (Alike IsName E)) (outcome (record { graph = g; locals = ls }) k) (outcome (record { graph = g; locals = ms }) k)

    by_digest : (k : ℕ) (x : Vertex) → Reached (links g.vertices) v k → slice_get g.vertices k ≡ Some x
        → (list_any step_digests (program_of x).steps ≡ false) ⊎ HaveAlikeSources IsLiteral g k ls ms
        → All (Writes IsName E) (program_of x).steps ⊎ Known k
    by_digest k x before there (inl none) = inl (relates_steps E (unmarked table) x (written k x before there) (inl none))
    by_digest k x before there (inr literal) =
        inr (weaker_outcomes (Alike IsName IsLiteral) (Alike IsName E)
        (weaker_tree IsName IsLiteral E (λ a b is. unmarked table a is.plain ∙ ap some_bytes is.same))
        (outcome (record { graph = g; locals = ls }) k) (outcome (record { graph = g; locals = ms }) k)
        (hands_on_but IsName a_name IsLiteral literal_kept g graph ls ms k
        (λ j y under at. inl (relates_steps IsLiteral literal_itself y (written j y (reached_through (links g.vertices) v k j before under) at)
        (inr literal_digest)))
        (λ name of. named_option IsLiteral (tree_of_local ls name) (tree_of_local ms name) (literal name of)
        (λ t is. names name t (under_top of) is))))
      where
        under_top : {name : List ℕ} → IsSourceOf g k name → IsSourceOf g v name
        under_top of = record {
          number = of.number;
          source = of.source;
          before = reached_through (links g.vertices) v k of.number before of.before;
          there = of.there;
          named = of.named;
        }

-- ---- one tree for each

module _ (expand : List ℕ → Option (List ℕ)) where
  one_of : (o p q : Option Entry) → BothOptions (AreLike (ExpandsTo expand)) o p → BothOptions (AreLike (ExpandsTo expand)) o q → p ≡ q
  one_of None None None h k = refl
  one_of (Some (Dir m)) (Some (Dir n)) (Some (Dir l)) h k = ap some_dir (sym h ∙ k)
    where
      some_dir : MetaValue → Option Entry
      some_dir x = Some (Dir x)
  one_of (Some (File m a)) (Some (File n b)) (Some (File l c)) h k =
      let same : some_bytes b ≡ some_bytes c = sym h.1 ∙ k.1 in
      let content : b ≡ c = cc in
      let meta : n ≡ l = sym h.0 ∙ k.0 in
      λ i. Some (File (meta i) (content i))
  one_of None (Some e) q h k = absurd h
  one_of None None (Some e) h k = absurd k
  one_of (Some e) None q h k = absurd h
  one_of (Some e) (Some f) None h k = absurd k
  one_of (Some (Dir m)) (Some (File n b)) (Some e) h k = absurd h
  one_of (Some (File m a)) (Some (Dir n)) (Some e) h k = absurd h
  one_of (Some (Dir m)) (Some (Dir n)) (Some (File l c)) h k = absurd k
  one_of (Some (File m a)) (Some (File n b)) (Some (Dir l)) h k = absurd k

  pub expands_to_one : (t u w : TreeMap) → AreAlike (ExpandsTo expand) t u → AreAlike (ExpandsTo expand) t w → u ≡ w
  expands_to_one t u w h k =
      finite.same_map path_cmp-IsTotalOrder path_cmp-IsAntisymmetric u w (λ q. one_of (finite.get t q) (finite.get u q) (finite.get w q) (h q) (k q))
