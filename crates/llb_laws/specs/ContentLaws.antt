-- How the contents of local sources reappear in the outcomes of a graph.
use Rattle.std.specs.Prelude.{◌≡◌, ◌⊎◌, ℕ, zero, suc, ◌+◌, ◌*◌, ◌==◌, Bool, true, false, if◌then◌else◌, List, [], ◌∷◌, ◌++◌, Option, Some, None, option_map}
use Rattle.std.specs.Prelude.{slice_get}
use Rattle.std.specs.List.{All, Contains, flat_map, list_any}
use Rattle.std.specs.FinMap as finite
use Rattle.llb_ops.specs.declared.file_op.ActionKind.{ActionKind}
use Rattle.llb_ops.specs.declared.file_op.ActionKind.TheVariants as kind
use Rattle.llb_tree.specs.Path.{is_name}
use Rattle.llb_tree.specs.Tree.{TreeMap, Entry}
use Rattle.llb_fileop.specs.FileActions.{act}
use Rattle.llb_merge.specs.Laying.{lay}
use Rattle.llb_mount.specs.declared.shown_tree.Shown.{Shown}
use Rattle.llb_applet.specs.Commands.{run, line}
use Rattle.llb_applet.specs.declared.directory_and_variables.Setting.{Setting}
use Rattle.llb_applet.specs.declared.command.Command.{Command}
use Rattle.llb_applet.specs.declared.command.Command.TheVariants as command
use Rattle.llb_loader.specs.declared.graph.Vertex.{Vertex}
use Rattle.llb_loader.specs.ReachedRows.{Reached}
use Rattle.llb_loader.specs.Graph.{Numbered, links}
use Rattle.llb_loader.specs.LocalSources.{Local, local_name, tree_of_local}
use Rattle.llb_model.specs.Program.{MicroStep, ReadLocal, Act, LayInput, Run, program_of}
use Rattle.llb_model.specs.Outcome.{outcome}
use Rattle.llb_laws.specs.AlikeTrees.{BothResults, AreAlikeViews, RelatesTexts, RelatesBody, IsKept, BothOptions, AreAlike, AreAlikeOutcomes, RelatesStep}

-- ---- steps of a run

-- two contents are related if the test returns true for them
abbrev pub By : (List ℕ → List ℕ → Bool) → List ℕ → List ℕ → Type 0
By test a b = test a b ≡ true

-- for any trees `u` alike to `t` and `w` alike to `v` (equal except for related contents of files): `w` laid over `u` is alike to `v` laid over `t`
abbrev pub LaysAlike : TreeMap → TreeMap → Type 0
LaysAlike t v = (test : List ℕ → List ℕ → Bool) (u w : TreeMap) → AreAlike (By test) t u → AreAlike (By test) v w → AreAlike (By test) (lay t v) (lay u w)

-- if the test relates a mkfile's content to itself: on trees alike to `t` and `v`, the action has the same fault as on `t` and `v`, or an alike result
abbrev pub ActsAlike : Option ActionKind → TreeMap → TreeMap → Type 0
ActsAlike a t v = (test : List ℕ → List ℕ → Bool) (u w : TreeMap) → RelatesBody (By test) a → AreAlike (By test) t u → AreAlike (By test) v w
    → BothResults (AreAlike (By test)) (act a t v) (act a u w)

-- on views that are equal except for related contents, a command fails on both or leaves such views, if appending keeps the relation and `RelatesTexts` holds
abbrev pub RunsAlike : Setting → List Shown → Command → Type 0
RunsAlike s v c = (test : List ℕ → List ℕ → Bool) (w : List Shown) → IsKept (By test) → RelatesTexts (By test) s c → AreAlikeViews (By test) v w
    → BothOptions (AreAlikeViews (By test)) (run s v c) (run s w c)

-- ---- a law for each relation between contents

-- `RelatesStep` holds of each micro-step of each vertex at or before v: R relates each content that the micro-step writes without reading it from a file to
-- itself and, if the micro-step makes digests, R relates the digests of related contents
abbrev pub RelatesWritten : (List ℕ → List ℕ → Type 0) → Numbered → ℕ → Type 0
RelatesWritten R g v = (k : ℕ) (x : Vertex) → Reached (links g.vertices) v k → slice_get g.vertices k ≡ Some x → All (RelatesStep R) (program_of x).steps

-- a vertex at or before v is the local source with this name
pub record IsSourceOf (g : Numbered) (v : ℕ) (name : List ℕ) : Type 0 where
  pub number : ℕ
  pub source : Vertex
  pub before : Reached (links g.vertices) v number
  pub there : slice_get g.vertices number ≡ Some source
  pub named : local_name source.op ≡ Some name

-- each local source at or before vertex v has trees in both lists that are equal except for contents, which R relates (`AreAlike`), or has no tree in either
abbrev pub HaveAlikeSources : (List ℕ → List ℕ → Type 0) → Numbered → ℕ → List Local → List Local → Type 0
HaveAlikeSources R g v ls ms = (name : List ℕ) → IsSourceOf g v name → BothOptions (AreAlike R) (tree_of_local ls name) (tree_of_local ms name)

-- the plain outcomes of a vertex with the two lists of local trees: both are blocked, both failed with the same fault, or both are done with equally many
-- outputs, which are equal except for contents of files, which R relates (`AreAlike`)
abbrev pub HasAlikeOutcomes : (List ℕ → List ℕ → Type 0) → Numbered → List Local → List Local → ℕ → Type 0
HasAlikeOutcomes R g ls ms v = BothOptions (AreAlikeOutcomes R) (outcome (record { graph = g; locals = ls }) v) (outcome (record { graph = g; locals = ms }) v)

-- if `RelatesWritten` holds, and the trees of the sources at or before a vertex in two lists differ only in related contents, so do its plain outcomes
abbrev pub HandsOn : (List ℕ → List ℕ → Type 0) → Numbered → Type 0
HandsOn R g = (ls ms : List Local) (v : ℕ) → RelatesWritten R g v → HaveAlikeSources R g v ls ms → HasAlikeOutcomes R g ls ms v

-- `HandsOn` (if sources differ only in related contents, so do plain outcomes) holds for every relation that a test decides and that appending keeps
abbrev pub HandsRelationsOn : Numbered → Type 0
HandsRelationsOn g = (test : List ℕ → List ℕ → Bool) → IsKept (By test) → HandsOn (By test) g

-- ---- a law for contents that expand to others

-- the function `expand` makes the content `b` of the content `a`
abbrev pub ExpandsTo : (List ℕ → Option (List ℕ)) → List ℕ → List ℕ → Type 0
ExpandsTo expand a b = expand a ≡ Some b

-- for each `expand` that expands joined contents to joined expansions (`IsKept`): if the sources' contents expand to others, so do the outcomes' (`HandsOn`)
abbrev pub HandsExpansionsOn : Numbered → Type 0
HandsExpansionsOn g = (expand : List ℕ → Option (List ℕ)) → IsKept (ExpandsTo expand) → HandsOn (ExpandsTo expand) g

-- if trees u and w both are t with each content expanded by `expand`, they are equal: so an outcome on contents determines the one on the expanded contents
abbrev pub ExpandsToOne : TreeMap → Type 0
ExpandsToOne t = (expand : List ℕ → Option (List ℕ)) (u w : TreeMap) → AreAlike (ExpandsTo expand) t u → AreAlike (ExpandsTo expand) t w → u ≡ w

-- what the rest of a content expands to. The byte 255, which no text in UTF-8 has, begins a token; the four bytes after it are the token's number, the most
-- significant first. If the rest begins inside a token, `left` bytes of this token are still to be read, and the bytes before them are the number n. Each byte
-- outside a token expands to itself.
abbrev pub spelled_from : (ℕ → List ℕ) → List ℕ → ℕ → ℕ → Option (List ℕ)
spelled_from table [] zero n = Some []
spelled_from table [] (suc left) n = None
spelled_from table (b ∷ bytes) zero n =
    if b == 255 then spelled_from table bytes 4 0 else option_map (λ rest. b ∷ rest) (spelled_from table bytes 0 0)
spelled_from table (b ∷ bytes) (suc zero) n = option_map (λ rest. table (n * 256 + b) ++ rest) (spelled_from table bytes 0 0)
spelled_from table (b ∷ bytes) (suc (suc left)) n = spelled_from table bytes (suc left) (n * 256 + b)

-- what a content expands to: each token in it (the byte 255 and a number) is replaced by the content that the table has for the number; none if a token is cut
abbrev pub spelled : (ℕ → List ℕ) → List ℕ → Option (List ℕ)
spelled table bytes = spelled_from table bytes 0 0

-- whether a content has the byte 255, with which each token begins (a token is five bytes that name another content by a number)
abbrev pub has_mark : List ℕ → Bool
has_mark bytes = list_any (λ b. b == 255) bytes

-- whether a command makes a digest of contents; other commands only copy, join or extend contents, or do not read them
abbrev pub digests : Command → Bool
digests (command.Sha256 path out) = true
digests command.True = false
digests command.False = false
digests (command.Mkdir parents path) = false
digests (command.Rm path) = false
digests (command.Write path word) = false
digests (command.Append path word) = false
digests (command.Cp from to) = false
digests (command.Concat out parts) = false
digests (command.Chmod mode path) = false
digests (command.Test kind path) = false
digests (command.Listing path out) = false
digests (command.Envfile out) = false

-- whether a micro-step makes a digest of contents
abbrev pub step_digests : MicroStep → Bool
step_digests (Run setting command ends) = digests command.command
step_digests ReadLocal = false
step_digests (Act action) = false
step_digests (LayInput i) = false

-- whether a command writes byte 255, which begins a token (a number in place of a content), if it lists only names by `is_name`, which have no such byte
abbrev pub writes_mark : Setting → Command → Bool
writes_mark setting (command.Write path word) = has_mark (line word)
writes_mark setting (command.Append path word) = has_mark (line word)
writes_mark setting (command.Envfile out) = has_mark (flat_map line setting.env)
writes_mark setting (command.Listing path out) = false
writes_mark setting (command.Sha256 path out) = false
writes_mark setting command.True = false
writes_mark setting command.False = false
writes_mark setting (command.Mkdir parents path) = false
writes_mark setting (command.Rm path) = false
writes_mark setting (command.Cp from to) = false
writes_mark setting (command.Concat out parts) = false
writes_mark setting (command.Chmod mode path) = false
writes_mark setting (command.Test kind path) = false

-- whether an action writes byte 255, which begins a token (a number that takes the place of a content)
abbrev pub body_has_mark : Option ActionKind → Bool
body_has_mark (Some (kind.MkFile m)) = has_mark m.body
body_has_mark (Some (kind.MkDir m)) = false
body_has_mark (Some (kind.Copy c)) = false
body_has_mark (Some (kind.Rm r)) = false
body_has_mark None = false

-- whether a micro-step writes byte 255, which begins a token (a number that takes the place of a content), if it lists only names by `is_name`
abbrev pub step_writes_mark : MicroStep → Bool
step_writes_mark (Act action) = body_has_mark action.kind
step_writes_mark (Run setting command ends) = writes_mark setting command.command
step_writes_mark ReadLocal = false
step_writes_mark (LayInput i) = false

-- no vertex at or before vertex v has a micro-step that writes the byte 255, which begins a token (a number in place of a content), other than by a listing of
-- what is no name
abbrev pub WritesNoMark : Numbered → ℕ → Type 0
WritesNoMark g v = (k : ℕ) (x : Vertex) → Reached (links g.vertices) v k → slice_get g.vertices k ≡ Some x
    → list_any step_writes_mark (program_of x).steps ≡ false

-- each path at which the tree has an entry consists of names (`is_name`), which are texts in UTF-8, so without the byte 255; each tree by `IsTree` does so
abbrev pub HasNames : TreeMap → Type 0
HasNames t = (p : List (List ℕ)) (e : Entry) → finite.get t p ≡ Some e → All (λ name. is_name name ≡ true) p

-- the tree of each local source at or before vertex v has only names in its paths (`HasNames`), so that no exec lists a byte 255
abbrev pub HaveNames : Numbered → ℕ → List Local → Type 0
HaveNames g v ls = (name : List ℕ) (t : TreeMap) → IsSourceOf g v name → tree_of_local ls name ≡ Some t → HasNames t

-- two equal contents without the byte 255, which begins a token (a number in place of a content): so each of them expands to itself
pub record IsLiteral (a b : List ℕ) : Type 0 where
  pub same : a ≡ b
  pub plain : has_mark a ≡ false

-- a condition on each vertex k at or before v whose program makes a digest: each local source at or before k has equal trees in both lists of local trees
-- (or none in both), and no content in these trees has the byte 255, which begins a token (a number in place of a content)
abbrev pub DigestsLiterals : Numbered → List Local → List Local → ℕ → Type 0
DigestsLiterals g ls ms v = (k : ℕ) (x : Vertex) → Reached (links g.vertices) v k → slice_get g.vertices k ≡ Some x
    → (list_any step_digests (program_of x).steps ≡ false) ⊎ HaveAlikeSources IsLiteral g k ls ms

-- if `WritesNoMark`, `HaveNames` and `DigestsLiterals` hold of a vertex, and the tokens (numbers for contents) in its local trees are expanded, its outcome is
-- just expanded
abbrev pub HandsTokensOn : Numbered → Type 0
HandsTokensOn g = (table : ℕ → List ℕ) (ls ms : List Local) (v : ℕ) → WritesNoMark g v → HaveNames g v ls → DigestsLiterals g ls ms v
    → HaveAlikeSources (ExpandsTo (spelled table)) g v ls ms → HasAlikeOutcomes (ExpandsTo (spelled table)) g ls ms v

-- ---- the law if no vertex makes a digest

-- no vertex at or before vertex v makes a digest of contents
abbrev pub MakesNoDigest : Numbered → ℕ → Type 0
MakesNoDigest g v = (k : ℕ) (x : Vertex) → Reached (links g.vertices) v k → slice_get g.vertices k ≡ Some x → list_any step_digests (program_of x).steps ≡ false

-- `HandsOn` (if sources differ only in related contents, so do outcomes) with another premise than `RelatesWritten`: no digest is made at or before the vertex
abbrev pub HandsOnUndigested : (List ℕ → List ℕ → Type 0) → Numbered → Type 0
HandsOnUndigested R g = (ls ms : List Local) (v : ℕ) → MakesNoDigest g v → HaveAlikeSources R g v ls ms → HasAlikeOutcomes R g ls ms v

-- `HandsOnUndigested` holds for every relation that a test decides, that is kept when contents are appended, and that relates each content to itself
abbrev pub HandsUndigestedOn : Numbered → Type 0
HandsUndigestedOn g = (test : List ℕ → List ℕ → Bool) → IsKept (By test) → ((a : List ℕ) → By test a a) → HandsOnUndigested (By test) g

-- `b` is `a` with some pieces replaced, each by its partner in a list of pairs
pub record AreExchanged (pairs : List (List ℕ × List ℕ)) (a b : List ℕ) : Type 0 where
  pub pieces : List (List ℕ × List ℕ)
  pub each : All (λ p. (p.0 ≡ p.1) ⊎ Contains pairs p) pieces
  pub first : a ≡ flat_map (λ p. p.0) pieces
  pub second : b ≡ flat_map (λ p. p.1) pieces

-- if no digest is made, and pieces of the contents of local trees are replaced, the contents of the outcomes differ only by such replacements
abbrev pub HandsContentsOn : Numbered → Type 0
HandsContentsOn g = (pairs : List (List ℕ × List ℕ)) → HandsOnUndigested (AreExchanged pairs) g
