-- What two definitions have in common if they have the same last entry: their results. The order of the other entries does not matter, nor do entries that are
-- left out, if both definitions can be loaded.
use Rattle.std.specs.Prelude.{◌≡◌, ◌⊎◌, ℕ, ◌-◌, ◌<◌, List, [], length, Some, None, Ok, slice_get, slice_index_or}
use Rattle.std.specs.List.{Contains}
use Rattle.std.specs.List.Sorted.{IsPermutation}
use Rattle.llb_wire.specs.Digest.{digest_text}
use Rattle.llb_ops.specs.declared.op.Op.{Op}
use Rattle.llb_ops.specs.declared.op.Input.{Input}
use Rattle.llb_ops.specs.Definition.{definition_of}
use Rattle.llb_ops.specs.Messages.{op_of}
use Rattle.llb_loader.specs.declared.graph.Vertex.{Vertex}
use Rattle.llb_loader.specs.Graph.{Numbered}
use Rattle.llb_loader.specs.LoadResult.{IsGraphIn}
use Rattle.llb_loader.specs.GraphOfRows.{input_at}
use Rattle.llb_loader.specs.LocalSources.{Local, local_name}
use Rattle.llb_model.specs.Program.{Build}
use Rattle.llb_model.specs.Outcome.{outcome}
use Rattle.llb_laws.specs.Matchings.{output_at}
use Rattle.llb_laws.specs.Digests.{HaveOneDigest, HaveSameSources, IsPartOf}
use Rattle.llb_laws.specs.RenamedAndKeptSources.{HasTreesRenamed}

-- ---- two definitions

-- the last of these entries; no bytes if there are none
abbrev pub last_entry : List (List ℕ) → List ℕ
last_entry entries = slice_index_or entries (length entries - 1) []

-- each of the entries `part` is one of the entries `whole`
abbrev pub AreAmong : List (List ℕ) → List (List ℕ) → Type 0
AreAmong whole part = (x : List ℕ) → Contains part x → Contains whole x

-- each of the entries `part` is one of the entries `whole`, and the last entries of both are the same bytes
pub record HasPart (whole part : List (List ℕ)) : Type 0 where
  pub among : AreAmong whole part
  pub last : last_entry whole ≡ last_entry part

-- both definitions can be read, and the entries of e are not all entries of d, or the last entries are not the same bytes
pub record HasNoPart (d e : List ℕ) : Type 0 where
  pub whole : List (List ℕ)
  pub part : List (List ℕ)
  pub first : definition_of d ≡ Ok whole
  pub second : definition_of e ≡ Ok part
  pub none : ¬ HasPart whole part

-- the last entries of the two definitions are the same bytes
abbrev pub EndInOneEntry : List ℕ → List ℕ → Type 0
EndInOneEntry d e = (xs ys : List (List ℕ)) → definition_of d ≡ Ok xs → definition_of e ≡ Ok ys → last_entry xs ≡ last_entry ys

-- the entries of the two definitions are the same up to order
abbrev pub HaveEntriesInSomeOrder : List ℕ → List ℕ → Type 0
HaveEntriesInSomeOrder d e = (xs ys : List (List ℕ)) → definition_of d ≡ Ok xs → definition_of e ≡ Ok ys → IsPermutation xs ys

-- ---- their results

-- the results of two builds are outputs with the same number, of vertices with the same plain outcome: so they are the same tree, or there is none in both
pub record HaveSameResult (b c : Build) : Type 0 where
  pub index : b.graph.result.index ≡ c.graph.result.index
  pub outcome : outcome b b.graph.result.vertex ≡ outcome c c.graph.result.vertex
  pub tree : output_at b b.graph.result ≡ output_at c c.graph.result

-- a vertex of build c has the same digest as vertex v of build b, and the same plain outcome
pub record HasEqual (b : Build) (v : ℕ) (c : Build) : Type 0 where
  pub number : ℕ
  pub digests : HaveOneDigest b.graph v c.graph number
  pub same : outcome b v ≡ outcome c number

-- the results of two builds are the same, and are outputs of vertices with the same digest; and each vertex of the first build has an equal in the second
pub record HaveOneResult (b c : Build) : Type 0 where
  pub digests : HaveOneDigest b.graph b.graph.result.vertex c.graph c.graph.result.vertex
  pub same : HaveSameResult b c
  pub each : (v : ℕ) → v < length b.graph.vertices → HasEqual b v c

-- two graphs have the same result, if the local trees of the sources at or before it are the same; other local trees may differ
abbrev pub ShareResults : Numbered → Numbered → Type 0
ShareResults g h = (ls ms : List Local) → HaveSameSources g g.result.vertex ls ms
    → HaveOneResult (record { graph = g; locals = ls }) (record { graph = h; locals = ms })

-- these two definitions are loaded as these two graphs, and the last entries of the definitions are the same bytes
pub record LoadToOneEnd (d : List ℕ) (g : Numbered) (e : List ℕ) (h : Numbered) : Type 0 where
  pub first : IsGraphIn d g
  pub second : IsGraphIn e h
  pub last : EndInOneEntry d e

-- if each entry of the second definition is an entry of the first, and the last entries are the same, the results are the same
abbrev pub PartSharesResult : List ℕ → Numbered → List ℕ → Numbered → Type 0
PartSharesResult d g e h = LoadToOneEnd d g e h → IsPartOf e d → ShareResults g h

-- if the entries of the two definitions are the same up to order, and the last entries are the same, the results are the same
abbrev pub OrderSharesResult : List ℕ → Numbered → List ℕ → Numbered → Type 0
OrderSharesResult d g e h = LoadToOneEnd d g e h → HaveEntriesInSomeOrder d e → ShareResults g h

-- ---- entries that are rewritten

-- input j is input i but for its digest: an entry whose digest is in i is rewritten to an entry whose digest is in j
pub record IsInputRewritten (rewrite : List ℕ → List ℕ) (xs : List (List ℕ)) (i j : Input) : Type 0 where
  pub index : i.index ≡ j.index
  pub digest : (x : List ℕ) → Contains xs x → digest_text x ≡ i.digest → digest_text (rewrite x) ≡ j.digest

-- op p is no local source, and q has its kind; or both are local sources, and `rename` makes q's name of p's
abbrev pub IsKindRewritten : (List ℕ → List ℕ) → Op → Op → Type 0
IsKindRewritten rename p q =
    ((local_name p ≡ None) × (p.kind ≡ q.kind)) ⊎ ((name : List ℕ) × (local_name p ≡ Some name) × (local_name q ≡ Some (rename name)))

-- op q is op p but for the digests of its inputs and, if p is a local source, the source's name, which `rename` changes
pub record IsOpRewritten (rewrite rename : List ℕ → List ℕ) (xs : List (List ℕ)) (p q : Op) : Type 0 where
  pub op : IsKindRewritten rename p q
  pub as_many : length p.inputs ≡ length q.inputs
  pub inputs : (i : ℕ) → i < length p.inputs → IsInputRewritten rewrite xs (input_at p i) (input_at q i)

-- each of the entries xs is rewritten to one of the entries ys, the last one to the last one; and the ops that they spell differ at most in the names of local
-- sources, which `rename` changes, and in the digests of inputs, which change with the entries that they name
pub record IsRewriting (rewrite rename : List ℕ → List ℕ) (xs ys : List (List ℕ)) : Type 0 where
  pub among : (x : List ℕ) → Contains xs x → Contains ys (rewrite x)
  pub last : rewrite (last_entry xs) ≡ last_entry ys
  pub ops : (x : List ℕ) (p q : Op) → Contains xs x → op_of x ≡ Ok p → op_of (rewrite x) ≡ Ok q → IsOpRewritten rewrite rename xs p q

-- the entries of the first definition are rewritten to entries of the second (`IsRewriting`)
abbrev pub IsRewritten : (List ℕ → List ℕ) → (List ℕ → List ℕ) → List ℕ → List ℕ → Type 0
IsRewritten rewrite rename d e = (xs ys : List (List ℕ)) → definition_of d ≡ Ok xs → definition_of e ≡ Ok ys → IsRewriting rewrite rename xs ys

-- vertex v of graph g has this digest
pub record HasDigest (g : Numbered) (v : ℕ) (digest : List ℕ) : Type 0 where
  pub vertex : Vertex
  pub there : slice_get g.vertices v ≡ Some vertex
  pub same : vertex.digest ≡ digest

-- vertex v of build b is made from an entry, and a vertex of build c from what this entry is rewritten to; the two have the same plain outcome
pub record HasRewriting (rewrite : List ℕ → List ℕ) (b : Build) (v : ℕ) (c : Build) : Type 0 where
  pub number : ℕ
  pub entry : List ℕ
  pub first : HasDigest b.graph v (digest_text entry)
  pub second : HasDigest c.graph number (digest_text (rewrite entry))
  pub same : outcome b v ≡ outcome c number

-- the results of two builds are the same, and for each vertex of the first build the second has one that is made from the rewritten entry
pub record HaveRewrittenResult (rewrite : List ℕ → List ℕ) (b c : Build) : Type 0 where
  pub same : HaveSameResult b c
  pub each : (v : ℕ) → v < length b.graph.vertices → HasRewriting rewrite b v c

-- if the second definition is the first with its entries rewritten, and each source's tree is given under its new name, the results are the same
abbrev pub RewritingSharesResult : List ℕ → Numbered → List ℕ → Numbered → Type 0
RewritingSharesResult d g e h = IsGraphIn d g → IsGraphIn e h → (rewrite rename : List ℕ → List ℕ) → IsRewritten rewrite rename d e
    → (ls ms : List Local) → HasTreesRenamed rename g ls ms
    → HaveRewrittenResult rewrite (record { graph = g; locals = ls }) (record { graph = h; locals = ms })
