-- Definitions whose local sources have other names, entry for entry.
use Rattle.std.specs.Prelude.{◌≡◌, ℕ, ◌<◌, List, [], length, map, Some, Ok, slice_get, slice_index_or, unwrap_or}
use Rattle.std.specs.List.{position_or_len}
use Rattle.std.specs.Map.{lookup}
use Rattle.std.specs.Str.{bytes_eq}
use Rattle.llb_wire.specs.Digest.{digest_text}
use Rattle.llb_ops.specs.declared.op.Op.{Op}
use Rattle.llb_ops.specs.declared.op.Input.{Input}
use Rattle.llb_ops.specs.Definition.{definition_of}
use Rattle.llb_ops.specs.Messages.{op_of}
use Rattle.llb_loader.specs.Graph.{Numbered}
use Rattle.llb_loader.specs.GraphOfRows.{input_at}
use Rattle.llb_loader.specs.LoadResult.{IsGraphIn}
use Rattle.llb_loader.specs.LocalSources.{Local}
use Rattle.llb_laws.specs.RenamedAndKeptSources.{HasTreesRenamed}
use Rattle.llb_laws.specs.Definitions.{IsKindRewritten, IsRewritten, HaveRewrittenResult}
use Rattle.llb_laws.specs.Refusals.{IsLoaded}

-- the new name of a source: the second of the first pair that begins with its name; its own name if there is none
abbrev pub renamed_by : List (List ℕ × List ℕ) → List ℕ → List ℕ
renamed_by names name = unwrap_or (lookup (bytes_eq name) names) name

-- the entry of the second list at the place at which the first list first has this entry; no bytes if it has not
abbrev pub partner_in : List (List ℕ) → List (List ℕ) → List ℕ → List ℕ
partner_in xs ys entry = slice_index_or ys (position_or_len (bytes_eq entry) xs) []

-- there are as many entries in both lists, and each is, at its place, the partner of the other; so equal entries have equal partners
pub record ArePartners (xs ys : List (List ℕ)) : Type 0 where
  pub as_many : length xs ≡ length ys
  pub each : (k : ℕ) → k < length xs → partner_in xs ys (slice_index_or xs k []) ≡ slice_index_or ys k []

-- the inputs name outputs with the same number, and where the first list has the digest of input i, the second has that of input j
pub record AreNamedAlike (digests others : List (List ℕ)) (i j : Input) : Type 0 where
  pub index : i.index ≡ j.index
  pub partners : (k : ℕ) → slice_get digests k ≡ Some i.digest → slice_get others k ≡ Some j.digest

-- the ops have as many inputs, which name the same outputs of partners (`AreNamedAlike`)
pub record AreInputsAlike (digests others : List (List ℕ)) (p q : Op) : Type 0 where
  pub as_many : length p.inputs ≡ length q.inputs
  pub each : (i : ℕ) → i < length p.inputs → AreNamedAlike digests others (input_at p i) (input_at q i)

-- the ops that two entries spell differ at most in the names of local sources, by these pairs of names, and in the digests of inputs, by these two lists
abbrev pub AreOpsAlike : List (List ℕ × List ℕ) → List (List ℕ) → List (List ℕ) → List ℕ → List ℕ → Type 0
AreOpsAlike names digests others x y = (p q : Op) → op_of x ≡ Ok p → op_of y ≡ Ok q
    → IsKindRewritten (renamed_by names) p q × AreInputsAlike digests others p q

-- Place by place, the second entries are the first ones with local sources renamed by these pairs of names; the digests in their inputs are those of the
-- entries that the first ones name, renamed too.
pub record AreRenamed (names : List (List ℕ × List ℕ)) (xs ys : List (List ℕ)) : Type 0 where
  pub partners : ArePartners xs ys
  pub ops : (k : ℕ) → k < length xs → AreOpsAlike names (map digest_text xs) (map digest_text ys) (slice_index_or xs k []) (slice_index_or ys k [])

-- both definitions are loaded, and the entries of the second are not those of the first with local sources renamed by these pairs
pub record AreNotRenamed (names : List (List ℕ × List ℕ)) (d e : List ℕ) : Type 0 where
  pub first : IsLoaded d
  pub second : IsLoaded e
  pub none : (xs ys : List (List ℕ)) → definition_of d ≡ Ok xs → definition_of e ≡ Ok ys → ¬ AreRenamed names xs ys

-- These definitions are loaded as these graphs, and the second is the first with local sources renamed by these pairs. So if each source's tree is given under
-- its new name, the results are the same, and so is the plain outcome of each vertex.
pub record LoadRenamed (names : List (List ℕ × List ℕ)) (d : List ℕ) (g : Numbered) (e : List ℕ) (h : Numbered) : Type 0 where
  pub first : IsGraphIn d g
  pub second : IsGraphIn e h
  pub rewrite : List ℕ → List ℕ
  pub rewritten : IsRewritten rewrite (renamed_by names) d e
  pub results : (ls ms : List Local) → HasTreesRenamed (renamed_by names) g ls ms
      → HaveRewrittenResult rewrite (record { graph = g; locals = ls }) (record { graph = h; locals = ms })
