-- Definitions of the same entries run to the same text.
use Rattle.std.proofs.Common.{◌≡◌, ℕ, List, refl, sym, ap, subst, ◌∙◌}
use Rattle.std.specs.Prelude.{Option, Some, None, Result, Ok, Err}
use Rattle.llb_wire.specs.Spelling.{AreBytes}
use Rattle.llb_treetext.specs.TreeText.{tree_text}
use Rattle.llb_ops.specs.declared.fault.OpFault.{OpFault}
use Rattle.llb_ops.specs.Definition.{definition_of, definition_bytes}
use Rattle.llb_ops.specs.ReadWriteLaws.{AreReadAgain}
use Rattle.llb_asm.specs.ItemLines.{kept}
use Rattle.llb_asm.specs.TextGrammar.{HasOneAnswer, SpellsEntries}
use Rattle.llb_loader.specs.Graph.{Numbered}
use Rattle.llb_loader.specs.UniqueResult.{HasOneAnswerIn}
use Rattle.llb_loader.specs.GraphOfRowsResult.{IsGraphOf}
use Rattle.llb_loader.specs.LoadResult.{rows_from, IsGraphIn}
use Rattle.llb_loader.specs.LocalSources.{Local}
use Rattle.llb_model.specs.State.{State}
use Rattle.llb_commands.specs.ProgramOutput.{build_of, result_in, IsEnd, Yields}
use Rattle.llb_commands.specs.Aim.{LoadsAsOne}
use Rattle.llb_commands.specs.Assembly.{RunsAlike, IsAssembled}

-- what is in the place of an `Ok` or a `Some`
abbrev ok_of : {A F : Type 0} → A → Result A F → A
ok_of a (Ok x) = x
ok_of a (Err e) = a

abbrev some_of : {A : Type 0} → A → Option A → A
some_of a (Some x) = x
some_of a None = a

abbrev Read : Type 0
Read = Result (List (List ℕ)) OpFault

-- a graph of bytes is one of all bytes with the same entries
moved : (bytes other : List ℕ) (entries : List (List ℕ)) (g : Numbered) → definition_of bytes ≡ Ok entries → definition_of other ≡ Ok entries
    → IsGraphIn bytes g → IsGraphIn other g
moved bytes other entries g read again loaded =
    let same : loaded.0 ≡ entries = ap (λ (r : Read). ok_of entries r) (sym loaded.1 ∙ read) in
    (entries, again, subst (λ es. IsGraphOf (rows_from es) g) same loaded.2)

-- one graph on the same trees runs to one text
one_text : (locals : List Local) (bytes other one two : List ℕ) (y : Yields 1 locals bytes one) (z : Yields 1 locals other two) → y.graph ≡ z.graph → one ≡ two
one_text locals bytes other one two y z graphs = y.printed ∙ ap tree_text trees ∙ sym z.printed
  where
    ended : IsEnd 1 (build_of locals z.graph) y.state
    ended = subst (λ g. IsEnd 1 (build_of locals g) y.state) graphs y.ended

    states : y.state ≡ z.state
    states = (z.ended.alone refl).only ended.events y.state (ended.alone refl).ends

    results : Some y.tree ≡ Some z.tree
    results = sym y.result ∙ ap (λ (s : State). result_in s y.graph) states ∙ ap (result_in z.state) graphs ∙ z.result

    trees : y.tree ≡ z.tree
    trees = ap (some_of y.tree) results

-- a text and any bytes with the entries that it is read as have one graph, so that both run to one text
pub runs_alike : (text bytes : List ℕ) (entries : List (List ℕ)) → HasOneAnswer text → HasOneAnswerIn bytes → AreReadAgain entries → AreBytes bytes
    → RunsAlike text entries bytes
runs_alike text bytes entries once graphs again are stands read locals definition one other assembled y z =
    one_text locals definition bytes one other y z (graphs.graphs y.graph z.graph loaded z.loaded)
  where
    same : definition ≡ definition_bytes entries
    same = assembled.same ∙ ap definition_bytes (once.entries assembled.entries entries assembled.stands stands)

    loaded : IsGraphIn bytes y.graph
    loaded = moved definition bytes entries y.graph (ap definition_of same ∙ again bytes are read) read y.loaded

-- what a text is assembled to has the entries that the text is read as, where a definition has them
read_again : (text bytes : List ℕ) (entries : List (List ℕ)) → HasOneAnswer text → AreReadAgain entries → AreBytes bytes → SpellsEntries (kept text) entries
    → definition_of bytes ≡ Ok entries → (definition : List ℕ) → IsAssembled text definition → definition_of definition ≡ Ok entries
read_again text bytes entries once again are stands read definition assembled =
    ap definition_of (assembled.same ∙ ap definition_bytes (once.entries assembled.entries entries assembled.stands stands)) ∙ again bytes are read

-- so it has the definition's graph, and no other
pub loads_as_one : (text bytes : List ℕ) (entries : List (List ℕ)) (graph : Numbered) → HasOneAnswer text → HasOneAnswerIn bytes → AreReadAgain entries
    → AreBytes bytes → IsGraphIn bytes graph → LoadsAsOne text bytes entries graph
loads_as_one text bytes entries graph once graphs again are loaded stands read definition other assembled =
    let read_so = read_again text bytes entries once again are stands read definition assembled in (
      moved bytes definition entries graph read read_so loaded,
      λ is. graphs.graphs other graph (moved definition bytes entries other read_so read is) loaded,
    )
