-- Alike trees with any names, where a listing of any names is related to itself.
use Rattle.std.proofs.Common.{◌≡◌, ℕ, true, List, Option, Some, None, inl}
use Rattle.std.specs.Prelude.{Result, Ok, Err}
use Rattle.std.specs.List.{All}
use Rattle.std.proofs.lemmas.List.Elements.{All-weaker}
use Rattle.llb_ops.specs.declared.file_op.ActionKind.{ActionKind}
use Rattle.llb_tree.specs.Path.{is_name}
use Rattle.llb_tree.specs.Tree.{TreeMap}
use Rattle.llb_fileop.specs.FileActions.{act}
use Rattle.llb_merge.specs.Laying.{lay}
use Rattle.llb_mount.specs.declared.shown_tree.Shown.{Shown}
use Rattle.llb_applet.specs.Commands.{run}
use Rattle.llb_applet.specs.declared.directory_and_variables.Setting.{Setting}
use Rattle.llb_applet.specs.declared.command.Command.{Command}
use Rattle.llb_applet.specs.declared.command.Command.TheVariants as command
use Rattle.llb_loader.specs.Graph.{Numbered, IsGraph}
use Rattle.llb_loader.specs.LocalSources.{tree_of_local}
use Rattle.llb_model.specs.Program.{MicroStep, ReadLocal, Act, LayInput, Run, program_of}
use Rattle.llb_model.specs.Outcome.{outcome}
use Rattle.llb_laws.specs.AlikeTrees.{IsKept, BothOptions, BothResults, AreAlike, AreAlikeMounts, AreAlikeViews, RelatesTexts, RelatesBody, RelatesStep}
use Rattle.llb_laws.specs.ContentLaws.{HandsOn}
use Rattle.llb_laws.proofs.AlikeTreesWithNames.{Alike, AlikeMounts, AlikeViews, Texts, Writes}
use Rattle.llb_laws.proofs.AlikeTreeEdits.{alike_lay}
use Rattle.llb_laws.proofs.AlikeActions.{alike_act}
use Rattle.llb_laws.proofs.AlikeCommands.{alike_run}
use Rattle.llb_laws.proofs.AlikeOutcomes.{hands_on_but}
use Rattle.llb_laws.proofs.ContentsByValue.{weaker_option, weaker_outcomes}
use Rattle.llb_laws.proofs.AlikeStateWrites.{both_weaker, plain_views}

abbrev pub IsAny : List ℕ → Type 0
IsAny n = Unit {0}

pub any_name : (n : List ℕ) → is_name n ≡ true → IsAny n
any_name n is = tt

pub all_any : (ns : List (List ℕ)) → All IsAny ns
all_any ns k d l = tt

module _ (R : List ℕ → List ℕ → Type 0) where
  pub with_any : (t u : TreeMap) → AreAlike R t u → Alike IsAny R t u
  with_any t u h = record { like = h; named = λ p e is. all_any p }

  pub option_any : (o p : Option TreeMap) → BothOptions (AreAlike R) o p → BothOptions (Alike IsAny R) o p
  option_any = weaker_option (AreAlike R) (Alike IsAny R) with_any

  mount_any : (m n : Shown) → AreAlikeMounts R m n → AlikeMounts IsAny R m n
  mount_any m n h = record {
    dest = h.dest;
    selector = h.selector;
    readonly = h.readonly;
    tree = with_any m.tree n.tree h.tree;
    named = all_any m.selector;
  }

  texts_any : (s : Setting) (c : Command) → RelatesTexts R s c → Texts IsAny R s c
  texts_any s (command.Listing path out) own = λ t p ns all. own t p ns
  texts_any s _ own = own

  step_any : (m : MicroStep) → RelatesStep R m → Writes IsAny R m
  step_any ReadLocal own = own
  step_any (Act a) own = own
  step_any (LayInput i) own = own
  step_any (Run s c ends) own = (all_any s.cwd, texts_any s c.command own)

  pub steps_any : (steps : List MicroStep) → All (RelatesStep R) steps → All (Writes IsAny R) steps
  steps_any = All-weaker (RelatesStep R) (Writes IsAny R) step_any

  -- ---- the laws

  pub lay_any : (t u v w : TreeMap) → AreAlike R t u → AreAlike R v w → AreAlike R (lay t v) (lay u w)
  lay_any t u v w h k = let laid = alike_lay IsAny R t u v w (with_any t u h) (with_any v w k) in laid.like

  pub act_any : (a : Option ActionKind) → RelatesBody R a → (t u v w : TreeMap) → AreAlike R t u → AreAlike R v w
      → BothResults (AreAlike R) (act a t v) (act a u w)
  act_any a body t u v w h k = plain (act a t v) (act a u w) (alike_act IsAny any_name R a body t u v w (with_any t u h) (with_any v w k))
    where
      plain : {F : Type 0} (x y : Result TreeMap F) → BothResults (Alike IsAny R) x y → BothResults (AreAlike R) x y
      plain (Ok x) (Ok y) same = same.like
      plain (Err e) (Err f) same = same
      plain (Ok x) (Err f) same = absurd same
      plain (Err e) (Ok y) same = absurd same

  module _ (kept : IsKept R) where
    pub run_any : (s : Setting) (v w : List Shown) → AreAlikeViews R v w → (c : Command) → RelatesTexts R s c
        → BothOptions (AreAlikeViews R) (run s v c) (run s w c)
    run_any s v w h c own =
        plain (run s v c) (run s w c)
        (alike_run IsAny any_name R kept s (all_any s.cwd) v w (both_weaker (AreAlikeMounts R) (AlikeMounts IsAny R) mount_any v w h) c (texts_any s c own))
      where
        plain : (x y : Option (List Shown)) → BothOptions (AlikeViews IsAny R) x y → BothOptions (AreAlikeViews R) x y
        plain None None same = tt
        plain (Some x) (Some y) same = plain_views IsAny R R (λ a b h. h) x y same
        plain None (Some y) same = absurd same
        plain (Some x) None same = absurd same

    pub hands_on : (g : Numbered) → IsGraph g → HandsOn R g
    hands_on g graph ls ms v own sources =
        weaker_outcomes (Alike IsAny R) (AreAlike R) (λ t u h. h.like) (outcome (record { graph = g; locals = ls }) v)
        (outcome (record { graph = g; locals = ms }) v)
        (hands_on_but IsAny any_name R kept g graph ls ms v (λ k x before there. inl (steps_any (program_of x).steps (own k x before there)))
        (λ name of. option_any (tree_of_local ls name) (tree_of_local ms name) (sources name of)))
