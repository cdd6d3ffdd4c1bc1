use Rattle.std.proofs.Common.{◌≡◌, ◌≤◌, [], ◌∷◌, ◌++◌, length, map, drop, sym, ap, subst, ◌∙◌}
use Rattle.std.proofs.lemmas.List.Elements.{All-drop}
use Rattle.std.specs.FinMap as finite
use Rattle.llb_tree.specs.Tree.{moved}
use Rattle.llb_tree.specs.Nodes.{flat, left_in, AreSorted, seen}
use Rattle.llb_tree.specs.Walks.{levels_of, behind, AreShort}
use Rattle.llb_tree.proofs.Entries.{entries-root}
use Rattle.llb_tree.proofs.WalkSteps.{short_behind, room_below, first_left, came_to, CameTo}
use Rattle.llb_tree.proofs.walk.descend.Goals.{In_ok-enter-in-Some}
use Rattle.llb_tree.proofs.walk.descend.Goals as goal

pub enter-requires : goal.enter-requires
enter-requires c =
    let kid = entries-root c.in-Some.kid.now.node _ (sym c.entry-child.ensures) in
    room_below c.args.path.now (levels_of c.args.levels.now.items) c.args.node.now _ _ c.in-Some.kid.now (left_in c.in-Some.rest) kid.0 c.requires.1
    (c.children.ensures.entries _ (sym c.entry-entry.ensures) ∙ ap (λ ks. ([], seen c.entry-entry.result) ∷ flat ks) c.in-Some.ensures) kid.1

pub climb-requires-clause-short : goal.climb-requires-clause-short
climb-requires-clause-short c = short_behind c.args.path.now (levels_of c.args.levels.now.items) _ c.requires.1

module _ (c : In_ok-enter-in-Some) where
  down : CameTo c.args.path.now (levels_of c.args.levels.now.items) c.in-Some.kid.now (left_in c.in-Some.rest) c.enter.new.path
      (levels_of c.enter.new.levels.items) c.in_ok-enter-in-Some.field-0.now
  down = came_to _ _ _ _ _ _ _ c.requires.0 (subst AreSorted c.in-Some.ensures c.children.ensures.order)
      c.in_ok-enter-in-Some.ensures.path c.in_ok-enter-in-Some.ensures.levels c.in_ok-enter-in-Some.ensures.node

  next : map (moved 0 c.enter.new.path) (finite.entries c.in_ok-enter-in-Some.field-0.now) ++ behind c.enter.new.path (levels_of c.enter.new.levels.items)
      ≡ drop 1 (map (moved 0 c.args.path.now) (finite.entries c.args.node.now) ++ behind c.args.path.now (levels_of c.args.levels.now.items))
  next =
      down.left
      ∙ ap (λ l. map (moved 0 c.args.path.now) (flat l) ++ behind c.args.path.now (levels_of c.args.levels.now.items)) (sym c.in-Some.ensures)
      ∙ ap (drop 1) (sym (first_left c.args.path.now (levels_of c.args.levels.now.items) c.args.node.now _ (flat (left_in c.children.result))
      (c.children.ensures.entries _ (sym c.entry-entry.ensures))))

pub returns-in_ok-enter-in-Some-clause-left : goal.returns-in_ok-enter-in-Some-clause-left
returns-in_ok-enter-in-Some-clause-left c = next c

pub returns-in_ok-enter-in-Some-clause-on : goal.returns-in_ok-enter-in-Some-clause-on
returns-in_ok-enter-in-Some-clause-on c = ((down c).on, subst AreShort (sym (next c)) (All-drop (λ e. length e.0 ≤ 128) 1 _ c.requires.1))
