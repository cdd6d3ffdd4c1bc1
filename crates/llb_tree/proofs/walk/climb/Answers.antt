use Rattle.std.proofs.Common.{◌≡◌, [], ◌∷◌, ◌++◌, ◌-◌, length, map, sym, ap, subst, ◌∙◌, arith}
use Rattle.std.proofs.lemmas.List.{map-append, length-take}
use Rattle.std.specs.FinMap as finite
use Rattle.llb_tree.specs.Tree.{moved}
use Rattle.llb_tree.specs.Nodes.{flat, left_in, AreSorted}
use Rattle.llb_tree.specs.Walks.{levels_of, behind, AreShort}
use Rattle.llb_tree.proofs.Entries.{nothing}
use Rattle.llb_tree.proofs.WalkSteps.{above, Above, came_to, CameTo, behind-nil}
use Rattle.llb_tree.proofs.walk.climb.Goals.{In_ok-enter}
use Rattle.llb_tree.proofs.walk.climb.Goals as goal

module _ (c : In_ok-enter) where
  up : Above c.loop-level.path (levels_of c.loop-level.levels.items) (levels_of c.pop.new.self.items) (left_in c.in-Some.level) c.pop-in-Some.new.self
  up = above c.loop-level.path _ _ _ _ (ap levels_of c.in-Some.ensures.items
      ∙ map-append left_in c.pop.new.self.items (c.in-Some.level ∷ [])) c.pop-in-Some.ensures c.loop-level.invariant.on

  down : CameTo c.pop-in-Some.new.self (levels_of c.pop.new.self.items) c.in-Some-split_first.kid.now (left_in c.in-Some-split_first.rest) c.enter.new.path
      (levels_of c.enter.new.levels.items) c.in_ok-enter.field-0.now
  down = came_to _ _ _ _ _ _ _ up.on (subst AreSorted c.in-Some-split_first.ensures up.sorted) c.in_ok-enter.ensures.path
      c.in_ok-enter.ensures.levels c.in_ok-enter.ensures.node

  same : map (moved 0 c.enter.new.path) (finite.entries c.in_ok-enter.field-0.now) ++ behind c.enter.new.path (levels_of c.enter.new.levels.items)
      ≡ behind c.args.path.now (levels_of c.args.levels.now.items)
  same =
      down.left
      ∙ ap (λ l. map (moved 0 c.pop-in-Some.new.self) (flat l) ++ behind c.pop-in-Some.new.self (levels_of c.pop.new.self.items))
      (sym c.in-Some-split_first.ensures)
      ∙ sym up.same ∙ c.loop-level.invariant.same

pub returns-in-Some-split_first-clause-left : goal.returns-in-Some-split_first-clause-left
returns-in-Some-split_first-clause-left c = same c

pub returns-in-Some-split_first-clause-on : goal.returns-in-Some-split_first-clause-on
returns-in-Some-split_first-clause-on c = ((down c).on, subst AreShort (sym (same c)) c.requires.short)

pub loop-level-preserved : goal.loop-level-preserved
loop-level-preserved c =
    let up = above c.loop-level.path _ _ _ _ (ap levels_of c.in-Some.ensures.items
    ∙ map-append left_in c.pop.new.self.items (c.in-Some.level ∷ [])) c.pop-in-Some.ensures c.loop-level.invariant.on in
    record {
      on = up.on;
      same = ap (λ l. map (moved 0 c.pop-in-Some.new.self) (flat l) ++ behind c.pop-in-Some.new.self (levels_of c.pop.new.self.items))
          (sym c.in_default-split_first.ensures)
          ∙ sym up.same ∙ c.loop-level.invariant.same;
      short = omega (arith, ap length c.pop-in-Some.ensures, length-take (length c.loop-level.path - 1) c.loop-level.path);
    }

pub returns-clause-left : goal.returns-clause-left
returns-clause-left c = sym (ap (λ xs. behind c.loop-level.path (levels_of xs))
    (nothing c.loop-level.levels.items (omega (arith, c.in_default.ensures.cases))) ∙ behind-nil c.loop-level.path) ∙ c.loop-level.invariant.same
