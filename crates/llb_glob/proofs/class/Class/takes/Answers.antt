use Rattle.std.proofs.Common.{◌≡◌, ◌↔◌, Bool, true, false, not, IsTrue, refl, sym, subst, ◌∙◌}
use Rattle.std.specs.Bool.{beq}
use Rattle.llb_glob.specs.Class.{ClassTakes, class_takes, excluding}
use Rattle.llb_glob.proofs.MatchDecision.{class_takes-tells}
use Rattle.llb_glob.proofs.class.Class.takes.Goals as goal

-- a class matches a character if being in an item differs from excluding
differs : (b excludes : Bool) → not (beq b excludes) ≡ excluding excludes b
differs true true = refl
differs true false = refl
differs false true = refl
differs false false = refl

pub returns : goal.returns
returns c =
    let is : not (beq c.lists.result c.self.inside.excludes) ≡ class_takes c.args.self.now c.args.letter
    = differs c.lists.result c.self.inside.excludes ∙ (λ i. excluding (c.self.view_is i).excludes (c.lists.ensures i)) in
    subst (λ b. IsTrue b ↔ ClassTakes c.args.self.now c.args.letter) (sym is) (class_takes-tells c.args.self.now c.args.letter)
