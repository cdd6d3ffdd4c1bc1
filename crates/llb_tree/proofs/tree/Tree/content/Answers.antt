use Rattle.std.proofs.Common.{[], Ok, sym, ap, ◌∙◌}
use Rattle.std.proofs.lemmas.List.{append-nil}
use Rattle.std.specs.FinMap as finite
use Rattle.llb_tree.specs.Tree.{content_of}
use Rattle.llb_tree.proofs.tree.Tree.content.Goals as goal

pub returns-in-None : goal.returns-in-None
returns-in-None c = ap (λ o. Ok (content_of o))
    (sym (c.in-None.ensures [] ∙ (λ i. finite.get (c.self.view_is i) (append-nil (c.names.ensures.all i) i))))
