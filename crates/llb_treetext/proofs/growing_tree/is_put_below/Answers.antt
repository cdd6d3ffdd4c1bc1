-- The file's path is the directory's and one name more.
use Rattle.std.proofs.Common.{◌≡◌, [], ◌∷◌, true, Some, IfSome, option_map, sym, ap, subst, ◌∙◌}
use Rattle.std.specs.FinMap as finite
use Rattle.llb_wire.specs.Hexadecimal.{bytes_in}
use Rattle.llb_tree.specs.Path.{is_name}
use Rattle.llb_tree.specs.Tree.{put_file}
use Rattle.llb_treetext.specs.LineFields.{Fields, parts_from}
use Rattle.llb_treetext.specs.GrowingTree.{IsKept}
use Rattle.llb_treetext.proofs.DetachedDirectory.{puts_below}
use Rattle.llb_treetext.proofs.growing_tree.is_put_below.Goals as goal

pub returns-clause-put : goal.returns-clause-put
returns-clause-put c = λ done t grown row follows.
    let place = c.in-Some.open in
    let dir = c.args.growing.now.tree in
    let x = c.args.parts.now in
    let digits = c.in-Some-digits.digits.now in
    let name = c.in-Some-rest_below.name.now in
    let content = c.in-Some-3.content in
    let kept = subst (λ o. IsKept dir o t) c.in-Some.is grown in
    let parts : ◌≡◌ {A = Fields} (x.meta, Some digits, x.path.now) (parts_from row) =
    ap (λ o. (x.meta, option_map (λ digits. digits.now) o, x.path.now)) (sym c.in-Some-digits.is) ∙ follows.of.1 in
    let one = subst (λ o. IfSome o (λ p. (p ≡ name ∷ []) × (is_name name ≡ true))) c.in-Some-2.is c.in_ok-path.ensures in
    let read : bytes_in digits ≡ Some content = sym c.in_ok-content.ensures.ok ∙ ap (option_map (λ b. b)) c.in-Some-3.is in
    let put = ap (λ p. put_file dir p x.meta content) (sym one.0) ∙ c.in-Ok.ensures.gives in
    subst (λ o. IsKept c.put_file.new.self o (finite.insert t row.0 row.1)) (sym c.in-Some.is) (
      puts_below t follows.tree row.0 row.1 follows.of.0 follows.free place.above place.at place.text.now dir c.put_file.new.self name x.meta
          digits x.path.now content kept.0 kept.1 c.names-names.ensures.path one.1 c.in-Some-rest_below.ensures parts read put,
      kept.1,
    )
