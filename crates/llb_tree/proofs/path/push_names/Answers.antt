use Rattle.std.proofs.Common.{◌≡◌, ◌++◌, ◌∷◌, [], take, true, sym, ap, subst, ◌∙◌, append_assoc}
use Rattle.std.proofs.lemmas.List.{take_more, get_or_read}
use Rattle.std.proofs.lemmas.List.Elements.{All-push}
use Rattle.std.specs.List.{All}
use Rattle.llb_tree.specs.Path.{is_name}
use Rattle.llb_tree.proofs.path.push_names.Goals as goal

pub loop-name-preserved : goal.loop-name-preserved
loop-name-preserved c =
    let pushed : c.push.new.self.items ≡ c.loop-name.names.items ++ c.in_ok-copied.copied ∷ [] = c.in_ok-push.ensures.items in
    let same : c.name-item.result ≡ c.in_ok-copied.copied = cc (c.in_ok-copied.ensures) in
    let at = sym (get_or_read c.args.more.now c.loop-name.name-index c.name-item.result c.loop-name-test.true c.name-item.is c.name-item.result) ∙ same in
    record {
      so_far = pushed ∙ ap (λ x. x ++ c.in_ok-copied.copied ∷ []) c.loop-name.invariant.so_far
          ∙ append_assoc c.args.names.now.items (take c.loop-name.name-index c.args.more.now) (c.in_ok-copied.copied ∷ [])
          ∙ ap (λ x. c.args.names.now.items ++ x)
          (sym (take_more c.args.more.now c.loop-name.name-index c.name-item.result c.loop-name-test.true
          ∙ ap (λ n. take c.loop-name.name-index c.args.more.now ++ n ∷ []) at));
      named = λ all. subst (All (λ n. is_name n ≡ true)) (sym pushed)
          (All-push (λ n. is_name n ≡ true) _ _ (c.loop-name.invariant.named all) c.as_str-is_name.ensures.name);
    }
