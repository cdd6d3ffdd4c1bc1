use Rattle.std.proofs.Common.{◌∙◌, sym}
use Rattle.llb_cache.specs.KeyEquality.{key_test}
use Rattle.llb_cache.proofs.key.Key.same.Goals as goal

pub returns : goal.returns
returns c =
    let test = key_test c.args.self.now c.args.other.now in
    (λ e. test.0 (sym c.eq.ensures ∙ e), λ e. c.eq.ensures ∙ test.1 e)
