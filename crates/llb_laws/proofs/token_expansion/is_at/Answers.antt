use Rattle.llb_laws.proofs.TokenReading.{at_by_rest}
use Rattle.llb_laws.proofs.token_expansion.is_at.Goals as goal

pub returns : goal.returns
returns c =
    at_by_rest c.args.content.now c.args.place c.args.part.now c.split_at.result.1.now c.starts_with.result c.split_at.ensures.back c.starts_with.ensures.value
