use Rattle.llb_laws.specs.ContentLaws.{By}
use Rattle.llb_laws.proofs.AnyNames.{run_any}
use Rattle.llb_laws.proofs.contents.runs_alike.Goals as goal

pub returns : goal.returns
returns c = λ test w kept texts views. run_any (By test) kept c.args.setting.now c.args.view.now w views c.args.command.now texts
