use Rattle.llb_ops.proofs.TableRows.{rows_found}
use Rattle.llb_ops.proofs.table.rows_are_apart.Goals as goal

pub returns : goal.returns
returns c = rows_found c.args.message
