use Rattle.llb_glob.proofs.Grammar.{pattern_read, pattern_spelled, pattern_refused, refused_spells_none}
use Rattle.llb_glob.proofs.laws.reads_by_the_grammar.Goals as goal

pub returns-clause-spelled : goal.returns-clause-spelled
returns-clause-spelled c = λ parts. (pattern_spelled parts c.args.text.now, pattern_read parts c.args.text.now)

pub returns-clause-refused : goal.returns-clause-refused
returns-clause-refused c = (λ bad parts. refused_spells_none parts c.args.text.now bad, pattern_refused c.args.text.now)

pub returns-clause-one : goal.returns-clause-one
returns-clause-one c = λ parts others spells also.
    let first = pattern_read parts c.args.text.now spells in
    let second = pattern_read others c.args.text.now also in
    cc
