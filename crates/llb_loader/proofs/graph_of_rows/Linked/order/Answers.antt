use Rattle.std.proofs.Common.{◌∙◌, arith}
use Rattle.std.proofs.lemmas.Result.{err_from_is_err_and}
use Rattle.llb_loader.proofs.RefusalsOfRows.{below, lens, marked, limited, asked, there, cyclic, unsupported, invalid, bad_index, whole_order}
use Rattle.llb_loader.proofs.graph_of_rows.Linked.order.Goals as goal

pub number-requires-clause-rows : goal.number-requires-clause-rows
number-requires-clause-rows c =
    let n = lens c.args.self.now c.requires c.as_slice-ops.result.now c.as_slice-links.result.now c.as_slice-seen.result.now
    c.as_slice-ops.ensures.value c.as_slice-links.ensures.value c.as_slice-seen.ensures.value in
    below c.args.self.now c.requires c.as_slice-ops.result.now c.as_slice-links.result.now c.as_slice-seen.result.now
    c.as_slice-ops.ensures.value c.as_slice-links.ensures.value c.as_slice-seen.ensures.value _ (let a = n.0 in omega (arith, a))

pub number-requires-clause-len : goal.number-requires-clause-len
number-requires-clause-len c =
    let n = lens c.args.self.now c.requires c.as_slice-ops.result.now c.as_slice-links.result.now c.as_slice-seen.result.now
    c.as_slice-ops.ensures.value c.as_slice-links.ensures.value c.as_slice-seen.ensures.value in
    omega (arith, n)

pub number-requires-clause-exact : goal.number-requires-clause-exact
number-requires-clause-exact c = marked c.args.self.now c.requires c.as_slice-ops.result.now c.as_slice-links.result.now c.as_slice-seen.result.now
    c.as_slice-ops.ensures.value c.as_slice-links.ensures.value c.as_slice-seen.ensures.value

pub returns-in_default-clause-refused : goal.returns-in_default-clause-refused
returns-in_default-clause-refused c = λ _. cyclic c.args.self.now c.requires c.as_slice-ops.result.now c.as_slice-links.result.now c.as_slice-seen.result.now
    c.as_slice-ops.ensures.value c.as_slice-links.ensures.value c.as_slice-seen.ensures.value
    _ c.in_default.is c.in_ok-order.ensures.cycle

pub returns-in_err-check_features-clause-refused : goal.returns-in_err-check_features-clause-refused
returns-in_err-check_features-clause-refused c =
    let x = err_from_is_err_and c.from_residual-in_err-check_features.result c.from_residual-in_err-check_features.ensures.1 in
    rw (x.1, x.2) (λ m. unsupported c.args.self.now c.requires c.as_slice-ops.result.now c.as_slice-links.result.now c.as_slice-seen.result.now
    c.as_slice-ops.ensures.value c.as_slice-links.ensures.value c.as_slice-seen.ensures.value _ c.in-Some.order c.in-Some.is c.in_ok-order.ensures.numbering
    c.in_err-check_features.field-0.0 c.in_err-check_features.ensures.refused)

pub returns-in_err-check_rules-clause-refused : goal.returns-in_err-check_rules-clause-refused
returns-in_err-check_rules-clause-refused c =
    let x = err_from_is_err_and c.from_residual-in_err-check_rules.result c.from_residual-in_err-check_rules.ensures.1 in
    rw (x.1, x.2) (λ m. invalid c.args.self.now c.requires c.as_slice-ops.result.now c.as_slice-links.result.now c.as_slice-seen.result.now
    c.as_slice-ops.ensures.value c.as_slice-links.ensures.value c.as_slice-seen.ensures.value _ c.in-Some.order c.in-Some.is c.in_ok-order.ensures.numbering
    c.in_ok-check_features.ensures.free c.in_err-check_rules.field-0.0 (c.in_err-check_rules.ensures.refused m))

pub check_indexes-requires-clause-asked : goal.check_indexes-requires-clause-asked
check_indexes-requires-clause-asked c = λ k _. asked c.args.self.now c.requires c.as_slice-ops.result.now c.as_slice-links.result.now c.as_slice-seen.result.now
    c.as_slice-ops.ensures.value c.as_slice-links.ensures.value c.as_slice-seen.ensures.value k

pub check_indexes-requires-clause-there : goal.check_indexes-requires-clause-there
check_indexes-requires-clause-there c = λ k _. there c.args.self.now c.requires c.as_slice-ops.result.now c.as_slice-links.result.now c.as_slice-seen.result.now
    c.as_slice-ops.ensures.value c.as_slice-links.ensures.value c.as_slice-seen.ensures.value k

pub check_indexes-requires-clause-range : goal.check_indexes-requires-clause-range
check_indexes-requires-clause-range c = below c.args.self.now c.requires c.as_slice-ops.result.now c.as_slice-links.result.now c.as_slice-seen.result.now
    c.as_slice-ops.ensures.value c.as_slice-links.ensures.value c.as_slice-seen.ensures.value _ (omega arith)

pub check_indexes-requires-clause-within : goal.check_indexes-requires-clause-within
check_indexes-requires-clause-within c = limited c.args.self.now c.requires c.as_slice-ops.result.now c.as_slice-links.result.now c.as_slice-seen.result.now
    c.as_slice-ops.ensures.value c.as_slice-links.ensures.value c.as_slice-seen.ensures.value

pub check_indexes-requires-clause-links : goal.check_indexes-requires-clause-links
check_indexes-requires-clause-links c = (lens c.args.self.now c.requires c.as_slice-ops.result.now c.as_slice-links.result.now c.as_slice-seen.result.now
    c.as_slice-ops.ensures.value c.as_slice-links.ensures.value c.as_slice-seen.ensures.value).0

pub returns-in_err-check_indexes-clause-refused : goal.returns-in_err-check_indexes-clause-refused
returns-in_err-check_indexes-clause-refused c =
    let x = err_from_is_err_and c.from_residual-in_err-check_indexes.result c.from_residual-in_err-check_indexes.ensures.1 in
    rw (x.1, x.2) (λ m. bad_index c.args.self.now c.requires c.as_slice-ops.result.now c.as_slice-links.result.now c.as_slice-seen.result.now
    c.as_slice-ops.ensures.value c.as_slice-links.ensures.value c.as_slice-seen.ensures.value _ c.in-Some.order c.in-Some.is c.in_ok-order.ensures.numbering
    c.in_ok-check_features.ensures.free c.in_ok-check_rules.ensures.met c.deref.result.now (c.deref.ensures.value ∙ c.in_ok-counts.ensures)
    c.in_err-check_indexes.field-0.0 c.in_err-check_indexes.ensures.refused)

pub returns-clause-whole : goal.returns-clause-whole
returns-clause-whole c = whole_order c.args.self.now c.requires c.as_slice-ops.result.now c.as_slice-links.result.now c.as_slice-seen.result.now
    c.as_slice-ops.ensures.value c.as_slice-links.ensures.value c.as_slice-seen.ensures.value _ c.in-Some.order c.in-Some.is c.in_ok-order.ensures.numbering
    c.in_ok-check_features.ensures.free c.in_ok-check_rules.ensures.met c.deref.result.now (c.deref.ensures.value ∙ c.in_ok-counts.ensures)
    c.in_ok-check_indexes.ensures.fit
