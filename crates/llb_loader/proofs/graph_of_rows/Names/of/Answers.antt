use Rattle.std.proofs.Common.{ℕ, List, Bool, length, refl, sym, ◌∙◌, ap, arith}
use Rattle.std.proofs.lemmas.Result.{err_from_is_err_and}
use Rattle.std.specs.Global.{Vec}
use Rattle.llb_loader.specs.ReachedRows.{lists}
use Rattle.llb_loader.proofs.InputRowPlaces.{named_below}
use Rattle.llb_loader.proofs.RefusalsOfRows.{graph_len, graph_below, refused_start, refused_unknown, resolved}
use Rattle.llb_loader.proofs.graph_of_rows.Names.of.Goals as goal

pub returns-in_err-start-clause-refused : goal.returns-in_err-start-clause-refused
returns-in_err-start-clause-refused c =
    let rows = c.args.rows.now in
    let ops = c.args.ops.now in
    let t = c.terminal_of-terminal.result in
    let p = err_from_is_err_and c.from_residual.result c.from_residual.ensures.1 in
    rw (p.1, p.2) (λ _. refused_start rows ops t (λ a. absurd (c.requires.apart.several a)) c.requires.apart.apart c.terminal_of-terminal.ensures.terminal
    c.terminal_of-terminal.ensures.found c.requires.len c.index-ops-terminal.result c.index-ops-terminal.is
    c.in_err-start.field-0.0 c.in_err-start.ensures.refused)

pub reached-requires-clause-rows : goal.reached-requires-clause-rows
reached-requires-clause-rows c =
    let rows = c.args.rows.now in
    let ops = c.args.ops.now in
    let t = c.terminal_of-terminal.result in
    let links = ap (λ (xs : List (Vec ℕ)). lists xs) c.deref.ensures.value ∙ c.in_ok-links.ensures in
    graph_below rows ops t c.deref.result.now links _ (sym (graph_len rows ops t c.deref.result.now c.requires.len links))

pub reached-requires-clause-start : goal.reached-requires-clause-start
reached-requires-clause-start c =
    let rows = c.args.rows.now in
    let ops = c.args.ops.now in
    let t = c.terminal_of-terminal.result in
    let links = ap (λ (xs : List (Vec ℕ)). lists xs) c.deref.ensures.value ∙ c.in_ok-links.ensures in
    let n = graph_len rows ops t c.deref.result.now c.requires.len links in
    let h = named_below rows t _ c.in_ok-start.start c.in_ok-start.ensures.start in
    omega (arith, h, n)

pub check_names-requires-clause-len : goal.check_names-requires-clause-len
check_names-requires-clause-len c =
    let rows = c.args.rows.now in
    let ops = c.args.ops.now in
    let t = c.terminal_of-terminal.result in
    let links = ap (λ (xs : List (Vec ℕ)). lists xs) c.deref.ensures.value ∙ c.in_ok-links.ensures in
    let n = graph_len rows ops t c.deref.result.now c.requires.len links in
    let b = ap (λ (xs : List Bool). length xs) c.deref-3.ensures.value in
    let d = c.in_ok-seen.ensures.len in
    let e = c.requires.len in
    omega (arith, n, b, d, e)

pub check_names-requires-clause-links : goal.check_names-requires-clause-links
check_names-requires-clause-links c = ap (λ (xs : List (Vec ℕ)). lists xs) c.deref-2.ensures.value ∙ c.in_ok-links.ensures

pub returns-in_err-check_names-clause-refused : goal.returns-in_err-check_names-clause-refused
returns-in_err-check_names-clause-refused c =
    let rows = c.args.rows.now in
    let ops = c.args.ops.now in
    let t = c.terminal_of-terminal.result in
    let links = ap (λ (xs : List (Vec ℕ)). lists xs) c.deref.ensures.value ∙ c.in_ok-links.ensures in
    let p = err_from_is_err_and c.from_residual-in_err-check_names.result c.from_residual-in_err-check_names.ensures.1 in
    rw (p.1, p.2) (λ _. refused_unknown rows ops t (λ a. absurd (c.requires.apart.several a)) c.requires.apart.apart c.terminal_of-terminal.ensures.terminal
    c.terminal_of-terminal.ensures.found c.requires.len c.index-ops-terminal.result c.index-ops-terminal.is
    c.in_ok-start.start c.in_ok-start.ensures.some c.in_ok-start.ensures.start c.deref.result.now links
    c.in_ok-seen.seen.items c.in_ok-seen.ensures.exact ops refl c.deref-3.result.now c.deref-3.ensures.value
    c.in_err-check_names.field-0.0 c.in_err-check_names.ensures.refused)

pub returns-clause-names : goal.returns-clause-names
returns-clause-names c =
    let rows = c.args.rows.now in
    let ops = c.args.ops.now in
    let t = c.terminal_of-terminal.result in
    let links = ap (λ (xs : List (Vec ℕ)). lists xs) c.deref.ensures.value ∙ c.in_ok-links.ensures in
    let (planned, named, exact) = resolved rows ops t (λ a. absurd (c.requires.apart.several a)) c.requires.apart.apart c.terminal_of-terminal.ensures.terminal
    c.terminal_of-terminal.ensures.found c.requires.len c.index-ops-terminal.result c.index-ops-terminal.is
    c.in_ok-start.start c.in_ok-start.ensures.some c.in_ok-start.ensures.start c.deref.result.now links
    c.in_ok-seen.seen.items c.in_ok-seen.ensures.exact ops refl c.deref-3.result.now c.deref-3.ensures.value
    c.in_ok-check_names.ensures.named in
    record {
      planned = planned;
      named = named;
      links = c.in_ok-links.ensures;
      seen = (let n = graph_len rows ops t c.deref.result.now c.requires.len links in let d = c.in_ok-seen.ensures.len in omega (arith, n, d));
      exact = exact;
    }
