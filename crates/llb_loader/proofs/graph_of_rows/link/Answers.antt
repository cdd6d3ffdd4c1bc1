use Rattle.std.proofs.Common.{◌≡◌, ℕ, List, length, sym, ◌∙◌, ap, subst, arith}
use Rattle.std.proofs.lemmas.Result.{MatchResult-weaker}
use Rattle.llb_loader.specs.declared.row.Row.{Row}
use Rattle.llb_loader.specs.RowsWithoutBytes.{with_bytes, AreBare, bared}
use Rattle.llb_loader.specs.GraphOfRowsResult.{IsGraphOf, IsRefusalOf}
use Rattle.llb_loader.proofs.BytesOfRows.{bared_with, bared_bare, bared_len, bytes_len}
use Rattle.llb_loader.proofs.graph_of_rows.link.Goals as goal

pub link_entries-requires-clause-few : goal.link_entries-requires-clause-few
link_entries-requires-clause-few c =
    let a = ap (λ (xs : List Row). length xs) c.in_ok-bare.ensures in
    let b = bared_len c.args.rows.now in
    let h = c.requires in
    omega (arith, a, b, h)

pub link_entries-requires-clause-len : goal.link_entries-requires-clause-len
link_entries-requires-clause-len c =
    let a = ap (λ (xs : List Row). length xs) c.in_ok-bare.ensures in
    let b = bared_len c.args.rows.now in
    let d = ap (λ (xs : List (List ℕ)). length xs) c.in_ok-entries.ensures in
    let e = bytes_len c.args.rows.now in
    omega (arith, a, b, d, e)

pub link_entries-requires-clause-bare : goal.link_entries-requires-clause-bare
link_entries-requires-clause-bare c = subst (λ (xs : List Row). AreBare xs) (sym c.in_ok-bare.ensures) (bared_bare c.args.rows.now)

pub returns-clause-graph : goal.returns-clause-graph
returns-clause-graph c =
    let same : with_bytes c.in_ok-bare.bare.items c.in_ok-entries.entries.items ≡ c.args.rows.now =
    ap (λ (xs : List Row). with_bytes xs c.in_ok-entries.entries.items) c.in_ok-bare.ensures
    ∙ ap (λ (es : List (List ℕ)). with_bytes (bared c.args.rows.now) es) c.in_ok-entries.ensures ∙ bared_with c.args.rows.now in
    MatchResult-weaker c.link_entries.result c.link_entries.ensures.graph (λ g x. subst (λ (rows : List Row). IsGraphOf rows g) same x) (λ e t. t)

pub returns-clause-refused : goal.returns-clause-refused
returns-clause-refused c =
    let same : with_bytes c.in_ok-bare.bare.items c.in_ok-entries.entries.items ≡ c.args.rows.now =
    ap (λ (xs : List Row). with_bytes xs c.in_ok-entries.entries.items) c.in_ok-bare.ensures
    ∙ ap (λ (es : List (List ℕ)). with_bytes (bared c.args.rows.now) es) c.in_ok-entries.ensures ∙ bared_with c.args.rows.now in
    MatchResult-weaker c.link_entries.result c.link_entries.ensures.refused (λ g t. t)
    (λ e f m. subst (λ (rows : List Row). IsRefusalOf rows e) same (f m))
