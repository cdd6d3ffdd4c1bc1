use Rattle.std.proofs.Common.{◌≡◌, ℕ, List, length, sym, ◌∙◌, ap, subst, arith}
use Rattle.std.proofs.lemmas.Result.{MatchResult-weaker}
use Rattle.llb_loader.specs.declared.row.Row.{Row}
use Rattle.llb_loader.specs.RowsWithoutBytes.{with_bytes, AreBare, titles_from}
use Rattle.llb_loader.specs.LoadResult.{rows_from}
use Rattle.llb_loader.specs.GraphOfRowsResult.{IsGraphOf, IsRefusalOf}
use Rattle.llb_loader.proofs.BytesOfRows.{titles_with, titles_bare, titles_len}
use Rattle.llb_loader.proofs.loading.linked.Goals as goal

pub link_entries-requires-clause-few : goal.link_entries-requires-clause-few
link_entries-requires-clause-few c =
    let rows = ap (λ (xs : List Row). length xs) (c.in_ok-rows.ensures ∙ ap titles_from c.as_slice.ensures) in
    let n = titles_len c.args.entries in
    let few = c.requires in
    omega (arith, few, rows, n)

pub link_entries-requires-clause-len : goal.link_entries-requires-clause-len
link_entries-requires-clause-len c =
    let rows = ap (λ (xs : List Row). length xs) (c.in_ok-rows.ensures ∙ ap titles_from c.as_slice.ensures) in
    let n = titles_len c.args.entries in
    let es = ap (λ (xs : List (List ℕ)). length xs) c.into_vec.ensures in
    omega (arith, es, rows, n)

pub link_entries-requires-clause-bare : goal.link_entries-requires-clause-bare
link_entries-requires-clause-bare c = subst (λ (xs : List Row). AreBare xs) (sym (c.in_ok-rows.ensures ∙ ap titles_from c.as_slice.ensures))
    (titles_bare c.args.entries)

pub returns-clause-graph : goal.returns-clause-graph
returns-clause-graph c =
    let same : with_bytes c.in_ok-rows.rows.items c.into_vec.result.items ≡ rows_from c.args.entries =
    ap (λ (xs : List Row). with_bytes xs c.into_vec.result.items) (c.in_ok-rows.ensures ∙ ap titles_from c.as_slice.ensures)
    ∙ ap (λ (es : List (List ℕ)). with_bytes (titles_from c.args.entries) es) c.into_vec.ensures ∙ titles_with c.args.entries in
    MatchResult-weaker c.link_entries.result c.link_entries.ensures.graph (λ g x. subst (λ (rows : List Row). IsGraphOf rows g) same x) (λ e t. t)

pub returns-clause-refused : goal.returns-clause-refused
returns-clause-refused c =
    let same : with_bytes c.in_ok-rows.rows.items c.into_vec.result.items ≡ rows_from c.args.entries =
    ap (λ (xs : List Row). with_bytes xs c.into_vec.result.items) (c.in_ok-rows.ensures ∙ ap titles_from c.as_slice.ensures)
    ∙ ap (λ (es : List (List ℕ)). with_bytes (titles_from c.args.entries) es) c.into_vec.ensures ∙ titles_with c.args.entries in
    MatchResult-weaker c.link_entries.result c.link_entries.ensures.refused (λ g t. t)
    (λ e f m. subst (λ (rows : List Row). IsRefusalOf rows e) same (f m))
