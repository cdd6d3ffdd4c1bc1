use Rattle.std.proofs.Common.{◌≡◌, ℕ, ◌-◌, ◌<◌, Option, length, sym, ◌∙◌, ap, arith}
use Rattle.std.specs.Option.{unwrap_or}
use Rattle.llb_loader.specs.declared.row.Row.{Row}
use Rattle.llb_loader.specs.RowLookup.{row_at, first_with}
use Rattle.llb_loader.proofs.FirstRowOfDigest.{row_read, terminal_is, last_there}
use Rattle.llb_loader.proofs.row_lookup.terminal_of.Goals as goal

pub returns-in-Some-clause-terminal : goal.returns-in-Some-clause-terminal
returns-in-Some-clause-terminal c =
    let last : length c.args.rows.now - 1 < length c.args.rows.now = (let h = c.requires.some in omega (arith, h)) in
    let read = row_read c.args.rows.now (length c.args.rows.now - 1) c.index-rows-rows.result last c.index-rows-rows.is in
    let dig : (row_at c.args.rows.now (length c.args.rows.now - 1)).digest ≡ c.as_str.result.now =
    ap (λ (r : Row). r.digest) (read ∙ c.index-rows-rows.is) ∙ sym c.as_str.ensures.value in
    terminal_is c.args.rows.now c.in-Some.row.now c.requires.some c.requires.apart (ap (first_with c.args.rows.now) dig
    ∙ sym (c.requires.index c.as_str.result.now) ∙ sym c.in-Some.ensures.value)

pub returns-in-Some-clause-found : goal.returns-in-Some-clause-found
returns-in-Some-clause-found c =
    let last : length c.args.rows.now - 1 < length c.args.rows.now = (let h = c.requires.some in omega (arith, h)) in
    let read = row_read c.args.rows.now (length c.args.rows.now - 1) c.index-rows-rows.result last c.index-rows-rows.is in
    let dig : (row_at c.args.rows.now (length c.args.rows.now - 1)).digest ≡ c.as_str.result.now =
    ap (λ (r : Row). r.digest) (read ∙ c.index-rows-rows.is) ∙ sym c.as_str.ensures.value in
    ap (λ (o : Option ℕ). unwrap_or o 0) (sym (ap (first_with c.args.rows.now) dig ∙ sym (c.requires.index c.as_str.result.now) ∙ sym c.in-Some.ensures.value))

pub returns-in-None : goal.returns-in-None
returns-in-None c =
    let last : length c.args.rows.now - 1 < length c.args.rows.now = (let h = c.requires.some in omega (arith, h)) in
    let read = row_read c.args.rows.now (length c.args.rows.now - 1) c.index-rows-rows.result last c.index-rows-rows.is in
    let dig : (row_at c.args.rows.now (length c.args.rows.now - 1)).digest ≡ c.as_str.result.now =
    ap (λ (r : Row). r.digest) (read ∙ c.index-rows-rows.is) ∙ sym c.as_str.ensures.value in
    absurd (last_there c.args.rows.now c.requires.some (ap (first_with c.args.rows.now) dig ∙ sym (c.requires.index c.as_str.result.now)
    ∙ sym c.in-None.ensures.value))
