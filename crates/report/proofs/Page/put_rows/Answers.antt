-- At each turn the page with the rows left is the page with all rows.
use Rattle.std.proofs.Common.{ℕ, ◌≡◌, ap, sym, ◌∙◌, arith, rules, length}
use Rattle.request.proofs.Arrays.{whole}
use Rattle.report.specs.Text.{appended}
use Rattle.report.specs.TextLaws.{appended_none}
use Rattle.report.specs.RowsLaws.{row_on, rows_done}
use Rattle.report.proofs.Page.put_rows.Goals as goal

pub loop-k-preserved : goal.loop-k-preserved
loop-k-preserved c =
    let met = c.loop-k in
    let starts : ◌≡◌ {A = ℕ} (length c.args.starts) 20 = search rules in
    let whole_request = whole c.args.request _ c.well_formed.1.0 in (
      omega arith,
      row_on c.args.request c.args.starts met.k met.self whole_request.all_demands starts c.requires.demand_count_bound (omega arith) c.put_row.ensures.value
          ∙ met.invariant.1,
    )

pub returns-clause-value : goal.returns-clause-value
returns-clause-value c =
    let met = c.loop-k in
    sym (appended_none met.self)
    ∙ ap (appended met.self) (sym (rows_done c.args.request c.args.starts met.k (omega arith)))
    ∙ met.invariant.1
