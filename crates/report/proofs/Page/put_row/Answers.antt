-- A block of the band gives its row.
use Rattle.std.proofs.Common.{◌+◌, ◌<◌, ℕ, ap, sym, ◌∙◌, arith, rules, Fits, SFits, to_z-of_z}
use mir.Syntax.{w32, w64, w16}
use Rattle.grid.specs.SignedLaws.{widened}
use Rattle.grid.specs.Grid.{frequency_reply}
use Rattle.request.specs.View.{view_demand}
use Rattle.report.specs.declared.Page.{Page}
use Rattle.report.specs.Text.{appended}
use Rattle.report.specs.TextLaws.{appended_none, appended_length}
use Rattle.report.specs.Lines.{row_line}
use Rattle.report.specs.LinesLaws.{row_length}
use Rattle.report.specs.RowsLaws.{frequency_small, row_centred, row_none}
use Rattle.report.proofs.Page.put_row.Goals as goal

pub returns-in-Ok : goal.returns-in-Ok
unfolding view_demand
returns-in-Ok c =
    let a = c.args in
    let page = a.self.now in
    let w = c.width_of-width.result in
    let is = c.width_of-width.ensures in
    let named : a.demand.ident < 65536 = omega arith in
    let wide : Fits w16 w = search rules in
    let f = c.in-Ok.centre in
    let centred = sym c.to_frequency.ensures ∙ c.in-Ok.is in
    let small = frequency_small a.band a.start w f centred (omega arith) (omega arith) (omega arith) in
    let n_fits : SFits w32 f.n = record { sfits = omega arith } in
    let mhz_fits : SFits w64 f.mhz = record { sfits = omega arith } in
    let row = row_centred a.band (view_demand a.demand) a.start f (ap (frequency_reply a.band a.start) (sym is) ∙ centred) in
    let put = rw (c.from.ensures, c.from-2.ensures, c.from-in-Ok.ensures, widened w32 w64 f.n tt n_fits, to_z-of_z mhz_fits) at c.put_row_line.ensures in
    let line = row_line a.demand.ident a.start (a.start + w) f.n f.mhz in record {
      value = put ∙ ap (λ (n : ℕ). appended page (row_line a.demand.ident a.start (a.start + n) f.n f.mhz)) is ∙ ap (appended page) (sym row);
      len_bound = omega (
        arith,
        ap (λ (p : Page). p.len) put,
        appended_length page line,
        row_length a.demand.ident a.start (a.start + w) f.n f.mhz (omega arith) (omega arith) (omega arith) small.0 small.1,
      );
    }

pub returns-in_default-clause-value : goal.returns-in_default-clause-value
unfolding view_demand
returns-in_default-clause-value c =
    let a = c.args in
    let none = row_none a.band (view_demand a.demand) a.start c.in_default.field-0
    (ap (frequency_reply a.band a.start) (sym c.width_of-width.ensures) ∙ sym c.to_frequency.ensures ∙ c.in_default.is) in
    sym (ap (appended a.self.now) none ∙ appended_none a.self.now)
