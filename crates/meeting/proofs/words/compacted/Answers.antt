use Rattle.std.proofs.Common.{◌≡◌, sym, length, ℕ, List, ap₂, ap, ◌∙◌, ◌<◌, take, arith}
use Rattle.std.proofs.lemmas.List.{length-map}
use Rattle.request.specs.View.{no_entry, view, view_demand, demand_at, width_of, DemandView}
use Rattle.meeting.specs.declared.Compact.{Compact}
use Rattle.meeting.specs.FillingLaws.{filled_none, filled_more}
use Rattle.meeting.specs.Compact.{word_of, widths_of, words_of, compact_of}
use Rattle.meeting.specs.AskedLaws.{asked_at}
use Rattle.meeting.specs.WordLaws.{word_is}
use Rattle.meeting.specs.CompactLaws.{filled_whole, width_behind, word_behind}
use Rattle.meeting.proofs.words.compacted.Goals as goal

pub loop-j-init : goal.loop-j-init
loop-j-init c = record { widths_filled = filled_none ℕ _ 0 200; words_filled = filled_none ℕ _ 0 200 }

pub loop-j-preserved : goal.loop-j-preserved
unfolding view
loop-j-preserved c =
    let turn = c.loop-j in
    let q = c.args.request in
    let asked = c.asked_of-demand-items.ensures in
    let here = asked_at c.asked_of-demand-items.result.now q.demands q.demand_count turn.j no_entry asked.asked c.loop-j-test.true in
    let inside : turn.j < 200 = omega (arith, asked.room) in
    record {
      widths_filled =
          filled_more ℕ (λ (k : ℕ). width_of (demand_at (view q).demands k)) 0 200 turn.j turn.widths c.width_of.result inside
          (c.width_of.ensures ∙ ap width_of here)
          turn.invariant.widths_filled;
      words_filled =
          filled_more ℕ (λ (k : ℕ). word_of (demand_at (view q).demands k).route) 0 200 turn.j turn.words c.route_word.result inside
          (word_is _ c.route_word.result c.route_word.ensures ∙ ap word_of (c.route.ensures.route ∙ ap (λ (d : DemandView). d.route) here))
          turn.invariant.words_filled;
    }

pub returns : goal.returns
unfolding compact_of widths_of words_of view
returns c =
    let q = c.args.request in
    let v = view q in
    let held : List ℕ → List ℕ → Compact
    = λ widths words. record { slots = v.band.slots; guard = v.band.guard; count = v.demand_count; widths = widths; words = words } in
    let all : length v.demands ≡ length c.asked_of-demand-items.result.now =
    length-map (take q.demand_count q.demands) view_demand ∙ sym (ap length c.asked_of-demand-items.ensures.asked) in
    ap₂ held
    (filled_whole ℕ (λ (k : ℕ). width_of (demand_at v.demands k)) 0 200 c.loop-j.j c.loop-j.widths c.loop-j.invariant.widths_filled
    (λ k h l. width_behind v k (omega (arith, all))))
    (filled_whole ℕ (λ (k : ℕ). word_of (demand_at v.demands k).route) 0 200 c.loop-j.j c.loop-j.words c.loop-j.invariant.words_filled
    (λ k h l. word_behind v k (omega (arith, all))))
