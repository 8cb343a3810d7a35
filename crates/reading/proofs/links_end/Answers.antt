use Rattle.std.proofs.Common.{◌≡◌, ℕ, length, get_or, eqb, true, false, sym, ◌∙◌, arith, le-ltb, lt-ltb, eq-eqb, ne_eqb}
use Rattle.reading.specs.Reading.{demands_begin, links_end}
use Rattle.reading.proofs.links_end.Goals as goal
use Rattle.reading.proofs.links_end.Goals.{then-at-file, else-at-file}

pub returns-then-file-at-eq3 : goal.returns-then-file-at-eq3
unfolding links_end demands_begin
returns-then-file-at-eq3 c =
    let s = c.args.file.now in
    let some = lt-ltb 0 c.args.count (omega arith) in
    elim c.if-at-file.branch [
      | then-at-file w ↦ rw (some, eq-eqb c.args.at (length s) w.if-at-file.true) c.if-file-at-eq3.true
      | else-at-file w ↦
          let three : eqb (get_or s c.args.at 0) 3 ≡ true = sym w.value-is ∙ c.if-file-at-eq3.true in
          rw (some, ne_eqb c.args.at (length s) w.if-at-file.false, three) c.if-file-at-eq3.true
    ]

pub returns-else-file-at-eq3 : goal.returns-else-file-at-eq3
unfolding links_end demands_begin
returns-else-file-at-eq3 c =
    let s = c.args.file.now in
    let some = lt-ltb 0 c.args.count (omega arith) in
    elim c.if-at-file.branch [
      | then-at-file w ↦
          let clash : true ≡ false = sym (eq-eqb c.args.at (length s) w.if-at-file.true) ∙ sym w.value-is ∙ c.if-file-at-eq3.false in
          absurd (let z : ◌≡◌ {A = ℕ} 0 1 = cc in omega arith)
      | else-at-file w ↦
          let three : eqb (get_or s c.args.at 0) 3 ≡ false = sym w.value-is ∙ c.if-file-at-eq3.false in
          rw (some, ne_eqb c.args.at (length s) w.if-at-file.false, three)
    ]

pub returns-else-count-ne0 : goal.returns-else-count-ne0
unfolding links_end
returns-else-count-ne0 c = rw (le-ltb 0 c.args.count (omega arith), eq-eqb c.args.count 0 (omega arith))
