use Rattle.std.proofs.Common.{sym, ◌∙◌}
use Rattle.meeting.specs.WordLaws.{share_word}
use Rattle.meeting.proofs.route.Worded.met_by.Goals as goal

pub returns-in-Some : goal.returns-in-Some
returns-in-Some c =
    let told = c.args.self.now.tells _ c.in-Some.is in
    c.share_bit.ensures ∙ share_word _ _ c.route_word.result _ c.route_word.ensures told.0 told.1
