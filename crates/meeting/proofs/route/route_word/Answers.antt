use Rattle.std.proofs.Common.{◌≡◌, rules}
use Rattle.std.specs.List.{fold}
use Rattle.meeting.specs.WordLaws.{join_link, word_joined}
use Rattle.meeting.proofs.route.route_word.Goals as goal

pub returns : goal.returns
returns c =
    let all : c.fold.result ≡ fold join_link 0 c.args.route.now = search rules in
    rw all (word_joined c.args.route.now)
