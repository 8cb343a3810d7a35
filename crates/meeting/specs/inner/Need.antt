-- What a link needs, summed up demand by demand.
use Rattle.std.specs.Prelude.{ℕ, ◌+◌, ◌*◌, ◌≤◌, ◌≡◌, drop}
use Rattle.request.specs.View.{View}
use Rattle.meeting.specs.Bound.{width_on, demands_on}

-- the widths and the number of the demands on a link, of the first j demands
pub record NeedTo (v : View) (link j widths users : ℕ) : Type 0 where
  pub widths_on : widths + width_on link (drop j v.demands) ≡ width_on link v.demands
  pub users_on : users + demands_on link (drop j v.demands) ≡ demands_on link v.demands
  pub widths_fit : widths ≤ 65535 * j
  pub users_fit : users ≤ j
