-- What is true of every core.
use Rattle.std.specs.Prelude.{◌<◌, ◌≤◌, ◌^◌, ℕ, IsTrue, length}
use Rattle.aprs_base.specs.Bytes.{is_station}
use Rattle.aprs_conf.specs.Sound.{IsGroup}
use Rattle.dupe_window.specs.Windows.{AreInside, IsUpTo, WindowSeen}
use Rattle.served_links.specs.Links.{Rises, numbers}
use Rattle.server_core.specs.Meaning.{CoreMeaning, numbered}

-- a window has what came in its last seconds, and nothing that is past
pub record IsCurrent (now : ℕ) (window : WindowSeen) : Type 0 where
  pub up_to : IsUpTo now window
  pub inside : AreInside now window
  pub lasts : 0 < window.seconds

-- its links are in the order of their numbers, which aren't above the greatest; its server is a station, and so are its few
-- peers; its listeners are few; and its window is that of its moment
pub record IsKept (core : CoreMeaning) : Type 0 where
  pub rising : Rises 0 (numbers core.seen.links) core.seen.greatest
  pub small : core.seen.greatest < 2 ^ 32
  pub station : IsTrue (is_station core.conf.server)
  pub group : IsGroup core.conf.group core.conf.peers
  pub few : length (numbered core.conf.listens) ≤ 16
  pub window : IsCurrent core.seen.moment core.seen.window
