-- What a core keeps while it walks over the events of a round.
use Rattle.std.specs.Prelude.{◌≡◌, ◌<◌, ℕ, ◌||◌, [], map, Option}
use Rattle.aprs_base.specs.Outside.{new_link}
use Rattle.aprs_base.specs.declared.events.Event.{Event}
use Rattle.aprs_history.specs.Trace.{Trace, stopped_links}
use Rattle.aprs_history.specs.declared.verdicts.Verdict.{Verdict}
use Rattle.aprs_base.specs.declared.cutting.Cut.{Cut}
use Rattle.aprs_base.specs.declared.packets.Source.{Source}
use Rattle.aprs_history.specs.Downs.{asked_port}
use Rattle.dupe_window.specs.Windows.{has_copy}
use Rattle.q_construct.specs.declared.origins.Origin.{Origin}
use Rattle.aprs_history.specs.Verdicts.{Carrier, Scene}
use Rattle.aprs_history.specs.History.{greater_link, is_stop}
use Rattle.aprs_history.specs.Stands.{Follows}
use Rattle.server_core.specs.LinkSteps.{after_verdict}
use Rattle.served_links.specs.Links.{logins_at, others_at, speaker_at}
use Rattle.server_core.specs.Meaning.{CoreMeaning, downs_of, peer_of, setting_of}

-- the core follows the trace so far, no stop has ended links, and a packet counts for some seconds
pub record Walks (core : CoreMeaning) (trace : Trace) : Type 0 where
  pub follows : Follows (setting_of core.conf) core.seen trace
  pub going : stopped_links trace ≡ []
  pub lasts : 0 < core.conf.dupe_window

-- configuration, greatest number and stop are as they were
pub record SameRest (old new : CoreMeaning) : Type 0 where
  pub conf : new.conf ≡ old.conf
  pub greatest : new.seen.greatest ≡ old.seen.greatest
  pub stopped : new.seen.stopped ≡ old.seen.stopped

-- configuration, greatest number and stop after an event
pub record AfterEvent (old new : CoreMeaning) (e : Event) : Type 0 where
  pub conf : new.conf ≡ old.conf
  pub greatest : new.seen.greatest ≡ greater_link (new_link e) old.seen.greatest
  pub stopped : new.seen.stopped ≡ (is_stop e || old.seen.stopped)

-- what a line of a link meets
abbrev pub scene_at : CoreMeaning → ℕ → Scene
scene_at core number = record {
  server = core.conf.server;
  speaker = speaker_at number core.seen.links;
  others = others_at number core.seen.links;
  copies = has_copy core.seen.moment core.seen.window;
}

-- what a line of a datagram meets
abbrev pub carried_at : Origin → CoreMeaning → Scene
carried_at origin core = record {
  server = core.conf.server;
  speaker = Carrier origin;
  others = logins_at core.seen.links;
  copies = has_copy core.seen.moment core.seen.window;
}

-- the core after a verdict, where a login asks for its lines at that port
abbrev pub with_port : Source → Option ℕ → Verdict → CoreMeaning → CoreMeaning
with_port from port verdict core = record core { seen = after_verdict core.conf.server (map peer_of core.conf.peers) (downs_of core.conf) from port verdict core.seen }

-- the core after a verdict on what was said
abbrev pub with_verdict : Source → Cut → Verdict → CoreMeaning → CoreMeaning
with_verdict from said verdict core = with_port from (asked_port said verdict) verdict core
