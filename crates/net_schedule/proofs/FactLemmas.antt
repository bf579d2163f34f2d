-- What holds of the networks that steps make, as far as a running network needs it.
use Rattle.std.proofs.Common.{◌≡◌, ℕ, ◌<◌, ◌&&◌, true, false, not, List, [], length, refl, Option, Some, None}
use Rattle.std.specs.Prelude.{slice_get, is_some}
use Rattle.std.proofs.lemmas.Bool.{false≢true}
use Rattle.aprs_history.specs.Headline.{taken_bytes}
use Rattle.aprs_history.specs.History.{greatest_link, is_round_event, open_events}
use Rattle.aprs_history.specs.Trace.{is_live}
use Rattle.net_history.specs.declared.events.NetEvent.{NetEvent}
use Rattle.net_history.specs.Apart.{Apart, HasTwoEnds}
use Rattle.net_history.specs.Laws.{Rests}
use Rattle.net_history.specs.Network.{Layout, NetSeen, ServerSeen, trace_at}
use Rattle.net_history.specs.Openings.{WasOpened, is_heard}
use Rattle.net_history.specs.Places.{Each}
use Rattle.net_history.specs.Steps.{has_ended, network_of}
use Rattle.net_history.proofs.ApartLemmas.{networks_apart, networks_part_ends}
use Rattle.net_history.proofs.CalmLemmas.{networks_are_calm}
use Rattle.net_history.proofs.ClientLemmas.{client_has_ended, unknown_has_not_ended}
use Rattle.net_history.proofs.FinishLemmas.{rounds_are_finished}
use Rattle.net_history.proofs.GrowthLemmas.{Kept}
use Rattle.net_history.proofs.RunLemmas.{Comes, servers_run}
use Rattle.net_history.proofs.StreamLemmas.{networks_kept}
use Rattle.net_history.proofs.CountLemmas.{comes_fresh, networks_come, unmade_take_nothing}
use Rattle.net_schedule.specs.Waiting.{Waits}

pub record AtServer (layout : Layout) (place : ℕ) (s : ServerSeen) : Type 0 where
  pub rests : Rests s
  pub setting : slice_get layout.servers place ≡ Some s.setting
  pub finished : open_events s.history ≡ 0
  pub calm : Each (λ e. is_round_event e ≡ false) s.arrivals
  pub come : Comes (greatest_link s.history) s.arrivals (length s.made)
  pub unmade : (link : ℕ) → length s.made < link → taken_bytes s.history link ≡ []
  pub ended : (listener link : ℕ) → WasOpened listener link s.history → has_ended (trace_at s) link ≡ (is_heard s.setting listener && not (is_live (trace_at s) link))
  pub unknown : (link : ℕ) → greatest_link s.history < link → has_ended (trace_at s) link ≡ false

pub record Facts (layout : Layout) (n : NetSeen) : Type 0 where
  pub kept : Kept n
  pub apart : Apart n
  pub two : HasTwoEnds n
  pub servers : (place : ℕ) (s : ServerSeen) → slice_get n.servers place ≡ Some s → AtServer layout place s

pub facts_of : (layout : Layout) (steps : List NetEvent) → Facts layout (network_of layout steps)
facts_of layout steps = record {
  kept = networks_kept layout steps;
  apart = networks_apart layout steps;
  two = networks_part_ends layout steps;
  servers = λ place s at.
      let runs = servers_run layout steps place s at in
      record {
        rests = runs.0;
        setting = runs.1;
        finished = rounds_are_finished layout steps place s at;
        calm = networks_are_calm layout steps place s at;
        come = networks_come layout steps place s at;
        unmade = unmade_take_nothing layout steps place s at;
        ended = client_has_ended layout steps place s at;
        unknown = unknown_has_not_ended layout steps place s at;
      };
}

-- what waits for a server that is there may come
pub waits_for : (layout : Layout) (n : NetSeen) → Facts layout n → (server : ℕ) → is_some (slice_get n.servers server) ≡ true → Waits server n
waits_for layout n facts server there = of (slice_get n.servers server) refl there
  where
    of : (o : Option ServerSeen) → slice_get n.servers server ≡ o → is_some o ≡ true → Waits server n
    of None at some = absurd (false≢true some)
    of (Some s) at some = let holds = facts.servers server s at in record { server = s; there = at; fresh = (comes_fresh (greatest_link s.history) (length s.made) s.arrivals holds.come).0; calm = holds.calm; going = holds.rests.going }
