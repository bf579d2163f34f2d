-- Whose link shows refused duplicates: a client's, which came to a listener that does.
use Rattle.std.proofs.Common.{◌≡◌, ℕ, ◌+◌, ◌==◌, length, Bool, true, false, List, [], ◌∷◌, refl, sym, ap, ◌∙◌, subst, arith, Option, Some, None, if◌then◌else◌, nat_lt}
use Rattle.std.specs.Prelude.{slice_get}
use Rattle.std.proofs.lemmas.Bool.{eqb-true, false≢true}
use Rattle.aprs_base.specs.Cuts.{cuts_by}
use Rattle.aprs_base.specs.declared.cutting.Cut.{Cut}
use Rattle.aprs_base.specs.declared.events.Event.{Event}
use Rattle.aprs_base.specs.declared.events.Event.TheVariants as event
use Rattle.aprs_base.specs.declared.events.Sent.TheVariants as sent
use Rattle.aprs_base.specs.declared.events.Happening.TheVariants as did
use Rattle.aprs_base.specs.declared.packets.PortKind.{PortKind}
use Rattle.aprs_base.specs.declared.packets.Source.{Source}
use Rattle.aprs_base.specs.declared.packets.Source.TheVariants as source
use Rattle.aprs_base.specs.declared.texts.Addr.{Addr}
use Rattle.q_construct.specs.declared.origins.Origin.TheVariants as origin
use Rattle.aprs_history.specs.declared.verdicts.Admission.{Admission}
use Rattle.aprs_history.specs.declared.verdicts.Admission.TheVariants.{NoPort, NotAsked, TurnedAway, Served}
use Rattle.aprs_history.specs.declared.verdicts.LinkKind.TheVariants.{Client, Uplink}
use Rattle.aprs_history.specs.Setting.{Setting, is_client_kind, kind_at}
use Rattle.aprs_history.specs.Trace.{Trace, Entry, AtListener, ByUplink, Door, RoundBegan, Opened, Brought, Said, is_live, moment_of}
use Rattle.aprs_history.specs.Links.{brought_by, client_links, opening_by, opening_of}
use Rattle.aprs_history.specs.Verdicts.{Scene, verdict_of}
use Rattle.aprs_history.specs.Scenes.{datagram_scene, scene_of}
use Rattle.aprs_history.specs.History.{History, admission, admitted, bring, datagram_cuts, greatest_link, joined_admission, say_all, trace_of, with_event}
use Rattle.aprs_history.proofs.StepLemmas.{IsOfLink, IsQuiet, Steps, kept_after}
use Rattle.net_history.specs.Network.{ForClient, Made}
use Rattle.net_history.proofs.EventLemmas.{Had, IsFit, is_dupe_port}
use Rattle.net_history.proofs.KindLemmas.{has_dupes}

opening_said : (scene : Trace → Scene) (from : Source) (cuts : List Cut) (t : Trace) (link : ℕ) → opening_of (say_all scene from cuts t) link ≡ opening_of t link
opening_said scene from [] t link = refl
opening_said scene from (said ∷ cuts) t link = opening_said scene from cuts (Said from said (verdict_of (scene t) said) ∷ t) link

module _ (s : Setting) (made : List Made) where
  abbrev Dupes : Trace → Type 0
  Dupes t = (place : ℕ) → has_dupes (opening_of t (place + 1)) ≡ true → slice_get made place ≡ Some ForClient

  dupes_said : (scene : Trace → Scene) (from : Source) (cuts : List Cut) (t : Trace) → Dupes t → Dupes (say_all scene from cuts t)
  dupes_said scene from cuts t dupes place is = dupes place (ap has_dupes (sym (opening_said scene from cuts t (place + 1))) ∙ is)

  dupes_quiet : (t : Trace) (entry : Entry) → IsQuiet entry → Dupes t → Dupes (entry ∷ t)
  dupes_quiet t RoundBegan quiet dupes = absurd quiet
  dupes_quiet t (Opened door new link from) quiet dupes = absurd quiet
  dupes_quiet t (Brought link bytes) quiet dupes = absurd quiet
  dupes_quiet t (Said from said verdict) quiet dupes = absurd quiet
  dupes_quiet t entry quiet dupes = dupes

  dupes_steps : Steps s Dupes
  dupes_steps = record {
    quiet = dupes_quiet;
    refused = λ t listener said why alone dupes. dupes;
    submitted = λ t listener bytes first cuts login are is dupes. dupes_said (datagram_scene s (origin.Udp login)) (source.Submit listener) cuts t dupes;
    relayed = λ t from bytes peer is dupes. dupes_said (datagram_scene s (origin.Peer peer.1)) (source.Peer peer.0) (datagram_cuts bytes) t dupes;
  }

  -- a client's opening is by its listener
  client_dupes : (most there moment : ℕ) (from : Addr) (served : Option PortKind) → has_dupes (opening_by (admitted most there served) from moment) ≡ true → is_dupe_port served ≡ true
  client_dupes most there moment from None is = absurd (false≢true is)
  client_dupes most there moment from (Some kind) is = of (is_client_kind kind) (nat_lt there most) is
    where
      of : (client room : Bool) → has_dupes (opening_by (if client then (if room then Served (Client kind) else TurnedAway) else NoPort) from moment) ≡ true → is_dupe_port (Some kind) ≡ true
      of true true is = is
      of true false is = absurd (false≢true is)
      of false room is = absurd (false≢true is)

  uplink_dupes : (asked : Bool) (uplink moment : ℕ) (at : Addr) → has_dupes (opening_by (if asked then Served (Uplink uplink) else NotAsked) at moment) ≡ true → ⊥
  uplink_dupes true uplink moment at is = false≢true is
  uplink_dupes false uplink moment at is = false≢true is

  dupes_opened : (t : Trace) (door : Door) (new : Admission) (links opened : ℕ) (from : Addr) → opened ≡ links + 1
      → (has_dupes (opening_by new from (moment_of t)) ≡ true → slice_get made links ≡ Some ForClient) → Dupes t → Dupes (Opened door new opened from ∷ t)
  dupes_opened t door new links opened from next own dupes place = of (place + 1 == opened) refl
    where
      of : (b : Bool) → (place + 1 == opened) ≡ b → has_dupes (if b then opening_by new from (moment_of t) else opening_of t (place + 1)) ≡ true → slice_get made place ≡ Some ForClient
      of true here is = let same = eqb-true (place + 1) opened here in let at : links ≡ place = omega (arith, same, next) in subst (λ p. slice_get made p ≡ Some ForClient) at (own is)
      of false other is = dupes place is

  dupes_of_link : (links : ℕ) (e : Event) → IsFit s made links e → (t : Trace) → IsOfLink e → Dupes t → Dupes (with_event s e t)
  dupes_of_link links (event.Opened listener opened from) fit t is dupes =
      dupes_opened t (AtListener listener) (admission s t listener) links opened from fit.0
      (λ has. fit.1 (client_dupes s.max_clients (length (client_links t)) (moment_of t) from (kind_at s listener) has)) dupes
  dupes_of_link links (event.Joined uplink opened at) fit t is dupes =
      dupes_opened t (ByUplink uplink) (joined_admission s t uplink opened) links opened at fit.0 (λ has. absurd (uplink_dupes _ uplink (moment_of t) at has)) dupes
  dupes_of_link links (event.Bytes k bytes) fit t is dupes = of (is_live t k)
    where
      of : (b : Bool) → Dupes (if b then bring s k bytes t else t)
      of true = dupes_said (λ now. scene_of s now k) (source.Link k) (cuts_by (brought_by t k) bytes) (Brought k bytes ∷ t) dupes
      of false = dupes
  dupes_of_link links e fit t is dupes = absurd is

  pub dupes_history : (h : History) → Had s made h → Dupes (trace_of s h)
  unfolding trace_of
  dupes_history [] had = λ place is. absurd (false≢true is)
  dupes_history (did.Event e ∷ h) had = kept_after s Dupes dupes_steps (λ t dupes. dupes) h e (dupes_of_link (greatest_link h) e had.1) (dupes_history h had.0)
  dupes_history (did.Sent link bytes (sent.Took n) ∷ h) had = dupes_history h had
  dupes_history (did.Sent link bytes sent.Gone ∷ h) had = dupes_history h had
  dupes_history (did.Listen n ∷ h) had = dupes_history h had
  dupes_history (did.Dialled n ∷ h) had = dupes_history h had
  dupes_history (did.Cast to bytes ∷ h) had = dupes_history h had
  dupes_history (did.Closed link ∷ h) had = dupes_history h had
