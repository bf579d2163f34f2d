-- What peers say: the lines of the datagrams that came from them, in order. What is accepted in a datagram of one line comes from a peer.
use Rattle.std.proofs.Common.{◌≡◌, ℕ, ◌+◌, ◌/◌, ◌==◌, nat_lt, Bool, true, false, List, [], ◌∷◌, ◌++◌, length, refl, sym, ap, ◌∙◌, subst, Option, Some, None, Result, Ok, Err, append-nil, append_assoc, length-append, if◌then◌else◌}
use Rattle.std.specs.Bool.{⊤}
use Rattle.std.proofs.lemmas.Grind.{flat_map-append}
use Rattle.std.specs.List.{flat_map}
use Rattle.aprs_base.specs.Cuts.{cuts_by}
use Rattle.aprs_base.specs.PartsSeen.{PartsSeen}
use Rattle.aprs_base.specs.declared.cutting.Cut.{Cut}
use Rattle.aprs_base.specs.declared.cutting.Cut.TheVariants as cut
use Rattle.aprs_base.specs.declared.events.Event.{Event}
use Rattle.aprs_base.specs.declared.events.Event.TheVariants as event
use Rattle.aprs_base.specs.declared.events.Sent.TheVariants as sent
use Rattle.aprs_base.specs.declared.events.Happening.TheVariants as did
use Rattle.aprs_base.specs.declared.packets.PortKind.{PortKind}
use Rattle.aprs_base.specs.declared.packets.PortKind.TheVariants as kind
use Rattle.aprs_base.specs.declared.packets.Source.{Source}
use Rattle.aprs_base.specs.declared.packets.Source.TheVariants as source
use Rattle.aprs_base.specs.declared.texts.Addr.{Addr}
use Rattle.q_construct.specs.declared.origins.Origin.TheVariants as origin
use Rattle.aprs_history.specs.declared.verdicts.EndReason.{EndReason}
use Rattle.aprs_history.specs.declared.verdicts.EndReason.TheVariants.{ByPeer, FoundGone, ByStop}
use Rattle.aprs_history.specs.declared.verdicts.Refusal.{Refusal}
use Rattle.aprs_history.specs.declared.verdicts.Verdict.{Verdict}
use Rattle.aprs_history.specs.declared.verdicts.Verdict.TheVariants.{Accepted, Refused}
use Rattle.aprs_history.specs.Setting.{Setting, kind_at, peer_from}
use Rattle.aprs_history.specs.Trace.{Trace, Brought, Dated, Ended, RoundBegan, Roomed, Said, Ticked, is_live, live_links, moment_of}
use Rattle.aprs_history.specs.Links.{brought_by, gone_links, late_links, late_reason}
use Rattle.aprs_history.specs.Verdicts.{Scene, submitter_of, verdict_of}
use Rattle.aprs_history.specs.Scenes.{datagram_scene, scene_of}
use Rattle.aprs_history.specs.History.{History, begin_round, begun, bring, comment_seconds, datagram_cuts, dated, end_each, end_stopped, ended, ends_round, is_stop, open_events, refused_links, refused_reason, relay, say_all, submit, trace_of, with_event, with_lines, with_tick}
use Rattle.net_history.specs.Descents.{is_from_peer, said_by_peers}

-- what peers said, in order
abbrev pub peers_said : Trace → List Cut
peers_said [] = []
peers_said (Said from said verdict ∷ earlier) = if is_from_peer from then peers_said earlier ++ said ∷ [] else peers_said earlier
peers_said (entry ∷ earlier) = peers_said earlier

-- what was accepted of stations that submit datagrams
abbrev pub handed_in : Source → Verdict → List PartsSeen
handed_in (source.Submit listener) (Accepted parts line) = parts ∷ []
handed_in from verdict = []

abbrev pub handed : Trace → List PartsSeen
handed [] = []
handed (Said from said verdict ∷ earlier) = handed earlier ++ handed_in from verdict
handed (entry ∷ earlier) = handed earlier

-- the bytes of a datagram that is a peer's
abbrev pub carried_by : Option PortKind → Option (ℕ × List ℕ) → List ℕ → List (List ℕ)
carried_by (Some kind.Core) (Some peer) bytes = bytes ∷ []
carried_by served peer bytes = []

abbrev pub carried : Setting → Event → List (List ℕ)
carried s (event.Datagram listener from bytes) = carried_by (kind_at s listener) (peer_from 0 s.peers from) bytes
carried s e = []

abbrev pub carried_in : Setting → History → List (List ℕ)
carried_in s [] = []
carried_in s (did.Event e ∷ earlier) = carried_in s earlier ++ carried s e
carried_in s (x ∷ earlier) = carried_in s earlier

-- a datagram has one line
abbrev pub IsOneLine : Event → Type 0
IsOneLine (event.Datagram listener from bytes) = (line : List ℕ) × (datagram_cuts bytes ≡ cut.Line line ∷ [])
IsOneLine e = ⊤

-- ---- what says nothing of them

record Same (t u : Trace) : Type 0 where
  said : peers_said u ≡ peers_said t
  handed : handed u ≡ handed t

same_here : (t : Trace) → Same t t
same_here t = record { said = refl; handed = refl }

same_both : (t u v : Trace) → Same t u → Same u v → Same t v
same_both t u v first later = record { said = later.said ∙ first.said; handed = later.handed ∙ first.handed }

same_if : (b : Bool) (t u v : Trace) → Same t u → Same t v → Same t (if b then u else v)
same_if true t u v first second = first
same_if false t u v first second = second

same_each : (reason : ℕ → EndReason) (links : List ℕ) (t : Trace) → Same t (end_each reason links t)
same_each reason [] t = same_here t
same_each reason (link ∷ links) t = let later = same_each reason links (Ended link (reason link) ∷ t) in record { said = later.said; handed = later.handed }

same_link : (scene : Trace → Scene) (link : ℕ) (cuts : List Cut) (t : Trace) → Same t (say_all scene (source.Link link) cuts t)
same_link scene link [] t = same_here t
same_link scene link (said ∷ cuts) t =
    let later = same_link scene link cuts (Said (source.Link link) said (verdict_of (scene t) said) ∷ t) in
    record { said = later.said; handed = later.handed ∙ append-nil (handed t) }

same_bring : (s : Setting) (link : ℕ) (bytes : List ℕ) (t : Trace) → Same t (bring s link bytes t)
same_bring s link bytes t =
    let later = same_link (λ now. scene_of s now link) link (cuts_by (brought_by t link) bytes) (Brought link bytes ∷ t) in
    record { said = later.said; handed = later.handed }

same_dated : (before : ℕ) (t : Trace) → Same t (dated before t)
same_dated before t = same_if (nat_lt (before / comment_seconds) (moment_of t / comment_seconds)) t (Dated (moment_of t) ∷ t) t (record { said = refl; handed = refl }) (same_here t)

same_tick : (s : Setting) (moment : ℕ) (t : Trace) → Same t (with_tick s moment t)
same_tick s moment t =
    let now : Trace = Ticked moment ∷ t in
    let ended' = same_each (late_reason now) (late_links s now) now in
    let later = same_dated (moment_of t) (end_each (late_reason now) (late_links s now) now) in
    record { said = later.said ∙ ended'.said; handed = later.handed ∙ ended'.handed }

same_begun : (n : ℕ) (t : Trace) → Same t (begun n t)
same_begun n t =
    let now : Trace = RoundBegan ∷ t in
    let gone = same_each (λ link. FoundGone) (gone_links now) now in
    same_if (n == 0) t (begin_round t) t (record { said = gone.said; handed = gone.handed }) (same_here t)

same_stopped : (stop : Bool) (t : Trace) → Same t (end_stopped stop t)
same_stopped false t = same_here t
same_stopped true t = same_each (λ link. ByStop) (live_links t) t

same_ended : (s : Setting) (ends : Bool) (e : Event) (t : Trace) → Same t (ended s ends e t)
same_ended s false e t = same_here t
same_ended s true e t =
    let u = end_each (refused_reason t) (refused_links s t) t in
    same_both t u (end_stopped (is_stop e) u) (same_each (refused_reason t) (refused_links s t) t) (same_stopped (is_stop e) u)

-- ---- a datagram

record Adds (more : List Cut) (t u : Trace) : Type 0 where
  said : peers_said u ≡ peers_said t ++ more
  handed : handed u ≡ handed t

adds_none : (t u : Trace) → Same t u → Adds [] t u
adds_none t u same = record { said = same.said ∙ sym (append-nil (peers_said t)); handed = same.handed }

adds_said : (scene : Trace → Scene) (peer : ℕ) (cuts : List Cut) (t : Trace) → Adds cuts t (say_all scene (source.Peer peer) cuts t)
adds_said scene peer [] t = adds_none t t (same_here t)
adds_said scene peer (said ∷ cuts) t =
    let later = adds_said scene peer cuts (Said (source.Peer peer) said (verdict_of (scene t) said) ∷ t) in
    record { said = later.said ∙ append_assoc (peers_said t) (said ∷ []) cuts; handed = later.handed ∙ append-nil (handed t) }

refused_same : (t : Trace) (listener : ℕ) (said : Cut) (why : Refusal) → Same t (Said (source.Submit listener) said (Refused why) ∷ t)
refused_same t listener said why = record { said = refl; handed = append-nil (handed t) }

submit_same : (s : Setting) (listener : ℕ) (said : Cut) (by : Result (List ℕ) Refusal) (t : Trace) → Same t (submit s listener said [] by t)
submit_same s listener said (Err why) t = refused_same t listener said why
submit_same s listener said (Ok login) t = same_here t

relay_adds : (s : Setting) (listener : ℕ) (said : Cut) (bytes : List ℕ) (peer : Option (ℕ × List ℕ)) (t : Trace) → datagram_cuts bytes ≡ said ∷ [] → Adds (flat_map datagram_cuts (carried_by (Some kind.Core) peer bytes)) t (relay s listener said [] peer t)
relay_adds s listener said bytes None t is = adds_none t _ (refused_same t listener said _)
relay_adds s listener said bytes (Some peer) t is =
    subst (λ more. Adds more t (relay s listener said [] (Some peer) t)) (sym (append-nil (datagram_cuts bytes) ∙ is)) (adds_said (datagram_scene s (origin.Peer peer.1)) peer.0 (said ∷ []) t)

lines_add : (s : Setting) (served : Option PortKind) (listener : ℕ) (from : Addr) (said : Cut) (bytes : List ℕ) (t : Trace) → datagram_cuts bytes ≡ said ∷ []
    → Adds (flat_map datagram_cuts (carried_by served (peer_from 0 s.peers from) bytes)) t (with_lines s served listener from (said ∷ []) t)
lines_add s (Some kind.Submit) listener from said bytes t is = adds_none t _ (submit_same s listener said (submitter_of s.server said) t)
lines_add s (Some kind.Core) listener from said bytes t is = relay_adds s listener said bytes (peer_from 0 s.peers from) t is
lines_add s (Some kind.Full) listener from said bytes t is = adds_none t t (same_here t)
lines_add s (Some kind.Igate) listener from said bytes t is = adds_none t t (same_here t)
lines_add s (Some kind.Only) listener from said bytes t is = adds_none t t (same_here t)
lines_add s (Some kind.Dupe) listener from said bytes t is = adds_none t t (same_here t)
lines_add s None listener from said bytes t is = adds_none t t (same_here t)

event_adds : (s : Setting) (e : Event) (t : Trace) → IsOneLine e → Adds (flat_map datagram_cuts (carried s e)) t (with_event s e t)
event_adds s (event.Tick moment) t one = adds_none t _ (same_tick s moment t)
event_adds s (event.Opened listener link from) t one = adds_none t _ (record { said = refl; handed = refl })
event_adds s (event.Bytes link bytes) t one = adds_none t _ (same_if (is_live t link) t (bring s link bytes t) t (same_bring s link bytes t) (same_here t))
event_adds s (event.Ended link) t one = adds_none t _ (same_if (is_live t link) t (Ended link ByPeer ∷ t) t (record { said = refl; handed = refl }) (same_here t))
event_adds s (event.Room link) t one = adds_none t _ (same_if (is_live t link) t (Roomed link ∷ t) t (record { said = refl; handed = refl }) (same_here t))
event_adds s event.Stop t one = adds_none t t (same_here t)
event_adds s (event.Joined uplink link at) t one = adds_none t _ (record { said = refl; handed = refl })
event_adds s (event.Unjoined uplink) t one = adds_none t _ (record { said = refl; handed = refl })
event_adds s (event.Datagram listener from bytes) t one =
    subst (λ cuts. Adds (flat_map datagram_cuts (carried_by (kind_at s listener) (peer_from 0 s.peers from) bytes)) t (with_lines s (kind_at s listener) listener from cuts t)) (sym one.1)
    (lines_add s (kind_at s listener) listener from (cut.Line one.0) bytes t one.1)

-- ---- a history

abbrev pub OneLineEach : History → Type 0
OneLineEach [] = ⊤
OneLineEach (did.Event e ∷ earlier) = OneLineEach earlier × IsOneLine e
OneLineEach (x ∷ earlier) = OneLineEach earlier

abbrev Whole : Setting → History → Trace → Type 0
Whole s h t = (peers_said t ≡ flat_map datagram_cuts (carried_in s h)) × (handed t ≡ [])

pub mail_history : (s : Setting) (h : History) → OneLineEach h → Whole s h (trace_of s h)
unfolding trace_of
mail_history s [] one = (refl, refl)
mail_history s (did.Event e ∷ h) one =
    let t = trace_of s h in
    let begins = begun (open_events h) t in
    let before = mail_history s h one.0 in
    let began = same_begun (open_events h) t in
    let adds = event_adds s e begins one.1 in
    let ends = same_ended s (ends_round (open_events h) e) e (with_event s e begins) in (
      ends.said ∙ adds.said ∙ ap (λ cuts. cuts ++ flat_map datagram_cuts (carried s e)) (began.said ∙ before.0) ∙ sym (flat_map-append datagram_cuts (carried_in s h) (carried s e)),
      ends.handed ∙ adds.handed ∙ began.handed ∙ before.1,
    )
mail_history s (did.Sent link bytes (sent.Took n) ∷ h) one = mail_history s h one
mail_history s (did.Sent link bytes sent.Gone ∷ h) one = mail_history s h one
mail_history s (did.Listen n ∷ h) one = mail_history s h one
mail_history s (did.Dialled n ∷ h) one = mail_history s h one
mail_history s (did.Cast to bytes ∷ h) one = mail_history s h one
mail_history s (did.Closed link ∷ h) one = mail_history s h one

-- how many they said
pub said_count : (t : Trace) → said_by_peers t ≡ length (peers_said t)
said_count [] = refl
said_count (Said from said verdict ∷ t) = of (is_from_peer from) (said_count t)
  where
    of : (b : Bool) → said_by_peers t ≡ length (peers_said t) → (if b then said_by_peers t + 1 else said_by_peers t) ≡ length (if b then peers_said t ++ said ∷ [] else peers_said t)
    of true before = ap (λ n. n + 1) before ∙ sym (length-append (peers_said t) (said ∷ []))
    of false before = before
said_count (entry ∷ t) = said_count t
