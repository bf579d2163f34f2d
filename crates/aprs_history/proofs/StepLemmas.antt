-- What events add to a trace, step by step: all that a link brings at once, or a datagram, is one step.
use Rattle.std.proofs.Common.{◌≡◌, ℕ, ◌==◌, ◌/◌, nat_lt, Bool, true, false, List, [], ◌∷◌, ◌++◌, refl, Option, Some, None, Result, Ok, Err, subst, if◌then◌else◌}
use Rattle.std.specs.Bool.{⊤}
use Rattle.aprs_base.specs.declared.cutting.Cut.{Cut}
use Rattle.aprs_base.specs.declared.cutting.Cut.TheVariants as cut
use Rattle.aprs_base.specs.declared.events.Event.{Event}
use Rattle.aprs_base.specs.declared.events.Event.TheVariants as event
use Rattle.aprs_base.specs.declared.events.Sent.TheVariants as sent
use Rattle.aprs_base.specs.declared.events.Happening.TheVariants as did
use Rattle.aprs_base.specs.declared.packets.PortKind.{PortKind}
use Rattle.aprs_base.specs.declared.packets.PortKind.TheVariants as kind
use Rattle.aprs_base.specs.declared.packets.Source.TheVariants as source
use Rattle.aprs_base.specs.declared.texts.Addr.{Addr}
use Rattle.dupe_window.specs.Keys.{is_text}
use Rattle.login_pass.specs.Login.{is_verified, login_of}
use Rattle.login_pass.specs.declared.login_line.Login.{Login}
use Rattle.login_pass.specs.declared.login_line.LoginFault.{LoginFault}
use Rattle.q_construct.specs.declared.drops.QDrop.TheVariants.{Unverified}
use Rattle.q_construct.specs.declared.origins.Origin.TheVariants as origin
use Rattle.aprs_history.specs.Setting.{Setting, kind_at, peer_from}
use Rattle.aprs_history.specs.declared.verdicts.Refusal.{Refusal}
use Rattle.aprs_history.specs.declared.verdicts.Refusal.TheVariants as refusal
use Rattle.aprs_history.specs.declared.verdicts.Verdict.TheVariants.{Refused}
use Rattle.aprs_history.specs.declared.verdicts.EndReason.{EndReason}
use Rattle.aprs_history.specs.declared.verdicts.EndReason.TheVariants.{ByPeer, FoundGone, ByStop}
use Rattle.aprs_history.specs.Trace.{Trace, Entry, RoundBegan, Dated, Looked, Unjoined, Ticked, Opened, Brought, Said, Roomed, Lost, Ended, is_live, live_links, moment_of}
use Rattle.aprs_history.specs.Links.{gone_links, late_links, late_reason}
use Rattle.aprs_history.specs.Verdicts.{submitter_by, submitter_of}
use Rattle.aprs_history.specs.Scenes.{datagram_scene}
use Rattle.aprs_history.specs.History.{History, begin_round, begun, comment_seconds, datagram_cuts, dated, end_each, end_stopped, ended, ends_round, is_stop, open_events, refused_links, refused_reason, relay, say_all, submit, trace_of, with_event, with_lines, with_tick}

-- ---- what holds of each entry, over all that came before it

abbrev pub Each : (Trace → Entry → Type 0) → Trace → Type 0
Each P [] = ⊤
Each P (entry ∷ earlier) = P earlier entry × Each P earlier

pub each_at : (P : Trace → Entry → Type 0) (later earlier : Trace) (entry : Entry) → Each P (later ++ entry ∷ earlier) → P earlier entry
each_at P [] earlier entry all = all.0
each_at P (x ∷ later) earlier entry all = each_at P later earlier entry all.1

-- ---- steps

-- an entry that no line, no bytes and no opening stand in, and that begins no round
abbrev pub IsQuiet : Entry → Type 0
IsQuiet RoundBegan = ⊥
IsQuiet (Opened door admission link from) = ⊥
IsQuiet (Brought link bytes) = ⊥
IsQuiet (Said from cut verdict) = ⊥
IsQuiet entry = ⊤

-- what comes on a link, or makes one
abbrev pub IsOfLink : Event → Type 0
IsOfLink (event.Opened listener link from) = ⊤
IsOfLink (event.Joined uplink link at) = ⊤
IsOfLink (event.Bytes link bytes) = ⊤
IsOfLink e = ⊥

-- a datagram is never refused whole as a duplicate
abbrev pub IsNoDuplicate : Refusal → Type 0
IsNoDuplicate (refusal.Duplicate parts line) = ⊥
IsNoDuplicate why = ⊤

abbrev RefusesNoDuplicate : Result (List ℕ) Refusal → Type 0
RefusesNoDuplicate (Ok login) = ⊤
RefusesNoDuplicate (Err why) = IsNoDuplicate why

submitter_refuses : (server : List ℕ) (first : Cut) → RefusesNoDuplicate (submitter_of server first)
submitter_refuses server cut.Long = tt
submitter_refuses server (cut.Line text) = by_login server (login_of text)
  where
    by_login : (server : List ℕ) (r : Result Login LoginFault) → RefusesNoDuplicate (submitter_by server r)
    by_login server (Err why) = tt
    by_login server (Ok login) = of (is_text login.call server) (is_verified login)
      where
        of : (own verified : Bool) → RefusesNoDuplicate (if own then Err refusal.OwnName else if verified then Ok login.call else Err (refusal.Path Unverified))
        of true verified = tt
        of false true = tt
        of false false = tt

-- the steps of datagrams and of time keep it
pub record Steps (s : Setting) (R : Trace → Type 0) : Type 0 where
  pub quiet : (t : Trace) (entry : Entry) → IsQuiet entry → R t → R (entry ∷ t)
  pub refused : (t : Trace) (listener : ℕ) (said : Cut) (why : Refusal) → IsNoDuplicate why → R t → R (Said (source.Submit listener) said (Refused why) ∷ t)
  pub submitted : (t : Trace) (listener : ℕ) (bytes : List ℕ) (first : Cut) (cuts : List Cut) (login : List ℕ) → datagram_cuts bytes ≡ first ∷ cuts → submitter_of s.server first ≡ Ok login
      → R t → R (say_all (datagram_scene s (origin.Udp login)) (source.Submit listener) cuts t)
  pub relayed : (t : Trace) (from : Addr) (bytes : List ℕ) (peer : ℕ × List ℕ) → peer_from 0 s.peers from ≡ Some peer
      → R t → R (say_all (datagram_scene s (origin.Peer peer.1)) (source.Peer peer.0) (datagram_cuts bytes) t)

module _ (s : Setting) (R : Trace → Type 0) (steps : Steps s R) where
  kept_each : (reason : ℕ → EndReason) (ks : List ℕ) (t : Trace) → R t → R (end_each reason ks t)
  kept_each reason [] t r = r
  kept_each reason (k ∷ ks) t r = kept_each reason ks (Ended k (reason k) ∷ t) (steps.quiet t (Ended k (reason k)) tt r)

  kept_if : (b : Bool) (t u : Trace) → (b ≡ true → R t) → R u → R (if b then t else u)
  kept_if true t u r other = r refl
  kept_if false t u r other = other

  pub kept_begun : ((t : Trace) → R t → R (RoundBegan ∷ t)) → (n : ℕ) (t : Trace) → R t → R (begun n t)
  kept_begun began n t r = let now = RoundBegan ∷ t in kept_if (n == 0) (begin_round t) t (λ is. kept_each (λ k. FoundGone) (gone_links now) now (began t r)) r

  kept_tick : (moment : ℕ) (t : Trace) → R t → R (with_tick s moment t)
  kept_tick moment t r =
      let now = Ticked moment ∷ t in
      let later = end_each (late_reason now) (late_links s now) now in
      let kept = kept_each (late_reason now) (late_links s now) now (steps.quiet t (Ticked moment) tt r) in
      steps.quiet (dated (moment_of t) later) Looked tt
      (kept_if (nat_lt (moment_of t / comment_seconds) (moment_of later / comment_seconds)) (Dated (moment_of later) ∷ later) later (λ is. steps.quiet later (Dated (moment_of later)) tt kept) kept)

  kept_submit : (listener : ℕ) (bytes : List ℕ) (first : Cut) (cuts : List Cut) (by : Result (List ℕ) Refusal) (t : Trace) → datagram_cuts bytes ≡ first ∷ cuts → submitter_of s.server first ≡ by
      → R t → R (submit s listener first cuts by t)
  kept_submit listener bytes first cuts (Err why) t are is r = steps.refused t listener first why (subst RefusesNoDuplicate is (submitter_refuses s.server first)) r
  kept_submit listener bytes first cuts (Ok login) t are is r = steps.submitted t listener bytes first cuts login are is r

  kept_relay : (listener : ℕ) (from : Addr) (bytes : List ℕ) (first : Cut) (cuts : List Cut) (peer : Option (ℕ × List ℕ)) (t : Trace) → datagram_cuts bytes ≡ first ∷ cuts → peer_from 0 s.peers from ≡ peer
      → R t → R (relay s listener first cuts peer t)
  kept_relay listener from bytes first cuts None t are is r = steps.refused t listener first refusal.Stranger tt r
  kept_relay listener from bytes first cuts (Some peer) t are is r =
      subst (λ said. R (say_all (datagram_scene s (origin.Peer peer.1)) (source.Peer peer.0) said t)) are (steps.relayed t from bytes peer is r)

  kept_lines : (served : Option PortKind) (listener : ℕ) (from : Addr) (bytes : List ℕ) (cuts : List Cut) (t : Trace) → datagram_cuts bytes ≡ cuts → R t → R (with_lines s served listener from cuts t)
  kept_lines served listener from bytes [] t are r = r
  kept_lines (Some kind.Submit) listener from bytes (first ∷ cuts) t are r = kept_submit listener bytes first cuts (submitter_of s.server first) t are refl r
  kept_lines (Some kind.Core) listener from bytes (first ∷ cuts) t are r = kept_relay listener from bytes first cuts (peer_from 0 s.peers from) t are refl r
  kept_lines (Some other) listener from bytes (first ∷ cuts) t are r = r
  kept_lines None listener from bytes (first ∷ cuts) t are r = r

  pub kept_event : (e : Event) (t : Trace) → (IsOfLink e → R t → R (with_event s e t)) → R t → R (with_event s e t)
  kept_event (event.Tick moment) t own r = kept_tick moment t r
  kept_event (event.Opened listener link from) t own r = own tt r
  kept_event (event.Bytes link bytes) t own r = own tt r
  kept_event (event.Ended link) t own r = kept_if (is_live t link) (Ended link ByPeer ∷ t) t (λ live. steps.quiet t (Ended link ByPeer) tt r) r
  kept_event (event.Room link) t own r = kept_if (is_live t link) (Roomed link ∷ t) t (λ live. steps.quiet t (Roomed link) tt r) r
  kept_event event.Stop t own r = r
  kept_event (event.Joined uplink link at) t own r = own tt r
  kept_event (event.Unjoined uplink) t own r = steps.quiet t (Unjoined uplink) tt r
  kept_event (event.Datagram listener from bytes) t own r = kept_lines (kind_at s listener) listener from bytes (datagram_cuts bytes) t refl r

  kept_stop : (stop : Bool) (t : Trace) → R t → R (end_stopped stop t)
  kept_stop false t r = r
  kept_stop true t r = kept_each (λ k. ByStop) (live_links t) t r

  pub kept_ended : (ends : Bool) (e : Event) (t : Trace) → R t → R (ended s ends e t)
  kept_ended false e t r = r
  kept_ended true e t r = kept_stop (is_stop e) (end_each (refused_reason t) (refused_links s t) t) (kept_each (refused_reason t) (refused_links s t) t r)

  module _ (began : (t : Trace) → R t → R (RoundBegan ∷ t)) where
    -- one event more
    pub kept_after : (h : History) (e : Event) → ((t : Trace) → IsOfLink e → R t → R (with_event s e t)) → R (trace_of s h) → R (trace_of s (did.Event e ∷ h))
    unfolding trace_of
    kept_after h e own r =
        let begins = begun (open_events h) (trace_of s h) in
        kept_ended (ends_round (open_events h) e) e (with_event s e begins) (kept_event e begins (own begins) (kept_begun began (open_events h) (trace_of s h) r))

    -- a whole history
    pub kept_all : ((e : Event) (t : Trace) → IsOfLink e → R t → R (with_event s e t)) → R [] → (h : History) → R (trace_of s h)
    unfolding trace_of
    kept_all own none [] = none
    kept_all own none (did.Event e ∷ h) = kept_after h e (own e) (kept_all own none h)
    kept_all own none (did.Sent link bytes (sent.Took n) ∷ h) = steps.quiet (trace_of s h) _ tt (kept_all own none h)
    kept_all own none (did.Sent link bytes sent.Gone ∷ h) = steps.quiet (trace_of s h) (Lost link) tt (kept_all own none h)
    kept_all own none (x ∷ h) = kept_all own none h
