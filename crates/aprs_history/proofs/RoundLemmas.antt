-- What a trace was as its last round began.
use Rattle.std.proofs.Common.{◌≡◌, ℕ, ◌==◌, Bool, true, false, List, [], ◌∷◌, refl, if◌then◌else◌}
use Rattle.aprs_base.specs.Cuts.{cuts_by}
use Rattle.aprs_base.specs.declared.cutting.Cut.{Cut}
use Rattle.aprs_base.specs.declared.events.Event.{Event}
use Rattle.aprs_base.specs.declared.events.Event.TheVariants as event
use Rattle.aprs_base.specs.declared.events.Happening.TheVariants as did
use Rattle.aprs_base.specs.declared.packets.Source.{Source}
use Rattle.aprs_base.specs.declared.packets.Source.TheVariants as source
use Rattle.q_construct.specs.declared.origins.Origin.TheVariants as origin
use Rattle.aprs_history.specs.declared.verdicts.EndReason.TheVariants.{FoundGone}
use Rattle.aprs_history.specs.Setting.{Setting}
use Rattle.aprs_history.specs.Trace.{Trace, Entry, RoundBegan, Brought, Said, Ended, is_live}
use Rattle.aprs_history.specs.Links.{brought_by, gone_links}
use Rattle.aprs_history.specs.Verdicts.{Scene, verdict_of}
use Rattle.aprs_history.specs.Scenes.{datagram_scene, scene_of}
use Rattle.aprs_history.specs.History.{History, begin_round, begun, bring, datagram_cuts, end_all, ends_round, open_events, say_all, trace_of, with_event}
use Rattle.aprs_history.proofs.StepLemmas.{IsOfLink, IsQuiet, Steps, kept_ended, kept_event}

abbrev pub before_round : Trace → Trace
before_round [] = []
before_round (RoundBegan ∷ t) = t
before_round (entry ∷ t) = before_round t

-- within a round the border stays
module _ (s : Setting) (before : Trace) where
  abbrev HasBorder : Trace → Type 0
  HasBorder t = before_round t ≡ before

  border_said : (scene : Trace → Scene) (from : Source) (cuts : List Cut) (t : Trace) → HasBorder t → HasBorder (say_all scene from cuts t)
  border_said scene from [] t has = has
  border_said scene from (said ∷ cuts) t has = border_said scene from cuts (Said from said (verdict_of (scene t) said) ∷ t) has

  border_quiet : (t : Trace) (entry : Entry) → IsQuiet entry → HasBorder t → HasBorder (entry ∷ t)
  border_quiet t RoundBegan is has = absurd is
  border_quiet t entry is has = has

  border_steps : Steps s HasBorder
  border_steps = record {
    quiet = border_quiet;
    refused = λ t listener said why alone has. has;
    submitted = λ t listener bytes first cuts login are is has. border_said (datagram_scene s (origin.Udp login)) (source.Submit listener) cuts t has;
    relayed = λ t from bytes peer is has. border_said (datagram_scene s (origin.Peer peer.1)) (source.Peer peer.0) (datagram_cuts bytes) t has;
  }

  border_of_link : (e : Event) (t : Trace) → IsOfLink e → HasBorder t → HasBorder (with_event s e t)
  border_of_link (event.Opened listener link from) t is has = has
  border_of_link (event.Joined uplink link at) t is has = has
  border_of_link (event.Bytes k bytes) t is has = of (is_live t k)
    where
      of : (b : Bool) → HasBorder (if b then bring s k bytes t else t)
      of true = border_said (λ now. scene_of s now k) (source.Link k) (cuts_by (brought_by t k) bytes) (Brought k bytes ∷ t) has
      of false = has
  border_of_link e t is has = absurd is

border_ends : (ks : List ℕ) (t : Trace) → before_round (end_all FoundGone ks t) ≡ before_round t
border_ends [] t = refl
border_ends (k ∷ ks) t = border_ends ks (Ended k FoundGone ∷ t)

-- where a round begins all that came before is
border_begun : (s : Setting) (n : ℕ) (t : Trace) → before_round (begun n t) ≡ (if n == 0 then t else before_round t)
border_begun s n t = of (n == 0)
  where
    of : (b : Bool) → before_round (if b then begin_round t else t) ≡ (if b then t else before_round t)
    of true = border_ends (gone_links (RoundBegan ∷ t)) (RoundBegan ∷ t)
    of false = refl

pub border_event : (s : Setting) (h : History) (e : Event) → before_round (trace_of s (did.Event e ∷ h)) ≡ (if open_events h == 0 then trace_of s h else before_round (trace_of s h))
unfolding trace_of
border_event s h e =
    let before = if open_events h == 0 then trace_of s h else before_round (trace_of s h) in
    let begins = begun (open_events h) (trace_of s h) in
    kept_ended s (HasBorder s before) (border_steps s before) (ends_round (open_events h) e) e (with_event s e begins)
    (kept_event s (HasBorder s before) (border_steps s before) e begins (border_of_link s before e begins) (border_begun s (open_events h) (trace_of s h)))
