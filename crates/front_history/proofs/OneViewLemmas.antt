-- A history has one view, since the same bytes ask for one thing.
use Rattle.std.proofs.Common.{◌≡◌, ℕ, Bool, true, false, [], ◌∷◌, if◌then◌else◌, drop, take, sym, ap, ◌∙◌, subst, Option, Some, None}
use Rattle.std.proofs.lemmas.Option.{same_Some}
use Rattle.aprs_base.specs.declared.events.Event.{Event}
use Rattle.aprs_base.specs.declared.events.Event.TheVariants as event
use Rattle.aprs_base.specs.declared.events.Happening.TheVariants as did
use Rattle.aprs_history.specs.History.{History}
use Rattle.http_submit.specs.Laws.{BytesAskOnce}
use Rattle.http_submit.specs.declared.requests.Post.{Post}
use Rattle.http_submit.specs.declared.requests.Post.TheVariants as post
use Rattle.front_history.specs.Views.{BytesAreSeen, IsSeenAs, IsSubmission, ViewsAreOne, is_theirs, is_waiting, request_of}

same_submission : (u : ℕ) (h : History) (link : ℕ) (p : Post) (came one other : Event) → IsSubmission u h link p came one → IsSubmission u h link p came other → one ≡ other
same_submission u h link (post.Whole start len known) came one other first second =
    first.2 ∙ ap (λ from. event.Datagram u from (take len (drop start (request_of h link)))) (same_Some first.0 second.0 (sym first.1 ∙ second.1)) ∙ sym second.2
same_submission u h link (post.Refused status) came one other first second = first ∙ sym second
same_submission u h link post.More came one other first second = first ∙ sym second

module _ (once : BytesAskOnce) where
  same_bytes : (b : Bool) (u : ℕ) (h : History) (link : ℕ) (came one other : Event) → BytesAreSeen b u h link came one → BytesAreSeen b u h link came other → one ≡ other
  same_bytes false u h link came one other first second = first ∙ sym second
  same_bytes true u h link came one other first second =
      let same = once (request_of h link) first.0 second.0 first.1 second.1 in
      same_submission u h link second.0 came one other (subst (λ p. IsSubmission u h link p came one) same first.2) second.2

  same_seen : (port : Option ℕ) (h : History) (came one other : Event) → IsSeenAs port h came one → IsSeenAs port h came other → one ≡ other
  same_seen None h came one other first second = first ∙ sym second
  same_seen (Some u) h (event.Bytes link bytes) one other first second = same_bytes (is_waiting (Some u) h link) u (did.Event (event.Bytes link bytes) ∷ h) link (event.Bytes link bytes) one other first second
  same_seen (Some u) h (event.Tick moment) one other first second = first ∙ sym second
  same_seen (Some u) h (event.Opened listener link from) one other first second = first ∙ sym second
  same_seen (Some u) h (event.Ended link) one other first second = first ∙ sym second
  same_seen (Some u) h (event.Joined uplink link at) one other first second = first ∙ sym second
  same_seen (Some u) h (event.Unjoined uplink) one other first second = first ∙ sym second
  same_seen (Some u) h (event.Room link) one other first second = first ∙ sym second
  same_seen (Some u) h (event.Datagram listener from bytes) one other first second = first ∙ sym second
  same_seen (Some u) h event.Stop one other first second = first ∙ sym second

  pub views_are_one : ViewsAreOne
  views_are_one ports [] one other first second = first ∙ sym second
  views_are_one ports (did.Event e ∷ h) one other first second =
      let before = views_are_one ports h first.0 second.0 first.1 second.1 in
      let up = same_seen ports.upload h e first.2.0 second.2.0 first.2.1 second.2.1 in
      first.2.2 ∙ ap (λ x. did.Event x ∷ first.0) up ∙ ap (λ rest. did.Event second.2.0 ∷ rest) before ∙ sym second.2.2
  views_are_one ports (did.Sent link bytes outcome ∷ h) one other first second =
      first.2 ∙ ap (λ rest. if is_theirs ports h link then rest else did.Sent link bytes outcome ∷ rest) (views_are_one ports h first.0 second.0 first.1 second.1) ∙ sym second.2
  views_are_one ports (did.Closed link ∷ h) one other first second =
      first.2 ∙ ap (λ rest. if is_theirs ports h link then rest else did.Closed link ∷ rest) (views_are_one ports h first.0 second.0 first.1 second.1) ∙ sym second.2
  views_are_one ports (did.Listen n ∷ h) one other first second = first.2 ∙ ap (λ rest. did.Listen n ∷ rest) (views_are_one ports h first.0 second.0 first.1 second.1) ∙ sym second.2
  views_are_one ports (did.Dialled uplink ∷ h) one other first second = first.2 ∙ ap (λ rest. did.Dialled uplink ∷ rest) (views_are_one ports h first.0 second.0 first.1 second.1) ∙ sym second.2
  views_are_one ports (did.Cast peer bytes ∷ h) one other first second = first.2 ∙ ap (λ rest. did.Cast peer bytes ∷ rest) (views_are_one ports h first.0 second.0 first.1 second.1) ∙ sym second.2
