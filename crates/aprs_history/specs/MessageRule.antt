-- What links heard and were promised, in the words of the message rule (aprs-is.net, IGate Details).
use Rattle.std.specs.Prelude.{◌≡◌, ℕ, ◌==◌, ◌&&◌, ◌↔◌, Bool, false, List, ◌∷◌, ◌++◌, Some, IsTrue, IsFalse}
use Rattle.heard_routing.specs.LastHeard.{last_heard}
use Rattle.aprs_history.specs.declared.verdicts.Verdict.TheVariants.{Accepted}
use Rattle.dupe_window.specs.Keys.{is_text}
use Rattle.aprs_history.specs.Setting.{Setting}
use Rattle.aprs_history.specs.Trace.{Trace, Entry, Opened, Said, moment_of}
use Rattle.aprs_history.specs.Scenes.{accepted_of, packet_of}
use Rattle.aprs_history.specs.Messages.{heard_of, is_position, promise_of, promises}
use Rattle.aprs_history.specs.History.{History, trace_of}
use Rattle.aprs_history.specs.Headline.{HasFreshLinks}

-- ---- what a link heard

-- at each point of a history, a link heard a call where a packet of that source was accepted from it, and last when the last one was
abbrev pub HeardIsLastAccepted : Type 0
HeardIsLastAccepted = (setting : Setting) (history : History) (later trace : Trace) → HasFreshLinks history → trace_of setting history ≡ later ++ trace
    → (link : ℕ) (call : List ℕ) → heard_of trace link call ≡ last_heard (accepted_of trace) link call

-- ---- what a link is owed

-- an entry accepts a message of the sender that goes to the link for what it heard
abbrev pub is_routed_message : Trace → Entry → ℕ → List ℕ → Bool
is_routed_message earlier (Said from cut (Accepted parts line)) link sender =
    is_text sender parts.source && promises earlier (packet_of from (moment_of earlier) parts line) link
is_routed_message earlier entry link sender = false

-- an entry accepts a position of the sender, from whichever link, or opens the link
abbrev pub ends_promise : Trace → Entry → ℕ → List ℕ → Bool
ends_promise earlier (Said from cut (Accepted parts line)) link sender =
    is_text sender parts.source && is_position (packet_of from (moment_of earlier) parts line)
ends_promise earlier (Opened door admission opened from) link sender = link == opened
ends_promise earlier entry link sender = false

-- none of these later entries is a message that makes the promise anew, nor ends it
abbrev pub LeavesPromise : Trace → Trace → ℕ → List ℕ → Type 0
LeavesPromise later earlier link sender = (after before : Trace) (entry : Entry) → later ≡ after ++ entry ∷ before
    → IsFalse (is_routed_message (before ++ earlier) entry link sender) × IsFalse (ends_promise (before ++ earlier) entry link sender)

-- a message of the sender went to the link at that moment for what it heard, and nothing since has renewed or ended the promise
pub record IsPromised (trace : Trace) (link : ℕ) (sender : List ℕ) (moment : ℕ) : Type 0 where
  pub later : Trace
  pub earlier : Trace
  pub message : Entry
  pub split : trace ≡ later ++ message ∷ earlier
  pub routed : IsTrue (is_routed_message earlier message link sender)
  pub at : moment ≡ moment_of earlier
  pub left : LeavesPromise later (message ∷ earlier) link sender

abbrev pub PromisesAreOwed : Type 0
PromisesAreOwed = (trace : Trace) (link : ℕ) (sender : List ℕ) (moment : ℕ) → promise_of trace link sender ≡ Some moment ↔ IsPromised trace link sender moment
