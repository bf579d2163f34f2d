-- What is seen of a history behind the fronts of a server: all but what was sent to links of their ports and their closes, and a
-- datagram where a request that hands packets in came whole. So the wire would show it, were there no fronts.
use Rattle.std.specs.Prelude.{◌≡◌, ℕ, ◌==◌, ◌&&◌, ◌||◌, not, Bool, true, false, is_some, if◌then◌else◌, List, [], ◌∷◌, ◌++◌, take, drop, Option, Some, None, IfSome, ⊤}
use Rattle.std.specs.List.{All}
use Rattle.aprs_base.specs.declared.events.Event.{Event}
use Rattle.aprs_base.specs.declared.events.Event.TheVariants as event
use Rattle.aprs_base.specs.declared.events.Happening.{Happening}
use Rattle.aprs_base.specs.declared.events.Happening.TheVariants as did
use Rattle.aprs_base.specs.declared.packets.PortKind.TheVariants as kind
use Rattle.aprs_base.specs.declared.texts.Addr.{Addr}
use Rattle.aprs_history.specs.Setting.{Setting, kind_at}
use Rattle.aprs_history.specs.History.{History}
use Rattle.aprs_history.specs.Acts.{IsRun}
use Rattle.aprs_history.specs.Headline.{HasFreshLinks}
use Rattle.http_submit.specs.Fronts.{is_at}
use Rattle.http_submit.specs.Pools.{most_bytes}
use Rattle.http_submit.specs.Requests.{IsPost}
use Rattle.http_submit.specs.declared.requests.Post.{Post}
use Rattle.http_submit.specs.declared.requests.Post.TheVariants.{Whole}
use Rattle.front_history.specs.Answers.{Answers, FrontState}
use Rattle.front_history.specs.Serving.{Ports, ports_of}
use Rattle.aprs_history.specs.Wired.{on_wire}

-- ---- the links of a front's port, where it has one

-- the address from which a link was opened there
abbrev pub opened_from : Option ℕ → History → ℕ → Option Addr
opened_from port [] link = None
opened_from port (did.Event (event.Opened at opened from) ∷ earlier) link = if is_at port at && opened == link then Some from else opened_from port earlier link
opened_from port (x ∷ earlier) link = opened_from port earlier link

-- a link was opened there
abbrev pub opened_at : Option ℕ → History → ℕ → Bool
opened_at port history link = is_some (opened_from port history link)

-- all bytes that came on a link since it was opened, in order
abbrev pub came_since : History → ℕ → List ℕ
came_since [] link = []
came_since (did.Event (event.Opened at opened from) ∷ earlier) link = if opened == link then [] else came_since earlier link
came_since (did.Event (event.Bytes to bytes) ∷ earlier) link = if link == to then came_since earlier link ++ bytes else came_since earlier link
came_since (x ∷ earlier) link = came_since earlier link

-- of these the first 4,096: its request
abbrev pub request_of : History → ℕ → List ℕ
request_of history link = take most_bytes (came_since history link)

-- a link waits for its reply: it was opened there, nothing has been sent to it, and it hasn't ended
abbrev pub is_waiting : Option ℕ → History → ℕ → Bool
is_waiting port [] link = false
is_waiting port (did.Event (event.Opened at opened from) ∷ earlier) link = (is_at port at && opened == link) || is_waiting port earlier link
is_waiting port (did.Event (event.Ended ended) ∷ earlier) link = not (ended == link) && is_waiting port earlier link
is_waiting port (did.Sent to bytes outcome ∷ earlier) link = not (to == link) && is_waiting port earlier link
is_waiting port (x ∷ earlier) link = is_waiting port earlier link

-- ---- the view

-- the event that makes a request whole is seen as a datagram: to that port, from the link's address, with the body of the request
abbrev pub IsSubmission : ℕ → History → ℕ → Post → (came seen : Event) → Type 0
IsSubmission u history link (Whole start len known) came seen =
    (from : Addr) × (opened_from (Some u) history link ≡ Some from) × (seen ≡ event.Datagram u from (take len (drop start (request_of history link))))
IsSubmission u history link post came seen = seen ≡ came

-- bytes of a link that waits are seen by what its request is with them; those of another link as they came
abbrev pub BytesAreSeen : Bool → ℕ → History → ℕ → (came seen : Event) → Type 0
BytesAreSeen false u history link came seen = seen ≡ came
BytesAreSeen true u history link came seen = (post : Post) × IsPost (request_of history link) post × IsSubmission u history link post came seen

-- an event, and how it is seen
abbrev pub IsSeenBehind : ℕ → History → (came seen : Event) → Type 0
IsSeenBehind u earlier (event.Bytes link bytes) seen =
    BytesAreSeen (is_waiting (Some u) earlier link) u (did.Event (event.Bytes link bytes) ∷ earlier) link (event.Bytes link bytes) seen
IsSeenBehind u earlier came seen = seen ≡ came

-- an event, and how it is seen by the port for packets, where there is one
abbrev pub IsSeenAs : Option ℕ → History → (came seen : Event) → Type 0
IsSeenAs None earlier came seen = seen ≡ came
IsSeenAs (Some u) earlier came seen = IsSeenBehind u earlier came seen

-- a link was opened at a front's port
abbrev pub is_theirs : Ports → History → ℕ → Bool
is_theirs ports history link = opened_at ports.page history link || opened_at ports.upload history link

-- what is seen once this has happened too: nothing more, where something is sent to a link of a front's port, or it is closed
abbrev pub Views : Ports → Happening → (earlier rest seen : History) → Type 0
Views ports (did.Event came) earlier rest seen = (up : Event) × IsSeenAs ports.upload earlier came up × (seen ≡ did.Event up ∷ rest)
Views ports (did.Sent link bytes outcome) earlier rest seen = seen ≡ (if is_theirs ports earlier link then rest else did.Sent link bytes outcome ∷ rest)
Views ports (did.Closed link) earlier rest seen = seen ≡ (if is_theirs ports earlier link then rest else did.Closed link ∷ rest)
Views ports x earlier rest seen = seen ≡ x ∷ rest

-- the view of a history behind fronts with these ports
abbrev pub IsView : Ports → History → History → Type 0
IsView ports [] seen = seen ≡ []
IsView ports (x ∷ earlier) seen = (rest : History) × IsView ports earlier rest × Views ports x earlier rest seen

-- ---- the laws

-- the ports of the fronts are for datagrams, and two
pub record HavePorts (setting : Setting) (ports : Ports) : Type 0 where
  pub page : IfSome ports.page (λ n. kind_at setting n ≡ Some kind.Submit)
  pub upload : IfSome ports.upload (λ n. kind_at setting n ≡ Some kind.Submit)
  pub apart : (n : ℕ) → ports.page ≡ Some n → ports.upload ≡ Some n → ⊥

-- what a server that runs behind such fronts sees is shown by the wire as the view of what happens
abbrev pub ServersSeeViews : Type 0
ServersSeeViews = (setting : Setting) (more seen : History) (state : FrontState) (ports : Ports) → Answers setting more state seen → ports_of state ≡ ports
    → HavePorts setting ports → IsRun setting seen → HasFreshLinks seen → IsView ports more (on_wire setting seen)

-- a history has one view
abbrev pub ViewsAreOne : Type 0
ViewsAreOne = (ports : Ports) (history one other : History) → IsView ports history one → IsView ports history other → one ≡ other

-- behind fronts without ports it is shown as all that happens
abbrev pub ServersSeeAll : Type 0
ServersSeeAll = (setting : Setting) (more seen : History) (state : FrontState) → Answers setting more state seen → ports_of state ≡ record { page = None; upload = None } → more ≡ on_wire setting seen

-- a happening isn't one that is sent to a link of that port, or its close
abbrev pub IsNotTo : Option ℕ → History → Happening → Type 0
IsNotTo port history (did.Sent link bytes outcome) = opened_at port history link ≡ false
IsNotTo port history (did.Closed link) = opened_at port history link ≡ false
IsNotTo port history x = ⊤

-- a server that runs sends nothing to a link that was opened where datagrams come, before or after, and closes none
abbrev pub NoneIsServedThere : Type 0
NoneIsServedThere = (setting : Setting) (history : History) (listener : ℕ) → kind_at setting listener ≡ Some kind.Submit → IsRun setting history → HasFreshLinks history
    → All (IsNotTo (Some listener) history) history
