-- What links of the fronts' ports are sent: one reply at most, for what the last event was to them, and then they are closed.
use Rattle.std.specs.Prelude.{◌≡◌, ℕ, ◌+◌, ◌≤◌, ◌<◌, ◌==◌, ◌&&◌, ◌⊎◌, max, min, if◌then◌else◌, List, [], ◌∷◌, ◌++◌, length, filter, Option, IsTrue, ⊤}
use Rattle.aprs_base.specs.declared.events.Event.{Event}
use Rattle.aprs_base.specs.declared.events.Event.TheVariants as event
use Rattle.aprs_base.specs.declared.events.Happening.{Happening}
use Rattle.aprs_base.specs.declared.events.Happening.TheVariants as did
use Rattle.aprs_base.specs.declared.events.Sent.TheVariants as sent
use Rattle.aprs_history.specs.Setting.{Setting}
use Rattle.aprs_history.specs.History.{History}
use Rattle.aprs_history.specs.Acts.{IsRun}
use Rattle.aprs_history.specs.Headline.{HasFreshLinks}
use Rattle.http_submit.specs.Fronts.{is_at, last_moment}
use Rattle.http_submit.specs.Owing.{reply_of}
use Rattle.http_submit.specs.Pools.{most_bytes, most_seconds, most_waiting}
use Rattle.http_submit.specs.Requests.{IsPost}
use Rattle.http_submit.specs.declared.requests.Post.{Post}
use Rattle.http_submit.specs.declared.requests.Post.TheVariants as post
use Rattle.status_page.specs.Counting.{counts_after, no_counts}
use Rattle.status_page.specs.Gets.{IsGet}
use Rattle.status_page.specs.Page.{page_reply, page_text}
use Rattle.status_page.specs.declared.requests.Get.{Get}
use Rattle.status_page.specs.declared.requests.Get.TheVariants as get
use Rattle.front_history.specs.Answers.{Answers, FrontState, published}
use Rattle.front_history.specs.Serving.{Ports, ports_of}
use Rattle.front_history.specs.Views.{HavePorts, IsView, is_waiting, opened_at, request_of}
use Rattle.aprs_history.specs.Wired.{on_wire}

-- ---- moments, in seconds

-- the moment: the greatest that a tick told
abbrev pub moment_in : History → ℕ
moment_in [] = 0
moment_in (did.Event (event.Tick moment) ∷ earlier) = max (min moment last_moment) (moment_in earlier)
moment_in (x ∷ earlier) = moment_in earlier

-- the moment at which a link was opened at a port
abbrev pub opened_when : Option ℕ → History → ℕ → ℕ
opened_when port [] link = 0
opened_when port (did.Event (event.Opened at opened from) ∷ earlier) link = if is_at port at && opened == link then moment_in earlier else opened_when port earlier link
opened_when port (x ∷ earlier) link = opened_when port earlier link

-- ---- the links of a port

-- those that were opened there, in order
abbrev pub opened_links : Option ℕ → History → List ℕ
opened_links port [] = []
opened_links port (did.Event (event.Opened at opened from) ∷ earlier) = if is_at port at then opened_links port earlier ++ opened ∷ [] else opened_links port earlier
opened_links port (x ∷ earlier) = opened_links port earlier

-- those of them that wait
abbrev pub waiting_links : Option ℕ → History → List ℕ
waiting_links port history = filter (is_waiting port history) (opened_links port history)

-- ---- why a link gets a reply: its port has a table of the statuses of requests

-- an event settles a link of that port: its opening, where 16 wait; a tick 30 seconds after that or later; or its bytes
abbrev pub Settles : (List ℕ → ℕ → Type 0) → Option ℕ → Event → History → ℕ → ℕ → Type 0
Settles HasStatus port (event.Opened at opened from) earlier link status = IsTrue (is_at port at) × (opened ≡ link) × (status ≡ 503) × (most_waiting ≤ length (waiting_links port earlier))
Settles HasStatus port (event.Tick moment) earlier link status = (status ≡ 408) × (opened_when port earlier link + most_seconds ≤ moment_in (did.Event (event.Tick moment) ∷ earlier))
Settles HasStatus port (event.Bytes to bytes) earlier link status = (to ≡ link) × HasStatus (request_of (did.Event (event.Bytes to bytes) ∷ earlier) link) status
Settles HasStatus port e earlier link status = ⊥

-- the last event did
abbrev pub LastSettles : (List ℕ → ℕ → Type 0) → Option ℕ → History → ℕ → ℕ → Type 0
LastSettles HasStatus port [] link status = ⊥
LastSettles HasStatus port (did.Event e ∷ earlier) link status = Settles HasStatus port e earlier link status
LastSettles HasStatus port (x ∷ earlier) link status = LastSettles HasStatus port earlier link status

-- it settled no link that waits there and has a number of which this holds
abbrev pub SettlesNone : (List ℕ → ℕ → Type 0) → Option ℕ → (ℕ → Type 0) → History → Type 0
SettlesNone HasStatus port P history = (link status : ℕ) → P link → IsTrue (is_waiting port history link) → LastSettles HasStatus port history link status → ⊥

-- ---- what links of a port are sent

-- what happened last is that a link took of what was sent to it
abbrev pub TookLast : ℕ → History → Type 0
TookLast link [] = ⊥
TookLast link (did.Sent to bytes (sent.Took n) ∷ earlier) = to ≡ link
TookLast link (x ∷ earlier) = ⊥

-- nothing comes between a reply and the close
abbrev pub IsClosedNext : Option ℕ → Happening → History → Type 0
IsClosedNext port x [] = ⊤
IsClosedNext port x (did.Sent link bytes (sent.Took n) ∷ earlier) = IsTrue (opened_at port earlier link) → x ≡ did.Closed link
IsClosedNext port x (y ∷ earlier) = ⊤

-- by what a port answers: the status of a request so far, those so far that may go on, and the bytes of a status after what happened
module _ (HasStatus : List ℕ → ℕ → Type 0) (MayGoOn : List ℕ → Type 0) (IsText : History → ℕ → List ℕ → Type 0) where
  -- these bytes are the reply to a link that waits, and that the last event settled, as it did none of a lower number that waits
  pub record IsReply (port : Option ℕ) (earlier : History) (link : ℕ) (bytes : List ℕ) : Type 0 where
    pub status : ℕ
    pub waits : IsTrue (is_waiting port earlier link)
    pub settled : LastSettles HasStatus port earlier link status
    pub lowest : SettlesNone HasStatus port (λ other. other < link) earlier
    pub is : IsText earlier status bytes

  -- nothing has come of a request, or what has come may go on
  abbrev pub IsPart : List ℕ → Type 0
  IsPart request = (request ≡ []) ⊎ MayGoOn request

  -- a link that waits isn't due: it was opened less than 30 seconds ago, and what has come of it is a part of a request
  pub record IsNotDue (port : Option ℕ) (history : History) (link : ℕ) : Type 0 where
    pub soon : moment_in history < opened_when port history link + most_seconds
    pub part : IsPart (request_of history link)

  -- an event comes only where at most 16 links wait, and none of them is due
  pub record NoneIsDue (port : Option ℕ) (history : History) : Type 0 where
    pub few : length (waiting_links port history) ≤ most_waiting
    pub early : (link : ℕ) → IsTrue (is_waiting port history link) → IsNotDue port history link

  -- what is sent to a link of that port is its reply, such a link is closed after that, and an event comes once no more is due
  abbrev pub IsPaid : Option ℕ → Happening → History → Type 0
  IsPaid port (did.Event e) earlier = NoneIsDue port earlier
  IsPaid port (did.Sent link bytes outcome) earlier = IsTrue (opened_at port earlier link) → IsReply port earlier link bytes
  IsPaid port (did.Closed link) earlier = IsTrue (opened_at port earlier link) → TookLast link earlier
  IsPaid port x earlier = ⊤

  -- each happening is so, after those before it
  abbrev pub ArePaid : Option ℕ → History → Type 0
  ArePaid port [] = ⊤
  ArePaid port (x ∷ earlier) = ArePaid port earlier × IsPaid port x earlier × IsClosedNext port x earlier

-- ---- the port for packets

-- the status of a request so far: that with which it is refused; and where it can't be longer and isn't whole, 413
abbrev pub StatusOfPost : Post → List ℕ → ℕ → Type 0
StatusOfPost (post.Whole start len known) request status = status ≡ (if known then 202 else 403)
StatusOfPost (post.Refused why) request status = status ≡ why
StatusOfPost post.More request status = (most_bytes ≤ length request) × (status ≡ 413)

-- by what the bytes so far ask for
abbrev pub PostStatus : List ℕ → ℕ → Type 0
PostStatus request status = (post : Post) × IsPost request post × StatusOfPost post request status

-- what has come isn't whole, and may be longer
abbrev pub IsPostPart : List ℕ → Type 0
IsPostPart request = IsPost request post.More × (length request < most_bytes)

-- ---- the port for the page

-- the status of a request for the page so far: 200 where it is whole, that with which it is refused, and 413 where it can't be longer and isn't whole
abbrev pub StatusOfGet : Get → List ℕ → ℕ → Type 0
StatusOfGet get.Whole request status = status ≡ 200
StatusOfGet (get.Refused why) request status = status ≡ why
StatusOfGet get.More request status = (most_bytes ≤ length request) × (status ≡ 413)

abbrev pub GetStatus : List ℕ → ℕ → Type 0
GetStatus request status = (get : Get) × IsGet request get × StatusOfGet get request status

abbrev pub IsGetPart : List ℕ → Type 0
IsGetPart request = IsGet request get.More × (length request < most_bytes)

-- the page after what the server saw: its numbers are counts over that, as the wire shows it, and the moment
abbrev pub page_of : Setting → History → List ℕ
page_of setting seen = page_text (counts_after no_counts (on_wire setting seen)) setting.server (moment_in seen) (published setting seen)

-- the reply of a status then: with the page for 200
abbrev pub page_reply_of : Setting → History → ℕ → List ℕ
page_reply_of setting seen status = if status == 200 then page_reply (page_of setting seen) else reply_of status

-- a page tells a run of the server, which the wire shows as the view of what happened up to then
abbrev pub IsPageReply : Setting → Ports → History → ℕ → List ℕ → Type 0
IsPageReply setting ports earlier status bytes = (seen : History) × IsRun setting seen × IsView ports earlier (on_wire setting seen) × (bytes ≡ page_reply_of setting seen status)

-- replies to those who asked for the page come first
abbrev pub IsPostReply : Ports → History → ℕ → List ℕ → Type 0
IsPostReply ports earlier status bytes = (bytes ≡ reply_of status) × SettlesNone GetStatus ports.page (λ link. ⊤) earlier

-- ---- the laws

-- what links of a port are sent is due
abbrev pub PostsArePaid : Ports → History → Type 0
PostsArePaid ports = ArePaid PostStatus IsPostPart (IsPostReply ports) ports.upload

abbrev pub PagesArePaid : Setting → Ports → History → Type 0
PagesArePaid setting ports = ArePaid GetStatus IsGetPart (IsPageReply setting ports) ports.page

-- behind fronts with these ports, before a server that runs, links of the port for packets are sent what is due
abbrev pub LinksArePaid : Type 0
LinksArePaid = (setting : Setting) (more seen : History) (state : FrontState) (ports : Ports) → Answers setting more state seen → ports_of state ≡ ports
    → HavePorts setting ports → IsRun setting seen → HasFreshLinks seen → PostsArePaid ports more

-- and those of the port for the page
abbrev pub PageLinksArePaid : Type 0
PageLinksArePaid = (setting : Setting) (more seen : History) (state : FrontState) (ports : Ports) → Answers setting more state seen → ports_of state ≡ ports
    → HavePorts setting ports → IsRun setting seen → HasFreshLinks seen → PagesArePaid setting ports more
