-- What the two fronts of a server do beside it, that for its status page and that for packets by HTTP, and what it sees in the
-- place of what happens.
use Rattle.std.specs.Prelude.{◌≡◌, ℕ, false, ◌==◌, ◌+◌, if◌then◌else◌, List, [], ◌∷◌, Option}
use Rattle.aprs_base.specs.declared.events.Event.{Event}
use Rattle.aprs_base.specs.declared.events.Happening.{Happening}
use Rattle.aprs_base.specs.declared.events.Happening.TheVariants as did
use Rattle.aprs_base.specs.declared.events.Sent.TheVariants as sent
use Rattle.aprs_base.specs.declared.packets.ListenSpec.{ListenSpec}
use Rattle.aprs_base.specs.declared.totals.Totals.{Totals}
use Rattle.aprs_history.specs.Setting.{Setting}
use Rattle.aprs_history.specs.Counts.{totals_of}
use Rattle.aprs_history.specs.History.{History, is_stopped, open_events, trace_of}
use Rattle.aprs_history.specs.Acts.{Act, Closes, Offers, Fulfils, but_first, due}
use Rattle.http_submit.specs.Fronts.{FrontSeen, Turns, fresh_front, listened_as, paid_front}
use Rattle.http_submit.specs.Owing.{reply_of}
use Rattle.http_submit.specs.declared.pool.Owed.{Owed}
use Rattle.aprs_history.specs.Wired.{wired_as}
use Rattle.status_page.specs.PageFronts.{PageSeen, PageTurns, counting, fresh_page, no_totals, paid_page, reply_by}

-- ---- what is owed

-- what a link that asked for the page is owed: its reply, as the page stands then, and after it the close
pub data Duty : Type 0 where
  Reply : Owed → Duty
  Close : (link : ℕ) → Duty

-- a link that is owed a reply gets it, and is closed
abbrev pub duties_for : List Owed → List Duty
duties_for [] = []
duties_for (owed ∷ more) = Reply owed ∷ Close owed.link ∷ duties_for more

abbrev pub acts_for : List Owed → List Act
acts_for [] = []
acts_for (owed ∷ more) = Offers owed.link (reply_of owed.status) ∷ Closes owed.link ∷ acts_for more

-- the act of a duty, as the page stands
abbrev pub act_of : PageSeen → Duty → Act
act_of page (Reply owed) = Offers owed.link (reply_by page owed.status)
act_of page (Close link) = Closes link

-- the fronts, which owe no more than this. The totals of a page are those that are published as it is sent.
pub record FrontState : Type 0 where
  pub page : PageSeen
  pub front : FrontSeen
  -- what links that asked for the page are owed
  pub duties : List Duty
  -- what links of the front for packets are owed
  pub acts : List Act

-- a page whose totals are open, and whose links are owed nothing
abbrev pub open_page : PageSeen → PageSeen
open_page page = record (paid_page page) { totals = no_totals }

-- how the fronts stand
abbrev pub front_state : PageSeen → FrontSeen → FrontState
front_state page front = record { page = open_page page; front = paid_front front; duties = duties_for page.pool.owed; acts = acts_for front.pool.owed }

-- ---- what is done

abbrev pub but_first_duty : List Duty → List Duty
but_first_duty [] = []
but_first_duty (duty ∷ duties) = duties

-- what is left once an act was done: a link that is gone isn't closed
abbrev pub duties_left : Happening → List Duty → List Duty
duties_left (did.Sent link bytes sent.Gone) duties = but_first_duty (but_first_duty duties)
duties_left x duties = but_first_duty duties

abbrev pub acts_left : Happening → List Act → List Act
acts_left (did.Sent link bytes sent.Gone) acts = but_first (but_first acts)
acts_left x acts = but_first acts

-- the links that asked for the page come first
abbrev pub paid_by : Happening → List Duty → FrontState → FrontState
paid_by x [] state = record state { acts = acts_left x state.acts }
paid_by x (duty ∷ duties) state = record state { duties = duties_left x state.duties }

abbrev pub paid : Happening → FrontState → FrontState
paid x state = paid_by x state.duties state

-- a happening is the first of these acts
abbrev pub FulfilsFirst : List Act → Happening → Type 0
FulfilsFirst [] x = ⊥
FulfilsFirst (act ∷ acts) x = Fulfils act x

abbrev pub FulfilsDuty : PageSeen → List Duty → List Act → Happening → Type 0
FulfilsDuty page [] acts x = FulfilsFirst acts x
FulfilsDuty page (duty ∷ duties) acts x = Fulfils (act_of page duty) x

-- it is the first act that the fronts owe, where these totals are published
abbrev pub FulfilsNext : Totals → FrontState → Happening → Type 0
FulfilsNext totals state x = FulfilsDuty (record state.page { totals = totals }) state.duties state.acts x

-- what the server sends is counted, as the wire shows it
abbrev pub noting : Happening → PageSeen → PageSeen
noting (did.Sent link bytes outcome) page = counting (did.Sent link bytes outcome) page
noting (did.Cast peer bytes) page = counting (did.Cast peer bytes) page
noting x page = page

abbrev pub noted : Happening → FrontState → FrontState
noted x state = record state { page = noting x state.page }

-- ---- the totals that are published

-- what happened up to the end of the last round that is finished, and what was done after it
abbrev pub finished : History → History
finished [] = []
finished (x ∷ earlier) = if open_events (x ∷ earlier) == 0 then x ∷ earlier else finished earlier

abbrev pub published : Setting → History → Totals
published s seen = totals_of s (trace_of s (finished seen))

-- ---- what happens, and what the server sees

-- one happening more that is no event: the server's, where an act of its own is due, as the wire shows it, and else that of a front
abbrev pub Steps : Setting → List Act → Happening → (before state : FrontState) → (rest seen : History) → Type 0
Steps s [] x before state rest seen = (is_stopped rest ≡ false) × FulfilsNext (published s rest) before x × (state ≡ paid x before) × (seen ≡ rest)
Steps s (act ∷ acts) x before state rest seen = (y : Happening) × (x ≡ wired_as s (trace_of s rest) y) × (state ≡ noted x before) × (seen ≡ y ∷ rest)

-- an event comes where neither the server nor a front has anything to do: the front for packets turns by it, and hands one up,
-- by which the front for the page turns
pub record Hands (s : Setting) (e : Event) (before state : FrontState) (rest seen : History) : Type 0 where
  pub up : Event
  pub after : FrontSeen
  pub page_after : PageSeen
  pub turns : Turns before.front e after up
  pub page_turns : PageTurns before.page up page_after
  pub idle : due s rest ≡ []
  pub done : before.duties ≡ []
  pub paid : before.acts ≡ []
  pub state_is : state ≡ front_state page_after after
  pub seen_is : seen ≡ did.Event up ∷ rest

-- what happened, how the fronts stand after it, and what the server saw in its place
abbrev pub Answers : Setting → History → FrontState → History → Type 0
Answers s [] state seen = (state ≡ front_state (fresh_page state.page.at s.server) (fresh_front state.front.at)) × (seen ≡ [])
Answers s (did.Event e ∷ earlier) state seen = (before : FrontState) × (rest : History) × Answers s earlier before rest × Hands s e before state rest seen
Answers s (x ∷ earlier) state seen = (before : FrontState) × (rest : History) × Answers s earlier before rest × Steps s (due s rest) x before state rest seen

-- ---- listeners

-- the listeners that the wire is asked for, the first of them having that number
abbrev pub wired_from : Option ℕ → ℕ → List ListenSpec → List ListenSpec
wired_from at n [] = []
wired_from at n (spec ∷ specs) = listened_as at n spec ∷ wired_from at (n + 1) specs

-- the setting as the wire sees it: it is asked for streams at a front's port
abbrev pub wired : Option ℕ → Setting → Setting
wired at s = record s { listens = wired_from at 0 s.listens }

-- the setting as the wire sees it: it is asked for streams at the ports of both fronts
abbrev pub wired_for : FrontState → Setting → Setting
wired_for state s = wired state.front.at (wired state.page.at s)
