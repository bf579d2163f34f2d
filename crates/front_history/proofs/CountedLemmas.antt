-- The numbers of the front for the page are those of what the server saw, as the wire shows it.
use Rattle.std.proofs.Common.{◌≡◌, ℕ, List, [], ◌∷◌, refl, sym, ap, ◌∙◌, subst}
use Rattle.aprs_base.specs.declared.events.Event.{Event}
use Rattle.aprs_base.specs.declared.events.Event.TheVariants as event
use Rattle.aprs_base.specs.declared.events.Happening.{Happening}
use Rattle.aprs_base.specs.declared.events.Happening.TheVariants as did
use Rattle.aprs_history.specs.Setting.{Setting}
use Rattle.aprs_history.specs.History.{History, trace_of}
use Rattle.aprs_history.specs.Acts.{Act, due}
use Rattle.status_page.specs.Counting.{counts_after, no_counts}
use Rattle.status_page.specs.PageFronts.{PageSeen, moment_after, reply_by}
use Rattle.status_page.proofs.CountLemmas.{counts_go_on, counts_in_any_order}
use Rattle.front_history.specs.Answers.{Answers, Duty, FrontState, Hands, Steps, noting, paid_by, published}
use Rattle.front_history.specs.Replies.{moment_in, page_reply_of}
use Rattle.aprs_history.specs.Wired.{on_wire, wired_as}
use Rattle.front_history.proofs.ServesLemmas.{IsAct}
use Rattle.front_history.proofs.WaitingLemmas.{act_moment}
use Rattle.front_history.proofs.WiredLemmas.{act_shown}

-- what the front for the page counted, its moment, and the name of its server
pub record Counted (s : Setting) (seen : History) (page : PageSeen) : Type 0 where
  pub counts : page.counts ≡ counts_after no_counts (on_wire s seen)
  pub moment : page.moment ≡ moment_in seen
  pub server : page.server ≡ s.server

one_more : (x : Happening) (seen : History) → counts_after (counts_after no_counts seen) (x ∷ []) ≡ counts_after no_counts (x ∷ seen)
one_more x seen = sym (counts_in_any_order no_counts (x ∷ []) seen ∙ counts_go_on no_counts seen (x ∷ []))

moment_more : (e : Event) (seen : History) → moment_after e (moment_in seen) ≡ moment_in (did.Event e ∷ seen)
moment_more (event.Tick moment) seen = refl
moment_more (event.Opened listener link from) seen = refl
moment_more (event.Bytes link bytes) seen = refl
moment_more (event.Ended link) seen = refl
moment_more (event.Joined uplink link at) seen = refl
moment_more (event.Unjoined uplink) seen = refl
moment_more (event.Room link) seen = refl
moment_more (event.Datagram listener from bytes) seen = refl
moment_more event.Stop seen = refl

-- an event that is handed up is counted
counted_event : (s : Setting) (e : Event) (before state : FrontState) (rest seen : History) → Hands s e before state rest seen → Counted s rest before.page → Counted s seen state.page
counted_event s e before state rest seen hands was =
    let kept = hands.page_turns.kept in
    let up = hands.up in
    subst (λ h. Counted s h state.page) (sym hands.seen_is)
    (record {
      counts = ap (λ st. st.page.counts) hands.state_is ∙ ap (λ p. p.counts) kept ∙ ap (λ c. counts_after c (did.Event up ∷ [])) was.counts ∙ one_more (did.Event up) (on_wire s rest);
      moment = ap (λ st. st.page.moment) hands.state_is ∙ ap (λ p. p.moment) kept ∙ ap (moment_after up) was.moment ∙ moment_more up rest;
      server = ap (λ st. st.page.server) hands.state_is ∙ ap (λ p. p.server) kept ∙ was.server;
    })

-- what the wire shows of what the server does is counted, where it counts
noted_counts : (x : Happening) → IsAct x → (page : PageSeen) (wire : History) → page.counts ≡ counts_after no_counts wire → (noting x page).counts ≡ counts_after no_counts (x ∷ wire)
noted_counts (did.Event e) act page wire was = absurd act
noted_counts (did.Sent link bytes outcome) act page wire was = ap (λ c. counts_after c (did.Sent link bytes outcome ∷ [])) was ∙ one_more (did.Sent link bytes outcome) wire
noted_counts (did.Cast peer bytes) act page wire was = ap (λ c. counts_after c (did.Cast peer bytes ∷ [])) was ∙ one_more (did.Cast peer bytes) wire
noted_counts (did.Listen n) act page wire was = was
noted_counts (did.Dialled uplink) act page wire was = was
noted_counts (did.Closed link) act page wire was = was

-- and nothing else of the front changes
noting_keeps : (x : Happening) (page : PageSeen) → ((noting x page).moment ≡ page.moment) × ((noting x page).server ≡ page.server)
noting_keeps (did.Event e) page = (refl, refl)
noting_keeps (did.Sent link bytes outcome) page = (refl, refl)
noting_keeps (did.Cast peer bytes) page = (refl, refl)
noting_keeps (did.Listen n) page = (refl, refl)
noting_keeps (did.Dialled uplink) page = (refl, refl)
noting_keeps (did.Closed link) page = (refl, refl)

noted_more : (s : Setting) (x y : Happening) → IsAct x → (rest : History) (page : PageSeen) → x ≡ wired_as s (trace_of s rest) y → Counted s rest page → Counted s (y ∷ rest) (noting x page)
noted_more s x y act rest page shown was =
    let kept = noting_keeps x page in
    record {
      counts = noted_counts x act page (on_wire s rest) was.counts ∙ ap (λ z. counts_after no_counts (z ∷ on_wire s rest)) shown;
      moment = kept.0 ∙ was.moment ∙ sym (act_moment y (act_shown s (trace_of s rest) x y act shown) rest);
      server = kept.1 ∙ was.server;
    }

same_page : (x : Happening) (duties : List Duty) (state : FrontState) → (paid_by x duties state).page ≡ state.page
same_page x [] state = refl
same_page x (duty ∷ duties) state = refl

counted_act : (s : Setting) (acts : List Act) (x : Happening) → IsAct x → (before state : FrontState) (rest seen : History) → Steps s acts x before state rest seen → Counted s rest before.page → Counted s seen state.page
counted_act s [] x act before state rest seen steps was =
    subst (λ h. Counted s h state.page) (sym steps.3) (subst (Counted s rest) (sym (ap (λ st. st.page) steps.2 ∙ same_page x before.duties before)) was)
counted_act s (first ∷ acts) x act before state rest seen steps was =
    subst (λ h. Counted s h state.page) (sym steps.3) (subst (Counted s (steps.0 ∷ rest)) (sym (ap (λ st. st.page) steps.2)) (noted_more s x steps.0 act rest before.page steps.1 was))

pub counted : (s : Setting) (more seen : History) (state : FrontState) → Answers s more state seen → Counted s seen state.page
counted s [] seen state answers =
    subst (λ h. Counted s h state.page) (sym answers.1)
    (record { counts = ap (λ st. st.page.counts) answers.0; moment = ap (λ st. st.page.moment) answers.0; server = ap (λ st. st.page.server) answers.0 })
counted s (did.Event e ∷ earlier) seen state answers = counted_event s e answers.0 state answers.1 seen answers.3 (counted s earlier answers.1 answers.0 answers.2)
counted s (x ∷ earlier) seen state answers = counted_act s (due s answers.1) x tt answers.0 state answers.1 seen answers.3 (counted s earlier answers.1 answers.0 answers.2)

-- so what the front replies is the page of what the server saw
pub page_is : (s : Setting) (seen : History) (page : PageSeen) (status : ℕ) → Counted s seen page → reply_by (record page { totals = published s seen }) status ≡ page_reply_of s seen status
page_is s seen page status was =
    let counts = counts_after no_counts (on_wire s seen) in
    ap (λ c. reply_by (record page { counts = c; totals = published s seen }) status) was.counts
    ∙ ap (λ m. reply_by (record page { counts = counts; moment = m; totals = published s seen }) status) was.moment
    ∙ ap (λ n. reply_by (record page { counts = counts; server = n; moment = moment_in seen; totals = published s seen }) status) was.server
