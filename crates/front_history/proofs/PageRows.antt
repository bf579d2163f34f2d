-- A run in which a link asks for the status page, and what it is sent.
use Rattle.std.proofs.Common.{◌≡◌, ℕ, ◌<◌, ◌==◌, ◌||◌, ◌&&◌, not, Bool, List, [], ◌∷◌, ◌++◌, length, codes, false, true, refl, sym, ap, ◌∙◌, subst, arith, inl, Some, None}
use Rattle.std.proofs.lemmas.Bool.{and_parts, eqb-true, true≢false}
use Rattle.std.specs.Fmt.{digits}
use Rattle.aprs_base.specs.declared.events.Event.TheVariants as event
use Rattle.aprs_base.specs.declared.events.Happening.TheVariants as did
use Rattle.aprs_base.specs.declared.events.Sent.TheVariants as sent
use Rattle.aprs_base.specs.declared.packets.PortKind.TheVariants as port
use Rattle.aprs_body.specs.Bodies.{body_of}
use Rattle.login_pass.specs.Login.{login_of}
use Rattle.login_pass.specs.Passcode.{passcode_of}
use Rattle.q_construct.specs.Rule.{process_of, given_drops, built_drops, built_row, rows}
use Rattle.tnc2_line.specs.Packet.{parts_of, text_of, via_of, head_of}
use Rattle.aprs_history.specs.Setting.{Setting}
use Rattle.aprs_history.specs.History.{History, trace_of}
use Rattle.aprs_history.specs.Acts.{IsRun, due}
use Rattle.aprs_history.specs.Counts.{totals_of}
use Rattle.aprs_history.proofs.EndingRows.{at_moment}
use Rattle.aprs_history.proofs.JournalRows.{opens, says}
use Rattle.aprs_history.proofs.Rows.{client, crlf, listen, server_on}
use Rattle.status_page.specs.Counting.{counts_after, no_counts}
use Rattle.status_page.specs.Gets.{IsGet}
use Rattle.status_page.specs.declared.requests.Get.TheVariants as get
use Rattle.status_page.specs.Page.{page_reply, page_text}
use Rattle.front_history.specs.Replies.{GetStatus, IsClosedNext, IsGetPart, IsNotDue, IsPageReply, NoneIsDue, PagesArePaid, SettlesNone, moment_in, page_of, waiting_links}
use Rattle.front_history.specs.Answers.{published}
use Rattle.front_history.specs.Serving.{Ports}
use Rattle.front_history.specs.Views.{IsView, is_waiting, request_of}
use Rattle.aprs_history.specs.Wired.{on_wire}
use Rattle.front_history.proofs.WiredLemmas.{all_shown}

-- clients come to listener 0; the port for the page is listener 1
unfoldable setting : Setting
setting = server_on (listen port.Full 10152 ∷ listen port.Submit 14501 ∷ [])

abbrev ports : Ports
ports = record { page = Some 1; upload = None }

unfoldable request : List ℕ
request = codes "GET /status.json HTTP/1.1" ++ (crlf ++ crlf)

-- two clients log in, and one sends a packet, which the other takes
unfoldable served : History
served =
    did.Sent 2 (codes "# aprsc 1.0" ++ (crlf ++ (codes "# logresp K1ABC verified, server T2TEST" ++ (crlf ++ (codes "N0CALL>APRS,TCPIP*,qAC,T2TEST:>hi" ++ crlf))))) (sent.Took 89)
    ∷ did.Sent 1 (codes "# aprsc 1.0" ++ (crlf ++ (codes "# logresp N0CALL verified, server T2TEST" ++ crlf))) (sent.Took 55)
    ∷ at_moment 1001
    ∷ says 1 (codes "N0CALL>APRS,WIDE1-1:>hi")
    ∷ says 2 (codes "user K1ABC pass 14993 vers t 1")
    ∷ says 1 (codes "user N0CALL pass 13023 vers t 1")
    ∷ opens 0 2
    ∷ opens 0 1
    ∷ at_moment 1000
    ∷ did.Listen 1
    ∷ did.Listen 0
    ∷ []

-- then a link asks for the page
unfoldable asked : History
asked = did.Event (event.Bytes 3 request) ∷ opens 1 3 ∷ served

-- its reply, and the close
unfoldable page : List ℕ
page = codes "{\"accepted\":1,\"casts\":0,\"datagrams\":0,\"duplicates\":0,\"joined\":0,\"moment\":1001,\"opened\":3,\"queued\":1,\"received\":119,\"refused\":0,\"server\":\"T2TEST\",\"taken\":144}"

unfoldable reply : List ℕ
reply = codes "HTTP/1.1 200 OK\r\nContent-Type: application/json\r\nContent-Length: 157\r\nConnection: close\r\n\r\n" ++ page

unfoldable replied : History
replied = did.Closed 3 ∷ did.Sent 3 reply (sent.Took 250) ∷ asked

-- no line is cast to a link, and the wire shows all as it is
asked_is_shown : on_wire setting asked ≡ asked
unfolding setting
asked_is_shown = all_shown setting refl asked

counts_told : page_text (counts_after no_counts asked) setting.server (moment_in asked) (published setting asked) ≡ page
unfolding page_text page asked served request setting totals_of trace_of client crlf digits parts_of text_of via_of head_of login_of passcode_of process_of given_drops built_drops built_row rows body_of
counts_told = refl

page_told : page_of setting asked ≡ page
page_told = ap (λ h. page_text (counts_after no_counts h) setting.server (moment_in asked) (published setting asked)) asked_is_shown ∙ counts_told

reply_is : page_reply page ≡ reply
unfolding page_reply reply page digits
reply_is = refl

-- nothing is due of the server's own as the reply is sent
nothing_due : due setting asked ≡ []
unfolding due asked served request setting trace_of client crlf parts_of text_of via_of head_of login_of passcode_of process_of given_drops built_drops built_row rows body_of
nothing_due = refl

-- all that the server saw is a run
asked_is_run : IsRun setting asked
unfolding due asked served request setting trace_of client crlf parts_of text_of via_of head_of login_of passcode_of process_of given_drops built_drops built_row rows body_of
asked_is_run = (((((((((((((tt, refl), refl), (refl, tt)), (refl, tt)), (refl, tt)), (refl, tt)), (refl, tt)), (refl, tt)), (refl, tt)), (refl, refl, omega arith)), (refl, refl, omega arith)), (refl, tt)), (refl, tt))

-- all of that is seen
asked_is_seen : IsView ports asked asked
unfolding asked served
asked_is_seen =
    let listened : History = did.Listen 1 ∷ did.Listen 0 ∷ [] in
    let began : History = opens 0 2 ∷ opens 0 1 ∷ at_moment 1000 ∷ listened in
    let said : History = says 1 (codes "N0CALL>APRS,WIDE1-1:>hi") ∷ says 2 (codes "user K1ABC pass 14993 vers t 1") ∷ says 1 (codes "user N0CALL pass 13023 vers t 1") ∷ began in
    let view_listened : IsView ports listened listened = (did.Listen 0 ∷ [], ([], refl, refl), refl) in
    let view_began : IsView ports began began = (opens 0 1 ∷ at_moment 1000 ∷ listened, (at_moment 1000 ∷ listened, (listened, view_listened, (_, refl, refl)), (_, refl, refl)), (_, refl, refl)) in
    let view_said : IsView ports said said = (_, (_, (began, view_began, (_, refl, refl)), (_, refl, refl)), (_, refl, refl)) in
    let view_taken : IsView ports served served = (_, (_, (said, view_said, (_, refl, refl)), refl), refl) in
    (opens 1 3 ∷ served, (served, view_taken, (_, refl, refl)), (_, refl, refl))

-- as the wire shows it
view_of_run : IsView ports asked (on_wire setting asked)
view_of_run = subst (IsView ports asked) (sym asked_is_shown) asked_is_seen

-- the reply and the close aren't
reply_is_unseen : IsView ports replied asked
unfolding replied asked
reply_is_unseen = (asked, (asked, asked_is_seen, refl), refl)

-- ---- no event came while a reply was due, the reply is the page, and the close comes next

abbrev IsEarly : History → Type 0
IsEarly = NoneIsDue GetStatus IsGetPart (IsPageReply setting ports) (Some 1)

-- nobody waits
abbrev waits_nowhere : History → Type 0
waits_nowhere h = (link : ℕ) → is_waiting (Some 1) h link ≡ true → ⊥

early_alone : (h : History) → length (waiting_links (Some 1) h) ≡ 0 → waits_nowhere h → IsEarly h
early_alone h none alone = record { few = omega arith; early = λ link waits. absurd (alone link waits) }

never : (link : ℕ) → false ≡ true → ⊥
never link is = true≢false (sym is)

taken_alone : waits_nowhere served
unfolding served
taken_alone link waits = true≢false (sym (and_parts (not (1 == link)) false (and_parts (not (2 == link)) (not (1 == link) && false) waits).1).1)

only_third : (link : ℕ) → is_waiting (Some 1) asked link ≡ true → 3 ≡ link
unfolding asked
only_third link waits = of (3 == link) refl waits
  where
    of : (b : Bool) → (3 == link) ≡ b → (b || is_waiting (Some 1) served link) ≡ true → 3 ≡ link
    of true same waits = eqb-true 3 link same
    of false other waits = absurd (taken_alone link waits)

early_opened : IsEarly (opens 1 3 ∷ served)
unfolding served asked
early_opened = record {
  few = omega arith;
  early = λ link waits. subst (IsNotDue GetStatus IsGetPart (IsPageReply setting ports) (Some 1) (opens 1 3 ∷ served)) (only_third link waits) (record { soon = omega arith; part = inl refl });
}

served_is_paid : PagesArePaid setting ports served
unfolding served
served_is_paid =
    let listened : History = did.Listen 1 ∷ did.Listen 0 ∷ [] in
    let began : History = opens 0 2 ∷ opens 0 1 ∷ at_moment 1000 ∷ listened in
    let said : History = says 1 (codes "N0CALL>APRS,WIDE1-1:>hi") ∷ says 2 (codes "user K1ABC pass 14993 vers t 1") ∷ says 1 (codes "user N0CALL pass 13023 vers t 1") ∷ began in
    let paid_began : PagesArePaid setting ports began = ((((((tt, tt, tt), tt, tt), early_alone _ refl never, tt), early_alone _ refl never, tt), early_alone _ refl never, tt)) in
    let paid_said : PagesArePaid setting ports said = (((paid_began, early_alone _ refl never, tt), early_alone _ refl never, tt), early_alone _ refl never, tt) in
    (((paid_said, early_alone said refl never, tt), λ opened. absurd (true≢false (sym opened)), tt), λ opened. absurd (true≢false (sym opened)), λ opened. absurd (true≢false (sym opened)))

came_whole : request_of asked 3 ≡ request
unfolding asked request served crlf
came_whole = refl

none_wait : length (waiting_links (Some 1) served) ≡ 0
unfolding served
none_wait = refl

quiet : IsClosedNext (Some 1) (opens 1 3) served
unfolding served
quiet = λ opened. absurd (true≢false (sym opened))

lowest : SettlesNone GetStatus (Some 1) (λ other. other < 3) asked
unfolding asked
lowest other status below waits settles = let same : 3 ≡ other = settles.0 in absurd (omega arith)

-- where the bytes ask for the page
asker_is_paid : IsGet request get.Whole → PagesArePaid setting ports replied
unfolding replied asked
asker_is_paid whole =
    let opened : PagesArePaid setting ports (opens 1 3 ∷ served) = (served_is_paid, early_alone served none_wait taken_alone, quiet) in
    let events : PagesArePaid setting ports asked = (opened, early_opened, tt) in (
      (events, λ opened. record { status = 200; waits = refl; settled = (refl, (get.Whole, subst (λ xs. IsGet xs get.Whole) (sym came_whole) whole, refl)); lowest = lowest; is = (asked, asked_is_run, view_of_run, sym (ap page_reply page_told ∙ reply_is)) }, tt),
      λ opened. refl,
      λ opened. refl,
    )
