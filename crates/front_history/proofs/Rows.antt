-- Small histories behind fronts, what the server sees of them, and what links are sent.
use Rattle.std.proofs.Common.{◌≡◌, ℕ, ◌+◌, ◌==◌, ◌&&◌, ◌||◌, not, Bool, List, [], ◌∷◌, ◌++◌, codes, true, false, refl, sym, ◌∙◌, subst, arith, inl, inr, Some, None}
use Rattle.std.specs.Prelude.{⊤}
use Rattle.std.proofs.Math.Bool.{or-false}
use Rattle.std.proofs.lemmas.Bool.{eqb-true, true≢false}
use Rattle.aprs_base.specs.declared.events.Event.TheVariants as event
use Rattle.aprs_base.specs.declared.events.Happening.TheVariants as did
use Rattle.aprs_base.specs.declared.events.Sent.{Sent}
use Rattle.aprs_base.specs.declared.events.Sent.TheVariants as sent
use Rattle.aprs_base.specs.declared.texts.Addr.{Addr}
use Rattle.aprs_history.specs.History.{History}
use Rattle.http_submit.specs.Owing.{reply_of}
use Rattle.http_submit.specs.Requests.{IsPost}
use Rattle.http_submit.specs.declared.requests.Post.TheVariants.{Whole, More}
use Rattle.front_history.specs.Replies.{IsNotDue, IsPostPart, IsPostReply, NoneIsDue, PostStatus, PostsArePaid, GetStatus, SettlesNone, moment_in, opened_when}
use Rattle.front_history.specs.Serving.{Ports}
use Rattle.front_history.specs.Views.{IsView, is_waiting, opened_at, opened_from, request_of}

station : Addr
station = record { ip = 10 ∷ 0 ∷ 0 ∷ 7 ∷ []; port = 4000 }

unfoldable crlf : List ℕ
crlf = 13 ∷ 10 ∷ []

-- ---- a submission: the port for packets is listener 5, and none is for the page

abbrev uploads : Ports
uploads = record { page = None; upload = Some 5 }

unfoldable head : List ℕ
head = codes "POST / HTTP/1.1" ++ (crlf ++ (codes "Host: t" ++ (crlf ++ (codes "Content-Length: 48" ++ (crlf ++ crlf)))))

unfoldable body : List ℕ
body = codes "user N0CALL pass 13023 vers t 1" ++ (crlf ++ codes "N0CALL>APRS:>hi")

-- it comes in two pieces
submitted : History
submitted =
    did.Closed 1
    ∷ did.Sent 1 (reply_of 202) (sent.Took 63)
    ∷ did.Event (event.Bytes 1 body)
    ∷ did.Event (event.Bytes 1 head)
    ∷ did.Event (event.Opened 5 1 station)
    ∷ did.Event (event.Tick 1000)
    ∷ []

-- the server sees the opening, the head as bytes of a link that it doesn't serve, and the datagram
seen : History
seen =
    did.Event (event.Datagram 5 station body)
    ∷ did.Event (event.Bytes 1 head)
    ∷ did.Event (event.Opened 5 1 station)
    ∷ did.Event (event.Tick 1000)
    ∷ []

first_waits : is_waiting (Some 5) (did.Event (event.Bytes 1 head) ∷ did.Event (event.Opened 5 1 station) ∷ []) 1 ≡ true
first_waits = refl

answered : is_waiting (Some 5) submitted 1 ≡ false
unfolding submitted
answered = refl

came_whole : request_of submitted 1 ≡ head ++ body
unfolding submitted head body crlf
came_whole = refl

-- where its head is no whole request, and with the body it is
submission_is_seen : IsPost head More → IsPost (head ++ body) (Whole 48 48 true) → IsView uploads submitted seen
unfolding submitted seen head body crlf
submission_is_seen part whole =
    let ticked : History = did.Event (event.Tick 1000) ∷ [] in
    let opened : History = did.Event (event.Opened 5 1 station) ∷ ticked in
    let began : History = did.Event (event.Bytes 1 head) ∷ opened in
    let view_ticked : IsView uploads ticked ticked = ([], refl, (event.Tick 1000, refl, refl)) in
    let view_opened : IsView uploads opened opened = (ticked, view_ticked, (event.Opened 5 1 station, refl, refl)) in
    let view_began : IsView uploads began began = (opened, view_opened, (event.Bytes 1 head, (More, part, refl), refl)) in
    let view_whole : IsView uploads (did.Event (event.Bytes 1 body) ∷ began) seen = (began, view_began, (event.Datagram 5 station body, (Whole 48 48 true, whole, (station, refl, refl)), refl)) in
    (seen, (seen, view_whole, refl), refl)

-- no event came while a reply was due, and the reply is for the bytes before it
submitter_is_paid : IsPost head More → IsPost (head ++ body) (Whole 48 48 true) → PostsArePaid uploads submitted
unfolding submitted head body crlf
submitter_is_paid part whole =
    let ticked : History = did.Event (event.Tick 1000) ∷ [] in
    let opened : History = did.Event (event.Opened 5 1 station) ∷ ticked in
    let began : History = did.Event (event.Bytes 1 head) ∷ opened in
    let first : NoneIsDue PostStatus IsPostPart (IsPostReply uploads) (Some 5) [] = record { few = omega arith; early = λ link waits. absurd (true≢false (sym waits)) } in
    let second : NoneIsDue PostStatus IsPostPart (IsPostReply uploads) (Some 5) ticked = record { few = omega arith; early = λ link waits. absurd (true≢false (sym waits)) } in
    let third : NoneIsDue PostStatus IsPostPart (IsPostReply uploads) (Some 5) opened = record { few = omega arith; early = λ link waits. subst (IsNotDue PostStatus IsPostPart (IsPostReply uploads) (Some 5) opened) (only_first link waits) (record { soon = omega arith; part = inl refl }) } in
    let fourth : NoneIsDue PostStatus IsPostPart (IsPostReply uploads) (Some 5) began = record { few = omega arith; early = λ link waits. subst (IsNotDue PostStatus IsPostPart (IsPostReply uploads) (Some 5) began) (only_first link waits) (record { soon = omega arith; part = inr (part, omega arith) }) } in
    let events : PostsArePaid uploads (did.Event (event.Bytes 1 body) ∷ began) = ((((tt, first, tt), second, tt), third, tt), fourth, tt) in
    ((events, λ opened. record { status = 202; waits = refl; settled = (refl, (Whole 48 48 true, whole, refl)); lowest = λ other why below waits settles. let same : 1 ≡ other = settles.0 in absurd (omega arith); is = (refl, none_asks) }, tt), λ opened. refl, λ opened. refl)
  where
    -- no link waits for a page
    none_asks : SettlesNone GetStatus None (λ link. ⊤) (did.Event (event.Bytes 1 body) ∷ did.Event (event.Bytes 1 head) ∷ did.Event (event.Opened 5 1 station) ∷ did.Event (event.Tick 1000) ∷ [])
    none_asks = λ link status any waits settles. true≢false (sym waits)

    only_first : (link : ℕ) → ((1 == link) || false) ≡ true → 1 ≡ link
    only_first link waits = eqb-true 1 link (sym (or-false (1 == link)) ∙ waits)

-- ---- a link that is silent for 30 seconds, and is gone; what the server sends to a client stands

silent : History
silent =
    did.Sent 2 (reply_of 408) sent.Gone
    ∷ did.Sent 1 (codes "# ok") (sent.Took 4)
    ∷ did.Event (event.Tick 1030)
    ∷ did.Event (event.Opened 5 2 station)
    ∷ did.Event (event.Opened 0 1 station)
    ∷ did.Event (event.Tick 1000)
    ∷ []

beside : History
beside =
    did.Sent 1 (codes "# ok") (sent.Took 4)
    ∷ did.Event (event.Tick 1030)
    ∷ did.Event (event.Opened 5 2 station)
    ∷ did.Event (event.Opened 0 1 station)
    ∷ did.Event (event.Tick 1000)
    ∷ []

opened_at_the_port : opened_from (Some 5) silent 2 ≡ Some station
unfolding silent
opened_at_the_port = refl

opened_elsewhere : opened_at (Some 5) silent 1 ≡ false
unfolding silent
opened_elsewhere = refl

thirty_seconds : opened_when (Some 5) silent 2 + 30 ≡ moment_in silent
unfolding silent
thirty_seconds = refl

silence_is_unseen : IsView uploads silent beside
unfolding silent beside
silence_is_unseen =
    let first : History = did.Event (event.Tick 1000) ∷ [] in
    let second : History = did.Event (event.Opened 0 1 station) ∷ first in
    let third : History = did.Event (event.Opened 5 2 station) ∷ second in
    let fourth : History = did.Event (event.Tick 1030) ∷ third in
    let view_first : IsView uploads first first = ([], refl, (event.Tick 1000, refl, refl)) in
    let view_second : IsView uploads second second = (first, view_first, (event.Opened 0 1 station, refl, refl)) in
    let view_third : IsView uploads third third = (second, view_second, (event.Opened 5 2 station, refl, refl)) in
    let view_fourth : IsView uploads fourth fourth = (third, view_third, (event.Tick 1030, refl, refl)) in
    (beside, (fourth, view_fourth, refl), refl)

-- ---- one tick settles a link of each port: the one that asked for the page comes first

abbrev both : Ports
both = record { page = Some 6; upload = Some 5 }

both_late : History
both_late =
    did.Event (event.Tick 1030)
    ∷ did.Event (event.Opened 5 2 station)
    ∷ did.Event (event.Opened 6 1 station)
    ∷ did.Event (event.Tick 1000)
    ∷ []

none_before_the_page : (bytes : List ℕ) (outcome : Sent) → PostsArePaid both (did.Sent 2 bytes outcome ∷ both_late) → ⊥
unfolding both_late
none_before_the_page bytes outcome paid = (paid.1 refl).is.1 1 408 tt refl (refl, omega arith)

then_its_turn : IsPostReply both (did.Sent 1 (reply_of 408) sent.Gone ∷ both_late) 408 (reply_of 408)
unfolding both_late
then_its_turn = (refl, λ link status any waits settles. of (1 == link) waits)
  where
    of : (b : Bool) → (not b && (b || false)) ≡ true → ⊥
    of true waits = true≢false (sym waits)
    of false waits = true≢false (sym waits)
