-- What is cast: each datagram is the line of a packet that was accepted, and it is one line.
use Rattle.std.proofs.Common.{◌≡◌, ℕ, ◌≤◌, ◌==◌, nat_lt, Bool, true, false, List, [], ◌∷◌, ◌++◌, length, refl, sym, ap, ◌∙◌, arith, Some, ⊎_elim, append-nil, append_assoc, if◌then◌else◌}
use Rattle.std.specs.Prelude.{slice_get}
use Rattle.std.specs.List.{cons_option}
use Rattle.std.proofs.lemmas.Bool.{and_parts, cases_Bool, eqb-true, leb-true, ltb-false, ltb-true}
use Rattle.aprs_base.specs.Bytes.{IsLine}
use Rattle.aprs_base.specs.Cuts.{cut_of, cuts_of}
use Rattle.aprs_base.specs.PacketSeen.{PacketSeen}
use Rattle.aprs_base.specs.declared.cutting.Cut.{Cut}
use Rattle.aprs_base.specs.declared.cutting.Cut.TheVariants as cut
use Rattle.aprs_base.specs.declared.events.Happening.TheVariants as did
use Rattle.aprs_base.specs.declared.packets.Source.{Source}
use Rattle.aprs_base.proofs.CutLemmas.{cut_short, cuts_of-first}
use Rattle.link_queue.specs.Lines.{ended_line}
use Rattle.aprs_history.specs.declared.verdicts.Verdict.{Verdict}
use Rattle.aprs_history.specs.declared.verdicts.Verdict.TheVariants.{PassedOver, Refused, LoggedIn, Filtered, Accepted}
use Rattle.aprs_history.specs.Setting.{Setting}
use Rattle.aprs_history.specs.Trace.{Trace, Said, moment_of}
use Rattle.aprs_history.specs.Links.{is_submitted}
use Rattle.aprs_history.specs.Scenes.{accepted_by, accepted_of, packet_of}
use Rattle.aprs_history.specs.History.{History, datagram_cuts, open_events, trace_of}
use Rattle.aprs_history.specs.Acts.{IsRun, due}
use Rattle.aprs_history.specs.Casting.{casts_to_peer, submitted_line, submitted_lines}
use Rattle.aprs_history.specs.Sound.{IsSound, JoinsHaveAddresses}
use Rattle.aprs_history.proofs.CastingLemmas.{submissions_are_cast}
use Rattle.aprs_history.proofs.OriginLemmas.{IsFineAt, fine_history}
use Rattle.aprs_history.proofs.ReachLemmas.{peers_get_submissions}
use Rattle.aprs_history.proofs.StepLemmas.{Each}
use Rattle.net_history.specs.Descents.{submitted_place, submitted_places}
use Rattle.net_history.proofs.BetweenLemmas.{at_end, at_longer, at_mapped, none_some}
use Rattle.net_history.proofs.ZipLemmas.{Zip, zip_at, zip_both, zip_weaker}

-- ---- a datagram is one line

line_cut : (line : List ℕ) → IsLine line → cut_of line ≡ Some (cut.Line line)
line_cut line is =
    let both = and_parts _ _ is in
    let sizes = and_parts _ _ both.0 in
    cut_short line (leb-true 1 (length line) sizes.0) (leb-true (length line) 510 sizes.1)

pub datagram_is_line : (line : List ℕ) → IsLine line → datagram_cuts (ended_line line) ≡ cut.Line line ∷ []
datagram_is_line line is =
    ap cuts_of (append_assoc line (13 ∷ 10 ∷ []) (10 ∷ []))
    ∙ cuts_of-first line (13 ∷ 10 ∷ 10 ∷ []) (and_parts _ _ is).1 (omega arith)
    ∙ ap (λ l. cons_option (cut_of l) (cuts_of (10 ∷ 10 ∷ []))) (append-nil line)
    ∙ ap (λ c. cons_option c (cuts_of (10 ∷ 10 ∷ []))) (line_cut line is)

-- ---- where the lines that were submitted stand among the accepted ones

abbrev pub IsPlaceOf : Trace → List ℕ → ℕ → Type 0
IsPlaceOf t line place = (packet : PacketSeen) × (slice_get (accepted_of t) place ≡ Some packet) × (packet.line ≡ line) × IsLine line

-- a datagram that was cast, and the packet of which it is the line
pub record IsCast (t : Trace) (k : ℕ) (bytes : List ℕ) : Type 0 where
  pub line : List ℕ
  pub place : ℕ
  pub is : bytes ≡ ended_line line
  pub there : slice_get (submitted_places t) k ≡ Some place
  pub its : IsPlaceOf t line place

module _ (s : Setting) (sound : IsSound s) where
  place_later : (t : Trace) (from : Source) (said : Cut) (verdict : Verdict) (line : List ℕ) (place : ℕ) → IsPlaceOf t line place → IsPlaceOf (Said from said verdict ∷ t) line place
  place_later t from said verdict line place is = (is.0, at_longer (accepted_of t) (accepted_by from (moment_of t) verdict) place is.0 is.1, is.2, is.3)

  own_place : (t : Trace) (from : Source) (said : Cut) (verdict : Verdict) → IsFineAt s sound t (Said from said verdict)
      → Zip (IsPlaceOf (Said from said verdict ∷ t)) (submitted_line (is_submitted t from) verdict) (submitted_place (is_submitted t from) verdict (length (accepted_of t)))
  own_place t from said (Accepted parts line) fine = of (is_submitted t from)
    where
      of : (b : Bool) → Zip (IsPlaceOf (Said from said (Accepted parts line) ∷ t)) (if b then line ∷ [] else []) (if b then length (accepted_of t) ∷ [] else [])
      of true = ((packet_of from (moment_of t) parts line, at_end (accepted_of t) (packet_of from (moment_of t) parts line), refl, fine.1), tt)
      of false = tt
  own_place t from said PassedOver fine = tt
  own_place t from said (Refused why) fine = tt
  own_place t from said (LoggedIn session answer) fine = tt
  own_place t from said (Filtered answer) fine = tt

  places : (t : Trace) → Each (IsFineAt s sound) t → Zip (IsPlaceOf t) (submitted_lines t) (submitted_places t)
  places [] fine = tt
  places (Said from said verdict ∷ t) fine =
      zip_both (IsPlaceOf (Said from said verdict ∷ t)) (submitted_lines t) (submitted_line (is_submitted t from) verdict) (submitted_places t) (submitted_place (is_submitted t from) verdict (length (accepted_of t)))
      (zip_weaker (IsPlaceOf t) (IsPlaceOf (Said from said verdict ∷ t)) (place_later t from said verdict) (submitted_lines t) (submitted_places t) (places t fine.1))
      (own_place t from said verdict fine.0)
  places (entry ∷ t) fine = places t fine.1

  -- ---- what was cast

  no_casts : (peer : ℕ) → length s.peers ≤ peer → (h : History) → IsRun s h → casts_to_peer h peer ≡ []
  no_casts peer past [] run = refl
  no_casts peer past (did.Cast to bytes ∷ h) run =
      let low = (peers_get_submissions s [] h to bytes run).0 in
      ⊎_elim
      (λ same. let is = eqb-true to peer same in absurd (omega (arith, is, low, past)))
      (λ other. ap (λ b. if b then casts_to_peer h peer ++ bytes ∷ [] else casts_to_peer h peer) other ∙ no_casts peer past h run.0)
      (cases_Bool (to == peer))
  no_casts peer past (did.Event e ∷ h) run = no_casts peer past h run.0
  no_casts peer past (did.Listen n ∷ h) run = no_casts peer past h run.0
  no_casts peer past (did.Dialled n ∷ h) run = no_casts peer past h run.0
  no_casts peer past (did.Sent link bytes outcome ∷ h) run = no_casts peer past h run.0
  no_casts peer past (did.Closed link ∷ h) run = no_casts peer past h run.0

  pub casts_are_lines : (h : History) → JoinsHaveAddresses h → IsRun s h → open_events h ≡ 0 → due s h ≡ [] → (peer k : ℕ) (bytes : List ℕ) → slice_get (casts_to_peer h peer) k ≡ Some bytes → IsCast (trace_of s h) k bytes
  casts_are_lines h joins run finished nothing peer k bytes at = ⊎_elim
      (λ low.
      let cast = submissions_are_cast s h peer run (ltb-true peer (length s.peers) low) finished nothing in
      let line = at_mapped ended_line (submitted_lines (trace_of s h)) k bytes (ap (λ casts. slice_get casts k) (sym cast) ∙ at) in
      let place = zip_at (IsPlaceOf (trace_of s h)) (submitted_lines (trace_of s h)) (submitted_places (trace_of s h)) k line.0 (places (trace_of s h) (fine_history s sound h joins).1) line.1 in
      record { line = line.0; place = place.0; is = sym line.2; there = place.1; its = place.2 })
      (λ high. absurd (none_some bytes (ap (λ casts. slice_get casts k) (sym (no_casts peer (ltb-false peer (length s.peers) high) h run)) ∙ at)))
      (cases_Bool (nat_lt peer (length s.peers)))
