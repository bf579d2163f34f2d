-- Whoever speaks is named as a station, and what a verdict has for the links are lines.
use Rattle.std.proofs.Common.{◌≡◌, ℕ, ◌+◌, ◌-◌, ◌<◌, ◌≤◌, ◌/◌, ◌%◌, ◌==◌, ◌&&◌, nat_lt, length, Bool, true, false, List, [], ◌∷◌, ◌++◌, codes, refl, sym, ap, ◌∙◌, subst, arith, Option, Some, None, Result, Ok, Err, if◌then◌else◌, length-append}
use Rattle.std.specs.Bool.{⊤}
use Rattle.std.specs.Prelude.{IsTrue}
use Rattle.std.specs.Char.{is_ascii_alphanumeric}
use Rattle.std.specs.Fmt.{decimal}
use Rattle.std.specs.List.{list_all}
use Rattle.std.specs.Str.{byte}
use Rattle.std.proofs.lemmas.Bool.{and_from, and_parts, le-leb, ltb-false, ltb-true, true≢false}
use Rattle.std.proofs.lemmas.Bool.Decides.{nat_tests}
use Rattle.std.proofs.lemmas.List.Folds.{list_all-append}
use Rattle.aprs_base.specs.Bytes.{IsInner, IsLine, is_station}
use Rattle.aprs_base.specs.Cuts.{cuts_by, rest_of}
use Rattle.aprs_base.specs.PartsSeen.{PartsSeen}
use Rattle.aprs_base.specs.declared.cutting.Cut.{Cut}
use Rattle.aprs_base.specs.declared.cutting.Cut.TheVariants as cut
use Rattle.aprs_base.specs.declared.events.Event.{Event}
use Rattle.aprs_base.specs.declared.events.Event.TheVariants as event
use Rattle.aprs_base.specs.declared.events.Sent.TheVariants as sent
use Rattle.aprs_base.specs.declared.events.Happening.TheVariants as did
use Rattle.aprs_base.specs.declared.packets.PortKind.{PortKind}
use Rattle.aprs_base.specs.declared.packets.Source.{Source}
use Rattle.aprs_base.specs.declared.packets.Source.TheVariants as source
use Rattle.aprs_base.specs.declared.texts.Addr.{Addr}
use Rattle.tnc2_line.specs.Packet.{parts_of, text_of}
use Rattle.tnc2_line.specs.declared.reading.LineFault.{LineFault}
use Rattle.tnc2_line.proofs.Laws.{line_of_parts, parts_give}
use Rattle.login_pass.specs.Login.{is_verified, login_of}
use Rattle.login_pass.specs.declared.login_line.Login.{Login}
use Rattle.login_pass.specs.declared.login_line.LoginFault.{LoginFault}
use Rattle.filter_lang.specs.Canonical.{canonical}
use Rattle.filter_lang.specs.Grammar.{added, added_all, added_unless, and_then, excess_of, term_of, terms_of}
use Rattle.filter_lang.specs.Parts.{words_of}
use Rattle.filter_lang.specs.Terms.{TermSeen}
use Rattle.filter_lang.specs.declared.errors.FilterError.{FilterError}
use Rattle.filter_lang.specs.declared.errors.FilterError.TheVariants as error
use Rattle.filter_lang.proofs.ReadBounds.{inner_canonical, room_of, short_canonical}
use Rattle.q_construct.specs.Rule.{hex_digit, hex_of, name_of, process_of}
use Rattle.q_construct.specs.declared.drops.QDrop.{QDrop}
use Rattle.q_construct.specs.declared.drops.QDrop.TheVariants.{Unverified}
use Rattle.q_construct.specs.declared.origins.Origin.{Origin}
use Rattle.q_construct.specs.declared.origins.Origin.TheVariants as origin
use Rattle.q_construct.proofs.HexLemmas.{eight}
use Rattle.q_construct.proofs.Laws.{answer_is, answer_short, answer_sound}
use Rattle.dupe_window.specs.Keys.{is_text}
use Rattle.aprs_history.specs.declared.verdicts.Admission.{Admission}
use Rattle.aprs_history.specs.declared.verdicts.Admission.TheVariants.{NoPort, NotAsked, TurnedAway, Served}
use Rattle.aprs_history.specs.declared.verdicts.FilterAnswer.{FilterAnswer}
use Rattle.aprs_history.specs.declared.verdicts.LinkKind.{LinkKind}
use Rattle.aprs_history.specs.declared.verdicts.LinkKind.TheVariants.{Client, Uplink}
use Rattle.aprs_history.specs.declared.verdicts.Refusal.{Refusal}
use Rattle.aprs_history.specs.declared.verdicts.Refusal.TheVariants as refusal
use Rattle.aprs_history.specs.declared.verdicts.Session.{Session}
use Rattle.aprs_history.specs.declared.verdicts.Verdict.{Verdict}
use Rattle.aprs_history.specs.declared.verdicts.Verdict.TheVariants.{PassedOver, Refused, LoggedIn, Filtered, Accepted}
use Rattle.aprs_history.specs.Setting.{Setting, is_client_kind, is_dupe_kind, is_filter_kind, is_only_kind, kind_at, peer_from}
use Rattle.aprs_history.specs.Trace.{Trace, Entry, AtListener, ByUplink, Door, RoundBegan, Opened, Brought, Said, is_from, is_live, moment_of}
use Rattle.aprs_history.specs.Links.{Opening, brought_by, client_links, opening_by, opening_of, session_after, session_of}
use Rattle.aprs_history.specs.Verdicts.{Carrier, Scene, Speaker, Visitor, active_reply, answer_by, answer_of, carried_verdict, client_origin, command_verdict, filter_command, is_comment, login_answer, login_verdict, packet_verdict, read_and_routed, routed, spoken_verdict, submitter_by, submitter_of, text_at, verdict_of}
use Rattle.aprs_history.specs.Scenes.{datagram_scene, scene_of, speaker_by, speaker_of}
use Rattle.aprs_history.specs.Texts.{filter_reply, refused_filter}
use Rattle.aprs_history.specs.History.{History, admission, admitted, bring, datagram_cuts, joined_admission, say_all, trace_of, with_event}
use Rattle.aprs_history.specs.Accepting.{IsSaidAs, SpeaksAs}
use Rattle.aprs_history.specs.Sound.{IsSound, JoinsHaveAddresses, OriginsAreStations, is_address}
use Rattle.aprs_history.proofs.AcceptingLemmas.{is_peer}
use Rattle.aprs_history.proofs.LineLemmas.{login_station, term_words}
use Rattle.aprs_history.proofs.StepLemmas.{Each, IsNoDuplicate, IsOfLink, IsQuiet, Steps, each_at, kept_after}
use Rattle.aprs_history.proofs.WholeLines.{AreWhole, IsWhole, cuts_whole}

-- ---- the name of an address

digit_letter : (d : ℕ) → d < 16 → is_ascii_alphanumeric (hex_digit d) ≡ true
digit_letter d lt = of (nat_lt d 10) refl
  where
    of : (b : Bool) → nat_lt d 10 ≡ b → is_ascii_alphanumeric (if b then 48 + d else 65 - 10 + d) ≡ true
    of true is = let low = ltb-true d 10 is in grind (arith, nat_tests)
    of false is = let high = ltb-false d 10 is in grind (arith, nat_tests)

four : (port a b c d : ℕ) → list_all (λ x. nat_lt x 256) (a ∷ b ∷ c ∷ d ∷ []) ≡ true → is_station (hex_of (record { ip = a ∷ b ∷ c ∷ d ∷ []; port = port })) ≡ true
four port a b c d all =
    let pa = and_parts _ _ all in
    let pb = and_parts _ _ pa.1 in
    let pc = and_parts _ _ pb.1 in
    let pd = and_parts _ _ pc.1 in
    let high : (x : ℕ) → nat_lt x 256 ≡ true → is_ascii_alphanumeric (hex_digit (x / 16)) ≡ true = λ x is. digit_letter (x / 16) (let lt = ltb-true x 256 is in omega arith) in
    let low : (x : ℕ) → is_ascii_alphanumeric (hex_digit (x % 16)) ≡ true = λ x. digit_letter (x % 16) (omega arith) in
    and_from _ _
    (eight (hex_digit (a / 16)) (hex_digit (a % 16)) (hex_digit (b / 16)) (hex_digit (b % 16)) (hex_digit (c / 16)) (hex_digit (c % 16)) (hex_digit (d / 16)) (hex_digit (d % 16))
    (high a pa.0) (low a) (high b pb.0) (low b) (high c pc.0) (low c) (high d pd.0) (low d)) refl

by_bytes : (port : ℕ) (ip : List ℕ) → (length ip == 4 && list_all (λ b. nat_lt b 256) ip) ≡ true → is_station (hex_of (record { ip = ip; port = port })) ≡ true
by_bytes port [] is = absurd (true≢false (sym is))
by_bytes port (a ∷ []) is = absurd (true≢false (sym is))
by_bytes port (a ∷ b ∷ []) is = absurd (true≢false (sym is))
by_bytes port (a ∷ b ∷ c ∷ []) is = absurd (true≢false (sym is))
by_bytes port (a ∷ b ∷ c ∷ d ∷ []) is = four port a b c d (and_parts (length {A = ℕ} (a ∷ b ∷ c ∷ d ∷ []) == 4) (list_all (λ x. nat_lt x 256) (a ∷ b ∷ c ∷ d ∷ [])) is).1
by_bytes port (a ∷ b ∷ c ∷ d ∷ e ∷ more) is =
    absurd (let none : (length (a ∷ b ∷ c ∷ d ∷ e ∷ more) == 4) ≡ false = grind arith in true≢false (sym (and_parts (length {A = ℕ} (a ∷ b ∷ c ∷ d ∷ e ∷ more) == 4) (list_all (λ x. nat_lt x 256) (a ∷ b ∷ c ∷ d ∷ e ∷ more)) is).0 ∙ none))

address_station : (at : Addr) → is_address at ≡ true → is_station (hex_of at) ≡ true
address_station at is = by_bytes at.port at.ip is

abbrev submitter_named : (own verified : Bool) → List ℕ → Result (List ℕ) Refusal
submitter_named own verified call = if own then Err refusal.OwnName else if verified then Ok call else Err (refusal.Path Unverified)

named_is : (own verified : Bool) (call login : List ℕ) → submitter_named own verified call ≡ Ok login → call ≡ login
named_is true verified call login e = absurd cc
named_is false false call login e = absurd cc
named_is false true call login e = cc

submitter_station : (server : List ℕ) (first : Cut) (login : List ℕ) → submitter_of server first ≡ Ok login → is_station login ≡ true
submitter_station server cut.Long login e = absurd cc
submitter_station server (cut.Line text) login e = of (login_of text) refl e
  where
    of : (r : Result Login LoginFault) → login_of text ≡ r → submitter_by server r ≡ Ok login → is_station login ≡ true
    of (Err why) is e = absurd cc
    of (Ok l) is e = ap is_station (sym (named_is (is_text l.call server) (is_verified l) l.call login e)) ∙ login_station text l is

-- ---- replies to filters

active_is_line : (terms : List TermSeen) → IsInner (canonical terms) → length (canonical terms) ≤ 480 → IsLine (active_reply terms)
active_is_line terms words short =
    let rest = canonical terms ++ codes " active" in
    let inner : IsInner rest = rw list_all-append (rw words refl) in
    let size : length (active_reply terms) ≤ 510 = omega (arith, length-append (canonical terms) (codes " active"), short) in
    let some : 1 ≤ length (active_reply terms) = omega arith in
    rw (le-leb 1 (length (active_reply terms)) some, le-leb (length (active_reply terms)) 510 size) inner

refused_is_line : (words : List ℕ) → IsInner words × (length words ≤ 30) → IsLine (refused_filter words)
refused_is_line words are =
    let size : length (refused_filter words) ≤ 510 = omega (arith, are.1) in
    let some : 1 ≤ length (refused_filter words) = omega arith in
    rw (le-leb 1 (length (refused_filter words)) some, le-leb (length (refused_filter words)) 510 size) are.0

letter_is_line : (all range friend : Bool) → IsLine (refused_filter (if all then codes "too many terms" else if range then codes "too many r" else if friend then codes "too many f" else codes "too many a"))
letter_is_line true range friend = refl
letter_is_line false true friend = refl
letter_is_line false false true = refl
letter_is_line false false false = refl

-- the number of a term that is none
-- one term more is read, or a fault
abbrev AddedMeets : (words : List (List ℕ)) (done : List TermSeen) (n : ℕ) → Type 0
AddedMeets words done n = added_all done words ≡ Err (error.Term n) → n ≤ 65

few_added_to : (words : List (List ℕ)) (done : List TermSeen) (n : ℕ) (t : TermSeen) (excess : Option ℕ) → excess_of done t.what ≡ excess → (length done < 64 → AddedMeets words (done ++ t ∷ []) n)
    → and_then (added_unless done t excess) (λ more. added_all more words) ≡ Err (error.Term n) → n ≤ 65
few_added_to words done n t None is later e = later (room_of done t is) e
few_added_to words done n t (Some letter) is later e = absurd cc

few_before : (words : List (List ℕ)) (done : List TermSeen) (n : ℕ) → length done ≤ 64 → AddedMeets words done n
few_before [] done n few e = absurd cc
few_before (word ∷ words) done n few e = of (term_of word) (λ t room. few_before words (done ++ t ∷ []) n (omega (arith, room, length-append done (t ∷ [])))) e
  where
    of : (read : Option TermSeen) → ((t : TermSeen) → length done < 64 → AddedMeets words (done ++ t ∷ []) n) → and_then (added done read) (λ more. added_all more words) ≡ Err (error.Term n) → n ≤ 65
    of None later e = let same : length done + 1 ≡ n = cc in omega (arith, same, few)
    of (Some t) later e = few_added_to words done n t (excess_of done t.what) refl (later t) e

term_number : (text : List ℕ) (n : ℕ) → terms_of text ≡ Err (error.Term n) → n ≤ 65
unfolding terms_of
term_number text n e = of (nat_lt 480 (length text)) e
  where
    of : (b : Bool) → (if b then Err error.Long else added_all [] (words_of text)) ≡ Err (error.Term n) → n ≤ 65
    of true e = absurd cc
    of false e = few_before (words_of text) [] n (omega arith) e

terms_reply : (text : List ℕ) (read : Result (List TermSeen) FilterError) → terms_of text ≡ read → IsLine (filter_reply (answer_by read))
terms_reply text (Ok terms) is = active_is_line terms (inner_canonical text terms is) (short_canonical text terms is)
terms_reply text (Err error.Long) is = refl
terms_reply text (Err (error.Term n)) is = let few = term_number text n is in refused_is_line (codes "term " ++ decimal n) (term_words n (omega (arith, few)))
terms_reply text (Err (error.TooMany letter)) is = letter_is_line (letter == byte "*") (letter == byte "r") (letter == byte "f")
terms_reply text (Err error.Memory) is = refl

answer_is_line : (filters : Bool) (text : List ℕ) → IsLine (filter_reply (answer_of filters text))
answer_is_line true text = terms_reply text (terms_of text) refl
answer_is_line false text = refl

-- ---- what a verdict has for the links

abbrev pub IsFineAnswer : Option FilterAnswer → Type 0
IsFineAnswer None = ⊤
IsFineAnswer (Some answer) = IsLine (filter_reply answer)

-- a login is a station's, and the line of a packet and the reply to a filter are lines
abbrev pub IsFine : Verdict → Type 0
IsFine PassedOver = ⊤
IsFine (Refused (refusal.Duplicate parts line)) = IsLine line
IsFine (Refused why) = ⊤
IsFine (LoggedIn session answer) = IsTrue (is_station session.call) × IsFineAnswer answer
IsFine (Filtered answer) = IsLine (filter_reply answer)
IsFine (Accepted parts line) = IsLine line

login_answer_fine : (filters : Bool) (line : List ℕ) (place : Option (ℕ × ℕ)) → IsFineAnswer (login_answer filters line place)
login_answer_fine filters line None = tt
login_answer_fine filters line (Some place) = answer_is_line filters (text_at line place)

login_fine : (server : List ℕ) (filters : Bool) (line : List ℕ) (read : Result Login LoginFault) → login_of line ≡ read → IsFine (login_verdict server filters line read)
login_fine server filters line (Err why) is = tt
login_fine server filters line (Ok login) is = of (is_text login.call server)
  where
    of : (own : Bool) → IsFine (if own then Refused refusal.OwnName else LoggedIn (record { call = login.call; verified = is_verified login }) (login_answer filters line login.filter))
    of true = tt
    of false = (login_station line login is, login_answer_fine filters line login.filter)

command_fine : (filters : Bool) (session : Option Session) (text : Option (List ℕ)) → IsFine (command_verdict filters session text)
command_fine filters None text = tt
command_fine filters (Some session) None = tt
command_fine filters (Some session) (Some text) = answer_is_line filters text

routed_fine : (copies : PartsSeen → Bool) (r : Result PartsSeen QDrop) → ((parts : PartsSeen) → r ≡ Ok parts → IsLine (text_of parts)) → IsFine (packet_verdict copies (routed r))
routed_fine copies (Err drop') lines = tt
routed_fine copies (Ok parts) lines = of (copies parts)
  where
    of : (b : Bool) → IsFine (if b then Refused (refusal.Duplicate parts (text_of parts)) else Accepted parts (text_of parts))
    of true = lines parts refl
    of false = lines parts refl

-- a scene whose server and speaker are stations
record HasStations (scene : Scene) (speaker : Speaker) : Type 0 where
  server : is_station scene.server ≡ true
  origin : (by : Origin) → SpeaksAs speaker by → is_station (name_of by) ≡ true

carried_fine : (scene : Scene) (by : Origin) (text : List ℕ) → is_station scene.server ≡ true → is_station (name_of by) ≡ true → IsLine text → IsFine (carried_verdict scene by text)
carried_fine scene by text served named line = of (parts_of text) refl
  where
    of : (r : Result PartsSeen LineFault) → parts_of text ≡ r → IsFine (packet_verdict scene.copies (read_and_routed scene.server by scene.others r))
    of (Err fault) reads = tt
    of (Ok before) reads =
        let packet = parts_give text before (and_parts _ _ line).1 reads in
        routed_fine scene.copies (process_of before by scene.server scene.others)
        (λ parts goes.
        let answer = answer_is before by scene.server scene.others parts goes in
        line_of_parts parts (answer_sound before by scene.server scene.others parts packet.sound served named answer) (answer_short before by scene.server scene.others parts answer))

spoken_fine : (scene : Scene) (speaker : Speaker) (text : List ℕ) → HasStations scene speaker → IsLine text → IsFine (spoken_verdict scene speaker text)
spoken_fine scene (Visitor kind None) text stations line = of (is_comment text)
  where
    of : (b : Bool) → IsFine (if b then command_verdict (is_filter_kind kind) None (filter_command text) else login_verdict scene.server (is_filter_kind kind) text (login_of text))
    of true = command_fine (is_filter_kind kind) None (filter_command text)
    of false = login_fine scene.server (is_filter_kind kind) text (login_of text) refl
spoken_fine scene (Visitor kind (Some session)) text stations line = of (is_comment text) (is_dupe_kind kind)
  where
    of : (b d : Bool) → IsFine (if b then command_verdict (is_filter_kind kind) (Some session) (filter_command text) else if d then Refused refusal.ReadOnly else carried_verdict scene (client_origin (is_only_kind kind) session) text)
    of true d = command_fine (is_filter_kind kind) (Some session) (filter_command text)
    of false true = tt
    of false false = carried_fine scene (client_origin (is_only_kind kind) session) text stations.server (stations.origin (client_origin (is_only_kind kind) session) refl) line
spoken_fine scene (Carrier from) text stations line = of (is_comment text)
  where
    of : (b : Bool) → IsFine (if b then PassedOver else carried_verdict scene from text)
    of true = tt
    of false = carried_fine scene from text stations.server (stations.origin from refl) line

verdict_fine : (scene : Scene) (said : Cut) → HasStations scene scene.speaker → IsWhole said → IsFine (verdict_of scene said)
verdict_fine scene cut.Long stations whole = tt
verdict_fine scene (cut.Line text) stations whole = spoken_fine scene scene.speaker text stations whole

-- ---- what is known of each link

abbrev IsNamed : Option Session → Type 0
IsNamed None = ⊤
IsNamed (Some session) = is_station session.call ≡ true

abbrev HasAddress : LinkKind → Addr → Type 0
HasAddress (Client kind) from = ⊤
HasAddress (Uplink uplink) from = is_address from ≡ true

abbrev IsPlaced : Option Opening → Type 0
IsPlaced None = ⊤
IsPlaced (Some opening) = HasAddress opening.kind opening.from

abbrev AllKnown : Trace → Type 0
AllKnown t = (link : ℕ) → IsNamed (session_of t link) × IsPlaced (opening_of t link)

speaks_station : (opening : Option Opening) (session : Option Session) → IsPlaced opening → IsNamed session → (by : Origin) → SpeaksAs (speaker_of opening session) by → is_station (name_of by) ≡ true
speaks_station None None placed named by is = absurd is
speaks_station None (Some session) placed named by is = ap (λ b. is_station (name_of b)) is ∙ named
speaks_station (Some opening) session placed named by is = of opening.kind opening.from session placed named is
  where
    of : (kind : LinkKind) (from : Addr) (session : Option Session) → HasAddress kind from → IsNamed session → SpeaksAs (speaker_by kind from session) by → is_station (name_of by) ≡ true
    of (Client kind) from None placed named is = absurd is
    of (Client kind) from (Some session) placed named is = ap (λ b. is_station (name_of b)) is ∙ named
    of (Uplink uplink) from session placed named is = ap (λ b. is_station (name_of b)) is ∙ address_station from placed

-- ---- over a trace

module _ (s : Setting) (sound : IsSound s) where
  source_station : (t : Trace) (from : Source) (by : Origin) (others : List (List ℕ)) → AllKnown t → IsSaidAs s t from by others → is_station (name_of by) ≡ true
  source_station t (source.Link link) by others known is = let k = known link in speaks_station (opening_of t link) (session_of t link) k.1 k.0 by is.0
  source_station t (source.Peer number) by others known is = let p = is.0 in ap (λ b. is_station (name_of b)) p.its ∙ sound.peers number p.peer p.there
  source_station t (source.Submit listener) by others known is = let b = is.0 in ap (λ b. is_station (name_of b)) b.its ∙ submitter_station s.server b.first b.login b.verified

  -- of each line that was said
  abbrev pub IsFineAt : Trace → Entry → Type 0
  IsFineAt t (Said from said verdict) = AllKnown t × IsFine verdict
  IsFineAt t entry = ⊤

  abbrev pub Fine : Trace → Type 0
  Fine t = AllKnown t × Each IsFineAt t

  said_known : (t : Trace) (from : Source) (said : Cut) (verdict : Verdict) → IsFine verdict → AllKnown t → AllKnown (Said from said verdict ∷ t)
  said_known t from said verdict fine known link = (of (is_from link from), (known link).1)
    where
      after : (v : Verdict) → IsFine v → IsNamed (session_after v (session_of t link))
      after (LoggedIn session answer) fine = fine.0
      after PassedOver fine = (known link).0
      after (Refused why) fine = (known link).0
      after (Filtered answer) fine = (known link).0
      after (Accepted parts line) fine = (known link).0

      of : (b : Bool) → IsNamed (if b then session_after verdict (session_of t link) else session_of t link)
      of true = after verdict fine
      of false = (known link).0

  all_fine : (scene : Trace → Scene) (from : Source) → ((t : Trace) → AllKnown t → HasStations (scene t) (scene t).speaker) → (cuts : List Cut) → AreWhole cuts → (t : Trace) → Fine t → Fine (say_all scene from cuts t)
  all_fine scene from stations [] whole t fine = fine
  all_fine scene from stations (said ∷ cuts) whole t fine =
      let verdict = verdict_of (scene t) said in
      let good = verdict_fine (scene t) said (stations t fine.0) whole.0 in
      all_fine scene from stations cuts whole.1 (Said from said verdict ∷ t) (said_known t from said verdict good fine.0, ((fine.0, good), fine.1))

  fine_quiet : (t : Trace) (entry : Entry) → IsQuiet entry → Fine t → Fine (entry ∷ t)
  fine_quiet t RoundBegan is fine = absurd is
  fine_quiet t (Opened door new link from) is fine = absurd is
  fine_quiet t (Brought link bytes) is fine = absurd is
  fine_quiet t (Said from said verdict) is fine = absurd is
  fine_quiet t entry is fine = (fine.0, (tt, fine.1))

  refusal_fine : (t : Trace) (listener : ℕ) (said : Cut) (why : Refusal) → IsNoDuplicate why → Fine t → Fine (Said (source.Submit listener) said (Refused why) ∷ t)
  refusal_fine t listener said (refusal.Duplicate parts line) alone fine = absurd alone
  refusal_fine t listener said why alone fine = (fine.0, ((fine.0, tt), fine.1))

  peer_station : (at : Addr) (peer : ℕ × List ℕ) → peer_from 0 s.peers at ≡ Some peer → is_station peer.1 ≡ true
  peer_station at peer e = let p = is_peer s at peer (origin.Peer peer.1) e refl in ap (λ b. is_station (name_of b)) p.its ∙ sound.peers peer.0 p.peer p.there

  -- who speaks in a datagram is a station
  datagram_stations : (by : Origin) → is_station (name_of by) ≡ true → (t : Trace) → AllKnown t → HasStations (datagram_scene s by t) (Carrier by)
  datagram_stations by named t known = record { server = sound.server; origin = λ other is. ap (λ b. is_station (name_of b)) is ∙ named }

  fine_steps : Steps s Fine
  fine_steps = record {
    quiet = fine_quiet;
    refused = refusal_fine;
    submitted = λ t listener bytes first cuts login are is fine.
        all_fine (datagram_scene s (origin.Udp login)) (source.Submit listener) (datagram_stations (origin.Udp login) (submitter_station s.server first login is))
        cuts (subst AreWhole are (cuts_whole (rest_of [] ++ (bytes ++ 10 ∷ [])))).1 t fine;
    relayed = λ t from bytes peer is fine.
        all_fine (datagram_scene s (origin.Peer peer.1)) (source.Peer peer.0) (datagram_stations (origin.Peer peer.1) (peer_station from peer is))
        (datagram_cuts bytes) (cuts_whole (rest_of [] ++ (bytes ++ 10 ∷ []))) t fine;
  }

  link_stations : (k : ℕ) (t : Trace) → AllKnown t → HasStations (scene_of s t k) (scene_of s t k).speaker
  link_stations k t known = record { server = sound.server; origin = λ by is. let here = known k in speaks_station (opening_of t k) (session_of t k) here.1 here.0 by is }

  fine_bring : (k : ℕ) (bytes : List ℕ) (t : Trace) → Fine t → Fine (bring s k bytes t)
  fine_bring k bytes t fine =
      all_fine (λ now. scene_of s now k) (source.Link k) (link_stations k) (cuts_by (brought_by t k) bytes) (cuts_whole (rest_of (brought_by t k) ++ bytes)) (Brought k bytes ∷ t) (fine.0, (tt, fine.1))

  fine_opened : (t : Trace) (door : Door) (new : Admission) (opened : ℕ) (from : Addr) → IsPlaced (opening_by new from (moment_of t)) → Fine t → Fine (Opened door new opened from ∷ t)
  fine_opened t door new opened from placed fine = (λ link. of link (link == opened), (tt, fine.1))
    where
      of : (link : ℕ) (b : Bool) → IsNamed (if b then None else session_of t link) × IsPlaced (if b then opening_by new from (moment_of t) else opening_of t link)
      of link true = (tt, placed)
      of link false = fine.0 link

  client_placed : (most there moment : ℕ) (from : Addr) (served : Option PortKind) → IsPlaced (opening_by (admitted most there served) from moment)
  client_placed most there moment from None = tt
  client_placed most there moment from (Some kind) = of (is_client_kind kind) (nat_lt there most)
    where
      of : (client room : Bool) → IsPlaced (opening_by (if client then (if room then Served (Client kind) else TurnedAway) else NoPort) from moment)
      of true true = tt
      of true false = tt
      of false room = tt

  uplink_placed : (asked : Bool) (uplink moment : ℕ) (at : Addr) → is_address at ≡ true → IsPlaced (opening_by (if asked then Served (Uplink uplink) else NotAsked) at moment)
  uplink_placed true uplink moment at is = is
  uplink_placed false uplink moment at is = tt

  -- an uplink that joins does so from an address
  abbrev JoinsFromAddress : Event → Type 0
  JoinsFromAddress (event.Joined uplink link at) = is_address at ≡ true
  JoinsFromAddress e = ⊤

  fine_of_link : (e : Event) → JoinsFromAddress e → (t : Trace) → IsOfLink e → Fine t → Fine (with_event s e t)
  fine_of_link (event.Opened listener link from) joins t is fine =
      fine_opened t (AtListener listener) (admission s t listener) link from (client_placed s.max_clients (length (client_links t)) (moment_of t) from (kind_at s listener)) fine
  fine_of_link (event.Joined uplink link at) joins t is fine = fine_opened t (ByUplink uplink) (joined_admission s t uplink link) link at (uplink_placed _ uplink (moment_of t) at joins) fine
  fine_of_link (event.Bytes k bytes) joins t is fine = of (is_live t k)
    where
      of : (b : Bool) → Fine (if b then bring s k bytes t else t)
      of true = fine_bring k bytes t fine
      of false = fine
  fine_of_link e joins t is fine = absurd is

  fine_after : (h : History) (e : Event) → JoinsFromAddress e → Fine (trace_of s h) → Fine (trace_of s (did.Event e ∷ h))
  fine_after h e joins fine = kept_after s Fine fine_steps (λ t known. (known.0, (tt, known.1))) h e (fine_of_link e joins) fine

  pub fine_history : (h : History) → JoinsHaveAddresses h → Fine (trace_of s h)
  unfolding trace_of
  fine_history [] joins = (λ link. (tt, tt), tt)
  fine_history (did.Event (event.Joined uplink link at) ∷ h) joins = fine_after h (event.Joined uplink link at) joins.1 (fine_history h joins.0)
  fine_history (did.Event (event.Tick moment) ∷ h) joins = fine_after h (event.Tick moment) tt (fine_history h joins)
  fine_history (did.Event (event.Opened listener link from) ∷ h) joins = fine_after h (event.Opened listener link from) tt (fine_history h joins)
  fine_history (did.Event (event.Bytes link bytes) ∷ h) joins = fine_after h (event.Bytes link bytes) tt (fine_history h joins)
  fine_history (did.Event (event.Ended link) ∷ h) joins = fine_after h (event.Ended link) tt (fine_history h joins)
  fine_history (did.Event (event.Room link) ∷ h) joins = fine_after h (event.Room link) tt (fine_history h joins)
  fine_history (did.Event event.Stop ∷ h) joins = fine_after h event.Stop tt (fine_history h joins)
  fine_history (did.Event (event.Unjoined uplink) ∷ h) joins = fine_after h (event.Unjoined uplink) tt (fine_history h joins)
  fine_history (did.Event (event.Datagram listener from bytes) ∷ h) joins = fine_after h (event.Datagram listener from bytes) tt (fine_history h joins)
  fine_history (did.Sent link bytes (sent.Took n) ∷ h) joins = let fine = fine_history h joins in (fine.0, (tt, fine.1))
  fine_history (did.Sent link bytes sent.Gone ∷ h) joins = let fine = fine_history h joins in (fine.0, (tt, fine.1))
  fine_history (x ∷ h) joins = fine_history h joins

pub origins_are_stations : OriginsAreStations
origins_are_stations s h later earlier from said verdict by others sound joins split is =
    let fine = each_at (IsFineAt s sound) later earlier (Said from said verdict) (subst (Each (IsFineAt s sound)) split (fine_history s sound h joins).1) in
    source_station s sound earlier from by others fine.0 is
