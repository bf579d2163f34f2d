-- Filters at work in single lines and in small histories, and what the definitions say of them.
use Rattle.std.proofs.Common.{◌≡◌, refl, ℕ, List, [], ◌∷◌, ◌++◌, codes, true, arith, subst}
use Rattle.std.specs.Fmt.{decimal}
use Rattle.std.proofs.lemmas.Fmt.{decimal-digits_of, decimal_digit}
use Rattle.aprs_base.specs.declared.events.Event.TheVariants as event
use Rattle.aprs_base.specs.declared.events.Happening.{Happening}
use Rattle.aprs_base.specs.declared.events.Happening.TheVariants as did
use Rattle.aprs_base.specs.declared.packets.PortKind.TheVariants as kind
use Rattle.aprs_base.specs.declared.packets.Source.TheVariants as source
use Rattle.aprs_body.specs.Bodies.{body_of}
use Rattle.aprs_position.specs.Either.{either_place}
use Rattle.aprs_position.specs.Plain.{mark_after, plain_place, written_of}
use Rattle.aprs_position.specs.Written.{finest, place_with}
use Rattle.filter_eval.specs.Passes.{fits, passes_of}
use Rattle.filter_lang.specs.Canonical.{canonical, term_text}
use Rattle.filter_lang.specs.Grammar.{class_of, construct_if, construct_of, excess_of, friend_of, mine_of, named_of, near_of, other_of, range_of, term_of, terms_of, what_of}
use Rattle.filter_lang.specs.Names.{name_of}
use Rattle.filter_lang.specs.Numbers.{degrees_of, degrees_text, dotted_of, fraction_digits, kilometres_of, millionths_of, millionths_text}
use Rattle.filter_lang.specs.Sets.{letters_of, mask_of, set_of}
use Rattle.fixed_distance.specs.Distance.{cosine_of, half_sine_of, haversine_of, is_within}
use Rattle.login_pass.specs.Login.{login_of}
use Rattle.login_pass.specs.Passcode.{passcode_of}
use Rattle.q_construct.specs.Rule.{process_of, given_drops, built_drops, built_row, rows}
use Rattle.tnc2_line.specs.Packet.{parts_of, text_of, via_of, head_of}
use Rattle.aprs_history.specs.Setting.{Setting}
use Rattle.aprs_history.specs.History.{History, trace_of}
use Rattle.aprs_history.specs.Texts.{added_by, banner, plain}
use Rattle.aprs_history.specs.Verdicts.{Scene}
use Rattle.aprs_history.specs.declared.verdicts.FilterAnswer.TheVariants.{Denied}
use Rattle.aprs_history.specs.declared.verdicts.FilterFault.TheVariants as filter_fault
use Rattle.aprs_history.specs.declared.verdicts.Verdict.TheVariants.{PassedOver, Filtered}
use Rattle.aprs_history.proofs.Rows.{client, crlf, link_of, listen, server_on, stranger, stranger_on, told_in, verdict_on}

-- a full port and an igate port
setting : Setting
setting = server_on (listen kind.Full 10152 ∷ listen kind.Igate 14580 ∷ [])

-- ---- numbers

one : decimal 1 ≡ codes "1"
one = decimal_digit 1 (omega arith)

two : decimal 2 ≡ codes "2"
two = decimal_digit 2 (omega arith)

ten : decimal 10 ≡ codes "10"
ten = decimal-digits_of 10 (omega arith) (omega arith)

thirty_three : decimal 33 ≡ codes "33"
thirty_three = decimal-digits_of 33 (omega arith) (omega arith)

fifty : decimal 50 ≡ codes "50"
fifty = decimal-digits_of 50 (omega arith) (omega arith)

ninety_six : decimal 96 ≡ codes "96"
ninety_six = decimal-digits_of 96 (omega arith) (omega arith)

-- ---- single lines

-- a link that has logged in, on a port with filters or without
abbrev igate : Scene
igate = link_of (codes "K1XYZ") true kind.Igate []

abbrev full : Scene
full = link_of (codes "K1XYZ") true kind.Full []

abbrev igate_stranger : Scene
igate_stranger = stranger_on kind.Igate

-- what a link is told after its line
abbrev told : Scene → List ℕ → List (List ℕ)
told scene text = plain (added_by setting [] (source.Link 1) (verdict_on scene text) 1)

two_terms : told igate (codes "#filter b/K1* -p/K1A") ≡ codes "# filter b/K1* -p/K1A active" ∷ []
unfolding terms_of term_of what_of other_of named_of name_of excess_of canonical term_text
two_terms = refl

no_term : verdict_on igate (codes "#filter r/x") ≡ Filtered (Denied (filter_fault.Term 1))
unfolding terms_of term_of what_of other_of range_of
no_term = refl

no_term_told : told igate (codes "#filter r/x") ≡ codes "# filter refused, term 1" ∷ []
unfolding terms_of term_of what_of other_of range_of
no_term_told = rw one refl

canonical_told : told igate (codes "#FILTER  R/033.250/-96.50/50.7  t/wp") ≡ codes "# filter r/33.25/-96.5/50 t/pw active" ∷ []
unfolding terms_of term_of what_of other_of range_of class_of degrees_of millionths_of dotted_of kilometres_of mask_of excess_of canonical term_text degrees_text millionths_text fraction_digits letters_of
canonical_told = rw (thirty_three, ninety_six, fifty) refl

ten_ranges : told igate (codes "#filter r/1/1/1 r/2/2/2 r/3/3/3 r/4/4/4 r/5/5/5 r/6/6/6 r/7/7/7 r/8/8/8 r/9/9/9 r/10/10/10") ≡ codes "# filter refused, too many r" ∷ []
unfolding terms_of term_of what_of other_of range_of degrees_of millionths_of dotted_of kilometres_of excess_of
ten_ranges = refl

empty_filter : told igate (codes "#filter") ≡ codes "# filter  active" ∷ []
unfolding terms_of canonical
empty_filter = refl

blanks_alone : told igate (codes "#  filter   ") ≡ codes "# filter  active" ∷ []
unfolding terms_of canonical
blanks_alone = refl

no_blank_after_the_word : verdict_on igate (codes "#filterb/K") ≡ PassedOver
no_blank_after_the_word = refl

comment : verdict_on igate (codes "#keepalive") ≡ PassedOver
comment = refl

port_without_filters : told full (codes "#filter b/K1*") ≡ codes "# filter refused, this port has no filter" ∷ []
port_without_filters = refl

-- a text that is no filter is refused for the port all the same
no_term_without_filters : verdict_on full (codes "#filter r/x") ≡ Filtered (Denied filter_fault.NoFilters)
no_term_without_filters = refl

before_login : verdict_on igate_stranger (codes "#filter b/K1*") ≡ PassedOver
before_login = refl

login_with_filter : told igate_stranger (codes "user K1XYZ pass 14986 vers t 1 filter b/K1*")
    ≡ codes "# logresp K1XYZ verified, server T2TEST" ∷ codes "# filter b/K1* active" ∷ []
unfolding setting login_of passcode_of terms_of term_of what_of other_of named_of name_of excess_of canonical term_text
login_with_filter = refl

login_with_no_term : told igate_stranger (codes "user K1XYZ pass 14986 FILTER b/K1* r/x")
    ≡ codes "# logresp K1XYZ verified, server T2TEST" ∷ codes "# filter refused, term 2" ∷ []
unfolding setting login_of passcode_of terms_of term_of what_of other_of named_of name_of range_of excess_of
login_with_no_term = rw two refl

login_without_filters : told stranger (codes "user K1XYZ pass 14986 vers t 1 filter b/K1*")
    ≡ codes "# logresp K1XYZ verified, server T2TEST" ∷ codes "# filter refused, this port has no filter" ∷ []
unfolding setting login_of passcode_of
login_without_filters = refl

-- ---- histories

abbrev says : ℕ → List ℕ → Happening
says link text = did.Event (event.Bytes link (text ++ crlf))

abbrev ticks : ℕ → Happening
ticks moment = did.Event (event.Tick moment)

-- K1XYZ on the igate port as link 1, and link 2 on the full port
opened : History
opened =
    says 1 (codes "user K1XYZ pass 14986")
    ∷ did.Event (event.Opened 0 2 client)
    ∷ did.Event (event.Opened 1 1 client)
    ∷ ticks 1000
    ∷ did.Listen 1
    ∷ did.Listen 0
    ∷ []

abbrev greeting : List (List ℕ)
greeting = banner ∷ codes "# logresp K1XYZ verified, server T2TEST" ∷ []

-- each packet meets the filter of its place in the round
changed : History
changed =
    says 2 (codes "OH7LZB>APRS:>two")
    ∷ says 1 (codes "#filter b/O*")
    ∷ says 2 (codes "OH7LZB>APRS:>one")
    ∷ says 1 (codes "#filter b/N*")
    ∷ says 2 (codes "user OH7LZB pass 20900")
    ∷ opened

changed_filter : told_in setting changed 1
    ≡ greeting ++ codes "# filter b/N* active" ∷ codes "# filter b/O* active" ∷ codes "OH7LZB>APRS,TCPIP*,qAC,T2TEST:>two" ∷ []
unfolding setting changed opened client crlf trace_of parts_of text_of via_of head_of login_of passcode_of process_of given_drops built_drops built_row rows body_of terms_of term_of what_of other_of named_of name_of excess_of canonical term_text passes_of fits
changed_filter = refl

-- a filter that is refused leaves the one before
refused_later : History
refused_later = says 2 (codes "OH7LZB>APRS:>three") ∷ says 1 (codes "#filter r/x") ∷ changed

filter_left : told_in setting refused_later 1
    ≡ greeting ++ codes "# filter b/N* active" ∷ codes "# filter b/O* active" ∷ codes "OH7LZB>APRS,TCPIP*,qAC,T2TEST:>two"
    ∷ codes "# filter refused, term 1" ∷ codes "OH7LZB>APRS,TCPIP*,qAC,T2TEST:>three" ∷ []
unfolding setting refused_later changed opened client crlf trace_of parts_of text_of via_of head_of login_of passcode_of process_of given_drops built_drops built_row rows body_of terms_of term_of what_of other_of named_of range_of name_of excess_of canonical term_text passes_of fits
filter_left = subst
    (λ digits. told_in setting refused_later 1
    ≡ greeting ++ codes "# filter b/N* active" ∷ codes "# filter b/O* active" ∷ codes "OH7LZB>APRS,TCPIP*,qAC,T2TEST:>two"
    ∷ (codes "# filter refused, term " ++ digits) ∷ codes "OH7LZB>APRS,TCPIP*,qAC,T2TEST:>three" ∷ [])
    one refl

-- a friend's last position counts for two days, and not for the packet that tells it
abbrev after_friend : ℕ → List ℕ → History
after_friend moment text =
    says 3 text
    ∷ says 3 (codes "user K1ABC pass 14993")
    ∷ did.Event (event.Opened 0 3 client)
    ∷ ticks moment
    ∷ says 1 (codes "#k")
    ∷ ticks 100000
    ∷ says 2 (codes "OH7LZB>APRS:!4903.50N/07201.75W-")
    ∷ says 1 (codes "#filter f/OH7LZB/10")
    ∷ says 2 (codes "user OH7LZB pass 20900")
    ∷ opened

abbrev near_friend : ℕ → History
near_friend moment = after_friend moment (codes "K1ABC>APRS:!4903.50N/07201.75W-a")

abbrev active_friend : List ℕ → List ℕ
active_friend km = codes "# filter f/OH7LZB/" ++ ((km ++ []) ++ codes " active")

friend_of_two_days_less_a_second : told_in setting (near_friend 173799) 1
    ≡ greeting ++ codes "# filter f/OH7LZB/10 active" ∷ codes "K1ABC>APRS,TCPIP*,qAC,T2TEST:!4903.50N/07201.75W-a" ∷ []
unfolding setting opened client crlf trace_of parts_of text_of via_of head_of login_of passcode_of process_of given_drops built_drops built_row rows body_of either_place plain_place written_of mark_after finest place_with terms_of term_of what_of other_of friend_of near_of dotted_of kilometres_of excess_of canonical term_text passes_of fits is_within haversine_of half_sine_of cosine_of
friend_of_two_days_less_a_second = subst
    (λ digits. told_in setting (near_friend 173799) 1
    ≡ greeting ++ active_friend digits ∷ codes "K1ABC>APRS,TCPIP*,qAC,T2TEST:!4903.50N/07201.75W-a" ∷ [])
    ten refl

friend_of_two_days : told_in setting (near_friend 173800) 1 ≡ greeting ++ codes "# filter f/OH7LZB/10 active" ∷ []
unfolding setting opened client crlf trace_of parts_of text_of via_of head_of login_of passcode_of process_of given_drops built_drops built_row rows body_of either_place plain_place written_of mark_after finest place_with terms_of term_of what_of other_of friend_of near_of dotted_of kilometres_of excess_of canonical term_text passes_of fits is_within haversine_of half_sine_of cosine_of
friend_of_two_days = subst (λ digits. told_in setting (near_friend 173800) 1 ≡ greeting ++ active_friend digits ∷ []) ten refl

-- six minutes of latitude are more than 10 km, and five are less
far_from_friend : told_in setting (after_friend 100001 (codes "K1ABC>APRS:!4909.50N/07201.75W-")) 1
    ≡ greeting ++ codes "# filter f/OH7LZB/10 active" ∷ []
unfolding setting opened client crlf trace_of parts_of text_of via_of head_of login_of passcode_of process_of given_drops built_drops built_row rows body_of either_place plain_place written_of mark_after finest place_with terms_of term_of what_of other_of friend_of near_of dotted_of kilometres_of excess_of canonical term_text passes_of fits is_within haversine_of half_sine_of cosine_of
far_from_friend = subst
    (λ digits. told_in setting (after_friend 100001 (codes "K1ABC>APRS:!4909.50N/07201.75W-")) 1 ≡ greeting ++ active_friend digits ∷ [])
    ten refl

by_friend : told_in setting (after_friend 100001 (codes "K1ABC>APRS:!4908.50N/07201.75W-")) 1
    ≡ greeting ++ codes "# filter f/OH7LZB/10 active" ∷ codes "K1ABC>APRS,TCPIP*,qAC,T2TEST:!4908.50N/07201.75W-" ∷ []
unfolding setting opened client crlf trace_of parts_of text_of via_of head_of login_of passcode_of process_of given_drops built_drops built_row rows body_of either_place plain_place written_of mark_after finest place_with terms_of term_of what_of other_of friend_of near_of dotted_of kilometres_of excess_of canonical term_text passes_of fits is_within haversine_of half_sine_of cosine_of
by_friend = subst
    (λ digits. told_in setting (after_friend 100001 (codes "K1ABC>APRS:!4908.50N/07201.75W-")) 1
    ≡ greeting ++ active_friend digits ∷ codes "K1ABC>APRS,TCPIP*,qAC,T2TEST:!4908.50N/07201.75W-" ∷ [])
    ten refl

-- the link's own position counts, once it has told it
own_position : History
own_position =
    says 2 (codes "K1ABC>APRS:!4903.50N/07201.75W-two")
    ∷ says 1 (codes "K1XYZ>APRS:!4903.50N/07201.75W-")
    ∷ says 2 (codes "K1ABC>APRS:!4903.50N/07201.75W-one")
    ∷ says 1 (codes "#filter m/10")
    ∷ says 2 (codes "user K1ABC pass 14993")
    ∷ opened

by_own_position : told_in setting own_position 1
    ≡ greeting ++ codes "# filter m/10 active" ∷ codes "K1ABC>APRS,TCPIP*,qAC,T2TEST:!4903.50N/07201.75W-two" ∷ []
unfolding setting own_position opened client crlf trace_of parts_of text_of via_of head_of login_of passcode_of process_of given_drops built_drops built_row rows body_of either_place plain_place written_of mark_after finest place_with terms_of term_of what_of other_of mine_of dotted_of kilometres_of excess_of canonical term_text passes_of fits is_within haversine_of half_sine_of cosine_of
by_own_position = subst
    (λ digits. told_in setting own_position 1
    ≡ greeting ++ (codes "# filter m/" ++ ((digits ++ []) ++ codes " active")) ∷ codes "K1ABC>APRS,TCPIP*,qAC,T2TEST:!4903.50N/07201.75W-two" ∷ [])
    ten refl

-- a position of a gate
abbrev gate_position : History → History
gate_position earlier = says 2 (codes "K1ABC>APRS:!4903.50N/07201.75W-") ∷ earlier

for_gates : History
for_gates = says 2 (codes "user K1ABC pass 14993") ∷ says 1 (codes "#filter q//I") ∷ opened

position_of_a_gate : told_in setting (gate_position (says 2 (codes "N1ABC>APRS,K1ABC,I:>x") ∷ for_gates)) 1
    ≡ greeting ++ codes "# filter q//I active" ∷ codes "K1ABC>APRS,TCPIP*,qAC,T2TEST:!4903.50N/07201.75W-" ∷ []
unfolding setting for_gates opened client crlf trace_of parts_of text_of via_of head_of login_of passcode_of process_of given_drops built_drops built_row rows body_of either_place plain_place written_of mark_after finest place_with terms_of term_of what_of other_of construct_if construct_of set_of excess_of canonical term_text passes_of fits
position_of_a_gate = refl

position_of_no_gate : told_in setting (gate_position for_gates) 1 ≡ greeting ++ codes "# filter q//I active" ∷ []
unfolding setting for_gates opened client crlf trace_of parts_of text_of via_of head_of login_of passcode_of process_of given_drops built_drops built_row rows body_of either_place plain_place written_of mark_after finest place_with terms_of term_of what_of other_of construct_if construct_of set_of excess_of canonical term_text passes_of fits
position_of_no_gate = refl
