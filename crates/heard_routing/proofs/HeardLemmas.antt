-- A table of heard stations keeps when links last heard calls.
use Rattle.std.proofs.Common.{◌≡◌, ℕ, ◌-◌, ◌<◌, ◌≤◌, Bool, true, false, cond, filter, not, ◌&&◌, ◌==◌, List, [], ◌∷◌, ◌++◌, Option, Some, None, Result, Ok, Err, OnOk, refl, sym, ap, ◌∙◌, subst, arith, true≢false, is_some}
use Rattle.std.specs.Map.{keys_of}
use Rattle.std.proofs.lemmas.Bool.{and_parts, eqb-true, leb-true, leb-false}
use Rattle.aprs_base.specs.PacketSeen.{PacketSeen}
use Rattle.filter_eval.specs.Passes.{is_some_and, is_text}
use Rattle.station_table.specs.Last.{later_or}
use Rattle.station_table.proofs.LastSeen.{told_more}
use Rattle.heard_routing.specs.Entries.{Entry, Group, HasEachOnce, links_of}
use Rattle.heard_routing.specs.Heard.{HeardSeen, IsRisingListOf, courtesies, heard_age, heard_at, is_receiver, is_recent, is_recent_entry, links_with, noted, promise_age, receivers, recent, recent_groups, without_link}
use Rattle.heard_routing.specs.LastHeard.{Agrees, AgreesAt, IsHeard, but_not, heard_by, is_from, is_hearer, last_heard, still}
use Rattle.heard_routing.proofs.LookLemmas.{heard_noted, heard_recent, heard_without_link, links_recent}

-- ---- one more packet

later_cond : (b : Bool) (moment : ℕ) (earlier : Option ℕ) → cond b (Some moment) earlier ≡ later_or earlier (cond b (Some moment) None)
later_cond true moment earlier = refl
later_cond false moment earlier = refl

-- what is noted is what the packet tells
pub told_by : (packet : PacketSeen) (link : ℕ) (call : List ℕ) (moment : ℕ) → IsHeard packet link call moment → (other : ℕ) (text : List ℕ)
    → heard_by other text packet ≡ cond (other == link && is_text text call) (Some moment) None
told_by packet link call moment heard other text =
    ap (λ from. cond (is_from other from && is_text text packet.parts.source) (Some packet.moment) None) heard.from_link
    ∙ ap (λ source. cond (other == link && is_text text source) (Some packet.moment) None) heard.of_call
    ∙ ap (λ at. cond (other == link && is_text text call) (Some at) None) heard.at_moment

pub noted_later : (packet : PacketSeen) (table : HeardSeen) (link : ℕ) (call : List ℕ) (moment : ℕ) → IsHeard packet link call moment → (other : ℕ) (text : List ℕ)
    → heard_at (noted link call moment table) other text ≡ later_or (heard_at table other text) (heard_by other text packet)
noted_later packet table link call moment heard other text =
    heard_noted table link other call text moment
    ∙ later_cond (other == link && is_text text call) moment (heard_at table other text)
    ∙ ap (later_or (heard_at table other text)) (sym (told_by packet link call moment heard other text))

pub last_more : (packets : List PacketSeen) (packet : PacketSeen) (link : ℕ) (call : List ℕ) → last_heard (packets ++ packet ∷ []) link call ≡ later_or (last_heard packets link call) (heard_by link call packet)
last_more packets packet link call = told_more (heard_by link call) packets packet

still_later : (age now : ℕ) (a b o : Option ℕ) → still age now a ≡ still age now b → still age now (later_or a o) ≡ still age now (later_or b o)
still_later age now a b None h = h
still_later age now a b (Some x) h = refl

-- a living link and one that doesn't live are two
apart : (lives : ℕ → Bool) (link other : ℕ) → lives link ≡ true → lives other ≡ false → (other == link) ≡ false
apart lives link other here there = by (other == link) refl
  where
    by : (b : Bool) → (other == link) ≡ b → b ≡ false
    by true is = absurd (true≢false (sym here ∙ ap lives (sym (eqb-true other link is)) ∙ there))
    by false is = refl

pub noted_others : (lives : ℕ → Bool) (table : HeardSeen) (link : ℕ) (call : List ℕ) (moment : ℕ) → lives link ≡ true → (other : ℕ) → lives other ≡ false → (text : List ℕ)
    → heard_at table other text ≡ None → heard_at (noted link call moment table) other text ≡ None
noted_others lives table link call moment here other there text none =
    heard_noted table link other call text moment ∙ ap (λ b. cond (b && is_text text call) (Some moment) (heard_at table other text)) (apart lives link other here there) ∙ none

-- ---- a table and packets

-- a packet of a living link, noted
pub note_agrees : (lives : ℕ → Bool) (table : HeardSeen) (packets : List PacketSeen) (packet : PacketSeen) (link : ℕ) (call : List ℕ) (moment : ℕ)
    → IsHeard packet link call moment → lives link ≡ true → Agrees lives table packets → Agrees lives (noted link call moment table) (packets ++ packet ∷ [])
note_agrees lives table packets packet link call moment heard living agrees = record {
  heard = λ other here text.
      noted_later packet table link call moment heard other text ∙ ap (λ o. later_or o (heard_by other text packet)) (agrees.heard other here text)
      ∙ sym (last_more packets packet other text);
  others = λ other there text. noted_others lives table link call moment living other there text (agrees.others other there text);
}

pub note_agrees_at : (now : ℕ) (lives : ℕ → Bool) (table : HeardSeen) (packets : List PacketSeen) (packet : PacketSeen) (link : ℕ) (call : List ℕ) (moment : ℕ)
    → IsHeard packet link call moment → lives link ≡ true → AgreesAt now lives table packets → AgreesAt now lives (noted link call moment table) (packets ++ packet ∷ [])
note_agrees_at now lives table packets packet link call moment heard living agrees = record {
  heard = λ other here text.
      ap (still heard_age now) (noted_later packet table link call moment heard other text)
      ∙ still_later heard_age now (heard_at table other text) (last_heard packets other text) (heard_by other text packet) (agrees.heard other here text)
      ∙ ap (still heard_age now) (sym (last_more packets packet other text));
  others = λ other there text. noted_others lives table link call moment living other there text (agrees.others other there text);
}

pub note_goes_on : {A E : Type 0} (result : Result A E) (lives : ℕ → Bool) (old new : HeardSeen) (packets : List PacketSeen) (packet : PacketSeen) (link : ℕ) (call : List ℕ) (moment : ℕ)
    → OnOk result (new ≡ noted link call moment old) → IsHeard packet link call moment → lives link ≡ true → Agrees lives old packets → OnOk result (Agrees lives new (packets ++ packet ∷ []))
note_goes_on (Ok x) lives old new packets packet link call moment is heard living agrees =
    subst (λ table. Agrees lives table (packets ++ packet ∷ [])) (sym is) (note_agrees lives old packets packet link call moment heard living agrees)
note_goes_on (Err e) lives old new packets packet link call moment is heard living agrees = tt

pub note_goes_on_at : {A E : Type 0} (result : Result A E) (now : ℕ) (lives : ℕ → Bool) (old new : HeardSeen) (packets : List PacketSeen) (packet : PacketSeen) (link : ℕ) (call : List ℕ) (moment : ℕ)
    → OnOk result (new ≡ noted link call moment old) → IsHeard packet link call moment → lives link ≡ true → AgreesAt now lives old packets → OnOk result (AgreesAt now lives new (packets ++ packet ∷ []))
note_goes_on_at (Ok x) now lives old new packets packet link call moment is heard living agrees =
    subst (λ table. AgreesAt now lives table (packets ++ packet ∷ [])) (sym is) (note_agrees_at now lives old packets packet link call moment heard living agrees)
note_goes_on_at (Err e) now lives old new packets packet link call moment is heard living agrees = tt

-- ---- links that come and go

pub kept_of : (table : HeardSeen) (gone link : ℕ) (call : List ℕ) → not (gone == link) ≡ true → heard_at (without_link gone table) link call ≡ heard_at table link call
kept_of table gone link call is = heard_without_link table gone link call ∙ ap (λ b. cond b (heard_at table link call) None) is

pub none_of : (lives : ℕ → Bool) (table : HeardSeen) (gone link : ℕ) (call : List ℕ) → but_not gone lives link ≡ false → (lives link ≡ false → heard_at table link call ≡ None)
    → heard_at (without_link gone table) link call ≡ None
none_of lives table gone link call there none = heard_without_link table gone link call ∙ by (not (gone == link)) there
  where
    by : (b : Bool) → b && lives link ≡ false → cond b (heard_at table link call) None ≡ None
    by true is = none is
    by false is = refl

pub forget_agrees : (lives : ℕ → Bool) (table : HeardSeen) (packets : List PacketSeen) (gone : ℕ) → Agrees lives table packets → Agrees (but_not gone lives) (without_link gone table) packets
forget_agrees lives table packets gone agrees = record {
  heard = λ link here call.
      kept_of table gone link call (and_parts (not (gone == link)) (lives link) here).0 ∙ agrees.heard link (and_parts (not (gone == link)) (lives link) here).1 call;
  others = λ link there call. none_of lives table gone link call there (λ is. agrees.others link is call);
}

pub forget_agrees_at : (now : ℕ) (lives : ℕ → Bool) (table : HeardSeen) (packets : List PacketSeen) (gone : ℕ) → AgreesAt now lives table packets
    → AgreesAt now (but_not gone lives) (without_link gone table) packets
forget_agrees_at now lives table packets gone agrees = record {
  heard = λ link here call.
      ap (still heard_age now) (kept_of table gone link call (and_parts (not (gone == link)) (lives link) here).0) ∙ agrees.heard link (and_parts (not (gone == link)) (lives link) here).1 call;
  others = λ link there call. none_of lives table gone link call there (λ is. agrees.others link is call);
}

-- ---- as time goes by

-- what is recent was recent before
recent_before : (age before now moment : ℕ) → before ≤ now → is_recent age now moment ≡ true → is_recent age before moment ≡ true
recent_before age before now moment h late = by (is_recent age before moment) refl
  where
    by : (b : Bool) → is_recent age before moment ≡ b → b ≡ true
    by true is = refl
    by false is = let a : now - moment ≤ age = leb-true (now - moment) age late in let b : age < before - moment = leb-false (before - moment) age is in absurd (omega arith)

pub still_again : (age before now : ℕ) (o : Option ℕ) → before ≤ now → still age now (still age before o) ≡ still age now o
still_again age before now None h = refl
still_again age before now (Some moment) h = by (is_recent age before moment) (is_recent age now moment) refl refl
  where
    by : (b c : Bool) → is_recent age before moment ≡ b → is_recent age now moment ≡ c → still age now (cond b (Some moment) None) ≡ still age now (Some moment)
    by true c is now_is = refl
    by false true is now_is = absurd (true≢false (sym (recent_before age before now moment h now_is) ∙ is))
    by false false is now_is = ap (λ b. cond b (Some moment) None) (sym now_is)

-- what is removed could not be given any more
still_given : (age now later : ℕ) (links : List Entry) → now ≤ later
    → filter (is_recent_entry age later) (filter (is_recent_entry age now) links) ≡ filter (is_recent_entry age later) links
still_given age now later [] h = refl
still_given age now later (e ∷ links) h = by (still_given age now later links h) (is_recent_entry age now e) (is_recent_entry age later e) refl refl
  where
    by : filter (is_recent_entry age later) (filter (is_recent_entry age now) links) ≡ filter (is_recent_entry age later) links
        → (b c : Bool) → is_recent_entry age now e ≡ b → is_recent_entry age later e ≡ c
        → filter (is_recent_entry age later) (cond b (e ∷ filter (is_recent_entry age now) links) (filter (is_recent_entry age now) links))
        ≡ cond (is_recent_entry age later e) (e ∷ filter (is_recent_entry age later) links) (filter (is_recent_entry age later) links)
    by rest true c now_is is = ap (λ l. cond (is_recent_entry age later e) (e ∷ l) l) rest
    by rest false true now_is is = absurd (true≢false (sym (recent_before age now later e.1 h is) ∙ now_is))
    by rest false false now_is is = rest ∙ ap (λ b. cond b (e ∷ filter (is_recent_entry age later) links) (filter (is_recent_entry age later) links)) (sym is)

given_with : (age now later : ℕ) (groups : List Group) (call : List ℕ) → HasEachOnce groups → now ≤ later → links_with age call later (recent_groups age now groups) ≡ links_with age call later groups
given_with age now later groups call once h =
    ap (λ links. keys_of (filter (is_recent_entry age later) links)) (links_recent age now call groups once) ∙ ap (λ links. keys_of links) (still_given age now later (links_of call groups) h)

pub given_later : (now later : ℕ) (table : HeardSeen) (call : List ℕ) → HasEachOnce table.heard → HasEachOnce table.promises → now ≤ later
    → (receivers (recent now table) call later ≡ receivers table call later) × (courtesies (recent now table) call later ≡ courtesies table call later)
given_later now later table call heard_once promised_once h = (given_with heard_age now later table.heard call heard_once h, given_with promise_age now later table.promises call promised_once h)

pub recent_agrees_at : (before now : ℕ) (lives : ℕ → Bool) (table : HeardSeen) (packets : List PacketSeen) → HasEachOnce table.heard → before ≤ now → AgreesAt before lives table packets
    → AgreesAt now lives (recent now table) packets
recent_agrees_at before now lives table packets once h agrees = let here : now ≤ now = omega arith in record {
  heard = λ link living call.
      ap (still heard_age now) (heard_recent now table link call once) ∙ still_again heard_age now now (heard_at table link call) here
      ∙ sym (still_again heard_age before now (heard_at table link call) h) ∙ ap (still heard_age now) (agrees.heard link living call)
      ∙ still_again heard_age before now (last_heard packets link call) h;
  others = λ link there call. heard_recent now table link call once ∙ ap (still heard_age now) (agrees.others link there call);
}

-- ---- who heard a call

is_still : (age now : ℕ) (o : Option ℕ) → is_some_and (is_recent age now) o ≡ is_some (still age now o)
is_still age now None = refl
is_still age now (Some moment) = by (is_recent age now moment)
  where
    by : (b : Bool) → b ≡ is_some (cond b (Some moment) None)
    by true = refl
    by false = refl

hears : (now : ℕ) (lives : ℕ → Bool) (table : HeardSeen) (packets : List PacketSeen) (call : List ℕ) → AgreesAt now lives table packets → (link : ℕ)
    → is_receiver table call now link ≡ is_hearer lives packets call now link
hears now lives table packets call agrees link = by (lives link) refl
  where
    by : (b : Bool) → lives link ≡ b → is_receiver table call now link ≡ (b && is_some_and (is_recent heard_age now) (last_heard packets link call))
    by true is =
        is_still heard_age now (heard_at table link call) ∙ ap (λ o. is_some o) (agrees.heard link is call) ∙ sym (is_still heard_age now (last_heard packets link call))
    by false is = ap (λ o. is_some_and (is_recent heard_age now) o) (agrees.others link is call)

pub hearers_listed : (now : ℕ) (lives : ℕ → Bool) (table : HeardSeen) (packets : List PacketSeen) (call numbers : List ℕ) → AgreesAt now lives table packets
    → IsRisingListOf numbers (is_receiver table call now) → IsRisingListOf numbers (is_hearer lives packets call now)
hearers_listed now lives table packets call numbers agrees listed = record {
  rises = listed.rises;
  exactly = λ link. listed.exactly link ∙ hears now lives table packets call agrees link;
}
