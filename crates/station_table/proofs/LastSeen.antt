-- A table of stations keeps the last that packets told of each call.
use Rattle.std.proofs.Common.{◌≡◌, ℕ, ◌-◌, ◌≤◌, ◌<◌, Bool, true, false, cond, List, [], ◌∷◌, ◌++◌, Option, Some, None, option_map, is_some, Result, Ok, Err, OnOk, refl, sym, ap, ◌∙◌, subst, arith, true≢false}
use Rattle.std.specs.Map.{lookup}
use Rattle.std.specs.declared.random_state.RandomState.{RandomState}
use Rattle.std.proofs.lemmas.Bool.{ltb-true, ltb-false}
use Rattle.std.proofs.lemmas.Cmp.{nat_list_eq_equiv}
use Rattle.std.proofs.lemmas.Map.Entries.{lookup-filter-values, option_filter}
use Rattle.aprs_base.specs.PacketSeen.{PacketSeen}
use Rattle.aprs_base.specs.declared.packets.Place.{Place}
use Rattle.aprs_body.specs.Classes.{position_bit}
use Rattle.filter_eval.specs.Passes.{fresh, has_class, is_some_and, is_text, is_young, position_age}
use Rattle.filter_eval.specs.declared.seen.Seen.{Seen}
use Rattle.station_table.specs.Entries.{HasEachOnce}
use Rattle.station_table.specs.Last.{Agrees, AgreesAt, HasExactly, fresh_gate, gate_by, last_gate, last_place, last_told, later_or, place_by}
use Rattle.station_table.specs.Stations.{StationsSeen, gate_at, gate_in, no_stations, noted, place_at, put_gate, put_place, seen_at, seen_in, young}
use Rattle.station_table.proofs.EntryLemmas.{lookup_set}

-- ---- the later of two

later_none : {T : Type 0} (o : Option T) → o ≡ later_or None o
later_none None = refl
later_none (Some x) = refl

later_thrice : {T : Type 0} (a b c : Option T) → later_or a (later_or b c) ≡ later_or (later_or a b) c
later_thrice a b None = refl
later_thrice a b (Some x) = refl

-- one more packet tells what comes last
pub told_more : {T : Type 0} (tells : PacketSeen → Option T) (packets : List PacketSeen) (packet : PacketSeen)
    → last_told tells (packets ++ packet ∷ []) ≡ later_or (last_told tells packets) (tells packet)
told_more tells [] packet = later_none (tells packet)
told_more tells (x ∷ packets) packet = ap (later_or (tells x)) (told_more tells packets packet) ∙ later_thrice (tells x) (last_told tells packets) (tells packet)

set_later : {T : Type 0} (b : Bool) (x : T) (earlier : Option T) → cond b (Some x) earlier ≡ later_or earlier (cond b (Some x) None)
set_later true x earlier = refl
set_later false x earlier = refl

-- ---- what a table has after a packet

put_place_later : (call source : List ℕ) (told : Option Seen) (places : List (List ℕ × Seen))
    → lookup (is_text call) (put_place source told places) ≡ later_or (lookup (is_text call) places) (cond (is_text call source) told None)
put_place_later call source None places = nothing (is_text call source)
  where
    nothing : (b : Bool) → lookup (is_text call) places ≡ later_or (lookup (is_text call) places) (cond b None None)
    nothing true = refl
    nothing false = refl
put_place_later call source (Some seen) places = lookup_set nat_list_eq_equiv source call seen places ∙ set_later (is_text call source) seen (lookup (is_text call) places)

put_gate_later : (call : List ℕ) (told : Option (List ℕ)) (moment : ℕ) (gates : List (List ℕ × ℕ))
    → lookup (is_text call) (put_gate told moment gates) ≡ later_or (lookup (is_text call) gates) (cond (is_some_and (is_text call) told) (Some moment) None)
put_gate_later call None moment gates = refl
put_gate_later call (Some gate) moment gates = lookup_set nat_list_eq_equiv gate call moment gates ∙ set_later (is_text call gate) moment (lookup (is_text call) gates)

pub place_noted : (table : StationsSeen) (packet : PacketSeen) (call : List ℕ) → place_at (noted packet table) call ≡ later_or (place_at table call) (place_by call packet)
place_noted table packet call = put_place_later call packet.parts.source (seen_in packet) table.places

pub gate_noted : (table : StationsSeen) (packet : PacketSeen) (call : List ℕ) → gate_at (noted packet table) call ≡ later_or (gate_at table call) (gate_by call packet)
gate_noted table packet call = put_gate_later call (gate_in packet.parts) packet.moment table.gates

-- ---- a table and packets

pub note_agrees : (table : StationsSeen) (packets : List PacketSeen) (packet : PacketSeen) → Agrees table packets → Agrees (noted packet table) (packets ++ packet ∷ [])
note_agrees table packets packet agrees = record {
  place = λ call. place_noted table packet call ∙ ap (λ o. later_or o (place_by call packet)) (agrees.place call) ∙ sym (told_more (place_by call) packets packet);
  gate = λ call. gate_noted table packet call ∙ ap (λ o. later_or o (gate_by call packet)) (agrees.gate call) ∙ sym (told_more (gate_by call) packets packet);
}

pub note_goes_on : {A E : Type 0} (result : Result A E) (old new : StationsSeen) (packet : PacketSeen) (packets : List PacketSeen)
    → OnOk result (new ≡ noted packet old) → Agrees old packets → OnOk result (Agrees new (packets ++ packet ∷ []))
note_goes_on (Ok x) old new packet packets is agrees = subst (λ table. Agrees table (packets ++ packet ∷ [])) (sym is) (note_agrees old packets packet agrees)
note_goes_on (Err e) old new packet packets is agrees = tt

-- ---- as far as it is younger than two days

fresh_later : (now : ℕ) (a b o : Option Seen) → fresh now a ≡ fresh now b → fresh now (later_or a o) ≡ fresh now (later_or b o)
fresh_later now a b None h = h
fresh_later now a b (Some x) h = refl

fresh_gate_later : (now : ℕ) (a b o : Option ℕ) → fresh_gate now a ≡ fresh_gate now b → fresh_gate now (later_or a o) ≡ fresh_gate now (later_or b o)
fresh_gate_later now a b None h = h
fresh_gate_later now a b (Some x) h = refl

pub note_agrees_at : (now : ℕ) (table : StationsSeen) (packets : List PacketSeen) (packet : PacketSeen) → AgreesAt now table packets → AgreesAt now (noted packet table) (packets ++ packet ∷ [])
note_agrees_at now table packets packet agrees = record {
  place = λ call.
      ap (fresh now) (place_noted table packet call) ∙ fresh_later now (place_at table call) (last_place packets call) (place_by call packet) (agrees.place call)
      ∙ ap (fresh now) (sym (told_more (place_by call) packets packet));
  gate = λ call.
      ap (fresh_gate now) (gate_noted table packet call) ∙ fresh_gate_later now (gate_at table call) (last_gate packets call) (gate_by call packet) (agrees.gate call)
      ∙ ap (fresh_gate now) (sym (told_more (gate_by call) packets packet));
}

pub note_goes_on_at : {A E : Type 0} (result : Result A E) (now : ℕ) (old new : StationsSeen) (packet : PacketSeen) (packets : List PacketSeen)
    → OnOk result (new ≡ noted packet old) → AgreesAt now old packets → OnOk result (AgreesAt now new (packets ++ packet ∷ []))
note_goes_on_at (Ok x) now old new packet packets is agrees = subst (λ table. AgreesAt now table (packets ++ packet ∷ [])) (sym is) (note_agrees_at now old packets packet agrees)
note_goes_on_at (Err e) now old new packet packets is agrees = tt

-- what is young is younger at an earlier moment
younger_before : (before now moment : ℕ) → before ≤ now → is_young now moment ≡ true → is_young before moment ≡ true
younger_before before now moment h young = by (is_young before moment) refl
  where
    by : (b : Bool) → is_young before moment ≡ b → b ≡ true
    by true is = refl
    by false is = let a : now - moment < position_age = ltb-true _ _ young in let b : position_age ≤ before - moment = ltb-false _ _ is in absurd (omega arith)

-- of two tests the stronger one decides
stronger : {T : Type 0} (weak strong : Bool) (x : T) (keep : Option T → Option T) → (strong ≡ true → weak ≡ true) → keep None ≡ None → keep (Some x) ≡ cond strong (Some x) None
    → keep (cond weak (Some x) None) ≡ cond strong (Some x) None
stronger true strong x keep h none some = some
stronger false false x keep h none some = none
stronger false true x keep h none some = absurd (true≢false (sym (h refl)))

fresh_again : (before now : ℕ) (o : Option Seen) → before ≤ now → fresh now (fresh before o) ≡ fresh now o
fresh_again before now None h = refl
fresh_again before now (Some seen) h =
    stronger (is_young before seen.moment) (is_young now seen.moment) seen (fresh now) (younger_before before now seen.moment h) refl refl

fresh_gate_again : (before now : ℕ) (o : Option ℕ) → before ≤ now → fresh_gate now (fresh_gate before o) ≡ fresh_gate now o
fresh_gate_again before now None h = refl
fresh_gate_again before now (Some moment) h =
    stronger (is_young before moment) (is_young now moment) moment (fresh_gate now) (younger_before before now moment h) refl refl

fresh_is : (now : ℕ) (o : Option Seen) → option_filter (λ seen. is_young now seen.moment) o ≡ fresh now o
fresh_is now None = refl
fresh_is now (Some seen) = refl

fresh_gate_is : (now : ℕ) (o : Option ℕ) → option_filter (is_young now) o ≡ fresh_gate now o
fresh_gate_is now None = refl
fresh_gate_is now (Some moment) = refl

pub place_young : (now : ℕ) (table : StationsSeen) (call : List ℕ) → HasEachOnce table.places → place_at (young now table) call ≡ fresh now (place_at table call)
place_young now table call once = lookup-filter-values nat_list_eq_equiv (λ seen. is_young now seen.moment) call table.places once ∙ fresh_is now (place_at table call)

pub gate_young : (now : ℕ) (table : StationsSeen) (call : List ℕ) → HasEachOnce table.gates → gate_at (young now table) call ≡ fresh_gate now (gate_at table call)
gate_young now table call once = lookup-filter-values nat_list_eq_equiv (is_young now) call table.gates once ∙ fresh_gate_is now (gate_at table call)

-- whether a call is a gate, by what the packets told
was_gate : (now : ℕ) (o : Option ℕ) → is_some_and (is_young now) o ≡ is_some (fresh_gate now o)
was_gate now None = refl
was_gate now (Some moment) = by (is_young now moment)
  where
    by : (young : Bool) → young ≡ is_some (cond young (Some moment) None)
    by true = refl
    by false = refl

pub gate_told : (now : ℕ) (table : StationsSeen) (packets : List PacketSeen) (call : List ℕ) → AgreesAt now table packets
    → is_some_and (is_young now) (gate_at table call) ≡ is_some_and (is_young now) (last_gate packets call)
gate_told now table packets call agrees = was_gate now (gate_at table call) ∙ ap is_some (agrees.gate call) ∙ sym (was_gate now (last_gate packets call))

-- what agreed at an earlier moment
pub agrees_later : (before now : ℕ) (table : StationsSeen) (packets : List PacketSeen) → before ≤ now → AgreesAt before table packets → AgreesAt now table packets
agrees_later before now table packets h agrees = record {
  place = λ call.
      sym (fresh_again before now (place_at table call) h) ∙ ap (fresh now) (agrees.place call) ∙ fresh_again before now (last_place packets call) h;
  gate = λ call.
      sym (fresh_gate_again before now (gate_at table call) h) ∙ ap (fresh_gate now) (agrees.gate call) ∙ fresh_gate_again before now (last_gate packets call) h;
}

pub young_agrees_at : (before now : ℕ) (table : StationsSeen) (packets : List PacketSeen) → HasEachOnce table.places → HasEachOnce table.gates → before ≤ now
    → AgreesAt before table packets → AgreesAt now (young now table) packets
young_agrees_at before now table packets places gates h agrees =
    let later : AgreesAt now table packets = agrees_later before now table packets h agrees in
    let here : now ≤ now = omega arith in record {
      place = λ call. ap (fresh now) (place_young now table call places) ∙ fresh_again now now (place_at table call) here ∙ later.place call;
      gate = λ call. ap (fresh_gate now) (gate_young now table call gates) ∙ fresh_gate_again now now (gate_at table call) here ∙ later.gate call;
    }

-- ---- exactly what is younger than two days

young_at_once : (now : ℕ) → is_young now now ≡ true
young_at_once now = by (is_young now now) refl
  where
    by : (b : Bool) → is_young now now ≡ b → b ≡ true
    by true is = refl
    by false is = let old : position_age ≤ now - now = ltb-false _ _ is in absurd (omega arith)

-- what a packet tells has the packet's moment, at which it is young
place_by_young : (call : List ℕ) (packet : PacketSeen) → fresh packet.moment (place_by call packet) ≡ place_by call packet
place_by_young call packet = by (is_text call packet.parts.source) (has_class packet.body.class position_bit) packet.body.place
  where
    by : (named positioned : Bool) (place : Option Place)
        → fresh packet.moment (cond named (cond positioned (option_map (seen_at packet.moment) place) None) None) ≡ cond named (cond positioned (option_map (seen_at packet.moment) place) None) None
    by false positioned place = refl
    by true false place = refl
    by true true None = refl
    by true true (Some place) = rw (young_at_once packet.moment) refl

gate_by_young : (call : List ℕ) (packet : PacketSeen) → fresh_gate packet.moment (gate_by call packet) ≡ gate_by call packet
gate_by_young call packet = by (is_some_and (is_text call) (gate_in packet.parts))
  where
    by : (named : Bool) → fresh_gate packet.moment (cond named (Some packet.moment) None) ≡ cond named (Some packet.moment) None
    by false = refl
    by true = rw (young_at_once packet.moment) refl

fresh_or_later : (now : ℕ) (a o : Option Seen) → fresh now o ≡ o → later_or (fresh now a) o ≡ fresh now (later_or a o)
fresh_or_later now a None young = refl
fresh_or_later now a (Some seen) young = sym young

fresh_gate_or_later : (now : ℕ) (a o : Option ℕ) → fresh_gate now o ≡ o → later_or (fresh_gate now a) o ≡ fresh_gate now (later_or a o)
fresh_gate_or_later now a None young = refl
fresh_gate_or_later now a (Some moment) young = sym young

pub new_exactly : (now : ℕ) (hasher : RandomState) → HasExactly now (no_stations hasher) []
new_exactly now hasher = record { place = λ call. refl; gate = λ call. refl }

-- a packet of this moment comes to a table that has exactly the last
pub note_exactly : (now : ℕ) (table : StationsSeen) (packets : List PacketSeen) (packet : PacketSeen) → packet.moment ≡ now → HasExactly now table packets
    → HasExactly now (noted packet table) (packets ++ packet ∷ [])
note_exactly now table packets packet is exactly = record {
  place = λ call.
      place_noted table packet call ∙ ap (λ o. later_or o (place_by call packet)) (exactly.place call)
      ∙ fresh_or_later now (last_place packets call) (place_by call packet) (subst (λ m. fresh m (place_by call packet) ≡ place_by call packet) is (place_by_young call packet))
      ∙ ap (fresh now) (sym (told_more (place_by call) packets packet));
  gate = λ call.
      gate_noted table packet call ∙ ap (λ o. later_or o (gate_by call packet)) (exactly.gate call)
      ∙ fresh_gate_or_later now (last_gate packets call) (gate_by call packet) (subst (λ m. fresh_gate m (gate_by call packet) ≡ gate_by call packet) is (gate_by_young call packet))
      ∙ ap (fresh_gate now) (sym (told_more (gate_by call) packets packet));
}

pub note_goes_on_exactly : {A E : Type 0} (result : Result A E) (now : ℕ) (old new : StationsSeen) (packet : PacketSeen) (packets : List PacketSeen)
    → OnOk result (new ≡ noted packet old) → packet.moment ≡ now → HasExactly now old packets → OnOk result (HasExactly now new (packets ++ packet ∷ []))
note_goes_on_exactly (Ok x) now old new packet packets noted_is is exactly =
    subst (λ table. HasExactly now table (packets ++ packet ∷ [])) (sym noted_is) (note_exactly now old packets packet is exactly)
note_goes_on_exactly (Err e) now old new packet packets noted_is is exactly = tt

pub young_exactly : (before now : ℕ) (table : StationsSeen) (packets : List PacketSeen) → HasEachOnce table.places → HasEachOnce table.gates → before ≤ now
    → HasExactly before table packets → HasExactly now (young now table) packets
young_exactly before now table packets places gates h exactly = record {
  place = λ call. place_young now table call places ∙ ap (fresh now) (exactly.place call) ∙ fresh_again before now (last_place packets call) h;
  gate = λ call. gate_young now table call gates ∙ ap (fresh_gate now) (exactly.gate call) ∙ fresh_gate_again before now (last_gate packets call) h;
}
