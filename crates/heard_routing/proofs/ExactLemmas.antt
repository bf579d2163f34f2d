-- A table has exactly what links heard at most three hours before, as time goes on.
use Rattle.std.proofs.Common.{◌≡◌, ℕ, ◌-◌, ◌≤◌, Bool, true, false, cond, not, ◌&&◌, ◌==◌, List, [], ◌∷◌, ◌++◌, Option, Some, None, Result, Ok, Err, OnOk, refl, sym, ap, ◌∙◌, subst, arith}
use Rattle.std.proofs.lemmas.Bool.{and_parts, leb-false}
use Rattle.aprs_base.specs.PacketSeen.{PacketSeen}
use Rattle.filter_eval.specs.Passes.{is_text}
use Rattle.station_table.specs.Last.{later_or}
use Rattle.heard_routing.specs.Entries.{HasEachOnce}
use Rattle.heard_routing.specs.Heard.{HeardSeen, heard_age, is_recent, noted, recent, without_link}
use Rattle.heard_routing.specs.LastHeard.{HasExactly, IsHeard, but_not, heard_by, last_heard, still}
use Rattle.heard_routing.proofs.HeardLemmas.{kept_of, last_more, none_of, noted_later, noted_others, still_again, told_by}
use Rattle.heard_routing.proofs.LookLemmas.{heard_recent}

-- ---- one more packet

is_fresh : (age now : ℕ) → is_recent age now now ≡ true
is_fresh age now = by (is_recent age now now) refl
  where
    by : (b : Bool) → is_recent age now now ≡ b → b ≡ true
    by true is = refl
    by false is = absurd (omega (arith, leb-false (now - now) age is))

-- what is told now is still so
told_now : (age now : ℕ) (b : Bool) (earlier : Option ℕ) → later_or (still age now earlier) (cond b (Some now) None) ≡ still age now (later_or earlier (cond b (Some now) None))
told_now age now true earlier = ap (λ b. cond b (Some now) None) (sym (is_fresh age now))
told_now age now false earlier = refl

pub note_exactly : (lives : ℕ → Bool) (table : HeardSeen) (packets : List PacketSeen) (packet : PacketSeen) (link : ℕ) (call : List ℕ) (now : ℕ)
    → IsHeard packet link call now → lives link ≡ true → HasExactly now lives table packets → HasExactly now lives (noted link call now table) (packets ++ packet ∷ [])
note_exactly lives table packets packet link call now heard living exactly = record {
  heard = λ other here text.
      let told = told_by packet link call now heard other text in
      noted_later packet table link call now heard other text
      ∙ ap (λ o. later_or o (heard_by other text packet)) (exactly.heard other here text)
      ∙ ap (later_or (still heard_age now (last_heard packets other text))) told
      ∙ told_now heard_age now (other == link && is_text text call) (last_heard packets other text)
      ∙ ap (λ o. still heard_age now (later_or (last_heard packets other text) o)) (sym told)
      ∙ ap (still heard_age now) (sym (last_more packets packet other text));
  others = λ other there text. noted_others lives table link call now living other there text (exactly.others other there text);
}

pub note_goes_on_exactly : {A E : Type 0} (result : Result A E) (lives : ℕ → Bool) (old new : HeardSeen) (packets : List PacketSeen) (packet : PacketSeen) (link : ℕ) (call : List ℕ) (now : ℕ)
    → OnOk result (new ≡ noted link call now old) → IsHeard packet link call now → lives link ≡ true → HasExactly now lives old packets → OnOk result (HasExactly now lives new (packets ++ packet ∷ []))
note_goes_on_exactly (Ok x) lives old new packets packet link call now is heard living exactly =
    subst (λ table. HasExactly now lives table (packets ++ packet ∷ [])) (sym is) (note_exactly lives old packets packet link call now heard living exactly)
note_goes_on_exactly (Err e) lives old new packets packet link call now is heard living exactly = tt

-- ---- links that come and go

pub forget_exactly : (now : ℕ) (lives : ℕ → Bool) (table : HeardSeen) (packets : List PacketSeen) (gone : ℕ) → HasExactly now lives table packets
    → HasExactly now (but_not gone lives) (without_link gone table) packets
forget_exactly now lives table packets gone exactly = record {
  heard = λ link here call.
      kept_of table gone link call (and_parts (not (gone == link)) (lives link) here).0 ∙ exactly.heard link (and_parts (not (gone == link)) (lives link) here).1 call;
  others = λ link there call. none_of lives table gone link call there (λ is. exactly.others link is call);
}

-- ---- as time goes by

pub recent_exactly : (before now : ℕ) (lives : ℕ → Bool) (table : HeardSeen) (packets : List PacketSeen) → HasEachOnce table.heard → before ≤ now → HasExactly before lives table packets
    → HasExactly now lives (recent now table) packets
recent_exactly before now lives table packets once h exactly = record {
  heard = λ link living call.
      heard_recent now table link call once ∙ ap (still heard_age now) (exactly.heard link living call) ∙ still_again heard_age before now (last_heard packets link call) h;
  others = λ link there call. heard_recent now table link call once ∙ ap (still heard_age now) (exactly.others link there call);
}
