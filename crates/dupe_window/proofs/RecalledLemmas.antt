-- A window against the packets that were put into it.
use Rattle.std.proofs.Common.{◌≡◌, ℕ, ◌≤◌, ◌<◌, Bool, true, false, cond, filter, map, ◌&&◌, ◌||◌, List, [], ◌∷◌, ◌++◌, Option, Some, is_some, if◌then◌else◌, refl, sym, ap, ◌∙◌, arith}
use Rattle.std.specs.List.{list_all, list_any}
use Rattle.std.specs.Map.{lookup}
use Rattle.std.proofs.lemmas.Bool.Decides.{nat_tests}
use Rattle.std.proofs.lemmas.List.{map-append}
use Rattle.std.proofs.lemmas.List.Elements.{filter-append}
use Rattle.aprs_base.specs.PacketSeen.{PacketSeen}
use Rattle.aprs_base.specs.PartsSeen.{PartsSeen}
use Rattle.dupe_window.specs.Keys.{Key, is_same_key, key_of}
use Rattle.dupe_window.specs.Recalled.{pair_of, recalled}
use Rattle.dupe_window.specs.Windows.{WindowSeen, is_inside, is_inside_pair, seen_at}
use Rattle.dupe_window.proofs.WindowLemmas.{filter_stronger, inside_before, list_all-filter, seen_at-kept}

lookup_either : (test : Key → Bool) (b : Bool) (xs ys : List (Key × ℕ)) → lookup test (cond b xs ys) ≡ cond b (lookup test xs) (lookup test ys)
lookup_either test true xs ys = refl
lookup_either test false xs ys = refl

found_first : (inside same any : Bool) (moment : ℕ) (rest : Option ℕ) → any ≡ is_some rest → ((inside && same) || any) ≡ is_some (cond inside (cond same (Some moment) rest) rest)
found_first true true any moment rest h = refl
found_first true false any moment rest h = h
found_first false same any moment rest h = h

-- a packet with this key came less than so many seconds ago exactly where its key is recalled
pub list_any-recalled : (seconds now : ℕ) (parts : PartsSeen) (packets : List PacketSeen)
    → list_any (λ packet. is_inside seconds now packet.moment && is_same_key (key_of parts) (key_of packet.parts)) packets
    ≡ is_some (lookup (is_same_key (key_of parts)) (recalled seconds now packets))
list_any-recalled seconds now parts [] = refl
list_any-recalled seconds now parts (packet ∷ packets) =
    let test : Key → Bool = is_same_key (key_of parts) in
    let rest : List (Key × ℕ) = recalled seconds now packets in
    found_first (is_inside seconds now packet.moment) (test (key_of packet.parts)) _ packet.moment (lookup test rest) (list_any-recalled seconds now parts packets)
    ∙ ap is_some (sym (lookup_either test (is_inside seconds now packet.moment) (pair_of packet ∷ rest) rest))

-- one packet more
pub recalled-push : (seconds now : ℕ) (packets : List PacketSeen) (packet : PacketSeen)
    → recalled seconds now (packets ++ packet ∷ []) ≡ recalled seconds now packets ++ (if is_inside seconds now packet.moment then pair_of packet ∷ [] else [])
recalled-push seconds now packets packet =
    ap (filter (is_inside_pair seconds now)) (map-append pair_of packets (packet ∷ []))
    ∙ filter-append (is_inside_pair seconds now) (map pair_of packets) (pair_of packet ∷ [])

-- one that comes now
pub recalled-push_now : (seconds : ℕ) (packets : List PacketSeen) (packet : PacketSeen) → 0 < seconds
    → recalled seconds packet.moment (packets ++ packet ∷ []) ≡ recalled seconds packet.moment packets ++ pair_of packet ∷ []
recalled-push_now seconds packets packet lasts =
    let here : is_inside seconds packet.moment packet.moment ≡ true = grind (arith, nat_tests) in
    recalled-push seconds packet.moment packets packet ∙ ap (λ b. recalled seconds packet.moment packets ++ (if b then pair_of packet ∷ [] else [])) here

-- what is recalled later is a part of what is recalled before
pub recalled-later : (seconds before now : ℕ) (packets : List PacketSeen) → before ≤ now
    → filter (is_inside_pair seconds now) (recalled seconds before packets) ≡ recalled seconds now packets
recalled-later seconds before now packets le =
    filter_stronger (is_inside_pair seconds before) (is_inside_pair seconds now) (λ pair. inside_before seconds before now pair.1 le) (map pair_of packets)

pub inside_recalled : (seconds now : ℕ) (packets : List PacketSeen) → list_all (is_inside_pair seconds now) (recalled seconds now packets) ≡ true
inside_recalled seconds now packets = list_all-filter (is_inside_pair seconds now) (map pair_of packets)

-- a window with what is recalled sees a packet exactly where it came less than so many seconds ago
pub seen_at-recalled : (now : ℕ) (parts : PartsSeen) (packets : List PacketSeen) (window : WindowSeen) → window.pairs ≡ recalled window.seconds now packets
    → is_some (seen_at now (key_of parts) window)
    ≡ list_any (λ packet. is_inside window.seconds now packet.moment && is_same_key (key_of parts) (key_of packet.parts)) packets
seen_at-recalled now parts packets window is =
    let inside : list_all (is_inside_pair window.seconds now) window.pairs ≡ true = ap (list_all (is_inside_pair window.seconds now)) is ∙ inside_recalled window.seconds now packets in
    ap is_some (seen_at-kept now (key_of parts) window inside ∙ ap (lookup (is_same_key (key_of parts))) is) ∙ sym (list_any-recalled window.seconds now parts packets)
