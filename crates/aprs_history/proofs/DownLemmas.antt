-- Downlinks: what whole lines are of bytes, and that none are there where the setting has no kind of port for them.
use Rattle.std.proofs.Common.{◌≡◌, ℕ, suc, ◌+◌, ◌<◌, ◌==◌, ◌&&◌, nat_lt, Bool, true, false, List, [], ◌∷◌, ◌++◌, length, map, take, drop, get_or, refl, sym, ap, ◌∙◌, subst, arith, Option, Some, None, option_map, is_some, append_assoc, if◌then◌else◌}
use Rattle.std.proofs.lemmas.Bool.{ltb-true, true≢false}
use Rattle.std.specs.Str.{byte}
use Rattle.aprs_base.specs.declared.packets.PortKind.{PortKind}
use Rattle.aprs_base.specs.declared.packets.Source.{Source}
use Rattle.aprs_base.specs.declared.packets.Source.TheVariants as source
use Rattle.aprs_base.specs.declared.texts.Addr.{Addr}
use Rattle.aprs_history.specs.declared.verdicts.LinkKind.{LinkKind}
use Rattle.aprs_history.specs.declared.verdicts.LinkKind.TheVariants.{Client, Uplink}
use Rattle.aprs_history.specs.Setting.{Setting}
use Rattle.aprs_history.specs.Trace.{Trace, Opened, Said, is_from}
use Rattle.aprs_history.specs.Links.{Opening, opening_of}
use Rattle.aprs_history.specs.Texts.{untaken}
use Rattle.aprs_history.specs.Acts.{Offers, all_offers, offers_by, offers_to}
use Rattle.aprs_history.specs.Downs.{DownSeen, asked_addr, asked_port, down_by, down_of, downs_in, is_at_line_start, lines_behind, may_be_down, most_downs, port_of_link, source_down, whole_lines}

-- ---- whole lines

-- bytes begin with their first whole line, and the other whole lines are those of what is left
pub record BeginsWith (bytes line : List ℕ) (lines : List (List ℕ)) : Type 0 where
  pub rest : List ℕ
  pub split : bytes ≡ line ++ rest
  pub others : lines ≡ whole_lines rest

none_is_no_line : (line : List ℕ) (lines : List (List ℕ)) → [] ≡ line ∷ lines → ⊥
none_is_no_line line lines is = let some : 0 ≡ suc (length lines) = ap length is in omega arith

-- the rest of a search, where a byte is no end
begins_later : (before bytes line : List ℕ) (lines : List (List ℕ)) (b : ℕ) → BeginsWith ((before ++ b ∷ []) ++ bytes) line lines → BeginsWith (before ++ b ∷ bytes) line lines
begins_later before bytes line lines b later = record { rest = later.rest; split = sym (append_assoc before (b ∷ []) bytes) ∙ later.split; others = later.others }

first_by : (ends : Bool) (before bytes line : List ℕ) (lines : List (List ℕ)) (b : ℕ) → (lines_behind (before ++ b ∷ []) bytes ≡ line ∷ lines → BeginsWith ((before ++ b ∷ []) ++ bytes) line lines)
    → (if ends then (before ++ b ∷ []) ∷ lines_behind [] bytes else lines_behind (before ++ b ∷ []) bytes) ≡ line ∷ lines → BeginsWith (before ++ b ∷ bytes) line lines
first_by true before bytes line lines b later same = record {
  rest = bytes;
  split = sym (append_assoc before (b ∷ []) bytes) ∙ ap (λ first. first ++ bytes) (ap (λ (ls : List (List ℕ)). get_or ls 0 []) same);
  others = sym (ap (drop 1) same);
}
first_by false before bytes line lines b later same = begins_later before bytes line lines b (later same)

first_behind : (before bytes line : List ℕ) (lines : List (List ℕ)) → lines_behind before bytes ≡ line ∷ lines → BeginsWith (before ++ bytes) line lines
first_behind before [] line lines is = absurd (none_is_no_line line lines is)
first_behind before (b ∷ bytes) line lines is = first_by (b == byte "\n") before bytes line lines b (first_behind (before ++ b ∷ []) bytes line lines) is

pub first_whole : (bytes line : List ℕ) (lines : List (List ℕ)) → whole_lines bytes ≡ line ∷ lines → BeginsWith bytes line lines
first_whole bytes line lines is = first_behind [] bytes line lines is

-- ---- where no listener is there that lines are cast from

module _ (s : Setting) (none : s.downs ≡ []) where
  no_kind : (kind : LinkKind) → may_be_down [] kind ≡ false
  no_kind (Client port) = refl
  no_kind (Uplink uplink) = refl

  no_addr : (opening : Option Opening) (port : Option ℕ) → asked_addr [] opening port ≡ None
  no_addr None port = refl
  no_addr (Some opening) port = ap (λ b. if b then option_map (port_of_link opening.from) port else None) (no_kind opening.kind)

  no_source : (t : Trace) (before : ℕ) (from : Source) (port : Option ℕ) → source_down s t before from port ≡ None
  no_source t before (source.Link link) port =
      let asked = if nat_lt before most_downs && is_at_line_start s t link then port else None in
      ap (λ downs. asked_addr downs (opening_of t link) asked) none ∙ no_addr (opening_of t link) asked
  no_source t before (source.Submit listener) port = refl
  no_source t before (source.Peer peer) port = refl

  none_if : (b : Bool) (down : Option DownSeen) → down ≡ None → (if b then None else down) ≡ None
  none_if true down is = refl
  none_if false down is = is

  none_by : (b : Bool) (number : ℕ) (to : Option Addr) (down : Option DownSeen) → to ≡ None → down ≡ None → (if b then down_by number to down else down) ≡ None
  none_by true number to down no_to is = ap (λ o. down_by number o down) no_to ∙ is
  none_by false number to down no_to is = is

  -- no link is a downlink
  pub no_down : (t : Trace) (link : ℕ) → down_of s t link ≡ None
  no_down [] link = refl
  no_down (Opened door admission opened from ∷ t) link = none_if (link == opened) (down_of s t link) (no_down t link)
  no_down (Said from said verdict ∷ t) link =
      none_by (is_from link from) (downs_in s t) (source_down s t (downs_in s t) from (asked_port said verdict)) (down_of s t link) (no_source t (downs_in s t) from (asked_port said verdict)) (no_down t link)
  no_down (entry ∷ t) link = no_down t link

  -- each link is offered its next bytes at once
  pub plain_offers : (t : Trace) (link : ℕ) → offers_to s t link ≡ Offers link (take 65536 (untaken s t link)) ∷ []
  plain_offers t link = ap (λ down. offers_by down link (take 65536 (untaken s t link))) (no_down t link)

  pub all_plain_offers : (t : Trace) (links : List ℕ) → all_offers s t links ≡ map (λ link. Offers link (take 65536 (untaken s t link))) links
  all_plain_offers t [] = refl
  all_plain_offers t (link ∷ links) = ap (λ acts. acts ++ all_offers s t links) (plain_offers t link) ∙ ap (λ acts. Offers link (take 65536 (untaken s t link)) ∷ acts) (all_plain_offers t links)

-- ---- numbers

none_is_some : false ≡ true → ⊥
none_is_some is = true≢false (sym is)

abbrev number_in : Option DownSeen → ℕ
number_in None = 0
number_in (Some down) = down.number

-- a downlink's number is less than so many
module _ (s : Setting) where
  asked_some : (downs : List PortKind) (opening : Option Opening) (few start : Bool) (port : Option ℕ) (to : Addr) → asked_addr downs opening (if few && start then port else None) ≡ Some to → few ≡ true
  asked_some downs None few start port to is = absurd (none_is_some (ap is_some is))
  asked_some downs (Some opening) true start port to is = refl
  asked_some downs (Some opening) false start port to is = by (may_be_down downs opening.kind) is
    where
      by : (b : Bool) → (if b then None else None) ≡ Some to → false ≡ true
      by true same = ap is_some same
      by false same = ap is_some same

  small_source : (t : Trace) (before : ℕ) (from : Source) (port : Option ℕ) (to : Addr) → source_down s t before from port ≡ Some to → before < most_downs
  small_source t before (source.Link link) port to is = ltb-true before most_downs (asked_some s.downs (opening_of t link) (nat_lt before most_downs) (is_at_line_start s t link) port to is)
  small_source t before (source.Submit listener) port to is = absurd (none_is_some (ap is_some is))
  small_source t before (source.Peer peer) port to is = absurd (none_is_some (ap is_some is))

  small_if : (b : Bool) (given : Option DownSeen) (down : DownSeen) → (given ≡ Some down → down.number < most_downs) → (if b then None else given) ≡ Some down → down.number < most_downs
  small_if true given down later is = absurd (none_is_some (ap is_some is))
  small_if false given down later is = later is

  small_by : (b : Bool) (number : ℕ) (to : Option Addr) (given : Option DownSeen) (down : DownSeen) → ((at : Addr) → to ≡ Some at → number < most_downs) → (given ≡ Some down → down.number < most_downs)
      → (if b then down_by number to given else given) ≡ Some down → down.number < most_downs
  small_by true number None given down few later is = later is
  small_by true number (Some to) given down few later is = subst (λ n. n < most_downs) (ap number_in is) (few to refl)
  small_by false number to given down few later is = later is

  pub down_small : (t : Trace) (link : ℕ) (down : DownSeen) → down_of s t link ≡ Some down → down.number < most_downs
  down_small [] link down is = absurd (none_is_some (ap is_some is))
  down_small (Opened door admission opened from ∷ t) link down is = small_if (link == opened) (down_of s t link) down (down_small t link down) is
  down_small (Said from said verdict ∷ t) link down is =
      small_by (is_from link from) (downs_in s t) (source_down s t (downs_in s t) from (asked_port said verdict)) (down_of s t link) down (small_source t (downs_in s t) from (asked_port said verdict)) (down_small t link down) is
  down_small (entry ∷ t) link down is = down_small t link down is
