-- What a step may do to a server, so that the links of pairs go on bringing a beginning of what was taken.
use Rattle.std.proofs.Common.{◌≡◌, ℕ, ◌+◌, ◌<◌, List, [], ◌++◌, length, refl, sym, ap, ◌∙◌, Some, None, ◌⊎◌, inl, inr, ⊎_elim, append-nil, append_assoc}
use Rattle.std.specs.Prelude.{slice_get}
use Rattle.aprs_history.specs.Headline.{taken_bytes}
use Rattle.net_history.specs.Network.{End, ForPair, JoinedSeen, Made, NetSeen, ServerSeen, brought_at, changed_at, number_of}
use Rattle.net_history.specs.Streams.{Streams}
use Rattle.net_history.proofs.BetweenLemmas.{Between, at_longer, between_both, between_one, between_same, none_some, some_or_none}

abbrev pub brought : ServerSeen → ℕ → List ℕ
brought s link = brought_at (Some s) link

-- no bytes are there for a link that wasn't made
pub record NoneUnmade (s : ServerSeen) : Type 0 where
  pub first : brought s 0 ≡ []
  pub above : (link : ℕ) → length s.made < link → brought s link ≡ []

-- links are made, and the bytes of those that were made for pairs stay
pub record Grows (s u : ServerSeen) : Type 0 where
  pub more : List Made
  pub made : u.made ≡ s.made ++ more
  pub unmade : NoneUnmade s → NoneUnmade u
  pub same : (place : ℕ) (end : End) → slice_get s.made place ≡ Some (ForPair end) → brought u (place + 1) ≡ brought s (place + 1)
  pub fresh : NoneUnmade s → (place : ℕ) (end : End) → slice_get s.made place ≡ None → slice_get u.made place ≡ Some (ForPair end) → brought u (place + 1) ≡ []
  pub taken : (link : ℕ) → (later : List ℕ) × (taken_bytes u.history link ≡ taken_bytes s.history link ++ later)

pub grows_same : (s : ServerSeen) → Grows s s
grows_same s = record {
  more = [];
  made = sym (append-nil s.made);
  unmade = λ none. none;
  same = λ place end e. refl;
  fresh = λ none place end e is. absurd (none_some (ForPair end) (sym e ∙ is));
  taken = λ link. ([], sym (append-nil (taken_bytes s.history link)));
}

pub made_stays : (s u : ServerSeen) → Grows s u → (place : ℕ) (m : Made) → slice_get s.made place ≡ Some m → slice_get u.made place ≡ Some m
made_stays s u grows place m e = ap (λ made. slice_get made place) grows.made ∙ at_longer s.made grows.more place m e

pub grows_both : (s u v : ServerSeen) → Grows s u → Grows u v → Grows s v
grows_both s u v a b = record {
  more = a.more ++ b.more;
  made = b.made ∙ ap (λ made. made ++ b.more) a.made ∙ append_assoc s.made a.more b.more;
  unmade = λ none. b.unmade (a.unmade none);
  same = λ place end e. b.same place end (made_stays s u a place (ForPair end) e) ∙ a.same place end e;
  fresh = λ none place end e is. ⊎_elim
      (λ some.
      let kept : slice_get v.made place ≡ Some some.0 = made_stays u v b place some.0 some.1 in
      let its : slice_get u.made place ≡ Some (ForPair end) = some.1 ∙ sym kept ∙ is in
      b.same place end its ∙ a.fresh none place end e its)
      (λ nothing. b.fresh (a.unmade none) place end nothing is)
      (some_or_none (slice_get u.made place));
  taken = λ link.
      let first = a.taken link in
      let then' = b.taken link in
      (first.0 ++ then'.0, then'.1 ∙ ap (λ bytes. bytes ++ then'.0) first.1 ∙ append_assoc (taken_bytes s.history link) first.0 then'.0);
}

-- each server grows so
abbrev pub AllGrow : List ServerSeen → List ServerSeen → Type 0
AllGrow before after = Between (λ j. Grows) before after

pub all_same : (servers : List ServerSeen) → AllGrow servers servers
all_same servers = between_same (λ j. Grows) servers (λ j. grows_same)

pub all_both : (a b c : List ServerSeen) → AllGrow a b → AllGrow b c → AllGrow a c
all_both a b c = between_both (λ j. Grows) (λ j. Grows) (λ j. Grows) a b c (λ j. grows_both)

pub one_grows : (f : ServerSeen → ServerSeen) (server : ℕ) (servers : List ServerSeen) → ((s : ServerSeen) → slice_get servers server ≡ Some s → Grows s (f s)) → AllGrow servers (changed_at f server servers)
one_grows f server servers grows = between_one (λ j. Grows) f server servers grows (λ j other. grows_same)

-- ---- what every network keeps

-- that end is a link of its server, which was made for a pair with the other end
abbrev pub HasEnd : List ServerSeen → End → End → Type 0
HasEnd servers end other = (s : ServerSeen) × (slice_get servers end.server ≡ Some s) × (slice_get s.made end.place ≡ Some (ForPair other))

abbrev pub HasEnds : List ServerSeen → JoinedSeen → Type 0
HasEnds servers joined = HasEnd servers joined.low joined.high × HasEnd servers joined.high joined.low

abbrev pub Ends : NetSeen → Type 0
Ends n = (pair : ℕ) (joined : JoinedSeen) → slice_get n.pairs pair ≡ Some (Some joined) → HasEnds n.servers joined

pub record Kept (n : NetSeen) : Type 0 where
  pub unmade : (server : ℕ) (s : ServerSeen) → slice_get n.servers server ≡ Some s → NoneUnmade s
  pub streams : Streams n
  pub ends : Ends n

pub end_stays : (before after : List ServerSeen) (end other : End) → AllGrow before after → HasEnd before end other → HasEnd after end other
end_stays before after end other all has = let later = all.on end.server has.0 has.1 in (later.0, later.1, made_stays has.0 later.0 later.2 end.place (ForPair other) has.2)

pub kept_growing : (n m : NetSeen) → AllGrow n.servers m.servers → Ends m → Kept n → Kept m
kept_growing n m all ends kept = record {
  unmade = λ server u e. let was = all.back server u e in was.2.unmade (kept.unmade server was.0 was.1);
  streams = λ server place u other end eu made eo.
      let s = all.back server u eu in
      let was = all.back end.server other eo in
      stream server place u other end s.0 was.0 s.1 was.1 s.2 was.2 made (some_or_none (slice_get s.0.made place));
  ends = ends;
}
  where
    stream : (server place : ℕ) (u other : ServerSeen) (end : End) (s was : ServerSeen) → slice_get n.servers server ≡ Some s → slice_get n.servers end.server ≡ Some was → Grows s u → Grows was other
        → slice_get u.made place ≡ Some (ForPair end) → ((m : Made) × (slice_get s.made place ≡ Some m)) ⊎ (slice_get s.made place ≡ None)
        → (rest : List ℕ) × (taken_bytes other.history (number_of end) ≡ brought u (place + 1) ++ rest)
    stream server place u other end s was es ew su wo made (inl some) =
        let its : slice_get s.made place ≡ Some (ForPair end) = some.1 ∙ sym (made_stays s u su place some.0 some.1) ∙ made in
        let before = kept.streams server place s was end es its ew in
        let later = wo.taken (number_of end) in (
          before.0 ++ later.0,
          later.1 ∙ ap (λ bytes. bytes ++ later.0) before.1 ∙ append_assoc (brought s (place + 1)) before.0 later.0 ∙ ap (λ bytes. bytes ++ (before.0 ++ later.0)) (sym (su.same place end its)),
        )
    stream server place u other end s was es ew su wo made (inr nothing) =
        (taken_bytes other.history (number_of end), ap (λ bytes. bytes ++ taken_bytes other.history (number_of end)) (sym (su.fresh (kept.unmade server s es) place end nothing made)))
