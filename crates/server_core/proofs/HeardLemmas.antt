-- What links heard and were promised, as packets come and links end.
use Rattle.std.proofs.Common.{◌≡◌, ℕ, ◌-◌, ◌≤◌, ◌<◌, ◌==◌, ◌&&◌, ◌||◌, min, ⊎_elim, arith, Bool, true, false, not, List, [], ◌∷◌, ◌++◌, filter, refl, sym, ap, ◌∙◌, subst, Option, Some, None, cond, if◌then◌else◌, append-nil}
use Rattle.std.specs.Bool.{⊤}
use Rattle.std.proofs.lemmas.Bool.{cases_Bool, eqb-true, false_from_ne_true, leb-false, leb-true, le-leb, true≢false}
use Rattle.std.proofs.lemmas.Cmp.{nat_list_eq_equiv}
use Rattle.aprs_base.specs.PacketSeen.{PacketSeen}
use Rattle.aprs_base.specs.Bytes.{is_call}
use Rattle.aprs_base.specs.declared.cutting.Cut.{Cut}
use Rattle.aprs_base.specs.declared.packets.Parts.{Parts}
use Rattle.aprs_base.specs.declared.packets.Source.{Source}
use Rattle.aprs_base.specs.declared.packets.Source.TheVariants as source
use Rattle.aprs_base.specs.declared.texts.Addr.{Addr}
use Rattle.filter_eval.specs.Passes.{is_some_and, is_text}
use Rattle.heard_routing.specs.Entries.{HasEachOnce, is_another}
use Rattle.heard_routing.specs.Heard.{HeardSeen, courtesies, heard_age, heard_at, is_among, is_recent, noted, promise_age, promised, promised_at, receivers, recent, without_link, without_promises}
use Rattle.heard_routing.specs.LastHeard.{still}
use Rattle.heard_routing.proofs.EntryLemmas.{links_listed, once_emptied, once_filtered, once_recent, once_set}
use Rattle.heard_routing.proofs.LookLemmas.{heard_noted, heard_recent, heard_without_link, promised_promised, promised_recent, promised_without_link, promised_without_promises}
use Rattle.aprs_history.specs.declared.verdicts.Verdict.TheVariants.{Accepted}
use Rattle.aprs_history.specs.declared.verdicts.LinkKind.{LinkKind}
use Rattle.aprs_history.specs.declared.verdicts.LinkKind.TheVariants.{Client, Uplink}
use Rattle.aprs_history.specs.declared.verdicts.Admission.{Admission}
use Rattle.aprs_history.specs.declared.verdicts.Admission.TheVariants.{Served}
use Rattle.aprs_history.specs.Trace.{Door, Ended, Opened, Said, Ticked, last_moment, opened_link, Trace, is_from, is_live, is_member, is_other, live_links, moment_of}
use Rattle.aprs_history.specs.declared.verdicts.EndReason.{EndReason}
use Rattle.aprs_history.specs.Links.{Opening, has_filters, is_client, is_client_link, is_client_of, is_filter_of, opening_by, opening_of}
use Rattle.aprs_history.specs.Scenes.{packet_of}
use Rattle.aprs_history.specs.Messages.{has_heard, heard_of, is_message, is_owed, is_position, is_to_heard, promise_after, promise_of, promises}
use Rattle.aprs_history.specs.History.{end_each}
use Rattle.aprs_history.specs.Stands.{LinkSeen, Remembers, kept_hearing, kept_promise}
use Rattle.server_core.specs.LinkSteps.{call_in, forgotten_all, hearers_of, may_promise, noted_from, promised_all, promised_one, receiver_of, spent}
use Rattle.served_links.specs.Links.{client_at, filters_at}
use Rattle.server_core.proofs.MemberLemmas.{eqb_turned, member_filter, member_push}
use Rattle.std.proofs.Math.Nat.{le-max_right}

-- ---- what still counts

still_recent : (age now : ℕ) (told : Option ℕ) → is_some_and (is_recent age now) (still age now told) ≡ is_some_and (is_recent age now) told
still_recent age now None = refl
still_recent age now (Some moment) = by (is_recent age now moment) refl
  where
    by : (recent : Bool) → is_recent age now moment ≡ recent → is_some_and (is_recent age now) (if recent then Some moment else None) ≡ is_recent age now moment
    by true is = refl
    by false is = sym is

still_unless : (new : Bool) (age now : ℕ) (told : Option ℕ) → still age now (if new then None else told) ≡ (if new then None else still age now told)
still_unless true age now told = refl
still_unless false age now told = refl

still_now : (age now : ℕ) → still age now (Some now) ≡ Some now
still_now age now = let none : now - now ≤ age = omega arith in ap (λ b. if b then Some now else None) (le-leb (now - now) age none)

still_set : (set : Bool) (age now : ℕ) (told : Option ℕ) → still age now (if set then Some now else told) ≡ (if set then Some now else still age now told)
still_set true age now told = still_now age now
still_set false age now told = refl

still_after : (same promised spent : Bool) (age now : ℕ) (told : Option ℕ)
    → still age now (if same then promise_after promised spent now told else told) ≡ (if same then promise_after promised spent now (still age now told) else still age now told)
still_after true true spent age now told = still_now age now
still_after true false true age now told = refl
still_after true false false age now told = refl
still_after false promised spent age now told = refl

too_late : (a b age moment : ℕ) → a ≤ b → is_recent age a moment ≡ false → is_recent age b moment ≡ false
too_late a b age moment le old =
    let past : age < a - moment = leb-false (a - moment) age old in
    false_from_ne_true _ (λ recent. let under : b - moment ≤ age = leb-true (b - moment) age recent in absurd (omega arith))

-- what is too old stays so
still_later : (age a b : ℕ) → a ≤ b → (told : Option ℕ) → still age b (still age a told) ≡ still age b told
still_later age a b le None = refl
still_later age a b le (Some moment) =
    ⊎_elim
    (λ recent. rw recent refl)
    (λ old. ap (λ o. still age b (if o then Some moment else None)) old ∙ sym (ap (λ o. if o then Some moment else None) (too_late a b age moment le old)))
    (cases_Bool (is_recent age a moment))

-- ---- promises of several links

more_promises : (here among may may' same : Bool) (x y : Option ℕ) → (here ≡ true → may' ≡ may)
    → cond (among && (may && same)) x (cond (may' && (here && same)) x y) ≡ cond ((here || among) && (may && same)) x y
more_promises here among may may' same x y is = grind arith

module _ (links : List LinkSeen) (from : Source) (sender : List ℕ) (now : ℕ) where
  one_promised : (table : HeardSeen) (k l : ℕ) (s : List ℕ)
      → promised_at (promised_one links from sender now k table) l s ≡ cond (may_promise links from k && (l == k && is_text s sender)) (Some now) (promised_at table l s)
  one_promised table k l s = by (may_promise links from k)
    where
      by : (b : Bool) → promised_at (if b then promised k sender now table else table) l s ≡ cond (b && (l == k && is_text s sender)) (Some now) (promised_at table l s)
      by true = promised_promised table k l sender s now
      by false = refl

  all_promised : (ks : List ℕ) (table : HeardSeen) (l : ℕ) (s : List ℕ)
      → promised_at (promised_all links from sender now ks table) l s ≡ cond (is_among l ks && (may_promise links from l && is_text s sender)) (Some now) (promised_at table l s)
  all_promised [] table l s = refl
  all_promised (k ∷ ks) table l s =
      all_promised ks (promised_one links from sender now k table) l s
      ∙ ap (cond (is_among l ks && (may_promise links from l && is_text s sender)) (Some now)) (one_promised table k l s)
      ∙ more_promises (l == k) (is_among l ks) (may_promise links from l) (may_promise links from k) (is_text s sender) (Some now) (promised_at table l s)
      (λ here. ap (may_promise links from) (sym (eqb-true l k here)))

  one_heard : (table : HeardSeen) (k : ℕ) → (promised_one links from sender now k table).heard ≡ table.heard
  one_heard table k = by (may_promise links from k)
    where
      by : (b : Bool) → (if b then promised k sender now table else table).heard ≡ table.heard
      by true = refl
      by false = refl

  all_heard : (ks : List ℕ) (table : HeardSeen) → (promised_all links from sender now ks table).heard ≡ table.heard
  all_heard [] table = refl
  all_heard (k ∷ ks) table = all_heard ks (promised_one links from sender now k table) ∙ one_heard table k

  one_once : (table : HeardSeen) (k : ℕ) → HasEachOnce table.promises → HasEachOnce (promised_one links from sender now k table).promises
  one_once table k once = by (may_promise links from k)
    where
      by : (b : Bool) → HasEachOnce (if b then promised k sender now table else table).promises
      by true = once_set k sender now table.promises (promised k sender now table).promises refl once
      by false = once

  all_once : (ks : List ℕ) (table : HeardSeen) → HasEachOnce table.promises → HasEachOnce (promised_all links from sender now ks table).promises
  all_once [] table once = once
  all_once (k ∷ ks) table once = all_once ks (promised_one links from sender now k table) (one_once table k once)

-- ---- links that come and go

-- what is remembered of a link that has just come
came_shape : (member same : Bool) (told : Option ℕ) → (same ≡ true → member ≡ false)
    → (if member then told else None) ≡ (if member || same then (if same then None else told) else None)
came_shape member same told none = grind arith

-- and of one that comes where none is served
missed_shape : (member same : Bool) (told : Option ℕ) → (same ≡ true → member ≡ false) → (if member then told else None) ≡ (if member then (if same then None else told) else None)
missed_shape member same told none = grind arith

-- and of one that ends
gone_shape : (gone member : Bool) (told : Option ℕ) → cond (not gone) (if member then told else None) None ≡ (if not gone && member then told else None)
gone_shape gone member told = grind arith

-- of what only clients are remembered for, where a link comes
came_client : (member same client new : Bool) (told : Option ℕ) → (same ≡ true → member ≡ false)
    → (if member && client then told else None) ≡ (if (member || same) && (if same then new else client) then (if same then None else told) else None)
came_client member same client new told none = grind arith

missed_client : (member same client new : Bool) (told : Option ℕ) → (same ≡ true → member ≡ false)
    → (if member && client then told else None) ≡ (if member && (if same then new else client) then (if same then None else told) else None)
missed_client member same client new told none = grind arith

gone_client : (gone member client : Bool) (told : Option ℕ) → cond (not gone) (if member && client then told else None) None ≡ (if (not gone && member) && client then told else None)
gone_client gone member client told = grind arith

-- whether a link is a client, once one has come
client_come : (same : Bool) (new old : Option Opening) → is_client_link (if same then new else old) ≡ (if same then is_client_link new else is_client_link old)
client_come true new old = refl
client_come false new old = refl

pub remembers_opened : (table : HeardSeen) (t : Trace) (door : Door) (kind : LinkKind) (k : ℕ) (from : Addr) → is_live t k ≡ false → Remembers table t → Remembers table (Opened door (Served kind) k from ∷ t)
remembers_opened table t door kind k from dead remembers = record {
  once_heard = remembers.once_heard;
  once_promised = remembers.once_promised;
  heard = λ l call. remembers.heard l call ∙ came_as (kept_hearing t l call) l
      ∙ ap (λ told. if is_client (Opened door (Served kind) k from ∷ t) l then told else None) (sym (still_unless (l == k) heard_age (moment_of t) (heard_of t l call)));
  promised = λ l sender. remembers.promised l sender ∙ came (kept_promise t l sender) l
      ∙ ap (λ told. if is_live (Opened door (Served kind) k from ∷ t) l then told else None) (sym (still_unless (l == k) promise_age (moment_of t) (promise_of t l sender)));
}
  where
    new : Option Opening
    new = opening_by (Served kind) from (moment_of t)

    not_there : (l : ℕ) → (l == k) ≡ true → is_live t l ≡ false
    not_there l same = ap (is_live t) (eqb-true l k same) ∙ dead

    lives : (l : ℕ) → (is_live t l || l == k) ≡ is_member l (live_links t ++ k ∷ [])
    lives l = ap (λ b. is_live t l || b) (eqb_turned l k) ∙ sym (member_push l k (live_links t))

    came : (told : Option ℕ) (l : ℕ) → (if is_live t l then told else None) ≡ (if is_member l (live_links t ++ k ∷ []) then (if l == k then None else told) else None)
    came told l = came_shape (is_live t l) (l == k) told (not_there l) ∙ ap (λ b. if b then (if l == k then None else told) else None) (lives l)

    came_as : (told : Option ℕ) (l : ℕ)
        → (if is_client t l then told else None) ≡ (if is_member l (live_links t ++ k ∷ []) && is_client_link (if l == k then new else opening_of t l) then (if l == k then None else told) else None)
    came_as told l =
        came_client (is_live t l) (l == k) (is_client_link (opening_of t l)) (is_client_link new) told (not_there l)
        ∙ ap (λ b. if b && (if l == k then is_client_link new else is_client_link (opening_of t l)) then (if l == k then None else told) else None) (lives l)
        ∙ ap (λ b. if is_member l (live_links t ++ k ∷ []) && b then (if l == k then None else told) else None) (sym (client_come (l == k) new (opening_of t l)))

pub remembers_unserved : (table : HeardSeen) (t : Trace) (door : Door) (admission : Admission) (k : ℕ) (from : Addr) → opened_link admission k ≡ [] → is_live t k ≡ false → Remembers table t
    → Remembers table (Opened door admission k from ∷ t)
remembers_unserved table t door admission k from none dead remembers = record {
  once_heard = remembers.once_heard;
  once_promised = remembers.once_promised;
  heard = λ l call. remembers.heard l call ∙ missed_as (kept_hearing t l call) l
      ∙ ap (λ told. if is_client (Opened door admission k from ∷ t) l then told else None) (sym (still_unless (l == k) heard_age (moment_of t) (heard_of t l call)));
  promised = λ l sender. remembers.promised l sender ∙ missed (kept_promise t l sender) l
      ∙ ap (λ told. if is_live (Opened door admission k from ∷ t) l then told else None) (sym (still_unless (l == k) promise_age (moment_of t) (promise_of t l sender)));
}
  where
    new : Option Opening
    new = opening_by admission from (moment_of t)

    not_there : (l : ℕ) → (l == k) ≡ true → is_live t l ≡ false
    not_there l same = ap (is_live t) (eqb-true l k same) ∙ dead

    lives : (l : ℕ) → is_live t l ≡ is_member l (live_links t ++ opened_link admission k)
    lives l = ap (is_member l) (sym (ap (λ new. live_links t ++ new) none ∙ append-nil (live_links t)))

    missed : (told : Option ℕ) (l : ℕ) → (if is_live t l then told else None) ≡ (if is_member l (live_links t ++ opened_link admission k) then (if l == k then None else told) else None)
    missed told l = missed_shape (is_live t l) (l == k) told (not_there l) ∙ ap (λ b. if b then (if l == k then None else told) else None) (lives l)

    missed_as : (told : Option ℕ) (l : ℕ)
        → (if is_client t l then told else None)
        ≡ (if is_member l (live_links t ++ opened_link admission k) && is_client_link (if l == k then new else opening_of t l) then (if l == k then None else told) else None)
    missed_as told l =
        missed_client (is_live t l) (l == k) (is_client_link (opening_of t l)) (is_client_link new) told (not_there l)
        ∙ ap (λ b. if b && (if l == k then is_client_link new else is_client_link (opening_of t l)) then (if l == k then None else told) else None) (lives l)
        ∙ ap (λ b. if is_member l (live_links t ++ opened_link admission k) && b then (if l == k then None else told) else None) (sym (client_come (l == k) new (opening_of t l)))

pub remembers_ended : (table : HeardSeen) (t : Trace) (k : ℕ) (reason : EndReason) → Remembers table t → Remembers (without_link k table) (Ended k reason ∷ t)
remembers_ended table t k reason remembers = record {
  once_heard = once_filtered (is_another k) table.heard (without_link k table).heard refl remembers.once_heard;
  once_promised = once_filtered (is_another k) table.promises (without_link k table).promises refl remembers.once_promised;
  heard = λ l call. heard_without_link table k l call ∙ ap (λ told. cond (not (k == l)) told None) (remembers.heard l call) ∙ gone_as (kept_hearing t l call) l;
  promised = λ l sender. promised_without_link table k l sender ∙ ap (λ told. cond (not (k == l)) told None) (remembers.promised l sender) ∙ gone (kept_promise t l sender) l;
}
  where
    left : (l : ℕ) → (not (k == l) && is_live t l) ≡ is_member l (filter (is_other k) (live_links t))
    left l = ap (λ b. not b && is_live t l) (eqb_turned k l) ∙ sym (member_filter (is_other k) (live_links t) l)

    gone : (told : Option ℕ) (l : ℕ) → cond (not (k == l)) (if is_live t l then told else None) None ≡ (if is_member l (filter (is_other k) (live_links t)) then told else None)
    gone told l = gone_shape (k == l) (is_live t l) told ∙ ap (λ b. if b then told else None) (left l)

    gone_as : (told : Option ℕ) (l : ℕ)
        → cond (not (k == l)) (if is_client t l then told else None) None ≡ (if is_member l (filter (is_other k) (live_links t)) && is_client_link (opening_of t l) then told else None)
    gone_as told l = gone_client (k == l) (is_live t l) (is_client_link (opening_of t l)) told ∙ ap (λ b. if b && is_client_link (opening_of t l) then told else None) (left l)

pub remembers_all_ended : (reason : ℕ → EndReason) (ks : List ℕ) (table : HeardSeen) (t : Trace) → Remembers table t → Remembers (forgotten_all ks table) (end_each reason ks t)
remembers_all_ended reason [] table t remembers = remembers
remembers_all_ended reason (k ∷ ks) table t remembers =
    remembers_all_ended reason ks (without_link k table) (Ended k (reason k) ∷ t) (remembers_ended table t k (reason k) remembers)

-- as time goes on, what is too old is let go
pub remembers_passed : (table : HeardSeen) (t : Trace) (m : ℕ) → Remembers table t → Remembers (recent (moment_of (Ticked m ∷ t)) table) (Ticked m ∷ t)
remembers_passed table t m remembers =
    let now = moment_of (Ticked m ∷ t) in
    let le : moment_of t ≤ now = le-max_right (min m last_moment) (moment_of t) in
    record {
      once_heard = once_recent heard_age now table.heard (recent now table).heard refl remembers.once_heard;
      once_promised = once_recent promise_age now table.promises (recent now table).promises refl remembers.once_promised;
      heard = λ l call. heard_recent now table l call remembers.once_heard ∙ ap (still heard_age now) (remembers.heard l call)
          ∙ later (is_client t l) heard_age now le (heard_of t l call);
      promised = λ l sender. promised_recent now table l sender remembers.once_promised ∙ ap (still promise_age now) (remembers.promised l sender)
          ∙ later (is_live t l) promise_age now le (promise_of t l sender);
    }
  where
    later : (lives : Bool) (age now : ℕ) → moment_of t ≤ now → (told : Option ℕ)
        → still age now (if lives then still age (moment_of t) told else None) ≡ (if lives then still age now told else None)
    later true age now le told = still_later age (moment_of t) now le told
    later false age now le told = refl

-- a link that doesn't live is remembered nowhere, so forgetting it changes no answer
pub remembers_no_end : (table : HeardSeen) (t : Trace) (k : ℕ) → is_live t k ≡ false → Remembers table t → Remembers (without_link k table) t
remembers_no_end table t k dead remembers = record {
  once_heard = once_filtered (is_another k) table.heard (without_link k table).heard refl remembers.once_heard;
  once_promised = once_filtered (is_another k) table.promises (without_link k table).promises refl remembers.once_promised;
  heard = λ l call. heard_without_link table k l call ∙ ap (λ told. cond (not (k == l)) told None) (remembers.heard l call) ∙ nowhere_as (kept_hearing t l call) l;
  promised = λ l sender. promised_without_link table k l sender ∙ ap (λ told. cond (not (k == l)) told None) (remembers.promised l sender) ∙ nowhere (kept_promise t l sender) l;
}
  where
    nowhere_shape : (gone member : Bool) (told : Option ℕ) → (gone ≡ true → member ≡ false) → cond (not gone) (if member then told else None) None ≡ (if member then told else None)
    nowhere_shape gone member told none = grind arith

    nowhere : (told : Option ℕ) (l : ℕ) → cond (not (k == l)) (if is_live t l then told else None) None ≡ (if is_live t l then told else None)
    nowhere told l = nowhere_shape (k == l) (is_live t l) told (λ same. ap (is_live t) (sym (eqb-true k l same)) ∙ dead)

    nowhere_as : (told : Option ℕ) (l : ℕ) → cond (not (k == l)) (if is_client t l then told else None) None ≡ (if is_client t l then told else None)
    nowhere_as told l = nowhere_shape (k == l) (is_client t l) told (λ same. ap (λ b. b && is_client_link (opening_of t l)) (ap (is_live t) (sym (eqb-true k l same)) ∙ dead))

-- ---- a packet is accepted

noted_shape : (live from same : Bool) (now : ℕ) (told : Option ℕ) → (from ≡ true → live ≡ true)
    → cond (from && same) (Some now) (if live then told else None) ≡ (if live then (if from && same then Some now else told) else None)
noted_shape true true same now told lives = by same
  where
    by : (b : Bool) → cond b (Some now) told ≡ (if b then Some now else told)
    by true = refl
    by false = refl
noted_shape true false same now told lives = refl
noted_shape false true same now told lives = absurd (true≢false (sym (lives refl)))
noted_shape false false same now told lives = refl

-- promises after a packet, at a link that lives and at one that doesn't
promise_shape : (hears other filters same position : Bool) (now : ℕ) (told : Option ℕ)
    → cond (hears && ((other && filters) && same)) (Some now) (if position then cond (not same) told None else told)
    ≡ (if same then promise_after (other && true && filters && hears) position now told else told)
promise_shape true true true true position now told = refl
promise_shape true true false true position now told = refl
promise_shape true false filters true position now told = refl
promise_shape false true true true position now told = refl
promise_shape false true false true position now told = refl
promise_shape false false filters true position now told = refl
promise_shape hears other filters false position now told = unchanged hears (other && filters) position
  where
    kept : (p : Bool) → (if p then told else told) ≡ told
    kept true = refl
    kept false = refl

    unchanged : (h m p : Bool) → cond (h && (m && false)) (Some now) (if p then told else told) ≡ told
    unchanged true true p = kept p
    unchanged true false p = kept p
    unchanged false m p = kept p

-- a link whose port has no filters is promised nothing
unpromised_shape : (hears other same position heard : Bool) (now : ℕ) (told : Option ℕ)
    → cond (hears && ((other && false) && same)) (Some now) (if position then cond (not same) told None else told)
    ≡ (if same then promise_after (other && true && false && heard) position now told else told)
unpromised_shape hears other same position heard now told = grind arith

unlived_shape : (hears other same position : Bool) (now : ℕ) (none : Option ℕ)
    → cond (hears && ((other && false) && same)) (Some now) (if position then cond (not same) none None else none) ≡ (if position then cond (not same) none None else none)
unlived_shape hears other same position now none = grind arith

nothing_left : (same position : Bool) (none : Option ℕ) → none ≡ None → (if position then cond (not same) none None else none) ≡ None
nothing_left same position none is = grind arith

module _ (table : HeardSeen) (t : Trace) (remembers : Remembers table t) (packet : PacketSeen) where
  -- the clients that heard the receiver are those that the trace says
  pub hearers_are : (l : ℕ) → is_client t l ≡ true → is_among l (hearers_of (moment_of t) table (receiver_of packet)) ≡ is_to_heard t packet l
  hearers_are l client = by (is_message packet) packet.body.to
    where
      heard_there : (to : List ℕ) → is_among l (receivers table to (moment_of t)) ≡ is_some_and (is_recent heard_age (moment_of t)) (heard_of t l to)
      heard_there to =
          (links_listed heard_age (moment_of t) to table.heard remembers.once_heard).exactly l
          ∙ ap (is_some_and (is_recent heard_age (moment_of t))) (remembers.heard l to ∙ ap (λ b. if b then kept_hearing t l to else None) client)
          ∙ still_recent heard_age (moment_of t) (heard_of t l to)

      by_call : (to : List ℕ) (call : Bool) → is_among l (hearers_of (moment_of t) table (if call then Some to else None)) ≡ call && is_some_and (is_recent heard_age (moment_of t)) (heard_of t l to)
      by_call to true = heard_there to
      by_call to false = refl

      by : (message : Bool) (to : Option (List ℕ)) → is_among l (hearers_of (moment_of t) table (if message then call_in to else None)) ≡ message && is_some_and (has_heard t l) to
      by true None = refl
      by true (Some to) = by_call to (is_call to)
      by false to = refl

  -- and so are those that are owed a position
  pub owed_are : (l : ℕ) → is_live t l ≡ true → is_among l (if is_position packet then courtesies table packet.parts.source (moment_of t) else []) ≡ is_owed t packet l
  owed_are l live = by (is_position packet)
    where
      by : (position : Bool) → is_among l (if position then courtesies table packet.parts.source (moment_of t) else [])
          ≡ position && is_some_and (is_recent promise_age (moment_of t)) (promise_of t l packet.parts.source)
      by true =
          (links_listed promise_age (moment_of t) packet.parts.source table.promises remembers.once_promised).exactly l
          ∙ ap (is_some_and (is_recent promise_age (moment_of t))) (remembers.promised l packet.parts.source ∙ ap (λ b. if b then kept_promise t l packet.parts.source else None) live)
          ∙ still_recent promise_age (moment_of t) (promise_of t l packet.parts.source)
      by false = refl

  spent_at : (l : ℕ) (s : List ℕ) → promised_at (spent packet table) l s ≡ (if is_position packet then cond (not (is_text s packet.parts.source)) (promised_at table l s) None else promised_at table l s)
  spent_at l s = by (is_position packet)
    where
      by : (position : Bool) → promised_at (if position then without_promises packet.parts.source table else table) l s
          ≡ (if position then cond (not (is_text s packet.parts.source)) (promised_at table l s) None else promised_at table l s)
      by true =
          promised_without_promises table packet.parts.source s l
          ∙ ap (λ b. cond (not b) (promised_at table l s) None) (nat_list_eq_equiv.symm packet.parts.source s)
      by false = refl

  spent_heard : (spent packet table).heard ≡ table.heard
  spent_heard = by (is_position packet)
    where
      by : (position : Bool) → (if position then without_promises packet.parts.source table else table).heard ≡ table.heard
      by true = refl
      by false = refl

  spent_once : HasEachOnce (spent packet table).promises
  spent_once = by (is_position packet)
    where
      by : (position : Bool) → HasEachOnce (if position then without_promises packet.parts.source table else table).promises
      by true = once_emptied packet.parts.source table.promises (without_promises packet.parts.source table).promises refl remembers.once_promised
      by false = remembers.once_promised

-- a packet of a link that isn't a client is heard by nobody
unnoted_shape : (client from same : Bool) (now : ℕ) (told : Option ℕ) → (from ≡ true → client ≡ false)
    → (if client then told else None) ≡ (if client then (if from && same then Some now else told) else None)
unnoted_shape client from same now told none = grind arith

-- what becomes of what was heard, where the packet came from there
module _ (table : HeardSeen) (t : Trace) (heard : (link : ℕ) (call : List ℕ) → heard_at table link call ≡ (if is_client t link then kept_hearing t link call else None)) (links : List LinkSeen) (call : List ℕ) where
  abbrev NotedSo : Source → Type 0
  NotedSo from = (l : ℕ) (c : List ℕ) → heard_at (noted_from links from call (moment_of t) table) l c ≡ (if is_client t l then (if is_from l from && is_text c call then Some (moment_of t) else kept_hearing t l c) else None)

  noted_at : (k : ℕ) (b : Bool) → client_at k links ≡ b → is_client t k ≡ b → (l : ℕ) (c : List ℕ)
      → heard_at (if b then noted k call (moment_of t) table else table) l c ≡ (if is_client t l then (if l == k && is_text c call then Some (moment_of t) else kept_hearing t l c) else None)
  noted_at k true at is l c =
      heard_noted table k l call c (moment_of t)
      ∙ ap (cond (l == k && is_text c call) (Some (moment_of t))) (heard l c)
      ∙ noted_shape (is_client t l) (l == k) (is_text c call) (moment_of t) (kept_hearing t l c) (λ same. ap (is_client t) (eqb-true l k same) ∙ is)
  noted_at k false at is l c =
      heard l c ∙ unnoted_shape (is_client t l) (l == k) (is_text c call) (moment_of t) (kept_hearing t l c) (λ same. ap (is_client t) (eqb-true l k same) ∙ is)

  noted_as : (k : ℕ) → client_at k links ≡ is_client t k → NotedSo (source.Link k)
  noted_as k same l c = ap (λ b. heard_at (if b then noted k call (moment_of t) table else table) l c) same ∙ noted_at k (is_client t k) same refl l c

  noted_elsewhere : (from : Source) → noted_from links from call (moment_of t) table ≡ table → ((l : ℕ) → is_from l from ≡ false) → NotedSo from
  noted_elsewhere from none other l c =
      ap (λ entries. heard_at entries l c) none ∙ heard l c
      ∙ ap (λ told. if is_client t l then told else None) (sym (ap (λ b. if b && is_text c call then Some (moment_of t) else kept_hearing t l c) (other l)))

-- whose packet it is: that of a link that lives, or of a datagram
abbrev pub Speaks : Trace → List LinkSeen → Source → Type 0
Speaks t links (source.Link k) = (is_live t k ≡ true) × (client_at k links ≡ is_client t k)
Speaks t links from = ⊤

noted_so : (table : HeardSeen) (t : Trace) (heard : (link : ℕ) (call : List ℕ) → heard_at table link call ≡ (if is_client t link then kept_hearing t link call else None))
    (links : List LinkSeen) (call : List ℕ) (from : Source) → Speaks t links from → NotedSo table t heard links call from
noted_so table t heard links call (source.Link k) speaks = noted_as table t heard links call k speaks.1
noted_so table t heard links call from speaks = noted_elsewhere table t heard links call from refl (λ l. refl)

noted_once : (table : HeardSeen) (links : List LinkSeen) (call : List ℕ) (now : ℕ) (from : Source) → HasEachOnce table.heard → HasEachOnce (noted_from links from call now table).heard
noted_once table links call now (source.Link k) once = by (client_at k links)
  where
    by : (b : Bool) → HasEachOnce (if b then noted k call now table else table).heard
    by true = once_set k call now table.heard (noted k call now table).heard refl once
    by false = once
noted_once table links call now from once = once

noted_promises : (table : HeardSeen) (links : List LinkSeen) (call : List ℕ) (now : ℕ) (from : Source) → (noted_from links from call now table).promises ≡ table.promises
noted_promises table links call now (source.Link k) = by (client_at k links)
  where
    by : (b : Bool) → (if b then noted k call now table else table).promises ≡ table.promises
    by true = refl
    by false = refl
noted_promises table links call now from = refl

module _ (table : HeardSeen) (t : Trace) (remembers : Remembers table t) (links : List LinkSeen)
    (from : Source) (cut : Cut) (parts : Parts) (line : List ℕ) (speaks : Speaks t links from)
    (filters : (l : ℕ) → is_live t l ≡ true → filters_at l links ≡ has_filters (opening_of t l)) (nowhere : (l : ℕ) → is_live t l ≡ false → filters_at l links ≡ false) where
  abbrev packet : PacketSeen
  packet = packet_of from (moment_of t) parts line

  abbrev hearers : List ℕ
  hearers = hearers_of (moment_of t) table (receiver_of packet)

  abbrev promised_now : HeardSeen
  promised_now = promised_all links from parts.source (moment_of t) hearers (spent packet table)

  abbrev after : HeardSeen
  after = noted_from links from parts.source (moment_of t) promised_now

  same_heard : promised_now.heard ≡ table.heard
  same_heard = all_heard links from parts.source (moment_of t) hearers (spent packet table) ∙ spent_heard table t remembers packet

  heard_then : (l : ℕ) (call : List ℕ) → heard_at after l call ≡ (if is_client t l then (if is_from l from && is_text call parts.source then Some (moment_of t) else kept_hearing t l call) else None)
  heard_then = noted_so promised_now t (λ l call. ap (λ entries. heard_at (record table { heard = entries }) l call) same_heard ∙ remembers.heard l call) links parts.source from speaks

  promised_before : (l : ℕ) (s : List ℕ) → promised_at after l s ≡ promised_at promised_now l s
  promised_before l s = ap (λ entries. promised_at (record table { promises = entries }) l s) (noted_promises promised_now links parts.source (moment_of t) from)

  promised_then : (l : ℕ) (s : List ℕ) (live : Bool) → is_live t l ≡ live
      → promised_at promised_now l s
      ≡ (if live then (if is_text s parts.source then promise_after (promises t packet l) (is_position packet) (moment_of t) (kept_promise t l s) else kept_promise t l s) else None)
  promised_then l s true is =
      all_promised links from parts.source (moment_of t) hearers (spent packet table) l s
      ∙ ap (cond (is_among l hearers && (may_promise links from l && is_text s parts.source)) (Some (moment_of t)))
      (spent_at table t remembers packet l s
      ∙ ap (λ told. if is_position packet then cond (not (is_text s parts.source)) told None else told) (remembers.promised l s ∙ ap (λ b. if b then kept_promise t l s else None) is))
      ∙ ap (λ b. cond (is_among l hearers && ((not (is_from l from) && b) && is_text s parts.source)) (Some (moment_of t)) (if is_position packet then cond (not (is_text s parts.source)) (kept_promise t l s) None else kept_promise t l s))
      (filters l is)
      ∙ by_filters (has_filters (opening_of t l)) (client_with_filters (opening_of t l))
      ∙ ap (λ b. if is_text s parts.source then promise_after (not (is_from l from) && b && has_filters (opening_of t l) && is_to_heard t packet l) (is_position packet) (moment_of t) (kept_promise t l s) else kept_promise t l s) (sym is)
    where
      left : Option ℕ
      left = if is_position packet then cond (not (is_text s parts.source)) (kept_promise t l s) None else kept_promise t l s

      -- only clients have filters
      client_with_filters : (opening : Option Opening) → has_filters opening ≡ true → is_client_link opening ≡ true
      client_with_filters None has = absurd (true≢false (sym has))
      client_with_filters (Some opening) has = by_kind opening.kind refl
        where
          by_kind : (kind : LinkKind) → opening.kind ≡ kind → is_client_of opening.kind ≡ true
          by_kind (Client port) is_kind = ap is_client_of is_kind
          by_kind (Uplink uplink) is_kind = absurd (true≢false (sym (ap is_filter_of (sym is_kind) ∙ has)))

      by_filters : (b : Bool) → (b ≡ true → is_client_link (opening_of t l) ≡ true)
          → cond (is_among l hearers && ((not (is_from l from) && b) && is_text s parts.source)) (Some (moment_of t)) left
          ≡ (if is_text s parts.source then promise_after (not (is_from l from) && true && b && is_to_heard t packet l) (is_position packet) (moment_of t) (kept_promise t l s) else kept_promise t l s)
      by_filters true client =
          let is_one : is_client t l ≡ true = ap (λ b. b && is_client_link (opening_of t l)) is ∙ client refl in
          ap (λ b. cond (b && ((not (is_from l from) && true) && is_text s parts.source)) (Some (moment_of t)) left) (hearers_are table t remembers packet l is_one)
          ∙ promise_shape (is_to_heard t packet l) (not (is_from l from)) true (is_text s parts.source) (is_position packet) (moment_of t) (kept_promise t l s)
      by_filters false client =
          unpromised_shape (is_among l hearers) (not (is_from l from)) (is_text s parts.source) (is_position packet) (is_to_heard t packet l) (moment_of t) (kept_promise t l s)
  promised_then l s false is =
      all_promised links from parts.source (moment_of t) hearers (spent packet table) l s
      ∙ ap (cond (is_among l hearers && (may_promise links from l && is_text s parts.source)) (Some (moment_of t)))
      (spent_at table t remembers packet l s
      ∙ ap (λ told. if is_position packet then cond (not (is_text s parts.source)) told None else told) (remembers.promised l s ∙ ap (λ b. if b then kept_promise t l s else None) is))
      ∙ ap (λ b. cond (is_among l hearers && ((not (is_from l from) && b) && is_text s parts.source)) (Some (moment_of t)) (if is_position packet then cond (not (is_text s parts.source)) None None else None))
      (nowhere l is)
      ∙ unlived_shape (is_among l hearers) (not (is_from l from)) (is_text s parts.source) (is_position packet) (moment_of t) None
      ∙ nothing_left (is_text s parts.source) (is_position packet) None refl

  pub remembers_accepted : Remembers after (Said from cut (Accepted parts line) ∷ t)
  remembers_accepted = record {
    once_heard = noted_once promised_now links parts.source (moment_of t) from (subst (λ entries. HasEachOnce entries) (sym same_heard) remembers.once_heard);
    once_promised = subst (λ entries. HasEachOnce entries) (sym (noted_promises promised_now links parts.source (moment_of t) from))
        (all_once links from parts.source (moment_of t) hearers (spent packet table) (spent_once table t remembers packet));
    heard = λ l call. heard_then l call
        ∙ ap (λ told. if is_client t l then told else None) (sym (still_set (is_from l from && is_text call parts.source) heard_age (moment_of t) (heard_of t l call)));
    promised = λ l s. promised_before l s ∙ promised_then l s (is_live t l) refl
        ∙ ap (λ told. if is_live t l then told else None)
        (sym (still_after (is_text s parts.source) (promises t packet l) (is_position packet) promise_age (moment_of t) (promise_of t l s)));
  }
