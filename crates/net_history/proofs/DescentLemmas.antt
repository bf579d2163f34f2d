-- Every accepted packet of a network has a good descent, after any steps.
use Rattle.std.proofs.Common.{◌≡◌, ℕ, ◌+◌, ◌-◌, Bool, true, false, is_some, List, [], ◌∷◌, ◌++◌, length, map, refl, sym, ap, ◌∙◌, subst, Option, Some, None, ⊎_elim, append-nil, append_assoc, if◌then◌else◌}
use Rattle.std.specs.Prelude.{slice_get}
use Rattle.std.specs.List.{flat_map}
use Rattle.std.specs.Option.{option_and_then}
use Rattle.std.proofs.lemmas.Bool.{false≢true}
use Rattle.aprs_base.specs.PacketSeen.{PacketSeen}
use Rattle.aprs_base.specs.declared.events.Event.{Event}
use Rattle.aprs_base.specs.declared.events.Event.TheVariants as event
use Rattle.aprs_base.specs.declared.events.Happening.TheVariants as did
use Rattle.aprs_base.specs.declared.packets.ListenSpec.{ListenSpec}
use Rattle.aprs_base.specs.declared.packets.PortKind.{PortKind}
use Rattle.aprs_base.specs.declared.packets.PortKind.TheVariants as kind
use Rattle.aprs_base.specs.declared.texts.Addr.{Addr}
use Rattle.tnc2_line.specs.Packet.{IsPacket}
use Rattle.aprs_base.specs.PartsSeen.{PartsSeen}
use Rattle.aprs_history.specs.Setting.{Setting, kind_at, peer_from}
use Rattle.aprs_history.specs.Scenes.{accepted_of}
use Rattle.aprs_history.specs.History.{History, trace_of}
use Rattle.aprs_history.specs.Rounds.{listens_after}
use Rattle.aprs_history.specs.Arriving.{bytes_for, came_to}
use Rattle.net_history.specs.declared.events.Pair.{Pair}
use Rattle.net_history.specs.declared.events.NetEvent.{NetEvent}
use Rattle.net_history.specs.declared.events.NetEvent.TheVariants as net
use Rattle.net_history.specs.Network.{End, ForClient, ForPair, JoinedSeen, Layout, NetSeen, ServerSeen, address_of, changed_at, new_server, number_of, trace_at, with_arrival}
use Rattle.net_history.specs.Serving.{with_round}
use Rattle.net_history.specs.Steps.{address_in, datagram_at, ends_at, high_end, is_there, joined_at, low_end, may_cast, network_of, peering, with_carry, with_cast, with_client, with_cut, with_datagram, with_downlink, with_join, with_mail, with_step, with_uplink}
use Rattle.net_history.specs.Premises.{IsLaidOut}
use Rattle.net_history.specs.Trails.{NeverReturns, Trail}
use Rattle.net_history.specs.Descents.{Known, descent_at, known_after, known_of, nothing_known, trail_of_datagram, cast_put, with_descents, mail_put, piece_put}
use Rattle.net_history.specs.DescentLaws.{IsDescent, NoneComesBack, PacketsDescend, descent_of}
use Rattle.net_history.proofs.PlaceLemmas.{map_at, some_same}
use Rattle.net_history.proofs.RunLemmas.{servers_run}
use Rattle.net_history.proofs.BetweenLemmas.{Between, at_changed, at_mapped, between_both, between_one, between_same, changed_here, none_some, same_elsewhere, same_or_other}
use Rattle.net_history.proofs.EventLemmas.{Had, cast_line, networks_had, sends_lines}
use Rattle.net_history.proofs.GrowthLemmas.{Grows}
use Rattle.net_history.proofs.MailLemmas.{carried, carried_by, carried_in}
use Rattle.net_history.proofs.PairLineLemmas.{IsPaired}
use Rattle.net_history.proofs.PassingLemmas.{IsAfter, IsGood, IsMail, IsOf, descents_good, good_of}
use Rattle.net_history.proofs.StreamLemmas.{networks_kept, round_grows}
use Rattle.net_history.proofs.TieLemmas.{made_at, networks_tied, round_same}
use Rattle.net_history.proofs.ToldLemmas.{calm_arrival, round_others, round_told, told, told_more}
use Rattle.net_history.proofs.ZipLemmas.{Zip, zip_at, zip_both}

-- what is known of a server is good
record IsKnown (server : ℕ) (s : ServerSeen) (its : Known) : Type 0 where
  descents : Zip (IsOf server s.setting) (accepted_of (trace_at s)) its.descents
  mail : Zip IsMail (told [] s) its.mail

abbrev AllKnown : List ServerSeen → List Known → Type 0
AllKnown servers known = (server : ℕ) (s : ServerSeen) → slice_get servers server ≡ Some s → (its : Known) × (slice_get known server ≡ Some its) × IsKnown server s its

-- ---- what most steps keep

record SameCore (s u : ServerSeen) : Type 0 where
  setting : u.setting ≡ s.setting
  history : u.history ≡ s.history
  mail : told [] u ≡ told [] s

core_same : (s : ServerSeen) → SameCore s s
core_same s = record { setting = refl; history = refl; mail = refl }

known_same : (server : ℕ) (s u : ServerSeen) (its : Known) → SameCore s u → IsKnown server s its → IsKnown server u its
known_same server s u its same known = record {
  descents = subst (λ h. Zip (IsOf server u.setting) (accepted_of (trace_of u.setting h)) its.descents) (sym same.history)
      (subst (λ (setting : Setting). Zip (IsOf server setting) (accepted_of (trace_of setting s.history)) its.descents) (sym same.setting) known.descents);
  mail = subst (λ bytes. Zip IsMail bytes its.mail) (sym same.mail) known.mail;
}

abbrev AllSame : List ServerSeen → List ServerSeen → Type 0
AllSame before after = Between (λ j. SameCore) before after

all_known_same : (before after : List ServerSeen) (known : List Known) → AllSame before after → AllKnown before known → AllKnown after known
all_known_same before after known same all server u at =
    let was = same.back server u at in
    let its = all server was.0 was.1 in
    (its.0, its.1, known_same server was.0 u its.0 was.2 its.2)

all_same_both : (a b c : List ServerSeen) → AllSame a b → AllSame b c → AllSame a c
all_same_both a b c = between_both (λ j. SameCore) (λ j. SameCore) (λ j. SameCore) a b c
    (λ j s u v first later. record { setting = later.setting ∙ first.setting; history = later.history ∙ first.history; mail = later.mail ∙ first.mail })

one_same : (f : ServerSeen → ServerSeen) (server : ℕ) (servers : List ServerSeen) → ((s : ServerSeen) → SameCore s (f s)) → AllSame servers (changed_at f server servers)
one_same f server servers same = between_one (λ j. SameCore) f server servers (λ s e. same s) (λ j other s. core_same s)

calm_same : (e : Event) → ((s : ServerSeen) → carried s.setting e ≡ []) → (s : ServerSeen) → SameCore s (with_arrival e s)
calm_same e none s = record { setting = refl; history = refl; mail = calm_arrival e s (none s) [] }

client_same : (listener : ℕ) (from : Addr) (call : List ℕ) (s : ServerSeen) → SameCore s (with_client listener from call s)
client_same listener from call s = record { setting = refl; history = refl; mail = calm_arrival _ (with_arrival _ s) refl [] ∙ calm_arrival _ s refl [] }

uplink_same : (uplink : ℕ) (at : Addr) (other : End) (s : ServerSeen) → SameCore s (with_uplink uplink at other s)
uplink_same uplink at other s = record { setting = refl; history = refl; mail = calm_arrival _ s refl [] }

downlink_same : (listener : ℕ) (from : Addr) (other : End) (s : ServerSeen) → SameCore s (with_downlink listener from other s)
downlink_same listener from other s = record { setting = refl; history = refl; mail = calm_arrival _ s refl [] }

join_same : (number : ℕ) (pair : Option Pair) (n : NetSeen) → AllSame n.servers (with_join number pair n).servers
join_same number None n = between_same (λ j. SameCore) n.servers (λ j. core_same)
join_same number (Some pair) n =
    let one = changed_at (with_uplink pair.uplink (address_of pair.high) (high_end pair n)) pair.low n.servers in
    all_same_both n.servers one (with_join number (Some pair) n).servers
    (one_same (with_uplink pair.uplink (address_of pair.high) (high_end pair n)) pair.low n.servers (uplink_same pair.uplink (address_of pair.high) (high_end pair n)))
    (one_same (with_downlink pair.listener (address_of pair.low) (low_end pair n)) pair.high one (downlink_same pair.listener (address_of pair.low) (low_end pair n)))

cut_same : (number : ℕ) (joined : Option JoinedSeen) (n : NetSeen) → AllSame n.servers (with_cut number joined n).servers
cut_same number None n = between_same (λ j. SameCore) n.servers (λ j. core_same)
cut_same number (Some joined) n =
    let one = (ends_at joined.low n).servers in
    all_same_both n.servers one (with_cut number (Some joined) n).servers
    (one_same (with_arrival (event.Ended (number_of joined.low))) joined.low.server n.servers (calm_same (event.Ended (number_of joined.low)) (λ s. refl)))
    (one_same (with_arrival (event.Ended (number_of joined.high))) joined.high.server one (calm_same (event.Ended (number_of joined.high)) (λ s. refl)))

carry_same : (up : Bool) (k : ℕ) (joined : Option JoinedSeen) (n : NetSeen) → AllSame n.servers (with_carry up k joined n).servers
carry_same up k None n = between_same (λ j. SameCore) n.servers (λ j. core_same)
carry_same up k (Some joined) n = one_same (with_arrival _) _ n.servers (calm_same _ (λ s. refl))

-- ---- a datagram

piece_mail : (served : Option PortKind) (peer : Option (ℕ × List ℕ)) (bytes : List ℕ) (trail : Option Trail) (its : Known) (before : List (List ℕ)) → Zip IsMail before its.mail → IsMail bytes trail
    → Zip IsMail (before ++ carried_by served peer bytes) (piece_put served peer trail its).mail
piece_mail (Some kind.Core) (Some peer) bytes trail its before mail is = zip_both IsMail before (bytes ∷ []) its.mail (trail ∷ []) mail (is, tt)
piece_mail (Some kind.Core) None bytes trail its before mail is = subst (λ b. Zip IsMail b its.mail) (sym (append-nil before)) mail
piece_mail (Some kind.Full) peer bytes trail its before mail is = subst (λ b. Zip IsMail b its.mail) (sym (append-nil before)) mail
piece_mail (Some kind.Igate) peer bytes trail its before mail is = subst (λ b. Zip IsMail b its.mail) (sym (append-nil before)) mail
piece_mail (Some kind.Only) peer bytes trail its before mail is = subst (λ b. Zip IsMail b its.mail) (sym (append-nil before)) mail
piece_mail (Some kind.Dupe) peer bytes trail its before mail is = subst (λ b. Zip IsMail b its.mail) (sym (append-nil before)) mail
piece_mail (Some kind.Submit) peer bytes trail its before mail is = subst (λ b. Zip IsMail b its.mail) (sym (append-nil before)) mail
piece_mail None peer bytes trail its before mail is = subst (λ b. Zip IsMail b its.mail) (sym (append-nil before)) mail

piece_descents : (served : Option PortKind) (peer : Option (ℕ × List ℕ)) (trail : Option Trail) (its : Known) → (piece_put served peer trail its).descents ≡ its.descents
piece_descents (Some kind.Core) (Some peer) trail its = refl
piece_descents (Some kind.Core) None trail its = refl
piece_descents (Some kind.Full) peer trail its = refl
piece_descents (Some kind.Igate) peer trail its = refl
piece_descents (Some kind.Only) peer trail its = refl
piece_descents (Some kind.Dupe) peer trail its = refl
piece_descents (Some kind.Submit) peer trail its = refl
piece_descents None peer trail its = refl

-- it is put at a server
piece_known : (server peer : ℕ) (bytes : List ℕ) (trail : Option Trail) (s : ServerSeen) (its : Known) → IsMail bytes trail → IsKnown server s its → IsKnown server (with_datagram peer bytes s) (mail_put peer (Some s) trail its)
piece_known server peer bytes trail s its is known =
    let served = kind_at s.setting (length s.setting.listens - 1) in
    let from = peer_from 0 s.setting.peers (address_in (slice_get s.setting.peers peer)) in
    record {
      descents = subst (λ d. Zip (IsOf server s.setting) (accepted_of (trace_at s)) d) (sym (piece_descents served from trail its)) known.descents;
      mail = subst (λ b. Zip IsMail b (piece_put served from trail its).mail) (sym (told_more [] (event.Datagram (length s.setting.listens - 1) (address_in (slice_get s.setting.peers peer)) bytes) s))
          (piece_mail served from bytes trail its (told [] s) known.mail is);
    }

module _ (layout : Layout) (laid : IsLaidOut layout) (steps : List NetEvent) (known : List Known) (all : AllKnown (network_of layout steps).servers known) where
  abbrev n : NetSeen
  n = network_of layout steps

  -- what a server casts has a good trail
  cast_good : (from peer k : ℕ) (s : ServerSeen) (bytes : List ℕ) → slice_get n.servers from ≡ Some s → datagram_at peer k (Some s) ≡ Some bytes → IsMail bytes (trail_of_datagram k (Some s) (slice_get known from))
  cast_good from peer k s bytes at sent =
      let its = all from s at in
      let cast = cast_line s (sends_lines layout laid steps from s at (networks_had layout laid steps from s at)) peer k bytes sent in
      let packet = cast.its.0 in
      let found = zip_at (IsOf from s.setting) (accepted_of (trace_at s)) its.0.descents cast.place packet its.2.descents cast.its.1 in
      let trail_is : trail_of_datagram k (Some s) (slice_get known from) ≡ found.0 =
      ap (trail_of_datagram k (Some s)) its.1 ∙ ap (descent_at (Some its.0)) cast.there ∙ ap (option_and_then (λ trail. trail)) found.1 in (
        cast.line,
        cast.is,
        cast.its.3,
        subst (IsGood cast.line) (sym trail_is) (subst (λ line. IsGood line found.0) cast.its.2 (good_of from s.setting packet found.0 found.2)),
      )

  mail_known : (from to k : ℕ) (numbers : ℕ × ℕ) (o : Option ServerSeen) (bytes : Option (List ℕ)) → slice_get n.servers from ≡ o → datagram_at numbers.0 k o ≡ bytes → is_some bytes ≡ true
      → AllKnown (with_mail to numbers.1 bytes n).servers (changed_at (mail_put numbers.1 (slice_get n.servers to) (trail_of_datagram k o (slice_get known from))) to known)
  mail_known from to k numbers o None at sent there = absurd (false≢true there)
  mail_known from to k numbers None (Some bytes) at sent there = absurd (none_some bytes sent)
  mail_known from to k numbers (Some s) (Some bytes) at sent there = put_known (cast_good from numbers.0 k s bytes at sent)
    where
      put_known : IsMail bytes (trail_of_datagram k (Some s) (slice_get known from))
          → AllKnown (with_mail to numbers.1 (Some bytes) n).servers (changed_at (mail_put numbers.1 (slice_get n.servers to) (trail_of_datagram k (Some s) (slice_get known from))) to known)
      put_known good server u here =
          let was = at_changed (with_datagram numbers.1 bytes) to server n.servers u here in
          let its = all server was.0 was.1 in
          let trail = trail_of_datagram k (Some s) (slice_get known from) in
          ⊎_elim
          (λ own.
          let place : slice_get n.servers to ≡ Some was.0 = ap (slice_get n.servers) own.0 ∙ was.1 in (
            mail_put numbers.1 (Some was.0) trail its.0,
            subst (λ i. slice_get (changed_at (mail_put numbers.1 (slice_get n.servers to) trail) to known) i ≡ Some (mail_put numbers.1 (Some was.0) trail its.0)) own.0
                (ap (λ found. slice_get (changed_at (mail_put numbers.1 found trail) to known) to) place ∙ changed_here (mail_put numbers.1 (Some was.0) trail) to known its.0 (ap (slice_get known) own.0 ∙ its.1)),
            subst (λ x. IsKnown server x (mail_put numbers.1 (Some was.0) trail its.0)) (sym own.1) (piece_known server numbers.1 bytes trail was.0 its.0 good its.2),
          ))
          (λ other. (its.0, same_elsewhere (mail_put numbers.1 (slice_get n.servers to) trail) to server known other.0 ∙ its.1, subst (λ x. IsKnown server x its.0) (sym other.1) its.2))
          was.2

  cast_known : (from to k : ℕ) (numbers : Option (ℕ × ℕ)) → may_cast n from k numbers ≡ true → AllKnown (with_cast from to k numbers n).servers (cast_put n from to k numbers known)
  cast_known from to k None there = absurd (false≢true there)
  cast_known from to k (Some numbers) there = mail_known from to k numbers (slice_get n.servers from) (datagram_at numbers.0 k (slice_get n.servers from)) refl refl there

  -- ---- a round

  module _ (server moment : ℕ) (there : is_there layout n (net.Round server moment) ≡ true) where
    abbrev after : NetSeen
    after = with_round server moment n

    round_is : network_of layout (net.Round server moment ∷ steps) ≡ after
    unfolding network_of
    round_is = ap (λ b. if b then after else n) there

    -- a server before the round
    record Before (place : ℕ) (u : ServerSeen) : Type 0 where
      s : ServerSeen
      at : slice_get n.servers place ≡ Some s
      grows : Grows s u
      made : u.made ≡ s.made
      setting : u.setting ≡ s.setting
      mail : told [] u ≡ told [] s

    -- what stays of each server
    stays : {X : Type 0} (f : ServerSeen → X) (place : ℕ) (s u : ServerSeen) → map f after.servers ≡ map f n.servers → slice_get n.servers place ≡ Some s → slice_get after.servers place ≡ Some u → f u ≡ f s
    stays f place s u same at here = some_same (f u) (f s) (sym (map_at f place after.servers u here) ∙ ap (λ xs. slice_get xs place) same ∙ map_at f place n.servers s at)

    before : (place : ℕ) (u : ServerSeen) → slice_get after.servers place ≡ Some u → Before place u
    before place u here =
        let was = (round_grows server moment n).back place u here in
        record {
          s = was.0;
          at = was.1;
          grows = was.2;
          made = stays made_at place was.0 u (round_same server moment n) was.1 here;
          setting = some_same u.setting was.0.setting (sym (servers_run layout (net.Round server moment ∷ steps) place u (ap (λ (m : NetSeen). slice_get m.servers place) round_is ∙ here)).1 ∙ (servers_run layout steps place was.0 was.1).1);
          mail = stays (told []) place was.0 u (round_told server moment n) was.1 here;
        }

    is_after : (u : ServerSeen) → slice_get after.servers server ≡ Some u → IsAfter n known server u
    is_after u here =
        let b = before server u here in
        let its = all server b.s b.at in
        let later : slice_get (network_of layout (net.Round server moment ∷ steps)).servers server ≡ Some u = ap (λ (m : NetSeen). slice_get m.servers server) round_is ∙ here in
        record {
          had = networks_had layout laid (net.Round server moment ∷ steps) server u later;
          sound = laid.sound server u.setting (servers_run layout (net.Round server moment ∷ steps) server u later).1;
          unmade = (networks_kept layout (net.Round server moment ∷ steps)).unmade server u later;
          others = λ place end made. other_end place end (networks_had layout laid (net.Round server moment ∷ steps) server u later) b made;
          mine = its.0;
          here = its.1;
          waiting = flat_map (carried u.setting) ([] ++ u.arrivals);
          mail = subst (λ bytes. Zip IsMail bytes its.0.mail) (sym b.mail) its.2.mail;
        }
      where
        other_end : (place : ℕ) (end : End) → Had u.setting u.made u.history → (b : Before server u) → slice_get u.made place ≡ Some (ForPair end)
            → (other : ServerSeen) × (its : Known) × (slice_get n.servers end.server ≡ Some other) × (slice_get known end.server ≡ Some its) × IsPaired u other place end
            × Zip (IsOf end.server other.setting) (accepted_of (trace_at other)) its.descents
        other_end place end had b made =
            let mine : slice_get b.s.made place ≡ Some (ForPair end) = ap (λ m. slice_get m place) (sym b.made) ∙ made in
            let tie = networks_tied layout steps server place b.s.made end (map_at made_at server n.servers b.s b.at) mine in
            let o = at_mapped made_at n.servers end.server tie.0 tie.1 in
            let other = o.0 in
            let its = all end.server other o.1 in
            let runs = servers_run layout steps end.server other o.1 in
            let stream = (networks_kept layout steps).streams server place b.s other end b.at mine o.1 in (
              other,
              its.0,
              o.1,
              its.1,
              record {
                had = had;
                other_had = networks_had layout laid steps end.server other o.1;
                run = runs.0.run;
                sound = laid.sound end.server other.setting runs.1;
                code = laid.codes end.server other.setting runs.1;
                back = λ client. pair_no_client (record { server = server; place = place }) (sym tie.2 ∙ ap (λ m. slice_get m end.place) (sym o.2) ∙ client);
                rest = flat_map (bytes_for (place + 1)) u.arrivals ++ stream.0;
                stream = stream.1 ∙ ap (λ bytes. bytes ++ stream.0) (sym (b.grows.same place end mine)) ∙ append_assoc (came_to u.history (place + 1)) (flat_map (bytes_for (place + 1)) u.arrivals) stream.0;
                packets = λ packet was.
                    let found = zip_at (IsOf end.server other.setting) (accepted_of (trace_at other)) its.0.descents was.0 packet its.2.descents was.1 in
                    packet_of_good packet found.0 (good_of end.server other.setting packet found.0 found.2);
              },
              its.2.descents,
            )
          where
            pair_no_client : (e : End) → Some (ForPair e) ≡ Some ForClient → ⊥
            pair_no_client e is = cc

            packet_of_good : (packet : PacketSeen) (trail : Option Trail) → IsGood packet.line trail → (parts : PartsSeen) × IsPacket packet.line parts
            packet_of_good packet None good = absurd good
            packet_of_good packet (Some trail) good = (good.0.parts, good.0.packet)

    round_known : AllKnown after.servers (changed_at (with_descents n known server (slice_get after.servers server)) server known)
    round_known place u here = ⊎_elim
        (λ own.
        let mine : slice_get after.servers server ≡ Some u = ap (slice_get after.servers) own ∙ here in
        let b = before server u mine in
        let its = all server b.s b.at in
        let now = with_descents n known server (Some u) its.0 in (
          now,
          subst (λ i. slice_get (changed_at (with_descents n known server (slice_get after.servers server)) server known) i ≡ Some now) own
              (ap (λ found. slice_get (changed_at (with_descents n known server found) server known) server) mine ∙ changed_here (with_descents n known server (Some u)) server known its.0 its.1),
          subst (λ i. IsKnown i u now) own
              (record { descents = descents_good n known server u (is_after u mine); mail = subst (λ bytes. Zip IsMail bytes its.0.mail) (sym b.mail) its.2.mail }),
        ))
        (λ other.
        let b = before place u here in
        let its = all place b.s b.at in
        let same = (round_others server moment n).back place u here in
        let was : same.0 ≡ b.s = some_same same.0 b.s (sym same.1 ∙ b.at) in (
          its.0,
          same_elsewhere (with_descents n known server (slice_get after.servers server)) server place known other ∙ its.1,
          known_same place b.s u its.0 (record { setting = b.setting; history = same.2 other ∙ ap (λ (x : ServerSeen). x.history) was; mail = b.mail }) its.2,
        ))
        (same_or_other server place)

  -- ---- all steps

  step_known : (e : NetEvent) → is_there layout n e ≡ true → AllKnown (with_step layout e n).servers (known_after layout e n known)
  step_known (net.Open server listener call) there = all_known_same n.servers _ known (one_same (with_client listener (address_of server) call) server n.servers (client_same listener (address_of server) call)) all
  step_known (net.Say server link line) there = all_known_same n.servers _ known (one_same (with_arrival _) server n.servers (calm_same _ (λ s. refl))) all
  step_known (net.Round server moment) there = round_known server moment there
  step_known (net.Join pair) there = all_known_same n.servers _ known (join_same pair _ n) all
  step_known (net.Cut pair) there = all_known_same n.servers _ known (cut_same pair (joined_at pair n) n) all
  step_known (net.Carry pair up k) there = all_known_same n.servers _ known (carry_same up k (joined_at pair n) n) all
  step_known (net.Cast from to k) there = cast_known from to k (peering from to layout.peers) there

-- ---- at first nothing was accepted, and nothing came

empty : (s : Setting) → trace_of s [] ≡ []
unfolding trace_of
empty s = refl

no_trace : (s : Setting) (number : ℕ) (specs : List ListenSpec) (h : History) → trace_of s h ≡ [] → trace_of s (listens_after number specs h) ≡ []
unfolding trace_of
no_trace s number [] h none = none
no_trace s number (spec ∷ specs) h none = no_trace s (number + 1) specs (did.Listen number ∷ h) none

no_mail : (s : Setting) (number : ℕ) (specs : List ListenSpec) (h : History) → carried_in s h ≡ [] → carried_in s (listens_after number specs h) ≡ []
no_mail s number [] h none = none
no_mail s number (spec ∷ specs) h none = no_mail s (number + 1) specs (did.Listen number ∷ h) none

new_known : (server : ℕ) (s : Setting) → IsKnown server (new_server s) (nothing_known (new_server s))
new_known server s = record {
  descents = subst (λ t. Zip (IsOf server s) (accepted_of t) []) (sym (no_trace s 0 s.listens [] (empty s))) tt;
  mail = subst (λ bytes. Zip IsMail (bytes ++ []) []) (sym (no_mail s 0 s.listens [] refl)) tt;
}

first_known : (layout : Layout) → AllKnown (network_of layout []).servers (known_of layout [])
unfolding network_of known_of
first_known layout server s at =
    let setting = at_mapped new_server layout.servers server s at in
    (nothing_known s, map_at nothing_known server (map new_server layout.servers) s at, subst (λ x. IsKnown server x (nothing_known x)) setting.2 (new_known server setting.0))

all_known : (layout : Layout) → IsLaidOut layout → (steps : List NetEvent) → AllKnown (network_of layout steps).servers (known_of layout steps)
unfolding network_of known_of
all_known layout laid [] = first_known layout
all_known layout laid (e ∷ steps) =
    let n = network_of layout steps in
    chosen (is_there layout n e) (with_step layout e n) n (known_after layout e n (known_of layout steps)) (known_of layout steps)
    (λ there. step_known layout laid steps (known_of layout steps) (all_known layout laid steps) e there) (all_known layout laid steps)
  where
    chosen : (b : Bool) (later before : NetSeen) (known' known : List Known) → (b ≡ true → AllKnown later.servers known') → AllKnown before.servers known → AllKnown (if b then later else before).servers (if b then known' else known)
    chosen true later before known' known now then' = now refl
    chosen false later before known' known now then' = then'

-- ---- the laws

record Descends (layout : Layout) (steps : List NetEvent) (server place : ℕ) (s : ServerSeen) (packet : PacketSeen) : Type 0 where
  trail : Trail
  is : descent_of layout steps server place ≡ Some trail
  descent : IsDescent server s.setting packet trail
  returns : NeverReturns trail

descends : (layout : Layout) (steps : List NetEvent) (server place : ℕ) (s : ServerSeen) (packet : PacketSeen) → IsLaidOut layout → slice_get (network_of layout steps).servers server ≡ Some s
    → slice_get (accepted_of (trace_at s)) place ≡ Some packet → Descends layout steps server place s packet
descends layout steps server place s packet laid at there =
    let its = all_known layout laid steps server s at in
    let found = zip_at (IsOf server s.setting) (accepted_of (trace_at s)) its.0.descents place packet its.2.descents there in
    of found.0 (ap (λ known. descent_at known (Some place)) its.1 ∙ ap (option_and_then (λ trail. trail)) found.1) found.2
  where
    of : (trail : Option Trail) → descent_of layout steps server place ≡ trail → IsOf server s.setting packet trail → Descends layout steps server place s packet
    of None is good = absurd good
    of (Some trail) is good = record { trail = trail; is = is; descent = record { last = good.0; sound = good.1 }; returns = good.2 }

pub packets_descend : PacketsDescend
packets_descend layout steps server place s packet laid at there = let d = descends layout steps server place s packet laid at there in (d.trail, d.is, d.descent)

pub none_comes_back : NoneComesBack
none_comes_back layout steps server place s packet trail laid at there is =
    let d = descends layout steps server place s packet laid at there in
    subst NeverReturns (some_same d.trail trail (sym d.is ∙ is)) d.returns
