-- The datagrams of peers at each server, those that came and those that wait: a round moves them, and only a cast adds one. A round changes the history
-- of its server alone.
use Rattle.std.proofs.Common.{◌≡◌, ◌≢◌, ℕ, zero, suc, List, [], ◌∷◌, ◌++◌, map, refl, sym, ap, ◌∙◌, Option, Some, None, append-nil, append_assoc}
use Rattle.std.specs.Prelude.{slice_get}
use Rattle.std.specs.List.{flat_map}
use Rattle.std.proofs.lemmas.Grind.{flat_map-append}
use Rattle.aprs_base.specs.declared.events.Event.{Event}
use Rattle.aprs_base.specs.declared.events.Event.TheVariants as event
use Rattle.aprs_base.specs.declared.events.Happening.TheVariants as did
use Rattle.aprs_history.specs.Acts.{Act, Listens, Dials, Casts, Offers, SendsLine, Closes}
use Rattle.net_history.specs.Network.{End, NetSeen, ServerSeen, at_server, changed_at, end_beyond, number_of, parted_at, with_arrival}
use Rattle.net_history.specs.Serving.{arrivals_at, due_at, happening_of, told_of_end, with_act, with_acts, with_all, with_dial, with_effect, with_event, with_happening, with_round, without_arrivals}
use Rattle.net_history.proofs.PlaceLemmas.{map_changed}
use Rattle.net_history.proofs.BetweenLemmas.{Between, between_both, between_one, between_same}
use Rattle.net_history.proofs.MailLemmas.{carried, carried_in}

-- those that came, and those that come with these events and with what waits
abbrev pub told : List Event → ServerSeen → List (List ℕ)
told rest s = carried_in s.setting s.history ++ flat_map (carried s.setting) (rest ++ s.arrivals)

abbrev pub all_told : ℕ → List Event → List ServerSeen → List (List (List ℕ))
all_told server rest [] = []
all_told zero rest (s ∷ servers) = told rest s ∷ map (told []) servers
all_told (suc server) rest (s ∷ servers) = told [] s ∷ all_told server rest servers

pub told_more : (rest : List Event) (e : Event) (s : ServerSeen) → told rest (with_arrival e s) ≡ told rest s ++ carried s.setting e
told_more rest e s =
    ap (λ events. carried_in s.setting s.history ++ flat_map (carried s.setting) events) (sym (append_assoc rest s.arrivals (e ∷ [])))
    ∙ ap (λ bytes. carried_in s.setting s.history ++ bytes) (flat_map-append (carried s.setting) (rest ++ s.arrivals) (e ∷ []) ∙ ap (λ bytes. flat_map (carried s.setting) (rest ++ s.arrivals) ++ bytes) (append-nil (carried s.setting e)))
    ∙ sym (append_assoc (carried_in s.setting s.history) (flat_map (carried s.setting) (rest ++ s.arrivals)) (carried s.setting e))

-- what comes from no peer
pub calm_arrival : (e : Event) (s : ServerSeen) → carried s.setting e ≡ [] → (rest : List Event) → told rest (with_arrival e s) ≡ told rest s
calm_arrival e s none rest = told_more rest e s ∙ ap (λ bytes. told rest s ++ bytes) none ∙ append-nil (told rest s)

told_acted : (act : Act) (s : ServerSeen) (rest : List Event) → told rest (with_happening (happening_of act) s) ≡ told rest s
told_acted (Listens number) s rest = refl
told_acted (Dials uplink) s rest = refl
told_acted (Casts peer bytes) s rest = refl
told_acted (Offers link bytes) s rest = refl
told_acted (SendsLine link line) s rest = refl
told_acted (Closes link) s rest = refl

told_came : (e : Event) (rest : List Event) (s : ServerSeen) → told rest (with_happening (did.Event e) s) ≡ told (e ∷ rest) s
told_came e rest s = append_assoc (carried_in s.setting s.history) (carried s.setting e) (flat_map (carried s.setting) (rest ++ s.arrivals))

-- ---- lists of servers

calm_change : (f : ServerSeen → ServerSeen) → ((s : ServerSeen) (rest : List Event) → told rest (f s) ≡ told rest s) → (server at : ℕ) (rest : List Event) (servers : List ServerSeen)
    → all_told server rest (changed_at f at servers) ≡ all_told server rest servers
calm_change f calm server at rest [] = refl
calm_change f calm zero zero rest (s ∷ servers) = ap (λ x. x ∷ map (told []) servers) (calm s rest)
calm_change f calm zero (suc at) rest (s ∷ servers) = ap (λ xs. told rest s ∷ xs) (map_changed (told []) f (λ x. calm x []) at servers)
calm_change f calm (suc server) zero rest (s ∷ servers) = ap (λ x. x ∷ all_told server rest servers) (calm s [])
calm_change f calm (suc server) (suc at) rest (s ∷ servers) = ap (λ xs. told [] s ∷ xs) (calm_change f calm server at rest servers)

came_change : (e : Event) (server : ℕ) (rest : List Event) (servers : List ServerSeen) → all_told server rest (changed_at (with_happening (did.Event e)) server servers) ≡ all_told server (e ∷ rest) servers
came_change e server rest [] = refl
came_change e zero rest (s ∷ servers) = ap (λ x. x ∷ map (told []) servers) (told_came e rest s)
came_change e (suc server) rest (s ∷ servers) = ap (λ xs. told [] s ∷ xs) (came_change e server rest servers)

none_left : (server : ℕ) (servers : List ServerSeen) → all_told server [] servers ≡ map (told []) servers
none_left server [] = refl
none_left zero (s ∷ servers) = refl
none_left (suc server) (s ∷ servers) = ap (λ xs. told [] s ∷ xs) (none_left server servers)

begun_told : (moment : ℕ) (s : ServerSeen) → told (s.arrivals ++ event.Tick moment ∷ []) (without_arrivals s) ≡ told [] s
begun_told moment s =
    ap (λ events. carried_in s.setting s.history ++ flat_map (carried s.setting) events) (append-nil (s.arrivals ++ event.Tick moment ∷ []))
    ∙ ap (λ bytes. carried_in s.setting s.history ++ bytes) (flat_map-append (carried s.setting) s.arrivals (event.Tick moment ∷ []) ∙ append-nil (flat_map (carried s.setting) s.arrivals))

begun_change : (moment server : ℕ) (servers : List ServerSeen) → all_told server (arrivals_at (slice_get servers server) ++ event.Tick moment ∷ []) (changed_at without_arrivals server servers) ≡ map (told []) servers
begun_change moment server [] = refl
begun_change moment zero (s ∷ servers) = ap (λ x. x ∷ map (told []) servers) (begun_told moment s)
begun_change moment (suc server) (s ∷ servers) = ap (λ xs. told [] s ∷ xs) (begun_change moment server servers)

-- ---- a round

end_told : (server : ℕ) (rest : List Event) (end : Option End) (n : NetSeen) → all_told server rest (told_of_end end n).servers ≡ all_told server rest n.servers
end_told server rest None n = refl
end_told server rest (Some end) n = calm_change (with_arrival (event.Ended (number_of end))) (λ s. calm_arrival (event.Ended (number_of end)) s refl) server end.server rest n.servers

effect_told : (server : ℕ) (rest : List Event) (act : Act) (n : NetSeen) → all_told server rest (with_effect server act n).servers ≡ all_told server rest n.servers
effect_told server rest (Listens number) n = refl
effect_told server rest (Dials uplink) n = calm_change (with_dial uplink) (λ s r. refl) server server rest n.servers
effect_told server rest (Casts peer bytes) n = refl
effect_told server rest (Offers link bytes) n = refl
effect_told server rest (SendsLine link line) n = refl
effect_told server rest (Closes link) n = end_told server rest (end_beyond server link n.pairs) (record n { pairs = map (parted_at server link) n.pairs })

acts_told : (server : ℕ) (rest : List Event) (acts : List Act) (n : NetSeen) → all_told server rest (with_acts server acts n).servers ≡ all_told server rest n.servers
acts_told server rest [] n = refl
acts_told server rest (act ∷ acts) n =
    acts_told server rest acts (with_act server act n) ∙ effect_told server rest act (at_server (with_happening (happening_of act)) server n)
    ∙ calm_change (with_happening (happening_of act)) (told_acted act) server server rest n.servers

all_come_told : (server : ℕ) (events : List Event) (n : NetSeen) → all_told server [] (with_all server events n).servers ≡ all_told server events n.servers
all_come_told server [] n = refl
all_come_told server (e ∷ events) n =
    let after = at_server (with_happening (did.Event e)) server n in
    all_come_told server events (with_event server e n) ∙ acts_told server events (due_at (slice_get after.servers server)) after ∙ came_change e server events n.servers

pub round_told : (server moment : ℕ) (n : NetSeen) → map (told []) (with_round server moment n).servers ≡ map (told []) n.servers
round_told server moment n =
    sym (none_left server (with_round server moment n).servers) ∙ all_come_told server (arrivals_at (slice_get n.servers server) ++ event.Tick moment ∷ []) (at_server without_arrivals server n)
    ∙ begun_change moment server n.servers

-- ---- the other servers of a round

-- they keep their histories
abbrev pub Others : ℕ → List ServerSeen → List ServerSeen → Type 0
Others server before after = Between (λ j s u. server ≢ j → u.history ≡ s.history) before after

others_both : (server : ℕ) (a b c : List ServerSeen) → Others server a b → Others server b c → Others server a c
others_both server a b c =
    between_both (λ j s u. server ≢ j → u.history ≡ s.history) (λ j s u. server ≢ j → u.history ≡ s.history) (λ j s u. server ≢ j → u.history ≡ s.history) a b c (λ j s u v first later other. later other ∙ first other)

others_same : (server : ℕ) (servers : List ServerSeen) → Others server servers servers
others_same server servers = between_same (λ j s u. server ≢ j → u.history ≡ s.history) servers (λ j s other. refl)

others_quiet : (f : ServerSeen → ServerSeen) → ((s : ServerSeen) → (f s).history ≡ s.history) → (server at : ℕ) (servers : List ServerSeen) → Others server servers (changed_at f at servers)
others_quiet f quiet server at servers = between_one (λ j s u. server ≢ j → u.history ≡ s.history) f at servers (λ s e other. quiet s) (λ j apart s other. refl)

others_own : (f : ServerSeen → ServerSeen) (server : ℕ) (servers : List ServerSeen) → Others server servers (changed_at f server servers)
others_own f server servers = between_one (λ j s u. server ≢ j → u.history ≡ s.history) f server servers (λ s e other. absurd (other refl)) (λ j apart s other. refl)

others_told : (server : ℕ) (end : Option End) (n : NetSeen) → Others server n.servers (told_of_end end n).servers
others_told server None n = others_same server n.servers
others_told server (Some end) n = others_quiet (with_arrival (event.Ended (number_of end))) (λ s. refl) server end.server n.servers

others_effect : (server : ℕ) (act : Act) (n : NetSeen) → Others server n.servers (with_effect server act n).servers
others_effect server (Listens number) n = others_same server n.servers
others_effect server (Dials uplink) n = others_quiet (with_dial uplink) (λ s. refl) server server n.servers
others_effect server (Casts peer bytes) n = others_same server n.servers
others_effect server (Offers link bytes) n = others_same server n.servers
others_effect server (SendsLine link line) n = others_same server n.servers
others_effect server (Closes link) n = others_told server (end_beyond server link n.pairs) (record n { pairs = map (parted_at server link) n.pairs })

others_acts : (server : ℕ) (acts : List Act) (n : NetSeen) → Others server n.servers (with_acts server acts n).servers
others_acts server [] n = others_same server n.servers
others_acts server (act ∷ acts) n =
    let one = at_server (with_happening (happening_of act)) server n in
    others_both server n.servers one.servers (with_acts server (act ∷ acts) n).servers (others_own (with_happening (happening_of act)) server n.servers)
    (others_both server one.servers (with_act server act n).servers (with_acts server (act ∷ acts) n).servers (others_effect server act one) (others_acts server acts (with_act server act n)))

others_all : (server : ℕ) (events : List Event) (n : NetSeen) → Others server n.servers (with_all server events n).servers
others_all server [] n = others_same server n.servers
others_all server (e ∷ events) n =
    let one = at_server (with_happening (did.Event e)) server n in
    others_both server n.servers one.servers (with_all server (e ∷ events) n).servers (others_own (with_happening (did.Event e)) server n.servers)
    (others_both server one.servers (with_event server e n).servers (with_all server (e ∷ events) n).servers (others_acts server (due_at (slice_get one.servers server)) one) (others_all server events (with_event server e n)))

pub round_others : (server moment : ℕ) (n : NetSeen) → Others server n.servers (with_round server moment n).servers
round_others server moment n =
    let start = at_server without_arrivals server n in
    others_both server n.servers start.servers (with_round server moment n).servers (others_own without_arrivals server n.servers)
    (others_all server (arrivals_at (slice_get n.servers server) ++ event.Tick moment ∷ []) start)
