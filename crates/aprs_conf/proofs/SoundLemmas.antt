-- What a text reads as is in its ranges.
use Rattle.std.proofs.Common.{◌≡◌, List, [], ◌∷◌, Option, None, Some, Result, Ok, Err, IfOk, IsTrue, ℕ, refl, sym, ap, subst, arith, ◌∙◌}
use Rattle.std.specs.List.{AllByRecursion as Each, list_all}
use Rattle.std.proofs.lemmas.Option.{cond_some}
use Rattle.std.proofs.lemmas.Result.{IfOk-at_ok}
use Rattle.aprs_base.specs.Bytes.{is_station}
use Rattle.aprs_base.specs.declared.texts.Addr.{Addr}
use Rattle.aprs_conf.specs.declared.errors.ConfError.{ConfError}
use Rattle.aprs_conf.specs.declared.types.PeerSpec.{PeerSpec}
use Rattle.aprs_conf.specs.Grammar.{conf_of, conf_with, drafted, empty}
use Rattle.aprs_base.specs.ResultSteps.{◌>>=◌}
use Rattle.aprs_conf.specs.Seen.{ConfSeen, DraftSeen}
use Rattle.aprs_conf.specs.Sound.{IsGroup, IsSound}
use Rattle.aprs_conf.specs.Words.{lines_of}
use Rattle.aprs_conf.proofs.WritableDrafts.{WritableCall, WritableConf, WritableGroup, WritablePeer, conf_writable, count_all}

is_named : (call : List ℕ) → WritableCall call → IsTrue (is_station call)
is_named call is = (cond_some (is_station call) call call is.station).0

peers_named : (peers : List PeerSpec) → Each WritablePeer peers → IsTrue (list_all (λ peer. is_station peer.call) peers)
peers_named [] each = refl
peers_named (peer ∷ peers) each = rw (is_named peer.call each.0.call, peers_named peers each.1) refl

group_sound : (group : Option Addr) (peers : List PeerSpec) → WritableGroup group peers → IsGroup group peers
group_sound None peers none = subst (IsGroup None) (sym none) (record { few = omega arith; stations = refl; grouped = λ _. refl })
group_sound (Some at) peers is = record { few = is.few; stations = peers_named peers is.each; grouped = λ e. cc }

sound : (conf : ConfSeen) → WritableConf conf → IsSound conf
sound conf is = record {
  server = is_named conf.server is.server;
  listens = (is.some_listens, (let few = is.few_listens in omega (arith, count_all conf.listens conf.upload conf.page)));
  served = is.few_listens;
  uplinks = is.few_uplinks;
  peers = group_sound conf.group conf.peers is.group;
  up_timeout = is.up_timeout;
  client_timeout = is.client_timeout;
  max_clients = is.max_clients;
  dupe_window = is.dupe_window;
}

pub sound_result : (text : List ℕ) (d : DraftSeen) (r : Result ConfSeen ConfError) → drafted 1 empty (lines_of text) ≡ Ok d → r ≡ conf_with d → IfOk r IsSound
unfolding conf_of
sound_result text d (Ok conf) h e =
    let read : conf_of text ≡ Ok conf = ap (λ (s : Result DraftSeen ConfError). s >>= conf_with) h ∙ sym e in
    sound conf (IfOk-at_ok WritableConf read (conf_writable text))
sound_result text d (Err x) h e = tt
