use Rattle.std.proofs.Common.{◌≡◌, ℕ, Bool, true, false, List, [], ◌∷◌, ◌++◌, Result, Ok, length, nat_le, sym, ap, ◌∙◌, arith}
use Rattle.std.proofs.lemmas.Bool.{le-leb, lt-leb}
use Rattle.aprs_base.specs.ResultSteps.{◌>>=◌}
use Rattle.aprs_base.specs.UplinkSeen.{UplinkSeen}
use Rattle.aprs_conf.specs.declared.errors.ConfFault.{ConfFault}
use Rattle.aprs_conf.specs.declared.errors.ConfFault.TheVariants as fault
use Rattle.aprs_conf.specs.Grammar.{unless, uplink_in, uplink_says, with_uplink}
use Rattle.aprs_conf.specs.Seen.{DraftSeen}
use Rattle.aprs_conf.specs.Words.{arguments_of}
use Rattle.aprs_conf.proofs.draft.add_uplink.Goals as goal

said : (draft : DraftSeen) (args : List (List ℕ)) (uplink : UplinkSeen) (full : Bool) → Ok uplink ≡ uplink_in args → nat_le 8 (length draft.uplinks) ≡ full
    → uplink_says draft args ≡ unless full fault.TooMany (Ok (record draft { uplinks = draft.uplinks ++ uplink ∷ [] }))
unfolding uplink_says
said draft args uplink full e is =
    ap (λ (r : Result UplinkSeen ConfFault). r >>= with_uplink draft) (sym e) ∙ ap (λ many. unless many fault.TooMany (Ok (record draft { uplinks = draft.uplinks ++ uplink ∷ [] }))) is

pub returns-then-len-ge-MOST_UPLINKS : goal.returns-then-len-ge-MOST_UPLINKS
returns-then-len-ge-MOST_UPLINKS c = rw (← c.draft.view_is) (said _ (arguments_of c.args.args.now) c.in_ok-uplink.uplink true c.in_ok-uplink.ensures (le-leb 8 _ (omega arith)))

pub returns : goal.returns
returns c = rw (← c.draft.view_is, c.in_ok-push.ensures.items) (said _ (arguments_of c.args.args.now) c.in_ok-uplink.uplink false c.in_ok-uplink.ensures (lt-leb 8 _ (omega arith)))
