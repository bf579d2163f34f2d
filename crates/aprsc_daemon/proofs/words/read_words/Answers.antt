use Rattle.std.proofs.Common.{◌≡◌, ◌∙◌, Err, ap, map, sym}
use Rattle.std.specs.Prelude.{string_bytes}
use Rattle.aprsc_daemon.specs.Words.{drill_in, net_in}
use Rattle.aprsc_daemon.specs.declared.words.WordsError.TheVariants as words_error
use Rattle.aprsc_daemon.proofs.WordsLemmas.{begins_drill, begins_net, drill_after, drill_not_net, net_after, no_mode, no_net_mode}
use Rattle.aprsc_daemon.proofs.words.read_words.Goals as goal

pub returns-in-Ok-clause-value : goal.returns-in-Ok-clause-value
returns-in-Ok-clause-value c =
    let words = map string_bytes c.args.words.now in
    drill_after words (sym c.begins_with.ensures ∙ c.if-begins_with.true) ∙ ap drill_in (sym c.later.ensures) ∙ c.in-Ok.ensures.value

pub returns-in-Err-clause-refused : goal.returns-in-Err-clause-refused
returns-in-Err-clause-refused c = λ refused.
    let words = map string_bytes c.args.words.now in
    let drill = sym c.begins_with.ensures ∙ c.if-begins_with.true in
    let same : c.in-Err.error ≡ words_error.Refused = cc in
    record {
      no_server = begins_drill words drill;
      no_drill = drill_after words drill ∙ ap drill_in (sym c.later.ensures) ∙ c.in-Err.ensures.refused (ap Err same);
      no_net = drill_not_net words drill;
    }

pub returns-in-Ok-read_net-clause-value : goal.returns-in-Ok-read_net-clause-value
returns-in-Ok-read_net-clause-value c =
    let words = map string_bytes c.args.words.now in
    net_after words (sym c.begins_with-2.ensures ∙ c.if-begins_with-2.true) ∙ ap net_in (sym c.later-then-begins_with-2.ensures) ∙ c.in-Ok-read_net.ensures.value

pub returns-in-Err-read_net-clause-refused : goal.returns-in-Err-read_net-clause-refused
returns-in-Err-read_net-clause-refused c = λ refused.
    let words = map string_bytes c.args.words.now in
    let net = sym c.begins_with-2.ensures ∙ c.if-begins_with-2.true in
    let same : c.in-Err-read_net.error ≡ words_error.Refused = cc in
    record {
      no_server = begins_net words net;
      no_drill = no_mode words (sym c.begins_with.ensures ∙ c.if-begins_with.false);
      no_net = net_after words net ∙ ap net_in (sym c.later-then-begins_with-2.ensures) ∙ c.in-Err-read_net.ensures.refused (ap Err same);
    }

pub returns-in-Err-read_server-clause-refused : goal.returns-in-Err-read_server-clause-refused
returns-in-Err-read_server-clause-refused c = λ refused.
    let words = map string_bytes c.args.words.now in
    let same : c.in-Err-read_server.error ≡ words_error.Refused = cc in
    record {
      no_server = c.in-Err-read_server.ensures.refused (ap Err same);
      no_drill = no_mode words (sym c.begins_with.ensures ∙ c.if-begins_with.false);
      no_net = no_net_mode words (sym c.begins_with-2.ensures ∙ c.if-begins_with-2.false);
    }
