use Rattle.std.proofs.Common.{◌≡◌, ◌++◌, drop}
use Rattle.std.specs.List.{flat_map}
use Rattle.aprs_conf.specs.Writing.{peer_words, word_text}
use Rattle.aprs_conf.proofs.writing.ConfText.peers.Given as goal

-- what was written and what is left are the whole
abbrev pub invariant-loop-peer : goal.invariant-loop-peer
invariant-loop-peer l = l.self ++ flat_map word_text (flat_map peer_words (drop l.peer-index l.peers)) ≡ l.initial.self ++ flat_map word_text (flat_map peer_words l.peers)
