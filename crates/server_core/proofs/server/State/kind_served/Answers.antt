use Rattle.std.proofs.Common.{ap, ◌∙◌}
use Rattle.aprs_history.specs.Setting.{kind_at}
use Rattle.server_core.specs.Meaning.{CoreMeaning, setting_of}
use Rattle.server_core.proofs.server.State.kind_served.Goals as goal

pub returns : goal.returns
returns c = c.served_by.ensures ∙ ap (λ (core : CoreMeaning). kind_at (setting_of core.conf) c.args.listener) c.self.view_is
