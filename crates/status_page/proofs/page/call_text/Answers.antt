use Rattle.std.proofs.Common.{sym, subst}
use Rattle.std.specs.Str.{IsUtf8}
use Rattle.status_page.proofs.CallLemmas.{call_is_text}
use Rattle.status_page.proofs.page.call_text.Goals as goal

pub unreachable-requires : goal.unreachable-requires
unreachable-requires c = c.in-Err.ensures.cases.0 (subst IsUtf8 (sym c.bytes.ensures.bytes) (call_is_text c.args.call.now c.bytes.ensures.grammar))
