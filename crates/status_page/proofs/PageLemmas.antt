-- The text of the page's value.
use Rattle.std.proofs.Common.{◌≡◌, ℕ, List, refl, false, ap, ◌∙◌}
use Rattle.aprs_base.specs.Bytes.{IsCall}
use Rattle.aprs_base.specs.declared.totals.Totals.{Totals}
use Rattle.json.specs.Print.{escape}
use Rattle.serde_json.proofs.OnLiterals.{serde_json_on_literals}
use Rattle.serde_json.specs.Written.{compact_text, has_float}
use Rattle.status_page.proofs.CallLemmas.{call_unescaped}
use Rattle.status_page.specs.Page.{page_text}
use Rattle.status_page.specs.PageValue.{page_data, with_counts, with_totals}
use Rattle.status_page.specs.declared.counts.Counts.{Counts}

escaped : (counts : Counts) (server : List ℕ) (moment : ℕ) (totals : Totals) → compact_text (page_data counts server moment totals) ≡ page_text counts (escape server) moment totals
unfolding serde_json_on_literals page_data page_text with_counts with_totals
escaped counts server moment totals = refl

pub page_reads : (counts : Counts) (server : List ℕ) (moment : ℕ) (totals : Totals) → IsCall server → compact_text (page_data counts server moment totals) ≡ page_text counts server moment totals
page_reads counts server moment totals is = escaped counts server moment totals ∙ ap (λ text. page_text counts text moment totals) (call_unescaped server is)

pub page_has_no_float : (counts : Counts) (server : List ℕ) (moment : ℕ) (totals : Totals) → has_float (page_data counts server moment totals) ≡ false
unfolding serde_json_on_literals page_data with_counts with_totals
page_has_no_float counts server moment totals = refl
