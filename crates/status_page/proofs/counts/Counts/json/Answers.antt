use Rattle.std.proofs.Common.{◌≡◌, ap, ◌∙◌, false}
use Rattle.serde_json.specs.View.{view}
use Rattle.serde_json.specs.Written.{compact_text, has_float}
use Rattle.status_page.proofs.PageLemmas.{page_has_no_float, page_reads}
use Rattle.status_page.specs.PageValue.{page_data}
use Rattle.status_page.proofs.counts.Counts.json.Goals as goal

pub returns : goal.returns
returns c =
    let value = c.in_ok-page.ensures ∙ ap (λ server. page_data c.args.self.now server c.args.moment c.args.totals.now) c.call_text.ensures.text in
    let no_float : has_float (view c.in_ok-page.page) ≡ false = ap has_float value ∙ page_has_no_float c.args.self.now c.args.server.now c.args.moment c.args.totals.now in
    let text = c.in_ok-to_string.ensures.text no_float ∙ ap compact_text value ∙ page_reads c.args.self.now c.args.server.now c.args.moment c.args.totals.now c.call_text.ensures.grammar in
    c.new.ensures ∙ ap (λ v. v.items) c.into_bytes.ensures.value ∙ text
