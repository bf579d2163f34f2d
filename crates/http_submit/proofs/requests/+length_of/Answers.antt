use Rattle.std.proofs.Common.{ap, sym, ◌∙◌}
use Rattle.httparse.specs.Spans.{header_bytes}
use Rattle.http_submit.specs.Requests.{length_text}
use Rattle.http_submit.proofs.FieldLemmas.{again_behind, once_in}
use Rattle.http_submit.proofs.requests.+length_of.Goals as goal

pub returns-then-has_field : goal.returns-then-has_field
returns-then-has_field t c =
    sym (again_behind (header_bytes c.args.bytes.now) c.args.headers.now _ c.in-len1-up.len_at_least (sym c.is_named.ensures ∙ c.if-not-is_named.false) (sym c.has_field.ensures ∙ c.if-has_field.true))

pub returns : goal.returns
returns t c =
    c.read_length.ensures ∙ ap length_text c.of.ensures
    ∙ sym (once_in (header_bytes c.args.bytes.now) c.args.headers.now _ c.in-len1-up.len_at_least (sym c.is_named.ensures ∙ c.if-not-is_named.false) (sym c.has_field.ensures ∙ c.if-has_field.false))
