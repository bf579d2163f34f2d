-- The listeners of a configuration's fronts, and what the server saw of a run.
use Rattle.std.proofs.Common.{◌≡◌, ℕ, ◌+◌, ◌∙◌, refl, ap, length, Option, None, Some, arith}
use Rattle.std.specs.Prelude.{IfSome}
use Rattle.std.specs.Option.{option_map}
use Rattle.std.proofs.lemmas.Option.{none-some}
use Rattle.aprs_base.specs.declared.packets.PortKind.TheVariants as kind
use Rattle.aprs_base.specs.declared.texts.Addr.{Addr}
use Rattle.aprs_conf.specs.Served.{http_listens, numbered}
use Rattle.aprs_history.specs.Setting.{kind_at}
use Rattle.aprs_history.specs.Runs.{told_after}
use Rattle.server_core.proofs.ServedLemmas.{served_kind, served_page_kind}
use Rattle.front_history.proofs.ViewLemmas.{links_are_paid, page_links_are_paid, servers_see_views}
use Rattle.aprsc_daemon.specs.Laws.{FrontsHavePorts, RunsAreSeen, wired_at}
use Rattle.aprsc_daemon.specs.Runs.{ports_named, setting_named}

-- an option is there where its map is
has_kind : (P : ℕ → Type 0) (number : ℕ) (at : Option Addr) → ((a : Addr) → at ≡ Some a → P number) → IfSome (option_map (λ _. number) at) P
has_kind P number None is = tt
has_kind P number (Some a) is = is a refl

-- the one of the page has one more before it than the other, where both are there
parted : (numbers : ℕ) (page upload : Option Addr) (n : ℕ) → option_map (λ _. numbers + length (http_listens upload)) page ≡ Some n → option_map (λ _. numbers) upload ≡ Some n → ⊥
parted numbers None upload n is so = absurd (none-some n is)
parted numbers (Some a) None n is so = absurd (none-some n so)
parted numbers (Some a) (Some b) n is so = let here : numbers + 1 ≡ n = cc in let there : numbers ≡ n = cc in absurd (omega arith)

pub have_ports : FrontsHavePorts
have_ports conf =
    let page_place = length (numbered conf.listens) + length (http_listens conf.upload) in
    let upload_place = length (numbered conf.listens) in
    let is_submit : ℕ → Type 0 = λ n. kind_at (setting_named conf) n ≡ Some kind.Submit in
    record {
      page = has_kind is_submit page_place conf.page (λ at is. served_page_kind conf page_place at (ap (option_map (λ _. page_place)) is) is);
      upload = has_kind is_submit upload_place conf.upload (λ at is. served_kind conf upload_place at (ap (option_map (λ _. upload_place)) is) is);
      apart = parted (length (numbered conf.listens)) conf.page conf.upload;
    }

pub seen_of_run : RunsAreSeen
seen_of_run conf old new code runs =
    let s = setting_named conf in
    let ports = ports_named conf in
    let state = runs.0 in
    let serves = runs.2 in
    let more = serves.0 in
    let seen = serves.1 in
    let ended = serves.5 in
    record {
      more = more;
      seen = seen;
      told = serves.2 ∙ ap (λ at. Some (told_after (wired_at at s) s old more seen)) runs.1;
      view = servers_see_views s more seen state ports serves.3 runs.1 (have_ports conf) serves.4 ended.fresh;
      run = serves.4;
      posts = links_are_paid s more seen state ports serves.3 runs.1 (have_ports conf) serves.4 ended.fresh;
      pages = page_links_are_paid s more seen state ports serves.3 runs.1 (have_ports conf) serves.4 ended.fresh;
    }
