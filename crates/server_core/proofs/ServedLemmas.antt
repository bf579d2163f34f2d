-- The listeners of the configuration that is served: those that have a number, then that for submissions by HTTP and that of the
-- status page, that of the peer group, and last those that lines are only cast from.
use Rattle.std.proofs.Common.{◌≡◌, ◌≤◌, ◌+◌, ℕ, suc, List, [], ◌∷◌, ◌++◌, Option, None, Some, length, map, refl, sym, ap, ◌∙◌, arith, append_assoc, slice_get}
use Rattle.std.specs.Prelude.{codes}
use Rattle.aprs_base.specs.declared.packets.ListenSpec.{ListenSpec}
use Rattle.aprs_base.specs.declared.packets.PortKind.TheVariants as kind
use Rattle.aprs_base.specs.declared.texts.Addr.{Addr}
use Rattle.aprs_conf.specs.Seen.{ConfSeen}
use Rattle.aprs_conf.specs.Served.{http_listens, page_number, served_conf, status_listens, upload_number}
use Rattle.aprs_conf.specs.Sound.{IsSound}
use Rattle.aprs_conf.specs.declared.types.Listen.{Listen}
use Rattle.aprs_conf.proofs.ServedLemmas.{numbered-append, numbered_front, numbered_short, served_same, served_sound}
use Rattle.aprs_history.specs.Setting.{kind_at, kind_of_spec}
use Rattle.server_core.specs.Meaning.{casters, group_listens, numbered, serving, setting_of}
use Rattle.server_core.proofs.ConfLemmas.{get_some, kind_serving}

-- those for requests by HTTP
abbrev fronts : Option Addr → Option Addr → List ListenSpec
fronts upload page = map (λ (listen : Listen). listen.spec) (http_listens upload ++ status_listens page)

numbered_fronts : (upload page : Option Addr) → numbered (http_listens upload ++ status_listens page) ≡ fronts upload page
numbered_fronts None page = numbered_front (codes "status") page
numbered_fronts (Some at) page = ap (λ specs. record { kind = kind.Submit; at = at } ∷ specs) (numbered_front (codes "status") page)

pub served_listens : (conf : ConfSeen) → serving (served_conf conf) ≡ numbered conf.listens ++ (fronts conf.upload conf.page ++ group_listens conf.group)
served_listens conf =
    let more = http_listens conf.upload ++ status_listens conf.page in
    ap (λ specs. specs ++ group_listens conf.group) (numbered-append conf.listens more ∙ ap (λ specs. numbered conf.listens ++ specs) (numbered_fronts conf.upload conf.page))
    ∙ append_assoc (numbered conf.listens) (fronts conf.upload conf.page) (group_listens conf.group)

behind : {A : Type 0} (xs : List A) (x : A) (more : List A) → slice_get (xs ++ x ∷ more) (length xs) ≡ Some x
behind [] x more = refl
behind (y ∷ xs) x more = behind xs x more

past : {A : Type 0} (xs more : List A) (n : ℕ) → slice_get (xs ++ more) (length xs + n) ≡ slice_get more n
past [] more n = (let same : 0 + n ≡ n = omega arith in ap (slice_get more) same)
past (y ∷ xs) more n =
    let same : length (y ∷ xs) + n ≡ suc (length xs + n) = omega arith in
    ap (slice_get (y ∷ xs ++ more)) same ∙ past xs more n

-- at its number is that for submissions by HTTP
serving_upload : (conf : ConfSeen) (number : ℕ) (at : Addr) → upload_number conf ≡ Some number → conf.upload ≡ Some at
    → slice_get (serving (served_conf conf)) number ≡ Some (record { kind = kind.Submit; at = at })
serving_upload conf number at numbered_so is =
    ap (λ specs. slice_get specs number) (served_listens conf ∙ ap (λ upload. numbered conf.listens ++ (fronts upload conf.page ++ group_listens conf.group)) is)
    ∙ ap (λ n. slice_get (numbered conf.listens ++ (fronts (Some at) conf.page ++ group_listens conf.group)) n) (sym (same conf.upload is numbered_so))
    ∙ behind (numbered conf.listens) (record { kind = kind.Submit; at = at }) (fronts None conf.page ++ group_listens conf.group)
  where
    same : (upload : Option Addr) → upload ≡ Some at → upload_number (record conf { upload = upload }) ≡ Some number → length (numbered conf.listens) ≡ number
    same None none so = cc
    same (Some x) some so = cc

pub served_upload : (conf : ConfSeen) (number : ℕ) (at : Addr) → upload_number conf ≡ Some number → conf.upload ≡ Some at
    → slice_get (setting_of (served_conf conf)).listens number ≡ Some (record { kind = kind.Submit; at = at })
served_upload conf number at numbered_so is = get_some (serving (served_conf conf)) (casters (served_conf conf)) number (record { kind = kind.Submit; at = at }) (serving_upload conf number at numbered_so is)

-- which takes submissions
pub served_kind : (conf : ConfSeen) (number : ℕ) (at : Addr) → upload_number conf ≡ Some number → conf.upload ≡ Some at → kind_at (setting_of (served_conf conf)) number ≡ Some kind.Submit
served_kind conf number at numbered_so is = kind_serving (served_conf conf) number ∙ ap kind_of_spec (serving_upload conf number at numbered_so is)

-- at its number is that of the status page
serving_page : (conf : ConfSeen) (number : ℕ) (at : Addr) → page_number conf ≡ Some number → conf.page ≡ Some at
    → slice_get (serving (served_conf conf)) number ≡ Some (record { kind = kind.Submit; at = at })
serving_page conf number at numbered_so is =
    let all = fronts conf.upload (Some at) ++ group_listens conf.group in
    ap (λ specs. slice_get specs number) (served_listens conf ∙ ap (λ page. numbered conf.listens ++ (fronts conf.upload page ++ group_listens conf.group)) is)
    ∙ ap (λ n. slice_get (numbered conf.listens ++ all) n) (sym (same conf.page is numbered_so))
    ∙ past (numbered conf.listens) all (length (http_listens conf.upload))
    ∙ last conf.upload
  where
    same : (page : Option Addr) → page ≡ Some at → page_number (record conf { page = page }) ≡ Some number → length (numbered conf.listens) + length (http_listens conf.upload) ≡ number
    same None none so = cc
    same (Some x) some so = cc

    last : (upload : Option Addr) → slice_get (fronts upload (Some at) ++ group_listens conf.group) (length (http_listens upload)) ≡ Some (record { kind = kind.Submit; at = at })
    last None = refl
    last (Some x) = refl

pub served_page : (conf : ConfSeen) (number : ℕ) (at : Addr) → page_number conf ≡ Some number → conf.page ≡ Some at
    → slice_get (setting_of (served_conf conf)).listens number ≡ Some (record { kind = kind.Submit; at = at })
served_page conf number at numbered_so is = get_some (serving (served_conf conf)) (casters (served_conf conf)) number (record { kind = kind.Submit; at = at }) (serving_page conf number at numbered_so is)

-- which has the same kind
pub served_page_kind : (conf : ConfSeen) (number : ℕ) (at : Addr) → page_number conf ≡ Some number → conf.page ≡ Some at → kind_at (setting_of (served_conf conf)) number ≡ Some kind.Submit
served_page_kind conf number at numbered_so is = kind_serving (served_conf conf) number ∙ ap kind_of_spec (serving_page conf number at numbered_so is)

-- where nothing is asked by HTTP, the setting is that of what was read
pub served_setting : (conf : ConfSeen) → conf.upload ≡ None → conf.page ≡ None → setting_of (served_conf conf) ≡ setting_of conf
served_setting conf no_upload no_page = ap setting_of (served_same conf no_upload no_page)

-- a core can be made with it
pub served_few : (conf : ConfSeen) → IsSound conf → length (numbered (served_conf conf).listens) ≤ 16
served_few conf sound =
    let few = (served_sound conf sound).listens.1 in
    let short = numbered_short (served_conf conf).listens in
    omega arith
