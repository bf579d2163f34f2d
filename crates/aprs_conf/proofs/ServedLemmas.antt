-- The configuration that is served.
use Rattle.std.proofs.Common.{◌≡◌, ◌≤◌, ℕ, Bool, true, false, List, [], ◌∷◌, ◌++◌, Option, None, Some, map, length, refl, sym, ap, ◌∙◌, arith, append-nil}
use Rattle.std.proofs.lemmas.List.{length-append}
use Rattle.aprs_base.specs.declared.texts.Addr.{Addr}
use Rattle.aprs_conf.specs.declared.types.Listen.{Listen}
use Rattle.aprs_conf.specs.Seen.{ConfSeen}
use Rattle.aprs_conf.specs.Served.{all_listens, front_listens, http_listens, numbered, served_conf, status_listens}
use Rattle.aprs_conf.specs.Sound.{IsSound}

-- where nothing is asked by HTTP, it is the one that was read
pub served_same : (conf : ConfSeen) → conf.upload ≡ None → conf.page ≡ None → served_conf conf ≡ conf
served_same conf no_upload no_page =
    ap (λ upload. record conf { listens = all_listens conf.listens upload conf.page; upload = None; page = None }) no_upload
    ∙ ap (λ page. record conf { listens = all_listens conf.listens None page; upload = None; page = None }) no_page
    ∙ ap (λ listens. record conf { listens = listens; upload = None; page = None }) (append-nil conf.listens)
    ∙ ap (λ upload. record conf { upload = upload; page = None }) (sym no_upload)
    ∙ ap (λ page. record conf { page = page }) (sym no_page)

-- it stays in its ranges
pub served_sound : (conf : ConfSeen) → IsSound conf → IsSound (served_conf conf)
served_sound conf sound =
    let all = all_listens conf.listens conf.upload conf.page in
    let most = sound.served in
    let least = sound.listens.0 in
    let more = length-append conf.listens (http_listens conf.upload ++ status_listens conf.page) in
    let few : length (all ++ []) ≤ 16 = omega (arith, length-append all []) in
    record {
      server = sound.server;
      listens = (omega arith, most);
      served = few;
      uplinks = sound.uplinks;
      peers = sound.peers;
      up_timeout = sound.up_timeout;
      client_timeout = sound.client_timeout;
      max_clients = sound.max_clients;
      dupe_window = sound.dupe_window;
    }

-- ---- numbers

pub numbered-append : (listens more : List Listen) → numbered (listens ++ more) ≡ numbered listens ++ numbered more
numbered-append [] more = refl
numbered-append (listen ∷ listens) more = by listen.idle refl (numbered-append listens more)
  where
    by : (idle : Bool) → listen.idle ≡ idle → numbered (listens ++ more) ≡ numbered listens ++ numbered more → numbered (listen ∷ listens ++ more) ≡ numbered (listen ∷ listens) ++ numbered more
    by true is same = rw is same
    by false is same = rw is (ap (λ specs. listen.spec ∷ specs) same)

-- those for requests by HTTP have one
pub numbered_front : (name : List ℕ) (at : Option Addr) → numbered (front_listens name at) ≡ map (λ (listen : Listen). listen.spec) (front_listens name at)
numbered_front name None = refl
numbered_front name (Some at) = refl

-- no more have one than there are
pub numbered_short : (listens : List Listen) → length (numbered listens) ≤ length listens
numbered_short [] = omega arith
numbered_short (listen ∷ listens) = by listen.idle refl (numbered_short listens)
  where
    by : (idle : Bool) → listen.idle ≡ idle → length (numbered listens) ≤ length listens → length (numbered (listen ∷ listens)) ≤ length (listen ∷ listens)
    by true is later = rw is (omega arith)
    by false is later = rw is (omega arith)
