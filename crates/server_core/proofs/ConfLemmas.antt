-- The listeners of a configuration: those that serve what comes there, and behind them those that lines are only cast from.
use Rattle.std.proofs.Common.{◌≡◌, ◌≤◌, ◌<◌, ◌+◌, ◌-◌, ◌||◌, ℕ, zero, suc, true, false, nat_lt, Bool, ◌&&◌, List, [], ◌∷◌, ◌++◌, Option, None, Some, IfSome, subst, length, length-append, map, option_map, refl, sym, ap, ◌∙◌, arith, slice_get, ⊎_elim, if◌then◌else◌}
use Rattle.std.specs.List.{list_any}
use Rattle.std.proofs.lemmas.Bool.{cases_Bool, ltb-true, ltb-false}
use Rattle.std.proofs.lemmas.List.{length-map}
use Rattle.aprs_base.specs.declared.packets.PortKind.{PortKind}
use Rattle.aprs_base.specs.declared.texts.Addr.{Addr}
use Rattle.aprs_conf.specs.Seen.{ConfSeen}
use Rattle.aprs_conf.specs.declared.types.Listen.{Listen}
use Rattle.aprs_history.specs.declared.verdicts.LinkKind.{LinkKind}
use Rattle.aprs_history.specs.Downs.{asked_addr, may_be_down}
use Rattle.aprs_history.specs.Links.{Opening}
use Rattle.aprs_history.specs.Setting.{is_same_down, kind_at, kind_of_spec, serving_listens}
use Rattle.served_links.specs.Links.{kind_and_from}
use Rattle.server_core.specs.Meaning.{address_by, caster, casters, casts_to, downs_of, idle_specs, kind_in, listeners, serving, setting_of}

-- how many serve
pub many_serving : (conf : ConfSeen) → serving_listens (setting_of conf) ≡ length (serving conf)
many_serving conf =
    let idle = idle_specs conf.listens in
    let whole : length (listeners conf) ≡ length (serving conf) + length (casters conf) = length-append (serving conf) (casters conf) in
    let some : length (casters conf) ≡ length idle = length-map idle caster in
    let same : length (downs_of conf) ≡ length idle = length-map idle kind_in in
    let left : length (listeners conf) - length (downs_of conf) ≡ length (serving conf) = omega (arith, whole, some, same) in
    left

-- what stands before others
get_before : {X : Type 0} (xs ys : List X) (n : ℕ) → n < length xs → slice_get (xs ++ ys) n ≡ slice_get xs n
get_before [] ys n lt = absurd (omega arith)
get_before (x ∷ xs) ys zero lt = refl
get_before (x ∷ xs) ys (suc n) lt = get_before xs ys n (omega arith)

get_none : {X : Type 0} (xs : List X) (n : ℕ) → length xs ≤ n → slice_get xs n ≡ None
get_none [] zero le = refl
get_none [] (suc n) le = refl
get_none (x ∷ xs) zero le = absurd (omega arith)
get_none (x ∷ xs) (suc n) le = get_none xs n (omega arith)

pub get_some : {X : Type 0} (xs ys : List X) (n : ℕ) (x : X) → slice_get xs n ≡ Some x → slice_get (xs ++ ys) n ≡ Some x
get_some [] ys zero x is = cc
get_some [] ys (suc n) x is = cc
get_some (y ∷ xs) ys zero x is = is
get_some (y ∷ xs) ys (suc n) x is = get_some xs ys n x is

-- a listener that lines are only cast from serves nothing
pub kind_serving : (conf : ConfSeen) (n : ℕ) → kind_at (setting_of conf) n ≡ kind_of_spec (slice_get (serving conf) n)
kind_serving conf n =
    let all = serving conf in
    ap (λ many. if nat_lt n many then kind_of_spec (slice_get (listeners conf) n) else None) (many_serving conf)
    ∙ ⊎_elim
    (λ before. rw before (ap kind_of_spec (get_before all (casters conf) n (ltb-true n (length all) before))))
    (λ behind. rw behind (sym (ap kind_of_spec (get_none all n (ltb-false n (length all) behind)))))
    (cases_Bool (nat_lt n (length all)))

-- lines are cast to links of a kind of port where an idle listener is for it
pub any_idle : (port : PortKind) (listens : List Listen) → list_any (casts_to port) listens ≡ list_any (is_same_down port) (map kind_in (idle_specs listens))
any_idle port [] = refl
any_idle port (listen ∷ listens) =
    let rest = any_idle port listens in
    ⊎_elim
    (λ (idle : listen.idle ≡ true). rw idle (ap (λ b. is_same_down port listen.spec.kind || b) rest))
    (λ (busy : listen.idle ≡ false). rw busy rest)
    (cases_Bool listen.idle)

-- the address that a link asks for, by how it was opened
pub address_known : (downs : List PortKind) (opening : Option Opening) (opened : LinkKind × Addr) (port : Option ℕ) → Some opened ≡ option_map kind_and_from opening → address_by downs opened port ≡ asked_addr downs opening port
address_known downs None opened port is = cc
address_known downs (Some opening) opened port is = let same : opened ≡ kind_and_from opening = cc in ap (λ pair. address_by downs pair port) same

pub address_unknown : (downs : List PortKind) (opening : Option Opening) (port : Option ℕ) → None ≡ option_map kind_and_from opening → None ≡ asked_addr downs opening port
address_unknown downs None port is = refl
address_unknown downs (Some opening) port is = cc

-- only where not too many are downlinks a link asks for an address
pub asked_few : (downs : List PortKind) (opening : Option Opening) (count most : ℕ) (starts : Bool) (port : Option ℕ) (asked : Option Addr)
    → asked ≡ asked_addr downs opening (if nat_lt count most && starts then port else None) → IfSome asked (λ to. count < most)
asked_few downs opening count most starts port asked is =
    ⊎_elim
    (λ few. if_some asked (ltb-true count most few))
    (λ many.
    let none : asked ≡ None = is ∙ ap (λ b. asked_addr downs opening (if b && starts then port else None)) many ∙ no_address downs opening in
    subst (λ (a : Option Addr). IfSome a (λ to. count < most)) (sym none) tt)
    (cases_Bool (nat_lt count most))
  where
    if_some : {P : Type 0} (asked : Option Addr) → P → IfSome asked (λ to. P)
    if_some None p = tt
    if_some (Some to) p = p

    either : {X : Type 0} (b : Bool) (x : X) → (if b then x else x) ≡ x
    either true x = refl
    either false x = refl

    no_address : (downs : List PortKind) (opening : Option Opening) → asked_addr downs opening None ≡ None
    no_address downs None = refl
    no_address downs (Some opening) = either (may_be_down downs opening.kind) None
