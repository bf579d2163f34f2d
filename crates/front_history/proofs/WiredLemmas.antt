-- What the wire shows of what the server did; and that it shows all as it is where no link may become a downlink.
use Rattle.std.proofs.Common.{◌≡◌, ℕ, [], ◌∷◌, refl, ap, ◌∙◌, subst, Option, Some, None}
use Rattle.aprs_base.specs.declared.events.Happening.{Happening}
use Rattle.aprs_base.specs.declared.events.Happening.TheVariants as did
use Rattle.aprs_history.specs.Setting.{Setting}
use Rattle.aprs_history.specs.Trace.{Trace}
use Rattle.aprs_history.specs.Downs.{DownSeen, down_of}
use Rattle.aprs_history.specs.History.{History, trace_of}
use Rattle.aprs_history.proofs.DownLemmas.{no_down}
use Rattle.front_history.specs.Views.{IsNotTo}
use Rattle.aprs_history.specs.Wired.{on_wire, sent_as, wired_as}
use Rattle.front_history.proofs.ServesLemmas.{IsAct}

-- ---- what is shown of one act

-- no event is shown as an act
pub act_shown : (s : Setting) (t : Trace) (x y : Happening) → IsAct x → x ≡ wired_as s t y → IsAct y
act_shown s t x y act shown = of y (subst IsAct shown act)
  where
    of : (y : Happening) → IsAct (wired_as s t y) → IsAct y
    of (did.Event e) act = act
    of y act = tt

-- what isn't to links of a port isn't shown to one
pub not_to_shown : (port : Option ℕ) (h : History) (s : Setting) (t : Trace) (y : Happening) → IsNotTo port h y → IsNotTo port h (wired_as s t y)
not_to_shown port h s t (did.Sent link bytes outcome) other = of (down_of s t link)
  where
    of : (down : Option DownSeen) → IsNotTo port h (sent_as down link bytes outcome)
    of None = other
    of (Some down) = tt
not_to_shown port h s t (did.Closed link) other = other
not_to_shown port h s t (did.Event e) other = tt
not_to_shown port h s t (did.Listen n) other = tt
not_to_shown port h s t (did.Dialled uplink) other = tt
not_to_shown port h s t (did.Cast peer bytes) other = tt

-- ---- no downlinks

shown_as_is : (s : Setting) → s.downs ≡ [] → (t : Trace) (x : Happening) → wired_as s t x ≡ x
shown_as_is s none t (did.Sent link bytes outcome) = ap (λ down. sent_as down link bytes outcome) (no_down s none t link)
shown_as_is s none t (did.Closed link) = refl
shown_as_is s none t (did.Event e) = refl
shown_as_is s none t (did.Listen n) = refl
shown_as_is s none t (did.Dialled uplink) = refl
shown_as_is s none t (did.Cast peer bytes) = refl

pub all_shown : (s : Setting) → s.downs ≡ [] → (seen : History) → on_wire s seen ≡ seen
all_shown s none [] = refl
all_shown s none (x ∷ earlier) = ap (λ y. y ∷ on_wire s earlier) (shown_as_is s none (trace_of s earlier) x) ∙ ap (λ h. x ∷ h) (all_shown s none earlier)
