-- A window that is current stays so.
use Rattle.std.proofs.Common.{◌≡◌, ℕ, ◌<◌, ◌≤◌, Bool, true, false, is_some, refl, sym, subst}
use Rattle.dupe_window.specs.Keys.{Key}
use Rattle.dupe_window.specs.Windows.{WindowSeen, empty_window, expired, seen_at, with_key, with_new}
use Rattle.dupe_window.proofs.WindowLemmas.{IsUpTo-expired, IsUpTo-later, IsUpTo-with_key, inside_expired, inside_with_key, with_new-seen, with_new-unseen}
use Rattle.server_core.specs.Kept.{IsCurrent}

pub current_passed : (moment now : ℕ) (window : WindowSeen) → moment ≤ now → IsCurrent moment window → IsCurrent now (expired now window)
current_passed moment now window later current = record {
  up_to = IsUpTo-expired now now window (IsUpTo-later moment now window later current.up_to);
  inside = inside_expired now window;
  lasts = current.lasts;
}

current_with : (now : ℕ) (key : Key) (window : WindowSeen) → IsCurrent now window → IsCurrent now (with_key key now window)
current_with now key window current = record {
  up_to = IsUpTo-with_key now key window current.up_to;
  inside = inside_with_key now key window current.lasts current.inside;
  lasts = current.lasts;
}

pub current_with_new : (now : ℕ) (key : Key) (window : WindowSeen) → IsCurrent now window → IsCurrent now (with_new key now window)
current_with_new now key window current = by (is_some (seen_at now key window)) refl
  where
    by : (b : Bool) → is_some (seen_at now key window) ≡ b → IsCurrent now (with_new key now window)
    by true seen = subst (IsCurrent now) (with_new-seen key now window seen) current
    by false unseen = subst (IsCurrent now) (with_new-unseen key now window unseen) (current_with now key window current)

pub current_empty : (seconds : ℕ) (window : WindowSeen) → window ≡ empty_window seconds → 0 < seconds → IsCurrent 0 window
current_empty seconds window is lasts = subst (IsCurrent 0) (sym is) (record { up_to = refl; inside = refl; lasts = lasts })
