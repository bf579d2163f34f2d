use Rattle.std.proofs.Common.{◌≡◌, ℕ, Bool, true, false, is_some, refl, subst, sym, Option, Result, Ok, Err, OnOk, OnErr}
use Rattle.std.specs.List.{list_all}
use Rattle.dupe_window.specs.Keys.{Key}
use Rattle.dupe_window.specs.Windows.{IsUpTo, WindowSeen, is_inside_pair, seen_at, with_new}
use Rattle.dupe_window.proofs.WindowLemmas.{IsUpTo-expired, IsUpTo-with_key, inside_expired, with_new-seen, with_new-unseen}
use Rattle.keeping_rows.proofs.windows.offer.Goals as goal

up_to_with_new : (now : ℕ) (key : Key) (window : WindowSeen) → IsUpTo now window → IsUpTo now (with_new key now window)
up_to_with_new now key window up_to = by (is_some (seen_at now key window)) refl
  where
    by : (b : Bool) → is_some (seen_at now key window) ≡ b → IsUpTo now (with_new key now window)
    by true seen = subst (IsUpTo now) (with_new-seen key now window seen) up_to
    by false unseen = subst (IsUpTo now) (with_new-unseen key now window unseen) (IsUpTo-with_key now key window up_to)

-- a packet that is put, or isn't for want of memory
up_to_after : {E : Type 0} (r : Result (Option ℕ) E) (now : ℕ) (key : Key) (old new : WindowSeen) → IsUpTo now old → OnOk r (new ≡ with_new key now old) → OnErr r (new ≡ old) → IsUpTo now new
up_to_after (Ok seen) now key old new up_to put same = subst (IsUpTo now) (sym put) (up_to_with_new now key old up_to)
up_to_after (Err e) now key old new up_to put same = subst (IsUpTo now) (sym same) up_to

pub note-requires-clause-inside : goal.note-requires-clause-inside
note-requires-clause-inside c =
    subst (λ window. list_all (is_inside_pair window.seconds c.args.now) window.pairs ≡ true) (sym c.expire.ensures) (inside_expired c.args.now c.args.window.now)

pub note-requires-clause-later : goal.note-requires-clause-later
note-requires-clause-later c = subst (IsUpTo c.args.now) (sym c.expire.ensures) (IsUpTo-expired c.args.now c.args.now c.args.window.now c.requires)

pub returns : goal.returns
returns c =
    up_to_after c.note.result c.args.now c.args.key.now c.expire.new.self c.note.new.self
    (subst (IsUpTo c.args.now) (sym c.expire.ensures) (IsUpTo-expired c.args.now c.args.now c.args.window.now c.requires)) c.note.ensures.ok c.note.ensures.err
