-- Where no listener is only cast from, each serves what comes there.
use Rattle.std.proofs.Common.{◌≡◌, ℕ, Bool, true, false, [], length, refl, sym, ap, arith, nat_lt, None, if◌then◌else◌}
use Rattle.std.specs.Prelude.{slice_get}
use Rattle.std.proofs.lemmas.Bool.{ltb-false}
use Rattle.std.proofs.lemmas.Option.{slice_get_past}
use Rattle.aprs_history.specs.Setting.{Setting, kind_at, kind_of_spec, serving_listens}

pub kind_at_plain : (s : Setting) → s.downs ≡ [] → (listener : ℕ) → kind_at s listener ≡ kind_of_spec (slice_get s.listens listener)
kind_at_plain s none listener = of (nat_lt listener (serving_listens s)) refl
  where
    of : (b : Bool) → nat_lt listener (serving_listens s) ≡ b → (if b then kind_of_spec (slice_get s.listens listener) else None) ≡ kind_of_spec (slice_get s.listens listener)
    of true is = refl
    of false is = sym (ap kind_of_spec (slice_get_past s.listens listener (let past = ltb-false listener (serving_listens s) is in let all = ap length none in omega (arith, past, all))))
