-- What makes two packets the same: source, destination and body, and not the way that they took (aprs-is.net, Connecting; aprsc manual).
use Rattle.std.specs.Prelude.{ℕ, ◌-◌, ◌==◌, ◌&&◌, Bool, List, length, take}
use Rattle.std.specs.List.{suffix_len}
use Rattle.std.specs.Cmp.Lexicographic.{pointwise}
use Rattle.aprs_base.specs.Bytes.{base_of, is_blank}
use Rattle.aprs_base.specs.declared.packets.Parts.{Parts}

-- source, destination without its SSID, and body without the blanks at its end
pub record Key : Type 0 where
  pub source : List ℕ
  pub dest : List ℕ
  pub body : List ℕ

abbrev pub without_last_blanks : List ℕ → List ℕ
without_last_blanks text = take (length text - suffix_len is_blank text) text

abbrev pub key_of : Parts → Key
key_of parts = record { source = parts.source; dest = base_of parts.dest; body = without_last_blanks parts.body }

abbrev pub is_text : List ℕ → List ℕ → Bool
is_text a b = pointwise ◌==◌ a b

abbrev pub is_same_key : Key → Key → Bool
is_same_key a b = is_text a.source b.source && (is_text a.dest b.dest && is_text a.body b.body)
