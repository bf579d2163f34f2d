-- Texts that are written piece by piece.
use Rattle.std.proofs.Common.{◌≡◌, ℕ, ◌<◌, ◌≤◌, true, List, [], ◌∷◌, ◌++◌, ◌+◌, map, drop, get_or, length, refl, sym, ap, ◌∙◌, arith, append_assoc, drop-cons, add-one}
use Rattle.std.specs.Fmt.{decimal}
use Rattle.std.specs.List.{flat_map, list_all}
use Rattle.std.proofs.lemmas.Bool.{and_parts}
use Rattle.std.proofs.lemmas.Grind.{flat_map-append}
use Rattle.aprs_conf.specs.Seen.{ConfSeen}
use Rattle.aprs_conf.specs.Writing.{identity_lines, ip_text, limit_lines, line_text, list_lines, spelled, text_of_conf, word_text}
use Rattle.aprs_conf.proofs.WrittenNumbers.{IsIp, decimal_plain, decimal_some, ip_plain, ip_some}
use Rattle.aprs_conf.proofs.WrittenWords.{no_gap, no_quote}

bare : (word : List ℕ) → 0 < length word → list_all no_gap word ≡ true → list_all no_quote word ≡ true → spelled word ≡ word
bare [] some gaps quotes = absurd (omega arith)
bare (b ∷ word) some gaps quotes = rw ((and_parts (no_quote b) (list_all no_quote word) quotes).0, gaps) refl

-- an address stands without quotes
ip_bare : (ip : List ℕ) → IsIp ip → spelled (ip_text ip) ≡ ip_text ip
ip_bare ip is = (let plain = ip_plain ip is in bare (ip_text ip) (ip_some ip is) plain.1 plain.2)

-- a list's lines, written so far and left
pub line_put : {A : Type 0} (words : A → List (List ℕ)) (out new : List ℕ) (xs : List A) (i : ℕ) (x : A) → i < length xs → x ≡ get_or xs i x → new ≡ out ++ line_text (words x)
    → new ++ flat_map line_text (map words (drop (i + 1) xs)) ≡ out ++ flat_map line_text (map words (drop i xs))
line_put words out new xs i x less is e =
    let first : drop i xs ≡ x ∷ drop (i + 1) xs = rw (drop-cons xs i x less, ← is, add-one i) refl in
    let rest = flat_map line_text (map words (drop (i + 1) xs)) in
    ap (λ (text : List ℕ). text ++ rest) e
    ∙ append_assoc out (line_text (words x)) rest
    ∙ ap (λ left. out ++ flat_map line_text (map words left)) (sym first)

-- a number stands without quotes
octet_bare : (n : ℕ) → n ≤ 255 → spelled (decimal n) ≡ decimal n
octet_bare n small = (let plain = decimal_plain n (omega arith) in bare (decimal n) (decimal_some n (omega arith)) plain.1 plain.2)

-- the pieces of an address
pub ip_pieces : (ip : List ℕ) → (let octet : ℕ → ℕ = λ k. get_or ip k 0 in octet 0 ≤ 255 → octet 1 ≤ 255 → octet 2 ≤ 255 → octet 3 ≤ 255
    → word_text (ip_text ip) ≡ (decimal (octet 0) ++ 46 ∷ []) ++ (decimal (octet 1) ++ 46 ∷ []) ++ (decimal (octet 2) ++ 46 ∷ []) ++ word_text (decimal (octet 3)))
unfolding ip_text word_text
ip_pieces ip h0 h1 h2 h3 =
    ap (λ text. text ++ 32 ∷ []) (ip_bare (get_or ip 0 0 ∷ get_or ip 1 0 ∷ get_or ip 2 0 ∷ get_or ip 3 0 ∷ []) ((omega arith, h0), (omega arith, h1), (omega arith, h2), (omega arith, h3)))
    ∙ rw (octet_bare (get_or ip 3 0) h3) (simp append_assoc)

-- the pieces of the whole
pub whole_pieces : (conf : ConfSeen) → text_of_conf conf ≡ flat_map line_text (identity_lines conf) ++ flat_map line_text (limit_lines conf) ++ flat_map line_text (list_lines conf)
unfolding text_of_conf
whole_pieces conf =
    flat_map-append line_text (identity_lines conf) (limit_lines conf ++ list_lines conf)
    ∙ ap (λ text. flat_map line_text (identity_lines conf) ++ text) (flat_map-append line_text (limit_lines conf) (list_lines conf))
    ∙ sym (append_assoc (flat_map line_text (identity_lines conf)) (flat_map line_text (limit_lines conf)) (flat_map line_text (list_lines conf)))
