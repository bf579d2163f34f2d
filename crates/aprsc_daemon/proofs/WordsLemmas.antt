-- From the values that `clap` found in the words to what they ask for.
use Rattle.std.proofs.Common.{◌≡◌, ◌||◌, ℕ, ◌≤◌, ◌<◌, ◌^◌, Bool, true, false, List, [], ◌∷◌, Option, Some, None, Result, Ok, refl, sym, ap, ◌∙◌, arith, codes, drop}
use Rattle.std.specs.Option.{option_and_then, option_map_or}
use Rattle.std.proofs.lemmas.Slice.Eq.{bytes_eq-Decides}
use Rattle.std.specs.Str.Parse.{ParsesUnsigned, digits_value, without_leading_plus}
use Rattle.clap.specs.ValueTests.{is_unsigned_in}
use Rattle.std.specs.Prelude.{if◌then◌else◌}
use Rattle.clap.specs.Words.{IsUnsignedIn, Kinds, ReadsOne, Row, fault_of, matches_of}
use Rattle.clap.specs.declared.builder.value_parser.ValueParser.TheVariants as vp
use Rattle.clap.proofs.ValueTestLemmas.{accepts-Accepts, Accepts-accepts}
use Rattle.aprsc_daemon.specs.Words.{NetWordsSeen, ServerWordsSeen, asked_of, begins_with, drill_app, drill_in, drill_of, drill_said_by, if_small, names_mode, net_app, net_in, net_of, net_said_by, number_in, said_by, server_app, without_fault}
use Rattle.aprsc_daemon.specs.declared.words.DrillWords.{DrillWords}

-- a number of a range that a text reads as is its number
number_of_text : (E : Type 0) (low high : ℕ) (text : List ℕ) (n : ℕ) → ParsesUnsigned {E = E} 32 10 text (Ok n) → low ≤ n → n ≤ high → n ≡ number_in low high text
number_of_text E low high text n parses least most =
    let value : digits_value 10 (without_leading_plus text) ≡ n = sym parses.1 in
    let good : is_unsigned_in low high text ≡ true = Accepts-accepts false (vp.Unsigned low high) text (parses.0.0, rw value (omega arith), rw value least, rw value most) in
    rw good parses.1

out_of_range : (E : Type 0) (low high : ℕ) (text : List ℕ) (r : Option ℕ) → high < 2 ^ 32 → ReadsOne {T = ℕ} {E = E} (ParsesUnsigned 32 10) text r
    → ((n : ℕ) → r ≡ Some n → low ≤ n → n ≤ high → ⊥) → IsUnsignedIn low high text → ⊥
out_of_range E low high text (Some n) few reads out passed = out n refl (rw reads.1 passed.2) (rw reads.1 passed.3)
out_of_range E low high text None few reads out passed =
    let most = passed.3 in
    reads.1 (passed.0, omega (arith, most, few))

-- and where it reads as none it has the least
no_number_of_text : (E : Type 0) (low high : ℕ) (text : List ℕ) (r : Option ℕ) → high < 2 ^ 32 → ReadsOne {T = ℕ} {E = E} (ParsesUnsigned 32 10) text r
    → ((n : ℕ) → r ≡ Some n → low ≤ n → n ≤ high → ⊥) → low ≡ number_in low high text
no_number_of_text E low high text r few reads out = tried (is_unsigned_in low high text) refl
  where
    tried : (b : Bool) → is_unsigned_in low high text ≡ b → low ≡ number_in low high text
    tried true good = absurd (out_of_range E low high text r few reads out (accepts-Accepts false (vp.Unsigned low high) text good))
    tried false bad = rw bad refl

-- what a typed getter read of a text, by the first part of what its type says
reads_by : {E : Type 0} (G H : List ℕ → Result ℕ E → Type 0) (text : List ℕ) (r : Option ℕ)
    → ((t : List ℕ) (x : Result ℕ E) → G t x → H t x) → ReadsOne G text r → ReadsOne H text r
reads_by G H text (Some n) part reads = part text (Ok n) reads
reads_by G H text None part reads = (reads.0, part text _ reads.1)

-- the number that was read
pub number_found : (E : Type 0) (G : List ℕ → Result ℕ E → Type 0) → ((t : List ℕ) (x : Result ℕ E) → G t x → ParsesUnsigned 32 10 t x)
    → (low high : ℕ) (found : Option (List ℕ)) (r : Option ℕ) → (found ≡ None → r ≡ None) → ((t : List ℕ) → found ≡ Some t → ReadsOne G t r)
    → (n : ℕ) → r ≡ Some n → low ≤ n → n ≤ high → n ≡ option_map_or (number_in low high) found low
number_found E G part low high None r none some n is least most = let nothing = none refl in cc
number_found E G part low high (Some text) (Some m) none some n is least most =
    let same : m ≡ n = cc in
    rw (sym same) (number_of_text E low high text m (part text (Ok m) (some text refl)) (rw same least) (rw same most))
number_found E G part low high (Some text) None none some n is least most = cc

-- or that there is none
pub no_number_found : (E : Type 0) (G : List ℕ → Result ℕ E → Type 0) → ((t : List ℕ) (x : Result ℕ E) → G t x → ParsesUnsigned 32 10 t x)
    → (low high : ℕ) (found : Option (List ℕ)) (r : Option ℕ) → high < 2 ^ 32 → ((t : List ℕ) → found ≡ Some t → ReadsOne G t r)
    → ((n : ℕ) → r ≡ Some n → low ≤ n → n ≤ high → ⊥) → low ≡ option_map_or (number_in low high) found low
no_number_found E G part low high None r few some out = refl
no_number_found E G part low high (Some text) r few some out = no_number_of_text E low high text r few (reads_by G (ParsesUnsigned 32 10) text r part (some text refl)) out

-- ---- what the words ask for

-- the words that `clap` takes ask for what its rows say
pub asks : (words : List (List ℕ)) (rows : List Row) (said : ServerWordsSeen) → names_mode words ≡ false → fault_of server_app words ≡ []
    → rows ≡ matches_of server_app words → said ≡ said_by rows → asked_of words ≡ Some said
unfolding asked_of
asks words rows said server good found is = rw (server, good, is, found) refl

none_by_fault : {A : Type 0} (faults : Kinds) (x : A) → (faults ≡ [] → ⊥) → without_fault faults x ≡ None
none_by_fault [] x some = absurd (some refl)
none_by_fault (fault ∷ faults) x some = refl

-- and others ask for nothing
pub asks_nothing : (words : List (List ℕ)) → (fault_of server_app words ≡ [] → ⊥) → asked_of words ≡ None
unfolding asked_of
asks_nothing words bad = by_mode (names_mode words)
  where
    by_mode : (b : Bool) → (if b then None else without_fault (fault_of server_app words) (said_by (matches_of server_app words))) ≡ None
    by_mode true = refl
    by_mode false = none_by_fault (fault_of server_app words) (said_by (matches_of server_app words)) bad

-- a mode's name asks nothing of the server
pub other_mode : (words : List (List ℕ)) → names_mode words ≡ true → asked_of words ≡ None
unfolding asked_of
other_mode words mode = rw mode refl

-- ---- what they ask of a drill

pub no_drill : (words : List (List ℕ)) → (fault_of drill_app words ≡ [] → ⊥) → drill_in words ≡ None
no_drill words bad = ap (option_and_then if_small) (none_by_fault (fault_of drill_app words) (drill_said_by (matches_of drill_app words)) bad)

-- words that begin with the mode's name ask what those after it ask of a drill
pub drill_after : (words : List (List ℕ)) → begins_with (codes "drill") words ≡ true → drill_of words ≡ drill_in (drop 1 words)
unfolding drill_of
drill_after words is = rw is refl

-- and others ask nothing of a drill
pub no_mode : (words : List (List ℕ)) → begins_with (codes "drill") words ≡ false → drill_of words ≡ None
unfolding drill_of
no_mode words other = rw other refl

-- words that begin with the name of a mode ask nothing of the server
pub begins_drill : (words : List (List ℕ)) → begins_with (codes "drill") words ≡ true → asked_of words ≡ None
begins_drill words is = other_mode words (rw is refl)

pub begins_net : (words : List (List ℕ)) → begins_with (codes "net") words ≡ true → asked_of words ≡ None
begins_net words is = other_mode words (by (begins_with (codes "drill") words))
  where
    by : (b : Bool) → b || begins_with (codes "net") words ≡ true
    by true = refl
    by false = is

-- words that ask for a drill ask nothing of the server
pub only_drill : (words : List (List ℕ)) (asked : DrillWords) → drill_of words ≡ Some asked → asked_of words ≡ None
only_drill words asked drill = by_name (begins_with (codes "drill") words) refl
  where
    nothing : None ≡ Some asked → ⊥
    nothing e = cc

    by_name : (b : Bool) → begins_with (codes "drill") words ≡ b → asked_of words ≡ None
    by_name true is = begins_drill words is
    by_name false is = absurd (nothing (sym (no_mode words is) ∙ drill))

-- ---- what they ask of a network

pub no_net : (words : List (List ℕ)) → (fault_of net_app words ≡ [] → ⊥) → net_in words ≡ None
no_net words bad = none_by_fault (fault_of net_app words) (net_said_by (matches_of net_app words)) bad

pub asks_net : (words : List (List ℕ)) (rows : List Row) (said : NetWordsSeen) → fault_of net_app words ≡ [] → rows ≡ matches_of net_app words → said ≡ net_said_by rows → net_in words ≡ Some said
asks_net words rows said good found is = rw (good, is, found) refl

pub net_after : (words : List (List ℕ)) → begins_with (codes "net") words ≡ true → net_of words ≡ net_in (drop 1 words)
unfolding net_of
net_after words is = rw is refl

pub no_net_mode : (words : List (List ℕ)) → begins_with (codes "net") words ≡ false → net_of words ≡ None
unfolding net_of
no_net_mode words other = rw other refl

-- a word is no more than one of the names
begins_once : (words : List (List ℕ)) → begins_with (codes "net") words ≡ true → begins_with (codes "drill") words ≡ false
begins_once [] is = cc
begins_once (first ∷ others) is = rw ((bytes_eq-Decides first (codes "net")).0 is) refl

-- words that begin with a mode's name ask nothing by the other's
pub drill_not_net : (words : List (List ℕ)) → begins_with (codes "drill") words ≡ true → net_of words ≡ None
drill_not_net words is = by (begins_with (codes "net") words) refl
  where
    wrong : false ≡ true → ⊥
    wrong e = cc

    by : (b : Bool) → begins_with (codes "net") words ≡ b → net_of words ≡ None
    by true net = absurd (wrong (sym (begins_once words net) ∙ is))
    by false other = no_net_mode words other

-- what asks for a network asks for nothing else
begins_by_net : (words : List (List ℕ)) (asked : NetWordsSeen) → net_of words ≡ Some asked → begins_with (codes "net") words ≡ true
begins_by_net words asked net = by (begins_with (codes "net") words) refl
  where
    nothing : None ≡ Some asked → ⊥
    nothing e = cc

    by : (b : Bool) → begins_with (codes "net") words ≡ b → b ≡ true
    by true is = refl
    by false is = absurd (nothing (sym (no_net_mode words is) ∙ net))

pub only_net : (words : List (List ℕ)) (asked : NetWordsSeen) → net_of words ≡ Some asked → asked_of words ≡ None
only_net words asked net = begins_net words (begins_by_net words asked net)

pub drill_or_net : (words : List (List ℕ)) (asked : NetWordsSeen) → net_of words ≡ Some asked → drill_of words ≡ None
drill_or_net words asked net = no_mode words (begins_once words (begins_by_net words asked net))
