-- What the rule keeps: a rewritten packet's parts are again parts of a text, with one construct at most.
use Rattle.std.proofs.Common.{◌≡◌, ℕ, suc, ◌+◌, ◌-◌, ◌≤◌, Bool, true, false, cond, not, ◌||◌, ◌&&◌, List, [], ◌∷◌, ◌++◌, map, take, drop, length, Option, Result, Ok, Err, refl, sym, ap, ◌∙◌, subst, leb, ltb, arith}
use Rattle.std.specs.Prelude.{count_by, codes, IfOk, OnOk, if◌then◌else◌}
use Rattle.tnc2_line.specs.Pieces.{Fills}
use Rattle.std.specs.List.{list_all, list_any, position_or_len}
use Rattle.std.proofs.lemmas.Bool.{and_parts, and_from, or_parts, or_from, or_left, ltb-false, not-true, not_from_false, leb-true}
use Rattle.std.proofs.lemmas.List.Folds.{list_all-append, list_any-append}
use Rattle.std.proofs.lemmas.List.Sums.{sum_by-append, sum_by-cons}
use Rattle.std.proofs.lemmas.List.{take-append-drop, append-nil, length-drop, drop-append-le, map-append}
use Rattle.aprs_base.specs.Bytes.{is_call, is_construct, is_station}
use Rattle.aprs_base.specs.declared.packets.Via.{Via}
use Rattle.tnc2_line.specs.Packet.{IsParts, text_of, names_construct, from_construct, is_element, has_no_star}
use Rattle.aprs_base.specs.ResultSteps.{◌>>=◌}
use Rattle.q_construct.specs.declared.origins.Origin.{Origin}
use Rattle.q_construct.specs.Rule.{Row, first_row, rows, built_row, common_rows, name_of, is_udp, is_unverified, same, plain, starred, ending, has_construct, first_call, before, given_path, ends_in_gate, gate_front, gate_call, construct_of, among, names_after, with_name, with_path, traced, refused, when, is_submission, keeps_names, is_alone, bars, begins_with, given_drops, built_drops, is_long, process_of}
use Rattle.q_construct.specs.declared.drops.QDrop.{QDrop}
use Rattle.q_construct.specs.declared.drops.QDrop.TheVariants as drop_for
use Rattle.aprs_base.specs.PartsSeen.{PartsSeen}
use Rattle.tnc2_line.proofs.Cuts.{any_below, none_past}
use Rattle.tnc2_line.proofs.Laws.{bind_ok, refused as not_refused, sound_is, is_sound, good_is, is_good}
use Rattle.std.specs.Cmp.Lexicographic.{bytes_decides}
use Rattle.std.proofs.Math.Seq.{drop-append-add}
use Rattle.std.proofs.Math.ListN.{drop_of_length-le}
use Rattle.q_construct.proofs.RowLemmas.{construct_none}

-- ---- lists of elements

tests_split : (test : Via → Bool) (n : ℕ) (path : List Via) → list_all test path ≡ true → (list_all test (take n path) ≡ true) × (list_all test (drop n path) ≡ true)
tests_split test n path h = and_parts _ _ (sym (list_all-append test (take n path) (drop n path)) ∙ ap (list_all test) (take-append-drop n path) ∙ h)

none_split : (test : Via → Bool) (n : ℕ) (path : List Via) → list_any test path ≡ false → (list_any test (take n path) ≡ false) × (list_any test (drop n path) ≡ false)
none_split test n path h = or_parts _ _ (sym (list_any-append test (take n path) (drop n path)) ∙ ap (list_any test) (take-append-drop n path) ∙ h)

count_append : (xs ys : List Via) → count_by names_construct (xs ++ ys) ≡ count_by names_construct xs + count_by names_construct ys
count_append xs ys = sum_by-append (λ via. cond (names_construct via) 1 0) xs ys

count_cons : (via : Via) (vias : List Via) → count_by names_construct (via ∷ vias) ≡ cond (names_construct via) 1 0 + count_by names_construct vias
count_cons via vias = sum_by-cons (λ v. cond (names_construct v) 1 0) via vias

none_count : (path : List Via) → list_any names_construct path ≡ false → count_by names_construct path ≡ 0
none_count [] h = refl
none_count (via ∷ vias) h =
    let parts = or_parts (names_construct via) (list_any names_construct vias) h in
    count_cons via vias ∙ rw parts.0 (omega (arith, none_count vias parts.1))

some_count : (path : List Via) → list_any names_construct path ≡ true → 1 ≤ count_by names_construct path
some_count [] h = cc
some_count (via ∷ vias) h =
    let more : 1 ≤ cond (names_construct via) 1 0 + count_by names_construct vias =
    elim (names_construct via) as (λ b. (b || list_any names_construct vias) ≡ true → 1 ≤ cond b 1 0 + count_by names_construct vias) [
      | true ↦ λ e. omega arith
      | false ↦ λ e. omega (arith, some_count vias e)
    ] h in
    omega (arith, count_cons via vias, more)

from_none : (path more : List Via) → list_any names_construct path ≡ false → from_construct (path ++ more) ≡ from_construct more
from_none [] more h = refl
from_none (via ∷ vias) more h = let parts = or_parts (names_construct via) (list_any names_construct vias) h in rw parts.0 (from_none vias more parts.1)

from_some : (path more : List Via) → list_any names_construct path ≡ true → from_construct (path ++ more) ≡ from_construct path ++ more
from_some [] more h = cc
from_some (via ∷ vias) more h =
    elim (names_construct via) as (λ b. (b || list_any names_construct vias) ≡ true → cond b (via ∷ (vias ++ more)) (from_construct (vias ++ more)) ≡ cond b (via ∷ vias) (from_construct vias) ++ more) [
      | true ↦ λ e. refl
      | false ↦ λ e. from_some vias more e
    ] h

-- ---- paths without a construct, and paths with one at most

pub record Free (path : List Via) : Type 0 where
  pub elements : list_all is_element path ≡ true
  pub none : list_any names_construct path ≡ false

pub record Fine (path : List Via) : Type 0 where
  pub elements : list_all is_element path ≡ true
  pub constructs : count_by names_construct path ≤ 1
  pub stars : list_all has_no_star (from_construct path) ≡ true

free_take : (n : ℕ) (path : List Via) → Free path → Free (take n path)
free_take n path f = record { elements = (tests_split is_element n path f.elements).0; none = (none_split names_construct n path f.none).0 }

free_drop : (n : ℕ) (path : List Via) → Free path → Free (drop n path)
free_drop n path f = record { elements = (tests_split is_element n path f.elements).1; none = (none_split names_construct n path f.none).1 }

fine_free : (path : List Via) → Free path → Fine path
fine_free path f = record {
  elements = f.elements;
  constructs = omega (arith, none_count path f.none);
  stars = ap (list_all has_no_star) (ap from_construct (sym (append-nil path)) ∙ from_none path [] f.none);
}

free_of : (path : List Via) → list_any names_construct path ≡ false → Fine path → Free path
free_of path none f = record { elements = f.elements; none = none }

not_construct : (name : List ℕ) → is_station name ≡ true → is_construct name ≡ false
not_construct name h = not-true _ (and_parts (is_call name) (not (is_construct name)) h).1

-- a construct of this letter, and a station's call
fine_ending : (front : List Via) (letter : ℕ) (name : List ℕ) → is_construct (113 ∷ 65 ∷ letter ∷ []) ≡ true → is_call (113 ∷ 65 ∷ letter ∷ []) ≡ true
    → Free front → is_station name ≡ true → Fine (front ++ ending (113 ∷ 65 ∷ letter ∷ []) name)
fine_ending front letter name is_one construct_call f station =
    let construct : List ℕ = 113 ∷ 65 ∷ letter ∷ [] in
    let call : is_call name ≡ true = (and_parts (is_call name) (not (is_construct name)) station).0 in
    let other = not_construct name station in
    let count : count_by names_construct (ending construct name) ≡ 1 = rw (is_one, other) refl in
    record {
      elements = list_all-append is_element front (ending construct name) ∙ and_from _ _ f.elements (and_from _ _ construct_call (and_from _ _ call refl));
      constructs = omega (arith, count_append front (ending construct name), none_count front f.none, count);
      stars = ap (list_all has_no_star) (from_none front (ending construct name) f.none) ∙ rw is_one refl;
    }

fine_named : (path : List Via) (name : List ℕ) → Fine path → list_any names_construct path ≡ true → is_station name ≡ true → Fine (path ++ plain name ∷ [])
fine_named path name f has station =
    let call : is_call name ≡ true = (and_parts (is_call name) (not (is_construct name)) station).0 in
    let other = not_construct name station in
    let count : count_by names_construct (plain name ∷ []) ≡ 0 = rw other refl in
    record {
      elements = list_all-append is_element path (plain name ∷ []) ∙ and_from _ _ f.elements (and_from _ _ call refl);
      constructs = omega (arith, count_append path (plain name ∷ []), f.constructs, count);
      stars = ap (list_all has_no_star) (from_some path (plain name ∷ []) has) ∙ list_all-append has_no_star (from_construct path) (plain name ∷ []) ∙ and_from _ _ f.stars refl;
    }

-- ---- the parts of a path

none_from_count : (path : List Via) → count_by names_construct path ≡ 0 → list_any names_construct path ≡ false
none_from_count path h =
    elim (list_any names_construct path) as (λ b. list_any names_construct path ≡ b → b ≡ false) [
      | true ↦ λ e. absurd (let some : 1 ≤ count_by names_construct path = some_count path e in omega arith)
      | false ↦ λ _. refl
    ] refl

pub given_fine : (path : List Via) → Fine path → Fine (given_path path)
given_fine path f =
    elim (has_construct (drop (length path - 1) path)) as (λ b. has_construct (drop (length path - 1) path) ≡ b → Fine (cond b (take (length path - 1) path) path)) [
      | true ↦ λ last.
          let all : count_by names_construct path ≡ count_by names_construct (take (length path - 1) path) + count_by names_construct (drop (length path - 1) path) =
          ap (count_by names_construct) (sym (take-append-drop (length path - 1) path)) ∙ count_append (take (length path - 1) path) (drop (length path - 1) path) in
          let none : count_by names_construct (take (length path - 1) path) ≡ 0 = omega (arith, all, f.constructs, some_count (drop (length path - 1) path) last) in
          fine_free (take (length path - 1) path) (record { elements = (tests_split is_element (length path - 1) path f.elements).0; none = none_from_count (take (length path - 1) path) none })
      | false ↦ λ _. f
    ] refl

take_one : (n : ℕ) (via : Via) (vias : List Via) → take (1 + n) (via ∷ vias) ≡ via ∷ take n vias
take_one n via vias = let e : 1 + n ≡ suc n = omega arith in rw e refl

none_before : (path : List Via) → list_any names_construct (take (position_or_len names_construct path) path) ≡ false
none_before [] = refl
none_before (via ∷ vias) =
    elim (names_construct via) as (λ b. names_construct via ≡ b → list_any names_construct (take (cond (not b) (1 + position_or_len names_construct vias) 0) (via ∷ vias)) ≡ false) [
      | true ↦ λ _. refl
      | false ↦ λ e. rw (take_one (position_or_len names_construct vias) via vias, e) (none_before vias)
    ] refl

before_free : (path : List Via) → Fine path → Free (before path)
before_free path f = record { elements = (tests_split is_element (position_or_len names_construct path) path f.elements).0; none = none_before path }

first_station : (path : List Via) → Free path → 1 ≤ length path → is_station (first_call path) ≡ true
first_station [] f h = absurd (omega arith)
first_station (via ∷ vias) f h =
    let call = (and_parts _ _ f.elements).0 in
    let none = (or_parts _ _ f.none).0 in
    and_from _ _ call (not_from_false _ none)

gate_station : (path : List Via) → Free path → ends_in_gate path ≡ true → is_station (gate_call path) ≡ true
gate_station path f ends =
    let long : 2 ≤ length path = leb-true _ _ (and_parts (leb 2 (length path)) _ ends).0 in
    first_station (drop (length path - 2) path) (free_drop (length path - 2) path f) (omega (arith, length-drop (length path - 2) path))

-- ---- the rows

-- P holds of the path of the first row that fits
abbrev RowsMeet : (List Via → Type 0) → List Row → Type 0
RowsMeet P [] = P []
RowsMeet P (r ∷ rest) = (r.fits ≡ true → P r.path) × (r.fits ≡ false → RowsMeet P rest)

first_meets : (P : List Via → Type 0) (rs : List Row) → RowsMeet P rs → P (first_row rs).path
first_meets P [] h = h
first_meets P (r ∷ rest) h =
    elim (r.fits) as (λ b. r.fits ≡ b → P (cond b r (first_row rest)).path) [
      | true ↦ λ e. h.0 e
      | false ↦ λ e. first_meets P rest (h.1 e)
    ] refl

-- a row that fits, or those behind it
row_or : {A B : Type 0} → A → B → A × B
row_or here behind = (here, behind)

free_one : (call : List ℕ) → is_station call ≡ true → Free (starred call ∷ [])
free_one call h = record { elements = and_from _ _ (and_parts (is_call call) (not (is_construct call)) h).0 refl; none = or_from _ _ (not_construct call h) refl }

module _ (source : List ℕ) (origin : Origin) (server : List ℕ) (given : List Via) (fine : Fine given) (served : is_station server ≡ true) (named : is_station (name_of origin) ≡ true) where
  common_fine : RowsMeet Fine (common_rows source origin server given)
  common_fine =
      row_or (λ _. fine) (λ none. let free = free_of given none fine in
      row_or (λ _. fine_ending (gate_front given) 82 (name_of origin) refl refl (free_take (length given - 2) given free) named) (λ _.
      row_or (λ ends. fine_ending (gate_front given) 114 (gate_call given) refl refl (free_take (length given - 2) given free) (gate_station given free ends)) (λ _.
      row_or (λ _. fine_ending (starred (codes "TCPIP") ∷ []) 67 server refl refl (free_one (codes "TCPIP") refl) served) (λ _.
      row_or (λ _. fine_ending given 83 (name_of origin) refl refl free named) (λ no. cc)))))

  -- what is no construct's path is free
  free_if : (b c : Bool) → ((b && not (has_construct given)) && c) ≡ true → Free given
  free_if b c h = free_of given (not-true _ (and_parts _ _ (and_parts _ _ h).0).1) fine

  pub built_fine : Fine (built_row source origin server given).path
  unfolding built_row rows
  built_fine =
      first_meets Fine (rows source origin server given) (
      row_or (λ _. fine_ending (starred (codes "TCPIP") ∷ []) 85 server refl refl (free_one (codes "TCPIP") refl) served) (λ _.
      row_or (λ _. fine_ending (before given) 85 server refl refl (before_free given fine) served) (λ _.
      row_or (λ _. fine_ending (starred (codes "TCPXX") ∷ []) 88 server refl refl (free_one (codes "TCPXX") refl) served) (λ _.
      row_or (λ _. fine_ending (before given) 111 (name_of origin) refl refl (before_free given fine) named) (λ _.
      row_or (λ gate. fine_ending (gate_front given) 111 (name_of origin) refl refl (free_take (length given - 2) given (free_if _ _ gate)) named) (λ _.
      row_or (λ alone. fine_ending given 79 (name_of origin) refl refl (free_if _ _ alone) named) (λ _. common_fine)))))))

-- ---- the trace

traced_has : (path : List Via) → same (construct_of path) (codes "qAI") ≡ true → has_construct path ≡ true
traced_has path h =
    elim (has_construct path) as (λ b. has_construct path ≡ b → b ≡ true) [
      | true ↦ λ _. refl
      | false ↦ λ none. let other : same (construct_of path) (codes "qAI") ≡ false = ap (λ c. same c (codes "qAI")) (construct_none path none) in cc
    ] refl

has_more : (path more : List Via) → has_construct path ≡ true → has_construct (path ++ more) ≡ true
has_more path more h = list_any-append names_construct path more ∙ or_left _ _ h

with_name_fine : (name : List ℕ) (path : List Via) → is_station name ≡ true → Fine path → has_construct path ≡ true → Fine (with_name name path) × (has_construct (with_name name path) ≡ true)
with_name_fine name path station f has =
    elim (among name (names_after path)) as (λ b. Fine (cond b path (path ++ plain name ∷ [])) × (has_construct (cond b path (path ++ plain name ∷ [])) ≡ true)) [
      | true ↦ (f, has)
      | false ↦ (fine_named path name f has station, has_more path (plain name ∷ []) has)
    ]

pub traced_fine : (name server : List ℕ) (path : List Via) → is_station name ≡ true → is_station server ≡ true → Fine path → Fine (traced name server path)
traced_fine name server path named served f =
    elim (same (construct_of path) (codes "qAI")) as (λ b. same (construct_of path) (codes "qAI") ≡ b → Fine (cond b (with_name server (with_name name path)) path)) [
      | true ↦ λ e.
          let first = with_name_fine name path named f (traced_has path e) in
          (with_name_fine server (with_name name path) served first.0 first.1).0
      | false ↦ λ _. f
    ] refl

-- ---- the answer

abbrev pub built_path : PartsSeen → Origin → List ℕ → List Via
built_path parts origin server = (built_row parts.source origin server (given_path parts.vias)).path

abbrev pub whole_of : PartsSeen → Origin → List ℕ → PartsSeen
whole_of parts origin server = with_path parts (traced (name_of origin) server (built_path parts origin server))

-- what is known of an answer
pub record Answer (parts : PartsSeen) (origin : Origin) (server : List ℕ) (others : List (List ℕ)) (whole : PartsSeen) : Type 0 where
  pub given : refused (given_drops parts origin server (given_path parts.vias)) ≡ Ok tt
  pub whole_is : whole_of parts origin server ≡ whole
  pub not_long : is_long (whole_of parts origin server) ≡ false

abbrev finished : PartsSeen → Result PartsSeen QDrop
finished whole = if is_long whole then Err drop_for.Long else Ok whole

pub answer_is : (parts : PartsSeen) (origin : Origin) (server : List ℕ) (others : List (List ℕ)) (whole : PartsSeen) → process_of parts origin server others ≡ Ok whole → Answer parts origin server others whole
unfolding process_of
answer_is parts origin server others whole h =
    let built = built_row parts.source origin server (given_path parts.vias) in
    let a = bind_ok (refused (given_drops parts origin server (given_path parts.vias)))
    (λ _. refused (built_drops origin server others built.checked built.path) >>= λ _. finished (whole_of parts origin server)) whole h in
    let b = bind_ok (refused (built_drops origin server others built.checked built.path)) (λ _. finished (whole_of parts origin server)) whole a.2 in
    let c = not_refused (is_long (whole_of parts origin server)) (whole_of parts origin server) whole drop_for.Long b.2 in
    record { given = a.1; whole_is = c.1; not_long = c.0 }

-- a rewritten packet's parts are those of a text
pub answer_sound : (parts : PartsSeen) (origin : Origin) (server : List ℕ) (others : List (List ℕ)) (whole : PartsSeen) → IsParts parts → is_station server ≡ true → is_station (name_of origin) ≡ true
    → Answer parts origin server others whole → IsParts whole
answer_sound parts origin server others whole sound served named a =
    let s = sound_is parts sound in
    let good = good_is parts.vias s.path in
    let given = given_fine parts.vias (record { elements = good.elements; constructs = good.constructs; stars = good.stars }) in
    let built = built_fine parts.source origin server (given_path parts.vias) given served named in
    let path = traced_fine (name_of origin) server (built_path parts origin server) named served built in
    let short = or_parts (ltb 32 (length (whole_of parts origin server).vias)) _ a.not_long in
    subst (λ w. IsParts w) a.whole_is (is_sound (whole_of parts origin server) (record {
      source = s.source;
      dest = s.dest;
      path = is_good (whole_of parts origin server).vias (record { few = ltb-false _ _ short.0; elements = path.elements; constructs = path.constructs; stars = path.stars });
      has_body = s.has_body;
      body = s.body;
    }))

-- the line of an answer isn't too long
pub answer_short : (parts : PartsSeen) (origin : Origin) (server : List ℕ) (others : List (List ℕ)) (whole : PartsSeen) → Answer parts origin server others whole → length (text_of whole) ≤ 510
answer_short parts origin server others whole a =
    let short = or_parts (ltb 32 (length (whole_of parts origin server).vias)) (ltb 510 (length (text_of (whole_of parts origin server)))) a.not_long in
    subst (λ w. length (text_of w) ≤ 510) a.whole_is (ltb-false _ _ short.1)

-- source, destination and body stay
pub answer_stays : (parts : PartsSeen) (origin : Origin) (server : List ℕ) (others : List (List ℕ)) (whole : PartsSeen) → Answer parts origin server others whole
    → (whole.source ≡ parts.source) × (whole.dest ≡ parts.dest) × (whole.body ≡ parts.body)
answer_stays parts origin server others whole a =
    (ap (λ w. w.source) (sym a.whole_is), ap (λ w. w.dest) (sym a.whole_is), ap (λ w. w.body) (sym a.whole_is))

-- ---- the drops that don't apply

passes : (b : Bool) (d : QDrop) (rest : List (Option QDrop)) → refused (when b d ∷ rest) ≡ Ok tt → (b ≡ false) × (refused rest ≡ Ok tt)
passes true d rest h = cc
passes false d rest h = (refl, h)

-- the server doesn't stand after the given construct
pub answer_not_named : (parts : PartsSeen) (origin : Origin) (server : List ℕ) (others : List (List ℕ)) (whole : PartsSeen) → Answer parts origin server others whole
    → among server (names_after (given_path parts.vias)) ≡ false
unfolding given_drops
answer_not_named parts origin server others whole a =
    let given = given_path parts.vias in
    let p1 = passes (is_unverified origin && not (same parts.source (name_of origin))) drop_for.Unverified _ a.given in
    let p2 = passes (is_submission origin && list_any bars (before given)) drop_for.NoGate _ p1.1 in
    let p3 = passes (is_submission origin && begins_with 125 parts.body) drop_for.ThirdParty _ p2.1 in
    let p4 = passes (is_submission origin && begins_with 63 parts.body) drop_for.Query _ p3.1 in
    let p5 = passes (same (construct_of given) (codes "qAZ")) drop_for.QAZ _ p4.1 in
    (passes (among server (names_after given)) drop_for.NamesServer _ p5.1).0

-- ---- the calls after the construct

place_more : (path more : List Via) → list_any names_construct path ≡ true → position_or_len names_construct (path ++ more) ≡ position_or_len names_construct path
place_more [] more h = cc
place_more (via ∷ vias) more h =
    elim (names_construct via) as (λ b. (b || list_any names_construct vias) ≡ true → cond (not b) (1 + position_or_len names_construct (vias ++ more)) 0 ≡ cond (not b) (1 + position_or_len names_construct vias) 0) [
      | true ↦ λ e. refl
      | false ↦ λ e. ap (λ n. 1 + n) (place_more vias more e)
    ] h

place_behind : (front more : List Via) → list_any names_construct front ≡ false → position_or_len names_construct (front ++ more) ≡ length front + position_or_len names_construct more
place_behind [] more h = omega arith
place_behind (via ∷ vias) more h =
    let parts = or_parts (names_construct via) (list_any names_construct vias) h in
    rw parts.0 (omega (arith, place_behind vias more parts.1))

names_none : (path : List Via) → list_any names_construct path ≡ false → names_after path ≡ []
names_none path h =
    let past : drop (position_or_len names_construct path + 1) path ≡ [] = drop_of_length-le path (omega (arith, none_past names_construct path h)) in
    ap (λ vias. map (λ (via : Via). via.call) vias) past

pub names_more : (path more : List Via) → list_any names_construct path ≡ true → names_after (path ++ more) ≡ names_after path ++ map (λ via. via.call) more
names_more path more h =
    let place = place_more path more h in
    let rest : drop (position_or_len names_construct path + 1) (path ++ more) ≡ drop (position_or_len names_construct path + 1) path ++ more =
    drop-append-le (position_or_len names_construct path + 1) path more (omega (arith, any_below names_construct path h)) in
    ap (λ n. map (λ (via : Via). via.call) (drop (n + 1) (path ++ more))) place ∙ ap (λ vias. map (λ (via : Via). via.call) vias) rest
    ∙ map-append (λ (via : Via). via.call) (drop (position_or_len names_construct path + 1) path) more

names_ending : (front : List Via) (construct name : List ℕ) → list_any names_construct front ≡ false → is_construct construct ≡ true → names_after (front ++ ending construct name) ≡ name ∷ []
names_ending front construct name none letter =
    let first : position_or_len names_construct (ending construct name) ≡ 0 = rw letter refl in
    let place : position_or_len names_construct (front ++ ending construct name) + 1 ≡ length front + 1 = omega (arith, place_behind front (ending construct name) none, first) in
    ap (λ n. map (λ (via : Via). via.call) (drop n (front ++ ending construct name))) place
    ∙ ap (λ vias. map (λ (via : Via). via.call) vias) (drop-append-add front (ending construct name) 1)

names_behind : (front more : List Via) → list_any names_construct front ≡ false → names_after (front ++ more) ≡ names_after more
names_behind front more none =
    let place : position_or_len names_construct (front ++ more) + 1 ≡ length front + (position_or_len names_construct more + 1) = omega (arith, place_behind front more none) in
    ap (λ n. map (λ (via : Via). via.call) (drop n (front ++ more))) place ∙ ap (λ vias. map (λ (via : Via). via.call) vias) (drop-append-add front more (position_or_len names_construct more + 1))

names_last : (path : List Via) → length path ≤ 1 → names_after path ≡ []
names_last [] h = refl
names_last (via ∷ []) h =
    elim (names_construct via) as (λ b. map (λ (v : Via). v.call) (drop (cond (not b) (1 + 0) 0 + 1) (via ∷ [])) ≡ []) [ true ↦ refl | false ↦ refl ]
names_last (via ∷ next ∷ vias) h = absurd (omega arith)

-- where a construct stands last, no call stands after it
names_deleted : (path : List Via) → Fine path → has_construct (drop (length path - 1) path) ≡ true → names_after path ≡ []
names_deleted path f last =
    let front = take (length path - 1) path in
    let back = drop (length path - 1) path in
    let all : count_by names_construct path ≡ count_by names_construct (take (length path - 1) path) + count_by names_construct (drop (length path - 1) path) =
    ap (count_by names_construct) (sym (take-append-drop (length path - 1) path)) ∙ count_append (take (length path - 1) path) (drop (length path - 1) path) in
    let none : count_by names_construct (take (length path - 1) path) ≡ 0 = omega (arith, all, f.constructs, some_count (drop (length path - 1) path) last) in
    ap names_after (sym (take-append-drop (length path - 1) path)) ∙ names_behind front back (none_from_count front none)
    ∙ names_last back (omega (arith, length-drop (length path - 1) path))

pub names_given : (path : List Via) → Fine path → names_after (given_path path) ≡ names_after path
names_given path f =
    elim (has_construct (drop (length path - 1) path)) as (λ b. has_construct (drop (length path - 1) path) ≡ b → names_after (cond b (take (length path - 1) path) path) ≡ names_after path) [
      | true ↦ λ last.
          let none : list_any names_construct (take (length path - 1) path) ≡ false =
          none_from_count (take (length path - 1) path) (omega (
            arith,
            some_count (drop (length path - 1) path) last,
            f.constructs,
            ap (count_by names_construct) (sym (take-append-drop (length path - 1) path)) ∙ count_append (take (length path - 1) path) (drop (length path - 1) path),
          )) in
          names_none (take (length path - 1) path) none ∙ sym (names_deleted path f last)
      | false ↦ λ _. refl
    ] refl

-- each call after the construct of the one path stands after that of the other
abbrev pub Keeps : List Via → List Via → Type 0
Keeps given path = (name : List ℕ) → among name (names_after given) ≡ true → among name (names_after path) ≡ true

alone_kept : (login name : List ℕ) (names : List (List ℕ)) → is_alone login names ≡ true → among name names ≡ true → among name (login ∷ []) ≡ true
alone_kept login name [] alone h = cc
alone_kept login name (only ∷ []) alone h =
    let e : only ≡ login = (bytes_decides only login).0 alone in
    subst (λ n. among name (n ∷ []) ≡ true) e h
alone_kept login name (only ∷ next ∷ more) alone h = cc

module _ (source : List ℕ) (origin : Origin) (server : List ℕ) (given : List Via) (fine : Fine given) (keeps : keeps_names origin ≡ true) where
  none_kept : (path : List Via) → has_construct given ≡ false → Keeps given path
  none_kept path none name h = absurd (let e : among name (names_after given) ≡ false = ap (among name) (names_none given none) in cc)

  common_kept : RowsMeet (Keeps given) (common_rows source origin server given)
  common_kept =
      row_or (λ _ name h. h) (λ none.
      row_or (λ _. none_kept (gate_front given ++ ending (codes "qAR") (name_of origin)) none) (λ _.
      row_or (λ _. none_kept (gate_front given ++ ending (codes "qAr") (gate_call given)) none) (λ _.
      row_or (λ _. none_kept (starred (codes "TCPIP") ∷ ending (codes "qAC") server) none) (λ _.
      row_or (λ _. none_kept (given ++ ending (codes "qAS") (name_of origin)) none) (λ no. cc)))))

  no_construct_if : (b c : Bool) → ((b && not (has_construct given)) && c) ≡ true → has_construct given ≡ false
  no_construct_if b c h = not-true _ (and_parts _ _ (and_parts _ _ h).0).1

  pub built_kept : Keeps given (built_row source origin server given).path
  unfolding built_row rows
  built_kept =
      let between = and_parts (not (is_udp origin)) (not (is_unverified origin)) keeps in
      let not_udp = not-true (is_udp origin) between.0 in
      let verified = not-true (is_unverified origin) between.1 in
      let alone_rest : names_after (before given ++ ending (codes "qAo") (name_of origin)) ≡ name_of origin ∷ [] =
      names_ending (before given) (codes "qAo") (name_of origin) (before_free given fine).none refl in
      first_meets (Keeps given) (rows source origin server given) (
      row_or (λ udp. absurd (let e : is_udp origin ≡ true = (and_parts (is_udp origin) (same source (name_of origin)) udp).0 in cc)) (λ _.
      row_or (λ udp. absurd (let e : is_udp origin ≡ true = udp in cc)) (λ _.
      row_or (λ un. absurd (let e : is_unverified origin ≡ true = un in cc)) (λ _.
      row_or (λ alone name h.
      ap (among name) alone_rest ∙ alone_kept (name_of origin) name (names_after given) (and_parts _ (is_alone (name_of origin) (names_after given)) alone).1 h) (λ _.
      row_or (λ gate. none_kept (gate_front given ++ ending (codes "qAo") (name_of origin)) (no_construct_if _ _ gate)) (λ _.
      row_or (λ other. none_kept (given ++ ending (codes "qAO") (name_of origin)) (no_construct_if _ _ other)) (λ _. common_kept)))))))

with_name_kept : (name : List ℕ) (path : List Via) → has_construct path ≡ true → Keeps path (with_name name path)
with_name_kept name path has =
    elim (among name (names_after path)) as (λ b. Keeps path (cond b path (path ++ plain name ∷ []))) [
      | true ↦ λ _ h. h
      | false ↦ λ other h. ap (among other) (names_more path (plain name ∷ []) has) ∙ list_any-append (same other) (names_after path) (name ∷ []) ∙ or_left _ _ h
    ]

with_name_has : (name : List ℕ) (path : List Via) → has_construct path ≡ true → has_construct (with_name name path) ≡ true
with_name_has name path has =
    elim (among name (names_after path)) as (λ b. has_construct (cond b path (path ++ plain name ∷ [])) ≡ true) [
      | true ↦ has
      | false ↦ has_more path (plain name ∷ []) has
    ]

traced_kept : (name server : List ℕ) (path : List Via) → Keeps path (traced name server path)
traced_kept name server path =
    elim (same (construct_of path) (codes "qAI")) as (λ b. same (construct_of path) (codes "qAI") ≡ b → Keeps path (cond b (with_name server (with_name name path)) path)) [
      | true ↦ λ e other h.
          let has = traced_has path e in
          with_name_kept server (with_name name path) (with_name_has name path has) other (with_name_kept name path has other h)
      | false ↦ λ _ other h. h
    ] refl

sound_fine : (parts : PartsSeen) → IsParts parts → Fine parts.vias
sound_fine parts sound = let good = good_is parts.vias (sound_is parts sound).path in record { elements = good.elements; constructs = good.constructs; stars = good.stars }

-- between servers each call after the construct stays there
pub answer_keeps : (parts : PartsSeen) (origin : Origin) (server : List ℕ) (others : List (List ℕ)) (whole : PartsSeen) → IsParts parts → keeps_names origin ≡ true
    → Answer parts origin server others whole → Keeps parts.vias whole.vias
answer_keeps parts origin server others whole sound keeps a =
    let fine = sound_fine parts sound in
    subst (λ w. Keeps parts.vias w.vias) a.whole_is (λ name h.
    traced_kept (name_of origin) server (built_path parts origin server) name
    (built_kept parts.source origin server (given_path parts.vias) (given_fine parts.vias fine) keeps name (ap (among name) (names_given parts.vias fine) ∙ h)))

pub answer_unnamed : (parts : PartsSeen) (origin : Origin) (server : List ℕ) (others : List (List ℕ)) (whole : PartsSeen) → IsParts parts → Answer parts origin server others whole
    → among server (names_after parts.vias) ≡ false
answer_unnamed parts origin server others whole sound a =
    ap (among server) (sym (names_given parts.vias (sound_fine parts sound))) ∙ answer_not_named parts origin server others whole a

-- what holds of each answer holds of this one
pub on_answer : (parts : PartsSeen) (origin : Origin) (server : List ℕ) (others : List (List ℕ)) (r : Result PartsSeen QDrop) (P : PartsSeen → Type 0)
    → r ≡ process_of parts origin server others → ((whole : PartsSeen) → Answer parts origin server others whole → P whole) → IfOk r P
on_answer parts origin server others (Ok whole) P e each = each whole (answer_is parts origin server others whole (sym e))
on_answer parts origin server others (Err d) P e each = tt

-- what holds of each answer holds of the parts that were filled with one
pub on_filled : {X : Type 0} (parts : PartsSeen) (origin : Origin) (server : List ℕ) (others : List (List ℕ)) (r : Result X QDrop) (left : PartsSeen) (P : Type 0)
    → Fills r left (process_of parts origin server others) → (Answer parts origin server others left → P) → OnOk r P
on_filled parts origin server others (Ok x) left P fills each = each (answer_is parts origin server others left fills)
on_filled parts origin server others (Err d) left P fills each = tt
