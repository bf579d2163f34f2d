-- Position reports: what the definition reads is what the grammar writes.
use Rattle.std.proofs.Common.{◌≡◌, ℕ, ◌+◌, false, ◌⊎◌, inl, inr, List, [], ◌∷◌, ◌++◌, length, take, drop, bit_or, Some, None, refl, sym, ap, subst, ◌∙◌, arith}
use Rattle.std.proofs.Math.ListN.{drop_of_length-le}
use Rattle.std.proofs.Math.Seq.{drop-append_seam}
use Rattle.std.proofs.lemmas.Bool.{cases_lt}
use Rattle.std.proofs.lemmas.List.{length-take-le, take-append-drop}
use Rattle.std.specs.declared.option.Option.{Option}
use Rattle.aprs_base.specs.Bytes.{base_of}
use Rattle.aprs_base.specs.declared.packets.Body.{Body}
use Rattle.aprs_base.specs.declared.packets.Place.{Place}
use Rattle.aprs_position.specs.Compressed.{compressed_place}
use Rattle.aprs_position.specs.Either.{either_place}
use Rattle.aprs_position.proofs.EitherGrammar.{either_again, either_read}
use Rattle.mic_e.specs.MicE.{mic_e_place}
use Rattle.mic_e.proofs.GrammarLemmas.{place_again, place_read}
use Rattle.aprs_body.specs.Bodies.{body_of, positioned, weather_of}
use Rattle.aprs_body.specs.Classes.{position_bit, weather_bit}
use Rattle.aprs_body.specs.Grammar.{AddsWeather, IsPlaceOf, IsReport, ReportsPlace, mic_e, timed, untimed}
use Rattle.aprs_body.proofs.PartLemmas.{added, weather_adds, weather_is}

-- the text behind a part of it
pub past : {A : Type 0} (n : ℕ) (front rest : List A) → length front ≡ n → drop n (front ++ rest) ≡ rest
past n front rest e = subst (λ k. drop k (front ++ rest) ≡ rest) e (drop-append_seam front rest)

untimed_row : (dest text rest : List ℕ) (mark : ℕ) → (mark ≡ 33) ⊎ (mark ≡ 61) → text ≡ mark ∷ rest → body_of dest text ≡ positioned (either_place rest)
unfolding body_of
untimed_row dest text rest mark (inl m) e = rw (e, m) refl
untimed_row dest text rest mark (inr m) e = rw (e, m) refl

timed_row : (dest text rest : List ℕ) (mark : ℕ) → (mark ≡ 47) ⊎ (mark ≡ 64) → text ≡ mark ∷ rest → body_of dest text ≡ positioned (either_place (drop 7 rest))
unfolding body_of
timed_row dest text rest mark (inl m) e = rw (e, m) refl
timed_row dest text rest mark (inr m) e = rw (e, m) refl

mic_e_row : (dest text rest : List ℕ) (mark : ℕ) → (mark ≡ 96) ⊎ (mark ≡ 39) → text ≡ mark ∷ rest → body_of dest text ≡ positioned (mic_e_place dest text)
unfolding body_of
mic_e_row dest text rest mark (inl m) e = rw (e, m) refl
mic_e_row dest text rest mark (inr m) e = rw (e, m) refl

-- a place that is reported is read
place_at_mark : (dest text : List ℕ) (place : Place) → ReportsPlace dest text place → body_of dest text ≡ positioned (Some place)
place_at_mark dest text place (untimed mark rest m e begins) = untimed_row dest text rest mark m e ∙ ap positioned (either_again rest place begins)
place_at_mark dest text place (timed mark time rest m e seven begins) =
    timed_row dest text (time ++ rest) mark m e ∙ ap (λ t. positioned (either_place t)) (past 7 time rest seven) ∙ ap positioned (either_again rest place begins)
place_at_mark dest text place (mic_e w) =
    mic_e_row dest text _ w.mark w.mark_is w.body_is ∙ ap positioned (place_again (base_of dest) text place w)

-- what a report's text reads as: a place that is reported, or none
record Reads (dest text : List ℕ) : Type 0 where
  place : Option Place
  is : body_of dest text ≡ positioned place
  reported : (p : Place) → place ≡ Some p → ReportsPlace dest text p

reads_untimed : (dest text rest : List ℕ) (mark : ℕ) → (mark ≡ 33) ⊎ (mark ≡ 61) → text ≡ mark ∷ rest → Reads dest text
reads_untimed dest text rest mark m e =
    record { place = either_place rest; is = untimed_row dest text rest mark m e; reported = λ p is. untimed mark rest m e (either_read rest p is) }

-- no position is written by nothing
nothing : (text : List ℕ) (p : Place) → text ≡ [] → either_place text ≡ Some p → ⊥
unfolding either_place compressed_place
nothing text p empty is = let none : None ≡ Some p = rw empty at is in cc

split_time : (rest : List ℕ) (p : Place) → either_place (drop 7 rest) ≡ Some p → (rest ≡ take 7 rest ++ drop 7 rest) × (length (take 7 rest) ≡ 7)
split_time rest p is = elim (cases_lt (length rest) 7) [
  | inl short ↦ absurd (nothing (drop 7 rest) p (drop_of_length-le rest {i = 7} (omega arith)) is)
  | inr long ↦ (sym (take-append-drop 7 rest), length-take-le 7 rest long)
]

reads_timed : (dest text rest : List ℕ) (mark : ℕ) → (mark ≡ 47) ⊎ (mark ≡ 64) → text ≡ mark ∷ rest → Reads dest text
reads_timed dest text rest mark m e =
    record {
      place = either_place (drop 7 rest);
      is = timed_row dest text rest mark m e;
      reported = λ p is. let parts = split_time rest p is in
          timed mark (take 7 rest) (drop 7 rest) m (e ∙ ap (λ t. mark ∷ t) parts.0) parts.1 (either_read (drop 7 rest) p is);
    }

reads_mic_e : (dest text rest : List ℕ) (mark : ℕ) → (mark ≡ 96) ⊎ (mark ≡ 39) → text ≡ mark ∷ rest → Reads dest text
reads_mic_e dest text rest mark m e =
    record { place = mic_e_place dest text; is = mic_e_row dest text rest mark m e; reported = λ p is. mic_e (place_read (base_of dest) text p is) }

-- the marks of reports
abbrev pub IsMark : ℕ → Type 0
IsMark mark = (mark ≡ 33) ⊎ (mark ≡ 61) ⊎ (mark ≡ 47) ⊎ (mark ≡ 64) ⊎ (mark ≡ 96) ⊎ (mark ≡ 39)

reads : (dest text rest : List ℕ) (mark : ℕ) → IsMark mark → text ≡ mark ∷ rest → Reads dest text
reads dest text rest mark (inl m) e = reads_untimed dest text rest mark (inl m) e
reads dest text rest mark (inr (inl m)) e = reads_untimed dest text rest mark (inr m) e
reads dest text rest mark (inr (inr (inl m))) e = reads_timed dest text rest mark (inl m) e
reads dest text rest mark (inr (inr (inr (inl m)))) e = reads_timed dest text rest mark (inr m) e
reads dest text rest mark (inr (inr (inr (inr (inl m))))) e = reads_mic_e dest text rest mark (inl m) e
reads dest text rest mark (inr (inr (inr (inr (inr m))))) e = reads_mic_e dest text rest mark (inr m) e

placed : (o : Option Place) → (positioned o).place ≡ o
placed None = refl
placed (Some p) = refl

-- the place that is read is the only one that is reported
place_is : (dest text : List ℕ) (o : Option Place) → body_of dest text ≡ positioned o → ((p : Place) → o ≡ Some p → ReportsPlace dest text p) → IsPlaceOf dest text o
place_is dest text (Some p) is reported = reported p refl
place_is dest text None is reported = λ p r.
    let same : positioned None ≡ positioned (Some p) = sym is ∙ place_at_mark dest text p r in
    let none : None ≡ Some p = ap (λ b. b.place) same in cc

places_same : (dest text : List ℕ) (a b : Option Place) → body_of dest text ≡ positioned a → ((p : Place) → a ≡ Some p → ReportsPlace dest text p) → IsPlaceOf dest text b → a ≡ b
places_same dest text a (Some p) is reported b_is = sym (placed a) ∙ ap (λ b. b.place) (sym is ∙ place_at_mark dest text p b_is)
places_same dest text None None is reported b_is = refl
places_same dest text (Some p) None is reported b_is = absurd (b_is p (reported p refl))

-- a report by its place
abbrev report_of : (weather : ℕ) → Option Place → Body
report_of weather place = record { class = position_bit + weather; place = place; name = None; live = false; to = None }

report_class : (o : Option Place) (weather : ℕ) → AddsWeather o weather → positioned o ≡ report_of weather o
report_class None weather adds = rw adds refl
report_class (Some p) weather adds =
    let sum : bit_or position_bit (weather_of p) ≡ position_bit + weather =
    ap (bit_or position_bit) (weather_is p weather adds) ∙ added weather_bit position_bit weather (p.code ≡ 95) refl refl adds in
    rw sum refl

said : (dest text rest : List ℕ) (mark : ℕ) → IsMark mark → text ≡ mark ∷ rest → (o : Option Place) → IsPlaceOf dest text o → IsReport dest text (positioned o)
said dest text rest mark m e None place =
    record { mark = mark; rest = rest; weather = 0; mark_is = m; spelled = e; place = place; adds = refl; says_is = refl }
said dest text rest mark m e (Some p) place =
    record {
      mark = mark;
      rest = rest;
      weather = weather_of p;
      mark_is = m;
      spelled = e;
      place = place;
      adds = weather_adds p;
      says_is = report_class (Some p) (weather_of p) (weather_adds p);
    }

pub report_said : (dest text rest : List ℕ) (mark : ℕ) → IsMark mark → text ≡ mark ∷ rest → IsReport dest text (body_of dest text)
report_said dest text rest mark m e =
    let r = reads dest text rest mark m e in
    subst (IsReport dest text) (sym r.is) (said dest text rest mark m e r.place (place_is dest text r.place r.is r.reported))

pub report_again : (dest text : List ℕ) (says : Body) → IsReport dest text says → body_of dest text ≡ says
report_again dest text says w =
    let r = reads dest text w.rest w.mark w.mark_is w.spelled in
    r.is ∙ ap positioned (places_same dest text r.place says.place r.is r.reported w.place) ∙ report_class says.place w.weather w.adds ∙ sym w.says_is
