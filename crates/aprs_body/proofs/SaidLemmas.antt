-- The class table reads what the grammar writes, and nothing else.
use Rattle.std.proofs.Common.{◌≡◌, ◌≢◌, ℕ, ◌≤◌, false, eqb, inl, inr, List, [], ◌∷◌, refl, sym, ap, subst, ◌∙◌, arith}
use Rattle.std.proofs.lemmas.Bool.Decides.{eqb_tells}
use Rattle.aprs_base.specs.declared.packets.Body.{Body}
use Rattle.aprs_body.specs.Bodies.{bare, body_of, item_of, message_of, object_of}
use Rattle.aprs_body.specs.Grammar.{IsBody, IsMessageClass, IsSaid, item, message, object, query, report, status, telemetry, user_defined, weather}
use Rattle.aprs_body.proofs.ItemLemmas.{item_again, item_read}
use Rattle.aprs_body.proofs.NamedLemmas.{OrBare, message_again, message_read, object_again, object_read}
use Rattle.aprs_body.proofs.ReportLemmas.{IsMark, report_again, report_said}

-- what stands in the row of a text's first byte
by_row : (dest text spelled : List ℕ) (reads : List ℕ → Body) → text ≡ spelled → body_of dest spelled ≡ reads spelled → body_of dest text ≡ reads text
by_row dest text spelled reads e row = rw e row

-- what a text says in a format is what is read of it
said_again : (dest text : List ℕ) (says : Body) → IsSaid dest text says → body_of dest text ≡ says
unfolding body_of
said_again dest text says (report w) = report_again dest text says w
said_again dest text says (object w) = by_row dest text _ object_of w.spelled refl ∙ object_again text says w
said_again dest text says (item w) = by_row dest text _ item_of w.spelled refl ∙ item_again text says w
said_again dest text says (message w) = by_row dest text _ message_of w.spelled refl ∙ message_again text says w
said_again dest text says (status b e) = by_row dest text _ (λ _. bare 32) b.1 refl ∙ sym e
said_again dest text says (telemetry b e) = by_row dest text _ (λ _. bare 64) b.1 refl ∙ sym e
said_again dest text says (weather b e) = by_row dest text _ (λ _. bare 512) b.1 refl ∙ sym e
said_again dest text says (user_defined b e) = by_row dest text _ (λ _. bare 128) b.1 refl ∙ sym e
said_again dest text says (query b e) = by_row dest text _ (λ _. bare 16) b.1 refl ∙ sym e

-- what is said has a class
message_some : (words : List ℕ) (kind : ℕ) → IsMessageClass words kind → 8 ≤ kind
message_some words kind (inl k) = omega arith
message_some words kind (inr k) = omega arith

said_some : (dest text : List ℕ) (says : Body) → IsSaid dest text says → says.class ≢ 0
said_some dest text says (report w) = λ zero. let c = ap (λ b. b.class) w.says_is in absurd (omega arith)
said_some dest text says (object w) = λ zero. let c = ap (λ b. b.class) w.says_is in absurd (omega arith)
said_some dest text says (item w) = λ zero. let c = ap (λ b. b.class) w.says_is in absurd (omega arith)
said_some dest text says (message w) = λ zero. let c = ap (λ b. b.class) w.says_is in let k = message_some w.words w.kind w.class in absurd (omega arith)
said_some dest text says (status b e) = λ zero. let c = ap (λ b. b.class) e in absurd (omega arith)
said_some dest text says (telemetry b e) = λ zero. let c = ap (λ b. b.class) e in absurd (omega arith)
said_some dest text says (weather b e) = λ zero. let c = ap (λ b. b.class) e in absurd (omega arith)
said_some dest text says (user_defined b e) = λ zero. let c = ap (λ b. b.class) e in absurd (omega arith)
said_some dest text says (query b e) = λ zero. let c = ap (λ b. b.class) e in absurd (omega arith)

-- what is read is said in a format, or is nothing
abbrev Met : (dest text : List ℕ) → Type 0
Met dest text = OrBare (IsSaid dest text) (body_of dest text)

met : {P : Body → Type 0} (dest text : List ℕ) (body : Body) → body_of dest text ≡ body → ((says : Body) → P says → IsSaid dest text says) → OrBare P body → Met dest text
met dest text body e said (inl p) = inl (subst (IsSaid dest text) (sym e) (said body p))
met dest text body e said (inr none) = inr (e ∙ none)

telemetry_met : (dest rest : List ℕ) → Met dest (84 ∷ rest)
unfolding body_of
telemetry_met dest [] = inr refl
telemetry_met dest (b ∷ rest) = elim (eqb_tells 35 b) [
  | inl mark ↦ inl (telemetry (rest, ap (λ x. 84 ∷ x ∷ rest) (sym mark.1)) (rw (← mark.1) refl))
  | inr other ↦ inr (rw other.0 refl)
]

report_met : (dest rest : List ℕ) (mark : ℕ) → IsMark mark → Met dest (mark ∷ rest)
report_met dest rest mark m = inl (report (report_said dest (mark ∷ rest) rest mark m refl))

-- by the first byte: it is this one, or another
at_byte : (dest rest : List ℕ) (b first : ℕ) → Met dest (first ∷ rest) → (eqb b first ≡ false → Met dest (b ∷ rest)) → Met dest (b ∷ rest)
at_byte dest rest b first here other = elim (eqb_tells b first) [
  | inl e ↦ subst (λ x. Met dest (x ∷ rest)) (sym e.1) here
  | inr e ↦ other e.0
]

all_met : (dest text : List ℕ) → Met dest text
unfolding body_of
all_met dest [] = inr refl
all_met dest (b ∷ rest) =
    at_byte dest rest b 33 (report_met dest rest 33 (inl refl)) (λ h1.
    at_byte dest rest b 61 (report_met dest rest 61 (inr (inl refl))) (λ h2.
    at_byte dest rest b 47 (report_met dest rest 47 (inr (inr (inl refl)))) (λ h3.
    at_byte dest rest b 64 (report_met dest rest 64 (inr (inr (inr (inl refl))))) (λ h4.
    at_byte dest rest b 96 (report_met dest rest 96 (inr (inr (inr (inr (inl refl)))))) (λ h5.
    at_byte dest rest b 39 (report_met dest rest 39 (inr (inr (inr (inr (inr refl)))))) (λ h6.
    at_byte dest rest b 59 (met dest (59 ∷ rest) _ refl (λ s p. object p) (object_read rest)) (λ h7.
    at_byte dest rest b 41 (met dest (41 ∷ rest) _ refl (λ s p. item p) (item_read rest)) (λ h8.
    at_byte dest rest b 58 (met dest (58 ∷ rest) _ refl (λ s p. message p) (message_read rest)) (λ h9.
    at_byte dest rest b 62 (inl (status (rest, refl) refl)) (λ h10.
    at_byte dest rest b 84 (telemetry_met dest rest) (λ h11.
    at_byte dest rest b 95 (inl (weather (rest, refl) refl)) (λ h12.
    at_byte dest rest b 123 (inl (user_defined (rest, refl) refl)) (λ h13.
    at_byte dest rest b 63 (inl (query (rest, refl) refl)) (λ h14.
    inr (rw (h1, h2, h3, h4, h5, h6, h7, h8, h9, h10, h11, h12, h13, h14) refl)))))))))))))))

pub body_said : (dest text : List ℕ) → IsBody dest text (body_of dest text)
body_said dest text = elim (all_met dest text) [
  | inl said ↦ inl said
  | inr none ↦ inr ((λ other s. said_some dest text other s (ap (λ b. b.class) (sym (said_again dest text other s) ∙ none))), none)
]

pub body_only : (dest text : List ℕ) (other : Body) → IsBody dest text other → body_of dest text ≡ other
body_only dest text other (inl said) = said_again dest text other said
body_only dest text other (inr none) = elim (all_met dest text) [
  | inl said ↦ absurd (none.0 _ said)
  | inr e ↦ e ∙ sym none.1
]
