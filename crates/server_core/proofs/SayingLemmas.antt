-- Lines that are said from one place, one after another.
use Rattle.std.proofs.Common.{◌≡◌, ℕ, ◌<◌, ◌+◌, List, [], ◌∷◌, ◌++◌, false, IsTrue, length, drop, get_or, sym, ap, ◌∙◌, subst, ⊎_elim, if◌then◌else◌, arith}
use Rattle.std.proofs.lemmas.Bool.{cases_Bool}
use Rattle.aprs_base.specs.Cuts.{cuts_by}
use Rattle.aprs_base.specs.Journals.{JournalLineSeen}
use Rattle.aprs_base.specs.declared.cutting.Cut.{Cut}
use Rattle.aprs_base.specs.declared.cutting.Cut.TheVariants as cut
use Rattle.aprs_base.specs.declared.packets.Source.{Source}
use Rattle.aprs_base.specs.declared.packets.Source.TheVariants as source
use Rattle.aprs_conf.specs.Seen.{ConfSeen}
use Rattle.aprs_history.specs.History.{bring, say_all, with_bytes_of}
use Rattle.aprs_history.specs.Links.{brought_by}
use Rattle.aprs_history.specs.Scenes.{scene_of}
use Rattle.aprs_history.specs.Setting.{Setting}
use Rattle.aprs_history.specs.Trace.{Trace, Brought, Said, is_live}
use Rattle.aprs_history.specs.Verdicts.{Scene, verdict_of}
use Rattle.aprs_history.specs.declared.verdicts.Verdict.{Verdict}
use Rattle.line_verdict.specs.Voices.{voice_of, voice_verdict}
use Rattle.line_verdict.specs.declared.voices.Voice.{Voice}
use Rattle.line_verdict.proofs.VerdictLemmas.{voice_says}
use Rattle.served_links.specs.Links.{speaker_at}
use Rattle.server_core.specs.Meaning.{CoreMeaning, setting_of}
use Rattle.server_core.specs.Steps.{SameRest, Walks, scene_at, with_verdict}
use Rattle.server_core.specs.Telling.{Tells, said_lines}
use Rattle.server_core.proofs.CoreLemmas.{rest_kept, walks_said}
use Rattle.server_core.proofs.TellingLemmas.{tells_brought, tells_said, tells_then}
use Rattle.aprs_history.proofs.EntryLemmas.{IsSaidBy}
use Rattle.server_core.proofs.WholeRoundLemmas.{next_item}

pub same_then : (a b c : CoreMeaning) → SameRest a b → SameRest b c → SameRest a c
same_then a b c one other = record { conf = other.conf ∙ one.conf; greatest = other.greatest ∙ one.greatest; stopped = other.stopped ∙ one.stopped }

module _ (from : Source) (scene : Setting → Trace → Scene) (Speaks : Trace → Type 0) where
  -- what is left to say, on the trace so far, makes the whole
  abbrev pub SaidSoFar : (start core : CoreMeaning) (cuts left : List Cut) (start_lines lines : List JournalLineSeen) → Type 0
  SaidSoFar start core cuts left start_lines lines =
      SameRest start core
      × ((first : Trace) → Walks start first → Speaks first →
      (t : Trace) × Walks core t × Speaks t × (say_all (scene (setting_of start.conf)) from cuts first ≡ say_all (scene (setting_of start.conf)) from left t)
      × Tells (setting_of start.conf) first t start_lines lines)

  -- one line more, which meets by what is kept the scene that it meets by the trace
  pub said_next : (at : CoreMeaning → Scene) (start core new : CoreMeaning) (cuts : List Cut) (i : ℕ) (said : Cut) → i < length cuts → said ≡ get_or cuts i said → (start_lines lines new_lines : List JournalLineSeen)
      → (0 < length cuts → (t : Trace) → Walks core t → Speaks t → IsSaidBy t from × (at core ≡ scene (setting_of core.conf) t)) → ((t : Trace) (verdict : Verdict) → Speaks t → Speaks (Said from said verdict ∷ t))
      → new ≡ with_verdict from said (verdict_of (at core) said) core → new_lines ≡ lines ++ said_lines core from (verdict_of (at core) said)
      → SaidSoFar start core cuts (drop i cuts) start_lines lines → SaidSoFar start new cuts (drop (i + 1) cuts) start_lines new_lines
  said_next at start core new cuts i said within item start_lines lines new_lines meets goes becomes told so_far =
      let verdict = verdict_of (at core) said in (
        same_then start core new so_far.0 (subst (SameRest core) (sym becomes) (rest_kept core from said verdict)),
        λ first walks speaks.
            let s = setting_of start.conf in
            let here = so_far.1 first walks speaks in
            let t = here.0 in
            let met = meets (omega arith) t here.1 here.2 in
            let now = Said from said (verdict_of (scene s t) said) ∷ t in
            let judged : verdict ≡ verdict_of (scene s t) said = ap (λ scene. verdict_of scene said) (met.1 ∙ ap (λ (conf : ConfSeen). scene (setting_of conf) t) so_far.0.conf) in
            let tells : Tells s t now lines new_lines =
            subst (λ (conf : ConfSeen). Tells (setting_of conf) t now lines new_lines) so_far.0.conf
            (subst (λ v. Tells (setting_of core.conf) t (Said from said v ∷ t) lines new_lines) judged (tells_said core t here.1 from said verdict lines new_lines told)) in (
              now,
              subst (λ v. Walks new (Said from said v ∷ t)) judged (subst (λ core. Walks core (Said from said verdict ∷ t)) (sym becomes) (walks_said core t here.1 from said verdict met.0)),
              goes t (verdict_of (scene s t) said) here.2,
              here.3 ∙ ap (λ cs. say_all (scene s) from cs t) (next_item cuts i said within item),
              tells_then s first t now start_lines lines new_lines here.4 tells,
            ),
      )

  -- all lines are said
  pub said_all : (start core : CoreMeaning) (cuts left : List Cut) (start_lines lines : List JournalLineSeen) → left ≡ [] → SaidSoFar start core cuts left start_lines lines
      → (first : Trace) → Walks start first → Speaks first
      → Walks core (say_all (scene (setting_of start.conf)) from cuts first) × Tells (setting_of start.conf) first (say_all (scene (setting_of start.conf)) from cuts first) start_lines lines
  said_all start core cuts left start_lines lines none so_far first walks speaks =
      let s = setting_of start.conf in
      let here = so_far.1 first walks speaks in
      let whole : here.0 ≡ say_all (scene s) from cuts first = sym (here.3 ∙ ap (λ cs. say_all (scene s) from cs here.0) none) in
      (subst (λ u. Walks core u) whole here.1, subst (λ u. Tells s first u start_lines lines) whole here.4)

-- ---- a link's lines

-- a line is judged by who speaks
pub line_says : (core : CoreMeaning) (number : ℕ) (said : Cut) (line : List ℕ) (voice : Voice) → said ≡ cut.Line line → voice ≡ voice_of (speaker_at number core.seen.links)
    → verdict_of (scene_at core number) said ≡ voice_verdict (scene_at core number) voice line
line_says core number said line voice is who =
    ap (verdict_of (scene_at core number)) is ∙ voice_says (scene_at core number) (speaker_at number core.seen.links) line ∙ ap (λ (who : Voice). voice_verdict (scene_at core number) who line) (sym who)

-- a link lives that has something to say
abbrev pub LinkSpeaks : ℕ → List Cut → Trace → Type 0
LinkSpeaks number cuts t = 0 < length cuts → IsTrue (is_live t number)

abbrev pub link_scene : ℕ → Setting → Trace → Scene
link_scene number s t = scene_of s t number

-- bytes on a link, all whose lines are said
module _ (old start core : CoreMeaning) (number : ℕ) (bytes : List ℕ) (cuts left : List Cut) (old_lines lines : List JournalLineSeen) (none : left ≡ []) (same : SameRest old start)
    (so_far : SaidSoFar (source.Link number) (link_scene number) (LinkSpeaks number cuts) start core cuts left old_lines lines) (t : Trace) where
  abbrev AreSaid : Trace → Type 0
  AreSaid now = Walks core now × Tells (setting_of old.conf) t now old_lines lines

  said_from : (first : Trace) → Walks start first → LinkSpeaks number cuts first → Tells (setting_of old.conf) t first old_lines old_lines
      → AreSaid (say_all (link_scene number (setting_of old.conf)) (source.Link number) cuts first)
  said_from first walks speaks told =
      let all = said_all (source.Link number) (link_scene number) (LinkSpeaks number cuts) start core cuts left old_lines lines none so_far first walks speaks in
      let said = λ (conf : ConfSeen). say_all (link_scene number (setting_of conf)) (source.Link number) cuts first in (
        subst (λ (conf : ConfSeen). Walks core (said conf)) same.conf all.0,
        tells_then (setting_of old.conf) t first (said old.conf) old_lines old_lines lines told (subst (λ (conf : ConfSeen). Tells (setting_of conf) first (said conf) old_lines lines) same.conf all.1),
      )

  pub bytes_said : (IsTrue (is_live t number) → Walks start (Brought number bytes ∷ t)) → (IsTrue (is_live t number) → cuts ≡ cuts_by (brought_by t number) bytes) → (is_live t number ≡ false → (cuts ≡ []) × Walks start t)
      → AreSaid (with_bytes_of (setting_of old.conf) number bytes t)
  bytes_said live cut_live dead =
      let s = setting_of old.conf in
      ⊎_elim
      (λ lives. subst (λ b. AreSaid (if b then bring s number bytes t else t)) (sym lives)
      (subst (λ cs. AreSaid (say_all (link_scene number s) (source.Link number) cs (Brought number bytes ∷ t))) (cut_live lives) (said_from (Brought number bytes ∷ t) (live lives) (λ some. lives) (tells_brought s number bytes t old_lines))))
      (λ gone. subst (λ b. AreSaid (if b then bring s number bytes t else t)) (sym gone)
      (subst (λ cs. AreSaid (say_all (link_scene number s) (source.Link number) cs t)) (dead gone).0
      (said_from t (dead gone).1 (λ some. absurd (let less : 0 < 0 = subst (λ (cs : List Cut). 0 < length cs) (dead gone).0 some in omega arith)) (λ before told. told))))
      (cases_Bool (is_live t number))
