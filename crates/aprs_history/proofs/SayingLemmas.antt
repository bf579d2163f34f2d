-- What is said on a link are the lines of what it brought.
use Rattle.std.proofs.Common.{◌≡◌, ℕ, ◌==◌, Bool, true, false, List, [], ◌∷◌, ◌++◌, refl, sym, ap, ◌∙◌, eq-eqb, append-nil, append_assoc, if◌then◌else◌, ⊎_elim, subst}
use Rattle.std.proofs.lemmas.Bool.{cases_Bool, eqb-true}
use Rattle.aprs_base.specs.Cuts.{cuts_by, cuts_of}
use Rattle.aprs_base.proofs.CutLemmas.{cuts_of-append}
use Rattle.aprs_base.specs.declared.cutting.Cut.{Cut}
use Rattle.aprs_base.specs.declared.events.Event.{Event}
use Rattle.aprs_base.specs.declared.events.Event.TheVariants as event
use Rattle.aprs_base.specs.declared.packets.Source.{Source}
use Rattle.aprs_base.specs.declared.packets.Source.TheVariants as source
use Rattle.q_construct.specs.declared.origins.Origin.TheVariants as origin
use Rattle.aprs_history.specs.Setting.{Setting}
use Rattle.aprs_history.specs.Trace.{Trace, Entry, AtListener, ByUplink, RoundBegan, Opened, Brought, Said, is_from, is_live}
use Rattle.aprs_history.specs.Links.{brought_by}
use Rattle.aprs_history.specs.Verdicts.{Scene, verdict_of}
use Rattle.aprs_history.specs.Scenes.{datagram_scene, scene_of}
use Rattle.aprs_history.specs.History.{admission, joined_admission, bring, datagram_cuts, say_all, with_event}
use Rattle.aprs_history.specs.Arriving.{LinksSayWhatTheyBrought, said_on}
use Rattle.aprs_history.proofs.StepLemmas.{IsOfLink, IsQuiet, Steps, kept_all}

module _ (link : ℕ) where
  abbrev Holds : Trace → Type 0
  Holds t = said_on t link ≡ cuts_of (brought_by t link)

  -- neither bytes nor lines came on the link
  record Still (t u : Trace) : Type 0 where
    brought : brought_by u link ≡ brought_by t link
    said : said_on u link ≡ said_on t link

  holds_still : (t u : Trace) → Still t u → Holds t → Holds u
  holds_still t u still holds = still.said ∙ holds ∙ ap cuts_of (sym still.brought)

  -- others speak
  others_speak : (scene : Trace → Scene) (from : Source) → is_from link from ≡ false → (cuts : List Cut) (t : Trace) → Still t (say_all scene from cuts t)
  others_speak scene from other [] t = record { brought = refl; said = refl }
  others_speak scene from other (cut ∷ cuts) t =
      let entry = Said from cut (verdict_of (scene t) cut) in
      let later = others_speak scene from other cuts (entry ∷ t) in
      record { brought = later.brought; said = later.said ∙ ap (λ b. if b then said_on t link ++ cut ∷ [] else said_on t link) other }

  holds_quiet : (t : Trace) (entry : Entry) → IsQuiet entry → Holds t → Holds (entry ∷ t)
  holds_quiet t RoundBegan is holds = absurd is
  holds_quiet t (Opened door new k from) is holds = absurd is
  holds_quiet t (Brought k bytes) is holds = absurd is
  holds_quiet t (Said from cut verdict) is holds = absurd is
  holds_quiet t entry is holds = holds

  holds_steps : (s : Setting) → Steps s Holds
  holds_steps s = record {
    quiet = holds_quiet;
    refused = λ t listener cut why alone holds. holds;
    submitted = λ t listener bytes first cuts login are is holds.
        holds_still t (say_all (datagram_scene s (origin.Udp login)) (source.Submit listener) cuts t) (others_speak (datagram_scene s (origin.Udp login)) (source.Submit listener) refl cuts t) holds;
    relayed = λ t from bytes peer is holds.
        holds_still t (say_all (datagram_scene s (origin.Peer peer.1)) (source.Peer peer.0) (datagram_cuts bytes) t) (others_speak (datagram_scene s (origin.Peer peer.1)) (source.Peer peer.0) refl (datagram_cuts bytes) t) holds;
  }

  -- its own lines
  said_more : (scene : Trace → Scene) (cuts : List Cut) (t : Trace)
      → (said_on (say_all scene (source.Link link) cuts t) link ≡ said_on t link ++ cuts) × (brought_by (say_all scene (source.Link link) cuts t) link ≡ brought_by t link)
  said_more scene [] t = (sym (append-nil (said_on t link)), refl)
  said_more scene (cut ∷ cuts) t =
      let entry = Said (source.Link link) cut (verdict_of (scene t) cut) in
      let later = said_more scene cuts (entry ∷ t) in
      let here : said_on (entry ∷ t) link ≡ said_on t link ++ cut ∷ [] = ap (λ b. if b then said_on t link ++ cut ∷ [] else said_on t link) (eq-eqb link link refl) in
      (later.0 ∙ ap (λ before. before ++ cuts) here ∙ append_assoc (said_on t link) (cut ∷ []) cuts, later.1)

  holds_own : (s : Setting) (bytes : List ℕ) (t : Trace) → Holds t → Holds (bring s link bytes t)
  holds_own s bytes t holds =
      let entry = Brought link bytes in
      let cuts = cuts_by (brought_by t link) bytes in
      let later = said_more (λ now. scene_of s now link) cuts (entry ∷ t) in
      let more : brought_by (entry ∷ t) link ≡ brought_by t link ++ bytes = ap (λ b. if b then brought_by t link ++ bytes else brought_by t link) (eq-eqb link link refl) in
      later.0 ∙ ap (λ before. before ++ cuts) holds ∙ sym (cuts_of-append (brought_by t link) bytes) ∙ ap cuts_of (sym (later.1 ∙ more))

  holds_other : (s : Setting) (k : ℕ) (bytes : List ℕ) (t : Trace) → (link == k) ≡ false → Holds t → Holds (bring s k bytes t)
  holds_other s k bytes t other holds =
      let later = others_speak (λ now. scene_of s now k) (source.Link k) other (cuts_by (brought_by t k) bytes) (Brought k bytes ∷ t) in
      holds_still t (bring s k bytes t) (record { brought = later.brought ∙ ap (λ b. if b then brought_by t link ++ bytes else brought_by t link) other; said = later.said }) holds

  holds_bring : (s : Setting) (k : ℕ) (bytes : List ℕ) (t : Trace) → Holds t → Holds (bring s k bytes t)
  holds_bring s k bytes t holds = ⊎_elim
      (λ here. subst (λ l. Holds (bring s l bytes t)) (eqb-true link k here) (holds_own s bytes t holds))
      (λ other. holds_other s k bytes t other holds)
      (cases_Bool (link == k))

  holds_if : (b : Bool) (t u : Trace) → Holds t → Holds u → Holds (if b then t else u)
  holds_if true t u a c = a
  holds_if false t u a c = c

  holds_opened : (t : Trace) (entry : Entry) (opened : ℕ) → said_on (entry ∷ t) link ≡ (if link == opened then [] else said_on t link) → brought_by (entry ∷ t) link ≡ (if link == opened then [] else brought_by t link)
      → Holds t → Holds (entry ∷ t)
  holds_opened t entry opened said brought holds = said ∙ of (link == opened) ∙ ap cuts_of (sym brought)
    where
      of : (b : Bool) → (if b then [] else said_on t link) ≡ cuts_of (if b then [] else brought_by t link)
      of true = refl
      of false = holds

  holds_of_link : (s : Setting) (e : Event) (t : Trace) → IsOfLink e → Holds t → Holds (with_event s e t)
  holds_of_link s (event.Opened listener opened from) t is holds = holds_opened t (Opened (AtListener listener) (admission s t listener) opened from) opened refl refl holds
  holds_of_link s (event.Joined uplink opened at) t is holds = holds_opened t (Opened (ByUplink uplink) (joined_admission s t uplink opened) opened at) opened refl refl holds
  holds_of_link s (event.Bytes k bytes) t is holds = holds_if (is_live t k) (bring s k bytes t) t (holds_bring s k bytes t holds) holds
  holds_of_link s e t is holds = absurd is

pub links_say_what_they_brought : LinksSayWhatTheyBrought
links_say_what_they_brought s h link = kept_all s (Holds link) (holds_steps link s) (λ t holds. holds) (holds_of_link link s) refl h
