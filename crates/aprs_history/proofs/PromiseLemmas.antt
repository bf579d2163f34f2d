-- A promise stands exactly where a message made it and nothing since has renewed or ended it.
use Rattle.std.proofs.Common.{◌≡◌, ℕ, ◌&&◌, Bool, true, false, List, [], ◌∷◌, ◌++◌, refl, sym, ap, ◌∙◌, subst, Option, Some, None, ⊎_elim, if◌then◌else◌}
use Rattle.std.proofs.lemmas.Bool.{cases_Bool}
use Rattle.aprs_history.specs.declared.verdicts.Verdict.TheVariants.{Accepted}
use Rattle.dupe_window.specs.Keys.{is_text}
use Rattle.aprs_history.specs.Trace.{Trace, Entry, Opened, Said, moment_of}
use Rattle.aprs_history.specs.Scenes.{packet_of}
use Rattle.aprs_history.specs.Messages.{is_position, promise_after, promise_of, promises}
use Rattle.aprs_history.specs.MessageRule.{IsPromised, LeavesPromise, PromisesAreOwed, ends_promise, is_routed_message}

said_so : (same makes ends : Bool) (now : ℕ) (before : Option ℕ)
    → (if same then promise_after makes ends now before else before) ≡ (if same && makes then Some now else if same && ends then None else before)
said_so true makes ends now before = refl
said_so false makes ends now before = refl

-- what one entry makes of a promise
promise_by_entry : (t : Trace) (entry : Entry) (link : ℕ) (sender : List ℕ)
    → promise_of (entry ∷ t) link sender ≡ (if is_routed_message t entry link sender then Some (moment_of t) else if ends_promise t entry link sender then None else promise_of t link sender)
promise_by_entry t (Said from cut (Accepted parts line)) link sender =
    let packet = packet_of from (moment_of t) parts line in
    said_so (is_text sender parts.source) (promises t packet link) (is_position packet) (moment_of t) (promise_of t link sender)
promise_by_entry t (Said from cut verdict) link sender = refl
promise_by_entry t (Opened door admission opened from) link sender = refl
promise_by_entry t entry link sender = refl

module _ (link : ℕ) (sender : List ℕ) where
  made : (t : Trace) (entry : Entry) → is_routed_message t entry link sender ≡ true → promise_of (entry ∷ t) link sender ≡ Some (moment_of t)
  made t entry makes =
      promise_by_entry t entry link sender ∙ ap (λ b. if b then Some (moment_of t) else if ends_promise t entry link sender then None else promise_of t link sender) makes

  left : (t : Trace) (entry : Entry) → is_routed_message t entry link sender ≡ false → ends_promise t entry link sender ≡ false → promise_of (entry ∷ t) link sender ≡ promise_of t link sender
  left t entry makes ends =
      promise_by_entry t entry link sender
      ∙ ap (λ b. if b then Some (moment_of t) else if ends_promise t entry link sender then None else promise_of t link sender) makes
      ∙ ap (λ b. if b then None else promise_of t link sender) ends

  ended : (t : Trace) (entry : Entry) → is_routed_message t entry link sender ≡ false → ends_promise t entry link sender ≡ true → promise_of (entry ∷ t) link sender ≡ None
  ended t entry makes ends =
      promise_by_entry t entry link sender
      ∙ ap (λ b. if b then Some (moment_of t) else if ends_promise t entry link sender then None else promise_of t link sender) makes
      ∙ ap (λ b. if b then None else promise_of t link sender) ends

  -- nothing comes before the first of no entries
  leaves_none : (earlier : Trace) → LeavesPromise [] earlier link sender
  leaves_none earlier [] before entry is = absurd (nothing is)
    where
      nothing : [] ≡ entry ∷ before → ⊥
      nothing e = cc
  leaves_none earlier (x ∷ after) before entry is = absurd (nothing is)
    where
      nothing : [] ≡ x ∷ (after ++ entry ∷ before) → ⊥
      nothing e = cc

  leaves_more : (x : Entry) (later earlier : Trace) → is_routed_message (later ++ earlier) x link sender ≡ false → ends_promise (later ++ earlier) x link sender ≡ false
      → LeavesPromise later earlier link sender → LeavesPromise (x ∷ later) earlier link sender
  leaves_more x later earlier makes ends leaves [] before entry is =
      let first : x ≡ entry = cc in
      let rest : later ≡ before = cc in
      rw (sym first, sym rest) (makes, ends)
  leaves_more x later earlier makes ends leaves (y ∷ after) before entry is =
      let rest : later ≡ after ++ entry ∷ before = cc in leaves after before entry rest

  leaves_fewer : (x : Entry) (later earlier : Trace) → LeavesPromise (x ∷ later) earlier link sender → LeavesPromise later earlier link sender
  leaves_fewer x later earlier leaves after before entry is = leaves (x ∷ after) before entry (ap (λ t. x ∷ t) is)

  -- a promise has its message
  promised_more : (moment : ℕ) (x : Entry) (t : Trace) → is_routed_message t x link sender ≡ false → ends_promise t x link sender ≡ false → IsPromised t link sender moment → IsPromised (x ∷ t) link sender moment
  promised_more moment x t makes ends promised = record {
    later = x ∷ promised.later;
    earlier = promised.earlier;
    message = promised.message;
    split = ap (λ u. x ∷ u) promised.split;
    routed = promised.routed;
    at = promised.at;
    left = leaves_more x promised.later (promised.message ∷ promised.earlier) (subst (λ u. is_routed_message u x link sender ≡ false) promised.split makes)
        (subst (λ u. ends_promise u x link sender ≡ false) promised.split ends) promised.left;
  }

  pub promised_by : (moment : ℕ) (t : Trace) → promise_of t link sender ≡ Some moment → IsPromised t link sender moment
  promised_by moment [] is = absurd (nothing is)
    where
      nothing : None ≡ Some moment → ⊥
      nothing e = cc
  promised_by moment (x ∷ t) is = ⊎_elim
      (λ makes. let same : Some moment ≡ Some (moment_of t) = sym is ∙ made t x makes in
      record { later = []; earlier = t; message = x; split = refl; routed = makes; at = cc; left = leaves_none (x ∷ t) })
      (λ other. ⊎_elim
      (λ ends. let nothing : Some moment ≡ None = sym is ∙ ended t x other ends in absurd cc)
      (λ stays. promised_more moment x t other stays (promised_by moment t (sym (left t x other stays) ∙ is)))
      (cases_Bool (ends_promise t x link sender)))
      (cases_Bool (is_routed_message t x link sender))

  -- and a message its promise
  kept_since : (message : Entry) (earlier later : Trace) → is_routed_message earlier message link sender ≡ true → LeavesPromise later (message ∷ earlier) link sender
      → promise_of (later ++ message ∷ earlier) link sender ≡ Some (moment_of earlier)
  kept_since message earlier [] makes leaves = made earlier message makes
  kept_since message earlier (x ∷ later) makes leaves =
      let first = leaves [] later x refl in
      left (later ++ message ∷ earlier) x first.0 first.1 ∙ kept_since message earlier later makes (leaves_fewer x later (message ∷ earlier) leaves)

  pub promise_kept : (moment : ℕ) (t : Trace) → IsPromised t link sender moment → promise_of t link sender ≡ Some moment
  promise_kept moment t promised =
      ap (λ u. promise_of u link sender) promised.split ∙ kept_since promised.message promised.earlier promised.later promised.routed promised.left ∙ ap Some (sym promised.at)

pub promises_are_owed : PromisesAreOwed
promises_are_owed t link sender moment = (promised_by link sender moment t, promise_kept link sender moment t)
