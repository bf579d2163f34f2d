-- What is told of a wire while the page's front pays, also where that breaks off.
use Rattle.std.proofs.Common.{◌≡◌, ℕ, ◌≤◌, ◌-◌, arith, get_or, take, drop, List, [], ◌∷◌, ◌++◌, length, refl, sym, ◌∙◌, append_assoc, Option, Some, None, Result, Ok, Err, OnErr, subst}
use Rattle.std.proofs.Math.Seq.{take-length}
use Rattle.std.specs.Option.{option_map}
use Rattle.aprs_base.specs.Outside.{Told, gones_with, with_done}
use Rattle.aprs_base.specs.declared.events.Sent.{Sent}
use Rattle.aprs_base.specs.declared.events.Sent.TheVariants as sent
use Rattle.aprs_base.specs.declared.events.Happening.{Happening}
use Rattle.aprs_base.specs.declared.events.Happening.TheVariants as did
use Rattle.http_submit.specs.declared.pool.Owed.{Owed}
use Rattle.http_submit.proofs.OwingLemmas.{grew_as, grew_twice, same_grew}
use Rattle.http_submit.specs.Fronts.{FrontSeen}
use Rattle.http_submit.specs.Owing as http
use Rattle.http_submit.specs.Owing.{GrewBy, Loses}
use Rattle.status_page.specs.PageFronts.{PageSeen, reply_by}
use Rattle.status_page.specs.Paying.{Pays, PaysBeginning, PaysSome, Replies, RepliesPart, beyond}

-- ---- all may be paid, whatever becomes of the replies

gone : (link : ℕ) (reply : List ℕ) → Replies link reply (did.Sent link reply sent.Gone ∷ [])
gone link reply = record { outcome = sent.Gone; part = tt; is = refl }

all_gone : (page : PageSeen) (owed : List Owed) → (done : List Happening) × Pays page owed done
all_gone page [] = ([], refl)
all_gone page (owed ∷ more) = let rest = all_gone page more in (_, (_, rest.0, gone owed.link (reply_by page owed.status), rest.1, refl))

-- ---- one

-- the reply wasn't sent
pub unsent : (link : ℕ) (reply : List ℕ) (old new : Option Told) → new ≡ old → GrewBy old new (RepliesPart link reply)
unsent link reply old new is = same_grew old new (RepliesPart link reply) is (_, gone link reply)

-- it was sent, and the link wasn't closed
pub unclosed : (link : ℕ) (reply : List ℕ) (old mid new : Option Told) (n : ℕ) → n ≤ length reply
    → mid ≡ option_map (with_done (did.Sent link reply (sent.Took n))) old → new ≡ mid → GrewBy old new (RepliesPart link reply)
unclosed link reply None mid new n part sent' is = is ∙ sent'
unclosed link reply (Some old) mid new n part sent' is =
    (did.Sent link reply (sent.Took n) ∷ [], is ∙ sent', (did.Closed link ∷ [], record { outcome = sent.Took n; part = part; is = refl }))

-- ---- all

pub first_part : (page : PageSeen) (owed : Owed) (more : List Owed) (old new : Option Told) → GrewBy old new (RepliesPart owed.link (reply_by page owed.status)) → GrewBy old new (PaysSome page (owed ∷ more))
first_part page owed more old new grew = grew_as old new (RepliesPart owed.link (reply_by page owed.status)) (PaysSome page (owed ∷ more)) grew turned
  where
    turned : (done : List Happening) → RepliesPart owed.link (reply_by page owed.status) done → PaysSome page (owed ∷ more) done
    turned done part = let rest = all_gone page more in (part.0 ++ rest.0, (done ++ part.0, rest.0, part.1, rest.1, sym (append_assoc done part.0 rest.0)))

then_all_some : (page : PageSeen) (owed : Owed) (more : List Owed) (old mid new : Option Told) → GrewBy old mid (Replies owed.link (reply_by page owed.status)) → GrewBy mid new (PaysSome page more) → GrewBy old new (PaysSome page (owed ∷ more))
then_all_some page owed more old mid new first second = grew_twice old mid new (Replies owed.link (reply_by page owed.status)) (PaysSome page more) (PaysSome page (owed ∷ more)) first second both
  where
    both : (a b : List Happening) → Replies owed.link (reply_by page owed.status) a → PaysSome page more b → PaysSome page (owed ∷ more) (a ++ b)
    both a b one some = (some.0, (a, b ++ some.0, one, some.1, append_assoc a b some.0))

-- the first is paid, and then some of the others
pub then_some : (page : PageSeen) (owed : List Owed) (d : Owed) (old mid new : Option Told) → 1 ≤ length owed
    → GrewBy old mid (Replies (get_or owed 0 d).link (reply_by page (get_or owed 0 d).status))
    → GrewBy mid new (PaysSome page (take (length owed - 1) (drop 1 owed))) → GrewBy old new (PaysSome page owed)
then_some page [] d old mid new some first second = absurd (omega arith)
then_some page (owed ∷ more) d old mid new some first second =
    then_all_some page owed more old mid new first (subst (λ left. GrewBy mid new (PaysSome page left)) (all_of more) second)
  where
    all_of : (xs : List Owed) → take (length (owed ∷ xs) - 1) xs ≡ xs
    all_of xs = let e : length (owed ∷ xs) - 1 ≡ length xs = omega arith in rw (e, take-length) refl

-- ---- lost links

pub unsent_keeps : (before now : ℕ) → now ≡ before → (outcome : Sent) × (now ≡ gones_with outcome before)
unsent_keeps before now is = (sent.Took 0, is)

pub none_lost : (owed : List Owed) (gones : ℕ) → Loses owed gones gones
none_lost [] gones = refl
none_lost (owed ∷ more) gones = (sent.Took 0, none_lost more gones)

-- links of both lists are lost
pub lost_both : (first later : List Owed) (before between now : ℕ) → Loses first before between → Loses later between now → Loses (first ++ later) before now
lost_both [] later before between now lost more = subst (λ n. Loses later n now) lost more
lost_both (owed ∷ first) later before between now lost more = (lost.0, lost_both first later (gones_with lost.0 before) between now lost.1 more)

pub lost_first : (first later : List Owed) (before now : ℕ) → Loses first before now → Loses (first ++ later) before now
lost_first first later before now lost = lost_both first later before now now lost (none_lost later now)

on_err : {T E P : Type 0} (r : Result T E) → P → OnErr r P
on_err (Ok value) holds = tt
on_err (Err e) holds = holds

-- all of the first are paid, and some of the others
pub begun_beyond : {T E : Type 0} (r : Result T E) (old between new : Option Told) (page : PageSeen) (front : FrontSeen)
    → GrewBy old between (Pays page page.pool.owed) → GrewBy between new (http.PaysSome front.pool.owed) → OnErr r (PaysBeginning old new page front)
begun_beyond r old between new page front paid some = on_err r (beyond between paid some)
