-- What is told of a wire while replies are paid, also where that breaks off.
use Rattle.std.proofs.Common.{◌≡◌, ℕ, ◌≤◌, ◌-◌, arith, get_or, take, drop, List, [], ◌∷◌, ◌++◌, length, refl, sym, ap, ◌∙◌, append-nil, append_assoc, Option, Some, None, subst}
use Rattle.std.proofs.Math.Seq.{take-length}
use Rattle.std.specs.Option.{option_map}
use Rattle.aprs_base.specs.Outside.{Told, gones_with, with_done}
use Rattle.aprs_base.specs.declared.events.Event.{Event}
use Rattle.aprs_base.specs.declared.events.Sent.{Sent}
use Rattle.aprs_base.specs.declared.events.Sent.TheVariants as sent
use Rattle.aprs_base.specs.declared.events.Happening.{Happening}
use Rattle.aprs_base.specs.declared.events.Happening.TheVariants as did
use Rattle.http_submit.specs.declared.pool.Owed.{Owed}
use Rattle.http_submit.specs.Fronts.{FrontSeen, Turns, paid_front}
use Rattle.http_submit.specs.Owing.{GrewBy, Loses, Pays, PaysOne, PaysPart, PaysSome, TakesTurn, reply_of}

-- nothing more is told
pub same_grew : (old new : Option Told) (P : List Happening → Type 0) → new ≡ old → P [] → GrewBy old new P
same_grew None new P is holds = is
same_grew (Some old) new P is holds = ([], is ∙ ap (λ done. Some (record old { done = done })) (sym (append-nil old.done)), holds)

-- what is told grew twice
pub grew_twice : (old mid new : Option Told) (P Q R : List Happening → Type 0) → GrewBy old mid P → GrewBy mid new Q → ((a b : List Happening) → P a → Q b → R (a ++ b)) → GrewBy old new R
grew_twice None mid new P Q R first second both = subst (λ m. GrewBy m new Q) first second
grew_twice (Some old) mid new P Q R first second both =
    let more = subst (λ m. GrewBy m new Q) first.1 second in
    (first.0 ++ more.0, more.1 ∙ ap (λ done. Some (record old { done = done })) (append_assoc old.done first.0 more.0), both first.0 more.0 first.2 more.2)

pub grew_as : (old new : Option Told) (P Q : List Happening → Type 0) → GrewBy old new P → ((more : List Happening) → P more → Q more) → GrewBy old new Q
grew_as None new P Q grew turned = grew
grew_as (Some old) new P Q grew turned = (grew.0, grew.1, turned grew.0 grew.2)

-- ---- all may be paid, whatever becomes of the replies

abbrev gone : Owed → List Happening
gone owed = did.Sent owed.link (reply_of owed.status) sent.Gone ∷ []

paid_gone : (owed : Owed) → PaysOne owed (gone owed)
paid_gone owed = record { outcome = sent.Gone; part = tt; is = refl }

all_gone : (owed : List Owed) → (done : List Happening) × Pays owed done
all_gone [] = ([], refl)
all_gone (owed ∷ more) = let rest = all_gone more in (gone owed ++ rest.0, (gone owed, rest.0, paid_gone owed, rest.1, refl))

-- ---- one

-- the reply wasn't sent
pub unsent : (owed : Owed) (old new : Option Told) → new ≡ old → GrewBy old new (PaysPart owed)
unsent owed old new is = same_grew old new (PaysPart owed) is (gone owed, paid_gone owed)

-- it was sent, and the link wasn't closed
pub unclosed : (owed : Owed) (old mid new : Option Told) (n : ℕ) → n ≤ length (reply_of owed.status)
    → mid ≡ option_map (with_done (did.Sent owed.link (reply_of owed.status) (sent.Took n))) old → new ≡ mid → GrewBy old new (PaysPart owed)
unclosed owed None mid new n part sent' is = is ∙ sent'
unclosed owed (Some old) mid new n part sent' is =
    (did.Sent owed.link (reply_of owed.status) (sent.Took n) ∷ [], is ∙ sent', (did.Closed owed.link ∷ [], record { outcome = sent.Took n; part = part; is = refl }))

-- ---- all

pub first_part : (owed : Owed) (more : List Owed) (old new : Option Told) → GrewBy old new (PaysPart owed) → GrewBy old new (PaysSome (owed ∷ more))
first_part owed more old new grew = grew_as old new (PaysPart owed) (PaysSome (owed ∷ more)) grew turned
  where
    turned : (done : List Happening) → PaysPart owed done → PaysSome (owed ∷ more) done
    turned done part = let rest = all_gone more in (part.0 ++ rest.0, (done ++ part.0, rest.0, part.1, rest.1, sym (append_assoc done part.0 rest.0)))

then_all_some : (owed : Owed) (more : List Owed) (old mid new : Option Told) → GrewBy old mid (PaysOne owed) → GrewBy mid new (PaysSome more) → GrewBy old new (PaysSome (owed ∷ more))
then_all_some owed more old mid new first second = grew_twice old mid new (PaysOne owed) (PaysSome more) (PaysSome (owed ∷ more)) first second both
  where
    both : (a b : List Happening) → PaysOne owed a → PaysSome more b → PaysSome (owed ∷ more) (a ++ b)
    both a b one some = (some.0, (a, b ++ some.0, one, some.1, append_assoc a b some.0))

-- the first is paid, and then some of the others
pub then_some : (owed : List Owed) (d : Owed) (old mid new : Option Told) → 1 ≤ length owed → GrewBy old mid (PaysOne (get_or owed 0 d))
    → GrewBy mid new (PaysSome (take (length owed - 1) (drop 1 owed))) → GrewBy old new (PaysSome owed)
then_some [] d old mid new some first second = absurd (omega arith)
then_some (owed ∷ more) d old mid new some first second =
    let whole : take (length (owed ∷ more) - 1) more ≡ more = all_of more in
    then_all_some owed more old mid new first (subst (λ left. GrewBy mid new (PaysSome left)) whole second)
  where
    all_of : (xs : List Owed) → take (length (owed ∷ xs) - 1) xs ≡ xs
    all_of xs = let e : length (owed ∷ xs) - 1 ≡ length xs = omega arith in rw (e, take-length) refl

pub all_some : (owed : List Owed) (old new : Option Told) → GrewBy old new (Pays owed) → GrewBy old new (PaysSome owed)
all_some owed old new grew = grew_as old new (Pays owed) (PaysSome owed) grew (λ done pays. ([], subst (Pays owed) (sym (append-nil done)) pays))

-- ---- an event comes once all is paid

came_after : (old mid new : Option Told) (P : List Happening → Type 0) (e : Event) → GrewBy old mid P → new ≡ option_map (with_done (did.Event e)) mid
    → GrewBy old new (λ more. (done : List Happening) × P done × (more ≡ done ++ did.Event e ∷ []))
came_after None mid new P e grew is = is ∙ ap (option_map (with_done (did.Event e))) grew
came_after (Some old) mid new P e grew is = (
  grew.0 ++ did.Event e ∷ [],
  is ∙ ap (option_map (with_done (did.Event e))) grew.1 ∙ ap (λ done. Some (record old { done = done })) (append_assoc old.done grew.0 (did.Event e ∷ [])),
  (grew.0, grew.2, refl),
)

pub turn_taken : (old mid new : Option Told) (before after : FrontSeen) (came up : Event) → GrewBy old mid (Pays before.pool.owed)
    → new ≡ option_map (with_done (did.Event came)) mid → Turns (paid_front before) came after up → TakesTurn old new before after up
turn_taken old mid new before after came up paid is turns = record { came = came; turns = turns; told = came_after old mid new (Pays before.pool.owed) came paid is }

-- ---- lost links

pub unsent_keeps : (before now : ℕ) → now ≡ before → (outcome : Sent) × (now ≡ gones_with outcome before)
unsent_keeps before now is = (sent.Took 0, is)

pub none_lost : (owed : List Owed) (gones : ℕ) → Loses owed gones gones
none_lost [] gones = refl
none_lost (owed ∷ more) gones = (sent.Took 0, none_lost more gones)
