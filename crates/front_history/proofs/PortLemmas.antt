-- What the links of one port wait for, were sent, and are owed: how that goes on by each happening.
use Rattle.std.proofs.Common.{◌≡◌, ℕ, true, List, [], ◌∷◌, refl, sym, ap, ◌∙◌, subst, Option, Some, None}
use Rattle.std.specs.Prelude.{⊤, IfSome}
use Rattle.std.proofs.lemmas.Bool.{true≢false}
use Rattle.std.proofs.lemmas.Option.{none-some, same_Some}
use Rattle.aprs_base.specs.declared.events.Event.{Event}
use Rattle.aprs_base.specs.declared.events.Happening.{Happening}
use Rattle.aprs_base.specs.declared.events.Happening.TheVariants as did
use Rattle.aprs_base.specs.declared.events.Sent.{Sent}
use Rattle.aprs_base.specs.declared.events.Sent.TheVariants as sent
use Rattle.aprs_history.specs.History.{History}
use Rattle.aprs_history.specs.Headline.{HasFreshLinks}
use Rattle.http_submit.specs.Pools.{PoolSeen, WaitingSeen}
use Rattle.http_submit.specs.declared.pool.Owed.{Owed}
use Rattle.front_history.specs.Replies.{ArePaid, IsClosedNext, IsPaid, IsReply, TookLast, moment_in}
use Rattle.front_history.specs.Views.{IsNotTo, opened_at}
use Rattle.front_history.proofs.ServesLemmas.{IsAct}
use Rattle.front_history.proofs.WaitingLemmas.{IsFresh, PoolGoes, Pooled, idle, none_is_due, none_lower, owed_waits, pooled_after, pooled_beside, pooled_closed, pooled_paid}

-- a link is closed after its reply, but where it was gone
abbrev pub closing_after : Sent → ℕ → Option ℕ
closing_after (sent.Took n) link = Some link
closing_after sent.Gone link = None

module _ (u : Option ℕ) where
  -- a link that took of its reply is closed next
  abbrev pub Next : History → Option ℕ → Type 0
  Next [] closing = ⊤
  Next (did.Sent link bytes (sent.Took n) ∷ h) closing = opened_at u h link ≡ true → closing ≡ Some link
  Next (x ∷ h) closing = ⊤

  -- whatever comes while no link is to be closed
  next_none : (x : Happening) (h : History) → Next h None → IsClosedNext u x h
  next_none x [] next = tt
  next_none x (did.Sent link bytes (sent.Took n) ∷ h) next = λ opened. absurd (none-some link (next opened))
  next_none x (y ∷ h) next = tt

  next_close : (k closed : ℕ) (h : History) → closed ≡ k → Next h (Some k) → IsClosedNext u (did.Closed closed) h
  next_close k closed [] is next = tt
  next_close k closed (did.Sent link bytes (sent.Took n) ∷ h) is next = λ opened. ap did.Closed (is ∙ same_Some k link (next opened))
  next_close k closed (y ∷ h) is next = tt

  next_beside : (x : Happening) → IsAct x → (h : History) → IsNotTo u h x → Next (x ∷ h) None
  next_beside (did.Event e) act h other = absurd act
  next_beside (did.Sent link bytes (sent.Took n)) act h other = λ opened. absurd (true≢false (sym opened ∙ other))
  next_beside x act h other = tt

  module _ (HasStatus : List ℕ → ℕ → Type 0) (MayGoOn : List ℕ → Type 0) (apart : (request : List ℕ) (status : ℕ) → HasStatus request status → MayGoOn request → ⊥) (IsText : History → ℕ → List ℕ → Type 0) where
    -- this front stands so: the pool owes nothing, perhaps a link is to be closed, and then these are owed replies
    pub record PortStands (h : History) (pool : PoolSeen) (closing : Option ℕ) (owing : List Owed) : Type 0 where
      pub waiting : List WaitingSeen
      pub is : pool ≡ idle waiting
      pub pooled : Pooled u HasStatus MayGoOn apart h (record { waiting = waiting; owed = owing })
      pub took : IfSome closing (λ k. (opened_at u h k ≡ true) × TookLast k h)
      pub next : Next h closing
      pub paid : ArePaid HasStatus MayGoOn IsText u h

    -- what is done to other links
    paid_beside : (x : Happening) → IsAct x → (h : History) → IsNotTo u h x → IsPaid HasStatus MayGoOn IsText u x h
    paid_beside (did.Event e) act h other = absurd act
    paid_beside (did.Sent link bytes outcome) act h other = λ opened. absurd (true≢false (sym opened ∙ other))
    paid_beside (did.Closed link) act h other = λ opened. absurd (true≢false (sym opened ∙ other))
    paid_beside x act h other = tt

    pub port_beside : (x : Happening) → IsAct x → (h : History) (pool : PoolSeen) (owing : List Owed) → IsNotTo u h x → PortStands h pool None owing → PortStands (x ∷ h) pool None owing
    port_beside x act h pool owing other was = record {
      waiting = was.waiting;
      is = was.is;
      pooled = pooled_beside u HasStatus MayGoOn apart x act h (record { waiting = was.waiting; owed = owing }) other was.pooled;
      took = tt;
      next = next_beside x act h other;
      paid = (was.paid, paid_beside x act h other, next_none x h was.next);
    }

    -- the close after a reply
    pub port_closes : (h : History) (pool : PoolSeen) (k closed : ℕ) (owing : List Owed) → closed ≡ k → PortStands h pool (Some k) owing → PortStands (did.Closed closed ∷ h) pool None owing
    port_closes h pool k closed owing is was = record {
      waiting = was.waiting;
      is = was.is;
      pooled = pooled_closed u HasStatus MayGoOn apart h (record { waiting = was.waiting; owed = owing }) closed was.pooled;
      took = tt;
      next = tt;
      paid = (was.paid, λ opened. subst (λ n. TookLast n h) (sym is) was.took.1, next_close k closed h is was.next);
    }

    -- a reply
    pub port_replies : (h : History) (pool : PoolSeen) (first : Owed) (owing : List Owed) (to : ℕ) (bytes : List ℕ) (outcome : Sent) → to ≡ first.link → IsText h first.status bytes → PortStands h pool None (first ∷ owing)
        → PortStands (did.Sent to bytes outcome ∷ h) pool (closing_after outcome first.link) owing
    port_replies h pool first owing to bytes outcome is text was = record {
      waiting = was.waiting;
      is = was.is;
      pooled = pooled_paid u HasStatus MayGoOn apart h was.waiting first owing to bytes outcome is was.pooled;
      took = took outcome;
      next = next outcome;
      paid = (
        was.paid,
        λ opened. subst (λ n. IsReply HasStatus MayGoOn IsText u h n bytes) (sym is) (record {
          status = first.status;
          waits = owed_waits u HasStatus MayGoOn apart h was.waiting first owing was.pooled;
          settled = was.pooled.owed.0.1;
          lowest = none_lower u HasStatus MayGoOn apart h was.waiting first owing was.pooled;
          is = text;
        }),
        next_none (did.Sent to bytes outcome) h was.next,
      );
    }
      where
        took : (outcome : Sent) → IfSome (closing_after outcome first.link) (λ k. (opened_at u (did.Sent to bytes outcome ∷ h) k ≡ true) × TookLast k (did.Sent to bytes outcome ∷ h))
        took (sent.Took n) = (was.pooled.owed.0.0, is)
        took sent.Gone = tt

        next : (outcome : Sent) → Next (did.Sent to bytes outcome ∷ h) (closing_after outcome first.link)
        next (sent.Took n) = λ opened. ap Some (sym is)
        next sent.Gone = tt

    -- an event
    pub port_goes : (h : History) (e : Event) (pool after : PoolSeen) → HasFreshLinks h → IsFresh h e → (was : PortStands h pool None []) → PoolGoes u HasStatus MayGoOn apart (moment_in (did.Event e ∷ h)) (idle was.waiting) e after
        → PortStands (did.Event e ∷ h) (idle after.waiting) None after.owed
    port_goes h e pool after all_fresh fresh was goes = record {
      waiting = after.waiting;
      is = refl;
      pooled = pooled_after u HasStatus MayGoOn apart h e was.waiting after all_fresh fresh was.pooled goes;
      took = tt;
      next = tt;
      paid = (was.paid, none_is_due u HasStatus MayGoOn apart IsText h was.waiting all_fresh was.pooled, next_none (did.Event e) h was.next);
    }
