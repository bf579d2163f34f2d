-- The links that are served, whose halves are kept side by side.
use Rattle.std.specs.Prelude.{◌≡◌, true, ℕ, ◌+◌, ◌-◌, ◌^◌, ◌≤◌, Bool, List, [], if◌then◌else◌, min}
use Rattle.aprs_history.specs.Stands.{LinkSeen}
use Rattle.worker_match.specs.Feeds.{FeedsSeen, put_in}
use Rattle.served_links.specs.Fed.{AllMatch, joined_all}
use Rattle.served_links.specs.Links.{Rises, here, is_whole, numbers}

-- the links as what came leaves them, matched or not; how many packet lines were ever put into queues; how many things came that
-- aren't matched yet; and whether they rest, since no round is walked
pub record ServedSeen : Type 0 where
  pub links : List LinkSeen
  pub queued : ℕ
  pub waiting : ℕ
  pub rests : Bool

-- how many wait once one more has come: at rest it is matched at once
abbrev pub waiting_after : (rests : Bool) → ℕ → ℕ
waiting_after rests waiting = if rests then 0 else waiting + 1

-- a count that is so much greater, which stays at a counter's last value
abbrev pub more : ℕ → ℕ → ℕ
more n count = min (count + n) (2 ^ 64 - 1)

-- what was counted so far, and what wasn't yet; those that left aren't seen any more
abbrev pub served_seen : List LinkSeen → FeedsSeen → ℕ → Bool → ServedSeen
served_seen halves feeds queued rests = record {
  links = here (joined_all halves feeds.links);
  queued = more (put_in feeds.links) queued;
  waiting = feeds.waiting;
  rests = rests;
}

-- no link is left, and nothing waits. They rest as they did. What was put and not counted before isn't counted any more.
pub record IsEmptied (old new : ServedSeen) : Type 0 where
  pub links : new.links ≡ []
  pub waiting : new.waiting ≡ 0
  pub queued : new.queued ≤ old.queued
  pub rests : new.rests ≡ old.rests

-- the halves stand in the order of their numbers
pub record AreHalves (halves : List LinkSeen) (feeds : FeedsSeen) : Type 0 where
  pub match : AllMatch halves feeds.links
  pub rising : Rises 0 (numbers halves) (2 ^ 32)

-- where they rest all that came is matched, and none of those that left is kept
abbrev pub AtRest : Bool → List LinkSeen → FeedsSeen → Type 0
AtRest rests halves feeds = (rests ≡ true → feeds.waiting ≡ 0) × (rests ≡ true → is_whole halves ≡ true)

-- some that left are let go, and so many packet lines counted before: the links are seen as before
pub record IsSwept (before : List LinkSeen) (feeds : FeedsSeen) (kept : List LinkSeen) (left : FeedsSeen) (count : ℕ) : Type 0 where
  pub halves : AreHalves kept left
  pub settled : left.waiting ≡ 0
  pub links : here (joined_all kept left.links) ≡ here (joined_all before feeds.links)
  pub put : more (put_in left.links) count ≡ put_in feeds.links
  pub whole : is_whole before ≡ true → is_whole kept ≡ true
