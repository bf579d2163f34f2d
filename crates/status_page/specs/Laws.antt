-- What follows of the definitions.
use Rattle.std.specs.Prelude.{◌≡◌, ℕ, List, ◌++◌}
use Rattle.aprs_base.specs.declared.events.Happening.{Happening}
use Rattle.aprs_base.specs.Outside.{CountsLink, new_link}
use Rattle.aprs_base.specs.declared.events.Event.{Event}
use Rattle.http_submit.specs.Laws.{IsInOrder}
use Rattle.status_page.specs.Counting.{counts_after}
use Rattle.status_page.specs.Gets.{IsGet}
use Rattle.status_page.specs.PageFronts.{PageSeen, PageTurns, paid_page}
use Rattle.status_page.specs.declared.counts.Counts.{Counts}
use Rattle.status_page.specs.declared.requests.Get.{Get}

-- what is counted piece by piece is counted as a whole
abbrev pub CountsGoOn : Type 0
CountsGoOn = (counts : Counts) (first later : List Happening) → counts_after counts (first ++ later) ≡ counts_after (counts_after counts first) later

-- the order in which it happened doesn't count
abbrev pub CountsInAnyOrder : Type 0
CountsInAnyOrder = (counts : Counts) (first later : List Happening) → counts_after counts (first ++ later) ≡ counts_after counts (later ++ first)

-- the same bytes ask for one thing alone
abbrev pub BytesAskOnce : Type 0
BytesAskOnce = (bytes : List ℕ) (one other : Get) → IsGet bytes one → IsGet bytes other → one ≡ other

-- before a wire that numbers its links in order, the links that wait for the page and those that are owed replies stay in rising number
abbrev pub PagesRise : Type 0
PagesRise = (made now : ℕ) (before after : PageSeen) (e : Event) → IsInOrder made before.pool → CountsLink (new_link e) made now → PageTurns (paid_page before) e after
    → IsInOrder now after.pool
