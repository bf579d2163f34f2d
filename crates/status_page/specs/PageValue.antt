-- The status page as a value of JSON: an object keeps its keys in order.
use Rattle.std.specs.Prelude.{ℕ, List, codes}
use Rattle.aprs_base.specs.declared.totals.Totals.{Totals}
use Rattle.serde_json.specs.Data.{Data, Members, number, string, unsigned, object, no_members}
use Rattle.serde_json.specs.Data.{put as with_member}
use Rattle.status_page.specs.declared.counts.Counts.{Counts}

abbrev pub with_number : List ℕ → ℕ → Members → Members
with_number key n members = with_member key (number (unsigned n)) members

unfoldable pub with_totals : Totals → Members → Members
with_totals totals members =
    with_number (codes "refused") totals.refused
    (with_number (codes "queued") totals.queued
    (with_number (codes "duplicates") totals.duplicate
    (with_number (codes "accepted") totals.accepted members)))

unfoldable pub with_counts : Counts → Members → Members
with_counts counts members =
    with_number (codes "taken") counts.taken
    (with_number (codes "received") counts.received
    (with_number (codes "opened") counts.opened
    (with_number (codes "joined") counts.joined
    (with_number (codes "datagrams") counts.datagrams
    (with_number (codes "casts") counts.casts members)))))

unfoldable pub page_data : Counts → (server : List ℕ) → (moment : ℕ) → Totals → Data
page_data counts server moment totals =
    object (with_member (codes "server") (string server) (with_number (codes "moment") moment (with_counts counts (with_totals totals no_members))))
