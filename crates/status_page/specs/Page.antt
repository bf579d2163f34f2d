-- The status page: an object of JSON without blanks (RFC 8259), its keys in byte order.
use Rattle.std.specs.Prelude.{ℕ, List, [], ◌∷◌, ◌++◌, length, codes, decimal}
use Rattle.aprs_base.specs.declared.totals.Totals.{Totals}
use Rattle.status_page.specs.declared.counts.Counts.{Counts}

-- each key with the text of its value. No byte of a call is escaped.
abbrev pub members_of : Counts → (server : List ℕ) → (moment : ℕ) → Totals → List (List ℕ × List ℕ)
members_of counts server moment totals =
    (codes "accepted", decimal totals.accepted)
    ∷ (codes "casts", decimal counts.casts)
    ∷ (codes "datagrams", decimal counts.datagrams)
    ∷ (codes "duplicates", decimal totals.duplicate)
    ∷ (codes "joined", decimal counts.joined)
    ∷ (codes "moment", decimal moment)
    ∷ (codes "opened", decimal counts.opened)
    ∷ (codes "queued", decimal totals.queued)
    ∷ (codes "received", decimal counts.received)
    ∷ (codes "refused", decimal totals.refused)
    ∷ (codes "server", codes "\"" ++ (server ++ codes "\""))
    ∷ (codes "taken", decimal counts.taken)
    ∷ []

abbrev pub member_text : List ℕ × List ℕ → List ℕ
member_text member = codes "\"" ++ (member.0 ++ (codes "\":" ++ member.1))

-- after the first member: a comma before each further one, and the closing brace
abbrev pub rest_text : List (List ℕ × List ℕ) → List ℕ
rest_text [] = codes "}"
rest_text (member ∷ more) = codes "," ++ (member_text member ++ rest_text more)

abbrev pub object_text : List (List ℕ × List ℕ) → List ℕ
object_text [] = codes "{}"
object_text (first ∷ more) = codes "{" ++ (member_text first ++ rest_text more)

unfoldable pub page_text : Counts → (server : List ℕ) → (moment : ℕ) → Totals → List ℕ
page_text counts server moment totals = object_text (members_of counts server moment totals)

-- the reply with a page (RFC 9112)
unfoldable pub page_reply : List ℕ → List ℕ
page_reply page =
    codes "HTTP/1.1 200 OK\r\nContent-Type: application/json\r\nContent-Length: " ++ decimal (length page) ++ codes "\r\nConnection: close\r\n\r\n" ++ page
