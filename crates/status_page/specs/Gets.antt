-- A request for the status page: what its head asks for.
use Rattle.std.specs.Prelude.{◌≡◌, ℕ, not, if◌then◌else◌, List, codes}
use Rattle.httparse.specs.Grammar.{RequestHead}
use Rattle.http_submit.specs.Heads.{Begins, HasNoHead, from_text, has_empty_line}
use Rattle.http_submit.specs.Requests.{same_text}
use Rattle.status_page.specs.declared.requests.Get.{Get}
use Rattle.status_page.specs.declared.requests.Get.TheVariants.{Whole, More, Refused}

-- what a whole head asks for: the first status that applies
abbrev pub asked : (method target : List ℕ) → Get
asked method target =
    if not (same_text method (codes "GET")) then Refused 405
    else (if not (same_text target (codes "/status.json")) then Refused 404
    else Whole)

-- what bytes ask for: by their head, where they begin with one, and else by an empty line in them
pub record IsGet (bytes : List ℕ) (get : Get) : Type 0 where
  pub headed : (head : RequestHead) (rest : List ℕ) → Begins bytes head rest → get ≡ asked head.method head.target
  pub headless : HasNoHead bytes → get ≡ (if has_empty_line (from_text bytes) then Refused 400 else More)
