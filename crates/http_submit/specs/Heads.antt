-- The head of a request (RFC 9112, in the grammar of `httparse`), of at most 32 headers.
use Rattle.std.specs.Prelude.{ℕ, ◌≤◌, ◌==◌, ◌&&◌, ◌||◌, Bool, false, if◌then◌else◌, List, [], ◌∷◌, length, drop, ⊤}
use Rattle.std.specs.List.{prefix_len}
use Rattle.std.specs.Str.{byte}
use Rattle.aprs_base.specs.Bytes.{is_line_end}
use Rattle.httparse.specs.Grammar.{ReadsRequest, RequestHead}
use Rattle.httparse.specs.declared.spans.RequestSpans.{RequestSpans}
use Rattle.http_submit.specs.declared.heads.Beginning.{Beginning}
use Rattle.http_submit.specs.declared.heads.Beginning.TheVariants as beginning

-- the bytes begin with a head of at most 32 headers, and that rest follows it
pub record Begins (bytes : List ℕ) (head : RequestHead) (rest : List ℕ) : Type 0 where
  pub reads : ReadsRequest bytes head rest
  pub few : length head.fields ≤ 32

abbrev pub HasNoHead : List ℕ → Type 0
HasNoHead bytes = (head : RequestHead) (rest : List ℕ) → Begins bytes head rest → ⊥

-- the bytes from the first on that is neither CR nor LF
abbrev pub from_text : List ℕ → List ℕ
from_text bytes = drop (prefix_len is_line_end bytes) bytes

abbrev pub begins_feed : List ℕ → Bool
begins_feed [] = false
begins_feed (b ∷ more) = b == byte "\n"

-- perhaps a CR, and an LF
abbrev pub begins_empty : List ℕ → Bool
begins_empty [] = false
begins_empty (b ∷ more) = b == byte "\n" || (b == byte "\r" && begins_feed more)

-- an LF, perhaps a CR, and an LF
abbrev pub has_empty_line : List ℕ → Bool
has_empty_line [] = false
has_empty_line (b ∷ more) = (b == byte "\n" && begins_empty more) || has_empty_line more

-- what bytes are that begin with no head: an empty line after their first text makes them bad
abbrev pub without_head : List ℕ → Beginning
without_head bytes = if has_empty_line (from_text bytes) then beginning.Bad else beginning.More

-- where there is a head, this holds of its places
abbrev pub IfHead : Beginning → (RequestSpans → Type 0) → Type 0
IfHead (beginning.Head spans) P = P spans
IfHead beginning.More P = ⊤
IfHead beginning.Bad P = ⊤

-- there is a head, and this holds of its places
abbrev pub IsHeadAnd : Beginning → (RequestSpans → Type 0) → Type 0
IsHeadAnd (beginning.Head spans) P = P spans
IsHeadAnd beginning.More P = ⊥
IsHeadAnd beginning.Bad P = ⊥
