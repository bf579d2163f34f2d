-- What bytes ask for is one thing: two answers can be compared, and neither a head nor its want lets them differ.
use Rattle.std.proofs.Common.{◌≡◌, ℕ, ◌+◌, refl, sym, ap, ◌∙◌, inl, inr, arith}
use Rattle.std.proofs.lemmas.Bool.{cases_eq}
use Rattle.http_submit.specs.Heads.{HasNoHead}
use Rattle.status_page.specs.Laws.{BytesAskOnce}
use Rattle.status_page.specs.declared.requests.Get.{Get}
use Rattle.status_page.specs.declared.requests.Get.TheVariants.{Whole, More, Refused}

-- a number for each answer
abbrev numbered : Get → ℕ
numbered Whole = 0
numbered More = 1
numbered (Refused status) = status + 2

from_number : (one other : Get) → numbered one ≡ numbered other → one ≡ other
from_number Whole Whole same = refl
from_number More More same = refl
from_number (Refused s) (Refused t) same = ap Refused (omega (arith, same))
from_number Whole More same = absurd (omega (arith, same))
from_number Whole (Refused t) same = absurd (omega (arith, same))
from_number More Whole same = absurd (omega (arith, same))
from_number More (Refused t) same = absurd (omega (arith, same))
from_number (Refused s) Whole same = absurd (omega (arith, same))
from_number (Refused s) More same = absurd (omega (arith, same))

pub asks_once : BytesAskOnce
asks_once bytes one other first second = elim (cases_eq (numbered one) (numbered other)) [
  | inl same ↦ from_number one other same
  | inr differ ↦
      let apart = λ (e : one ≡ other). differ (ap numbered e) in
      let none : HasNoHead bytes = λ head rest begins. apart (first.headed head rest begins ∙ sym (second.headed head rest begins)) in
      absurd (apart (first.headless none ∙ sym (second.headless none)))
]
