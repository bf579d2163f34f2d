-- Sound lines: what a server accepts of one is sound again, and none accepts it twice that left its call in it.
use Rattle.std.proofs.Common.{◌≡◌, ℕ, true, false, List, Ok, refl, sym, ap, ◌∙◌, subst}
use Rattle.std.proofs.lemmas.Bool.{true≢false}
use Rattle.aprs_base.specs.PartsSeen.{PartsSeen}
use Rattle.tnc2_line.specs.Packet.{IsParts}
use Rattle.tnc2_line.proofs.Laws.{packet_reads, same_ok}
use Rattle.q_construct.specs.Rule.{among, names_after}
use Rattle.q_construct.proofs.Laws.{Answer, Keeps, answer_is, answer_keeps, answer_sound, answer_stays, answer_unnamed}
use Rattle.net_history.specs.Trails.{AcceptedStaysSound, IsNewTo, IsSame, NoneAcceptAgain, Passed, StaysNamed, StaysSame, Submitted, Trail, comes_from_server}

same_all_along : (a b : PartsSeen) (trail : Trail) → IsSame b a → StaysSame a trail → StaysSame b trail
same_all_along a b (Submitted line) is (first, reads, same) = (first, reads, (is.0 ∙ same.0, is.1 ∙ same.1, is.2 ∙ same.2))
same_all_along a b (Passed before by) is stays = (same_all_along a b before is stays.0, (is.0 ∙ stays.1.0, is.1 ∙ stays.1.1, is.2 ∙ stays.1.2))

named_all_along : (a b : PartsSeen) (trail : Trail) → Keeps a.vias b.vias → StaysNamed a trail → StaysNamed b trail
named_all_along a b (Submitted line) keeps stays = tt
named_all_along a b (Passed before by) keeps stays = (named_all_along a b before keeps stays.0, λ is. keeps by.call (stays.1 is))

-- where no server was passed before, none has to be kept
named_still : (a b : PartsSeen) (trail : Trail) → (comes_from_server trail ≡ true → Keeps a.vias b.vias) → StaysNamed a trail → StaysNamed b trail
named_still a b (Submitted line) keeps stays = tt
named_still a b (Passed before by) keeps stays = named_all_along a b (Passed before by) (keeps refl) stays

pub accepted_stays_sound : AcceptedStaysSound
accepted_stays_sound line trail by before sound station from between reads goes =
    let is : sound.parts ≡ before = same_ok sound.parts before (sym (packet_reads line sound.parts sound.packet) ∙ reads) in
    let parts : IsParts before = subst IsParts is sound.packet.sound in
    let answer : Answer before by.origin by.call by.others by.parts = answer_is before by.origin by.call by.others by.parts goes in
    let stays = answer_stays before by.origin by.call by.others by.parts answer in
    record {
      parts = by.parts;
      packet = record { spelled = refl; sound = answer_sound before by.origin by.call by.others by.parts parts station from answer };
      ends = refl;
      ruled = (sound.ruled, (before, sound.ends ∙ ap Ok is, goes));
      same = (same_all_along before by.parts trail stays (subst (λ p. StaysSame p trail) is sound.same), (refl, refl, refl));
      named = (
        named_still before by.parts trail (λ passed. answer_keeps before by.origin by.call by.others by.parts parts (between passed) answer) (subst (λ p. StaysNamed p trail) is sound.named),
        λ named. named,
      );
    }

new_to : (call : List ℕ) (parts : PartsSeen) (trail : Trail) → among call (names_after parts.vias) ≡ false → StaysNamed parts trail → IsNewTo call trail
new_to call parts (Submitted line) unnamed stays = tt
new_to call parts (Passed before by) unnamed stays =
    (new_to call parts before unnamed stays.0, λ named same. true≢false (sym (stays.1 named) ∙ ap (λ c. among c (names_after parts.vias)) same ∙ unnamed))

pub none_accept_again : NoneAcceptAgain
none_accept_again line trail before origin call others parts sound reads goes =
    let is : sound.parts ≡ before = same_ok sound.parts before (sym (packet_reads line sound.parts sound.packet) ∙ reads) in
    let answer : Answer before origin call others parts = answer_is before origin call others parts goes in
    new_to call before trail (answer_unnamed before origin call others parts (subst IsParts is sound.packet.sound) answer) (subst (λ p. StaysNamed p trail) is sound.named)
