-- A run goes on by the lines that go to a downlink, one after another.
use Rattle.std.proofs.Common.{◌≡◌, ℕ, suc, not, ◌+◌, ◌-◌, ◌<◌, ◌≤◌, ◌==◌, Bool, true, false, List, [], ◌∷◌, ◌++◌, length, take, drop, map, refl, sym, ap, ◌∙◌, subst, arith, Option, Some, None, append_assoc, length-append, if◌then◌else◌}
use Rattle.std.specs.Option.{option_map}
use Rattle.std.specs.List.{position_or_len}
use Rattle.std.specs.Str.{byte}
use Rattle.aprs_base.specs.Outside.{Told, with_cast}
use Rattle.aprs_base.specs.Journals.{JournalLineSeen}
use Rattle.aprs_base.specs.declared.events.Sent.TheVariants as sent
use Rattle.aprs_base.specs.declared.events.Happening.TheVariants as did
use Rattle.aprs_history.specs.Setting.{Setting}
use Rattle.aprs_history.specs.Trace.{is_member}
use Rattle.aprs_history.specs.Downs.{DownSeen, down_of, lines_behind, whole_lines}
use Rattle.aprs_history.specs.Texts.{untaken}
use Rattle.aprs_history.specs.History.{History, is_stopped, trace_of}
use Rattle.aprs_history.specs.Journal.{journal_of}
use Rattle.aprs_history.specs.Acts.{Act, SendsLine, Closes, MayCome, all_offers, but_first, due, offers_by}
use Rattle.aprs_history.proofs.DownLemmas.{down_small}
use Rattle.aprs_history.proofs.NumberLemmas.{member_first}
use Rattle.aprs_conf.specs.Seen.{ConfSeen}
use Rattle.status_page.specs.PageFronts.{PageSeen, counting}
use Rattle.aprs_history.specs.Wired.{first_down}
use Rattle.front_history.specs.Serving.{ActsOn, SendsOn}
use Rattle.front_history.proofs.ServesLemmas.{acts_uncounted, line_on, serves_same, serves_so}
use Rattle.server_core.specs.Sending.{bytes_in, with_lines}
use Rattle.server_core.specs.Meaning.{CoreMeaning, Stands, setting_of}
use Rattle.aprsc_daemon.specs.Phases.{Broken, Offering, Owing, OwingLines, Sending}
use Rattle.aprsc_daemon.proofs.ActLemmas.{as_at_next, as_at_rest, down_stays}
use Rattle.aprsc_daemon.proofs.JournalLemmas.{all_first}

-- ---- whole lines of bytes

-- where no LF stands there is no whole line, and else the first ends with it
behind_first : (before bytes : List ℕ) (n : ℕ) → position_or_len (λ b. b == byte "\n") bytes ≡ n → n < length bytes
    → lines_behind before bytes ≡ (before ++ take (n + 1) bytes) ∷ whole_lines (drop (n + 1) bytes)
behind_first before [] n is within = absurd (omega arith)
behind_first before (b ∷ bytes) n is within = of (b == byte "\n") is (behind_first (before ++ b ∷ []) bytes (position_or_len (λ b. b == byte "\n") bytes) refl)
  where
    m : ℕ
    m = position_or_len (λ b. b == byte "\n") bytes

    of : (ends : Bool) → (if not ends then 1 + m else 0) ≡ n
        → (m < length bytes → lines_behind (before ++ b ∷ []) bytes ≡ ((before ++ b ∷ []) ++ take (m + 1) bytes) ∷ whole_lines (drop (m + 1) bytes))
        → (if ends then (before ++ b ∷ []) ∷ lines_behind [] bytes else lines_behind (before ++ b ∷ []) bytes) ≡ (before ++ take (n + 1) (b ∷ bytes)) ∷ whole_lines (drop (n + 1) (b ∷ bytes))
    of true first others = let next : suc 0 ≡ n + 1 = omega (arith, first) in ap (λ k. (before ++ take k (b ∷ bytes)) ∷ whole_lines (drop k (b ∷ bytes))) next
    of false later others =
        let next : suc (m + 1) ≡ n + 1 = omega (arith, later) in
        others (omega (arith, later, within))
        ∙ ap (λ line. line ∷ whole_lines (drop (m + 1) bytes)) (append_assoc before (b ∷ []) (take (m + 1) bytes))
        ∙ ap (λ k. (before ++ take k (b ∷ bytes)) ∷ whole_lines (drop k (b ∷ bytes))) next

behind_none : (before bytes : List ℕ) → position_or_len (λ b. b == byte "\n") bytes ≡ length bytes → lines_behind before bytes ≡ []
behind_none before [] is = refl
behind_none before (b ∷ bytes) is = of (b == byte "\n") is (behind_none (before ++ b ∷ []) bytes)
  where
    of : (ends : Bool) → (if not ends then 1 + position_or_len (λ b. b == byte "\n") bytes else 0) ≡ length (b ∷ bytes)
        → (position_or_len (λ b. b == byte "\n") bytes ≡ length bytes → lines_behind (before ++ b ∷ []) bytes ≡ [])
        → (if ends then (before ++ b ∷ []) ∷ lines_behind [] bytes else lines_behind (before ++ b ∷ []) bytes) ≡ []
    of true first others = absurd (omega (arith, first))
    of false later others = others (omega (arith, later))

pub first_found : (bytes : List ℕ) (n : ℕ) → n ≡ position_or_len (λ b. b == byte "\n") bytes → n < length bytes → whole_lines bytes ≡ take (n + 1) bytes ∷ whole_lines (drop (n + 1) bytes)
first_found bytes n is within = behind_first [] bytes n (sym is) within

pub none_found : (bytes : List ℕ) (n : ℕ) → n ≡ position_or_len (λ b. b == byte "\n") bytes → n ≡ length bytes → whole_lines bytes ≡ []
none_found bytes n is all = behind_none [] bytes (sym is ∙ all)

-- a whole line has a byte at least
some_behind : (before bytes : List ℕ) → bytes_in (lines_behind before bytes) ≡ 0 → lines_behind before bytes ≡ []
some_behind before [] none = refl
some_behind before (b ∷ bytes) none = of (b == byte "\n") none (some_behind (before ++ b ∷ []) bytes)
  where
    of : (ends : Bool) → bytes_in (if ends then (before ++ b ∷ []) ∷ lines_behind [] bytes else lines_behind (before ++ b ∷ []) bytes) ≡ 0
        → (bytes_in (lines_behind (before ++ b ∷ []) bytes) ≡ 0 → lines_behind (before ++ b ∷ []) bytes ≡ [])
        → (if ends then (before ++ b ∷ []) ∷ lines_behind [] bytes else lines_behind (before ++ b ∷ []) bytes) ≡ []
    of true nothing others = let long = length-append before (b ∷ []) in absurd (omega (arith, long, nothing))
    of false nothing others = others nothing

pub no_bytes : (bytes : List ℕ) → bytes_in (whole_lines bytes) ≡ 0 → whole_lines bytes ≡ []
no_bytes bytes none = some_behind [] bytes none

pub bytes_both : (xs ys : List (List ℕ)) → bytes_in (xs ++ ys) ≡ bytes_in xs + bytes_in ys
bytes_both [] ys = omega arith
bytes_both (x ∷ xs) ys = let later = bytes_both xs ys in omega (arith, later)

-- where some bytes are, there is a first line
pub some_lines : (lines : List (List ℕ)) → 0 < bytes_in lines → (line : List ℕ) × (rest : List (List ℕ)) × (lines ≡ line ∷ rest)
some_lines [] some = absurd (omega (arith, some))
some_lines (line ∷ rest) some = (line, rest, refl)

-- ---- the lines of one offer

with_lines-append : (link : ℕ) (went : List (List ℕ)) (line : List ℕ) (h : History) → with_lines link (went ++ line ∷ []) h ≡ did.Sent link line (sent.Took (length line)) ∷ with_lines link went h
with_lines-append link [] line h = refl
with_lines-append link (first ∷ went) line h = with_lines-append link went line (did.Sent link first (sent.Took (length first)) ∷ h)

-- what is due to a downlink are the whole lines of its next bytes
first_lines : (s : Setting) (link : ℕ) (offers closes bytes : List ℕ) (given is : Option DownSeen) (down : DownSeen) → given ≡ is → is ≡ Some down → (left : List Act)
    → (offers_by given link bytes ++ left) ++ map Closes closes ≡ map (SendsLine link) (whole_lines bytes) ++ (left ++ map Closes closes)
first_lines s link offers closes bytes given is down same some left =
    ap (λ o. (offers_by o link bytes ++ left) ++ map Closes closes) (same ∙ some) ∙ append_assoc (map (SendsLine link) (whole_lines bytes)) left (map Closes closes)

module _ (lines : List JournalLineSeen) (s : Setting) (core : CoreMeaning) (link : ℕ) (down : DownSeen) (offers closes : List ℕ) (same : setting_of core.conf ≡ s) where
  -- none has gone yet
  pub lines_begin : (now : Option Told) (bytes : List ℕ) → is_member link offers ≡ false → ((h : History) → Stands core h → bytes ≡ take 65536 (untaken (setting_of core.conf) (trace_of (setting_of core.conf) h) link))
      → ((h : History) → Stands core h → down_of (setting_of core.conf) (trace_of (setting_of core.conf) h) link ≡ Some down)
      → ActsOn s now now (Offering lines core (link ∷ offers) closes) (Sending lines core link down [] (whole_lines bytes) offers closes)
  lines_begin now bytes other given becomes = serves_so s now (Offering lines core (link ∷ offers) closes) (Sending lines core link down [] (whole_lines bytes) offers closes) (λ more phase.
      let owing = phase.owing in
      let c = setting_of core.conf in
      let here = member_first link offers in
      let next : bytes ≡ take 65536 (untaken c owing.round link) = given more phase.stands ∙ ap (take 65536) (owing.same.left link here) in
      record {
        before = more;
        since = refl;
        stands = phase.stands;
        journal = phase.journal;
        is_down = becomes more phase.stands;
        owing = record {
          round = owing.round;
          owed = owing.owed
              ∙ first_lines c link offers closes (take 65536 (untaken c owing.round link)) (down_of c owing.round link) (down_of c (trace_of c more) link) down (sym (owing.same.down link here)) (becomes more phase.stands) (all_offers c owing.round offers)
              ∙ ap (λ bs. map (SendsLine link) (whole_lines bs) ++ (all_offers c owing.round offers ++ map Closes closes)) (sym next);
          same = as_at_rest c owing.round link offers more owing.same;
          all = owing.all;
          fresh = owing.fresh;
        };
      })

  line_comes : (acts : List Act) (stopped : Bool) (line : List ℕ) (rest : List Act) → acts ≡ SendsLine link line ∷ rest → MayCome acts stopped (did.Sent link line (sent.Took (length line)))
  line_comes acts stopped line rest is = subst (λ xs. MayCome xs stopped (did.Sent link line (sent.Took (length line)))) (sym is) (refl, refl, refl)

  line_sent : (line : List ℕ) (went left : List (List ℕ)) (more : History) → is_member link offers ≡ false → Sending lines core link down went (line ∷ left) offers closes more
      → Sending lines core link down (went ++ line ∷ []) left offers closes (did.Sent link line (sent.Took (length line)) ∷ more)
  unfolding due
  line_sent line went left more other phase = record {
    before = phase.before;
    since = ap (λ h. did.Sent link line (sent.Took (length line)) ∷ h) phase.since ∙ sym (with_lines-append link went line phase.before);
    stands = phase.stands;
    journal = phase.journal;
    is_down = down_stays (setting_of core.conf) more link link line (sent.Took (length line)) ∙ phase.is_down;
    owing = record {
      round = phase.owing.round;
      owed = ap but_first phase.owing.owed;
      same = as_at_next (setting_of core.conf) phase.owing.round link offers line (sent.Took (length line)) more other phase.owing.same;
      all = phase.owing.all;
      fresh = phase.owing.fresh;
    };
  }

  -- one line goes
  pub line_goes : (now next : Option Told) (page after : PageSeen) (number : ℕ) (line : List ℕ) (went left : List (List ℕ)) → is_member link offers ≡ false → number ≡ first_down + down.number
      → after ≡ counting (did.Cast number line) page → next ≡ option_map (with_cast number down.to line) now
      → SendsOn s now page next after (Sending lines core link down went (line ∷ left) offers closes) (Sending lines core link down (went ++ line ∷ []) left offers closes)
  line_goes now next page after number line went left other is counted told =
      line_on s now next link down line page after (Sending lines core link down went (line ∷ left) offers closes) (Sending lines core link down (went ++ line ∷ []) left offers closes)
      (counted ∙ ap (λ n. counting (did.Cast n line) page) is) (told ∙ ap (λ n. option_map (with_cast n down.to line) now) is) (λ more phase. (
        ap (λ t. down_of t (trace_of t more) link) (sym same) ∙ phase.is_down,
        subst (λ t. MayCome (due t more) (is_stopped more) (did.Sent link line (sent.Took (length line)))) same
            (line_comes (due (setting_of core.conf) more) (is_stopped more) line (map (SendsLine link) left ++ (all_offers (setting_of core.conf) phase.owing.round offers ++ map Closes closes)) phase.owing.owed),
        line_sent line went left more other phase,
      ))

  -- a downlink's number has room behind those of the peers
  pub line_fits : (now : Option Told) (page : PageSeen) (Q : History → Type 0) (went left : List (List ℕ)) → (first_down + down.number < 65536 → ⊥) → SendsOn s now page now page (Sending lines core link down went left offers closes) Q
  line_fits now page Q went left large front None serves = serves
  line_fits now page Q went left large front (Some old) serves =
      let few = down_small (setting_of core.conf) (trace_of (setting_of core.conf) serves.1) link down serves.5.is_down in
      absurd (large (omega (arith, few)))

  -- all have gone, and the core is told
  pub lines_end : (now : Option Told) (new : CoreMeaning) (went : List (List ℕ)) → new.conf ≡ core.conf → ((h : History) → Stands core h → Stands new (with_lines link went h))
      → ActsOn s now now (Sending lines core link down went [] offers closes) (Offering lines new offers closes)
  lines_end now new went conf stands = serves_so s now (Sending lines core link down went [] offers closes) (Offering lines new offers closes) (λ more phase. record {
    stands = subst (Stands new) (sym phase.since) (stands phase.before phase.stands);
    journal = ap (λ c. journal_of (setting_of c) more) conf ∙ phase.journal;
    owing = subst (λ c. Owing c None [] offers closes more) (sym conf)
        (record { round = phase.owing.round; owed = phase.owing.owed; same = phase.owing.same; all = phase.owing.all; fresh = phase.owing.fresh });
  })

  -- memory was wanting among them
  pub lines_break : (now next : Option Told) (page after : PageSeen) (went left : List (List ℕ)) → next ≡ now → after ≡ page → SendsOn s now page next after (Sending lines core link down went left offers closes) (Broken s lines)
  lines_break now next page after went left stays kept =
      subst (λ p. SendsOn s now page next p (Sending lines core link down went left offers closes) (Broken s lines)) (sym kept)
      (acts_uncounted s now next page (Sending lines core link down went left offers closes) (Broken s lines) (λ state start serves.
      serves_same s now next (Broken s lines) stays state start
      (serves_so s now (Sending lines core link down went left offers closes) (Broken s lines) (λ more phase. record {
        fresh = phase.owing.fresh;
        told = all_first s more lines (ap (λ t. journal_of t more) (sym same) ∙ phase.journal);
      }) state start serves)))
