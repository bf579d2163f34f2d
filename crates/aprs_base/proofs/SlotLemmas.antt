-- What becomes of slots by lines: piece by piece, and as a whole.
use Rattle.std.proofs.Common.{◌≡◌, ℕ, zero, suc, ◌+◌, ◌≤◌, ◌<◌, ◌-◌, true, false, Option, Some, None, List, [], ◌∷◌, ◌++◌, length, refl, ap, sym, cond, get_or, slice_set, take, drop, add-one, arith, ◌∙◌}
use Rattle.std.specs.Prelude.{IfSome}
use Rattle.std.specs.Fn.{iterate}
use Rattle.std.specs.List.{AllZip, filter, flat_map}
use Rattle.std.specs.Option.{option_map, unwrap_or}
use Rattle.std.specs.declared.dyn_box.DynBox.{DynBox}
use Rattle.std.specs.declared.alloc.Global.{Global}
use Rattle.std.proofs.lemmas.List.{append_assoc, append-nil, drop_all, take_all}
use Rattle.aprs_base.specs.Outside.{one_more}
use Rattle.aprs_base.specs.Journals.{HasTaken, JournalLineSeen, JournalShown, due_to, journal_text}
use Rattle.aprs_base.specs.Slots.{FallsShort, HasTried, HasTriedAll, TakesDue, TakesLines, shown_by}
use Rattle.aprs_base.specs.declared.journals.Slot.{Slot}
use Rattle.aprs_base.specs.declared.journals.Slot.TheVariants.{Live, Dead}

-- a journal that took no line
taken_none : (old : JournalShown) → HasTaken old old []
taken_none old = record { told = no_text old.told; left = none_less old.left; wants = refl }
  where
    no_text : (told : Option (List ℕ)) → told ≡ option_map (λ text. text ++ []) told
    no_text None = refl
    no_text (Some text) = ap Some (sym (append-nil text))

    none_less : (left : Option ℕ) → option_map (λ n. n + 0) left ≡ left
    none_less None = refl
    none_less (Some n) = ap Some (omega arith)

-- a journal that took a line and then others
taken_more : (old between new : JournalShown) (line : JournalLineSeen) (lines : List JournalLineSeen) → HasTaken old between (line ∷ []) → HasTaken between new lines → HasTaken old new (line ∷ lines)
taken_more old between new line lines first more = record {
  told = rw more.told (rw first.told (texts old.told));
  left = sym (rw (sym first.left) (rw (sym more.left) (counts new.left)));
  wants = more.wants ∙ first.wants;
}
  where
    texts : (told : Option (List ℕ)) → option_map (λ text. text ++ flat_map journal_text lines) (option_map (λ text. text ++ flat_map journal_text (line ∷ [])) told) ≡ option_map (λ text. text ++ flat_map journal_text (line ∷ lines)) told
    texts None = refl
    texts (Some text) = ap Some (append_assoc text (journal_text line ++ []) (flat_map journal_text lines) ∙ ap (λ first. text ++ (first ++ flat_map journal_text lines)) (append-nil (journal_text line)))

    counts : (left : Option ℕ) → option_map (λ n. n + 1) (option_map (λ n. n + length lines) left) ≡ option_map (λ n. n + length (line ∷ lines)) left
    counts None = refl
    counts (Some n) = ap Some (omega arith)

module _ {V : Type 0} {X : V → Type 0} (journal : (v : V) × X v → JournalShown) where
  -- lines that come in two lots
  pub takes-append : (a b : List JournalLineSeen) (old between new : Slot V X) → TakesLines journal a old between → TakesLines journal b between new → TakesLines journal (a ++ b) old new
  takes-append [] b old between new none more = rw none more
  takes-append (line ∷ a) b old between new first more = (first.0, first.1, takes-append a b first.0 between new first.2 more)

  pub each_takes-append : (a b : List JournalLineSeen) (old between new : List (Slot V X)) → AllZip (TakesLines journal a) old between → AllZip (TakesLines journal b) between new → AllZip (TakesLines journal (a ++ b)) old new
  each_takes-append a b [] [] [] first more = tt
  each_takes-append a b [] [] (z ∷ zs) first more = elim more [ ]
  each_takes-append a b [] (y ∷ ys) new first more = elim first [ ]
  each_takes-append a b (x ∷ xs) [] new first more = elim first [ ]
  each_takes-append a b (x ∷ xs) (y ∷ ys) [] first more = elim more [ ]
  each_takes-append a b (x ∷ xs) (y ∷ ys) (z ∷ zs) first more = (takes-append a b x y z first.0 more.0, each_takes-append a b xs ys zs first.1 more.1)

  -- before the first line
  pub each_takes-none : (slots : List (Slot V X)) → AllZip (TakesLines journal []) slots slots
  each_takes-none [] = tt
  each_takes-none (slot ∷ slots) = (refl, each_takes-none slots)

  same_dues : (old between : DynBox V Global X) (line : JournalLineSeen) (lines : List JournalLineSeen) → HasTaken (shown_by journal old) (shown_by journal between) (line ∷ []) → due_to (shown_by journal between) lines ≡ due_to (shown_by journal old) lines
  same_dues old between line lines first = ap (λ wants. filter (λ line. wants line.kind) lines) first.wants

  -- a journal that falls short of the rest falls short of the whole
  short_more : (left between : Option ℕ) (due n m k : ℕ) → option_map (λ n. n + 1) between ≡ left → m ≡ one_more n → FallsShort between due m k → FallsShort left (suc due) n k
  short_more left between due n m k lowered counted rest = record {
    taken = suc rest.taken;
    short = omega (arith, rest.short);
    counted = rest.counted ∙ ap (iterate one_more rest.taken) counted;
    spent = rw (sym lowered) (spent_more between rest.spent);
  }
    where
      spent_more : (between : Option ℕ) → IfSome between (λ n. n ≡ rest.taken) → IfSome (option_map (λ n. n + 1) between) (λ n. n ≡ suc rest.taken)
      spent_more None h = tt
      spent_more (Some l) h = omega (arith, h)

  goes_on : (line : JournalLineSeen) (due : List JournalLineSeen) (old between : DynBox V Global X) (n m : ℕ) (new : Slot V X) → HasTaken (shown_by journal old) (shown_by journal between) (line ∷ []) → m ≡ one_more n → HasTriedAll journal due between m new → HasTriedAll journal (line ∷ due) old n new
  goes_on line due old between n m (Live new k) first counted rest = (taken_more (shown_by journal old) (shown_by journal between) (shown_by journal new) line due first rest.0, rest.1 ∙ ap (iterate one_more (length due)) counted)
  goes_on line due old between n m (Dead k) first counted rest = short_more (shown_by journal old).left (shown_by journal between).left (length due) n m k first.left counted rest

  wanted : (line : JournalLineSeen) (lines : List JournalLineSeen) (old : DynBox V Global X) (n : ℕ) (between new : Slot V X) → HasTried journal line old n between → TakesDue journal lines between new → HasTriedAll journal (line ∷ due_to (shown_by journal old) lines) old n new
  wanted line lines old n (Live between m) new first rest = goes_on line (due_to (shown_by journal old) lines) old between n m new first.0 first.1 (rw (sym (same_dues old between line lines first.0)) rest)
  wanted line lines old n (Dead m) new first rest = rw rest (record { taken = 0; short = omega arith; counted = first.1; spent = first.0 })

  stays : (old : Slot V X) → TakesDue journal [] old old
  stays (Live old n) = (taken_none (shown_by journal old), refl)
  stays (Dead n) = refl

  -- line by line, a slot takes all that are due to it, or some
  pub takes_due : (lines : List JournalLineSeen) (old new : Slot V X) → TakesLines journal lines old new → TakesDue journal lines old new
  takes_due [] old new none = rw (sym none) (stays old)
  takes_due (line ∷ lines) (Dead n) new h = takes_due lines (Dead n) new (rw (sym h.1) h.2)
  takes_due (line ∷ lines) (Live old n) new h =
      elim ((shown_by journal old).wants line.kind) as (λ w. (shown_by journal old).wants line.kind ≡ w → HasTriedAll journal (cond w (line ∷ due_to (shown_by journal old) lines) (due_to (shown_by journal old) lines)) old n new) [
        | true ↦ λ e. wanted line lines old n h.0 new (h.1.0 e) (takes_due lines h.0 new h.2)
        | false ↦ λ e. takes_due lines (Live old n) new (rw (sym (h.1.1 e)) h.2)
      ] refl

  pub each_takes_due : (lines : List JournalLineSeen) (old new : List (Slot V X)) → AllZip (TakesLines journal lines) old new → AllZip (TakesDue journal lines) old new
  each_takes_due lines [] [] h = tt
  each_takes_due lines [] (y ∷ ys) h = elim h [ ]
  each_takes_due lines (x ∷ xs) [] h = elim h [ ]
  each_takes_due lines (x ∷ xs) (y ∷ ys) h = (takes_due lines x y h.0, each_takes_due lines xs ys h.1)

  -- where a journal tells how many lines are left, its slot lives just where these are enough
  pub lives_within : (due : List JournalLineSeen) (old new : DynBox V Global X) (n m left : ℕ) → (shown_by journal old).left ≡ Some left → HasTriedAll journal due old n (Live new m) → (length due ≤ left) × ((shown_by journal new).left ≡ Some (left - length due))
  lives_within due old new n m left told tried = enough (shown_by journal new).left (tried.0.left ∙ told)
    where
      enough : (rest : Option ℕ) → option_map (λ k. k + length due) rest ≡ Some left → (length due ≤ left) × (rest ≡ Some (left - length due))
      enough None h = absurd (cc)
      enough (Some k) h = let sum : k + length due ≡ left = ap (λ o. unwrap_or o 0) h in (omega (arith, sum), ap Some (omega (arith, sum)))

  pub dies_beyond : (due : List JournalLineSeen) (old : DynBox V Global X) (n m left : ℕ) → (shown_by journal old).left ≡ Some left → HasTriedAll journal due old n (Dead m) → (left < length due) × (m ≡ iterate one_more left n)
  dies_beyond due old n m left told short =
      let same : left ≡ short.taken = rw told at short.spent in
      (rw same short.short, rw same short.counted)

-- in a list, the first n have gone on by a step, and the others are as before
abbrev pub AreOnBy : {S : Type 0} → (S → S → Type 0) → ℕ → List S → List S → Type 0
AreOnBy Step zero olds news = news ≡ olds
AreOnBy Step (suc n) [] news = ⊥
AreOnBy Step (suc n) (old ∷ olds) [] = ⊥
AreOnBy Step (suc n) (old ∷ olds) (new ∷ news) = Step old new × AreOnBy Step n olds news

pub one_more_on : {S : Type 0} (Step : S → S → Type 0) (n : ℕ) (olds news : List S) (new d : S) → n < length olds → AreOnBy Step n olds news → Step (get_or news n d) new → AreOnBy Step (n + 1) olds (slice_set news n new)
one_more_on {S} Step n olds news new d within on step = rw add-one (next n olds news within on step)
  where
    next : (n : ℕ) (olds news : List S) → n < length olds → AreOnBy Step n olds news → Step (get_or news n d) new → AreOnBy Step (suc n) olds (slice_set news n new)
    next zero [] news within on step = absurd (omega arith)
    next zero (old ∷ olds) news within on step = rw on (rw on at step, refl)
    next (suc n) [] news within on step = absurd (omega arith)
    next (suc n) (old ∷ olds) [] within on step = elim on [ ]
    next (suc n) (old ∷ olds) (y ∷ news) within on step = (on.0, next n olds news (omega arith) on.1 step)

pub all_on : {S : Type 0} (Step : S → S → Type 0) (olds news : List S) → AreOnBy Step (length olds) olds news → AllZip Step olds news
all_on Step [] news on = rw on tt
all_on Step (old ∷ olds) [] on = elim on [ ]
all_on Step (old ∷ olds) (new ∷ news) on = (on.0, all_on Step olds news on.1)

-- what a vector holds after a step of each of its values, made in its slice
pub all_written : {S : Type 0} (Step : S → S → Type 0) (len n : ℕ) (old given new : List S) → given ≡ old → len ≡ length old → length new ≡ length given → length given ≤ n → n ≤ length given → AreOnBy Step n given new → AllZip Step old (take len (new ++ drop (length new) old))
all_written Step len n old given new same long size high low on =
    let length_same : length given ≡ length old = ap length same in
    let end : length given ≡ n = omega (arith, high, low) in
    let none : drop (length new) old ≡ [] = drop_all (length new) old (omega (arith, size, length_same)) in
    let back : take len (new ++ drop (length new) old) ≡ new = ap (λ more. take len (new ++ more)) none ∙ ap (take len) (append-nil new) ∙ take_all len new (omega (arith, size, length_same, long)) in
    rw back (rw (sym same) (all_on Step given new (rw end on)))
