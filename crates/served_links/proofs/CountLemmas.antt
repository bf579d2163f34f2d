-- The table of logins: what a change of it leaves of each count, and how many links have a login after each step.
use Rattle.std.proofs.Common.{◌≡◌, ℕ, zero, suc, ◌+◌, ◌-◌, ◌≤◌, ◌<◌, ◌||◌, Bool, true, false, not, List, [], ◌∷◌, ◌++◌, length, map, filter, drop, get_or, slice_set, refl, sym, ap, ◌∙◌, subst, arith, cond, ⊎_elim, Option, Some, None, nat_lt, unwrap_or}
use Rattle.std.proofs.Math.Seq.{map-set_same}
use Rattle.std.proofs.lemmas.Simd.{map-map}
use Rattle.std.specs.Cmp.Lexicographic.{same_text}
use Rattle.std.specs.List.{list_any}
use Rattle.std.specs.Map.{lookup}
use Rattle.std.proofs.lemmas.Bool.{cases_Bool, lt-ltb, ltb-true, true≢false}
use Rattle.std.proofs.lemmas.List.{drop_more}
use Rattle.std.proofs.lemmas.Cmp.{nat_list_eq_equiv}
use Rattle.q_construct.specs.Rule.{among, same}
use Rattle.aprs_history.specs.Stands.{LinkSeen}
use Rattle.served_links.specs.Changes.{at_link}
use Rattle.served_links.specs.Counts.{CountsLogins, IsCounted, count_in, entry_for, has_login, having, leaves, one_among}
use Rattle.served_links.specs.Links.{clients_in, has_that, here, is_another, is_none_of, is_whole, logins_at, login_here, login_kept, named_of, other_here, when_left}
use Rattle.served_links.proofs.HereLemmas.{here_passing, kept_right, logins_here, named_all, named_at}
use Rattle.served_links.proofs.LoginLemmas.{any_of}

abbrev Table : Type 0
Table = List (List ℕ × ℕ)

-- ---- the number of an entry

counted_number : (n : ℕ) → unwrap_or (entry_for n) 0 ≡ n
counted_number zero = refl
counted_number (suc n) = refl

pub count_is : (call : List ℕ) (n : ℕ) (table : Table) → IsCounted call n table → count_in call table ≡ n
count_is call n table counted = ap (λ o. unwrap_or o 0) counted ∙ counted_number n

-- what an entry holds
pub count_there : (call : List ℕ) (n count : ℕ) (table : Table) → lookup (same call) table ≡ Some count → IsCounted call n table → count ≡ n
count_there call n count table there counted = sym (ap (λ o. unwrap_or o 0) there) ∙ count_is call n table counted

entry_more : (n count : ℕ) → count ≡ n → Some (count + 1) ≡ entry_for (n + 1)
entry_more n count is =
    let more : n + 1 ≡ suc n = omega arith in
    let last : count + 1 ≡ suc n = omega (arith, is) in
    ap (λ k. Some k) last ∙ sym (ap entry_for more)

entry_less : (n left : ℕ) → 1 ≤ n → left ≡ n → Some left ≡ entry_for n
entry_less zero left some is = absurd (omega (arith, some))
entry_less (suc n) left some is = ap (λ k. Some k) is

-- ---- a change of the table at one call

abbrev pub Writes : List ℕ → Option ℕ → Table → Table → Type 0
Writes call value old new = (q : List ℕ) → lookup (same q) new ≡ cond (same call q) value (lookup (same q) old)

one_here : (call other : List ℕ) → same call other ≡ true → one_among other (call ∷ []) ≡ 1
one_here call other is = ap (λ b. cond (b || false) 1 0) (nat_list_eq_equiv.symm other call ∙ is)

one_elsewhere : (call other : List ℕ) → same call other ≡ false → one_among other (call ∷ []) ≡ 0
one_elsewhere call other apart = ap (λ b. cond (b || false) 1 0) (nat_list_eq_equiv.symm other call ∙ apart)

pub raised : (call : List ℕ) (count : ℕ) (old new : Table) → count ≡ count_in call old → Writes call (Some (count + 1)) old new → (other : List ℕ) (n : ℕ) → IsCounted other n old → IsCounted other (n + one_among other (call ∷ [])) new
raised call count old new is writes other n counted = ⊎_elim
    (λ (here : same call other ≡ true).
    let there : call ≡ other = same_text call other (sym here) in
    let now : count ≡ n = is ∙ ap (λ text. count_in text old) there ∙ count_is other n old counted in
    writes other ∙ ap (λ b. cond b (Some (count + 1)) (lookup (same other) old)) here ∙ entry_more n count now ∙ sym (ap (λ k. entry_for (n + k)) (one_here call other here)))
    (λ (apart : same call other ≡ false).
    let none : n ≡ n + one_among other (call ∷ []) = let zero_is = one_elsewhere call other apart in omega (arith, zero_is) in
    writes other ∙ ap (λ b. cond b (Some (count + 1)) (lookup (same other) old)) apart ∙ counted ∙ ap entry_for none)
    (cases_Bool (same call other))

-- one less, where what is left is the entry of one less
pub lowered : (call : List ℕ) (left : Option ℕ) (old new : Table) → ((n : ℕ) → IsCounted call (n + 1) old → left ≡ entry_for n) → Writes call left old new
    → (other : List ℕ) (n : ℕ) → IsCounted other (n + one_among other (call ∷ [])) old → IsCounted other n new
lowered call left old new is writes other n counted = ⊎_elim
    (λ (here : same call other ≡ true).
    let there : other ≡ call = sym (same_text call other (sym here)) in
    let at : IsCounted other (n + 1) old = subst (λ k. IsCounted other (n + k) old) (one_here call other here) counted in
    writes other ∙ ap (λ b. cond b left (lookup (same other) old)) here ∙ is n (subst (λ text. IsCounted text (n + 1) old) there at))
    (λ (apart : same call other ≡ false).
    let none : n + one_among other (call ∷ []) ≡ n = let zero_is = one_elsewhere call other apart in omega (arith, zero_is) in
    writes other ∙ ap (λ b. cond b left (lookup (same other) old)) apart ∙ counted ∙ ap entry_for none)
    (cases_Bool (same call other))

-- the last one's entry goes
pub last_left : (call : List ℕ) (old : Table) → count_in call old < 2 → (n : ℕ) → IsCounted call (n + 1) old → None ≡ entry_for n
last_left call old few zero counted = refl
last_left call old few (suc n) counted = let many = count_is call (suc n + 1) old counted in absurd (omega (arith, few, many))

-- another's entry stays, with one less
pub some_left : (call : List ℕ) (count left : ℕ) (old : Table) → lookup (same call) old ≡ Some count → 2 ≤ count_in call old → left ≡ count - 1 → (n : ℕ) → IsCounted call (n + 1) old → Some left ≡ entry_for n
some_left call count left old there many is n counted =
    let number = count_there call (n + 1) count old there counted in
    let all = count_is call (n + 1) old counted in
    entry_less n left (omega (arith, many, all)) (omega (arith, number, is))

-- ---- how many pass a test

abbrev pub one : Bool → ℕ
one b = cond b 1 0

module _ {X : Type 0} (p : X → Bool) where
  pub passing_one : (x : X) (xs : List X) → length (filter p (x ∷ xs)) ≡ length (filter p xs) + cond (p x) 1 0
  passing_one x xs = by (p x)
    where
      by : (b : Bool) → length (cond b (x ∷ filter p xs) (filter p xs)) ≡ length (filter p xs) + cond b 1 0
      by true = omega arith
      by false = omega arith

  pub passing_push : (xs : List X) (x : X) → length (filter p (xs ++ x ∷ [])) ≡ length (filter p xs) + cond (p x) 1 0
  passing_push [] x = passing_one x []
  passing_push (y ∷ xs) x =
      let rest = passing_push xs x in
      let more = passing_one y (xs ++ x ∷ []) in
      let less = passing_one y xs in
      omega (arith, rest, more, less)

  -- one in the place of another
  pub passing_set : (xs : List X) (place : ℕ) (old new : X) → place < length xs → old ≡ get_or xs place old → length (filter p (slice_set xs place new)) + cond (p old) 1 0 ≡ length (filter p xs) + cond (p new) 1 0
  passing_set [] place old new within at = absurd (omega arith)
  passing_set (x ∷ xs) zero old new within at =
      let is : one (p old) ≡ one (p x) = ap (λ y. one (p y)) at in
      let more = passing_one new xs in
      let less = passing_one x xs in
      omega (arith, is, more, less)
  passing_set (x ∷ xs) (suc place) old new within at =
      let rest = passing_set xs place old new (omega arith) at in
      let more = passing_one x (slice_set xs place new) in
      let less = passing_one x xs in
      omega (arith, rest, more, less)

  pub passing_few : (xs : List X) → length (filter p xs) ≤ length xs
  passing_few [] = omega arith
  passing_few (x ∷ xs) =
      let rest = passing_few xs in
      let more = passing_one x xs in
      let one = at_most (p x) in
      omega (arith, rest, more, one)
    where
      at_most : (b : Bool) → cond b 1 0 ≤ 1
      at_most true = omega arith
      at_most false = omega arith

  -- those that another test keeps, and those that it doesn't
  pub passing_parted : (q : X → Bool) (xs : List X) → length (filter p (filter q xs)) + length (filter p (filter (λ x. not (q x)) xs)) ≡ length (filter p xs)
  passing_parted q [] = refl
  passing_parted q (x ∷ xs) =
      let rest = passing_parted q xs in
      let all = passing_one x xs in
      ⊎_elim
      (λ (keeps : q x ≡ true). let more = passing_one x (filter q xs) in rw keeps (omega (arith, rest, all, more)))
      (λ (drops : q x ≡ false). let more = passing_one x (filter (λ y. not (q y)) xs) in rw drops (omega (arith, rest, all, more)))
      (cases_Bool (q x))

  pub any_passing : (xs : List X) → nat_lt 0 (length (filter p xs)) ≡ list_any p xs
  any_passing [] = refl
  any_passing (x ∷ xs) =
      ⊎_elim
      (λ (is : p x ≡ true). rw is (lt-ltb 0 (length (x ∷ filter p xs)) (omega arith)))
      (λ (isnt : p x ≡ false). rw isnt (any_passing xs))
      (cases_Bool (p x))

-- ---- links by their logins

having_by : (call : List ℕ) (links : List LinkSeen) → length (filter (among call) (map login_here links)) ≡ having call links
having_by call [] = refl
having_by call (x ∷ links) =
    let rest = having_by call links in
    let more = passing_one (among call) (login_here x) (map login_here links) in
    let less = passing_one (has_login call) x links in
    omega (arith, rest, more, less)

-- links with the same logins
pub having_same : (call : List ℕ) (new links : List LinkSeen) → map login_here new ≡ map login_here links → having call new ≡ having call links
having_same call new links same = sym (having_by call new) ∙ ap (λ logins. length (filter (among call) logins)) same ∙ having_by call links

pub counted_same : (table : Table) (new links : List LinkSeen) → map login_here new ≡ map login_here links → CountsLogins table links → CountsLogins table new
counted_same table new links same right call = right call ∙ ap entry_for (sym (having_same call new links same))

-- what is kept beside the links stays right where a step keeps the numbers, the openings and the logins
pub still_right : (new links : List LinkSeen) → map named_of new ≡ map named_of links → map login_here new ≡ map login_here links → (clients : ℕ) (parted : Bool) (table : Table)
    → (clients ≡ clients_in links) × (parted ≡ false → is_whole links ≡ true) × CountsLogins table links → (clients ≡ clients_in new) × (parted ≡ false → is_whole new ≡ true) × CountsLogins table new
still_right new links named logins clients parted table right =
    let two = kept_right new links named clients parted (right.0, right.1) in (two.0, two.1, counted_same table new links logins right.2)

-- a step at one number that keeps them
logins_all : (step : LinkSeen → LinkSeen) → ((link : LinkSeen) → login_here (step link) ≡ login_here link) → (links : List LinkSeen) → map login_here (map step links) ≡ map login_here links
logins_all step same links = map-map login_here step links ∙ (λ k. map (λ link. same link k) links)

logins_at_one : (number : ℕ) (step : LinkSeen → LinkSeen) → ((link : LinkSeen) → login_here (step link) ≡ login_here link) → (link : LinkSeen) → login_here (at_link number step link) ≡ login_here link
logins_at_one number step same link = elim (has_that number link) as (λ b. login_here (cond b (step link) link) ≡ login_here link) [ true ↦ same link | false ↦ refl ]

pub right_at : (number : ℕ) (step : LinkSeen → LinkSeen) → ((link : LinkSeen) → named_of (step link) ≡ named_of link) → ((link : LinkSeen) → login_here (step link) ≡ login_here link)
    → (links new : List LinkSeen) → new ≡ map (at_link number step) links → (clients : ℕ) (parted : Bool) (table : Table)
    → (clients ≡ clients_in links) × (parted ≡ false → is_whole links ≡ true) × CountsLogins table links → (clients ≡ clients_in new) × (parted ≡ false → is_whole new ≡ true) × CountsLogins table new
right_at number step named logins links new is =
    still_right new links (ap (map named_of) is ∙ named_all (at_link number step) (named_at number step named) links)
    (ap (map login_here) is ∙ logins_all (at_link number step) (logins_at_one number step logins) links)

-- one that is put where another stood
pub logins_set : (links : List LinkSeen) (place : ℕ) (new old : LinkSeen) → old ≡ get_or links place old → login_here new ≡ login_here old → map login_here (slice_set links place new) ≡ map login_here links
logins_set links place new old at same = map-set_same login_here links place new old (same ∙ ap login_here at)

-- those that left have no login
pub having_here : (call : List ℕ) (links : List LinkSeen) → having call (here links) ≡ having call links
having_here call links = ap length (here_passing (has_login call) (λ link left. ap (λ b. among call (cond b (login_kept link) [])) left) links)

-- no more have a login than there are links
pub count_few : (table : Table) (links : List LinkSeen) → CountsLogins table links → (call : List ℕ) (n : ℕ) → lookup (same call) table ≡ Some n → n ≤ length links
count_few table links right call n there =
    let is = count_there call (having call links) n table there (right call) in
    let few = passing_few (has_login call) links in
    omega (arith, is, few)

-- what stands at a place
pub one_there : (links : List LinkSeen) (place : ℕ) (a b : LinkSeen) → place < length links → a ≡ get_or links place a → b ≡ get_or links place b → a ≡ b
one_there [] place a b within at bt = absurd (omega arith)
one_there (x ∷ links) zero a b within at bt = at ∙ sym bt
one_there (x ∷ links) (suc place) a b within at bt = one_there links place a b (omega arith) at bt

-- ---- the table after each step

pub counted_logged : (old more less : Table) (links : List LinkSeen) (place : ℕ) (before after : LinkSeen) → place < length links → before ≡ get_or links place before → CountsLogins old links
    → ((other : List ℕ) (n : ℕ) → IsCounted other n old → IsCounted other (n + one_among other (login_here after)) more)
    → ((other : List ℕ) (n : ℕ) → IsCounted other (n + one_among other (login_here before)) more → IsCounted other n less)
    → CountsLogins less (slice_set links place after)
counted_logged old more less links place before after within at right raises lowers call =
    lowers call (having call (slice_set links place after))
    (subst (λ n. IsCounted call n more) (sym (passing_set (has_login call) links place before after within at)) (raises call (having call links) (right call)))

pub counted_left : (old less : Table) (links : List LinkSeen) (place : ℕ) (before : LinkSeen) → place < length links → before ≡ get_or links place before → CountsLogins old links
    → ((other : List ℕ) (n : ℕ) → IsCounted other (n + one_among other (login_here before)) old → IsCounted other n less)
    → CountsLogins less (slice_set links place (when_left before))
counted_left old less links place before within at right lowers call =
    let now = passing_set (has_login call) links place before (when_left before) within at in
    let all : having call links ≡ having call (slice_set links place (when_left before)) + one_among call (login_here before) = omega (arith, now) in
    lowers call (having call (slice_set links place (when_left before))) (subst (λ n. IsCounted call n old) all (right call))

pub counted_dropped : (old less : Table) (links : List LinkSeen) (numbers : List ℕ) → CountsLogins old links
    → ((other : List ℕ) (n : ℕ) → IsCounted other (n + having other (filter (leaves numbers) links)) old → IsCounted other n less)
    → CountsLogins less (filter (is_none_of numbers) links)
counted_dropped old less links numbers right lowers call =
    lowers call (having call (filter (is_none_of numbers) links)) (subst (λ n. IsCounted call n old) (sym (passing_parted (has_login call) (is_none_of numbers) links)) (right call))

pub counted_popped : (old less : Table) (links rest : List LinkSeen) (last : LinkSeen) → links ≡ rest ++ last ∷ [] → CountsLogins old links
    → ((other : List ℕ) (n : ℕ) → IsCounted other (n + one_among other (login_here last)) old → IsCounted other n less)
    → CountsLogins less rest
counted_popped old less links rest last is right lowers call =
    lowers call (having call rest) (subst (λ n. IsCounted call n old) (ap (having call) is ∙ passing_push (has_login call) rest last) (right call))

pub counted_all : (table : Table) (links rest : List LinkSeen) → links ≡ rest ++ [] → CountsLogins table links → CountsLogins table rest
counted_all table links rest is right = subst (CountsLogins table) (is ∙ nothing_more rest) right
  where
    nothing_more : (xs : List LinkSeen) → xs ++ [] ≡ xs
    nothing_more [] = refl
    nothing_more (x ∷ xs) = ap (λ ys. x ∷ ys) (nothing_more xs)

pub counted_here : (table : Table) (links : List LinkSeen) → CountsLogins table links → CountsLogins table (here links)
counted_here table links right call = right call ∙ ap entry_for (sym (having_here call links))

-- link by link
lowered_at : (numbers other : List ℕ) (x : LinkSeen) (links : List LinkSeen) → having other (filter (leaves numbers) (x ∷ links)) ≡ having other (filter (leaves numbers) links) + cond (leaves numbers x) (one_among other (login_here x)) 0
lowered_at numbers other x links = by (leaves numbers x)
  where
    rest : List LinkSeen
    rest = filter (leaves numbers) links

    by : (b : Bool) → having other (cond b (x ∷ rest) rest) ≡ having other rest + cond b (one_among other (login_here x)) 0
    by true = passing_one (has_login other) x rest
    by false = omega arith

abbrev pub Lowers : List ℕ → List LinkSeen → Table → List LinkSeen → Table → Type 0
Lowers numbers links old rest less = (other : List ℕ) (n : ℕ) → IsCounted other (n + having other (filter (leaves numbers) links)) old → IsCounted other (n + having other (filter (leaves numbers) rest)) less

module _ (numbers : List ℕ) (links : List LinkSeen) (i : ℕ) (x d : LinkSeen) (within : i < length links) (at : x ≡ get_or links i d) (old some less : Table) (before : Lowers numbers links old (drop i links) some) where
  next : (other : List ℕ) → having other (filter (leaves numbers) (drop i links)) ≡ having other (filter (leaves numbers) (drop (i + 1) links)) + cond (leaves numbers x) (one_among other (login_here x)) 0
  next other =
      ap (λ ls. having other (filter (leaves numbers) ls)) (drop_more links i d within)
      ∙ ap (λ y. having other (filter (leaves numbers) (y ∷ drop (i + 1) links))) (sym at)
      ∙ lowered_at numbers other x (drop (i + 1) links)

  pub lowers_one : leaves numbers x ≡ true → ((other : List ℕ) (n : ℕ) → IsCounted other (n + one_among other (login_here x)) some → IsCounted other n less) → Lowers numbers links old (drop (i + 1) links) less
  lowers_one is lowers other n counted =
      let all = next other in
      let one_is : cond (leaves numbers x) (one_among other (login_here x)) 0 ≡ one_among other (login_here x) = ap (λ b. cond b (one_among other (login_here x)) 0) is in
      let same : n + having other (filter (leaves numbers) (drop i links)) ≡ n + having other (filter (leaves numbers) (drop (i + 1) links)) + one_among other (login_here x) = omega (arith, all, one_is) in
      lowers other (n + having other (filter (leaves numbers) (drop (i + 1) links))) (subst (λ k. IsCounted other k some) same (before other n counted))

  pub lowers_none : leaves numbers x ≡ false → less ≡ some → Lowers numbers links old (drop (i + 1) links) less
  lowers_none is kept other n counted =
      let all = next other in
      let none : cond (leaves numbers x) (one_among other (login_here x)) 0 ≡ 0 = ap (λ b. cond b (one_among other (login_here x)) 0) is in
      let same : n + having other (filter (leaves numbers) (drop i links)) ≡ n + having other (filter (leaves numbers) (drop (i + 1) links)) = omega (arith, all, none) in
      subst (IsCounted other (n + having other (filter (leaves numbers) (drop (i + 1) links)))) (sym kept) (subst (λ k. IsCounted other k some) same (before other n counted))

-- one that comes has no login yet
pub counted_pushed : (table : Table) (links : List LinkSeen) (new : LinkSeen) → login_here new ≡ [] → CountsLogins table links → CountsLogins table (links ++ new ∷ [])
counted_pushed table links new none right call =
    let all = passing_push (has_login call) links new in
    let zero_is : one (has_login call new) ≡ 0 = ap (λ logins. one (among call logins)) none in
    let is : having call links ≡ having call (links ++ new ∷ []) = omega (arith, all, zero_is) in
    right call ∙ ap entry_for is

-- ---- what is asked of the table

pub any_having : (call : List ℕ) (links : List LinkSeen) → nat_lt 0 (having call links) ≡ among call (logins_at (here links))
any_having call links = any_passing (has_login call) links ∙ any_of call login_here links ∙ ap (among call) (logins_here links)

-- where another has it, one has
others_have : (number : ℕ) (call : List ℕ) (links : List LinkSeen) → list_any (λ link. among call (other_here number link)) links ≡ true → list_any (has_login call) links ≡ true
others_have number call [] other = absurd (true≢false (sym other))
others_have number call (x ∷ links) other =
    ⊎_elim
    (λ (is : has_login call x ≡ true). ap (λ b. b || list_any (has_login call) links) is)
    (λ (isnt : has_login call x ≡ false).
    let none : among call (other_here number x) ≡ false = by (is_another number x) isnt in
    ap (λ b. b || list_any (has_login call) links) isnt ∙ others_have number call links (sym (ap (λ b. b || list_any (λ link. among call (other_here number link)) links) none) ∙ other))
    (cases_Bool (has_login call x))
  where
    by : (b : Bool) → has_login call x ≡ false → among call (cond b (login_here x) []) ≡ false
    by true isnt = isnt
    by false isnt = refl

-- and where none has it, no other has
pub none_others : (number : ℕ) (call : List ℕ) (links : List LinkSeen) → having call links ≤ 0 → list_any (λ link. among call (other_here number link)) links ≡ false
none_others number call links none =
    ⊎_elim
    (λ (other : list_any (λ link. among call (other_here number link)) links ≡ true).
    let some = ltb-true 0 (having call links) (any_passing (has_login call) links ∙ others_have number call links other) in
    absurd (omega (arith, none, some)))
    (λ isnt. isnt)
    (cases_Bool (list_any (λ link. among call (other_here number link)) links))
