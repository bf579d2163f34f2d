-- The canonical fields of each kind of term read as the same and are no longer.
use Rattle.std.proofs.Common.{◌≡◌, ℕ, ℤ, suc, ◌+◌, ◌<◌, ◌≤◌, Bool, true, false, cond, ◌&&◌, ◌||◌, List, [], ◌∷◌, ◌++◌, Some, map, length, refl, ap, ◌∙◌, arith, subst, append-nil, append_assoc}
use Rattle.std.specs.Prelude.{not, option_map}
use Rattle.std.specs.Fmt.{decimal}
use Rattle.std.specs.List.{list_all}
use Rattle.std.proofs.lemmas.Bool.{ne_eqb, eqb-true, and_parts}
use Rattle.std.specs.Char.{is_ascii_alphabetic}
use Rattle.aprs_base.specs.Bytes.{is_call}
use Rattle.filter_lang.specs.declared.terms.What.{What}
use Rattle.filter_lang.specs.declared.terms.What.TheVariants as what
use Rattle.filter_lang.specs.Parts.{is_empty}
use Rattle.filter_lang.specs.Numbers.{degrees_of, degrees_text, kilometres_of}
use Rattle.filter_lang.specs.Names.{spelled}
use Rattle.filter_lang.specs.Sets.{mask_of, letters_of, set_of}
use Rattle.filter_lang.specs.Grammar.{other_of, range_of, area_of, near_of, friend_of, mine_of, class_near, class_of, symbol_of, symbol_if, symbols_of, construct_of, construct_if, is_gates, call_of}
use Rattle.filter_lang.specs.Canonical.{what_fields, kind_letter, set_text}
use Rattle.aprs_base.proofs.StepLemmas.{bind_some, cond_not_some, cond_some, map_some}
use Rattle.filter_lang.proofs.Tools.{Neat}
use Rattle.filter_lang.proofs.SlashLaws.{slashed, spread, is_neat, ends_some}
use Rattle.filter_lang.proofs.NumberLaws.{degrees_again, kilometres_again, KeepsKilometres}
use Rattle.filter_lang.proofs.SetLaws.{symbols_again, KeepsSymbols, letters_again}
use Rattle.filter_lang.proofs.CallLaws.{call_neat}
use Rattle.filter_lang.proofs.MaskLaws.{mask_again}

-- what a term asks has canonical fields, which read as it
pub record Keeps (letter : ℕ) (fields : List (List ℕ)) (w : What) : Type 0 where
  pub canon : List (List ℕ)
  pub text : what_fields w ≡ slashed canon
  pub kind : kind_letter w ≡ letter
  pub again : other_of letter canon ≡ Some w
  pub shorter : spread canon ≤ spread fields
  pub clean : list_all is_neat canon ≡ true
  pub ends : ends_some canon ≡ true

pub some_not_empty : (f : List ℕ) → 0 < length f → not (is_empty f) ≡ true
some_not_empty f h = rw (ne_eqb (length f) 0 (λ e. omega arith)) refl

-- canonical fields, each for one that was read
abbrev pub AllNeat : (fields canon : List (List ℕ)) → Type 0
AllNeat [] [] = Unit {0}
AllNeat (f ∷ fields) (c ∷ canon) = Neat f c × AllNeat fields canon
AllNeat _ _ = ⊥

pub neat_shorter : (fields canon : List (List ℕ)) → AllNeat fields canon → spread canon ≤ spread fields
neat_shorter [] [] h = omega arith
neat_shorter (f ∷ fields) (c ∷ canon) h = let first = h.0.shorter in let rest = neat_shorter fields canon h.1 in omega arith
neat_shorter _ _ h = absurd h

pub neat_clean : (fields canon : List (List ℕ)) → AllNeat fields canon → list_all is_neat canon ≡ true
neat_clean [] [] h = refl
neat_clean (f ∷ fields) (c ∷ canon) h = rw (h.0.clean, neat_clean fields canon h.1) refl
neat_clean _ _ h = absurd h

pub kept : (letter : ℕ) (fields canon : List (List ℕ)) (w : What) → what_fields w ≡ slashed canon → kind_letter w ≡ letter → other_of letter canon ≡ Some w →
    AllNeat fields canon → ends_some canon ≡ true → Keeps letter fields w
kept letter fields canon w text kind again neat ends = record {
  canon = canon;
  text = text;
  kind = kind;
  again = again;
  shorter = neat_shorter fields canon neat;
  clean = neat_clean fields canon neat;
  ends = ends;
}

pub range_by : (a b c : List ℕ) (lat lon : ℤ) (km : ℕ) → degrees_of 90000000 a ≡ Some lat → degrees_of 180000000 b ≡ Some lon → kilometres_of c ≡ Some km → Keeps 114 (a ∷ b ∷ c ∷ []) (what.Range lat lon km)
unfolding other_of range_of
range_by a b c lat lon km p q r =
    let first = degrees_again 90000000 a lat p in
    let second = degrees_again 180000000 b lon q in
    let third = kilometres_again c km r in
    kept 114 _ (degrees_text lat ∷ degrees_text lon ∷ decimal km ∷ []) _ (simp (append_assoc, append-nil)) refl (rw (first.again, second.again, third.again) refl)
    (first.neat, (second.neat, (third.neat, tt))) (some_not_empty (decimal km) third.some)

pub range_keeps : (fields : List (List ℕ)) (w : What) → range_of fields ≡ Some w → Keeps 114 fields w
unfolding range_of
range_keeps (a ∷ b ∷ c ∷ []) w h =
    let lat = bind_some (degrees_of 90000000 a) _ w h in
    let lon = bind_some (degrees_of 180000000 b) _ w lat.2 in
    let km = bind_some (kilometres_of c) _ w lon.2 in
    let e : what.Range lat.0 lon.0 km.0 ≡ w = cc in
    subst (Keeps 114 (a ∷ b ∷ c ∷ [])) e (range_by a b c lat.0 lon.0 km.0 lat.1 lon.1 km.1)
range_keeps _ w h = cc

pub area_by : (a b c d : List ℕ) (north west south east : ℤ) → degrees_of 90000000 a ≡ Some north → degrees_of 180000000 b ≡ Some west → degrees_of 90000000 c ≡ Some south → degrees_of 180000000 d ≡ Some east → Keeps 97 (a ∷ b ∷ c ∷ d ∷ []) (what.Area north west south east)
unfolding other_of area_of
area_by a b c d north west south east p q r s =
    let first = degrees_again 90000000 a north p in
    let second = degrees_again 180000000 b west q in
    let third = degrees_again 90000000 c south r in
    let fourth = degrees_again 180000000 d east s in
    kept 97 _ (degrees_text north ∷ degrees_text west ∷ degrees_text south ∷ degrees_text east ∷ []) _ (simp (append_assoc, append-nil)) refl
    (rw (first.again, second.again, third.again, fourth.again) refl)
    (first.neat, (second.neat, (third.neat, (fourth.neat, tt)))) (some_not_empty (degrees_text east) fourth.some)

pub area_keeps : (fields : List (List ℕ)) (w : What) → area_of fields ≡ Some w → Keeps 97 fields w
unfolding area_of
area_keeps (a ∷ b ∷ c ∷ d ∷ []) w h =
    let north = bind_some (degrees_of 90000000 a) _ w h in
    let west = bind_some (degrees_of 180000000 b) _ w north.2 in
    let south = bind_some (degrees_of 90000000 c) _ w west.2 in
    let east = bind_some (degrees_of 180000000 d) _ w south.2 in
    let e : what.Area north.0 west.0 south.0 east.0 ≡ w = cc in
    subst (Keeps 97 (a ∷ b ∷ c ∷ d ∷ [])) e (area_by a b c d north.0 west.0 south.0 east.0 north.1 west.1 south.1 east.1)
area_keeps _ w h = cc

-- a call and kilometres
pub record Near (fields : List (List ℕ)) (call : List ℕ) (km : ℕ) : Type 0 where
  pub call_good : is_call call ≡ true
  pub text : List ℕ
  pub fields_are : fields ≡ call ∷ text ∷ []
  pub km_read : kilometres_of text ≡ Some km

pub near_is : (fields : List (List ℕ)) (near : List ℕ × ℕ) → near_of fields ≡ Some near → Near fields near.0 near.1
unfolding near_of
near_is (name ∷ text ∷ []) near h =
    let call = bind_some (call_of name) _ near h in
    let km = bind_some (kilometres_of text) _ near call.2 in
    let test = cond_some (is_call name) (Some name) call.0 call.1 in
    let same : name ≡ call.0 = cc in
    let e : (let pair : List ℕ × ℕ = (call.0, km.0) in pair ≡ near) = cc in
    subst (λ (x : List ℕ × ℕ). Near (name ∷ text ∷ []) x.0 x.1) e (record {
      call_good = rw (← same) test.0;
      text = text;
      fields_are = ap (λ (c : List ℕ). c ∷ text ∷ []) same;
      km_read = km.1;
    })
near_is _ near h = cc

-- a call that is kept, and its kilometres
pub near_neat : (call text : List ℕ) (km : ℕ) → is_call call ≡ true → KeepsKilometres text km → AllNeat (call ∷ text ∷ []) (call ∷ decimal km ∷ [])
near_neat call text km p third = (record { shorter = omega arith; clean = call_neat call p }, (third.neat, tt))

pub near_again : (call : List ℕ) (km : ℕ) → is_call call ≡ true → kilometres_of (decimal km) ≡ Some km → near_of (call ∷ decimal km ∷ []) ≡ Some (call, km)
unfolding near_of
near_again call km p q = rw (p, q) refl

pub friend_by : (call text : List ℕ) (km : ℕ) → is_call call ≡ true → kilometres_of text ≡ Some km → Keeps 102 (call ∷ text ∷ []) (what.Friend call km)
unfolding other_of friend_of
friend_by call text km p q =
    let third = kilometres_again text km q in
    kept 102 _ (call ∷ decimal km ∷ []) _ (simp append-nil) refl (rw (near_again call km p third.again) refl)
    (near_neat call text km p third) (some_not_empty (decimal km) third.some)

pub friend_keeps : (fields : List (List ℕ)) (w : What) → friend_of fields ≡ Some w → Keeps 102 fields w
unfolding friend_of
friend_keeps fields w h =
    let found = map_some (λ (near : List ℕ × ℕ). what.Friend near.0 near.1) (near_of fields) w h in
    let near = near_is fields found.0 found.1 in
    rw near.fields_are (subst (Keeps 102 _) found.2 (friend_by found.0.0 near.text found.0.1 near.call_good near.km_read))

pub mine_by : (text : List ℕ) (km : ℕ) → kilometres_of text ≡ Some km → Keeps 109 (text ∷ []) (what.Mine km)
unfolding other_of mine_of
mine_by text km q =
    let third = kilometres_again text km q in
    kept 109 _ (decimal km ∷ []) _ (simp append-nil) refl (rw third.again refl) (third.neat, tt) (some_not_empty (decimal km) third.some)

pub mine_keeps : (fields : List (List ℕ)) (w : What) → mine_of fields ≡ Some w → Keeps 109 fields w
unfolding mine_of
mine_keeps (text ∷ []) w h =
    let km = bind_some (kilometres_of text) _ w h in
    let e : what.Mine km.0 ≡ w = cc in
    subst (Keeps 109 (text ∷ [])) e (mine_by text km.0 km.1)
mine_keeps _ w h = cc

pub no_fields : {A : Type 0} (fs : List A) → is_empty fs ≡ true → fs ≡ []
no_fields [] e = refl
no_fields (f ∷ fs) e = absurd (let none = eqb-true (suc (length fs)) 0 e in omega arith)

-- classes
pub class_by : (letters : List ℕ) (mask : ℕ) → mask_of letters ≡ Some mask → Keeps 116 (letters ∷ []) (what.Class mask)
unfolding other_of class_of
class_by letters mask p =
    let first = mask_again letters mask p in
    kept 116 _ (letters_of mask ∷ []) _ (simp append-nil) refl (rw first.again refl) (first.neat, tt) (some_not_empty (letters_of mask) first.some)

pub class_near_by : (letters call text : List ℕ) (mask km : ℕ) → mask_of letters ≡ Some mask → is_call call ≡ true → kilometres_of text ≡ Some km → Keeps 116 (letters ∷ call ∷ text ∷ []) (what.ClassNear mask call km)
unfolding other_of class_of
class_near_by letters call text mask km p q r =
    let first = mask_again letters mask p in
    let third = kilometres_again text km r in
    kept 116 _ (letters_of mask ∷ call ∷ decimal km ∷ []) _ (simp append-nil) refl (rw (first.again, near_again call km q third.again) refl)
    (first.neat, near_neat call text km q third) (some_not_empty (decimal km) third.some)

-- more fields than the letters
class_more : (mask : ℕ) (f : List ℕ) (fields : List (List ℕ)) (w : What) → class_near mask (f ∷ fields) ≡ Some w →
    option_map (λ near. what.ClassNear mask near.0 near.1) (near_of (f ∷ fields)) ≡ Some w
class_more mask f fields w h = let more : is_empty (f ∷ fields) ≡ false = ne_eqb (suc (length fields)) 0 (λ e. omega arith) in rw more at h

pub class_keeps : (fields : List (List ℕ)) (w : What) → class_of fields ≡ Some w → Keeps 116 fields w
unfolding class_of
class_keeps [] w h = cc
class_keeps (letters ∷ []) w h =
    let mask = bind_some (mask_of letters) _ w h in
    let same : what.Class mask.0 ≡ w = cc in
    subst (Keeps 116 (letters ∷ [])) same (class_by letters mask.0 mask.1)
class_keeps (letters ∷ f ∷ fields) w h =
    let mask = bind_some (mask_of letters) _ w h in
    let found = map_some (λ (near : List ℕ × ℕ). what.ClassNear mask.0 near.0 near.1) (near_of (f ∷ fields)) w (class_more mask.0 f fields w mask.2) in
    let near = near_is (f ∷ fields) found.0 found.1 in
    rw near.fields_are (subst (Keeps 116 _) found.2 (class_near_by letters found.0.0 near.text mask.0 found.0.1 mask.1 near.call_good near.km_read))

-- constructs
pub construct_by : (letters : List ℕ) (gates : Bool) → list_all is_ascii_alphabetic letters ≡ true → (gates || not (is_empty letters)) ≡ true → construct_if (map spelled (set_of letters)) gates ≡ Some (what.Construct (set_of letters) gates)
unfolding construct_if
construct_by letters gates all some =
    let keeps = letters_again letters all in
    rw (keeps.letters, keeps.same, some, keeps.again) refl

pub construct_is : (letters : List ℕ) (gates : Bool) (w : What) → construct_if letters gates ≡ Some w → (list_all is_ascii_alphabetic letters ≡ true) × (((gates || not (is_empty letters)) ≡ true) × (what.Construct (set_of letters) gates ≡ w))
unfolding construct_if
construct_is letters gates w h =
    let test = cond_some (list_all is_ascii_alphabetic letters && (gates || not (is_empty letters))) (Some (what.Construct (set_of letters) gates)) w h in
    let parts = and_parts (list_all is_ascii_alphabetic letters) (gates || not (is_empty letters)) test.0 in
    (parts.0, (parts.1, cc))

pub construct_keeps : (fields : List (List ℕ)) (w : What) → construct_of fields ≡ Some w → Keeps 113 fields w
unfolding other_of construct_of
construct_keeps [] w h = cc
construct_keeps (letters ∷ []) w h =
    let is = construct_is letters false w h in
    let keeps = letters_again letters is.0 in
    subst (Keeps 113 (letters ∷ [])) is.1.1
    (kept 113 _ (map spelled (set_of letters) ∷ []) _ (simp append-nil) refl (construct_by letters false is.0 is.1.0) (keeps.neat, tt) (rw keeps.same is.1.0))
construct_keeps (letters ∷ gates ∷ []) w h =
    let test = cond_some (is_gates gates) (construct_if letters true) w h in
    let is = construct_is letters true w test.1 in
    let keeps = letters_again letters is.0 in
    rw (gates_is gates test.0) (subst (Keeps 113 (letters ∷ (73 ∷ []) ∷ [])) is.1.1
    (kept 113 _ (map spelled (set_of letters) ∷ (73 ∷ []) ∷ []) _ (simp append-nil) refl (construct_by letters true is.0 is.1.0)
    (keeps.neat, (record { shorter = omega arith; clean = refl }, tt)) refl))
  where
    gates_is : (g : List ℕ) → is_gates g ≡ true → g ≡ 73 ∷ []
    gates_is [] e = cc
    gates_is (b ∷ []) e = ap (λ (x : ℕ). x ∷ []) (eqb-true b 73 e)
    gates_is (b ∷ c ∷ more) e = cc
construct_keeps (letters ∷ gates ∷ field ∷ more) w h = cc

-- symbols
pub record Symbols (pri alt over p a o : List ℕ) : Type 0 where
  pub first : KeepsSymbols pri p
  pub second : KeepsSymbols alt a
  pub third : KeepsSymbols over o
  pub some : (is_empty pri && is_empty alt && is_empty over) ≡ false

abbrev pub over_canon : List ℕ → Bool → List (List ℕ)
over_canon o none = cond none [] (map spelled o ∷ [])

abbrev pub symbol_canon : List ℕ → List ℕ → List ℕ → Bool → Bool → List (List ℕ)
symbol_canon p a o empty none = map spelled p ∷ cond (empty && none) [] (map spelled a ∷ over_canon o none)

pub symbol_if-is : (pri alt over p a o : List ℕ) → symbols_of pri ≡ Some p → symbols_of alt ≡ Some a → symbols_of over ≡ Some o → (is_empty pri && is_empty alt && is_empty over) ≡ false → symbol_if pri alt over ≡ Some (what.Symbol p a o)
unfolding symbol_if
symbol_if-is pri alt over p a o x y z some = rw (some, x, y, z) refl

pub symbol_text : (p a o : List ℕ) (empty none : Bool) → set_text p ++ cond (empty && none) [] (set_text a ++ cond none [] (set_text o)) ≡ slashed (symbol_canon p a o empty none)
symbol_text p a o true true = refl
symbol_text p a o true false = simp append-nil
symbol_text p a o false true = simp append-nil
symbol_text p a o false false = simp append-nil

-- what is empty reads as the empty set
pub empty_symbols : (field set : List ℕ) → KeepsSymbols field set → is_empty field ≡ true → symbols_of [] ≡ Some set
empty_symbols field set keeps none = rw (no_fields (map spelled set) (keeps.same ∙ none)) at keeps.again

pub symbol_again : (pri alt over p a o : List ℕ) (empty none : Bool) → Symbols pri alt over p a o → is_empty alt ≡ empty → is_empty over ≡ none → symbol_of (symbol_canon p a o empty none) ≡ Some (what.Symbol p a o)
unfolding symbol_of
symbol_again pri alt over p a o true true s e e' =
    symbol_if-is (map spelled p) [] [] p a o s.first.again (empty_symbols alt a s.second e) (empty_symbols over o s.third e') (rw s.first.same (rw (e, e') at s.some))
symbol_again pri alt over p a o false true s e e' =
    symbol_if-is (map spelled p) (map spelled a) [] p a o s.first.again s.second.again (empty_symbols over o s.third e') (rw (s.first.same, s.second.same) (rw e' at s.some))
symbol_again pri alt over p a o true false s e e' =
    symbol_if-is (map spelled p) (map spelled a) (map spelled o) p a o s.first.again s.second.again s.third.again (rw (s.first.same, s.second.same, s.third.same) s.some)
symbol_again pri alt over p a o false false s e e' =
    symbol_if-is (map spelled p) (map spelled a) (map spelled o) p a o s.first.again s.second.again s.third.again (rw (s.first.same, s.second.same, s.third.same) s.some)

pub symbol_clean : (pri alt over p a o : List ℕ) (empty none : Bool) → Symbols pri alt over p a o → list_all is_neat (symbol_canon p a o empty none) ≡ true
symbol_clean pri alt over p a o true true s = rw s.first.neat.clean refl
symbol_clean pri alt over p a o true false s = rw (s.first.neat.clean, s.second.neat.clean, s.third.neat.clean) refl
symbol_clean pri alt over p a o false true s = rw (s.first.neat.clean, s.second.neat.clean) refl
symbol_clean pri alt over p a o false false s = rw (s.first.neat.clean, s.second.neat.clean, s.third.neat.clean) refl

-- the last field has bytes
pub symbol_ends : (pri alt over p a o : List ℕ) (empty none : Bool) → Symbols pri alt over p a o → is_empty alt ≡ empty → is_empty over ≡ none → ends_some (symbol_canon p a o empty none) ≡ true
symbol_ends pri alt over p a o true true s e e' = rw s.first.same (not_of (is_empty pri) (rw (e, e') at s.some))
  where
    not_of : (b : Bool) → (b && true && true) ≡ false → not b ≡ true
    not_of true h = cc
    not_of false h = refl
symbol_ends pri alt over p a o true false s e e' = rw (s.third.same, e') refl
symbol_ends pri alt over p a o false true s e e' = rw (s.second.same, e) refl
symbol_ends pri alt over p a o false false s e e' = rw (s.third.same, e') refl

pub record SymbolRoom (pri alt over : List ℕ) (fields : List (List ℕ)) : Type 0 where
  pub one : 1 + length pri ≤ spread fields
  pub two : is_empty alt ≡ false → 2 + length pri + length alt ≤ spread fields
  pub three : is_empty over ≡ false → 3 + length pri + length alt + length over ≤ spread fields

pub symbol_shorter : (pri alt over p a o : List ℕ) (fields : List (List ℕ)) (empty none : Bool) → Symbols pri alt over p a o → SymbolRoom pri alt over fields → is_empty alt ≡ empty → is_empty over ≡ none → spread (symbol_canon p a o empty none) ≤ spread fields
symbol_shorter pri alt over p a o fields true true s room e e' = let x = s.first.neat.shorter in let most = room.one in omega arith
symbol_shorter pri alt over p a o fields true false s room e e' = let x = s.first.neat.shorter in let y = s.second.neat.shorter in let z = s.third.neat.shorter in let most = room.three e' in omega arith
symbol_shorter pri alt over p a o fields false true s room e e' = let x = s.first.neat.shorter in let y = s.second.neat.shorter in let most = room.two e in omega arith
symbol_shorter pri alt over p a o fields false false s room e e' = let x = s.first.neat.shorter in let y = s.second.neat.shorter in let z = s.third.neat.shorter in let most = room.three e' in omega arith

pub symbol_by : (pri alt over p a o : List ℕ) (fields : List (List ℕ)) → Symbols pri alt over p a o → SymbolRoom pri alt over fields → Keeps 115 fields (what.Symbol p a o)
unfolding other_of
symbol_by pri alt over p a o fields s room = record {
  canon = symbol_canon p a o (is_empty alt) (is_empty over);
  text = rw (s.second.empty, s.third.empty) (symbol_text p a o (is_empty alt) (is_empty over));
  kind = refl;
  again = symbol_again pri alt over p a o (is_empty alt) (is_empty over) s refl refl;
  shorter = symbol_shorter pri alt over p a o fields (is_empty alt) (is_empty over) s room refl refl;
  clean = symbol_clean pri alt over p a o (is_empty alt) (is_empty over) s;
  ends = symbol_ends pri alt over p a o (is_empty alt) (is_empty over) s refl refl;
}

pub symbol_if-keeps : (pri alt over : List ℕ) (fields : List (List ℕ)) (w : What) → symbol_if pri alt over ≡ Some w → SymbolRoom pri alt over fields → Keeps 115 fields w
unfolding symbol_if
symbol_if-keeps pri alt over fields w h room =
    let test = cond_not_some (is_empty pri && is_empty alt && is_empty over) _ w h in
    let p = bind_some (symbols_of pri) _ w test.1 in
    let a = bind_some (symbols_of alt) _ w p.2 in
    let o = bind_some (symbols_of over) _ w a.2 in
    let e : what.Symbol p.0 a.0 o.0 ≡ w = cc in
    subst (λ (u : What). Keeps 115 fields u) e (symbol_by pri alt over p.0 a.0 o.0 fields (record { first = symbols_again pri p.0 p.1; second = symbols_again alt a.0 a.1; third = symbols_again over o.0 o.1; some = test.0 }) room)

pub symbol_keeps : (fields : List (List ℕ)) (w : What) → symbol_of fields ≡ Some w → Keeps 115 fields w
unfolding symbol_of
symbol_keeps [] w h = cc
symbol_keeps (pri ∷ []) w h = symbol_if-keeps pri [] [] (pri ∷ []) w h (record { one = omega arith; two = λ e. cc; three = λ e. cc })
symbol_keeps (pri ∷ alt ∷ []) w h = symbol_if-keeps pri alt [] (pri ∷ alt ∷ []) w h (record { one = omega arith; two = λ e. omega arith; three = λ e. cc })
symbol_keeps (pri ∷ alt ∷ over ∷ []) w h = symbol_if-keeps pri alt over (pri ∷ alt ∷ over ∷ []) w h (record { one = omega arith; two = λ e. omega arith; three = λ e. omega arith })
symbol_keeps (pri ∷ alt ∷ over ∷ field ∷ more) w h = cc
